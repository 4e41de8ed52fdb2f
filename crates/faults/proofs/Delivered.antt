-- No accepted text is too large for the largest buffers: what the reader answers where they are lent is what the text is, once the work buffer is long enough.
use Rattle.std.specs.Prelude.{ℕ, ◌≡◌, List, leb}
use Rattle.std.proofs.Common.{ap, subst}
use Rattle.node.specs.Limits.{max_nodes}
use Rattle.node.specs.Result.{Result, ◌>>=◌, guard}
use Rattle.language.specs.Limits.{max_signals, work_bytes}
use Rattle.language.specs.Reading.{NumberedFormula, text_expansion, reading}
use Rattle.claim.proofs.DeliveredLaws.{all-delivered}
use Rattle.claim.proofs.RefusalNumbers.{UpTo, reading-numbers}

-- 17, then what the text is
abbrev pub accepting : List ℕ → ℕ → Result NumberedFormula
accepting text work = guard (leb work_bytes work) 17 0 (text_expansion text)

pub reading-accepting : (text : List ℕ) (work : ℕ) → reading text work max_nodes max_signals ≡ accepting text work
unfolding reading
reading-accepting text work = ap (guard (leb work_bytes work) 17 0) (all-delivered text)

pub accepting-numbers : (text : List ℕ) (work : ℕ) → UpTo 18 (accepting text work)
accepting-numbers text work = subst (UpTo 18) (reading-accepting text work) (reading-numbers text work max_nodes max_signals)

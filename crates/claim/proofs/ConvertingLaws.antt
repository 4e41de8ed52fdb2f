-- The converter's answer by stages: what the reader answers on buffers of the largest result, then what the rewriter makes of it; and what it has accepted.
use Rattle.std.specs.Prelude.{ℕ, ◌≤◌, ◌≡◌, List, leb, length}
use Rattle.std.proofs.Common.{sym, ap, ◌∙◌, leb-true}
use Rattle.node.specs.Limits.{max_nodes}
use Rattle.node.specs.Result.{Result, Done, ◌>>=◌, guard}
use Rattle.node.proofs.ResultLaws.{guard-done, guard_bind}
use Rattle.node.specs.Written.{count}
use Rattle.forms.specs.Forms.{form}
use Rattle.language.specs.Limits.{max_signals, work_bytes}
use Rattle.language.specs.Reading.{NumberedFormula, reading}
use Rattle.language.proofs.Laws.Buffers.{delivered-same}
use Rattle.claim.proofs.DeliveredLaws.{all-delivered}
use Rattle.claim.specs.Converting.{in_form, formed, converting}

-- the text is read into the largest buffers, and the rest is what the form makes of it
pub converting-reads : (text : List ℕ) (number work nodes signals : ℕ)
    → converting text number work nodes signals ≡ reading text work max_nodes max_signals >>= formed number nodes signals
unfolding converting reading
converting-reads text number work nodes signals =
    let k = formed number nodes signals in
    sym (guard_bind (leb work_bytes work) 17 0 _ k ∙ ap (λ (r : Result NumberedFormula). guard (leb work_bytes work) 17 0 (r >>= k)) (all-delivered text))

-- what is accepted of a text is its form, which fits
pub record FormOf (number : ℕ) (c d : NumberedFormula) : Type 0 where
  pub few : count (form number c.formula) ≤ max_nodes
  pub same : in_form number c ≡ d

pub formed-done : (number : ℕ) (nodes signals : List ℕ) (c : NumberedFormula) {d : NumberedFormula} → formed number (length nodes) (length signals) c ≡ Done d → FormOf number c d
unfolding formed
formed-done number nodes signals c e =
    let g = guard-done _ 21 0 _ e in
    let h = guard-done _ 16 0 _ g.1 in
    record { few = leb-true _ _ h.0; same = delivered-same nodes signals (in_form number c) h.1 }

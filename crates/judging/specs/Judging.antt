-- The verdict of a recording on a text: the reader's refusals, then the evaluator's, then whether the text's root holds at position 0 (document 01, 'Recordings' and
-- 'Refusals with their places').
use Rattle.std.specs.Prelude.{ℕ, Bool, List, leb, length}
use Rattle.node.specs.Result.{Result, ◌>>=◌, guard}
use Rattle.node.specs.Written.{nodes_of}
use Rattle.evaluator.specs.Evaluation.{rows_size, verdict_of}
use Rattle.language.specs.Limits.{work_bytes}
use Rattle.language.specs.Reading.{NumberedFormula, text_expansion}

-- the evaluator's verdict on a text's own nodes, with as many signals as its list has; there is room for every row, so that 18 is never due
abbrev pub verdict_on : List ℕ → NumberedFormula → Result Bool
verdict_on recording c = verdict_of (nodes_of c.formula) (length c.signals) recording (rows_size (nodes_of c.formula) recording)

-- the reader's 17, then 1 to 16, then the evaluator's 20
unfoldable pub judging : (text recording : List ℕ) (work : ℕ) → Result Bool
judging text recording work = guard (leb work_bytes work) 17 0 (text_expansion text >>= verdict_on recording)

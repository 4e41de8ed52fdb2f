-- The diagnosis of a table: the evaluator's verdict on it, and where that fails the line that the walk finds in its rows.
use Rattle.std.specs.Prelude.{ℕ, ◌≡◌, Bool, true, false, List, length}
use Rattle.node.specs.Result.{Done, ◌>>=◌}
use Rattle.node.specs.Returned.{Returned}
use Rattle.recordings.specs.Recording.{lasso_of}
use Rattle.evaluator.specs.Evaluation.{evaluation, left, verdict_of}
use Rattle.evaluator.specs.Promise.{RowsHold}
use Rattle.faults.specs.Naming.{Finding, NoFault}
use Rattle.diagnosis.specs.declared.Diagnosis.{Diagnosis}
use Rattle.line_counts.specs.declared.LineCounts.{LineCounts}
use Rattle.diagnosis.specs.Promise.{tells}
use Rattle.line_search.specs.Walking.{line_found}

-- what is found by a verdict
abbrev pub found_by : (nodes rows : List ℕ) → Bool → LineCounts → ℕ → Bool → Finding
found_by nodes rows strict lines n true = NoFault
found_by nodes rows strict lines n false = line_found nodes rows strict lines n

-- what `diagnose_table` promises
pub record DiagnosesTable (nodes : List ℕ) (signals : ℕ) (bs : List ℕ) (strict : Bool) (lines : LineCounts) (old new : List ℕ) (r : Returned Diagnosis) : Type 0 where
  pub answer : tells r ≡ verdict_of nodes signals bs (length old) >>= λ b. Done (found_by nodes new strict lines (lasso_of bs).n b)
  pub buffer : new ≡ left nodes bs old (evaluation nodes signals bs (length old))
  pub rows : (b : Bool) → verdict_of nodes signals bs (length old) ≡ Done b → RowsHold nodes bs new

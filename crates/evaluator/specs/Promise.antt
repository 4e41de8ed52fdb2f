-- What `evaluate` and `judge` promise.
use Rattle.std.specs.Prelude.{ℕ, ◌+◌, ◌*◌, ◌-◌, ◌<◌, ◌≡◌, Bool, ◌↔◌, List, length}
use Rattle.std.proofs.Math.Bool.{So}
use Rattle.node.specs.Result.{Done, Counts}
use Rattle.node.specs.Answer.{Answer, says}
use Rattle.node.specs.Returned.{Returned}
use Rattle.node.specs.Table.{NodeHolds}
use Rattle.bits.specs.Bits.{bit_at, width}
use Rattle.recordings.specs.Recording.{lasso_of}
use Rattle.recordings.specs.Lasso.{recorded}
use Rattle.evaluator.specs.declared.Verdict.{Verdict}
use Rattle.evaluator.specs.Evaluation.{evaluation, left, finds, verdict_of}

-- where bit p of row i stands in the buffer
abbrev pub bit_of_row : List ℕ → ℕ → ℕ → ℕ
bit_of_row bs i p = 8 * (width (lasso_of bs).n * i) + p

-- every bit of every row says whether its node holds at that position of the recording's infinite word
abbrev pub RowsHold : List ℕ → List ℕ → List ℕ → Type 0
RowsHold nodes bs rows =
    (i p : ℕ) → i < length nodes → p < (lasso_of bs).n → So (bit_at rows (bit_of_row bs i p)) ↔ NodeHolds nodes i (recorded bs) p

-- what `evaluate` promises
pub record Evaluates (r : Answer) (nodes : List ℕ) (signals : ℕ) (bs old new : List ℕ) : Type 0 where
  pub answer : says r ≡ evaluation nodes signals bs (length old)
  pub buffer : new ≡ left nodes bs old (evaluation nodes signals bs (length old))
  pub holds : (counts : Counts) → says r ≡ Done counts → RowsHold nodes bs new

-- what `judge` promises
pub record Judges (r : Returned Verdict) (nodes : List ℕ) (signals : ℕ) (bs old new : List ℕ) : Type 0 where
  pub answer : finds r ≡ verdict_of nodes signals bs (length old)
  pub buffer : new ≡ left nodes bs old (evaluation nodes signals bs (length old))
  pub holds : (b : Bool) → finds r ≡ Done b → So b ↔ NodeHolds nodes (length nodes - 1) (recorded bs) 0
  pub rows : (b : Bool) → finds r ≡ Done b → RowsHold nodes bs new

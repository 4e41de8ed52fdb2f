-- What `judge_text` and `judge_start` promise.
use Rattle.std.specs.Prelude.{ℕ, ◌≡◌, Bool, ◌↔◌, List, length}
use Rattle.std.proofs.Math.Bool.{So}
use Rattle.node.specs.Result.{Done}
use Rattle.node.specs.Returned.{Returned}
use Rattle.evaluator.specs.Evaluation.{finds}
use Rattle.recordings.specs.Lasso.{recorded}
use Rattle.evaluator.specs.declared.Verdict.{Verdict}
use Rattle.language.specs.Meaning.{TextMeans}
use Rattle.language.specs.Reading.{NumberedFormula, text_expansion, work_after}
use Rattle.claim.specs.Claim.{Gives}
use Rattle.judging.specs.Judging.{judging}
use Rattle.judging.specs.Longer.{Begins, judging_start}

-- what `judge_text` promises
pub record JudgesText (text recording work work' : List ℕ) (r : Returned Verdict) : Type 0 where
  -- the definition's verdict or refusal
  pub answer : finds r ≡ judging text recording (length work)
  -- and so the text's own meaning at position 0, in every word over the declared signals that has the recording's letters
  pub means : (c : NumberedFormula) → text_expansion text ≡ Done c → (b : Bool) → finds r ≡ Done b → (g : Gives text c.signals (recorded recording)) → So b ↔ TextMeans text g.word 0
  -- of which there is one
  pub played : (c : NumberedFormula) → text_expansion text ≡ Done c → Gives text c.signals (recorded recording)
  -- the work buffer as the reader leaves it
  pub work_left : work' ≡ work_after work

-- what `judge_start` promises, whatever size is told; and so the verdict of every recording that begins so, if its length is told
pub record JudgesStart (text start : List ℕ) (size : ℕ) (work work' : List ℕ) (r : Returned Verdict) : Type 0 where
  pub tells : finds r ≡ judging_start text start size (length work)
  pub answer : (whole : List ℕ) → Begins start size whole → finds r ≡ judging text whole (length work)
  pub work_left : work' ≡ work_after work

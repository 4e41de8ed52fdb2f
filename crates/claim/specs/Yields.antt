-- An answer and the lent buffers after it, of what the definition gives: document 01, 'Refusals with their places'. The buffers after the answer are marked '.
use Rattle.std.specs.Prelude.{ℕ, ◌≡◌, List}
use Rattle.node.specs.Result.{Result, Done, ◌>>=◌, Counts}
use Rattle.node.specs.Answer.{Answer, says}
use Rattle.language.specs.Reading.{NumberedFormula, counts, nodes_after, signals_after, work_after}

-- 'accepted with its counts or a refusal, number and place'
abbrev pub told : Result NumberedFormula → Result Counts
told r = r >>= λ c. Done (counts c)

pub record Yields (result : Result NumberedFormula) (work nodes signals work' nodes' signals' : List ℕ) (r : Answer) : Type 0 where
  pub answer : says r ≡ told result
  pub nodes_left : nodes' ≡ nodes_after result nodes
  pub signals_left : signals' ≡ signals_after result signals
  pub work_left : work' ≡ work_after work

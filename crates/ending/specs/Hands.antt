-- What a stage of the reader hands up, of what the definition gives: the answer and the result buffers after it, which are marked '.
use Rattle.std.specs.Prelude.{ℕ, List, ◌≡◌}
use Rattle.node.specs.Result.{Result, ◌>>=◌}
use Rattle.node.specs.Answer.{Answer, says}
use Rattle.language.specs.Reading.{NumberedFormula, nodes_after, signals_after}
use Rattle.claim.specs.Yields.{told}

pub record Hands (result : Result NumberedFormula) (nodes signals nodes' signals' : List ℕ) (r : Answer) : Type 0 where
  pub answer : says r ≡ told result
  pub nodes_left : nodes' ≡ nodes_after result nodes
  pub signals_left : signals' ≡ signals_after result signals

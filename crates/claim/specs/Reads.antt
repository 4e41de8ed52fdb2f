-- What `read` promises: the answer and the buffers that the definition gives; and so, for an accepted text, demand 3 on what stands in the lent buffers.
use Rattle.std.specs.Prelude.{◌≡◌, List, ℕ, length}
use Rattle.node.specs.Result.{Done}
use Rattle.node.specs.Answer.{Answer}
use Rattle.language.specs.Reading.{NumberedFormula, reading}
use Rattle.claim.specs.Claim.{Leaves}
use Rattle.claim.specs.Yields.{Yields}

pub record Reads (text work nodes signals work' nodes' signals' : List ℕ) (r : Answer) : Type 0 where
  pub yields : Yields (reading text (length work) (length nodes) (length signals)) work nodes signals work' nodes' signals' r
  pub leaves : (c : NumberedFormula) → reading text (length work) (length nodes) (length signals) ≡ Done c → Leaves text nodes' signals' c

-- What `read` promises follows from the answer and the buffers that the definition gives.
use Rattle.std.specs.Prelude.{List, ℕ, length}
use Rattle.node.specs.Answer.{Answer}
use Rattle.language.specs.Reading.{reading}
use Rattle.claim.proofs.ClaimLaws.{reader_claim}
use Rattle.claim.specs.Yields.{Yields}
use Rattle.claim.specs.Reads.{Reads}

module _ (text : List ℕ) {work nodes signals work' nodes' signals' : List ℕ} {r : Answer} where
  pub reads : Yields (reading text (length work) (length nodes) (length signals)) work nodes signals work' nodes' signals' r → Reads text work nodes signals work' nodes' signals' r
  reads y = record { yields = y; leaves = λ c e. rw (y.nodes_left, y.signals_left, e) (reader_claim text (length work) nodes signals c e) }

-- What is written from the first index on is a formula's nodes.
use Rattle.std.specs.Prelude.{ℕ, List, Option}
use Rattle.node.specs.Ltl.{Formula}
use Rattle.node.specs.Written.{nodes_of}
use Rattle.storing.specs.Storing.{Puts, Wrote}

pub written_from : (r : Option ℕ) (f : Formula) {out out' : List ℕ} → Wrote r f out out' 0 → Puts r (nodes_of f) out out' 0
unfolding nodes_of
written_from r f p = p

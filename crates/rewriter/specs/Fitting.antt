-- What the inner functions of the rewriter ensure, of a formula and a buffer: the nodes are written to a table of its own, and handed over where they fit.
use Rattle.std.specs.Prelude.{ℕ, ◌<◌, ◌≤◌, ◌≡◌, List, length, Option, None, Some, Ok, Err}
use Rattle.std.proofs.Math.Seq.{paste}
use Rattle.node.specs.Ltl.{Formula}
use Rattle.node.specs.Answer.{Answer, says}
use Rattle.node.specs.Returned.{refusal}
use Rattle.node.specs.Written.{count}
use Rattle.rewriter.specs.Rewriting.{fitting, leaves}

-- the answer and the buffer are those of a formula
pub record Fitted (f : Formula) (out out' : List ℕ) (r : Answer) : Type 0 where
  pub answer : says r ≡ fitting f (length out)
  pub buffer : out' ≡ leaves (says r) f out

-- by way of a table of so many entries: none where the formula has more nodes, and nothing is written then
pub record FittedTo (entries : ℕ) (f : Formula) (out out' : List ℕ) (r : Option Answer) : Type 0 where
  pub many : r ≡ None → (entries < count f) × (out' ≡ out)
  pub fitted : (a : Answer) → r ≡ Some a → Fitted f out out' a

-- the first n words of a table: refused by 18 where the buffer is short, otherwise copied to its front
pub record HandsOver (table : List ℕ) (n : ℕ) (out out' : List ℕ) (r : Answer) : Type 0 where
  pub short : length out < n → (r ≡ Err (refusal 18 0)) × (out' ≡ out)
  pub copied : n ≤ length out → (r ≡ Ok (n, 0)) × (out' ≡ paste out 0 table n)

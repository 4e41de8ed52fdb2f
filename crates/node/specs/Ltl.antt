-- LTL formulas by the number of operands, and where they hold: document 001, Appendix A.1, over the fourteen kinds of document 01.
use Rattle.std.specs.Prelude.{ℕ}
use Rattle.std.proofs.Math.Bool.{So}
use Rattle.node.specs.Temporal.{Property}
pub use Rattle.node.specs.Operators.{Unary, Not, X, G, F, Binary, And, Or, Implies, Iff, U, R, W, UnaryMeans, BinaryMeans, Word}

pub data Formula : Type 0 where
  True False : Formula
  Signal : ℕ → Formula
  One : Unary → Formula → Formula
  Two : Binary → Formula → Formula → Formula

-- the formula holds at position t of the word
unfoldable pub Holds : Formula → Word → Property
Holds True w t = Unit {0}
Holds False w t = ⊥
Holds (Signal k) w t = So (w t k)
Holds (One o a) w t = UnaryMeans o (Holds a w) t
Holds (Two o a b) w t = BinaryMeans o (Holds a w) (Holds b w) t

-- The subformulas of a formula: all of them in postorder, and what holds of each. Laws in SubformulaLaws and WithinLaws.
use Rattle.std.specs.Prelude.{List, [], ◌∷◌, ◌++◌}
use Rattle.node.specs.Ltl.{Formula, True, False, Signal, One, Two}

-- 'in postorder, left first, nothing shared' (document 01, 'Expansion'): one for each place
unfoldable pub postorder : Formula → List Formula
postorder True = True ∷ []
postorder False = False ∷ []
postorder (Signal k) = Signal k ∷ []
postorder (One o a) = postorder a ++ (One o a ∷ [])
postorder (Two o a b) = postorder a ++ (postorder b ++ (Two o a b ∷ []))

-- each subformula is such
unfoldable pub Everywhere : (Formula → Type 0) → Formula → Type 0
Everywhere P True = P True
Everywhere P False = P False
Everywhere P (Signal k) = P (Signal k)
Everywhere P (One o a) = Everywhere P a × P (One o a)
Everywhere P (Two o a b) = Everywhere P a × Everywhere P b × P (Two o a b)

-- 'Each distinct subformula once, at its first place' (document 02, F-10), said of a list of formulas. Laws in SameLaws and OnceLaws.
use Rattle.std.specs.Prelude.{List, [], ◌∷◌, ◌++◌, Bool, true, false, ◌&&◌, ◌||◌, eqb}
use Rattle.node.specs.Ltl.{Formula, True, False, Signal, One, Two}
use Rattle.node.specs.Kinds.{unary_kind, binary_kind}

-- equal formulas are the same tree
unfoldable pub same : Formula → Formula → Bool
same True True = true
same True False = false
same True (Signal k) = false
same True (One p c) = false
same True (Two p c d) = false
same False True = false
same False False = true
same False (Signal k) = false
same False (One p c) = false
same False (Two p c d) = false
same (Signal n) True = false
same (Signal n) False = false
same (Signal n) (Signal k) = eqb n k
same (Signal n) (One p c) = false
same (Signal n) (Two p c d) = false
same (One o a) True = false
same (One o a) False = false
same (One o a) (Signal k) = false
same (One o a) (One p c) = eqb (unary_kind o) (unary_kind p) && same a c
same (One o a) (Two p c d) = false
same (Two o a b) True = false
same (Two o a b) False = false
same (Two o a b) (Signal k) = false
same (Two o a b) (One p c) = false
same (Two o a b) (Two p c d) = eqb (binary_kind o) (binary_kind p) && (same a c && same b d)

-- is the formula one of these?
unfoldable pub occurs : List Formula → Formula → Bool
occurs [] f = false
occurs (g ∷ gs) f = same g f || occurs gs f

-- the formulas gs, and behind them each that has not come before
unfoldable pub further : List Formula → List Formula → List Formula
further gs [] = gs
further gs (f ∷ fs) = elim (occurs gs f) [ true ↦ further gs fs | false ↦ further (gs ++ (f ∷ [])) fs ]

-- each member at its first place
abbrev pub once : List Formula → List Formula
once fs = further [] fs

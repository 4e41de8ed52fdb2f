-- The lines of a part among all lines, and how far a loop has come that folds them with `&&`.
use Rattle.std.specs.Prelude.{ℕ, true, false, ◌≡◌, List, [], ◌∷◌, ◌++◌, eqb, length}
use Rattle.node.specs.Ltl.{Formula}
use Rattle.language.specs.Tree.{Part, part_code}
use Rattle.choices.specs.declared.folds.Fold.{Fold}
use Rattle.choices.specs.Folds.{Folded}
use Rattle.assembly.specs.Gathered.{InTable}

-- the lines of the part that has this number
abbrev pub lines_in : ℕ → List (Part × Formula) → List Formula
lines_in k [] = []
lines_in k (l ∷ ls) = elim (eqb k (part_code l.0)) [ true ↦ l.1 ∷ lines_in k ls | false ↦ lines_in k ls ]

-- i lines are passed, the next one's formula stands at `start`, and those of the part are folded
pub record Passed (part : ℕ) (ls : List (Part × Formula)) (table out out' : List ℕ) (at i start : ℕ) (f : Fold) : Type 0 where
  pub done : List (Part × Formula)
  pub rest : List (Part × Formula)
  pub split : ls ≡ done ++ rest
  pub index : length done ≡ i
  pub stand : InTable rest table start
  pub folded : Folded true f (lines_in part done) out out' at

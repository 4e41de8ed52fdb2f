-- The pass from entry to entry, and what it has found at the end.
use Rattle.std.specs.Prelude.{ℕ, ◌≤◌, List, [], ◌≡◌}
use Rattle.std.proofs.Math.Option.{none}
use Rattle.language.specs.Tree.{Spec}
use Rattle.language.specs.Types.{wrong_type as firstWrong}
use Rattle.names.specs.Resolved.{Stored, Resolved}
use Rattle.traversal.specs.Places.{Place, placed}
use Rattle.traversal.specs.Passed.{passed}
use Rattle.traversal.specs.declared.Progress.{Progress}
use Rattle.types.specs.Pass.{State, step, state}
use Rattle.types.specs.Cells.{named_cell}
use Rattle.types.specs.Declaring.{declared_table}
use Rattle.types.specs.Progress.{Agrees, Sized}

-- the state after i entries of the buffer w, of which n are the tree's
abbrev pub after : List ℕ → List ℕ → ℕ → ℕ → State
after refs w n i = passed step (named_cell refs w) (state (declared_table refs w n) 0 [] none) i

pub record Ran (refs w : List ℕ) (n i : ℕ) (p : Progress) (ks ss ts : List ℕ) : Type 0 where
  pub sized : Sized w i p ks ss ts
  pub agrees : Agrees (after refs w n i) p ks ss ts
  pub few : i ≤ n

-- The answer, whatever tree the buffer holds, if its names are resolved.
unfoldable pub WrongType : List ℕ → List ℕ → ℕ → Place → Type 0
WrongType refs w n r = (text : List ℕ) (count : ℕ) (x : Spec) (found : List ℕ) (m : ℕ) → Stored text w count n x → Resolved x refs found m → r ≡ placed (firstWrong x)

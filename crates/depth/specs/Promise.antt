-- What refusal 5's stage promises.
use Rattle.std.specs.Prelude.{ℕ, List, ◌≡◌}
use Rattle.language.specs.Tree.{Spec}
use Rattle.language.specs.Grammar.{Tokens}
use Rattle.language.specs.Places.{too_deep}
use Rattle.traversal.specs.Cells.{TokensTell, Offset}
use Rattle.traversal.specs.Places.{Place, placed}
use Rattle.traversal.specs.TreeStored.{TreeStored}

-- the answer, whatever tree the entries hold
unfoldable pub TooDeep : List ℕ → ℕ → Place → Type 0
TooDeep w n r = (ts : Tokens) (x : Spec) → TokensTell Offset w ts → TreeStored w ts n x → r ≡ placed (too_deep x)

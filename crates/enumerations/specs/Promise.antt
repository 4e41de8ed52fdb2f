-- What refusal 10's stage promises.
use Rattle.std.specs.Prelude.{ℕ, List, ◌≡◌}
use Rattle.language.specs.Tree.{Spec}
use Rattle.language.specs.Grammar.{Tokens}
use Rattle.language.specs.Words.{wrong_words}
use Rattle.language.specs.Lists.{All}
use Rattle.traversal.specs.Cells.{TokensTell}
use Rattle.traversal.specs.Places.{Place, placed}
use Rattle.traversal.specs.TreeStored.{TreeStored}
use Rattle.enumerations.specs.Given.{Spells, GoodDefinition}

-- The answer, whatever tree the entries hold, if its tokens are the text's and its enumerations' words stand in the text's order.
unfoldable pub WrongWords : List ℕ → List ℕ → ℕ → Place → Type 0
WrongWords text w n r = (ts : Tokens) (x : Spec) → TokensTell (Spells text) w ts → TreeStored w ts n x → All GoodDefinition x.definitions → r ≡ placed (wrong_words x)

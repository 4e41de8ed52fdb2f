-- The table of a text's names before any of them has had its turn.
use Rattle.language.specs.Tree.{Spec}
use Rattle.language.specs.DeclaredNames.{Table, identifiers, waiting, inputs, outputs}

abbrev pub first_table : Spec → Table
first_table x = waiting (inputs x.main) (waiting (outputs x.main) (identifiers x.definitions))

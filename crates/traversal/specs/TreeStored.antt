-- A text's tree in the work buffer, as the parser leaves it; and what its lines are.
use Rattle.std.specs.Prelude.{ℕ, List, false, ◌≡◌, length}
use Rattle.language.specs.Tree.{Spec}
use Rattle.language.specs.Grammar.{Tokens}
use Rattle.language.specs.Places.{TextLine as Line, ParameterLine, DefinitionLine, DeclarationLine, FormulaLine}
use Rattle.language.specs.Braces.{Proper, ProperDefinition, ProperDeclaration, ProperSpec}
use Rattle.entries.specs.Flat.{outline}
use Rattle.entries.specs.Stored.{EntriesFrom}

-- n entries are those of the tree x, whose tokens are of ts
pub record TreeStored (w : List ℕ) (ts : Tokens) (n : ℕ) (x : Spec) : Type 0 where
  pub entries : EntriesFrom w ts 0 (outline x)
  pub count : n ≡ length (outline x)
  pub proper : ProperSpec x

-- the expression of a line has the elements of sets in braces only
abbrev pub ProperLine : Line → Type 0
ProperLine (ParameterLine x e) = Proper false e
ProperLine (DefinitionLine d) = ProperDefinition d
ProperLine (DeclarationLine d) = ProperDeclaration d
ProperLine (FormulaLine e) = Proper false e

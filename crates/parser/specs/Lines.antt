-- The lines of a subsection by what they are: their type, how one is read, its entries.
use Rattle.std.specs.Prelude.{ℕ, List}
use Prim.Native.String.{String}
use Rattle.language.specs.Tree.{Expr, Parameter, Definition, Declaration}
use Rattle.language.specs.Grammar.{Tokens, Read}
use Rattle.language.specs.Sections.{expression, parameter_of, definition_of, declaration_of, optional}
use Rattle.entries.specs.Flat.{Entry, each, flat_parameter, flat_definition, flat_declaration, flat_line}
use Rattle.entries.specs.declared.Cursor.{Cursor}
use Rattle.entries.specs.Parse.{Parse}
use Rattle.entries.specs.Reads.{Parses}
use Rattle.parser.specs.Spelling.{Spells}
use Rattle.parser.specs.declared.Line.{Line}
use Rattle.parser.specs.declared.Line.TheVariants.{Parameters, Definitions, Declarations, Formulas}

abbrev pub Item : Line → Type 0
Item Parameters = Parameter
Item Definitions = Definition
Item Declarations = Declaration
Item Formulas = Expr

abbrev pub line_of : (l : Line) → Tokens → Read (Item l)
line_of Parameters ts = parameter_of ts
line_of Definitions ts = definition_of ts
line_of Declarations ts = declaration_of ts
line_of Formulas ts = expression ts

abbrev pub flat_of : (l : Line) → Item l → List Entry
flat_of Parameters = flat_parameter
flat_of Definitions = flat_definition
flat_of Declarations = flat_declaration
flat_of Formulas = flat_line

-- a subsection that may be missing, by its word's number
abbrev pub ReadsOptional : ℕ → Line → List ℕ → List ℕ → Cursor → Parse → Type 0
ReadsOptional word l w v c r = (s : String) → Spells s word → Parses (optional s (line_of l)) (each (flat_of l)) w v c r

-- The tree of a text. It keeps the tokens, so that every refusal finds its place.
use Rattle.std.specs.Prelude.{ℕ, List, Bool}
use Rattle.language.specs.Tokens.{Token}
use Rattle.language.specs.Operators.{Infix, Prefix, Window, Big}

-- An expression. An operator's token is kept before it; that of an index is the bus's name. A big operator with several names is nested, one name
-- each: `further` marks those after the first, which make no level of their own. `Between` is the bounds of a big operator's name, with their first sign
-- and whether each end is left out; `Empty` and `Element` are the elements of a set in braces.
pub data Expr : Type 0 where
  Named : Token → Expr
  Numeral : Token → Expr
  Truth : Token → Bool → Expr
  Index : Token → Expr → Expr
  Paren : Token → Expr → Expr
  Prefixed : Token → Prefix → Expr → Expr
  Joined : Token → Infix → Expr → Expr → Expr
  Nexts : Token → Expr → Expr → Expr
  InWindow : Token → Window → Expr → Expr → Expr → Expr
  Each : Token → Big → (further : Bool) → Token → Expr → Expr → Expr
  Between : Token → Bool → Bool → Expr → Expr → Expr
  Listed : Token → Expr → Expr
  Empty : Expr
  Element : Expr → Expr → Expr
  Range : Token → Expr → Expr → Expr → Expr

-- an identifier of an enumeration, and its words
pub record Identifier : Type 0 where
  pub name : Token
  pub words : List Token

-- a line of DEFINITIONS
pub data Definition : Type 0 where
  Defined : Token → Expr → Definition
  Enumerated : Token → List Identifier → Definition

-- a line of PARAMETERS
pub record Parameter : Type 0 where
  pub name : Token
  pub value : Expr

-- a line of INPUTS or OUTPUTS: a signal; a bus with its width; a bus with its enumeration, whose name stands first
pub data Declaration : Type 0 where
  OneSignal : Token → Declaration
  OfWidth : Token → Expr → Declaration
  OfType : Token → Token → Declaration

pub data Part : Type 0 where
  Initially Preset Require Assert Assume Guarantee : Part

abbrev pub part_code : Part → ℕ
part_code Initially = 0
part_code Preset = 1
part_code Require = 2
part_code Assert = 3
part_code Assume = 4
part_code Guarantee = 5

-- a subsection of MAIN
pub data Subsection : Type 0 where
  Inputs : List Declaration → Subsection
  Outputs : List Declaration → Subsection
  Lines : Part → List Expr → Subsection

pub data Model : Type 0 where
  Mealy Moore : Model

-- a text; MAIN's subsections in the text's order
pub record Spec : Type 0 where
  pub semantics : Model
  pub strict : Bool
  pub target : Model
  pub target_word : Token
  pub parameters : List Parameter
  pub definitions : List Definition
  pub main : List Subsection

-- A text's tree as a list of entries. An expression's entries stand in postorder: its own is the last, the operands' stand before it, the last operand's next to
-- it. An entry has its kind, its token if the tree keeps one there, and the number of entries that the expression or the line takes, itself included. So the last
-- operand's entry is the one before, and the operand before that ends where the last operand starts.
use Rattle.std.specs.Prelude.{ℕ, suc, ◌+◌, List, [], ◌∷◌, ◌++◌, length}
use Rattle.std.proofs.Math.Option.{Option, none, some}
use Rattle.language.specs.Tokens.{Token}
use Rattle.language.specs.Tree.{
  Expr,
  Named,
  Numeral,
  Truth,
  Index,
  Paren,
  Prefixed,
  Joined,
  Nexts,
  InWindow,
  Each,
  Between,
  Listed,
  Empty,
  Element,
  Range,
  Identifier,
  Definition,
  Defined,
  Enumerated,
  Parameter,
  Declaration,
  OneSignal,
  OfWidth,
  OfType,
  part_code,
  Subsection,
  Inputs,
  Outputs,
  Lines,
  Spec,
}
use Rattle.entries.specs.Kinds as Kind
use Rattle.entries.specs.Headings as Heading

pub record Entry : Type 0 where
  pub kind : ℕ
  pub token : Option Token
  pub size : ℕ

-- an entry behind those of its operands
abbrev pub under : ℕ → Option Token → List Entry → List Entry
under k t es = es ++ (record { kind = k; token = t; size = suc (length es) } ∷ [])

abbrev pub leaf : ℕ → Token → List Entry
leaf k t = under k (some t) []

-- an expression; the end of a set's elements takes no entry
abbrev pub flat : Expr → List Entry
flat (Named t) = leaf Kind.named t
flat (Numeral t) = leaf Kind.numeral t
flat (Truth t b) = leaf Kind.truth t
flat (Index t e) = under Kind.index (some t) (flat e)
flat (Paren t e) = under Kind.paren (some t) (flat e)
flat (Prefixed t o e) = under (Kind.before o) (some t) (flat e)
flat (Joined t o a b) = under (Kind.joining o) (some t) (flat a ++ flat b)
flat (Nexts t n e) = under Kind.nexts (some t) (flat n ++ flat e)
flat (InWindow t o n m e) = under Kind.window (some t) (flat n ++ (flat m ++ flat e))
flat (Each t o further i s e) = under (Kind.big o) (some t) (under (Kind.binder further) (some i) (flat s) ++ flat e)
flat (Between t l h a b) = under (Kind.between h) (some t) (flat a ++ flat b)
flat (Listed t es) = under Kind.listed (some t) (flat es)
flat Empty = []
flat (Element e es) = under Kind.element none (flat e ++ flat es)
flat (Range t x y z) = under Kind.range (some t) (flat x ++ (flat y ++ flat z))

-- the entries of a list, one thing's after the other's
abbrev pub each : {A : Type 0} → (A → List Entry) → List A → List Entry
each f [] = []
each f (x ∷ xs) = f x ++ each f xs

abbrev pub flat_parameter : Parameter → List Entry
flat_parameter p = under Kind.parameter (some p.name) (flat p.value)

-- an identifier, then its words
abbrev pub flat_identifier : Identifier → List Entry
flat_identifier i = leaf Kind.identifier i.name ++ each (leaf Kind.word) i.words

abbrev pub flat_definition : Definition → List Entry
flat_definition (Defined x e) = under Kind.definition (some x) (flat e)
flat_definition (Enumerated x is) = leaf Kind.enumeration x ++ each flat_identifier is

-- the enumeration of a bus is a name that it uses
abbrev pub flat_declaration : Declaration → List Entry
flat_declaration (OneSignal x) = leaf Kind.signal x
flat_declaration (OfWidth x e) = under Kind.bus (some x) (flat e)
flat_declaration (OfType u x) = under Kind.typed (some x) (leaf Kind.named u)

abbrev pub flat_line : Expr → List Entry
flat_line e = under Kind.line none (flat e)

-- a subsection of MAIN: its number in place of a size, then its lines
abbrev pub head : ℕ → List Entry
head n = record { kind = Kind.heading; token = none; size = n } ∷ []

abbrev pub flat_subsection : Subsection → List Entry
flat_subsection (Inputs ds) = head Heading.inputs ++ each flat_declaration ds
flat_subsection (Outputs ds) = head Heading.outputs ++ each flat_declaration ds
flat_subsection (Lines p es) = head (Heading.first_part + part_code p) ++ each flat_line es

-- a text, INFO left out
abbrev pub outline : Spec → List Entry
outline x = each flat_parameter x.parameters ++ (each flat_definition x.definitions ++ each flat_subsection x.main)

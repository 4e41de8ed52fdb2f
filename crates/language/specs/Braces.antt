-- Trees in which the elements of a set stand in braces only, names and numerals are tokens of their class, operators are those that their tokens spell, and what is
-- declared has a name. The grammar gives no others (BracesReads), and of others little holds: their sets are not limited, and may come to no set.
use Rattle.std.specs.Prelude.{◌≡◌, Bool, true, false}
use Rattle.language.specs.Tokens.{Name, Numeral as Digits, is_of}
use Rattle.language.specs.Tree.{
  Expr,
  Named,
  Numeral,
  Truth,
  Index,
  Paren,
  Prefixed,
  Joined,
  Nexts,
  InWindow,
  Each,
  Between,
  Listed,
  Empty,
  Element,
  Range,
  Definition,
  Defined,
  Enumerated,
  Parameter,
  Declaration,
  OneSignal,
  OfWidth,
  OfType,
  Subsection,
  Inputs,
  Outputs,
  Lines,
  Spec,
}
use Rattle.language.specs.Lists.{All}
use Rattle.language.specs.Spelling.{SpellsInfix, SpellsPrefix, SpellsWindow, SpellsBig, SpellsTruth, SpellsSign}

-- `braces`: are elements to stand here?
abbrev pub Proper : (braces : Bool) → Expr → Type 0
Proper braces (Named t) = (braces ≡ false) × (is_of Name t ≡ true)
Proper braces (Numeral t) = (braces ≡ false) × (is_of Digits t ≡ true)
Proper braces (Truth t b) = (braces ≡ false) × SpellsTruth t b
Proper braces (Index t e) = (braces ≡ false) × Proper false e
Proper braces (Paren t e) = (braces ≡ false) × Proper false e
Proper braces (Prefixed t o e) = ((braces ≡ false) × SpellsPrefix t o) × Proper false e
Proper braces (Joined t o a b) = ((braces ≡ false) × SpellsInfix t o) × Proper false a × Proper false b
Proper braces (Nexts t n e) = (braces ≡ false) × Proper false n × Proper false e
Proper braces (InWindow t o n m e) = ((braces ≡ false) × SpellsWindow t o) × Proper false n × Proper false m × Proper false e
Proper braces (Each t o further i s e) = ((braces ≡ false) × SpellsBig t o) × Proper false s × Proper false e
Proper braces (Between t l h a b) = ((braces ≡ false) × SpellsSign t l) × Proper false a × Proper false b
Proper braces (Listed t es) = (braces ≡ false) × Proper true es
Proper braces Empty = braces ≡ true
Proper braces (Element e es) = (braces ≡ true) × Proper false e × Proper true es
Proper braces (Range t x y z) = (braces ≡ false) × Proper false x × Proper false y × Proper false z

-- the expressions of a text
abbrev pub ProperParameter : Parameter → Type 0
ProperParameter p = Proper false p.value

abbrev pub ProperDefinition : Definition → Type 0
ProperDefinition (Defined x e) = Proper false e
ProperDefinition (Enumerated x is) = Unit {0}

abbrev pub ProperDeclaration : Declaration → Type 0
ProperDeclaration (OneSignal x) = is_of Name x ≡ true
ProperDeclaration (OfWidth x e) = (is_of Name x ≡ true) × Proper false e
ProperDeclaration (OfType u x) = (is_of Name u ≡ true) × (is_of Name x ≡ true)

abbrev pub ProperSubsection : Subsection → Type 0
ProperSubsection (Inputs ds) = All ProperDeclaration ds
ProperSubsection (Outputs ds) = All ProperDeclaration ds
ProperSubsection (Lines p es) = All (Proper false) es

pub record ProperSpec (x : Spec) : Type 0 where
  pub parameters : All ProperParameter x.parameters
  pub definitions : All ProperDefinition x.definitions
  pub main : All ProperSubsection x.main

-- What holds of every token of a tree.
use Rattle.std.specs.Prelude.{List, [], ◌∷◌, Bool, true}
use Rattle.language.specs.Tokens.{Token}
use Rattle.language.specs.Operators.{Big}
use Rattle.language.specs.Tree.{
  Expr,
  Named,
  Numeral,
  Truth,
  Index,
  Paren,
  Prefixed,
  Joined,
  Nexts,
  InWindow,
  Each,
  Between,
  Listed,
  Empty,
  Element,
  Range,
  Identifier,
  Definition,
  Defined,
  Enumerated,
  Parameter,
  Declaration,
  OneSignal,
  OfWidth,
  OfType,
  Subsection,
  Inputs,
  Outputs,
  Lines,
  Spec,
}
use Rattle.language.specs.Grammar.{Binder, over}
use Rattle.language.proofs.Laws.Basics.Lists.{All}

abbrev pub InExpr : (Token → Type 0) → Expr → Type 0
InExpr P (Named t) = P t
InExpr P (Numeral t) = P t
InExpr P (Truth t b) = P t
InExpr P (Index t e) = P t × InExpr P e
InExpr P (Paren t e) = P t × InExpr P e
InExpr P (Prefixed t o e) = P t × InExpr P e
InExpr P (Joined t o a b) = P t × InExpr P a × InExpr P b
InExpr P (Nexts t n e) = P t × InExpr P n × InExpr P e
InExpr P (InWindow t o n m e) = P t × InExpr P n × InExpr P m × InExpr P e
InExpr P (Each t o further i s e) = P t × P i × InExpr P s × InExpr P e
InExpr P (Between t l h a b) = P t × InExpr P a × InExpr P b
InExpr P (Listed t es) = P t × InExpr P es
InExpr P Empty = Unit {0}
InExpr P (Element e es) = InExpr P e × InExpr P es
InExpr P (Range t x y z) = P t × InExpr P x × InExpr P y × InExpr P z

abbrev pub InIdentifier : (Token → Type 0) → Identifier → Type 0
InIdentifier P i = P i.name × All P i.words

abbrev pub InBinder : (Token → Type 0) → Binder → Type 0
InBinder P b = P b.name × InExpr P b.range

abbrev pub InParameter : (Token → Type 0) → Parameter → Type 0
InParameter P p = P p.name × InExpr P p.value

abbrev pub InDefinition : (Token → Type 0) → Definition → Type 0
InDefinition P (Defined x e) = P x × InExpr P e
InDefinition P (Enumerated x is) = P x × All (InIdentifier P) is

abbrev pub InDeclaration : (Token → Type 0) → Declaration → Type 0
InDeclaration P (OneSignal x) = P x
InDeclaration P (OfWidth x e) = P x × InExpr P e
InDeclaration P (OfType u x) = P u × P x

abbrev pub InSubsection : (Token → Type 0) → Subsection → Type 0
InSubsection P (Inputs ds) = All (InDeclaration P) ds
InSubsection P (Outputs ds) = All (InDeclaration P) ds
InSubsection P (Lines p es) = All (InExpr P) es

pub record InSpec (P : Token → Type 0) (x : Spec) : Type 0 where
  pub target_word : P x.target_word
  pub parameters : All (InParameter P) x.parameters
  pub definitions : All (InDefinition P) x.definitions
  pub main : All (InSubsection P) x.main

pub in_over : (P : Token → Type 0) (t : Token) (o : Big) (further : Bool) (bs : List Binder) (e : Expr) → P t → All (InBinder P) bs → InExpr P e → InExpr P (over t o further bs e)
in_over P t o further [] e p h q = q
in_over P t o further (b ∷ bs) e p h q = (p, h.0.0, h.0.1, in_over P t o true bs e p h.1 q)

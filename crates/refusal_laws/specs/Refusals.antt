-- What refusals 5, 6, 8 and 10 are, in words of the source: which expression, name or word stands at the place, and that no such place is before it. Definitions
-- only, none of which cites those that find the places; the laws are in the files beside.
use Rattle.std.specs.Prelude.{ℕ, zero, suc, ◌+◌, ◌≤◌, ◌<◌, ◌≡◌, true, false, List, [], ◌∷◌, ◌++◌, map, ◌⊎◌, length}
use Rattle.std.proofs.Math.Option.{Option, none, some}
use Rattle.node.specs.Result.{Done}
use Rattle.language.specs.Limits.{max_levels, max_names, max_words, max_marks}
use Rattle.language.specs.Tokens.{Token, tokens}
use Rattle.language.specs.Tree.{
  Expr,
  Named,
  Numeral,
  Truth,
  Index,
  Paren,
  Prefixed,
  Joined,
  Nexts,
  InWindow,
  Each,
  Between,
  Listed,
  Empty,
  Element,
  Range,
  Identifier,
  Definition,
  Defined,
  Enumerated,
  OneSignal,
  OfWidth,
  OfType,
  Subsection,
  Inputs,
  Outputs,
  Lines,
  Spec,
}
use Rattle.language.specs.Sections.{spec_of}
use Rattle.language.specs.Places.{start, TextLine, ParameterLine, DefinitionLine, DeclarationLine, FormulaLine}
use Rattle.language.specs.Listed.{declared_name}
use Rattle.language.specs.Meaning.{Word, Matches, MatchesOne}
use Rattle.language.proofs.Laws.Basics.Lists.{All}

-- some element is as Q says
abbrev pub Among : {A : Type 0} → (A → Type 0) → List A → Type 0
Among Q [] = ⊥
Among Q (a ∷ l) = Q a ⊎ Among Q l

-- some element is as Q says, with those before it, the nearest first
abbrev pub Following : {A : Type 0} → (List A → A → Type 0) → List A → List A → Type 0
Following Q before [] = ⊥
Following Q before (a ∷ l) = Q before a ⊎ Following Q (a ∷ before) l

-- some element and a later one are as R says
abbrev pub Pair : {A : Type 0} → (A → A → Type 0) → List A → Type 0
Pair R [] = ⊥
Pair R (a ∷ l) = Among (R a) l ⊎ Pair R l

abbrev pub joined : {A B : Type 0} → (A → List B) → List A → List B
joined f [] = []
joined f (a ∷ l) = f a ++ joined f l

-- 'first place first': the places of a fault, and the first of them if there is one
abbrev pub Earliest : (ℕ → Type 0) → Option ℕ → Type 0
Earliest Fault none = (p : ℕ) → ¬ Fault p
Earliest Fault (some p) = Fault p × ((q : ℕ) → Fault q → p ≤ q)

pub record FirstPlace (Fault : ℕ → Type 0) (o : Option ℕ) : Type 0 where
  pub says : Earliest Fault o

-- a text's lines in its own order: parameters, definitions, MAIN
abbrev pub subsection_lines : Subsection → List TextLine
subsection_lines (Inputs ds) = map DeclarationLine ds
subsection_lines (Outputs ds) = map DeclarationLine ds
subsection_lines (Lines p es) = map FormulaLine es

abbrev pub text_lines : Spec → List TextLine
text_lines x = map (λ p. ParameterLine p.name p.value) x.parameters ++ (map DefinitionLine x.definitions ++ joined subsection_lines x.main)

-- the expression that a line is about, whole
abbrev pub expressions : TextLine → List Expr
expressions (ParameterLine x e) = e ∷ []
expressions (DefinitionLine (Defined x e)) = e ∷ []
expressions (DefinitionLine (Enumerated x is)) = []
expressions (DeclarationLine (OneSignal x)) = []
expressions (DeclarationLine (OfWidth x e)) = e ∷ []
expressions (DeclarationLine (OfType u x)) = []
expressions (FormulaLine e) = e ∷ []

-- 5. The operands of an expression
abbrev pub operands : Expr → List Expr
operands (Named t) = []
operands (Numeral t) = []
operands (Truth t b) = []
operands (Index t e) = e ∷ []
operands (Paren t e) = e ∷ []
operands (Prefixed t o e) = e ∷ []
operands (Joined t o a b) = a ∷ b ∷ []
operands (Nexts t n e) = n ∷ e ∷ []
operands (InWindow t o n m e) = n ∷ m ∷ e ∷ []
operands (Each t o further i s e) = s ∷ e ∷ []
operands (Between t l h a b) = a ∷ b ∷ []
operands (Listed t es) = es ∷ []
operands Empty = []
operands (Element e es) = e ∷ es ∷ []
operands (Range t x y z) = x ∷ y ∷ z ∷ []

-- 'a parenthesis or a leaf is a level', and so is every operator, but not a big operator's further names, the bounds of its name, or the list of a set's
-- elements
abbrev pub own_level : Expr → ℕ
own_level (Named t) = 1
own_level (Numeral t) = 1
own_level (Truth t b) = 1
own_level (Index t e) = 1
own_level (Paren t e) = 1
own_level (Prefixed t o e) = 1
own_level (Joined t o a b) = 1
own_level (Nexts t n e) = 1
own_level (InWindow t o n m e) = 1
own_level (Each t o false i s e) = 1
own_level (Each t o true i s e) = 0
own_level (Between t l h a b) = 0
own_level (Listed t es) = 1
own_level Empty = 0
own_level (Element e es) = 0
own_level (Range t x y z) = 1

-- k operands, each of the one before and the first of e, make n levels together with e
abbrev pub Nested : ℕ → Expr → ℕ → Type 0
Nested zero e n = n ≡ own_level e
Nested (suc k) e n = (m : ℕ) × Among (λ f. Nested k f m) (operands e) × (n ≡ own_level e + m)

-- 'expression trees 256 levels'
pub record Deep (e : Expr) : Type 0 where
  pub steps : ℕ
  pub levels : ℕ
  pub nested : Nested steps e levels
  pub more : max_levels < levels

-- 'tree too deep', at the 'outermost expression's first token'
abbrev pub DeepAt : Spec → ℕ → Type 0
DeepAt x p = Among (λ l. Among (λ e. Deep e × (p ≡ start e)) (expressions l)) (text_lines x)

-- 6. A name that is used, and the names of the big operators in whose rest it stands
pub record Use : Type 0 where
  pub name : Token
  pub inside : List Token

abbrev pub used : Token → Use
used t = record { name = t; inside = [] }

abbrev pub under : Token → Use → Use
under i u = record { name = u.name; inside = i ∷ u.inside }

-- 'a big operator's name in the rest of its operator': not in its own set
abbrev pub uses : Expr → List Use
uses (Named t) = used t ∷ []
uses (Numeral t) = []
uses (Truth t b) = []
uses (Index t e) = used t ∷ uses e
uses (Paren t e) = uses e
uses (Prefixed t o e) = uses e
uses (Joined t o a b) = uses a ++ uses b
uses (Nexts t n e) = uses n ++ uses e
uses (InWindow t o n m e) = uses n ++ (uses m ++ uses e)
uses (Each t o further i s e) = uses s ++ map (under i) (uses e)
uses (Between t l h a b) = uses a ++ uses b
uses (Listed t es) = uses es
uses Empty = []
uses (Element e es) = uses e ++ uses es
uses (Range t x y z) = uses x ++ (uses y ++ uses z)

abbrev pub uses_in : TextLine → List Use
uses_in (ParameterLine x e) = uses e
uses_in (DefinitionLine (Defined x e)) = uses e
uses_in (DefinitionLine (Enumerated x is)) = []
uses_in (DeclarationLine (OneSignal x)) = []
uses_in (DeclarationLine (OfWidth x e)) = uses e
uses_in (DeclarationLine (OfType u x)) = used u ∷ []
uses_in (FormulaLine e) = uses e

-- the names that a line declares: an enumeration's are its own and its identifiers'
abbrev pub brings : TextLine → List Token
brings (ParameterLine x e) = x ∷ []
brings (DefinitionLine (Defined x e)) = x ∷ []
brings (DefinitionLine (Enumerated x is)) = x ∷ map (λ i. i.name) is
brings (DeclarationLine d) = declared_name d ∷ []
brings (FormulaLine e) = []

abbrev pub signals_of : TextLine → List Token
signals_of (ParameterLine x e) = []
signals_of (DefinitionLine d) = []
signals_of (DeclarationLine d) = declared_name d ∷ []
signals_of (FormulaLine e) = []

abbrev pub Called : Token → List Token → Type 0
Called t ns = Among (λ n. n.text ≡ t.text) ns

-- 'A parameter, enumeration or definition is visible after its line, signals and buses everywhere, a big operator's name in the rest of its operator'
abbrev pub Visible : Spec → List TextLine → Use → Type 0
Visible x before u = Called u.name u.inside ⊎ Called u.name (joined brings before) ⊎ Called u.name (joined signals_of (text_lines x))

-- 'name not visible', at the 'name'
abbrev pub HiddenAt : Spec → ℕ → Type 0
HiddenAt x p = Following (λ before l. Among (λ u. (¬ Visible x before u) × (p ≡ u.name.at)) (uses_in l)) [] (text_lines x)

-- 8. 'too many names', at 'the 257th': 256 are declared before it
abbrev pub SurplusAt : Spec → ℕ → Type 0
SurplusAt x p = Following (λ before n. (length before ≡ max_names) × (p ≡ n.at)) [] (joined brings (text_lines x))

-- 10. The words of an enumeration in the text's order
abbrev pub words_of : List Identifier → List Token
words_of is = joined (λ i. i.words) is

-- 'words unequal, too long': unlike the first, or of more than 8 marks
abbrev pub UnlikeAt : List Token → ℕ → Type 0
UnlikeAt [] p = ⊥
UnlikeAt (v ∷ vs) p = Among (λ w. ((¬ length w.text ≡ length v.text) ⊎ (max_marks < length w.text)) × (p ≡ w.at)) (v ∷ vs)

-- 'or many': 16 stand before it
abbrev pub SeventeenthAt : List Token → ℕ → Type 0
SeventeenthAt vs p = Following (λ before w. (length before ≡ max_words) × (p ≡ w.at)) [] vs

-- a bus matches both words at some position of some infinite word
pub record OneValuation (u v : Token) : Type 0 where
  pub bus : List ℕ
  pub word : Word
  pub position : ℕ
  pub earlier : Matches bus u.text word position
  pub later : Matches bus v.text word position

-- 'or one valuation under two identifiers', at 'the later word'
abbrev pub SharedAt : List Identifier → ℕ → Type 0
SharedAt is p = Pair (λ i j. Among (λ u. Among (λ v. OneValuation u v × (p ≡ v.at)) j.words) i.words) is

abbrev pub BadWordAt : Definition → ℕ → Type 0
BadWordAt (Defined x e) p = ⊥
BadWordAt (Enumerated x is) p = UnlikeAt (words_of is) p ⊎ SeventeenthAt (words_of is) p ⊎ SharedAt is p

abbrev pub MiswordedAt : Spec → ℕ → Type 0
MiswordedAt x p = Among (λ d. BadWordAt d p) x.definitions

-- a text refused for a fault of its tree: the fault is at p, and nowhere before
pub record RefusedFor (Fault : Spec → ℕ → Type 0) (text : List ℕ) (p : ℕ) : Type 0 where
  pub tree : Spec
  pub read : spec_of (tokens text) ≡ Done tree
  pub here : Fault tree p
  pub before : (q : ℕ) → Fault tree q → p ≤ q

-- each element with each later one
abbrev pub Pairwise : {A : Type 0} → (A → A → Type 0) → List A → Type 0
Pairwise R [] = Unit {0}
Pairwise R (a ∷ l) = All (R a) l × Pairwise R l

-- no valuation matches words of both identifiers
abbrev pub Exclusive : Identifier → Identifier → Type 0
Exclusive i j = (x : List ℕ) (w : Word) (t : ℕ) → MatchesOne x i.words w t → ¬ MatchesOne x j.words w t

abbrev pub ExclusiveIn : Definition → Type 0
ExclusiveIn (Defined x e) = Unit {0}
ExclusiveIn (Enumerated x is) = Pairwise Exclusive is

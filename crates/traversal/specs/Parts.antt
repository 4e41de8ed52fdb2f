-- The tree of an expression by its entries: the parts that have an entry of their own, and the operands of each. A part is an expression or a big operator's name
-- with its set, and stands among names that are visible there.
use Rattle.std.specs.Prelude.{ℕ, List, [], ◌∷◌, Bool}
use Rattle.std.proofs.Math.Option.{Option, none, some}
use Rattle.language.specs.Tokens.{Token}
use Rattle.language.specs.Tree.{Expr, Named, Numeral, Truth, Index, Paren, Prefixed, Joined, Nexts, InWindow, Each, Between, Listed, Empty, Element, Range}
use Rattle.entries.specs.Kinds as Kind
use Rattle.entries.specs.Flat.{Entry, flat, under}

-- N: what is known of the visible names
pub data Part (N : Type 0) : Type 0 where
  Whole : N → Expr → Part N
  Binder : N → Bool → Token → Expr → Part N

abbrev pub flat_part : {N : Type 0} → Part N → List Entry
flat_part (Whole y e) = flat e
flat_part (Binder y further i s) = under (Kind.binder further) (some i) (flat s)

-- one thing, but none for the end of a set's elements
abbrev pub unless_empty : {B : Type 0} → Expr → B → List B
unless_empty (Named t) b = b ∷ []
unless_empty (Numeral t) b = b ∷ []
unless_empty (Truth t v) b = b ∷ []
unless_empty (Index t e) b = b ∷ []
unless_empty (Paren t e) b = b ∷ []
unless_empty (Prefixed t o e) b = b ∷ []
unless_empty (Joined t o x y) b = b ∷ []
unless_empty (Nexts t n e) b = b ∷ []
unless_empty (InWindow t o n m e) b = b ∷ []
unless_empty (Each t o further i s e) b = b ∷ []
unless_empty (Between t l h x y) b = b ∷ []
unless_empty (Listed t es) b = b ∷ []
unless_empty Empty b = []
unless_empty (Element e es) b = b ∷ []
unless_empty (Range t x y z) b = b ∷ []

-- The operands of a part. `bind` adds a big operator's name: it is visible 'in the rest of its operator'.
abbrev pub operands_of : {N : Type 0} → (Token → N → N) → Part N → List (Part N)
operands_of bind (Whole y (Named t)) = []
operands_of bind (Whole y (Numeral t)) = []
operands_of bind (Whole y (Truth t b)) = []
operands_of bind (Whole y (Index t e)) = Whole y e ∷ []
operands_of bind (Whole y (Paren t e)) = Whole y e ∷ []
operands_of bind (Whole y (Prefixed t o e)) = Whole y e ∷ []
operands_of bind (Whole y (Joined t o a b)) = Whole y a ∷ Whole y b ∷ []
operands_of bind (Whole y (Nexts t n e)) = Whole y n ∷ Whole y e ∷ []
operands_of bind (Whole y (InWindow t o n m e)) = Whole y n ∷ Whole y m ∷ Whole y e ∷ []
operands_of bind (Whole y (Each t o further i s e)) = Binder y further i s ∷ Whole (bind i y) e ∷ []
operands_of bind (Whole y (Between t l h a b)) = Whole y a ∷ Whole y b ∷ []
operands_of bind (Whole y (Listed t es)) = unless_empty es (Whole y es)
operands_of bind (Whole y Empty) = []
operands_of bind (Whole y (Element e es)) = Whole y e ∷ unless_empty es (Whole y es)
operands_of bind (Whole y (Range t a b c)) = Whole y a ∷ Whole y b ∷ Whole y c ∷ []
operands_of bind (Binder y further i s) = Whole y s ∷ []

-- the kind and the token of a part's own entry; the end of a set's elements has none
abbrev pub kind_of : {N : Type 0} → Part N → ℕ
kind_of (Whole y (Named t)) = Kind.named
kind_of (Whole y (Numeral t)) = Kind.numeral
kind_of (Whole y (Truth t b)) = Kind.truth
kind_of (Whole y (Index t e)) = Kind.index
kind_of (Whole y (Paren t e)) = Kind.paren
kind_of (Whole y (Prefixed t o e)) = Kind.before o
kind_of (Whole y (Joined t o a b)) = Kind.joining o
kind_of (Whole y (Nexts t n e)) = Kind.nexts
kind_of (Whole y (InWindow t o n m e)) = Kind.window
kind_of (Whole y (Each t o further i s e)) = Kind.big o
kind_of (Whole y (Between t l h a b)) = Kind.between h
kind_of (Whole y (Listed t es)) = Kind.listed
kind_of (Whole y Empty) = Kind.heading
kind_of (Whole y (Element e es)) = Kind.element
kind_of (Whole y (Range t a b c)) = Kind.range
kind_of (Binder y further i s) = Kind.binder further

abbrev pub token_of : {N : Type 0} → Part N → Option Token
token_of (Whole y (Named t)) = some t
token_of (Whole y (Numeral t)) = some t
token_of (Whole y (Truth t b)) = some t
token_of (Whole y (Index t e)) = some t
token_of (Whole y (Paren t e)) = some t
token_of (Whole y (Prefixed t o e)) = some t
token_of (Whole y (Joined t o a b)) = some t
token_of (Whole y (Nexts t n e)) = some t
token_of (Whole y (InWindow t o n m e)) = some t
token_of (Whole y (Each t o further i s e)) = some t
token_of (Whole y (Between t l h a b)) = some t
token_of (Whole y (Listed t es)) = some t
token_of (Whole y Empty) = none
token_of (Whole y (Element e es)) = none
token_of (Whole y (Range t a b c)) = some t
token_of (Binder y further i s) = some i

-- What holds of all entries of a list's elements; the kinds of an expression's entries stand before those of lines.
use Rattle.std.specs.Prelude.{ℕ, suc, ◌+◌, ◌<◌, Bool, true, false, List, [], ◌∷◌, ◌++◌, ◌≡◌, length}
use Rattle.std.proofs.Math.Option.{Option, some}
use Rattle.std.proofs.Common.{length-append, arith}
use Rattle.language.specs.Tokens.{Token}
use Rattle.language.specs.Operators.{
  Comparison,
  Equal,
  Unequal,
  Less,
  AtMost,
  Greater,
  AtLeast,
  Big,
  BigSum,
  BigProduct,
  BigCap,
  BigCup,
  BigAnd,
  BigOr,
  Infix,
  Calculates,
  Combines,
  Compares,
  Membership,
  Connects,
  Prefix,
  Measures,
  WidthOf,
  Applies,
}
use Rattle.language.specs.Tree.{Expr, Named, Numeral, Truth, Index, Paren, Prefixed, Joined, Nexts, InWindow, Each, Between, Listed, Empty, Element, Range}
use Rattle.language.proofs.Laws.Basics.Lists.{All, all_any, all_append}
use Rattle.entries.specs.Kinds as Kind
use Rattle.entries.specs.Flat.{Entry, under, flat, each}

-- of lists of entries, one for each element
pub all-each_where : {A : Type 0} {R : A → Type 0} (P : Entry → Type 0) (f : A → List Entry) → ((a : A) → R a → All P (f a)) → (l : List A) → All R l → All P (each f l)
all-each_where P f g [] h = tt
all-each_where P f g (a ∷ l) h = all_append P (f a) (each f l) (g a h.0) (all-each_where P f g l h.1)

pub all-each : {A : Type 0} (P : Entry → Type 0) (f : A → List Entry) → ((a : A) → All P (f a)) → (l : List A) → All P (each f l)
all-each P f g l = all-each_where P f (λ a _. g a) l (all_any l)

-- an entry behind those of its operands is one more
pub own-more : (k : ℕ) (t : Option Token) (es : List Entry) → length (under k t es) ≡ length es + 1
own-more k t es = length-append es (record { kind = k; token = t; size = suc (length es) } ∷ [])

abbrev Low : ℕ → Type 0
Low k = k < Kind.parameter

before-low : (o : Prefix) → Low (Kind.before o)
before-low (Measures m) = omega arith
before-low WidthOf = omega arith
before-low (Applies o) = omega arith

comparison-low : (o : Comparison) → Low (Kind.comparison o)
comparison-low Equal = omega arith
comparison-low Unequal = omega arith
comparison-low Less = omega arith
comparison-low AtMost = omega arith
comparison-low Greater = omega arith
comparison-low AtLeast = omega arith

joining-low : (o : Infix) → Low (Kind.joining o)
joining-low (Calculates o) = omega arith
joining-low (Combines o) = omega arith
joining-low (Compares o) = comparison-low o
joining-low Membership = omega arith
joining-low (Connects o) = omega arith

big-low : (o : Big) → Low (Kind.big o)
big-low BigSum = omega arith
big-low BigProduct = omega arith
big-low BigCap = omega arith
big-low BigCup = omega arith
big-low BigAnd = omega arith
big-low BigOr = omega arith

binder-low : (further : Bool) → Low (Kind.binder further)
binder-low false = omega arith
binder-low true = omega arith

between-low : (h : Bool) → Low (Kind.between h)
between-low false = omega arith
between-low true = omega arith

abbrev pub Inside : Entry → Type 0
Inside n = n.kind < Kind.parameter

over : (k : ℕ) (t : Option Token) (es : List Entry) → Low k → All Inside es → All Inside (under k t es)
over k t es l h = all_append Inside es _ h (l, tt)

two : (es fs : List Entry) → All Inside es → All Inside fs → All Inside (es ++ fs)
two es fs h g = all_append Inside es fs h g

pub flat-inside : (e : Expr) → All Inside (flat e)
flat-inside (Named t) = (omega arith, tt)
flat-inside (Numeral t) = (omega arith, tt)
flat-inside (Truth t b) = (omega arith, tt)
flat-inside (Index t e) = over Kind.index _ (flat e) (omega arith) (flat-inside e)
flat-inside (Paren t e) = over Kind.paren _ (flat e) (omega arith) (flat-inside e)
flat-inside (Prefixed t o e) = over (Kind.before o) _ (flat e) (before-low o) (flat-inside e)
flat-inside (Joined t o a b) = over (Kind.joining o) _ (flat a ++ flat b) (joining-low o) (two (flat a) (flat b) (flat-inside a) (flat-inside b))
flat-inside (Nexts t n e) = over Kind.nexts _ (flat n ++ flat e) (omega arith) (two (flat n) (flat e) (flat-inside n) (flat-inside e))
flat-inside (InWindow t o n m e) = over Kind.window _ (flat n ++ (flat m ++ flat e)) (omega arith)
    (two (flat n) (flat m ++ flat e) (flat-inside n) (two (flat m) (flat e) (flat-inside m) (flat-inside e)))
flat-inside (Each t o further i s e) =
    let b = under (Kind.binder further) (some i) (flat s) in
    over (Kind.big o) _ (b ++ flat e) (big-low o) (two b (flat e) (over (Kind.binder further) _ (flat s) (binder-low further) (flat-inside s)) (flat-inside e))
flat-inside (Between t l h a b) = over (Kind.between h) _ (flat a ++ flat b) (between-low h) (two (flat a) (flat b) (flat-inside a) (flat-inside b))
flat-inside (Listed t es) = over Kind.listed _ (flat es) (omega arith) (flat-inside es)
flat-inside Empty = tt
flat-inside (Element e es) = over Kind.element _ (flat e ++ flat es) (omega arith) (two (flat e) (flat es) (flat-inside e) (flat-inside es))
flat-inside (Range t x y z) = over Kind.range _ (flat x ++ (flat y ++ flat z)) (omega arith) (two (flat x) (flat y ++ flat z) (flat-inside x) (two (flat y) (flat z) (flat-inside y) (flat-inside z)))

-- A part's entries are those of its operands, then its own; and it has as many operands as its kind says.
use Rattle.std.specs.Prelude.{ℕ, suc, List, [], ◌∷◌, ◌++◌, Bool, true, false, ◌≡◌, refl, eqb, ltb, length}
use Rattle.std.proofs.Common.{append-nil, sym, ap, length-append, arith}
use Rattle.std.proofs.lemmas.Bool.{false≢true, eqb-false}
use Rattle.std.proofs.Math.Option.{none, some}
use Rattle.language.specs.Tokens.{Token}
use Rattle.language.specs.Tree.{Expr, Named, Numeral, Truth, Index, Paren, Prefixed, Joined, Nexts, InWindow, Each, Between, Listed, Empty, Element, Range}
use Rattle.language.specs.Braces.{Proper}
use Rattle.language.proofs.Laws.Basics.Lists.{All}
use Rattle.entries.specs.Kinds as Kind
use Rattle.entries.specs.Flat.{flat, under, each}
use Rattle.traversal.specs.declared.Cell.{Cell}
use Rattle.traversal.specs.Arity.{operands, first_line}
use Rattle.traversal.specs.Parts.{Part, Whole, Binder, flat_part, unless_empty, operands_of, kind_of, token_of}
use Rattle.traversal.specs.ArityLaws.{
  Plain,
  plain,
  truth-plain,
  before-plain,
  joining-plain,
  window-plain,
  big-plain,
  binder-plain,
  between-plain,
  plain-operands,
  empty-operands,
  filled-operands,
  last-operands,
  more-operands,
}

-- what is to be shown of an operand that may be an empty list
pub unless-cases : {B : Type 0} (f : Expr → B) (P : Expr → List B → Type 0) → P Empty [] → ((e : Expr) → P e (f e ∷ [])) → (e : Expr) → P e (unless_empty e (f e))
unless-cases f P n h (Named t) = h (Named t)
unless-cases f P n h (Numeral t) = h (Numeral t)
unless-cases f P n h (Truth t v) = h (Truth t v)
unless-cases f P n h (Index t e) = h (Index t e)
unless-cases f P n h (Paren t e) = h (Paren t e)
unless-cases f P n h (Prefixed t o e) = h (Prefixed t o e)
unless-cases f P n h (Joined t o a b) = h (Joined t o a b)
unless-cases f P n h (Nexts t m e) = h (Nexts t m e)
unless-cases f P n h (InWindow t o l m e) = h (InWindow t o l m e)
unless-cases f P n h (Each t o further i s e) = h (Each t o further i s e)
unless-cases f P n h (Between t l u a b) = h (Between t l u a b)
unless-cases f P n h (Listed t es) = h (Listed t es)
unless-cases f P n h Empty = n
unless-cases f P n h (Element e es) = h (Element e es)
unless-cases f P n h (Range t a b c) = h (Range t a b c)

pub unless-all : {B : Type 0} (Q : B → Type 0) (e : Expr) (b : B) → Q b → All Q (unless_empty e b)
unless-all Q e b h = unless-cases (λ _. b) (λ _ xs. All Q xs) tt (λ _. (h, tt)) e

-- an expression outside braces is not empty
pub outside : {B : Type 0} (Q : B → Type 0) (e : Expr) (b : B) → Proper false e → All Q (unless_empty e b) → Q b
outside Q (Named t) b p h = h.0
outside Q (Numeral t) b p h = h.0
outside Q (Truth t v) b p h = h.0
outside Q (Index t e) b p h = h.0
outside Q (Paren t e) b p h = h.0
outside Q (Prefixed t o e) b p h = h.0
outside Q (Joined t o x y) b p h = h.0
outside Q (Nexts t n e) b p h = h.0
outside Q (InWindow t o n m e) b p h = h.0
outside Q (Each t o further i s e) b p h = h.0
outside Q (Between t l u x y) b p h = h.0
outside Q (Listed t es) b p h = h.0
outside Q Empty b p h = absurd (false≢true p)
outside Q (Element e es) b p h = h.0
outside Q (Range t x y z) b p h = h.0

-- the kind of the entry before, after some parts
abbrev pub kind_after : {N : Type 0} → ℕ → List (Part N) → ℕ
kind_after before [] = before
kind_after before (q ∷ qs) = kind_after (kind_of q) qs

-- as many operands as the kind says: c is the part's own cell
abbrev pub Counted : {N : Type 0} → (Token → N → N) → Part N → Type 0
Counted bind q =
    (before : ℕ) (c : Cell) → c.kind ≡ kind_of q → c.size ≡ suc (length (each flat_part (operands_of bind q))) →
    operands (kind_after before (operands_of bind q)) c ≡ length (operands_of bind q)

-- a part that has an entry of its own, behind those of its operands
pub record Regular {N : Type 0} (bind : Token → N → N) (q : Part N) : Type 0 where
  pub entries : flat_part q ≡ under (kind_of q) (token_of q) (each flat_part (operands_of bind q))
  pub inner : ltb (kind_of q) first_line ≡ true
  pub count : Counted bind q

module _ {N : Type 0} (bind : Token → N → N) where
  rest-entries : (y : N) (e : Expr) → each flat_part (unless_empty e (Whole y e)) ≡ flat e
  rest-entries y e = unless-cases (Whole y) (λ e qs. each flat_part qs ≡ flat e) refl (λ e. append-nil (flat e)) e

  -- no expression outside braces has an entry of an element's kind
  not-element : (y : N) (e : Expr) → Proper false e → eqb (kind_of (Whole y e)) Kind.element ≡ false
  not-element y (Named t) p = refl
  not-element y (Numeral t) p = refl
  not-element y (Truth t v) p = truth-plain.other
  not-element y (Index t e) p = refl
  not-element y (Paren t e) p = refl
  not-element y (Prefixed t o e) p = (before-plain o).other
  not-element y (Joined t o a b) p = (joining-plain o).other
  not-element y (Nexts t n e) p = refl
  not-element y (InWindow t o n m e) p = window-plain.other
  not-element y (Each t o further i s e) p = (big-plain o).other
  not-element y (Between t l u a b) p = (between-plain u).other
  not-element y (Listed t es) p = refl
  not-element y Empty p = refl
  not-element y (Element e es) p = absurd (false≢true p.0)
  not-element y (Range t a b c) p = refl

  -- what is to be shown of elements in braces holds if it holds of none and of some
  in-braces : (Q : Expr → Type 0) → Q Empty → ((e es : Expr) → Proper false e → Proper true es → Q (Element e es)) → (es : Expr) → Proper true es → Q es
  in-braces Q base step (Named u) p = absurd (false≢true (sym p.0))
  in-braces Q base step (Numeral u) p = absurd (false≢true (sym p.0))
  in-braces Q base step (Truth u v) p = absurd (false≢true (sym p.0))
  in-braces Q base step (Index u e) p = absurd (false≢true (sym p.0))
  in-braces Q base step (Paren u e) p = absurd (false≢true (sym p.0))
  in-braces Q base step (Prefixed u o e) p = absurd (false≢true (sym p.0.0))
  in-braces Q base step (Joined u o a b) p = absurd (false≢true (sym p.0.0))
  in-braces Q base step (Nexts u n e) p = absurd (false≢true (sym p.0))
  in-braces Q base step (InWindow u o n m e) p = absurd (false≢true (sym p.0.0))
  in-braces Q base step (Each u o further i s e) p = absurd (false≢true (sym p.0.0))
  in-braces Q base step (Between u l h a b) p = absurd (false≢true (sym p.0.0))
  in-braces Q base step (Listed u es) p = absurd (false≢true (sym p.0))
  in-braces Q base step Empty p = base
  in-braces Q base step (Element e es) p = step e es p.1 p.2
  in-braces Q base step (Range u a b d) p = absurd (false≢true (sym p.0))

  listed-counted : (y : N) (t : Token) (es : Expr) → Proper true es → Counted bind (Whole y (Listed t es))
  listed-counted y t =
      in-braces (λ es. Counted bind (Whole y (Listed t es))) (λ before c k n. empty-operands before c k n)
      (λ e es _ _ before c k n. filled-operands _ c k (λ z. omega (arith, simp (append-nil, length-append) at n)))

  element-counted : (y : N) (e es : Expr) → Proper false e → Proper true es → Counted bind (Whole y (Element e es))
  element-counted y e es p =
      in-braces (λ es. Counted bind (Whole y (Element e es))) (λ before c k n. last-operands _ c k (eqb-false _ _ (not-element y e p)))
      (λ _ _ _ _ before c k n. more-operands _ c k refl)
      es

  -- a part of a kind with always n operands
  plainly : (q : Part N) → Plain (length (operands_of bind q)) (kind_of q) → flat_part q ≡ under (kind_of q) (token_of q) (each flat_part (operands_of bind q)) → Regular bind q
  plainly q h e = record { entries = e; inner = h.part; count = λ before c k n. plain-operands h _ c k }

  pub regular : (b : Bool) (y : N) (e : Expr) → Proper b e → All (Regular bind) (unless_empty e (Whole y e))
  regular b y (Named t) p = (plainly _ (plain _ _ refl) refl, tt)
  regular b y (Numeral t) p = (plainly _ (plain _ _ refl) refl, tt)
  regular b y (Truth t v) p = (plainly _ (truth-plain) refl, tt)
  regular b y (Index t e) p = (plainly _ (plain _ _ refl) (simp append-nil), tt)
  regular b y (Paren t e) p = (plainly _ (plain _ _ refl) (simp append-nil), tt)
  regular b y (Prefixed t o e) p = (plainly _ (before-plain o) (simp append-nil), tt)
  regular b y (Joined t o a e) p = (plainly _ (joining-plain o) (simp append-nil), tt)
  regular b y (Nexts t n e) p = (plainly _ (plain _ _ refl) (simp append-nil), tt)
  regular b y (InWindow t o n m e) p = (plainly _ window-plain (simp append-nil), tt)
  regular b y (Each t o further i s e) p = (plainly _ (big-plain o) (simp append-nil), tt)
  regular b y (Between t l u a e) p = (plainly _ (between-plain u) (simp append-nil), tt)
  regular b y (Listed t es) p =
      (record { entries = ap (under Kind.listed (some t)) (sym (rest-entries y es)); inner = refl; count = listed-counted y t es p.1 }, tt)
  regular b y Empty p = tt
  regular b y (Element e es) p =
      (record { entries = ap (λ r. under Kind.element none (flat e ++ r)) (sym (rest-entries y es)); inner = refl; count = element-counted y e es p.1 p.2 }, tt)
  regular b y (Range t a e d) p = (plainly _ (plain _ _ refl) (simp append-nil), tt)

  pub regular-binder : (y : N) (further : Bool) (i : Token) (s : Expr) → Regular bind (Binder y further i s)
  regular-binder y further i s = plainly _ (binder-plain further) (simp append-nil)

-- Every part of a tree has as many operands as its kind says, and its entries are those of its operands and its own.
use Rattle.std.specs.Prelude.{ℕ, Bool, true, false, ◌&&◌, not, ◌≡◌, refl, ltb, get_or}
use Rattle.std.proofs.Common.{sym, ap, ◌∙◌, eqb-true, eq-eqb, ne_eqb}
use Rattle.std.proofs.Math.Dec.{eqb}
use Rattle.std.proofs.lemmas.Bool.{eqb-false, not-true}
use Rattle.language.specs.Bytes.{if◌then◌otherwise◌}
use Rattle.language.specs.Operators.{Equal, Unequal, Less, AtMost, Greater, AtLeast, Big, BigSum, BigProduct, BigCap, BigCup, BigAnd, BigOr, Infix, Calculates, Combines, Compares, Membership, Connects, Prefix, Measures, WidthOf, Applies}
use Rattle.language.proofs.Laws.Basics.Tests.{and_left, and_right, pick, leave}
use Rattle.entries.specs.Kinds as Kind
use Rattle.traversal.specs.declared.Cell.{Cell}
use Rattle.traversal.specs.Arity.{arities, operands, first_line}

-- a kind with always n operands, of an expression and not of a line
pub record Plain (n k : ℕ) : Type 0 where
  pub other : eqb k Kind.element ≡ false
  pub unlisted : eqb k Kind.listed ≡ false
  pub part : ltb k first_line ≡ true
  pub arity : get_or arities k 0 ≡ n

abbrev plainly : ℕ → ℕ → Bool
plainly n k = not (eqb k Kind.element) && (not (eqb k Kind.listed) && (ltb k first_line && eqb (get_or arities k 0) n))

pub plain : (n k : ℕ) → plainly n k ≡ true → Plain n k
plain n k h =
    let g = and_right (not (eqb k Kind.element)) _ h in
    let f = and_right (not (eqb k Kind.listed)) _ g in
    record {
      other = not-true _ (and_left (not (eqb k Kind.element)) _ h);
      unlisted = not-true _ (and_left (not (eqb k Kind.listed)) _ g);
      part = and_left (ltb k first_line) _ f;
      arity = eqb-true _ _ (and_right (ltb k first_line) _ f);
    }

pub truth-plain : Plain 0 Kind.truth
truth-plain = plain _ _ refl

pub before-plain : (o : Prefix) → Plain 1 (Kind.before o)
before-plain (Measures m) = plain _ _ refl
before-plain WidthOf = plain _ _ refl
before-plain (Applies o) = plain _ _ refl

pub joining-plain : (o : Infix) → Plain 2 (Kind.joining o)
joining-plain (Calculates o) = plain _ _ refl
joining-plain (Combines o) = plain _ _ refl
joining-plain (Compares Equal) = plain _ _ refl
joining-plain (Compares Unequal) = plain _ _ refl
joining-plain (Compares Less) = plain _ _ refl
joining-plain (Compares AtMost) = plain _ _ refl
joining-plain (Compares Greater) = plain _ _ refl
joining-plain (Compares AtLeast) = plain _ _ refl
joining-plain Membership = plain _ _ refl
joining-plain (Connects o) = plain _ _ refl

pub window-plain : Plain 3 Kind.window
window-plain = plain _ _ refl

pub big-plain : (o : Big) → Plain 2 (Kind.big o)
big-plain BigSum = plain _ _ refl
big-plain BigProduct = plain _ _ refl
big-plain BigCap = plain _ _ refl
big-plain BigCup = plain _ _ refl
big-plain BigAnd = plain _ _ refl
big-plain BigOr = plain _ _ refl

pub binder-plain : (further : Bool) → Plain 1 (Kind.binder further)
binder-plain true = plain _ _ refl
binder-plain false = plain _ _ refl

pub between-plain : (h : Bool) → Plain 2 (Kind.between h)
between-plain true = plain _ _ refl
between-plain false = plain _ _ refl

-- as the code tests
module _ (before : ℕ) (c : Cell) where
  pub more-operands : c.kind ≡ Kind.element → before ≡ Kind.element → operands before c ≡ 2
  unfolding operands
  more-operands k b = pick (eqb c.kind Kind.element) _ _ (eq-eqb _ _ k) ∙ pick (eqb before Kind.element) _ _ (eq-eqb _ _ b)

  pub last-operands : c.kind ≡ Kind.element → (before ≡ Kind.element → ⊥) → operands before c ≡ 1
  unfolding operands
  last-operands k b = pick (eqb c.kind Kind.element) _ _ (eq-eqb _ _ k) ∙ leave (eqb before Kind.element) _ _ (ne_eqb _ _ b)

  listed-operands : c.kind ≡ Kind.listed → operands before c ≡ (if eqb c.size 1 then 0 otherwise 1)
  unfolding operands
  listed-operands k = leave (eqb c.kind Kind.element) _ _ (ap (λ j. eqb j Kind.element) k) ∙ pick (eqb c.kind Kind.listed) _ _ (eq-eqb _ _ k)

  pub empty-operands : c.kind ≡ Kind.listed → c.size ≡ 1 → operands before c ≡ 0
  empty-operands k n = listed-operands k ∙ pick (eqb c.size 1) _ _ (eq-eqb _ _ n)

  pub filled-operands : c.kind ≡ Kind.listed → (c.size ≡ 1 → ⊥) → operands before c ≡ 1
  filled-operands k n = listed-operands k ∙ leave (eqb c.size 1) _ _ (ne_eqb _ _ n)

  pub other_operands : (c.kind ≡ Kind.element → ⊥) → (c.kind ≡ Kind.listed → ⊥) → operands before c ≡ get_or arities c.kind 0
  unfolding operands
  other_operands e l = leave (eqb c.kind Kind.element) _ _ (ne_eqb _ _ e) ∙ leave (eqb c.kind Kind.listed) _ _ (ne_eqb _ _ l)

pub fixed-operands : {n : ℕ} (k before : ℕ) (c : Cell) → c.kind ≡ k → eqb k Kind.element ≡ false → eqb k Kind.listed ≡ false → get_or arities k 0 ≡ n → operands before c ≡ n
fixed-operands k before c e other unlisted arity =
    other_operands before c (λ z. eqb-false k _ other (sym e ∙ z)) (λ z. eqb-false k _ unlisted (sym e ∙ z)) ∙ ap (λ j. get_or arities j 0) e ∙ arity

pub plain-operands : {n k : ℕ} → Plain n k → (before : ℕ) (c : Cell) → c.kind ≡ k → operands before c ≡ n
plain-operands {n} {k} h before c e = fixed-operands k before c e h.other h.unlisted h.arity

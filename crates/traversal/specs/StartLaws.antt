-- Where an expression starts, by the kind of its entry, is where the definition says.
use Rattle.std.specs.Prelude.{ℕ, map, Bool, true, false, ◌≡◌, refl, ltb, get_or}
use Rattle.std.proofs.lemmas.Bool.{false≢true}
use Rattle.std.proofs.Math.Path.{ap}
use Rattle.std.proofs.Common.{◌∙◌, arith, eq-eqb, ne_eqb}
use Rattle.std.proofs.Math.Dec.{eqb}
use Rattle.language.specs.Bytes.{if◌then◌otherwise◌}
use Rattle.language.specs.Tokens.{Token}
use Rattle.language.specs.Operators.{Equal, Unequal, Less, AtMost, Greater, AtLeast, Big, BigSum, BigProduct, BigCap, BigCup, BigAnd, BigOr, Infix, Calculates, Combines, Compares, Membership, Connects, Prefix, Measures, WidthOf, Applies}
use Rattle.language.specs.Tree.{Named, Numeral, Truth, Index, Paren, Prefixed, Joined, Nexts, InWindow, Each, Between, Listed, Empty, Element, Range}
use Rattle.language.proofs.Laws.Basics.Tests.{pick, leave}
use Rattle.entries.specs.Kinds as Kind
use Rattle.traversal.specs.Arity.{first_line}
use Rattle.traversal.specs.Cells.{Told}
use Rattle.traversal.specs.Parts.{Part, Whole, Binder, operands_of, kind_of, token_of}
use Rattle.traversal.specs.Starts.{starting, start_of, first_of, start_part, AtPlace}

-- the ways through the definition
module _ (k x s : ℕ) where
  pub start_by : (v : ℕ) → v ≡ get_or starting k 0 → (if eqb v 1 then s otherwise (if eqb v 2 then k otherwise x)) ≡ start_of k x s
  unfolding start_of
  start_by v e = ap (λ u. if eqb u 1 then s otherwise (if eqb u 2 then k otherwise x)) e

  by_operand : get_or starting k 0 ≡ 1 → start_of k x s ≡ s
  unfolding start_of
  by_operand e = pick (eqb (get_or starting k 0) 1) _ _ (eq-eqb _ _ e)

  by_kind : (get_or starting k 0 ≡ 1 → ⊥) → get_or starting k 0 ≡ 2 → start_of k x s ≡ k
  unfolding start_of
  by_kind e d = leave (eqb (get_or starting k 0) 1) _ _ (ne_eqb _ _ e) ∙ pick (eqb (get_or starting k 0) 2) _ _ (eq-eqb _ _ d)

  by_token : (get_or starting k 0 ≡ 1 → ⊥) → (get_or starting k 0 ≡ 2 → ⊥) → start_of k x s ≡ x
  unfolding start_of
  by_token e d = leave (eqb (get_or starting k 0) 1) _ _ (ne_eqb _ _ e) ∙ leave (eqb (get_or starting k 0) 2) _ _ (ne_eqb _ _ d)

  own : {p : ℕ} → get_or starting k 0 ≡ 0 → x ≡ p → start_of k x s ≡ p
  own e h = by_token (λ z. omega arith) (λ z. omega arith) ∙ h

truth-starts : get_or starting Kind.truth 0 ≡ 0
truth-starts = refl

before-starts : (o : Prefix) → get_or starting (Kind.before o) 0 ≡ 0
before-starts (Measures m) = refl
before-starts WidthOf = refl
before-starts (Applies o) = refl

joining-starts : (o : Infix) → get_or starting (Kind.joining o) 0 ≡ 1
joining-starts (Calculates o) = refl
joining-starts (Combines o) = refl
joining-starts (Compares Equal) = refl
joining-starts (Compares Unequal) = refl
joining-starts (Compares Less) = refl
joining-starts (Compares AtMost) = refl
joining-starts (Compares Greater) = refl
joining-starts (Compares AtLeast) = refl
joining-starts Membership = refl
joining-starts (Connects o) = refl

window-starts : get_or starting Kind.window 0 ≡ 0
window-starts = refl

big-starts : (o : Big) → get_or starting (Kind.big o) 0 ≡ 0
big-starts BigSum = refl
big-starts BigProduct = refl
big-starts BigCap = refl
big-starts BigCup = refl
big-starts BigAnd = refl
big-starts BigOr = refl

binder-starts : (further : Bool) → get_or starting (Kind.binder further) 0 ≡ 2
binder-starts true = refl
binder-starts false = refl

between-starts : (h : Bool) → get_or starting (Kind.between h) 0 ≡ 1
between-starts true = refl
between-starts false = refl

module _ {N : Type 0} (bind : Token → N → N) where
  pub starts : (q : Part N) (x : ℕ) → Told AtPlace x (token_of q) → ltb (kind_of q) first_line ≡ true → start_of (kind_of q) x (first_of (map start_part (operands_of bind q))) ≡ start_part q
  starts (Whole y (Named t)) x h i = own _ x _ refl h
  starts (Whole y (Numeral t)) x h i = own _ x _ refl h
  starts (Whole y (Truth t b)) x h i = own _ x _ truth-starts h
  starts (Whole y (Index t e)) x h i = own _ x _ refl h
  starts (Whole y (Paren t e)) x h i = own _ x _ refl h
  starts (Whole y (Prefixed t o e)) x h i = own _ x _ (before-starts o) h
  starts (Whole y (Joined t o a b)) x h i = by_operand _ x _ (joining-starts o)
  starts (Whole y (Nexts t n e)) x h i = own _ x _ refl h
  starts (Whole y (InWindow t o n m e)) x h i = own _ x _ window-starts h
  starts (Whole y (Each t o further j s e)) x h i = own _ x _ (big-starts o) h
  starts (Whole y (Between t l u a b)) x h i = by_operand _ x _ (between-starts u)
  starts (Whole y (Listed t es)) x h i = own _ x _ refl h
  starts (Whole y Empty) x h i = absurd (false≢true i)
  starts (Whole y (Element e es)) x h i = by_operand _ x _ refl
  starts (Whole y (Range t a b c)) x h i = own _ x _ refl h
  starts (Binder y further j s) x h i = by_kind _ x _ (λ z. omega (arith, binder-starts further)) (binder-starts further)

-- The first of several places, whatever their order; what holds where a refusal finds no place: every test that could give one has passed.
use Rattle.std.specs.Prelude.{ℕ, ◌≡◌, refl, Bool, true, false, List, [], ◌∷◌}
use Rattle.std.proofs.Common.{ap, arith}
use Rattle.std.proofs.Math.Option.{Option, none, some}
use Rattle.node.specs.Result.{Result, Done}
use Rattle.node.proofs.ResultLaws.{not_done}
use Rattle.language.specs.Places.{first, first_in, unless, refuse_at}
use Rattle.language.proofs.Laws.Basics.Lists.{All}
use Rattle.language.proofs.Laws.Basics.Tests.{some_none}

pub first_none : (p : Option ℕ) → first p none ≡ p
first_none none = refl
first_none (some p) = refl

pub first_assoc : (p q r : Option ℕ) → first (first p q) r ≡ first p (first q r)
first_assoc none q r = refl
first_assoc (some p) none r = refl
first_assoc (some p) (some q) none = refl
first_assoc (some p) (some q) (some r) = ap some (omega arith)

pub first_comm : (p q : Option ℕ) → first p q ≡ first q p
first_comm none none = refl
first_comm none (some q) = refl
first_comm (some p) none = refl
first_comm (some p) (some q) = ap some (omega arith)

pub first-left : (p q : Option ℕ) → first p q ≡ none → p ≡ none
first-left none q e = refl
first-left (some p) none e = e
first-left (some p) (some q) e = absurd (some_none e)

pub first-right : (p q : Option ℕ) → first p q ≡ none → q ≡ none
first-right none q e = e
first-right (some p) none e = refl
first-right (some p) (some q) e = absurd (some_none e)

pub first_in_none : {A : Type 0} (f : A → Option ℕ) (l : List A) → first_in f l ≡ none → All (λ a. f a ≡ none) l
first_in_none f [] e = tt
first_in_none f (a ∷ l) e = (first-left (f a) (first_in f l) e, first_in_none f l (first-right (f a) (first_in f l) e))

pub unless_none : (b : Bool) (p : ℕ) → unless b p ≡ none → b ≡ true
unless_none true p e = refl
unless_none false p e = absurd (some_none e)

pub refuse_at-done : {A : Type 0} (n : ℕ) (q : Option ℕ) (r : Result A) {a : A} → refuse_at n q r ≡ Done a → (q ≡ none) × (r ≡ Done a)
unfolding refuse_at
refuse_at-done n none r e = (refl, e)
refuse_at-done n (some p) r e = absurd (not_done e)

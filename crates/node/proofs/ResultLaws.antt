-- How answers by cases are taken apart.
use Rattle.std.specs.Prelude.{ℕ, ◌≡◌, refl, Bool, true, false}
use Rattle.std.proofs.Common.{ap, arith}
use Rattle.node.specs.Result.{Result, Done, Refused, guard, ◌>>=◌}

-- a test that passes, and one that fails
pub guard-pass : {A : Type 0} {b : Bool} (number place : ℕ) (r : Result A) → b ≡ true → guard b number place r ≡ r
unfolding guard
guard-pass number place r e = rw e

pub guard-stop : {A : Type 0} {b : Bool} (number place : ℕ) (r : Result A) → b ≡ false → guard b number place r ≡ Refused number place
unfolding guard
guard-stop number place r e = rw e

-- a refusal is no accepted answer
pub not_done : {A : Type 0} {number place : ℕ} {a : A} → Refused number place ≡ Done a → ⊥
not_done e = let z : ◌≡◌ {A = ℕ} 0 1 = cc in omega arith

-- what was accepted has passed the test
pub guard-done : {A : Type 0} (b : Bool) (number place : ℕ) (r : Result A) {a : A} → guard b number place r ≡ Done a → (b ≡ true) × (r ≡ Done a)
unfolding guard
guard-done true number place r e = (refl, e)
guard-done false number place r e = absurd (not_done e)

-- the number of a refusal
unfoldable pub number_of : {A : Type 0} → Result A → ℕ
number_of (Done x) = 0
number_of (Refused number p) = number

-- a refusal with another number comes from behind the test
pub guard_other : {A : Type 0} (b : Bool) (m q : ℕ) (r : Result A) {number p : ℕ} → (m ≡ number → ⊥) → guard b m q r ≡ Refused number p → r ≡ Refused number p
unfolding guard number_of
guard_other true m q r f e = e
guard_other false m q r f e = absurd (f (ap number_of e))

-- a test passes or fails whatever comes behind it
pub guard-refused : {A B : Type 0} (b : Bool) (number place : ℕ) (r : Result A) (s : Result B) {n p : ℕ} → (r ≡ Refused n p → s ≡ Refused n p) → guard b number place r ≡ Refused n p
    → guard b number place s ≡ Refused n p
unfolding guard
guard-refused true number place r s f e = f e
guard-refused false number place r s f e = cc

pub bind_done : {A B : Type 0} (r : Result A) (k : A → Result B) {b : B} → r >>= k ≡ Done b → (a : A) × (r ≡ Done a) × (k a ≡ Done b)
unfolding ◌>>=◌
bind_done (Done a) k e = (a, refl, e)
bind_done (Refused n p) k e = absurd (not_done e)

-- what comes behind a value, and behind a refusal
pub bind_to : {A B : Type 0} (r : Result A) (a : A) (k : A → Result B) → r ≡ Done a → r >>= k ≡ k a
unfolding ◌>>=◌
bind_to r a k e = rw e

pub bind_at : {A B : Type 0} (a : A) (k : A → Result B) → Done a >>= k ≡ k a
bind_at a k = bind_to (Done a) a k refl

pub bind_refused : {A B : Type 0} (r : Result A) (number place : ℕ) (k : A → Result B) → r ≡ Refused number place → r >>= k ≡ Refused number place
unfolding ◌>>=◌
bind_refused r number place k e = rw e

-- a step replaced by an equal one, where it comes to it; steps regrouped; a step that does nothing
pub bind_where : {A B : Type 0} (r : Result A) (k h : A → Result B) → ((a : A) → r ≡ Done a → k a ≡ h a) → r >>= k ≡ r >>= h
unfolding ◌>>=◌
bind_where (Done a) k h e = e a refl
bind_where (Refused n p) k h e = refl

pub bind_same : {A B : Type 0} (r : Result A) (k h : A → Result B) → ((a : A) → k a ≡ h a) → r >>= k ≡ r >>= h
bind_same r k h e = bind_where r k h (λ a _. e a)

pub bind_again : {A B C : Type 0} (r : Result A) (k : A → Result B) (h : B → Result C) → (r >>= k) >>= h ≡ r >>= λ a. k a >>= h
unfolding ◌>>=◌
bind_again (Done a) k h = refl
bind_again (Refused n p) k h = refl

pub bind_value : {A : Type 0} (r : Result A) → (r >>= λ a. Done a) ≡ r
unfolding ◌>>=◌
bind_value (Done a) = refl
bind_value (Refused n p) = refl

-- a test before what comes behind
pub guard_bind : {A B : Type 0} (b : Bool) (number place : ℕ) (r : Result A) (k : A → Result B) → guard b number place r >>= k ≡ guard b number place (r >>= k)
unfolding guard ◌>>=◌
guard_bind true number place r k = refl
guard_bind false number place r k = refl

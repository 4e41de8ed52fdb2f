-- What holds of an answer: Q of its value, or R of its refusal's number and place; passed on through the operations on answers.
use Rattle.std.specs.Prelude.{ℕ, ◌≡◌, Bool, List, [], ◌∷◌}
use Rattle.std.proofs.Math.Path.{refl}
use Rattle.std.proofs.Common.{subst}
use Rattle.std.proofs.Math.Bool.{true, false}
use Rattle.std.proofs.Math.Option.{Option, none, some}
use Rattle.node.specs.Result.{Result, Done, Refused, ◌>>=◌, guard}
use Rattle.language.specs.Places.{refuse_at}
use Rattle.language.specs.Values.{onward, folded}
use Rattle.language.specs.Expansion.{gather}
use Rattle.language.proofs.Laws.Basics.Lists.{All, Any, all_any}

-- which refusals there may be
abbrev pub Refusals : Type 1
Refusals = (number place : ℕ) → Type 0

abbrev pub Outcome : {A : Type 0} → Refusals → (A → Type 0) → Result A → Type 0
Outcome R Q (Done a) = Q a
Outcome R Q (Refused n p) = R n p

pub record Answers {A : Type 0} (R : Refusals) (Q : A → Type 0) (r : Result A) : Type 0 where
  pub says : Outcome R Q r

module _ {A : Type 0} {R : Refusals} {Q : A → Type 0} where
  pub done : {a : A} → Q a → Answers R Q (Done a)
  done h = record { says = h }

  pub refused : {n p : ℕ} → R n p → Answers R Q (Refused n p)
  refused h = record { says = h }

  pub guarded : (b : Bool) (n p : ℕ) {r : Result A} → (b ≡ false → R n p) → (b ≡ true → Answers R Q r) → Answers R Q (guard b n p r)
  unfolding guard
  guarded true n p f h = h refl
  guarded false n p f h = record { says = f refl }

  pub placed : (n : ℕ) (o : Option ℕ) {r : Result A} → ((p : ℕ) → o ≡ some p → R n p) → Answers R Q r → Answers R Q (refuse_at n o r)
  unfolding refuse_at
  placed n none f h = h
  placed n (some p) f h = record { says = f p refl }

  pub bind : {B : Type 0} {S : B → Type 0} (r : Result A) (k : A → Result B) → Answers R Q r → ((a : A) → Q a → Answers R S (k a)) → Answers R S (r >>= k)
  unfolding ◌>>=◌
  bind (Done a) k h f = f a h.says
  bind (Refused n p) k h f = record { says = h.says }

  pub weaken : {R' : Refusals} {Q' : A → Type 0} (r : Result A) → ((n p : ℕ) → R n p → R' n p) → ((a : A) → Q a → Q' a) → Answers R Q r → Answers R' Q' r
  weaken (Done a) f g h = record { says = g a h.says }
  weaken (Refused n p) f g h = record { says = f n p h.says }

  pub value_of : {r : Result A} {a : A} → r ≡ Done a → Answers R Q r → Q a
  value_of e h = let g : Answers R Q (Done _) = subst (Answers R Q) e h in g.says

  pub refusal_of : {r : Result A} {n p : ℕ} → r ≡ Refused n p → Answers R Q r → R n p
  refusal_of e h = let g : Answers R Q (Refused _ _) = subst (Answers R Q) e h in g.says

-- lists
pub gathered : {A B : Type 0} {R : Refusals} (P : A → Type 0) {Q : B → Type 0} (f : A → Result B) → ((a : A) → P a → Answers R Q (f a)) → (l : List A) → All P l → Answers R (All Q) (gather f l)
gathered P f h [] u = done tt
gathered P f h (a ∷ l) u = bind (f a) _ (h a u.0) (λ b q. bind (gather f l) _ (gathered P f h l u.1) (λ bs qs. done (q, qs)))

-- folds over the elements of a set
module _ {A : Type 0} {R : Refusals} (P : ℕ → Type 0) {Q : A → Type 0} (step : A → A → Result A) (kept : (a b : A) → Q a → Q b → Answers R Q (step a b)) (f : ℕ → Result A)
    (each : (k : ℕ) → P k → Answers R Q (f k)) where
  onwards : (a : A) → Q a → (s : List ℕ) → All P s → Answers R Q (onward step f a s)
  onwards a h [] l = done h
  onwards a h (k ∷ s) l = bind (f k) _ (each k l.0) (λ b m. bind (step a b) _ (kept a b h m) (λ c n. onwards c n s l.1))

  pub folds : (over : Result A) → Answers R Q over → (s : List ℕ) → All P s → Answers R Q (folded step over f s)
  folds over h [] l = h
  folds over h (k ∷ s) l = bind (f k) _ (each k l.0) (λ a m. onwards a m s l.1)

pub folds_any : {A : Type 0} {R : Refusals} (step : A → A → Result A) → ((a b : A) → Answers R Any (step a b)) → (f : ℕ → Result A) → ((k : ℕ) → Answers R Any (f k)) → (over : Result A)
    → Answers R Any over → (s : List ℕ) → Answers R Any (folded step over f s)
folds_any step kept f each over h s = folds Any step (λ a b _ _. kept a b) f (λ k _. each k) over h s (all_any s)

-- nothing is asked of a refusal
abbrev pub Within : {A : Type 0} → (A → Type 0) → Result A → Type 0
Within Q r = Answers (λ n p. Unit {0}) Q r

pub bind_any : {A B : Type 0} {S : B → Type 0} (r : Result A) (k : A → Result B) → ((a : A) → Within S (k a)) → Within S (r >>= k)
unfolding ◌>>=◌
bind_any (Done a) k f = f a
bind_any (Refused n p) k f = refused tt

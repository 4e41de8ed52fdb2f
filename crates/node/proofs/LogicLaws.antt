-- Laws of 'or' and 'some'.
use Rattle.std.specs.Prelude.{◌≡◌, refl, Bool, true, false, ◌&&◌, ◌↔◌}
use Rattle.std.proofs.Common.{sym}
use Rattle.std.proofs.Math.Bool.{So}
use Rattle.std.proofs.lemmas.Bool.{false≢true}
use Rattle.node.specs.Logic.{Either, Some, Stable}

-- introduction and elimination
pub or_left : {A B : Type 0} → A → Either A B
or_left a h = h.0 a

pub or_right : {A B : Type 0} → B → Either A B
or_right b h = h.1 b

pub or_cases : {A B C : Type 0} → Stable C → (A → C) → (B → C) → Either A B → C
or_cases s f g o = s (λ n. o (λ a. n (f a), λ b. n (g b)))

pub some_at_lem : {X : Type 0} {P : X → Type 0} (x : X) → P x → Some P
some_at_lem x p h = h x p

pub some_cases : {X : Type 0} {P : X → Type 0} {C : Type 0} → Stable C → ((x : X) → P x → C) → Some P → C
some_cases s f o = s (λ n. o (λ x p. n (f x p)))

-- what is stable
pub stable-not : {A : Type 0} → Stable (¬ A)
stable-not h a = h (λ n. n a)

pub stable-and : {A B : Type 0} → Stable A → Stable B → Stable (A × B)
stable-and s u h = (s (λ n. h (λ p. n p.0)), u (λ n. h (λ p. n p.1)))

pub stable_to : {A B : Type 0} → Stable B → Stable (A → B)
stable_to s h a = s (λ n. h (λ f. n (f a)))

pub stable-all : {X : Type 0} {P : X → Type 0} → ((x : X) → Stable (P x)) → Stable ((x : X) → P x)
stable-all s h x = s x (λ n. h (λ f. n (f x)))

pub stable_so : (b : Bool) → Stable (So b)
stable_so true h = λ i. true
stable_so false h = absurd (h (λ e. false≢true e))

-- a value of two, and equal values
pub so_and : (x y : Bool) → (So x × So y) ↔ So (x && y)
so_and true y = (λ h. h.1, λ h. (refl, h))
so_and false y = (λ h. h.0, λ h. absurd (false≢true h))

pub so_same : (x y : Bool) → So x ↔ So y → x ≡ y
so_same true y h = sym (h.0 refl)
so_same false true h = h.1 refl
so_same false false h = refl

-- equivalents put for equivalents
pub or_same : {A B C D : Type 0} → A ↔ C → B ↔ D → Either A B ↔ Either C D
or_same h k = (λ o n. o (λ a. n.0 (h.0 a), λ b. n.1 (k.0 b)), λ o n. o (λ c. n.0 (h.1 c), λ d. n.1 (k.1 d)))

pub some_same : {X : Type 0} {P Q : X → Type 0} → ((x : X) → P x ↔ Q x) → Some P ↔ Some Q
some_same h = (λ o n. o (λ x p. n x ((h x).0 p)), λ o n. o (λ x q. n x ((h x).1 q)))

pub to_same : {A B C D : Type 0} → A ↔ C → B ↔ D → (A → B) ↔ (C → D)
to_same h k = (λ f c. k.0 (f (h.1 c)), λ f a. k.1 (f (h.0 a)))

pub all_same : {X : Type 0} {P Q : X → Type 0} → ((x : X) → P x ↔ Q x) → ((x : X) → P x) ↔ ((x : X) → Q x)
all_same h = (λ f x. (h x).0 (f x), λ f x. (h x).1 (f x))

pub not-not : {A : Type 0} → Stable A → ¬ (¬ A) ↔ A
not-not s = (s, λ a n. n a)

-- De Morgan's laws
pub not-or : {A B : Type 0} → ¬ (Either A B) ↔ (¬ A × ¬ B)
not-or = (λ h. (λ a. h (or_left a), λ b. h (or_right b)), λ h o. o h)

pub not-and : {A B : Type 0} → Stable A → Stable B → ¬ (A × B) ↔ Either (¬ A) (¬ B)
not-and s u = (λ h n. h (s n.0, u n.1), λ o p. o (λ n. n p.0, λ n. n p.1))

pub implies_or : {A B : Type 0} → Stable B → (A → B) ↔ Either (¬ A) B
implies_or s = (λ f n. n.0 (λ a. n.1 (f a)), λ o a. s (λ nb. o (λ na. na a, nb)))

pub not_implies : {A B : Type 0} → Stable A → ¬ (A → B) ↔ (A × ¬ B)
not_implies s = (λ h. (s (λ na. h (λ a. absurd (na a))), λ b. h (λ a. b)), λ p f. p.1 (f p.0))

-- An answer that is pinned down: its value is as Q says, and it is refused, by this number and at this place, exactly where no value is.
use Rattle.std.specs.Prelude.{ℕ, ◌≡◌, refl, Bool, true, false, ◌↔◌}
use Rattle.node.specs.Result.{Result, Done, Refused, ◌>>=◌, guard}
use Rattle.language.proofs.Laws.Basics.Results.{Answers, done, refused, guarded, weaken}

abbrev pub Exactly : {A : Type 0} → (number place : ℕ) → (A → Type 0) → Result A → Type 0
Exactly {A} number place Q r = Answers (λ n p. (n ≡ number) × (p ≡ place) × ((a : A) → ¬ Q a)) Q r

module _ {A : Type 0} {Q : A → Type 0} (number place : ℕ) where
  pub exactly : {a : A} → Q a → Exactly number place Q (Done a)
  exactly h = done h

  pub never : ((a : A) → ¬ Q a) → Exactly number place Q (Refused number place)
  never h = refused (refl, refl, h)

  pub exactly_if : (b : Bool) {r : Result A} → (b ≡ true → Exactly number place Q r) → (b ≡ false → (a : A) → ¬ Q a) → Exactly number place Q (guard b number place r)
  exactly_if b h none = guarded b number place (λ e. (refl, refl, none e)) h

  pub exactly-same : {Q' : A → Type 0} → ((a : A) → Q a ↔ Q' a) → (r : Result A) → Exactly number place Q r → Exactly number place Q' r
  exactly-same e r = weaken r (λ n p h. (h.0, h.1, λ a q. h.2 a ((e a).1 q))) (λ a q. (e a).0 q)

-- a value that is handed on in another form
pub exactly_as : {A B : Type 0} {Q : A → Type 0} (number place : ℕ) (wrap : A → B) (r : Result A) → Exactly number place Q r →
    Exactly number place (λ b. (a : A) × (b ≡ wrap a) × Q a) (r >>= λ a. Done (wrap a))
unfolding ◌>>=◌
exactly_as number place wrap (Done a) h = done (a, refl, h.says)
exactly_as number place wrap (Refused n p) h = refused (h.says.0, h.says.1, λ b g. h.says.2 g.0 g.2)

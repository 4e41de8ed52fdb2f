-- An answer that is what it should be, or a refusal met while working out: 11, 12 or 13.
use Rattle.std.specs.Prelude.{ℕ, ◌≤◌, Bool}
use Rattle.node.specs.Result.{Result, Done, guard, ◌>>=◌}
use Rattle.language.proofs.Laws.Basics.Lists.{Any}
use Rattle.language.proofs.Laws.Basics.Results.{Answers, done, guarded, bind, weaken}

abbrev pub Late : ℕ → Type 0
Late n = (11 ≤ n) × (n ≤ 13)

-- a value with Q, or such a refusal
abbrev pub Reaches : {A : Type 0} → (A → Type 0) → Result A → Type 0
Reaches Q r = Answers (λ n p. Late n) Q r

-- nothing is asked of the first value
pub next : {A B : Type 0} {S : B → Type 0} (r : Result A) (k : A → Result B) → Reaches Any r → ((a : A) → Reaches S (k a)) → Reaches S (r >>= k)
next r k h f = bind r k h (λ a u. f a)

pub reaches_any : {A : Type 0} {Q : A → Type 0} (r : Result A) → Reaches Q r → Reaches Any r
reaches_any r h = weaken r (λ n p l. l) (λ a q. tt) h

pub late-unless : {A : Type 0} (b : Bool) (n p : ℕ) (a : A) → Late n → Reaches Any (guard b n p (Done a))
late-unless b n p a l = guarded b n p (λ _. l) (λ _. done tt)

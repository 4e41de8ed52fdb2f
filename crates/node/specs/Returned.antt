-- What a call returns: a value, or a refusal with its number and place ('Every answer is either accepted with its counts or a refusal, number and place').
use Rattle.std.specs.Prelude.{ℕ, Result as OrError}
use Rattle.node.specs.declared.Refusal.{Refusal}

abbrev pub Returned : Type 0 → Type 0
Returned A = OrError A Refusal

-- the refusal of a number at a place
abbrev pub refusal : ℕ → ℕ → Refusal
refusal n p = record { number = n; place = p }

-- What a definition answers: a value, or a refusal with its number and place (document 01, 'Refusals with their places').
use Rattle.std.specs.Prelude.{ℕ, Bool, true, false}

pub data Result (A : Type 0) : Type 0 where
  Done : A → Result A
  Refused : (number place : ℕ) → Result A

infixl 20 ◌>>=◌
-- 'A refusal met below is handed up unchanged'
unfoldable pub ◌>>=◌ : {A B : Type 0} → Result A → (A → Result B) → Result B
Done a >>= k = k a
Refused n p >>= k = Refused n p

-- refuse unless the test passes
unfoldable pub guard : {A : Type 0} → Bool → ℕ → ℕ → Result A → Result A
guard true number place r = r
guard false number place r = Refused number place

-- 'accepted with its counts'
pub record Counts : Type 0 where
  pub nodes : ℕ
  pub signals : ℕ

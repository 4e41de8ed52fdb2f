-- The signs of bounds: what the code knows by their numbers is what the grammar asks.
use Rattle.std.specs.Prelude.{ℕ, [], ◌∷◌, Bool, true, false, ◌||◌, ◌≡◌, refl, eqb}
use Rattle.std.proofs.Common.{sym, ap, ◌∙◌, ne_eqb}
use Rattle.language.specs.Tokens.{Token}
use Rattle.language.specs.Grammar.{named}
use Rattle.lexer.specs.Numbers.{number, fixed}
use Rattle.lexer.specs.NumberLaws.{named-number}
use Rattle.operators.specs.Signs.{strict_at}

pub strict-number : (t : Token) → named ("<" ∷ "LE" ∷ []) t ≡ strict_at (number t)
strict-number t = named-number ("<" ∷ "LE" ∷ []) t refl

-- a list's last test
pub or_false : (b : Bool) → (b || false) ≡ b
or_false true = refl
or_false false = refl

-- not the first of them
pub strict-second : (n : ℕ) → (n ≡ fixed "<" → ⊥) → eqb n (fixed "LE") ≡ strict_at n
strict-second n h = sym (ap (λ (b : Bool). b || (eqb n (fixed "LE") || false)) (ne_eqb n (fixed "<") h) ∙ or_false (eqb n (fixed "LE")))

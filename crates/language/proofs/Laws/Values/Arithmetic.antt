-- What numerals and the operators on numbers are worked out to, and when they are refused: +, -, *, / and % of the natural numbers, decimal numerals.
use Rattle.std.specs.Prelude.{ℕ, ◌+◌, ◌-◌, ◌*◌, ◌/◌, ◌%◌, ◌≤◌, ◌<◌, ◌≡◌, refl, List, [], ◌∷◌, ◌++◌, leb, ltb}
use Rattle.std.proofs.Common.{sym, ap, ◌∙◌, arith, le_trans, div-le_self, mod-lt, div-add-mod', mod-eq_of_lt, leb-true, leb-false, ltb-true, ltb-false}
use Rattle.std.proofs.Math.Nat.{mod-le, mul-add-div_right, mul-add-mod_self_right, div-eq_of_lt}
use Rattle.language.specs.Limits.{max_number}
use Rattle.language.specs.Operators.{Arithmetic, Plus, Minus, Times, Divide, Modulo}
use Rattle.language.specs.Values.{in_range, decimal, calculate}
use Rattle.language.proofs.Laws.Basics.Exactly.{Exactly, exactly, exactly_if}

-- c is a + b, a - b, a * b, the quotient and the remainder of a by b
abbrev pub Gives : Arithmetic → (a b c : ℕ) → Type 0
Gives Plus a b c = c ≡ a + b
Gives Minus a b c = a ≡ c + b
Gives Times a b c = c ≡ a * b
Gives Divide a b c = (r : ℕ) × (a ≡ c * b + r) × (r < b)
Gives Modulo a b c = (q : ℕ) × (a ≡ q * b + c) × (c < b)

-- 'Values are decimal, 0 to 1,000,000 at each step'
pub in_range_exact : (p n : ℕ) → Exactly 11 p (λ c. (c ≡ n) × (c ≤ max_number)) (in_range p n)
in_range_exact p n =
    exactly_if 11 p (leb n max_number)
    (λ e. exactly 11 p (refl, leb-true n max_number e))
    (λ e c h. let over = leb-false n max_number e in omega (arith, h.0, h.1))

-- 'value out of range, divisor 0' are 11
pub calculate_exact : (p : ℕ) (o : Arithmetic) (a b : ℕ) → a ≤ max_number → Exactly 11 p (λ c. Gives o a b c × (c ≤ max_number)) (calculate p o a b)
calculate_exact p Plus a b l = in_range_exact p (a + b)
calculate_exact p Minus a b l =
    exactly_if 11 p (leb b a)
    (λ e. let less = leb-true b a e in exactly 11 p (omega arith, omega arith))
    (λ e c h. let more = leb-false b a e in omega (arith, h.0))
calculate_exact p Times a b l = in_range_exact p (a * b)
calculate_exact p Divide a b l =
    exactly_if 11 p (ltb 0 b)
    (λ e. exactly 11 p ((a % b, sym (div-add-mod' a b), mod-lt a (ltb-true 0 b e)), le_trans (div-le_self a b) l))
    (λ e c h. let nothing = ltb-false 0 b e in omega (arith, h.0.2))
calculate_exact p Modulo a b l =
    exactly_if 11 p (ltb 0 b)
    (λ e. exactly 11 p ((a / b, sym (div-add-mod' a b), mod-lt a (ltb-true 0 b e)), le_trans (mod-le a b) l))
    (λ e c h. let nothing = ltb-false 0 b e in omega (arith, h.0.2))

quotient : (a b c : ℕ) → Gives Divide a b c → a / b ≡ c
quotient a b c h =
    let less = h.2 in
    let positive : 0 < b = omega arith in
    let whole = ap (λ x. x / b) h.1 in
    let sum = mul-add-div_right positive c h.0 in
    let none = div-eq_of_lt less in
    omega arith

remainder : (a b c : ℕ) → Gives Modulo a b c → a % b ≡ c
remainder a b c h = ap (λ x. x % b) h.1 ∙ mul-add-mod_self_right h.0 b c ∙ mod-eq_of_lt h.2

-- there is one such c at most
pub gives_one : (o : Arithmetic) (a b c d : ℕ) → Gives o a b c → Gives o a b d → c ≡ d
gives_one Plus a b c d h g = h ∙ sym g
gives_one Minus a b c d h g = omega arith
gives_one Times a b c d h g = h ∙ sym g
gives_one Divide a b c d h g = sym (quotient a b c h) ∙ quotient a b d g
gives_one Modulo a b c d h g = sym (remainder a b c h) ∙ remainder a b d g

-- a numeral's value: nothing before its digits; ten times what stands before a digit, and the digit
pub decimal_none : decimal 0 [] ≡ 0
decimal_none = refl

pub decimal_digit : (s : List ℕ) (d : ℕ) → decimal 0 (s ++ ((48 + d) ∷ [])) ≡ 10 * decimal 0 s + d
decimal_digit s d = from 0 s
  where
    from : (n : ℕ) (s : List ℕ) → decimal n (s ++ ((48 + d) ∷ [])) ≡ 10 * decimal n s + d
    from n [] = omega arith
    from n (b ∷ s) = from (n * 10 + (b - 48)) s

-- leading zeros do not matter
pub decimal-zero : (s : List ℕ) → decimal 0 (48 ∷ s) ≡ decimal 0 s
decimal-zero s = refl

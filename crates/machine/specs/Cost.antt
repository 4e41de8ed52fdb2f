-- What is left to do, as a number over the words of the frames: it falls with each step.
use Rattle.std.specs.Prelude.{ℕ, zero, suc, ◌+◌, ◌*◌, ◌≤◌, ◌<◌, List, [], ◌∷◌, ◌≡◌, refl, get_or}
use Rattle.std.proofs.Common.{arith, add-mul, mul-le-mul_right}
use Rattle.std.proofs.Math.Decide.{dec_le}
use Rattle.language.specs.Limits.{max_elements}

-- more than all that an operator can ask of the entries below it: two for each element of a set, and its own steps
abbrev steep : ℕ
steep = 2 * max_elements + 8

unfoldable pub price : ℕ → ℕ
price zero = 1
price (suc k) = steep * price k

-- how many operands a frame may still work out, by its phase (specs/Holding) and count
abbrev pub turns : ℕ → ℕ → ℕ
turns phase n =
    get_or (0 ∷ 0 ∷ 1 ∷ 0 ∷ 1 ∷ 0 ∷ 1 ∷ 0 ∷ 0 ∷ 2 ∷ 1 ∷ 0 ∷ max_elements ∷ n ∷ n ∷ n ∷ n ∷ 0 ∷ 0 ∷ 1 ∷ 0 ∷ 1 ∷ 0 ∷ 1 ∷ 0 ∷ 1 ∷ 1 ∷ 0 ∷ 2 ∷ 1 ∷ 0 ∷ max_elements ∷ n ∷ n ∷ 0 ∷ 0 ∷ []) phase 0

-- the price of n operands more, and of the frame itself
unfoldable pub times : ℕ → ℕ → ℕ
times zero k = price k
times (suc n) k = 2 * price k + times n k

abbrev pub weight : ℕ → ℕ → ℕ → ℕ
weight phase k count = times (turns phase count) k

-- of an entry that is worked out, in one of the first two modes
abbrev pub effort : ℕ → ℕ → ℕ
effort zero k = price (suc k)
effort (suc zero) k = price (suc k)
effort (suc (suc mode)) k = 0

-- of the frames
unfoldable pub costs : List ℕ → ℕ
costs [] = 0
costs (phase ∷ []) = 0
costs (phase ∷ k ∷ []) = 0
costs (phase ∷ k ∷ base ∷ []) = 0
costs (phase ∷ k ∷ base ∷ at ∷ []) = 0
costs (phase ∷ k ∷ base ∷ at ∷ count ∷ []) = 0
costs (phase ∷ k ∷ base ∷ at ∷ count ∷ value ∷ []) = 0
costs (phase ∷ k ∷ base ∷ at ∷ count ∷ value ∷ other ∷ rest) = weight phase k count + costs rest

pub price_some : (k : ℕ) → 0 < price k
unfolding price
price_some zero = omega arith
price_some (suc k) = let h = price_some k in omega arith

pub price-suc : (k : ℕ) → price (suc k) ≡ (2 * max_elements + 8) * price k
unfolding price
price-suc k = refl

pub price_less : (j k : ℕ) → j < k → price (suc j) ≤ price k
price_less j zero h = absurd (omega arith)
price_less j (suc k) h = go (price_less j k) (dec_le k j)
  where
    go : (j < k → price (suc j) ≤ price k) → Dec (k ≤ j) → price (suc j) ≤ price (suc k)
    go f (yes l) = let e : j ≡ k = omega arith in rw e (omega arith)
    go f (no l) = let q = f (omega arith) in let s = price-suc k in omega arith

pub times_none : (k : ℕ) → times 0 k ≡ price k
unfolding times
times_none k = refl

pub times_some : (n k : ℕ) → price k ≤ times n k
unfolding times
times_some zero k = omega arith
times_some (suc n) k = let h = times_some n k in omega arith

pub times-suc : (n k : ℕ) → times (suc n) k ≡ 2 * price k + times n k
unfolding times
times-suc n k = refl

times-is : (n k : ℕ) → times n k ≡ (2 * n + 1) * price k
unfolding times
times-is zero k = omega arith
times-is (suc n) k = let e : 2 * suc n + 1 ≡ 2 + (2 * n + 1) = omega arith in rw (e, add-mul, times-is n k)

pub times-most : (n k : ℕ) → n ≤ max_elements → times n k ≤ (2 * max_elements + 1) * price k
times-most n k h = rw (times-is n k) (mul-le-mul_right (price k) (omega arith))

pub effort_none : (mode k : ℕ) → 1 < mode → effort mode k ≡ 0
effort_none zero k h = absurd (omega arith)
effort_none (suc zero) k h = absurd (omega arith)
effort_none (suc (suc mode)) k h = refl

pub effort_some : (mode k : ℕ) → mode ≤ 1 → effort mode k ≡ price (suc k)
effort_some zero k h = refl
effort_some (suc zero) k h = refl
effort_some (suc (suc mode)) k h = absurd (omega arith)

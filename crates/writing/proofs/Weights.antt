-- The weights of the sixteen kinds by their table: what a field can hold times the weight stays below the kind's number in the word.
use Prim.Native.Nat.{ℕ, zero, suc, ◌+◌, ◌-◌, ◌*◌, ◌^◌, ◌<◌, ◌≤◌}
use mathlib.Core.Bool.{Bool}
use mathlib.Core.List.{List, [], ◌∷◌}
use mathlib.Core.Path.{◌≡◌, ap, ◌∙◌, subst}
use lib.Dec.{T, eqb, eqb→eq, leb, leb→le}
use lib.ListN.{get_or}
use native.Mathlib.Nat.{mul-le-mul_right, le_trans}
use native.Mathlib.Decide.{dec_lt}
use native.Mathlib.Omega.{arith}
use Rattle.node.specs.Limits.{field_limit, kind_limit}
use Rattle.node.specs.Fields.{kind_of}
use Rattle.node.specs.Kinds.{shape_of}
use Rattle.writing.specs.Moving.{weight, moved}

-- the test f passes at each number below n
abbrev below : (ℕ → Bool) → ℕ → Type 0
below f zero = Unit {0}
below f (suc n) = T (f n) × below f n

each : (f : ℕ → Bool) (n : ℕ) → below f n → (k : ℕ) → k < n → T (f k)
each f zero t k h = absurd (omega arith)
each f (suc n) t k h = go (each f n t.1 k) (dec_lt k n)
  where
    go : (k < n → T (f k)) → Dec (k < n) → T (f k)
    go e (yes g) = e g
    go e (no g) = let same : n ≡ k = omega arith in subst (λ (m : ℕ). T (f m)) same t.0

abbrev pub weights : List ℕ
weights =
    0 ∷ 0 ∷ 0 ∷ field_limit ∷ suc field_limit ∷ suc field_limit ∷ suc field_limit ∷ suc field_limit ∷ field_limit ∷ field_limit ∷ field_limit ∷ suc field_limit ∷ suc field_limit ∷ suc field_limit ∷ 0 ∷ 0 ∷ []

right : ℕ → Bool
right k = eqb (get_or weights k 0) (weight (shape_of k))

pub weight-at : (k : ℕ) → k < kind_limit → get_or weights k 0 ≡ weight (shape_of k)
unfolding right
weight-at k h = eqb→eq (get_or weights k 0) (weight (shape_of k)) (each right kind_limit (tt, (tt, (tt, (tt, (tt, (tt, (tt, (tt, (tt, (tt, (tt, (tt, (tt, (tt, (tt, (tt, tt)))))))))))))))) k h)

low : ℕ → Bool
low k = leb ((field_limit - 1) * weight (shape_of k)) (k * 2 ^ 28)

high : ℕ → Bool
high k = leb (k * 2 ^ 28 + 2 ^ 28 + (field_limit - 1) * weight (shape_of k)) (2 ^ 32)

pub weight-low : (k x : ℕ) → k < kind_limit → x < field_limit → x * weight (shape_of k) ≤ k * 2 ^ 28
unfolding low
weight-low k x h g = le_trans (mul-le-mul_right (weight (shape_of k)) (omega arith))
    (leb→le ((field_limit - 1) * weight (shape_of k)) (k * 2 ^ 28) (each low kind_limit (tt, (tt, (tt, (tt, (tt, (tt, (tt, (tt, (tt, (tt, (tt, (tt, (tt, (tt, (tt, (tt, tt)))))))))))))))) k h))

pub weight-high : (k x : ℕ) → k < kind_limit → x < field_limit → k * 2 ^ 28 + 2 ^ 28 + x * weight (shape_of k) ≤ 2 ^ 32
unfolding high
weight-high k x h g =
    let m : x * weight (shape_of k) ≤ (field_limit - 1) * weight (shape_of k) = mul-le-mul_right (weight (shape_of k)) (omega arith) in
    let t = leb→le (k * 2 ^ 28 + 2 ^ 28 + (field_limit - 1) * weight (shape_of k)) (2 ^ 32) (each high kind_limit (tt, (tt, (tt, (tt, (tt, (tt, (tt, (tt, (tt, (tt, (tt, (tt, (tt, (tt, (tt, (tt, tt)))))))))))))))) k h) in
    omega arith

-- a word less or more by what a field can hold times its weight is a word
pub in_word : (w k v x : ℕ) → k ≡ kind_of w → v ≡ weight (shape_of k) → w < 2 ^ 32 → x < field_limit → (x * v ≤ w) × (w + x * v < 2 ^ 32)
in_word w k v x e f h g =
    let l : k < kind_limit = omega arith in
    let low : x * v ≤ k * 2 ^ 28 = rw f (weight-low k x l g) in
    let high : k * 2 ^ 28 + 2 ^ 28 + x * v ≤ 2 ^ 32 = rw f (weight-high k x l g) in
    (omega arith, omega arith)

pub moved-is : (w k v from to : ℕ) → k ≡ kind_of w → v ≡ weight (shape_of k) → w - from * v + to * v ≡ moved from to w
unfolding moved
moved-is w k v from to e f = ap (λ x. w - from * x + to * x) (f ∙ ap (λ j. weight (shape_of j)) e)

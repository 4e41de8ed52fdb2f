-- Each operator's kind has the operator's shape; a kind past the last has none. A rule for every kind, from the fourteen one by one.
use Rattle.std.specs.Prelude.{ℕ, zero, suc, ◌≤◌, ◌<◌, ◌≡◌, refl}
use Rattle.std.proofs.Common.{subst, arith}
use Rattle.std.proofs.Math.Decide.{dec_lt}
use Rattle.std.proofs.Math.ListN.{get_or-eq_default}
use Rattle.node.specs.Ltl.{Unary, Not, X, G, F, Binary, And, Or, Implies, Iff, U, R, W}
use Rattle.node.specs.Kinds.{UnaryOf, BinaryOf, Unused, shapes, kind_count, shape_of, unary_kind, binary_kind}

pub unary-shape : (o : Unary) → shape_of (unary_kind o) ≡ UnaryOf o
unary-shape Not = refl
unary-shape X = refl
unary-shape G = refl
unary-shape F = refl

pub binary-shape : (o : Binary) → shape_of (binary_kind o) ≡ BinaryOf o
binary-shape And = refl
binary-shape Or = refl
binary-shape Implies = refl
binary-shape Iff = refl
binary-shape U = refl
binary-shape R = refl
binary-shape W = refl

pub no_shape : {kind : ℕ} → kind_count ≤ kind → shape_of kind ≡ Unused
no_shape h = get_or-eq_default shapes Unused h

-- the rule at 0, 1, .., n - 1
abbrev pub Each : (ℕ → Type 0) → ℕ → Type 0
Each P zero = Unit {0}
Each P (suc n) = Each P n × P n

pub each_below : (P : ℕ → Type 0) (n : ℕ) → Each P n → (k : ℕ) → k < n → P k
each_below P zero e k h = absurd (omega arith)
each_below P (suc n) e k h = go (dec_lt k n) (each_below P n e.0 k)
  where
    go : Dec (k < n) → (k < n → P k) → P k
    go (yes l) below = below l
    go (no l) below = let s : n ≡ k = omega arith in subst P s e.1

pub by_kind : (P : ℕ → Type 0) → Each P kind_count → ((k : ℕ) → kind_count ≤ k → P k) → (k : ℕ) → P k
by_kind P e above k = go (dec_lt k kind_count)
  where
    go : Dec (k < kind_count) → P k
    go (yes l) = each_below P kind_count e k l
    go (no l) = above k (omega arith)

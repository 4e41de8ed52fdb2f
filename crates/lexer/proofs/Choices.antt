-- A test is decided by what its other answer would lead to.
use Prim.Native.Nat.{ℕ, suc, ◌≤◌}
use mathlib.Core.Bool.{Bool, true, false}
use mathlib.Core.Path.{◌≡◌, refl}
use lib.Dec.{eqb}
use native.Mathlib.Omega.{arith}
use borrow.Author.Tests.{eqb-true, eqb-false}

pub refute : (q : Bool) → (q ≡ true → ⊥) → q ≡ false
refute true h = absurd (h refl)
refute false h = refl

pub affirm : (q : Bool) → (q ≡ false → ⊥) → q ≡ true
affirm true h = refl
affirm false h = absurd (h refl)

-- a number that is one of two neighbours
pub either : {A : Type 0} (x a : ℕ) → a ≤ x → x ≤ suc a → (x ≡ a → A) → (x ≡ suc a → A) → A
either {A = A} x a l m f g = go (eqb x a) refl
  where
    go : (q : Bool) → eqb x a ≡ q → A
    go true e = f (eqb-true x a e)
    go false e = let n = eqb-false x a e in g (other n)
      where
        other : (x ≡ a → ⊥) → x ≡ suc a
        other n = omega arith

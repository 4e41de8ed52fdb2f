-- What Boolean tests, choices by them, and tests on numbers and bytes decide.
use Rattle.std.specs.Prelude.{ℕ, ◌≤◌, ◌<◌, ◌≡◌, refl, Bool, true, false, ◌&&◌, ◌||◌, List, [], ◌∷◌, ◌↔◌, eqb, leb, ltb}
use Rattle.std.proofs.Common.{sym, ap₂, arith, eqb-true, leb-true, ltb-true, eq-eqb, le-leb, lt-ltb}
use Rattle.std.proofs.Math.Bool.{So}
use Rattle.std.proofs.lemmas.Bool.{false≢true}
use Rattle.std.proofs.Math.Option.{some, none}
pub use Rattle.node.specs.Tests.{and_left, and_right}
use Rattle.language.specs.Bytes.{same}

-- what holds of both branches, each under its test, holds of the choice
pub split {ℓ} : {A : Type 0} (P : A → Type ℓ) (b : Bool) {x y : A} → (b ≡ true → P x) → (b ≡ false → P y) → P (elim b [ true ↦ x | false ↦ y ])
split P true f g = f refl
split P false f g = g refl

-- the branch taken
pub pick {ℓ} : {A : Type ℓ} (b : Bool) (x y : A) → b ≡ true → ◌≡◌ {A = A} (elim b [ true ↦ x | false ↦ y ]) x
pick true x y e = refl
pick false x y e = absurd (false≢true e)

pub leave {ℓ} : {A : Type ℓ} (b : Bool) (x y : A) → b ≡ false → ◌≡◌ {A = A} (elim b [ true ↦ x | false ↦ y ]) y
leave true x y e = absurd (false≢true (sym e))
leave false x y e = refl

-- two tests, one after the other
pub both {ℓ} : {A : Type ℓ} (b c : Bool) (x y : A) → ◌≡◌ {A = A} (elim (b && c) [ true ↦ x | false ↦ y ]) (elim b [ true ↦ elim c [ true ↦ x | false ↦ y ] | false ↦ y ])
both true c x y = refl
both false c x y = refl

-- 'and', 'or'
pub and_false : (a b : Bool) → a ≡ false → (a && b) ≡ false
and_false true b e = absurd (false≢true (sym e))
and_false false b e = refl

pub and-last_false : (a b : Bool) → b ≡ false → (a && b) ≡ false
and-last_false true b e = e
and-last_false false b e = refl

pub or_left : (a b : Bool) → a ≡ true → (a || b) ≡ true
or_left true b e = refl
or_left false b e = absurd (false≢true e)

pub or_right : (a b : Bool) → b ≡ true → (a || b) ≡ true
or_right true b e = refl
or_right false b e = e

pub or_left_false : (a b : Bool) → (a || b) ≡ false → a ≡ false
or_left_false true b e = e
or_left_false false b e = refl

pub or_right_false : (a b : Bool) → (a || b) ≡ false → b ≡ false
or_right_false true b e = absurd (false≢true (sym e))
or_right_false false b e = e

pub or_cases {ℓ} : {P : Type ℓ} (a b : Bool) → (a ≡ true → P) → (b ≡ true → P) → (a || b) ≡ true → P
or_cases true b f g e = f refl
or_cases false b f g e = g e

-- something is not nothing
pub some_none : {A : Type 0} {a : A} → some a ≡ none → ⊥
some_none e = let z : ◌≡◌ {A = ℕ} 0 1 = cc in omega arith

-- numbers
pub so_eqb : (a b : ℕ) → So (eqb a b) ↔ (a ≡ b)
so_eqb a b = (eqb-true a b, eq-eqb a b)

pub so_leb : (a b : ℕ) → So (leb a b) ↔ (a ≤ b)
so_leb a b = (leb-true a b, le-leb a b)

pub so_ltb : (a b : ℕ) → So (ltb a b) ↔ (a < b)
so_ltb a b = (ltb-true a b, lt-ltb a b)

-- names are compared by their bytes
pub same_equal : (a b : List ℕ) → same a b ≡ true → a ≡ b
same_equal [] [] e = refl
same_equal [] (y ∷ s) e = absurd (false≢true e)
same_equal (x ∷ w) [] e = absurd (false≢true e)
same_equal (x ∷ w) (y ∷ s) e = ap₂ ◌∷◌ (eqb-true x y (and_left (eqb x y) (same w s) e)) (same_equal w s (and_right (eqb x y) (same w s) e))

pub same_refl : (a : List ℕ) → same a a ≡ true
same_refl [] = refl
same_refl (x ∷ w) = ap₂ ◌&&◌ (eq-eqb x x refl) (same_refl w)

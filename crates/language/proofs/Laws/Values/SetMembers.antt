-- Which numbers are in a set: in a union, an intersection, a difference, a listed set, numbers at equal steps, a range {x, y .. z} and an interval.
use Rattle.std.specs.Prelude.{ℕ, zero, suc, ◌+◌, ◌-◌, ◌*◌, ◌/◌, ◌≤◌, ◌<◌, ◌≡◌, refl, Bool, true, false, not, ◌&&◌, ◌||◌, ◌↔◌, eqb, ltb}
use Rattle.std.specs.Int.{◌∣◌}
use Rattle.std.proofs.Common.{sym, ap, arith, suc-mul, mul_comm, le-div_iff_mul-le, eqb-true, eq-eqb, ltb-true, ltb-false}
use Rattle.std.proofs.lemmas.Bool.{false≢true}
use Rattle.std.proofs.Math.Bool.{So, So-prop, or_assoc}
use mathlib.Core.List.{List, [], ◌∷◌, Mem, not-mem-nil, mem-cons}
use Rattle.std.proofs.Math.Logic.Or
use Rattle.std.proofs.Math.Logic.{∥∥₁_elim}
use Rattle.language.specs.Bytes.{if◌then◌otherwise◌}
use Rattle.language.specs.Operators.{Combination, Cup, Cap, Without}
use Rattle.language.specs.Sets.{member_of, insert, union, keep, combine, steps, range_size}
use Rattle.language.proofs.Laws.Basics.Tests.{or_cases, or_left, or_right}

-- an element of x ∷ m is x or one of m
pub member-cases : {C : Type 0} (x : ℕ) (m : List ℕ) (k : ℕ) → (k ≡ x → C) → (So (member_of m k) → C) → So (member_of (x ∷ m) k) → C
member-cases x m k f g = or_cases (eqb k x) (member_of m k) (λ e. f (eqb-true k x e)) g

pub member-first : (x : ℕ) (m : List ℕ) → So (member_of (x ∷ m) x)
member-first x m = or_left (eqb x x) (member_of m x) (eq-eqb x x refl)

pub member-later : (x : ℕ) (m : List ℕ) (k : ℕ) → So (member_of m k) → So (member_of (x ∷ m) k)
member-later x m k e = or_right (eqb k x) (member_of m k) e

-- the test is membership in the list
pub member-listed : (s : List ℕ) (k : ℕ) → So (member_of s k) ↔ Mem k s
member-listed [] k = (λ e. absurd (false≢true e), λ m. absurd (not-mem-nil m))
member-listed (x ∷ s) k =
    let rest = member-listed s k in (
      or_cases (eqb k x) (member_of s k) (λ e. mem-cons.1 (Or.inl (eqb-true k x e))) (λ m. mem-cons.1 (Or.inr (rest.0 m))),
      λ m. Or.elim (So-prop (eqb k x || member_of s k)) (mem-cons.0 m) (λ e. or_left (eqb k x) (member_of s k) (eq-eqb k x e)) (λ n. or_right (eqb k x) (member_of s k) (rest.1 n)),
    )

pub or_swap : (a b c : Bool) → (a || (b || c)) ≡ (b || (a || c))
or_swap true true c = refl
or_swap true false c = refl
or_swap false b c = refl

or_twice : (a b : Bool) → (a || b) ≡ (a || (a || b))
or_twice true b = refl
or_twice false b = refl

-- one more element
pub insert-member : (x : ℕ) (s : List ℕ) (k : ℕ) → member_of (insert x s) k ≡ (eqb k x || member_of s k)
insert-member x [] k = refl
insert-member x (y ∷ s) k = go (ltb x y) (eqb x y) (eqb-true x y) (insert-member x s k)
  where
    go : (b c : Bool) → (c ≡ true → x ≡ y) → member_of (insert x s) k ≡ (eqb k x || member_of s k) →
        member_of (elim b [ true ↦ x ∷ y ∷ s | false ↦ elim c [ true ↦ y ∷ s | false ↦ y ∷ insert x s ] ]) k ≡ (eqb k x || (eqb k y || member_of s k))
    go true c equal rest = refl
    go false true equal rest = rw (equal refl) (or_twice (eqb k y) (member_of s k))
    go false false equal rest = rw rest (or_swap (eqb k y) (eqb k x) (member_of s k))

-- in one or the other
pub union-member : (s t : List ℕ) (k : ℕ) → member_of (union s t) k ≡ (member_of s k || member_of t k)
union-member [] t k = refl
union-member (x ∷ s) t k = rw (insert-member x (union s t) k, union-member s t k) (sym (or_assoc (eqb k x) (member_of s k) (member_of t k)))

-- those that pass the test
kept : (x : ℕ) (l : List ℕ) (k : ℕ) (c : Bool) → member_of (elim c [ true ↦ x ∷ l | false ↦ l ]) k ≡ (c && eqb k x || member_of l k)
kept x l k true = refl
kept x l k false = refl

regroup : (b c d m : Bool) → (b ≡ true → c ≡ d) → (c && b || m && d) ≡ ((b || m) && d)
regroup true true d true e = e refl
regroup true true d false e = e refl
regroup true false d true e = refl
regroup true false d false e = e refl
regroup false true d m e = refl
regroup false false d m e = refl

pub keep-member : (q : ℕ → Bool) (s : List ℕ) (k : ℕ) → member_of (keep q s) k ≡ (member_of s k && q k)
keep-member q [] k = refl
keep-member q (x ∷ s) k =
    rw (kept x (keep q s) k (q x), keep-member q s k)
    (regroup (eqb k x) (q x) (q k) (member_of s k) (λ e. ap q (sym (eqb-true k x e))))

-- `(+)`: in one or the other; `(*)`: in both; `(\)`: in the left and not in the right
abbrev pub in_combination : Combination → (left right : Bool) → Bool
in_combination Cup l r = l || r
in_combination Cap l r = l && r
in_combination Without l r = l && not r

pub combine-member : (o : Combination) (s t : List ℕ) (k : ℕ) → member_of (combine o s t) k ≡ in_combination o (member_of s k) (member_of t k)
combine-member Cup s t k = union-member s t k
combine-member Cap s t k = keep-member (member_of t) s k
combine-member Without s t k = keep-member (λ x. not (member_of t x)) s k

-- n numbers from `start` on at equal steps
pub steps-member : (n start step k : ℕ) → So (member_of (steps n start step) k) → (j : ℕ) × (j < n) × (k ≡ start + j * step)
steps-member zero start step k m = absurd (false≢true m)
steps-member (suc n) start step k m =
    or_cases (eqb k start) (member_of (steps n (start + step) step) k)
    (λ e. let first = eqb-true k start e in (0, omega arith, omega arith))
    (λ r.
    let later = steps-member n (start + step) step k r in
    let product = suc-mul later.0 step in
    let equal = later.2 in
    (suc later.0, omega (arith, later.1), omega arith))
    m

pub member-steps : (n start step j k : ℕ) → j < n → k ≡ start + j * step → So (member_of (steps n start step) k)
member-steps zero start step j k l e = absurd (let z : j < 0 = l in omega arith)
member-steps (suc n) start step zero k l e = or_left (eqb k start) _ (eq-eqb k start (omega arith))
member-steps (suc n) start step (suc j) k l e =
    let product = suc-mul j step in
    or_right (eqb k start) _ (member-steps n (start + step) step j k (omega arith) (omega arith))

-- {x, y .. z}: from x to z, as far from x as a multiple of the step from x to y
pub range-member : (x y z : ℕ) → x < y → (k : ℕ) → So (member_of (steps (range_size x y z) x (y - x)) k) ↔ ((x ≤ k) × (k ≤ z) × ((y - x) ∣ (k - x)))
range-member x y z l k = go (ltb z x) refl
  where
    go : (b : Bool) → ltb z x ≡ b → So (member_of (steps (if b then 0 otherwise suc ((z - x) / (y - x))) x (y - x)) k) ↔ ((x ≤ k) × (k ≤ z) × ((y - x) ∣ (k - x)))
    go true e = (λ m. absurd (false≢true m), λ h. absurd (let below = ltb-true z x e in omega arith))
    go false e =
        let positive : 0 < y - x = omega arith in
        let reached : x ≤ z = ltb-false z x e in (
          λ m.
              let place = steps-member (suc ((z - x) / (y - x))) x (y - x) k m in
              let product = mul_comm place.0 (y - x) in
              let equal = place.2 in
              let within : place.0 * (y - x) ≤ z - x = (le-div_iff_mul-le positive).0 (omega (arith, place.1)) in
              (omega arith, omega arith, ∣ (place.0, omega arith) ∣₁),
          λ h. ∥∥₁_elim h.2 (So-prop (member_of (steps (suc ((z - x) / (y - x))) x (y - x)) k)) (λ c.
              let product = mul_comm c.0 (y - x) in
              let equal = c.1 in
              let few : c.0 ≤ (z - x) / (y - x) = (le-div_iff_mul-le positive).1 (omega (arith, h.0, h.1)) in
              member-steps (suc ((z - x) / (y - x))) x (y - x) c.0 k (omega arith) (omega (arith, h.0))),
        )

-- the numbers from `start` on that are below `end`
pub interval_member : (start end k : ℕ) → So (member_of (steps (end - start) start 1) k) ↔ ((start ≤ k) × (k < end))
interval_member start end k = (
  λ m. let place = steps-member (end - start) start 1 k m in let less = place.1 in let equal = place.2 in (omega arith, omega arith),
  λ h. member-steps (end - start) start 1 (k - start) k (omega arith) (omega arith),
)

-- Sets stay ascending: what each operation on sets keeps of the order and the bounds of the elements.
use Rattle.std.specs.Prelude.{ℕ, zero, suc, ◌+◌, ◌-◌, ◌*◌, ◌/◌, ◌≤◌, ◌<◌, ◌≡◌, refl, Bool, true, false, not, List, [], ◌∷◌, ◌↔◌, eqb, ltb, length}
use Rattle.std.proofs.Common.{ap, arith, suc-mul, div-mul-le_self}
use Rattle.std.proofs.Math.Bool.{So}
use Rattle.std.proofs.lemmas.Bool.{false≢true}
use Rattle.language.specs.Bytes.{if◌then◌otherwise◌}
use Rattle.language.specs.Operators.{Combination, Cup, Cap, Without}
use Rattle.language.specs.Sets.{member_of, insert, union, keep, combine, steps, range_size, last}
pub use Rattle.language.specs.Lists.{Ascending}
use Rattle.language.proofs.Laws.Basics.Lists.{All}
use Rattle.language.proofs.Laws.Basics.Tests.{split, so_eqb, so_ltb}

pub ascending_lower : {m n : ℕ} (high : ℕ) → m ≤ n → (s : List ℕ) → Ascending n high s → Ascending m high s
ascending_lower high l [] h = tt
ascending_lower high l (x ∷ s) h = (omega (arith, h.0), h.1, h.2)

pub ascending_all : (low high : ℕ) (s : List ℕ) → Ascending low high s → All (λ k. k ≤ high) s
ascending_all low high [] h = tt
ascending_all low high (x ∷ s) h = (h.1, ascending_all (suc x) high s h.2)

pub last-high : (low high x : ℕ) (s : List ℕ) → x ≤ high → Ascending low high s → last x s ≤ high
last-high low high x [] l h = l
last-high low high x (y ∷ s) l h = last-high (suc y) high y s h.1 h.2

pub insert_ascending : (low high x : ℕ) (s : List ℕ) → low ≤ x → x ≤ high → Ascending low high s → Ascending low high (insert x s)
insert_ascending low high x [] l u h = (l, u, tt)
insert_ascending low high x (y ∷ s) l u h =
    go (ltb x y) (eqb x y) (so_ltb x y) (so_eqb x y) (λ m. insert_ascending (suc y) high x s m u h.2)
  where
    go : (b c : Bool) → So b ↔ (x < y) → So c ↔ (x ≡ y) → (suc y ≤ x → Ascending (suc y) high (insert x s)) →
        Ascending low high (elim b [ true ↦ x ∷ y ∷ s | false ↦ elim c [ true ↦ y ∷ s | false ↦ y ∷ insert x s ] ])
    go true c less equal rest = (l, u, (less.0 refl, h.1, h.2))
    go false true less equal rest = h
    go false false less equal rest =
        let a : ¬ (x < y) = λ m. false≢true (less.1 m) in
        let b : ¬ (x ≡ y) = λ m. false≢true (equal.1 m) in
        (h.0, h.1, rest (omega arith))

pub union_ascending : (low high : ℕ) (s t : List ℕ) → Ascending low high s → Ascending low high t → Ascending low high (union s t)
union_ascending low high [] t h k = k
union_ascending low high (x ∷ s) t h k =
    insert_ascending low high x (union s t) h.0 h.1 (union_ascending low high s t (ascending_lower high (omega (arith, h.0)) s h.2) k)

pub keep_ascending : (q : ℕ → Bool) (low high : ℕ) (s : List ℕ) → Ascending low high s → Ascending low high (keep q s)
keep_ascending q low high [] h = tt
keep_ascending q low high (x ∷ s) h =
    let rest = keep_ascending q (suc x) high s h.2 in
    split (Ascending low high) (q x) (λ _. (h.0, h.1, rest)) (λ _. ascending_lower high (omega (arith, h.0)) (keep q s) rest)

pub keep_fewer : (q : ℕ → Bool) (s : List ℕ) → length (keep q s) ≤ length s
keep_fewer q [] = omega arith
keep_fewer q (x ∷ s) = let rest = keep_fewer q s in split (λ (l : List ℕ). length l ≤ suc (length s)) (q x) (λ _. omega arith) (λ _. omega arith)

pub combine_ascending : (o : Combination) (low high : ℕ) (s t : List ℕ) → Ascending low high s → Ascending low high t → Ascending low high (combine o s t)
combine_ascending Cup low high s t h k = union_ascending low high s t h k
combine_ascending Cap low high s t h k = keep_ascending (member_of t) low high s h
combine_ascending Without low high s t h k = keep_ascending (λ x. not (member_of t x)) low high s h

-- numbers at equal steps
pub length-steps : (n start step : ℕ) → length (steps n start step) ≡ n
length-steps zero start step = refl
length-steps (suc n) start step = ap suc (length-steps n (start + step) step)

steps_ascending : (n start step low high : ℕ) → low ≤ start → 0 < step → (0 < n → start + n * step ≤ high + step) → Ascending low high (steps n start step)
steps_ascending zero start step low high l p h = tt
steps_ascending (suc n) start step low high l p h =
    let more : start + suc n * step ≤ high + step = h (omega arith) in
    let product : suc n * step ≡ n * step + step = suc-mul n step in
    (l, omega arith, steps_ascending n (start + step) step (suc start) high (omega arith) p (λ m. omega arith))

pub range_ascending : (x y z : ℕ) → x < y → Ascending 0 z (steps (range_size x y z) x (y - x))
range_ascending x y z l = go (ltb z x) (so_ltb z x)
  where
    go : (b : Bool) → So b ↔ (z < x) → Ascending 0 z (steps (if b then 0 otherwise suc ((z - x) / (y - x))) x (y - x))
    go true h = tt
    go false h =
        let not-less : ¬ (z < x) = λ m. false≢true (h.1 m) in
        let below : (z - x) / (y - x) * (y - x) ≤ z - x = div-mul-le_self (z - x) (y - x) in
        let product = suc-mul ((z - x) / (y - x)) (y - x) in
        steps_ascending (suc ((z - x) / (y - x))) x (y - x) 0 z (omega arith) (omega arith) (λ m. omega arith)

pub between_ascending : (start end high : ℕ) → end ≤ suc high → Ascending 0 high (steps (end - start) start 1)
between_ascending start end high h = steps_ascending (end - start) start 1 0 high (omega arith) (omega arith) (λ m. omega arith)

-- Laws of a search in an ascending set.
use Rattle.std.specs.Prelude.{ℕ, zero, suc, ◌+◌, ◌-◌, ◌≤◌, ◌<◌, ◌≡◌, true, false, List, ltb, length, get_or, take}
use Rattle.std.specs.List.Sorted.{IsNonDecreasingBy, IsPartitionPoint}
use Rattle.std.proofs.Common.{length-take-le, get_or-take, ltb-true, ltb-false, arith}
use Rattle.std.proofs.lemmas.List.Sorted.{IsNonDecreasingBy-from_default}
use Rattle.sets.specs.Listing.{Parted}
use Rattle.sets.specs.Combined.{Ordered}
use Rattle.sets.specs.UnionLaws.{ordered_room}
use Rattle.sets.specs.SelectionLaws.{ascends_at}

-- a later element is not below an earlier one
ascends_by : (a : List ℕ) (n : ℕ) → Ordered a n → (i d : ℕ) → i + d < n → get_or a i 0 ≤ get_or a (i + d) 0
ascends_by a n h i zero l = let e : i + 0 ≡ i = omega arith in rw e (omega arith)
ascends_by a n h i (suc d) l =
    let rest = ascends_by a n h i d (omega arith) in
    let next = ascends_at a n (i + d) h (omega arith) in
    let e : i + suc d ≡ suc (i + d) = omega arith in
    rw e (omega arith)

ascends_to : (a : List ℕ) (n : ℕ) → Ordered a n → (i j : ℕ) → i ≤ j → j < n → get_or a i 0 ≤ get_or a j 0
ascends_to a n h i j l u =
    let e : i + (j - i) ≡ j = omega arith in
    rw e at (ascends_by a n h i (j - i) (omega arith))

-- a set's words, m of them, which are its elements
module _ (a : List ℕ) (n m : ℕ) (h : Ordered a n) (all : m ≡ n) where
  whole : length (take m a) ≡ m
  whole = length-take-le m a (omega (arith, ordered_room a n h))

  pub ascending : IsNonDecreasingBy (λ (y : ℕ). y) (take m a)
  ascending = IsNonDecreasingBy-from_default (λ (y : ℕ). y) (take m a) 0 (λ i j l u. ordered i j l (omega (arith, whole, u)))
    where
      ordered : (i j : ℕ) → i ≤ j → j < m → get_or (take m a) i 0 ≤ get_or (take m a) j 0
      ordered i j l u =
          let less = ascends_to a n h i j l (omega arith) in
          omega (arith, get_or-take m a i 0 (omega arith), get_or-take m a j 0 u, less)

  -- the elements before i are below x, the others are not
  pub parted_at : (x i : ℕ) → i ≤ length (take m a) → IsPartitionPoint (λ (y : ℕ). ltb y x ≡ true) (λ (y : ℕ). ltb y x ≡ false) (take m a) i → Parted a i n x × (i < n → x ≤ get_or a i 0)
  parted_at x i l p = (record { bound = omega (arith, whole); lower = λ k u. below k u }, λ u. above u)
    where
      below : (k : ℕ) → k < i → get_or a k 0 < x
      below k u = let less = ltb-true _ _ (p.0 k 0 (omega arith) u) in omega (arith, less, whole, get_or-take m a k 0 (omega (arith, whole)))

      above : i < n → x ≤ get_or a i 0
      above u = let more = ltb-false _ _ (p.1 i 0 (omega arith) (omega (arith, whole))) in omega (arith, more, get_or-take m a i 0 (omega arith))

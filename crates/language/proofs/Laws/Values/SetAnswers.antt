-- What sets are worked out to, and when they are refused: combined sets, ranges and bounds, each by the numbers in it.
use Rattle.std.specs.Prelude.{ℕ, suc, ◌-◌, ◌≤◌, ◌<◌, ◌≡◌, Bool, true, false, List, [], ◌∷◌, ◌↔◌, leb, ltb, length}
use Rattle.std.specs.Int.{◌∣◌}
use Rattle.std.proofs.Common.{sym, ap, ◌∙◌, arith, leb-true, leb-false, ltb-true, ltb-false}
use Rattle.std.proofs.Math.Bool.{So}
use Rattle.node.specs.Result.{Done, guard}
use Rattle.language.specs.Limits.{max_elements}
use Rattle.language.specs.Operators.{Combination}
use Rattle.language.specs.Sets.{member_of, combine, steps, range_size}
use Rattle.language.specs.Values.{limited, range, between}
use Rattle.language.proofs.Laws.Basics.Exactly.{Exactly, exactly, exactly_if, exactly-same}
use Rattle.language.proofs.Laws.Values.SetMembers.{member-first, member-later, in_combination, combine-member, range-member, interval_member}
use Rattle.language.proofs.Laws.Values.SetExtent.{Rising, Lists, lists-one}
use Rattle.language.proofs.Laws.Values.SetLaws.{Ascending, combine_ascending, length-steps, range_ascending, between_ascending}

pub ascending_rises : (low high : ℕ) (s : List ℕ) → Ascending low high s → Rising low s
ascending_rises low high [] h = tt
ascending_rises low high (x ∷ s) h = (h.0, ascending_rises (suc x) high s h.2)

pub rises_ascending : (low high : ℕ) (s : List ℕ) → Rising low s → ((k : ℕ) → So (member_of s k) → k ≤ high) → Ascending low high s
rises_ascending low high [] h b = tt
rises_ascending low high (x ∷ s) h b =
    (h.0, b x (member-first x s), rises_ascending (suc x) high s h.1 (λ k m. b k (member-later x s k m)))

-- the list of the numbers that P holds of, and these are few enough
pub record Small (P : ℕ → Type 0) (s : List ℕ) : Type 0 where
  pub lists : Lists P s
  pub few : length s ≤ max_elements

-- 'set too large' is 12
module _ (p : ℕ) (P : ℕ → Type 0) (s : List ℕ) (h : Lists P s) where
  pub too_large : max_elements < length s → (t : List ℕ) → ¬ Small P t
  too_large over t g = let same = ap length (lists-one P s t h g.lists) in omega (arith, g.few)

  pub limited_exact : Exactly 12 p (Small P) (limited p s)
  limited_exact =
      exactly_if 12 p (leb (length s) max_elements)
      (λ e. exactly 12 p (record { lists = h; few = leb-true (length s) max_elements e }))
      (λ e. too_large (leb-false (length s) max_elements e))

  -- where the size is known beforehand
  pub sized_exact : (n : ℕ) → length s ≡ n → Exactly 12 p (Small P) (guard (leb n max_elements) 12 p (Done s))
  sized_exact n q =
      exactly_if 12 p (leb n max_elements)
      (λ e. let fits = leb-true n max_elements e in exactly 12 p (record { lists = h; few = omega arith }))
      (λ e. let over = leb-false n max_elements e in too_large (omega arith))

-- `(+)`, `(*)` and `(\)`
pub combine_exact : (p : ℕ) (o : Combination) (high : ℕ) (s t : List ℕ) → Ascending 0 high s → Ascending 0 high t →
    Exactly 12 p (Small (λ k. So (in_combination o (member_of s k) (member_of t k)))) (limited p (combine o s t))
combine_exact p o high s t h g =
    limited_exact p _ (combine o s t) (record {
      rises = ascending_rises 0 high (combine o s t) (combine_ascending o 0 high s t h g);
      members = λ k. let e = combine-member o s t k in (λ m. sym e ∙ m, λ m. e ∙ m);
    })

-- {x, y .. z}: 'range step not upward' is 12 too
abbrev pub InRange : (x y z k : ℕ) → Type 0
InRange x y z k = (x ≤ k) × (k ≤ z) × ((y - x) ∣ (k - x))

pub range_exact : (p x y z : ℕ) → Exactly 12 p (λ s. (x < y) × Small (InRange x y z) s) (range p x y z)
range_exact p x y z =
    exactly_if 12 p (ltb x y)
    (λ e. exactly-same 12 p (λ s. (λ g. (ltb-true x y e, g), λ g. g.1)) _ (upward (ltb-true x y e)))
    (λ e s g. let flat = ltb-false x y e in omega (arith, g.0))
  where
    upward : x < y → Exactly 12 p (Small (InRange x y z)) (guard (leb (range_size x y z) max_elements) 12 p (Done (steps (range_size x y z) x (y - x))))
    upward l =
        sized_exact p (InRange x y z) (steps (range_size x y z) x (y - x))
        (record { rises = ascending_rises 0 z (steps (range_size x y z) x (y - x)) (range_ascending x y z l); members = range-member x y z l })
        (range_size x y z) (length-steps (range_size x y z) x (y - x))

-- bounds: from low to high, without an end whose sign is `<`
abbrev pub Above : (strictly : Bool) → ℕ → ℕ → Type 0
Above true low k = low < k
Above false low k = low ≤ k

abbrev pub Below : (strictly : Bool) → ℕ → ℕ → Type 0
Below true k high = k < high
Below false k high = k ≤ high

interval_exact : (p start end : ℕ) (P : ℕ → Type 0) → ((k : ℕ) → ((start ≤ k) × (k < end)) ↔ P k) →
    Exactly 12 p (Small P) (guard (leb (end - start) max_elements) 12 p (Done (steps (end - start) start 1)))
interval_exact p start end P e =
    sized_exact p P (steps (end - start) start 1)
    (record {
      rises = ascending_rises 0 end (steps (end - start) start 1) (between_ascending start end end (omega arith));
      members = λ k. let m = interval_member start end k in (λ h. (e k).0 (m.0 h), λ h. m.1 ((e k).1 h));
    })
    (end - start) (length-steps (end - start) start 1)

pub between_exact : (p : ℕ) (l h : Bool) (a b : ℕ) → Exactly 12 p (Small (λ k. Above l a k × Below h k b)) (between p l h a b)
between_exact p true true a b = interval_exact p (suc a) b _ (λ k. (λ h. h, λ h. h))
between_exact p true false a b = interval_exact p (suc a) (suc b) _ (λ k. (λ h. (h.0, omega (arith, h.1)), λ h. (h.0, omega (arith, h.1))))
between_exact p false true a b = interval_exact p a b _ (λ k. (λ h. h, λ h. h))
between_exact p false false a b = interval_exact p a (suc b) _ (λ k. (λ h. (h.0, omega (arith, h.1)), λ h. (h.0, omega (arith, h.1))))

-- What is owed is a weak until: `Owed Q R` is `Q W !R`, for properties that hold unless refuted.
use Rattle.std.specs.Prelude.{ℕ, zero, suc, ◌≤◌, ◌<◌}
use Rattle.std.proofs.Math.Logic.Iff as Equiv
use Rattle.std.proofs.Common.{arith}
use Rattle.node.proofs.LogicLaws.{some_at_lem, all_same, to_same}
use Rattle.node.specs.Temporal.{Property, Until, WeakUntil}
use Rattle.node.proofs.TemporalLaws.{Same, StableAll}
use Rattle.language.specs.Meaning.{Owed}

-- equivalents put for equivalents
pub owed_same : {Q Q' R R' : Property} → Same Q Q' → Same R R' → Same (Owed Q R) (Owed Q' R')
owed_same h k t = all_same (λ p. to_same Equiv.rfl (to_same (all_same (λ j. to_same Equiv.rfl (to_same Equiv.rfl (k j)))) (h p)))

-- as long as no position has come where R fails after Q so far, both go on
owed_so_far : {Q R : Property} → StableAll R → (t : ℕ) → Owed Q R t → ¬ Until Q (λ n. ¬ R n) t → (n : ℕ) (j : ℕ) → t ≤ j → j < n → Q j × R j
owed_so_far s t h nu zero j l m = absurd (omega arith)
owed_so_far {Q} {R} s t h nu (suc n) j l m =
    let before = owed_so_far s t h nu n in
    let upto : (i : ℕ) → t ≤ i → i ≤ j → R i = λ i a b. s i (λ nr. nu (some_at_lem i (a, nr, λ k c d. (before k c (omega arith)).0))) in
    (h j l upto, upto j l (omega arith))

pub owed_weak : {Q R : Property} → StableAll Q → StableAll R → Same (Owed Q R) (WeakUntil Q (λ n. ¬ R n))
owed_weak {Q} {R} s u t = (
  λ h n. n.1 (λ p l. (owed_so_far u t h n.0 (suc p) p l (omega arith)).0),
  λ o p l r. s p (λ nq. o (λ v. v (λ n c. meets p l r nq n c), λ a. nq (a p l))),
)
  where
    meets : (p : ℕ) → t ≤ p → ((j : ℕ) → t ≤ j → j ≤ p → R j) → ¬ Q p → (n : ℕ) → (t ≤ n) × (¬ R n) × ((j : ℕ) → t ≤ j → j < n → Q j) → ⊥
    meets p l r nq n c =
        let past : ¬ (n ≤ p) = λ m. c.1 (r n c.0 m) in
        nq (c.2 p l (omega arith))

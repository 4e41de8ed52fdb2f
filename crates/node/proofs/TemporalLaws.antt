-- Laws of the temporal operators.
use Rattle.std.specs.Prelude.{ℕ, zero, suc, ◌≤◌, ◌<◌, ◌≡◌, ◌↔◌}
use Rattle.std.proofs.Common.{subst, arith}
use Rattle.std.proofs.Math.Logic.Iff as Equiv
use Rattle.node.specs.Logic.{Stable}
use Rattle.node.proofs.LogicLaws.{or_left, or_right, some_at_lem, stable-not, stable_to, stable-all, or_same, some_same, all_same, to_same, not-not}
use Rattle.node.specs.Temporal.{Property, Always, Eventually, Until, Release, WeakUntil}

-- a W b holds where a always does
pub always_weak : {P Q : Property} {t : ℕ} → Always P t → WeakUntil P Q t
always_weak h = or_right h

-- equivalents put for equivalents
abbrev pub Same : Property → Property → Type 0
Same P Q = (n : ℕ) → P n ↔ Q n

abbrev pub StableAll : Property → Type 0
StableAll P = (n : ℕ) → Stable (P n)

pub always_same : {P Q : Property} → Same P Q → Same (Always P) (Always Q)
always_same h t = all_same (λ n. to_same Equiv.rfl (h n))

pub eventually_same : {P Q : Property} → Same P Q → Same (Eventually P) (Eventually Q)
eventually_same h t = some_same (λ n. Equiv.and Equiv.rfl (h n))

pub until_same : {P P' Q Q' : Property} → Same P P' → Same Q Q' → Same (Until P Q) (Until P' Q')
until_same h k t = some_same (λ n. (
  λ c. (c.0, (k n).0 c.1, λ j l m. (h j).0 (c.2 j l m)),
  λ c. (c.0, (k n).1 c.1, λ j l m. (h j).1 (c.2 j l m)),
))

pub release_same : {P P' Q Q' : Property} → Same P P' → Same Q Q' → Same (Release P Q) (Release P' Q')
release_same h k t = Equiv.not (until_same (λ n. Equiv.not (h n)) (λ n. Equiv.not (k n)) t)

pub weak_same : {P P' Q Q' : Property} → Same P P' → Same Q Q' → Same (WeakUntil P Q) (WeakUntil P' Q')
weak_same h k t = or_same (until_same h k t) (always_same h t)

pub stable_always : {P : Property} → StableAll P → StableAll (Always P)
stable_always s t = stable-all (λ n. stable_to (s n))

-- the derivations of Appendix A.1 that are not definitions here
pub eventually_until : (P : Property) → Same (Until (λ n. Unit {0}) P) (Eventually P)
eventually_until P t = some_same (λ n. (λ c. (c.0, c.1), λ c. (c.0, c.1, λ j l m. tt)))

pub always_not_eventually : {P : Property} → StableAll P → Same (λ t. ¬ Eventually (λ n. ¬ P n) t) (Always P)
always_not_eventually s t = (λ h n l. s n (λ np. h (some_at_lem n (l, np))), λ h e. e (λ n c. c.1 (h n c.0)))

-- the duals
pub not_always : {P : Property} → StableAll P → Same (λ t. ¬ Always P t) (Eventually (λ n. ¬ P n))
not_always s t = Equiv.trans (Equiv.not (Equiv.symm (always_not_eventually s t))) (not-not stable-not)

pub not_eventually : {P : Property} → Same (λ t. ¬ Eventually P t) (Always (λ n. ¬ P n))
not_eventually t = (λ h n l p. h (some_at_lem n (l, p)), λ h e. e (λ n c. h n c.0 c.1))

pub not_until : {P Q : Property} → StableAll P → StableAll Q → Same (λ t. ¬ Until P Q t) (Release (λ n. ¬ P n) (λ n. ¬ Q n))
not_until s u t = Equiv.not (until_same (λ n. Equiv.symm (not-not (s n))) (λ n. Equiv.symm (not-not (u n))) t)

pub not_release : {P Q : Property} → Same (λ t. ¬ Release P Q t) (Until (λ n. ¬ P n) (λ n. ¬ Q n))
not_release t = not-not stable-not

-- without a W b: as long as neither b nor the end of a has come, a goes on
goes_on : {P Q : Property} → StableAll P → (t : ℕ) → ¬ Until P Q t →
    ¬ Until (λ n. ¬ Q n) (λ n. ¬ P n × ¬ Q n) t →
    (n : ℕ) (j : ℕ) → t ≤ j → j < n → P j × ¬ Q j
goes_on s t nu nv zero j l m = absurd (omega arith)
goes_on s t nu nv (suc n) j l m =
    let before = goes_on s t nu nv n in
    let no-q : ¬ _ = λ q. nu (some_at_lem j (l, q, λ i a b. (before i a (omega arith)).0)) in
    (s j (λ np. nv (some_at_lem j (l, (np, no-q), λ i a b. (before i a (omega arith)).1))), no-q)

pub not_weak : {P Q : Property} → StableAll P → Same (λ t. ¬ WeakUntil P Q t) (Until (λ n. ¬ Q n) (λ n. ¬ P n × ¬ Q n))
not_weak {P} {Q} s t = (to, from)
  where
    to : ¬ WeakUntil P Q t → Until (λ n. ¬ Q n) (λ n. ¬ P n × ¬ Q n) t
    to h = (not-not stable-not).0 (λ nv. h (or_right (λ n l. (goes_on s t (λ u. h (or_left u)) nv (suc n) n l (omega arith)).0)))

    apart : (m : ℕ) → t ≤ m → Q m → ((j : ℕ) → t ≤ j → j < m → P j) → (n : ℕ) → t ≤ n → ¬ P n → ¬ Q n → ((j : ℕ) → t ≤ j → j < n → ¬ Q j) → ⊥
    apart m tm q p n tn np nq below =
        let not-before : ¬ (m < n) = λ l. below m tm l q in
        let not_after : ¬ (n < m) = λ l. np (p n tn l) in
        let here : m ≡ n = omega arith in
        nq (subst Q here q)

    from : Until (λ n. ¬ Q n) (λ n. ¬ P n × ¬ Q n) t → ¬ WeakUntil P Q t
    from v o = v (λ n c. o (λ u. u (λ m d. apart m d.0 d.1 d.2 n c.0 c.1.0 c.1.1 c.2), λ a. c.1.0 (a n c.0)))

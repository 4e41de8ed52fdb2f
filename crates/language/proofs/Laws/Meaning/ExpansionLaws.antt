-- What expanded formulas mean: folds, comparisons of numbers, membership, stacks of X, windows.
use Rattle.std.specs.Prelude.{ℕ, zero, suc, ◌+◌, ◌-◌, ◌≤◌, ◌≡◌, refl, Bool, true, false, List, [], ◌∷◌, ◌↔◌}
use Rattle.std.proofs.Common.{subst, sym, arith, add-zero}
use Rattle.std.proofs.Math.Bool.{So}
use Rattle.std.proofs.lemmas.Bool.{false≢true}
use Rattle.std.proofs.Math.Logic.Iff as Equiv
use Rattle.node.specs.Logic.{Either, Some}
use Rattle.node.proofs.LogicLaws.{or_left, or_right, or_cases, some_at_lem, some_cases, stable-not, or_same, some_same, all_same, to_same}
use Rattle.node.specs.Temporal.{Property}
use Rattle.node.proofs.TemporalLaws.{Same}
use Rattle.node.specs.Ltl.{And, Or, Formula, Two, Word, Holds}
use Rattle.node.proofs.LtlLaws.{stable}
use Rattle.language.specs.Operators.{Comparison, Window, FinallyIn, GloballyIn}
use Rattle.language.specs.Sets.{member_of}
use Rattle.language.specs.Expansion.{joined, conjunction, disjunction, truth, nexts, chain, window_operator, test}
use Rattle.language.specs.Meaning.{Relates, WindowMeans}
use Rattle.language.proofs.Laws.Meaning.Comparisons.{test_relates}
use Rattle.language.proofs.Laws.Values.SetMembers.{member-cases, member-first, member-later}

-- folds
abbrev pub AllHold : List Formula → Word → Property
AllHold [] w t = Unit {0}
AllHold (f ∷ fs) w t = Holds f w t × AllHold fs w t

abbrev pub SomeHold : List Formula → Word → Property
SomeHold [] w t = ⊥
SomeHold (f ∷ fs) w t = Either (Holds f w t) (SomeHold fs w t)

joined-and : (a : Formula) (fs : List Formula) (w : Word) (t : ℕ) → (Holds a w t × AllHold fs w t) ↔ Holds (joined And a fs) w t
unfolding Holds
joined-and a [] w t = (λ p. p.0, λ h. (h, tt))
joined-and a (f ∷ fs) w t = Equiv.trans (λ p. ((p.0, p.1.0), p.1.1), λ p. (p.0.0, (p.0.1, p.1))) (joined-and (Two And a f) fs w t)

pub or_assoc : {A B C : Type 0} → Either A (Either B C) ↔ Either (Either A B) C
or_assoc = (
  λ o n. o (λ a. n.0 (or_left a), λ p. p (λ b. n.0 (or_right b), n.1)),
  λ o n. o (λ p. p (n.0, λ b. n.1 (or_left b)), λ c. n.1 (or_right c)),
)

joined-or : (a : Formula) (fs : List Formula) (w : Word) (t : ℕ) → Either (Holds a w t) (SomeHold fs w t) ↔ Holds (joined Or a fs) w t
unfolding Holds
joined-or a [] w t = (or_cases (stable a w t) (λ h. h) (λ e. absurd e), or_left)
joined-or a (f ∷ fs) w t = Equiv.trans or_assoc (joined-or (Two Or a f) fs w t)

pub conjunction_holds : (fs : List Formula) (w : Word) → Same (AllHold fs w) (Holds (conjunction fs) w)
unfolding Holds
conjunction_holds [] w t = Equiv.rfl
conjunction_holds (f ∷ fs) w t = joined-and f fs w t

pub disjunction_holds : (fs : List Formula) (w : Word) → Same (SomeHold fs w) (Holds (disjunction fs) w)
unfolding Holds
disjunction_holds [] w t = Equiv.rfl
disjunction_holds (f ∷ fs) w t = joined-or f fs w t

-- comparisons
pub truth_holds : (b : Bool) (w : Word) (t : ℕ) → So b ↔ Holds (truth b) w t
unfolding Holds
truth_holds true w t = (λ e. tt, λ u. refl)
truth_holds false w t = (λ e. absurd (false≢true e), λ e. absurd e)

pub relates_holds : (o : Comparison) (a b : ℕ) (w : Word) (t : ℕ) → Relates o a b ↔ Holds (truth (test o a b)) w t
relates_holds o a b w t = Equiv.trans (Equiv.symm (test_relates o a b)) (truth_holds (test o a b) w t)

-- n times X
at_same : (P : Property) {a b : ℕ} → a ≡ b → P a ↔ P b
at_same P e = (subst P e, subst P (sym e))

pub nexts_hold : (n : ℕ) (f : Formula) (w : Word) (t : ℕ) → Holds f w (t + n) ↔ Holds (nexts n f) w t
unfolding Holds
nexts_hold zero f w t = at_same (Holds f w) (add-zero t)
nexts_hold (suc n) f w t = Equiv.trans (at_same (Holds f w) {a = t + suc n} {b = suc t + n} (omega arith)) (nexts_hold n f w (suc t))

-- P at one of the n + 1 positions from t on, and at each
abbrev Soon : ℕ → Property → Property
Soon n P t = Some (λ j. (j ≤ n) × P (t + j))

abbrev Throughout : ℕ → Property → Property
Throughout n P t = (j : ℕ) → j ≤ n → P (t + j)

soon_step : (n : ℕ) (P : Property) (t : ℕ) → Soon (suc n) P t ↔ Either (P t) (Soon n P (suc t))
soon_step n P t = (λ s o. s (λ j c. first j c.0 c.1 o), or_cases stable-not (λ p. some_at_lem 0 (omega arith, (at_same P (add-zero t)).1 p)) later)
  where
    first : (j : ℕ) → j ≤ suc n → P (t + j) → ¬ (¬ P t × ¬ Soon n P (suc t))
    first zero l p o = o.0 ((at_same P (add-zero t)).0 p)
    first (suc j) l p o = o.1 (some_at_lem j (omega arith, (at_same P {a = t + suc j} {b = suc t + j} (omega arith)).0 p))

    later : Soon n P (suc t) → Soon (suc n) P t
    later s m = s (λ j c. m (suc j) (omega (arith, c.0), (at_same P {a = suc t + j} {b = t + suc j} (omega arith)).0 c.1))

throughout_step : (n : ℕ) (P : Property) (t : ℕ) → Throughout (suc n) P t ↔ (P t × Throughout n P (suc t))
throughout_step n P t = (
  λ h. ((at_same P (add-zero t)).0 (h 0 (omega arith)), λ j l. (at_same P {a = t + suc j} {b = suc t + j} (omega arith)).0 (h (suc j) (omega arith))),
  λ h j l. rest j l h,
)
  where
    rest : (j : ℕ) → j ≤ suc n → P t × Throughout n P (suc t) → P (t + j)
    rest zero l h = (at_same P (add-zero t)).1 h.0
    rest (suc j) l h = (at_same P {a = suc t + j} {b = t + suc j} (omega arith)).0 (h.1 j (omega arith))

soon_holds : (n : ℕ) (f : Formula) (w : Word) (t : ℕ) → Soon n (Holds f w) t ↔ Holds (chain Or n f) w t
unfolding Holds
soon_holds zero f w t = (
  some_cases (stable f w t) (λ j c. (at_same (Holds f w) {a = t + j} {b = t} (omega (arith, c.0))).0 c.1),
  λ h. some_at_lem 0 (omega arith, (at_same (Holds f w) (add-zero t)).1 h),
)
soon_holds (suc n) f w t = Equiv.trans (soon_step n (Holds f w) t) (or_same Equiv.rfl (soon_holds n f w (suc t)))

throughout_holds : (n : ℕ) (f : Formula) (w : Word) (t : ℕ) → Throughout n (Holds f w) t ↔ Holds (chain And n f) w t
unfolding Holds
throughout_holds zero f w t =
    (λ h. (at_same (Holds f w) (add-zero t)).0 (h 0 (omega arith)), λ h j l. (at_same (Holds f w) {a = t} {b = t + j} (omega arith)).0 h)
throughout_holds (suc n) f w t = Equiv.trans (throughout_step n (Holds f w) t) (Equiv.and Equiv.rfl (throughout_holds n f w (suc t)))

-- F[j:k] and G[j:k]
soon_within : (j k : ℕ) → j ≤ k → (P : Property) (t : ℕ) → WindowMeans FinallyIn j k P t ↔ Soon (k - j) P (t + j)
soon_within j k l P t = (
  λ s n. s (λ i c. n (i - j) (omega (arith, c.0, c.1), (at_same P {a = t + i} {b = t + j + (i - j)} (omega (arith, c.0))).0 c.2)),
  λ s n. s (λ i c. n (j + i) (omega arith, omega (arith, c.0), (at_same P {a = t + j + i} {b = t + (j + i)} (omega arith)).0 c.1)),
)

throughout_within : (j k : ℕ) → j ≤ k → (P : Property) (t : ℕ) → WindowMeans GloballyIn j k P t ↔ Throughout (k - j) P (t + j)
throughout_within j k l P t = (
  λ h i m. (at_same P {a = t + (j + i)} {b = t + j + i} (omega arith)).0 (h (j + i) (omega arith) (omega arith)),
  λ h i a b. (at_same P {a = t + j + (i - j)} {b = t + i} (omega arith)).0 (h (i - j) (omega arith)),
)

chain_holds : (o : Window) (j k : ℕ) → j ≤ k → (f : Formula) (w : Word) (t : ℕ) →
    WindowMeans o j k (Holds f w) t ↔ Holds (chain (window_operator o) (k - j) f) w (t + j)
chain_holds FinallyIn j k l f w t = Equiv.trans (soon_within j k l (Holds f w) t) (soon_holds (k - j) f w (t + j))
chain_holds GloballyIn j k l f w t = Equiv.trans (throughout_within j k l (Holds f w) t) (throughout_holds (k - j) f w (t + j))

pub window_holds : (o : Window) (j k : ℕ) → j ≤ k → (f : Formula) (w : Word) →
    Same (WindowMeans o j k (Holds f w)) (Holds (nexts j (chain (window_operator o) (k - j) f)) w)
window_holds o j k l f w t = Equiv.trans (chain_holds o j k l f w t) (nexts_hold j (chain (window_operator o) (k - j) f) w t)

pub window_same : (o : Window) (j k : ℕ) {P Q : Property} → Same P Q → Same (WindowMeans o j k P) (WindowMeans o j k Q)
window_same FinallyIn j k h t = some_same (λ i. (λ p. (p.0, p.1, (h (t + i)).0 p.2), λ p. (p.0, p.1, (h (t + i)).1 p.2)))
window_same GloballyIn j k h t = all_same (λ i. to_same Equiv.rfl (to_same Equiv.rfl (h (t + i))))

-- each and some of a set's elements
pub each-cons : (x : ℕ) (m : List ℕ) (P : ℕ → Type 0) → ((k : ℕ) → So (member_of (x ∷ m) k) → P k) ↔ (P x × ((k : ℕ) → So (member_of m k) → P k))
each-cons x m P = (
  λ h. (h x (member-first x m), λ k e. h k (member-later x m k e)),
  λ h k. member-cases x m k (λ e. subst P (sym e) h.0) (λ e. h.1 k e),
)

pub some_cons : (x : ℕ) (m : List ℕ) (P : ℕ → Type 0) → Some (λ k. So (member_of (x ∷ m) k) × P k) ↔ Either (P x) (Some (λ k. So (member_of m k) × P k))
some_cons x m P = (
  λ s n. s (λ k c. member-cases x m k (λ e. n.0 (subst P e c.1)) (λ e. n.1 (some_at_lem k (e, c.1))) c.0),
  λ o n. o (λ p. n x (member-first x m, p), λ s. s (λ k c. n k (member-later x m k c.0, c.1))),
)

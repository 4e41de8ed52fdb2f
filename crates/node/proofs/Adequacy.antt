-- Under excluded middle, a parameter here, the operators and with them `Holds` are Appendix A.1 as printed: with the plain 'or' and 'exists', and each derived
-- operator by its derivation.
use Prim.Axiom.{Lem}
use Rattle.std.specs.Prelude.{ℕ, suc, ◌≤◌, ◌<◌, ◌↔◌}
use Rattle.std.proofs.Math.Bool.{So}
use mathlib.Core.HLevel.{⊥_prop}
use Rattle.std.proofs.Common.{inl, inr}
use Rattle.std.proofs.Math.Logic.{◌∨₁◌, ∥∥₁_prop, ∥∥₁_elim}
use Rattle.std.proofs.Math.Logic.Iff as Equiv
use Rattle.node.specs.Logic.{Stable, Either, Some}
use Rattle.node.proofs.LogicLaws.{stable_to, not-not, not-or, implies_or}
use Rattle.node.specs.Temporal.{Property, Always, Until}
use Rattle.node.proofs.TemporalLaws.{Same, StableAll, until_same, eventually_until, always_not_eventually}
use Rattle.node.specs.Ltl.{Unary, Not, X, G, F, Binary, And, Or, Implies, Iff, U, R, W, UnaryMeans, BinaryMeans, Formula, True, False, Signal, One, Two, Word, Holds}
use Rattle.node.proofs.LtlLaws.{stable}

-- 'there is n ≥ t with Q at n, and P at each j, t ≤ j < n'
abbrev pub UntilA1 : Property → Property → Property
UntilA1 P Q t = ∥ ((n : ℕ) × (t ≤ n) × Q n × ((j : ℕ) → t ≤ j → j < n → P j)) ∥₁

-- Appendix A.1 as printed: the operators, each derived one by its derivation
abbrev pub ImpliesA1 : Type 0 → Type 0 → Type 0
ImpliesA1 A B = (¬ A) ∨₁ B

abbrev pub AndA1 : Type 0 → Type 0 → Type 0
AndA1 A B = ¬ ((¬ A) ∨₁ (¬ B))

abbrev pub UnaryA1 : Unary → Property → Property
UnaryA1 Not P t = ¬ P t
UnaryA1 X P t = P (suc t)
UnaryA1 F P t = UntilA1 (λ n. Unit {0}) P t
UnaryA1 G P t = ¬ UntilA1 (λ n. Unit {0}) (λ n. ¬ P n) t

abbrev pub BinaryA1 : Binary → Property → Property → Property
BinaryA1 Or P Q t = P t ∨₁ Q t
BinaryA1 And P Q t = AndA1 (P t) (Q t)
BinaryA1 Implies P Q t = ImpliesA1 (P t) (Q t)
BinaryA1 Iff P Q t = AndA1 (ImpliesA1 (P t) (Q t)) (ImpliesA1 (Q t) (P t))
BinaryA1 U P Q t = UntilA1 P Q t
BinaryA1 R P Q t = ¬ UntilA1 (λ n. ¬ P n) (λ n. ¬ Q n) t
BinaryA1 W P Q t = UntilA1 P Q t ∨₁ UnaryA1 G P t

-- and where formulas hold
abbrev pub HoldsA1 : Formula → Word → Property
HoldsA1 True w t = Unit {0}
HoldsA1 False w t = ¬ Unit {0}
HoldsA1 (Signal k) w t = So (w t k)
HoldsA1 (One o a) w t = UnaryA1 o (HoldsA1 a w) t
HoldsA1 (Two o a b) w t = BinaryA1 o (HoldsA1 a w) (HoldsA1 b w) t

module _ (lem : Lem {0}) where
  by_cases : {A : Type 0} → Dec ∥ A ∥₁ → ¬ (¬ A) → ∥ A ∥₁
  by_cases (yes a) h = a
  by_cases (no n) h = absurd (h (λ a. n ∣ a ∣₁))

  -- the plain 'or' and 'exists' are the ones of Logic
  pub or-plain : {A B C D : Type 0} → A ↔ C → B ↔ D → (A ∨₁ B) ↔ Either C D
  or-plain {A} {B} h k = (
    λ o n. ∥∥₁_elim o ⊥_prop (elim [ inl a ↦ n.0 (h.0 a) | inr b ↦ n.1 (k.0 b) ]),
    λ o. by_cases (lem (A ∨₁ B) ∥∥₁_prop) (λ n. o (λ c. n (inl (h.1 c)), λ d. n (inr (k.1 d)))),
  )

  pub some_plain : {P : ℕ → Type 0} → ∥ ((n : ℕ) × P n) ∥₁ ↔ Some P
  some_plain {P} =
      (λ o n. ∥∥₁_elim o ⊥_prop (λ p. n p.0 p.1), λ o. by_cases (lem _ ∥∥₁_prop) (λ n. o (λ x p. n (x, p))))

  until_plain : {P P' Q Q' : Property} → Same P P' → Same Q Q' → Same (UntilA1 P Q) (Until P' Q')
  until_plain {P} {P'} {Q} {Q'} h k t = Equiv.trans plain (until_same h k t)
    where
      plain : UntilA1 P Q t ↔ Until P Q t
      plain = (λ o n. ∥∥₁_elim o ⊥_prop (λ p. n p.0 (p.1, p.2, p.3)), λ o. by_cases (lem _ ∥∥₁_prop) (λ n. o (λ x p. n (x, p.0, p.1, p.2))))

  -- A.1's 'and', 'implies' and G
  and-plain : {A B C D : Type 0} → Stable C → Stable D → A ↔ C → B ↔ D → AndA1 A B ↔ (C × D)
  and-plain s u h k = Equiv.trans (Equiv.not (or-plain (Equiv.not h) (Equiv.not k))) (Equiv.trans not-or (Equiv.and (not-not s) (not-not u)))

  implies_plain : {A B C D : Type 0} → Stable D → A ↔ C → B ↔ D → ImpliesA1 A B ↔ (C → D)
  implies_plain u h k = Equiv.trans (or-plain (Equiv.not h) k) (Equiv.symm (implies_or u))

  always_plain : {P P' : Property} → StableAll P' → Same P P' → Same (UnaryA1 G P) (Always P')
  always_plain {P} {P'} s h t =
      Equiv.trans (Equiv.not (Equiv.trans (until_plain (λ n. Equiv.rfl) (λ n. Equiv.not (h n)) t) (eventually_until (λ n. ¬ P' n) t))) (always_not_eventually s t)

  -- the operators, on properties that hold unless they are refuted
  pub unary-plain : (o : Unary) {P P' : Property} → StableAll P' → Same P P' → Same (UnaryA1 o P) (UnaryMeans o P')
  unary-plain Not s h t = Equiv.not (h t)
  unary-plain X s h t = h (suc t)
  unary-plain F {P' = P'} s h t = Equiv.trans (until_plain (λ n. Equiv.rfl) h t) (eventually_until P' t)
  unary-plain G s h t = always_plain s h t

  pub binary-plain : (o : Binary) {P P' Q Q' : Property} → StableAll P' → StableAll Q' → Same P P' → Same Q Q' → Same (BinaryA1 o P Q) (BinaryMeans o P' Q')
  binary-plain Or s u h k t = or-plain (h t) (k t)
  binary-plain And s u h k t = and-plain (s t) (u t) (h t) (k t)
  binary-plain Implies s u h k t = implies_plain (u t) (h t) (k t)
  binary-plain Iff s u h k t = and-plain (stable_to (u t)) (stable_to (s t)) (implies_plain (u t) (h t) (k t)) (implies_plain (s t) (k t) (h t))
  binary-plain U s u h k t = until_plain h k t
  binary-plain R s u h k t = Equiv.not (until_plain (λ n. Equiv.not (h n)) (λ n. Equiv.not (k n)) t)
  binary-plain W s u h k t = or-plain (until_plain h k t) (always_plain s h t)

  pub adequate : (f : Formula) (w : Word) → Same (HoldsA1 f w) (Holds f w)
  unfolding Holds
  adequate True w t = Equiv.rfl
  adequate False w t = (λ n. n tt, λ e u. e)
  adequate (Signal k) w t = Equiv.rfl
  adequate (One o a) w t = unary-plain o (stable a w) (adequate a w) t
  adequate (Two o a b) w t = binary-plain o (stable a w) (stable b w) (adequate a w) (adequate b w) t

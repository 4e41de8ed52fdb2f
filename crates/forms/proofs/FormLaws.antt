-- Every form holds where the formula does: every word, every position.
use Rattle.std.specs.Prelude.{ℕ, zero, suc, ◌≤◌, ◌≡◌, refl, ◌↔◌}
use Rattle.std.proofs.Math.Logic.Iff as Equiv
use Rattle.std.proofs.Common.{arith}
use Rattle.node.specs.Logic.{Either, Stable}
use Rattle.node.proofs.LogicLaws.{or_same, to_same, not-not, not-or, not-and, implies_or, not_implies}
use Rattle.node.proofs.TemporalLaws.{
  always_same,
  eventually_same,
  until_same,
  release_same,
  weak_same,
  eventually_until,
  always_not_eventually,
  not_always,
  not_eventually,
  not_until,
  not_release,
  not_weak,
}
use Rattle.node.specs.Ltl.{Not, X, G, F, And, Or, Implies, Iff, U, R, W, Formula, True, False, Signal, One, Two, Word, Holds}
use Rattle.node.proofs.LtlLaws.{stable}
use Rattle.forms.specs.Forms.{plain, negated, core, both_of, implies_of, globally_of, form}

-- a <-> b as negation form has it, and its negation
iff_or : {A B : Type 0} → Stable A → Stable B → Either (A × B) (¬ A × ¬ B) ↔ (A ↔ B)
iff_or s u = (
  λ o. (λ a. u (λ nb. o (λ p. nb p.1, λ p. p.0 a)), λ b. s (λ na. o (λ p. na p.0, λ p. p.1 b))),
  λ e n. n.1 (λ a. n.0 (a, e.0 a), λ b. n.0 (e.1 b, b)),
)

not_iff_or : {A B : Type 0} → Stable A → Stable B → Either (A × ¬ B) (¬ A × B) ↔ ¬ (A ↔ B)
not_iff_or s u = (
  λ o e. o (λ p. p.1 (e.0 p.0), λ p. p.0 (e.1 p.1)),
  λ ne n. ne (λ a. u (λ nb. n.0 (a, nb)), λ b. s (λ na. n.1 (na, b))),
)

mutual
  unfolding Holds plain negated

  pub plain_holds : (f : Formula) (w : Word) (t : ℕ) → Holds (plain f) w t ↔ Holds f w t
  plain_holds True w t = Equiv.rfl
  plain_holds False w t = Equiv.rfl
  plain_holds (Signal k) w t = Equiv.rfl
  plain_holds (One Not a) w t = negated_holds a w t
  plain_holds (One X a) w t = plain_holds a w (suc t)
  plain_holds (One G a) w t = always_same (plain_holds a w) t
  plain_holds (One F a) w t = eventually_same (plain_holds a w) t
  plain_holds (Two And a b) w t = Equiv.and (plain_holds a w t) (plain_holds b w t)
  plain_holds (Two Or a b) w t = or_same (plain_holds a w t) (plain_holds b w t)
  plain_holds (Two Implies a b) w t = Equiv.trans (or_same (negated_holds a w t) (plain_holds b w t)) (Equiv.symm (implies_or (stable b w t)))
  plain_holds (Two Iff a b) w t =
      Equiv.trans (or_same (Equiv.and (plain_holds a w t) (plain_holds b w t)) (Equiv.and (negated_holds a w t) (negated_holds b w t)))
      (iff_or (stable a w t) (stable b w t))
  plain_holds (Two U a b) w t = until_same (plain_holds a w) (plain_holds b w) t
  plain_holds (Two R a b) w t = release_same (plain_holds a w) (plain_holds b w) t
  plain_holds (Two W a b) w t = weak_same (plain_holds a w) (plain_holds b w) t

  pub negated_holds : (f : Formula) (w : Word) (t : ℕ) → Holds (negated f) w t ↔ (¬ Holds f w t)
  negated_holds True w t = (λ e u. e, λ n. n tt)
  negated_holds False w t = (λ u e. e, λ n. tt)
  negated_holds (Signal k) w t = Equiv.rfl
  negated_holds (One Not a) w t = Equiv.trans (plain_holds a w t) (Equiv.symm (not-not (stable a w t)))
  negated_holds (One X a) w t = negated_holds a w (suc t)
  negated_holds (One G a) w t = Equiv.trans (eventually_same (negated_holds a w) t) (Equiv.symm (not_always (stable a w) t))
  negated_holds (One F a) w t = Equiv.trans (always_same (negated_holds a w) t) (Equiv.symm (not_eventually t))
  negated_holds (Two And a b) w t = Equiv.trans (or_same (negated_holds a w t) (negated_holds b w t)) (Equiv.symm (not-and (stable a w t) (stable b w t)))
  negated_holds (Two Or a b) w t = Equiv.trans (Equiv.and (negated_holds a w t) (negated_holds b w t)) (Equiv.symm not-or)
  negated_holds (Two Implies a b) w t = Equiv.trans (Equiv.and (plain_holds a w t) (negated_holds b w t)) (Equiv.symm (not_implies (stable a w t)))
  negated_holds (Two Iff a b) w t =
      Equiv.trans (or_same (Equiv.and (plain_holds a w t) (negated_holds b w t)) (Equiv.and (negated_holds a w t) (plain_holds b w t)))
      (not_iff_or (stable a w t) (stable b w t))
  negated_holds (Two U a b) w t = Equiv.trans (release_same (negated_holds a w) (negated_holds b w) t) (Equiv.symm (not_until (stable a w) (stable b w) t))
  negated_holds (Two R a b) w t = Equiv.trans (until_same (negated_holds a w) (negated_holds b w) t) (Equiv.symm (not_release t))
  negated_holds (Two W a b) w t =
      Equiv.trans (until_same (negated_holds b w) (λ n. Equiv.and (negated_holds a w n) (negated_holds b w n)) t)
      (Equiv.symm (not_weak (stable a w) t))

-- the derived operators are what Appendix A.1 derives them from
both_holds : (a b : Formula) (w : Word) (t : ℕ) → Holds (both_of a b) w t ↔ (Holds a w t × Holds b w t)
unfolding Holds
both_holds a b w t = Equiv.trans not-or (Equiv.and (not-not (stable a w t)) (not-not (stable b w t)))

globally_holds : (a : Formula) (w : Word) (t : ℕ) → Holds (globally_of a) w t ↔ Holds (One G a) w t
unfolding Holds
globally_holds a w t = Equiv.trans (Equiv.not (eventually_until _ t)) (always_not_eventually (stable a w) t)

implies_holds : (a b : Formula) (w : Word) (t : ℕ) → Holds (implies_of a b) w t ↔ (Holds a w t → Holds b w t)
unfolding Holds
implies_holds a b w t = Equiv.symm (implies_or (stable b w t))

pub core_holds : (f : Formula) (w : Word) (t : ℕ) → Holds (core f) w t ↔ Holds f w t
unfolding Holds core
core_holds True w t = Equiv.rfl
core_holds False w t = (λ n. n tt, λ e u. e)
core_holds (Signal k) w t = Equiv.rfl
core_holds (One Not a) w t = Equiv.not (core_holds a w t)
core_holds (One X a) w t = core_holds a w (suc t)
core_holds (One G a) w t = Equiv.trans (globally_holds (core a) w t) (always_same (core_holds a w) t)
core_holds (One F a) w t = Equiv.trans (eventually_until _ t) (eventually_same (core_holds a w) t)
core_holds (Two And a b) w t = Equiv.trans (both_holds (core a) (core b) w t) (Equiv.and (core_holds a w t) (core_holds b w t))
core_holds (Two Or a b) w t = or_same (core_holds a w t) (core_holds b w t)
core_holds (Two Implies a b) w t = Equiv.trans (implies_holds (core a) (core b) w t) (to_same (core_holds a w t) (core_holds b w t))
core_holds (Two Iff a b) w t =
    Equiv.trans (both_holds (implies_of (core a) (core b)) (implies_of (core b) (core a)) w t)
    (Equiv.and (Equiv.trans (implies_holds (core a) (core b) w t) (to_same (core_holds a w t) (core_holds b w t)))
    (Equiv.trans (implies_holds (core b) (core a) w t) (to_same (core_holds b w t) (core_holds a w t))))
core_holds (Two U a b) w t = until_same (core_holds a w) (core_holds b w) t
core_holds (Two R a b) w t = release_same (core_holds a w) (core_holds b w) t
core_holds (Two W a b) w t =
    or_same (until_same (core_holds a w) (core_holds b w) t) (Equiv.trans (globally_holds (core a) w t) (always_same (core_holds a w) t))

pub form_holds : (n : ℕ) (f : Formula) (w : Word) (t : ℕ) → Holds (form n f) w t ↔ Holds f w t
form_holds zero f w t = Equiv.rfl
form_holds (suc zero) f w t = plain_holds f w t
form_holds (suc (suc n)) f w t = core_holds f w t

-- every number but 0 and 1 stands for the core form
pub form-core : (n : ℕ) (f : Formula) → 2 ≤ n → form n f ≡ core f
form-core zero f h = absurd (omega arith)
form-core (suc zero) f h = absurd (omega arith)
form-core (suc (suc n)) f h = refl

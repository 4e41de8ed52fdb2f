-- No form has a larger signal number than the formula.
use Rattle.std.specs.Prelude.{ℕ, zero, suc}
use Rattle.node.specs.Ltl.{Not, X, G, F, And, Or, Implies, Iff, U, R, W, Formula, True, False, Signal, One, Two}
use Rattle.node.specs.Postorder.{SignalsBelow}
use Rattle.forms.specs.Forms.{plain, negated, core, form}

module _ (n : ℕ) where
  mutual
    unfolding SignalsBelow plain negated

    plain-signals : (f : Formula) → SignalsBelow n f → SignalsBelow n (plain f)
    plain-signals True s = tt
    plain-signals False s = tt
    plain-signals (Signal k) s = s
    plain-signals (One Not a) s = negated-signals a s
    plain-signals (One X a) s = plain-signals a s
    plain-signals (One G a) s = plain-signals a s
    plain-signals (One F a) s = plain-signals a s
    plain-signals (Two And a b) s = (plain-signals a s.0, plain-signals b s.1)
    plain-signals (Two Or a b) s = (plain-signals a s.0, plain-signals b s.1)
    plain-signals (Two Implies a b) s = (negated-signals a s.0, plain-signals b s.1)
    plain-signals (Two Iff a b) s = ((plain-signals a s.0, plain-signals b s.1), (negated-signals a s.0, negated-signals b s.1))
    plain-signals (Two U a b) s = (plain-signals a s.0, plain-signals b s.1)
    plain-signals (Two R a b) s = (plain-signals a s.0, plain-signals b s.1)
    plain-signals (Two W a b) s = (plain-signals a s.0, plain-signals b s.1)

    negated-signals : (f : Formula) → SignalsBelow n f → SignalsBelow n (negated f)
    negated-signals True s = tt
    negated-signals False s = tt
    negated-signals (Signal k) s = s
    negated-signals (One Not a) s = plain-signals a s
    negated-signals (One X a) s = negated-signals a s
    negated-signals (One G a) s = negated-signals a s
    negated-signals (One F a) s = negated-signals a s
    negated-signals (Two And a b) s = (negated-signals a s.0, negated-signals b s.1)
    negated-signals (Two Or a b) s = (negated-signals a s.0, negated-signals b s.1)
    negated-signals (Two Implies a b) s = (plain-signals a s.0, negated-signals b s.1)
    negated-signals (Two Iff a b) s = ((plain-signals a s.0, negated-signals b s.1), (negated-signals a s.0, plain-signals b s.1))
    negated-signals (Two U a b) s = (negated-signals a s.0, negated-signals b s.1)
    negated-signals (Two R a b) s = (negated-signals a s.0, negated-signals b s.1)
    negated-signals (Two W a b) s = (negated-signals b s.1, (negated-signals a s.0, negated-signals b s.1))

  core-signals : (f : Formula) → SignalsBelow n f → SignalsBelow n (core f)
  unfolding SignalsBelow core
  core-signals True s = tt
  core-signals False s = tt
  core-signals (Signal k) s = s
  core-signals (One Not a) s = core-signals a s
  core-signals (One X a) s = core-signals a s
  core-signals (One G a) s = (tt, core-signals a s)
  core-signals (One F a) s = (tt, core-signals a s)
  core-signals (Two And a b) s = (core-signals a s.0, core-signals b s.1)
  core-signals (Two Or a b) s = (core-signals a s.0, core-signals b s.1)
  core-signals (Two Implies a b) s = (core-signals a s.0, core-signals b s.1)
  core-signals (Two Iff a b) s = ((core-signals a s.0, core-signals b s.1), (core-signals b s.1, core-signals a s.0))
  core-signals (Two U a b) s = (core-signals a s.0, core-signals b s.1)
  core-signals (Two R a b) s = (core-signals a s.0, core-signals b s.1)
  core-signals (Two W a b) s = ((core-signals a s.0, core-signals b s.1), (tt, core-signals a s.0))

pub form-signals : (number n : ℕ) (f : Formula) → SignalsBelow n f → SignalsBelow n (form number f)
form-signals zero n f s = s
form-signals (suc zero) n f s = plain-signals n f s
form-signals (suc (suc k)) n f s = core-signals n f s

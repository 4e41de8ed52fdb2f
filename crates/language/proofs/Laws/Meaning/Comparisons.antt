-- What comparisons of numbers decide.
use Rattle.std.specs.Prelude.{ℕ, refl, Bool, true, false, not, ◌↔◌, eqb}
use Rattle.std.proofs.Math.Bool.{So}
use Rattle.std.proofs.lemmas.Bool.{false≢true}
use Rattle.std.proofs.Math.Logic.Iff as Equiv
use Rattle.language.specs.Operators.{Comparison, Equal, Unequal, Less, AtMost, Greater, AtLeast}
use Rattle.language.specs.Expansion.{test}
use Rattle.language.specs.Meaning.{Relates}
use Rattle.language.proofs.Laws.Basics.Tests.{so_eqb, so_leb, so_ltb}

pub so_not : (b : Bool) → So (not b) ↔ (¬ So b)
so_not true = (λ e n. false≢true e, λ h. absurd (h refl))
so_not false = (λ e n. false≢true n, λ h. refl)

pub test_relates : (o : Comparison) (a b : ℕ) → So (test o a b) ↔ Relates o a b
test_relates Equal a b = so_eqb a b
test_relates Unequal a b = Equiv.trans (so_not (eqb a b)) (Equiv.not (so_eqb a b))
test_relates Less a b = so_ltb a b
test_relates AtMost a b = so_leb a b
test_relates Greater a b = so_ltb b a
test_relates AtLeast a b = so_leb b a

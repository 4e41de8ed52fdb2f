use mathlib.Core.Path.{refl}
use Rattle.atom_steps.proofs.comparisons.name_of.Goals as goal

pub returns-then-m-eq-BUS : goal.returns-then-m-eq-BUS
returns-then-m-eq-BUS c =
    let at-if1 = c.if-m-eq-BUS in
    record { bus = λ e. refl; choice = λ e. refl; small = c.requires.bus at-if1.true }

pub returns-then-m-eq-CHOICE : goal.returns-then-m-eq-CHOICE
returns-then-m-eq-CHOICE c =
    let at-if2 = c.if-m-eq-CHOICE in
    record { bus = λ e. refl; choice = λ e. refl; small = c.requires.choice at-if2.true }

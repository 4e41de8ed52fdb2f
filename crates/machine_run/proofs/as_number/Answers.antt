-- `as_number` meets its contract: the mode says whether a number has come.
use mathlib.Core.Path.{refl}
use Rattle.machine_run.proofs.as_number.Goals as goal

pub returns-then-n-eq-NUMBER : goal.returns-then-n-eq-NUMBER
returns-then-n-eq-NUMBER c =
    let at-if1 = c.if-n-eq-NUMBER in
    record { number = λ e. refl; other = λ f. absurd (f at-if1.true) }

pub returns : goal.returns
returns c =
    let at-if1 = c.if-n-eq-NUMBER in
    record { number = λ e. absurd (at-if1.false e); other = λ f. refl }

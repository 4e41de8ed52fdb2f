use Rattle.temporal_steps.specs.WindowLaws.{chains_finally, chains_globally}
use Rattle.temporal_steps.proofs.windows.chaining.Goals as goal

pub returns-then-code-eq-FINALLY : goal.returns-then-code-eq-FINALLY
returns-then-code-eq-FINALLY c =
    let at-if1 = c.if-code-eq-FINALLY in
    chains_finally c.args.code at-if1.true

pub returns : goal.returns
returns c =
    let at-if1 = c.if-code-eq-FINALLY in
    chains_globally c.args.code at-if1.false

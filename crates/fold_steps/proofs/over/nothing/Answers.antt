use mathlib.Core.Path.{ap, ◌∙◌}
use Rattle.std.specs.Prelude.{Ok}
use Rattle.machine.specs.declared.Machine.{Machine}
use Rattle.machine.specs.declared.Move.TheVariants.{Next}
use native.Mathlib.Omega.{arith}
use Rattle.fold_steps.specs.BigLaws.{by_product, by_sum, by_cup, by_cap}
use Rattle.fold_steps.specs.OverLaws.{nothing_as}
use Rattle.fold_steps.proofs.over.nothing.Goals as goal

pub returns-then-code-eq-TIMES : goal.returns-then-code-eq-TIMES
returns-then-code-eq-TIMES c =
    let at-if1 = c.if-kind-lt-BIG_SETS in
    let at-if2 = c.if-code-eq-TIMES in
    let at-came = c.came in
    ap (λ (y : Machine). Ok (Next y)) at-came.ensures ∙ nothing_as c.args.m c.args.place (by_product at-if1.true at-if2.true)

pub returns-then-kind-lt-BIG_SETS : goal.returns-then-kind-lt-BIG_SETS
returns-then-kind-lt-BIG_SETS c =
    let at-if1 = c.if-kind-lt-BIG_SETS in
    let at-if2 = c.if-code-eq-TIMES in
    let at-came2 = c.came-then-kind-lt-BIG_SETS in
    ap (λ (y : Machine). Ok (Next y)) at-came2.ensures ∙ nothing_as c.args.m c.args.place (by_sum at-if1.true at-if2.false)

pub returns-then-code-eq-CUP : goal.returns-then-code-eq-CUP
returns-then-code-eq-CUP c =
    let at-if1 = c.if-kind-lt-BIG_SETS in
    let at-if3 = c.if-code-eq-CUP in
    let at-came3 = c.came-then-code-eq-CUP in
    ap (λ (y : Machine). Ok (Next y)) at-came3.ensures ∙ nothing_as c.args.m c.args.place (by_cup {kind = c.args.kind} (let l = at-if1.false in omega arith) at-if3.true)

pub returns : goal.returns
returns c =
    let at-if1 = c.if-kind-lt-BIG_SETS in
    let at-if3 = c.if-code-eq-CUP in
    nothing_as c.args.m c.args.place (by_cap {kind = c.args.kind} (let l = at-if1.false in omega arith) at-if3.false)

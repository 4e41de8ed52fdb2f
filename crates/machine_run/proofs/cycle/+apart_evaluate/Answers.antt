use Rattle.node.proofs.ReturnedLaws.{raised}
use Rattle.machine_run.specs.CycleLaws as cycles
use Rattle.machine_run.specs.Evaluating.{moved}
use Rattle.std.specs.Prelude.{Ok, Err}
use Rattle.node.specs.Returned.{Returned}
use Rattle.node.specs.declared.Refusal.{Refusal}
use Rattle.machine.specs.Stepped.{Stepped}
use Rattle.machine.specs.declared.Machine.{Machine}
use Rattle.machine.specs.declared.Move.{Move}
use Rattle.machine.specs.declared.Move.TheVariants.{Next}
use native.Mathlib.Omega.{arith}
use mathlib.Core.Path.{◌≡◌, ap}
use Rattle.machine_run.proofs.cycle.+apart_evaluate.Goals as goal

-- what a step that has gone well came to
then-ok : {r : Stepped} {x y : Move} → r ≡ Ok x → x ≡ y → r ≡ Ok y
then-ok p q = cc

-- what an entry worked out apart came to, as a step
moved_comes : {u : Returned Machine} {n : Machine} → u ≡ Ok n → moved u ≡ Ok (Next n)
moved_comes e = ap moved e

moved_fails : {u : Returned Machine} {e : Refusal} → u ≡ Err e → moved u ≡ Err e
moved_fails e = ap moved e

pub apart-apart-requires : goal.apart-apart-requires
apart-apart-requires t c =
    absurd (omega (arith, c.requires.mode_bound, c.if-m-gt-EXPAND.true))

pub apart-returns-then-m-gt-EXPAND : goal.apart-returns-then-m-gt-EXPAND
apart-returns-then-m-gt-EXPAND t c =
    absurd (omega (arith, c.requires.mode_bound, c.if-m-gt-EXPAND.true))

pub apart-copy-requires : goal.apart-copy-requires
apart-copy-requires t c =
    let f = cycles.slots_fit c.requires.stands c.requires.mode_bound in
    let l = c.room-fresh.ensures in
    let t = cycles.apart_fits c.requires.stands c.requires.mode_bound in
    (omega arith, omega arith)

pub apart-outset-requires : goal.apart-outset-requires
apart-outset-requires t c =
    cycles.outset-fits c.requires.stands c.requires.mode_bound

pub apart-evaluate-requires : goal.apart-evaluate-requires
apart-evaluate-requires t c = (
  cycles.outset_less c.args.m c.decreases c.outset.ensures,
  cycles.fresh-begins c.args.m c.room-fresh.ensures c.copy.ensures (cycles.apart_fits c.requires.stands c.requires.mode_bound) c.requires.stands c.requires.mode_bound c.outset.ensures,
)

pub apart-returns-in_err-n : goal.apart-returns-in_err-n
apart-returns-in_err-n t c =
    rw (raised c.from_residual.ensures)
    (cycles.apart-fails c.args.m c.room-fresh.ensures c.copy.ensures (cycles.apart_fits c.requires.stands c.requires.mode_bound) c.requires.stands c.requires.mode_bound c.outset.ensures
    c.evaluate.ensures c.in_err-n.was)

pub apart-bring-requires : goal.apart-bring-requires
apart-bring-requires t c =
    cycles.apart-bringable c.args.m c.room-fresh.ensures c.copy.ensures (cycles.apart_fits c.requires.stands c.requires.mode_bound) c.requires.stands c.requires.mode_bound c.outset.ensures
    c.evaluate.ensures c.in_ok-n.was

pub apart-returns : goal.apart-returns
apart-returns t c =
    cycles.apart-comes c.args.m c.room-fresh.ensures c.copy.ensures (cycles.apart_fits c.requires.stands c.requires.mode_bound) c.requires.stands c.requires.mode_bound c.outset.ensures
    c.evaluate.ensures c.in_ok-n.was c.bring.ensures

pub evaluate-loop-n-init : goal.evaluate-loop-n-init
evaluate-loop-n-init t c =
    cycles.begins c.requires.bare

pub evaluate-shape_of-memory-then-finished : goal.evaluate-shape_of-memory-then-finished
evaluate-shape_of-memory-then-finished t c =
    let at-loop = c.loop-n in
    at-loop.invariant.len

pub evaluate-returns-then-finished : goal.evaluate-returns-then-finished
evaluate-returns-then-finished t c =
    let at-loop = c.loop-n in
    let at-finished = c.finished in
    let at-if1 = c.if-finished in
    cycles.run_ends c.requires.stands at-loop.invariant (cycles.done_at _ _ _ at-finished.ensures at-if1.true)

pub evaluate-step-requires : goal.evaluate-step-requires
evaluate-step-requires t c =
    record { ready_to_write = cycles.ready (cycles.stands c.requires.stands c.loop-n.invariant); going = cycles.going_at _ _ _ c.finished.ensures c.if-finished.false }

pub evaluate-returns-in-Err : goal.evaluate-returns-in-Err
evaluate-returns-in-Err t c =
    cycles.step-fails c.requires.stands c.loop-n.invariant c.step.ensures c.in-Err.is

pub evaluate-loop-n-smaller-in-Ok-Next : goal.evaluate-loop-n-smaller-in-Ok-Next
evaluate-loop-n-smaller-in-Ok-Next t c =
    cycles.step_less c.requires.stands c.loop-n.invariant c.step.ensures (then-ok c.in-Ok-Next.is c.in-Ok-Next.field-0-is)

pub evaluate-loop-n-preserved-in-Ok-Next : goal.evaluate-loop-n-preserved-in-Ok-Next
evaluate-loop-n-preserved-in-Ok-Next t c =
    cycles.step-again c.requires.stands c.loop-n.invariant c.step.ensures (then-ok c.in-Ok-Next.is c.in-Ok-Next.field-0-is)

pub evaluate-apart-requires : goal.evaluate-apart-requires
evaluate-apart-requires t c =
    let short = then-ok c.in-Ok-Short.is c.in-Ok-Short.field-0-is in
    let p = cycles.step-short c.requires.stands c.loop-n.invariant c.step.ensures short in
    let g = cycles.step_stays c.requires.stands c.loop-n.invariant c.step.ensures short in
    (cycles.apart_less c.requires.stands c.loop-n.invariant c.decreases p.mode p.short, (cycles.stands c.requires.stands g, p.mode))

pub evaluate-returns-in_err-n-in-Ok-Short : goal.evaluate-returns-in_err-n-in-Ok-Short
evaluate-returns-in_err-n-in-Ok-Short t c =
    let short = then-ok c.in-Ok-Short.is c.in-Ok-Short.field-0-is in
    rw (raised c.from_residual.ensures)
    (cycles.step-fails c.requires.stands (cycles.step_stays c.requires.stands c.loop-n.invariant c.step.ensures short) c.apart.ensures (moved_fails c.in_err-n-in-Ok-Short.was))

pub evaluate-loop-n-smaller : goal.evaluate-loop-n-smaller
evaluate-loop-n-smaller t c =
    cycles.back_falls c.requires.stands c.loop-n.invariant c.step.ensures (then-ok c.in-Ok-Short.is c.in-Ok-Short.field-0-is) c.apart.ensures c.in_ok-n-in-Ok-Short.was

pub evaluate-loop-n-preserved : goal.evaluate-loop-n-preserved
evaluate-loop-n-preserved t c =
    cycles.step-again c.requires.stands (cycles.step_stays c.requires.stands c.loop-n.invariant c.step.ensures (then-ok c.in-Ok-Short.is c.in-Ok-Short.field-0-is)) c.apart.ensures
    (moved_comes c.in_ok-n-in-Ok-Short.was)

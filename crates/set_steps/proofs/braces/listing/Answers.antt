use native.Mathlib.Omega.{arith}
use mathlib.Core.Path.{sym, ap, ◌∙◌}
use Rattle.set_steps.specs.InnerLaws.{element-small}
use Rattle.set_steps.specs.ListingLaws.{listing-empty, listing_short, listing-elementary, listing-steps}
use Rattle.machine.specs.Openings.{opened}
use Rattle.machine.specs.ContractLaws.{steps_next}
use Rattle.machine.specs.OpenLaws.{ready_open}
use Rattle.machine.specs.OperandLaws.{ready-entry}
use Prim.Native.Nat.{◌-◌}
use Rattle.set_steps.proofs.braces.listing.Goals as goal

pub size_at-requires : goal.size_at-requires
size_at-requires c =
    ready-entry c.requires.ready (let e = c.requires.evaluates.mode in omega arith)

pub returns-then-size_at-eq1 : goal.returns-then-size_at-eq1
returns-then-size_at-eq1 c =
    let at-size-at = c.size_at in
    let at-if1 = c.if-size_at-eq1 in
    let at-came = c.came in
    steps_next at-came.ensures (listing-empty c.requires.evaluates (sym at-size-at.ensures ∙ at-if1.true))

pub overflow_sub-frames : goal.overflow_sub-frames
overflow_sub-frames c =
    (ready_open c.requires.ready (let e = c.requires.evaluates.mode in omega arith)).below

pub returns-then-frames-top : goal.returns-then-frames-top
returns-then-frames-top c =
    let at-if2 = c.if-frames-top in
    listing_short c.requires.evaluates (let l = at-if2.true in omega arith)

pub overflow_sub-k : goal.overflow_sub-k
overflow_sub-k c =
    let at-size-at = c.size_at in
    let at-if1 = c.if-size_at-eq1 in
    let i = (listing-elementary c.requires.evaluates (λ q. at-if1.false (at-size-at.ensures ∙ q)) c.requires.ready).some in omega arith

pub expression-j-requires : goal.expression-j-requires
expression-j-requires c =
    let at-size-at = c.size_at in
    let at-if1 = c.if-size_at-eq1 in
    listing-elementary c.requires.evaluates (λ q. at-if1.false (at-size-at.ensures ∙ q)) c.requires.ready

pub overflow_sub-k-2 : goal.overflow_sub-k-2
overflow_sub-k-2 c =
    let at-size-at = c.size_at in
    let at-if1 = c.if-size_at-eq1 in
    let i = (listing-elementary c.requires.evaluates (λ q. at-if1.false (at-size-at.ensures ∙ q)) c.requires.ready).some in omega arith

pub frame-requires : goal.frame-requires
frame-requires c =
    let at-if2 = c.if-frames-top in
    let o = ready_open c.requires.ready (let e = c.requires.evaluates.mode in omega arith) in
    let i = o.inside in
    let s = o.small in
    let b = o.below in
    let l = at-if2.false in
    record { frame_words_in_bounds = omega arith; base_bound = (omega arith, (omega arith, omega arith)) }

pub overflow_cast-result : goal.overflow_cast-result
overflow_cast-result c =
    let at-size-at = c.size_at in
    let at-if1 = c.if-size_at-eq1 in
    let at-expression = c.expression-j in
    let i = (listing-elementary c.requires.evaluates (λ q. at-if1.false (at-size-at.ensures ∙ q)) c.requires.ready).few in
    let s = element-small c.args.source.now.work.now (c.args.m.value - 1) in
    let z = at-expression.ensures in omega arith

pub returns : goal.returns
returns c =
    let at-size-at = c.size_at in
    let at-if1 = c.if-size_at-eq1 in
    let at-if2 = c.if-frames-top in
    let at-expression = c.expression-j in
    let at-frame = c.frame in
    steps_next (ap (opened c.args.m 0) at-expression.ensures)
    (listing-steps c.requires.evaluates (λ q. at-if1.false (at-size-at.ensures ∙ q)) (let b = (ready_open c.requires.ready (let e = c.requires.evaluates.mode in omega arith)).below in let l = at-if2.false in omega arith) at-frame.ensures)

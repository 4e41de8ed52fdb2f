use mathlib.Core.Path.{◌≡◌}
use native.Mathlib.Omega.{arith}
use lib.ListN.{length}
use Rattle.lookahead.proofs.CodeLaws.{in_table, far_more}
use Rattle.lookahead.proofs.KeptLaws.{keeps_far}
use Rattle.lookahead.proofs.fill_far.Goals as goal

pub loop-i-init : goal.loop-i-init
loop-i-init c = let p = c.requires in (p.3, p.1)

pub node_span-requires : goal.node_span-requires
node_span-requires c =
    (in_table c.requires.0 c.loop-i.i (omega arith) c.loop-i.invariant.1, c.loop-i.invariant.1.sized.0)

pub overflow_sub-far : goal.overflow_sub-far
overflow_sub-far c = c.loop-i.invariant.0 (omega arith)

pub bounds-far-i : goal.bounds-far-i
bounds-far-i c = let m = c.requires.0.few in omega arith

pub loop-i-preserved : goal.loop-i-preserved
loop-i-preserved c =
    let spanned = c.loop-i.invariant.1 in
    let m = c.requires.0.few in
    let far = c.loop-i.invariant.0 (omega arith) in
    let kept = keeps_far spanned.sized c.loop-i.i c.node_span.result (omega arith) far in
    (λ h. omega arith, far_more c.requires.0 c.loop-i.i (omega arith) spanned c.node_span.ensures kept)

pub returns : goal.returns
returns c =
    let e : c.loop-i.i ≡ length c.args.nodes.now = omega arith in rw e at c.loop-i.invariant.1

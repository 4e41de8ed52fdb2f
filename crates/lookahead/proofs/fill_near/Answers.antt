use Prim.Native.Nat.{◌<◌}
use mathlib.Core.Path.{◌≡◌, ap, ◌∙◌}
use native.Mathlib.Omega.{arith}
use Rattle.lookahead.specs.Codes.{near_count, narrow_code}
use Rattle.lookahead.proofs.CodeLaws.{in_table, narrow_code_lem, spanned_none, near_more}
use Rattle.lookahead.proofs.KeptLaws.{keeps_near}
use Rattle.lookahead.proofs.fill_near.Goals as goal

pub loop-i-init : goal.loop-i-init
loop-i-init c = spanned_none _ c.requires.1

pub node_span-requires : goal.node_span-requires
node_span-requires c =
    (in_table c.requires.0 c.loop-i.i (omega arith) c.loop-i.invariant, c.loop-i.invariant.sized.0)

pub narrowed-requires : goal.narrowed-requires
narrowed-requires c =
    narrow_code_lem c.requires.0 c.loop-i.i (omega arith) (omega arith) c.loop-i.invariant c.node_span.ensures

pub bounds-near-i : goal.bounds-near-i
bounds-near-i c = let z = c.loop-i.invariant.sized.0 in omega arith

pub loop-i-preserved : goal.loop-i-preserved
loop-i-preserved c =
    let spanned = c.loop-i.invariant in
    let near : c.loop-i.i < near_count = omega arith in
    let r = c.narrowed.ensures ∙ ap narrow_code c.node_span.ensures in
    near_more c.requires.0 c.loop-i.i (omega arith) near spanned r (keeps_near spanned.sized c.loop-i.i c.node_span.result c.narrowed.result near)

pub shape_of-near : goal.shape_of-near
shape_of-near c = omega (arith, c.loop-i.invariant.sized.0, c.requires.1.0)

pub returns : goal.returns
returns c =
    let e : c.loop-i.i ≡ c.args.count = omega arith in rw e at c.loop-i.invariant

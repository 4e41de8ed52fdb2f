use native.Mathlib.Omega.{arith}
use Rattle.signal_names.specs.Promise.{slot}
use Rattle.layout.specs.Layout.{nth}
use Rattle.layout.specs.TextLaws.{sizes_step, sizes_end}
use Rattle.layout.proofs.text.lines_size.Goals as goal

pub loop-k-init : goal.loop-k-init
loop-k-init c = (omega arith, (omega arith, omega arith))

pub offset_bounds-sizes-k : goal.offset_bounds-sizes-k
offset_bounds-sizes-k c =
    omega (arith, c.requires.0.sized)

pub bounds-sizes-k : goal.bounds-sizes-k
bounds-sizes-k c =
    omega (arith, c.requires.0.sized)

pub line_size-n-requires : goal.line_size-n-requires
line_size-n-requires c =
    c.requires.0.small c.loop-k.k (omega arith)

pub overflow_add-n : goal.overflow_add-n
overflow_add-n c =
    omega (arith, c.line_size-n.ensures.1, c.loop-k.invariant.1.0, c.requires.1)

pub loop-k-preserved : goal.loop-k-preserved
loop-k-preserved c =
    let step = sizes_step (slot c.args.names.now c.args.sizes.now) (nth c.args.sizes.now) c.args.flag c.args.list.now c.loop-k.k (omega arith) in
    (omega arith, (omega (arith, c.line_size-n.ensures.1, c.loop-k.invariant.1.0), omega (arith, c.line_size-n.ensures.0, c.loop-k.invariant.1.1, step)))

pub returns : goal.returns
returns c =
    let end = sizes_end (slot c.args.names.now c.args.sizes.now) (nth c.args.sizes.now) c.args.flag c.args.list.now c.loop-k.k (omega arith) in
    (omega (arith, c.loop-k.invariant.1.1, end), omega (arith, c.loop-k.invariant.1.0, c.requires.1))

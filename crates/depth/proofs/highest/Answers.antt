use Prim.Native.Nat.{◌+◌, max}
use mathlib.Core.Path.{ap, ◌∙◌}
use lib.Seq.{slice}
use Rattle.depth.specs.Depth.{highest}
use Rattle.depth.specs.LevelLaws.{highest_none, highest-part}
use Rattle.depth.proofs.highest.Goals as goal

pub loop-i-preserved : goal.loop-i-preserved
loop-i-preserved c =
    ap (λ m. max m (highest (slice (c.loop-i.i + 1) c.args.to c.args.levels.now))) c.max-most.ensures ∙ highest-part c.args.levels.now c.loop-i.i
    c.args.to c.loop-i.most c.requires c.loop-i-test.true ∙ c.loop-i.invariant

pub returns : goal.returns
returns c =
    highest_none c.args.levels.now c.loop-i.i c.args.to c.loop-i.most c.loop-i-test.false ∙ c.loop-i.invariant

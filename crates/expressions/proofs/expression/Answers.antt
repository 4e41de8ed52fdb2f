use mathlib.Core.Path.{◌∙◌}
use Rattle.expressions.specs.Running.{runs_start, runs_stands, runs_on, runs_end}
use Rattle.expressions.proofs.expression.Goals as goal

pub loop-n-init : goal.loop-n-init
loop-n-init c = runs_start c.args.work.now c.args.c

pub advance-t-requires : goal.advance-t-requires
advance-t-requires c =
    runs_stands c.requires c.loop-n.invariant

pub loop-n-smaller : goal.loop-n-smaller
loop-n-smaller c =
    let g = c.loop-n.invariant c.requires.tokens c.requires.ready in
    (rw c.in-Next.is at (c.advance-t.ensures c.requires.tokens c.args.c _ g.state)).after.lighter

pub loop-n-preserved : goal.loop-n-preserved
loop-n-preserved c =
    λ ts r. let g = c.loop-n.invariant ts r in runs_on g (rw c.in-Next.is at (c.advance-t.ensures ts c.args.c _ g.state))

pub shape_of-work-in-Ended : goal.shape_of-work-in-Ended
shape_of-work-in-Ended c =
    let g = c.loop-n.invariant c.requires.tokens c.requires.ready in (c.advance-t.ensures c.requires.tokens c.args.c _ g.state).kept.len ∙ g.kept.len

pub returns-in-Ended : goal.returns-in-Ended
returns-in-Ended c =
    λ ts r. let g = c.loop-n.invariant ts r in runs_end g (rw c.in-Ended.is at (c.advance-t.ensures ts c.args.c _ g.state))

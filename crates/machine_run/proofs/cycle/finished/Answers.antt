-- `cycle::finished` meets its contract: an entry is still to be worked out, or the frames say whether one waits.
use native.Mathlib.Omega.{arith}
use Rattle.machine_run.specs.CycleLaws.{ends-or_goes}
use Rattle.machine_run.proofs.cycle.finished.Goals as goal

pub returns : goal.returns
returns c =
    let at-if1 = c.if-m-le-EXPAND in
    ends-or_goes c.args.m c.args.words (let l = at-if1.false in omega arith)

use mathlib.Core.Path.{refl}
use Rattle.ports.specs.EntryRunLaws.{stores_more, stores_all}
use Rattle.ports.proofs.write_entries.Goals as goal

pub loop-i-preserved : goal.loop-i-preserved
loop-i-preserved c =
    stores_more c.args.top c.args.offset c.args.width c.args.count c.args.at c.loop-i.i _ _ _ c.loop-i-test.true refl c.loop-i.invariant

pub returns : goal.returns
returns c =
    stores_all c.args.top c.args.offset c.args.width c.args.count c.args.at c.loop-i.i _ _ c.loop-i-test.false c.loop-i.invariant

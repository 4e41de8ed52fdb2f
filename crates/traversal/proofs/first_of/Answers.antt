-- The first number of a part, if it has one.
use mathlib.Core.Path.{sym, ap}
use Rattle.traversal.specs.Starts.{first_of}
use Rattle.traversal.specs.StackLaws.{no_part, first_part_lem}
use Rattle.traversal.proofs.first_of.Goals as goal

pub returns-then-from-to : goal.returns-then-from-to
returns-then-from-to c =
    first_part_lem c.args.numbers.now c.args.from c.args.to c.requires c.if-from-to.true

pub returns-else-from-to : goal.returns-else-from-to
returns-else-from-to c = sym (ap first_of (no_part c.args.numbers.now c.args.from c.args.to c.if-from-to.false))

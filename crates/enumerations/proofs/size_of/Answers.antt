-- The size that words are held to: the first word's.
use Rattle.enumerations.specs.RowLaws.{size-first, size-later}
use Rattle.enumerations.proofs.size_of.Goals as goal

pub returns-then-count-eq0 : goal.returns-then-count-eq0
returns-then-count-eq0 c = size-first c.args.count c.args.size c.args.n c.if-count-eq0.true

pub returns-else-count-eq0 : goal.returns-else-count-eq0
returns-else-count-eq0 c = size-later c.args.count c.args.size c.args.n c.if-count-eq0.false

-- One entry: an expression's part is pushed in place of its operands, a line takes them away.
use Rattle.depth.specs.ProgressLaws.{passes-part, passes_line}
use Rattle.depth.proofs.pass.Goals as goal

pub returns-then-kind-lt-LINES : goal.returns-then-kind-lt-LINES
returns-then-kind-lt-LINES c =
    passes-part c.requires.0 c.requires.1 c.cell_at-c.ensures.0 c.operand_count.ensures c.saturating_sub-below.ensures c.first_of-start.ensures
    c.first_of.ensures c.fault_of-fault.ensures c.first-found.ensures c.if-kind-lt-LINES.true c.highest.ensures c.level_of.ensures
    c.start_of.ensures

pub returns : goal.returns
returns c =
    passes_line c.requires.0 c.requires.1 c.cell_at-c.ensures.0 c.operand_count.ensures c.saturating_sub-below.ensures c.first_of-start.ensures
    c.first_of.ensures c.fault_of-fault.ensures c.first-found.ensures c.if-kind-lt-LINES.false

-- The cell as the buffer has it, with the reference of the entry's name.
use Rattle.types.specs.CellLaws.{named_of}
use Rattle.types.proofs.table.named_cell.Goals as goal

pub returns : goal.returns
returns c = (
  named_of c.args.refs.now c.args.work.now c.args.i c.from-reference.result c.cell_at-c.result c.cell_at-c.ensures.0
      c.from-reference.ensures,
  c.cell_at-c.ensures.1,
)

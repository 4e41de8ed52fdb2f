-- `lexer::tables::row_table` meets its contract by one computed test of the table.
use mathlib.Core.Path.{refl}
use Rattle.lexer.specs.Spelling.{entries, entry}
use Rattle.lexer.proofs.TableLaws.{right-rows}
use Rattle.lexer.proofs.tables.row_table.Goals as goal

pub returns : goal.returns
unfolding entries entry
returns c = right-rows _ refl refl

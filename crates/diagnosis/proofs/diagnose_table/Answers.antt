-- `diagnose_table` meets its contract: a refusal, a recording that holds, or the table and the recording are what the search asks for.
use Rattle.std.specs.Prelude.{Ok}
use Rattle.std.proofs.Common.{ap, ◌∙◌}
use Rattle.node.proofs.ReturnedLaws.{raised}
use Rattle.diagnosis.specs.TablesLaws.{table-refused, table-holds, table-fails, fails_opens, fails_searched}
use Rattle.diagnosis.proofs.diagnose_table.Goals as goal

pub returns-in_err-judge : goal.returns-in_err-judge
returns-in_err-judge c =
    table-refused c.judge.ensures _ _ c.in_err-judge.was (raised c.from_residual.ensures)

pub returns-in-Holds : goal.returns-in-Holds
returns-in-Holds c =
    table-holds c.judge.ensures _ _ (c.in_ok-judge.was ∙ ap Ok c.in-Holds.is)

pub read_lasso-lasso-requires : goal.read_lasso-lasso-requires
read_lasso-lasso-requires c =
    (fails_opens c.judge.ensures (c.in_ok-judge.was ∙ ap Ok c.in-Fails.is)).reads.long

pub name_line-requires : goal.name_line-requires
name_line-requires c =
    let s = fails_searched c.judge.ensures (c.in_ok-judge.was ∙ ap Ok c.in-Fails.is) c.read_lasso-lasso.ensures in
    (s.some, (s.few, s.short))

pub returns-in-Fails : goal.returns-in-Fails
returns-in-Fails c =
    table-fails c.judge.ensures _ _ (c.in_ok-judge.was ∙ ap Ok c.in-Fails.is) c.read_lasso-lasso.ensures c.name_line.ensures

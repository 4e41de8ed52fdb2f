-- `reach_of` meets its contract: the table is refused, or its last number tells the root's reach.
use mathlib.Core.Path.{refl, ap, ◌∙◌}
use native.Mathlib.Omega.{arith}
use Rattle.node.proofs.ReturnedLaws.{raised}
use Rattle.lookahead.proofs.ReachingLaws.{reaches_refused, formed_of, reaches_done}
use Rattle.lookahead.specs.Codes.{told_code}
use Rattle.lookahead.proofs.CodeLaws.{root_told}
use Rattle.lookahead.proofs.reach_of.Goals as goal

pub returns-in_err-check_table : goal.returns-in_err-check_table
returns-in_err-check_table c = reaches_refused _ c.check_table.ensures c.in_err-check_table.was (raised c.from_residual.ensures)

pub fill_spans-requires : goal.fill_spans-requires
fill_spans-requires c =
    (formed_of _ c.check_table.ensures c.in_ok-check_table.was, (refl, refl))

pub overflow_sub-nodes : goal.overflow_sub-nodes
overflow_sub-nodes c =
    let f = formed_of _ c.check_table.ensures c.in_ok-check_table.was in let p = f.some in omega arith

pub number_at-requires : goal.number_at-requires
number_at-requires c =
    let f = formed_of _ c.check_table.ensures c.in_ok-check_table.was in
    let p = f.few in
    let s = f.some in
    (omega arith, c.fill_spans.ensures.sized.0)

pub returns : goal.returns
returns c =
    let e = c.check_table.ensures in
    let q = c.in_ok-check_table.was in
    reaches_done _ e q (c.told.ensures ∙ ap told_code c.number_at.ensures ∙ root_told (formed_of _ e q) c.fill_spans.ensures)

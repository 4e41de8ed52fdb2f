-- `windows::windowed` meets its contract: the chain of copies, then the nodes of X, go behind the nodes that have come.
use native.Mathlib.Omega.{arith}
use Rattle.std.specs.Prelude.{Ok}
use Rattle.machine.specs.declared.Move.TheVariants.{Next}
use mathlib.Core.Path.{refl, ap, ◌∙◌}
use Prim.Native.Nat.{◌+◌}
use Rattle.temporal_steps.specs.WindowLaws.{windowed-order, windowed-steps}
use Rattle.language.specs.Expansion.{window_operator}
use Rattle.temporal_steps.specs.Windows.{window_by}
use Rattle.machine.specs.Fields.{at_field, value_field, other_field}
use Rattle.machine.specs.OperatorLaws.{binary-small}
use Rattle.machine.specs.declared.Machine.{Machine}
use Rattle.machine.specs.Moves.{wrote}
use Rattle.machine.specs.ContractLaws.{takes-to-write-as}
use Rattle.machine.specs.OperandLaws.{topped_to_write-entry}
use Rattle.machine.specs.MisfitLaws.{formula-misfits, misfits-still}
use Rattle.temporal_steps.proofs.windows.windowed.Goals as goal

pub returns-then-m-ne-NODES : goal.returns-then-m-ne-NODES
returns-then-m-ne-NODES c =
    misfits-still (formula-misfits c.requires.waiting refl c.if-m-ne-NODES.true)

pub overflow_cast-k : goal.overflow_cast-k
overflow_cast-k c =
    let f = (topped_to_write-entry c.requires.topped_to_write).few in omega arith

pub overflow_cast-start : goal.overflow_cast-start
overflow_cast-start c =
    omega (arith, c.type_inv.memory (c.args.m.frames + at_field))

pub overflow_cast-begin : goal.overflow_cast-begin
overflow_cast-begin c =
    omega (arith, c.type_inv.memory (c.args.m.frames + value_field))

pub overflow_cast-end : goal.overflow_cast-end
overflow_cast-end c =
    omega (arith, c.type_inv.memory (c.args.m.frames + other_field))

pub prefix_at-requires : goal.prefix_at-requires
prefix_at-requires c =
    let f = topped_to_write-entry c.requires.topped_to_write in (f.few, f.work)

pub overflow_sub-end : goal.overflow_sub-end
overflow_sub-end c =
    windowed-order c.requires.waiting c.requires.topped_to_write

pub window-chained-requires : goal.window-chained-requires
window-chained-requires c = let l = binary-small (window_operator (window_by c.prefix_at.result)) in let e = c.chaining-operator.ensures in (omega arith, omega arith)

pub returns : goal.returns
returns c =
    let same = c.wrote.ensures ∙ ap (λ (n : Machine). wrote n c.capped.result) c.popped.ensures in
    let isFormula = c.if-m-ne-NODES.false in
    let kind = c.prefix_at.ensures in
    let operator = c.chaining-operator.ensures in
    let chained = c.window-chained.ensures in
    takes-to-write-as (ap (λ (y : Machine). Ok (Next y)) same) (windowed-steps c.requires.waiting isFormula refl kind operator refl refl refl chained c.nexts-n.ensures c.capped.ensures)

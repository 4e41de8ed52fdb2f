-- `unaries::capping` meets its contract: the operator's node goes behind the nodes that have come.
use native.Mathlib.Omega.{arith}
use Rattle.std.specs.Prelude.{Ok}
use Rattle.machine.specs.declared.Move.TheVariants.{Next}
use mathlib.Core.Path.{refl, ap, ◌∙◌}
use Rattle.temporal_steps.specs.UnaryLaws.{capping-small, capping-steps}
use Rattle.machine.specs.declared.Machine.{Machine}
use Rattle.machine.specs.Moves.{wrote}
use Rattle.machine.specs.ContractLaws.{takes-to-write-as}
use Rattle.machine.specs.OperandLaws.{topped_to_write-entry}
use Rattle.machine.specs.MisfitLaws.{formula-misfits, misfits-still}
use Rattle.temporal_steps.proofs.unaries.capping.Goals as goal

pub returns-then-m-ne-NODES : goal.returns-then-m-ne-NODES
returns-then-m-ne-NODES c =
    misfits-still (formula-misfits c.requires.waiting refl c.if-m-ne-NODES.true)

pub overflow_cast-k : goal.overflow_cast-k
overflow_cast-k c =
    let f = (topped_to_write-entry c.requires.topped_to_write).few in omega arith

pub prefix_at-requires : goal.prefix_at-requires
prefix_at-requires c =
    let f = topped_to_write-entry c.requires.topped_to_write in (f.few, f.work)

pub cap-n-requires : goal.cap-n-requires
cap-n-requires c =
    let l = capping-small c.requires.waiting c.requires.topped_to_write in
    let e = c.prefix_at.ensures in
    omega arith

pub returns : goal.returns
returns c =
    let same = c.wrote.ensures ∙ ap (λ (n : Machine). wrote n c.capped.result) c.popped.ensures in
    let isFormula = c.if-m-ne-NODES.false in
    let code = c.prefix_at.ensures in
    takes-to-write-as (ap (λ (y : Machine). Ok (Next y)) same) (capping-steps c.requires.waiting isFormula refl code c.cap-n.ensures c.capped.ensures)

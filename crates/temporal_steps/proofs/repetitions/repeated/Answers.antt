-- `repetitions::repeated` meets its contract: as many nodes of X as the frame keeps go behind the nodes that have come.
use native.Mathlib.Omega.{arith}
use Rattle.std.specs.Prelude.{Ok}
use Rattle.machine.specs.declared.Move.TheVariants.{Next}
use mathlib.Core.Path.{refl, ap, ◌∙◌}
use Prim.Native.Nat.{◌+◌}
use Rattle.temporal_steps.specs.RepetitionLaws.{repeated-steps}
use Rattle.machine.specs.Fields.{value_field}
use Rattle.machine.specs.declared.Machine.{Machine}
use Rattle.machine.specs.Moves.{wrote}
use Rattle.machine.specs.ContractLaws.{takes-to-write-as}
use Rattle.machine.specs.MisfitLaws.{formula-misfits, misfits-still}
use Rattle.temporal_steps.proofs.repetitions.repeated.Goals as goal

pub returns-then-m-ne-NODES : goal.returns-then-m-ne-NODES
returns-then-m-ne-NODES c =
    misfits-still (formula-misfits c.requires.waiting refl c.if-m-ne-NODES.true)

pub overflow_cast-n : goal.overflow_cast-n
overflow_cast-n c =
    omega (arith, c.type_inv.memory (c.args.m.frames + value_field))

pub returns : goal.returns
returns c =
    let same = c.wrote.ensures ∙ ap (λ (n : Machine). wrote n c.capped.result) c.popped.ensures in
    let isFormula = c.if-m-ne-NODES.false in
    takes-to-write-as (ap (λ (y : Machine). Ok (Next y)) same) (repeated-steps c.requires.waiting isFormula refl c.nexts-end.ensures c.capped.ensures)

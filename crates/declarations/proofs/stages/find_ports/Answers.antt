-- `find_ports` meets its contract: the chosen entries are the inputs' and the outputs'.
use native.Mathlib.Omega.{arith}
use Rattle.declarations.specs.Stages.{ins_small, ports_found, describe_room}
use Rattle.declarations.proofs.stages.find_ports.Goals as goal

pub choose-count-requires : goal.choose-count-requires
choose-count-requires c =
    let inputs = c.choose-ins in
    let t = c.requires.checked.tree in (t.stored.lexed.room, (t.stored.few, (let i = ins_small _ _ inputs.result inputs.ensures c.requires in omega arith)))

pub describe-requires : goal.describe-requires
describe-requires c =
    let inputs = c.choose-ins in
    let outputs = c.choose-count in
    let g = c.requires in
    describe_room _ inputs.result outputs.result _ _ _ g
    (ports_found _ _ _ inputs.result outputs.result (omega arith) c.choose-ins.auto.order inputs.ensures outputs.ensures g.x g.checked.tree)
    (omega (arith, c.choose-count.auto.order, c.choose-ins.auto.order)) (omega arith) (omega arith) (omega arith)

pub returns : goal.returns
returns c =
    let inputs = c.choose-ins in
    let outputs = c.choose-count in
    let all = c.describe in (
      (λ x t. ports_found _ _ _ inputs.result outputs.result (omega arith) c.choose-ins.auto.order inputs.ensures outputs.ensures x t),
      (all.ensures, (omega (arith, c.describe.auto.order), omega (arith, c.describe.auto.offsets))),
    )

-- `is_late` meets its contract: no other kind is late, and a signal is as the list's flag says.
use Rattle.shifting.specs.Passing.{late_by}
use Rattle.shifting.specs.NodeLaws.{late_other, late-outputs, late-inputs}
use Rattle.shifting.proofs.is_late.Goals as goal

pub returns-then-kind-ne-SIGNAL : goal.returns-then-kind-ne-SIGNAL
returns-then-kind-ne-SIGNAL c =
    late_other (late_by c.args.outputs c.args.list.now) _ c.kind.ensures c.if-kind-ne-SIGNAL.true

pub returns-then-outputs : goal.returns-then-outputs
returns-then-outputs c =
    late-outputs _ _ c.kind.ensures c.if-kind-ne-SIGNAL.false c.first.ensures c.is_output-output.ensures c.if-outputs.true

pub returns-else-outputs : goal.returns-else-outputs
returns-else-outputs c =
    late-inputs _ _ c.kind.ensures c.if-kind-ne-SIGNAL.false c.first.ensures c.is_output-output.ensures c.if-outputs.false

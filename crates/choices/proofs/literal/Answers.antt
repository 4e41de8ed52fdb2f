-- A signal, under `!` where it is to be absent.
use mathlib.Core.Path.{refl}
use Rattle.node.specs.Ltl.{Not}
use Rattle.choices.specs.LiteralLaws.{wrote-present, wrote-absent}
use Rattle.choices.proofs.literal.Goals as goal

pub returns-then-present : goal.returns-then-present
returns-then-present c = wrote-present c.if-present.true c.signal-r.ensures

pub returns : goal.returns
returns c = wrote-absent c.if-present.false ((c.cap.ensures Not refl _).wrote c.signal-r.ensures)

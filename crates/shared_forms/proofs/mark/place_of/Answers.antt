-- `mark::place_of` meets its contract: by the operand that the signal stands for.
use Rattle.shared_forms.specs.PartLaws.{place-first, place-second}
use Rattle.shared_forms.proofs.mark.place_of.Goals as goal

pub returns-then-signal-lt-SECOND : goal.returns-then-signal-lt-SECOND
returns-then-signal-lt-SECOND c = place-first _ _ _ c.if-signal-lt-SECOND.true

pub returns : goal.returns
returns c = place-second _ _ _ c.if-signal-lt-SECOND.false

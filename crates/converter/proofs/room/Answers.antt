-- `room` meets its contract: all nodes, or none.
use native.Mathlib.Omega.{arith}
use borrow.Author.Tests.{le-leb, lt-leb}
use Rattle.converter.proofs.room.Goals as goal

pub returns-then-listed-signals : goal.returns-then-listed-signals
returns-then-listed-signals c = record { is = rw (le-leb _ _ c.if-listed-signals.true); inside = omega arith }

pub returns-else-listed-signals : goal.returns-else-listed-signals
returns-else-listed-signals c = record { is = rw (lt-leb _ _ c.if-listed-signals.false); inside = omega arith }

-- `join` meets its contract: no first operand ends at index 0 or after the second, and a second that ends at the last index or past it leaves no room.
use Rattle.writing.specs.StepLaws.{joins, joins_none}
use native.Mathlib.Omega.{arith}
use Rattle.writing.proofs.join.Goals as goal

pub returns-then-m-eq0 : goal.returns-then-m-eq0
returns-then-m-eq0 c = joins_none (λ h l. absurd (omega arith)) (omega arith)

pub returns-then-n-m : goal.returns-then-n-m
returns-then-n-m c = joins_none (λ h l. absurd (omega arith)) (omega arith)

pub returns-then-n-ge-MAX_NODES : goal.returns-then-n-ge-MAX_NODES
returns-then-n-ge-MAX_NODES c = joins_none (λ h l. omega arith) (omega arith)

pub returns : goal.returns
returns c = joins c.told-out c.unwrap_or.ensures c.join.ensures

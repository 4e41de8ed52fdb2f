-- `cap` meets its contract: no operand ends at index 0, and one that ends at the last index or past it leaves no room.
use Rattle.writing.specs.StepLaws.{caps, caps_none}
use native.Mathlib.Omega.{arith}
use Rattle.writing.proofs.cap.Goals as goal

pub returns-then-m-eq0 : goal.returns-then-m-eq0
returns-then-m-eq0 c = caps_none (λ h. absurd (omega arith)) (omega arith)

pub returns-then-m-ge-MAX_NODES : goal.returns-then-m-ge-MAX_NODES
returns-then-m-ge-MAX_NODES c = caps_none (λ h. omega arith) (omega arith)

pub returns : goal.returns
returns c = caps c.told-out c.unwrap_or.ensures c.cap.ensures

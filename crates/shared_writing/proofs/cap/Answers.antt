-- `cap` meets its contract: no operand ends at index 0, and one that ends past the last index has no node.
use native.Mathlib.Omega.{arith}
use borrow.Author.Rules.{rules}
use Rattle.shared_writing.specs.StepLaws.{caps, caps_none}
use Rattle.shared_writing.proofs.cap.Goals as goal

pub returns-then-m-eq0 : goal.returns-then-m-eq0
returns-then-m-eq0 c = caps_none (λ h. absurd (omega arith)) (omega arith)

pub returns-then-m-gt-MAX_NODES : goal.returns-then-m-gt-MAX_NODES
returns-then-m-gt-MAX_NODES c = caps_none (λ h. omega arith) (omega arith)

pub returns : goal.returns
returns c = caps (omega arith) (search rules) c.unary-node.ensures c.put.ensures

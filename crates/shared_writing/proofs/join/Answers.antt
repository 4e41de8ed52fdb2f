-- `join` meets its contract: no operand ends at index 0, and one that ends past the last index has no node.
use native.Mathlib.Omega.{arith}
use borrow.Author.Rules.{rules}
use Rattle.shared_writing.specs.StepLaws.{joins, joins_none}
use Rattle.shared_writing.proofs.join.Goals as goal

pub returns-then-m-eq0 : goal.returns-then-m-eq0
returns-then-m-eq0 c = joins_none (λ h l k. absurd (omega arith)) (omega arith)

pub returns-then-n-eq0 : goal.returns-then-n-eq0
returns-then-n-eq0 c = joins_none (λ h l k. absurd (omega arith)) (omega arith)

pub returns-then-m-gt-MAX_NODES : goal.returns-then-m-gt-MAX_NODES
returns-then-m-gt-MAX_NODES c = joins_none (λ h l k. absurd (omega arith)) (omega arith)

pub returns-then-n-gt-MAX_NODES : goal.returns-then-n-gt-MAX_NODES
returns-then-n-gt-MAX_NODES c = joins_none (λ h l k. omega arith) (omega arith)

pub returns : goal.returns
returns c = joins (omega arith) (search rules) c.binary-node.ensures c.put.ensures

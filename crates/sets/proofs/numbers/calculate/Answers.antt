-- `numbers::calculate` meets its contract: at each number, the operator's own test and result.
use native.Mathlib.Omega.{arith}
use mathlib.Core.Path.{sym}
use borrow.Author.Tests.{le-leb, lt-leb, lt-ltb, le-ltb}
use Rattle.node.proofs.ResultLaws.{guard-pass, guard-stop}
use Rattle.sets.specs.OperatorLaws.{modulo}
use Rattle.sets.proofs.numbers.calculate.Goals as goal

pub returns-then-a-b : goal.returns-then-a-b
returns-then-a-b c = rw c.in-1.is (sym (guard-stop _ _ _ (lt-leb _ _ c.if-a-b.true)))

pub returns-then-b-eq0 : goal.returns-then-b-eq0
returns-then-b-eq0 c = rw c.in-3.is (sym (guard-stop _ _ _ (le-ltb 0 c.args.b (omega arith))))

pub returns-then-b-eq0-2 : goal.returns-then-b-eq0-2
returns-then-b-eq0-2 c =
    rw (modulo _ c.in_default.in_default-own.rest) (sym (guard-stop _ _ _ (le-ltb 0 c.args.b (omega arith))))

pub returns-else-a-b : goal.returns-else-a-b
returns-else-a-b c = rw c.in-1.is (sym (guard-pass _ _ _ (le-leb _ _ c.if-a-b.false)))

pub returns-else-b-eq0 : goal.returns-else-b-eq0
returns-else-b-eq0 c = rw c.in-3.is (sym (guard-pass _ _ _ (lt-ltb 0 c.args.b (omega arith))))

pub returns-else-b-eq0-2 : goal.returns-else-b-eq0-2
returns-else-b-eq0-2 c =
    rw (modulo _ c.in_default.in_default-own.rest) (sym (guard-pass _ _ _ (lt-ltb 0 c.args.b (omega arith))))

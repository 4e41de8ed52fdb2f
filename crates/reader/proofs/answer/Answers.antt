-- `answer` meets its contract: refused by 1 to 10, or the answer on the checked tree, with what INFO says and how many lines the sections have.
use native.Mathlib.Omega.{arith}
use Rattle.reader.specs.Checking.{some-parsed}
use Rattle.reader.specs.TellingLaws.{refused-tells, tree-tells}
use Rattle.reader.proofs.answer.Goals as goal

pub check-checked-requires : goal.check-checked-requires
check-checked-requires c =
    (c.requires, omega arith, omega arith)

pub returns-in-Err : goal.returns-in-Err
returns-in-Err c =
    refused-tells c.check-checked.ensures _ _ c.in-Err.is c.untold.ensures

pub expand_checked-counted-requires : goal.expand_checked-counted-requires
expand_checked-counted-requires c =
    some-parsed c.check-checked.ensures c.in-Ok.is c.requires (omega arith) (omega arith)

pub returns : goal.returns
returns c =
    tree-tells c.check-checked.ensures c.in-Ok.is c.expand_checked-counted.ensures

-- `put_index` meets its contract: one digit, two or three.
use native.Mathlib.Omega.{arith}
use Rattle.signal_names.specs.Digits.{put_one, put_two, put_three}
use Rattle.signal_names.proofs.put_index.Goals as goal

pub returns-then-index-lt10 : goal.returns-then-index-lt10
returns-then-index-lt10 c =
    put_one _ (omega arith) c.put_digit.ensures

pub returns-then-index-lt100 : goal.returns-then-index-lt100
returns-then-index-lt100 c =
    put_two _ (omega arith) (omega arith) c.put_digit-second.ensures c.put_digit-then-index-lt100.ensures

pub returns : goal.returns
returns c =
    put_three _ (omega arith) (omega arith) c.put_digit-second-2.ensures c.put_digit-third.ensures c.put_digit-2.ensures

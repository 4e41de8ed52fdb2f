-- `put_head` meets its contract: INFO by the target's model.
use mathlib.Core.Path.{ap}
use native.Mathlib.Omega.{arith}
use lib.ListN.{length}
use Rattle.layout.specs.TextLaws.{mealy_is, moore_is}
use Rattle.layout.proofs.text.put_head.Goals as goal

pub put_all-requires : goal.put_all-requires
put_all-requires c =
    omega (arith, c.requires, ap length (mealy_is c.args.target c.if-target-eq-MEALY.true))

pub returns-then-target-eq-MEALY : goal.returns-then-target-eq-MEALY
returns-then-target-eq-MEALY c =
    rw (mealy_is c.args.target c.if-target-eq-MEALY.true) c.put_all.ensures

pub put_all-requires-2 : goal.put_all-requires-2
put_all-requires-2 c =
    omega (arith, c.requires, ap length (moore_is c.args.target c.if-target-eq-MEALY.false))

pub returns : goal.returns
returns c =
    rw (moore_is c.args.target c.if-target-eq-MEALY.false) c.put_all-2.ensures

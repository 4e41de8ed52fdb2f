use native.Mathlib.Omega.{arith}
use mathlib.Core.Path.{refl}
use Rattle.temporal_steps.specs.WindowLaws.{to_refuses, to_steps}
use Rattle.machine.specs.MisfitLaws.{number-misfits}
use Rattle.machine.specs.RenewLaws.{topped_renewable}
use Rattle.machine.specs.OperandLaws.{topped-entry}
use Rattle.temporal_steps.proofs.windows.to.Goals as goal

pub returns-then-m-ne-NUMBER : goal.returns-then-m-ne-NUMBER
returns-then-m-ne-NUMBER c =
    let at-if1 = c.if-m-ne-NUMBER in
    number-misfits c.requires.waiting refl at-if1.true

pub overflow_cast-k : goal.overflow_cast-k
overflow_cast-k c =
    let f = (topped-entry c.requires.topped).few in omega arith

pub place_at-requires : goal.place_at-requires
place_at-requires c =
    let f = topped-entry c.requires.topped in (f.few, f.work)

pub returns-then-m-begin : goal.returns-then-m-begin
returns-then-m-begin c =
    let at-if1 = c.if-m-ne-NUMBER in
    let at-place-at = c.place_at in
    let at-if2 = c.if-m-begin in
    to_refuses c.requires.waiting at-if1.false refl at-place-at.ensures refl at-if2.true

pub renew-requires : goal.renew-requires
renew-requires c =
    topped_renewable c.requires.topped

pub returns : goal.returns
returns c =
    let at-if1 = c.if-m-ne-NUMBER in
    let at-if2 = c.if-m-begin in
    let at-renew = c.renew in
    to_steps c.requires.waiting at-if1.false refl at-if2.false refl at-renew.ensures

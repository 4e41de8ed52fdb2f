-- `operators::infixes::infix` meets its contract: each arm's row is that of its number, which antt computes; a number with no arm is that of no name in Table 1.
use mathlib.Core.Path.{◌≡◌, sym, ap}
use Prim.Native.Nat.{ℕ}
use Rattle.operators.specs.Tables.{infix_at}
use Rattle.operators.specs.TableLaws.{infix_other}
use Rattle.operators.proofs.infixes.infix.Goals as goal

row : {n k : ℕ} → n ≡ k → infix_at k ≡ infix_at n
row e = sym (ap infix_at e)

pub returns-in-32 : goal.returns-in-32
unfolding infix_at
returns-in-32 c = row c.in-32.is

pub returns-in-74 : goal.returns-in-74
unfolding infix_at
returns-in-74 c = row c.in-74.is

pub returns-in-33 : goal.returns-in-33
unfolding infix_at
returns-in-33 c = row c.in-33.is

pub returns-in-75 : goal.returns-in-75
unfolding infix_at
returns-in-75 c = row c.in-75.is

pub returns-in-34 : goal.returns-in-34
unfolding infix_at
returns-in-34 c = row c.in-34.is

pub returns-in-76 : goal.returns-in-76
unfolding infix_at
returns-in-76 c = row c.in-76.is

pub returns-in-35 : goal.returns-in-35
unfolding infix_at
returns-in-35 c = row c.in-35.is

pub returns-in-77 : goal.returns-in-77
unfolding infix_at
returns-in-77 c = row c.in-77.is

pub returns-in-36 : goal.returns-in-36
unfolding infix_at
returns-in-36 c = row c.in-36.is

pub returns-in-78 : goal.returns-in-78
unfolding infix_at
returns-in-78 c = row c.in-78.is

pub returns-in-8 : goal.returns-in-8
unfolding infix_at
returns-in-8 c = row c.in-8.is

pub returns-in-9 : goal.returns-in-9
unfolding infix_at
returns-in-9 c = row c.in-9.is

pub returns-in-81 : goal.returns-in-81
unfolding infix_at
returns-in-81 c = row c.in-81.is

pub returns-in-6 : goal.returns-in-6
unfolding infix_at
returns-in-6 c = row c.in-6.is

pub returns-in-79 : goal.returns-in-79
unfolding infix_at
returns-in-79 c = row c.in-79.is

pub returns-in-7 : goal.returns-in-7
unfolding infix_at
returns-in-7 c = row c.in-7.is

pub returns-in-80 : goal.returns-in-80
unfolding infix_at
returns-in-80 c = row c.in-80.is

pub returns-in-10 : goal.returns-in-10
unfolding infix_at
returns-in-10 c = row c.in-10.is

pub returns-in-82 : goal.returns-in-82
unfolding infix_at
returns-in-82 c = row c.in-82.is

pub returns-in-11 : goal.returns-in-11
unfolding infix_at
returns-in-11 c = row c.in-11.is

pub returns-in-12 : goal.returns-in-12
unfolding infix_at
returns-in-12 c = row c.in-12.is

pub returns-in-83 : goal.returns-in-83
unfolding infix_at
returns-in-83 c = row c.in-83.is

pub returns-in-37 : goal.returns-in-37
unfolding infix_at
returns-in-37 c = row c.in-37.is

pub returns-in-84 : goal.returns-in-84
unfolding infix_at
returns-in-84 c = row c.in-84.is

pub returns-in-13 : goal.returns-in-13
unfolding infix_at
returns-in-13 c = row c.in-13.is

pub returns-in-85 : goal.returns-in-85
unfolding infix_at
returns-in-85 c = row c.in-85.is

pub returns-in-38 : goal.returns-in-38
unfolding infix_at
returns-in-38 c = row c.in-38.is

pub returns-in-86 : goal.returns-in-86
unfolding infix_at
returns-in-86 c = row c.in-86.is

pub returns-in-14 : goal.returns-in-14
unfolding infix_at
returns-in-14 c = row c.in-14.is

pub returns-in-87 : goal.returns-in-87
unfolding infix_at
returns-in-87 c = row c.in-87.is

pub returns-in-88 : goal.returns-in-88
unfolding infix_at
returns-in-88 c = row c.in-88.is

pub returns-in-89 : goal.returns-in-89
unfolding infix_at
returns-in-89 c = row c.in-89.is

pub returns-in-90 : goal.returns-in-90
unfolding infix_at
returns-in-90 c = row c.in-90.is

pub returns-in-15 : goal.returns-in-15
unfolding infix_at
returns-in-15 c = row c.in-15.is

pub returns-in-17 : goal.returns-in-17
unfolding infix_at
returns-in-17 c = row c.in-17.is

pub returns-in-95 : goal.returns-in-95
unfolding infix_at
returns-in-95 c = row c.in-95.is

pub returns-in-18 : goal.returns-in-18
unfolding infix_at
returns-in-18 c = row c.in-18.is

pub returns-in-97 : goal.returns-in-97
unfolding infix_at
returns-in-97 c = row c.in-97.is

pub returns-in-16 : goal.returns-in-16
unfolding infix_at
returns-in-16 c = row c.in-16.is

pub returns-in-99 : goal.returns-in-99
unfolding infix_at
returns-in-99 c = row c.in-99.is

pub returns-in-5 : goal.returns-in-5
unfolding infix_at
returns-in-5 c = row c.in-5.is

pub returns-in-100 : goal.returns-in-100
unfolding infix_at
returns-in-100 c = row c.in-100.is

pub returns-in-101 : goal.returns-in-101
unfolding infix_at
returns-in-101 c = row c.in-101.is

pub returns-in-102 : goal.returns-in-102
unfolding infix_at
returns-in-102 c = row c.in-102.is

pub returns-in-103 : goal.returns-in-103
unfolding infix_at
returns-in-103 c = row c.in-103.is

pub returns-in_default : goal.returns-in_default
unfolding infix_at
returns-in_default c = infix_other c.args.number c.in_default.in_default-own.rest

-- `operators::prefixes::prefix` meets its contract: each arm's row is that of its number, which antt computes; a number with no arm is that of no name in Table 1.
use mathlib.Core.Path.{◌≡◌, sym, ap}
use Prim.Native.Nat.{ℕ}
use Rattle.operators.specs.Tables.{prefix_at}
use Rattle.operators.specs.TableLaws.{prefix_other}
use Rattle.operators.proofs.prefixes.prefix.Goals as goal

row : {n k : ℕ} → n ≡ k → prefix_at k ≡ prefix_at n
row e = sym (ap prefix_at e)

pub returns-in-35 : goal.returns-in-35
unfolding prefix_at
returns-in-35 c = row c.in-35.is

pub returns-in-68 : goal.returns-in-68
unfolding prefix_at
returns-in-68 c = row c.in-68.is

pub returns-in-32 : goal.returns-in-32
unfolding prefix_at
returns-in-32 c = row c.in-32.is

pub returns-in-69 : goal.returns-in-69
unfolding prefix_at
returns-in-69 c = row c.in-69.is

pub returns-in-70 : goal.returns-in-70
unfolding prefix_at
returns-in-70 c = row c.in-70.is

pub returns-in-71 : goal.returns-in-71
unfolding prefix_at
returns-in-71 c = row c.in-71.is

pub returns-in-72 : goal.returns-in-72
unfolding prefix_at
returns-in-72 c = row c.in-72.is

pub returns-in-73 : goal.returns-in-73
unfolding prefix_at
returns-in-73 c = row c.in-73.is

pub returns-in-6 : goal.returns-in-6
unfolding prefix_at
returns-in-6 c = row c.in-6.is

pub returns-in-79 : goal.returns-in-79
unfolding prefix_at
returns-in-79 c = row c.in-79.is

pub returns-in-7 : goal.returns-in-7
unfolding prefix_at
returns-in-7 c = row c.in-7.is

pub returns-in-80 : goal.returns-in-80
unfolding prefix_at
returns-in-80 c = row c.in-80.is

pub returns-in-39 : goal.returns-in-39
unfolding prefix_at
returns-in-39 c = row c.in-39.is

pub returns-in-91 : goal.returns-in-91
unfolding prefix_at
returns-in-91 c = row c.in-91.is

pub returns-in-92 : goal.returns-in-92
unfolding prefix_at
returns-in-92 c = row c.in-92.is

pub returns-in-93 : goal.returns-in-93
unfolding prefix_at
returns-in-93 c = row c.in-93.is

pub returns-in-94 : goal.returns-in-94
unfolding prefix_at
returns-in-94 c = row c.in-94.is

pub returns-in-17 : goal.returns-in-17
unfolding prefix_at
returns-in-17 c = row c.in-17.is

pub returns-in-95 : goal.returns-in-95
unfolding prefix_at
returns-in-95 c = row c.in-95.is

pub returns-in-96 : goal.returns-in-96
unfolding prefix_at
returns-in-96 c = row c.in-96.is

pub returns-in-18 : goal.returns-in-18
unfolding prefix_at
returns-in-18 c = row c.in-18.is

pub returns-in-97 : goal.returns-in-97
unfolding prefix_at
returns-in-97 c = row c.in-97.is

pub returns-in-98 : goal.returns-in-98
unfolding prefix_at
returns-in-98 c = row c.in-98.is

pub returns-in_default : goal.returns-in_default
unfolding prefix_at
returns-in_default c = prefix_other c.args.number c.in_default.in_default-own.rest

-- `told` meets its contract.
use mathlib.Core.Path.{◌≡◌}
use Prim.Native.Nat.{◌-◌}
use native.Mathlib.Omega.{arith}
use borrow.Author.Tests.{le-leb, lt-leb}
use Rattle.lookahead.specs.Codes.{here, endless}
use Rattle.lookahead.proofs.told.Goals as goal

pub returns-then-s-ge-ENDLESS : goal.returns-then-s-ge-ENDLESS
returns-then-s-ge-ENDLESS c = rw (le-leb endless c.args.s c.if-s-ge-ENDLESS.true)

pub returns-then-s-lt-HERE : goal.returns-then-s-lt-HERE
returns-then-s-lt-HERE c =
    let s = c.args.s in
    let e : s - here ≡ 0 = omega arith in rw (lt-leb endless s c.if-s-ge-ENDLESS.false, e)

pub returns : goal.returns
returns c = rw (lt-leb endless c.args.s (omega arith), c.from.ensures)

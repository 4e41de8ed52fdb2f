-- `sized` meets its contract.
use native.Mathlib.Omega.{arith}
use Rattle.declarations.specs.WidthsLaws.{sized_none, sized_wide, sized-fits}
use Rattle.declarations.proofs.width.sized.Goals as goal

pub returns-then-n-lt1 : goal.returns-then-n-lt1
returns-then-n-lt1 c = sized_none c.args.n c.args.place c.if-n-lt1.true

pub returns-then-n-gt-MAX_WIDTH : goal.returns-then-n-gt-MAX_WIDTH
returns-then-n-gt-MAX_WIDTH c = sized_wide c.args.n c.args.place c.if-n-gt-MAX_WIDTH.true

pub returns : goal.returns
returns c = sized-fits c.args.n c.args.place (omega (arith, c.if-n-lt1.false)) (omega (arith, c.if-n-gt-MAX_WIDTH.false))

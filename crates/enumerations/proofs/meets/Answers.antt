use mathlib.Core.Path.{refl, sym, ◌∙◌}
use native.Mathlib.Omega.{arith}
use Rattle.enumerations.specs.RowLaws.{meet_none, meet-same, meet-star, meet_other, meet-not}
use Rattle.enumerations.proofs.meets.Goals as goal
use Rattle.enumerations.proofs.meets.Goals.{else-x-y-via-then-x-y+then-x-ne-STAR+else-y-ne-STAR, else-x-y-via-then-x-y+else-x-ne-STAR, else-x-y-via-else-x-y}

pub loop-i-init : goal.loop-i-init
loop-i-init c = refl

pub bounds-a-i : goal.bounds-a-i
bounds-a-i c = omega (arith, c.loop-i-test.true, c.requires.0)

pub bounds-b-i : goal.bounds-b-i
bounds-b-i c = omega (arith, c.loop-i-test.true, c.requires.0)

pub loop-i-preserved : goal.loop-i-preserved
loop-i-preserved c = elim c.else-x-y.branch [
  | else-x-y-via-then-x-y+then-x-ne-STAR+else-y-ne-STAR w ↦
      sym (meet_other c.args.a c.args.b c.loop-i.i c.args.n (omega (arith, c.requires.0, c.requires.1)) (omega (arith, c.requires.0, c.requires.2))
      c.loop-i-test.true w.if-x-y.true w.if-x-ne-STAR.true w.if-y-ne-STAR.false) ∙ c.loop-i.invariant
  | else-x-y-via-then-x-y+else-x-ne-STAR w ↦
      sym (meet-star c.args.a c.args.b c.loop-i.i c.args.n (omega (arith, c.requires.0, c.requires.1)) (omega (arith, c.requires.0, c.requires.2))
      c.loop-i-test.true w.if-x-y.true w.if-x-ne-STAR.false) ∙ c.loop-i.invariant
  | else-x-y-via-else-x-y w ↦
      sym (meet-same c.args.a c.args.b c.loop-i.i c.args.n (omega (arith, c.requires.0, c.requires.1)) (omega (arith, c.requires.0, c.requires.2))
      c.loop-i-test.true w.if-x-y.false) ∙ c.loop-i.invariant
]

pub returns-then-y-ne-STAR : goal.returns-then-y-ne-STAR
returns-then-y-ne-STAR c =
    sym (meet-not c.args.a c.args.b c.loop-i.i c.args.n (omega (arith, c.requires.0, c.requires.1)) (omega (arith, c.requires.0, c.requires.2))
    c.loop-i-test.true c.if-x-y.true c.if-x-ne-STAR.true c.if-y-ne-STAR.true) ∙ c.loop-i.invariant

pub returns : goal.returns
returns c =
    meet_none c.args.a c.args.b c.loop-i.i c.args.n (omega (arith, c.requires.0, c.requires.1)) (omega (arith, c.requires.0, c.requires.2))
    c.loop-i-test.false ∙ c.loop-i.invariant

use mathlib.Core.Path.{refl, sym, ◌∙◌}
use native.Mathlib.Omega.{arith}
use lib.ListN.{take}
use Rattle.enumerations.specs.ClashLaws.{clash_none, clash-own, clash-not, clash-here}
use Rattle.enumerations.proofs.clashes.Goals as goal
use Rattle.enumerations.proofs.clashes.Goals.{else-owners-i-via-then-owners-i+else-meets, else-owners-i-via-else-owners-i}

pub loop-i-init : goal.loop-i-init
loop-i-init c = refl

pub bounds-owners-i : goal.bounds-owners-i
bounds-owners-i c = omega (arith, c.loop-i-test.true, c.requires.few)

pub offset_bounds-rows-i : goal.offset_bounds-rows-i
offset_bounds-rows-i c =
    omega (arith, c.loop-i-test.true, c.requires.small)

pub bounds-rows-i : goal.bounds-rows-i
bounds-rows-i c =
    omega (arith, c.loop-i-test.true, c.requires.few')

pub meets-requires : goal.meets-requires
meets-requires c =
    (c.requires.short, c.requires.each c.loop-i.i (omega (arith, c.loop-i-test.true, c.requires.few')), c.requires.full)

pub returns-then-meets : goal.returns-then-meets
returns-then-meets c =
    sym (clash-here c.args.n c.args.owner (take c.args.n c.args.row) c.args.owners.now c.args.rows.now c.loop-i.i c.args.count
    c.requires.few c.requires.few' c.loop-i-test.true c.if-owners-i.true (sym c.meets.ensures ∙ c.if-meets.true)) ∙ c.loop-i.invariant

pub loop-i-preserved : goal.loop-i-preserved
loop-i-preserved c = elim c.else-owners-i.branch [
  | else-owners-i-via-then-owners-i+else-meets w ↦
      sym (clash-not c.args.n c.args.owner (take c.args.n c.args.row) c.args.owners.now c.args.rows.now c.loop-i.i c.args.count
      c.requires.few c.requires.few' c.loop-i-test.true w.if-owners-i.true (sym w.meets.ensures ∙ w.if-meets.false)) ∙ c.loop-i.invariant
  | else-owners-i-via-else-owners-i w ↦
      sym (clash-own c.args.n c.args.owner (take c.args.n c.args.row) c.args.owners.now c.args.rows.now c.loop-i.i c.args.count
      c.requires.few c.requires.few' c.loop-i-test.true w.if-owners-i.false) ∙ c.loop-i.invariant
]

pub returns : goal.returns
returns c =
    clash_none c.args.n c.args.owner (take c.args.n c.args.row) c.args.owners.now c.args.rows.now c.loop-i.i c.args.count
    c.requires.few c.requires.few' c.loop-i-test.false ∙ c.loop-i.invariant

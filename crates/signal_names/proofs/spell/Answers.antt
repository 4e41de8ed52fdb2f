use mathlib.Core.Path.{refl, ◌∙◌}
use native.Mathlib.Omega.{arith}
use lib.ListN.{length-set}
use Rattle.signal_names.specs.SlotLaws.{spelling-start, spelt_long, spelt-held, spelt-taken, spelt-more}
use Rattle.signal_names.specs.Turns.{turn_at, found-fault, found_none}
use Rattle.signal_names.proofs.spell.Goals as goal

pub loop-k-init : goal.loop-k-init
loop-k-init c = (omega arith, (refl, (refl, spelling-start _ _ _)))

pub put_name-size-requires : goal.put_name-size-requires
put_name-size-requires c =
    omega (arith, c.loop-k.invariant.1.0, c.requires.0)

pub shape_of-names-then-size-gt-MAX_NAME : goal.shape_of-names-then-size-gt-MAX_NAME
shape_of-names-then-size-gt-MAX_NAME c =
    c.put_name-size.ensures.kept ∙ c.loop-k.invariant.1.0

pub shape_of-sizes-then-size-gt-MAX_NAME : goal.shape_of-sizes-then-size-gt-MAX_NAME
shape_of-sizes-then-size-gt-MAX_NAME c =
    c.loop-k.invariant.1.1.0

pub returns-then-size-gt-MAX_NAME : goal.returns-then-size-gt-MAX_NAME
returns-then-size-gt-MAX_NAME c =
    let turn = turn_at c.args.text.now c.args.list.now c.loop-k.invariant.1.1.1 (omega (arith, c.loop-k.invariant.1.0, c.requires.0)) (omega arith)
    c.put_name-size.ensures in
    found-fault c.args.text.now c.args.list.now (omega arith)
    (spelt_long turn c.if-size-gt-MAX_NAME.true)

pub taken-requires : goal.taken-requires
taken-requires c =
    let turn = turn_at c.args.text.now c.args.list.now c.loop-k.invariant.1.1.1 (omega (arith, c.loop-k.invariant.1.0, c.requires.0)) (omega arith)
    c.put_name-size.ensures in
    (spelt-held turn (omega (arith, c.if-size-gt-MAX_NAME.false)), omega (arith, c.if-size-gt-MAX_NAME.false))

pub shape_of-names-then-taken : goal.shape_of-names-then-taken
shape_of-names-then-taken c =
    c.put_name-size.ensures.kept ∙ c.loop-k.invariant.1.0

pub shape_of-sizes-then-taken : goal.shape_of-sizes-then-taken
shape_of-sizes-then-taken c =
    c.loop-k.invariant.1.1.0

pub returns-then-taken : goal.returns-then-taken
returns-then-taken c =
    let turn = turn_at c.args.text.now c.args.list.now c.loop-k.invariant.1.1.1 (omega (arith, c.loop-k.invariant.1.0, c.requires.0)) (omega arith)
    c.put_name-size.ensures in
    found-fault c.args.text.now c.args.list.now (omega arith)
    (spelt-taken turn (omega (arith, c.if-size-gt-MAX_NAME.false)) c.taken.ensures c.if-taken.true)

pub loop-k-preserved : goal.loop-k-preserved
loop-k-preserved c =
    let turn = turn_at c.args.text.now c.args.list.now c.loop-k.invariant.1.1.1 (omega (arith, c.loop-k.invariant.1.0, c.requires.0)) (omega arith)
    c.put_name-size.ensures in (
      omega arith,
      (
        c.put_name-size.ensures.kept ∙ c.loop-k.invariant.1.0,
        (
          simp length-set c.loop-k.invariant.1.1.0,
          spelt-more turn (omega (arith, c.if-size-gt-MAX_NAME.false)) c.taken.ensures c.if-taken.false (omega (arith, c.loop-k.invariant.1.1.0, c.requires.1)),
        ),
      ),
    )

pub shape_of-names : goal.shape_of-names
shape_of-names c =
    c.loop-k.invariant.1.0

pub shape_of-sizes : goal.shape_of-sizes
shape_of-sizes c =
    c.loop-k.invariant.1.1.0

pub returns : goal.returns
returns c =
    found_none c.args.text.now c.args.list.now (omega arith) c.loop-k.invariant.1.1.1

use mathlib.Core.Path.{refl, ◌∙◌}
use native.Mathlib.Omega.{arith}
use Rattle.spellings.specs.InternLaws.{until, interned-all}
use Rattle.spellings.proofs.intern.intern.Goals as goal

pub loop-j-init : goal.loop-j-init
loop-j-init c =
    (refl, refl, refl, c.requires.1.indexed)

pub number-nodes-requires : goal.number-nodes-requires
number-nodes-requires c =
    let loop-test = c.loop-j-test in
    let loop = c.loop-j in
    (c.requires.0, loop-test.true, loop.invariant.3, let e = loop.invariant.1 in let r = c.requires.1.room in omega arith)

pub loop-j-preserved : goal.loop-j-preserved
loop-j-preserved c =
    let loop = c.loop-j in
    let number = c.number-nodes in
    let n = loop.invariant in (number.auto.links ∙ n.0, number.auto.byte ∙ n.1, number.auto.ids ∙ n.2, number.ensures)

pub returns : goal.returns
returns c =
    let loop = c.loop-j in
    interned-all c.requires.0 (until loop.invariant.3 (omega arith))

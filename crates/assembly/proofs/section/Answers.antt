use native.Mathlib.Numerals.{add-one}
use native.Mathlib.Omega.{arith}
use lib.Seq.{length-take-le}
use Rattle.assembly.specs.Gathered.{in_turn}
use Rattle.assembly.specs.FoldingLaws.{passed_none, ahead, words_enough, ahead-fits, skipped, folded_more, passed-all, section-is}
use Rattle.assembly.proofs.section.Goals as goal
use Rattle.assembly.proofs.section.Goals.{then-line-part, else-line-part}

pub loop-line-init : goal.loop-line-init
loop-line-init c = λ ls l. passed_none _ l

pub copy_from-r-requires : goal.copy_from-r-requires
copy_from-r-requires c =
    ahead-fits (ahead c.requires.lined (c.loop-line.invariant _ c.requires.lined) (omega (arith, c.loop-line-test.true, length-take-le c.args.count c.args.lines.now (words_enough c.requires.lined))))

pub overflow_add-start : goal.overflow_add-start
overflow_add-start c =
    omega (arith, ahead-fits (ahead c.requires.lined (c.loop-line.invariant _ c.requires.lined) (omega (arith, c.loop-line-test.true, length-take-le c.args.count c.args.lines.now (words_enough c.requires.lined)))))

pub loop-line-preserved : goal.loop-line-preserved
loop-line-preserved c =
    λ ls l.
    let a = ahead l (c.loop-line.invariant ls l) (omega (arith, c.loop-line-test.true, length-take-le c.args.count c.args.lines.now (words_enough c.requires.lined))) in
    rw add-one
    (elim c.if-line-part.branch [
      | then-line-part w ↦ rw (w.out-is, w.f-is) (folded_more a w.if-line-part.true w.copy_from-r.ensures w.further-f.ensures)
      | else-line-part w ↦ rw (w.out-is, w.f-is) (skipped a w.if-line-part.false)
    ])

pub returns : goal.returns
returns c =
    λ p e ss l. section-is p ss e (passed-all l (c.loop-line.invariant (in_turn ss) l) (omega (arith, c.loop-line-test.false, length-take-le c.args.count c.args.lines.now (words_enough l)))) c.finish.ensures

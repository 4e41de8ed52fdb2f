use mathlib.Core.Path.{refl, ◌∙◌}
use native.Mathlib.Omega.{arith}
use Rattle.names.proofs.NumberingLaws.{numbered_none, numbered-at}
use Rattle.names.proofs.numbering.number_declared.Goals as goal

pub loop-k-init : goal.loop-k-init
loop-k-init c = (refl, refl, omega arith, refl, λ h s. numbered_none h 0 s)

pub number_one-tally-requires : goal.number_one-tally-requires
number_one-tally-requires c =
    let n = c.loop-k.invariant in (c.requires.0, c.loop-k-test.true, n.2, let e = n.0 in let r = c.requires.1 in omega arith, let e = n.1 in let r = c.requires.2 in omega arith)

pub loop-k-preserved : goal.loop-k-preserved
loop-k-preserved c =
    let n = c.loop-k.invariant in (
      c.number_one-tally.auto.table ∙ n.0,
      c.number_one-tally.auto.found ∙ n.1,
      c.number_one-tally.ensures.1,
      c.number_one-tally.result.told,
      λ h s. c.number_one-tally.ensures.0 h (n.4 h s),
    )

pub returns : goal.returns
returns c = λ h s. numbered-at (c.loop-k.invariant.4 h s) (omega arith)

pub invariant_of-tally : goal.invariant_of-tally
invariant_of-tally c = record { told = c.loop-k.invariant.3 }

pub invariant_of-tally-2 : goal.invariant_of-tally-2
invariant_of-tally-2 c = record { told = c.loop-k.invariant.3 }

use Rattle.atom_steps.specs.ComparisonLaws.{comparison-starts}
use Rattle.machine.specs.StartLaws.{two_open, two_steps}
use Rattle.atom_steps.proofs.comparisons.comparison.Goals as goal

pub push_first-requires : goal.push_first-requires
push_first-requires c =
    let h = two_open 0 (comparison-starts c.requires.expands) c.requires.ready in
    record { openable = h.0; preceded = h.1 }

pub returns : goal.returns
returns c =
    let at-push-first = c.push_first in
    two_steps 0 (comparison-starts c.requires.expands) at-push-first.ensures

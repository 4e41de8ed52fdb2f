use mathlib.Core.Path.{refl, ◌∙◌}
use native.Mathlib.Omega.{arith}
use Rattle.names.proofs.StateLaws.{walking_at}
use Rattle.names.proofs.walk.walk_all.Goals as goal

pub loop-walk-init : goal.loop-walk-init
loop-walk-init c = (omega arith, refl, refl, refl, refl, λ h d s. s)

pub visit-walk-requires : goal.visit-walk-requires
visit-walk-requires c =
    let b = c.requires in record {
      inside = c.loop-walk-test.true;
      walkable = b.walkable;
      declared = b.declared;
      walking = c.loop-walk.invariant.5 b.walkable b.declared
          b.walking;
    }

pub loop-walk-preserved : goal.loop-walk-preserved
loop-walk-preserved c =
    let loop = c.loop-walk in
    let visit = c.visit-walk in
    let n = loop.invariant in (
      omega arith,
      visit.auto.seen ∙ n.1,
      visit.auto.table ∙ n.2,
      visit.auto.stack ∙ n.3,
      visit.auto.refs ∙ n.4,
      λ h d s. visit.ensures.walking h d (n.5 h d s),
    )

pub returns : goal.returns
returns c = record { walking = λ h d s. walking_at (c.loop-walk.invariant.5 h d s) (omega arith) }

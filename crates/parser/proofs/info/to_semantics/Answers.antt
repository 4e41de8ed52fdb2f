-- `to_semantics` meets its contract: its two parts in a row.
use Rattle.node.proofs.ReturnedLaws.{raised}
use Rattle.parser.proofs.Laws.Rows.{accepted}
use Rattle.parser.proofs.Laws.Skims.{skim_refused, skim_then}
use mathlib.Core.Path.{refl, sym, ◌∙◌}
use native.Mathlib.Omega.{arith}
use Rattle.parser.proofs.info.to_semantics.Goals as goal

pub returns-in_err-d : goal.returns-in_err-d
returns-in_err-d c =
    rw (raised c.from_residual.ensures ∙ sym c.in_err-d.was)
    (λ ts ready. skim_refused (c.titles.ensures ts ready) _ c.in_err-d.was)

pub pair-requires : goal.pair-requires
pair-requires c =
    let z = c.requires in (
      record
          { tokens = z.tokens; ready = (accepted c.in_ok-d.was (c.titles.ensures z.tokens z.ready)).took.ready },
      omega arith,
      omega arith,
    )

pub returns : goal.returns
returns c =
    λ ts ready. skim_then (c.titles.ensures ts ready) _ c.in_ok-d.was (λ a. c.pair.ensures "SEMANTICS" ":" (record { known = refl; same = refl }) (record {
      known = refl;
      same =
          refl;
    }) ts (accepted c.in_ok-d.was (c.titles.ensures ts ready)).took.ready)

-- `closing` meets its contract: its two parts in a row.
use mathlib.Core.Path.{sym, ◌∙◌}
use Rattle.node.proofs.ReturnedLaws.{raised}
use Rattle.parser.proofs.Laws.Rows.{accepted}
use Rattle.parser.proofs.Laws.Skims.{skim_refused, skim_then, skim_map}
use Rattle.parser.proofs.info.closing.Goals as goal

pub returns-in_err-d : goal.returns-in_err-d
returns-in_err-d c =
    rw (raised c.from_residual.ensures ∙ sym c.in_err-d.was)
    (λ ts ready. skim_refused (c.model.ensures ts ready) _ c.in_err-d.was)

pub info_end-requires : goal.info_end-requires
info_end-requires c =
    let z = c.requires in record { tokens = z.tokens; ready = (accepted c.in_ok-d.was (c.model.ensures z.tokens z.ready)).took.ready }

pub returns : goal.returns
returns c =
    λ ts ready. let later = (accepted c.in_ok-d.was (c.model.ensures ts ready)).took.ready in skim_then (c.model.ensures ts ready) _ c.in_ok-d.was (λ m. skim_map
    later (λ t. m) (c.info_end.ensures ts later))

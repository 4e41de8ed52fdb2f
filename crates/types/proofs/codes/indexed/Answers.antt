-- An index stands on a bus; no other entry is asked for its name here.
use mathlib.Core.Path.{sym, ◌∙◌}
use Rattle.types.specs.CodeLaws.{index-bus, no_index}
use Rattle.types.proofs.codes.indexed.Goals as goal

pub returns-then-others_take-eq-INDEX : goal.returns-then-others_take-eq-INDEX
returns-then-others_take-eq-INDEX c =
    c.misfit.ensures ∙ index-bus c.args.kind c.args.name c.args.place (sym c.others_take.ensures ∙ c.if-others_take-eq-INDEX.true)

pub returns : goal.returns
returns c =
    no_index c.args.kind c.args.name c.args.place (λ e. c.if-others_take-eq-INDEX.false (c.others_take.ensures ∙ e))

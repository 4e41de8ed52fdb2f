-- The operands of an equation by their sides, all others by what is taken.
use mathlib.Core.Path.{sym, ◌∙◌}
use Rattle.types.specs.CodeLaws.{wrong_sides_lem, wrong-misfits}
use Rattle.types.proofs.codes.wrong_at.Goals as goal

pub returns-then-other-eq-EQUATION : goal.returns-then-other-eq-EQUATION
returns-then-other-eq-EQUATION c =
    let sides = sym c.others_take-other.ensures ∙ c.if-other-eq-EQUATION.true in
    wrong_sides_lem c.args.kind c.args.types.now c.args.starts.now c.args.from c.args.to _ sides c.first_of-left.ensures
    c.first_of-right.ensures c.first_of-start.ensures c.first_of.ensures c.sides_of.ensures

pub returns : goal.returns
returns c =
    let takes = c.others_take-other.ensures in
    wrong-misfits c.args.kind c.args.types.now c.args.starts.now c.args.from c.args.to _ (λ e. c.if-other-eq-EQUATION.false (takes ∙ e)) c.requires.1 takes
    c.takes_last.ensures c.misfits.ensures

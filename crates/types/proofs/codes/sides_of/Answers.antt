-- The sides of an equation: each way through the definition.
use mathlib.Core.Path.{◌∙◌}
use Rattle.types.specs.CodeLaws.{number_side, bus_side, value_side, no_side}
use Rattle.types.proofs.codes.sides_of.Goals as goal

pub returns-then-left-eq-NUMBER : goal.returns-then-left-eq-NUMBER
returns-then-left-eq-NUMBER c =
    c.misfit.ensures ∙ number_side c.args.left c.args.right c.args.start c.args.other c.if-left-eq-NUMBER.true

pub returns-then-left-eq-BUS : goal.returns-then-left-eq-BUS
returns-then-left-eq-BUS c =
    c.misfit-then-left-eq-BUS.ensures ∙ bus_side c.args.left c.args.right c.args.start c.args.other c.if-left-eq-NUMBER.false c.if-left-eq-BUS.true

pub returns-then-left-eq-VALUE : goal.returns-then-left-eq-VALUE
returns-then-left-eq-VALUE c =
    c.misfit-then-left-eq-VALUE.ensures ∙ value_side c.args.left c.args.right c.args.start c.args.other c.if-left-eq-NUMBER.false c.if-left-eq-BUS.false c.if-left-eq-VALUE.true

pub returns : goal.returns
returns c =
    no_side c.args.left c.args.right c.args.start c.args.other c.if-left-eq-NUMBER.false c.if-left-eq-BUS.false c.if-left-eq-VALUE.false

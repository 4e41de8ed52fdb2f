-- `one::measure` meets its contract: a law for each measure, and one for nothing.
use Rattle.memory_sets.specs.PlaceLaws.{first_word, last_word_lem}
use Rattle.sets.specs.UnionLaws.{ordered_room}
use Rattle.sets.specs.ListingLaws.{size_of, none_of, least_of, greatest_of}
use Rattle.node.specs.Result.{Done}
use mathlib.Core.Path.{ap, ◌∙◌}
use Rattle.memory_sets.proofs.one.measure.Goals as goal

pub returns-then-operator-eq-SIZE : goal.returns-then-operator-eq-SIZE
returns-then-operator-eq-SIZE c = size_of _ _ _ _ (ordered_room _ _ c.requires) c.if-operator-eq-SIZE.true

pub returns-then-count-eq0 : goal.returns-then-count-eq0
returns-then-count-eq0 c = none_of _ _ _ _ (ordered_room _ _ c.requires) c.if-operator-eq-SIZE.false c.if-count-eq0.true

pub returns-then-operator-eq-MIN : goal.returns-then-operator-eq-MIN
returns-then-operator-eq-MIN c =
    ap Done (first_word c.args.memory.now c.args.set.at) ∙ least_of _ _ _ _ (ordered_room _ _ c.requires) c.if-operator-eq-MIN.true c.if-count-eq0.false

pub returns : goal.returns
returns c =
    ap Done (last_word_lem c.args.memory.now c.args.set.at c.args.set.count c.if-count-eq0.false) ∙ greatest_of _ _ _ _ (ordered_room _ _ c.requires) c.if-operator-eq-SIZE.false c.if-operator-eq-MIN.false c.if-count-eq0.false

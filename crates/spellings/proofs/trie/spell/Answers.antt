use mathlib.Core.Path.{refl, ◌∙◌}
use native.Mathlib.Omega.{arith}
use Rattle.spellings.specs.SpellLaws.{part_none, part-more, spells_none, spells_more, spells_all, spells_few}
use Rattle.spellings.proofs.trie.spell.Goals as goal

pub loop-i-init : goal.loop-i-init
loop-i-init c = (refl, refl, λ t. spells_none t (part_none _ _))

pub step-node-requires : goal.step-node-requires
step-node-requires c =
    let loop = c.loop-i in
    let s = loop.invariant.2 c.requires.0 in
    let f = spells_few _ _ _ s (omega arith) in
    let e = loop.invariant.1 in
    (s.trie, s.inside, omega arith, omega arith)

pub overflow_add-node : goal.overflow_add-node
overflow_add-node c =
    let loop = c.loop-i in
    let step = c.step-node in
    let s = loop.invariant.2 c.requires.0 in
    let f = spells_few _ _ _ s (omega arith) in
    omega (arith, (step.ensures s.trie).0)

pub loop-i-preserved : goal.loop-i-preserved
loop-i-preserved c =
    let loop = c.loop-i in
    let step = c.step-node in
    let n = loop.invariant in
    (step.auto.links ∙ n.0, step.auto.byte ∙ n.1, λ t. spells_more t (n.2 t) (step.ensures (n.2 t).trie) (part-more _ _ _ (omega arith)) c.max-count.ensures)

pub returns : goal.returns
returns c =
    let loop = c.loop-i in
    λ t. spells_all _ _ _ _ (loop.invariant.2 t) (omega arith)

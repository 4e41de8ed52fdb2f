-- `spellings::intern::number` meets its contract: a name's node is its number, and another token has none.
use native.Mathlib.Omega.{arith}
use Rattle.spellings.specs.InternLaws.{numbered_other, name_bounds, numbered-name, node-small}
use Rattle.spellings.proofs.intern.number.Goals as goal

pub returns-then-word-ne-NAME : goal.returns-then-word-ne-NAME
returns-then-word-ne-NAME c =
    let get = c.get-word in
    numbered_other c.requires.0 c.requires.1 get.ensures c.requires.2 c.if-word-ne-NAME.true

pub spell-spelt-requires : goal.spell-spelt-requires
spell-spelt-requires c =
    let get = c.get-word in
    let if1 = c.if-word-ne-NAME in
    let b = name_bounds c.requires.0 c.requires.1 get.ensures c.requires.2 if1.false in (c.requires.2.trie, b.0, b.1, let r = c.requires.3 in omega (arith, b.2))

pub overflow_cast-ids : goal.overflow_cast-ids
overflow_cast-ids c =
    let get = c.get-word in
    let if1 = c.if-word-ne-NAME in
    let spell = c.spell-spelt in
    let s = node-small c.requires.0 c.requires.1 get.ensures c.requires.2 if1.false (spell.ensures c.requires.2.trie) in record { fits = omega arith }

pub returns : goal.returns
returns c =
    let get = c.get-word in
    let if1 = c.if-word-ne-NAME in
    let spell = c.spell-spelt in
    numbered-name c.requires.0 c.requires.1 get.ensures c.requires.2 if1.false (spell.ensures c.requires.2.trie)

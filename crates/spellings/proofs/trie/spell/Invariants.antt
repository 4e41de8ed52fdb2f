-- `spellings::trie::spell` meets its contract: after i bytes `node` has their spelling.
use mathlib.Core.Path.{◌≡◌}
use lib.ListN.{length}
use Rattle.spellings.specs.Trie.{Trie, Spells, part}
use Rattle.spellings.proofs.trie.spell.Given as goal

abbrev pub invariant-loop-i : goal.invariant-loop-i
invariant-loop-i l =
    (length l.links ≡ length l.initial.links) × (length l.byte ≡ length l.initial.byte) × ((t : Trie l.initial.links l.initial.byte l.nodes) → Spells t l.links l.byte (part l.at l.i l.text) l.count l.node)

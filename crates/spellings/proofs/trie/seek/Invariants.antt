-- `spellings::trie::seek` meets its contract: a child by the byte lies ahead of `link` (`Seeking`), and each link lies behind the one before.
use Prim.Native.Nat.{◌*◌, ◌-◌}
use mathlib.Core.Path.{◌≡◌}
use lib.ListN.{get_or}
use Rattle.spellings.specs.Trie.{Trie}
use Rattle.spellings.specs.TrieSearch.{Seeking}
use Rattle.spellings.proofs.trie.seek.Given as goal

abbrev pub invariant-loop-at : goal.invariant-loop-at
invariant-loop-at l = (l.at ≡ get_or l.links l.link 0) × ((t : Trie l.links l.byte l.nodes) → Seeking t l.node l.b l.link l.bits)

abbrev pub decreases-loop-at : goal.decreases-loop-at
decreases-loop-at l = 3 * l.nodes - l.link

-- `spellings::intern::intern` meets its contract: after j turns the first j tokens have their numbers.
use mathlib.Core.Path.{◌≡◌}
use lib.ListN.{length}
use Rattle.language.specs.Tokens.{tokens}
use Rattle.spellings.specs.Interned.{Indexed}
use Rattle.spellings.proofs.intern.intern.Given as goal

abbrev pub invariant-loop-j : goal.invariant-loop-j
invariant-loop-j l =
    (length l.links ≡ length l.initial.links) × (length l.byte ≡ length l.initial.byte) × (length l.ids ≡ length l.initial.ids) × Indexed (tokens l.text) l.j l.links l.byte l.nodes l.ids

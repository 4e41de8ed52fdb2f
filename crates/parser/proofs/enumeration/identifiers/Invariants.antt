-- `identifiers` meets its contract. The loop's invariant: the definition's answer is its answer on the tokens that are left, with the identifiers so far before it, and their entries
-- are written. The measure is the number of tokens left.
use Prim.Native.Nat.{◌-◌}
use Rattle.entries.specs.Flat.{flat_identifier}
use Rattle.language.specs.Sections.{identifiers_of}
use Rattle.parser.proofs.Laws.Loops.{Lists}
use lib.ListN.{length}
use Rattle.parser.proofs.enumeration.identifiers.Given as goal

abbrev pub invariant-loop-e : goal.invariant-loop-e
invariant-loop-e l =
    Lists flat_identifier 0 identifiers_of (λ ts. identifiers_of (length ts) ts) l.initial.work l.work l.initial.d l.d

abbrev pub decreases-loop-e : goal.decreases-loop-e
decreases-loop-e l = l.d.count - l.d.at

-- `numbers::numeral` meets its contract: what is read so far, with the digits that follow, is the numeral's value.
use Prim.Native.Nat.{◌≤◌}
use Rattle.language.specs.Limits.{max_number}
use Rattle.sets.specs.NumberLaws.{Reading}
use Rattle.sets.proofs.numbers.numeral.Given as goal

abbrev pub invariant-loop-i : goal.invariant-loop-i
invariant-loop-i l = (l.v ≤ max_number) × Reading l.text l.at l.v l.i

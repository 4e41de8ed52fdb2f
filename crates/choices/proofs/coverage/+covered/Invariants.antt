-- Bit by bit: the words whose mark admits it, from the next bit on; at the last a word is left or none.
use Prim.Native.Nat.{◌-◌}
use Rattle.choices.proofs.coverage.+covered.Given as goal

abbrev pub decreases-covered : goal.decreases-covered
decreases-covered l = l.width - l.i

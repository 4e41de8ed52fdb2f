-- Three stores, one behind another.
use native.Mathlib.Omega.{arith}
use lib.ListN.{length-set}
use Rattle.value_steps.proofs.named.note.Goals as goal

pub bounds-memory-i-2 : goal.bounds-memory-i-2
bounds-memory-i-2 c =
    let l = c.requires.0 in let f = c.requires.1 in simp length-set (omega arith)

pub bounds-memory-i-3 : goal.bounds-memory-i-3
bounds-memory-i-3 c =
    let l = c.requires.0 in let f = c.requires.1 in simp length-set (omega arith)

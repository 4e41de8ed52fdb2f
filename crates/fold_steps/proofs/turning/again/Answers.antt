-- `turning::again` meets its contract: the first of the elements that the frame holds goes into the slot, and the frame holds the others.
use Rattle.machine.specs.Fields.{base_field}
use Prim.Native.Nat.{◌+◌}
use native.Mathlib.Omega.{arith}
use Rattle.fold_steps.proofs.turning.again.Goals as goal

pub overflow_cast-w : goal.overflow_cast-w
overflow_cast-w c =
    omega (arith, c.type_inv.memory (c.args.m.frames + base_field))

pub turn-requires : goal.turn-requires
turn-requires c =
    let q = c.requires in
    let sl = q.slot in
    let b = q.bound in
    let fr = q.from in
    let sm = q.small in
    record {
      frame_words_in_bounds = (q.inside, omega arith);
      base_bound = (omega arith, (omega arith, q.numbered));
      w_nonzero = q.entry;
    }

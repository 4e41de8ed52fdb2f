-- The sum stays below what it is taken modulo.
use Rattle.std.proofs.Common.{◌<◌}
use Rattle.writer_run.proofs.sum_of.Given as goal

abbrev pub invariant-loop-byte : goal.invariant-loop-byte
invariant-loop-byte l = l.sum < 4_294_967_291

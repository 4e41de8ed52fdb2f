-- `names::resolve` meets its contract: a short text's arrays are long enough for it, and those of the longest for any.
use native.Mathlib.Omega.{arith}
use Rattle.names.proofs.ResolveLaws.{short_fits, long_fits}
use Rattle.names.proofs.resolve.Goals as goal

pub resolve_with-requires : goal.resolve_with-requires
resolve_with-requires c = (short_fits c.requires.0 (omega arith) (omega arith), c.requires.1, c.requires.2)

pub resolve_with-requires-2 : goal.resolve_with-requires-2
resolve_with-requires-2 c = (long_fits c.requires.0, c.requires.1, c.requires.2)

-- `moving::lower` meets its contract.
use Rattle.std.specs.Prelude.{◌+◌, ◌-◌, ◌≡◌}
use Rattle.std.proofs.Common.{arith}
use Rattle.memory_sets.proofs.MovingLaws.{copied-within}
use Rattle.memory_sets.proofs.moving.lower.Goals as goal

pub returns : goal.returns
returns c =
    let k : c.args.a + c.args.n - c.args.a ≡ c.args.n = omega arith in
    copied-within k c.copy_within.ensures.len c.copy_within.ensures.by_index.0 c.copy_within.ensures.by_index.1 c.copy_within.ensures.by_index.2

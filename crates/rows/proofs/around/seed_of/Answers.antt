-- `seed_of` meets its contract, kind by kind.
use mathlib.Core.Path.{◌≡◌}
use native.Mathlib.Omega.{arith}
use Rattle.node.specs.Ltl.{W}
use Rattle.node.specs.Kinds.{binary_kind}
use Rattle.rows.proofs.around.seed_of.Goals as goal

pub returns-in_default : goal.returns-in_default
returns-in_default c = let e : c.args.kind ≡ binary_kind W = omega arith in rw e

-- `boolean_words` meets its contract: fewer than eight bytes have no word, and no step is made.
use Prim.Native.Nat.{◌*◌, ◌/◌}
use mathlib.Core.Path.{◌≡◌, ap, ◌∙◌}
use native.Mathlib.Omega.{arith}
use Rattle.node.specs.Kinds.{shape_of}
use Rattle.rows.specs.Booleans.{byte_steps}
use Rattle.rows.specs.BooleanLaws.{steps_none}
use Rattle.rows.proofs.booleans.boolean_words.Goals as goal

pub returns-then-count-lt8 : goal.returns-then-count-lt8
returns-then-count-lt8 c =
    let none : 0 ≡ 8 * (c.args.count / 8) = omega (arith, c.if-count-lt8.true) in
    steps_none _ _ _ _ _ ∙ ap (byte_steps (shape_of c.args.op.kind) c.args.rows.now c.args.op.first c.args.op.second c.args.base) none

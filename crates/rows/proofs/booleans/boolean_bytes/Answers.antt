use Prim.Native.Nat.{◌+◌}
use mathlib.Core.Path.{◌≡◌, ap, ◌∙◌}
use native.Mathlib.Omega.{arith}
use Rattle.node.specs.Kinds.{shape_of}
use Rattle.rows.specs.Booleans.{byte_steps}
use Rattle.rows.specs.BooleanLaws.{read-lt, length-steps, steps_none, steps-more}
use lib.ListN.{length}
use Rattle.rows.proofs.booleans.boolean_bytes.Goals as goal

pub loop-j-init : goal.loop-j-init
loop-j-init c =
    ((λ k. omega (arith, c.type_inv.rows k)), steps_none _ _ _ _ _)

pub overflow_add-first : goal.overflow_add-first
overflow_add-first c =
    let b = c.requires.1 in omega (arith, b.low, b.few, b.first_in_lem, b.second_in, c.loop-j-test.true)

same : (c : goal.In-loop-j) → length c.loop-j.rows ≡ length c.args.rows.now
same c = ap length c.loop-j.invariant.1 ∙ length-steps _ _ _ _ _ c.loop-j.j

pub load_byte-x-requires : goal.load_byte-x-requires
load_byte-x-requires c =
    let b = c.requires.1 in omega (arith, b.first_in_lem, b.room, same c, c.loop-j-test.true)

pub overflow_add-second : goal.overflow_add-second
overflow_add-second c =
    let loop-test = c.loop-j-test in
    let b = c.requires.1 in omega (arith, b.low, b.few, b.first_in_lem, b.second_in, loop-test.true)

same-2 : (c : goal.After-load_byte-x) → length c.loop-j.rows ≡ length c.args.rows.now
same-2 c = ap length c.loop-j.invariant.1 ∙ length-steps _ _ _ _ _ c.loop-j.j

pub load_byte-y-requires : goal.load_byte-y-requires
load_byte-y-requires c =
    let loop-test = c.loop-j-test in
    let b = c.requires.1 in omega (arith, b.second_in, b.room, same-2 c, loop-test.true)

pub overflow_add-base : goal.overflow_add-base
overflow_add-base c =
    let loop-test = c.loop-j-test in
    let b = c.requires.1 in omega (arith, b.low, b.few, b.first_in_lem, b.second_in, loop-test.true)

pub byte_step-requires : goal.byte_step-requires
byte_step-requires c =
    let load_byte = c.load_byte-x in
    let loop = c.loop-j in
    let small = loop.invariant.0 in
    let x = read-lt loop.rows small (c.args.op.first + loop.j) 1 in
    let y = read-lt loop.rows small (c.args.op.second + loop.j) 1 in
    record { boolean_kind = c.requires.0; x_bound = (omega (arith, load_byte.ensures, x), omega (arith, c.load_byte-y.ensures, y)) }

same-3 : (c : goal.After-byte_step) → length c.loop-j.rows ≡ length c.args.rows.now
same-3 c = ap length c.loop-j.invariant.1 ∙ length-steps _ _ _ _ _ c.loop-j.j

pub store_byte-requires : goal.store_byte-requires
store_byte-requires c =
    let loop-test = c.loop-j-test in
    let b = c.requires.1 in omega (arith, b.room, same-3 c, loop-test.true)

pub loop-j-preserved : goal.loop-j-preserved
loop-j-preserved c =
    let loop-test = c.loop-j-test in
    let byte_step = c.byte_step in
    let load_byte = c.load_byte-x in
    let load-byte2 = c.load_byte-y in
    let IsStore-byte = c.store_byte in
    let loop = c.loop-j in
    let taken = loop-test.true in
    let more = steps-more c.args.op c.requires.0 c.args.rows.now c.args.base loop.j 1 loop.invariant.0 c.requires.1 (omega (arith, taken)) loop.invariant.1
    load_byte.ensures load-byte2.ensures byte_step.ensures IsStore-byte.ensures in
    ((λ k. omega (arith, c.type_inv.rows k)), more)

same-4 : (c : goal.After-loop-j) → length c.loop-j.rows ≡ length c.args.rows.now
same-4 c = ap length c.loop-j.invariant.1 ∙ length-steps _ _ _ _ _ c.loop-j.j

pub shape_of-rows : goal.shape_of-rows
shape_of-rows c =
    same-4 c

pub returns : goal.returns
returns c =
    let loop = c.loop-j in
    let e : loop.j ≡ c.args.count = omega arith in
    loop.invariant.1 ∙ ap (byte_steps (shape_of c.args.op.kind) c.args.rows.now c.args.op.first c.args.op.second c.args.base) e

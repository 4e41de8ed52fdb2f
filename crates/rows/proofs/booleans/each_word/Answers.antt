use Prim.Native.Nat.{◌+◌, ◌*◌, ◌/◌}
use mathlib.Core.Path.{◌≡◌, ap, ◌∙◌}
use native.Mathlib.Omega.{arith}
use Rattle.node.specs.Kinds.{shape_of}
use Rattle.rows.specs.Booleans.{byte_steps}
use Rattle.rows.specs.BooleanLaws.{length-steps, steps_none, steps-more}
use lib.ListN.{length}
use Rattle.rows.proofs.booleans.each_word.Goals as goal

pub loop-i-init : goal.loop-i-init
loop-i-init c =
    ((λ k. omega (arith, c.type_inv.rows k)), steps_none _ _ _ _ _)

pub overflow_mul-j : goal.overflow_mul-j
overflow_mul-j c =
    let b = c.requires.1 in omega (arith, b.few, c.loop-i-test.true)

pub overflow_add-first : goal.overflow_add-first
overflow_add-first c =
    let b = c.requires.1 in omega (arith, b.low, b.few, b.first_in_lem, b.second_in, c.loop-i-test.true)

same : (c : goal.In-loop-i) → length c.loop-i.rows ≡ length c.args.rows.now
same c = ap length c.loop-i.invariant.1 ∙ length-steps _ _ _ _ _ (8 * c.loop-i.i)

pub load_word-x-requires : goal.load_word-x-requires
load_word-x-requires c =
    let b = c.requires.1 in omega (arith, b.first_in_lem, b.room, same c, c.loop-i-test.true)

pub overflow_add-second : goal.overflow_add-second
overflow_add-second c =
    let loop-test = c.loop-i-test in
    let b = c.requires.1 in omega (arith, b.low, b.few, b.first_in_lem, b.second_in, loop-test.true)

same-2 : (c : goal.After-load_word-x) → length c.loop-i.rows ≡ length c.args.rows.now
same-2 c = ap length c.loop-i.invariant.1 ∙ length-steps _ _ _ _ _ (8 * c.loop-i.i)

pub load_word-y-requires : goal.load_word-y-requires
load_word-y-requires c =
    let loop-test = c.loop-i-test in
    let b = c.requires.1 in omega (arith, b.second_in, b.room, same-2 c, loop-test.true)

pub overflow_add-base : goal.overflow_add-base
overflow_add-base c =
    let loop-test = c.loop-i-test in
    let b = c.requires.1 in omega (arith, b.low, b.few, b.first_in_lem, b.second_in, loop-test.true)

pub word_step-requires : goal.word_step-requires
word_step-requires c =
    c.requires.0

same-3 : (c : goal.After-word_step) → length c.loop-i.rows ≡ length c.args.rows.now
same-3 c = ap length c.loop-i.invariant.1 ∙ length-steps _ _ _ _ _ (8 * c.loop-i.i)

pub store_word-requires : goal.store_word-requires
store_word-requires c =
    let loop-test = c.loop-i-test in
    let b = c.requires.1 in omega (arith, b.room, same-3 c, loop-test.true)

pub loop-i-preserved : goal.loop-i-preserved
loop-i-preserved c =
    let loop-test = c.loop-i-test in
    let word-step = c.word_step in
    let load_word = c.load_word-x in
    let load-word2 = c.load_word-y in
    let Store-word = c.store_word in
    let loop = c.loop-i in
    let taken = loop-test.true in
    let e : 8 * loop.i + 8 ≡ 8 * (loop.i + 1) = omega arith in
    let more = steps-more c.args.op c.requires.0 c.args.rows.now c.args.base (8 * loop.i) 8 loop.invariant.0 c.requires.1 (omega (arith, taken)) loop.invariant.1
    load_word.ensures load-word2.ensures word-step.ensures Store-word.ensures in
    ((λ k. omega (arith, c.type_inv.rows k)), more ∙ ap (byte_steps (shape_of c.args.op.kind) c.args.rows.now c.args.op.first c.args.op.second c.args.base) e)

same-4 : (c : goal.After-loop-i) → length c.loop-i.rows ≡ length c.args.rows.now
same-4 c = ap length c.loop-i.invariant.1 ∙ length-steps _ _ _ _ _ (8 * c.loop-i.i)

pub shape_of-rows : goal.shape_of-rows
shape_of-rows c =
    same-4 c

pub returns : goal.returns
returns c =
    let loop = c.loop-i in
    let e : 8 * loop.i ≡ 8 * (c.args.count / 8) = omega arith in
    loop.invariant.1 ∙ ap (byte_steps (shape_of c.args.op.kind) c.args.rows.now c.args.op.first c.args.op.second c.args.base) e

-- `boolean_row` meets its contract: the words and the odd bytes are as many byte steps as the row has bytes; then the spare bits are cleared.
use Prim.Native.Nat.{◌*◌, ◌/◌}
use mathlib.Core.Path.{ap, ◌∙◌}
use native.Mathlib.Omega.{arith}
use lib.ListN.{length}
use Rattle.node.specs.Kinds.{shape_of}
use Rattle.bits.specs.Bits.{width}
use Rattle.rows.specs.BooleanLaws.{length-steps, steps-row, bound, bound-rest, boolean-written}
use Rattle.rows.proofs.booleans.boolean_row.Goals as goal

pub overflow_add-count : goal.overflow_add-count
overflow_add-count c =
    let place = c.requires.placed.0 in
    omega (arith, place.few)

pub overflow_mul-from : goal.overflow_mul-from
overflow_mul-from c =
    let place = c.requires.placed.0 in
    omega (arith, place.few)

pub boolean_words-requires : goal.boolean_words-requires
boolean_words-requires c =
    let place = c.requires.placed.0 in
    (c.requires.placed.1, bound place)

pub overflow_add-rest : goal.overflow_add-rest
overflow_add-rest c =
    let place = c.requires.placed.0 in
    omega (arith, place.few, place.low, place.first_in_lem)

pub overflow_add-rest-2 : goal.overflow_add-rest-2
overflow_add-rest-2 c =
    let place = c.requires.placed.0 in
    omega (arith, place.few, place.low, place.second_in)

pub overflow_add-base : goal.overflow_add-base
overflow_add-base c =
    let place = c.requires.placed.0 in
    omega (arith, place.few, place.low)

pub overflow_sub-count : goal.overflow_sub-count
overflow_sub-count c =
    let place = c.requires.placed.0 in
    omega arith

pub boolean_bytes-requires : goal.boolean_bytes-requires
boolean_bytes-requires c =
    let boolean-words = c.boolean_words in
    let place = c.requires.placed.0 in
    (c.requires.placed.1, bound-rest (8 * (width c.args.n / 8)) (omega arith) place.low (ap length boolean-words.ensures ∙ length-steps _ _ _ _ _ _) (bound place))

pub overflow_mul-spare : goal.overflow_mul-spare
overflow_mul-spare c =
    let place = c.requires.placed.0 in
    omega (arith, place.few)

pub overflow_sub-spare : goal.overflow_sub-spare
overflow_sub-spare c =
    let place = c.requires.placed.0 in
    omega arith

pub overflow_add-base-2 : goal.overflow_add-base-2
overflow_add-base-2 c =
    let place = c.requires.placed.0 in
    omega (arith, place.few, place.low)

pub overflow_sub-base : goal.overflow_sub-base
overflow_sub-base c =
    let place = c.requires.placed.0 in
    omega (arith, c.requires.n_nonzero)

pub clear_spare-requires : goal.clear_spare-requires
clear_spare-requires c =
    let boolean-bytes = c.boolean_bytes in
    let boolean-words = c.boolean_words in
    let place = c.requires.placed.0 in
    let same = ap length boolean-bytes.ensures ∙ length-steps _ _ _ _ _ _ ∙ ap length boolean-words.ensures ∙ length-steps _ _ _ _ _ _ in
    (omega (arith, same, place.room, c.requires.n_nonzero), omega arith)

pub returns : goal.returns
returns c =
    let boolean-words = c.boolean_words in
    let boolean-bytes = c.boolean_bytes in
    let clear-spare = c.clear_spare in
    let place = c.requires.placed.0 in
    let op = c.args.op in
    let n = c.args.n in
    let mid = steps-row c.args.rows.now (shape_of op.kind) op.first op.second c.args.base (8 * (width n / 8)) (width n) (omega arith) place.first_in_lem
    place.second_in boolean-words.ensures boolean-bytes.ensures in
    boolean-written n c.requires.n_nonzero place c.requires.placed.1 (λ k. omega (arith, c.slice_known-1.given k)) mid clear-spare.ensures

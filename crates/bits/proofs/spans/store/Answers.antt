-- `store` meets its contract: eight bytes, one, or a bit.
use Rattle.std.proofs.Common.{refl, div-one, arith}
use Rattle.bits.specs.SpanLaws.{whole-bytes, one_bit, stored_bytes, stored_bit}
use Rattle.bits.proofs.spans.store.Goals as goal

pub store_word-requires : goal.store_word-requires
store_word-requires c =
    let whole = whole-bytes c.requires (omega arith) in omega arith

pub returns-then-m-eq64 : goal.returns-then-m-eq64
returns-then-m-eq64 c =
    let taken = c.if-m-eq64.true in
    rw (taken, c.store_word.ensures)
    (stored_bytes c.args.bytes.now c.args.i 8 c.args.v (whole-bytes c.requires (omega (arith, taken))) (omega (arith, taken, c.requires.inside)))

pub store_byte-requires : goal.store_byte-requires
store_byte-requires c =
    let whole = whole-bytes c.requires (omega arith) in omega arith

pub returns-then-m-eq8 : goal.returns-then-m-eq8
returns-then-m-eq8 c =
    let taken = c.if-m-eq8.true in
    rw (taken, c.store_byte.ensures)
    (stored_bytes c.args.bytes.now c.args.i 1 c.args.v (whole-bytes c.requires (omega (arith, taken))) (omega (arith, taken, c.requires.inside)))

pub set_bit-requires : goal.set_bit-requires
set_bit-requires c =
    let one = one_bit c.requires c.if-m-eq8.false c.if-m-eq64.false in omega arith

pub returns : goal.returns
returns c =
    let one = one_bit c.requires c.if-m-eq8.false c.if-m-eq64.false in
    rw (one, c.set_bit.ensures)
    (stored_bit c.args.bytes.now c.args.i c.args.v (omega (arith, one, c.requires.inside)) (rw (div-one c.args.v) refl))

-- `load` meets its contract: eight bytes, one, or a bit.
use Rattle.std.proofs.Common.{◌∙◌, arith}
use Rattle.bits.specs.Bits.{bit_at}
use Rattle.bits.specs.BitLaws.{from_bool_digit}
use Rattle.bits.specs.SpanLaws.{whole-bytes, one_bit, span-read, span-bit}
use Rattle.bits.proofs.spans.load.Goals as goal

pub load_word-requires : goal.load_word-requires
load_word-requires c =
    let whole = whole-bytes c.requires (omega arith) in omega arith

pub returns-then-m-eq64 : goal.returns-then-m-eq64
returns-then-m-eq64 c =
    rw (c.if-m-eq64.true, c.load_word.ensures)
    (span-read c.args.bytes.now (λ k. omega (arith, c.type_inv.bytes k)) c.args.i 8 (whole-bytes c.requires (omega arith)))

pub load_byte-requires : goal.load_byte-requires
load_byte-requires c =
    let whole = whole-bytes c.requires (omega arith) in omega arith

pub returns-then-m-eq8 : goal.returns-then-m-eq8
returns-then-m-eq8 c =
    rw (c.if-m-eq8.true, c.load_byte.ensures)
    (span-read c.args.bytes.now (λ k. omega (arith, c.type_inv.bytes k)) c.args.i 1 (whole-bytes c.requires (omega arith)))

pub get_bit-requires : goal.get_bit-requires
get_bit-requires c =
    let one = one_bit c.requires c.if-m-eq8.false c.if-m-eq64.false in omega arith

pub returns : goal.returns
returns c =
    rw (one_bit c.requires c.if-m-eq8.false c.if-m-eq64.false)
    (span-bit (bit_at c.args.bytes.now) c.args.i c.get_bit.result (c.from.ensures ∙ from_bool_digit c.get_bit.result) c.get_bit.ensures)

use Prim.Native.Nat.{◌+◌}
use mathlib.Core.Path.{◌≡◌, sym, ap, ◌∙◌}
use native.Mathlib.Omega.{arith}
use Rattle.bits.specs.Bits.{bit_at}
use Rattle.bits.specs.BitLaws.{digit_lt, from_bool_digit, number_small, number_more, number_none}
use Rattle.recordings.specs.Recording.{field_at}
use Rattle.recordings.proofs.field.Goals as goal

pub loop-i-init : goal.loop-i-init
loop-i-init c = sym (number_none _)

pub overflow_mul-v : goal.overflow_mul-v
overflow_mul-v c = record { fits = omega (arith, number_small (λ j. bit_at c.args.bytes.now (c.args.at + j)) c.loop-i.i (omega arith)) }

pub overflow_add-v : goal.overflow_add-v
overflow_add-v c = record {
  fits = omega
      (arith, (c.from.ensures ∙ from_bool_digit c.get_bit-b.result), digit_lt c.get_bit-b.result, number_small (λ j. bit_at c.args.bytes.now (c.args.at + j)) c.loop-i.i (omega arith));
}

pub loop-i-preserved : goal.loop-i-preserved
loop-i-preserved c = rw (c.loop-i.invariant, c.from.ensures, from_bool_digit c.get_bit-b.result, c.get_bit-b.ensures) (sym (number_more _ c.loop-i.i))

pub returns : goal.returns
returns c = let e : c.loop-i.i ≡ c.args.count = omega arith in c.loop-i.invariant ∙ ap (field_at _ _) e

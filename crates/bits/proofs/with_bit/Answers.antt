-- `with_bit` meets its contract: a number of 8 bits keeps its width.
use Rattle.std.proofs.Common.{◌≡◌, ◌^◌, ◌<◌, ◌∙◌, refl, arith, pow_pos}
use lib.Pow.{shr_le}
use Rattle.bits.specs.Bits.{digit, with_bit}
use Rattle.bits.specs.BitLaws.{with-lt, digit_lt, from_bool_digit}
use Rattle.bits.proofs.with_bit.Goals as goal

d_is : (c : goal.After-from-d) → c.from-d.result ≡ digit c.args.v
d_is c = c.from-d.ensures ∙ from_bool_digit c.args.v

pub overflow_mul-result : goal.overflow_mul-result
overflow_mul-result c = record { fits = omega (arith, shr_le c.args.x c.args.s) }

pub overflow_add-result : goal.overflow_add-result
overflow_add-result c = record { fits = omega (arith, d_is c, digit_lt c.args.v, shr_le c.args.x c.args.s) }

small : (c : goal.After-from-d) → with_bit c.args.x c.args.s c.args.v < 2 ^ 8
small c = with-lt c.args.x c.args.s 8 c.args.v (omega arith) (omega arith)

pub overflow_mul-result-2 : goal.overflow_mul-result-2
overflow_mul-result-2 c = record { fits = rw (c.power-p.ensures, d_is c) (omega (arith, small c)) }

pub nonzero_rem-result : goal.nonzero_rem-result
nonzero_rem-result c = omega (arith, c.power-p.ensures, pow_pos c.args.s)

pub overflow_add-result-2 : goal.overflow_add-result-2
overflow_add-result-2 c = record { fits = rw (c.power-p.ensures, d_is c) (omega (arith, small c)) }

pub returns : goal.returns
returns c = (rw (c.power-p.ensures, d_is c) refl, rw (c.power-p.ensures, d_is c) (small c))

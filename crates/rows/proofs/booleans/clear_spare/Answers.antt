-- `clear_spare` meets its contract: a shift is a product with a power of 2.
use mathlib.Core.Path.{refl}
use native.Mathlib.Nat.{div-mul-le_self}
use native.Mathlib.Omega.{arith}
use lib.Pow.{pow_pos}
use Rattle.rows.proofs.booleans.clear_spare.Goals as goal

pub nonzero_div-rows : goal.nonzero_div-rows
nonzero_div-rows c =
    let power = c.power-p in
    omega (arith, power.ensures, pow_pos c.args.s)

pub overflow_mul-rows : goal.overflow_mul-rows
overflow_mul-rows c =
    let power = c.power-p in
    record { fits = omega (arith, div-mul-le_self c.from.result power.result) }

pub overflow_cast-rows : goal.overflow_cast-rows
overflow_cast-rows c =
    let power = c.power-p in
    record { fits = omega (arith, div-mul-le_self c.from.result power.result) }

pub returns : goal.returns
returns c =
    let power = c.power-p in
    rw (power.ensures, c.from.ensures) refl

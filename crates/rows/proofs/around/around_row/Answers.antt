-- `around_row` meets its contract: once around where the value at the loop is the seed, else twice.
use native.Mathlib.Omega.{arith}
use mathlib.Core.Path.{◌∙◌}
use Rattle.rows.specs.ReadyLaws.{placed-still}
use Rattle.rows.specs.SweepingLaws.{held_after, same_bit, around-once, around_twice}
use Rattle.rows.proofs.around.around_row.Goals as goal

pub overflow_mul-base : goal.overflow_mul-base
overflow_mul-base c =
    let p = c.requires.placed.0 in omega (arith, p.low)

pub overflow_add-base : goal.overflow_add-base
overflow_add-base c =
    let p = c.requires.placed.0 in omega (arith, p.low, p.few, c.requires.l_lt_n)

pub get_bit-s-requires : goal.get_bit-s-requires
get_bit-s-requires c =
    let sweep = c.sweep in
    let p = c.requires.placed.0 in omega (arith, p.room, c.requires.l_lt_n, sweep.ensures.part.kept.size)

pub shape_of-rows-then-s-seed : goal.shape_of-rows-then-s-seed
shape_of-rows-then-s-seed c =
    let sweep = c.sweep in
    sweep.ensures.part.kept.size

pub returns-then-s-seed : goal.returns-then-s-seed
returns-then-s-seed c =
    let seed-of = c.seed_of-seed in
    let sweep = c.sweep in
    let w = c.args.lasso in
    around-once w c.args.op seed-of.ensures sweep.ensures (c.get_bit-s.ensures ∙ sweep.ensures.part.here w.l (omega arith) c.requires.l_lt_n)
    (same_bit _ _ c.if-s-seed.true)

pub sweep-requires-2 : goal.sweep-requires-2
sweep-requires-2 c =
    let sweep = c.sweep in
    let p = c.requires.placed.0 in
    record { placed = (placed-still p sweep.ensures.part.kept.size, c.requires.placed.1); held = λ f. held_after p sweep.ensures }

pub shape_of-rows : goal.shape_of-rows
shape_of-rows c =
    let again = c.sweep-2 in
    let sweep = c.sweep in
    again.ensures.part.kept.size ∙ sweep.ensures.part.kept.size

pub returns : goal.returns
returns c =
    let seed-of = c.seed_of-seed in
    let sweep = c.sweep in
    let get-bit = c.get_bit-s in
    let again = c.sweep-2 in
    let w = c.args.lasso in
    around_twice w c.args.op c.requires.placed.0 seed-of.ensures sweep.ensures (get-bit.ensures ∙ sweep.ensures.part.here w.l (omega arith) c.requires.l_lt_n) again.ensures

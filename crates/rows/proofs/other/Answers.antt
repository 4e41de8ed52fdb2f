-- `other` meets its contract: the last byte is cleared, and then all positions are filled.
use Prim.Native.Nat.{◌+◌, ◌-◌}
use mathlib.Core.Path.{◌∙◌}
use mathlib.Core.Logic.{inr}
use native.Mathlib.Omega.{arith}
use lib.ListN.{set, length-set}
use Rattle.bits.specs.Bits.{width}
use Rattle.rows.specs.MemoryLaws.{part_as}
use Rattle.rows.specs.ReadyLaws.{ready-cleared, temporal-placed, temporal-is, other_written, is_plain, is-temporal}
use Rattle.rows.proofs.other.Goals as goal

pub overflow_add-last : goal.overflow_add-last
overflow_add-last c =
    let r = c.requires.ready in record { fits = omega (arith, r.recorded.few) }

pub overflow_add-last-2 : goal.overflow_add-last-2
overflow_add-last-2 c =
    let r = c.requires.ready in record { fits = omega (arith, r.recorded.few, r.low) }

pub overflow_sub-last : goal.overflow_sub-last
overflow_sub-last c =
    let r = c.requires.ready in omega (arith, r.recorded.loop)

pub bounds-rows-last : goal.bounds-rows-last
bounds-rows-last c =
    let r = c.requires.ready in omega (arith, r.recorded.loop, r.room)

pub plain_row-requires : goal.plain_row-requires
plain_row-requires c =
    let r = c.requires.ready in record { ready = ready-cleared _ _ r; plain = is_plain c.args.op c.requires.plain c.if-op-lt-GLOBALLY.true }

pub shape_of-rows-then-op-lt-GLOBALLY : goal.shape_of-rows-then-op-lt-GLOBALLY
shape_of-rows-then-op-lt-GLOBALLY c =
    let plain-Row = c.plain_row in
    plain-Row.ensures.kept.size ∙ length-set c.args.rows.now
    (c.args.base + width c.args.lasso.n - 1) _

pub returns-then-op-lt-GLOBALLY : goal.returns-then-op-lt-GLOBALLY
returns-then-op-lt-GLOBALLY c =
    let plain-Row = c.plain_row in
    let r = c.requires.ready in other_written r plain-Row.ensures

pub paired-requires : goal.paired-requires
paired-requires c =
    let r = c.requires.ready in inr (is-temporal c.args.op c.requires.plain c.if-op-lt-GLOBALLY.false)

pub around_row-requires : goal.around_row-requires
around_row-requires c =
    let if1 = c.if-op-lt-GLOBALLY in
    let r = c.requires.ready in let t = is-temporal c.args.op c.requires.plain if1.false in
    rw c.paired.ensures record { placed = (temporal-placed (ready-cleared _ _ r) t, t); l_lt_n = r.recorded.loop }

pub shape_of-rows : goal.shape_of-rows
shape_of-rows c =
    let around-row = c.around_row in
    around-row.ensures.kept.size ∙ length-set c.args.rows.now
    (c.args.base + width c.args.lasso.n - 1) _

pub returns : goal.returns
returns c =
    let if1 = c.if-op-lt-GLOBALLY in
    let paired = c.paired in
    let around-row = c.around_row in
    let r = c.requires.ready in let t = is-temporal c.args.op c.requires.plain if1.false in
    let w = c.args.lasso in
    let cleared = set c.args.rows.now (c.args.base + width w.n - 1) 0 in
    other_written r (part_as (rw paired.ensures at around-row.ensures) (λ p a b. temporal-is c.args.recording.now cleared w c.args.op t p))

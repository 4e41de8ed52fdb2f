-- `next_span` meets its contract: the span moved by one, and the bit that comes in.
use Prim.Native.Nat.{◌+◌, ◌-◌, ◌<◌}
use mathlib.Core.Path.{◌≡◌, ap, ◌∙◌}
use native.Mathlib.Omega.{arith}
use Rattle.bits.specs.Bits.{digit}
use Rattle.bits.specs.BitLaws.{from_bool_digit}
use Rattle.recordings.specs.Lasso.{next}
use Rattle.recordings.specs.LassoLaws.{next-lt}
use Rattle.rows.specs.Memory.{bits_at}
use Rattle.rows.specs.StretchesLaws.{span-row}
use Rattle.rows.specs.SpanStepsLaws.{span-next}
use Rattle.rows.specs.SweepingLaws.{digit-small}
use Rattle.rows.specs.PlainLaws.{spot_within}
use Rattle.rows.proofs.plain.next_span.Goals as goal

pub overflow_mul-first : goal.overflow_mul-first
overflow_mul-first c =
    record { fits = omega (arith, c.requires.0.1) }

pub overflow_add-first : goal.overflow_add-first
overflow_add-first c =
    record { fits = omega (arith, c.requires.0.1, c.requires.1.fits, c.requires.1.few) }

pub load-x-requires : goal.load-x-requires
load-x-requires c =
    spot_within c.requires.1 c.requires.0

pub overflow_add-at : goal.overflow_add-at
overflow_add-at c =
    let spot = c.requires.1 in record { fits = omega arith }

pub overflow_sub-at : goal.overflow_sub-at
overflow_sub-at c =
    let spot = c.requires.1 in omega arith

pub after-q-requires : goal.after-q-requires
after-q-requires c =
    let spot = c.requires.1 in omega arith

pub overflow_mul-first-2 : goal.overflow_mul-first-2
overflow_mul-first-2 c =
    record { fits = omega (arith, c.requires.0.1) }

later : (c : goal.After-after-q) → c.after-q.result < c.args.lasso.n
later c =
    let q = next-lt c.args.lasso.n c.args.lasso.l (c.args.at + c.args.size - 1) c.requires.1.loop in omega (arith, c.after-q.ensures)

pub overflow_add-first-2 : goal.overflow_add-first-2
overflow_add-first-2 c =
    let q = later c in record { fits = omega (arith, q, c.requires.0.1, c.requires.1.few) }

pub get_bit-b-requires : goal.get_bit-b-requires
get_bit-b-requires c =
    let q = later c in omega (arith, q, c.requires.0.0)

pub ahead-requires : goal.ahead-requires
ahead-requires c =
    digit-small c.get_bit-b.result (c.from.ensures ∙ from_bool_digit c.get_bit-b.result)

pub returns : goal.returns
returns c =
    let load = c.load-x in
    let get-bit = c.get_bit-b in
    let after = c.after-q in
    let s = c.args in
    let spot = c.requires.1 in
    let row = bits_at s.rows.now s.first in
    let last : s.at + s.size - 1 ≡ s.at + (s.size - 1) = omega (arith, spot.some) in
    rw c.ahead.ensures
    (span-next s.lasso.n s.lasso.l s.at s.size row _ _ spot.fits spot.most (span-row s.rows.now s.first s.at s.size _ load.ensures)
    (c.from.ensures ∙ from_bool_digit get-bit.result ∙ ap digit (get-bit.ensures ∙ ap row (after.ensures ∙ ap (next s.lasso.n s.lasso.l) last))))

use Prim.Native.Nat.{◌+◌, ◌*◌}
use mathlib.Core.Path.{◌≡◌, sym, ap, ap₂, ◌∙◌}
use native.Mathlib.Omega.{arith}
use Rattle.bits.specs.Bits.{Values, digit, number}
use Rattle.bits.specs.BitLaws.{number_none, number_more, digit_lt, from_bool_digit}
use Rattle.recordings.specs.Recording.{letter_of}
use Rattle.rows.specs.PlainLaws.{number_half}
use Rattle.rows.proofs.plain.signal_span.Goals as goal

pub loop-i-init : goal.loop-i-init
loop-i-init c =
    sym (number_none _)

pub overflow_add-at : goal.overflow_add-at
overflow_add-at c =
    let spot = c.requires.1 in omega arith

pub letter-b-requires : goal.letter-b-requires
letter-b-requires c =
    (c.requires.0, (let spot = c.requires.1 in omega arith))

pub overflow_mul-v : goal.overflow_mul-v
overflow_mul-v c =
    let loop = c.loop-i in
    let s = c.args in
    let f : Values = λ q. letter_of s.recording.now s.lasso.k (s.at + q) s.signal in
    let h = number_half f loop.i loop.invariant (omega (arith, c.requires.1.most)) in omega arith

pub overflow_add-v : goal.overflow_add-v
overflow_add-v c =
    let loop = c.loop-i in
    let s = c.args in
    let f : Values = λ q. letter_of s.recording.now s.lasso.k (s.at + q) s.signal in
    let h = number_half f loop.i loop.invariant (omega (arith, c.requires.1.most)) in
    let d = digit_lt c.letter-b.result in omega (arith, c.from.ensures ∙ from_bool_digit c.letter-b.result)

pub loop-i-preserved : goal.loop-i-preserved
loop-i-preserved c =
    let loop = c.loop-i in
    let s = c.args in
    let f : Values = λ q. letter_of s.recording.now s.lasso.k (s.at + q) s.signal in
    ap₂ (λ x y. x * 2 + y) loop.invariant (c.from.ensures ∙ from_bool_digit c.letter-b.result ∙ ap digit c.letter-b.ensures) ∙ sym (number_more f loop.i)

pub returns : goal.returns
returns c =
    let loop = c.loop-i in
    let s = c.args in
    let f : Values = λ q. letter_of s.recording.now s.lasso.k (s.at + q) s.signal in
    let e : loop.i ≡ s.size = omega arith in loop.invariant ∙ ap (number f) e

-- `check_letters` meets its contract: each way out of it is one way through the definition.
use Prim.Native.Nat.{◌^◌}
use mathlib.Core.Path.{ap, sym, ◌∙◌}
use native.Mathlib.Omega.{arith}
use Rattle.node.specs.Result.{Refused}
use Rattle.recordings.specs.Limits.{signal_bits}
use Rattle.recordings.specs.Letters.{bits_below}
use Rattle.recordings.specs.RecordingLaws.{told_is, filled_long, filled-spare, filled-good}
use Rattle.recordings.proofs.check_letters.Goals as goal

pub overflow_mul-bits : goal.overflow_mul-bits
overflow_mul-bits c =
    record { fits = omega (arith, bits_below (2 ^ signal_bits) c.requires.0 c.requires.1) }

pub overflow_add-bits : goal.overflow_add-bits
overflow_add-bits c =
    record { fits = omega (arith, bits_below (2 ^ signal_bits) c.requires.0 c.requires.1) }

pub overflow_add-bits-2 : goal.overflow_add-bits-2
overflow_add-bits-2 c =
    record { fits = omega (arith, bits_below (2 ^ signal_bits) c.requires.0 c.requires.1) }

pub returns-then-len-bits : goal.returns-then-len-bits
returns-then-len-bits c =
    let if1 = c.if-len-bits in
    ap (Refused 20) (c.told.ensures ∙ told_is _) ∙ sym (filled_long _ _ _ if1.true)

pub overflow_add-bits-3 : goal.overflow_add-bits-3
overflow_add-bits-3 c =
    record { fits = omega (arith, bits_below (2 ^ signal_bits) c.requires.0 c.requires.1) }

pub overflow_mul-len : goal.overflow_mul-len
overflow_mul-len c =
    record { fits = omega (arith, bits_below (2 ^ signal_bits) c.requires.0 c.requires.1, c.if-len-bits.false) }

pub blank-requires : goal.blank-requires
blank-requires c =
    (omega arith, omega (arith, bits_below (2 ^ signal_bits) c.requires.0 c.requires.1, c.if-len-bits.false))

pub overflow_cast-result : goal.overflow_cast-result
overflow_cast-result c =
    let if1 = c.if-len-bits in
    omega (arith, bits_below (2 ^ signal_bits) c.requires.0 c.requires.1, if1.false)

pub returns-then-not-blank : goal.returns-then-not-blank
returns-then-not-blank c =
    let if1 = c.if-len-bits in
    let blank = c.blank in
    sym (filled-spare _ _ _ if1.false blank.ensures c.if-not-blank.true)

pub returns : goal.returns
returns c =
    let if1 = c.if-len-bits in
    let blank = c.blank in
    let if2 = c.if-not-blank in
    sym (filled-good _ _ _ if1.false blank.ensures if2.false)

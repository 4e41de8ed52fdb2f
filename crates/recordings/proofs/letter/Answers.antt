-- `letter` meets its contract: a letter's bit lies among the letters.
use native.Mathlib.Omega.{arith}
use borrow.Author.Tests.{lt-ltb, le-ltb}
use Rattle.recordings.specs.Letters.{LetterIn, letter_in}
use Rattle.recordings.proofs.letter.Goals as goal

here : (c : goal.Then-signal-count) → LetterIn c.args.recording.now c.args.lasso c.args.p c.args.signal
here c = letter_in c.requires.0 c.requires.1 c.if-signal-count.true

pub overflow_mul-p : goal.overflow_mul-p
overflow_mul-p c = let i = here c in record { fits = omega arith }

pub overflow_add-p : goal.overflow_add-p
overflow_add-p c = let i = here c in record { fits = omega arith }

pub overflow_add-p-then-signal-count : goal.overflow_add-p-then-signal-count
overflow_add-p-then-signal-count c = let i = here c in record { fits = omega arith }

pub get_bit-requires : goal.get_bit-requires
get_bit-requires c = (here c).inside

pub returns-then-signal-count : goal.returns-then-signal-count
returns-then-signal-count c = rw (lt-ltb _ _ c.if-signal-count.true) c.get_bit.ensures

pub returns : goal.returns
returns c = rw (le-ltb _ _ c.if-signal-count.false)

-- `check_recording` meets its contract: each way out of it is one way through the definition.
use mathlib.Core.Path.{ap, sym, ◌∙◌}
use Rattle.recordings.specs.Recording.{header_fits}
use Rattle.recordings.specs.RecordingLaws.{readable_short, readable_header, letters_fit, letters_read}
use Rattle.recordings.proofs.check_recording.Goals as goal

pub returns-then-len-lt-HEADER_BYTES : goal.returns-then-len-lt-HEADER_BYTES
returns-then-len-lt-HEADER_BYTES c =
    sym (readable_short _ _ _ c.if-len-lt-HEADER_BYTES.true)

pub returns-then-not-header_fits : goal.returns-then-not-header_fits
returns-then-not-header_fits c =
    let if1 = c.if-len-lt-HEADER_BYTES in
    let header-fits = c.header_fits in
    let read-lasso = c.read_lasso-lasso in
    sym (readable_header _ _ _ if1.false (header-fits.ensures ∙ ap (header_fits _) read-lasso.ensures) c.if-not-header_fits.true)

pub check_letters-requires : goal.check_letters-requires
check_letters-requires c =
    let read-lasso = c.read_lasso-lasso in
    let header-fits = c.header_fits in
    letters_fit _ _ read-lasso.ensures header-fits.ensures c.if-not-header_fits.false

pub returns : goal.returns
returns c =
    let read-lasso = c.read_lasso-lasso in
    let if1 = c.if-len-lt-HEADER_BYTES in
    let header-fits = c.header_fits in
    let if2 = c.if-not-header_fits in
    c.check_letters.ensures ∙ letters_read _ _ read-lasso.ensures if1.false header-fits.ensures if2.false

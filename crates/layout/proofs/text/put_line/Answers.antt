-- `put_line` meets its contract: the name and the sign, or nothing.
use native.Mathlib.Omega.{arith}
use Rattle.signal_names.specs.Runs.{puts_length}
use Rattle.signal_names.specs.Promise.{slot}
use Rattle.layout.specs.TextLaws.{name-within, listed-length, line-length, put-no-line, put-line-is}
use Rattle.layout.proofs.text.put_line.Goals as goal

pub returns-then-flag_of-flag : goal.returns-then-flag_of-flag
returns-then-flag_of-flag c =
    put-no-line (slot c.args.names.now c.args.sizes.now) c.args.flag c.args.k c.args.entry c.flag_of.ensures c.if-flag_of-flag.true

pub put_bytes-end-requires : goal.put_bytes-end-requires
put_bytes-end-requires c =
    let n = line-length (slot c.args.names.now c.args.sizes.now) c.args.flag c.args.k c.args.entry c.flag_of.ensures c.if-flag_of-flag.false in
    (name-within c.requires.0, omega (arith, n, listed-length c.requires.0, c.requires.1))

pub put_all-requires : goal.put_all-requires
put_all-requires c =
    let n = line-length (slot c.args.names.now c.args.sizes.now) c.args.flag c.args.k c.args.entry c.flag_of.ensures c.if-flag_of-flag.false in
    omega (arith, n, listed-length c.requires.0, c.requires.1, c.put_bytes-end.ensures.next, puts_length c.put_bytes-end.ensures)

pub returns : goal.returns
returns c =
    put-line-is (slot c.args.names.now c.args.sizes.now) c.args.flag c.args.k c.args.entry c.flag_of.ensures c.if-flag_of-flag.false
    c.put_bytes-end.ensures c.put_all.ensures

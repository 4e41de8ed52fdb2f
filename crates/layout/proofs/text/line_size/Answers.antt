-- `line_size` meets its contract.
use mathlib.Core.Path.{sym}
use native.Mathlib.Omega.{arith}
use Rattle.layout.specs.TextLaws.{size-not, size_is}
use Rattle.layout.proofs.text.line_size.Goals as goal

pub returns-then-flag_of-flag : goal.returns-then-flag_of-flag
returns-then-flag_of-flag c =
    (sym (size-not c.args.flag c.args.entry c.args.size c.flag_of.ensures c.if-flag_of-flag.true), omega arith)

pub returns : goal.returns
returns c =
    (sym (size_is c.args.flag c.args.entry c.args.size c.flag_of.ensures c.if-flag_of-flag.false), omega arith)

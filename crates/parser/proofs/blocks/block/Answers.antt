-- `block` meets its contract: no brace, or lines behind it.
use Rattle.parser.proofs.Laws.Blocks.{block_refused, block_read}
use Rattle.parser.proofs.Laws.Passing.{inside}
use mathlib.Core.Path.{sym, ◌∙◌}
use native.Mathlib.Omega.{arith}
use Rattle.parser.proofs.blocks.block.Goals as goal

pub returns-then-number-ne-OPEN_BRACE : goal.returns-then-number-ne-OPEN_BRACE
returns-then-number-ne-OPEN_BRACE c =
    λ ts ready. block_refused c.args.which ready (λ e. c.if-number-ne-OPEN_BRACE.true (c.number.ensures ∙ e)) c.refuse.ensures

pub lines-requires : goal.lines-requires
lines-requires c = (
  c.requires,
  inside c.requires.ready (sym c.number.ensures ∙ c.if-number-ne-OPEN_BRACE.false)
      (omega arith),
)

pub returns : goal.returns
returns c =
    λ ts ready. block_read c.args.which ready (sym c.number.ensures ∙ c.if-number-ne-OPEN_BRACE.false) (c.lines.ensures ts ready)

-- `heading` meets its contract: the table's law, and that no word lies outside the table.
use Prim.Native.Nat.{◌-◌}
use Rattle.lexer.specs.Numbers.{fixed}
use Rattle.parser.proofs.Laws.HeadingRows.{heading_out, heading_in}
use Rattle.parser.specs.Headings.{heading_number}
use mathlib.Core.Path.{ap, ◌∙◌}
use native.Mathlib.Omega.{arith}
use Rattle.parser.proofs.subsections.heading.Goals as goal

pub returns-then-number-lt-INPUTS : goal.returns-then-number-lt-INPUTS
returns-then-number-lt-INPUTS c =
    heading_out c.args.number (λ n l h e. omega (arith, c.if-number-lt-INPUTS.true))

pub returns-then-i-lt11 : goal.returns-then-i-lt11
returns-then-i-lt11 c =
    heading_in (c.args.number - fixed "INPUTS") c.if-i-lt11.true ∙ ap heading_number (omega (arith, c.if-number-lt-INPUTS.false))

pub returns-else-i-lt11 : goal.returns-else-i-lt11
returns-else-i-lt11 c =
    heading_out c.args.number (λ n l h e. omega (arith, c.if-number-lt-INPUTS.false, c.if-i-lt11.false))

use Rattle.lexer.proofs.SizeLaws.{in_line, line-run}
use Rattle.std.proofs.Common.{rules, drop}
use mathlib.Core.Path.{◌∙◌}
use Rattle.lexer.proofs.sizes.line_size.Goals as goal

pub returns : goal.returns
returns c = let h = c.leading in c.leading.ensures in_line (λ b r l p. search rules) ∙ line-run (drop c.args.at c.args.text.now)

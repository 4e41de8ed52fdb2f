-- `lexer::sizes::quoted_size` meets its contract: the bytes before the next quote, if there is one.
use Rattle.std.proofs.Common.{rules, arith, drop}
use lib.ListN.{length-drop}
use mathlib.Core.Path.{◌≡◌}
use Rattle.language.specs.Tokens.{run}
use Rattle.lexer.proofs.SizeLaws.{in_string, quoted_run, quoted_open}
use Rattle.lexer.proofs.sizes.quoted_size.Goals as goal

pub returns-then-n-text : goal.returns-then-n-text
returns-then-n-text c =
    let n : c.leading-n.result ≡ run in_string (drop c.args.from c.args.text.now) = c.leading-n.ensures in_string (λ b r l p. search rules) in
    let size = length-drop c.args.from c.args.text.now in
    let q = quoted_run 1 (drop c.args.from c.args.text.now) (omega (arith, n, size, c.if-n-text.true)) in
    omega (arith, n, q)

pub returns-else-n-text : goal.returns-else-n-text
returns-else-n-text c =
    let n : c.leading-n.result ≡ run in_string (drop c.args.from c.args.text.now) = c.leading-n.ensures in_string (λ b r l p. search rules) in
    let size = length-drop c.args.from c.args.text.now in
    quoted_open 1 (drop c.args.from c.args.text.now) (omega (arith, n, size, c.if-n-text.false))

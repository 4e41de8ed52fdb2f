-- `expressions::roles::member` meets its contract: a name is not the text's end, so there is a token to look at behind it.
use native.Mathlib.Omega.{arith}
use mathlib.Core.Path.{sym, ap, ◌∙◌}
use borrow.Author.Tests.{eq-eqb, ne_eqb}
use mathlib.Core.Bool.{◌&&◌}
use Rattle.entries.specs.Cursors.{number_at, next_of}
use Rattle.entries.specs.CursorLaws.{before-end}
use Rattle.expressions.specs.Binders.{among_at}
use Rattle.expressions.proofs.roles.member.Goals as goal

pub next-requires : goal.next-requires
next-requires c =
    let i = before-end c.args.work.now c.args.c (omega (arith, c.number.ensures)) in omega (arith, c.requires.few)

pub number-requires-then-number-eq-NAME : goal.number-requires-then-number-eq-NAME
number-requires-then-number-eq-NAME c =
    let i = before-end c.args.work.now c.args.c (omega (arith, c.number.ensures)) in let f = c.requires in
    rw c.next.ensures (record { room = f.room; few = f.few; short = f.short; inside = omega arith })

pub returns-then-number-eq-NAME : goal.returns-then-number-eq-NAME
returns-then-number-eq-NAME c =
    let k = number_at c.args.work.now c.args.c in
    c.among.ensures ∙ ap among_at (c.number-then-number-eq-NAME.ensures ∙ ap (number_at c.args.work.now) c.next.ensures) ∙ ap
    (λ b. b && among_at (number_at c.args.work.now (next_of c.args.c))) (sym (eq-eqb k 1 (sym c.number.ensures ∙ c.if-number-eq-NAME.true)))

pub returns : goal.returns
returns c =
    let k = number_at c.args.work.now c.args.c in
    ap (λ b. b && among_at (number_at c.args.work.now (next_of c.args.c))) (sym (ne_eqb k 1 (λ e. c.if-number-eq-NAME.false (c.number.ensures ∙ e))))

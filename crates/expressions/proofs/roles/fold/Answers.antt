-- `expressions::roles::fold` meets its contract: a bracket, then the first name.
use native.Mathlib.Omega.{arith}
use mathlib.Core.Path.{sym, ap, ◌∙◌}
use lib.Dec.{lit<}
use Rattle.lexer.specs.Numbers.{fixed}
use Rattle.entries.specs.Cursors.{next_of, expected}
use Rattle.expressions.specs.BinderStates.{expected-parsed, expected-refused, fold_inside, fold_fits, turn_unopened, fold-names, turn-fold}
use Rattle.expressions.proofs.roles.fold.Goals as goal

pub next-requires : goal.next-requires
next-requires c =
    let i = fold_inside c.requires.0.state c.requires.1 c.requires.2 in omega (arith, c.requires.0.state.stacked.ready.fits.few)

pub expect-r-requires : goal.expect-r-requires
expect-r-requires c =
    rw c.next.ensures (fold_fits c.requires.0.state c.requires.1 c.requires.2, lit< tt)

pub returns-in_default : goal.returns-in_default
returns-in_default c =
    λ ts s x h. let r = expected-refused c.args.work.now (next_of c.args.m.c) (fixed "[") _ _
    (ap (λ d. expected c.args.work.now d (fixed "[")) (sym c.next.ensures) ∙ sym c.expect-r.ensures ∙ c.in_default.is) in
    rw (c.in_default.is ∙ r.1) (turn_unopened h c.requires.1 c.requires.2 r.0)

pub binder-requires : goal.binder-requires
binder-requires c =
    let r = (expected-parsed c.args.work.now (next_of c.args.m.c) c.in-Ok.d (fixed "[")
    (ap (λ d. expected c.args.work.now d (fixed "[")) (sym c.next.ensures) ∙ sym c.expect-r.ensures ∙ c.in-Ok.is)) in
    rw r.1 (record {
      tokens = c.requires.0.tokens;
      start = c.requires.0.start;
      answer = c.requires.0.answer;
      state = fold-names c.requires.0.state c.requires.1
          c.requires.2 r.0;
    })

pub returns : goal.returns
returns c =
    λ ts s x h. let r = (expected-parsed c.args.work.now (next_of c.args.m.c) c.in-Ok.d (fixed "[")
    (ap (λ d. expected c.args.work.now d (fixed "[")) (sym c.next.ensures) ∙ sym c.expect-r.ensures ∙ c.in-Ok.is)) in
    turn-fold h c.requires.1 c.requires.2 r.0 (rw r.1 at (c.binder.ensures ts s x (rw r.1 (fold-names h c.requires.1 c.requires.2 r.0))))

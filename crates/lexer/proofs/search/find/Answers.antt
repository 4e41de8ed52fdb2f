use mathlib.Core.Path.{sym, subst}
use Rattle.lexer.specs.Tables.{NextWith}
use Rattle.lexer.proofs.SearchLaws.{finding-start, finding-stop, finding-on, finding-end}
use native.Mathlib.Omega.{arith}
use Rattle.lexer.proofs.search.find.Goals as goal

pub loop-k-init : goal.loop-k-init
loop-k-init c = finding-start _ _ _ c.requires.inside _ c.requires.leads

pub fits-requires : goal.fits-requires
fits-requires c =
    record { inside = let h = c.requires.inside in omega arith; known = c.loop-k-test.true; rows = c.requires.rows }

pub returns-then-fits : goal.returns-then-fits
returns-then-fits c =
    let loop = c.loop-k in
    let loop-test = c.loop-k-test in
    let fits2 = c.fits in
    finding-stop _ _ _ c.requires.inside _ loop.invariant loop-test.true _ c.if-fits.true fits2.ensures

pub overflow_mul-k : goal.overflow_mul-k
overflow_mul-k c =
    let loop-test = c.loop-k-test in
    omega (arith, loop-test.true)

pub overflow_add-k : goal.overflow_add-k
overflow_add-k c =
    let loop-test = c.loop-k-test in
    omega (arith, loop-test.true)

pub bounds-rows-k : goal.bounds-rows-k
bounds-rows-k c =
    let loop-test = c.loop-k-test in
    omega (arith, loop-test.true)

pub loop-k-smaller : goal.loop-k-smaller
loop-k-smaller c =
    let loop-test = c.loop-k-test in
    let loop = c.loop-k in
    let n = c.requires.rows.next _ _ loop-test.true (loop.invariant.begun loop-test.true) in omega (arith, n.onward, n.fits, c.from-k.ensures)

pub loop-k-preserved : goal.loop-k-preserved
loop-k-preserved c =
    let loop = c.loop-k in
    let loop-test = c.loop-k-test in
    let if1 = c.if-fits in
    let fits2 = c.fits in
    finding-on _ _ _ c.requires.inside _ loop.invariant _ loop-test.true _ if1.false fits2.ensures
    (subst (NextWith _ _) (sym c.from-k.ensures) (c.requires.rows.next _ _ loop-test.true (loop.invariant.begun loop-test.true)))

pub returns : goal.returns
returns c =
    let loop = c.loop-k in
    finding-end _ _ _ c.requires.inside _ loop.invariant c.loop-k-test.false

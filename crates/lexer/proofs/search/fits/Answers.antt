use Prim.Native.Nat.{◌<◌}
use mathlib.Core.Path.{sym, ◌∙◌, subst}
use Rattle.lexer.specs.Spelling.{entry}
use Rattle.lexer.proofs.SearchLaws.{fit_size, fit_short, comparing-start, comparing-on, comparing-off, comparing-end}
use native.Mathlib.Omega.{arith}
use Rattle.lexer.proofs.search.fits.Goals as goal

pub overflow_mul-row : goal.overflow_mul-row
overflow_mul-row c = omega (arith, c.requires.known)

pub bounds-rows-row : goal.bounds-rows-row
bounds-rows-row c = omega (arith, c.requires.known)

pub returns-then-not-sized : goal.returns-then-not-sized
returns-then-not-sized c =
    let from = c.from-n in
    let sized = c.sized in
    let long = from.ensures ∙ c.requires.rows.size _ c.requires.known in
    fit_size (entry c.args.k) c.args.text.now c.args.at _ _ long (sym sized.ensures ∙ c.if-not-sized.true)

pub overflow_sub-text : goal.overflow_sub-text
overflow_sub-text c =
    c.requires.inside

pub returns-then-text-at : goal.returns-then-text-at
returns-then-text-at c =
    let from = c.from-n in
    let sized = c.sized in
    let if1 = c.if-not-sized in
    let long = from.ensures ∙ c.requires.rows.size _ c.requires.known in
    fit_short (entry c.args.k) c.args.text.now c.args.at _ _ long (sym sized.ensures ∙ if1.false) c.if-text-at.true

pub loop-j-init : goal.loop-j-init
loop-j-init c =
    let from = c.from-n in
    let long = from.ensures ∙ c.requires.rows.size _ c.requires.known in
    comparing-start (entry c.args.k) _ _ _ 0 long c.requires.inside c.if-text-at.false

pub overflow_add-at : goal.overflow_add-at
overflow_add-at c =
    let from = c.from-n in
    let loop = c.loop-j in
    let long = from.ensures ∙ c.requires.rows.size _ c.requires.known in
    omega (arith, loop.invariant.room)

pub bounds-text-at : goal.bounds-text-at
bounds-text-at c =
    let from = c.from-n in
    let loop = c.loop-j in
    let long = from.ensures ∙ c.requires.rows.size _ c.requires.known in
    omega (arith, loop.invariant.room)

pub overflow_add-row : goal.overflow_add-row
overflow_add-row c =
    omega (arith, c.requires.known)

pub overflow_add-row-in-loop-j : goal.overflow_add-row-in-loop-j
overflow_add-row-in-loop-j c =
    let from = c.from-n in
    let long = from.ensures ∙ c.requires.rows.size _ c.requires.known in
    omega (arith, c.requires.known, c.requires.rows.short _ c.requires.known)

pub bounds-rows-row-in-loop-j : goal.bounds-rows-row-in-loop-j
bounds-rows-row-in-loop-j c =
    let from = c.from-n in
    let long = from.ensures ∙ c.requires.rows.size _ c.requires.known in
    omega (arith, c.requires.known, c.requires.rows.short _ c.requires.known)

pub returns-then-text-at-2 : goal.returns-then-text-at-2
returns-then-text-at-2 c =
    let from = c.from-n in
    let loop = c.loop-j in
    let sized = c.sized in
    let if1 = c.if-not-sized in
    let loop-test = c.loop-j-test in
    let long = from.ensures ∙ c.requires.rows.size _ c.requires.known in
    comparing-off _ _ _ _ c.args.size long _ loop.invariant (sym sized.ensures ∙ if1.false) loop-test.true
    (λ f. c.if-text-at-2.true (f ∙ sym (c.requires.rows.byte _ _ c.requires.known (subst (λ m. loop.j < m) long loop-test.true))))

pub loop-j-preserved : goal.loop-j-preserved
loop-j-preserved c =
    let from = c.from-n in
    let loop = c.loop-j in
    let loop-test = c.loop-j-test in
    let long = from.ensures ∙ c.requires.rows.size _ c.requires.known in
    comparing-on _ _ _ _ 0 long _ loop.invariant loop-test.true (c.if-text-at-2.false ∙ c.requires.rows.byte _ _ c.requires.known (subst (λ m. loop.j < m) long loop-test.true))

pub returns : goal.returns
returns c =
    let from = c.from-n in
    let loop = c.loop-j in
    let sized = c.sized in
    let if1 = c.if-not-sized in
    let long = from.ensures ∙ c.requires.rows.size _ c.requires.known in
    comparing-end _ _ _ _ c.args.size long _ loop.invariant (sym sized.ensures ∙ if1.false) c.loop-j-test.false

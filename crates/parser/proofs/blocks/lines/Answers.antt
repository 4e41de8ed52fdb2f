use Rattle.node.proofs.ReturnedLaws.{raised}
use Rattle.parser.proofs.Laws.Blocks.{behind-ready, lines_start, lines-close, lines-stop, lines-tail, line-further, lines-again}
use Rattle.parser.proofs.Laws.Loops.{listing_readied}
use Rattle.parser.proofs.Laws.Passing.{next_of_lem, next_fits, inside}
use Rattle.parser.proofs.Laws.Rows.{accepted}
use mathlib.Core.Path.{sym, ◌∙◌}
use native.Mathlib.Omega.{arith}
use Rattle.parser.proofs.blocks.lines.Goals as goal

pub loop-which-init : goal.loop-which-init
loop-which-init c =
    (c.requires.1, λ ts ready. lines_start c.args.which ready c.requires.1)

pub next-e-requires : goal.next-e-requires
next-e-requires c =
    let z = c.requires.0 in let h = c.loop-which.invariant.1 z.tokens z.ready in omega (arith, c.loop-which.invariant.0, h.going.took.ready.fits.few)

pub number-requires : goal.number-requires
number-requires c =
    let z = c.requires.0 in let h = c.loop-which.invariant.1 z.tokens z.ready in
    (behind-ready c.args.which h c.loop-which.invariant.0 (next_of_lem c.next-e.ensures)).fits

pub next-requires : goal.next-requires
next-requires c =
    let z = c.requires.0 in let h = c.loop-which.invariant.1 z.tokens z.ready in
    next_fits (behind-ready c.args.which h c.loop-which.invariant.0 (next_of_lem c.next-e.ensures)) (sym c.number.ensures ∙ c.if-number-eq-CLOSE_BRACE.true) (omega arith)

pub shape_of-work-then-number-eq-CLOSE_BRACE : goal.shape_of-work-then-number-eq-CLOSE_BRACE
shape_of-work-then-number-eq-CLOSE_BRACE c =
    let z = c.requires.0 in let h = c.loop-which.invariant.1 z.tokens z.ready in h.going.kept.len

pub returns-then-number-eq-CLOSE_BRACE : goal.returns-then-number-eq-CLOSE_BRACE
returns-then-number-eq-CLOSE_BRACE c =
    λ ts ready. let h = c.loop-which.invariant.1 ts ready in lines-close c.args.which h c.loop-which.invariant.0 (next_of_lem c.next-e.ensures) (sym c.number.ensures ∙ c.if-number-eq-CLOSE_BRACE.true) (next_of_lem c.next.ensures)

pub line-requires : goal.line-requires
line-requires c =
    let z = c.requires.0 in let h = c.loop-which.invariant.1 z.tokens z.ready in
    (listing_readied z h, c.loop-which.invariant.0)

pub shape_of-work-in_err-f : goal.shape_of-work-in_err-f
shape_of-work-in_err-f c =
    let z = c.requires.0 in
    let h = c.loop-which.invariant.1 z.tokens z.ready in
    (c.line.ensures z.tokens h.going.took.ready).kept.len ∙ h.going.kept.len

pub returns-in_err-f : goal.returns-in_err-f
returns-in_err-f c =
    rw (raised c.from_residual.ensures ∙ sym c.in_err-f.was)
    (λ ts ready. let h = c.loop-which.invariant.1 ts ready in lines-stop c.args.which h c.loop-which.invariant.0 (next_of_lem c.next-e.ensures)
    (λ e. c.if-number-eq-CLOSE_BRACE.false (c.number.ensures ∙ e)) (c.line.ensures ts h.going.took.ready) c.in_err-f.was)

pub number-requires-in-loop-which : goal.number-requires-in-loop-which
number-requires-in-loop-which c =
    let z = c.requires.0 in
    let h = c.loop-which.invariant.1 z.tokens z.ready in
    (accepted c.in_ok-f.was (c.line.ensures z.tokens h.going.took.ready)).took.ready.fits

pub expect-requires : goal.expect-requires
expect-requires c =
    let z = c.requires.0 in
    let h = c.loop-which.invariant.1 z.tokens z.ready in (
      (accepted c.in_ok-f.was
          (c.line.ensures z.tokens h.going.took.ready)).took.ready.fits,
      omega arith,
    )

pub shape_of-work-then-number-ne-SEMICOLON : goal.shape_of-work-then-number-ne-SEMICOLON
shape_of-work-then-number-ne-SEMICOLON c =
    let z = c.requires.0 in
    let h = c.loop-which.invariant.1 z.tokens z.ready in
    (c.line.ensures z.tokens h.going.took.ready).kept.len ∙ h.going.kept.len

pub returns-then-number-ne-SEMICOLON : goal.returns-then-number-ne-SEMICOLON
returns-then-number-ne-SEMICOLON c =
    λ ts ready. let h = c.loop-which.invariant.1 ts ready in lines-tail c.args.which h c.loop-which.invariant.0 (next_of_lem c.next-e.ensures)
    (λ e. c.if-number-eq-CLOSE_BRACE.false (c.number.ensures ∙ e)) (c.line.ensures ts h.going.took.ready) c.in_ok-f.was
    (λ e. c.if-number-ne-SEMICOLON.true (c.number-in-loop-which.ensures ∙ e)) c.expect.ensures

pub loop-which-smaller : goal.loop-which-smaller
loop-which-smaller c =
    let z = c.requires.0 in
    let h = c.loop-which.invariant.1 z.tokens z.ready in
    let t = (accepted c.in_ok-f.was
    (c.line.ensures z.tokens h.going.took.ready)).took in
    omega (
      arith,
      line-further c.args.which h
          c.loop-which.invariant.0
          (next_of_lem c.next-e.ensures)
          (λ e. c.if-number-eq-CLOSE_BRACE.false
          (c.number.ensures ∙ e))
          (c.line.ensures z.tokens h.going.took.ready) c.in_ok-f.was,
      t.onward.count,
      t.ready.fits.inside,
    )

pub loop-which-preserved : goal.loop-which-preserved
loop-which-preserved c = (
  let z = c.requires.0 in
      let h = c.loop-which.invariant.1 z.tokens z.ready in
      inside (accepted c.in_ok-f.was
      (c.line.ensures z.tokens h.going.took.ready)).took.ready (sym c.number-in-loop-which.ensures ∙ c.if-number-ne-SEMICOLON.false)
      (omega arith),
  λ ts ready. let h = c.loop-which.invariant.1 ts ready in
      lines-again c.args.which h
      c.loop-which.invariant.0
      (next_of_lem c.next-e.ensures)
      (λ e. c.if-number-eq-CLOSE_BRACE.false
      (c.number.ensures ∙ e))
      (c.line.ensures ts h.going.took.ready) c.in_ok-f.was
      (sym c.number-in-loop-which.ensures ∙ c.if-number-ne-SEMICOLON.false),
)

use Rattle.node.proofs.ReturnedLaws.{raised}
use Rattle.parser.proofs.Laws.Rows.{accepted}
use Rattle.parser.proofs.Laws.SubsectionLoop.{no_marks_lem, below_none, standing_start, word_none, row, row-code, word-inside, word-seen, subsections-stop, subsection-further, subsections-again, subsections_end}
use Rattle.parser.proofs.Laws.SubsectionReads.{marked_none, marked_some}
use Rattle.parser.specs.Headings.{heading_number}
use lib.ListN.{length-set}
use mathlib.Core.Path.{refl, ap, ◌∙◌, sym}
use native.Mathlib.Omega.{arith}
use Rattle.parser.proofs.subsections.subsections.Goals as goal

pub loop-work-init : goal.loop-work-init
loop-work-init c =
    (refl, λ ts ready. standing_start ready no_marks_lem)

pub number-requires : goal.number-requires
number-requires c =
    let z = c.requires in let h = c.loop-work.invariant.1 z.tokens z.ready in h.going.took.ready.fits

pub ending-requires : goal.ending-requires
ending-requires c =
    let z = c.requires in let h = c.loop-work.invariant.1 z.tokens z.ready in
    record { tokens = z.tokens; ready = h.going.took.ready }

pub shape_of-work-then-n-eq-NO_HEADING : goal.shape_of-work-then-n-eq-NO_HEADING
shape_of-work-then-n-eq-NO_HEADING c =
    let z = c.requires in let h = c.loop-work.invariant.1 z.tokens z.ready in
    h.going.kept.len

pub returns-then-n-eq-NO_HEADING : goal.returns-then-n-eq-NO_HEADING
returns-then-n-eq-NO_HEADING c =
    λ ts ready. let h = c.loop-work.invariant.1 ts ready in subsections_end h (word_none h (c.heading-n.ensures ∙ ap heading_number c.number.ensures) c.if-n-eq-NO_HEADING.true) (c.ending.ensures ts h.going.took.ready)

pub bounds-before-n : goal.bounds-before-n
bounds-before-n c =
    (below_none _ c.heading-n.ensures c.if-n-eq-NO_HEADING.false)

pub ending-requires-then-before-n-ne0 : goal.ending-requires-then-before-n-ne0
ending-requires-then-before-n-ne0 c =
    let z = c.requires in let h = c.loop-work.invariant.1 z.tokens z.ready in
    record { tokens = z.tokens; ready = h.going.took.ready }

pub shape_of-work-then-before-n-ne0 : goal.shape_of-work-then-before-n-ne0
shape_of-work-then-before-n-ne0 c =
    let z = c.requires in
    let h = c.loop-work.invariant.1 z.tokens z.ready in h.going.kept.len

pub returns-then-before-n-ne0 : goal.returns-then-before-n-ne0
returns-then-before-n-ne0 c =
    λ ts ready. let h = c.loop-work.invariant.1 ts ready in subsections_end h (word-seen h (c.heading-n.ensures ∙ ap heading_number c.number.ensures)
    (below_none _ c.heading-n.ensures c.if-n-eq-NO_HEADING.false) (marked_some _ c.if-before-n-ne0.true)) (c.ending-then-before-n-ne0.ensures ts h.going.took.ready)

pub subsection-requires : goal.subsection-requires
subsection-requires c =
    let z = c.requires in let h = c.loop-work.invariant.1 z.tokens z.ready in (
      record { tokens = z.tokens; ready = h.going.took.ready },
      word-inside h
          (c.heading-n.ensures ∙ ap heading_number c.number.ensures)
          (below_none _ c.heading-n.ensures c.if-n-eq-NO_HEADING.false),
      (below_none _ c.heading-n.ensures c.if-n-eq-NO_HEADING.false),
    )

pub shape_of-work-in_err-e : goal.shape_of-work-in_err-e
shape_of-work-in_err-e c =
    let z = c.requires in
    let h = c.loop-work.invariant.1 z.tokens z.ready in
    (c.subsection.ensures (row h (c.heading-n.ensures ∙ ap heading_number c.number.ensures) (below_none _ c.heading-n.ensures c.if-n-eq-NO_HEADING.false)).row.heading
    (row-code h (c.heading-n.ensures ∙ ap heading_number c.number.ensures) (below_none _ c.heading-n.ensures c.if-n-eq-NO_HEADING.false)) z.tokens h.going.took.ready).kept.len
    ∙ h.going.kept.len

pub returns-in_err-e : goal.returns-in_err-e
returns-in_err-e c =
    rw (raised c.from_residual.ensures ∙ sym c.in_err-e.was)
    (λ ts ready. let h = c.loop-work.invariant.1 ts ready in subsections-stop h (c.heading-n.ensures ∙ ap heading_number c.number.ensures)
    (below_none _ c.heading-n.ensures c.if-n-eq-NO_HEADING.false) (marked_none _ c.if-before-n-ne0.false)
    (c.subsection.ensures (row h (c.heading-n.ensures ∙ ap heading_number c.number.ensures) (below_none _ c.heading-n.ensures c.if-n-eq-NO_HEADING.false)).row.heading
    (row-code h (c.heading-n.ensures ∙ ap heading_number c.number.ensures) (below_none _ c.heading-n.ensures c.if-n-eq-NO_HEADING.false)) ts h.going.took.ready) c.in_err-e.was)

pub bounds-before-n-in-loop-work : goal.bounds-before-n-in-loop-work
bounds-before-n-in-loop-work c =
    (below_none _ c.heading-n.ensures c.if-n-eq-NO_HEADING.false)

pub loop-work-smaller : goal.loop-work-smaller
loop-work-smaller c =
    let z = c.requires in
    let h = c.loop-work.invariant.1 z.tokens z.ready in
    let t = (accepted c.in_ok-e.was (c.subsection.ensures
    (row h (c.heading-n.ensures ∙ ap heading_number
    c.number.ensures)
    (below_none _ c.heading-n.ensures
    c.if-n-eq-NO_HEADING.false)).row.heading
    (row-code h (c.heading-n.ensures ∙ ap heading_number
    c.number.ensures)
    (below_none _ c.heading-n.ensures
    c.if-n-eq-NO_HEADING.false)) z.tokens h.going.took.ready)).took in
    omega (
      arith,
      subsection-further h (c.heading-n.ensures ∙ ap heading_number
          c.number.ensures)
          (below_none _ c.heading-n.ensures
          c.if-n-eq-NO_HEADING.false) (marked_none _ c.if-before-n-ne0.false)
          (c.subsection.ensures
          (row h (c.heading-n.ensures ∙ ap heading_number
          c.number.ensures)
          (below_none _ c.heading-n.ensures
          c.if-n-eq-NO_HEADING.false)).row.heading
          (row-code h (c.heading-n.ensures ∙ ap heading_number
          c.number.ensures)
          (below_none _ c.heading-n.ensures
          c.if-n-eq-NO_HEADING.false)) z.tokens h.going.took.ready) c.in_ok-e.was,
      t.onward.count,
      t.ready.fits.inside,
    )

pub loop-work-preserved : goal.loop-work-preserved
loop-work-preserved c = (
  simp length-set c.loop-work.invariant.0,
  λ ts ready. let h =
      c.loop-work.invariant.1 ts ready in
      subsections-again h (c.heading-n.ensures ∙ ap heading_number
      c.number.ensures)
      (below_none _ c.heading-n.ensures
      c.if-n-eq-NO_HEADING.false) (marked_none _ c.if-before-n-ne0.false)
      (c.subsection.ensures
      (row h (c.heading-n.ensures ∙ ap heading_number
      c.number.ensures)
      (below_none _ c.heading-n.ensures
      c.if-n-eq-NO_HEADING.false)).row.heading
      (row-code h (c.heading-n.ensures ∙ ap heading_number
      c.number.ensures)
      (below_none _ c.heading-n.ensures
      c.if-n-eq-NO_HEADING.false)) ts h.going.took.ready)
      (omega (
        arith,
        (below_none _ c.heading-n.ensures
            c.if-n-eq-NO_HEADING.false),
        c.loop-work.invariant.0,
      )) c.in_ok-e.was,
)

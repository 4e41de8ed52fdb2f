-- `write_out` meets its contract: what the rewriter has answered and left, and the list copied where it accepts.
use mathlib.Core.Path.{refl, sym}
use native.Mathlib.Omega.{arith}
use lib.Seq.{length-take-le}
use Rattle.node.proofs.ReturnedLaws.{raised}
use Rattle.converter.specs.WritingOutLaws.{out_refused, list-fits, out-accepted}
use Rattle.converter.proofs.write_out.Goals as goal

pub slice_bounds-rewrite-end-2 : goal.slice_bounds-rewrite-end-2
slice_bounds-rewrite-end-2 c =
    sym (length-take-le _ _ c.room-end.ensures.inside)

pub returns-in_err-rewritten : goal.returns-in_err-rewritten
returns-in_err-rewritten c =
    let a = c.args in
    rw (raised c.from_residual.ensures)
    (out_refused a.form a.table.now a.list.now a.nodes.now a.signals.now c.room-end.ensures c.rewrite.ensures refl c.in_err-rewritten.was)

pub copy_words-requires : goal.copy_words-requires
copy_words-requires c =
    let a = c.args in (
      omega arith,
      list-fits a.form a.table.now a.list.now a.nodes.now a.signals.now c.room-end.ensures
          c.rewrite.ensures refl c.in_ok-rewritten.was,
    )

pub returns : goal.returns
returns c =
    let a = c.args in
    out-accepted a.form a.table.now a.list.now a.nodes.now a.signals.now c.room-end.ensures c.rewrite.ensures refl c.in_ok-rewritten.was
    c.copy_words.ensures

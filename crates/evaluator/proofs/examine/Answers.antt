-- `examine` meets its contract: each way out of it is one way through the definition.
use mathlib.Core.Path.{ap, sym, ◌∙◌}
use native.Mathlib.Omega.{arith}
use Rattle.node.specs.Answer.{says}
use Rattle.node.proofs.ReturnedLaws.{raised}
use Rattle.evaluator.proofs.EvaluationLaws.{many_signals, bad-table, bad_recording, missing-signals, short_rows, accepts, sized}
use Rattle.evaluator.proofs.examine.Goals as goal

pub returns-then-signals-gt-MAX_SIGNALS : goal.returns-then-signals-gt-MAX_SIGNALS
returns-then-signals-gt-MAX_SIGNALS c =
    sym (many_signals _ _ _ _ c.if-signals-gt-MAX_SIGNALS.true)

pub returns-in_err-count : goal.returns-in_err-count
returns-in_err-count c =
    let if1 = c.if-signals-gt-MAX_SIGNALS in
    let e = ap says c.in_err-count.was in
    ap says (raised c.from_residual.ensures) ∙ sym (bad-table _ _ _ _ if1.false (sym c.check_table.ensures ∙ e))

pub returns-in_err-n : goal.returns-in_err-n
returns-in_err-n c =
    let few = c.if-signals-gt-MAX_SIGNALS.false in
    let t = sym c.check_table.ensures ∙ ap says c.in_ok-count.was in
    let e = ap says c.in_err-n.was in
    ap says (raised c.from_residual-in_err-n.ensures) ∙ sym (bad_recording _ _ _ _ few t (sym c.check_recording.ensures ∙ e))

pub returns-then-k-signals : goal.returns-then-k-signals
returns-then-k-signals c =
    let if1 = c.if-signals-gt-MAX_SIGNALS in
    let few = if1.false in
    let t = sym c.check_table.ensures ∙ ap says c.in_ok-count.was in
    let r = sym c.check_recording.ensures ∙ ap says c.in_ok-n.was in
    sym (missing-signals _ _ _ _ few t r c.if-k-signals.true)

pub overflow_mul-w : goal.overflow_mul-w
overflow_mul-w c =
    let t = sym c.check_table.ensures ∙ ap says c.in_ok-count.was in
    let r = sym c.check_recording.ensures ∙ ap says c.in_ok-n.was in
    let z = sized _ _ _ t r in record { fits = omega arith }

pub returns-then-room-w : goal.returns-then-room-w
returns-then-room-w c =
    let if1 = c.if-signals-gt-MAX_SIGNALS in
    let few = if1.false in
    let t = sym c.check_table.ensures ∙ ap says c.in_ok-count.was in
    let r = sym c.check_recording.ensures ∙ ap says c.in_ok-n.was in
    let z = sized _ _ _ t r in
    sym (short_rows _ _ _ _ few t r c.if-k-signals.false (omega (arith, c.if-room-w.true)))

pub returns : goal.returns
returns c =
    let if1 = c.if-signals-gt-MAX_SIGNALS in
    let few = if1.false in
    let t = sym c.check_table.ensures ∙ ap says c.in_ok-count.was in
    let r = sym c.check_recording.ensures ∙ ap says c.in_ok-n.was in
    let z = sized _ _ _ t r in
    sym (accepts _ _ _ _ few t r c.if-k-signals.false (omega (arith, c.if-room-w.false)))

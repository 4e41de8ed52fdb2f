-- `span_value` meets its contract: kind by kind.
use mathlib.Core.Path.{◌≡◌}
use native.Mathlib.Omega.{arith}
use Rattle.node.specs.Ltl.{X}
use Rattle.node.specs.Kinds.{unary_kind}
use Rattle.bits.specs.SpanLaws.{span_true, span_false, span-number}
use Rattle.recordings.specs.Recording.{letter_of}
use Rattle.rows.specs.Ready.{Inside}
use Rattle.rows.specs.PlainLaws.{plain-next}
use Rattle.rows.proofs.plain.span_value.Goals as goal

pub signal_span-requires : goal.signal_span-requires
signal_span-requires c =
    (c.requires.operands.recorded, c.requires.plain.1)

last : (c : goal.In_default) → c.args.op.kind ≡ unary_kind X
last c = plain-next c.args.op c.requires.plain.0 (omega arith) (omega arith) (omega arith)

first_in_lem : (c : goal.In_default) → Inside c.args.lasso.n c.args.op.first c.args.rows.now
first_in_lem c = rw (last c) at c.requires.operands.uses

pub next_span-requires : goal.next_span-requires
next_span-requires c =
    (first_in_lem c, c.requires.plain.1)

pub returns-in-0 : goal.returns-in-0
returns-in-0 c =
    rw c.in-0.is (span_true _ _ c.requires.plain.1.most)

pub returns-in-1 : goal.returns-in-1
returns-in-1 c =
    rw c.in-1.is (span_false _ _)

pub returns-in-2 : goal.returns-in-2
returns-in-2 c =
    let s = c.args in
    rw c.in-2.is (span-number s.size s.at (λ p. letter_of s.recording.now s.lasso.k p s.op.signal) c.signal_span.ensures)

last-2 : (c : goal.After-next_span) → c.args.op.kind ≡ unary_kind X
last-2 c = plain-next c.args.op c.requires.plain.0 (omega arith) (omega arith) (omega arith)

pub returns-in_default : goal.returns-in_default
returns-in_default c =
    rw (last-2 c) c.next_span.ensures

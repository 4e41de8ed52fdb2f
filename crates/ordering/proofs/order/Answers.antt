use mathlib.Core.Path.{◌∙◌, sym}
use native.Mathlib.Omega.{arith}
use Rattle.ordering.specs.RunLaws.{run-start, run_inside, run_few, run_shared, run-readable, run_deeper, run-full, run_end, run-less, run-back}
use Rattle.ordering.proofs.order.Goals as goal

pub loop-operand-init : goal.loop-operand-init
loop-operand-init c = run-start c.requires

pub offset_bounds-nodes-i : goal.offset_bounds-nodes-i
offset_bounds-nodes-i c = let f = run_few c.loop-operand.invariant in record { fits = omega arith }

pub bounds-nodes-i : goal.bounds-nodes-i
bounds-nodes-i c = run_inside c.loop-operand.invariant

pub next_of-next-requires : goal.next_of-next-requires
next_of-next-requires c = run-readable c.loop-operand.invariant

pub overflow_cast-waiting : goal.overflow_cast-waiting
overflow_cast-waiting c =
    let f = run_few c.loop-operand.invariant in
    record { fits = omega arith }

pub offset_bounds-waiting-depth : goal.offset_bounds-waiting-depth
offset_bounds-waiting-depth c =
    let f = run_few c.loop-operand.invariant in
    record { fits = omega arith }

pub bounds-waiting-depth : goal.bounds-waiting-depth
bounds-waiting-depth c =
    let f = run_few c.loop-operand.invariant in
    omega arith

pub overflow_add-depth : goal.overflow_add-depth
overflow_add-depth c =
    let f = run_few c.loop-operand.invariant in
    record { fits = omega arith }

pub loop-operand-smaller-in-Operand : goal.loop-operand-smaller-in-Operand
loop-operand-smaller-in-Operand c =
    let f = run_few c.loop-operand.invariant in
    omega arith

pub loop-operand-preserved-in-Operand : goal.loop-operand-preserved-in-Operand
loop-operand-preserved-in-Operand c =
    run_deeper c.loop-operand.invariant (sym c.in-Operand.is ∙ c.next_of-next.ensures)

pub put-written-requires : goal.put-written-requires
put-written-requires c =
    run_shared c.loop-operand.invariant

pub returns-then-written-gt-MAX_NODES : goal.returns-then-written-gt-MAX_NODES
returns-then-written-gt-MAX_NODES c =
    run-full c.loop-operand.invariant (sym c.in-Word.is ∙ c.next_of-next.ensures) c.put-written.ensures c.if-written-gt-MAX_NODES.true

pub returns-then-depth-eq0 : goal.returns-then-depth-eq0
returns-then-depth-eq0 c =
    run_end c.loop-operand.invariant (sym c.in-Word.is ∙ c.next_of-next.ensures) c.put-written.ensures c.if-written-gt-MAX_NODES.false c.if-depth-eq0.true

pub offset_bounds-memo-i : goal.offset_bounds-memo-i
offset_bounds-memo-i c =
    let f = run_few c.loop-operand.invariant in
    record { fits = omega arith }

pub bounds-memo-i : goal.bounds-memo-i
bounds-memo-i c =
    let f = run_few c.loop-operand.invariant in
    omega arith

pub offset_bounds-waiting-depth-in-Word : goal.offset_bounds-waiting-depth-in-Word
offset_bounds-waiting-depth-in-Word c =
    let f = run_few c.loop-operand.invariant in
    record { fits = omega arith }

pub bounds-waiting-depth-in-Word : goal.bounds-waiting-depth-in-Word
bounds-waiting-depth-in-Word c =
    let f = run_few c.loop-operand.invariant in
    omega arith

pub loop-operand-smaller : goal.loop-operand-smaller
loop-operand-smaller c =
    run-less c.loop-operand.invariant (sym c.in-Word.is ∙ c.next_of-next.ensures) c.put-written.ensures c.if-written-gt-MAX_NODES.false
    c.if-depth-eq0.false

pub loop-operand-preserved : goal.loop-operand-preserved
loop-operand-preserved c =
    run-back c.loop-operand.invariant (sym c.in-Word.is ∙ c.next_of-next.ensures) c.put-written.ensures c.if-written-gt-MAX_NODES.false
    c.if-depth-eq0.false c.from-i.ensures c.put-written.auto.out

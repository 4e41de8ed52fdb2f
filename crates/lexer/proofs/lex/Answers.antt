use Rattle.lexer.proofs.StepLaws.{piece-fits}
use Rattle.lexer.proofs.RunLaws.{run-start, run-blank, run-token, small-met}
use Rattle.lexer.proofs.AnswerLaws.{answer_long, answer-wrong, answer-many, answer-tokens}
use native.Mathlib.Omega.{arith}
use Rattle.lexer.proofs.lex.Goals as goal

pub returns-then-text-gt-MAX_BYTES : goal.returns-then-text-gt-MAX_BYTES
returns-then-text-gt-MAX_BYTES c = answer_long _ _ c.if-text-gt-MAX_BYTES.true

pub loop-at-init : goal.loop-at-init
loop-at-init c = run-start _ _

pub scan-piece-requires : goal.scan-piece-requires
scan-piece-requires c =
    let if1 = c.if-text-gt-MAX_BYTES in
    let loop-test = c.loop-at-test in
    let byte-table = c.byte_table-bytes in
    let row-table = c.row_table-rows in
    record { short = if1.false; inside = loop-test.true; bytes = byte-table.ensures; rows = row-table.ensures }

pub overflow_cast-result-then-size-eq0 : goal.overflow_cast-result-then-size-eq0
overflow_cast-result-then-size-eq0 c =
    let loop-test = c.loop-at-test in
    let if1 = c.if-text-gt-MAX_BYTES in
    omega (arith, loop-test.true, if1.false)

pub shape_of-work-then-size-eq0 : goal.shape_of-work-then-size-eq0
shape_of-work-then-size-eq0 c =
    let loop = c.loop-at in
    loop.invariant.size

pub returns-then-size-eq0 : goal.returns-then-size-eq0
returns-then-size-eq0 c =
    let loop = c.loop-at in
    let if1 = c.if-text-gt-MAX_BYTES in
    let loop-test = c.loop-at-test in
    let scan = c.scan-piece in
    answer-wrong _ _ _ _ _ _ _ loop.invariant if1.false loop-test.true _ scan.ensures c.if-size-eq0.true

pub overflow_add-at : goal.overflow_add-at
overflow_add-at c =
    let loop = c.loop-at in
    let loop-test = c.loop-at-test in
    let scan = c.scan-piece in
    omega (arith, piece-fits loop.enumerating c.args.text.now loop.at loop-test.true scan.result.size scan.ensures.size)

pub loop-at-smaller-then-number-eq-NO_NUMBER : goal.loop-at-smaller-then-number-eq-NO_NUMBER
loop-at-smaller-then-number-eq-NO_NUMBER c =
    let loop-test = c.loop-at-test in
    let if2 = c.if-size-eq0 in
    omega (arith, loop-test.true, if2.false)

pub loop-at-preserved-then-number-eq-NO_NUMBER : goal.loop-at-preserved-then-number-eq-NO_NUMBER
loop-at-preserved-then-number-eq-NO_NUMBER c =
    let loop = c.loop-at in
    let loop-test = c.loop-at-test in
    let scan = c.scan-piece in
    let if2 = c.if-size-eq0 in
    run-blank _ _ _ _ _ _ _ loop.invariant loop-test.true _ scan.ensures if2.false c.if-number-eq-NO_NUMBER.true

pub store-requires : goal.store-requires
store-requires c =
    let loop = c.loop-at in
    let loop-test = c.loop-at-test in
    let scan = c.scan-piece in
    let if2 = c.if-size-eq0 in
    let if3 = c.if-number-eq-NO_NUMBER in
    let if1 = c.if-text-gt-MAX_BYTES in
    record {
      room = let s = loop.invariant.size in omega (arith, c.requires);
      small = let s = small-met _ _ _ loop-test.true _ scan.ensures if2.false if3.false in omega arith;
      near = omega (arith, loop-test.true, if1.false);
    }

pub overflow_add-n : goal.overflow_add-n
overflow_add-n c =
    let loop = c.loop-at in
    let loop-test = c.loop-at-test in
    omega (arith, loop.invariant.few, loop-test.true)

pub overflow_add-at-in-loop-at : goal.overflow_add-at-in-loop-at
overflow_add-at-in-loop-at c =
    let loop = c.loop-at in
    let loop-test = c.loop-at-test in
    let scan = c.scan-piece in
    omega (arith, piece-fits loop.enumerating c.args.text.now loop.at loop-test.true scan.result.size scan.ensures.size)

pub loop-at-smaller : goal.loop-at-smaller
loop-at-smaller c =
    let loop-test = c.loop-at-test in
    let if2 = c.if-size-eq0 in
    omega (arith, loop-test.true, if2.false)

pub loop-at-preserved : goal.loop-at-preserved
loop-at-preserved c =
    let loop = c.loop-at in
    let loop-test = c.loop-at-test in
    let scan = c.scan-piece in
    let if2 = c.if-size-eq0 in
    let if3 = c.if-number-eq-NO_NUMBER in
    let if1 = c.if-text-gt-MAX_BYTES in
    let store = c.store in
    let later-place = c.later_place-over in
    run-token _ _ _ _ _ _ _ loop.invariant loop-test.true _ scan.ensures if2.false if3.false if1.false c.requires _ _ _ store.ensures c.enumerating_after-enumerating.ensures
    later-place.ensures

pub overflow_cast-result-then-n-gt-MAX_TOKENS : goal.overflow_cast-result-then-n-gt-MAX_TOKENS
overflow_cast-result-then-n-gt-MAX_TOKENS c =
    let loop = c.loop-at in
    let if1 = c.if-text-gt-MAX_BYTES in
    omega (arith, loop.invariant.near, loop.invariant.inside, if1.false)

pub shape_of-work-then-n-gt-MAX_TOKENS : goal.shape_of-work-then-n-gt-MAX_TOKENS
shape_of-work-then-n-gt-MAX_TOKENS c =
    let loop = c.loop-at in
    loop.invariant.size

pub returns-then-n-gt-MAX_TOKENS : goal.returns-then-n-gt-MAX_TOKENS
returns-then-n-gt-MAX_TOKENS c =
    let loop = c.loop-at in
    let if1 = c.if-text-gt-MAX_BYTES in
    let loop-test = c.loop-at-test in
    answer-many _ _ _ _ _ _ _ loop.invariant if1.false loop-test.false (omega (arith, c.if-n-gt-MAX_TOKENS.true))

pub overflow_cast-result-2 : goal.overflow_cast-result-2
overflow_cast-result-2 c = omega (arith, c.if-n-gt-MAX_TOKENS.false)

pub shape_of-work : goal.shape_of-work
shape_of-work c =
    let loop = c.loop-at in
    loop.invariant.size

pub returns : goal.returns
returns c =
    let loop = c.loop-at in
    let if1 = c.if-text-gt-MAX_BYTES in
    let loop-test = c.loop-at-test in
    answer-tokens _ _ _ _ _ _ _ loop.invariant if1.false loop-test.false (omega (arith, c.if-n-gt-MAX_TOKENS.false))

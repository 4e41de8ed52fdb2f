-- `lexer::piece::word` meets its contract: the run of name bytes is a word of the format if the search finds it.
use Rattle.lexer.proofs.PlaceLaws.{findable, long-at, fixed-at, name_at_lem}
use native.Mathlib.Omega.{arith}
use Rattle.lexer.proofs.piece.word.Goals as goal

pub returns-then-n-gt-MAX_NAME : goal.returns-then-n-gt-MAX_NAME
returns-then-n-gt-MAX_NAME c =
    let run = c.run-n in
    long-at _ _ _ _ c.requires.0 (λ i. omega (arith, c.type_inv.text i)) c.requires.1 _ run.ensures c.if-n-gt-MAX_NAME.true

pub find-k-requires : goal.find-k-requires
find-k-requires c =
    findable _ _ _ _ c.requires.0 (λ i. omega (arith, c.type_inv.text i)) _ c.first_row-first.ensures

pub returns-then-k-lt-COUNT : goal.returns-then-k-lt-COUNT
returns-then-k-lt-COUNT c =
    let run = c.run-n in
    let if1 = c.if-n-gt-MAX_NAME in
    let find = c.find-k in
    fixed-at _ _ _ _ c.requires.0 (λ i. omega (arith, c.type_inv.text i)) c.requires.1 _ run.ensures if1.false _ find.ensures c.if-k-lt-COUNT.true

pub returns : goal.returns
returns c =
    let run = c.run-n in
    let if1 = c.if-n-gt-MAX_NAME in
    let find = c.find-k in
    name_at_lem _ _ _ _ c.requires.0 (λ i. omega (arith, c.type_inv.text i)) c.requires.1 _ run.ensures if1.false _ find.ensures c.if-k-lt-COUNT.false

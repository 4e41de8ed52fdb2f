-- `lexer::piece::sign` meets its contract: the first row that starts the bytes is the longest sign.
use mathlib.Core.Path.{◌∙◌}
use Rattle.lexer.proofs.PlaceLaws.{findable, sign-at, wrong-at}
use native.Mathlib.Omega.{arith}
use Rattle.lexer.proofs.piece.sign.Goals as goal

pub find-k-requires : goal.find-k-requires
find-k-requires c =
    findable _ _ _ _ c.requires.0 (λ i. omega (arith, c.type_inv.text i)) _ c.first_row-first.ensures

pub returns-then-k-lt-COUNT : goal.returns-then-k-lt-COUNT
returns-then-k-lt-COUNT c =
    let find = c.find-k in
    let if1 = c.if-k-lt-COUNT in
    sign-at _ _ _ _ c.requires.0 (λ i. omega (arith, c.type_inv.text i)) c.requires.1 _ find.ensures _ if1.true (c.from.ensures ∙ c.requires.0.rows.size _ if1.true)

pub returns : goal.returns
returns c =
    let find = c.find-k in
    wrong-at _ _ _ _ c.requires.0 (λ i. omega (arith, c.type_inv.text i)) c.requires.1 _ find.ensures c.if-k-lt-COUNT.false

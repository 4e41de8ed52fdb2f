-- `lexer::piece::scan` meets its contract, by the class of the byte.
use Rattle.lexer.proofs.PlaceLaws.{begins-name, begins-none, letter_at, blank-at, quoted-at, low-at, high-at}
use native.Mathlib.Omega.{arith}
use Rattle.lexer.proofs.piece.scan.Goals as goal

pub word-requires : goal.word-requires
word-requires c =
    let class = c.class-k in
    (c.requires, begins-name _ _ _ _ c.requires (λ i. omega (arith, c.type_inv.text i)) _ class.ensures c.if-k-eq-LETTER.true)

pub returns-then-k-eq-LETTER : goal.returns-then-k-eq-LETTER
returns-then-k-eq-LETTER c =
    let class = c.class-k in
    let if1 = c.if-k-eq-LETTER in
    letter_at _ _ _ _ c.requires (λ i. omega (arith, c.type_inv.text i)) _ class.ensures _ if1.true _ c.word.ensures

pub returns-then-k-eq-BLANK : goal.returns-then-k-eq-BLANK
returns-then-k-eq-BLANK c =
    let class = c.class-k in
    blank-at _ _ _ _ c.requires (λ i. omega (arith, c.type_inv.text i)) _ class.ensures _ c.if-k-eq-BLANK.true

pub returns-then-k-eq-QUOTE : goal.returns-then-k-eq-QUOTE
returns-then-k-eq-QUOTE c =
    let class = c.class-k in
    let if3 = c.if-k-eq-QUOTE in
    let quoted-size = c.quoted_size in
    rw c.closed.ensures (quoted-at _ _ _ _ c.requires (λ i. omega (arith, c.type_inv.text i)) _ class.ensures _ if3.true _ quoted-size.ensures)

pub returns-then-k-eq-SLASH : goal.returns-then-k-eq-SLASH
returns-then-k-eq-SLASH c = c.slash.ensures _

pub sign-requires : goal.sign-requires
sign-requires c =
    let class = c.class-k in
    let if1 = c.if-k-eq-LETTER in
    (c.requires, begins-none _ _ _ _ c.requires (λ i. omega (arith, c.type_inv.text i)) _ class.ensures if1.false)

pub returns-then-k-lt-STAR : goal.returns-then-k-lt-STAR
returns-then-k-lt-STAR c =
    let class = c.class-k in
    let if5 = c.if-k-lt-STAR in
    let if2 = c.if-k-eq-BLANK in
    let if3 = c.if-k-eq-QUOTE in
    let if4 = c.if-k-eq-SLASH in
    low-at _ _ _ _ c.requires (λ i. omega (arith, c.type_inv.text i)) _ class.ensures _ _ c.sign.ensures if5.true if2.false if3.false if4.false

pub sign-requires-then-k-gt-DIGIT : goal.sign-requires-then-k-gt-DIGIT
sign-requires-then-k-gt-DIGIT c =
    let class = c.class-k in
    let if1 = c.if-k-eq-LETTER in
    (c.requires, begins-none _ _ _ _ c.requires (λ i. omega (arith, c.type_inv.text i)) _ class.ensures if1.false)

pub returns-then-k-gt-DIGIT : goal.returns-then-k-gt-DIGIT
returns-then-k-gt-DIGIT c =
    let class = c.class-k in
    let if6 = c.if-k-gt-DIGIT in
    let if1 = c.if-k-eq-LETTER in
    high-at _ _ _ _ c.requires (λ i. omega (arith, c.type_inv.text i)) _ class.ensures _ _ c.sign-then-k-gt-DIGIT.ensures if6.true if1.false

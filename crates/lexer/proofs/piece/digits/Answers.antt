-- `lexer::piece::digits` meets its contract, in an enumeration and elsewhere.
use Prim.Native.Nat.{ℕ, ◌≤◌}
use mathlib.Core.Path.{◌≡◌}
use Rattle.lexer.specs.ByteClasses as Byte
use Rattle.lexer.proofs.PlaceLaws.{begins-none, marks-at, unmarked-at, numeral-at, star-at}
use native.Mathlib.Omega.{arith}
use Rattle.lexer.proofs.piece.digits.Goals as goal

below : {k : ℕ} → k ≤ Byte.digit → (k ≡ Byte.digit → ⊥) → k ≤ Byte.bit
below h n = omega arith

over : {k : ℕ} → Byte.star ≤ k → (k ≡ Byte.star → ⊥) → Byte.bit ≤ k
over h n = omega arith

pub returns-then-k-eq-DIGIT : goal.returns-then-k-eq-DIGIT
returns-then-k-eq-DIGIT c =
    let if1 = c.if-enumerating in
    unmarked-at _ _ _ _ c.requires.0 (λ i. omega (arith, c.type_inv.text i)) _ c.requires.1 _ if1.true c.if-k-eq-DIGIT.true

pub returns-then-enumerating : goal.returns-then-enumerating
returns-then-enumerating c =
    let if1 = c.if-enumerating in
    let if2 = c.if-k-eq-DIGIT in
    marks-at _ _ _ _ c.requires.0 (λ i. omega (arith, c.type_inv.text i)) _ c.requires.1 _ if1.true c.requires.2 (below c.requires.3 if2.false) _ c.run.ensures

pub sign-requires : goal.sign-requires
sign-requires c =
    (c.requires.0, begins-none _ _ _ _ c.requires.0 (λ i. omega (arith, c.type_inv.text i)) _ c.requires.1 (λ e. let l = c.requires.3 in omega arith))

pub returns-then-k-eq-STAR : goal.returns-then-k-eq-STAR
returns-then-k-eq-STAR c =
    let if1 = c.if-enumerating in
    let if3 = c.if-k-eq-STAR in
    star-at _ _ _ _ c.requires.0 (λ i. omega (arith, c.type_inv.text i)) _ c.requires.1 _ if1.false if3.true _ c.sign.ensures

pub returns : goal.returns
returns c =
    let if1 = c.if-enumerating in
    let if3 = c.if-k-eq-STAR in
    numeral-at _ _ _ _ c.requires.0 (λ i. omega (arith, c.type_inv.text i)) _ c.requires.1 _ if1.false (over c.requires.2 if3.false) c.requires.3 _ c.run-2.ensures

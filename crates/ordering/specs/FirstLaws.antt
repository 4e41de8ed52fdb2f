-- What is written next of a formula: a part all before which stands in the table already. Once it is written, the formula is written as if nothing had been.
use Rattle.std.specs.Prelude.{ℕ, ◌≡◌, List}
use Rattle.std.proofs.Common.{ap, ◌∙◌, sym}
use Rattle.node.specs.Ltl.{Unary, Binary, Formula, One, Two}
use Rattle.node.specs.Fields.{pack}
use Rattle.node.specs.Kinds.{unary_kind, binary_kind}
use Rattle.sharing.specs.Sharing.{Placed, place, write}
use Rattle.sharing.proofs.WriteLaws.{Grows, write-grows}
use Rattle.sharing.proofs.StandsLaws.{Found, found-grows, found-written, found_adds}

-- g is what is written next of a formula behind table t: the formula itself, or what is written next of its first operand that does not stand
pub data First (t : List ℕ) (g : Formula) : Formula → Type 0 where
  itself : First t g g
  operand : {o : Unary} {a : Formula} → First t g a → First t g (One o a)
  left : {o : Binary} {a b : Formula} → First t g a → First t g (Two o a b)
  right : {o : Binary} {a b : Formula} (v : ℕ) → Found t a v → First t g b → First t g (Two o a b)

-- it stays so as the table grows
pub first-grows : {t u : List ℕ} {g f : Formula} → Grows t u → First t g f → First u g f
first-grows m itself = itself
first-grows m (operand p) = operand (first-grows m p)
first-grows m (left p) = left (first-grows m p)
first-grows m (right {a = a} v h p) = right v (found-grows a v m h) (first-grows m p)

-- what is written next of what is written next
pub first_more : {t : List ℕ} {g h f : Formula} → First t g h → First t h f → First t g f
first_more p itself = p
first_more p (operand q) = operand (first_more p q)
first_more p (left q) = left (first_more p q)
first_more p (right v h q) = right v h (first_more p q)

-- a node of two operands by its first one's table and number, and by its second one's
abbrev after_first : Binary → Formula → Placed → Placed
after_first o b x = let z = write x.table b in place z.table (pack (binary_kind o) x.number z.number)

-- once it is written, the formula is written as if it had not been
pub first-written : {t : List ℕ} {g f : Formula} → First t g f → write (write t g).table f ≡ write t f
unfolding write
first-written {t} {g} itself = found_adds (write t g).table g (write t g).number (found-written t g)
first-written (operand {o = o} p) = ap (λ (x : Placed). place x.table (pack (unary_kind o) x.number 0)) (first-written p)
first-written (left {o = o} {b = b} p) = ap (after_first o b) (first-written p)
first-written {t} {g} (right {o = o} {a = a} {b = b} v h p) =
    ap (after_first o b) (found_adds (write t g).table a v (found-grows a v (write-grows t g) h))
    ∙ ap (λ (z : Placed). place z.table (pack (binary_kind o) v z.number)) (first-written p)
    ∙ sym (ap (after_first o b) (found_adds t a v h))

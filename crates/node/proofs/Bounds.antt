-- The test of a node by bounds: what its fields lie below, by its kind. A choice between numbers and no case, as the code has it.
use Rattle.std.specs.Prelude.{ℕ, zero, suc, ◌≤◌, ◌≡◌, refl, Bool, cond, ◌&&◌, ltb, eqb}
use Rattle.std.proofs.Common.{ap, ap₂, ◌∙◌, sym, arith, le-ltb}
use Rattle.std.proofs.Math.Dec.{eqb-suc-zero, leb-suc-zero, leb-suc-suc}
use Rattle.node.specs.Fields.{kind_of, first_of, second_of}
use Rattle.node.specs.Ltl.{Not}
use Rattle.node.specs.Kinds.{kind_count, shape_of, signal_kind, unary_kind, has_two}
use Rattle.node.proofs.KindLaws.{by_kind, no_shape}
use Rattle.node.specs.Table.{fits, node_fits}

-- 0 for a constant, a signal's number, an operand's; nothing lies below the bound of no kind
abbrev pub first_end : ℕ → ℕ → ℕ → ℕ
first_end limit n kind = cond (ltb kind signal_kind) 1 (cond (ltb kind (unary_kind Not)) limit (cond (ltb kind kind_count) n 0))

-- an operand's number for the kinds of two operands, otherwise 0
abbrev pub second_end : ℕ → ℕ → ℕ
second_end n kind = cond (has_two kind) n 1

abbrev pub bounded : ℕ → ℕ → ℕ → ℕ → ℕ → Bool
bounded limit n kind a b = ltb a (first_end limit n kind) && ltb b (second_end n kind)

-- below 1 is 0
zero_test : (a : ℕ) → eqb a 0 ≡ ltb a 1
zero_test zero = refl
zero_test (suc a) = eqb-suc-zero a ∙ sym (leb-suc-suc (suc a) 0 ∙ leb-suc-zero a)

-- the bounds of a kind decide as the format does
pub bounded-fits : (limit n kind a b : ℕ) → bounded limit n kind a b ≡ fits limit n (shape_of kind) a b
bounded-fits limit n kind a b =
    by_kind (λ k. bounded limit n k a b ≡ fits limit n (shape_of k) a b)
    ((((((((((((((tt, neither), neither), number), one), refl), refl), refl), refl), one), one), one), refl), refl), refl) above kind
  where
    neither : (ltb a 1 && ltb b 1) ≡ (eqb a 0 && eqb b 0)
    neither = ap₂ ◌&&◌ (sym (zero_test a)) (sym (zero_test b))

    number : (ltb a limit && ltb b 1) ≡ (ltb a limit && eqb b 0)
    number = ap (λ (t : Bool). ltb a limit && t) (sym (zero_test b))

    one : (ltb a n && ltb b 1) ≡ (ltb a n && eqb b 0)
    one = ap (λ (t : Bool). ltb a n && t) (sym (zero_test b))

    above : (k : ℕ) → kind_count ≤ k → bounded limit n k a b ≡ fits limit n (shape_of k) a b
    above k h = rw (no_shape h, le-ltb k signal_kind (omega arith), le-ltb k (unary_kind Not) (omega arith), le-ltb k kind_count h, leb-suc-zero a)

-- and of a word's kind of the word
pub word_fits : (limit n w k a b : ℕ) → k ≡ kind_of w → a ≡ first_of w → b ≡ second_of w → bounded limit n k a b ≡ node_fits limit n w
word_fits limit n w k a b ek ea eb = rw (ek, ea, eb) (bounded-fits limit n (kind_of w) (first_of w) (second_of w))

-- Kinds that no expression has.
use Rattle.std.specs.Prelude.{ℕ, ◌≤◌, ◌<◌, Bool, true, false, List, ◌++◌, ◌≡◌}
use Rattle.std.proofs.lemmas.Bool.{false≢true}
use Rattle.std.proofs.Math.Option.{some}
use Rattle.std.proofs.Common.{sym, ap, ◌∙◌, arith}
use Rattle.std.proofs.Math.Decide.{dec_lt}
use Rattle.std.proofs.Math.ListN.{get_or-eq_default}
use Rattle.entries.specs.Kinds as Kind
use Rattle.entries.specs.Flat.{flat}
use Rattle.operands.specs.Entries.{kind_at}
use Rattle.operands.specs.Classes.{Class, an_element, a_range, classes, class_of}
use Rattle.operands.specs.ClassLaws.{kind_of_lem}
use Rattle.operands.specs.KindLaws.{between-class}
use Rattle.operands.specs.Working.{Source}
use Rattle.machine.specs.States.{Ready}
use Rattle.machine.specs.StateLaws.{Entered, entered}
use Rattle.machine.specs.OperandLaws.{operand-view, operand_as}
use Rattle.machine.specs.declared.Machine.{Machine}
use Rattle.machine_run.specs.Choosing.{Collected}

range-class : (k : ℕ) → Kind.range ≤ k → class_of k ≡ a_range
range-class k l = get_or-eq_default classes a_range {n = k} l

between_some : (h : Bool) → Kind.between false ≤ Kind.between h
between_some false = omega arith
between_some true = omega arith

-- no expression has the kind of a big operator's name, of an element in braces, of a line
module _ {s : Source} {mem : List ℕ} {m : Machine} {k : ℕ} (r : Ready s mem m) (h : Collected s.work m k) where
  here : Entered r.realm mem r.table m r.answer r.began
  here = let e = h.mode in entered r.state (omega arith)

  class-here : {z : Class} → class_of k ≡ z → class_of (kind_at s.work m.value) ≡ z
  class-here e = ap class_of (sym h.same) ∙ e

  pub bounds_some : Kind.binder false ≤ k → k < Kind.listed → Kind.between false ≤ k
  bounds_some l u =
      let v = operand-view here.at.operand (class-here (between-class k l u)) in
      let p = operand_as here.at.operand v.5 in
      let q = kind_of_lem (Kind.between v.2) (some v.0) (flat v.3 ++ flat v.4) p.known.at in
      let b = between_some v.2 in
      let e = h.same in
      omega arith

  no_element : k ≡ Kind.element → ⊥
  no_element q =
      let v = operand-view here.at.operand {z = an_element} (class-here (ap class_of q)) in
      let p = operand_as here.at.operand v.2 in
      false≢true p.known.proper.0

  pub range-alone : Kind.element ≤ k → k ≡ Kind.range
  range-alone l = go (dec_lt Kind.element k)
    where
      go : Dec (Kind.element < k) → k ≡ Kind.range
      go (no n) = absurd (no_element (omega arith))
      go (yes n) =
          let v = operand-view here.at.operand (class-here (range-class k n)) in
          let p = operand_as here.at.operand v.4 in
          let q = kind_of_lem Kind.range (some v.0) (flat v.1 ++ (flat v.2 ++ flat v.3)) p.known.at in
          let e = h.same in
          omega arith

use Prim.Native.Nat.{ℕ}
use mathlib.Core.Path.{◌≡◌, refl}
use mathlib.Core.Logic.{inl, inr}
use native.Mathlib.Omega.{arith}
use Rattle.node.specs.Limits.{field_limit}
use Rattle.node.specs.Ltl.{G, F, Implies, Iff, W}
use Rattle.node.specs.Kinds.{shape_of, true_kind, false_kind, signal_kind, unary_kind, binary_kind}
use Rattle.node.specs.Formed.{NodeIs}
use Rattle.node.proofs.TableLaws.{no_other}
use Rattle.forms.specs.Forms.{core as core'}
use Rattle.form_writers.specs.WritingLaws.{operand, operands}
use Rattle.form_writers.specs.KeptLaws.{OneStep, TwoStep, DualStep, core-one, core-two, core-dual}
use Rattle.storing.specs.StoringLaws.{unary_full, unary-wrote, end, binary_full, binary_full_right, binary-wrote, ends, not-binary_full, not-binary_full_right, not-binary-wrote}
use Rattle.form_writers.proofs.core_form.+core_core_both_core_one_dual_equal_finally_globally_implies_inner_not_implies_weak.Goals as goal

pub core-fields_at-node-requires : goal.core-fields_at-node-requires
unfolding core'
core-fields_at-node-requires t c = (c.requires.formed, c.requires.inside)

core-signal : (t : ℕ) → (c : goal.core-After-signal-arg-1 t) → NodeIs field_limit c.args.nodes.now c.args.i (shape_of signal_kind) c.fields_at-node.result.first c.fields_at-node.result.second
core-signal t c = rw c.if-node-eq-SIGNAL.true at c.fields_at-node.ensures

pub core-signal-requires : goal.core-signal-requires
unfolding core'
core-signal-requires t c =
    ((core-signal t c).lower, c.requires.room)

core-signal-2 : (t : ℕ) → (c : goal.core-After-slice_known-then-node-eq-SIGNAL-1 t) → NodeIs field_limit c.args.nodes.now c.args.i (shape_of signal_kind) c.fields_at-node.result.first c.fields_at-node.result.second
core-signal-2 t c = rw c.if-node-eq-SIGNAL.true at c.fields_at-node.ensures

pub core-returns-then-node-eq-SIGNAL : goal.core-returns-then-node-eq-SIGNAL
unfolding core'
core-returns-then-node-eq-SIGNAL t c =
    rw (core-signal-2 t c).tree c.signal.ensures

pub core-inner-requires : goal.core-inner-requires
unfolding core'
core-inner-requires t c = (omega (arith, c.decreases), c.requires)

pub core-returns : goal.core-returns
unfolding core'
core-returns t c = c.inner.ensures

pub core_both-returns-in_err-m : goal.core_both-returns-in_err-m
core_both-returns-in_err-m t c = binary_full _ _ _ c.in_err-m.was c.from_residual.ensures c.core.ensures

pub core_both-returns-in_err-n : goal.core_both-returns-in_err-n
core_both-returns-in_err-n t c =
    binary_full_right _ _ _ c.in_err-n.was c.from_residual-in_err-n.ensures (c.core.ensures.stored _ c.in_ok-m.was) c.core-2.ensures

pub core_both-join-requires : goal.core_both-join-requires
core_both-join-requires t c =
    ends _ _ _ c.requires.binary.small c.requires.ready.room (c.core.ensures.stored _ c.in_ok-m.was) (c.core-2.ensures.stored _ c.in_ok-n.was)

pub core_both-returns : goal.core_both-returns
core_both-returns t c =
    binary-wrote _ _ _ (c.core.ensures.stored _ c.in_ok-m.was) (c.core-2.ensures.stored _ c.in_ok-n.was) c.requires.binary.number c.join.ensures

pub core_one-returns-in_err-m : goal.core_one-returns-in_err-m
core_one-returns-in_err-m t c = unary_full _ _ c.in_err-m.was c.from_residual.ensures c.core.ensures

pub core_one-cap-requires : goal.core_one-cap-requires
core_one-cap-requires t c =
    end _ _ c.requires.unary.small c.requires.ready.room (c.core.ensures.stored _ c.in_ok-m.was)

pub core_one-returns : goal.core_one-returns
core_one-returns t c =
    unary-wrote _ _ (c.core.ensures.stored _ c.in_ok-m.was) c.requires.unary.number c.cap.ensures

pub dual-returns-in_err-m : goal.dual-returns-in_err-m
dual-returns-in_err-m t c = not-binary_full _ _ _ c.in_err-m.was c.from_residual.ensures c.core_one.ensures

pub dual-returns-in_err-n : goal.dual-returns-in_err-n
dual-returns-in_err-n t c =
    not-binary_full_right _ _ _ c.in_err-n.was c.from_residual-in_err-n.ensures (c.core_one.ensures.stored _ c.in_ok-m.was) c.core_one-2.ensures

pub dual-join_not-requires : goal.dual-join_not-requires
dual-join_not-requires t c =
    ends _ _ _ c.requires.binary.small c.requires.ready.room (c.core_one.ensures.stored _ c.in_ok-m.was) (c.core_one-2.ensures.stored _ c.in_ok-n.was)

pub dual-returns : goal.dual-returns
dual-returns t c =
    not-binary-wrote _ _ _ (c.core_one.ensures.stored _ c.in_ok-m.was) (c.core_one-2.ensures.stored _ c.in_ok-n.was) c.requires.binary.number
    c.join_not.ensures

pub equal-returns-in_err-m : goal.equal-returns-in_err-m
equal-returns-in_err-m t c = not-binary_full _ _ _ c.in_err-m.was c.from_residual.ensures c.not_implies.ensures

pub equal-returns-in_err-n : goal.equal-returns-in_err-n
equal-returns-in_err-n t c =
    not-binary_full_right _ _ _ c.in_err-n.was c.from_residual-in_err-n.ensures (c.not_implies.ensures.stored _ c.in_ok-m.was) c.not_implies-2.ensures

pub equal-join_not-requires : goal.equal-join_not-requires
equal-join_not-requires t c =
    ends 5 _ _ (omega arith) c.requires.room (c.not_implies.ensures.stored _ c.in_ok-m.was) (c.not_implies-2.ensures.stored _ c.in_ok-n.was)

pub equal-returns : goal.equal-returns
equal-returns t c =
    not-binary-wrote _ _ _ (c.not_implies.ensures.stored _ c.in_ok-m.was) (c.not_implies-2.ensures.stored _ c.in_ok-n.was) refl
    c.join_not.ensures

pub finally-returns-in_err-m : goal.finally-returns-in_err-m
finally-returns-in_err-m t c = binary_full _ _ _ c.in_err-m.was c.from_residual.ensures c.constant.ensures

pub finally-returns-in_err-n : goal.finally-returns-in_err-n
finally-returns-in_err-n t c =
    binary_full_right _ _ _ c.in_err-n.was c.from_residual-in_err-n.ensures (c.constant.ensures.stored _ c.in_ok-m.was) c.core.ensures

pub finally-join-requires : goal.finally-join-requires
finally-join-requires t c =
    ends 11 _ _ (omega arith) c.requires.room (c.constant.ensures.stored _ c.in_ok-m.was) (c.core.ensures.stored _ c.in_ok-n.was)

pub finally-returns : goal.finally-returns
finally-returns t c =
    binary-wrote _ _ _ (c.constant.ensures.stored _ c.in_ok-m.was) (c.core.ensures.stored _ c.in_ok-n.was) refl c.join.ensures

pub globally-returns-in_err-m : goal.globally-returns-in_err-m
globally-returns-in_err-m t c = not-binary_full _ _ _ c.in_err-m.was c.from_residual.ensures c.constant.ensures

pub globally-returns-in_err-n : goal.globally-returns-in_err-n
globally-returns-in_err-n t c =
    not-binary_full_right _ _ _ c.in_err-n.was c.from_residual-in_err-n.ensures (c.constant.ensures.stored _ c.in_ok-m.was) c.core_one.ensures

pub globally-join_not-requires : goal.globally-join_not-requires
globally-join_not-requires t c =
    ends 11 _ _ (omega arith) c.requires.room (c.constant.ensures.stored _ c.in_ok-m.was) (c.core_one.ensures.stored _ c.in_ok-n.was)

pub globally-returns : goal.globally-returns
globally-returns t c =
    not-binary-wrote _ _ _ (c.constant.ensures.stored _ c.in_ok-m.was) (c.core_one.ensures.stored _ c.in_ok-n.was) refl c.join_not.ensures

pub implies-returns-in_err-m : goal.implies-returns-in_err-m
implies-returns-in_err-m t c = binary_full _ _ _ c.in_err-m.was c.from_residual.ensures c.core_one.ensures

pub implies-returns-in_err-n : goal.implies-returns-in_err-n
implies-returns-in_err-n t c =
    binary_full_right _ _ _ c.in_err-n.was c.from_residual-in_err-n.ensures (c.core_one.ensures.stored _ c.in_ok-m.was) c.core.ensures

pub implies-join-requires : goal.implies-join-requires
implies-join-requires t c =
    ends 5 _ _ (omega arith) c.requires.room (c.core_one.ensures.stored _ c.in_ok-m.was) (c.core.ensures.stored _ c.in_ok-n.was)

pub implies-returns : goal.implies-returns
implies-returns t c =
    binary-wrote _ _ _ (c.core_one.ensures.stored _ c.in_ok-m.was) (c.core.ensures.stored _ c.in_ok-n.was) refl c.join.ensures

pub inner-fields_at-node-requires : goal.inner-fields_at-node-requires
unfolding core'
inner-fields_at-node-requires t c = (c.requires.formed, c.requires.inside)

pub inner-constant-requires : goal.inner-constant-requires
unfolding core'
inner-constant-requires t c = (omega arith, c.requires.room)

pub inner-not_true-requires : goal.inner-not_true-requires
unfolding core'
inner-not_true-requires t c = c.requires.room

inner-node : (t : ℕ) → (c : goal.inner-After-signal-arg-1 t) → (k : ℕ) → c.fields_at-node.result.kind ≡ k → NodeIs field_limit c.args.nodes.now c.args.i (shape_of k) c.fields_at-node.result.first c.fields_at-node.result.second
inner-node t c k e = rw e at c.fields_at-node.ensures

pub inner-signal-requires : goal.inner-signal-requires
unfolding core'
inner-signal-requires t c =
    let n = inner-node t c signal_kind c.in-2.is in (n.lower, c.requires.room)

inner-one-at : (t : ℕ) → (c : goal.inner-After-core_one-arg-1 t) → OneStep core' c.args.nodes.now c.args.i c.fields_at-node.result.first c.fields_at-node.result.kind
inner-one-at t c = core-one c.fields_at-node.result.kind c.in-3.is c.fields_at-node.ensures

pub inner-core_one-requires : goal.inner-core_one-requires
unfolding core'
inner-core_one-requires t c =
    let n = inner-one-at t c in (omega (arith, c.decreases, n.below), (operand c.requires n.below, n.operator))

inner-dual-at : (t : ℕ) → (c : goal.inner-After-dual-arg-1 t) → DualStep c.args.nodes.now c.args.i c.fields_at-node.result.first c.fields_at-node.result.second c.base.result
inner-dual-at t c =
    rw c.base.ensures (core-dual c.fields_at-node.result.kind c.in-4.is c.fields_at-node.ensures)

pub inner-dual-requires : goal.inner-dual-requires
unfolding core'
inner-dual-requires t c =
    let n = inner-dual-at t c in (omega (arith, c.decreases, n.below), (operands c.requires n.below, n.operator))

inner-two-at : (t : ℕ) → (c : goal.inner-After-core_both-arg-1 t) → TwoStep core' c.args.nodes.now c.args.i c.fields_at-node.result.first c.fields_at-node.result.second c.fields_at-node.result.kind
inner-two-at t c = core-two c.fields_at-node.result.kind c.in-5.is c.fields_at-node.ensures

pub inner-core_both-requires : goal.inner-core_both-requires
unfolding core'
inner-core_both-requires t c =
    let n = inner-two-at t c in (omega (arith, c.decreases, n.below), (operands c.requires n.below, n.operator))

inner-node-2 : (t : ℕ) → (c : goal.inner-After-implies-arg-1 t) → (k : ℕ) → c.fields_at-node.result.kind ≡ k → NodeIs field_limit c.args.nodes.now c.args.i (shape_of k) c.fields_at-node.result.first c.fields_at-node.result.second
inner-node-2 t c k e = rw e at c.fields_at-node.ensures

pub inner-implies-requires : goal.inner-implies-requires
unfolding core'
inner-implies-requires t c =
    let n = inner-node-2 t c (binary_kind Implies) c.in-6.is in (omega (arith, c.decreases, n.lower), operands c.requires n.lower)

inner-node-3 : (t : ℕ) → (c : goal.inner-After-equal-arg-1 t) → (k : ℕ) → c.fields_at-node.result.kind ≡ k → NodeIs field_limit c.args.nodes.now c.args.i (shape_of k) c.fields_at-node.result.first c.fields_at-node.result.second
inner-node-3 t c k e = rw e at c.fields_at-node.ensures

pub inner-equal-requires : goal.inner-equal-requires
unfolding core'
inner-equal-requires t c =
    let n = inner-node-3 t c (binary_kind Iff) c.in-7.is in (omega (arith, c.decreases, n.lower), operands c.requires n.lower)

inner-node-4 : (t : ℕ) → (c : goal.inner-After-globally-arg-1 t) → (k : ℕ) → c.fields_at-node.result.kind ≡ k → NodeIs field_limit c.args.nodes.now c.args.i (shape_of k) c.fields_at-node.result.first c.fields_at-node.result.second
inner-node-4 t c k e = rw e at c.fields_at-node.ensures

pub inner-globally-requires : goal.inner-globally-requires
unfolding core'
inner-globally-requires t c =
    let n = inner-node-4 t c (unary_kind G) c.in-9.is in (omega (arith, c.decreases, n.lower), operand c.requires n.lower)

inner-node-5 : (t : ℕ) → (c : goal.inner-After-finally-arg-1 t) → (k : ℕ) → c.fields_at-node.result.kind ≡ k → NodeIs field_limit c.args.nodes.now c.args.i (shape_of k) c.fields_at-node.result.first c.fields_at-node.result.second
inner-node-5 t c k e = rw e at c.fields_at-node.ensures

pub inner-finally-requires : goal.inner-finally-requires
unfolding core'
inner-finally-requires t c =
    let n = inner-node-5 t c (unary_kind F) c.in-10.is in (omega (arith, c.decreases, n.lower), operand c.requires n.lower)

inner-node-6 : (t : ℕ) → (c : goal.inner-After-weak-arg-1 t) → (k : ℕ) → c.fields_at-node.result.kind ≡ k → NodeIs field_limit c.args.nodes.now c.args.i (shape_of k) c.fields_at-node.result.first c.fields_at-node.result.second
inner-node-6 t c k e = rw e at c.fields_at-node.ensures

pub inner-weak-requires : goal.inner-weak-requires
unfolding core'
inner-weak-requires t c =
    let n = inner-node-6 t c (binary_kind W) c.in-13.is in (omega (arith, c.decreases, n.lower), operands c.requires n.lower)

inner-node-7 : (t : ℕ) → (c : goal.inner-After-slice_known-in-0-1 t) → (k : ℕ) → c.fields_at-node.result.kind ≡ k → NodeIs field_limit c.args.nodes.now c.args.i (shape_of k) c.fields_at-node.result.first c.fields_at-node.result.second
inner-node-7 t c k e = rw e at c.fields_at-node.ensures

pub inner-returns-in-0 : goal.inner-returns-in-0
unfolding core'
inner-returns-in-0 t c =
    let n = inner-node-7 t c true_kind c.in-0.is in rw n.tree c.constant.ensures

inner-node-8 : (t : ℕ) → (c : goal.inner-After-slice_known-in-1-1 t) → (k : ℕ) → c.fields_at-node.result.kind ≡ k → NodeIs field_limit c.args.nodes.now c.args.i (shape_of k) c.fields_at-node.result.first c.fields_at-node.result.second
inner-node-8 t c k e = rw e at c.fields_at-node.ensures

pub inner-returns-in-1 : goal.inner-returns-in-1
unfolding core'
inner-returns-in-1 t c =
    let n = inner-node-8 t c false_kind c.in-1.is in rw n.tree c.not_true.ensures

inner-node-9 : (t : ℕ) → (c : goal.inner-After-slice_known-in-2-1 t) → (k : ℕ) → c.fields_at-node.result.kind ≡ k → NodeIs field_limit c.args.nodes.now c.args.i (shape_of k) c.fields_at-node.result.first c.fields_at-node.result.second
inner-node-9 t c k e = rw e at c.fields_at-node.ensures

pub inner-returns-in-2 : goal.inner-returns-in-2
unfolding core'
inner-returns-in-2 t c =
    let n = inner-node-9 t c signal_kind c.in-2.is in rw n.tree c.signal.ensures

inner-one-at-2 : (t : ℕ) → (c : goal.inner-After-slice_known-in-3-1 t) → OneStep core' c.args.nodes.now c.args.i c.fields_at-node.result.first c.fields_at-node.result.kind
inner-one-at-2 t c = core-one c.fields_at-node.result.kind c.in-3.is c.fields_at-node.ensures

pub inner-returns-in-3 : goal.inner-returns-in-3
unfolding core'
inner-returns-in-3 t c =
    rw (inner-one-at-2 t c).tree c.core_one.ensures

inner-dual-at-2 : (t : ℕ) → (c : goal.inner-After-slice_known-in-4-1 t) → DualStep c.args.nodes.now c.args.i c.fields_at-node.result.first c.fields_at-node.result.second c.base.result
inner-dual-at-2 t c =
    rw c.base.ensures (core-dual c.fields_at-node.result.kind c.in-4.is c.fields_at-node.ensures)

pub inner-returns-in-4 : goal.inner-returns-in-4
unfolding core'
inner-returns-in-4 t c =
    rw (inner-dual-at-2 t c).tree c.dual.ensures

inner-two-at-2 : (t : ℕ) → (c : goal.inner-After-slice_known-in-5-1 t) → TwoStep core' c.args.nodes.now c.args.i c.fields_at-node.result.first c.fields_at-node.result.second c.fields_at-node.result.kind
inner-two-at-2 t c = core-two c.fields_at-node.result.kind c.in-5.is c.fields_at-node.ensures

pub inner-returns-in-5 : goal.inner-returns-in-5
unfolding core'
inner-returns-in-5 t c =
    rw (inner-two-at-2 t c).tree c.core_both.ensures

inner-node-10 : (t : ℕ) → (c : goal.inner-After-slice_known-in-6-1 t) → (k : ℕ) → c.fields_at-node.result.kind ≡ k → NodeIs field_limit c.args.nodes.now c.args.i (shape_of k) c.fields_at-node.result.first c.fields_at-node.result.second
inner-node-10 t c k e = rw e at c.fields_at-node.ensures

pub inner-returns-in-6 : goal.inner-returns-in-6
unfolding core'
inner-returns-in-6 t c =
    let n = inner-node-10 t c (binary_kind Implies) c.in-6.is in rw n.tree c.implies.ensures

inner-node-11 : (t : ℕ) → (c : goal.inner-After-slice_known-in-7-1 t) → (k : ℕ) → c.fields_at-node.result.kind ≡ k → NodeIs field_limit c.args.nodes.now c.args.i (shape_of k) c.fields_at-node.result.first c.fields_at-node.result.second
inner-node-11 t c k e = rw e at c.fields_at-node.ensures

pub inner-returns-in-7 : goal.inner-returns-in-7
unfolding core'
inner-returns-in-7 t c =
    let n = inner-node-11 t c (binary_kind Iff) c.in-7.is in rw n.tree c.equal.ensures

inner-node-12 : (t : ℕ) → (c : goal.inner-After-slice_known-in-9-1 t) → (k : ℕ) → c.fields_at-node.result.kind ≡ k → NodeIs field_limit c.args.nodes.now c.args.i (shape_of k) c.fields_at-node.result.first c.fields_at-node.result.second
inner-node-12 t c k e = rw e at c.fields_at-node.ensures

pub inner-returns-in-9 : goal.inner-returns-in-9
unfolding core'
inner-returns-in-9 t c =
    let n = inner-node-12 t c (unary_kind G) c.in-9.is in rw n.tree c.globally.ensures

inner-node-13 : (t : ℕ) → (c : goal.inner-After-slice_known-in-10-1 t) → (k : ℕ) → c.fields_at-node.result.kind ≡ k → NodeIs field_limit c.args.nodes.now c.args.i (shape_of k) c.fields_at-node.result.first c.fields_at-node.result.second
inner-node-13 t c k e = rw e at c.fields_at-node.ensures

pub inner-returns-in-10 : goal.inner-returns-in-10
unfolding core'
inner-returns-in-10 t c =
    let n = inner-node-13 t c (unary_kind F) c.in-10.is in rw n.tree c.finally.ensures

inner-node-14 : (t : ℕ) → (c : goal.inner-After-slice_known-in-13-1 t) → (k : ℕ) → c.fields_at-node.result.kind ≡ k → NodeIs field_limit c.args.nodes.now c.args.i (shape_of k) c.fields_at-node.result.first c.fields_at-node.result.second
inner-node-14 t c k e = rw e at c.fields_at-node.ensures

pub inner-returns-in-13 : goal.inner-returns-in-13
unfolding core'
inner-returns-in-13 t c =
    let n = inner-node-14 t c (binary_kind W) c.in-13.is in rw n.tree c.weak.ensures

-- the last arm: a node that fits has one of the fourteen kinds
inner_none : (t : ℕ) → (c : goal.inner-In_default t) → ⊥
inner_none t c =
    let weak = c.in_default.in_default-own.rest in
    let eventually = weak.0 in
    let always = eventually.0 in
    let iff = always.0 in
    let implies = iff.0 in
    let keeps = implies.0 in
    let derives = keeps.0 in
    let ones = derives.0 in
    no_other c.fields_at-node.result.kind c.fields_at-node.ensures (
      (
        (((((((((ones.0, λ e. ones.1 (inl e)), λ e. derives.1 (inl e)), λ e. keeps.1 (inl e)), implies.1), iff.1), λ e. ones.1 (inr e)), always.1), eventually.1), λ e. keeps.1 (inr e)),
        λ e. derives.1 (inr e),
      ),
      weak.1,
    )

pub inner-unreachable-requires : goal.inner-unreachable-requires
inner-unreachable-requires t c = inner_none t c

pub not_implies-returns-in_err-m : goal.not_implies-returns-in_err-m
not_implies-returns-in_err-m t c = unary_full _ _ c.in_err-m.was c.from_residual.ensures c.implies.ensures

pub not_implies-cap-requires : goal.not_implies-cap-requires
not_implies-cap-requires t c =
    end 3 _ (omega arith) c.requires.room (c.implies.ensures.stored _ c.in_ok-m.was)

pub not_implies-returns : goal.not_implies-returns
not_implies-returns t c =
    unary-wrote _ _ (c.implies.ensures.stored _ c.in_ok-m.was) refl c.cap.ensures

pub weak-returns-in_err-m : goal.weak-returns-in_err-m
weak-returns-in_err-m t c = binary_full _ _ _ c.in_err-m.was c.from_residual.ensures c.core_both.ensures

pub weak-returns-in_err-n : goal.weak-returns-in_err-n
weak-returns-in_err-n t c =
    binary_full_right _ _ _ c.in_err-n.was c.from_residual-in_err-n.ensures (c.core_both.ensures.stored _ c.in_ok-m.was) c.globally.ensures

pub weak-join-requires : goal.weak-join-requires
weak-join-requires t c =
    ends 5 _ _ (omega arith) c.requires.room (c.core_both.ensures.stored _ c.in_ok-m.was) (c.globally.ensures.stored _ c.in_ok-n.was)

pub weak-returns : goal.weak-returns
weak-returns t c =
    binary-wrote _ _ _ (c.core_both.ensures.stored _ c.in_ok-m.was) (c.globally.ensures.stored _ c.in_ok-n.was) refl c.join.ensures

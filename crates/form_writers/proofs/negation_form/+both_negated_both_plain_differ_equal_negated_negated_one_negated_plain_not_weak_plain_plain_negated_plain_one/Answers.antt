use Prim.Native.Nat.{ℕ, ◌<◌}
use mathlib.Core.Path.{◌≡◌, refl}
use mathlib.Core.Logic.{◌⊎◌, inl, inr}
use native.Mathlib.Omega.{arith}
use borrow.Author.Rules.{rules}
use Rattle.node.specs.Limits.{field_limit}
use Rattle.node.specs.Ltl.{X, F, Not, Implies, Iff, W}
use Rattle.node.specs.Kinds.{shape_of, unary_kind, true_kind, false_kind, signal_kind, binary_kind}
use Rattle.node.specs.Formed.{NodeIs}
use Rattle.node.proofs.TableLaws.{rest-above}
use Rattle.forms.specs.Forms.{plain as plain', negated as negated'}
use Rattle.form_writers.specs.WritingLaws.{operand, operands}
use Rattle.form_writers.specs.KeptLaws.{OfOne, OfTwo, OneStep, TwoStep, one-step, two-step, of_two, plain-one, plain-two, negated-one, negated-two}
use Rattle.storing.specs.StoringLaws.{unary_full, unary-wrote, end, binary_full, binary_full_right, binary-wrote, ends}
use Rattle.form_writers.proofs.negation_form.+both_negated_both_plain_differ_equal_negated_negated_one_negated_plain_not_weak_plain_plain_negated_plain_one.Goals.{negated-in_default-via-then-k-lt6, negated-in_default-via-else-k-lt6+else-k-lt11, plain-in_default-via-then-k-lt6, plain-in_default-via-else-k-lt6+else-k-lt11}
use Rattle.form_writers.proofs.negation_form.+both_negated_both_plain_differ_equal_negated_negated_one_negated_plain_not_weak_plain_plain_negated_plain_one.Goals as goal

pub both_negated-returns-in_err-m : goal.both_negated-returns-in_err-m
both_negated-returns-in_err-m t c = binary_full _ _ _ c.in_err-m.was c.from_residual.ensures c.negated.ensures

pub both_negated-returns-in_err-n : goal.both_negated-returns-in_err-n
both_negated-returns-in_err-n t c =
    binary_full_right _ _ _ c.in_err-n.was c.from_residual-in_err-n.ensures (c.negated.ensures.stored _ c.in_ok-m.was) c.negated-2.ensures

pub both_negated-join-requires : goal.both_negated-join-requires
both_negated-join-requires t c =
    ends _ _ _ c.requires.binary.small c.requires.ready.room (c.negated.ensures.stored _ c.in_ok-m.was) (c.negated-2.ensures.stored _ c.in_ok-n.was)

pub both_negated-returns : goal.both_negated-returns
both_negated-returns t c =
    binary-wrote _ _ _ (c.negated.ensures.stored _ c.in_ok-m.was) (c.negated-2.ensures.stored _ c.in_ok-n.was) c.requires.binary.number c.join.ensures

pub both_plain-returns-in_err-m : goal.both_plain-returns-in_err-m
both_plain-returns-in_err-m t c = binary_full _ _ _ c.in_err-m.was c.from_residual.ensures c.plain.ensures

pub both_plain-returns-in_err-n : goal.both_plain-returns-in_err-n
both_plain-returns-in_err-n t c =
    binary_full_right _ _ _ c.in_err-n.was c.from_residual-in_err-n.ensures (c.plain.ensures.stored _ c.in_ok-m.was) c.plain-2.ensures

pub both_plain-join-requires : goal.both_plain-join-requires
both_plain-join-requires t c =
    ends _ _ _ c.requires.binary.small c.requires.ready.room (c.plain.ensures.stored _ c.in_ok-m.was) (c.plain-2.ensures.stored _ c.in_ok-n.was)

pub both_plain-returns : goal.both_plain-returns
both_plain-returns t c =
    binary-wrote _ _ _ (c.plain.ensures.stored _ c.in_ok-m.was) (c.plain-2.ensures.stored _ c.in_ok-n.was) c.requires.binary.number c.join.ensures

pub differ-returns-in_err-m : goal.differ-returns-in_err-m
differ-returns-in_err-m t c = binary_full _ _ _ c.in_err-m.was c.from_residual.ensures c.plain_negated.ensures

pub differ-returns-in_err-n : goal.differ-returns-in_err-n
differ-returns-in_err-n t c =
    binary_full_right _ _ _ c.in_err-n.was c.from_residual-in_err-n.ensures (c.plain_negated.ensures.stored _ c.in_ok-m.was) c.negated_plain.ensures

pub differ-join-requires : goal.differ-join-requires
differ-join-requires t c =
    ends 5 _ _ (omega arith) c.requires.room (c.plain_negated.ensures.stored _ c.in_ok-m.was) (c.negated_plain.ensures.stored _ c.in_ok-n.was)

pub differ-returns : goal.differ-returns
differ-returns t c =
    binary-wrote _ _ _ (c.plain_negated.ensures.stored _ c.in_ok-m.was) (c.negated_plain.ensures.stored _ c.in_ok-n.was) refl c.join.ensures

pub equal-returns-in_err-m : goal.equal-returns-in_err-m
equal-returns-in_err-m t c = binary_full _ _ _ c.in_err-m.was c.from_residual.ensures c.both_plain.ensures

pub equal-returns-in_err-n : goal.equal-returns-in_err-n
equal-returns-in_err-n t c =
    binary_full_right _ _ _ c.in_err-n.was c.from_residual-in_err-n.ensures (c.both_plain.ensures.stored _ c.in_ok-m.was) c.both_negated.ensures

pub equal-join-requires : goal.equal-join-requires
equal-join-requires t c =
    ends 5 _ _ (omega arith) c.requires.room (c.both_plain.ensures.stored _ c.in_ok-m.was) (c.both_negated.ensures.stored _ c.in_ok-n.was)

pub equal-returns : goal.equal-returns
equal-returns t c =
    binary-wrote _ _ _ (c.both_plain.ensures.stored _ c.in_ok-m.was) (c.both_negated.ensures.stored _ c.in_ok-n.was) refl c.join.ensures

pub negated-fields_at-node-requires : goal.negated-fields_at-node-requires
unfolding plain' negated'
negated-fields_at-node-requires t c = (c.requires.formed, c.requires.inside)

pub negated-constant-requires : goal.negated-constant-requires
unfolding plain' negated'
negated-constant-requires t c = (omega arith, c.requires.room)

pub negated-constant-requires-in-1 : goal.negated-constant-requires-in-1
unfolding plain' negated'
negated-constant-requires-in-1 t c = (omega arith, c.requires.room)

negated-node : (t : ℕ) → (c : goal.negated-After-not_signal-arg-1 t) → (k : ℕ) → c.fields_at-node.result.kind ≡ k → NodeIs field_limit c.args.nodes.now c.args.i (shape_of k) c.fields_at-node.result.first c.fields_at-node.result.second
negated-node t c k e = rw e at c.fields_at-node.ensures

pub negated-not_signal-requires : goal.negated-not_signal-requires
unfolding plain' negated'
negated-not_signal-requires t c =
    let n = negated-node t c signal_kind c.in-2.is in (n.lower, c.requires.room)

negated-node-2 : (t : ℕ) → (c : goal.negated-After-plain-arg-1 t) → (k : ℕ) → c.fields_at-node.result.kind ≡ k → NodeIs field_limit c.args.nodes.now c.args.i (shape_of k) c.fields_at-node.result.first c.fields_at-node.result.second
negated-node-2 t c k e = rw e at c.fields_at-node.ensures

pub negated-plain-requires : goal.negated-plain-requires
unfolding plain' negated'
negated-plain-requires t c =
    let n = negated-node-2 t c (unary_kind Not) c.in-3.is in (omega (arith, c.decreases, n.lower), operand c.requires n.lower)

negated-node-3 : (t : ℕ) → (c : goal.negated-After-plain_negated-arg-1 t) → (k : ℕ) → c.fields_at-node.result.kind ≡ k → NodeIs field_limit c.args.nodes.now c.args.i (shape_of k) c.fields_at-node.result.first c.fields_at-node.result.second
negated-node-3 t c k e = rw e at c.fields_at-node.ensures

pub negated-plain_negated-requires : goal.negated-plain_negated-requires
unfolding plain' negated'
negated-plain_negated-requires t c =
    let n = negated-node-3 t c (binary_kind Implies) c.in-6.is in (omega (arith, c.decreases, n.lower), (operands c.requires n.lower, search rules))

negated-node-4 : (t : ℕ) → (c : goal.negated-After-differ-arg-1 t) → (k : ℕ) → c.fields_at-node.result.kind ≡ k → NodeIs field_limit c.args.nodes.now c.args.i (shape_of k) c.fields_at-node.result.first c.fields_at-node.result.second
negated-node-4 t c k e = rw e at c.fields_at-node.ensures

pub negated-differ-requires : goal.negated-differ-requires
unfolding plain' negated'
negated-differ-requires t c =
    let n = negated-node-4 t c (binary_kind Iff) c.in-7.is in (omega (arith, c.decreases, n.lower), operands c.requires n.lower)

negated-node-5 : (t : ℕ) → (c : goal.negated-After-not_weak-arg-1 t) → (k : ℕ) → c.fields_at-node.result.kind ≡ k → NodeIs field_limit c.args.nodes.now c.args.i (shape_of k) c.fields_at-node.result.first c.fields_at-node.result.second
negated-node-5 t c k e = rw e at c.fields_at-node.ensures

pub negated-not_weak-requires : goal.negated-not_weak-requires
unfolding plain' negated'
negated-not_weak-requires t c =
    let n = negated-node-5 t c (binary_kind W) c.in-13.is in (omega (arith, c.decreases, n.lower), operands c.requires n.lower)

negated_ones_at : (t : ℕ) → (c : goal.negated-After-negated_one-arg-1 t) → OneStep negated' c.args.nodes.now c.args.i c.fields_at-node.result.first c.dual.result
negated_ones_at t c =
    let h : OfOne c.fields_at-node.result.kind = (omega arith, omega arith) in
    rw c.dual.ensures (one-step h c.fields_at-node.ensures (negated-one _ h))

pub negated-negated_one-requires : goal.negated-negated_one-requires
unfolding plain' negated'
negated-negated_one-requires t c =
    let n = negated_ones_at t c in (omega (arith, c.decreases, n.below), (operand c.requires n.below, n.operator))

negated_twos_at : (t : ℕ) → (c : goal.negated-After-both_negated-arg-1 t) → TwoStep negated' c.args.nodes.now c.args.i c.fields_at-node.result.first c.fields_at-node.result.second c.dual-in_default.result
negated_twos_at t c =
    let r = c.in_default-1.rest in
    let w : (c.fields_at-node.result.kind < unary_kind X) ⊎ (unary_kind F < c.fields_at-node.result.kind) = elim c.in_default.branch [
      | negated-in_default-via-then-k-lt6 x ↦ inl (omega arith)
      | negated-in_default-via-else-k-lt6+else-k-lt11 x ↦ inr (omega arith)
    ] in
    let h : OfTwo c.fields_at-node.result.kind = of_two c.fields_at-node.ensures (rest-above 4 _ r.0.0.0) w in
    rw c.dual-in_default.ensures (two-step h c.fields_at-node.ensures (negated-two _ h r.0.0.1 r.0.1 r.1))

pub negated-both_negated-requires : goal.negated-both_negated-requires
unfolding plain' negated'
negated-both_negated-requires t c =
    let n = negated_twos_at t c in (omega (arith, c.decreases, n.below), (operands c.requires n.below, n.operator))

negated-node-6 : (t : ℕ) → (c : goal.negated-After-slice_known-in-0-1 t) → (k : ℕ) → c.fields_at-node.result.kind ≡ k → NodeIs field_limit c.args.nodes.now c.args.i (shape_of k) c.fields_at-node.result.first c.fields_at-node.result.second
negated-node-6 t c k e = rw e at c.fields_at-node.ensures

pub negated-returns-in-0 : goal.negated-returns-in-0
unfolding plain' negated'
negated-returns-in-0 t c =
    let n = negated-node-6 t c true_kind c.in-0.is in rw n.tree c.constant.ensures

negated-node-7 : (t : ℕ) → (c : goal.negated-After-slice_known-in-1-1 t) → (k : ℕ) → c.fields_at-node.result.kind ≡ k → NodeIs field_limit c.args.nodes.now c.args.i (shape_of k) c.fields_at-node.result.first c.fields_at-node.result.second
negated-node-7 t c k e = rw e at c.fields_at-node.ensures

pub negated-returns-in-1 : goal.negated-returns-in-1
unfolding plain' negated'
negated-returns-in-1 t c =
    let n = negated-node-7 t c false_kind c.in-1.is in rw n.tree c.constant-in-1.ensures

negated-node-8 : (t : ℕ) → (c : goal.negated-After-slice_known-in-2-1 t) → (k : ℕ) → c.fields_at-node.result.kind ≡ k → NodeIs field_limit c.args.nodes.now c.args.i (shape_of k) c.fields_at-node.result.first c.fields_at-node.result.second
negated-node-8 t c k e = rw e at c.fields_at-node.ensures

pub negated-returns-in-2 : goal.negated-returns-in-2
unfolding plain' negated'
negated-returns-in-2 t c =
    let n = negated-node-8 t c signal_kind c.in-2.is in rw n.tree c.not_signal.ensures

negated-node-9 : (t : ℕ) → (c : goal.negated-After-slice_known-in-3-1 t) → (k : ℕ) → c.fields_at-node.result.kind ≡ k → NodeIs field_limit c.args.nodes.now c.args.i (shape_of k) c.fields_at-node.result.first c.fields_at-node.result.second
negated-node-9 t c k e = rw e at c.fields_at-node.ensures

pub negated-returns-in-3 : goal.negated-returns-in-3
unfolding plain' negated'
negated-returns-in-3 t c =
    let n = negated-node-9 t c (unary_kind Not) c.in-3.is in rw n.tree c.plain.ensures

negated-node-10 : (t : ℕ) → (c : goal.negated-After-slice_known-in-6-1 t) → (k : ℕ) → c.fields_at-node.result.kind ≡ k → NodeIs field_limit c.args.nodes.now c.args.i (shape_of k) c.fields_at-node.result.first c.fields_at-node.result.second
negated-node-10 t c k e = rw e at c.fields_at-node.ensures

pub negated-returns-in-6 : goal.negated-returns-in-6
unfolding plain' negated'
negated-returns-in-6 t c =
    let n = negated-node-10 t c (binary_kind Implies) c.in-6.is in rw n.tree c.plain_negated.ensures

negated-node-11 : (t : ℕ) → (c : goal.negated-After-slice_known-in-7-1 t) → (k : ℕ) → c.fields_at-node.result.kind ≡ k → NodeIs field_limit c.args.nodes.now c.args.i (shape_of k) c.fields_at-node.result.first c.fields_at-node.result.second
negated-node-11 t c k e = rw e at c.fields_at-node.ensures

pub negated-returns-in-7 : goal.negated-returns-in-7
unfolding plain' negated'
negated-returns-in-7 t c =
    let n = negated-node-11 t c (binary_kind Iff) c.in-7.is in rw n.tree c.differ.ensures

negated-node-12 : (t : ℕ) → (c : goal.negated-After-slice_known-in-13-1 t) → (k : ℕ) → c.fields_at-node.result.kind ≡ k → NodeIs field_limit c.args.nodes.now c.args.i (shape_of k) c.fields_at-node.result.first c.fields_at-node.result.second
negated-node-12 t c k e = rw e at c.fields_at-node.ensures

pub negated-returns-in-13 : goal.negated-returns-in-13
unfolding plain' negated'
negated-returns-in-13 t c =
    let n = negated-node-12 t c (binary_kind W) c.in-13.is in rw n.tree c.not_weak.ensures

negated_ones_at-2 : (t : ℕ) → (c : goal.negated-After-slice_known-then-k-lt11-1 t) → OneStep negated' c.args.nodes.now c.args.i c.fields_at-node.result.first c.dual.result
negated_ones_at-2 t c =
    let h : OfOne c.fields_at-node.result.kind = (omega arith, omega arith) in
    rw c.dual.ensures (one-step h c.fields_at-node.ensures (negated-one _ h))

pub negated-returns-in-8-to-10 : goal.negated-returns-in-8-to-10
unfolding plain' negated'
negated-returns-in-8-to-10 t c =
    rw (negated_ones_at-2 t c).tree c.negated_one.ensures

negated_twos_at-2 : (t : ℕ) → (c : goal.negated-After-slice_known-in_default-1 t) → TwoStep negated' c.args.nodes.now c.args.i c.fields_at-node.result.first c.fields_at-node.result.second c.dual-in_default.result
negated_twos_at-2 t c =
    let r = c.in_default-1.rest in
    let w : (c.fields_at-node.result.kind < unary_kind X) ⊎ (unary_kind F < c.fields_at-node.result.kind) = elim c.in_default.branch [
      | negated-in_default-via-then-k-lt6 x ↦ inl (omega arith)
      | negated-in_default-via-else-k-lt6+else-k-lt11 x ↦ inr (omega arith)
    ] in
    let h : OfTwo c.fields_at-node.result.kind = of_two c.fields_at-node.ensures (rest-above 4 _ r.0.0.0) w in
    rw c.dual-in_default.ensures (two-step h c.fields_at-node.ensures (negated-two _ h r.0.0.1 r.0.1 r.1))

pub negated-returns-in_default : goal.negated-returns-in_default
unfolding plain' negated'
negated-returns-in_default t c =
    rw (negated_twos_at-2 t c).tree c.both_negated.ensures

pub negated_one-returns-in_err-m : goal.negated_one-returns-in_err-m
negated_one-returns-in_err-m t c = unary_full _ _ c.in_err-m.was c.from_residual.ensures c.negated.ensures

pub negated_one-cap-requires : goal.negated_one-cap-requires
negated_one-cap-requires t c =
    end _ _ c.requires.unary.small c.requires.ready.room (c.negated.ensures.stored _ c.in_ok-m.was)

pub negated_one-returns : goal.negated_one-returns
negated_one-returns t c =
    unary-wrote _ _ (c.negated.ensures.stored _ c.in_ok-m.was) c.requires.unary.number c.cap.ensures

pub negated_plain-returns-in_err-m : goal.negated_plain-returns-in_err-m
negated_plain-returns-in_err-m t c = binary_full _ _ _ c.in_err-m.was c.from_residual.ensures c.negated.ensures

pub negated_plain-returns-in_err-n : goal.negated_plain-returns-in_err-n
negated_plain-returns-in_err-n t c =
    binary_full_right _ _ _ c.in_err-n.was c.from_residual-in_err-n.ensures (c.negated.ensures.stored _ c.in_ok-m.was) c.plain.ensures

pub negated_plain-join-requires : goal.negated_plain-join-requires
negated_plain-join-requires t c =
    ends _ _ _ c.requires.binary.small c.requires.ready.room (c.negated.ensures.stored _ c.in_ok-m.was) (c.plain.ensures.stored _ c.in_ok-n.was)

pub negated_plain-returns : goal.negated_plain-returns
negated_plain-returns t c =
    binary-wrote _ _ _ (c.negated.ensures.stored _ c.in_ok-m.was) (c.plain.ensures.stored _ c.in_ok-n.was) c.requires.binary.number c.join.ensures

pub not_weak-returns-in_err-m : goal.not_weak-returns-in_err-m
not_weak-returns-in_err-m t c = binary_full _ _ _ c.in_err-m.was c.from_residual.ensures c.negated.ensures

pub not_weak-returns-in_err-n : goal.not_weak-returns-in_err-n
not_weak-returns-in_err-n t c =
    binary_full_right _ _ _ c.in_err-n.was c.from_residual-in_err-n.ensures (c.negated.ensures.stored _ c.in_ok-m.was) c.both_negated.ensures

pub not_weak-join-requires : goal.not_weak-join-requires
not_weak-join-requires t c =
    ends 11 _ _ (omega arith) c.requires.room (c.negated.ensures.stored _ c.in_ok-m.was) (c.both_negated.ensures.stored _ c.in_ok-n.was)

pub not_weak-returns : goal.not_weak-returns
not_weak-returns t c =
    binary-wrote _ _ _ (c.negated.ensures.stored _ c.in_ok-m.was) (c.both_negated.ensures.stored _ c.in_ok-n.was) refl c.join.ensures

pub plain-fields_at-node-requires : goal.plain-fields_at-node-requires
unfolding plain' negated'
plain-fields_at-node-requires t c = (c.requires.formed, c.requires.inside)

pub plain-constant-requires : goal.plain-constant-requires
unfolding plain' negated'
plain-constant-requires t c = (omega arith, c.requires.room)

pub plain-constant-requires-in-1 : goal.plain-constant-requires-in-1
unfolding plain' negated'
plain-constant-requires-in-1 t c = (omega arith, c.requires.room)

plain-node : (t : ℕ) → (c : goal.plain-After-signal-arg-1 t) → (k : ℕ) → c.fields_at-node.result.kind ≡ k → NodeIs field_limit c.args.nodes.now c.args.i (shape_of k) c.fields_at-node.result.first c.fields_at-node.result.second
plain-node t c k e = rw e at c.fields_at-node.ensures

pub plain-signal-requires : goal.plain-signal-requires
unfolding plain' negated'
plain-signal-requires t c =
    let n = plain-node t c signal_kind c.in-2.is in (n.lower, c.requires.room)

plain-node-2 : (t : ℕ) → (c : goal.plain-After-negated-arg-1 t) → (k : ℕ) → c.fields_at-node.result.kind ≡ k → NodeIs field_limit c.args.nodes.now c.args.i (shape_of k) c.fields_at-node.result.first c.fields_at-node.result.second
plain-node-2 t c k e = rw e at c.fields_at-node.ensures

pub plain-negated-requires : goal.plain-negated-requires
unfolding plain' negated'
plain-negated-requires t c =
    let n = plain-node-2 t c (unary_kind Not) c.in-3.is in (omega (arith, c.decreases, n.lower), operand c.requires n.lower)

plain-node-3 : (t : ℕ) → (c : goal.plain-After-negated_plain-arg-1 t) → (k : ℕ) → c.fields_at-node.result.kind ≡ k → NodeIs field_limit c.args.nodes.now c.args.i (shape_of k) c.fields_at-node.result.first c.fields_at-node.result.second
plain-node-3 t c k e = rw e at c.fields_at-node.ensures

pub plain-negated_plain-requires : goal.plain-negated_plain-requires
unfolding plain' negated'
plain-negated_plain-requires t c =
    let n = plain-node-3 t c (binary_kind Implies) c.in-6.is in (omega (arith, c.decreases, n.lower), (operands c.requires n.lower, search rules))

plain-node-4 : (t : ℕ) → (c : goal.plain-After-equal-arg-1 t) → (k : ℕ) → c.fields_at-node.result.kind ≡ k → NodeIs field_limit c.args.nodes.now c.args.i (shape_of k) c.fields_at-node.result.first c.fields_at-node.result.second
plain-node-4 t c k e = rw e at c.fields_at-node.ensures

pub plain-equal-requires : goal.plain-equal-requires
unfolding plain' negated'
plain-equal-requires t c =
    let n = plain-node-4 t c (binary_kind Iff) c.in-7.is in (omega (arith, c.decreases, n.lower), operands c.requires n.lower)

plain_ones_at : (t : ℕ) → (c : goal.plain-After-plain_one-arg-1 t) → OneStep plain' c.args.nodes.now c.args.i c.fields_at-node.result.first c.fields_at-node.result.kind
plain_ones_at t c =
    let h : OfOne c.fields_at-node.result.kind = (omega arith, omega arith) in
    one-step h c.fields_at-node.ensures (plain-one _ h)

pub plain-plain_one-requires : goal.plain-plain_one-requires
unfolding plain' negated'
plain-plain_one-requires t c =
    let n = plain_ones_at t c in (omega (arith, c.decreases, n.below), (operand c.requires n.below, n.operator))

plain_twos_at : (t : ℕ) → (c : goal.plain-After-both_plain-arg-1 t) → TwoStep plain' c.args.nodes.now c.args.i c.fields_at-node.result.first c.fields_at-node.result.second c.fields_at-node.result.kind
plain_twos_at t c =
    let r = c.in_default-1.rest in
    let w : (c.fields_at-node.result.kind < unary_kind X) ⊎ (unary_kind F < c.fields_at-node.result.kind) = elim c.in_default.branch [
      | plain-in_default-via-then-k-lt6 x ↦ inl (omega arith)
      | plain-in_default-via-else-k-lt6+else-k-lt11 x ↦ inr (omega arith)
    ] in
    let h : OfTwo c.fields_at-node.result.kind = of_two c.fields_at-node.ensures (rest-above 4 _ r.0.0) w in
    two-step h c.fields_at-node.ensures (plain-two _ h r.0.1 r.1)

pub plain-both_plain-requires : goal.plain-both_plain-requires
unfolding plain' negated'
plain-both_plain-requires t c =
    let n = plain_twos_at t c in (omega (arith, c.decreases, n.below), (operands c.requires n.below, n.operator))

plain-node-5 : (t : ℕ) → (c : goal.plain-After-slice_known-in-0-1 t) → (k : ℕ) → c.fields_at-node.result.kind ≡ k → NodeIs field_limit c.args.nodes.now c.args.i (shape_of k) c.fields_at-node.result.first c.fields_at-node.result.second
plain-node-5 t c k e = rw e at c.fields_at-node.ensures

pub plain-returns-in-0 : goal.plain-returns-in-0
unfolding plain' negated'
plain-returns-in-0 t c =
    let n = plain-node-5 t c true_kind c.in-0.is in rw n.tree c.constant.ensures

plain-node-6 : (t : ℕ) → (c : goal.plain-After-slice_known-in-1-1 t) → (k : ℕ) → c.fields_at-node.result.kind ≡ k → NodeIs field_limit c.args.nodes.now c.args.i (shape_of k) c.fields_at-node.result.first c.fields_at-node.result.second
plain-node-6 t c k e = rw e at c.fields_at-node.ensures

pub plain-returns-in-1 : goal.plain-returns-in-1
unfolding plain' negated'
plain-returns-in-1 t c =
    let n = plain-node-6 t c false_kind c.in-1.is in rw n.tree c.constant-in-1.ensures

plain-node-7 : (t : ℕ) → (c : goal.plain-After-slice_known-in-2-1 t) → (k : ℕ) → c.fields_at-node.result.kind ≡ k → NodeIs field_limit c.args.nodes.now c.args.i (shape_of k) c.fields_at-node.result.first c.fields_at-node.result.second
plain-node-7 t c k e = rw e at c.fields_at-node.ensures

pub plain-returns-in-2 : goal.plain-returns-in-2
unfolding plain' negated'
plain-returns-in-2 t c =
    let n = plain-node-7 t c signal_kind c.in-2.is in rw n.tree c.signal.ensures

plain-node-8 : (t : ℕ) → (c : goal.plain-After-slice_known-in-3-1 t) → (k : ℕ) → c.fields_at-node.result.kind ≡ k → NodeIs field_limit c.args.nodes.now c.args.i (shape_of k) c.fields_at-node.result.first c.fields_at-node.result.second
plain-node-8 t c k e = rw e at c.fields_at-node.ensures

pub plain-returns-in-3 : goal.plain-returns-in-3
unfolding plain' negated'
plain-returns-in-3 t c =
    let n = plain-node-8 t c (unary_kind Not) c.in-3.is in rw n.tree c.negated.ensures

plain-node-9 : (t : ℕ) → (c : goal.plain-After-slice_known-in-6-1 t) → (k : ℕ) → c.fields_at-node.result.kind ≡ k → NodeIs field_limit c.args.nodes.now c.args.i (shape_of k) c.fields_at-node.result.first c.fields_at-node.result.second
plain-node-9 t c k e = rw e at c.fields_at-node.ensures

pub plain-returns-in-6 : goal.plain-returns-in-6
unfolding plain' negated'
plain-returns-in-6 t c =
    let n = plain-node-9 t c (binary_kind Implies) c.in-6.is in rw n.tree c.negated_plain.ensures

plain-node-10 : (t : ℕ) → (c : goal.plain-After-slice_known-in-7-1 t) → (k : ℕ) → c.fields_at-node.result.kind ≡ k → NodeIs field_limit c.args.nodes.now c.args.i (shape_of k) c.fields_at-node.result.first c.fields_at-node.result.second
plain-node-10 t c k e = rw e at c.fields_at-node.ensures

pub plain-returns-in-7 : goal.plain-returns-in-7
unfolding plain' negated'
plain-returns-in-7 t c =
    let n = plain-node-10 t c (binary_kind Iff) c.in-7.is in rw n.tree c.equal.ensures

plain_ones_at-2 : (t : ℕ) → (c : goal.plain-After-slice_known-then-k-lt11-1 t) → OneStep plain' c.args.nodes.now c.args.i c.fields_at-node.result.first c.fields_at-node.result.kind
plain_ones_at-2 t c =
    let h : OfOne c.fields_at-node.result.kind = (omega arith, omega arith) in
    one-step h c.fields_at-node.ensures (plain-one _ h)

pub plain-returns-in-8-to-10 : goal.plain-returns-in-8-to-10
unfolding plain' negated'
plain-returns-in-8-to-10 t c =
    rw (plain_ones_at-2 t c).tree c.plain_one.ensures

plain_twos_at-2 : (t : ℕ) → (c : goal.plain-After-slice_known-in_default-1 t) → TwoStep plain' c.args.nodes.now c.args.i c.fields_at-node.result.first c.fields_at-node.result.second c.fields_at-node.result.kind
plain_twos_at-2 t c =
    let r = c.in_default-1.rest in
    let w : (c.fields_at-node.result.kind < unary_kind X) ⊎ (unary_kind F < c.fields_at-node.result.kind) = elim c.in_default.branch [
      | plain-in_default-via-then-k-lt6 x ↦ inl (omega arith)
      | plain-in_default-via-else-k-lt6+else-k-lt11 x ↦ inr (omega arith)
    ] in
    let h : OfTwo c.fields_at-node.result.kind = of_two c.fields_at-node.ensures (rest-above 4 _ r.0.0) w in
    two-step h c.fields_at-node.ensures (plain-two _ h r.0.1 r.1)

pub plain-returns-in_default : goal.plain-returns-in_default
unfolding plain' negated'
plain-returns-in_default t c =
    rw (plain_twos_at-2 t c).tree c.both_plain.ensures

pub plain_negated-returns-in_err-m : goal.plain_negated-returns-in_err-m
plain_negated-returns-in_err-m t c = binary_full _ _ _ c.in_err-m.was c.from_residual.ensures c.plain.ensures

pub plain_negated-returns-in_err-n : goal.plain_negated-returns-in_err-n
plain_negated-returns-in_err-n t c =
    binary_full_right _ _ _ c.in_err-n.was c.from_residual-in_err-n.ensures (c.plain.ensures.stored _ c.in_ok-m.was) c.negated.ensures

pub plain_negated-join-requires : goal.plain_negated-join-requires
plain_negated-join-requires t c =
    ends _ _ _ c.requires.binary.small c.requires.ready.room (c.plain.ensures.stored _ c.in_ok-m.was) (c.negated.ensures.stored _ c.in_ok-n.was)

pub plain_negated-returns : goal.plain_negated-returns
plain_negated-returns t c =
    binary-wrote _ _ _ (c.plain.ensures.stored _ c.in_ok-m.was) (c.negated.ensures.stored _ c.in_ok-n.was) c.requires.binary.number c.join.ensures

pub plain_one-returns-in_err-m : goal.plain_one-returns-in_err-m
plain_one-returns-in_err-m t c = unary_full _ _ c.in_err-m.was c.from_residual.ensures c.plain.ensures

pub plain_one-cap-requires : goal.plain_one-cap-requires
plain_one-cap-requires t c =
    end _ _ c.requires.unary.small c.requires.ready.room (c.plain.ensures.stored _ c.in_ok-m.was)

pub plain_one-returns : goal.plain_one-returns
plain_one-returns t c =
    unary-wrote _ _ (c.plain.ensures.stored _ c.in_ok-m.was) c.requires.unary.number c.cap.ensures

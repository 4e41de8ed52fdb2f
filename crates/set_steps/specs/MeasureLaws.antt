-- A measure of a set: the set, then the number.
use Rattle.std.specs.Prelude.{ℕ, ◌+◌, List, ◌≡◌, refl, get_or}
use Rattle.std.proofs.Common.{sym, ap, ap₂, ◌∙◌, subst, arith}
use Rattle.node.specs.Result.{Result, Done, ◌>>=◌}
use Rattle.node.proofs.ResultLaws.{bind_again, bind_at}
use Rattle.node.specs.Returned.{Returned}
use Rattle.language.specs.Operators.{Measure, Measures}
use Rattle.language.specs.Tree.{Expr}
use Rattle.language.specs.Values.{Value, Number, set, measure, value}
use Rattle.language.proofs.Laws.Values.ValueLaws.{measure_sane}
use Rattle.entries.specs.Kinds as Kind
use Rattle.name_values.proofs.KnownLaws.{known-prefixed}
use Rattle.sets.specs.Answers.{says}
use Rattle.sets.specs.Operators.{measurement}
use Rattle.operators.specs.Tables.{prefix_code_at}
use Rattle.operands.specs.Entries.{kind_at, place_at, number_at}
use Rattle.operands.specs.KindLaws.{measure-class}
use Rattle.operands.specs.Working.{Source}
use Rattle.memory_sets.specs.Places.{elements_at, Placed}
use Rattle.machine.specs.Fields.{entry_field}
use Rattle.machine.specs.Phases as Phase
use Rattle.machine.specs.Came.{Evaluate, worth, as_set}
use Rattle.machine.specs.Frames.{Measured, apply}
use Rattle.machine.specs.Operators.{Before, OpAt}
use Rattle.machine.specs.OperatorLaws.{prefixed-at, op_measure}
use Rattle.machine.specs.Telling.{is_set}
use Rattle.machine.specs.States.{Topped, Takes}
use Rattle.machine.specs.ComeLaws.{came-set}
use Rattle.machine.specs.FrameViews.{by_phase}
use Rattle.machine.specs.TakeLaws.{entry_word_lem, top-phase, top_as}
use Rattle.machine.specs.StartLaws.{StartsOne}
use Rattle.machine.specs.Moves.{popped, numbered}
use Rattle.machine.specs.NumberLaws.{yields_number}
use Rattle.machine.specs.BindLaws.{take-set, number-last}
use Rattle.machine.specs.OperandLaws.{operand-view, operand_as, one-operand}
use Rattle.machine.specs.declared.Machine.{Machine}
use Rattle.machine.specs.Entering.{Evaluates, Waiting}
use Rattle.machine.specs.EnteringLaws.{works-value}
use Rattle.value_steps.specs.PlacedLaws.{elements_are, placed, span_of, set-under}

-- the clause as its frame has it
measure-same : (p : ℕ) (o : Measure) (a : Result Value) → ((a >>= set >>= measure p o >>= λ n. Done (Number n)) >>= worth)
    ≡ ((a >>= worth) >>= λ v. as_set v >>= λ s. measure p o s >>= λ n. worth (Number n))
measure-same p o a = number-last (a >>= set >>= measure p o) ∙ bind_again (a >>= set) (measure p o) _ ∙ sym (take-set a (λ s. measure p o s >>= λ n. worth (Number n)))

-- the entry: the set is worked out first
pub measurement-starts : {s : Source} {mem : List ℕ} {m : Machine} → Evaluates s.work m Kind.measure Kind.width → StartsOne s mem m Phase.measured Evaluate
measurement-starts {s} {mem} {m} k =
    let e0 = k.mode in
    record {
      entry = omega arith;
      few_turns = omega arith;
      starting = λ R x o out n.
          let v = operand-view n.at.operand (measure-class (kind_at s.work m.value) k.from k.until) in
          let t = v.0 in
          let op = v.1 in
          let a = v.2 in
          let p = operand_as n.at.operand v.3 in
          let one = one-operand p (Kind.before (Measures op)) t a p.known.at (known-prefixed t (Measures op) a p.known) in
          record {
            frame = Measured t.at op;
            first = a;
            holds_nothing = refl;
            inside = one.inside;
            operand = one.operand;
            holds = tt;
            waits = prefixed-at R.lexed t (Measures op) a p;
            kept = tt;
            same = works-value n e0 ∙ ap (λ (d : Expr). value n.context.values d >>= worth) v.3 ∙ measure-same t.at op (value n.context.values a);
          };
    }

-- the set has come
module _ {s : Source} {mem : List ℕ} {m : Machine} (w : Waiting mem m Phase.measured) where
  module _ (e : m.mode ≡ is_set) where
    pub measured-placed : Topped s mem m → Placed mem (span_of m)
    measured-placed t =
        let v = by_phase t.top.frame Phase.measured (top-phase t.top ∙ w.phase) in
        let h = top_as t.top v.2 in
        let g = came-set t.realm t.began mem m h.came h.come e in
        placed mem (span_of m) g.set g.held g.count g.fine (set-under h e)

    pub measured-steps : {k i p : ℕ} (r : Returned ℕ) → k ≡ get_or mem (m.frames + entry_field) 0 → i ≡ prefix_code_at (number_at s.work k) → p ≡ place_at s.work k
        → says r ≡ measure p (measurement i) (elements_at mem (span_of m)) → Takes s mem mem m (numbered (popped m) r)
    measured-steps {k} {i} {p} r ek ei ep q = record {
      turns = λ R x o out t.
          let v = by_phase t.frame Phase.measured (top-phase t ∙ w.phase) in
          let op = v.1 in
          let h = top_as t v.2 in
          let g = came-set R o mem m h.came h.come e in
          let l = g.set in
          let at : OpAt s k (Before (Measures op)) v.0 = subst (λ (j : ℕ). OpAt s j (Before (Measures op)) v.0) (sym (ek ∙ entry_word_lem h)) h.at.waits in
          let same_op : measurement i ≡ op = ap measurement ei ∙ op_measure at in
          let same_place : p ≡ v.0 = ep ∙ at.place in
          let same_set : elements_at mem (span_of m) ≡ l = elements_are mem (span_of m) l g.held g.count g.fine (set-under h e) in
          let q' : says r ≡ measure v.0 op l = q ∙ ap (λ (j : ℕ). measure j (measurement i) (elements_at mem (span_of m))) same_place
          ∙ ap₂ (λ (y : Measure) (j : List ℕ). measure v.0 y j) same_op same_set in
          yields_number h {phase = Phase.measured} refl g.same r q' (measure_sane v.0 op l (g.fine.ordered, g.fine.few))
          (ap (apply (Measured v.0 op)) g.same ∙ bind_at l (λ j. measure v.0 op j >>= λ y. worth (Number y)));
    }

-- An operator between two numbers: its left operand, its right operand.
use Rattle.std.specs.Prelude.{ℕ, ◌+◌, List, ◌≡◌, refl, get_or, Ok}
use Rattle.std.proofs.Common.{sym, ap, ap₂, ◌∙◌, subst, arith}
use Rattle.node.specs.Result.{Result, Done, ◌>>=◌}
use Rattle.node.proofs.ResultLaws.{bind_again}
use Rattle.node.specs.Returned.{Returned}
use Rattle.machine.specs.declared.Move.TheVariants.{Next}
use Rattle.language.specs.Operators.{Arithmetic, Calculates}
use Rattle.language.specs.Tree.{Expr}
use Rattle.language.specs.Values.{Value, Number, number, calculate, value}
use Rattle.language.proofs.Laws.Values.ValueLaws.{calculate_sane}
use Rattle.entries.specs.Kinds as Kind
use Rattle.sets.specs.Answers.{says}
use Rattle.sets.specs.Operators.{arithmetic}
use Rattle.operators.specs.Tables.{infix_code_at}
use Rattle.operands.specs.Entries.{kind_at, place_at, number_at}
use Rattle.operands.specs.KindLaws.{calculation_class}
use Rattle.operands.specs.Working.{Source}
use Rattle.machine.specs.Fields.{entry_field, value_field}
use Rattle.machine.specs.Phases as Phase
use Rattle.machine.specs.Came.{Evaluate, worth, works, as_number}
use Rattle.machine.specs.Frames.{Left, Right, calculated}
use Rattle.machine.specs.Operators.{Between, OpAt}
use Rattle.machine.specs.OperatorLaws.{op_arithmetic}
use Rattle.machine.specs.JoinedLaws.{joined-two, joined_op}
use Rattle.machine.specs.Telling.{is_number}
use Rattle.machine.specs.States.{mode_of, written, Takes}
use Rattle.machine.specs.Moves.{popped, numbered}
use Rattle.machine.specs.ComeLaws.{came-number, number_then}
use Rattle.machine.specs.FrameViews.{by_phase}
use Rattle.machine.specs.TakeLaws.{entry_word_lem, value-word, top-phase, top_as}
use Rattle.machine.specs.Openings.{Renewed}
use Rattle.machine.specs.StartLaws.{StartsTwo}
use Rattle.machine.specs.RenewLaws.{follows-last}
use Rattle.machine.specs.NumberLaws.{yields_number}
use Rattle.machine.specs.BindLaws.{take-number, then_worth, number-last}
use Rattle.machine.specs.OperandLaws.{operand-view}
use Rattle.machine.specs.declared.Machine.{Machine}
use Rattle.machine.specs.Entering.{Evaluates, Waiting}
use Rattle.machine.specs.EnteringLaws.{works-value}

-- the clause as its frames have it
calculation_same : (p : ℕ) (o : Arithmetic) (a b : Result Value) → ((a >>= number >>= λ m. b >>= number >>= calculate p o m >>= λ n. Done (Number n)) >>= worth)
    ≡ ((a >>= worth) >>= λ v. as_number v >>= λ m. (b >>= worth) >>= calculated p o m)
calculation_same p o a b =
    then_worth (a >>= number) _ (λ m. (b >>= worth) >>= calculated p o m) (λ m. number-last (b >>= number >>= calculate p o m) ∙ bind_again (b >>= number) (calculate p o m) _
    ∙ sym (take-number b (λ n. calculate p o m n >>= λ i. worth (Number i)))) ∙ sym (take-number a (λ m. (b >>= worth) >>= calculated p o m))

-- the entry: its left operand is worked out first
pub calculation_starts : {s : Source} {mem : List ℕ} {m : Machine} → Evaluates s.work m Kind.arithmetic Kind.combination → StartsTwo s mem m Phase.left 0 Evaluate
calculation_starts {s} {mem} {m} k =
    let e0 = k.mode in
    record {
      entry = omega arith;
      few_turns = omega arith;
      starting = λ R x o out n.
          let v = operand-view n.at.operand (calculation_class (kind_at s.work m.value) k.from k.until) in
          let t = v.0 in
          let op = v.1 in
          let a = v.2 in
          let b = v.3 in
          let two = joined-two R n.at.operand v.4 in
          record {
            frame = Left t.at op n.context b;
            first = a;
            holds_nothing = refl;
            inside = two.inside;
            operand = two.left;
            holds = tt;
            waits = (joined_op R n.at.operand v.4, two.right);
            kept = tt;
            same = works-value n e0 ∙ ap (λ (d : Expr). value n.context.values d >>= worth) v.4 ∙ calculation_same t.at op (value n.context.values a) (value n.context.values b);
          };
    }

-- the left operand has come
module _ {s : Source} {mem : List ℕ} {m : Machine} (w : Waiting mem m Phase.left) where
  pub left-steps : m.mode ≡ is_number → {mem' : List ℕ} {n : Machine} → Renewed mem mem' m Phase.right 0 m.value 0 (mode_of Evaluate) n → Takes s mem mem' m (Ok (Next n))
  left-steps e q = record {
    turns = λ R x o out t.
        let v = by_phase t.frame Phase.left (top-phase t ∙ w.phase) in
        let p = v.0 in
        let op = v.1 in
        let c = v.2 in
        let b = v.3 in
        let h = top_as t v.4 in
        let n = came-number R o mem m h.came h.come e in
        follows-last h {G = Right p op m.value} {a = Evaluate} {c = c} {e = b} q (record {
          held-nothing = refl;
          holds-no-words = refl;
          keeps-formula = ap (written m.nodes) n.same;
          fewer = omega arith;
          operand = h.at.waits.1;
          holds = record { here = refl; small = n.small };
          waits = h.at.waits.0;
          kept = tt;
          same = number_then n (λ i. works Evaluate c b >>= calculated p op i);
        });
  }

-- the right operand has come
module _ {s : Source} {mem : List ℕ} {m : Machine} (w : Waiting mem m Phase.right) where
  pub right-steps : m.mode ≡ is_number → {k i p a : ℕ} (r : Returned ℕ) → k ≡ get_or mem (m.frames + entry_field) 0 → i ≡ infix_code_at (number_at s.work k) → p ≡ place_at s.work k → a ≡ get_or mem (m.frames + value_field) 0
      → says r ≡ calculate p (arithmetic i) a m.value → Takes s mem mem m (numbered (popped m) r)
  right-steps e {k} {i} {p} {a} r ek ei ep ea g = record {
    turns = λ R x o out t.
        let v = by_phase t.frame Phase.right (top-phase t ∙ w.phase) in
        let op = v.1 in
        let h = top_as t v.3 in
        let n = came-number R o mem m h.came h.come e in
        let at : OpAt s k (Between (Calculates op)) v.0 = subst (λ (j : ℕ). OpAt s j (Between (Calculates op)) v.0) (sym (ek ∙ entry_word_lem h)) h.at.waits in
        let same_op : arithmetic i ≡ op = ap arithmetic ei ∙ op_arithmetic at in
        let same_place : p ≡ v.0 = ep ∙ at.place in
        let same_number : a ≡ v.2 = ea ∙ value-word h ∙ h.at.holds.here in
        let g' : says r ≡ calculate v.0 op v.2 m.value = g ∙ ap (λ (j : ℕ). calculate j (arithmetic i) a m.value) same_place
        ∙ ap₂ (λ (y : Arithmetic) (j : ℕ). calculate v.0 y j m.value) same_op same_number in
        yields_number h {phase = Phase.right} refl n.same r g' (calculate_sane v.0 op v.2 m.value h.at.holds.small n.small)
        (number_then n (λ j. calculate v.0 op v.2 j >>= λ y. worth (Number y)));
  }

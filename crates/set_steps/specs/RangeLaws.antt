-- {x, y .. z}: the first number, the second, the last.
use Rattle.std.specs.Prelude.{ℕ, ◌+◌, ◌-◌, ◌<◌, List, ◌≡◌, refl, get_or, Ok}
use Rattle.std.proofs.Common.{sym, ap, ap₂, ◌∙◌, subst, arith}
use Rattle.node.specs.Result.{Result, Done, ◌>>=◌}
use Rattle.node.proofs.ResultLaws.{bind_again}
use Rattle.node.specs.Returned.{Returned}
use Rattle.machine.specs.declared.Move.TheVariants.{Next}
use Rattle.language.specs.Tree.{Expr}
use Rattle.language.specs.Values.{Value, Number, Set, number, range, value}
use Rattle.language.proofs.Laws.Values.ValueLaws.{range_sane}
use Rattle.entries.specs.Kinds as Kind
use Rattle.name_values.proofs.KnownLaws.{known-range}
use Rattle.operands.specs.Entries.{kind_at, size_at, place_at}
use Rattle.operands.specs.Classes.{class_of}
use Rattle.operands.specs.Working.{Source}
use Rattle.memory_sets.specs.Places.{SetAt}
use Rattle.machine.specs.Fields.{entry_field, value_field, other_field}
use Rattle.machine.specs.Phases as Phase
use Rattle.machine.specs.Came.{Evaluate, worth, works, as_number}
use Rattle.machine.specs.Frames.{RangeFirst, RangeSecond, RangeLast, ranged, ranging}
use Rattle.machine.specs.Operators.{Stepping, OpAt}
use Rattle.machine.specs.OperatorLaws.{range_at}
use Rattle.machine.specs.Telling.{is_number}
use Rattle.machine.specs.States.{mode_of, written, Topped, Takes}
use Rattle.machine.specs.Moves.{came}
use Rattle.machine.specs.ComeLaws.{came-number, number_then}
use Rattle.machine.specs.FrameViews.{by_phase}
use Rattle.machine.specs.TakeLaws.{entry_word_lem, value-word, other_word, top-phase, top_as}
use Rattle.machine.specs.Openings.{Preceded, entry_at, Renewed, RenewedBefore}
use Rattle.machine.specs.StartLaws.{StartsThree}
use Rattle.machine.specs.RenewLaws.{topped-before, follows-last, follows_before}
use Rattle.machine.specs.FlatLaws.{flat-top}
use Rattle.machine.specs.BindLaws.{take-number, then_worth, set_last}
use Rattle.machine.specs.OperandLaws.{operand-view, operand_as, three-operands}
use Rattle.machine.specs.declared.Machine.{Machine}
use Rattle.machine.specs.Entering.{Evaluates, Waiting}
use Rattle.machine.specs.EnteringLaws.{works-value}
use Rattle.set_steps.specs.MakingLaws.{makes}
use Rattle.set_steps.specs.Making.{made}

-- the clause as its frames have it
range_same : (p : ℕ) (x y z : Result Value) → ((x >>= number >>= λ a. y >>= number >>= λ b. z >>= number >>= range p a b >>= λ s. Done (Set s)) >>= worth)
    ≡ ((x >>= worth) >>= λ v. as_number v >>= λ a. (y >>= worth) >>= λ u. as_number u >>= λ b. (z >>= worth) >>= ranged p a b)
range_same p x y z =
    then_worth (x >>= number) _ (λ a. (y >>= worth) >>= λ u. as_number u >>= λ b. (z >>= worth) >>= ranged p a b) (λ a.
    then_worth (y >>= number) _ (λ b. (z >>= worth) >>= ranged p a b) (λ b. set_last (z >>= number >>= range p a b) ∙ bind_again (z >>= number) (range p a b) _
    ∙ sym (take-number z (λ i. range p a b i >>= λ s. worth (Set s)))) ∙ sym (take-number y (λ b. (z >>= worth) >>= ranged p a b)))
    ∙ sym (take-number x (λ a. (y >>= worth) >>= λ u. as_number u >>= λ b. (z >>= worth) >>= ranged p a b))

-- the entry: its first number is worked out first
pub stepping_starts : {s : Source} {mem : List ℕ} {m : Machine} → Evaluates s.work m Kind.range Kind.parameter → StartsThree s mem m Phase.range_first Evaluate
stepping_starts {s} {mem} {m} k =
    let e0 = k.mode in
    let e1 = k.from in
    let e2 = k.until in
    let kind : kind_at s.work m.value ≡ Kind.range = omega arith in
    record {
      entry = omega arith;
      few_turns = omega arith;
      starting = λ R x o out n.
          let v = operand-view n.at.operand (ap class_of kind) in
          let t = v.0 in
          let a = v.1 in
          let b = v.2 in
          let d = v.3 in
          let p = operand_as n.at.operand v.4 in
          let three = three-operands p Kind.range t a b d p.known.at (known-range t a b d p.known) in
          let ins = three.inside in
          record {
            frame = RangeFirst t.at n.context b d;
            first = a;
            holds_nothing = refl;
            inside = three.inside;
            operand = three.first;
            holds = tt;
            waits = (range_at R.lexed t a b d p, (omega arith, three.middle), three.last);
            kept = tt;
            same = works-value n e0 ∙ ap (λ (y : Expr). value n.context.values y >>= worth) v.4
                ∙ range_same t.at (value n.context.values a) (value n.context.values b) (value n.context.values d);
          };
    }

-- the first number has come
module _ {s : Source} {mem : List ℕ} {m : Machine} (w : Waiting mem m Phase.range_first) where
  pub first-before : Topped s mem m → Preceded s.work (entry_at mem m) 0
  first-before t =
      let v = by_phase t.top.frame Phase.range_first (top-phase t.top ∙ w.phase) in
      let h = top_as t.top v.4 in
      topped-before t (subst (λ (j : ℕ). size_at s.work (j - 1) < j) (sym (entry_word_lem h)) h.at.waits.1.0)

  pub first-steps : m.mode ≡ is_number → {mem' : List ℕ} {n : Machine} → RenewedBefore s.work mem mem' m Phase.range_second m.value (mode_of Evaluate) n → Takes s mem mem' m (Ok (Next n))
  first-steps e q = record {
    turns = λ R x o out t.
        let v = by_phase t.frame Phase.range_first (top-phase t ∙ w.phase) in
        let p = v.0 in
        let c = v.1 in
        let b = v.2 in
        let d = v.3 in
        let h = top_as t v.4 in
        let n = came-number R o mem m h.came h.come e in
        follows_before h {G = RangeSecond p c d m.value} {a = Evaluate} {c = c} {e = b} q (record {
          held-nothing = refl;
          holds-no-words = refl;
          keeps-formula = ap (written m.nodes) n.same;
          fewer = omega arith;
          operand = h.at.waits.1.1;
          holds = record { here = refl; small = n.small };
          waits = (h.at.waits.0, h.at.waits.2);
          kept = tt;
          same = number_then n (λ i. works Evaluate c b >>= ranging p c d i);
        });
  }

-- the second number has come
module _ {s : Source} {mem : List ℕ} {m : Machine} (w : Waiting mem m Phase.range_second) where
  pub second-steps : m.mode ≡ is_number → {mem' : List ℕ} {a : ℕ} {n : Machine} → a ≡ get_or mem (m.frames + value_field) 0 → Renewed mem mem' m Phase.range_last 0 a m.value (mode_of Evaluate) n → Takes s mem mem' m (Ok (Next n))
  second-steps e ea q = record {
    turns = λ R x o out t.
        let v = by_phase t.frame Phase.range_second (top-phase t ∙ w.phase) in
        let p = v.0 in
        let c = v.1 in
        let d = v.2 in
        let i = v.3 in
        let h = top_as t v.4 in
        let n = came-number R o mem m h.came h.come e in
        follows-last h {G = RangeLast p i m.value} {a = Evaluate} {c = c} {e = d} q (record {
          held-nothing = refl;
          holds-no-words = refl;
          keeps-formula = ap (written m.nodes) n.same;
          fewer = omega arith;
          operand = h.at.waits.1;
          holds = record { first = record { here = ea ∙ value-word h ∙ h.at.holds.here; small = h.at.holds.small }; here = refl; small = n.small };
          waits = h.at.waits.0;
          kept = tt;
          same = number_then n (λ j. works Evaluate c d >>= ranged p i j);
        });
  }

-- the last number has come
module _ {s : Source} {mem : List ℕ} {m : Machine} (w : Waiting mem m Phase.range_last) where
  pub last-steps : m.mode ≡ is_number → {mem' : List ℕ} {k p a b : ℕ} (r : Returned ℕ) → k ≡ get_or mem (m.frames + entry_field) 0 → p ≡ place_at s.work k → a ≡ get_or mem (m.frames + value_field) 0
      → b ≡ get_or mem (m.frames + other_field) 0 → SetAt mem mem' m.top r (range p a b m.value) → Takes s mem mem' m (made m m.top r)
  last-steps e {mem'} {k} {p} {a} {b} r ek ep ea eb g = record {
    turns = λ R x o out t.
        let v = by_phase t.frame Phase.range_last (top-phase t ∙ w.phase) in
        let h = top_as t v.3 in
        let n = came-number R o mem m h.came h.come e in
        let at : OpAt s k Stepping v.0 = subst (λ (j : ℕ). OpAt s j Stepping v.0) (sym (ek ∙ entry_word_lem h)) h.at.waits in
        let same_place : p ≡ v.0 = ep ∙ at.place in
        let same_first : a ≡ v.1 = ea ∙ value-word h ∙ h.at.holds.first.here in
        let same_second : b ≡ v.2 = eb ∙ other_word h ∙ h.at.holds.here in
        let hi = h.at.high in
        let ro = h.at.room in
        let same_set : range p a b m.value ≡ range v.0 v.1 v.2 m.value = ap (λ (j : ℕ). range j a b m.value) same_place
        ∙ ap₂ (λ (y z : ℕ). range v.0 y z m.value) same_first same_second in
        makes h r (record {
          no_forms = refl;
          no_name = refl;
          no_body = refl;
          value = Number m.value;
          came-is = n.same;
          base-is = flat-top h {phase = Phase.range_last} refl;
          set = g.set;
          kept = g.kept;
          room = omega arith;
          sane = range_sane p a b m.value n.small;
          same = number_then n (λ j. range v.0 v.1 v.2 j >>= λ y. worth (Set y)) ∙ ap (λ y. y >>= λ y. worth (Set y)) (sym same_set);
        });
  }

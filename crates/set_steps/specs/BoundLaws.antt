-- The numbers between two bounds: the low bound, then the high one.
use Rattle.std.specs.Prelude.{ℕ, ◌+◌, Bool, true, false, List, ◌≡◌, refl, eqb, get_or, Ok}
use Rattle.std.proofs.Common.{sym, ap, ap₂, ◌∙◌, subst, arith}
use Rattle.node.specs.Result.{Result, Done, ◌>>=◌}
use Rattle.node.proofs.ResultLaws.{bind_again}
use Rattle.node.specs.Returned.{Returned}
use Rattle.machine.specs.declared.Move.TheVariants.{Next}
use Rattle.language.specs.Tree.{Expr}
use Rattle.language.specs.Values.{Value, Number, Set, number, between, value}
use Rattle.language.proofs.Laws.Values.ValueLaws.{between_sane}
use Rattle.entries.specs.Kinds as Kind
use Rattle.operators.specs.Signs.{strict_at}
use Rattle.name_values.proofs.KnownLaws.{known-between}
use Rattle.operands.specs.Entries.{kind_at, place_at, number_at}
use Rattle.operands.specs.KindLaws.{between-class}
use Rattle.operands.specs.Working.{Source}
use Rattle.memory_sets.specs.Places.{SetAt}
use Rattle.machine.specs.Fields.{entry_field, value_field}
use Rattle.machine.specs.Phases as Phase
use Rattle.machine.specs.Came.{Evaluate, worth, works, as_number}
use Rattle.machine.specs.Frames.{Low, High, bounded}
use Rattle.machine.specs.Operators.{Bounds, OpAt}
use Rattle.machine.specs.OperatorLaws.{bounds-at}
use Rattle.machine.specs.Telling.{is_number}
use Rattle.machine.specs.States.{mode_of, written, Takes}
use Rattle.machine.specs.ComeLaws.{came-number, number_then}
use Rattle.machine.specs.FrameViews.{by_phase}
use Rattle.machine.specs.TakeLaws.{entry_word_lem, value-word, top-phase, top_as}
use Rattle.machine.specs.Openings.{Renewed}
use Rattle.machine.specs.StartLaws.{StartsTwo}
use Rattle.machine.specs.RenewLaws.{follows-last}
use Rattle.machine.specs.FlatLaws.{flat-top}
use Rattle.machine.specs.BindLaws.{take-number, then_worth, set_last}
use Rattle.machine.specs.OperandLaws.{operand-view, operand_as, two_operands}
use Rattle.machine.specs.declared.Machine.{Machine}
use Rattle.machine.specs.Entering.{Evaluates, Waiting}
use Rattle.machine.specs.EnteringLaws.{works-value}
use Rattle.set_steps.specs.MakingLaws.{makes}
use Rattle.set_steps.specs.Making.{made}

-- the clause as its frames have it
bounds_same : (p : ℕ) (l h : Bool) (a b : Result Value) → ((a >>= number >>= λ m. b >>= number >>= between p l h m >>= λ s. Done (Set s)) >>= worth)
    ≡ ((a >>= worth) >>= λ v. as_number v >>= λ m. (b >>= worth) >>= bounded p l h m)
bounds_same p l h a b =
    then_worth (a >>= number) _ (λ m. (b >>= worth) >>= bounded p l h m) (λ m. set_last (b >>= number >>= between p l h m) ∙ bind_again (b >>= number) (between p l h m) _
    ∙ sym (take-number b (λ n. between p l h m n >>= λ s. worth (Set s)))) ∙ sym (take-number a (λ m. (b >>= worth) >>= bounded p l h m))

-- is the high bound left out, by the entry's kind?
abbrev without_high : ℕ → Bool
without_high i = eqb i (Kind.between true)

high_of : (h : Bool) → without_high (Kind.between h) ≡ h
high_of true = refl
high_of false = refl

-- the entry: its low bound is worked out first
pub bounds_starts : {s : Source} {mem : List ℕ} {m : Machine} → Evaluates s.work m (Kind.between false) Kind.listed → StartsTwo s mem m Phase.low 0 Evaluate
bounds_starts {s} {mem} {m} k =
    let e0 = k.mode in
    let e1 = k.from in
    record {
      entry = omega arith;
      few_turns = omega arith;
      starting = λ R x o out n.
          let v = operand-view n.at.operand (between-class (kind_at s.work m.value) (omega arith) k.until) in
          let t = v.0 in
          let l = v.1 in
          let h = v.2 in
          let a = v.3 in
          let b = v.4 in
          let p = operand_as n.at.operand v.5 in
          let two = two_operands p (Kind.between h) t a b p.known.at (known-between t l h a b p.known) in
          record {
            frame = Low t.at l h n.context b;
            first = a;
            holds_nothing = refl;
            inside = two.inside;
            operand = two.left;
            holds = tt;
            waits = (bounds-at R.lexed t l h a b p, two.right);
            kept = tt;
            same = works-value n e0 ∙ ap (λ (d : Expr). value n.context.values d >>= worth) v.5 ∙ bounds_same t.at l h (value n.context.values a) (value n.context.values b);
          };
    }

-- the low bound has come
module _ {s : Source} {mem : List ℕ} {m : Machine} (w : Waiting mem m Phase.low) where
  pub low-steps : m.mode ≡ is_number → {mem' : List ℕ} {n : Machine} → Renewed mem mem' m Phase.high 0 m.value 0 (mode_of Evaluate) n → Takes s mem mem' m (Ok (Next n))
  low-steps e q = record {
    turns = λ R x o out t.
        let v = by_phase t.frame Phase.low (top-phase t ∙ w.phase) in
        let p = v.0 in
        let l = v.1 in
        let u = v.2 in
        let c = v.3 in
        let b = v.4 in
        let h = top_as t v.5 in
        let n = came-number R o mem m h.came h.come e in
        follows-last h {G = High p l u m.value} {a = Evaluate} {c = c} {e = b} q (record {
          held-nothing = refl;
          holds-no-words = refl;
          keeps-formula = ap (written m.nodes) n.same;
          fewer = omega arith;
          operand = h.at.waits.1;
          holds = record { here = refl; small = n.small };
          waits = h.at.waits.0;
          kept = tt;
          same = number_then n (λ i. works Evaluate c b >>= bounded p l u i);
        });
  }

-- the high bound has come
module _ {s : Source} {mem : List ℕ} {m : Machine} (w : Waiting mem m Phase.high) where
  pub high-steps : m.mode ≡ is_number → {mem' : List ℕ} {k j i p a : ℕ} {low : Bool} (r : Returned ℕ) → k ≡ get_or mem (m.frames + entry_field) 0 → j ≡ number_at s.work k → low ≡ strict_at j
      → i ≡ kind_at s.work k → p ≡ place_at s.work k → a ≡ get_or mem (m.frames + value_field) 0 → SetAt mem mem' m.top r (between p low (without_high i) a m.value) → Takes s mem mem' m (made m m.top r)
  high-steps e {mem'} {k} {j} {i} {p} {a} {low} r ek ej el ei ep ea g = record {
    turns = λ R x o out t.
        let v = by_phase t.frame Phase.high (top-phase t ∙ w.phase) in
        let l = v.1 in
        let u = v.2 in
        let h = top_as t v.4 in
        let n = came-number R o mem m h.came h.come e in
        let at : OpAt s k (Bounds l u) v.0 = subst (λ (j : ℕ). OpAt s j (Bounds l u) v.0) (sym (ek ∙ entry_word_lem h)) h.at.waits in
        let same_place : p ≡ v.0 = ep ∙ at.place in
        let same_number : a ≡ v.3 = ea ∙ value-word h ∙ h.at.holds.here in
        let same_low : low ≡ l = el ∙ ap strict_at ej ∙ sym at.spelt in
        let same-high : without_high i ≡ u = ap without_high (ei ∙ at.kind) ∙ high_of u in
        let hi = h.at.high in
        let ro = h.at.room in
        let same_set : between p low (without_high i) a m.value ≡ between v.0 l u v.3 m.value = ap₂ (λ (j y : ℕ). between j low (without_high i) y m.value) same_place same_number
        ∙ ap₂ (λ (y z : Bool). between v.0 y z v.3 m.value) same_low same-high in
        makes h r (record {
          no_forms = refl;
          no_name = refl;
          no_body = refl;
          value = Number m.value;
          came-is = n.same;
          base-is = flat-top h {phase = Phase.high} refl;
          set = g.set;
          kept = g.kept;
          room = omega arith;
          sane = between_sane p low (without_high i) a m.value n.small;
          same = number_then n (λ j. between v.0 l u v.3 j >>= λ y. worth (Set y)) ∙ ap (λ y. y >>= λ y. worth (Set y)) (sym same_set);
        });
  }

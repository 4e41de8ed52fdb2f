-- SIZEOF: the bus, then its width.
use Rattle.std.specs.Prelude.{ℕ, ◌+◌, ◌*◌, ◌<◌, List, ◌≡◌, length, Ok, Err}
use Rattle.std.proofs.Math.Path.{refl, ap}
use Rattle.std.proofs.Common.{sym, ◌∙◌, arith}
use Rattle.node.specs.Result.{Result, Done, Refused, ◌>>=◌}
use Rattle.node.specs.Returned.{refusal}
use Rattle.machine.specs.declared.Move.TheVariants.{Next}
use Rattle.language.specs.Limits.{max_names}
use Rattle.language.specs.Operators.{WidthOf}
use Rattle.language.specs.Tree.{Expr, Prefixed}
use Rattle.language.specs.Values.{Value, Number, Bus, Sized, misfit, bus, value}
use Rattle.entries.specs.Kinds as Kind
use Rattle.name_values.proofs.KnownLaws.{known-prefixed}
use Rattle.operands.specs.Entries.{kind_at}
use Rattle.operands.specs.Classes.{class_of}
use Rattle.operands.specs.Working.{Source}
use Rattle.machine.specs.Fields.{note_number}
use Rattle.machine.specs.Phases as Phase
use Rattle.machine.specs.Came.{Evaluate, Came, Worth, Nodes, worth, as_value}
use Rattle.machine.specs.Frames.{Width, apply}
use Rattle.machine.specs.Realm.{Realm}
use Rattle.machine.specs.Memory.{note_words, note_at}
use Rattle.machine.specs.Telling.{is_number, is_bus, is_unsized}
use Rattle.machine.specs.Table.{Began}
use Rattle.machine.specs.States.{Come, Topped, Takes}
use Rattle.machine.specs.FrameViews.{by_phase}
use Rattle.machine.specs.Moves.{came, popped}
use Rattle.machine.specs.TakeLaws.{refuses, top-phase, top_as, note_under}
use Rattle.machine.specs.StartLaws.{StartsOne}
use Rattle.machine.specs.FlatLaws.{yields}
use Rattle.machine.specs.ContractLaws.{takes-next}
use Rattle.machine.specs.OperandLaws.{operand-view, operand_as, one-operand}
use Rattle.machine.specs.declared.Machine.{Machine}
use Rattle.machine.specs.Entering.{Evaluates, Waiting}
use Rattle.machine.specs.EnteringLaws.{works-value}
use Rattle.machine.specs.FactLaws.{noted_width}
use Rattle.machine.specs.TellLaws.{tells-bus, tells_unsized, tells_no_bus, came-value}

-- the clause as its frame has it
width_same : (a : Result Value) → ((a >>= bus >>= λ b. Done (Number b.width)) >>= worth) ≡ ((a >>= worth) >>= λ v. as_value v >>= bus >>= λ b. worth (Number b.width))
unfolding ◌>>=◌
width_same (Done v) = go (bus v)
  where
    go : (r : Result Sized) → ((r >>= λ b. Done (Number b.width)) >>= worth) ≡ (r >>= λ b. worth (Number b.width))
    go (Done b) = refl
    go (Refused n p) = refl
width_same (Refused n p) = refl

-- the entry: the bus is worked out first
pub width-starts : {s : Source} {mem : List ℕ} {m : Machine} → Evaluates s.work m Kind.width Kind.unary → StartsOne s mem m Phase.width Evaluate
width-starts {s} {mem} {m} k =
    let e0 = k.mode in
    let l0 = k.from in
    let u0 = k.until in
    let kind : kind_at s.work m.value ≡ Kind.width = omega arith in
    record {
      entry = omega arith;
      few_turns = omega arith;
      starting = λ R x o out n.
          let v = operand-view n.at.operand (ap class_of kind) in
          let t = v.0 in
          let a = v.1 in
          let p = operand_as n.at.operand {d = Prefixed t WidthOf a} v.2 in
          let one = one-operand p (Kind.before WidthOf) t a p.known.at (known-prefixed t WidthOf a p.known) in
          record {
            frame = Width;
            first = a;
            holds_nothing = refl;
            inside = one.inside;
            operand = one.operand;
            holds = tt;
            waits = tt;
            kept = tt;
            same = works-value n e0 ∙ ap (λ (d : Expr). value n.context.values d >>= worth) v.2 ∙ width_same (value n.context.values a);
          };
    }

-- a bus before its turn, and whatever is no bus
module _ {s : Source} (R : Realm s) (o : Began) (mem : List ℕ) (m : Machine) where
  not-sized : (v : Came) → Come R o mem m v → m.mode ≡ is_unsized → apply Width v ≡ Refused 13 m.value
  unfolding ◌>>=◌
  not-sized (Worth v) c e = ap (λ (u : Value). apply Width (Worth u)) (tells_unsized R.W m.mode m.value m.from v c.tells e)
  not-sized (Nodes f) c e = absurd (omega arith)

  no_bus : (v : Came) → Come R o mem m v → (m.mode ≡ is_bus → ⊥) → (m.mode ≡ is_unsized → ⊥) → apply Width v ≡ misfit
  unfolding ◌>>=◌
  no_bus (Worth v) c e d = ap (λ (r : Result Sized). r >>= λ b. worth (Number b.width)) (tells_no_bus R.W m.mode m.value m.from v c.tells e d)
  no_bus (Nodes f) c e d = refl

bus-width : (v : Came) {p : ℕ} {x : List ℕ} {n : ℕ} → v ≡ Worth (Bus p x n) → apply Width v ≡ worth (Number n)
unfolding ◌>>=◌
bus-width v e = rw e

-- the bus has come
module _ {s : Source} {mem : List ℕ} {m : Machine} (w : Waiting mem m Phase.width) where
  pub sized_unsized : m.mode ≡ is_unsized → Takes s mem mem m (Err (refusal 13 m.value))
  sized_unsized e = record {
    turns = λ R x o out t.
        let v = by_phase t.frame Phase.width (top-phase t ∙ w.phase) in
        let h = top_as t v in
        refuses h (not-sized R o mem m h.came h.come e);
  }

  pub sized-misfits : (m.mode ≡ is_bus → ⊥) → (m.mode ≡ is_unsized → ⊥) → Takes s mem mem m (Err (refusal 9 0))
  sized-misfits e d = record {
    turns = λ R x o out t.
        let v = by_phase t.frame Phase.width (top-phase t ∙ w.phase) in
        let h = top_as t v in
        refuses h (no_bus R o mem m h.came h.come e d);
  }

  module _ (e : m.mode ≡ is_bus) where
    -- its note lies in the memory
    pub sized_inside : Topped s mem m → (m.from < max_names) × (note_words * m.from + 3 < length mem)
    sized_inside t =
        let h = t.top.top in
        let u = came-value t.realm t.began mem m h.came h.come (λ z. omega arith) in
        let d = (tells-bus t.realm.W m.mode m.value m.from u.value u.tells e).declared in
        (d, note_under h d)

    pub sized-steps : {n : ℕ} {k r : Machine} → k ≡ popped m → r ≡ came k is_number n 0 → n ≡ note_at mem m.from note_number → Takes s mem mem m (Ok (Next r))
    sized-steps {n} ek er en = takes-next (er ∙ ap (λ (y : Machine). came y is_number n 0) ek) (record {
      turns = λ R x o out t.
          let v = by_phase t.frame Phase.width (top-phase t ∙ w.phase) in
          let h = top_as t v in
          let u = came-value R o mem m h.came h.come (λ z. omega arith) in
          let g = tells-bus R.W m.mode m.value m.from u.value u.tells e in
          let same = u.same ∙ ap Worth g.same in
          let same_width : n ≡ g.width = en ∙ noted_width (h.noted.facts m.from g.declared) g.means in
          let small = g.small in
          yields h {phase = Phase.width} refl same (Number n) (bus-width h.came same ∙ ap (λ (i : ℕ). worth (Number i)) (sym same_width))
          (record { mode_is = refl; value-is = refl; small = omega arith }) tt;
    })

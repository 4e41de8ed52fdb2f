-- A set in braces: its first element is worked out first.
use Rattle.std.specs.Prelude.{ℕ, ◌+◌, ◌-◌, ◌≤◌, ◌<◌, true, false, List, [], ◌≡◌, refl, length, Ok}
use Rattle.std.proofs.Math.Option.{some}
use Rattle.std.proofs.Common.{ap, ◌∙◌, subst, arith}
use Rattle.node.specs.Result.{Result, Done, ◌>>=◌, guard}
use Rattle.node.proofs.ResultLaws.{bind_again}
use Rattle.machine.specs.declared.Move.TheVariants.{Next, Short}
use Rattle.language.specs.Tokens.{Token}
use Rattle.language.specs.Tree.{Expr, Listed}
use Rattle.language.specs.Sets.{insert}
use Rattle.language.specs.Values.{Value, Set, set, limited, value}
use Rattle.entries.specs.Kinds as Kind
use Rattle.entries.specs.Flat.{flat}
use Rattle.name_values.proofs.KnownLaws.{own-more, known-listed}
use Rattle.operands.specs.Entries.{kind_at, size_at}
use Rattle.operands.specs.Classes.{class_of}
use Rattle.operands.specs.ClassLaws.{has_entry, place_is, size_is}
use Rattle.operands.specs.Working.{Source}
use Rattle.machine.specs.Phases as Phase
use Rattle.machine.specs.Came.{Evaluate, Came, worth}
use Rattle.machine.specs.Frames.{Elements, inserts}
use Rattle.machine.specs.Realm.{OperandIn, Operand, Realm}
use Rattle.machine.specs.Memory.{frame_words, reserve, spare, on_top, Framed}
use Rattle.machine.specs.MemoryLaws.{held_none}
use Rattle.machine.specs.Telling.{is_set}
use Rattle.machine.specs.Table.{Began}
use Rattle.machine.specs.States.{mode_of, Ready, Steps}
use Rattle.machine.specs.StateLaws.{Entered, entered}
use Rattle.machine.specs.EnterLaws.{comes, entry_few, pushes_in}
use Rattle.machine.specs.Moves.{came}
use Rattle.machine.specs.Openings.{opened}
use Rattle.machine.specs.BindLaws.{set_last}
use Rattle.machine.specs.OperandLaws.{operand-view, operand_as}
use Rattle.machine.specs.declared.Machine.{Machine}
use Rattle.machine.specs.Entering.{Evaluates}
use Rattle.machine.specs.EnteringLaws.{works-value}
use Rattle.set_steps.specs.Braces.{element_at, Elementary}
use Rattle.set_steps.specs.InnerLaws.{Further, further, Inner, inner, brace_same, no_more, Filled, filled}

-- the clause as its frame has it
listed_same : (p : ℕ) (a : Result Value) → ((a >>= set >>= limited p >>= λ l. Done (Set l)) >>= worth) ≡ ((a >>= set) >>= λ l. limited p l >>= λ y. worth (Set y))
listed_same p a = set_last (a >>= set >>= limited p) ∙ bind_again (a >>= set) (limited p) _

none_same : (p : ℕ) → ((Done (Set []) >>= set) >>= λ l. limited p l >>= λ y. worth (Set y)) ≡ worth (Set [])
unfolding ◌>>=◌ guard
none_same p = refl

-- braces at an entry
record Braces {s : Source} {R : Realm s} {mem out : List ℕ} {m : Machine} {x : Result Came} {o : Began} (n : Entered R mem out m x o) : Type 0 where
  token : Token
  es : Expr
  same : n.tree ≡ Listed token es
  operand : Operand s R.W R.ports n.at.env n.context m.value (Listed token es)
  behind : Further es
  size : size_at s.work m.value ≡ length (flat (Listed token es))

braces : {s : Source} {R : Realm s} {mem out : List ℕ} {m : Machine} {x : Result Came} {o : Began} (n : Entered R mem out m x o) → kind_at s.work m.value ≡ Kind.listed → Braces n
braces n kind =
    let v = operand-view n.at.operand (ap class_of kind) in
    let p = operand_as n.at.operand v.2 in
    record {
      token = v.0;
      es = v.1;
      same = v.2;
      operand = p;
      behind = further v.1 p.known.proper.1;
      size = size_is (Listed v.0 v.1) (has_entry (Listed v.0 v.1) p.known.proper) p.known.at;
    }

first_of : {s : Source} {R : Realm s} {mem out : List ℕ} {m : Machine} {x : Result Came} {o : Began} (n : Entered R mem out m x o) (b : Braces n) (f : Filled b.es)
    → Inner s R.W R.ports n.at.env n.context (m.value - 1) f.head f.others
first_of {s} {R} {m = m} n b f =
    let p = b.operand in
    inner f.head f.others (subst (OperandIn s R.W R.ports true n.at.env n.context (m.value - 1)) f.same
    (record { known = known-listed b.token b.es p.known; small = p.small; ports = p.ports; plain = p.plain }))

listed-kind : {work : List ℕ} {m : Machine} → Evaluates work m Kind.listed Kind.element → kind_at work m.value ≡ Kind.listed
listed-kind k = let e1 = k.from in let e2 = k.until in omega arith

module _ {s : Source} {mem : List ℕ} {m : Machine} (k : Evaluates s.work m Kind.listed Kind.element) where
  -- no element
  pub listing-empty : size_at s.work m.value ≡ 1 → Steps s mem mem m (Ok (Next (came m is_set 0 m.top)))
  listing-empty z = record {
    turns = λ R x o out h.
        let e0 = k.mode in
        let n = entered h (omega arith) in
        let b = braces n (listed-kind k) in
        let u = b.size in
        let l = own-more Kind.listed (some b.token) (flat b.es) in
        let q = no_more b.behind (omega arith) in
        comes n (Set []) {mode = is_set} {value = 0} {from = m.top}
        (works-value n e0 ∙ ap (λ (d : Expr). value n.context.values d >>= worth) b.same ∙ listed_same b.token.at (value n.context.values b.es)
        ∙ ap (λ (d : Expr). (value n.context.values d >>= set) >>= λ l. limited b.token.at l >>= λ y. worth (Set y)) q ∙ none_same b.token.at)
        (record { mode_is = refl; count = refl; fine = record { few = omega arith; ordered = tt } }) (held_none mem m.top, on_top refl);
  }

  pub listing_short : m.frames - m.top < frame_words + reserve + spare + m.value → Steps s mem mem m (Ok Short)
  listing_short l = record {
    turns = λ R x o out h.
        let e0 = k.mode in
        let n = entered h (omega arith) in
        let f = entry_few n in
        record { len = refl; after = record { same = refl; same-table = refl; mode = omega arith; short = omega arith } };
  }

  module _ (z : size_at s.work m.value ≡ 1 → ⊥) where
    pub listing-elementary : Ready s mem m → Elementary s.work (m.value - 1)
    listing-elementary r =
        let e0 = k.mode in
        let n = entered r.state (omega arith) in
        let b = braces n (listed-kind k) in
        let i = first_of n b (filled b.token _ b.behind b.size z) in
        let u = i.under in
        let f = entry_few n in
        record { some = omega arith; few = omega arith; long = r.lent.work; inside = i.inside }

    -- the first element is worked out
    pub listing-steps : {mem' : List ℕ} → m.top + (frame_words + reserve + spare + m.value) ≤ m.frames
        → Framed mem mem' (m.frames - frame_words) (record { phase = Phase.elements; entry = m.value - 1; base = m.top; at = m.top; count = 0; value = m.value; other = 0 })
        → Steps s mem mem' m (Ok (Next (opened m (mode_of Evaluate) (element_at s.work (m.value - 1)))))
    listing-steps ro fr = record {
      turns = λ R x o out h.
          let e0 = k.mode in
          let n = entered h (omega arith) in
          let b = braces n (listed-kind k) in
          let t = b.token in
          let f = filled t _ b.behind b.size z in
          let i = first_of n b f in
          let u = i.under in
          let ctx = n.context in
          pushes_in n {reserved = reserve + m.value} {F = Elements t.at ctx f.others []} {inside = false} {flat = false} {a = Evaluate} {c = ctx} {e = f.head} (record {
            words = record { phase = Phase.elements; entry = m.value - 1; base = m.top; at = m.top; count = 0; value = m.value; other = 0 };
            framed = fr;
            holds_nothing = refl;
            down = omega arith;
            base-is = refl;
            count-is = refl;
            few_turns = omega arith;
            some = omega arith;
            enough = omega arith;
            room = omega arith;
            frames-is = omega arith;
            scope_is = refl;
            depth_is = refl;
            top-is = refl;
            nodes-is = refl;
            mode_is = refl;
            below = i.under;
            env = n.at.env;
            first = n.at.first;
            deep = n.at.deep;
            slotted = n.at.slotted;
            operand = i.element;
            holds = record { at_base = refl; small = tt; room = omega arith };
            waits = record { few = entry_few n; last = i.last; place = place_is R.lexed Kind.listed t (flat b.es) b.operand.known.at; rest = i.rest };
            kept = tt;
            same = works-value n e0 ∙ ap (λ (d : Expr). value ctx.values d >>= worth) b.same ∙ listed_same t.at (value ctx.values b.es)
                ∙ ap (λ (d : Expr). (value ctx.values d >>= set) >>= λ l. limited t.at l >>= λ y. worth (Set y)) f.same
                ∙ brace_same (value ctx.values f.head) (value ctx.values f.others >>= set) (λ l. limited t.at l >>= λ y. worth (Set y))
                (λ j l. limited t.at (inserts [] (insert j l)) >>= λ y. worth (Set y)) (λ j l. refl);
          });
    }

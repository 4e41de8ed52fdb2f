-- A bit of a bus: its index, then its name.
use Rattle.std.specs.Prelude.{ℕ, zero, suc, ◌+◌, ◌-◌, ◌*◌, ◌≤◌, ◌<◌, ◌^◌, min, List, [], ◌≡◌, refl, length, get_or, Ok, Err}
use Rattle.std.proofs.Math.Option.{some}
use Rattle.std.proofs.Common.{sym, ap, ◌∙◌, subst, arith, add-zero}
use Rattle.node.specs.Limits.{max_nodes, field_limit}
use Rattle.node.specs.Ltl.{Formula}
use Rattle.node.specs.Result.{Result, Done, Refused, ◌>>=◌}
use Rattle.node.proofs.ResultLaws.{bind_at, bind_to, bind_refused}
use Rattle.node.specs.Returned.{refusal}
use Rattle.machine.specs.declared.Move.TheVariants.{Next}
use Rattle.writing.specs.Writing.{Wrote}
use Rattle.language.specs.Limits.{max_names}
use Rattle.language.specs.Tokens.{Token}
use Rattle.language.specs.Tree.{Expr, Index}
use Rattle.language.specs.DeclaredNames.{Port}
use Rattle.language.specs.Values.{Value, Sized, number, bus, value}
use Rattle.language.specs.Expansion.{Context, bit_at, signal_node, expansion}
use Rattle.entries.specs.Kinds as Kind
use Rattle.entries.specs.Flat.{flat}
use Rattle.name_values.specs.World.{Meaning, Before, name_value, meaning_at}
use Rattle.name_values.specs.Agrees.{Uses}
use Rattle.name_values.proofs.AgreesLaws.{denote-bound}
use Rattle.name_values.proofs.KnownLaws.{known-index, own-more}
use Rattle.name_values.proofs.UsedLaws.{used-value}
use Rattle.name_values.specs.Sorts as Sort
use Rattle.operands.specs.Entries.{kind_at, place_at}
use Rattle.operands.specs.ClassLaws.{place_is}
use Rattle.operands.specs.Working.{Source}
use Rattle.operands.specs.Makings.{making_of}
use Rattle.machine.specs.Fields.{entry_field, note_number, note_address}
use Rattle.machine.specs.Phases as Phase
use Rattle.machine.specs.Came.{Evaluate, Came, worth, nodes, works, as_number, as_value}
use Rattle.machine.specs.Frames.{Indexed, BitOf, apply}
use Rattle.machine.specs.Realm.{Realm}
use Rattle.machine.specs.Memory.{note_words, note_at, nowhere, Framed}
use Rattle.machine.specs.MemoryLaws.{held_none, slotted_none, agree_same}
use Rattle.machine.specs.Notes.{Fact}
use Rattle.machine.specs.Telling.{is_number}
use Rattle.machine.specs.Table.{Began}
use Rattle.machine.specs.States.{mode_of, Turned, TopOf, ToppedToWrite, TakesToWrite}
use Rattle.machine.specs.Moves.{wrote, popped}
use Rattle.machine.specs.ComeLaws.{IsNumber, came-number}
use Rattle.machine.specs.FrameViews.{by_phase}
use Rattle.machine.specs.TakeLaws.{words, entry_word_lem, room-under, refuses, goes, top-phase, top_as, note_under}
use Rattle.machine.specs.StartLaws.{StartsOne}
use Rattle.machine.specs.FlatLaws.{flat-top, flat_scope, flat-depth, flat-laid, weight_falls}
use Rattle.machine.specs.BindLaws.{take-number, then_nodes}
use Rattle.machine.specs.OperandLaws.{topped_to_write-entry, operand_as, one-operand}
use Rattle.machine.specs.declared.Machine.{Machine}
use Rattle.machine.specs.Entering.{Expands, Waiting}
use Rattle.machine.specs.EnteringLaws.{works-formula, operand_making}
use Rattle.value_steps.specs.NameLaws.{note_first}
use Rattle.atom_steps.specs.WriteLaws.{writes-after}
use Rattle.atom_steps.specs.SignalLaws.{bit_in, bit_out, signal-fits, signal-wrote}
use Rattle.atom_steps.specs.Signals.{Signalled}

-- the clause as its frame has it
index_same : (ps : List Port) (a v : Result Value) → ((a >>= number >>= λ i. v >>= bus >>= bit_at ps i) >>= nodes) ≡ ((a >>= worth) >>= λ u. as_number u >>= λ i. v >>= bus >>= bit_at ps i >>= nodes)
index_same ps a v = then_nodes (a >>= number) _ (λ i. v >>= bus >>= bit_at ps i >>= nodes) (λ i. refl) ∙ sym (take-number a (λ i. v >>= bus >>= bit_at ps i >>= nodes))

-- the entry: the index is worked out first
pub index-starts : {s : Source} {mem : List ℕ} {m : Machine} → Expands s.work m Kind.index Kind.paren → StartsOne s mem m Phase.indexed Evaluate
index-starts {s} {mem} {m} k =
    let e0 = k.mode in
    let k0 = k.from in
    let k1 = k.until in
    let kind : kind_at s.work m.value ≡ Kind.index = omega arith in
    record {
      entry = omega arith;
      few_turns = omega arith;
      starting = λ R x o out n.
          let c = n.context in
          let v = operand_making n.at.operand (ap making_of kind) in
          let t = v.0 in
          let a = v.1 in
          let p = operand_as n.at.operand {d = Index t a} v.2 in
          let one = one-operand p Kind.index t a p.known.at (known-index t a p.known) in
          record {
            frame = Indexed c t;
            first = a;
            holds_nothing = refl;
            inside = one.inside;
            operand = one.operand;
            holds = tt;
            waits = record {
              limit = p.known.limit;
              before = (let l = p.known.within in let z = own-more Kind.index (some t) (flat a) in omega arith);
              uses = p.known.agrees.0;
              place = place_is R.lexed Kind.index t (flat a) p.known.at;
              ports = p.ports;
            };
            kept = tt;
            same = works-formula n e0 ∙ ap (λ (d : Expr). expansion c d >>= nodes) v.2 ∙ index_same c.ports (value c.values a) (c.values t);
          };
    }

-- the body of a definition for its name
body_same : (ps : List Port) (i : ℕ) (v : Result Value) → (v >>= bus >>= bit_at ps i >>= nodes) ≡ ((v >>= worth) >>= λ u. as_value u >>= bus >>= bit_at ps i >>= nodes)
unfolding ◌>>=◌
body_same ps i (Done v) = refl
body_same ps i (Refused n p) = refl

-- the next state where the body at entry n is worked out
abbrev pub within-body : Machine → ℕ → Machine
within-body m n =
    record { mode = mode_of Evaluate; value = n; from = 0; scope = m.depth; depth = m.depth; top = m.top; frames = m.frames; nodes = m.nodes }

-- the index has come
module _ {s : Source} {mem out : List ℕ} {m : Machine} (w : Waiting mem m Phase.indexed) where
  -- the scope can be noted in a word
  pub indexed_scope : ToppedToWrite s mem out m → m.scope < 2 ^ 32
  indexed_scope t =
      let v = by_phase t.top.frame Phase.indexed (top-phase t.top ∙ w.phase) in
      let h = top_as t.top v.2 in
      let e = flat_scope h refl in
      let d = h.at.width in
      let a = h.at.slots in
      let u = room-under h in
      let u1 = u.values in
      let u2 = u.words in
      let u3 = u.inside in
      let l = t.lent.small in
      omega arith

  -- the frame's entry, and the reference of the name there
  module _ (e : m.mode ≡ is_number) {k r : ℕ} (ek : k ≡ get_or mem (m.frames + entry_field) 0) (er : r ≡ get_or s.refs k 0) where
    module _ {R : Realm s} {x : Result Came} {o : Began} {c : Context} {t : Token} (h : TopOf R mem out m x o (Indexed c t)) where
      abbrev limit : ℕ
      limit = h.at.waits.limit

      same-entry : k ≡ (words h).entry
      same-entry = ek ∙ entry_word_lem h

      uses : Uses R.W limit h.footing.env r t c
      uses = subst (λ (i : ℕ). Uses R.W limit h.footing.env i t c) (sym (er ∙ ap (λ (i : ℕ). get_or s.refs i 0) same-entry)) h.at.waits.uses

      index : IsNumber m h.came
      index = came-number R o mem m h.came h.come e

      -- what is made of the bus that the name stands for
      looks-up : apply (Indexed c t) h.came ≡ (c.values t >>= bus >>= bit_at R.ports m.value >>= nodes)
      looks-up =
          ap (apply (Indexed c t)) index.same ∙ bind_at m.value (λ i. c.values t >>= bus >>= bit_at c.ports i >>= nodes)
          ∙ ap (λ (ps : List Port). c.values t >>= bus >>= bit_at ps m.value >>= nodes) h.at.waits.ports

      stops : {number place : ℕ} → (c.values t >>= bus) ≡ Refused number place → Turned R mem mem out out m x o (Err (refusal number place))
      stops {number} {place} q = refuses h (looks-up ∙ bind_refused _ number place nodes (bind_refused _ number place _ q))

      stands_for_lem : {v : Value} → c.values t ≡ Done v → (c.values t >>= bus) ≡ bus v
      stands_for_lem {v} q = bind_to _ v bus q

    -- a big operator's name stands for a number
    pub element-misfits : max_names ≤ r → TakesToWrite s mem mem out out m (Err (refusal 9 0))
    element-misfits l = record {
      turns = λ R x o t.
          let v = by_phase t.frame Phase.indexed (top-phase t ∙ w.phase) in
          let h = top_as t v.2 in
          let u = uses h in
          stops h (stands_for_lem h (u.stands ∙ denote-bound R.W h.footing.env (r - max_names) r v.1 (omega arith)));
    }

    module _ (l : r < max_names) {sort n : ℕ} (es : sort ≡ get_or mem (note_words * r) 0) (en : n ≡ note_at mem r note_number) where
      module _ {R : Realm s} {x : Result Came} {o : Began} {c : Context} {t : Token} (h : TopOf R mem out m x o (Indexed c t)) where
        fact : Fact s mem (meaning_at R.W r) sort n (note_at mem r note_address)
        fact = subst (λ (i : ℕ). Fact s mem (meaning_at R.W r) i n (note_at mem r note_address)) (sym (es ∙ note_first mem r))
            (subst (λ (i : ℕ). Fact s mem (meaning_at R.W r) (note_at mem r 0) i (note_at mem r note_address)) (sym en) (h.noted.facts r l))

        named : {v : Meaning} → meaning_at R.W r ≡ v → c.values t ≡ name_value v t
        named q = used-value (uses h) l ∙ ap (λ (y : Meaning). name_value y t) q

        place_of : place_at s.work k ≡ t.at
        place_of = ap (place_at s.work) (same-entry h) ∙ h.at.waits.place

      pub nothing-refuses : sort ≡ Sort.nothing → TakesToWrite s mem mem out out m (Err (refusal 6 0))
      nothing-refuses z = record {
        turns = λ R x o t.
            let v = by_phase t.frame Phase.indexed (top-phase t ∙ w.phase) in
            let h = top_as t v.2 in
            stops h (bind_refused _ 6 0 bus (named h ((fact h).nothing z)));
      }

      -- a number, a single signal, a set, an identifier
      pub others-misfit : (sort ≡ Sort.body → ⊥) → (sort ≡ Sort.nothing → ⊥) → (sort ≡ Sort.bus → ⊥) → TakesToWrite s mem mem out out m (Err (refusal 9 0))
      others-misfit a b d = record {
        turns = λ R x o t.
            let v = by_phase t.frame Phase.indexed (top-phase t ∙ w.phase) in
            let h = top_as t v.2 in
            stops h (go h sort refl);
      }
        where
          go : {R : Realm s} {x : Result Came} {o : Began} {c : Context} {t : Token} (h : TopOf R mem out m x o (Indexed c t)) (i : ℕ) → sort ≡ i → (c.values t >>= bus) ≡ Refused 9 0
          go {t = t} h zero z = stands_for_lem h (used-value (uses h) l ∙ ((fact h).number z).stands t)
          go h (suc zero) z = absurd (a z)
          go h (suc (suc zero)) z = absurd (d z)
          go h (suc (suc (suc zero))) z = stands_for_lem h (named h ((fact h).signal z))
          go {t = t} h (suc (suc (suc (suc zero)))) z = stands_for_lem h (used-value (uses h) l ∙ ((fact h).set z).stands t)
          go h (suc (suc (suc (suc (suc zero))))) z = stands_for_lem h (named h ((fact h).identifier z).identifies)
          go h (suc (suc (suc (suc (suc (suc zero)))))) z = absurd (b z)
          go h (suc (suc (suc (suc (suc (suc (suc i))))))) z = let y = (fact h).sorted in absurd (omega arith)

      module _ (z : sort ≡ Sort.bus) where
        -- not yet sized, or too narrow
        pub bit-refuses : n ≤ m.value → {p : ℕ} → p ≡ place_at s.work k → TakesToWrite s mem mem out out m (Err (refusal 13 p))
        bit-refuses d {p} ep = record {
          turns = λ R x o t.
              let v = by_phase t.frame Phase.indexed (top-phase t ∙ w.phase) in
              let h = top_as t v.2 in
              refuses h (looks-up h ∙ bind_refused _ 13 p nodes (go R h n refl));
        }
          where
            go : (R : Realm s) {x : Result Came} {o : Began} {c : Context} {t : Token} (h : TopOf R mem out m x o (Indexed c t)) (i : ℕ) → n ≡ i → (c.values t >>= bus >>= bit_at R.ports m.value) ≡ Refused 13 p
            go R h zero q = bind_refused _ 13 p _ (stands_for_lem h (named h (((fact h).bus z).waiting q)) ∙ ap (Refused 13) (sym (ep ∙ place_of h)))
            go R {t = t} h (suc i) q =
                let b : Sized = record { place = t.at; name = t.text; width = n } in
                bind_to _ b _ (stands_for_lem h (named h (((fact h).bus z).sized (omega arith)))) ∙ bit_out R.ports m.value b d ∙ ap (Refused 13) (sym (ep ∙ place_of h))

        module _ (d : m.value < n) where
          pub bit-fits : ToppedToWrite s mem out m → m.nodes ≤ max_nodes → note_at mem r note_address + m.value < field_limit
          bit-fits t =
              let v = by_phase t.top.frame Phase.indexed (top-phase t.top ∙ w.phase) in
              let h = top_as t.top v.2 in
              signal-fits h r m.value n l (((fact h).bus z).sized (omega arith)) d

          pub bit-steps : {out' : List ℕ} {i q : ℕ} → Signalled (note_at mem r note_address) m.value out out' m.nodes i → q ≡ min i (suc max_nodes) → TakesToWrite s mem mem out out' m (Ok (Next (wrote (popped m) q)))
          bit-steps {out'} {i} g eq = record {
            turns = λ R x o t.
                let v = by_phase t.frame Phase.indexed (top-phase t ∙ w.phase) in
                let c = v.0 in
                let y = v.1 in
                let h = top_as t v.2 in
                let wide = ((fact h).bus z).sized (omega arith) in
                let b : Sized = record { place = y.at; name = y.text; width = n } in
                let f : Formula = signal_node R.ports y.text m.value in
                let done : (c.values y >>= bus >>= bit_at R.ports m.value) ≡ Done f = bind_to _ b _ (stands_for_lem h (named h wide)) ∙ bit_in R.ports m.value b d in
                let q = subst (λ (j : List ℕ). Wrote (signal_node R.ports j m.value) out out' m.nodes i) ((uses h).spelt l) (signal-wrote h r m.value n l wide g) in
                writes-after h {phase = Phase.indexed} refl (index h).same f (looks-up h ∙ bind_to _ f nodes done) q eq;
          }

      -- a definition: its body is worked out, and a frame waits to take the bit
      pub body-steps : sort ≡ Sort.body → {mem' : List ℕ} {scope i : ℕ} → scope ≡ m.scope → i ≡ m.value
          → Framed mem mem' m.frames (record { phase = Phase.bit_of; entry = k; base = m.top; at = i; count = 0; value = scope; other = 0 }) → TakesToWrite s mem mem' out out m (Ok (Next (within-body m n)))
      body-steps z {mem'} {scope} {i} ec ei f = record {
        turns = λ R x o t.
            let v = by_phase t.frame Phase.indexed (top-phase t ∙ w.phase) in
            let c = v.0 in
            let y = v.1 in
            let h = top_as t v.2 in
            let u = uses h in
            let b = (fact h).body z in
            let bc = b.context in
            let be = b.expr in
            let ft = flat-top h refl in
            let fs = flat_scope h refl in
            let fd = flat-depth h refl in
            let se = same-entry h in
            let so = h.at.some in
            let ae = h.at.entry in
            let bf = h.at.waits.before in
            let early : n < limit h = subst (Before (limit h)) b.defines (u.earlier l) in
            let fi = h.at.first in
            let wd = h.at.width in
            goes h {G = BitOf c m.value} {a = Evaluate} {c = bc} {e = be} {mem₁ = mem} (record {
              new = record { phase = Phase.bit_of; entry = k; base = m.top; at = i; count = 0; value = scope; other = 0 };
              framed = f;
              phased = refl;
              base-is = ft;
              some = omega arith;
              down = omega arith;
              agree = agree_same;
              frames-is = refl;
              scope_is = fd;
              deep = fd ∙ sym (add-zero h.footing.depth);
              lower = omega arith;
              high = omega arith;
              level = λ q. ft;
              counted = refl;
              held = held_none mem i;
              lies = nowhere refl;
              held_fold = held_none mem 0;
              lies_fold = nowhere refl;
              holds = record { scope_is = ec ∙ fs; index_is = ei; small = (index h).small };
              waits = h.at.waits.ports;
              mode_is = refl;
              below = omega arith;
              env = [];
              first = omega arith;
              width = sym (add-zero m.depth);
              slotted = slotted_none mem m.depth;
              operand = R.bodies r n bc be b.defines;
              laid = flat-laid h refl (index h).same;
              few = h.few;
              noted = h.noted;
              lasting = h.lasting;
              less = weight_falls Phase.bit_of Phase.indexed (words h).entry 0 (words h).count (omega arith) se h.at.phased;
              kept = tt;
              same = looks-up h ∙ ap (λ (q : Result Value). q >>= bus >>= bit_at R.ports m.value >>= nodes) (named h b.defines)
                  ∙ body_same R.ports m.value (value bc.values be)
                  ∙ ap (λ (ps : List Port). works Evaluate bc be >>= λ q. as_value q >>= bus >>= bit_at ps m.value >>= nodes) (sym h.at.waits.ports);
            });
      }

-- what is read can be read
pub reference-inside : {s : Source} {mem out : List ℕ} {m : Machine} → ToppedToWrite s mem out m → get_or mem (m.frames + entry_field) 0 < length s.refs
reference-inside t = let f = (topped_to_write-entry t).few in let l = t.lent.refs in omega arith

pub note_inside : {s : Source} {mem out : List ℕ} {m : Machine} {r : ℕ} → ToppedToWrite s mem out m → r < max_names → note_words * r + 3 < length mem
note_inside t l = note_under t.top.top l

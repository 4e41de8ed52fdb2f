-- A bit of what the body of a definition has come to.
use Rattle.std.specs.Prelude.{ℕ, suc, ◌+◌, ◌≤◌, ◌<◌, min, List, ◌++◌, ◌≡◌, refl, get_or, Ok, Err}
use Rattle.std.proofs.Common.{ap, ◌∙◌, subst, arith, add-zero}
use Rattle.node.specs.Limits.{max_nodes, field_limit}
use Rattle.node.specs.Ltl.{Formula}
use Rattle.node.specs.Result.{Result, Refused, ◌>>=◌}
use Rattle.node.proofs.ResultLaws.{bind_at, bind_to, bind_refused}
use Rattle.node.specs.Returned.{refusal}
use Rattle.machine.specs.declared.Move.TheVariants.{Next}
use Rattle.language.specs.Limits.{max_names}
use Rattle.language.specs.DeclaredNames.{Port}
use Rattle.language.specs.Values.{Sized, misfit, bus}
use Rattle.language.specs.Expansion.{Context, bit_at, signal_node}
use Rattle.name_values.specs.World.{name_at}
use Rattle.operands.specs.Working.{Source}
use Rattle.machine.specs.Fields.{at_field, value_field, note_number, note_address}
use Rattle.machine.specs.Phases as Phase
use Rattle.machine.specs.Came.{Came, Worth, Nodes, nodes, as_value}
use Rattle.machine.specs.Frames.{BitOf, apply}
use Rattle.machine.specs.Realm.{Realm}
use Rattle.machine.specs.Memory.{frame_words, note_at}
use Rattle.machine.specs.MemoryLaws.{agree_same}
use Rattle.machine.specs.Holding.{forms_of}
use Rattle.machine.specs.Telling.{is_bus, is_unsized, is_nodes}
use Rattle.machine.specs.Table.{Began}
use Rattle.machine.specs.TableLaws.{laid_as, laid_more, wrote-capped, lasting_stays}
use Rattle.machine.specs.States.{Come, written, Turned, TopOf, ToppedToWrite, TakesToWrite}
use Rattle.machine.specs.FrameViews.{by_phase}
use Rattle.machine.specs.TakeLaws.{at-word, value-word, refuses, pops, top-phase, top_as}
use Rattle.machine.specs.declared.Machine.{Machine}
use Rattle.machine.specs.Entering.{Waiting}
use Rattle.machine.specs.TellLaws.{IsBus, tells-bus, tells_unsized, tells_no_bus, IsValue, came-value}
use Rattle.machine.specs.FactLaws.{noted_width}
use Rattle.atom_steps.specs.SignalLaws.{bit_in, bit_out, signal-fits, signal-wrote}
use Rattle.atom_steps.specs.Signals.{Signalled}
use Rattle.writing.specs.StayLaws.{wrote_stays}

-- the next state: a formula was written, and the names of the use are visible again
abbrev pub wrote-back : Machine → (scope n : ℕ) → Machine
wrote-back m scope n = record { mode = is_nodes; value = 0; from = 0; scope = scope; depth = m.depth; top = m.top; frames = m.frames + frame_words; nodes = n }

no_bus : {s : Source} (R : Realm s) (o : Began) (mem : List ℕ) (m : Machine) (v : Came) → Come R o mem m v → (m.mode ≡ is_unsized → ⊥) → (m.mode ≡ is_bus → ⊥) → (as_value v >>= bus) ≡ misfit
no_bus R o mem m (Worth v) c a b = bind_at v bus ∙ tells_no_bus R.W m.mode m.value m.from v c.tells b a
no_bus R o mem m (Nodes f) c a b = bind_refused _ 9 0 bus refl

module _ {s : Source} {mem out : List ℕ} {m : Machine} (w : Waiting mem m Phase.bit_of) where
  module _ {R : Realm s} {x : Result Came} {o : Began} {c : Context} {i : ℕ} (h : TopOf R mem out m x o (BitOf c i)) where
    takes : apply (BitOf c i) h.came ≡ (as_value h.came >>= bus >>= bit_at R.ports i >>= nodes)
    takes = ap (λ (ps : List Port). as_value h.came >>= bus >>= bit_at ps i >>= nodes) h.at.waits

    stops : {number place : ℕ} → (as_value h.came >>= bus) ≡ Refused number place → Turned R mem mem out out m x o (Err (refusal number place))
    stops {number} {place} q = refuses h (takes ∙ bind_refused _ number place nodes (bind_refused _ number place _ q))

  pub bit-misfits : (m.mode ≡ is_unsized → ⊥) → (m.mode ≡ is_bus → ⊥) → TakesToWrite s mem mem out out m (Err (refusal 9 0))
  bit-misfits a b = record {
    turns = λ R x o t.
        let v = by_phase t.frame Phase.bit_of (top-phase t ∙ w.phase) in
        let h = top_as t v.2 in
        stops h (no_bus R o mem m h.came h.come a b);
  }

  pub bit_unsized : m.mode ≡ is_unsized → TakesToWrite s mem mem out out m (Err (refusal 13 m.value))
  bit_unsized e = record {
    turns = λ R x o t.
        let v = by_phase t.frame Phase.bit_of (top-phase t ∙ w.phase) in
        let h = top_as t v.2 in
        let g = came-value R o mem m h.came h.come (λ z. absurd (omega arith)) in
        stops h (ap (λ (y : Came). as_value y >>= bus) g.same ∙ bind_at g.value bus ∙ ap bus (tells_unsized R.W m.mode m.value m.from g.value g.tells e));
  }

  -- a bus has come
  module _ (e : m.mode ≡ is_bus) where
    module _ {R : Realm s} {x : Result Came} {o : Began} {c : Context} {i : ℕ} (h : TopOf R mem out m x o (BitOf c i)) where
      came : IsValue R m h.came
      came = came-value R o mem m h.came h.come (λ z. absurd (omega arith))

      is-bus : IsBus R.W m.value m.from came.value
      is-bus = tells-bus R.W m.mode m.value m.from came.value came.tells e

      abbrev sized : Sized
      sized = record { place = m.value; name = name_at R.W m.from; width = is-bus.width }

      takes-bit : apply (BitOf c i) h.came ≡ (bit_at R.ports i sized >>= nodes)
      takes-bit =
          takes h
          ∙ ap (λ (y : Result Sized). y >>= bit_at R.ports i >>= nodes) (ap (λ (y : Came). as_value y >>= bus) came.same ∙ bind_at came.value bus ∙ ap bus is-bus.same)
          ∙ ap (λ (y : Result Formula). y >>= nodes) (bind_at sized (bit_at R.ports i))

      width-noted : {n : ℕ} → n ≡ note_at mem m.from note_number → n ≡ is-bus.width
      width-noted en = en ∙ noted_width (h.noted.facts m.from is-bus.declared) is-bus.means

      index-noted : {j : ℕ} → j ≡ get_or mem (m.frames + at_field) 0 → j ≡ i
      index-noted ej = ej ∙ at-word h ∙ h.at.holds.index_is

    pub bit-name : ToppedToWrite s mem out m → m.from < max_names
    bit-name t =
        let v = by_phase t.top.frame Phase.bit_of (top-phase t.top ∙ w.phase) in
        (is-bus (top_as t.top v.2)).declared

    module _ {j n : ℕ} (ej : j ≡ get_or mem (m.frames + at_field) 0) (en : n ≡ note_at mem m.from note_number) where
      pub bit-refuses : n ≤ j → TakesToWrite s mem mem out out m (Err (refusal 13 m.value))
      bit-refuses l = record {
        turns = λ R x o t.
            let v = by_phase t.frame Phase.bit_of (top-phase t ∙ w.phase) in
            let h = top_as t v.2 in
            let a = width-noted h en in
            let b = index-noted h ej in
            refuses h (takes-bit h ∙ bind_refused _ 13 m.value nodes (bit_out R.ports v.1 (sized h) (omega arith)));
      }

      module _ (l : j < n) where
        pub bit-fits : ToppedToWrite s mem out m → m.nodes ≤ max_nodes → note_at mem m.from note_address + j < field_limit
        bit-fits t =
            let v = by_phase t.top.frame Phase.bit_of (top-phase t.top ∙ w.phase) in
            let h = top_as t.top v.2 in
            let a = width-noted h en in
            signal-fits h m.from j (is-bus h).width (is-bus h).declared (is-bus h).means (omega arith)

        pub bit-steps : {out' : List ℕ} {q r scope : ℕ} → scope ≡ get_or mem (m.frames + value_field) 0 → Signalled (note_at mem m.from note_address) j out out' m.nodes q → r ≡ min q (suc max_nodes)
            → TakesToWrite s mem mem out out' m (Ok (Next (wrote-back m scope r)))
        bit-steps {out'} {q} {r} {scope} es g er = record {
          turns = λ R x o t.
              let v = by_phase t.frame Phase.bit_of (top-phase t ∙ w.phase) in
              let h = top_as t v.2 in
              let i = v.1 in
              let a = width-noted h en in
              let b : j ≡ i = index-noted h ej in
              let f : Formula = signal_node R.ports (name_at R.W m.from) i in
              let g' : Signalled (note_at mem m.from note_address) i out out' m.nodes q = subst (λ (k : ℕ). Signalled (note_at mem m.from note_address) k out out' m.nodes q) b g in
              let f-wrote = wrote-capped er (signal-wrote h m.from i (is-bus h).width (is-bus h).declared (is-bus h).means g') in
              pops h {v = Nodes f} (record {
                same = takes-bit h ∙ bind_to _ f nodes (bit_in R.ports i (sized h) (omega arith));
                come = refl;
                scope_is = es ∙ value-word h ∙ h.at.holds.scope_is;
                depth_is = h.at.deep ∙ add-zero h.footing.depth;
                top-is = h.at.level refl;
                frames-is = refl;
                agree = agree_same;
                laid = laid_more f (laid_as (ap (λ (y : Came). written m.nodes y ++ forms_of h.rest) (came h).same) h.laid) f-wrote;
                few = omega arith;
                noted = h.noted;
                lasting = lasting_stays (wrote_stays f-wrote) h.lasting;
              });
        }

-- A bus against an identifier: by the widths of the identifier's words, and the signals of the bus.
use Rattle.std.specs.Prelude.{ℕ, zero, suc, ◌+◌, ◌*◌, ◌≤◌, ◌<◌, min, Bool, true, false, List, ◌≡◌, refl, eqb, length, get_or, Ok, Err}
use Rattle.std.proofs.Common.{sym, ap, ◌∙◌, subst, arith}
use Rattle.node.specs.Limits.{max_nodes}
use Rattle.node.specs.Operators.{Not}
use Rattle.node.specs.Kinds.{unary_kind}
use Rattle.node.specs.Ltl.{Formula, One}
use Rattle.node.specs.Result.{Result, Done, Refused, ◌>>=◌, guard}
use Rattle.node.proofs.ResultLaws.{guard-pass, guard-stop, bind_to, bind_refused}
use Rattle.node.specs.Returned.{refusal}
use Rattle.machine.specs.declared.Move.TheVariants.{Next}
use Rattle.writing.specs.Writing.{Wrote, Caps}
use Rattle.language.specs.Limits.{max_names, max_tokens, max_signals}
use Rattle.language.specs.Tokens.{Token}
use Rattle.language.specs.Operators.{Comparison, Equal, Unequal, Less, AtMost, Greater, AtLeast}
use Rattle.language.specs.Values.{Sized, misfit}
use Rattle.language.specs.DeclaredNames.{Port}
use Rattle.language.specs.Expansion.{against, one_of, width_is}
use Rattle.entries.specs.Kinds as Kind
use Rattle.sets.specs.Operators.{comparison}
use Rattle.sets.specs.OperatorLaws.{another}
use Rattle.choices.specs.Entries.{words_end, Words}
use Rattle.choices.specs.EntryLaws.{end-bound}
use Rattle.choices.specs.Promise.{Readable, OneOf, WidthsAre}
use Rattle.name_values.specs.World.{name_at}
use Rattle.operators.specs.Codes.{comparison_code}
use Rattle.operators.specs.Tables.{infix_code_at}
use Rattle.operands.specs.Entries.{number_at}
use Rattle.operands.specs.Working.{Source}
use Rattle.machine.specs.Fields.{entry_field, note_number, note_address}
use Rattle.machine.specs.Phases as Phase
use Rattle.machine.specs.Came.{Came, nodes}
use Rattle.machine.specs.Frames.{apply}
use Rattle.machine.specs.Realm.{Realm}
use Rattle.machine.specs.OperatorLaws.{comparison_of}
use Rattle.machine.specs.Memory.{note_words, note_at}
use Rattle.machine.specs.Table.{Began}
use Rattle.machine.specs.States.{Turned, Top, ToppedToWrite, TakesToWrite}
use Rattle.machine.specs.TakeLaws.{refuses, note_under}
use Rattle.machine.specs.Moves.{wrote, popped}
use Rattle.machine.specs.declared.Machine.{Machine}
use Rattle.machine.specs.FactLaws.{noted_width, noted_identifier}
use Rattle.atom_steps.specs.WriteLaws.{writes-after}
use Rattle.atom_steps.specs.NoteLaws.{words-behind, signals-here}
use Rattle.atom_steps.specs.Comparing.{Faced, Faces}

-- equal and unequal are the first two
order-misfit : (op : ℕ) → comparison_code Unequal < op → (ps : List Port) (b : Sized) (ws : List Token) → against ps (comparison op) b ws ≡ misfit
order-misfit op l ps b ws =
    ap (λ (c : Comparison). against ps c b ws) (another comparison_code op Equal (λ e. omega arith) ∙ another comparison_code op Unequal (λ e. omega arith))
    ∙ others (eqb op (comparison_code Less)) (eqb op (comparison_code AtMost)) (eqb op (comparison_code Greater))
  where
    others : (x y z : Bool) → against ps (elim x [ true ↦ Less | false ↦ elim y [ true ↦ AtMost | false ↦ elim z [ true ↦ Greater | false ↦ AtLeast ] ] ]) b ws ≡ misfit
    others true y z = refl
    others false true z = refl
    others false false true = refl
    others false false false = refl

-- what they are where the widths are right
abbrev chosen : ℕ → Formula → Formula
chosen op f = elim (eqb op (comparison_code Equal)) [ true ↦ f | false ↦ One Not f ]

by_width : (op : ℕ) → op ≤ comparison_code Unequal → (ps : List Port) (b : Sized) (ws : List Token)
    → against ps (comparison op) b ws ≡ guard (width_is b.width ws) 13 b.place (Done (chosen op (one_of ps b.name ws)))
by_width zero l ps b ws = refl
by_width (suc zero) l ps b ws = refl
by_width (suc (suc k)) l ps b ws = absurd (omega arith)

-- what the code reads: the notes of both names, where the identifier's words end
pub record Reads (s : Source) (mem : List ℕ) (b i width first entry end : ℕ) : Type 0 where
  pub width_is_lem : width ≡ note_at mem b note_number
  pub first-is : first ≡ note_at mem b note_address
  pub entry-is : entry ≡ note_at mem i note_number
  pub end_is : end ≡ words_end s.work entry

module _ {s : Source} {mem out : List ℕ} {m : Machine} {place b i : ℕ} (q : Faces s mem out m place b i) where
  faced_in : (t : ToppedToWrite s mem out m) → Faced t.realm mem out m t.answer t.began place b i
  faced_in t = q.faced t.realm t.answer t.began t.top

  -- both notes can be read
  pub record Noting : Type 0 where
    pub bus : note_words * b + 3 < length mem
    pub choice : note_words * i + 3 < length mem
    pub bus-name : b < max_names
    pub choice-name : i < max_names

  pub against_notes : ToppedToWrite s mem out m → Noting
  against_notes t =
      let z = faced_in t in
      let h = z.top in
      record { bus = note_under h z.bus; choice = note_under h z.choice; bus-name = z.bus; choice-name = z.choice }

  -- so can the words
  pub against-entry : ToppedToWrite s mem out m → {entry : ℕ} → entry ≡ note_at mem i note_number → entry < max_tokens
  against-entry t {entry} e =
      let z = faced_in t in
      let h = z.top in
      let f = (noted_identifier (h.noted.facts i z.choice) z.choice_means).fits in
      omega arith

  pub against-readable : ToppedToWrite s mem out m → {entry end : ℕ} → entry ≡ note_at mem i note_number → end ≡ words_end s.work entry → Readable s.work end
  against-readable t {entry} {end} e d =
      let l = against-entry t e in
      let z = end-bound s.work Kind.word (entry + 1) (omega arith) in
      record { room = t.lent.work; few = omega arith }

  pub against-first : ToppedToWrite s mem out m → {first : ℕ} → first ≡ note_at mem b note_address → m.nodes ≤ max_nodes → first ≤ max_signals
  against-first t e l = let z = faced_in t in let g = ((signals-here z.top l).bus b z.width z.bus z.bus_means).1 in omega arith

  module _ {op : ℕ} (eo : op ≡ infix_code_at (number_at s.work (get_or mem (m.frames + entry_field) 0))) where
    module _ {R : Realm s} {x : Result Came} {o : Began} (t : Top R mem out m x o) where
      faced : Faced R mem out m x o place b i
      faced = q.faced R x o t

      abbrev sized : Sized
      sized = record { place = place; name = name_at R.W b; width = faced.width }

      -- the frame's operator by its number
      as-compared : apply faced.frame faced.top.came ≡ (against R.ports (comparison op) sized faced.words >>= nodes)
      as-compared =
          let z = faced in
          let e : comparison op ≡ z.operator = ap comparison (eo ∙ z.code) ∙ comparison_of z.operator in
          z.same ∙ ap (λ (c : Comparison). against R.ports c sized z.words >>= nodes) (sym e)

      stops : {number at : ℕ} → against R.ports (comparison op) sized faced.words ≡ Refused number at → Turned R mem mem out out m x o (Err (refusal number at))
      stops {number} {at} e = refuses faced.top (as-compared ∙ bind_refused _ number at nodes e)

    -- other comparisons than == and !=
    pub against-misfits : comparison_code Unequal < op → TakesToWrite s mem mem out out m (Err (refusal 9 0))
    against-misfits l = record { turns = λ R x o t. stops t (order-misfit op l R.ports (sized t) (faced t).words) }

    module _ {width first entry end : ℕ} (d : Reads s mem b i width first entry end) where
      module _ {R : Realm s} {x : Result Came} {o : Began} (t : Top R mem out m x o) where
        stored : Words s.text s.work (entry + 1) end (faced t).words
        stored =
            let z = faced t in
            let f = words-behind R i z.choice_means (noted_identifier ((faced t).top.noted.facts i z.choice) z.choice_means) in
            subst (λ (j : ℕ). Words s.text s.work (entry + 1) j z.words) (sym d.end_is)
            (subst (λ (j : ℕ). Words s.text s.work (j + 1) (words_end s.work j) z.words) (sym d.entry-is) f)

        right-width : {v : Bool} → WidthsAre s.work (entry + 1) end width v → v ≡ width_is (sized t).width (faced t).words
        right-width w =
            let z = faced t in
            w.same s.text z.words stored ∙ ap (λ (n : ℕ). width_is n z.words) (d.width_is_lem ∙ noted_width ((faced t).top.noted.facts b z.bus) z.bus_means)

        written : {out' : List ℕ} {r : ℕ} → OneOf s.text s.work (entry + 1) end first out out' m.nodes r → Wrote (one_of R.ports (sized t).name (faced t).words) out out' m.nodes r
        written g = let z = faced t in g.wrote R.ports (sized t).name z.words stored (λ l. d.first-is ∙ ((signals-here z.top l).bus b z.width z.bus z.bus_means).0)

        writes : {v : Bool} → op ≤ comparison_code Unequal → WidthsAre s.work (entry + 1) end width v → v ≡ true → {out' : List ℕ} {r n : ℕ} → Wrote (chosen op (one_of R.ports (sized t).name (faced t).words)) out out' m.nodes r
            → n ≡ min r (suc max_nodes) → Turned R mem mem out out' m x o (Ok (Next (wrote (popped m) n)))
        writes l w e {out'} g en =
            let z = faced t in
            let f : Formula = chosen op (one_of R.ports (sized t).name z.words) in
            writes-after z.top {phase = Phase.right_compared} z.flat z.came f
            (as-compared t ∙ bind_to _ f nodes (by_width op l R.ports (sized t) z.words ∙ guard-pass 13 place (Done f) (sym (right-width w) ∙ e))) g en

      module _ (l : op ≤ comparison_code Unequal) {v : Bool} (w : WidthsAre s.work (entry + 1) end width v) where
        pub against-width : v ≡ false → TakesToWrite s mem mem out out m (Err (refusal 13 place))
        against-width e = record {
          turns = λ R x o t. stops t (by_width op l R.ports (sized t) (faced t).words ∙ guard-stop 13 place _ (sym (right-width t w) ∙ e));
        }

        module _ (e : v ≡ true) {out' : List ℕ} {r : ℕ} (g : OneOf s.text s.work (entry + 1) end first out out' m.nodes r) where
          pub against-equal : op ≡ comparison_code Equal → {n : ℕ} → n ≡ min r (suc max_nodes) → TakesToWrite s mem mem out out' m (Ok (Next (wrote (popped m) n)))
          against-equal eo en = record {
            turns = λ R x o t.
                let f = one_of R.ports (name_at R.W b) (faced t).words in
                writes t l w e (subst (λ (k : ℕ). Wrote (chosen k f) out out' m.nodes r) (sym eo) (written t g)) en;
          }

          pub against-unequal : (op ≡ comparison_code Equal → ⊥) → {out'' : List ℕ} {u n : ℕ} → Caps (unary_kind Not) out' out'' r u → n ≡ min u (suc max_nodes) → TakesToWrite s mem mem out out'' m (Ok (Next (wrote (popped m) n)))
          against-unequal ne {out''} {u} c en = record {
            turns = λ R x o t.
                let f = one_of R.ports (name_at R.W b) (faced t).words in
                let eo : op ≡ comparison_code Unequal = omega arith in
                writes t l w e (subst (λ (k : ℕ). Wrote (chosen k f) out out'' m.nodes u) (sym eo) ((c Not refl m.nodes).wrote (written t g))) en;
          }

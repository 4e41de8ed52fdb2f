-- A name in a formula's place, by what is noted of it: a signal is written, a definition's nodes are copied, or its body is worked out first.
use Rattle.std.specs.Prelude.{ℕ, suc, min, ◌+◌, ◌≤◌, ◌<◌, Bool, true, false, List, ◌≡◌, refl, eqb, get_or, Ok, Err}
use Rattle.std.proofs.Common.{sym, ap, ◌∙◌, arith, eqb-true}
use Rattle.std.proofs.lemmas.Bool.{eqb-false}
use Rattle.node.specs.Limits.{max_nodes, field_limit}
use Rattle.node.specs.Ltl.{Formula, Signal}
use Rattle.node.specs.Result.{Result, ◌>>=◌}
use Rattle.node.proofs.ResultLaws.{bind_at, bind_to, bind_refused, bind_value}
use Rattle.node.specs.Returned.{refusal}
use Rattle.machine.specs.declared.Move.TheVariants.{Next}
use Rattle.machine.specs.Stepped.{Stepped}
use Rattle.writing.specs.Writing.{Wrote}
use Rattle.language.specs.Limits.{max_names}
use Rattle.language.specs.Tokens.{Token}
use Rattle.language.specs.Tree.{Expr}
use Rattle.language.specs.Values.{misfit}
use Rattle.language.specs.DeclaredNames.{Port}
use Rattle.language.specs.Numbering.{first_of}
use Rattle.language.specs.Expansion.{expansion}
use Rattle.entries.specs.Kinds as Kind
use Rattle.name_values.specs.World.{Meaning, name_value, formed, meaning_at}
use Rattle.name_values.specs.Facts.{IsBus}
use Rattle.name_values.proofs.UsedLaws.{used-formula, used_no_formula}
use Rattle.name_values.specs.Sorts as Sort
use Rattle.operands.specs.Working.{Source}
use Rattle.machine.specs.Fields.{note_number, note_address, note_mark}
use Rattle.machine.specs.Phases as Phase
use Rattle.machine.specs.Came.{Expand, Came, nodes, works}
use Rattle.machine.specs.Frames.{KeepFormula}
use Rattle.machine.specs.Realm.{Realm}
use Rattle.machine.specs.Memory.{note_at}
use Rattle.machine.specs.Holding.{forms_of}
use Rattle.machine.specs.Notes.{Fact}
use Rattle.machine.specs.Table.{Began}
use Rattle.machine.specs.TableLaws.{laid_from, laid_end, wrote-capped}
use Rattle.machine.specs.States.{mode_of, Ready, ReadyToWrite, Writes}
use Rattle.machine.specs.StateLaws.{Entered, entered}
use Rattle.machine.specs.EnterLaws.{writes, fails}
use Rattle.machine.specs.Moves.{wrote}
use Rattle.machine.specs.Openings.{Enclosed}
use Rattle.machine.specs.OpenLaws.{encloses}
use Rattle.machine.specs.Entering.{Expands}
use Rattle.machine.specs.EnteringLaws.{works-formula}
use Rattle.machine.specs.declared.Machine.{Machine}
use Rattle.machine.specs.PlainLaws.{NoFormula, meaning_plain_lem}
use Rattle.value_steps.specs.NameLaws.{Using, named_by}
use Rattle.name_steps.specs.Marks.{Copyable, Again}
use Rattle.name_steps.specs.MarkLaws.{copyable}
use Rattle.atom_steps.specs.Signals.{Signalled}

-- a state, whatever may be written
pub ready_of : {s : Source} {mem out : List ℕ} {m : Machine} → ReadyToWrite s mem out m → Ready s mem m
ready_of h = record { lent = h.lent; realm = h.realm; answer = h.answer; began = h.began; table = _; state = h.state }

-- the name's formula
name-formula : {s : Source} {R : Realm s} {mem out : List ℕ} {m : Machine} {x : Result Came} {o : Began} {h : Entered R mem out m x o} {r : ℕ} (u : Using h r) → m.mode ≡ mode_of Expand
    → works h.aim h.context h.tree ≡ (h.context.formulas u.token >>= nodes)
name-formula {h = h} u e = works-formula h e ∙ ap (λ (t : Expr). expansion h.context t >>= nodes) u.named

-- a bus has none, sized or not
bus-misfit : (ps : List Port) (t : Token) (m : Meaning) (n : ℕ) → IsBus m n → formed ps m t ≡ misfit
bus-misfit ps t m n h = go (eqb n 0) refl
  where
    go : (b : Bool) → eqb n 0 ≡ b → formed ps m t ≡ misfit
    go true e = ap (λ (v : Meaning). formed ps v t) (h.waiting (eqb-true n 0 e))
    go false e = ap (λ (v : Meaning). formed ps v t) (h.sized (let d = eqb-false n 0 e in omega arith))

-- the sorts that are left
other_sort : (v : ℕ) → v ≤ Sort.nothing → (v ≡ Sort.number → ⊥) → (v ≡ Sort.body → ⊥) → (v ≡ Sort.bus → ⊥) → (v ≡ Sort.signal → ⊥) → (v ≡ Sort.set → ⊥) → (v ≡ Sort.nothing → ⊥) → v ≡ Sort.identifier
other_sort v l a b c d e f = upper (lower a b c)
  where
    lower : (v ≡ Sort.number → ⊥) → (v ≡ Sort.body → ⊥) → (v ≡ Sort.bus → ⊥) → Sort.signal ≤ v
    lower a b c = omega arith

    upper : Sort.signal ≤ v → v ≡ Sort.identifier
    upper h = omega arith

module _ {s : Source} {mem out : List ℕ} {m : Machine} (k : Expands s.work m Kind.named Kind.numeral) {r : ℕ} (er : r ≡ get_or s.refs m.value 0) where
  -- a big operator's name
  pub element-refused : max_names ≤ r → Writes s mem mem out out m (Err (refusal 9 0))
  element-refused l = record {
    turns = λ R x o h.
        let e = k.mode in
        let q = entered h (omega arith) in
        let u = named_by q k.until er in
        fails q (name-formula u e ∙ bind_refused _ 9 0 nodes (used_no_formula u.uses l));
  }

  -- a declared name
  module _ (l : r < max_names) where
    module _ {R : Realm s} {x : Result Came} {o : Began} (h : Entered R mem out m x o) where
      abbrev token : Token
      token = (named_by h k.until er).token

      fact : Fact s mem (meaning_at R.W r) (note_at mem r 0) (note_at mem r note_number) (note_at mem r note_address)
      fact = h.noted.facts r l

      formula-is : works h.aim h.context h.tree ≡ (formed R.ports (meaning_at R.W r) token >>= nodes)
      formula-is =
          let u = named_by h k.until er in
          name-formula u k.mode
          ∙ ap (λ (y : Result Formula). y >>= nodes) (used-formula u.uses l ∙ ap (λ (p : List Port). formed p (meaning_at R.W r) u.token) h.at.operand.ports)

      meaning-is : {v : Meaning} → meaning_at R.W r ≡ v → works h.aim h.context h.tree ≡ (formed R.ports v token >>= nodes)
      meaning-is q = formula-is ∙ ap (λ (v : Meaning). formed R.ports v token >>= nodes) q

    pub nothing-refused : note_at mem r 0 ≡ Sort.nothing → Writes s mem mem out out m (Err (refusal 6 0))
    nothing-refused z = record {
      turns = λ R x o h. let e = k.mode in let q = entered h (omega arith) in fails q (meaning-is q ((fact q).nothing z) ∙ bind_refused _ 6 0 nodes refl);
    }

    -- a number, a set, a bus, an identifier
    pub other-refused : (note_at mem r 0 ≡ Sort.body → ⊥) → (note_at mem r 0 ≡ Sort.signal → ⊥) → (note_at mem r 0 ≡ Sort.nothing → ⊥) → Writes s mem mem out out m (Err (refusal 9 0))
    other-refused nb ns nn = record {
      turns = λ R x o h.
          let e = k.mode in
          let q = entered h (omega arith) in
          let n = meaning_plain_lem R.ports (token q) (meaning_at R.W r) (λ i c d y. (R.bodies r i c d y).plain) in
          fails q (formula-is q ∙ bind_refused _ 9 0 nodes (none R.ports (meaning_at R.W r) (token q) (fact q) n (eqb (note_at mem r 0) Sort.number) refl (eqb (note_at mem r 0) Sort.set) refl (eqb (note_at mem r 0) Sort.bus) refl));
    }
      where
        none : (ps : List Port) (v : Meaning) (t : Token) → Fact s mem v (note_at mem r 0) (note_at mem r note_number) (note_at mem r note_address) → NoFormula {A = Formula} (name_value v t) (formed ps v t) → (x : Bool)
            → eqb (note_at mem r 0) Sort.number ≡ x → (y : Bool) → eqb (note_at mem r 0) Sort.set ≡ y → (z : Bool) → eqb (note_at mem r 0) Sort.bus ≡ z → formed ps v t ≡ misfit
        none ps v t f n true x y a z b = n.0 _ ((f.number (eqb-true _ _ x)).stands t)
        none ps v t f n false x true y z b = n.1 _ ((f.set (eqb-true _ _ y)).stands t)
        none ps v t f n false x false y true b = bus-misfit _ t _ _ (f.bus (eqb-true _ _ b))
        none ps v t f n false x false y false b =
            let sort = note_at mem r 0 in
            let i = other_sort sort f.sorted (eqb-false sort Sort.number x) nb (eqb-false sort Sort.bus b) ns (eqb-false sort Sort.set y) nn in
            ap (λ (w : Meaning). formed ps w t) (f.identifier i).identifies

    -- a signal: its number, as long as there is room in the table
    pub signal-number : ReadyToWrite s mem out m → note_at mem r 0 ≡ Sort.signal → m.nodes ≤ max_nodes → note_at mem r note_address + 0 < field_limit
    signal-number h z n =
        let e = k.mode in
        let q = entered h.state (omega arith) in
        let i = laid_from q.laid n in
        let f = ((q.noted.signals (omega arith)).single r l ((fact q).signal z)).1 in
        omega arith

    pub signal-writes : note_at mem r 0 ≡ Sort.signal → {out' : List ℕ} {i n : ℕ} → Signalled (note_at mem r note_address) 0 out out' m.nodes i → n ≡ min i (suc max_nodes) → Writes s mem mem out out' m (Ok (Next (wrote m n)))
    signal-writes z {out'} {i} g en = record {
      turns = λ R x o h.
          let e = k.mode in
          let q = entered h (omega arith) in
          let u = named_by q k.until er in
          let d = (fact q).signal z in
          let j : ℕ = first_of R.ports u.token.text + 0 in
          let w : Wrote (Signal j) out out' m.nodes i = g.wrote j (λ y. let a = laid_from q.laid y in ap (λ (b : ℕ). b + 0) (((q.noted.signals (omega arith)).single r l d).0 ∙ ap (first_of R.ports) (u.uses.spelt l))) in
          writes q (Signal j) (meaning-is q d ∙ bind_at (Signal j) nodes) (wrote-capped en w) (omega arith);
    }

    -- a definition whose nodes stand in the table
    pub mark-copyable : ReadyToWrite s mem out m → (note_at mem r note_mark ≡ 0 → ⊥) → Copyable (note_at mem r note_mark) m.nodes
    mark-copyable h z = copyable (h.state.lasting.lasts r l z)

    module _ (b : note_at mem r 0 ≡ Sort.body) where
      pub mark-writes : (note_at mem r note_mark ≡ 0 → ⊥) → {out' : List ℕ} {i n : ℕ} → Again (note_at mem r note_mark) out out' m.nodes i → n ≡ min i (suc max_nodes) → Writes s mem mem out out' m (Ok (Next (wrote m n)))
      mark-writes z g en = record {
        turns = λ R x o h.
            let e = k.mode in
            let q = entered h (omega arith) in
            let d = (fact q).body b in
            let t = q.lasting.lasts r l z in
            let w = g.wrote t.formula t.from t.noted t.stands in
            writes q t.formula (meaning-is q d.defines ∙ bind_to _ t.formula nodes (t.given _ _ _ d.defines)) (wrote-capped en w) (omega arith);
      }

      -- its body is worked out, and a frame waits to mark what is written
      pub body-writes : {mem' : List ℕ} {u : Stepped} → Enclosed mem mem' m Phase.keep_formula m.nodes r (mode_of Expand) (note_at mem r note_number) u → Writes s mem mem' out out m u
      body-writes {mem'} {u} w = record {
        turns = λ R x o h.
            let e = k.mode in
            let q = entered h (omega arith) in
            let d = (fact q).body b in
            let c = d.context in
            let t = d.expr in
            encloses q {F = KeepFormula r c t} {phase = Phase.keep_formula} {at = m.nodes} {r = r} {a = Expand} {c = c} {e = t} {j = note_at mem r note_number} (record {
              holds_nothing = refl;
              few_turns = omega arith;
              below = (named_by q k.until er).before (note_at mem r note_number) c t l d.defines;
              operand = R.bodies r (note_at mem r note_number) c t d.defines;
              holds = (record { scope_is = refl; name-is = refl }, laid_end (forms_of q.frames) q.laid);
              waits = record { declared = l; entry = note_at mem r note_number; means = d.defines };
              kept = refl;
              same = meaning-is q d.defines ∙ sym (bind_value (works Expand c t));
            }) u w;
      }

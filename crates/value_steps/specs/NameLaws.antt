-- A name: a big operator's element, or what is noted of a declared name; a definition's body is worked out first.
use Rattle.std.specs.Prelude.{ℕ, ◌+◌, ◌-◌, ◌*◌, ◌≤◌, ◌<◌, List, [], ◌∷◌, ◌≡◌, refl, length, get_or, Ok, Err}
use Rattle.std.proofs.Common.{sym, ap, ◌∙◌, subst, arith, add-zero}
use Rattle.std.proofs.Math.Decide.{dec_lt}
use Rattle.node.specs.Result.{Result, Done, ◌>>=◌}
use Rattle.node.proofs.ResultLaws.{bind_to, bind_refused, bind_value}
use Rattle.node.specs.Returned.{refusal}
use Rattle.machine.specs.declared.Move.TheVariants.{Next}
use Rattle.machine.specs.Stepped.{Stepped}
use Rattle.language.specs.Limits.{max_names, max_number}
use Rattle.language.specs.Tokens.{Token}
use Rattle.language.specs.Tree.{Expr, Named}
use Rattle.language.specs.Expansion.{Context}
use Rattle.language.specs.Values.{Value, Number, Set, Logic, Bus, Unsized, Choice, value}
use Rattle.language.proofs.Laws.Basics.Lists.{All}
use Rattle.entries.specs.Kinds as Kind
use Rattle.name_values.specs.World.{Meaning, Defines, numbered, name_value, meaning_at}
use Rattle.name_values.specs.Agrees.{Uses}
use Rattle.name_values.proofs.AgreesLaws.{numbered-last, numbered-before, denote-bound}
use Rattle.name_values.proofs.UsedLaws.{used-value, named-body}
use Rattle.name_values.specs.Sorts as Sort
use Rattle.operands.specs.Entries.{kind_at, place_at}
use Rattle.operands.specs.Classes.{class_of}
use Rattle.operands.specs.ClassLaws.{place_is}
use Rattle.operands.specs.Working.{Source}
use Rattle.machine.specs.Fields.{note_number, note_address}
use Rattle.machine.specs.Phases as Phase
use Rattle.machine.specs.Came.{Evaluate, Expand, Came, Worth, worth, works}
use Rattle.machine.specs.Frames.{KeepValue}
use Rattle.machine.specs.Realm.{Realm}
use Rattle.machine.specs.Memory.{note_words, note_at, Held, in_kept}
use Rattle.machine.specs.MemoryLaws.{slotted_at}
use Rattle.machine.specs.Notes.{Fact}
use Rattle.machine.specs.Telling.{is_number, is_set, is_logic, is_bus, is_unsized, is_choice}
use Rattle.machine.specs.Table.{Began}
use Rattle.machine.specs.States.{mode_of, Ready, Steps}
use Rattle.machine.specs.StateLaws.{Entered, entered}
use Rattle.machine.specs.StackLaws.{stack_room}
use Rattle.machine.specs.EnterLaws.{comes, fails, entry_few}
use Rattle.machine.specs.Moves.{came}
use Rattle.machine.specs.Openings.{Enclosed}
use Rattle.machine.specs.OpenLaws.{encloses}
use Rattle.machine.specs.OperandLaws.{operand-view, operand_as}
use Rattle.machine.specs.declared.Machine.{Machine}
use Rattle.machine.specs.Entering.{Evaluates}
use Rattle.machine.specs.EnteringLaws.{works-value}

-- an element of a list of small numbers
small_at : (env : List ℕ) → All (λ v. v ≤ max_number) env → (d : ℕ) → d < length env → numbered 0 env d ≤ max_number
small_at [] a d l = absurd (omega arith)
small_at (v ∷ env) a d l = go (dec_lt d (length env)) (small_at env a.1 d)
  where
    go : Dec (d < length env) → (d < length env → numbered 0 env d ≤ max_number) → numbered 0 (v ∷ env) d ≤ max_number
    go (yes m) ih = subst (λ (n : ℕ). n ≤ max_number) (sym (numbered-before 0 v env d m)) (ih m)
    go (no m) ih = let e : d ≡ length env = omega arith in subst (λ (n : ℕ). n ≤ max_number) (sym (numbered-last 0 v env d e)) a.0

-- the name of the entry, by its reference r, whatever it is worked out for
pub record Using {s : Source} {R : Realm s} {mem out : List ℕ} {m : Machine} {x : Result Came} {o : Began} (h : Entered R mem out m x o) (r : ℕ) : Type 0 where
  pub token : Token
  pub named : h.tree ≡ Named token
  pub limit : ℕ
  pub uses : Uses R.W limit h.at.env r token h.context
  pub place : place_at s.work m.value ≡ token.at
  pub before : (n : ℕ) (c : Context) (e : Expr) → r < max_names → meaning_at R.W r ≡ Defines n c e → n < m.value

pub named_by : {s : Source} {R : Realm s} {mem out : List ℕ} {m : Machine} {x : Result Came} {o : Began} (h : Entered R mem out m x o) {r : ℕ} → kind_at s.work m.value < 1
    → r ≡ get_or s.refs m.value 0 → Using h r
named_by {s} {R} {m = m} h {r} k er =
    let kind : kind_at s.work m.value ≡ Kind.named = omega arith in
    let v = operand-view h.at.operand (ap class_of kind) in
    let t = v.0 in
    let p = operand_as h.at.operand v.1 in
    record {
      token = t;
      named = v.1;
      limit = p.known.limit;
      uses = subst (λ (i : ℕ). Uses R.W p.known.limit h.at.env i t h.context) (sym er) p.known.agrees;
      place = place_is R.lexed Kind.named t [] p.known.at;
      before = λ n c e l d. named-body t p.known n c e (omega arith) (ap (meaning_at R.W) (sym er) ∙ d);
    }

-- its value
name_value_lem : {s : Source} {R : Realm s} {mem out : List ℕ} {m : Machine} {x : Result Came} {o : Began} {h : Entered R mem out m x o} {r : ℕ} (u : Using h r) → m.mode ≡ mode_of Evaluate
    → works h.aim h.context h.tree ≡ (h.context.values u.token >>= worth)
name_value_lem {h = h} u e = works-value h e ∙ ap (λ (t : Expr). value h.context.values t >>= worth) u.named

-- what a value that is noted comes to
stands_for_lem : {r : Result Value} {v : Value} → r ≡ Done v → (r >>= worth) ≡ Done (Worth v)
stands_for_lem {v = v} e = bind_to _ v worth e

-- the notes lie in the memory
pub note_inside : {s : Source} {mem : List ℕ} {m : Machine} {r : ℕ} → Ready s mem m → r < max_names → note_words * r + 3 < length mem
note_inside h l =
    let u = stack_room h.state.stack in
    let u1 = u.values in
    let u2 = u.words in
    let u3 = u.inside in
    let n = h.state.noted in
    let n1 = n.first in
    let n2 = n.within in
    let n3 = n.ascending in
    omega arith

-- the entry's reference can be read
pub reference-inside : {s : Source} {mem : List ℕ} {m : Machine} → Ready s mem m → m.mode ≤ mode_of Expand → m.value < length s.refs
reference-inside h l = let e = entry_few (entered h.state l) in let f = h.lent.refs in omega arith

pub note_first : (mem : List ℕ) (r : ℕ) → get_or mem (note_words * r) 0 ≡ note_at mem r 0
note_first mem r = ap (λ (i : ℕ). get_or mem i 0) (sym (add-zero (note_words * r)))

module _ {s : Source} {mem : List ℕ} {m : Machine} (k : Evaluates s.work m Kind.named Kind.numeral) {r : ℕ} (er : r ≡ get_or s.refs m.value 0) where
  -- a big operator's name: its element stands in a slot
  pub element-inside : Ready s mem m → max_names ≤ r → m.scope + (r - max_names) < length mem
  element-inside h l =
      let e = k.mode in
      let n = entered h.state (omega arith) in
      let i = (named_by n k.until er).uses.inside in
      let d = n.at.deep in
      let u = stack_room n.stack in
      let u1 = u.slots in
      let u2 = u.values in
      let u3 = u.words in
      let u4 = u.inside in
      omega arith

  pub element-steps : max_names ≤ r → {i : ℕ} → i ≡ m.scope + (r - max_names) → Steps s mem mem m (Ok (Next (came m is_number (get_or mem i 0) 0)))
  element-steps l {i} ei = record {
    turns = λ R x o out h.
        let e = k.mode in
        let n = entered h (omega arith) in
        let u = named_by n k.until er in
        let ins = u.uses.inside in
        let d = r - max_names in
        let at : numbered 0 n.at.env d ≡ get_or mem i 0 = slotted_at mem m.scope n.at.env n.at.slotted d (omega arith) ∙ ap (λ (j : ℕ). get_or mem j 0) (sym ei) in
        let is : n.context.values u.token ≡ Done (Number (numbered 0 n.at.env d)) = u.uses.stands ∙ denote-bound R.W n.at.env d r u.token (omega arith) in
        comes n (Number (numbered 0 n.at.env d)) (name_value_lem u e ∙ stands_for_lem is) (record { mode_is = refl; value-is = sym at; small = small_at n.at.env n.at.operand.small d (omega arith) }) tt;
  }

  -- a declared name: by its sort and its number
  module _ (l : r < max_names) {sort n : ℕ} (es : sort ≡ note_at mem r 0) (en : n ≡ note_at mem r note_number) where
    fact : {R : Realm s} {out : List ℕ} {x : Result Came} {o : Began} → Entered R mem out m x o → Fact s mem (meaning_at R.W r) sort n (note_at mem r note_address)
    fact {R} h = subst (λ (i : ℕ). Fact s mem (meaning_at R.W r) i n (note_at mem r note_address)) (sym es) (subst (λ (i : ℕ). Fact s mem (meaning_at R.W r) (note_at mem r 0) i (note_at mem r note_address)) (sym en) (h.noted.facts r l))

    -- of whatever it means
    meaning : {R : Realm s} {out : List ℕ} {x : Result Came} {o : Began} (h : Entered R mem out m x o) {v : Meaning} → meaning_at R.W r ≡ v
        → works h.aim h.context h.tree ≡ (name_value v (named_by h k.until er).token >>= worth)
    meaning h q = let u = named_by h k.until er in name_value_lem u k.mode ∙ ap (λ (y : Result Value). y >>= worth) (used-value u.uses l ∙ ap (λ (y : Meaning). name_value y u.token) q)

    noted-value : {R : Realm s} {out : List ℕ} {x : Result Came} {o : Began} (h : Entered R mem out m x o) {v : Value} → name_value (meaning_at R.W r) (named_by h k.until er).token ≡ Done v
        → works h.aim h.context h.tree ≡ Done (Worth v)
    noted-value h q = let u = named_by h k.until er in name_value_lem u k.mode ∙ stands_for_lem (used-value u.uses l ∙ q)

    pub sort-few : Ready s mem m → sort ≤ Sort.nothing
    sort-few h = let e = k.mode in (fact (entered h.state (omega arith))).sorted

    pub number-steps : sort ≡ Sort.number → Steps s mem mem m (Ok (Next (came m is_number n 0)))
    number-steps z = record {
      turns = λ R x o out h.
          let e = k.mode in
          let q = entered h (omega arith) in
          let i = (fact q).number z in
          comes q (Number n) (noted-value q (i.stands (named_by q k.until er).token)) (record { mode_is = refl; value-is = refl; small = i.small }) tt;
    }

    pub signal-steps : sort ≡ Sort.signal → Steps s mem mem m (Ok (Next (came m is_logic 0 0)))
    signal-steps z = record {
      turns = λ R x o out h. let e = k.mode in let q = entered h (omega arith) in comes q Logic (meaning q ((fact q).signal z) ∙ stands_for_lem refl) refl tt;
    }

    pub set-steps : sort ≡ Sort.set → {a : ℕ} → a ≡ note_at mem r note_address → Steps s mem mem m (Ok (Next (came m is_set n a)))
    set-steps z {a} ea = record {
      turns = λ R x o out h.
          let e = k.mode in
          let q = entered h (omega arith) in
          let i = (fact q).set z in
          let ab = i.above in
          let be = i.below in
          let sz = i.size in
          comes q (Set i.set) (noted-value q (i.stands (named_by q k.until er).token)) (record { mode_is = refl; count = i.size; fine = i.fine })
          (subst (λ (j : ℕ). Held mem j i.set) (sym ea) i.held, in_kept (omega arith) (omega arith));
    }

    pub unsized-steps : sort ≡ Sort.bus → n ≡ 0 → {p : ℕ} → p ≡ place_at s.work m.value → Steps s mem mem m (Ok (Next (came m is_unsized p 0)))
    unsized-steps z zero-wide ep = record {
      turns = λ R x o out h.
          let e = k.mode in
          let q = entered h (omega arith) in
          let u = named_by q k.until er in
          comes q (Unsized u.token.at) (meaning q (((fact q).bus z).waiting zero-wide) ∙ stands_for_lem refl) (record { mode_is = refl; place_is = ep ∙ u.place }) tt;
    }

    pub bus-steps : sort ≡ Sort.bus → (n ≡ 0 → ⊥) → {p : ℕ} → p ≡ place_at s.work m.value → Steps s mem mem m (Ok (Next (came m is_bus p r)))
    bus-steps z wide ep = record {
      turns = λ R x o out h.
          let e = k.mode in
          let q = entered h (omega arith) in
          let u = named_by q k.until er in
          let b = (fact q).bus z in
          let d = b.sized (omega arith) in
          comes q (Bus u.token.at u.token.text n) (meaning q d ∙ stands_for_lem refl)
          (record { mode_is = refl; place_is = ep ∙ u.place; declared = l; named = u.uses.spelt l; means = d; small = b.small }) tt;
    }

    pub identifier-steps : sort ≡ Sort.identifier → Steps s mem mem m (Ok (Next (came m is_choice 0 r)))
    identifier-steps z = record {
      turns = λ R x o out h.
          let e = k.mode in
          let q = entered h (omega arith) in
          let i = (fact q).identifier z in
          comes q (Choice i.words) (meaning q i.identifies ∙ stands_for_lem refl) (record { mode_is = refl; declared = l; means = i.identifies }) tt;
    }

    pub nothing-steps : sort ≡ Sort.nothing → Steps s mem mem m (Err (refusal 6 0))
    nothing-steps z = record {
      turns = λ R x o out h. let e = k.mode in let q = entered h (omega arith) in fails q (meaning q ((fact q).nothing z) ∙ bind_refused _ 6 0 worth refl);
    }

    -- a definition: its body is worked out, and a frame waits to keep what it comes to
    pub body-steps : sort ≡ Sort.body → {mem' : List ℕ} {u : Stepped} → Enclosed mem mem' m Phase.keep_value 0 r (mode_of Evaluate) n u → Steps s mem mem' m u
    body-steps z {mem'} {u} w = record {
      turns = λ R x o out h.
          let e = k.mode in
          let q = entered h (omega arith) in
          let b = (fact q).body z in
          let c = b.context in
          let d = b.expr in
          encloses q {F = KeepValue r c d} {phase = Phase.keep_value} {at = 0} {r = r} {a = Evaluate} {c = c} {e = d} {j = n} (record {
            holds_nothing = refl;
            few_turns = omega arith;
            below = (named_by q k.until er).before n c d l b.defines;
            operand = R.bodies r n c d b.defines;
            holds = record { scope_is = refl; name-is = refl };
            waits = record { declared = l; entry = n; means = b.defines };
            kept = refl;
            same = meaning q b.defines ∙ sym (bind_value (works Evaluate c d));
          }) u w;
    }

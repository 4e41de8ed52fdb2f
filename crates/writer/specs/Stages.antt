-- `write_basic` by stages: the reader's answer into a table and a list of the largest size, then what is written out of them.
use Rattle.std.specs.Prelude.{ℕ, ◌≤◌, ◌≡◌, refl, List, [], leb, Ok, Err}
use Rattle.std.proofs.Math.Path.{ap, sym, subst}
use Rattle.std.proofs.Common.{ap₂, ◌∙◌, arith, le-leb, leb-true}
use Rattle.std.proofs.Math.Option.{Option}
use Rattle.std.proofs.Math.ListN.{length, take}
use Rattle.node.specs.Limits.{max_nodes}
use Rattle.node.specs.Result.{Result, Done, Refused, ◌>>=◌, Counts}
use Rattle.node.proofs.ResultLaws.{bind_done, bind_to, bind_refused, guard-pass, guard-done, guard-refused}
use Rattle.node.specs.Formed.{Formed}
use Rattle.node.proofs.TableLaws.{checked-done}
use Rattle.node.specs.Written.{nodes_of, count}
use Rattle.node.proofs.WrittenLaws.{length_of, table_of, table-root}
use Rattle.node.specs.Returned.{Returned}
use Rattle.node.specs.declared.Refusal.{Refusal}
use Rattle.language.specs.Limits.{max_signals, work_bytes}
use Rattle.language.specs.Tree.{Model, Mealy, Moore, Spec}
use Rattle.language.specs.Places.{refuse_at}
use Rattle.language.specs.Parsing.{parsed}
use Rattle.language.specs.Reading.{NumberedFormula, spec_expansion, text_expansion, delivered, reading, work_after}
use Rattle.language.proofs.Laws.Buffers.{accepted_expansion}
use Rattle.language.proofs.Laws.Meaning.Acceptance.{text-signals, list-limited}
use Rattle.language.specs.Models.{model_code}
use Rattle.parser.specs.declared.Facts.{Facts}
use Rattle.claim.proofs.ClaimLaws.{text_few, text-small}
use Rattle.claim.proofs.DeliveredLaws.{all-delivered, taken-room}
use Rattle.claim.proofs.YieldsLaws.{accepted, refused}
use Rattle.reader.specs.declared.Told.{Told}
use Rattle.reader.specs.Promise.{ReadsTold}
use Rattle.basic.specs.Spelling.{names_of}
use Rattle.basic.specs.Basic.{basic_text}
use Rattle.basic.specs.Writing.{written, writing, fault_from}
use Rattle.layout.specs.Text.{model_of, Delivers, handed, outcome}
use Rattle.writer.specs.Promise.{Writes}
use Rattle.writer.specs.PromiseLaws.{writes}

-- what the reader refuses the writer does
behind-refused : {A B : Type 0} (r : Result Spec) (f : Spec → Result A) (k : Spec → A → Result B) {n p : ℕ} → r >>= f ≡ Refused n p → r >>= (λ x. f x >>= k x) ≡ Refused n p
unfolding ◌>>=◌
behind-refused (Done x) f k e = bind_refused (f x) _ _ (k x) e
behind-refused (Refused m q) f k e = cc

written-refused : (text : List ℕ) {n p : ℕ} → text_expansion text ≡ Refused n p → written text ≡ Refused n p
unfolding text_expansion written
written-refused text e = behind-refused (parsed text) spec_expansion _ e

module _ (text : List ℕ) (work room : ℕ) where
  pub writing-refused : {n p : ℕ} → reading text work max_nodes max_signals ≡ Refused n p → writing text work room ≡ Refused n p
  unfolding reading writing
  writing-refused {n} {p} e =
      guard-refused (leb work_bytes work) 17 0 (text_expansion text >>= delivered max_nodes max_signals) (written text >>= handed room)
      (λ h. bind_refused (written text) n p (handed room) (written-refused text (sym (all-delivered text) ∙ h))) e

  -- and what it accepts is written
  writing-text : {x : Spec} {c : NumberedFormula} → work_bytes ≤ work → parsed text ≡ Done x → spec_expansion x ≡ Done c
      → writing text work room ≡ refuse_at 22 (fault_from [] 0 (names_of text c.signals)) (Done (basic_text x.target text c)) >>= handed room
  unfolding writing written
  writing-text {x} {c} h e d =
      guard-pass 17 0 _ (le-leb work_bytes work h) ∙ ap (λ (r : Result (List ℕ)). r >>= handed room) (bind_to (parsed text) x _ e ∙ bind_to (spec_expansion x) c _ d)

-- an accepted text had work buffer enough
enough : (text : List ℕ) (work nodes signals : ℕ) {c : NumberedFormula} → reading text work nodes signals ≡ Done c → work_bytes ≤ work
unfolding reading
enough text work nodes signals e = leb-true work_bytes work (guard-done (leb work_bytes work) 17 0 _ e).0

-- an accepted text's bytes, unless a name is at fault
pub record Bytes (text : List ℕ) (work room : ℕ) : Type 0 where
  pub fault : Option ℕ
  pub bytes : List ℕ
  pub is : writing text work room ≡ refuse_at 22 fault (Done bytes) >>= handed room

pub writing_accepted : (text : List ℕ) (work room nodes signals : ℕ) {c : NumberedFormula} → reading text work nodes signals ≡ Done c → Bytes text work room
unfolding text_expansion reading
writing_accepted text work room nodes signals e =
    let passed = guard-done (leb work_bytes work) 17 0 _ e in
    let meaning = bind_done (text_expansion text) _ passed.1 in
    let tree = bind_done (parsed text) spec_expansion meaning.1 in
    record { fault = _; bytes = _; is = writing-text text work room (leb-true work_bytes work passed.0) tree.1 tree.2 }

-- a model from its code
model_is : (t : ℕ) (m : Model) → t ≡ model_code m → model_of t ≡ m
model_is t Mealy e = ap model_of e
model_is t Moore e = ap model_of e

-- what is at hand once the text is read: its nodes in the table, its signals in the list, the target's model
pub record AtHand (text work work' table list : List ℕ) (n s target : ℕ) : Type 0 where
  pub formed : Formed (length (take s list)) (take n table)
  pub few : length (take s list) ≤ max_signals
  pub result : (room : ℕ) → writing text (length work) room ≡ outcome room text (model_of target) (take s list) (take n table)
  pub table_room : n ≤ length table
  pub list_room : s ≤ length list
  pub work_left : work' ≡ work_after work

module _ {text work work' table table' list list' : List ℕ} {told : Told} (read : ReadsTold text work table list work' table' list' told) (large : length table ≡ max_nodes)
    (long : length list ≡ max_signals) where
  -- a text that is refused
  pub read-refused : {e : Refusal} (out : List ℕ) → told.answer ≡ Err e → Writes text work out work' out (Err e)
  unfolding ◌>>=◌
  read-refused {e} out h =
      let r : writing text (length work) (length out) ≡ Refused e.number e.place =
      writing-refused text (length work) (length out) (ap₂ (reading text (length work)) (sym large) (sym long) ∙ refused read.reads.yields h) in
      writes (rw r) (rw r) read.reads.yields.work_left

  -- a text that is accepted
  module _ {n s : ℕ} (e : told.answer ≡ Ok (n, s)) where
    pub read_accepted : AtHand text work work' table' list' n s told.facts.target
    unfolding text_expansion
    read_accepted =
        let t = accepted read.reads.yields e in
        let c = t.value in
        let left = read.reads.leaves c t.done in
        let both = accepted_expansion text (length work) table list c t.done in
        let meaning = both.0 in
        let tree = bind_done (parsed text) spec_expansion meaning in
        let nodes_told : count c.formula ≡ n = ap (λ (k : Counts). k.nodes) t.same in
        let signals_told : length c.signals ≡ s = ap (λ (k : Counts). k.signals) t.same in
        let handed-on : take n table' ≡ nodes_of c.formula = subst (λ (k : ℕ). take k table' ≡ nodes_of c.formula) nodes_told left.handed in
        let listed : take s list' ≡ c.signals = subst (λ (k : ℕ). take k list' ≡ c.signals) signals_told left.list in
        let limited = list-limited text c meaning in
        let ready = (checked-done (table_of (length c.signals) c.formula (omega arith) (text-signals text c meaning) (text_few text c meaning))).formed in
        let work_long : work_bytes ≤ length work = enough text (length work) (length table) (length list) t.done in
        let model = model_is told.facts.target tree.0.target (ap (λ (f : Facts). f.target) (read.facts work_long tree.0 tree.1)) in
        let own = table-root c.formula (text-small text c meaning) (text_few text c meaning) in
        record {
          formed = rw (listed, handed-on) ready;
          few = rw listed limited;
          result = λ room. writing-text text (length work) room work_long tree.1 tree.2 ∙ sym (rw (model, listed, handed-on, own) refl);
          table_room = taken-room n table' (ap length handed-on ∙ length_of c.formula ∙ nodes_told);
          list_room = taken-room s list' (ap length listed ∙ signals_told);
          work_left = read.reads.yields.work_left;
        }

-- what is written
pub hand_writes : {text work work' table list out out' : List ℕ} {n s target : ℕ} {r : Returned ℕ} → AtHand text work work' table list n s target
    → Delivers (outcome (length out) text (model_of target) (take s list) (take n table)) out out' r → Writes text work out work' out' r
hand_writes {text} {out = out} h d = let e = h.result (length out) in writes (rw e d.answer) (rw e d.text_left) h.work_left

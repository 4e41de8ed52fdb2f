-- `convert` by stages: the reader's answer into a table and a list of the largest size, then what is written out of them.
use Rattle.std.specs.Prelude.{ℕ, ◌≤◌, ◌≡◌, List, ◌++◌, drop, Ok, Err}
use Rattle.std.proofs.Math.Path.{ap, sym, subst}
use Rattle.std.proofs.Common.{ap₂, ◌∙◌}
use Rattle.std.proofs.Math.ListN.{length, take}
use Rattle.node.specs.Limits.{max_nodes}
use Rattle.node.specs.Ltl.{Formula}
use Rattle.node.specs.Result.{Result, Done, Refused, ◌>>=◌, Counts}
use Rattle.node.specs.Table.{root}
use Rattle.node.specs.Written.{nodes_of, count}
use Rattle.node.proofs.WrittenLaws.{length_of, table-root}
use Rattle.node.specs.Answer.{Answer, says}
use Rattle.node.specs.declared.Refusal.{Refusal}
use Rattle.forms.specs.Forms.{form}
use Rattle.rewriter.specs.Rewriting.{rewriting, target, leaves}
use Rattle.language.specs.Limits.{max_signals}
use Rattle.language.specs.Reading.{NumberedFormula, text_expansion, reading, nodes_after, signals_after, work_after}
use Rattle.language.proofs.Laws.Buffers.{accepted_expansion}
use Rattle.claim.proofs.ClaimLaws.{text_few, text-small}
use Rattle.claim.specs.Yields.{told}
use Rattle.claim.proofs.YieldsLaws.{accepted, refused, told-done, told-refused}
use Rattle.claim.proofs.DeliveredLaws.{taken-room}
use Rattle.claim.specs.Reads.{Reads}
use Rattle.claim.specs.Converting.{in_form, formed, conversion}
use Rattle.claim.proofs.ConvertingLaws.{converting-reads, formed-done}
use Rattle.claim.specs.Converts.{Converts}
use Rattle.claim.proofs.ConvertsLaws.{converts}
use Rattle.converter.specs.Room.{room, with_signals}
use Rattle.converter.specs.RoomLaws.{formed-told}
use Rattle.converter.specs.WritingOut.{list_left, WritesOut}

-- what is at hand once the text is read: its nodes in the table, its signals in the list
pub record AtHand (text : List ℕ) (number : ℕ) (work nodes signals work' table list : List ℕ) (n s : ℕ) : Type 0 where
  pub source : NumberedFormula
  pub meaning : text_expansion text ≡ Done source
  pub answer : conversion text number work nodes signals ≡ formed number (length nodes) (length signals) source
  pub list_told : s ≡ length source.signals
  pub handed : take n table ≡ nodes_of source.formula
  pub listed : take s list ≡ source.signals
  pub table_room : n ≤ length table
  pub list_room : s ≤ length list
  pub work_left : work' ≡ work_after work

module _ (number : ℕ) (nodes signals : List ℕ) {text work work' table table' list list' : List ℕ} {a : Answer}
    (read : Reads text work table list work' table' list' a) (large : length table ≡ max_nodes) (long : length list ≡ max_signals) where
  after-reading : (r : Result NumberedFormula) → reading text (length work) (length table) (length list) ≡ r
      → conversion text number work nodes signals ≡ r >>= formed number (length nodes) (length signals)
  after-reading r e =
      converting-reads text number (length work) (length nodes) (length signals)
      ∙ ap (λ (x : Result NumberedFormula). x >>= formed number (length nodes) (length signals)) (ap₂ (reading text (length work)) (sym large) (sym long) ∙ e)

  -- a text that is refused
  pub read-refused : {e : Refusal} → a ≡ Err e → Converts text number work nodes signals work' nodes signals (Err e)
  unfolding ◌>>=◌
  read-refused {e} h =
      let r : conversion text number work nodes signals ≡ Refused e.number e.place = after-reading (Refused e.number e.place) (refused read.yields h) in
      converts text number
      (record {
        answer = ap told (sym r);
        nodes_left = ap (λ x. nodes_after x nodes) (sym r);
        signals_left = ap (λ x. signals_after x signals) (sym r);
        work_left = read.yields.work_left;
      })

  -- a text that is accepted
  pub read_accepted : {n s : ℕ} → a ≡ Ok (n, s) → AtHand text number work nodes signals work' table' list' n s
  unfolding ◌>>=◌
  read_accepted {n} {s} e =
      let t = accepted read.yields e in
      let c = t.value in
      let left = read.leaves c t.done in
      let nodes_told : count c.formula ≡ n = ap (λ (k : Counts). k.nodes) t.same in
      let signals_told : length c.signals ≡ s = ap (λ (k : Counts). k.signals) t.same in
      let handed : take n table' ≡ nodes_of c.formula = subst (λ (k : ℕ). take k table' ≡ nodes_of c.formula) nodes_told left.handed in
      let listed : take s list' ≡ c.signals = subst (λ (k : ℕ). take k list' ≡ c.signals) signals_told left.list in
      record {
        source = c;
        meaning = (accepted_expansion text (length work) table list c t.done).0;
        answer = after-reading (Done c) t.done;
        list_told = sym signals_told;
        handed = handed;
        listed = listed;
        table_room = taken-room n table' (ap length handed ∙ length_of c.formula ∙ nodes_told);
        list_room = taken-room s list' (ap length listed ∙ signals_told);
        work_left = read.yields.work_left;
      }

module _ {text work nodes signals work' table list nodes' signals' : List ℕ} {number n s : ℕ} {b : Answer}
    (g : AtHand text number work nodes signals work' table list n s) (w : WritesOut number (take n table) (take s list) nodes signals nodes' signals' b) where
  -- the converter tells what the rewriter has answered, with the text's signals
  answered : told (conversion text number work nodes signals) ≡ with_signals s (says b)
  answered =
      ap told g.answer ∙ formed-told text g.source g.meaning number (length nodes) (length signals)
      ∙ ap₂ with_signals (sym g.list_told)
      (ap₂ (λ (t l : List ℕ). rewriting number t (room (length nodes) (length signals) (length l))) (sym g.handed) (sym g.listed) ∙ sym w.answer)

  -- a form that is refused
  pub form-refused : {r : Refusal} → b ≡ Err r → Converts text number work nodes signals work' nodes' signals' (Err r)
  unfolding ◌>>=◌
  form-refused {r} e =
      let refuses = told-refused (conversion text number work nodes signals) {n = r.number} {p = r.place} (sym (answered ∙ ap (λ (x : Answer). with_signals s (says x)) e)) in
      converts text number
      (record {
        answer = ap told (sym refuses);
        nodes_left = w.nodes_left ∙ ap (λ (x : Answer). leaves (says x) (target number (take n table)) nodes) e ∙ ap (λ x. nodes_after x nodes) (sym refuses);
        signals_left = w.signals_left ∙ ap (λ (x : Answer). list_left (says x) (take s list) signals) e ∙ ap (λ x. signals_after x signals) (sym refuses);
        work_left = g.work_left;
      })

  -- a form that is accepted
  module _ {m k : ℕ} (e : b ≡ Ok (m, k)) where
    accepts : Done (record { nodes = m; signals = s }) ≡ told (conversion text number work nodes signals)
    unfolding ◌>>=◌
    accepts = sym (answered ∙ ap (λ (x : Answer). with_signals s (says x)) e)

    result : conversion text number work nodes signals ≡ Done (in_form number g.source)
    result =
        let d = told-done (conversion text number work nodes signals) accepts in
        d.done ∙ ap Done (sym (formed-done number nodes signals g.source (sym g.answer ∙ d.done)).same)

    form-is : target number (take n table) ≡ form number g.source.formula
    form-is =
        ap (form number) (ap root g.handed ∙ table-root g.source.formula (text-small text g.source g.meaning) (text_few text g.source g.meaning))

    pub form-accepted : Converts text number work nodes signals work' nodes' signals' (Ok (m, s))
    form-accepted =
        converts text number
        (record {
          answer = accepts;
          nodes_left = w.nodes_left ∙ ap (λ (x : Answer). leaves (says x) (target number (take n table)) nodes) e
              ∙ ap (λ (f : Formula). nodes_of f ++ drop (count f) nodes) form-is ∙ ap (λ x. nodes_after x nodes) (sym result);
          signals_left = w.signals_left ∙ ap (λ (x : Answer). list_left (says x) (take s list) signals) e
              ∙ ap (λ (l : List ℕ). l ++ drop (length l) signals) g.listed ∙ ap (λ x. signals_after x signals) (sym result);
          work_left = g.work_left;
        })

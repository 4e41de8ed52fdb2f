-- The ways to the evaluator's answer, what an accepted answer has, and how the rows in the buffer make the promises of Evaluation.
use Rattle.std.specs.Prelude.{ℕ, ◌*◌, ◌-◌, ◌≤◌, ◌<◌, ◌≡◌, Bool, ◌↔◌, List, leb, get_or, Err}
use Rattle.std.proofs.Math.Path.{sym, ap}
use Rattle.std.proofs.Common.{ap₂, ◌∙◌, subst, add-zero, arith, leb-true, le-leb}
use Rattle.std.proofs.Math.Bool.{So}
use Rattle.std.proofs.Math.Logic.Iff as Equiv
use Rattle.std.proofs.Math.ListN.{length}
use Rattle.std.proofs.lemmas.Bool.{lt-leb}
use Rattle.node.proofs.LogicLaws.{so_same}
use Rattle.node.specs.Result.{Result, Done, guard, ◌>>=◌, Counts}
use Rattle.node.proofs.ResultLaws.{guard-pass, guard-stop, guard-done, bind_done, not_done}
use Rattle.node.specs.Answer.{Answer, says}
use Rattle.node.specs.Returned.{Returned}
use Rattle.node.specs.Table.{checked, tree_at, NodeHolds}
use Rattle.node.specs.Formed.{Formed}
use Rattle.node.proofs.TableLaws.{checked-done}
use Rattle.node.specs.declared.Refusal.{Refusal}
use Rattle.recordings.specs.Limits.{max_signals, max_positions}
use Rattle.rows.specs.Memory.{rows_limit}
use Rattle.bits.specs.Bits.{bit_at, width}
use Rattle.recordings.specs.Recording.{lasso_of, letter_of, readable, counted}
use Rattle.recordings.specs.RecordingLaws.{Reads, readable-done, readable-refused, readable-reads}
use Rattle.recordings.specs.Lasso.{recorded}
use Rattle.rows.specs.Row.{node_row}
use Rattle.rows.specs.RowLaws.{shown_in}
use Rattle.rows.specs.Agreement.{row-right}
use Rattle.recordings.specs.Promise.{Recorded}
use Rattle.evaluator.specs.Evaluated.{Evaluated, Table}
use Rattle.evaluator.proofs.EvaluatedLaws.{trees_of, offset_fits, before-row}
use Rattle.evaluator.specs.Listed.{listed}
use Rattle.evaluator.specs.Evaluation.{rows_size, whole, evaluation, left, finds, verdict_of}
use Rattle.evaluator.specs.Promise.{bit_of_row, RowsHold, Evaluates, Judges}
use Rattle.recordings.specs.declared.Lasso.{Lasso}
use Rattle.evaluator.specs.declared.Verdict.{Verdict}

done-same : {x y : Counts} → Done x ≡ Done y → x ≡ y
done-same q = cc

-- the signals that a recording carries
signals-read : (signals : ℕ) (bs : List ℕ) {d : Counts} → readable signals bs (counted (lasso_of bs)) ≡ Done d → (lasso_of bs).k ≡ d.signals
signals-read signals bs g = ap (λ x. x.signals) (done-same (readable-done signals bs (counted (lasso_of bs)) g).1)

-- the ways to an answer
module _ (nodes : List ℕ) (signals : ℕ) (bs : List ℕ) (room : ℕ) where
  abbrev onward : Counts → Result Counts
  onward counts = readable signals bs (whole signals (lasso_of bs) (guard (leb (rows_size nodes bs) room) 18 0 (Done counts)))

  pub many_signals : max_signals < signals → evaluation nodes signals bs room ≡ Result.Refused 15 0
  unfolding evaluation
  many_signals h = guard-stop 15 0 _ (lt-leb signals max_signals h)

  few_signals_lem : signals ≤ max_signals → evaluation nodes signals bs room ≡ (checked signals nodes >>= onward)
  unfolding evaluation
  few_signals_lem h = guard-pass 15 0 _ (le-leb signals max_signals h)

  pub bad-table : {x y : ℕ} → signals ≤ max_signals → checked signals nodes ≡ Result.Refused x y → evaluation nodes signals bs room ≡ Result.Refused x y
  unfolding ◌>>=◌
  bad-table h e = few_signals_lem h ∙ ap (λ r. r >>= onward) e

  good-table : {c : Counts} → signals ≤ max_signals → checked signals nodes ≡ Done c → evaluation nodes signals bs room ≡ onward c
  unfolding ◌>>=◌
  good-table h e = few_signals_lem h ∙ ap (λ r. r >>= onward) e

  pub bad_recording : {c : Counts} {x y : ℕ} → signals ≤ max_signals → checked signals nodes ≡ Done c → readable signals bs (counted (lasso_of bs)) ≡ Result.Refused x y
      → evaluation nodes signals bs room ≡ Result.Refused x y
  bad_recording h e g = good-table h e ∙ readable-refused _ signals bs _ g

  good_recording : {c d : Counts} → signals ≤ max_signals → checked signals nodes ≡ Done c → readable signals bs (counted (lasso_of bs)) ≡ Done d
      → evaluation nodes signals bs room ≡ whole signals (lasso_of bs) (guard (leb (rows_size nodes bs) room) 18 0 (Done c))
  good_recording h e g = good-table h e ∙ readable-reads signals bs (counted (lasso_of bs)) _ g

  pub missing-signals : {c d : Counts} → signals ≤ max_signals → checked signals nodes ≡ Done c → readable signals bs (counted (lasso_of bs)) ≡ Done d → d.signals < signals
      → evaluation nodes signals bs room ≡ Result.Refused 23 0
  missing-signals {d = d} h e g l =
      let k : (lasso_of bs).k ≡ d.signals = signals-read signals bs g in
      good_recording h e g ∙ guard-stop 23 0 _ (lt-leb signals (lasso_of bs).k (omega arith))

  all-signals : {c d : Counts} → signals ≤ max_signals → checked signals nodes ≡ Done c → readable signals bs (counted (lasso_of bs)) ≡ Done d → signals ≤ d.signals
      → evaluation nodes signals bs room ≡ guard (leb (rows_size nodes bs) room) 18 0 (Done c)
  all-signals {d = d} h e g l =
      let k : (lasso_of bs).k ≡ d.signals = signals-read signals bs g in
      good_recording h e g ∙ guard-pass 23 0 _ (le-leb signals (lasso_of bs).k (omega arith))

  pub short_rows : {c d : Counts} → signals ≤ max_signals → checked signals nodes ≡ Done c → readable signals bs (counted (lasso_of bs)) ≡ Done d → signals ≤ d.signals
      → room < rows_size nodes bs → evaluation nodes signals bs room ≡ Result.Refused 18 0
  short_rows h e g k l = all-signals h e g k ∙ guard-stop 18 0 _ (lt-leb (rows_size nodes bs) room l)

  pub accepts : {c d : Counts} → signals ≤ max_signals → checked signals nodes ≡ Done c → readable signals bs (counted (lasso_of bs)) ≡ Done d → signals ≤ d.signals
      → rows_size nodes bs ≤ room → evaluation nodes signals bs room ≡ Done c
  accepts h e g k l = all-signals h e g k ∙ guard-pass 18 0 _ (le-leb (rows_size nodes bs) room l)

-- the size of all rows, as the code works it out
pub record Sized (nodes bs : List ℕ) (n count : ℕ) : Type 0 where
  pub same : width n * count ≡ rows_size nodes bs
  pub small : rows_size nodes bs ≤ rows_limit

rows-small : {signals : ℕ} (nodes bs : List ℕ) → Formed signals nodes → Reads signals bs → rows_size nodes bs ≤ rows_limit
rows-small nodes bs f r = offset_fits (lasso_of bs).n (length nodes) r.header.few (let h = f.few in omega arith)

pub sized : (signals : ℕ) (nodes bs : List ℕ) {c d : Counts} → checked signals nodes ≡ Done c → readable signals bs (counted (lasso_of bs)) ≡ Done d → Sized nodes bs d.nodes c.nodes
sized signals nodes bs {c} {d} e g =
    let t = checked-done e in
    let p = readable-done signals bs (counted (lasso_of bs)) g in
    let n : (lasso_of bs).n ≡ d.nodes = ap (λ x. x.nodes) (done-same p.1) in
    let m : c.nodes ≡ length nodes = ap (λ x. x.nodes) t.counts in
    record { same = ap₂ (λ x y. width x * y) (sym n) m; small = rows-small nodes bs t.formed p.0 }

-- what an accepted call has
pub record Opens (nodes : List ℕ) (signals : ℕ) (bs : List ℕ) (room : ℕ) : Type 0 where
  pub known : signals ≤ max_signals
  pub formed : Formed signals nodes
  pub reads : Reads signals bs
  pub all : (lasso_of bs).k ≡ signals
  pub fits : rows_size nodes bs ≤ room
  pub small : rows_size nodes bs ≤ rows_limit

pub opens : (nodes : List ℕ) (signals : ℕ) (bs : List ℕ) (room : ℕ) {c : Counts} → evaluation nodes signals bs room ≡ Done c → Opens nodes signals bs room
unfolding evaluation
opens nodes signals bs room e =
    let p = guard-done (leb signals max_signals) 15 0 _ e in
    let q = bind_done (checked signals nodes) (onward nodes signals bs room) p.1 in
    let rooms : Result Counts = guard (leb (rows_size nodes bs) room) 18 0 (Done q.0) in
    let r = readable-done signals bs (whole signals (lasso_of bs) rooms) q.2 in
    let t = guard-done (leb signals (lasso_of bs).k) 23 0 rooms r.1 in
    let s = guard-done (leb (rows_size nodes bs) room) 18 0 (Done q.0) t.1 in
    let f = (checked-done q.1).formed in
    let most = r.0.header.known in
    let least = leb-true signals (lasso_of bs).k t.0 in
    record {
      known = leb-true signals max_signals p.0;
      formed = f;
      reads = r.0;
      all = omega arith;
      fits = leb-true (rows_size nodes bs) room s.0;
      small = rows-small nodes bs f r.0;
    }

pub table_of : (nodes : List ℕ) (signals : ℕ) (bs old : List ℕ) {w : Lasso} → Opens nodes signals bs (length old) → w ≡ lasso_of bs → Table nodes bs w old
table_of nodes signals bs old o e = subst (λ w. Table nodes bs w old) (sym e) (record { some = o.formed.some; trees = trees_of o.formed; recorded = heard; room = o.fits })
  where
    heard : Recorded bs (lasso_of bs)
    heard =
        let h = o.reads.header in
        let k = o.known in
        let l = o.reads.whole in
        record { loop = h.loop; few = h.few; small = omega arith; room = omega arith }

pub refuses : (nodes : List ℕ) (signals : ℕ) (bs old : List ℕ) {t u : Answer} {r : Refusal} → says t ≡ evaluation nodes signals bs (length old) → t ≡ Err r → u ≡ Err r
    → Evaluates u nodes signals bs old old
refuses nodes signals bs old h e g =
    let q : evaluation nodes signals bs (length old) ≡ Result.Refused _ _ = sym h ∙ ap says e in
    record { answer = ap says g ∙ sym q; buffer = sym (ap (left nodes bs old) q); holds = λ c d. absurd (not_done (sym (ap says g) ∙ d)) }

module _ (nodes : List ℕ) (signals : ℕ) (bs old new : List ℕ) where
  rows_hold : Opens nodes signals bs (length old) → Evaluated bs (lasso_of bs) nodes (length nodes) old new → RowsHold nodes bs new
  rows_hold o v i p h l =
      let w : Lasso = lasso_of bs in
      let q : bit_at new (bit_of_row bs i p) ≡ node_row bs w nodes i p = v.right i h p (omega arith) ∙ shown_in w.n (node_row bs w nodes i) p l in
      subst (λ x. So x ↔ NodeHolds nodes i (recorded bs) p) (sym q) (row-right w.n w.l (letter_of bs w.k) o.reads.header.loop (tree_at nodes i) p l)

  pub evaluates : {t : Answer} {c : Counts} {w : Lasso} → says t ≡ evaluation nodes signals bs (length old) → says t ≡ Done c → w ≡ lasso_of bs
      → Evaluated bs w nodes (length nodes) old new → ((k : ℕ) → get_or new k 0 < 256) → Evaluates t nodes signals bs old new
  evaluates {t} {c} h d q v small =
      let e : evaluation nodes signals bs (length old) ≡ Done c = sym h ∙ d in
      let o = opens nodes signals bs (length old) e in
      let v' : Evaluated bs (lasso_of bs) nodes (length nodes) old new = subst (λ x. Evaluated bs x nodes (length nodes) old new) q v in
      record {
        answer = h;
        buffer = listed bs (lasso_of bs) nodes (length nodes) old new v' small o.fits ∙ sym (ap (left nodes bs old) e);
        holds = λ counts g. rows_hold o v';
      }

-- the root's row lies in the buffer
pub record RootIn (nodes : List ℕ) (room : ℕ) (w : Lasso) : Type 0 where
  pub few : w.n ≤ max_positions
  pub some : 0 < length nodes
  pub low : width w.n * (length nodes - 1) ≤ rows_limit
  pub inside : width w.n * (length nodes - 1) < room

pub root_in : (nodes : List ℕ) (signals : ℕ) (bs : List ℕ) (room : ℕ) {w : Lasso} → Opens nodes signals bs room → w ≡ lasso_of bs → RootIn nodes room w
root_in nodes signals bs room o e = subst (λ w. RootIn nodes room w) (sym e) here
  where
    here : RootIn nodes room (lasso_of bs)
    here =
        let h = o.reads.header in
        let s = o.formed.some in
        let wide : 0 < width (lasso_of bs).n = (let m = h.some in omega arith) in
        let m = before-row (width (lasso_of bs).n) (length nodes - 1) (length nodes) (omega arith) in
        let f = o.fits in
        let k = o.small in
        record { few = h.few; some = s; low = omega arith; inside = omega arith }

done-bool : {b c : Bool} → Done b ≡ Done c → b ≡ c
done-bool e = cc

-- the verdict of the definition is the root at position 0 of the infinite word
pub verdict_means : (nodes : List ℕ) (signals : ℕ) (bs : List ℕ) (room : ℕ) {b : Bool} → verdict_of nodes signals bs room ≡ Done b
    → So b ↔ NodeHolds nodes (length nodes - 1) (recorded bs) 0
unfolding verdict_of
verdict_means nodes signals bs room e =
    let p = bind_done (evaluation nodes signals bs room) (λ counts. Done (node_row bs (lasso_of bs) nodes (length nodes - 1) 0)) e in
    let h = (opens nodes signals bs room p.1).reads.header in
    let w : Lasso = lasso_of bs in
    subst (λ x. So x ↔ NodeHolds nodes (length nodes - 1) (recorded bs) 0) (done-bool p.2)
    (row-right w.n w.l (letter_of bs w.k) h.loop (tree_at nodes (length nodes - 1)) 0 h.some)

module _ (nodes : List ℕ) (signals : ℕ) (bs old new : List ℕ) {t : Answer} (e : Evaluates t nodes signals bs old new) where
  judges_refusal : {x : Refusal} → t ≡ Err x → Judges (Err x) nodes signals bs old new
  unfolding verdict_of ◌>>=◌
  judges_refusal q =
      let r : evaluation nodes signals bs (length old) ≡ Result.Refused _ _ = sym e.answer ∙ ap says q in
      record { answer = sym (ap (λ x. x >>= (λ counts. Done (node_row bs (lasso_of bs) nodes (length nodes - 1) 0))) r); buffer = e.buffer; holds = λ b d. absurd (not_done d); rows = λ b d. absurd (not_done d) }

  pub judges_handed : {x : Refusal} {v : Returned Verdict} → t ≡ Err x → v ≡ Err x → Judges v nodes signals bs old new
  judges_handed q h = subst (λ (u : Returned Verdict). Judges u nodes signals bs old new) (sym h) (judges_refusal q)

  pub judges : {c : Counts} (v : Returned Verdict) {b d : Bool} {lasso : Lasso} → says t ≡ Done c → lasso ≡ lasso_of bs → d ≡ bit_at new (8 * (width lasso.n * (length nodes - 1))) → d ≡ b
      → finds v ≡ Done b → Judges v nodes signals bs old new
  unfolding verdict_of ◌>>=◌
  judges {c} v {b} q lasso-is bit bit_is f =
      let r : evaluation nodes signals bs (length old) ≡ Done c = sym e.answer ∙ q in
      let o = opens nodes signals bs (length old) r in
      let w : Lasso = lasso_of bs in
      let i : length nodes - 1 < length nodes = (let s = o.formed.some in omega arith) in
      let here : b ≡ bit_at new (bit_of_row bs (length nodes - 1) 0) =
      sym bit_is ∙ bit ∙ ap (λ x. bit_at new (8 * (width x.n * (length nodes - 1)))) lasso-is ∙ ap (bit_at new) (sym (add-zero _)) in
      let root = e.holds c q (length nodes - 1) 0 i o.reads.header.some in
      let row = row-right w.n w.l (letter_of bs w.k) o.reads.header.loop (tree_at nodes (length nodes - 1)) 0 o.reads.header.some in
      let same : b ≡ node_row bs w nodes (length nodes - 1) 0 = here ∙ so_same _ _ (Equiv.trans root (Equiv.symm row)) in
      let answer : finds v ≡ verdict_of nodes signals bs (length old) =
      f ∙ ap Done same ∙ sym (ap (λ x. x >>= (λ counts. Done (node_row bs w nodes (length nodes - 1) 0))) r) in
      record { answer = answer; buffer = e.buffer; holds = λ d g. verdict_means nodes signals bs (length old) (sym answer ∙ g); rows = λ d g. e.holds c q }

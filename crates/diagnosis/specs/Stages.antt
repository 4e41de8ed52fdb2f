-- `diagnose` by stages: the reader's answer into a table and a list of the largest size, then the diagnosis of the table.
use Rattle.std.specs.Prelude.{ℕ, ◌≤◌, ◌≡◌, refl, Bool, true, false, List, leb, length, take, Ok, Err}
use Rattle.std.proofs.Common.{ap, ap₂, ◌∙◌, sym, subst, leb-true}
use Rattle.std.proofs.Math.Logic.Iff as Equiv
use Rattle.std.proofs.lemmas.List.{length-map}
use Rattle.node.specs.Limits.{max_nodes}
use Rattle.node.proofs.LogicLaws.{so_same}
use Rattle.node.specs.Result.{Result, Done, Refused, ◌>>=◌, Counts}
use Rattle.node.proofs.ResultLaws.{guard-done, guard_bind, bind_to, bind_where, bind_refused}
use Rattle.node.specs.Table.{tree_at}
use Rattle.node.specs.Written.{nodes_of, count}
use Rattle.node.proofs.WrittenLaws.{length_of, table-root}
use Rattle.node.specs.Returned.{Returned}
use Rattle.node.specs.declared.Refusal.{Refusal}
use Rattle.bits.specs.Bits.{Values}
use Rattle.recordings.specs.Recording.{lasso_of, letter_of}
use Rattle.recordings.specs.declared.Lasso.{Lasso}
use Rattle.rows.specs.Agreement.{row-right}
use Rattle.evaluator.specs.Evaluation.{verdict_of}
use Rattle.evaluator.specs.Promise.{RowsHold}
use Rattle.evaluator.proofs.EvaluationLaws.{Opens}
use Rattle.language.specs.Limits.{max_signals, work_bytes}
use Rattle.language.specs.Tree.{Part, Preset, Assert, Guarantee}
use Rattle.language.specs.Numbering.{in_order, signal_list}
use Rattle.language.specs.Expansion.{lines_of, conjunction, whole}
use Rattle.language.specs.Shifting.{adapted}
use Rattle.language.specs.Reading.{NumberedFormula, text_expansion, reading, work_after}
use Rattle.language.proofs.Laws.Meaning.Acceptance.{accepts}
use Rattle.claim.proofs.ClaimLaws.{text_few, text-small}
use Rattle.claim.proofs.YieldsLaws.{accepted, refused}
use Rattle.parser.specs.declared.Facts.{Facts}
use Rattle.reader.specs.declared.Told.{Told}
use Rattle.reader.specs.Promise.{ReadsTold}
use Rattle.faults.specs.Naming.{line_named}
use Rattle.faults.specs.Diagnosing.{Lined, lined, lined_by, line_rows, finding, diagnosing, rows_left, rows_after}
use Rattle.faults.proofs.TextLaws.{lines_of_lem, diagnosed_holds, diagnosed_fault}
use Rattle.claim.proofs.DeliveredLaws.{taken-room}
use Rattle.faults.proofs.Delivered.{accepting, reading-accepting}
use Rattle.line_counts.specs.declared.LineCounts.{LineCounts}
use Rattle.line_counts.specs.Promise.{counts_of}
use Rattle.diagnosis.specs.declared.Diagnosis.{Diagnosis}
use Rattle.diagnosis.specs.Promise.{tells, Diagnoses}
use Rattle.line_search.specs.FoundLaws.{Given, found-named}
use Rattle.diagnosis.specs.Tables.{found_by, DiagnosesTable}
use Rattle.diagnosis.specs.TablesLaws.{judged_opens}

-- the promise follows from the answer and the buffers
diagnosed : {text recording work rows work' rows' : List ℕ} {r : Returned Diagnosis} → tells r ≡ diagnosing text recording (length work) (length rows)
    → rows' ≡ rows_after text recording (length work) rows → work' ≡ work_after work → Diagnoses text recording work rows work' rows' r
diagnosed {text} {recording} {work} {rows} e l w =
    record {
      answer = e;
      rows_left = l;
      work_left = w;
      holds = λ c m h g. diagnosed_holds text c m recording g (length work) (length rows) (sym e ∙ h);
      fault = λ c m q k h g. diagnosed_fault text c m recording g (length work) (length rows) q k (sym e ∙ h);
    }

-- the diagnosis of what the reader answers with buffers of the largest size
pub diagnosing-accepting : (text recording : List ℕ) (work rows : ℕ)
    → diagnosing text recording work rows ≡ accepting text work >>= λ c. verdict_of (nodes_of c.formula) (length c.signals) recording rows >>= finding text recording
unfolding diagnosing
diagnosing-accepting text recording work rows = sym (guard_bind (leb work_bytes work) 17 0 (text_expansion text) _)

-- the line that the walk finds in the rows of a text's own nodes is the one that the definition names
module _ (text : List ℕ) (c : NumberedFormula) (e : text_expansion text ≡ Done c) (recording rows : List ℕ) (strict : Bool) (lines : LineCounts)
    (strictly : strict ≡ (accepts e).spec.strict) (counted : lines ≡ counts_of (lines_of_lem text c e).sections) where
  abbrev own : Lined
  own = lined_by (accepts e).spec (accepts e).declared (lines_of_lem text c e).sections

  as_many : (q : Part) → length (lines_of q (lines_of_lem text c e).sections) ≡ length (own.formulas q)
  as_many q =
      let x = accepts e in
      sym (length-map (lines_of q (lines_of_lem text c e).sections) (adapted x.spec.semantics x.spec.target (signal_list (in_order x.declared))))

  abbrev w : Lasso
  w = lasso_of recording

  abbrev rows_of : Part → List Values
  rows_of q = line_rows recording (own.formulas q)

  module _ {room : ℕ} (o : Opens (nodes_of c.formula) (length c.signals) recording room) (h : RowsHold (nodes_of c.formula) recording rows) where
    given : Given (nodes_of c.formula) rows strict lines w.n w.l (letter_of recording w.k) own.formulas
    given =
        record {
          limit = length c.signals;
          formed = o.formed;
          root =
              table-root c.formula (text-small text c e) (text_few text c e)
              ∙ (lines_of_lem text c e).formula
              ∙ ap (λ (b : Bool). whole b (λ q. conjunction (own.formulas q))) (sym strictly);
          some = o.reads.header.some;
          right = λ i p b m.
              so_same _ _
              (Equiv.trans (h i p b m) (Equiv.symm (row-right w.n w.l (letter_of recording w.k) o.reads.header.loop (tree_at (nodes_of c.formula) i) p m)));
          preset = ap (λ (k : LineCounts). k.preset) counted ∙ as_many Preset;
          assert = ap (λ (k : LineCounts). k.assert) counted ∙ as_many Assert;
          guarantee = ap (λ (k : LineCounts). k.guarantee) counted ∙ as_many Guarantee;
        }

    found-is : (b : Bool) → Done (found_by (nodes_of c.formula) rows strict lines w.n b) ≡ finding text recording b
    found-is true = refl
    found-is false =
        ap Done (found-named (nodes_of c.formula) rows strict lines w.n w.l (letter_of recording w.k) own.formulas given)
        ∙ ap (λ (b : Bool). Done (line_named b rows_of w.n)) strictly
        ∙ sym (bind_to (lined text) own _ (lines_of_lem text c e).lining)

-- what is at hand once the text is read: its nodes in the table, how many signals it has, and of its lines what the search wants to know
pub record AtHand (text work work' table : List ℕ) (n s : ℕ) (told : Told) : Type 0 where
  pub source : NumberedFormula
  pub meaning : text_expansion text ≡ Done source
  pub passed : accepting text (length work) ≡ Done source
  pub handed : take n table ≡ nodes_of source.formula
  pub listed : s ≡ length source.signals
  pub room : n ≤ length table
  pub strict : told.facts.strict ≡ (accepts meaning).spec.strict
  pub lines : told.lines ≡ counts_of (lines_of_lem text source meaning).sections
  pub work_left : work' ≡ work_after work

module _ {text work work' table table' list list' : List ℕ} {told : Told} (read : ReadsTold text work table list work' table' list' told) (large : length table ≡ max_nodes)
    (long : length list ≡ max_signals) where
  answered : (r : Result NumberedFormula) → reading text (length work) (length table) (length list) ≡ r → accepting text (length work) ≡ r
  answered r e = sym (reading-accepting text (length work)) ∙ ap₂ (reading text (length work)) (sym large) (sym long) ∙ e

  -- a text that is refused
  pub read-refused : {x : Refusal} {r : Returned Diagnosis} (recording rows : List ℕ) → told.answer ≡ Err x → r ≡ Err x → Diagnoses text recording work rows work' rows r
  read-refused {x} recording rows e h =
      let a = answered (Refused x.number x.place) (refused read.reads.yields e) in
      diagnosed (ap tells h ∙ sym (diagnosing-accepting text recording (length work) (length rows) ∙ bind_refused (accepting text (length work)) x.number x.place _ a)) (sym (ap (rows_left recording rows) a))
      read.reads.yields.work_left

  -- a text that is accepted
  pub read_accepted : {n s : ℕ} → told.answer ≡ Ok (n, s) → AtHand text work work' table' n s told
  read_accepted {n} {s} e =
      let t = accepted read.reads.yields e in
      let c = t.value in
      let a = answered (Done c) t.done in
      let g = guard-done (leb work_bytes (length work)) 17 0 (text_expansion text) a in
      let x = accepts g.1 in
      let nodes_told : count c.formula ≡ n = ap (λ (k : Counts). k.nodes) t.same in
      let handed : take n table' ≡ nodes_of c.formula = subst (λ (k : ℕ). take k table' ≡ nodes_of c.formula) nodes_told (read.reads.leaves c t.done).handed in
      record {
        source = c;
        meaning = g.1;
        passed = a;
        handed = handed;
        listed = sym (ap (λ (k : Counts). k.signals) t.same);
        room = taken-room n table' (ap length handed ∙ length_of c.formula ∙ nodes_told);
        strict = ap (λ (f : Facts). f.strict) (read.facts (leb-true work_bytes (length work) g.0) x.spec x.parsing);
        lines = read.lines n s e x.spec x.declared x.parsing x.declaring (lines_of_lem text c g.1).sections (lines_of_lem text c g.1).sectioning;
        work_left = read.reads.yields.work_left;
      }

-- the diagnosis of what is at hand
pub read_diagnosed : {text recording work work' table rows rows' : List ℕ} {n s : ℕ} {told : Told} {r : Returned Diagnosis} → AtHand text work work' table n s told
    → DiagnosesTable (take n table) s recording told.facts.strict told.lines rows rows' r → Diagnoses text recording work rows work' rows' r
read_diagnosed {text} {recording} {work} {rows = rows} {rows'} {told = told} {r} g d =
    let c = g.source in
    let ws = nodes_of c.formula in
    let signals = length c.signals in
    let t : DiagnosesTable ws signals recording told.facts.strict told.lines rows rows' r = rw (g.handed, g.listed) at d in
    diagnosed
    (t.answer
    ∙ bind_where (verdict_of ws signals recording (length rows)) _ (finding text recording)
    (λ b h. found-is text c g.meaning recording rows' told.facts.strict told.lines g.strict g.lines (judged_opens ws signals recording (length rows) h) (t.rows b h) b)
    ∙ sym (diagnosing-accepting text recording (length work) (length rows) ∙ bind_to (accepting text (length work)) c _ g.passed))
    (t.buffer ∙ sym (ap (rows_left recording rows) g.passed)) g.work_left

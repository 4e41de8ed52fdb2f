-- `judge_text` by stages: the reader's answer into a table and a list of the largest size, then the evaluator's verdict on them.
use Rattle.std.specs.Prelude.{ℕ, ◌≤◌, ◌≡◌, List, leb, Ok, Err}
use Rattle.std.proofs.Math.Path.{ap, sym, subst}
use Rattle.std.proofs.Common.{ap₂, ◌∙◌}
use Rattle.std.proofs.Math.ListN.{length, take}
use Rattle.node.specs.Limits.{max_nodes}
use Rattle.node.specs.Result.{Result, Done, Refused, ◌>>=◌, Counts}
use Rattle.node.proofs.ResultLaws.{guard-done, guard_bind, bind_done}
use Rattle.node.specs.Written.{nodes_of, count}
use Rattle.node.proofs.WrittenLaws.{length_of}
use Rattle.node.specs.declared.Refusal.{Refusal}
use Rattle.node.specs.Answer.{Answer}
use Rattle.node.specs.Returned.{Returned}
use Rattle.evaluator.specs.Evaluation.{rows_size, verdict_of, finds}
use Rattle.evaluator.specs.declared.Verdict.{Verdict}
use Rattle.language.specs.Limits.{max_signals, work_bytes}
use Rattle.language.specs.Reading.{NumberedFormula, text_expansion, reading, work_after}
use Rattle.claim.proofs.YieldsLaws.{accepted, refused}
use Rattle.claim.specs.Reads.{Reads}
use Rattle.faults.proofs.TextLaws.{verdict-of-text}
use Rattle.claim.proofs.DeliveredLaws.{taken-room}
use Rattle.faults.proofs.Delivered.{accepting, reading-accepting}
use Rattle.judging.specs.Judging.{verdict_on, judging}
use Rattle.judging.specs.Promise.{JudgesText}
use Rattle.judging.specs.MeaningLaws.{played}

-- the verdict is what the evaluator makes of the reader's answer
pub judging-accepting : (text recording : List ℕ) (work : ℕ) → judging text recording work ≡ accepting text work >>= verdict_on recording
unfolding judging
judging-accepting text recording work = sym (guard_bind (leb work_bytes work) 17 0 (text_expansion text) (verdict_on recording))

-- the promise follows from the answer
module _ (text recording : List ℕ) {work work' : List ℕ} {r : Returned Verdict} where
  judged : finds r ≡ judging text recording (length work) → work' ≡ work_after work → JudgesText text recording work work' r
  unfolding judging
  judged e w =
      record {
        answer = e;
        means = λ c m b d g.
            let a = guard-done _ 17 0 _ (sym e ∙ d) in
            let s = bind_done (text_expansion text) (verdict_on recording) a.1 in
            verdict-of-text text c m recording (rows_size (nodes_of c.formula) recording) g (ap (verdict_on recording) (same (sym m ∙ s.1)) ∙ s.2);
        played = λ c m. played text c m recording;
        work_left = w;
      }
    where
      same : {c d : NumberedFormula} → Done c ≡ Done d → c ≡ d
      same q = cc

-- what is at hand once the text is read: its nodes in the table, and how many signals it has
pub record AtHand (text recording work work' table : List ℕ) (n s : ℕ) : Type 0 where
  pub source : NumberedFormula
  pub answer : judging text recording (length work) ≡ verdict_on recording source
  pub handed : take n table ≡ nodes_of source.formula
  pub counted : s ≡ length source.signals
  pub room : n ≤ length table
  pub work_left : work' ≡ work_after work

module _ (recording : List ℕ) {text work work' table table' list list' : List ℕ} {a : Answer}
    (read : Reads text work table list work' table' list' a) (large : length table ≡ max_nodes) (long : length list ≡ max_signals) where
  after-reading : (r : Result NumberedFormula) → reading text (length work) (length table) (length list) ≡ r → judging text recording (length work) ≡ r >>= verdict_on recording
  after-reading r e =
      judging-accepting text recording (length work)
      ∙ ap (λ (x : Result NumberedFormula). x >>= verdict_on recording) (sym (reading-accepting text (length work)) ∙ ap₂ (reading text (length work)) (sym large) (sym long) ∙ e)

  -- a text that is refused
  pub read-refused : {x : Refusal} {r : Returned Verdict} → a ≡ Err x → r ≡ Err x → JudgesText text recording work work' r
  unfolding ◌>>=◌
  read-refused {x} e h =
      judged text recording (ap finds h ∙ sym (after-reading (Refused x.number x.place) (refused read.yields e))) read.yields.work_left

  -- a text that is accepted
  pub read_accepted : {n s : ℕ} → a ≡ Ok (n, s) → AtHand text recording work work' table' n s
  unfolding ◌>>=◌
  read_accepted {n} {s} e =
      let t = accepted read.yields e in
      let c = t.value in
      let nodes_told : count c.formula ≡ n = ap (λ (k : Counts). k.nodes) t.same in
      let handed : take n table' ≡ nodes_of c.formula = subst (λ (k : ℕ). take k table' ≡ nodes_of c.formula) nodes_told (read.leaves c t.done).handed in
      record {
        source = c;
        answer = after-reading (Done c) t.done;
        handed = handed;
        counted = sym (ap (λ (k : Counts). k.signals) t.same);
        room = taken-room n table' (ap length handed ∙ length_of c.formula ∙ nodes_told);
        work_left = read.yields.work_left;
      }

-- the evaluator's verdict on what is at hand
pub read_judged : {text recording work work' table : List ℕ} {n s : ℕ} {r : Returned Verdict} → AtHand text recording work work' table n s
    → finds r ≡ verdict_of (take n table) s recording (rows_size (take n table) recording) → JudgesText text recording work work' r
read_judged {recording = recording} g e =
    judged _ recording
    (e ∙ ap₂ (λ (nodes : List ℕ) (signals : ℕ). verdict_of nodes signals recording (rows_size nodes recording)) g.handed g.counted ∙ sym g.answer) g.work_left

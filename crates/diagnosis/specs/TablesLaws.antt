-- Which answer a verdict on a table gives.
use Rattle.std.specs.Prelude.{ℕ, ◌≤◌, ◌<◌, ◌≡◌, refl, Bool, List, length, Ok, Err}
use Rattle.std.proofs.Common.{sym, ap, ◌∙◌}
use Rattle.node.specs.Limits.{max_nodes}
use Rattle.node.specs.Result.{Done, Refused}
use Rattle.node.specs.Returned.{Returned}
use Rattle.node.specs.declared.Refusal.{Refusal}
use Rattle.node.proofs.ResultLaws.{bind_done, bind_to, bind_refused, not_done}
use Rattle.recordings.specs.Limits.{max_positions}
use Rattle.recordings.specs.Recording.{lasso_of}
use Rattle.recordings.specs.declared.Lasso.{Lasso}
use Rattle.evaluator.specs.Evaluation.{evaluation, finds, verdict_of}
use Rattle.evaluator.specs.Promise.{Judges}
use Rattle.evaluator.proofs.EvaluationLaws.{Opens, opens}
use Rattle.evaluator.specs.declared.Verdict.{Verdict}
use Rattle.diagnosis.specs.declared.Diagnosis.{Diagnosis}
use Rattle.line_counts.specs.declared.LineCounts.{LineCounts}
use Rattle.diagnosis.specs.Promise.{tells}
use Rattle.line_search.specs.Walking.{line_found}
use Rattle.diagnosis.specs.Tables.{found_by, DiagnosesTable}

-- a table on which there is a verdict
pub judged_opens : (nodes : List ℕ) (signals : ℕ) (bs : List ℕ) (room : ℕ) {b : Bool} → verdict_of nodes signals bs room ≡ Done b → Opens nodes signals bs room
unfolding verdict_of
judged_opens nodes signals bs room h = opens nodes signals bs room (bind_done (evaluation nodes signals bs room) _ h).1

-- what the search for a line asks of it
pub record Searched (nodes : List ℕ) (n : ℕ) : Type 0 where
  pub some : 0 < length nodes
  pub few : length nodes ≤ max_nodes
  pub short : n ≤ max_positions

module _ {nodes : List ℕ} {signals : ℕ} {bs old new : List ℕ} {v : Returned Verdict} (j : Judges v nodes signals bs old new) where
  pub fails_opens : v ≡ Ok Verdict.Fails → Opens nodes signals bs (length old)
  fails_opens e = judged_opens nodes signals bs (length old) (sym j.answer ∙ ap finds e)

  pub fails_searched : {w : Lasso} → v ≡ Ok Verdict.Fails → w ≡ lasso_of bs → Searched nodes w.n
  fails_searched e q = let o = fails_opens e in rw q (record { some = o.formed.some; few = o.formed.few; short = o.reads.header.few })

  module _ (strict : Bool) (lines : LineCounts) where
    -- a refusal
    pub table-refused : {x : Refusal} {d : Returned Diagnosis} → v ≡ Err x → d ≡ Err x → DiagnosesTable nodes signals bs strict lines old new d
    table-refused {x} e h =
        let r : verdict_of nodes signals bs (length old) ≡ Refused x.number x.place = sym j.answer ∙ ap finds e in
        record { answer = ap tells h ∙ sym (bind_refused (verdict_of nodes signals bs (length old)) x.number x.place _ r); buffer = j.buffer; rows = λ b h. absurd (not_done (sym r ∙ h)) }

    -- a verdict
    judged : {b : Bool} {r : Returned Diagnosis} → finds v ≡ Done b → tells r ≡ Done (found_by nodes new strict lines (lasso_of bs).n b) → DiagnosesTable nodes signals bs strict lines old new r
    judged {b} h e =
        record {
          answer = e ∙ sym (bind_to (verdict_of nodes signals bs (length old)) b _ (sym j.answer ∙ h));
          buffer = j.buffer;
          rows = λ a g. j.rows a (j.answer ∙ g);
        }

    pub table-holds : v ≡ Ok Verdict.Holds → DiagnosesTable nodes signals bs strict lines old new (Ok Diagnosis.Holds)
    table-holds e = judged (ap finds e) refl

    pub table-fails : {w : Lasso} {r : Returned Diagnosis} → v ≡ Ok Verdict.Fails → w ≡ lasso_of bs → tells r ≡ Done (line_found nodes new strict lines w.n)
        → DiagnosesTable nodes signals bs strict lines old new r
    table-fails e q h = judged (ap finds e) (h ∙ ap (λ (x : Lasso). Done (line_found nodes new strict lines x.n)) q)

-- Until F-5 a signal that was not recorded counted as absent. On full recordings nothing has changed since (document 02, F-5: 'The evaluator's verdicts on full recordings
-- are the old ones'); where the old answer accepted a recording with fewer signals, the new one is 23.
use Rattle.std.specs.Prelude.{ℕ, ◌-◌, ◌≤◌, ◌<◌, ◌≡◌, List, leb, length}
use Rattle.std.proofs.Math.Path.{ap}
use Rattle.std.proofs.Common.{◌∙◌, le-leb}
use Rattle.std.proofs.lemmas.Bool.{lt-leb}
use Rattle.node.specs.Result.{Result, Done, guard, ◌>>=◌, Counts}
use Rattle.node.proofs.ResultLaws.{guard-pass, guard-stop, guard-done, bind_done}
use Rattle.node.specs.Table.{checked}
use Rattle.recordings.specs.Limits.{max_signals}
use Rattle.recordings.specs.Recording.{lasso_of, readable}
use Rattle.recordings.specs.RecordingLaws.{readable-reads, readable-same, guard-same, bind_same}
use Rattle.rows.specs.Row.{node_row}
use Rattle.evaluator.specs.Evaluation.{rows_size, whole, evaluation, left, verdict_of}

-- the answer as it was
abbrev pub lenient : List ℕ → ℕ → List ℕ → ℕ → Result Counts
lenient nodes signals bs room =
    guard (leb signals max_signals) 15 0
    (checked signals nodes >>= (λ counts. readable signals bs (guard (leb (rows_size nodes bs) room) 18 0 (Done counts))))

module _ (nodes : List ℕ) (signals : ℕ) (bs : List ℕ) (room : ℕ) where
  pub full_same : signals ≤ (lasso_of bs).k → evaluation nodes signals bs room ≡ lenient nodes signals bs room
  unfolding evaluation
  full_same h =
      guard-same (leb signals max_signals) 15 0
      (λ _. bind_same (checked signals nodes) (λ c e. readable-same signals bs (λ _. guard-pass 23 0 _ (le-leb signals (lasso_of bs).k h))))

  pub full_buffer : (old : List ℕ) → signals ≤ (lasso_of bs).k → left nodes bs old (evaluation nodes signals bs room) ≡ left nodes bs old (lenient nodes signals bs room)
  full_buffer old h = ap (left nodes bs old) (full_same h)

  pub full_verdict : signals ≤ (lasso_of bs).k
      → verdict_of nodes signals bs room ≡ (lenient nodes signals bs room >>= (λ counts. Done (node_row bs (lasso_of bs) nodes (length nodes - 1) 0)))
  unfolding verdict_of
  full_verdict h = ap (λ r. r >>= (λ counts. Done (node_row bs (lasso_of bs) nodes (length nodes - 1) 0))) (full_same h)

  pub partial_refused : {c : Counts} → lenient nodes signals bs room ≡ Done c → (lasso_of bs).k < signals → evaluation nodes signals bs room ≡ Result.Refused 23 0
  unfolding evaluation ◌>>=◌
  partial_refused e h =
      let p = guard-done (leb signals max_signals) 15 0 _ e in
      let q = bind_done (checked signals nodes) (λ counts. readable signals bs (guard (leb (rows_size nodes bs) room) 18 0 (Done counts))) p.1 in
      guard-pass 15 0 _ p.0
      ∙ ap (λ t. t >>= (λ counts. readable signals bs (whole signals (lasso_of bs) (guard (leb (rows_size nodes bs) room) 18 0 (Done counts))))) q.1
      ∙ readable-reads signals bs (guard (leb (rows_size nodes bs) room) 18 0 (Done q.0)) _ q.2 ∙ guard-stop 23 0 _ (lt-leb signals (lasso_of bs).k h)

-- Room for the rows of every table over every recording: what the evaluator answers with so much room is what it answers with room for exactly its rows.
use Rattle.std.specs.Prelude.{ℕ, ◌-◌, ◌≤◌, ◌≡◌, List, leb, length}
use Rattle.std.proofs.Math.Path.{ap}
use Rattle.std.proofs.Common.{◌∙◌, sym, mul-le-mul, arith, le-leb}
use Rattle.node.specs.Limits.{max_nodes}
use Rattle.node.specs.Result.{Result, Done, ◌>>=◌, guard, Counts}
use Rattle.node.proofs.ResultLaws.{guard-pass}
use Rattle.node.specs.Table.{checked}
use Rattle.node.proofs.TableLaws.{checked-done}
use Rattle.recordings.specs.Limits.{max_signals}
use Rattle.bits.specs.Bits.{width}
use Rattle.recordings.specs.Recording.{lasso_of}
use Rattle.recordings.specs.RecordingLaws.{Heads, guard-same, bind_same, readable-same}
use Rattle.rows.specs.Row.{node_row}
use Rattle.rows.specs.Memory.{row_bytes}
use Rattle.evaluator.specs.Evaluation.{rows_size, evaluation, verdict_of}
use Rattle.judging.specs.Room.{rows_room}

module _ (nodes : List ℕ) (signals : ℕ) (bs : List ℕ) (room : ℕ) (h : rows_room ≤ room) where
  rows_fit : length nodes ≤ max_nodes → Heads signals (lasso_of bs) → rows_size nodes bs ≤ room
  rows_fit few head =
      let positions = head.few in
      let v : width (lasso_of bs).n ≤ row_bytes = omega arith in
      let all : rows_size nodes bs ≤ rows_room = mul-le-mul v few in
      omega arith

  room-passed : (c : Counts) → checked signals nodes ≡ Done c → Heads signals (lasso_of bs)
      → guard (leb (rows_size nodes bs) room) 18 0 (Done c) ≡ guard (leb (rows_size nodes bs) (rows_size nodes bs)) 18 0 (Done c)
  room-passed c e head =
      guard-pass 18 0 (Done c) (le-leb (rows_size nodes bs) room (rows_fit (checked-done e).formed.few head))
      ∙ sym (guard-pass 18 0 (Done c) (le-leb (rows_size nodes bs) (rows_size nodes bs) (omega arith)))

  evaluation_enough : evaluation nodes signals bs room ≡ evaluation nodes signals bs (rows_size nodes bs)
  unfolding evaluation
  evaluation_enough = guard-same (leb signals max_signals) 15 0 (λ _. bind_same (checked signals nodes)
      (λ c e. readable-same signals bs (λ h. guard-same (leb signals (lasso_of bs).k) 23 0 (λ _. room-passed c e h))))

  pub verdict_enough : verdict_of nodes signals bs room ≡ verdict_of nodes signals bs (rows_size nodes bs)
  unfolding verdict_of
  verdict_enough = ap (λ (r : Result Counts). r >>= (λ counts. Done (node_row bs (lasso_of bs) nodes (length nodes - 1) 0))) evaluation_enough

-- The evaluator's answer, its buffer and its verdict (document 01, 'Recordings' and 'Refusals with their places'; document 02, F-5).
-- Laws in EvaluationLaws.
use Rattle.std.specs.Prelude.{ℕ, ◌*◌, ◌-◌, Bool, true, false, List, ◌++◌, leb, length, drop, Ok, Err}
use Rattle.node.specs.Result.{Result, Done, guard, ◌>>=◌, Counts}
use Rattle.node.specs.Table.{checked}
use Rattle.node.specs.Returned.{Returned}
use Rattle.recordings.specs.Limits.{max_signals}
use Rattle.bits.specs.Bits.{width}
use Rattle.recordings.specs.Recording.{lasso_of, readable}
use Rattle.recordings.specs.declared.Lasso.{Lasso}
use Rattle.rows.specs.Row.{node_row, table_bytes}
use Rattle.evaluator.specs.declared.Verdict.{Verdict}

-- the bytes of all rows: 'one row of N bits, rounded up to bytes, for every node'
abbrev pub rows_size : List ℕ → List ℕ → ℕ
rows_size nodes bs = width (lasso_of bs).n * length nodes

-- 'a recording must carry every signal of its specification': 23, 'K below the signal count, place 0, directly after 20'
abbrev pub whole : {A : Type 0} → ℕ → Lasso → Result A → Result A
whole signals w r = guard (leb signals w.k) 23 0 r

-- 'Evaluator: 15, 19, 20, 18', and 23 'directly after 20'; accepted with the number of nodes and the signal count given
unfoldable pub evaluation : List ℕ → ℕ → List ℕ → ℕ → Result Counts
evaluation nodes signals bs room =
    guard (leb signals max_signals) 15 0
    (checked signals nodes >>= (λ counts. readable signals bs (whole signals (lasso_of bs) (guard (leb (rows_size nodes bs) room) 18 0 (Done counts)))))

-- the buffer after an answer: the rows of every node in order, 'bytes past the rows untouched'; a refusal changes nothing
abbrev pub left : List ℕ → List ℕ → List ℕ → Result Counts → List ℕ
left nodes bs old (Done counts) = table_bytes bs (lasso_of bs) nodes (length nodes) ++ drop (rows_size nodes bs) old
left nodes bs old (Result.Refused number place) = old

-- what is answered: does the root hold at position 0, or a refusal
abbrev pub finds : Returned Verdict → Result Bool
finds (Ok Verdict.Holds) = Done true
finds (Ok Verdict.Fails) = Done false
finds (Err r) = Result.Refused r.number r.place

-- 'The verdict is the root at position 0'
unfoldable pub verdict_of : List ℕ → ℕ → List ℕ → ℕ → Result Bool
verdict_of nodes signals bs room = evaluation nodes signals bs room >>= (λ counts. Done (node_row bs (lasso_of bs) nodes (length nodes - 1) 0))

-- Texts, tables and recordings with the answers that the second converter gives, and the tests that the definitions give the same.
use Rattle.std.specs.Prelude.{ℕ, Bool, true, false, ◌&&◌, List, [], ◌∷◌, eqb, length}
use Rattle.node.specs.Written.{nodes_of}
use Rattle.node.specs.Result.{Result, Done, Refused, Counts}
use Rattle.rewriter.specs.Rewriting.{target, rewriting}
use Rattle.recordings.specs.Recording.{lasso_of}
use Rattle.rows.specs.Row.{table_bytes}
use Rattle.evaluator.specs.Evaluation.{evaluation}
use Rattle.language.specs.Bytes.{same}
use Rattle.language.specs.Reading.{NumberedFormula, text_expansion}

-- accepted with two results, or refused with number and place: for a text its nodes and signal list, for a table its form's nodes, for a recording the counts and
-- the rows
pub data Expected : Type 0 where
  Accepted : List ℕ → List ℕ → Expected
  Rejected : (number place : ℕ) → Expected

-- a refusal is the one expected
abbrev pub rejects : Expected → ℕ → ℕ → Bool
rejects (Accepted l m) n p = false
rejects (Rejected number place) n p = eqb n number && eqb p place

abbrev pub results : Expected → List ℕ → List ℕ → Bool
results (Accepted l m) k n = same k l && same n m
results (Rejected number place) k n = false

pub record Text : Type 0 where
  pub bytes : List ℕ
  pub expected : Expected

abbrev pub text_answer : Result NumberedFormula → Expected → Bool
text_answer (Done c) e = results e (nodes_of c.formula) c.signals
text_answer (Refused n p) e = rejects e n p

abbrev pub texts_held : List Text → Bool
texts_held [] = true
texts_held (x ∷ xs) = text_answer (text_expansion x.bytes) x.expected && texts_held xs

pub record Table : Type 0 where
  pub nodes : List ℕ
  pub form : ℕ
  pub room : ℕ
  pub expected : Expected

abbrev pub table_answer : Result Counts → Table → Bool
table_answer (Done c) t = results t.expected (nodes_of (target t.form t.nodes)) (c.nodes ∷ c.signals ∷ [])
table_answer (Refused n p) t = rejects t.expected n p

abbrev pub tables_held : List Table → Bool
tables_held [] = true
tables_held (t ∷ ts) = table_answer (rewriting t.form t.nodes t.room) t && tables_held ts

pub record Recording : Type 0 where
  pub nodes : List ℕ
  pub signals : ℕ
  pub bytes : List ℕ
  pub room : ℕ
  pub expected : Expected

abbrev pub recording_answer : Result Counts → Recording → Bool
recording_answer (Done c) r =
    results r.expected (table_bytes r.bytes (lasso_of r.bytes) r.nodes (length r.nodes)) (c.nodes ∷ c.signals ∷ [])
recording_answer (Refused n p) r = rejects r.expected n p

abbrev pub recordings_held : List Recording → Bool
recordings_held [] = true
recordings_held (r ∷ rs) = recording_answer (evaluation r.nodes r.signals r.bytes r.room) r && recordings_held rs

-- Every starred case of document 01, texts and recordings, in one table with one statement that covers it. A recording is judged on the nodes that the file's own
-- text gives, with as many signals as its list has.
use Rattle.std.specs.Prelude.{ℕ, Bool, true, false, ◌≡◌, refl, length}
use Rattle.std.proofs.Math.Bool.{So}
use Rattle.std.proofs.lemmas.Bool.{false≢true}
use mathlib.Core.List.{List, [], ◌∷◌, ◌++◌, map}
use Rattle.std.proofs.Common.{ap}
use Rattle.node.specs.Postorder.{size, nodes_from}
use Rattle.node.specs.Result.{Result, Done, Refused, ◌>>=◌, guard}
use Rattle.node.specs.Written.{nodes_of, count}
use Rattle.evaluator.specs.Evaluation.{verdict_of}
use Rattle.evaluator.proofs.Starred.{file}
use Rattle.language.specs.Bytes.{ascii}
use Rattle.language.specs.Places.{refuse_at}
use Rattle.language.specs.Parsing.{parsed}
use Rattle.language.specs.Reading.{text_expansion, spec_expansion}
use Rattle.language.proofs.Cases.{text}
use Rattle.language.proofs.Cases.Starred.{Row, answer, answers, answers→eq, starred}

-- 'this file', of section 'One file in full'
abbrev pub file_text : List ℕ
file_text = text (ascii "MAIN { INPUTS { r; } OUTPUTS { g; } GUARANTEE { G (r -> F g); } }")

-- the verdict of a recording on a text's nodes; a byte is lent for each of its rows
abbrev pub verdict_on : List ℕ → List ℕ → Result Bool
verdict_on bytes recording =
    text_expansion bytes >>= λ c. verdict_of (nodes_of c.formula) (length c.signals) recording (count c.formula)

-- a starred case: of a text, or of a recording on the file
pub data Case : Type 0 where
  OfText : Row → Case
  OfRecording : (recording : List ℕ) (holds : Bool) → Case

-- '★ recording 00 30 01 02 90 (hexadecimal) on it holds; ★ 00 30 01 02 80 fails'
abbrev pub cases : List Case
cases =
    map OfText starred ++
    (OfRecording (0x00 ∷ 0x30 ∷ 0x01 ∷ 0x02 ∷ 0x90 ∷ []) true ∷ OfRecording (0x00 ∷ 0x30 ∷ 0x01 ∷ 0x02 ∷ 0x80 ∷ []) false ∷ [])

-- what a case says
abbrev pub Met : Case → Type 0
Met (OfText r) = answer r.question ≡ Done r.expected
Met (OfRecording recording holds) = verdict_on file_text recording ≡ Done holds

-- the test of a case, and that it says what it tests
abbrev tells : Bool → Bool → Bool
tells true b = b
tells false true = false
tells false false = true

abbrev verdict_is : Result Bool → Bool → Bool
verdict_is (Done b) holds = tells b holds
verdict_is (Refused n p) holds = false

abbrev pub passes : Case → Bool
passes (OfText r) = answers (answer r.question) r.expected
passes (OfRecording recording holds) = verdict_is (verdict_on file_text recording) holds

tells→eq : (b holds : Bool) → So (tells b holds) → b ≡ holds
tells→eq true true t = refl
tells→eq true false t = absurd (false≢true t)
tells→eq false true t = absurd (false≢true t)
tells→eq false false t = refl

verdict→eq : (r : Result Bool) (holds : Bool) → So (verdict_is r holds) → r ≡ Done holds
verdict→eq (Done b) holds t = ap Done (tells→eq b holds t)
verdict→eq (Refused n p) holds t = absurd (false≢true t)

pub met : (s : Case) → So (passes s) → Met s
met (OfText r) t = answers→eq (answer r.question) r.expected t
met (OfRecording recording holds) t = verdict→eq (verdict_on file_text recording) holds t

-- the nodes that the evaluator's own cases are about are the file's
pub file-nodes : (text_expansion file_text >>= λ c. Done (nodes_of c.formula)) ≡ Done file
unfolding text_expansion parsed spec_expansion refuse_at count size nodes_of nodes_from ◌>>=◌ guard
file-nodes = refl

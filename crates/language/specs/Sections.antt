-- The sections of a text (document 001, 2 and 4; document 01, 'Accepted text').
use Rattle.std.specs.Prelude.{ℕ, zero, suc, List, [], ◌∷◌, Bool, true, false, ◌&&◌, ◌||◌, eqb, length}
use Prim.Native.String.{String}
use Rattle.std.proofs.Math.Option.{Option, none, some}
use Rattle.node.specs.Result.{Result, Done, ◌>>=◌}
use Rattle.language.specs.Bytes.{if◌then◌otherwise◌}
use Rattle.language.specs.Tokens.{Name, Quoted, Marks, End, Token, is_of}
use Rattle.language.specs.Operators.{loosest}
use Rattle.language.specs.Tree.{
  Expr,
  Identifier,
  Definition,
  Defined,
  Enumerated,
  Parameter,
  Declaration,
  OneSignal,
  OfWidth,
  OfType,
  Part,
  Initially,
  Preset,
  Require,
  Assert,
  Assume,
  Guarantee,
  Subsection,
  Inputs,
  Outputs,
  Lines,
  Model,
  Mealy,
  Moore,
  Spec,
}
use Rattle.language.specs.Grammar.{Tokens, Read, front, rest, stop, next, expect, expect_of, named, expr}

-- an expression of any level: more fuel than tokens is enough
abbrev pub expression : Tokens → Read Expr
expression ts = expr (suc (length ts)) loosest ts

-- a word of INFO, its colon and its string
abbrev pub described : String → Tokens → Read Token
described word ts = do
  (w, ts) ← expect word ts
  (c, ts) ← expect ":" ts
  expect_of Quoted ts

abbrev pub model_of : Tokens → Read Model
model_of ts = if next "Mealy" ts then Done (Mealy, rest ts) otherwise (if next "Moore" ts then Done (Moore, rest ts) otherwise stop ts)

-- `, Strict`, or nothing
abbrev pub strict_of : Tokens → Read Bool
strict_of ts = elim (next "," ts) [ true ↦ expect "Strict" (rest ts) >>= λ (w, ts). Done (true, ts) | false ↦ Done (false, ts) ]

-- 'a tag being a name or string', with commas between them; f bounds their number
abbrev pub tag_of : Tokens → Read Token
tag_of ts = if is_of Name (front ts) then Done (front ts, rest ts) otherwise expect_of Quoted ts

abbrev pub tags_of : ℕ → Tokens → Read Token
tags_of zero ts = stop ts
tags_of (suc f) ts = tag_of ts >>= λ (t, ts). elim (next "," ts) [ true ↦ tags_of f (rest ts) | false ↦ Done (t, ts) ]

-- TAGS, or nothing, then `}`
abbrev pub info_end : Tokens → Read Token
info_end ts =
    elim (next "TAGS" ts) [
      | true ↦ expect ":" (rest ts) >>= λ (c, ts). tags_of (length ts) ts >>= λ (t, ts). expect "}" ts
      | false ↦ expect "}" ts
    ]

-- 'INFO's lines come in the printed order, TAGS optional': a text of which nothing else is read yet
abbrev pub info_of : Tokens → Read Spec
info_of ts = do
  (w, ts) ← expect "INFO" ts
  (w, ts) ← expect "{" ts
  (w, ts) ← described "TITLE" ts
  (w, ts) ← described "DESCRIPTION" ts
  (w, ts) ← expect "SEMANTICS" ts
  (w, ts) ← expect ":" ts
  (m, ts) ← model_of ts
  (s, ts) ← strict_of ts
  (w, ts) ← expect "TARGET" ts
  (w, ts) ← expect ":" ts
  (n, us) ← model_of ts
  (w, vs) ← info_end us
  Done (record { semantics = m; strict = s; target = n; target_word = front ts; parameters = []; definitions = []; main = [] }, vs)

-- lines after a `{`, with `;` between them: 'A last `;` may be missing'; f bounds their number
abbrev pub lines_of : {A : Type 0} → ℕ → (Tokens → Read A) → Tokens → Read (List A)
lines_of zero line ts = stop ts
lines_of (suc f) line ts =
    elim (next "}" ts) [
      | true ↦ Done ([], rest ts)
      | false ↦ line ts >>= λ (l, ts).
          elim (next ";" ts) [
            | true ↦ lines_of f line (rest ts) >>= λ (ls, ts). Done (l ∷ ls, ts)
            | false ↦ expect "}" ts >>= λ (c, ts). Done (l ∷ [], ts)
          ]
    ]

-- a subsection after its word: `{`, lines, `}`
abbrev pub block_of : {A : Type 0} → (Tokens → Read A) → Tokens → Read (List A)
block_of line ts = expect "{" ts >>= λ (c, ts). lines_of (length ts) line ts

abbrev pub parameter_of : Tokens → Read Parameter
parameter_of ts = do
  (x, ts) ← expect_of Name ts
  (c, ts) ← expect "=" ts
  (e, ts) ← expression ts
  Done (record { name = x; value = e }, ts)

-- words with commas between them
abbrev pub words_of : ℕ → Tokens → Read (List Token)
words_of zero ts = stop ts
words_of (suc f) ts =
    expect_of Marks ts >>= λ (w, ts).
    elim (next "," ts) [ true ↦ words_of f (rest ts) >>= λ (ws, ts). Done (w ∷ ws, ts) | false ↦ Done (w ∷ [], ts) ]

-- identifiers with their words: one, and as long as a name follows
abbrev pub identifiers_of : ℕ → Tokens → Read (List Identifier)
identifiers_of zero ts = stop ts
identifiers_of (suc f) ts =
    expect_of Name ts >>= λ (x, ts). expect ":" ts >>= λ (c, ts). words_of (length ts) ts >>= λ (ws, ts).
    elim (is_of Name (front ts)) [
      | true ↦ identifiers_of f ts >>= λ (is, ts). Done (record { name = x; words = ws } ∷ is, ts)
      | false ↦ Done (record { name = x; words = ws } ∷ [], ts)
    ]

abbrev pub enumeration_of : Tokens → Read Definition
enumeration_of ts = do
  (x, ts) ← expect_of Name ts
  (c, ts) ← expect "=" ts
  (is, ts) ← identifiers_of (length ts) ts
  Done (Enumerated x is, ts)

abbrev pub definition_of : Tokens → Read Definition
definition_of ts =
    elim (next "enum" ts) [ true ↦ enumeration_of (rest ts) | false ↦ parameter_of ts >>= λ (p, ts). Done (Defined p.name p.value, ts) ]

-- 'name | name [e] | enumtype name'
abbrev pub declaration_of : Tokens → Read Declaration
declaration_of ts =
    expect_of Name ts >>= λ (x, ts).
    elim (next "[" ts) [
      | true ↦ expression (rest ts) >>= λ (e, ts). expect "]" ts >>= λ (c, ts). Done (OfWidth x e, ts)
      | false ↦ elim (is_of Name (front ts)) [ true ↦ Done (OfType x (front ts), rest ts) | false ↦ Done (OneSignal x, ts) ]
    ]

-- a subsection if its word stands there
abbrev pub optional : {A : Type 0} → String → (Tokens → Read A) → Tokens → Read (List A)
optional word line ts = elim (next word ts) [ true ↦ block_of line (rest ts) | false ↦ Done ([], ts) ]

-- 'GLOBAL (optional)'; 'PARAMETERS stands before DEFINITIONS, either may be missing'
abbrev pub global_of : Spec → Tokens → Read Spec
global_of s ts =
    elim (next "GLOBAL" ts) [
      | true ↦
          expect "{" (rest ts) >>= λ (c, ts). optional "PARAMETERS" parameter_of ts >>= λ (ps, ts). optional "DEFINITIONS" definition_of ts >>= λ (ds, ts).
          expect "}" ts >>= λ (c, ts).
          Done (record { semantics = s.semantics; strict = s.strict; target = s.target; target_word = s.target_word; parameters = ps; definitions = ds; main = [] }, ts)
      | false ↦ Done (s, ts)
    ]

-- MAIN's subsections by their words; 'the v1.0 names are read as their v1.1 ones'
pub data Heading : Type 0 where
  InputsHere OutputsHere : Heading
  LinesHere : Part → Heading

pub record HeadingRow : Type 0 where
  pub names : List String
  pub number : ℕ
  pub heading : Heading

abbrev heading : List String → ℕ → Heading → HeadingRow
heading names n h = record { names = names; number = n; heading = h }

abbrev pub headings : List HeadingRow
headings =
    heading ("INPUTS" ∷ []) 0 InputsHere ∷
    heading ("OUTPUTS" ∷ []) 1 OutputsHere ∷
    heading ("INITIALLY" ∷ []) 2 (LinesHere Initially) ∷
    heading ("PRESET" ∷ []) 3 (LinesHere Preset) ∷
    heading ("REQUIRE" ∷ []) 4 (LinesHere Require) ∷
    heading ("ASSERT" ∷ "INVARIANTS" ∷ []) 5 (LinesHere Assert) ∷
    heading ("ASSUME" ∷ "ASSUMPTIONS" ∷ []) 6 (LinesHere Assume) ∷
    heading ("GUARANTEE" ∷ "GUARANTEES" ∷ []) 7 (LinesHere Guarantee) ∷
    []

abbrev pub seen : List ℕ → ℕ → Bool
seen [] n = false
seen (m ∷ ms) n = eqb m n || seen ms n

-- the heading that stands there, if it has not stood before: 'each at most once'
abbrev pub heading_of : List HeadingRow → List ℕ → Token → Option HeadingRow
heading_of [] before t = none
heading_of (r ∷ rs) before t =
    elim (named r.names t) [ true ↦ elim (seen before r.number) [ true ↦ none | false ↦ some r ] | false ↦ heading_of rs before t ]

abbrev pub subsection_of : Heading → Tokens → Read Subsection
subsection_of InputsHere ts = block_of declaration_of ts >>= λ (ds, ts). Done (Inputs ds, ts)
subsection_of OutputsHere ts = block_of declaration_of ts >>= λ (ds, ts). Done (Outputs ds, ts)
subsection_of (LinesHere p) ts = block_of expression ts >>= λ (es, ts). Done (Lines p es, ts)

-- 'MAIN's subsections stand in any order', INPUTS and OUTPUTS among them, up to and with `}`; f bounds their number
abbrev pub subsections_of : ℕ → List ℕ → Tokens → Read (List Subsection)
subsections_of zero before ts = stop ts
subsections_of (suc f) before ts =
    elim (heading_of headings before (front ts)) [
      | some r ↦ subsection_of r.heading (rest ts) >>= λ (s, ts). subsections_of f (r.number ∷ before) ts >>= λ (ss, ts). Done (s ∷ ss, ts)
      | none ↦ elim (seen before 0 && seen before 1) [ true ↦ expect "}" ts >>= λ (c, ts). Done ([], ts) | false ↦ stop ts ]
    ]

-- a whole text, up to its end
abbrev pub spec_of : Tokens → Result Spec
spec_of ts = do
  (s, ts) ← info_of ts
  (s, ts) ← global_of s ts
  (w, ts) ← expect "MAIN" ts
  (w, ts) ← expect "{" ts
  (m, ts) ← subsections_of 9 [] ts
  (w, ts) ← expect_of End ts
  Done (record { semantics = s.semantics; strict = s.strict; target = s.target; target_word = s.target_word; parameters = s.parameters; definitions = s.definitions; main = m })

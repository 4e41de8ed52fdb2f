-- The starred cases of document 01 that speak of texts, in one table with one statement that covers it; and the limits that it says pass.
use Rattle.std.specs.Prelude.{ℕ, ◌-◌, ◌≤◌, Bool, false, ◌↔◌, ◌≡◌, refl}
use Rattle.std.specs.Int.{◌∣◌}
use Prim.Native.String.{String}
use Rattle.std.proofs.Math.Bool.{So}
use Rattle.std.proofs.lemmas.Bool.{false≢true}
use mathlib.Core.List.{List, [], ◌∷◌, ◌++◌, map, Mem}
use Rattle.std.proofs.Common.{ap, arith}
use Rattle.node.specs.Fields.{pack}
use Rattle.node.specs.Ltl.{True, Two, And}
use Rattle.node.specs.Postorder.{size, nodes_from}
use Rattle.node.specs.Result.{Result, Done, Refused, ◌>>=◌, guard}
use Rattle.node.specs.Written.{nodes_of, count}
use Rattle.language.specs.Bytes.{ascii, same}
use Rattle.language.specs.Tokens.{End, tokens}
use Rattle.language.specs.Grammar.{expect_of}
use Rattle.language.specs.Places.{refuse_at}
use Rattle.language.specs.Sets.{member_of}
use Rattle.language.specs.Values.{Value, number, set, Scope, value}
use Rattle.language.specs.Sections.{expression}
use Rattle.language.specs.Parsing.{parsed}
use Rattle.language.specs.Reading.{text_expansion, spec_expansion}
use Rattle.language.proofs.Cases.Every.{every, every-each}
use Rattle.language.proofs.Cases.{text, line, repeated, outcome, guaranteed, entry}
use Rattle.language.proofs.Laws.Basics.Tests.{same_equal}
use Rattle.language.proofs.Laws.Values.SetMembers.{range-member}

-- nodes by kind, first and second field
abbrev rows : List (ℕ × ℕ × ℕ) → List ℕ
rows l = map (λ r. pack r.0 r.1 r.2) l

-- what a starred case asks: the nodes of a text, then its signal list; the nodes of a line of GUARANTEE; how many nodes a text has; the number, or the set, that an
-- expression is
pub data Question : Type 0 where
  Listing : List ℕ → Question
  LineOf : String → Question
  NodesIn : List ℕ → Question
  NumberOf : String → Question
  SetOf : String → Question

-- no names
abbrev nothing : Scope
nothing t = Refused 6 0

-- the value of a text that is one expression, with no token left over
abbrev value_of : String → Result Value
value_of s = expression (tokens (ascii s)) >>= λ (e, ts). expect_of End ts >>= λ _. value nothing e

abbrev pub answer : Question → Result (List ℕ)
answer (Listing s) = text_expansion s >>= λ c. Done (nodes_of c.formula ++ c.signals)
answer (LineOf s) = guaranteed (line (ascii s)) >>= λ f. Done (nodes_of f)
answer (NodesIn s) = outcome s >>= λ n. Done (n.0 ∷ [])
answer (NumberOf s) = value_of s >>= number >>= λ n. Done (n ∷ [])
answer (SetOf s) = value_of s >>= set

pub record Row : Type 0 where
  pub question : Question
  pub expected : List ℕ

abbrev row : Question → List ℕ → Row
row q e = record { question = q; expected = e }

abbrev pub starred : List Row
starred =
    -- 'this file'
    row (Listing (text (ascii "MAIN { INPUTS { r; } OUTPUTS { g; } GUARANTEE { G (r -> F g); } }")))
    (rows ((0, 0, 0) ∷ (0, 0, 0) ∷ (0, 0, 0) ∷ (9, 2, 0) ∷ (0, 0, 0) ∷ (4, 3, 4) ∷ (0, 0, 0) ∷ (9, 6, 0) ∷ (2, 0, 0) ∷ (2, 1, 0) ∷ (10, 9, 0) ∷ (6, 8, 10) ∷ (9, 11, 0) ∷ (4, 7, 12) ∷ (6, 5, 13) ∷
    (4, 1, 14) ∷ (6, 0, 15) ∷ []) ++ (entry 0 84 0 0 ∷ entry 1 99 0 0 ∷ [])) ∷
    -- '8/4/2 is 4'
    row (NumberOf "8/4/2") (4 ∷ []) ∷
    -- '6/2*3 is 1'
    row (NumberOf "6/2*3") (1 ∷ []) ∷
    -- '10-3-2 is 5'
    row (NumberOf "10-3-2") (5 ∷ []) ∷
    -- '{1,3..8} is 1, 3, 5, 7'
    row (SetOf "{1,3..8}") (1 ∷ 3 ∷ 5 ∷ 7 ∷ []) ∷
    -- '{3,4..2} is empty'
    row (SetOf "{3,4..2}") [] ∷
    -- '`X[0] a` is a'
    row (LineOf "X[0] a") (rows ((2, 0, 0) ∷ [])) ∷
    -- '`a U b W c` is a U (b W c)'
    row (LineOf "a U b W c") (rows ((2, 0, 0) ∷ (2, 1, 0) ∷ (2, 2, 0) ∷ (13, 1, 2) ∷ (11, 0, 3) ∷ [])) ∷
    -- 'no lines at all: 13 nodes standard, 15 strict'
    row (NodesIn (text (ascii "MAIN { INPUTS { } OUTPUTS { } }"))) (13 ∷ []) ∷
    row (NodesIn (ascii "INFO { TITLE: \"t\" DESCRIPTION: \"d\" SEMANTICS: Mealy, Strict TARGET: Mealy } MAIN { INPUTS { } OUTPUTS { } }")) (15 ∷ []) ∷
    []

-- is the answer the expected one?
abbrev pub answers : Result (List ℕ) → List ℕ → Bool
answers (Done l) e = same l e
answers (Refused n p) e = false

abbrev pub passes : Row → Bool
passes r = answers (answer r.question) r.expected

-- the table, computed
tested : So (every passes starred)
unfolding text_expansion parsed spec_expansion ◌>>=◌ guard refuse_at count size nodes_of nodes_from
tested = refl

pub answers→eq : (r : Result (List ℕ)) (e : List ℕ) → So (answers r e) → r ≡ Done e
answers→eq (Done l) e t = ap Done (same_equal l e t)
answers→eq (Refused n p) e t = absurd (false≢true t)

-- every starred case holds
pub starred_hold : (r : Row) → Mem r starred → answer r.question ≡ Done r.expected
starred_hold r m = answers→eq (answer r.question) r.expected (every-each passes starred tested r m)

-- the table tells a number from a set of it, and an expression from one with something behind it
told_apart : (answer (NumberOf "4") ≡ Done (4 ∷ [])) × (answer (NumberOf "{4}") ≡ Refused 9 0) × (answer (SetOf "4") ≡ Refused 9 0) × (answer (NumberOf "4 4") ≡ Refused 4 2)
unfolding ◌>>=◌ guard
told_apart = (refl, refl, refl, refl)

-- '{1,3..8} is 1, 3, 5, 7' as the law of ranges has it: the numbers from 1 to 8 that are some times 2 from 1
odd : (k : ℕ) → So (member_of (1 ∷ 3 ∷ 5 ∷ 7 ∷ []) k) ↔ ((1 ≤ k) × (k ≤ 8) × (2 ∣ (k - 1)))
odd = range-member 1 3 8 (omega arith)

-- 'Unmarked: 32,768 bytes .. pass': the file, and blanks
longest : outcome (text (ascii "MAIN { INPUTS { r; } OUTPUTS { g; } GUARANTEE { G (r -> F g); } }" ++ repeated 32635 " ")) ≡ Done (17, 2)
unfolding text_expansion parsed spec_expansion ◌>>=◌ guard refuse_at count size
longest = refl

-- 'width 255'
widest : outcome (text (ascii "MAIN { INPUTS { b[255]; } OUTPUTS { } GUARANTEE { b[254]; } }")) ≡ Done (13, 255)
unfolding text_expansion parsed spec_expansion ◌>>=◌ guard refuse_at count size
widest = refl

-- '256 elements'
largest : guaranteed (line (ascii "|{0,1..255}| == 256 && |{0,1..254} (+) {255}| == 256 && +[0 <= i < 256] 1 == 256")) ≡ Done (Two And (Two And True True) True)
unfolding text_expansion parsed spec_expansion ◌>>=◌ guard refuse_at count size
largest = refl

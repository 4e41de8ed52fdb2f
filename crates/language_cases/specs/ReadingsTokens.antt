-- Readings of document 01 on tokens, T1 to T7: texts accepted with their nodes and signals, or refused with number and place.
use Rattle.std.specs.Prelude.{List, [], ◌∷◌, ◌++◌, map, ◌≡◌, refl, ℕ}
use Rattle.node.specs.Ltl.{True, Signal, One, Two, X, And, Formula}
use Rattle.node.specs.Postorder.{size}
use Rattle.node.specs.Result.{Result, Done, Refused, ◌>>=◌, guard}
use Rattle.node.specs.Written.{count}
use Rattle.language.specs.Bytes.{ascii}
use Rattle.language.specs.Places.{refuse_at}
use Rattle.language.specs.Parsing.{parsed}
use Rattle.language.specs.Reading.{text_expansion, spec_expansion}
use Rattle.language.proofs.Cases.{text, line, repeated, outcome, guaranteed}
use Prim.Native.String.{String}

-- texts, and what each one's GUARANTEE comes to
abbrev guarantees : List (List ℕ × Result Formula)
guarantees =
    -- T3: a numeral has any length
    (line (ascii "0000000000000000000000000000000000000001 == 1"), Done True) ∷
    -- T4: `&&[`, `v[` and `X[` are two tokens each
    (line (ascii "&& [i IN {0, 1}] v [i] && X [2] a"), Done (Two And (Two And (Signal 3) (Signal 4)) (One X (One X (Signal 0))))) ∷
    []

guarantees-met : map (λ c. guaranteed c.0) guarantees ≡ map (λ c. c.1) guarantees
unfolding text_expansion parsed spec_expansion ◌>>=◌ guard refuse_at count size
guarantees-met = refl

-- T7: 'No name is a word of the format': section and line words, the v1.0 names, and every word of Table 1
abbrev format_words : List String
format_words =
    "INFO" ∷ "TITLE" ∷ "DESCRIPTION" ∷ "SEMANTICS" ∷ "TARGET" ∷ "TAGS" ∷ "GLOBAL" ∷ "PARAMETERS" ∷ "DEFINITIONS" ∷ "MAIN" ∷
    "INPUTS" ∷ "OUTPUTS" ∷ "INITIALLY" ∷ "PRESET" ∷ "REQUIRE" ∷ "ASSERT" ∷ "ASSUME" ∷ "GUARANTEE" ∷ "INVARIANTS" ∷ "ASSUMPTIONS" ∷
    "GUARANTEES" ∷ "enum" ∷ "true" ∷ "false" ∷ "otherwise" ∷ "Mealy" ∷ "Moore" ∷ "Strict" ∷ "SUM" ∷ "PROD" ∷
    "SIZE" ∷ "MIN" ∷ "MAX" ∷ "SIZEOF" ∷ "MUL" ∷ "DIV" ∷ "MOD" ∷ "PLUS" ∷ "MINUS" ∷ "CAP" ∷
    "CUP" ∷ "SETMINUS" ∷ "EQ" ∷ "NEQ" ∷ "LE" ∷ "LEQ" ∷ "GE" ∷ "GEG" ∷ "GEQ" ∷ "IN" ∷
    "ELEM" ∷ "NOT" ∷ "X" ∷ "F" ∷ "G" ∷ "AND" ∷ "FORALL" ∷ "OR" ∷ "EXISTS" ∷ "IMPLIES" ∷
    "EQUIV" ∷ "W" ∷ "U" ∷ "R" ∷
    []

abbrev as_signal : String → Result (ℕ × ℕ)
as_signal w = outcome (text (ascii "MAIN { INPUTS { " ++ ascii w ++ ascii "; } OUTPUTS { } }"))

no_word_is_aname : map as_signal format_words ≡ map (λ w. Refused 4 84) format_words
unfolding text_expansion parsed spec_expansion ◌>>=◌ guard refuse_at count size
no_word_is_aname = refl

-- texts, and what each comes to: its nodes and signals, or its refusal
abbrev outcomes : List (List ℕ × Result (ℕ × ℕ))
outcomes =
    -- T1: `//` runs to the end of the text
    (text (ascii "MAIN { INPUTS { } OUTPUTS { } } // the end"), Done (13, 0)) ∷
    -- T1: or to the next line feed
    (text (ascii "MAIN { INPUTS { a; // b; } " ++ (10 ∷ []) ++ ascii "c; } OUTPUTS { } }"), Done (13, 2)) ∷
    -- '`//` ends at a line feed', and not at a carriage return
    (text (ascii "MAIN { INPUTS { a; // b; " ++ (13 ∷ []) ++ ascii "c; } OUTPUTS { } }"), Refused 4 112) ∷
    -- T2: `/*/` is not closed
    (text (ascii "/*/ MAIN { INPUTS { } OUTPUTS { } }"), Refused 2 68) ∷
    -- T2: an unclosed nested comment is refused at the outermost `/*`
    (text (ascii "/* /* */ MAIN { INPUTS { } OUTPUTS { } }"), Refused 2 68) ∷
    -- 'Block comments nest'
    (text (ascii "/* /* MAIN */ INFO */ MAIN { INPUTS { } OUTPUTS { } }"), Done (13, 0)) ∷
    -- T2: `/*` and `*/` are taken left to right: the inner `/*/` opens and does not close
    (text (ascii "/* /*/ */ */ /**//***/ MAIN { INPUTS { } OUTPUTS { } }"), Done (13, 0)) ∷
    -- T2: inside a block comment only `/*` and `*/` count
    (text (ascii "/* // \" # & */ MAIN { INPUTS { } OUTPUTS { } }"), Done (13, 0)) ∷
    -- 'in strings and comments any byte may stand'
    (
      ascii "INFO { TITLE: \"/* // " ++ (0 ∷ 10 ∷ 11 ∷ 200 ∷ []) ++ ascii "\" DESCRIPTION: \"\" SEMANTICS: Mealy TARGET: Mealy } /* " ++ (0 ∷ 11 ∷ 12 ∷ 255 ∷ []) ++ ascii " */ // " ++
          (0 ∷ 12 ∷ 128 ∷ 10 ∷ []) ++ ascii "MAIN { INPUTS { } OUTPUTS { } }",
      Done (13, 0),
    ) ∷
    -- 'Blanks are space, tab, line feed and carriage return'
    (text (ascii "MAIN" ++ (9 ∷ []) ++ ascii "{" ++ (10 ∷ 13 ∷ 32 ∷ []) ++ ascii "INPUTS{}OUTPUTS{}}"), Done (13, 0)) ∷
    -- no other byte is
    (text (ascii "MAIN {" ++ (11 ∷ []) ++ ascii " INPUTS { } OUTPUTS { } }"), Refused 2 74) ∷
    -- form feed
    (text (ascii "MAIN {" ++ (12 ∷ []) ++ ascii " INPUTS { } OUTPUTS { } }"), Refused 2 74) ∷
    -- zero byte
    (text (ascii "MAIN {" ++ (0 ∷ []) ++ ascii " INPUTS { } OUTPUTS { } }"), Refused 2 74) ∷
    -- high byte
    (text (ascii "MAIN {" ++ (160 ∷ []) ++ ascii " INPUTS { } OUTPUTS { } }"), Refused 2 74) ∷
    -- T3: names are of letters, digits, `_`, `'` and `@`; `_` is an ordinary one
    (text (ascii "MAIN { INPUTS { _; @x; a'1; Z_9@' } OUTPUTS { } }"), Done (13, 4)) ∷
    -- T3: a name does not start with `'`
    (text (ascii "MAIN { INPUTS { 'a; } OUTPUTS { } }"), Refused 2 84) ∷
    -- T3: nor with a digit: there stands a numeral
    (text (ascii "MAIN { INPUTS { 1a; } OUTPUTS { } }"), Refused 4 84) ∷
    -- T3: alone these are no tokens
    (line (ascii "a & b"), Refused 2 130) ∷
    -- lone backslash
    (line (ascii "{1} \\ {1}"), Refused 2 132) ∷
    -- lone dot
    (line (ascii "1 IN {1 . 3}"), Refused 2 136) ∷
    -- lone prime
    (line (ascii "a ' b"), Refused 2 130) ∷
    -- T3: and is no fault until worked out
    (text (ascii "GLOBAL { DEFINITIONS { d = 99999999999999999999999999999999; } } MAIN { INPUTS { } OUTPUTS { } }"), Done (13, 0)) ∷
    -- T4: `3a` is a numeral and a name
    (line (ascii "3a == 3"), Refused 4 129) ∷
    -- T5: from any token `enum` on numerals are no tokens, and 2 comes before 4
    (line (ascii "G enum 3;"), Refused 2 135) ∷
    -- T5: there `2` to `9` begin no token
    (text (ascii "GLOBAL { DEFINITIONS { enum e = A: 2; } } MAIN { INPUTS { } OUTPUTS { } }"), Refused 2 103) ∷
    -- T5: nor behind a mark
    (text (ascii "GLOBAL { DEFINITIONS { enum e = A: 12; } } MAIN { INPUTS { } OUTPUTS { } }"), Refused 2 104) ∷
    -- T5: behind `;` a numeral is one again
    (text (ascii "GLOBAL { DEFINITIONS { enum e = A: 1; n = 23; } } MAIN { INPUTS { } OUTPUTS { } }"), Done (13, 0)) ∷
    -- T5: names and comments are as elsewhere, and a `;` in a comment does not end the words
    (text (ascii "GLOBAL { DEFINITIONS { enum e2 = A3: 1 /* ; 2 } */ B45: 0 } } MAIN { INPUTS { } OUTPUTS { } }"), Done (13, 0)) ∷
    -- T5: nor one in a string
    (text (ascii "GLOBAL { DEFINITIONS { enum e = A: 1 \"; } \" 2; } } MAIN { INPUTS { } OUTPUTS { } }"), Refused 2 112) ∷
    -- 'names 64 bytes'
    (text (ascii "MAIN { INPUTS { nnnnnnnnnnnnnnnnnnnnnnnnnnnnnnnnnnnnnnnnnnnnnnnnnnnnnnnnnnnnnnnn } OUTPUTS { } }"), Done (13, 1)) ∷
    -- T6: a longer one is 2 at its first byte among words too
    (text (ascii "GLOBAL { DEFINITIONS { enum e = " ++ repeated 65 "N" ++ ascii ": 1; } } MAIN { INPUTS { } OUTPUTS { } }"), Refused 2 100) ∷
    -- T7: in other letters they are names
    (text (ascii "MAIN { INPUTS { info; Enum; TRUE; x; u; mealy; strict } OUTPUTS { } }"), Done (13, 7)) ∷
    []

outcomes-met : map (λ c. outcome c.0) outcomes ≡ map (λ c. c.1) outcomes
unfolding text_expansion parsed spec_expansion ◌>>=◌ guard refuse_at count size
outcomes-met = refl

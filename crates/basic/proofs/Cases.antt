-- The written texts of document 01's file and of the corners, and 22, by computing.
use Rattle.std.specs.Prelude.{ℕ, ◌≡◌, refl, List, ◌++◌, length, Ok, Err}
use Prim.Native.String.{String}
use Rattle.node.specs.Ltl.{True}
use Rattle.node.specs.Result.{Done, Refused, ◌>>=◌, guard}
use Rattle.node.specs.Returned.{refusal}
use Rattle.node.specs.Postorder.{size, nodes_from}
use Rattle.node.specs.Written.{nodes_of, count}
use Rattle.language.specs.Bytes.{ascii}
use Rattle.language.specs.Places.{refuse_at}
use Rattle.language.specs.Parsing.{parsed}
use Rattle.language.specs.Reading.{text_expansion, spec_expansion}
use Rattle.language.proofs.Cases.{text, repeated, outcome, formula}
use Rattle.basic.specs.Spelling.{digits_of}
use Rattle.basic.specs.Basic.{formula_tokens, info_tokens, line_tokens, basic_tokens, parted, tokens_of}
use Rattle.basic.specs.Writing.{written, writing, bytes_told, text_after}
use Rattle.basic.specs.Answer.{tells}
use Rattle.basic.specs.Statements.{guaranteeing, front, behind}

-- 'One file in full'
abbrev pub file : List ℕ
file = text (ascii "MAIN { INPUTS { r; } OUTPUTS { g; } GUARANTEE { G (r -> F g); } }")

-- INFO and the word MAIN as they are written
abbrev head : String → List ℕ
head model = ascii "INFO { TITLE : \"converted\" DESCRIPTION : \"converted\" SEMANTICS : " ++ (ascii model ++ (ascii " TARGET : " ++ (ascii model ++ ascii " } MAIN { ")))

-- a text for another model
abbrev under : String → List ℕ → List ℕ
under info s = ascii "INFO { TITLE: \"t\" DESCRIPTION: \"d\" " ++ (ascii info ++ (ascii " } " ++ s))

-- the formula of a specification without lines, around what is written of GUARANTEE
abbrev around : String → List ℕ
around s =
    ascii "( ( true ) -> ( ( true ) && ( ( ( G ( true ) ) && ( true ) ) -> ( ( G ( true ) ) && " ++ (ascii s ++ ascii " ) ) ) )")

abbrev pub file_written : List ℕ
file_written = head "Mealy" ++ (ascii "INPUTS { r ; } OUTPUTS { g ; } GUARANTEE { " ++ (around "( G ( ( r ) -> ( F ( g ) ) ) )" ++ ascii " ; } }"))

pub in_full : written file ≡ Done file_written
unfolding written parsed spec_expansion ◌>>=◌ guard refuse_at count size formula_tokens info_tokens line_tokens basic_tokens parted digits_of
in_full = refl

in-full-bytes : bytes_told (written file) ≡ Done 266
unfolding written parsed spec_expansion ◌>>=◌ guard refuse_at count size formula_tokens info_tokens line_tokens basic_tokens parted digits_of
in-full-bytes = refl

in-full-tokens : (parsed file >>= λ x. spec_expansion x >>= λ c. Done (length (tokens_of x.target file c))) ≡ Done 83
unfolding parsed spec_expansion ◌>>=◌ guard refuse_at count size formula_tokens info_tokens line_tokens basic_tokens
in-full-tokens = refl

-- no signals: both lists are written all the same
no_signals : written (text (ascii "MAIN { INPUTS { } OUTPUTS { } }")) ≡ Done (head "Mealy" ++ (ascii "INPUTS { } OUTPUTS { } GUARANTEE { " ++ (around "( true )" ++ ascii " ; } }")))
unfolding written parsed spec_expansion ◌>>=◌ guard refuse_at count size formula_tokens info_tokens line_tokens basic_tokens parted digits_of
no_signals = refl

-- 'semantics and target the plain model', OUTPUTS first, every sign, a bus of width 1, one of more than ten
strict : written (under "SEMANTICS: Moore, Strict TARGET: Moore" (ascii "MAIN { OUTPUTS { a; b[1]; c[11]; } INPUTS { i; } PRESET { !a U b[0]; i R a; i <-> a W c[10]; } GUARANTEE { false || X i; } }"))
    ≡ Done (head "Moore" ++ (ascii "INPUTS { i ; } OUTPUTS { a ; b@0 ; c@0 ; c@1 ; c@2 ; c@3 ; c@4 ; c@5 ; c@6 ; c@7 ; c@8 ; c@9 ; c@10 ; } GUARANTEE { " ++
    (ascii "( ( true ) -> ( ( ( ( ( ( ! ( a ) ) U ( b@0 ) ) && ( ( i ) R ( a ) ) ) && ( ( ( i ) <-> ( a ) ) W ( c@10 ) ) ) && ( ( true ) W ( ! ( true ) ) ) ) && " ++
    ascii "( ( ( G ( true ) ) && ( true ) ) -> ( ( false ) || ( X ( i ) ) ) ) ) ) ; } }")))
unfolding written parsed spec_expansion ◌>>=◌ guard refuse_at count size formula_tokens info_tokens line_tokens basic_tokens parted digits_of
strict = refl

-- a bus by enumeration, and a name that has an at-sign of its own
enumerated : written (text (ascii "GLOBAL { DEFINITIONS { enum e = P: 1* Q: 0*; } } MAIN { INPUTS { e v; b@; } OUTPUTS { } GUARANTEE { v == P; b@; } }"))
    ≡ Done (head "Mealy" ++ (ascii "INPUTS { v@0 ; v@1 ; b@ ; } OUTPUTS { } GUARANTEE { " ++ (around "( ( v@0 ) && ( b@ ) )" ++ ascii " ; } }")))
unfolding written parsed spec_expansion ◌>>=◌ guard refuse_at count size formula_tokens info_tokens line_tokens basic_tokens parted digits_of
enumerated = refl

-- a text with these inputs and outputs
abbrev declaring : List ℕ → List ℕ
declaring s = text (ascii "MAIN { INPUTS { " ++ (s ++ ascii " } OUTPUTS { } }"))

-- 22: equal names, at the later number, whichever stands first
single_first : written (declaring (ascii "b@0; b[1];")) ≡ Refused 22 1
unfolding written parsed spec_expansion ◌>>=◌ guard refuse_at count size digits_of
single_first = refl

bus-first : written (declaring (ascii "b[1]; b@0;")) ≡ Refused 22 1
unfolding written parsed spec_expansion ◌>>=◌ guard refuse_at count size digits_of
bus-first = refl

-- of two pairs the one whose later number is the smaller; `b@00` is no bit's name
earlier_pair : written (text (ascii "MAIN { OUTPUTS { b@1; b@00; b@0; } INPUTS { a; b[2]; } }")) ≡ Refused 22 3
unfolding written parsed spec_expansion ◌>>=◌ guard refuse_at count size digits_of
earlier_pair = refl

-- 64 bytes of a name pass and 65 do not: bits 9 and 10 of a bus whose name has 62, bit 0 of one whose name has 63
sixty_two : written (declaring (repeated 62 "a" ++ ascii "[11]; ")) ≡ Refused 22 10
unfolding written parsed spec_expansion ◌>>=◌ guard refuse_at count size digits_of
sixty_two = refl

sixty_three : written (declaring (ascii "x; " ++ (repeated 63 "a" ++ ascii "[2]; "))) ≡ Refused 22 1
unfolding written parsed spec_expansion ◌>>=◌ guard refuse_at count size digits_of
sixty_three = refl

sixty_four : bytes_told (written (declaring (repeated 62 "a" ++ ascii "[10]; "))) ≡ Done 906
unfolding written parsed spec_expansion ◌>>=◌ guard refuse_at count size formula_tokens info_tokens line_tokens basic_tokens parted digits_of
sixty_four = refl

-- a long name before a pair, and a pair before a long name
long_first : written (declaring (ascii "b[1]; " ++ (repeated 63 "a" ++ ascii "[1]; b@0; "))) ≡ Refused 22 1
unfolding written parsed spec_expansion ◌>>=◌ guard refuse_at count size digits_of
long_first = refl

pair_first : written (declaring (ascii "b[1]; b@0; " ++ (repeated 63 "a" ++ ascii "[1]; "))) ≡ Refused 22 1
unfolding written parsed spec_expansion ◌>>=◌ guard refuse_at count size digits_of
pair_first = refl

-- 22 before 18
names-before-room : writing (declaring (ascii "b@0; b[1];")) 65536 0 ≡ Refused 22 1
unfolding writing written parsed spec_expansion ◌>>=◌ guard refuse_at count size digits_of formula_tokens info_tokens line_tokens basic_tokens parted
names-before-room = refl

-- bytes past the text stay, and a refused call changes none
buffer_after : text_after (Done (ascii "INFO")) (ascii "abcdefg") ≡ ascii "INFOefg"
buffer_after = refl

buffer_refused : text_after (Refused 18 0) (ascii "abc") ≡ ascii "abc"
buffer_refused = refl

-- what a specification without lines gives, and its nodes
empty-formula : formula (text (ascii "MAIN { INPUTS { } OUTPUTS { } }")) ≡ Done (guaranteeing True)
unfolding text_expansion parsed spec_expansion ◌>>=◌ guard refuse_at count size
empty-formula = refl

empty-nodes : nodes_of (guaranteeing True) ≡ front ++ (nodes_from 8 True ++ behind 1)
unfolding nodes_of nodes_from size
empty-nodes = refl

-- what is written is read back: document 01's file, with 12 nodes more
read_again : outcome file_written ≡ Done (29, 2)
unfolding text_expansion parsed spec_expansion ◌>>=◌ guard refuse_at count size
read_again = refl

-- what an answer tells
bytes_told_lem : tells (Ok 266) ≡ Done 266
bytes_told_lem = refl

refusal_told : tells (Err (refusal 22 1)) ≡ Refused 22 1
refusal_told = refl

-- Readings of document 01 on enumerations, N7 and N8.
use Rattle.std.specs.Prelude.{ℕ, [], ◌∷◌, List, map, ◌≡◌, refl}
use Rattle.node.specs.Ltl.{Signal, One, Two, Not, And, Or, Formula}
use Rattle.node.specs.Postorder.{size}
use Rattle.node.specs.Result.{Done, Refused, ◌>>=◌, guard, Result}
use Rattle.node.specs.Written.{count}
use Rattle.language.specs.Bytes.{ascii}
use Rattle.language.specs.Places.{refuse_at}
use Rattle.language.specs.Parsing.{parsed}
use Rattle.language.specs.Reading.{text_expansion, spec_expansion}
use Rattle.language.proofs.Cases.{text, typed, outcome, guaranteed, all_of}

-- texts, and what each one's GUARANTEE comes to
abbrev guarantees : List (List ℕ × Result Formula)
guarantees =
    -- N7: a value may be compared with any bus; 'a star mark read as 0' is a slip: P is 1*0; per word the literals of its unstarred marks, bit 0 first, words folded with `||`
    (
      typed (ascii "v == P; P == v; x == Q"),
      Done (all_of (Two And (Signal 1) (One Not (Signal 3)) ∷ Two And (Signal 1) (One Not (Signal 3)) ∷ Two Or (One Not (Signal 6)) (Two And (Two And (Signal 6) (Signal 7)) (Signal 8)) ∷ [])),
    ) ∷
    -- '`!=` puts `!` above'
    (typed (ascii "v != P; Q != x"), Done (Two And (One Not (Two And (Signal 1) (One Not (Signal 3)))) (One Not (Two Or (One Not (Signal 6)) (Two And (Two And (Signal 6) (Signal 7)) (Signal 8)))))) ∷
    []

guarantees-met : map (λ c. guaranteed c.0) guarantees ≡ map (λ c. c.1) guarantees
unfolding text_expansion parsed spec_expansion ◌>>=◌ guard refuse_at count size
guarantees-met = refl

-- texts, and what each comes to: its nodes and signals, or its refusal
abbrev outcomes : List (List ℕ × Result (ℕ × ℕ))
outcomes =
    -- N7: only the widths must agree
    (typed (ascii "w == P"), Refused 13 186) ∷
    -- N8: words of one identifier may overlap
    (text (ascii "GLOBAL { DEFINITIONS { enum e = A: 0*, *0 B: 11; } } MAIN { INPUTS { } OUTPUTS { } }"), Done (13, 0)) ∷
    -- N8: a later word of another identifier may not
    (text (ascii "GLOBAL { DEFINITIONS { enum e = A: 00 B: 01, 0*; } } MAIN { INPUTS { } OUTPUTS { } }"), Refused 10 113) ∷
    -- overlap stars
    (text (ascii "GLOBAL { DEFINITIONS { enum e = A: 0* B: *1; } } MAIN { INPUTS { } OUTPUTS { } }"), Refused 10 109) ∷
    -- N8: the first such word in the text
    (text (ascii "GLOBAL { DEFINITIONS { enum e = A: 00 B: 0*, 1; } } MAIN { INPUTS { } OUTPUTS { } }"), Refused 10 109) ∷
    -- length before overlap
    (text (ascii "GLOBAL { DEFINITIONS { enum e = A: 00, 1 B: 00; } } MAIN { INPUTS { } OUTPUTS { } }"), Refused 10 107) ∷
    -- 'unequal'
    (text (ascii "GLOBAL { DEFINITIONS { enum e = A: 00000000 B: 000000001; } } MAIN { INPUTS { } OUTPUTS { } }"), Refused 10 115) ∷
    -- '16 words of 8 marks' pass
    (text (ascii "GLOBAL { DEFINITIONS { enum e = A: 00000000 B: 1*******; } } MAIN { INPUTS { } OUTPUTS { } }"), Done (13, 0)) ∷
    -- sixteen words
    (text (ascii "GLOBAL { DEFINITIONS { enum e = A: 000, 000, 000, 000, 000, 000, 000, 000 B: 111, 111, 111, 111, 111, 111, 111, 111; } } MAIN { INPUTS { } OUTPUTS { } }"), Done (13, 0)) ∷
    -- seventeen words
    (text (ascii "GLOBAL { DEFINITIONS { enum e = A: 000, 000, 000, 000, 000, 000, 000, 000 B: 111, 111, 111, 111, 111, 111, 111, 111 C: 110; } } MAIN { INPUTS { } OUTPUTS { } }"), Refused 10 187) ∷
    -- unused enumerations are checked too
    (text (ascii "GLOBAL { DEFINITIONS { enum e = A: 0; enum f = B: 1 C: 1; } } MAIN { INPUTS { } OUTPUTS { } }"), Refused 10 123) ∷
    -- two enumerations may name one valuation
    (text (ascii "GLOBAL { DEFINITIONS { enum e = A: 0; enum f = B: 0 C: 1; } } MAIN { INPUTS { } OUTPUTS { } }"), Done (13, 0)) ∷
    -- 9 over the whole text comes before 10
    (text (ascii "GLOBAL { DEFINITIONS { enum e = A: 1 B: 01; } } MAIN { INPUTS { } OUTPUTS { } ASSERT { 1; } }"), Refused 9 155) ∷
    []

outcomes-met : map (λ c. outcome c.0) outcomes ≡ map (λ c. c.1) outcomes
unfolding text_expansion parsed spec_expansion ◌>>=◌ guard refuse_at count size
outcomes-met = refl

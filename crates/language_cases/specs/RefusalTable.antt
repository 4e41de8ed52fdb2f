-- Document 01's table of refusals, rows 1 to 10: each row's own example, and the other reasons that its second column names.
use Rattle.std.specs.Prelude.{ℕ, [], ◌++◌, List, ◌∷◌, map, ◌≡◌, refl}
use Rattle.node.specs.Postorder.{size}
use Rattle.node.specs.Result.{Refused, ◌>>=◌, guard, Result}
use Rattle.node.specs.Written.{count}
use Rattle.language.specs.Bytes.{ascii}
use Rattle.language.specs.Places.{refuse_at}
use Rattle.language.specs.Parsing.{parsed}
use Rattle.language.specs.Reading.{text_expansion, spec_expansion}
use Rattle.language.proofs.Cases.{text, line, repeated, outcome, lettered}

-- texts, and what each comes to: its nodes and signals, or its refusal
abbrev outcomes : List (List ℕ × Result (ℕ × ℕ))
outcomes =
    -- 1: 'text too long', 32,769 blanks
    (repeated 32769 " ", Refused 1 32768) ∷
    -- 2: 'no token'
    (ascii "#", Refused 2 0) ∷
    -- 'unclosed comment'
    (text (ascii "/* MAIN"), Refused 2 68) ∷
    -- 'unclosed .. string'
    (ascii "INFO { TITLE: \"t DESCRIPTION", Refused 2 14) ∷
    -- 'long name'
    (text (ascii "MAIN { INPUTS { " ++ repeated 65 "n" ++ ascii "; } OUTPUTS { } }"), Refused 2 84) ∷
    -- 3: 'the 8,193rd', 8,193 times `;`
    (repeated 8193 ";", Refused 3 8192) ∷
    -- 8,192 tokens are not too many
    (repeated 8192 ";", Refused 4 0) ∷
    -- 4: 'token, or the length', the empty text
    ([], Refused 4 0) ∷
    -- 'first token that no accepted grammar continues'
    (text (ascii "MAIN { OUTPUTS { } }"), Refused 4 87) ∷
    -- 5: 257 times `!`, then `a`
    (line (ascii "" ++ repeated 257 "!" ++ ascii "a"), Refused 5 128) ∷
    -- 6: `G q` without `q`
    (line (ascii "G q"), Refused 6 130) ∷
    -- 7: 'the later name in the text', `INPUTS { a; a; }`
    (text (ascii "MAIN { INPUTS { a; a; } OUTPUTS { } }"), Refused 7 87) ∷
    -- 8: 'the 257th', 257 signals of three bytes each
    (text (ascii "MAIN { INPUTS { " ++ lettered 257 ++ ascii "} OUTPUTS { } }"), Refused 8 852) ∷
    -- 9: an 'operand .. of a wrong type', `MIN 3`
    (line (ascii "MIN 3 == 3"), Refused 9 132) ∷
    -- a 'width'
    (text (ascii "MAIN { INPUTS { b[true]; } OUTPUTS { } }"), Refused 9 86) ∷
    -- a 'declaring type'
    (text (ascii "GLOBAL { PARAMETERS { n = 2; } } MAIN { INPUTS { n b; } OUTPUTS { } }"), Refused 9 117) ∷
    -- 'or a line's expression'
    (line (ascii "a; 3;"), Refused 9 131) ∷
    -- 'the right operand's if two only clash'
    (line (ascii "v == 1"), Refused 9 133) ∷
    -- 10: 'words unequal', `A: 1 B: 01`
    (text (ascii "GLOBAL { DEFINITIONS { enum e = A: 1 B: 01; } } MAIN { INPUTS { } OUTPUTS { } }"), Refused 10 108) ∷
    -- 'too long': a word of 9 marks
    (text (ascii "GLOBAL { DEFINITIONS { enum e = A: 000000000; } } MAIN { INPUTS { } OUTPUTS { } }"), Refused 10 103) ∷
    -- 'or many': the 17th word
    (text (ascii "GLOBAL { DEFINITIONS { enum e = A: 000, 000, 000, 000, 000, 000, 000, 000, 000, 000, 000, 000, 000, 000, 000, 000, 000; } } MAIN { INPUTS { } OUTPUTS { } }"), Refused 10 183) ∷
    -- 'one valuation under two identifiers': `00`
    (text (ascii "GLOBAL { DEFINITIONS { enum e = A: 1*, 00 B: 0*; } } MAIN { INPUTS { } OUTPUTS { } }"), Refused 10 113) ∷
    []

outcomes-met : map (λ c. outcome c.0) outcomes ≡ map (λ c. c.1) outcomes
unfolding text_expansion parsed spec_expansion ◌>>=◌ guard refuse_at count size
outcomes-met = refl

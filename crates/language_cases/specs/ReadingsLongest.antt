-- Readings of document 01: 'Tokens are read longest first', and the words of enumerations.
use Rattle.std.specs.Prelude.{ℕ, ◌++◌, List, [], ◌∷◌, map, ◌≡◌, refl}
use Rattle.node.specs.Ltl.{True, False, Signal, One, Two, Not, And, Or, Iff, Formula}
use Rattle.node.specs.Postorder.{size}
use Rattle.node.specs.Result.{Done, Refused, ◌>>=◌, guard, Result}
use Rattle.node.specs.Written.{count}
use Rattle.language.specs.Bytes.{ascii}
use Rattle.language.specs.Places.{refuse_at}
use Rattle.language.specs.Parsing.{parsed}
use Rattle.language.specs.Reading.{text_expansion, spec_expansion}
use Rattle.language.proofs.Cases.{text, line, repeated, outcome, guaranteed}

-- texts, and what each one's GUARANTEE comes to
abbrev guarantees : List (List ℕ × Result Formula)
guarantees =
    -- '`(*)` is one token and `( * )` is three'
    (line (ascii "MIN ({1, 2} (*) {2}) == 2 && 2 * ( *[i IN {3}] i ) == 6"), Done (Two And True True)) ∷
    -- `4/=2` is unequal
    (line (ascii "4/=2"), Done True) ∷
    -- `|||` is `||` then `|`
    (line (ascii "true |||{1}| == 1"), Done (Two Or True True)) ∷
    -- `(*[` is `(`, `*`, `[`
    (line (ascii "(*[i IN {2, 3}] i) == 6"), Done True) ∷
    -- `<->` is one token
    (line (ascii "a<->b"), Done (Two Iff (Signal 0) (Signal 1))) ∷
    -- `!1` is `!` and a numeral
    (line (ascii "!1==2"), Done (One Not False)) ∷
    []

guarantees-met : map (λ c. guaranteed c.0) guarantees ≡ map (λ c. c.1) guarantees
unfolding text_expansion parsed spec_expansion ◌>>=◌ guard refuse_at count size
guarantees-met = refl

-- texts, and what each comes to: its nodes and signals, or its refusal
abbrev outcomes : List (List ℕ × Result (ℕ × ℕ))
outcomes =
    -- three tokens
    (line (ascii "1 IN {1} ( * ) {1}"), Refused 4 137) ∷
    -- `1<-2` is IN
    (line (ascii "1<-2"), Refused 9 131) ∷
    -- `!==` is `!=` then `=`
    (line (ascii "1!==2"), Refused 4 131) ∷
    -- `|{1}||{2}|` is the size of an `||`
    (line (ascii "|{1}||{2}| == 2"), Refused 9 129) ∷
    -- `...` is `..` and a lone `.`
    (line (ascii "1 IN {0, 1...3}"), Refused 2 140) ∷
    -- `||||` is `||` twice, and the second opens a big operator
    (line (ascii "a |||| b"), Refused 4 135) ∷
    -- a word of 100 marks is one token: 10, not 2
    (
      text (ascii "GLOBAL { DEFINITIONS { enum e = A: 0000000000000000000000000000000000000000000000000000000000000000000000000000000000000000000000000000; } } MAIN { INPUTS { } OUTPUTS { } }"),
      Refused 10 103,
    ) ∷
    -- `0B` is a word and a name
    (text (ascii "GLOBAL { DEFINITIONS { enum e = A: 0B: 1; } } MAIN { INPUTS { } OUTPUTS { } }"), Done (13, 0)) ∷
    -- 'an unbroken run': `0/**/1` is two words
    (text (ascii "GLOBAL { DEFINITIONS { enum e = A: 0/**/1; } } MAIN { INPUTS { } OUTPUTS { } }"), Refused 4 108) ∷
    -- spaced word
    (text (ascii "GLOBAL { DEFINITIONS { enum e = A: 0 1; } } MAIN { INPUTS { } OUTPUTS { } }"), Refused 4 105) ∷
    -- words need no blanks
    (text (ascii "GLOBAL { DEFINITIONS { enum e = A:*0,0*B:11; } } MAIN { INPUTS { } OUTPUTS { } }"), Done (13, 0)) ∷
    -- 2 beats 4 everywhere, also behind MAIN's `}`
    (text (ascii "MAIN { INPUTS { } OUTPUTS { } } #"), Refused 2 100) ∷
    -- second before fourth
    (text (ascii "; MAIN &"), Refused 2 75) ∷
    -- many `(` never closed are 4, at the text's length, and not 5
    (ascii "INFO { TITLE: \"t\" DESCRIPTION: \"d\" SEMANTICS: Mealy TARGET: Mealy } MAIN { INPUTS { a; b; c; v[3]; } OUTPUTS { g; } GUARANTEE { " ++ repeated 600 "(", Refused 4 728) ∷
    -- 300 `!`, and a wrong token two lines later, are 4
    (line (repeated 300 "!" ++ ascii "a; b; c c"), Refused 4 436) ∷
    []

outcomes-met : map (λ c. outcome c.0) outcomes ≡ map (λ c. c.1) outcomes
unfolding text_expansion parsed spec_expansion ◌>>=◌ guard refuse_at count size
outcomes-met = refl

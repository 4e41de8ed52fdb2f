-- Readings of document 01 on depth and visibility, N1 to N5.
use Rattle.std.specs.Prelude.{ℕ, ◌++◌, List, [], ◌∷◌, map, ◌≡◌, refl}
use Rattle.node.specs.Ltl.{True, Signal, One, Two, X, And, Formula}
use Rattle.node.specs.Postorder.{size}
use Rattle.node.specs.Result.{Done, Refused, ◌>>=◌, guard, Result}
use Rattle.node.specs.Written.{count}
use Rattle.language.specs.Bytes.{ascii}
use Rattle.language.specs.Places.{refuse_at}
use Rattle.language.specs.Parsing.{parsed}
use Rattle.language.specs.Reading.{text_expansion, spec_expansion}
use Rattle.language.proofs.Cases.{text, line, repeated, outcome, guaranteed, lettered}

-- texts, and what each one's GUARANTEE comes to
abbrev guarantees : List (List ℕ × Result Formula)
guarantees =
    -- 'a parenthesis or a leaf is a level': comparison, bars, 253 parentheses and `{}`
    (line (ascii "|" ++ repeated 253 "(" ++ ascii "{}" ++ repeated 253 ")" ++ ascii "| == 0"), Done True) ∷
    -- N1: a big operator is one level, however many names it binds
    (line (ascii "&&[i IN {1}, 0 <= j < 2] " ++ repeated 254 "(" ++ ascii "true" ++ repeated 254 ")" ++ ascii ""), Done (Two And True True)) ∷
    -- N1: X[n] one above n, an index one above its number
    (line (ascii "X[" ++ repeated 254 "(" ++ ascii "1" ++ repeated 254 ")" ++ ascii "] a"), Done (One X (Signal 0))) ∷
    -- index is one
    (line (ascii "v[" ++ repeated 254 "(" ++ ascii "1" ++ repeated 254 ")" ++ ascii "]"), Done (Signal 4)) ∷
    -- N3: the inner name is gone before the outer one is visible
    (line (ascii "&&[i IN (+)[i IN {1}] {i}] a"), Done (Signal 0)) ∷
    -- document 001: 'id0 is already bound in' the second set
    (line (ascii "&&[i IN {0, 1}, j IN {i}] v[j]"), Done (Two And (Signal 3) (Signal 4))) ∷
    -- sibling operators may reuse a name
    (line (ascii "&&[i IN {0}] v[i] && &&[i IN {1}] v[i]"), Done (Two And (Signal 3) (Signal 4))) ∷
    []

guarantees-met : map (λ c. guaranteed c.0) guarantees ≡ map (λ c. c.1) guarantees
unfolding text_expansion parsed spec_expansion ◌>>=◌ guard refuse_at count size
guarantees-met = refl

-- texts, and what each comes to: its nodes and signals, or its refusal
abbrev outcomes : List (List ℕ × Result (ℕ × ℕ))
outcomes =
    -- N1: 255 `!` before `a` pass, 256 do not
    (line (repeated 255 "!" ++ ascii "a"), Done (268, 7)) ∷
    -- nots 256
    (line (ascii "" ++ repeated 256 "!" ++ ascii "a"), Refused 5 128) ∷
    -- N1: left-deep chains count like any tree
    (line (repeated 255 "true&&" ++ ascii "true"), Done (523, 7)) ∷
    -- chain 257
    (line (ascii "" ++ repeated 256 "true&&" ++ ascii "true"), Refused 5 128) ∷
    -- N1: definitions are not put in place of their names
    (text (ascii "GLOBAL { DEFINITIONS { d = " ++ repeated 200 "!" ++ ascii "a; } } MAIN { INPUTS { a; } OUTPUTS { } GUARANTEE { " ++ repeated 200 "!" ++ ascii "d; } }"), Done (413, 1)) ∷
    -- empty set deeper
    (line (ascii "|" ++ repeated 254 "(" ++ ascii "{}" ++ repeated 254 ")" ++ ascii "| == 0"), Refused 5 128) ∷
    -- big deeper
    (line (ascii "&&[i IN {1}, 0 <= j < 2] " ++ repeated 255 "(" ++ ascii "true" ++ repeated 255 ")" ++ ascii ""), Refused 5 128) ∷
    -- index deeper
    (line (ascii "v[" ++ repeated 255 "(" ++ ascii "1" ++ repeated 255 ")" ++ ascii "]"), Refused 5 128) ∷
    -- N2: the place is that of the line's whole expression
    (line (ascii "b; a && " ++ repeated 255 "!" ++ ascii "!b"), Refused 5 131) ∷
    -- N2: or of a width
    (text (ascii "MAIN { INPUTS { b[" ++ repeated 256 "(" ++ ascii "1" ++ repeated 256 ")" ++ ascii "]; } OUTPUTS { } }"), Refused 5 86) ∷
    -- N3: a big operator's name is visible behind its own set or bounds
    (line (ascii "&&[i IN {i}] a"), Refused 6 137) ∷
    -- own bounds
    (line (ascii "&&[0 <= i < i] a"), Refused 6 140) ∷
    -- 'a big operator's name in the rest of its operator'
    (line (ascii "(&&[i IN {0}] v[i]) && v[i]"), Refused 6 153) ∷
    -- 'visible after its line'
    (text (ascii "GLOBAL { DEFINITIONS { d = d; } } MAIN { INPUTS { } OUTPUTS { } }"), Refused 6 95) ∷
    -- later line
    (text (ascii "GLOBAL { DEFINITIONS { d = k; k = 1; } } MAIN { INPUTS { } OUTPUTS { } }"), Refused 6 95) ∷
    -- own parameter
    (text (ascii "GLOBAL { PARAMETERS { n = m; m = 1; } } MAIN { INPUTS { } OUTPUTS { } }"), Refused 6 94) ∷
    -- later type
    (text (ascii "GLOBAL { DEFINITIONS { d = A; enum e = A: 0; } } MAIN { INPUTS { } OUTPUTS { } }"), Refused 6 95) ∷
    -- definition in parameter
    (text (ascii "GLOBAL { PARAMETERS { n = d; } DEFINITIONS { d = 1; } } MAIN { INPUTS { } OUTPUTS { } }"), Refused 6 94) ∷
    -- unknown type
    (text (ascii "MAIN { INPUTS { k x; } OUTPUTS { } }"), Refused 6 84) ∷
    -- 'signals and buses everywhere'
    (text (ascii "GLOBAL { DEFINITIONS { d = G a; } } MAIN { ASSERT { d; } OUTPUTS { } INPUTS { a; } }"), Done (14, 1)) ∷
    -- N4: an identifier twice in one enumeration
    (text (ascii "GLOBAL { DEFINITIONS { enum e = A: 0 A: 1; } } MAIN { INPUTS { } OUTPUTS { } }"), Refused 7 105) ∷
    -- N4: or equal to its type's name
    (text (ascii "GLOBAL { DEFINITIONS { enum e = e: 0; } } MAIN { INPUTS { } OUTPUTS { } }"), Refused 7 100) ∷
    -- identifier in two
    (text (ascii "GLOBAL { DEFINITIONS { enum e = A: 0; enum f = A: 1; } } MAIN { INPUTS { } OUTPUTS { } }"), Refused 7 115) ∷
    -- N4: a big operator's name equal to a signal is 7 at whichever stands later in the text
    (text (ascii "MAIN { GUARANTEE { &&[q IN {}] true; } INPUTS { q; } OUTPUTS { } }"), Refused 7 116) ∷
    -- operator after signal
    (line (ascii "&&[a IN {}] true"), Refused 7 131) ∷
    -- operator in parameter
    (text (ascii "GLOBAL { PARAMETERS { n = +[q IN {1}] q; } } MAIN { INPUTS { q; } OUTPUTS { } }"), Refused 7 129) ∷
    -- operator like parameter
    (text (ascii "GLOBAL { PARAMETERS { n = 1; m = +[n IN {1}] 1; } } MAIN { INPUTS { } OUTPUTS { } }"), Refused 7 103) ∷
    -- N4: `w = &&[w IN {}] true;` is accepted: neither sees the other
    (text (ascii "GLOBAL { DEFINITIONS { w = &&[w IN {}] true; u = +[k IN {1}] k; k = 1; } } MAIN { INPUTS { } OUTPUTS { } }"), Done (13, 0)) ∷
    -- parameter again
    (text (ascii "GLOBAL { PARAMETERS { n = 1; } DEFINITIONS { n = 2; } } MAIN { INPUTS { } OUTPUTS { } }"), Refused 7 113) ∷
    -- parameter signal
    (text (ascii "GLOBAL { PARAMETERS { n = 1; } } MAIN { INPUTS { n; } OUTPUTS { } }"), Refused 7 117) ∷
    -- input output
    (text (ascii "MAIN { OUTPUTS { a; } INPUTS { b; a[2]; } }"), Refused 7 102) ∷
    -- with three equal names the smallest of the later places
    (text (ascii "MAIN { INPUTS { a; a; a; } OUTPUTS { a; } }"), Refused 7 87) ∷
    -- smallest of pairs
    (text (ascii "MAIN { GUARANTEE { &&[q IN {}] &&[q IN {}] true; } INPUTS { q; } OUTPUTS { } }"), Refused 7 102) ∷
    -- the names of one operator, and an inner operator, may not
    (line (ascii "&&[i IN {0}, i IN {1}] v[i]"), Refused 7 141) ∷
    -- inner operator
    (line (ascii "&&[i IN {0}] &&[i IN {1}] v[i]"), Refused 7 144) ∷
    -- N5: enumeration types and each identifier are declared names: 3 and 254 are too many
    (text (ascii "GLOBAL { DEFINITIONS { enum e = A: 0 B: 1; } } MAIN { INPUTS { " ++ lettered 254 ++ ascii "} OUTPUTS { } }"), Refused 8 890) ∷
    -- 'big operators' names not counted': 1 and 255 pass
    (text (ascii "GLOBAL { DEFINITIONS { d = &&[i IN {}] true; } } MAIN { INPUTS { " ++ lettered 255 ++ ascii "} OUTPUTS { } }"), Done (13, 255)) ∷
    []

outcomes-met : map (λ c. outcome c.0) outcomes ≡ map (λ c. c.1) outcomes
unfolding text_expansion parsed spec_expansion ◌>>=◌ guard refuse_at count size
outcomes-met = refl

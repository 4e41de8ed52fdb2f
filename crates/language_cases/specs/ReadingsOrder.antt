-- Readings of document 01 on the order of evaluation and of refusals, E6 and E7.
use Rattle.std.specs.Prelude.{ℕ, List, [], ◌∷◌, map, ◌≡◌, refl}
use Rattle.node.specs.Ltl.{Signal, One, Two, X, And, Implies, Formula}
use Rattle.node.specs.Postorder.{size}
use Rattle.node.specs.Result.{Done, Refused, ◌>>=◌, guard, Result}
use Rattle.node.specs.Written.{count}
use Rattle.language.specs.Bytes.{ascii}
use Rattle.language.specs.Places.{refuse_at}
use Rattle.language.specs.Parsing.{parsed}
use Rattle.language.specs.Reading.{text_expansion, spec_expansion}
use Rattle.language.proofs.Cases.{text, line, typed, outcome, guaranteed}

-- texts, and what each one's GUARANTEE comes to
abbrev guarantees : List (List ℕ × Result Formula)
guarantees =
    -- parameters, sets, formulas and widths by definition together
    (
      text (ascii "GLOBAL { PARAMETERS { n = 2; m = n * n; } DEFINITIONS { s = {0, n .. m}; enum e = A: 1* B: 0*; d = x == A; k = |s| + SIZEOF x; } } MAIN { INPUTS { e x; v[m + 1]; } OUTPUTS { } GUARANTEE { &&[i IN s] v[i]; d -> X[k - 4] v[0]; } }"),
      Done (Two And (Two And (Two And (Signal 2) (Signal 4)) (Signal 6)) (Two Implies (Signal 0) (One X (Signal 2)))),
    ) ∷
    []

guarantees-met : map (λ c. guaranteed c.0) guarantees ≡ map (λ c. c.1) guarantees
unfolding text_expansion parsed spec_expansion ◌>>=◌ guard refuse_at count size
guarantees-met = refl

-- texts, and what each comes to: its nodes and signals, or its refusal
abbrev outcomes : List (List ℕ × Result (ℕ × ℕ))
outcomes =
    -- E6: inputs are sized before outputs whatever the order in the text
    (text (ascii "MAIN { OUTPUTS { o[SIZEOF i]; } INPUTS { i[2]; } }"), Done (13, 4)) ∷
    -- inputs first
    (text (ascii "MAIN { OUTPUTS { o[2]; } INPUTS { i[SIZEOF o]; } }"), Refused 13 111) ∷
    -- E6: `b[SIZEOF b]` and SIZEOF in a parameter are 13 at the bus name there
    (text (ascii "MAIN { INPUTS { b[SIZEOF b]; } OUTPUTS { } }"), Refused 13 93) ∷
    -- sizeof parameter
    (text (ascii "GLOBAL { PARAMETERS { n = SIZEOF b; } } MAIN { INPUTS { b[2]; } OUTPUTS { } }"), Refused 13 101) ∷
    -- E6: inside parentheses, if any
    (text (ascii "MAIN { INPUTS { d[SIZEOF (b)]; b[2]; } OUTPUTS { } }"), Refused 13 94) ∷
    -- 'every bus, by enumeration too, is sized at its own turn'
    (text (ascii "GLOBAL { DEFINITIONS { enum e = A: 0 B: 1; } } MAIN { INPUTS { d[SIZEOF x]; e x; } OUTPUTS { } }"), Refused 13 140) ∷
    -- enumeration sized
    (text (ascii "GLOBAL { DEFINITIONS { enum e = A: 000 B: 1**, 01*, 001; } } MAIN { INPUTS { e x; d[SIZEOF x]; } OUTPUTS { } }"), Done (13, 6)) ∷
    -- widths: 11 inside, then 13, bus by bus
    (text (ascii "MAIN { INPUTS { b[0]; d[1 / 0]; } OUTPUTS { } }"), Refused 13 84) ∷
    -- width inside
    (text (ascii "MAIN { INPUTS { b[1 / 0]; d[0]; } OUTPUTS { } }"), Refused 11 88) ∷
    -- 'parameters, widths of inputs then outputs .. sections in text order'
    (text (ascii "MAIN { GUARANTEE { 2 - 3 == 0; } INPUTS { b[0]; } OUTPUTS { } }"), Refused 13 110) ∷
    -- text order
    (text (ascii "MAIN { GUARANTEE { 2 - 3 == 0; } INPUTS { } OUTPUTS { } INITIALLY { 1 / 0 == 0; } }"), Refused 11 89) ∷
    -- E6: the bus name where it is used, inside parentheses
    (typed (ascii "(w) == P"), Refused 13 187) ∷
    -- '11 to 13 as evaluation meets them'
    (line (ascii "v[3] && 1 / 0 == 1"), Refused 13 128) ∷
    -- value before index
    (line (ascii "1 / 0 == 1 && v[3]"), Refused 11 130) ∷
    -- set before value
    (line (ascii "1 IN {3, 2 .. 5} && 1 / 0 == 1"), Refused 12 133) ∷
    -- lines in order
    (line (ascii "a; v[4]; 1 / 0 == 1"), Refused 13 131) ∷
    -- unused large parameter
    (text (ascii "GLOBAL { PARAMETERS { n = 1000001; } } MAIN { INPUTS { } OUTPUTS { } }"), Refused 11 94) ∷
    -- outputs after inputs
    (text (ascii "MAIN { OUTPUTS { o[0]; } INPUTS { i[2]; } GUARANTEE { 1 / 0 == 1; } }"), Refused 13 85) ∷
    -- inputs before outputs
    (text (ascii "MAIN { OUTPUTS { o[0]; } INPUTS { i[1 / 0]; } }"), Refused 11 106) ∷
    -- E7: 15 comes after all evaluation, in a text that is converted too
    (ascii "INFO { TITLE: \"t\" DESCRIPTION: \"d\" SEMANTICS: Moore TARGET: Mealy } MAIN { INPUTS { } OUTPUTS { } GUARANTEE { 2 - 3 == 0; } }", Refused 11 112) ∷
    -- signals of unlike
    (ascii "INFO { TITLE: \"t\" DESCRIPTION: \"d\" SEMANTICS: Moore TARGET: Mealy } MAIN { INPUTS { a[200]; b[56]; } OUTPUTS { } }", Refused 15 92) ∷
    -- signals before nodes
    (text (ascii "MAIN { INPUTS { a[200]; b[56]; } OUTPUTS { } GUARANTEE { X[8192] a[0]; } }"), Refused 15 92) ∷
    -- nothing is cut short because the nodes are already too many
    (line (ascii "X[8192] a; 2 - 3 == 0"), Refused 11 141) ∷
    -- E7: 15 stands at the first declared name, in signal order, with which the count passes 255
    (text (ascii "MAIN { OUTPUTS { a[200]; b[1]; } INPUTS { c[55]; } }"), Refused 15 93) ∷
    -- signal order first
    (text (ascii "MAIN { OUTPUTS { a[200]; b; } INPUTS { c[56]; } }"), Refused 15 85) ∷
    -- Moore is read like Mealy
    (ascii "INFO { TITLE: \"t\" DESCRIPTION: \"d\" SEMANTICS: Moore, Strict TARGET: Moore } MAIN { INPUTS { } OUTPUTS { } }", Done (15, 0)) ∷
    []

outcomes-met : map (λ c. outcome c.0) outcomes ≡ map (λ c. c.1) outcomes
unfolding text_expansion parsed spec_expansion ◌>>=◌ guard refuse_at count size
outcomes-met = refl

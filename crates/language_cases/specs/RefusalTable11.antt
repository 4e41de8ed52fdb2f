-- Document 01's table of refusals, rows 11 to 18: each row's own example, and the other reasons that its second column names.
use Rattle.std.specs.Prelude.{ℕ, List, [], ◌∷◌, map, ◌≡◌, refl}
use Rattle.node.specs.Ltl.{True, Formula}
use Rattle.node.specs.Postorder.{size}
use Rattle.node.specs.Result.{Done, Refused, ◌>>=◌, guard, Result}
use Rattle.node.specs.Written.{count}
use Rattle.language.specs.Bytes.{ascii}
use Rattle.language.specs.Places.{refuse_at}
use Rattle.language.specs.Parsing.{parsed}
use Rattle.language.specs.Reading.{text_expansion, spec_expansion, reading}
use Rattle.language.proofs.Cases.{text, line, typed, repeated, outcome, guaranteed, lent}

-- texts, and what each one's GUARANTEE comes to
abbrev guarantees : List (List ℕ × Result Formula)
guarantees =
    -- 1,000,000 is in range
    (line (ascii "1000000 > 999999"), Done True) ∷
    []

guarantees-met : map (λ c. guaranteed c.0) guarantees ≡ map (λ c. c.1) guarantees
unfolding text_expansion parsed spec_expansion ◌>>=◌ guard refuse_at count size
guarantees-met = refl

-- texts, and what each comes to: its nodes and signals, or its refusal
abbrev outcomes : List (List ℕ × Result (ℕ × ℕ))
outcomes =
    -- 11: 'value out of range', `2 - 3`
    (line (ascii "2 - 3 == 0"), Refused 11 130) ∷
    -- at the numeral
    (line (ascii "1000001 == 0"), Refused 11 128) ∷
    -- at the operator
    (line (ascii "999999 + 1 + 1 == 0"), Refused 11 139) ∷
    -- 'divisor 0'
    (line (ascii "1 / 0 == 0"), Refused 11 130) ∷
    -- modulo zero
    (line (ascii "1 % 0 == 0"), Refused 11 130) ∷
    -- 'MIN, MAX or `(*)[..]` of nothing'
    (line (ascii "MIN {} == 0"), Refused 11 128) ∷
    -- maximum of nothing
    (line (ascii "MAX {} == 0"), Refused 11 128) ∷
    -- intersection of nothing
    (line (ascii "0 IN (*)[i IN {}] {i}"), Refused 11 133) ∷
    -- 'm below n in F and G'
    (line (ascii "F[3:2] a"), Refused 11 128) ∷
    -- window backward g
    (line (ascii "G[1:0] a"), Refused 11 128) ∷
    -- 12: 'range step not upward', `{3,3..5}`
    (line (ascii "1 IN {3,3..5}"), Refused 12 133) ∷
    -- 'set too large': at `{`
    (line (ascii "1 IN {0,1..256}"), Refused 12 133) ∷
    -- at the operator
    (line (ascii "1 IN {0,1..255} (+) {256}"), Refused 12 144) ∷
    -- at 'the first sign of bounds'
    (line (ascii "&&[0 <= i < 257] true"), Refused 12 133) ∷
    -- 13: 'width 0'
    (text (ascii "MAIN { INPUTS { b[0]; } OUTPUTS { } }"), Refused 13 84) ∷
    -- 'or over 255'
    (text (ascii "MAIN { INPUTS { b[256]; } OUTPUTS { } }"), Refused 13 84) ∷
    -- 'index too large', `b[3]` of `b[3]`
    (line (ascii "v[3]"), Refused 13 128) ∷
    -- 'unequal widths'
    (typed (ascii "P == w"), Refused 13 191) ∷
    -- 'SIZEOF of a bus not yet sized'
    (text (ascii "MAIN { INPUTS { b[SIZEOF d]; d[2]; } OUTPUTS { } }"), Refused 13 93) ∷
    -- 14 no longer occurs: `SEMANTICS: Moore TARGET: Mealy`
    (ascii "INFO { TITLE: \"t\" DESCRIPTION: \"d\" SEMANTICS: Moore TARGET: Mealy } MAIN { INPUTS { } OUTPUTS { } }", Done (13, 0)) ∷
    -- 15: at the 'declared name', `a[200]; b[56];`
    (text (ascii "MAIN { INPUTS { a[200]; b[56]; } OUTPUTS { } }"), Refused 15 92) ∷
    -- 255 signals pass
    (text (ascii "MAIN { INPUTS { a[200]; b[55]; } OUTPUTS { } }"), Done (13, 255)) ∷
    -- 16: `X[8192] a`
    (line (ascii "X[8192] a"), Refused 16 0) ∷
    -- 8,192 nodes pass: 13 of a line `a`, and 8,179 times X; one more does not
    (line (ascii "X[8179] a"), Done (8192, 7)) ∷
    -- one node more
    (line (ascii "X[8180] a"), Refused 16 0) ∷
    []

outcomes-met : map (λ c. outcome c.0) outcomes ≡ map (λ c. c.1) outcomes
unfolding text_expansion parsed spec_expansion ◌>>=◌ guard refuse_at count size
outcomes-met = refl

-- texts with the lengths of the work buffer, the node table and the signal list that are lent, and what each call comes to
abbrev calls : List (List ℕ × ℕ × ℕ × ℕ × Result (ℕ × ℕ))
calls =
    -- 17: 'work buffer short', 65,535 bytes; before 1
    (repeated 32769 " ", 65535, 0, 0, Refused 17 0) ∷
    -- 18: 'result buffer short', 13 nodes due, 12 lent
    (text (ascii "MAIN { INPUTS { } OUTPUTS { } }"), 65536, 12, 0, Refused 18 0) ∷
    -- 13 lent
    (text (ascii "MAIN { INPUTS { } OUTPUTS { } }"), 65536, 13, 0, Done (13, 0)) ∷
    -- the signal list is a result too
    (text (ascii "MAIN { INPUTS { a; } OUTPUTS { } }"), 65536, 13, 0, Refused 18 0) ∷
    -- one signal lent
    (text (ascii "MAIN { INPUTS { a; } OUTPUTS { } }"), 65537, 8192, 1, Done (13, 1)) ∷
    -- 16 before 18
    (line (ascii "X[8192] a"), 65536, 0, 0, Refused 16 0) ∷
    []

calls-met : map (λ c. lent c.0 c.1 c.2 c.3) calls ≡ map (λ c. c.4) calls
unfolding reading text_expansion parsed spec_expansion ◌>>=◌ guard refuse_at count size
calls-met = refl

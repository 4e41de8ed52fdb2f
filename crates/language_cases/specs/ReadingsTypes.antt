-- Readings of document 01 on types, N6.
use Rattle.std.specs.Prelude.{ℕ, List, [], ◌∷◌, map, ◌≡◌, refl}
use Rattle.node.specs.Ltl.{True, Signal, Two, And, Formula}
use Rattle.node.specs.Postorder.{size}
use Rattle.node.specs.Result.{Done, Refused, ◌>>=◌, guard, Result}
use Rattle.node.specs.Written.{count}
use Rattle.language.specs.Bytes.{ascii}
use Rattle.language.specs.Places.{refuse_at}
use Rattle.language.specs.Parsing.{parsed}
use Rattle.language.specs.Reading.{text_expansion, spec_expansion}
use Rattle.language.proofs.Cases.{text, typed, outcome, guaranteed}

-- texts, and what each comes to: its nodes and signals, or its refusal
abbrev outcomes : List (List ℕ × Result (ℕ × ℕ))
outcomes =
    -- N6: number, bus and value that do not fit each other clash, at the right operand's first token
    (typed (ascii "v == 1"), Refused 9 191) ∷
    -- number bus
    (typed (ascii "1 == v"), Refused 9 191) ∷
    -- bus bus
    (typed (ascii "v == v"), Refused 9 191) ∷
    -- value value
    (typed (ascii "P == P"), Refused 9 191) ∷
    -- value number
    (typed (ascii "P != 1"), Refused 9 191) ∷
    -- N6: a formula, set or type name there is wrong itself; a single signal is a formula and no bus
    (typed (ascii "a == 1"), Refused 9 186) ∷
    -- signal right
    (typed (ascii "1 == a"), Refused 9 191) ∷
    -- set left
    (typed (ascii "{} == {}"), Refused 9 186) ∷
    -- type left
    (typed (ascii "e == v"), Refused 9 186) ∷
    -- type right
    (typed (ascii "v == e"), Refused 9 191) ∷
    -- both wrong
    (typed (ascii "true == {}"), Refused 9 186) ∷
    -- set right
    (typed (ascii "1 == {1}"), Refused 9 191) ∷
    -- a comparison is a formula, and comparisons go left to right
    (typed (ascii "1 == 2 == 3"), Refused 9 186) ∷
    -- N6: a parenthesised operand's first token is its `(`
    (typed (ascii "1 + (true) == 1"), Refused 9 190) ∷
    -- N6: `<` and the like take numbers
    (typed (ascii "v < P"), Refused 9 186) ∷
    -- less signal
    (typed (ascii "1 <= a"), Refused 9 191) ∷
    -- N6: indexing anything but a bus is 9 at the name
    (typed (ascii "a[0]"), Refused 9 186) ∷
    -- index value
    (typed (ascii "P[0]"), Refused 9 186) ∷
    -- index of truth
    (typed (ascii "v[true]"), Refused 9 188) ∷
    -- 'a line's expression'
    (typed (ascii "v"), Refused 9 186) ∷
    -- line value
    (typed (ascii "P"), Refused 9 186) ∷
    -- line type
    (typed (ascii "e"), Refused 9 186) ∷
    -- line set
    (typed (ascii "{1}"), Refused 9 186) ∷
    -- N6: every wrong place is known and the first in the text counts: `3 - true` is 9 at `3`
    (typed (ascii "3 - true"), Refused 9 186) ∷
    -- first operand
    (typed (ascii "(1 == 2) + true == 1"), Refused 9 186) ∷
    -- first of lines
    (typed (ascii "! 1; a && 1"), Refused 9 188) ∷
    -- operands 'of a wrong type'
    (typed (ascii "X 1"), Refused 9 188) ∷
    -- until number
    (typed (ascii "a U 1"), Refused 9 190) ∷
    -- max number
    (typed (ascii "MAX a == 1"), Refused 9 190) ∷
    -- member of number
    (typed (ascii "1 IN 1"), Refused 9 191) ∷
    -- member formula
    (typed (ascii "a IN {1}"), Refused 9 186) ∷
    -- cup number
    (typed (ascii "1 IN {1} (+) 1"), Refused 9 199) ∷
    -- nested set
    (typed (ascii "1 IN {{1}}"), Refused 9 192) ∷
    -- range truth
    (typed (ascii "1 IN {0, true .. 2}"), Refused 9 195) ∷
    -- over number
    (typed (ascii "&&[i IN 1] true"), Refused 9 194) ∷
    -- and of numbers
    (typed (ascii "&&[i IN {1}] i"), Refused 9 199) ∷
    -- sum of truths
    (typed (ascii "+[i IN {1}] true == 1"), Refused 9 198) ∷
    -- cup of numbers
    (typed (ascii "1 IN (+)[i IN {1}] i"), Refused 9 205) ∷
    -- bound truth
    (typed (ascii "&&[0 <= i < true] a"), Refused 9 198) ∷
    -- sizeof signal
    (typed (ascii "SIZEOF a == 1"), Refused 9 193) ∷
    -- sizeof value
    (typed (ascii "SIZEOF P == 3"), Refused 9 193) ∷
    -- negated bus
    (typed (ascii "!v"), Refused 9 187) ∷
    -- N6: a definition whose expression is a bus, value or type name is 9 at that expression
    (text (ascii "GLOBAL { DEFINITIONS { d = b; } } MAIN { INPUTS { b[2]; } OUTPUTS { } }"), Refused 9 95) ∷
    -- defined parens
    (text (ascii "GLOBAL { DEFINITIONS { d = (b); } } MAIN { INPUTS { b[2]; } OUTPUTS { } }"), Refused 9 95) ∷
    -- defined value
    (text (ascii "GLOBAL { DEFINITIONS { enum e = A: 0; d = A; } } MAIN { INPUTS { } OUTPUTS { } }"), Refused 9 110) ∷
    -- defined type
    (text (ascii "GLOBAL { DEFINITIONS { enum e = A: 0; d = e; } } MAIN { INPUTS { } OUTPUTS { } }"), Refused 9 110) ∷
    -- N6: unused definitions are checked too
    (text (ascii "GLOBAL { DEFINITIONS { d = 1 + true; } } MAIN { INPUTS { } OUTPUTS { } }"), Refused 9 99) ∷
    -- a parameter is a number
    (text (ascii "GLOBAL { PARAMETERS { n = {1}; } } MAIN { INPUTS { } OUTPUTS { } }"), Refused 9 94) ∷
    -- a section that stands before INPUTS counts before a width
    (text (ascii "MAIN { ASSERT { 3; } INPUTS { b[true]; } OUTPUTS { } }"), Refused 9 84) ∷
    -- width first
    (text (ascii "MAIN { INPUTS { b[true]; } OUTPUTS { } ASSERT { 3; } }"), Refused 9 86) ∷
    []

outcomes-met : map (λ c. outcome c.0) outcomes ≡ map (λ c. c.1) outcomes
unfolding text_expansion parsed spec_expansion ◌>>=◌ guard refuse_at count size
outcomes-met = refl

-- texts, and what each one's GUARANTEE comes to
abbrev guarantees : List (List ℕ × Result Formula)
guarantees =
    -- 'a definition is a number, a set or a formula'
    (
      text (ascii "GLOBAL { DEFINITIONS { n = 1; s = {n}; d = n IN s; } } MAIN { INPUTS { b[n]; } OUTPUTS { } GUARANTEE { d && b[n - 1] && |s| == n; } }"),
      Done (Two And (Two And True (Signal 0)) True),
    ) ∷
    []

guarantees-met : map (λ c. guaranteed c.0) guarantees ≡ map (λ c. c.1) guarantees
unfolding text_expansion parsed spec_expansion ◌>>=◌ guard refuse_at count size
guarantees-met = refl

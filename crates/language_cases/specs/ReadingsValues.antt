-- Readings of document 01 on evaluation, E1 to E5.
use Rattle.std.specs.Prelude.{ℕ, [], ◌∷◌, ◌++◌, List, map, ◌≡◌, refl}
use Rattle.node.specs.Ltl.{True, False, Signal, One, Two, X, And, Or, Formula}
use Rattle.node.specs.Postorder.{size}
use Rattle.node.specs.Result.{Done, Refused, ◌>>=◌, guard, Result}
use Rattle.node.specs.Written.{count}
use Rattle.language.specs.Bytes.{ascii}
use Rattle.language.specs.Places.{refuse_at}
use Rattle.language.specs.Parsing.{parsed}
use Rattle.language.specs.Reading.{text_expansion, spec_expansion}
use Rattle.language.proofs.Cases.{text, line, repeated, outcome, guaranteed, all_of}

-- texts, and what each one's GUARANTEE comes to
abbrev guarantees : List (List ℕ × Result Formula)
guarantees =
    -- E2: several names in one big operator are nested folds
    (line (ascii "&&[i IN {0, 1}, j IN {0, 1}] v[i + j]"), Done (Two And (Two And (Signal 3) (Signal 4)) (Two And (Signal 4) (Signal 5)))) ∷
    -- nested empty
    (line (ascii "||[i IN {0, 1}, j IN {}] a"), Done (Two Or False False)) ∷
    -- 'Big operators fold to the left, ascending'
    (line (ascii "||[i IN {2, 1, 0}] v[i]"), Done (Two Or (Two Or (Signal 3) (Signal 4)) (Signal 5))) ∷
    -- E3: 'over nothing `&&` is true, `||` false, `+` 0, `*` 1, `(+)` empty', and the operand is not evaluated
    (line (ascii "+[i IN {}] (1 / 0) == 0; *[i IN {}] (1 / 0) == 1; |(+)[i IN {}] {1 / 0}| == 0; &&[i IN {}] (1 / 0 == 1); ||[i IN {}] v[9]"), Done (all_of (True ∷ True ∷ True ∷ True ∷ False ∷ []))) ∷
    -- 'one element is itself'
    (line (ascii "&&[i IN {1}] v[i]; ||[i IN {1}] v[i]; *[i IN {7}] i == 7; |(*)[i IN {7}] {i, 8}| == 2"), Done (all_of (Signal 4 ∷ Signal 4 ∷ True ∷ True ∷ []))) ∷
    -- '`F[n:m] a` is n X over `a || X(a || ..)`, `G[n:m]` with `&&`'
    (
      line (ascii "F[2:3] a; G[1:3] a; F[0:0] a; X[3] a"),
      Done (all_of (One X (One X (Two Or (Signal 0) (One X (Signal 0)))) ∷ One X (Two And (Signal 0) (One X (Two And (Signal 0) (One X (Signal 0))))) ∷ Signal 0 ∷ One X (One X (One X (Signal 0))) ∷
          [])),
    ) ∷
    -- E5: duplicates count once
    (line (ascii "|{" ++ repeated 300 "1," ++ ascii "2}| == 2"), Done True) ∷
    -- range fits
    (line (ascii "|{0, 2 .. 511}| == 256; |{5, 6 .. 5}| == 1"), Done (Two And True True)) ∷
    -- E5: 'without working out n-1: none if n is 0'; nothing is formed beyond the two values
    (line (ascii "&&[1000000 < i <= 1000000] a; &&[0 <= i < 0] a; &&[3 <= i <= 1] a; &&[0 < i < 1] a"), Done (all_of (True ∷ True ∷ True ∷ True ∷ []))) ∷
    -- bounds ends
    (
      line (ascii "&&[0 < i < 2] v[i]; &&[0 <= i < 2] v[i]; &&[0 < i <= 2] v[i]; &&[1 <= i <= 1] v[i]"),
      Done (all_of (Signal 4 ∷ Two And (Signal 3) (Signal 4) ∷ Two And (Signal 4) (Signal 5) ∷ Signal 4 ∷ [])),
    ) ∷
    []

guarantees-met : map (λ c. guaranteed c.0) guarantees ≡ map (λ c. c.1) guarantees
unfolding text_expansion parsed spec_expansion ◌>>=◌ guard refuse_at count size
guarantees-met = refl

-- texts, and what each comes to: its nodes and signals, or its refusal
abbrev outcomes : List (List ℕ × Result (ℕ × ℕ))
outcomes =
    -- E1: a definition is worked out where it is used and only there
    (text (ascii "GLOBAL { DEFINITIONS { d = 1 / 0; e = 1 / 0 == 1; } } MAIN { INPUTS { } OUTPUTS { } }"), Done (13, 0)) ∷
    -- E1: a fault's place is in the definition's text
    (text (ascii "GLOBAL { DEFINITIONS { d = 1 / 0; } } MAIN { INPUTS { a; b[2]; } OUTPUTS { } GUARANTEE { d == 1 } }"), Refused 11 97) ∷
    -- 13 included
    (text (ascii "GLOBAL { DEFINITIONS { d = b[2]; } } MAIN { INPUTS { a; b[2]; } OUTPUTS { } GUARANTEE { a; d } }"), Refused 13 95) ∷
    -- 'left operand first'
    (text (ascii "GLOBAL { DEFINITIONS { d = 1 / 0; } } MAIN { INPUTS { a; b[2]; } OUTPUTS { } GUARANTEE { 2 - 3 == d } }"), Refused 11 159) ∷
    -- 'A definition is worked out at each use': before and after the bus is sized
    (text (ascii "GLOBAL { DEFINITIONS { s = SIZEOF b; } } MAIN { INPUTS { d[s]; b[2]; } OUTPUTS { } }"), Refused 13 102) ∷
    -- each use later
    (text (ascii "GLOBAL { DEFINITIONS { s = SIZEOF b; } } MAIN { INPUTS { b[2]; d[s]; } OUTPUTS { } }"), Done (13, 4)) ∷
    -- parameters are worked out in order, used or not
    (text (ascii "GLOBAL { PARAMETERS { n = 1 / 0; } } MAIN { INPUTS { } OUTPUTS { } }"), Refused 11 96) ∷
    -- parameter order
    (text (ascii "GLOBAL { PARAMETERS { n = 1 - 2; m = 1 / 0; } } MAIN { INPUTS { } OUTPUTS { } }"), Refused 11 96) ∷
    -- 'Everything is evaluated, both sides of `||` included'
    (line (ascii "true || 1 / 0 == 1"), Refused 11 138) ∷
    -- E3: first operand, second operand, combine, third: 500,000 and 1,000,000 are combined before the third divides by 0
    (line (ascii "+[i IN {0, 1, 2}] (1000000 / (2 - i)) == 0"), Refused 11 128) ∷
    -- E3: and the second is worked out before
    (line (ascii "+[i IN {0, 1}] (1000000 / (1 - i)) == 0"), Refused 11 152) ∷
    -- fold product
    (line (ascii "*[i IN {1000, 1001}] i == 0"), Refused 11 128) ∷
    -- every partial result of a fold is a step: 12 at the big operator's token
    (line (ascii "0 IN (+)[i IN {0, 1}] {i, i + 1 .. i + 255}"), Refused 12 133) ∷
    -- E4: n, m, the test m below n, then the operand
    (line (ascii "F[2 - 3:1 / 0] a"), Refused 11 132) ∷
    -- window second
    (line (ascii "G[3:1 / 0] a"), Refused 11 134) ∷
    -- window test
    (line (ascii "F[3:2] v[3]"), Refused 11 128) ∷
    -- window operand
    (line (ascii "F[2:2] v[3]"), Refused 13 135) ∷
    -- E4: `b[e]`: e, then the index
    (line (ascii "v[1 / 0]"), Refused 11 132) ∷
    -- next first
    (line (ascii "X[2 - 3] v[3]"), Refused 11 132) ∷
    -- E5: a range: x, y, z, then the step
    (line (ascii "1 IN {3, 3 .. 1 / 0}"), Refused 11 144) ∷
    -- range step
    (line (ascii "1 IN {3, 2 .. 1000000}"), Refused 12 133) ∷
    -- E5: then the size
    (line (ascii "1 IN {0, 2 .. 512}"), Refused 12 133) ∷
    -- 'at each step'
    (line (ascii "1 IN {0, 1 .. 255} (+) {256} (+) {300}"), Refused 12 147) ∷
    -- E5: bounds: low, high, then the size at the first sign
    (line (ascii "&&[2 - 3 <= i < 1 / 0] a"), Refused 11 133) ∷
    -- bounds high
    (line (ascii "&&[0 <= i < 1 / 0] a"), Refused 11 142) ∷
    -- bounds size
    (line (ascii "&&[0 < i <= 1000000] a"), Refused 12 133) ∷
    []

outcomes-met : map (λ c. outcome c.0) outcomes ≡ map (λ c. c.1) outcomes
unfolding text_expansion parsed spec_expansion ◌>>=◌ guard refuse_at count size
outcomes-met = refl

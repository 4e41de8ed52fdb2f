-- Readings of document 01 on the grammar of expressions, G4 to G9, and how far an expression reads on.
use Rattle.std.specs.Prelude.{ℕ, [], ◌∷◌, List, map, ◌≡◌, refl}
use Rattle.node.specs.Ltl.{True, False, Signal, One, Two, Not, And, Or, Formula}
use Rattle.node.specs.Postorder.{size}
use Rattle.node.specs.Result.{Done, Refused, ◌>>=◌, guard, Result}
use Rattle.node.specs.Written.{count}
use Rattle.language.specs.Bytes.{ascii}
use Rattle.language.specs.Places.{refuse_at}
use Rattle.language.specs.Parsing.{parsed}
use Rattle.language.specs.Reading.{text_expansion, spec_expansion}
use Rattle.language.proofs.Cases.{text, line, typed, outcome, guaranteed, all_of}

-- texts, and what each comes to: its nodes and signals, or its refusal
abbrev outcomes : List (List ℕ × Result (ℕ × ℕ))
outcomes =
    -- G4: the grammar knows no types, and a misfit is 9
    (line (ascii "SIZEOF 3 == 3"), Refused 9 135) ∷
    -- G5: any expression may stand in brackets; its type is 9
    (line (ascii "X[a U b] c"), Refused 9 130) ∷
    -- in window
    (line (ascii "F[a R b:2] c"), Refused 9 130) ∷
    -- in window end
    (line (ascii "F[0:a -> b] c"), Refused 9 132) ∷
    -- in index
    (line (ascii "v[a W b]"), Refused 9 130) ∷
    -- in bars
    (line (ascii "|a -> b| == 1"), Refused 9 129) ∷
    -- in set
    (line (ascii "1 IN {a R b}"), Refused 9 134) ∷
    -- in range
    (line (ascii "1 IN {0, 1 .. a U b}"), Refused 9 142) ∷
    -- in big
    (line (ascii "&&[i IN a U b] true"), Refused 9 136) ∷
    -- in width
    (text (ascii "MAIN { INPUTS { b[true U true]; } OUTPUTS { } }"), Refused 9 86) ∷
    -- in parameter
    (text (ascii "GLOBAL { PARAMETERS { n = true R true; } } MAIN { INPUTS { } OUTPUTS { } }"), Refused 9 94) ∷
    -- in definition
    (text (ascii "GLOBAL { DEFINITIONS { d = a U a R a; } } MAIN { INPUTS { a; } OUTPUTS { } }"), Done (13, 1)) ∷
    -- G5: bounds are of level 8 at most on both sides
    (line (ascii "&&[0 <= i < 1 IN {1}] true"), Refused 4 142) ∷
    -- bounds comparison
    (line (ascii "&&[1 == 1 <= i < 3] true"), Refused 4 133) ∷
    -- bounds union
    (line (ascii "&&[0 (+) 1 <= i < 2] true"), Refused 9 131) ∷
    -- bounds greater
    (line (ascii "&&[0 > i < 2] true"), Refused 4 133) ∷
    -- bounds one sided
    (line (ascii "&&[0 <= i] true"), Refused 4 137) ∷
    -- G7: an index stands directly on a name
    (line (ascii "(v)[0]"), Refused 4 131) ∷
    -- index on index
    (line (ascii "v[0][1]"), Refused 4 132) ∷
    -- size of union
    (line (ascii "SIZE {1} (+) {2} == 2"), Refused 9 128) ∷
    -- G8: SUM, PROD, FORALL and EXISTS are not binary
    (line (ascii "1 SUM 2 == 3"), Refused 4 130) ∷
    -- product binary
    (line (ascii "2 PROD 3 == 6"), Refused 4 130) ∷
    -- forall binary
    (line (ascii "a FORALL b"), Refused 4 130) ∷
    -- exists binary
    (line (ascii "a EXISTS b"), Refused 4 130) ∷
    -- G8: no other operator has a big one
    (line (ascii "PLUS[i IN {1}] i == 1"), Refused 4 128) ∷
    -- mul big
    (line (ascii "MUL[i IN {1}] i == 1"), Refused 4 128) ∷
    -- minus big
    (line (ascii "-[i IN {1}] i == 1"), Refused 4 128) ∷
    -- without big
    (line (ascii "1 IN (\\)[i IN {1}] {i}"), Refused 4 133) ∷
    -- implies big
    (line (ascii "->[i IN {1}] a"), Refused 4 128) ∷
    -- G9: a prefix operator looser than its place allows is refused at itself
    (line (ascii "a == !b"), Refused 4 133) ∷
    -- cup operand
    (line (ascii "1 + (+)[i IN {1}] {i} == 1"), Refused 4 132) ∷
    -- not member
    (line (ascii "1 IN !a"), Refused 4 133) ∷
    -- after a sign that can open a big operator only `[` can follow
    (line (ascii "X[&&] a"), Refused 4 132) ∷
    -- plus first
    (line (ascii "+ 3 == 3"), Refused 4 130) ∷
    -- plus word first
    (line (ascii "PLUS 3 == 3"), Refused 4 128) ∷
    -- `!` reads on as far as it can: `!(a == 1)`
    (line (ascii "!a == 1"), Refused 9 129) ∷
    -- a big operator's body has the operator's own level, and its name ends with it
    (line (ascii "&&[0<=i<2] v[i] -> F v[i]"), Refused 6 151) ∷
    -- sum body ends
    (line (ascii "+[i IN {1}] i * i == 1"), Refused 6 144) ∷
    -- without body ends
    (line (ascii "1 IN (+)[i IN {1, 2}] {i} (\\) {i}"), Refused 6 159) ∷
    []

outcomes-met : map (λ c. outcome c.0) outcomes ≡ map (λ c. c.1) outcomes
unfolding text_expansion parsed spec_expansion ◌>>=◌ guard refuse_at count size
outcomes-met = refl

-- texts, and what each one's GUARANTEE comes to
abbrev guarantees : List (List ℕ × Result Formula)
guarantees =
    -- G4: `SIZEOF (b)`, `(b) == V` and `b == (V)` are accepted
    (
      typed (ascii "SIZEOF (v) == 3; (v) == P; v == (P); (P) == ((v))"),
      Done (all_of (True ∷ Two And (Signal 1) (One Not (Signal 3)) ∷ Two And (Signal 1) (One Not (Signal 3)) ∷ Two And (Signal 1) (One Not (Signal 3)) ∷ [])),
    ) ∷
    -- bounds sums
    (line (ascii "&&[0 + 1 <= i < 1 + 2] v[i]"), Done (Two And (Signal 4) (Signal 5))) ∷
    -- G5: their signs are `<`, `<=`, LE, LEQ
    (line (ascii "&&[0 LEQ i LE 2] v[i]"), Done (Two And (Signal 3) (Signal 4))) ∷
    -- G6: a name and `IN`, `ELEM` or `<-` start a membership
    (line (ascii "&&[i ELEM {0, 1}] v[i]; &&[i <- {0, 1}] v[i]"), Done (Two And (Two And (Signal 3) (Signal 4)) (Two And (Signal 3) (Signal 4)))) ∷
    -- G6: anything else is bounds
    (text (ascii "GLOBAL { PARAMETERS { n = 1; } } MAIN { INPUTS { v[3]; } OUTPUTS { } GUARANTEE { &&[n <= i < 3] v[i]; } }"), Done (Two And (Signal 1) (Signal 2))) ∷
    -- G7: SIZE is a prefix operator of level 1
    (line (ascii "SIZE {1, 2} * 3 == 6"), Done True) ∷
    -- G8: the names of big operators that Table 1 prints with brackets
    (line (ascii "SUM[i IN {1, 2}] i == 3; PROD[i IN {2, 3}] i == 6; |CAP[i IN {1, 2}] {0, i}| == 1; |CUP[i IN {1, 2}] {0, i}| == 3"), Done (all_of (True ∷ True ∷ True ∷ True ∷ []))) ∷
    -- big ands
    (
      line (ascii "AND[i IN {0, 1}] v[i]; FORALL[i IN {0, 1}] v[i]; OR[i IN {0, 1}] v[i]; EXISTS[i IN {0, 1}] v[i]"),
      Done (all_of (Two And (Signal 3) (Signal 4) ∷ Two And (Signal 3) (Signal 4) ∷ Two Or (Signal 3) (Signal 4) ∷ Two Or (Signal 3) (Signal 4) ∷ [])),
    ) ∷
    -- G9: one as tight is not
    (line (ascii "2 * *[i IN {3}] i == 6; |{1} (+) (+)[i IN {2}] {i}| == 2"), Done (Two And True True)) ∷
    -- `&&[..] a && b` is `(&&[..] a) && b`
    (line (ascii "&&[i IN {0, 1}] v[i] && b"), Done (Two And (Two And (Signal 3) (Signal 4)) (Signal 1))) ∷
    -- `(+)[..] A (+) B` is `((+)[..] A) (+) B`
    (line (ascii "|(+)[i IN {}] {i} (+) {7}| == 1"), Done True) ∷
    -- `(+)[..] {i} (\) B` is `((+)[..] {i}) (\) B`
    (line (ascii "|(+)[i IN {1, 2}] {i} (\\) {1}| == 1; |(+)[i IN {}] {i} (+) {1} (\\) {2}| == 1"), Done (Two And True True)) ∷
    -- a comparison is tighter, and belongs to the body
    (line (ascii "&&[i IN {1, 2}] i == 1"), Done (Two And True False)) ∷
    []

guarantees-met : map (λ c. guaranteed c.0) guarantees ≡ map (λ c. c.1) guarantees
unfolding text_expansion parsed spec_expansion ◌>>=◌ guard refuse_at count size
guarantees-met = refl

-- Table 1 of document 001: every operator under each of its names, its level and its side.
use Rattle.std.specs.Prelude.{ℕ, [], ◌∷◌, List, map, ◌≡◌, refl}
use Rattle.node.specs.Ltl.{True, False, Signal, One, Two, Not, X, G, F, And, Or, Implies, Iff, U, R, W, Formula}
use Rattle.node.specs.Postorder.{size}
use Rattle.node.specs.Result.{Done, ◌>>=◌, guard, Result}
use Rattle.node.specs.Written.{count}
use Rattle.language.specs.Bytes.{ascii}
use Rattle.language.specs.Places.{refuse_at}
use Rattle.language.specs.Parsing.{parsed}
use Rattle.language.specs.Reading.{text_expansion, spec_expansion}
use Rattle.language.proofs.Cases.{line, guaranteed, all_of}

-- texts, and what each one's GUARANTEE comes to
abbrev guarantees : List (List ℕ × Result Formula)
guarantees =
    -- `==`, `EQ` of 1, 2 and 3 with 2
    (line (ascii "1 == 2; 2 == 2; 3 == 2; 1 EQ 2; 2 EQ 2; 3 EQ 2"), Done (all_of (False ∷ True ∷ False ∷ False ∷ True ∷ False ∷ []))) ∷
    -- `!=`, `/=`, `NEQ` of 1, 2 and 3 with 2
    (line (ascii "1 != 2; 2 != 2; 3 != 2; 1 /= 2; 2 /= 2; 3 /= 2; 1 NEQ 2; 2 NEQ 2; 3 NEQ 2"), Done (all_of (True ∷ False ∷ True ∷ True ∷ False ∷ True ∷ True ∷ False ∷ True ∷ []))) ∷
    -- LE is "smaller"
    (line (ascii "1 < 2; 2 < 2; 3 < 2; 1 LE 2; 2 LE 2; 3 LE 2"), Done (all_of (True ∷ False ∷ False ∷ True ∷ False ∷ False ∷ []))) ∷
    -- LEQ is "at most"
    (line (ascii "1 <= 2; 2 <= 2; 3 <= 2; 1 LEQ 2; 2 LEQ 2; 3 LEQ 2"), Done (all_of (True ∷ True ∷ False ∷ True ∷ True ∷ False ∷ []))) ∷
    -- `>`, `GE` of 1, 2 and 3 with 2
    (line (ascii "1 > 2; 2 > 2; 3 > 2; 1 GE 2; 2 GE 2; 3 GE 2"), Done (all_of (False ∷ False ∷ True ∷ False ∷ False ∷ True ∷ []))) ∷
    -- 'GEQ is read like the printed GEG'
    (line (ascii "1 >= 2; 2 >= 2; 3 >= 2; 1 GEG 2; 2 GEG 2; 3 GEG 2; 1 GEQ 2; 2 GEQ 2; 3 GEQ 2"), Done (all_of (False ∷ True ∷ True ∷ False ∷ True ∷ True ∷ False ∷ True ∷ True ∷ []))) ∷
    -- member
    (line (ascii "1 IN {1}; 2 IN {1}; 1 ELEM {1}; 2 ELEM {1}; 1 <- {1}; 2 <- {1}"), Done (all_of (True ∷ False ∷ True ∷ False ∷ True ∷ False ∷ []))) ∷
    -- arithmetic
    (
      line (ascii "7 * 2 == 14; 7 MUL 2 == 14; 7 / 2 == 3; 7 DIV 2 == 3; 7 % 4 == 3; 7 MOD 4 == 3; 7 + 2 == 9; 7 PLUS 2 == 9; 7 - 2 == 5; 7 MINUS 2 == 5"),
      Done (all_of (True ∷ True ∷ True ∷ True ∷ True ∷ True ∷ True ∷ True ∷ True ∷ True ∷ [])),
    ) ∷
    -- measures
    (
      line (ascii "|{2, 5}| == 2; SIZE {2, 5} == 2; MIN {5, 2} == 2; MAX {2, 5} == 5; SIZEOF v == 3; +[i IN {2, 5}] i == 7; *[i IN {2, 5}] i == 10"),
      Done (all_of (True ∷ True ∷ True ∷ True ∷ True ∷ True ∷ True ∷ [])),
    ) ∷
    -- set operators
    (
      line (ascii "MIN ({1, 2} (\\) {1}) == 2; MIN ({1, 2} (-) {1}) == 2; MIN ({1, 2} SETMINUS {1}) == 2; MIN ({1, 2} (*) {2, 3}) == 2; MIN ({1, 2} CAP {2, 3}) == 2; MIN ({1, 2} (+) {0}) == 0; MIN ({1, 2} CUP {0}) == 0"),
      Done (all_of (True ∷ True ∷ True ∷ True ∷ True ∷ True ∷ True ∷ [])),
    ) ∷
    -- connectives
    (
      line (ascii "!a; NOT a; a && b; a AND b; a || b; a OR b; a -> b; a IMPLIES b; a <-> b; a EQUIV b"),
      Done (all_of (One Not (Signal 0) ∷ One Not (Signal 0) ∷ Two And (Signal 0) (Signal 1) ∷ Two And (Signal 0) (Signal 1) ∷ Two Or (Signal 0) (Signal 1) ∷ Two Or (Signal 0) (Signal 1) ∷ Two Implies
          (Signal 0) (Signal 1) ∷ Two Implies (Signal 0) (Signal 1) ∷ Two Iff (Signal 0) (Signal 1) ∷ Two Iff (Signal 0) (Signal 1) ∷ [])),
    ) ∷
    -- temporal
    (
      line (ascii "X a; F a; G a; a U b; a R b; a W b; true; false"),
      Done (all_of (One X (Signal 0) ∷ One F (Signal 0) ∷ One G (Signal 0) ∷ Two U (Signal 0) (Signal 1) ∷ Two R (Signal 0) (Signal 1) ∷ Two W (Signal 0) (Signal 1) ∷ True ∷ False ∷ [])),
    ) ∷
    -- right to left: `/`, `%`, `(\)`
    (line (ascii "8/4/2 == 4; 7 % 5 % 3 == 1; 8 / 7 % 4 == 2; |{1, 2} (\\) {1} (\\) {1}| == 2"), Done (all_of (True ∷ True ∷ True ∷ True ∷ []))) ∷
    -- left to right: `+`, `-`, `*`
    (line (ascii "10-3-2 == 5; 10 - 3 + 2 == 9; 2 * 3 * 4 == 24"), Done (all_of (True ∷ True ∷ True ∷ []))) ∷
    -- `*` before `/` and `%`, these before `+` and `-`
    (line (ascii "6/2*3 == 1; 1 + 6 / 3 == 3; 2 + 3 * 4 == 14; 9 - 6 / 3 * 2 == 8"), Done (all_of (True ∷ True ∷ True ∷ True ∷ []))) ∷
    -- `(\)` before `(*)`, that before `(+)`
    (line (ascii "|{1, 2} (\\) {1} (*) {1}| == 0; |{1} (+) {2} (*) {3}| == 1; |{1} (+) {2} (\\) {1, 2}| == 1"), Done (all_of (True ∷ True ∷ True ∷ []))) ∷
    -- the sides of the connectives: R goes left to right, U and W right to left
    (
      line (ascii "a -> b -> c; a <-> b <-> c; a -> b <-> c; a <-> b -> c; a U b U c; a W b W c; a R b R c; a && b && c; a || b || c"),
      Done (all_of (Two Implies (Signal 0) (Two Implies (Signal 1) (Signal 2)) ∷ Two Iff (Signal 0) (Two Iff (Signal 1) (Signal 2)) ∷ Two Implies (Signal 0) (Two Iff (Signal 1) (Signal 2)) ∷ Two Iff
          (Signal 0) (Two Implies (Signal 1) (Signal 2)) ∷ Two U (Signal 0) (Two U (Signal 1) (Signal 2)) ∷ Two W (Signal 0) (Two W (Signal 1) (Signal 2)) ∷ Two R (Two R (Signal 0) (Signal 1))
          (Signal 2) ∷ Two And (Two And (Signal 0) (Signal 1)) (Signal 2) ∷ Two Or (Two Or (Signal 0) (Signal 1)) (Signal 2) ∷ [])),
    ) ∷
    -- the levels: `&&`, `||`, `->`, W, U, R
    (
      line (ascii "a || b && c; a && b || c; a -> b || c; a W b -> c; a U b W c; a W b U c; a R b U c; a U b R c"),
      Done (all_of (Two Or (Signal 0) (Two And (Signal 1) (Signal 2)) ∷ Two Or (Two And (Signal 0) (Signal 1)) (Signal 2) ∷ Two Implies (Signal 0) (Two Or (Signal 1) (Signal 2)) ∷ Two W (Signal 0)
          (Two Implies (Signal 1) (Signal 2)) ∷ Two U (Signal 0) (Two W (Signal 1) (Signal 2)) ∷ Two U (Two W (Signal 0) (Signal 1)) (Signal 2) ∷ Two R (Signal 0) (Two U (Signal 1) (Signal 2)) ∷ Two
          R (Two U (Signal 0) (Signal 1)) (Signal 2) ∷ [])),
    ) ∷
    -- a prefix operator takes what is as tight as itself
    (
      line (ascii "!a && b; X a U b; G a -> F b; ! 1 == 2; ! 1 IN {1} && a; X ! F a; G F a || b"),
      Done (all_of (Two And (One Not (Signal 0)) (Signal 1) ∷ Two U (One X (Signal 0)) (Signal 1) ∷ Two Implies (One G (Signal 0)) (One F (Signal 1)) ∷ One Not False ∷ Two And (One Not True)
          (Signal 0) ∷ One X (One Not (One F (Signal 0))) ∷ Two Or (One G (One F (Signal 0))) (Signal 1) ∷ [])),
    ) ∷
    -- parentheses make no node
    (
      line (ascii "(a -> b) -> c; a && (b || c); ((a)); (8/4)/2 == 1; 6/(2*3) == 1; 10-(3-2) == 9; a R (b R c); (a U b) U c"),
      Done (all_of (Two Implies (Two Implies (Signal 0) (Signal 1)) (Signal 2) ∷ Two And (Signal 0) (Two Or (Signal 1) (Signal 2)) ∷ Signal 0 ∷ True ∷ True ∷ True ∷ Two R (Signal 0)
          (Two R (Signal 1) (Signal 2)) ∷ Two U (Two U (Signal 0) (Signal 1)) (Signal 2) ∷ [])),
    ) ∷
    []

guarantees-met : map (λ c. guaranteed c.0) guarantees ≡ map (λ c. c.1) guarantees
unfolding text_expansion parsed spec_expansion ◌>>=◌ guard refuse_at count size
guarantees-met = refl

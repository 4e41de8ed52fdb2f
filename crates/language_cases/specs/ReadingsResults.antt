-- Readings of document 01 on what an accepted text gives, E8: implied lines, signal lists, strict texts.
use Rattle.std.specs.Prelude.{ℕ, [], ◌∷◌, ◌++◌, List, map, ◌≡◌, refl, drop, replicate}
use Rattle.node.specs.Ltl.{True, False, Signal, One, Two, Not, And, Or, Iff, U, Formula}
use Rattle.node.specs.Postorder.{size, nodes_from}
use Rattle.node.specs.Result.{Done, Refused, ◌>>=◌, guard, Result}
use Rattle.node.specs.Written.{nodes_of, count}
use Rattle.language.specs.Bytes.{ascii}
use Rattle.language.specs.Places.{refuse_at}
use Rattle.language.specs.Parsing.{parsed}
use Rattle.language.specs.Reading.{text_expansion, spec_expansion, nodes_after, signals_after}
use Rattle.language.proofs.Cases.{text, line, typed, outcome, guaranteed, formula, signals, entry, all_of, standard, strict}
use Rattle.node.specs.Fields.{pack}

-- texts, and the signal list of each
abbrev lists : List (List ℕ × Result (List ℕ))
lists =
    -- E8: the offset is that of the bus's own name
    (
      typed (ascii "a"),
      Done (entry 0 140 0 0 ∷ entry 0 143 0 3 ∷ entry 0 143 1 3 ∷ entry 0 143 2 3 ∷ entry 0 149 0 2 ∷ entry 0 149 1 2 ∷ entry 1 169 0 3 ∷ entry 1 169 1 3 ∷ entry 1 169 2 3 ∷ []),
    ) ∷
    -- inputs number first even if OUTPUTS stands first; a bus of width 1 has index 0 and width 1, a single signal 0 and 0
    (
      text (ascii "MAIN { OUTPUTS { o; } INPUTS { b[1]; c[2]; s; } }"),
      Done (entry 0 99 0 1 ∷ entry 0 105 0 2 ∷ entry 0 105 1 2 ∷ entry 0 111 0 0 ∷ entry 1 85 0 0 ∷ []),
    ) ∷
    []

lists-met : map (λ c. signals c.0) lists ≡ map (λ c. c.1) lists
unfolding text_expansion parsed spec_expansion ◌>>=◌ guard refuse_at count size
lists-met = refl

-- texts, and what each comes to: its nodes and signals, or its refusal
abbrev outcomes : List (List ℕ × Result (ℕ × ℕ))
outcomes =
    -- a star matches both marks
    (text (ascii "GLOBAL { DEFINITIONS { enum e = A: 0*, ** B: 11; } } MAIN { INPUTS { } OUTPUTS { } }"), Refused 10 113) ∷
    []

outcomes-met : map (λ c. outcome c.0) outcomes ≡ map (λ c. c.1) outcomes
unfolding text_expansion parsed spec_expansion ◌>>=◌ guard refuse_at count size
outcomes-met = refl

-- texts, and the whole formula of each
abbrev formulas : List (List ℕ × Result Formula)
formulas =
    -- E8: an implied line is one flat `||` over all words of the enumeration in text order
    (
      typed (ascii "a"),
      Done (standard True True True (Two Or (Two Or (Two And (Signal 6) (One Not (Signal 8))) (One Not (Signal 6))) (Two And (Two And (Signal 6) (Signal 7)) (Signal 8))) True (Signal 0)),
    ) ∷
    -- 'to REQUIRE for inputs, to ASSERT for outputs, after the written lines, in signal order'
    (
      text (ascii "GLOBAL { DEFINITIONS { enum e = A: 0; enum f = B: 1*; } } MAIN { REQUIRE { a; } OUTPUTS { f z; } ASSERT { a; } INPUTS { a; f y; e x; } }"),
      Done (standard True True (all_of (Signal 0 ∷ Signal 1 ∷ One Not (Signal 3) ∷ [])) (Two And (Signal 0) (Signal 4)) True True),
    ) ∷
    -- strict writes R twice, under `!` and under G, and A once
    (
      ascii "INFO { TITLE: \"t\" DESCRIPTION: \"d\" SEMANTICS: Mealy, Strict TARGET: Mealy } GLOBAL { DEFINITIONS { enum e = A: 0; enum f = B: 1*; } } MAIN { REQUIRE { a; } OUTPUTS { f z; } ASSERT { a; } INPUTS { a; f y; e x; } }",
      Done (strict True True (all_of (Signal 0 ∷ Signal 1 ∷ One Not (Signal 3) ∷ [])) (Two And (Signal 0) (Signal 4)) True True),
    ) ∷
    -- only an enumeration that leaves some word unnamed adds a line
    (
      text (ascii "GLOBAL { DEFINITIONS { enum e = A: 00 B: 1*, 01; enum f = C: 00 D: 11; } } MAIN { INPUTS { e x; f y; } OUTPUTS { e z; } }"),
      Done (standard True True (Two Or (Two And (One Not (Signal 2)) (One Not (Signal 3))) (Two And (Signal 2) (Signal 3))) True True True),
    ) ∷
    -- '(all stars: true)', which stays `true` inside an `||`
    (
      text (ascii "GLOBAL { DEFINITIONS { enum e = A: 0*, **; enum f = B: *; } } MAIN { INPUTS { e x; f y; } OUTPUTS { } GUARANTEE { x == A; y == B; y != B; } }"),
      Done (standard True True True True True (all_of (Two Or (One Not (Signal 0)) True ∷ True ∷ One Not True ∷ []))),
    ) ∷
    -- its `000` is unnamed (footnote 4), so an output of it adds a line to ASSERT
    (
      text (ascii "GLOBAL { DEFINITIONS { enum Position = LEFT: 100 MIDDLE: 010 RIGHT: 001 UNDEF: 11*, 1*1, *11; } } MAIN { INPUTS { } OUTPUTS { Position b; } }"),
      Done (standard True True True (Two Or (Two Or (Two Or (Two Or
          (Two Or (all_of (Signal 0 ∷ One Not (Signal 1) ∷ One Not (Signal 2) ∷ [])) (all_of (One Not (Signal 0) ∷ Signal 1 ∷ One Not (Signal 2) ∷ [])))
          (all_of (One Not (Signal 0) ∷ One Not (Signal 1) ∷ Signal 2 ∷ []))) (Two And (Signal 0) (Signal 1))) (Two And (Signal 0) (Signal 2))) (Two And (Signal 1) (Signal 2))) True True),
    ) ∷
    -- 'A section is its lines folded with `&&`; without lines, true'; nothing simplified
    (
      text (ascii "MAIN { INPUTS { a; b; c; } OUTPUTS { } ASSUME { a; b; c; } INITIALLY { true } PRESET { false; } }"),
      Done (standard True False True True (Two And (Two And (Signal 0) (Signal 1)) (Signal 2)) True),
    ) ∷
    []

formulas-met : map (λ c. formula c.0) formulas ≡ map (λ c. c.1) formulas
unfolding text_expansion parsed spec_expansion ◌>>=◌ guard refuse_at count size
formulas-met = refl

-- texts, and what each one's GUARANTEE comes to
abbrev guarantees : List (List ℕ × Result Formula)
guarantees =
    -- a star mark is not read as 0
    (typed (ascii "x == P"), Done (Two And (Signal 6) (One Not (Signal 8)))) ∷
    -- document 001's Position
    (
      text (ascii "GLOBAL { DEFINITIONS { enum Position = LEFT: 100 MIDDLE: 010 RIGHT: 001 UNDEF: 11*, 1*1, *11; } } MAIN { INPUTS { b[3]; } OUTPUTS { } GUARANTEE { b == RIGHT; b != UNDEF; } }"),
      Done (Two And (Two And (Two And (One Not (Signal 0)) (One Not (Signal 1))) (Signal 2))
          (One Not (Two Or (Two Or (Two And (Signal 0) (Signal 1)) (Two And (Signal 0) (Signal 2))) (Two And (Signal 1) (Signal 2))))),
    ) ∷
    -- 'a definition means what its body does'; nothing shared
    (
      text (ascii "GLOBAL { DEFINITIONS { d = a U b; } } MAIN { INPUTS { a; b; } OUTPUTS { } GUARANTEE { d <-> !!d; true && d; } }"),
      Done (Two And (Two Iff (Two U (Signal 0) (Signal 1)) (One Not (One Not (Two U (Signal 0) (Signal 1))))) (Two And True (Two U (Signal 0) (Signal 1)))),
    ) ∷
    -- document 001, 4.8: the two are the same
    (
      text (ascii "GLOBAL { PARAMETERS { n = 3; } } MAIN { INPUTS { b[n]; } OUTPUTS { } GUARANTEE { &&[0 <= i < n] b[i]; &&[i IN {0,1..n-1}] b[i]; } }"),
      Done (Two And (Two And (Two And (Signal 0) (Signal 1)) (Signal 2)) (Two And (Two And (Signal 0) (Signal 1)) (Signal 2))),
    ) ∷
    -- document 001's mutual exclusion, with its argument in place
    (
      text (ascii "MAIN { INPUTS { b[2]; } OUTPUTS { } GUARANTEE { ||[i IN {0, 1 .. (SIZEOF b) - 1}] &&[j IN {0, 1 .. (SIZEOF b) - 1} (\\) {i}] !(b[i] && b[j]); } }"),
      Done (Two Or (One Not (Two And (Signal 0) (Signal 1))) (One Not (Two And (Signal 1) (Signal 0)))),
    ) ∷
    -- a definition's body does not see the names where it is used
    (
      text (ascii "GLOBAL { DEFINITIONS { d = &&[i IN {0, 1}] v[i]; n = +[i IN {1, 2}] i; } } MAIN { INPUTS { v[3]; } OUTPUTS { } GUARANTEE { &&[i IN {1, 2}] (d && v[i] && n == 3); } }"),
      Done (Two And (all_of (Two And (Signal 0) (Signal 1) ∷ Signal 1 ∷ True ∷ [])) (all_of (Two And (Signal 0) (Signal 1) ∷ Signal 2 ∷ True ∷ []))),
    ) ∷
    -- 'set elements ascending'
    (
      line (ascii "&&[i IN {2, 0, 2}] v[i]; ||[i IN {2} (+) {1} (+) {0}] v[i]; ||[i IN {0, 1 .. 2} (\\) {1}] v[i]"),
      Done (all_of (Two And (Signal 3) (Signal 5) ∷ Two Or (Two Or (Signal 3) (Signal 4)) (Signal 5) ∷ Two Or (Signal 3) (Signal 5) ∷ [])),
    ) ∷
    []

guarantees-met : map (λ c. guaranteed c.0) guarantees ≡ map (λ c. c.1) guarantees
unfolding text_expansion parsed spec_expansion ◌>>=◌ guard refuse_at count size
guarantees-met = refl

-- result buffers after a call, and what stands there
abbrev results : List (List ℕ × List ℕ)
results =
    -- 'entries past an accepted result are unchanged'
    (drop 12 (nodes_after (text_expansion (text (ascii "MAIN { INPUTS { } OUTPUTS { } }"))) (replicate 15 7)), pack 6 0 11 ∷ 7 ∷ 7 ∷ []) ∷
    -- a refused call changes none
    (nodes_after (text_expansion []) (7 ∷ []) ++ signals_after (text_expansion []) (8 ∷ []), 7 ∷ 8 ∷ []) ∷
    []

results-met : map (λ c. c.0) results ≡ map (λ c. c.1) results
unfolding text_expansion parsed spec_expansion ◌>>=◌ guard refuse_at count size nodes_of nodes_from
results-met = refl

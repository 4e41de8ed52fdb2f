-- Texts that state one model and target the other (document 02, F-2): which signals get an X, where it stands, and what counts it.
use Rattle.std.specs.Prelude.{ℕ, List, [], ◌∷◌, ◌++◌, map, ◌≡◌, refl}
use Rattle.node.specs.Fields.{pack}
use Rattle.node.specs.Ltl.{True, Signal, One, Two, Not, X, And, Or, Formula}
use Rattle.node.specs.Postorder.{size, nodes_from}
use Rattle.node.specs.Result.{Result, Done, Refused, ◌>>=◌, guard}
use Rattle.node.specs.Written.{nodes_of, count}
use Rattle.language.specs.Bytes.{ascii}
use Rattle.language.specs.Places.{refuse_at}
use Rattle.language.specs.Parsing.{parsed}
use Rattle.language.specs.Reading.{text_expansion, spec_expansion}
use Rattle.language.proofs.Cases.{outcome, formula, guaranteed, signals, entry, standard, strict}

-- GLOBAL and MAIN behind the INFO section of document 01's file, with the models exchanged
abbrev to_mealy : List ℕ → List ℕ
to_mealy s = ascii "INFO { TITLE: \"t\" DESCRIPTION: \"d\" SEMANTICS: Moore TARGET: Mealy } " ++ s

abbrev to_moore : List ℕ → List ℕ
to_moore s = ascii "INFO { TITLE: \"t\" DESCRIPTION: \"d\" SEMANTICS: Mealy TARGET: Moore } " ++ s

-- lines of GUARANTEE, where a is the input 0, g the output 1
abbrev main : List ℕ → List ℕ
main s = ascii "MAIN { INPUTS { a; } OUTPUTS { g; } GUARANTEE { " ++ s ++ ascii " } }"

-- .. where the bits of the input bus v are 0, 1, 2, those of the output bus x 3, 4, 5, both declared by the enumeration e
abbrev buses : List ℕ → List ℕ
buses s = ascii "GLOBAL { DEFINITIONS { enum e = P: 1*0 Q: 0**; } } MAIN { INPUTS { e v; } OUTPUTS { e x; } GUARANTEE { " ++ s ++ ascii " } }"

-- document 01's file
abbrev file : List ℕ
file = ascii "MAIN { INPUTS { r; } OUTPUTS { g; } GUARANTEE { G (r -> F g); } }"

abbrev nodes : List ℕ → Result (List ℕ)
nodes s = text_expansion s >>= λ c. Done (nodes_of c.formula)

abbrev rows : List (ℕ × ℕ × ℕ) → List ℕ
rows l = map (λ r. pack r.0 r.1 r.2) l

-- texts, and the nodes of each
abbrev node_lists : List (List ℕ × Result (List ℕ))
node_lists =
    -- 'From Moore to Mealy each input node gets an X above it'
    (
      to_mealy file,
      Done (rows ((0, 0, 0) ∷ (0, 0, 0) ∷ (0, 0, 0) ∷ (9, 2, 0) ∷ (0, 0, 0) ∷ (4, 3, 4) ∷ (0, 0, 0) ∷ (9, 6, 0) ∷ (2, 0, 0) ∷ (8, 8, 0) ∷ (2, 1, 0) ∷ (10, 10, 0) ∷
          (6, 9, 11) ∷ (9, 12, 0) ∷ (4, 7, 13) ∷ (6, 5, 14) ∷ (4, 1, 15) ∷ (6, 0, 16) ∷ [])),
    ) ∷
    -- 'from Mealy to Moore each output node does'
    (
      to_moore file,
      Done (rows ((0, 0, 0) ∷ (0, 0, 0) ∷ (0, 0, 0) ∷ (9, 2, 0) ∷ (0, 0, 0) ∷ (4, 3, 4) ∷ (0, 0, 0) ∷ (9, 6, 0) ∷ (2, 0, 0) ∷ (2, 1, 0) ∷ (8, 9, 0) ∷ (10, 10, 0) ∷
          (6, 8, 11) ∷ (9, 12, 0) ∷ (4, 7, 13) ∷ (6, 5, 14) ∷ (4, 1, 15) ∷ (6, 0, 16) ∷ [])),
    ) ∷
    []

node_lists-met : map (λ c. nodes c.0) node_lists ≡ map (λ c. c.1) node_lists
unfolding text_expansion parsed spec_expansion ◌>>=◌ guard refuse_at count size nodes_of nodes_from
node_lists-met = refl

-- texts, and the signal list of each
abbrev lists : List (List ℕ × Result (List ℕ))
lists =
    -- it does not show the X
    (to_mealy file, Done (entry 0 84 0 0 ∷ entry 1 99 0 0 ∷ [])) ∷
    []

lists-met : map (λ c. signals c.0) lists ≡ map (λ c. c.1) lists
unfolding text_expansion parsed spec_expansion ◌>>=◌ guard refuse_at count size
lists-met = refl

-- texts, and what each one's GUARANTEE comes to
abbrev guarantees : List (List ℕ × Result Formula)
guarantees =
    -- F2.1: the X stands under a `!`
    (to_mealy (main (ascii "!a && !g")), Done (Two And (One Not (One X (Signal 0))) (One Not (Signal 1)))) ∷
    -- .. beside the text's own X, and once however many names the signal came through
    (to_mealy (ascii "GLOBAL { DEFINITIONS { d = a; e = d; } } " ++ main (ascii "e && X a")), Done (Two And (One X (Signal 0)) (One X (One X (Signal 0))))) ∷
    -- .. and in a window
    (to_moore (main (ascii "F[1:2] g")), Done (One X (Two Or (One X (Signal 1)) (One X (One X (Signal 1)))))) ∷
    []

guarantees-met : map (λ c. guaranteed c.0) guarantees ≡ map (λ c. c.1) guarantees
unfolding text_expansion parsed spec_expansion ◌>>=◌ guard refuse_at count size
guarantees-met = refl

-- texts, and the whole formula of each
abbrev formulas : List (List ℕ × Result Formula)
formulas =
    -- F2.2, F2.3: each literal of a comparison, none for a star; implied lines of the input bus in REQUIRE from Moore to Mealy ..
    (
      to_mealy (buses (ascii "v == P && x == P")),
      Done (standard True True (Two Or (Two And (One X (Signal 0)) (One Not (One X (Signal 2)))) (One Not (One X (Signal 0)))) (Two Or (Two And (Signal 3) (One Not (Signal 5))) (One Not (Signal 3)))
          True (Two And (Two And (One X (Signal 0)) (One Not (One X (Signal 2)))) (Two And (Signal 3) (One Not (Signal 5))))),
    ) ∷
    -- .. of the output bus in ASSERT from Mealy to Moore
    (
      to_moore (buses (ascii "v != Q && x[1]")),
      Done (standard True True (Two Or (Two And (Signal 0) (One Not (Signal 2))) (One Not (Signal 0))) (Two Or (Two And (One X (Signal 3)) (One Not (One X (Signal 5)))) (One Not (One X (Signal 3))))
          True (Two And (One Not (One Not (Signal 0))) (One X (Signal 4)))),
    ) ∷
    -- F2.5: a strict text keeps the strict formula; every section is treated
    (
      ascii "INFO { TITLE: \"t\" DESCRIPTION: \"d\" SEMANTICS: Moore, Strict TARGET: Mealy } MAIN { INPUTS { a; } OUTPUTS { g; } INITIALLY { a } PRESET { a } REQUIRE { a } ASSERT { a } ASSUME { a } GUARANTEE { g } }",
      Done (let late = One X (Signal 0) in strict late late late late late (Signal 1)),
    ) ∷
    []

formulas-met : map (λ c. formula c.0) formulas ≡ map (λ c. c.1) formulas
unfolding text_expansion parsed spec_expansion ◌>>=◌ guard refuse_at count size
formulas-met = refl

-- texts, and what each comes to: its nodes and signals, or its refusal
abbrev outcomes : List (List ℕ × Result (ℕ × ℕ))
outcomes =
    -- F2.4: 16 counts the X nodes: 8,192 pass, and X[8179] a is too large by the one that converts it
    (to_mealy (main (ascii "X[8178] a")), Done (8192, 2)) ∷
    -- one shifted more
    (to_mealy (main (ascii "X[8179] a")), Refused 16 0) ∷
    -- not shifted
    (to_moore (main (ascii "X[8179] a")), Done (8192, 2)) ∷
    -- 15 as before, and before 16
    (to_mealy (ascii "MAIN { INPUTS { a[200]; b[56]; } OUTPUTS { } GUARANTEE { X[8192] a[0]; } }"), Refused 15 92) ∷
    -- an accepted text with no signal has nothing to convert
    (to_mealy (ascii "MAIN { INPUTS { } OUTPUTS { } }"), Done (13, 0)) ∷
    []

outcomes-met : map (λ c. outcome c.0) outcomes ≡ map (λ c. c.1) outcomes
unfolding text_expansion parsed spec_expansion ◌>>=◌ guard refuse_at count size
outcomes-met = refl

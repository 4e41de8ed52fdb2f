-- Document 001's components without functions, with what the print lost restored: how many nodes and signals each has.
use Rattle.std.specs.Prelude.{ℕ, List, [], ◌∷◌, ◌++◌, map, ◌≡◌, refl}
use Prim.Native.String.{String}
use Rattle.node.specs.Ltl.{True, Signal, One, Two, Not, X, And, Or, Implies, Iff, Formula}
use Rattle.node.specs.Postorder.{size}
use Rattle.node.specs.Result.{Done, Refused, ◌>>=◌, guard, Result}
use Rattle.node.specs.Written.{count}
use Rattle.language.specs.Bytes.{ascii}
use Rattle.language.specs.Places.{refuse_at}
use Rattle.language.specs.Parsing.{parsed}
use Rattle.language.specs.Reading.{text_expansion, spec_expansion}
use Rattle.language.proofs.Cases.{outcome, formula, all_of, standard}

-- lines, with a line feed behind each
abbrev lined : List String → List ℕ
lined [] = []
lined (l ∷ ls) = ascii l ++ (10 ∷ lined ls)

-- DECODE (Figure 1); the word of Incr is lost in print: `01` stands for it here. `11` stays unnamed, so REQUIRE has an implied line
abbrev decode : List ℕ
decode =
    lined (
    "INFO {" ∷
    "  TITLE: \"AMBA AHB Arbiter\"" ∷
    "  DESCRIPTION: \"Component: Decode\"" ∷
    "  SEMANTICS: Mealy" ∷
    "  TARGET: Mealy" ∷
    "}" ∷
    "GLOBAL {" ∷
    "  DEFINITIONS {" ∷
    "    enum hburst =" ∷
    "      Single: 00" ∷
    "      Burst4: 10" ∷
    "      Incr:   01" ∷
    "  }" ∷
    "}" ∷
    "MAIN {" ∷
    "  INPUTS { hburst HBURST; }" ∷
    "  OUTPUTS { SINGLE; BURST4; INCR; }" ∷
    "  ASSERT {" ∷
    "    HBURST == Single -> SINGLE;" ∷
    "    HBURST == Burst4 -> BURST4;" ∷
    "    HBURST == Incr -> INCR;" ∷
    "    !(SINGLE && (BURST4 || INCR)) && !(BURST4 && INCR);" ∷
    "  }" ∷
    "}" ∷
    [])

-- Shift
abbrev shift : List ℕ
shift =
    lined (
    "INFO {" ∷
    "  TITLE: \"AMBA AHB Arbiter\"" ∷
    "  DESCRIPTION: \"Component: Shift\"" ∷
    "  SEMANTICS: Mealy" ∷
    "  TARGET: Mealy" ∷
    "}" ∷
    "MAIN {" ∷
    "  INPUTS { HREADY; LOCKED; }" ∷
    "  OUTPUTS { HMASTLOCK; }" ∷
    "  ASSERT {" ∷
    "    // if HREADY is high, the component copies LOCKED to HMASTLOCK, shifted by one time step" ∷
    "    HREADY -> (X HMASTLOCK <-> LOCKED);" ∷
    "    // if HREADY is low, the old value of HMASTLOCK is copied" ∷
    "    !HREADY -> (X HMASTLOCK <-> HMASTLOCK);" ∷
    "  }" ∷
    "}" ∷
    [])

-- texts, and the whole formula of each
abbrev formulas : List (List ℕ × Result Formula)
formulas =
    -- decode formula
    (
      decode,
      Done (standard True True (Two Or (Two Or (Two And (One Not (Signal 0)) (One Not (Signal 1))) (Two And (Signal 0) (One Not (Signal 1)))) (Two And (One Not (Signal 0)) (Signal 1)))
          (all_of (Two Implies (Two And (One Not (Signal 0)) (One Not (Signal 1))) (Signal 2) ∷ Two Implies (Two And (Signal 0) (One Not (Signal 1))) (Signal 3) ∷ Two Implies
          (Two And (One Not (Signal 0)) (Signal 1)) (Signal 4) ∷ Two And (One Not (Two And (Signal 2) (Two Or (Signal 3) (Signal 4)))) (One Not (Two And (Signal 3) (Signal 4))) ∷ [])) True True),
    ) ∷
    -- shift formula
    (
      shift,
      Done (standard True True True (Two And (Two Implies (Signal 0) (Two Iff (One X (Signal 2)) (Signal 1))) (Two Implies (One Not (Signal 0)) (Two Iff (One X (Signal 2)) (Signal 2)))) True True),
    ) ∷
    []

formulas-met : map (λ c. formula c.0) formulas ≡ map (λ c. c.1) formulas
unfolding text_expansion parsed spec_expansion ◌>>=◌ guard refuse_at count size
formulas-met = refl

-- TSingle; its line of ASSUME has no `;`
abbrev tsingle : List ℕ
tsingle =
    lined (
    "INFO {" ∷
    "  TITLE: \"AMBA AHB Arbiter\"" ∷
    "  DESCRIPTION: \"Component: TSingle\"" ∷
    "  SEMANTICS: Mealy" ∷
    "  TARGET: Mealy" ∷
    "}" ∷
    "MAIN {" ∷
    "  INPUTS { SINGLE; HREADY; LOCKED; DECIDE; }" ∷
    "  OUTPUTS { READY3; }" ∷
    "  INITIALLY {" ∷
    "    // initially no decision is taken" ∷
    "    !DECIDE;" ∷
    "  }" ∷
    "  PRESET {" ∷
    "    // at startup, the component is ready" ∷
    "    READY3;" ∷
    "  }" ∷
    "  REQUIRE {" ∷
    "    // decisions are only taken if the component is ready" ∷
    "    !READY3 -> X !DECIDE;" ∷
    "  }" ∷
    "  ASSUME {" ∷
    "    // a slave cannot block the bus" ∷
    "    G F HREADY" ∷
    "  }" ∷
    "  ASSERT {" ∷
    "    // for each single, locked transmission, the bus is locked for one time step" ∷
    "    DECIDE ->" ∷
    "      X[2] (((SINGLE && LOCKED) -> (!READY3 U (HREADY && !READY3 && X READY3))) &&" ∷
    "             (!(SINGLE && LOCKED) -> READY3));" ∷
    "    // the component stays ready as long as there is no decision" ∷
    "    READY3 && X !DECIDE -> X READY3;" ∷
    "    // if there is a decision the component blocks the bus for at least two time steps" ∷
    "    READY3 && X DECIDE -> G[1:2] ! READY3;" ∷
    "  }" ∷
    "}" ∷
    [])

-- TBurst4; the end of its long line is lost in print, and restored after TSingle's
abbrev tburst4 : List ℕ
tburst4 =
    lined (
    "INFO {" ∷
    "  TITLE: \"AMBA AHB Arbiter\"" ∷
    "  DESCRIPTION: \"Component: TBurst4\"" ∷
    "  SEMANTICS: Mealy" ∷
    "  TARGET: Mealy" ∷
    "}" ∷
    "MAIN {" ∷
    "  INPUTS { BURST4; HREADY; LOCKED; DECIDE; }" ∷
    "  OUTPUTS { READY2; }" ∷
    "  INITIALLY {" ∷
    "    !DECIDE;" ∷
    "  }" ∷
    "  PRESET {" ∷
    "    READY2;" ∷
    "  }" ∷
    "  REQUIRE {" ∷
    "    // decisions are only taken if the component is ready" ∷
    "    !READY2 -> X !DECIDE;" ∷
    "  }" ∷
    "  ASSUME {" ∷
    "    // a slave block the bus" ∷
    "    G F HREADY;" ∷
    "  }" ∷
    "  ASSERT {" ∷
    "    // for each burst4, locked transmission, the bus is locked for four time steps" ∷
    "    DECIDE ->" ∷
    "      X[2] (((BURST4 && LOCKED) -> (!READY2 U (HREADY && !READY2 && X (!READY2 U (HREADY &&" ∷
    "             !READY2 && X (!READY2 U (HREADY && !READY2 && X (!READY2 U (HREADY &&" ∷
    "             !READY2 && X READY2))))))))) &&" ∷
    "             (!(BURST4 && LOCKED) -> READY2));" ∷
    "    // the component stays ready as long as there is no decision" ∷
    "    READY2 && X !DECIDE -> X READY2;" ∷
    "    // if there is a decision the component blocks the bus for at least two time steps" ∷
    "    READY2 && X DECIDE -> G[1:2] ! READY2;" ∷
    "  }" ∷
    "}" ∷
    [])

-- TIncr as printed: its second line of ASSERT says READY, which is not declared
abbrev tincr : String → List ℕ
tincr ready =
    lined (
    "INFO {" ∷
    "  TITLE: \"AMBA AHB Arbiter\"" ∷
    "  DESCRIPTION: \"Component: TIncr\"" ∷
    "  SEMANTICS: Mealy" ∷
    "  TARGET: Mealy" ∷
    "}" ∷
    "MAIN {" ∷
    "  INPUTS { INCR; HREADY; LOCKED; DECIDE; BUSREQ; }" ∷
    "  OUTPUTS { READY1; }" ∷
    "  INITIALLY {" ∷
    "    !DECIDE;" ∷
    "  }" ∷
    "  PRESET {" ∷
    "    READY1;" ∷
    "  }" ∷
    "  REQUIRE {" ∷
    "    // decisions are only taken if the component is ready" ∷
    "    !READY1 -> X !DECIDE;" ∷
    "  }" ∷
    "  ASSUME {" ∷
    "    // slaves and masters cannot block the bus" ∷
    "    G F HREADY && G F !BUSREQ;" ∷
    "  }" ∷
    "  ASSERT {" ∷
    "    // for each incremental, locked transmission, the bus is locked as long as requested" ∷
    "    DECIDE ->" ∷
    "      X[2] (((INCR && LOCKED) -> (!READY1 W (HREADY && !BUSREQ))) &&" ∷
    "             (!(INCR && LOCKED) -> READY1));" ∷
    "    // the component stays ready as long as there is no decision" ∷
    []) ++ ascii "    " ++ ascii ready ++
    lined (
    " && X !DECIDE -> X READY1;" ∷
    "    // if there is a decision the component blocks the bus for at least two time steps" ∷
    "    READY1 && X DECIDE -> G[1:2] ! READY1;" ∷
    "  }" ∷
    "}" ∷
    [])

-- texts, and what each comes to: its nodes and signals, or its refusal
abbrev outcomes : List (List ℕ × Result (ℕ × ℕ))
outcomes =
    -- decode is
    (decode, Done (59, 5)) ∷
    -- shift is
    (shift, Done (26, 3)) ∷
    -- tsingle is
    (tsingle, Done (67, 5)) ∷
    -- tburst 4is
    (tburst4, Done (94, 5)) ∷
    -- tincr is
    (tincr "READY", Refused 6 734) ∷
    -- TIncr with READY1 for READY
    (tincr "READY1", Done (69, 6)) ∷
    []

outcomes-met : map (λ c. outcome c.0) outcomes ≡ map (λ c. c.1) outcomes
unfolding text_expansion parsed spec_expansion ◌>>=◌ guard refuse_at count size
outcomes-met = refl

-- Readings of document 01 on sections and lines, G1 to G3 and G10 to G12.
use Rattle.std.specs.Prelude.{ℕ, [], ◌∷◌, ◌++◌, List, map, ◌≡◌, refl}
use Rattle.node.specs.Ltl.{Signal, Formula}
use Rattle.node.specs.Postorder.{size}
use Rattle.node.specs.Result.{Done, Refused, ◌>>=◌, guard, Result}
use Rattle.node.specs.Written.{count}
use Rattle.language.specs.Bytes.{ascii}
use Rattle.language.specs.Places.{refuse_at}
use Rattle.language.specs.Parsing.{parsed}
use Rattle.language.specs.Reading.{text_expansion, spec_expansion}
use Rattle.language.proofs.Cases.{text, line, outcome, formula, standard, strict}

-- texts, and the whole formula of each
abbrev formulas : List (List ℕ × Result Formula)
formulas =
    -- 'MAIN's subsections stand in any order .. the v1.0 names are read as their v1.1 ones'; I -> (P && ((G R && S) -> (G A && U)))
    (
      text (ascii "MAIN { GUARANTEES { u } OUTPUTS { s; u } ASSUMPTIONS { s } INVARIANTS { t } REQUIRE { r } PRESET { p } INPUTS { i; p; r; t } INITIALLY { i } }"),
      Done (standard (Signal 0) (Signal 1) (Signal 2) (Signal 3) (Signal 4) (Signal 5)),
    ) ∷
    -- 'Strict: I -> ((P && (A W !R)) && ((G R && S) -> U))'
    (
      ascii "INFO { TITLE: \"t\" DESCRIPTION: \"d\" SEMANTICS: Moore, Strict TARGET: Moore } MAIN { GUARANTEES { u } OUTPUTS { s; u } ASSUMPTIONS { s } INVARIANTS { t } REQUIRE { r } PRESET { p } INPUTS { i; p; r; t } INITIALLY { i } }",
      Done (strict (Signal 0) (Signal 1) (Signal 2) (Signal 3) (Signal 4) (Signal 5)),
    ) ∷
    []

formulas-met : map (λ c. formula c.0) formulas ≡ map (λ c. c.1) formulas
unfolding text_expansion parsed spec_expansion ◌>>=◌ guard refuse_at count size
formulas-met = refl

-- texts, and what each comes to: its nodes and signals, or its refusal
abbrev outcomes : List (List ℕ × Result (ℕ × ℕ))
outcomes =
    -- G1: INPUTS and OUTPUTS are required; MAIN's `}` is refused where one is missing
    (text (ascii "MAIN { INPUTS { } }"), Refused 4 86) ∷
    -- G1: a v1.0 name beside its v1.1 name is the same subsection twice
    (text (ascii "MAIN { INPUTS { } OUTPUTS { } ASSERT { } INVARIANTS { } }"), Refused 4 109) ∷
    -- old and new assume
    (text (ascii "MAIN { INPUTS { } ASSUMPTIONS { } ASSUME { } OUTPUTS { } }"), Refused 4 102) ∷
    -- old and new guarantee
    (text (ascii "MAIN { GUARANTEE { } INPUTS { } GUARANTEES { } OUTPUTS { } }"), Refused 4 100) ∷
    -- 'each at most once'
    (text (ascii "MAIN { INPUTS { } OUTPUTS { } INPUTS { } }"), Refused 4 98) ∷
    -- G2: a `;` that follows nothing is refused
    (text (ascii "MAIN { INPUTS { ; } OUTPUTS { } }"), Refused 4 84) ∷
    -- doubled semicolon
    (text (ascii "MAIN { INPUTS { a;; b } OUTPUTS { } }"), Refused 4 86) ∷
    -- G2: `;` separates
    (line (ascii "a; b c"), Refused 4 133) ∷
    -- G2: empty lists and `GLOBAL {}` are accepted
    (text (ascii "GLOBAL {} MAIN { INPUTS { } OUTPUTS { } }"), Done (13, 0)) ∷
    -- empty lists
    (text (ascii "GLOBAL { PARAMETERS { } DEFINITIONS { } } MAIN { INPUTS { } OUTPUTS { } ASSERT { } GUARANTEE { } }"), Done (13, 0)) ∷
    -- 'A last `;` may be missing'
    (text (ascii "GLOBAL { PARAMETERS { n = 2 } DEFINITIONS { m = n } } MAIN { INPUTS { a } OUTPUTS { b; c } ASSERT { a; b } }"), Done (15, 3)) ∷
    -- G2: INFO's lines have no `;`
    (ascii "INFO { TITLE: \"t\"; DESCRIPTION: \"d\" SEMANTICS: Mealy TARGET: Mealy } MAIN { INPUTS { } OUTPUTS { } }", Refused 4 17) ∷
    -- 'INFO's lines come in the printed order'
    (ascii "INFO { DESCRIPTION: \"d\" TITLE: \"t\" SEMANTICS: Mealy TARGET: Mealy } MAIN { INPUTS { } OUTPUTS { } }", Refused 4 7) ∷
    -- 'PARAMETERS stands before DEFINITIONS'
    (text (ascii "GLOBAL { DEFINITIONS { } PARAMETERS { } } MAIN { INPUTS { } OUTPUTS { } }"), Refused 4 93) ∷
    -- a target is Mealy or Moore
    (ascii "INFO { TITLE: \"t\" DESCRIPTION: \"d\" SEMANTICS: Mealy, Strict TARGET: Mealy, Strict } MAIN { INPUTS { } OUTPUTS { } }", Refused 4 73) ∷
    -- strict first
    (ascii "INFO { TITLE: \"t\" DESCRIPTION: \"d\" SEMANTICS: Strict TARGET: Mealy } MAIN { INPUTS { } OUTPUTS { } }", Refused 4 46) ∷
    -- 'a tag being a name or string'; a tag declares no name
    (ascii "INFO { TITLE: \"t\" DESCRIPTION: \"d\" SEMANTICS: Mealy TARGET: Mealy TAGS: a, \"b c\", d } MAIN { INPUTS { } OUTPUTS { } }", Done (13, 0)) ∷
    -- G3: TAGS has at least one tag
    (ascii "INFO { TITLE: \"t\" DESCRIPTION: \"d\" SEMANTICS: Mealy TARGET: Mealy TAGS: } MAIN { INPUTS { } OUTPUTS { } }", Refused 4 72) ∷
    -- G3: none at the end
    (ascii "INFO { TITLE: \"t\" DESCRIPTION: \"d\" SEMANTICS: Mealy TARGET: Mealy TAGS: a, } MAIN { INPUTS { } OUTPUTS { } }", Refused 4 75) ∷
    -- G3: commas between
    (ascii "INFO { TITLE: \"t\" DESCRIPTION: \"d\" SEMANTICS: Mealy TARGET: Mealy TAGS: a b } MAIN { INPUTS { } OUTPUTS { } }", Refused 4 74) ∷
    -- a word of the format is no tag
    (ascii "INFO { TITLE: \"t\" DESCRIPTION: \"d\" SEMANTICS: Mealy TARGET: Mealy TAGS: X } MAIN { INPUTS { } OUTPUTS { } }", Refused 4 72) ∷
    -- G10: ranges are `{x, y .. z}` only
    (line (ascii "1 IN {0 .. 3}"), Refused 4 136) ∷
    -- range of three
    (line (ascii "1 IN {0, 1, 2 .. 5}"), Refused 4 142) ∷
    -- range and more
    (line (ascii "1 IN {0, 1 .. 3, 5}"), Refused 4 143) ∷
    -- set comma
    (line (ascii "1 IN {0, }"), Refused 4 137) ∷
    -- G10: an enumeration has at least one identifier
    (text (ascii "GLOBAL { DEFINITIONS { enum e = ; } } MAIN { INPUTS { } OUTPUTS { } }"), Refused 4 100) ∷
    -- G10: each at least one word
    (text (ascii "GLOBAL { DEFINITIONS { enum e = A: ; } } MAIN { INPUTS { } OUTPUTS { } }"), Refused 4 103) ∷
    -- no word between
    (text (ascii "GLOBAL { DEFINITIONS { enum e = A: B: 0; } } MAIN { INPUTS { } OUTPUTS { } }"), Refused 4 103) ∷
    -- G10: no `;` between them
    (text (ascii "GLOBAL { DEFINITIONS { enum e = A: 0; B: 1; } } MAIN { INPUTS { } OUTPUTS { } }"), Refused 4 107) ∷
    -- G10: a comma is followed by a word
    (text (ascii "GLOBAL { DEFINITIONS { enum e = A: 0, B: 1; } } MAIN { INPUTS { } OUTPUTS { } }"), Refused 4 106) ∷
    -- G11: function declarations are refused at their `(`
    (text (ascii "GLOBAL { DEFINITIONS { f(x) = x; } } MAIN { INPUTS { } OUTPUTS { } }"), Refused 4 92) ∷
    -- G11: and calls
    (line (ascii "a(b)"), Refused 4 129) ∷
    -- G11: `a(*)` holds no token `(`: what follows is refused
    (line (ascii "a(*);"), Refused 4 132) ∷
    -- star declared
    (text (ascii "GLOBAL { DEFINITIONS { f(*) = 1; } } MAIN { INPUTS { } OUTPUTS { } }"), Refused 4 92) ∷
    -- '`~` and `:`, which are tokens but no operators'
    (line (ascii "a ~ b"), Refused 4 130) ∷
    -- guarded
    (line (ascii "true : a"), Refused 4 133) ∷
    -- G11: `otherwise` is refused where it stands
    (line (ascii "otherwise"), Refused 4 128) ∷
    -- G12: text after MAIN's `}` is refused at its first token
    (text (ascii "MAIN { INPUTS { } OUTPUTS { } } MAIN { }"), Refused 4 100) ∷
    -- G12: a missing end at the text's length, blanks and comments included
    (text (ascii "MAIN { INPUTS { } OUTPUTS { } /* } */ // }" ++ (10 ∷ []) ++ ascii " "), Refused 4 112) ∷
    -- no main
    (ascii "INFO { TITLE: \"t\" DESCRIPTION: \"d\" SEMANTICS: Mealy TARGET: Mealy } ", Refused 4 68) ∷
    -- global last
    (text (ascii "MAIN { INPUTS { } OUTPUTS { } } GLOBAL { }"), Refused 4 100) ∷
    -- a declaration is a name, a name with a width, or a type and a name
    (text (ascii "GLOBAL { DEFINITIONS { enum e = A: 0; } } MAIN { INPUTS { e x[2]; } OUTPUTS { } }"), Refused 4 129) ∷
    -- three names
    (text (ascii "MAIN { INPUTS { e x y; } OUTPUTS { } }"), Refused 4 88) ∷
    -- a title is a string
    (ascii "INFO { TITLE: t DESCRIPTION: \"d\" SEMANTICS: Mealy TARGET: Mealy } MAIN { INPUTS { } OUTPUTS { } }", Refused 4 14) ∷
    -- info twice
    (text (ascii "INFO { }"), Refused 4 68) ∷
    -- global twice
    (text (ascii "GLOBAL { } GLOBAL { } MAIN { INPUTS { } OUTPUTS { } }"), Refused 4 79) ∷
    -- binder comma
    (line (ascii "&&[i IN {1}, ] a"), Refused 4 141) ∷
    -- no binder
    (line (ascii "&&[] a"), Refused 4 131) ∷
    []

outcomes-met : map (λ c. outcome c.0) outcomes ≡ map (λ c. c.1) outcomes
unfolding text_expansion parsed spec_expansion ◌>>=◌ guard refuse_at count size
outcomes-met = refl

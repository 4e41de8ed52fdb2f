-- The grammar of a text in the parts that the code reads one by one.
use Rattle.std.specs.Prelude.{ℕ, List, [], ◌++◌, true, false, length}
use Rattle.std.proofs.Math.Option.{some}
use Rattle.node.specs.Result.{Done, ◌>>=◌}
use Rattle.language.specs.Tokens.{Token, Name}
use Rattle.language.specs.Tree.{Identifier, Parameter, Definition, Declaration, OfWidth}
use Rattle.language.specs.Grammar.{Tokens, Read, rest, next, expect, expect_of}
use Rattle.language.specs.Sections.{expression, words_of, parameter_of, definition_of, optional}
use Rattle.entries.specs.Kinds as Kind
use Rattle.entries.specs.Flat.{Entry, leaf, under, flat, each, flat_parameter, flat_definition}

-- an identifier and its words
abbrev pub identifier_of : Tokens → Read Identifier
identifier_of ts = do
  (x, ts) ← expect_of Name ts
  (c, ts) ← expect ":" ts
  (ws, ts) ← words_of (length ts) ts
  Done (record { name = x; words = ws }, ts)

-- a word of an enumeration
abbrev pub flat_word : Token → List Entry
flat_word t = leaf Kind.word t

-- a name and its value, with an entry of a kind
abbrev pub flat_valued : ℕ → Parameter → List Entry
flat_valued kind p = under kind (some p.name) (flat p.value)

-- the width of the bus x, after its `[`
abbrev pub width_of : Token → Tokens → Read Declaration
width_of x ts = do
  (e, ts) ← expression ts
  (c, ts) ← expect "]" ts
  Done (OfWidth x e, ts)

-- GLOBAL: its parameters and definitions
abbrev pub Globals : Type 0
Globals = List Parameter × List Definition

abbrev pub globals_of : Tokens → Read Globals
globals_of ts =
    elim (next "GLOBAL" ts) [
      | true ↦
          expect "{" (rest ts) >>= λ (c, ts). optional "PARAMETERS" parameter_of ts >>= λ (ps, ts). optional "DEFINITIONS" definition_of ts >>= λ (ds, ts).
          expect "}" ts >>= λ (c, ts). Done ((ps, ds), ts)
      | false ↦ Done (([], []), ts)
    ]

abbrev pub flat_globals : Globals → List Entry
flat_globals g = each flat_parameter g.0 ++ each flat_definition g.1

-- The world of a table of declared names and of a text's definitions.
use Rattle.std.specs.Prelude.{ℕ, ◌+◌, ◌-◌, true, false, List, [], ◌∷◌, map, ◌≡◌, length}
use Rattle.node.specs.Result.{Result, Done, Refused}
use Rattle.language.specs.Bytes.{same}
use Rattle.language.specs.Tokens.{Token}
use Rattle.language.specs.Tree.{Definition, Defined, Enumerated}
use Rattle.language.specs.Names.{Names}
use Rattle.language.specs.DeclaredNames.{Declared, Table, find, Port}
use Rattle.language.specs.Expansion.{Context, context_of, define}
use Rattle.entries.specs.Flat.{flat, flat_definition}
use Rattle.name_values.specs.World.{Meaning, Stands, Defines, NoValue, World}

abbrev pub in_table : Result Declared → Meaning
in_table (Done v) = Stands v
in_table (Refused n p) = NoValue

-- what the name n is after some definitions, of which the first starts with entry `start`, if it is m before them
abbrev pub behind : Context → ℕ → List Definition → Token → Meaning → Meaning
behind c start [] n m = m
behind c start (Defined x e ∷ ds) n m =
    behind (define c x e) (start + length (flat_definition (Defined x e))) ds n (elim (same x.text n.text) [ true ↦ Defines (start + length (flat e) - 1) c e | false ↦ m ])
behind c start (Enumerated x is ∷ ds) n m = behind c (start + length (flat_definition (Enumerated x is))) ds n m

abbrev pub meaning : List Port → Table → ℕ → List Definition → Token → Meaning
meaning ps d start defs n = behind (context_of ps d) start defs n (in_table (find d n.text))

-- t is none of the names that definitions define
abbrev pub Elsewhere : Token → Definition → Type 0
Elsewhere t (Defined x e) = same x.text t.text ≡ false
Elsewhere t (Enumerated x is) = Unit {0}

-- of all declared names, the last first
abbrev pub world_of : List Port → Table → ℕ → List Definition → Names → World
world_of ps d start defs ns = map (λ n. (n.text, meaning ps d start defs n)) ns

-- The walk of refusals 6 and 7 over a tree's entries, one after the other. The visible names are a list: a big operator's name is its first until the operator
-- ends, so that no scope is looked for in the tree.
use Rattle.std.specs.Prelude.{ℕ, List, [], ◌∷◌, true, false, ◌||◌}
use Rattle.std.proofs.Math.Option.{Option, none, some}
use Rattle.language.specs.Tokens.{Token}
use Rattle.language.specs.Grammar.{front}
use Rattle.language.specs.Places.{first}
use Rattle.language.specs.Names.{Names}
use Rattle.entries.specs.Kinds as Kind
use Rattle.entries.specs.Flat.{Entry}
use Rattle.names.specs.Roles.{uses, binds, ends, declares}

-- an entry's token
abbrev pub token_of : Entry → Token
token_of n = elim n.token [ none ↦ front [] | some t ↦ t ]

-- the visible names after one that ends is gone
abbrev pub outer : Names → Names
outer [] = []
outer (n ∷ ns) = ns

-- the visible names behind an entry
unfoldable pub after : Names → Entry → Names
after ns n =
    elim (binds n.kind || declares Kind.parameter n.kind) [
      | true ↦ token_of n ∷ ns
      | false ↦ elim (ends n.kind) [ true ↦ outer ns | false ↦ ns ]
    ]

-- the place that an entry gives: `used` at a name that it uses, `bound` at one that it brings
unfoldable pub here : (Names → Token → Option ℕ) → (Names → Token → Option ℕ) → Names → Entry → Option ℕ
here used bound ns n =
    elim (uses n.kind) [ true ↦ used ns (token_of n) | false ↦ elim (binds n.kind) [ true ↦ bound ns (token_of n) | false ↦ none ] ]

-- the first place in a list of entries
unfoldable pub scan : (Names → Token → Option ℕ) → (Names → Token → Option ℕ) → Names → List Entry → Option ℕ
scan used bound ns [] = none
scan used bound ns (n ∷ es) = first (here used bound ns n) (scan used bound (after ns n) es)

-- The entries of some kinds under one heading, in the text's order: the own entries of parameters, of inputs, of outputs.
use Rattle.std.specs.Prelude.{ℕ, suc, Bool, true, false, ◌&&◌, List, [], ◌∷◌, eqb, leb}
use Rattle.entries.specs.Kinds as Kind
use Rattle.entries.specs.Flat.{Entry}

-- what is looked for: the kinds from `low` to `high` under the heading `wanted`
pub record Choice : Type 0 where
  pub wanted : ℕ
  pub low : ℕ
  pub high : ℕ

abbrev pub choice : ℕ → ℕ → ℕ → Choice
choice wanted low high = record { wanted = wanted; low = low; high = high }

abbrev pub takes : Choice → (heading kind : ℕ) → Bool
takes c heading kind = eqb heading c.wanted && (leb c.low kind && leb kind c.high)

-- among the entries from i on, behind `heading`
abbrev pub chosen : Choice → (heading i : ℕ) → List Entry → List ℕ
chosen c heading i [] = []
chosen c heading i (n ∷ es) =
    elim (eqb n.kind Kind.heading) [
      | true ↦ chosen c n.size (suc i) es
      | false ↦ elim (takes c heading n.kind) [ true ↦ i ∷ chosen c heading (suc i) es | false ↦ chosen c heading (suc i) es ]
    ]

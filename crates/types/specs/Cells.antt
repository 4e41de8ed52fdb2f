-- What the pass sees of the entries: as the buffer has them, with the references of names, which stand in an array of their own, one for each entry.
use Rattle.std.specs.Prelude.{ℕ, suc, List, [], ◌∷◌, true, ◌≡◌, get_or}
use Rattle.node.specs.BitFields.{join}
use Rattle.language.specs.Names.{Names}
use Rattle.lexer.specs.Stored.{offset_bits, offset_in}
use Rattle.entries.specs.Flat.{Entry}
use Rattle.names.specs.Scan.{token_of}
use Rattle.names.specs.Walkable.{names}
use Rattle.names.specs.References.{reference}
use Rattle.names.specs.Walking.{open_after}
use Rattle.traversal.specs.declared.Cell.{Cell}
use Rattle.traversal.specs.Cells.{cell_at}

unfoldable pub named_cell : List ℕ → List ℕ → ℕ → Cell
named_cell refs w i = let c = cell_at w i in record { kind = c.kind; token = join offset_bits (get_or refs i 0) (offset_in c.token); size = c.size }

-- the references of the entries' names from entry i on, where the big operators' names bs are open before it
abbrev pub Referring : Names → List ℕ → Names → ℕ → List Entry → Type 0
Referring declared refs bs i [] = Unit {0}
Referring declared refs bs i (e ∷ es) =
    (names e.kind ≡ true → get_or refs i 0 ≡ reference declared (open_after bs e) (token_of e)) × Referring declared refs (open_after bs e) (suc i) es

-- What choosing entries stores.
use Rattle.std.specs.Prelude.{ℕ, ◌+◌, List, ◌≡◌, length}
use Rattle.std.proofs.lemmas.List.Edits.{sets}
use Rattle.entries.specs.Headings.{no_heading}
use Rattle.entries.specs.Flat.{Entry}
use Rattle.notes.specs.Chosen.{Choice, chosen}

-- the numbers of the chosen entries stand in `order` from `from` on, if there is room, and end before r
pub record Chooses (c : Choice) (es : List Entry) (old : List ℕ) (from : ℕ) (new : List ℕ) (r : ℕ) : Type 0 where
  pub stored : new ≡ sets old from (chosen c no_heading 0 es)
  pub end : r ≡ from + length (chosen c no_heading 0 es)

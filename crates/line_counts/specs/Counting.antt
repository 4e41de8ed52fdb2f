-- How many lines of a part the words have by which lines are gathered. Laws in CountingLaws.
use Rattle.std.specs.Prelude.{ℕ, ◌+◌, ◌≤◌, true, false, ◌≡◌, List, [], ◌∷◌, eqb, length, take}
use Rattle.node.specs.Fields.{above}
use Rattle.node.specs.Limits.{field_bits}
use Rattle.language.specs.Expansion.{Sections}
use Rattle.assembly.specs.Gathered.{in_turn, Lined}
use Rattle.line_counts.specs.declared.LineCounts.{LineCounts}
use Rattle.line_counts.specs.Promise.{counts_of}

-- 1 for a word of the part's, else 0
abbrev pub one : (part word : ℕ) → ℕ
one part w = elim (eqb part (above field_bits w)) [ true ↦ 1 | false ↦ 0 ]

-- how many words are the part's
unfoldable pub counted : (part : ℕ) → List ℕ → ℕ
counted part [] = 0
counted part (w ∷ ws) = one part w + counted part ws

-- n of the first k words are, if there are so many
pub record PartCount (part : ℕ) (words : List ℕ) (k n : ℕ) : Type 0 where
  pub is : k ≤ length words → n ≡ counted part (take k words)

-- of whatever sections the lines are that the first words list
pub record Counts (words : List ℕ) (count : ℕ) (r : LineCounts) : Type 0 where
  pub are : (ss : Sections) (table : List ℕ) → Lined (in_turn ss) words count table → r ≡ counts_of ss

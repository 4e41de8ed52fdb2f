-- Ports as numbers in slices, in signal order: the number of each one's name, the name's offset, the width (0 for a single signal). The first `ins` are inputs.
use Rattle.std.specs.Prelude.{ℕ, suc, ◌≤◌, ◌<◌, ◌^◌, List, [], ◌∷◌, ◌≡◌, leb, length, get_or}
use Rattle.language.specs.Limits.{max_width, max_signals, offset_bits}
use Rattle.language.specs.Tokens.{Token}
use Rattle.language.specs.DeclaredNames.{Port}

-- R: the number of a name
pub record PortAt (R : Token → ℕ) (numbers offsets widths : List ℕ) (ins j : ℕ) (p : Port) : Type 0 where
  pub number : get_or numbers j 0 ≡ R p.name
  pub offset : get_or offsets j 0 ≡ p.name.at
  pub width : get_or widths j 0 ≡ p.width
  pub output : p.output ≡ leb ins j

-- the ports from position j on
abbrev pub PortsFrom : (Token → ℕ) → List ℕ → List ℕ → List ℕ → ℕ → ℕ → List Port → Type 0
PortsFrom R numbers offsets widths ins j [] = Unit {0}
PortsFrom R numbers offsets widths ins j (p ∷ ps) = PortAt R numbers offsets widths ins j p × PortsFrom R numbers offsets widths ins (suc j) ps

-- all of them
pub record Ported (R : Token → ℕ) (numbers offsets widths : List ℕ) (ins count : ℕ) (ps : List Port) : Type 0 where
  pub ports : PortsFrom R numbers offsets widths ins 0 ps
  pub total : length ps ≡ count

-- what fits: the slices have an element for each port, the names' numbers have room, offsets and widths are those of a text that was accepted so far
pub record Room (numbers offsets widths : List ℕ) (count : ℕ) (firsts list : List ℕ) : Type 0 where
  pub numbers-room : count ≤ length numbers
  pub offsets_room : count ≤ length offsets
  pub widths_room : count ≤ length widths
  pub list-room : max_signals ≤ length list
  pub named : (j : ℕ) → j < count → get_or numbers j 0 < length firsts
  pub near : (j : ℕ) → j < count → get_or offsets j 0 < 2 ^ offset_bits
  pub narrow : (j : ℕ) → j < count → get_or widths j 0 ≤ max_width

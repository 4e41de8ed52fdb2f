-- How a value stands in three numbers: its mode, and two that tell it.
use Rattle.std.specs.Prelude.{ℕ, ◌≤◌, ◌<◌, ◌≡◌, List, length}
use Rattle.language.specs.Limits.{max_names, max_number, max_elements, max_width}
use Rattle.language.specs.Tokens.{Token}
use Rattle.language.specs.DeclaredNames.{BusOf, Identifies}
use Rattle.language.specs.Values.{Value, Number, Set, Logic, Bus, Unsized, Choice}
use Rattle.language.specs.Lists.{Ordered}
use Rattle.name_values.specs.World.{World, Stands, name_at, meaning_at}

-- the modes (src): two for entries that are worked out, then one for each kind of value, and one for a formula that was written
abbrev pub is_number : ℕ
is_number = 2

abbrev pub is_set : ℕ
is_set = 3

abbrev pub is_logic : ℕ
is_logic = 4

abbrev pub is_bus : ℕ
is_bus = 5

abbrev pub is_unsized : ℕ
is_unsized = 6

abbrev pub is_choice : ℕ
is_choice = 7

abbrev pub is_nodes : ℕ
is_nodes = 8

-- ascending numbers within the limits
pub record Fine (s : List ℕ) : Type 0 where
  pub few : length s ≤ max_elements
  pub ordered : Ordered s

pub record TellsNumber (mode value n : ℕ) : Type 0 where
  pub mode_is : mode ≡ is_number
  pub value-is : value ≡ n
  pub small : n ≤ max_number

pub record TellsSet (mode value : ℕ) (s : List ℕ) : Type 0 where
  pub mode_is : mode ≡ is_set
  pub count : value ≡ length s
  pub fine : Fine s

pub record TellsBus (W : World) (mode value other place : ℕ) (name : List ℕ) (width : ℕ) : Type 0 where
  pub mode_is : mode ≡ is_bus
  pub place_is : value ≡ place
  pub declared : other < max_names
  pub named : name_at W other ≡ name
  pub means : meaning_at W other ≡ Stands (BusOf width)
  pub small : width ≤ max_width

pub record TellsUnsized (mode value place : ℕ) : Type 0 where
  pub mode_is : mode ≡ is_unsized
  pub place_is : value ≡ place

pub record TellsChoice (W : World) (mode other : ℕ) (ws : List Token) : Type 0 where
  pub mode_is : mode ≡ is_choice
  pub declared : other < max_names
  pub means : meaning_at W other ≡ Stands (Identifies ws)

-- a set's elements stand elsewhere
abbrev pub Tells : World → ℕ → ℕ → ℕ → Value → Type 0
Tells W mode value other (Number n) = TellsNumber mode value n
Tells W mode value other (Set s) = TellsSet mode value s
Tells W mode value other Logic = mode ≡ is_logic
Tells W mode value other (Bus p x n) = TellsBus W mode value other p x n
Tells W mode value other (Unsized p) = TellsUnsized mode value p
Tells W mode value other (Choice ws) = TellsChoice W mode other ws

-- Where ports are described: the slices have an element for each of them, and their entries are in the buffer.
use Rattle.std.specs.Prelude.{ℕ, ◌≤◌, ◌<◌, List, length, get_or}
use Rattle.language.specs.Limits.{work_bytes, max_tokens, max_names}

pub record DescribeRoom (w refs found places : List ℕ) (count : ℕ) (order enumerations offsets : List ℕ) : Type 0 where
  pub work : work_bytes ≤ length w
  pub refs_room : max_tokens ≤ length refs
  pub found-room : max_names ≤ length found
  pub few : count ≤ max_names
  pub places-room : count ≤ length places
  pub order-room : count ≤ length order
  pub enumerations_room : count ≤ length enumerations
  pub offsets_room : count ≤ length offsets
  pub inside : (i : ℕ) → i < count → get_or places i 0 < max_tokens

-- Sets in one lent memory, by their addresses; and what a function leaves as it was.
use Rattle.std.specs.Prelude.{ℕ, suc, ◌+◌, ◌≤◌, ◌<◌, ◌≡◌, List, length, get_or, take, drop}
use Rattle.node.specs.Result.{Result}
use Rattle.node.specs.Returned.{Returned}
use Rattle.language.specs.Limits.{max_elements}
use Rattle.sets.specs.Answers.{SetIs}
use Rattle.sets.specs.Listing.{Listing}
use Rattle.sets.specs.Combined.{Ordered, Selected}
use Rattle.memory_sets.specs.declared.Span.{Span}

-- all words but the n from `at` on are as before
pub record Outside (mem mem' : List ℕ) (at n : ℕ) : Type 0 where
  pub len : length mem' ≡ length mem
  pub below : (i : ℕ) → i < at → get_or mem' i 0 ≡ get_or mem i 0
  pub above : (i : ℕ) → at + n ≤ i → drop i mem' ≡ drop i mem

-- n words from a on of the source stand at b, all others are as before
pub record Copied (source : List ℕ) (a : ℕ) (mem mem' : List ℕ) (b n : ℕ) : Type 0 where
  pub words : (i : ℕ) → i < n → get_or mem' (b + i) 0 ≡ get_or source (a + i) 0
  pub kept : Outside mem mem' b n

-- the memory from a set's address on; the set's elements
abbrev pub from : List ℕ → Span → List ℕ
from mem s = drop s.at mem

abbrev pub elements_at : List ℕ → Span → List ℕ
elements_at mem s = take s.count (from mem s)

-- there is room at an address for a set and one element more
pub record Room (mem : List ℕ) (at : ℕ) : Type 0 where
  pub room : at + max_elements < length mem

-- a set stands there: few elements, ascending, with room
abbrev pub Placed : List ℕ → Span → Type 0
Placed mem s = Ordered (from mem s) s.count

-- two sets that stand below an address at which there is room
pub record Two (mem : List ℕ) (l r : Span) (to : ℕ) : Type 0 where
  pub left : Placed mem l
  pub right : Placed mem r
  pub left_below : l.at + l.count ≤ to
  pub right_below : r.at + r.count ≤ to
  pub room : Room mem to

-- the words of a set's room alone have changed
abbrev pub Writes : (mem mem' : List ℕ) (at : ℕ) → Type 0
Writes mem mem' at = Outside mem mem' at (suc max_elements)

-- what an answer says of the words at an address: a set or a refusal
pub record SetAt (mem mem' : List ℕ) (at : ℕ) (r : Returned ℕ) (s : Result (List ℕ)) : Type 0 where
  pub set : SetIs r (drop at mem') s
  pub kept : Writes mem mem' at

-- n words at an address list a set; n counts to one above the limit
pub record ListedAt (mem mem' : List ℕ) (at n : ℕ) (s : List ℕ) : Type 0 where
  pub listing : Listing (drop at mem') n s
  pub kept : Writes mem mem' at

-- n words at an address are a set
pub record SelectedAt (mem mem' : List ℕ) (at n : ℕ) (s : List ℕ) : Type 0 where
  pub selected : Selected s (drop at mem') n
  pub kept : Writes mem mem' at

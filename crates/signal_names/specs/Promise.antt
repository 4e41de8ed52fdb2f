-- What `put_bytes` and `spell` promise: bytes in a run, and the names of the signals in slots as long as the longest name.
use Rattle.std.specs.Prelude.{ℕ, ◌+◌, ◌*◌, ◌<◌, ◌≤◌, ◌≡◌, List, [], length, take, drop, get_or}
use Rattle.std.proofs.Math.Option.{none, some}
use Rattle.std.proofs.lemmas.List.Edits.{sets}
use Rattle.language.specs.Limits.{max_name}
use Rattle.basic.specs.Spelling.{names_of}
use Rattle.basic.specs.Writing.{fault_from}

-- n bytes from a place on
abbrev pub part : List ℕ → ℕ → ℕ → List ℕ
part l start n = take n (drop start l)

-- the bytes `vs` stored from index `at` on; r is the place after them
pub record Puts (vs out out' : List ℕ) (at r : ℕ) : Type 0 where
  pub next : r ≡ at + length vs
  pub bytes : out' ≡ sets out at vs

abbrev pub slot_bytes : ℕ
slot_bytes = max_name

-- the name in slot k
abbrev pub slot : (names sizes : List ℕ) → ℕ → List ℕ
slot names sizes k = part names (slot_bytes * k) (get_or sizes k 0)

-- slots before k hold names, and slot k has room
pub record Held (names sizes : List ℕ) (k : ℕ) : Type 0 where
  pub room : slot_bytes * k + (max_name + 4) ≤ length names
  pub sized : k ≤ length sizes
  pub small : (j : ℕ) → j < k → get_or sizes j 0 ≤ max_name

-- the names ns stand in their slots
pub record Spelt (names sizes : List ℕ) (ns : List (List ℕ)) : Type 0 where
  pub small : (k : ℕ) → k < length ns → get_or sizes k 0 ≤ max_name
  pub each : (k : ℕ) → k < length ns → slot names sizes k ≡ get_or ns k []

-- the first name at fault, or all names in their slots
pub record Spells (text list names sizes : List ℕ) (r : ℕ) : Type 0 where
  pub within : r ≤ length list
  pub fault : r < length list → fault_from [] 0 (names_of text list) ≡ some r
  pub none : r ≡ length list → fault_from [] 0 (names_of text list) ≡ none
  pub spelt : r ≡ length list → Spelt names sizes (names_of text list)

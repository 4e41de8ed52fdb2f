-- The pass's state as the code holds it: numbers, and the rows in two arrays.
use Rattle.std.specs.Prelude.{ℕ, ◌+◌, ◌≤◌, ◌<◌, List, [], map, true, ◌≡◌, length, get_or, take}
use Rattle.std.proofs.Math.Option.{some}
use Rattle.language.specs.Limits.{max_words, max_marks}
use Rattle.language.specs.Places.{first}
use Rattle.traversal.specs.Places.{placed, place_in}
use Rattle.enumerations.specs.declared.Progress.{Progress}
use Rattle.enumerations.specs.Pass.{Row, State}

abbrev owners_of : List Row → List ℕ
owners_of rs = map (λ (r : Row). r.owner) rs

abbrev pub marks_of : List Row → List (List ℕ)
marks_of rs = map (λ (r : Row). r.marks) rs

-- of a row the marks that the first word has
pub record Agrees (s : State) (p : Progress) (os : List ℕ) (rs : List (List ℕ)) : Type 0 where
  pub owner : p.owner ≡ s.owner
  pub size : p.size ≡ s.size
  pub closed : p.closed ≡ s.closed
  pub count : p.count ≡ length s.rows
  pub owners : take p.count os ≡ owners_of s.rows
  pub rows : map (take s.size) (take p.count rs) ≡ marks_of s.rows
  pub found : p.found ≡ placed s.found

-- a row for each word that an enumeration may have
pub record Sized (p : Progress) (os : List ℕ) (rs : List (List ℕ)) : Type 0 where
  pub few : p.count ≤ max_words
  pub owners : length os ≡ max_words
  pub rows : length rs ≡ max_words
  pub each : (j : ℕ) → j < length rs → length (get_or rs j []) ≡ max_marks

-- the next state, whatever the state before
pub record Passes (f : State → State) (p q : Progress) (os : List ℕ) (rs : List (List ℕ)) (os' : List ℕ) (rs' : List (List ℕ)) : Type 0 where
  pub sized : Sized q os' rs'
  pub owner : q.owner ≤ p.owner + 1
  pub steps : (s : State) → Agrees s p os rs → Agrees (f s) q os' rs'

-- a bad word
abbrev pub shut_at : Progress → ℕ → Progress
shut_at p place = record { owner = p.owner; count = p.count; size = p.size; closed = true; found = placed (first (place_in p.found) (some place)) }

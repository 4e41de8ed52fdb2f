-- What an answer says: a number or a refusal; a set's elements in the lent array or a refusal.
use Rattle.std.specs.Prelude.{ℕ, ◌≤◌, ◌≡◌, List, take, Ok, Err}
use Rattle.node.specs.Result.{Result, Done}
use Rattle.node.specs.Returned.{Returned}
use Rattle.language.specs.Limits.{max_elements}

abbrev pub says : Returned ℕ → Result ℕ
says (Ok n) = Done n
says (Err r) = Result.Refused r.number r.place

-- the elements are the first n entries of the array
abbrev pub elements : Returned ℕ → List ℕ → Result (List ℕ)
elements (Ok n) a = Done (take n a)
elements (Err r) a = Result.Refused r.number r.place

abbrev pub count : Returned ℕ → ℕ
count (Ok n) = n
count (Err r) = 0

pub record SetIs (r : Returned ℕ) (a : List ℕ) (s : Result (List ℕ)) : Type 0 where
  pub says : elements r a ≡ s
  pub few : count r ≤ max_elements

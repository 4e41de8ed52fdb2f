-- For how many nodes an array has room.
use Rattle.std.specs.Prelude.{ℕ, ◌+◌, ◌*◌, ◌≤◌, ◌<◌, ◌≡◌}
use native.Mathlib.Omega.{arith}
use Rattle.node.specs.Limits.{max_nodes}
use Rattle.shared_table.specs.Shared.{nodes_start, slot, capacity}

module _ {n m : ℕ} (long : nodes_start ≤ m) where
  pub room_few : n ≤ capacity m → n ≤ max_nodes
  unfolding capacity
  room_few h = omega arith

  pub room-inside : n ≤ capacity m → slot (n + 1) ≤ m
  unfolding capacity
  room-inside h = omega arith

  pub room-more : n < max_nodes → slot (n + 2) ≤ m → n + 1 ≤ capacity m
  unfolding capacity
  room-more h l = omega arith

  pub room_none : n ≤ capacity m → max_nodes ≤ n → n ≡ capacity m
  unfolding capacity
  room_none h l = omega arith

  pub room_short : n ≤ capacity m → m < slot (n + 2) → n ≡ capacity m
  unfolding capacity
  room_short h l = omega arith

-- an array for n nodes
pub capacity_of : {n : ℕ} → n ≤ max_nodes → capacity (nodes_start + 3 * n) ≡ n
unfolding capacity
capacity_of h = omega arith

-- The pass's state as the code holds it: numbers, and the stack in two arrays.
use Rattle.std.specs.Prelude.{ℕ, ◌≤◌, List, [], ◌≡◌, length, take}
use Rattle.std.proofs.Math.Option.{none}
use Rattle.language.specs.Limits.{work_bytes, max_tokens}
use Rattle.traversal.specs.Cells.{cell_at}
use Rattle.traversal.specs.Places.{placed}
use Rattle.traversal.specs.Passed.{passed}
use Rattle.traversal.specs.declared.Progress.{Progress}
use Rattle.depth.specs.Depth.{State, levels_of, starts_of, step, state}

pub record Agrees (s : State) (p : Progress) (ls ss : List ℕ) : Type 0 where
  pub before : p.before ≡ s.before
  pub count : p.top ≡ length s.stack
  pub levels : take p.top ls ≡ levels_of s.stack
  pub starts : take p.top ss ≡ starts_of s.stack
  pub found : p.found ≡ placed s.found

-- the state after i entries of the buffer w
abbrev pub after : List ℕ → ℕ → State
after w i = passed step (cell_at w) (state 0 [] none) i

-- the code has come so far; two arrays of a number for each entry
pub record Reached (w : List ℕ) (i : ℕ) (p : Progress) (ls ss : List ℕ) : Type 0 where
  pub room : work_bytes ≤ length w
  pub few : p.top ≤ i
  pub levels : length ls ≡ max_tokens
  pub starts : length ss ≡ max_tokens
  pub agrees : Agrees (after w i) p ls ss

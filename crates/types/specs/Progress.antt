-- The pass's state as the code holds it: numbers, the stack in two arrays, and the table.
use Rattle.std.specs.Prelude.{ℕ, ◌+◌, ◌≤◌, List, ◌≡◌, length, take}
use Rattle.language.specs.Limits.{work_bytes, max_tokens, max_names}
use Rattle.traversal.specs.declared.Cell.{Cell}
use Rattle.traversal.specs.Places.{placed}
use Rattle.traversal.specs.declared.Progress.{Progress}
use Rattle.types.specs.Pass.{State, types_of, starts_of, step}

pub record Agrees (s : State) (p : Progress) (ks ss ts : List ℕ) : Type 0 where
  pub before : p.before ≡ s.before
  pub count : p.top ≡ length s.stack
  pub types : take p.top ks ≡ types_of s.stack
  pub starts : take p.top ss ≡ starts_of s.stack
  pub found : p.found ≡ placed s.found
  pub table : ts ≡ s.table

-- the arrays have a number for each entry, the table one for each declared name
pub record Sized (w : List ℕ) (i : ℕ) (p : Progress) (ks ss ts : List ℕ) : Type 0 where
  pub room : work_bytes ≤ length w
  pub few : p.top ≤ i
  pub types : length ks ≡ max_tokens
  pub starts : length ss ≡ max_tokens
  pub table : length ts ≡ max_names

-- entry i, with the cell d, is passed, whatever the state before
pub record Passes (w : List ℕ) (i : ℕ) (d : Cell) (p q : Progress) (ks ss ts ks' ss' ts' : List ℕ) : Type 0 where
  pub sized : Sized w (i + 1) q ks' ss' ts'
  pub steps : (s : State) → Agrees s p ks ss ts → Agrees (step d s) q ks' ss' ts'

-- The elements in braces: where the expression of one ends, and what must be readable to tell.
use Rattle.std.specs.Prelude.{ℕ, ◌-◌, ◌≤◌, ◌<◌, true, false, List, ◌≡◌, eqb, length}
use Rattle.language.specs.Limits.{max_tokens, work_bytes}
use Rattle.entries.specs.Kinds as Kind
use Rattle.operands.specs.Entries.{kind_at, size_at}

-- where the expression of the element at entry j ends
abbrev pub element_at : List ℕ → ℕ → ℕ
element_at work j = elim (eqb (kind_at work (j - 1)) Kind.element) [ true ↦ j - 1 - size_at work (j - 1) | false ↦ j - 1 ]

-- the entries from there on can be read
pub record Elementary (work : List ℕ) (j : ℕ) : Type 0 where
  pub some : 0 < j
  pub few : j < max_tokens
  pub long : work_bytes ≤ length work
  pub inside : kind_at work (j - 1) ≡ Kind.element → size_at work (j - 1) < j

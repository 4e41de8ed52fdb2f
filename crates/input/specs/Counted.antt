-- What a reading tells: a number of bytes. Which bytes those are, no contract of the operating system says; of a reader whose bytes are known, Reading says it.
use Rattle.std.specs.Prelude.{ℕ, ◌≤◌, ◌≡◌, List, length, take}

-- so many of the list's elements: `&xs[..n]` is in bounds and has n bytes
abbrev pub IsPrefixLen : ℕ → List ℕ → Type 0
IsPrefixLen n xs = (n ≤ length xs) × (n ≡ length (take n xs))

-- from `low` to `high` bytes
abbrev pub Counted : (low high : ℕ) → ℕ → Type 0
Counted low high n = (low ≤ n) × (n ≤ high)

-- How large a memory is enough for a text. Laws in MemoriesLaws.
use Rattle.std.specs.Prelude.{ℕ, ◌≤◌}
use Rattle.reader.specs.declared.weight.Weight.{Weight}

-- few entries, and the words of a memory for a text of so few
abbrev pub few_entries : ℕ
few_entries = 2_048

abbrev pub little_memory : ℕ
little_memory = 16_384

-- and of one for the entries of any text
abbrev pub some_memory : ℕ
some_memory = 65_536

-- what is counted of so many entries is no more than they are
pub record Counts (w : Weight) (entries : ℕ) : Type 0 where
  pub holders : w.holders ≤ entries
  pub definitions : w.definitions ≤ entries

-- A short text: arrays an eighth as long as those of the longest text will do.
use Rattle.std.specs.Prelude.{ℕ, ◌/◌, ◌*◌, ◌≤◌, ◌<◌, ◌≡◌, List, [], ◌∷◌, length}
use Rattle.language.specs.Limits.{max_bytes, max_tokens}
use Rattle.spellings.specs.Trie.{max_trie_nodes}
use Rattle.names.specs.Tables.{no_place}
use Rattle.names.specs.Resolved.{TreeStored}

-- 4,096 bytes and 1,024 entries
abbrev pub short_bytes : ℕ
short_bytes = max_bytes / 8

abbrev pub short_entries : ℕ
short_entries = max_tokens / 8

-- what the code's constants stand for
abbrev pub constants : List ℕ
constants = max_trie_nodes ∷ short_bytes ∷ short_entries ∷ no_place ∷ no_place ∷ []

-- a stored tree for which arrays of n nodes, of their links and of m words for open names will do
pub record Fits (text w : List ℕ) (count entries n l m : ℕ) : Type 0 where
  pub tree : TreeStored text w count entries
  pub bytes : length text < n
  pub links : l ≡ 3 * n
  pub few : 3 * entries ≤ m
  pub nodes : n ≤ max_trie_nodes
  pub words : m ≤ 3 * max_tokens

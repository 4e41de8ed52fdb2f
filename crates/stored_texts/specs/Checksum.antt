-- The checksum of a list of words, order included.
use Rattle.std.specs.Prelude.{ℕ, ◌+◌, ◌*◌, ◌%◌, List, [], ◌∷◌}

-- one word more: 257 times the sum before it and the word, modulo the largest prime below 2 to the 32
abbrev pub mixed : ℕ → ℕ → ℕ
mixed sum word = (sum * 257 + word) % 4294967291

abbrev pub mixed_all : ℕ → List ℕ → ℕ
mixed_all sum [] = sum
mixed_all sum (word ∷ words) = mixed_all (mixed sum word) words

unfoldable pub checksum : List ℕ → ℕ
checksum words = mixed_all 0 words

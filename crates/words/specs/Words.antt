-- Big-endian numbers of any number of bytes in a list of bytes, the words of four bytes among them.
use Rattle.std.specs.Prelude.{List, ℕ, zero, suc, ◌+◌, ◌*◌, ◌/◌, ◌%◌, get_or, drop, set}

-- the number in the n bytes of w from `at` on, most significant first
unfoldable pub read_at : List ℕ → ℕ → ℕ → ℕ
read_at w at zero = 0
read_at w at (suc n) = read_at w at n * 256 + get_or w (at + n) 0

-- w with v in the n bytes from `at` on
unfoldable pub write_at : List ℕ → ℕ → ℕ → ℕ → List ℕ
write_at w at zero v = w
write_at w at (suc n) v = set (write_at w at n (v / 256)) (at + n) (v % 256)

-- word i: the bytes 4 i to 4 i + 3
unfoldable pub word_at : List ℕ → ℕ → ℕ
word_at w i = read_at w (4 * i) 4

unfoldable pub put_word : List ℕ → ℕ → ℕ → List ℕ
put_word w i v = write_at w (4 * i) 4 v

-- the bytes from n on; shut, since `drop` at a large numeral unfolds as often
unfoldable pub past : ℕ → List ℕ → List ℕ
past n w = drop n w

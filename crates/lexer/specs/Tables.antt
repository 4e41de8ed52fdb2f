-- What the lexer's tables must hold: the class of each byte, and the signs and words in chains by their first byte.
use Rattle.std.specs.Prelude.{ℕ, zero, suc, ◌+◌, ◌*◌, ◌-◌, ◌≤◌, ◌<◌, List, [], ◌∷◌, Bool, true, false, ◌&&◌, not, ◌≡◌, eqb, length, get_or, drop}
use Rattle.language.specs.Bytes.{within, is_blank, is_digit, is_name_start, is_name_byte, is_mark}
use Rattle.lexer.specs.ByteClasses as Byte
use Rattle.lexer.specs.Spelling.{count, entries, entry}

-- the class x of byte b
pub record ByteClass (b x : ℕ) : Type 0 where
  pub known : x ≤ Byte.prime
  pub blank : is_blank b ≡ eqb x Byte.blank
  pub quote : eqb b 34 ≡ eqb x Byte.quote
  pub slash : eqb 47 b ≡ eqb x Byte.slash
  pub mark : is_mark b ≡ within Byte.star Byte.bit x
  pub digit : is_digit b ≡ within Byte.bit Byte.digit x
  pub letter : is_name_start b ≡ eqb x Byte.letter
  pub named : is_name_byte b ≡ within Byte.bit Byte.prime x

-- is the byte's class within these, by the table?
unfoldable pub classed : List ℕ → ℕ → ℕ → ℕ → Bool
classed bs low high b = within low high (get_or bs (2 * b) 0)

-- does the entry begin with the byte?
abbrev pub begins : ℕ → List ℕ → Bool
begins b [] = false
begins b (x ∷ w) = eqb b x

-- does it begin with another?
abbrev pub differs : ℕ → List ℕ → Bool
differs b [] = false
differs b (x ∷ w) = not (eqb b x)

-- each of the first n entries of the list begins with another byte
abbrev pub passes : ℕ → ℕ → List (List ℕ) → Bool
passes b zero ws = true
passes b (suc n) [] = true
passes b (suc n) (w ∷ ws) = differs b w && passes b n ws

-- from entry i on, the next entry that begins with the byte is entry k, or there is none and k is their number
pub record NextWith (b i k : ℕ) : Type 0 where
  pub onward : i ≤ k
  pub fits : k ≤ count
  pub passed : passes b (k - i) (drop i entries) ≡ true
  pub begun : k < count → begins b (entry k) ≡ true

-- byte b: its class at 2 b, the first entry that begins with it at 2 b + 1
pub record RightBytes (bs : List ℕ) : Type 0 where
  pub class : (b : ℕ) → b < 256 → ByteClass b (get_or bs (2 * b) 0)
  pub first : (b : ℕ) → b < 256 → NextWith b 0 (get_or bs (2 * b + 1) 0)

-- entry k: its length at 16 k, the next entry that begins with the same byte at 16 k + 1, then its bytes
pub record RightRows (rs : List ℕ) : Type 0 where
  pub size : (k : ℕ) → k < count → get_or rs (16 * k) 0 ≡ length (entry k)
  pub next : (b k : ℕ) → k < count → begins b (entry k) ≡ true → NextWith b (suc k) (get_or rs (16 * k + 1) 0)
  pub short : (k : ℕ) → k < count → length (entry k) ≤ 14
  pub byte : (k j : ℕ) → k < count → j < length (entry k) → get_or rs (16 * k + 2 + j) 0 ≡ get_or (entry k) j 0

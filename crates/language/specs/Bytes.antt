-- Bytes and their classes; written text as bytes (document 01, 'Accepted text'; document 001, 2.3).
use Rattle.std.specs.Prelude.{ℕ, List, [], ◌∷◌, Bool, true, false, ◌&&◌, ◌||◌, leb, eqb}
use Prim.Native.String.{String, [] as []ˢ, ◌∷◌ as ◌∷ˢ◌}
use Prim.Native.Char.{code}

-- a written text as its bytes
abbrev pub ascii : String → List ℕ
ascii []ˢ = []
ascii (c ∷ˢ s) = code c ∷ ascii s

-- a choice that is no part of a recursion: in a recursion write the `elim`, whose branches wait
infix 10 if◌then◌otherwise◌
abbrev pub if◌then◌otherwise◌ : {A : Type 0} → Bool → A → A → A
if◌then◌otherwise◌ b x y = elim b [ true ↦ x | false ↦ y ]

abbrev pub within : ℕ → ℕ → ℕ → Bool
within low high b = leb low b && leb b high

-- 'Blanks are space, tab, line feed and carriage return'
abbrev pub is_blank : ℕ → Bool
is_blank b = eqb b 32 || eqb b 9 || eqb b 10 || eqb b 13

abbrev pub is_digit : ℕ → Bool
is_digit b = within 48 57 b

-- 'letters, numbers, underscores, primes and at-signs, and does not start with a number or a prime'
abbrev pub is_name_start : ℕ → Bool
is_name_start b = within 97 122 b || within 65 90 b || eqb b 95 || eqb b 64

abbrev pub is_name_byte : ℕ → Bool
is_name_byte b = is_name_start b || is_digit b || eqb b 39

-- a mark of an enumeration's word: `0`, `1`, `*`
abbrev pub is_mark : ℕ → Bool
is_mark b = eqb b 48 || eqb b 49 || eqb b 42

-- are the bytes of w the first bytes of s?
abbrev pub starts : List ℕ → List ℕ → Bool
starts [] s = true
starts (x ∷ w) [] = false
starts (x ∷ w) (y ∷ s) = eqb x y && starts w s

-- are they all of s?
abbrev pub same : List ℕ → List ℕ → Bool
same [] [] = true
same [] (y ∷ s) = false
same (x ∷ w) [] = false
same (x ∷ w) (y ∷ s) = eqb x y && same w s

-- are the bytes written in the list?
abbrev pub is_one_of : List String → List ℕ → Bool
is_one_of [] s = false
is_one_of (w ∷ ws) s = same (ascii w) s || is_one_of ws s

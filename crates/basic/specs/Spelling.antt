-- What the signals are called in a written text (document 02, F-1).
use Rattle.std.specs.Prelude.{ℕ, zero, suc, ◌+◌, ◌/◌, ◌%◌, Bool, true, false, List, [], ◌∷◌, ◌++◌, map, ltb, eqb}
use Rattle.language.specs.Bytes.{if◌then◌otherwise◌}
use Rattle.language.specs.Meaning.{Atom, SignalOf, BitOf}
use Rattle.language.specs.Numbered.{atom_of, flag_of}

-- a number in decimal digits without leading zeros; f bounds how many, and is enough if it exceeds the number
unfoldable pub digits_of : ℕ → ℕ → List ℕ
digits_of zero n = []
digits_of (suc f) n = elim (ltb n 10) [ true ↦ (48 + n) ∷ [] | false ↦ digits_of f (n / 10) ++ ((48 + n % 10) ∷ []) ]

-- 'Bit i of bus b is called `b@i`'; a single signal keeps its name
abbrev pub spelling : Atom → List ℕ
spelling (SignalOf x) = x
spelling (BitOf x i) = x ++ (64 ∷ digits_of (suc i) i)

-- the name of what an entry of a text's signal list names
abbrev pub spelled : List ℕ → ℕ → List ℕ
spelled text e = spelling (atom_of text e)

-- the names of all signals, by number
abbrev pub names_of : (text list : List ℕ) → List (List ℕ)
names_of text list = map (spelled text) list

-- those of the outputs, or of the inputs
abbrev pub side_of : (output : Bool) (text list : List ℕ) → List (List ℕ)
side_of output text [] = []
side_of output text (e ∷ es) =
    elim (eqb (flag_of e) (if output then 1 otherwise 0)) [ true ↦ spelled text e ∷ side_of output text es | false ↦ side_of output text es ]

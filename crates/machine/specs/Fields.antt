-- The words of a frame and of a note, by their places; the first of a frame is its phase, the first of a note its sort.
use Rattle.std.specs.Prelude.{ℕ, List, [], ◌∷◌}

-- of a frame: its entry, where the values go back to, the address and the number of the words that it holds, two numbers
abbrev pub entry_field : ℕ
entry_field = 1

abbrev pub base_field : ℕ
base_field = 2

abbrev pub at_field : ℕ
at_field = 3

abbrev pub count_field : ℕ
count_field = 4

abbrev pub value_field : ℕ
value_field = 5

abbrev pub other_field : ℕ
other_field = 6

-- of a note: a number, an address or the first signal, where a definition's nodes stand
abbrev pub note_number : ℕ
note_number = 1

abbrev pub note_address : ℕ
note_address = 2

abbrev pub note_mark : ℕ
note_mark = 3

abbrev pub fields : List ℕ
fields = entry_field ∷ base_field ∷ at_field ∷ count_field ∷ value_field ∷ other_field ∷ note_number ∷ note_address ∷ note_mark ∷ []

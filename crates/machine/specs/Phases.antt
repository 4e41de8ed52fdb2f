-- The phases of frames: what a frame waits for, in the order of specs/Frames.
use Rattle.std.specs.Prelude.{ℕ, List, [], ◌∷◌}

abbrev pub measured : ℕ
measured = 0

abbrev pub width : ℕ
width = 1

abbrev pub left : ℕ
left = 2

abbrev pub right : ℕ
right = 3

abbrev pub left_set : ℕ
left_set = 4

abbrev pub right_set : ℕ
right_set = 5

abbrev pub low : ℕ
low = 6

abbrev pub high : ℕ
high = 7

abbrev pub elements : ℕ
elements = 8

abbrev pub range_first : ℕ
range_first = 9

abbrev pub range_second : ℕ
range_second = 10

abbrev pub range_last : ℕ
range_last = 11

abbrev pub over : ℕ
over = 12

abbrev pub first_number : ℕ
first_number = 13

abbrev pub next_number : ℕ
next_number = 14

abbrev pub first_set : ℕ
first_set = 15

abbrev pub next_set : ℕ
next_set = 16

abbrev pub keep_value : ℕ
keep_value = 17

abbrev pub capping : ℕ
capping = 18

abbrev pub left_formula : ℕ
left_formula = 19

abbrev pub right_formula : ℕ
right_formula = 20

abbrev pub left_compared : ℕ
left_compared = 21

abbrev pub right_compared : ℕ
right_compared = 22

abbrev pub member : ℕ
member = 23

abbrev pub among : ℕ
among = 24

abbrev pub indexed : ℕ
indexed = 25

abbrev pub repeat : ℕ
repeat = 26

abbrev pub repeated : ℕ
repeated = 27

abbrev pub window_from : ℕ
window_from = 28

abbrev pub window_to : ℕ
window_to = 29

abbrev pub windowed : ℕ
windowed = 30

abbrev pub over_each : ℕ
over_each = 31

abbrev pub first_each : ℕ
first_each = 32

abbrev pub next_each : ℕ
next_each = 33

abbrev pub keep_formula : ℕ
keep_formula = 34

abbrev pub bit_of : ℕ
bit_of = 35

-- how many they are
abbrev pub count : ℕ
count = 36

-- what the code's constants stand for, in their order
abbrev pub phases : List ℕ
phases =
    measured ∷ width ∷ left ∷ right ∷ left_set ∷ right_set ∷ low ∷ high ∷ elements ∷ range_first ∷ range_second ∷ range_last ∷ over ∷ first_number ∷ next_number ∷ first_set ∷ next_set ∷ keep_value ∷ capping ∷
    left_formula ∷ right_formula ∷ left_compared ∷ right_compared ∷ member ∷ among ∷ indexed ∷ repeat ∷ repeated ∷ window_from ∷ window_to ∷ windowed ∷ over_each ∷ first_each ∷ next_each ∷ keep_formula ∷
    bit_of ∷ []

-- The sorts of declared names as they are noted: numbers, the code's own.
use Rattle.std.specs.Prelude.{ℕ, List, [], ◌∷◌}

-- a name that stands for a number: a parameter, or a definition whose value is kept
abbrev pub number : ℕ
number = 0

-- a definition that is worked out where it is used
abbrev pub body : ℕ
body = 1

abbrev pub bus : ℕ
bus = 2

-- a single signal
abbrev pub signal : ℕ
signal = 3

-- a definition whose set is kept
abbrev pub set : ℕ
set = 4

-- an identifier of an enumeration
abbrev pub identifier : ℕ
identifier = 5

-- an enumeration's own name, or a parameter before its turn
abbrev pub nothing : ℕ
nothing = 6

-- all of them in their order
abbrev pub sorts : List ℕ
sorts = number ∷ body ∷ bus ∷ signal ∷ set ∷ identifier ∷ nothing ∷ []

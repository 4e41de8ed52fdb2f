-- The refusals of document 01, 'Refusals with their places', and of document 02, by number.
use Rattle.std.specs.Prelude.{ℕ, List, [], ◌∷◌}

-- the rows of the tables in their order
abbrev pub refusals : List ℕ
refusals = 1 ∷ 2 ∷ 3 ∷ 4 ∷ 5 ∷ 6 ∷ 7 ∷ 8 ∷ 9 ∷ 10 ∷ 11 ∷ 12 ∷ 13 ∷ 14 ∷ 15 ∷ 16 ∷ 17 ∷ 18 ∷ 19 ∷ 20 ∷ 21 ∷ 22 ∷ 23 ∷ []

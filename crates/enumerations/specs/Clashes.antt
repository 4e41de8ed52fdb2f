-- A word against the rows before it, as the code holds them: owners and rows in two arrays, of each row the first n marks. Laws in ClashLaws.
use Rattle.std.specs.Prelude.{ℕ, ◌≤◌, ◌<◌, List, [], ◌∷◌, Bool, false, ◌&&◌, ◌||◌, not, ◌≡◌, eqb, length, get_or, take}
use Rattle.language.specs.Limits.{max_words, max_marks}
use Rattle.language.specs.Words.{meet}

-- does the word v of identifier o share a valuation with one of another identifier?
abbrev pub clash_rows : ℕ → ℕ → List ℕ → List ℕ → List (List ℕ) → Bool
clash_rows n o v [] rs = false
clash_rows n o v (k ∷ ks) [] = false
clash_rows n o v (k ∷ ks) (r ∷ rs) = (not (eqb k o) && meet (take n r) v) || clash_rows n o v ks rs

-- the arrays, and a word of n marks
pub record Clashable (owners : List ℕ) (rows : List (List ℕ)) (count : ℕ) (row : List ℕ) (n : ℕ) : Type 0 where
  pub short : n ≤ max_marks
  pub full : length row ≡ max_marks
  pub small : count ≤ max_words
  pub few : count ≤ length owners
  pub few' : count ≤ length rows
  pub each : (j : ℕ) → j < length rows → length (get_or rows j []) ≡ max_marks

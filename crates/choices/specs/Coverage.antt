-- Words as rows of marks in an array, from a bit on.
use Rattle.std.specs.Prelude.{ℕ, ◌≤◌, ◌<◌, Bool, false, not, List, [], ◌∷◌, map, ◌≡◌, length, get_or, take}
use Rattle.std.proofs.Math.Seq.{slice}
use Rattle.language.specs.Limits.{max_words, max_marks}
use Rattle.language.specs.Numbering.{Mark, mark_of, covered}
use Rattle.language.specs.Lists.{All}

-- 'at most 16 words of 8 marks': as many rows, of which `count` are taken
pub record Rows (rows : List (List ℕ)) (count : ℕ) : Type 0 where
  pub few : count ≤ max_words
  pub all : length rows ≡ max_words
  pub each : (j : ℕ) → j < length rows → length (get_or rows j []) ≡ max_marks

-- the marks of a row's bits i to width
abbrev pub rest : ℕ → ℕ → List ℕ → List Mark
rest i width row = map mark_of (slice i width row)

unfoldable pub rests : ℕ → ℕ → List (List ℕ) → List (List Mark)
rests i width rows = map (rest i width) rows

-- the first k rows are these words, from bit i on
pub record Kept (words : List (List Mark)) (i width : ℕ) (rows : List (List ℕ)) (k : ℕ) : Type 0 where
  pub filled : Rows rows k
  pub same : rests i width (take k rows) ≡ words

-- how many marks the first word has
abbrev pub width_of : List (List ℕ) → ℕ
width_of [] = 0
width_of (r ∷ rs) = length r

-- what refusal 10 leaves
pub record Regular (rows : List (List ℕ)) : Type 0 where
  pub equal : All (λ (r : List ℕ). length r ≡ width_of rows) rows
  pub narrow : width_of rows ≤ max_marks
  pub few : length rows ≤ max_words

-- 'leaves some word unnamed'
abbrev pub unnamed : List (List ℕ) → Bool
unnamed [] = false
unnamed (r ∷ rs) = not (covered (length r) (map (map mark_of) (r ∷ rs)))

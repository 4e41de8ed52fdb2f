-- A recording that is longer than any of the format: its first bytes and its length decide the answer (document 01, refusal 20: '0 for the header; the length if
-- wrong'). So a file of any size is judged by its beginning. Laws in LongerLaws.
use Rattle.std.specs.Prelude.{ℕ, ◌≤◌, ◌≡◌, Bool, cond, ◌&&◌, List, eqb, leb, ltb, length, take}
use Rattle.node.specs.Result.{Result, Done, Refused}
use Rattle.recordings.specs.Limits.{longest, told}
use Rattle.judging.specs.Judging.{judging}

-- a recording begins with some bytes, which are all of it unless they are more than the longest has; its length is told
pub record Begins (start : List ℕ) (size : ℕ) (whole : List ℕ) : Type 0 where
  pub front : take (length start) whole ≡ start
  pub enough : length start ≤ longest → whole ≡ start
  pub sized : size ≡ told (length whole)

-- a refusal's place with another length in it: 20 tells one at any place but the header's
abbrev pub place_told : (size number place : ℕ) → ℕ
place_told size number place = cond (eqb number 20 && ltb 0 place) size place

abbrev pub moved : ℕ → Result Bool → Result Bool
moved size (Done b) = Done b
moved size (Refused number place) = Refused number (place_told size number place)

-- the verdict on a beginning: that of a whole recording where it is no more than the longest has, else the same with the told length in it
abbrev pub judging_start : (text start : List ℕ) (size work : ℕ) → Result Bool
judging_start text start size work = cond (leb (length start) longest) (judging text start work) (moved size (judging text start work))

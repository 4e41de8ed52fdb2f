-- What readings do where the reader's bytes are known.
use Rattle.std.specs.Prelude.{ℕ, ◌+◌, ◌<◌, ◌≡◌, min, max, List, length, take, drop, Result, Option, IfOk, IfSome}
use Rattle.std.specs.Io.KnownBytes.{Consumes, IsAtEnd}
use Rattle.basics.specs.Told.{max_told}

-- A read into a buffer from an index on: what stands before the index stays; the bytes that were read stand from there on, and none are read only at the input's end or
-- without room.
pub record ReadsAt {E : Type 0} (left left' : Option (List ℕ)) (from : ℕ) (buf buf' : List ℕ) (r : Result ℕ E) : Type 0 where
  pub front : take from buf' ≡ take from buf
  pub bytes : IfOk r (λ n. Consumes left left' (take n (drop from buf')))
  pub end : IfOk r (λ n. n ≡ 0 → from < length buf → IsAtEnd left')

-- Some bytes and all that are left, counted up to what an answer can tell.
abbrev pub CountsAll : {E : Type 0} → Option (List ℕ) → ℕ → Result ℕ E → Type 0
CountsAll left first r = IfOk r (λ n. IfSome left (λ xs. n ≡ max first (min max_told (first + length xs))))

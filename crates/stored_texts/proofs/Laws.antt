-- What is left of a list is one element shorter with each turn of a loop over it.
use Rattle.std.specs.Prelude.{ℕ, ◌+◌, ◌≤◌, ◌<◌, List, ◌≡◌, refl, true, length, drop, get_or, eqb}
use Rattle.std.proofs.Common.{◌∙◌, sym, drop-cons, drop_of_length-le, arith}
use Rattle.stored_texts.specs.Checksum.{mixed_all, checksum}
use Rattle.stored_texts.specs.Pieces.{before, place_of, Found}

-- no byte passed since a place is the one looked for
pub record Seeking (b : ℕ) (file : List ℕ) (at i : ℕ) : Type 0 where
  pub same : i + before b (drop i file) ≡ at + before b (drop at file)
  pub onward : at ≤ i
  pub inside : i ≤ length file

module _ {b : ℕ} {file : List ℕ} {at i : ℕ} (s : Seeking b file at i) where
  pub seeking_stop : i < length file → eqb (get_or file i 0) b ≡ true → Found b file at i
  unfolding place_of
  seeking_stop h e =
      let none : before b (drop i file) ≡ 0 = rw (drop-cons file i 0 h, e, before) in
      let same = s.same in
      record { place = omega arith; onward = s.onward; inside = s.inside }

  pub seeking_end : length file ≤ i → Found b file at i
  unfolding place_of
  seeking_end h =
      let none : before b (drop i file) ≡ 0 = rw (drop_of_length-le file h, before) in
      let same = s.same in
      record { place = omega arith; onward = s.onward; inside = s.inside }

-- the sum so far, and what is left of the words, give the checksum of all
pub record Summing (words : List ℕ) (sum i : ℕ) : Type 0 where
  pub same : mixed_all sum (drop i words) ≡ checksum words
  pub inside : i ≤ length words

pub summing_start : (words : List ℕ) → Summing words 0 0
unfolding checksum
summing_start words = record { same = refl; inside = omega arith }

module _ {words : List ℕ} {sum i : ℕ} (s : Summing words sum i) where
  pub summing_end : length words ≤ i → sum ≡ checksum words
  summing_end h =
      let none : mixed_all sum (drop i words) ≡ sum = rw (drop_of_length-le words h, mixed_all) in
      sym none ∙ s.same

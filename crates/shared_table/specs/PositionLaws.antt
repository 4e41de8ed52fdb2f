-- The place of a word in a table, by the words before it.
use Rattle.std.specs.Prelude.{ℕ, ◌<◌, ◌≤◌, List, ◌≢◌, ◌≡◌, length, get_or}
use Rattle.std.proofs.Math.Decide.{dec_lt}
use Rattle.std.proofs.Common.{arith}
use Rattle.sharing.specs.Sharing.{position}
use Rattle.sharing.proofs.PlaceLaws.{position-most, word_at, first-place}

-- where the word stands first
pub position_first : (t : List ℕ) (w k : ℕ) → k < length t → get_or t k 0 ≡ w → ((i : ℕ) → i < k → get_or t i 0 ≢ w) → position t w ≡ k
position_first t w k h e f = go (first-place t w k h e) (dec_lt (position t w) k)
  where
    go : position t w ≤ k → Dec (position t w < k) → position t w ≡ k
    go m (yes l) = absurd (f (position t w) l (word_at t w (omega arith)))
    go m (no n) = omega arith

-- where it does not stand
pub position_none : (t : List ℕ) (w : ℕ) → ((i : ℕ) → i < length t → get_or t i 0 ≢ w) → position t w ≡ length t
position_none t w f = go (position-most t w) (dec_lt (position t w) (length t))
  where
    go : position t w ≤ length t → Dec (position t w < length t) → position t w ≡ length t
    go m (yes l) = absurd (f (position t w) l (word_at t w l))
    go m (no n) = omega arith

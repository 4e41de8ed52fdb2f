-- What frames make of a result.
use Rattle.std.specs.Prelude.{ℕ, ◌≡◌}
use mathlib.Core.List.{List, [], ◌∷◌}
use Rattle.std.proofs.Common.{subst}
use Rattle.node.specs.Result.{Result, Done, Refused, ◌>>=◌}
use Rattle.machine.specs.Came.{Came}
use Rattle.machine.specs.Frames.{Frame, apply, Kept, Means}

module _ (x : Result Came) where
  pub means_as : (Fs : List Frame) {r t : Result Came} → r ≡ t → Means x Fs r → Means x Fs t
  means_as Fs e m = subst (Means x Fs) e m

  pub means_none : (r : Result Came) → Means x [] r → x ≡ r
  unfolding Means
  means_none r m = m

  pub means_refused : (Fs : List Frame) (number place : ℕ) → Means x Fs (Refused number place) → x ≡ Refused number place
  unfolding Means ◌>>=◌
  means_refused [] n p m = m
  means_refused (F ∷ Fs) n p m = means_refused Fs n p m.1

  pub means_push : (F : Frame) (Fs : List Frame) {r : Result Came} (t : Result Came) → r ≡ (t >>= apply F) → Kept F t → Means x Fs r → Means x (F ∷ Fs) t
  unfolding Means
  means_push F Fs t e k m = (k, means_as Fs e m)

  pub means_take : (F : Frame) (Fs : List Frame) (v : Came) → Means x (F ∷ Fs) (Done v) → Means x Fs (apply F v)
  unfolding Means ◌>>=◌
  means_take F Fs v m = m.1

  pub means_kept : (F : Frame) (Fs : List Frame) (r : Result Came) → Means x (F ∷ Fs) r → Kept F r
  unfolding Means
  means_kept F Fs r m = m.0

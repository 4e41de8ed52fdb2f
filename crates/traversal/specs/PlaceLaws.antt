-- The code's places, and the first place in a list.
use Prim.Native.Nat.{ℕ}
use Rattle.std.specs.Prelude.{List, [], ◌∷◌, ◌++◌, ◌≡◌, refl, Some, None}
use Rattle.std.proofs.Math.Option.{Option, none, some}
use Rattle.std.proofs.Math.Path.{sym, ap}
use Rattle.std.proofs.Common.{◌∙◌}
use Rattle.language.specs.Places.{first, first_in}
use Rattle.language.proofs.Laws.Basics.NoPlace.{first_assoc}
use Rattle.traversal.specs.Places.{Place, placed, place_in}

pub place-placed : (o : Option ℕ) → place_in (placed o) ≡ o
unfolding placed place_in
place-placed none = refl
place-placed (some p) = refl

pub placed-place : (r : Place) → placed (place_in r) ≡ r
unfolding placed place_in
placed-place None = refl
placed-place (Some p) = refl

pub first_in-nowhere : {A : Type 0} (xs : List A) → first_in (λ _. none) xs ≡ none
first_in-nowhere [] = refl
first_in-nowhere (x ∷ xs) = first_in-nowhere xs

pub first_in-append : {A : Type 0} (f : A → Option ℕ) (xs ys : List A) → first_in f (xs ++ ys) ≡ first (first_in f xs) (first_in f ys)
first_in-append f [] ys = refl
first_in-append f (x ∷ xs) ys = ap (first (f x)) (first_in-append f xs ys) ∙ sym (first_assoc (f x) (first_in f xs) (first_in f ys))

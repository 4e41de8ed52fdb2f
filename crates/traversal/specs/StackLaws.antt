-- A stack of things of which the code keeps a number each in an array: the part that operands take, and what is pushed in their place.
use Rattle.std.specs.Prelude.{ℕ, zero, suc, ◌+◌, ◌≤◌, ◌<◌, List, [], ◌∷◌, ◌++◌, map, ◌≡◌, refl, length, get_or, take, drop, set}
use Rattle.std.proofs.lemmas.List.{map-append}
use Rattle.std.proofs.Common.{sym, ap, ap₂, ◌∙◌, add-one, arith, length-take, drop_of_length-le, take-take, take-suc-set}
use Rattle.std.proofs.Math.Seq.{slice, slice-cons}
use Rattle.traversal.specs.Starts.{first_of}

map-take : {A B : Type 0} (f : A → B) (n : ℕ) (xs : List A) → take n (map f xs) ≡ map f (take n xs)
map-take f zero xs = refl
map-take f (suc n) [] = refl
map-take f (suc n) (x ∷ xs) = ap (λ l. f x ∷ l) (map-take f n xs)

map-drop : {A B : Type 0} (f : A → B) (n : ℕ) (xs : List A) → drop n (map f xs) ≡ map f (drop n xs)
map-drop f zero xs = refl
map-drop f (suc n) [] = refl
map-drop f (suc n) (x ∷ xs) = map-drop f n xs

-- `top` things are on the stack, those from m on are operands
module _ {A : Type 0} (f : A → ℕ) (xs : List A) (ns : List ℕ) (top m : ℕ) (e : take top ns ≡ map f xs) where
  pub stack_part : slice m top ns ≡ map f (drop m xs)
  stack_part = ap (drop m) e ∙ map-drop f m xs

  module _ (below : m ≤ top) where
    pub stack-below : take m ns ≡ map f (take m xs)
    stack-below = sym (take-take m top ns below) ∙ ap (take m) e ∙ map-take f m xs

    pub stack_push : (a : A) (n : ℕ) → m < length ns → n ≡ f a → take (m + 1) (set ns m n) ≡ map f (take m xs ++ (a ∷ []))
    stack_push a n room h =
        ap (λ k. take k (set ns m n)) (add-one m) ∙ take-suc-set ns m n room ∙ ap₂ (λ l v. l ++ (v ∷ [])) stack-below h ∙ sym (map-append f (take m xs) (a ∷ []))

-- the first number of a part
pub no_part : (ns : List ℕ) (from to : ℕ) → to ≤ from → slice from to ns ≡ []
no_part ns from to h = let few : length (take to ns) ≤ from = omega (arith, length-take to ns) in drop_of_length-le (take to ns) few

pub first_part_lem : (ns : List ℕ) (from to : ℕ) → to ≤ length ns → from < to → get_or ns from 0 ≡ first_of (slice from to ns)
first_part_lem ns from to few inside = sym (ap first_of (slice-cons from to ns 0 inside few))

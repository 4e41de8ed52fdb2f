-- What comes next at nodes of each shape, worked out.
use Rattle.std.specs.Prelude.{ℕ, ◌≡◌, refl, List, [], ◌∷◌}
use Rattle.node.specs.Fields.{pack}
use Rattle.ordering.specs.declared.Next.TheVariants.{Operand, Word}
use Rattle.ordering.specs.Ordering.{next_of}

-- node 0 has number 4 and node 2 number 0; nodes 1 and 3 have none
abbrev memo : List ℕ
memo = 5 ∷ 0 ∷ 1 ∷ 0 ∷ []

-- a leaf's field is no operand
leaf : next_of memo (pack 2 1 0) ≡ Word (pack 2 1 0)
unfolding next_of
leaf = refl

-- one operand, without a number and with one
one_without : next_of memo (pack 8 1 0) ≡ Operand 1
unfolding next_of
one_without = refl

one-with : next_of memo (pack 8 0 0) ≡ Word (pack 8 4 0)
unfolding next_of
one-with = refl

-- the left operand before the right one
neither : next_of memo (pack 4 3 1) ≡ Operand 3
unfolding next_of
neither = refl

right_without : next_of memo (pack 4 0 3) ≡ Operand 3
unfolding next_of
right_without = refl

both-with : next_of memo (pack 4 2 0) ≡ Word (pack 4 0 4)
unfolding next_of
both-with = refl

-- What a form rules out, worked out.
use Rattle.std.specs.Prelude.{ℕ, ◌≡◌, refl, Bool, true, false, List, [], ◌∷◌}
use Rattle.node.specs.Ltl.{Not, Iff}
use Rattle.node.specs.Fields.{pack}
use Rattle.node.specs.Kinds.{Atom, UnaryOf, BinaryOf, shape_of}
use Rattle.forms.specs.Forbidden.{forbids, tally, forbidden}

-- a `!` on a signal, a `!` on true and an `->`: negation form rules out two, core form one
mixed : List ℕ
mixed = pack 2 0 0 ∷ pack 3 0 0 ∷ pack 0 0 0 ∷ pack 3 2 0 ∷ pack 6 1 3 ∷ []

negation_rules_out : forbidden 1 mixed ≡ 2
unfolding mixed tally
negation_rules_out = refl

core_rules_out : forbidden 2 mixed ≡ 1
unfolding mixed tally
core_rules_out = refl

-- those of the numbers that pass the test
those : (ℕ → Bool) → List ℕ → List ℕ
those test [] = []
those test (n ∷ ns) = elim (test n) [ true ↦ n ∷ those test ns | false ↦ those test ns ]

-- 'Kinds: 0 true, 1 false, 2 signal .. 13 W', and 14, which is no kind
kinds : List ℕ
kinds = 0 ∷ 1 ∷ 2 ∷ 3 ∷ 4 ∷ 5 ∷ 6 ∷ 7 ∷ 8 ∷ 9 ∷ 10 ∷ 11 ∷ 12 ∷ 13 ∷ 14 ∷ []

-- the kinds that a form rules out above a signal
ruled_out : ℕ → List ℕ
ruled_out form = those (λ kind. forbids form (shape_of kind) Atom) kinds

-- the kinds above which a form rules out a `!`
not_under_not : ℕ → List ℕ
not_under_not form = those (λ kind. forbids form (UnaryOf Not) (shape_of kind)) kinds

-- '0: as expanded'
expanded_kinds : ruled_out 0 ≡ []
unfolding those kinds ruled_out
expanded_kinds = refl

-- 'no `->`, no `<->`'
negation_kinds : ruled_out 1 ≡ 6 ∷ 7 ∷ []
unfolding those kinds ruled_out
negation_kinds = refl

-- whatever its first operand is
negation_equivalence : forbids 1 (BinaryOf Iff) (UnaryOf Not) ≡ true
negation_equivalence = refl

-- '`!` only on signals'
negation_not : not_under_not 1 ≡ 0 ∷ 1 ∷ 3 ∷ 4 ∷ 5 ∷ 6 ∷ 7 ∷ 8 ∷ 9 ∷ 10 ∷ 11 ∷ 12 ∷ 13 ∷ 14 ∷ []
unfolding those kinds not_under_not
negation_not = refl

-- 'only true, signal, `!`, `||`, X, U'
core-kinds : ruled_out 2 ≡ 1 ∷ 4 ∷ 6 ∷ 7 ∷ 9 ∷ 10 ∷ 12 ∷ 13 ∷ 14 ∷ []
unfolding those kinds ruled_out
core-kinds = refl

core-not : not_under_not 2 ≡ []
unfolding those kinds not_under_not
core-not = refl

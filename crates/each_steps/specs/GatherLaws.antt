-- `&&[..]` and `||[..]` element by element: what is gathered and then joined is folded as it comes.
use Rattle.std.specs.Prelude.{ℕ, ◌<◌, List, [], ◌∷◌, ◌≡◌, refl, eqb}
use Rattle.std.proofs.Common.{arith}
use Rattle.node.specs.Operators.{Binary, And, Or}
use Rattle.node.specs.Ltl.{Formula, Two}
use Rattle.node.specs.Kinds.{binary_kind}
use Rattle.node.specs.Result.{Result, Done, Refused, ◌>>=◌}
use Rattle.language.specs.Operators.{Big, BigSum, BigProduct, BigCap, BigCup, BigAnd, BigOr}
use Rattle.language.specs.Values.{misfit}
use Rattle.language.specs.Expansion.{truth, joined, conjunction, disjunction, gather, big_formula}
use Rattle.entries.specs.Kinds as Kind
use Rattle.operators.specs.Codes.{big_code}
use Rattle.machine.specs.Came.{Came, nodes, as_formula}
use Rattle.machine.specs.Frames.{connective}
use Rattle.machine.specs.Stack.{OfFormulas}

-- the code of the operator that is folded with is its nodes' kind
pub connective-code : (o : Big) → OfFormulas o → big_code o ≡ binary_kind (connective o)
connective-code BigSum w = absurd w
connective-code BigProduct w = absurd w
connective-code BigCap w = absurd w
connective-code BigCup w = absurd w
connective-code BigAnd w = refl
connective-code BigOr w = refl

-- numbers and sets make no formula
pub no_formulas : (o : Big) → Kind.big o < Kind.big_formulas → (f : ℕ → Result Formula) (s : List ℕ) → big_formula o f s ≡ misfit
no_formulas BigSum l f s = refl
no_formulas BigProduct l f s = refl
no_formulas BigCap l f s = refl
no_formulas BigCup l f s = refl
no_formulas BigAnd l f s = absurd (omega arith)
no_formulas BigOr l f s = absurd (omega arith)

-- over nothing
pub over_nothing_lem : (o : Big) → OfFormulas o → (f : ℕ → Result Formula) → (big_formula o f [] >>= nodes) ≡ nodes (truth (eqb (big_code o) (binary_kind And)))
unfolding ◌>>=◌
over_nothing_lem BigSum w f = absurd w
over_nothing_lem BigProduct w f = absurd w
over_nothing_lem BigCap w f = absurd w
over_nothing_lem BigCup w f = absurd w
over_nothing_lem BigAnd w f = refl
over_nothing_lem BigOr w f = refl

-- the rest of a fold, where a was folded before
abbrev pub onwards : Binary → (ℕ → Result Formula) → List ℕ → Formula → Result Came
onwards o f rest a = gather f rest >>= λ fs. nodes (joined o a fs)

-- the first element
pub first-same : (o : Big) → OfFormulas o → (f : ℕ → Result Formula) (v : ℕ) (rest : List ℕ) → (big_formula o f (v ∷ rest) >>= nodes) ≡ ((f v >>= nodes) >>= λ u. as_formula u >>= onwards (connective o) f rest)
unfolding ◌>>=◌
first-same BigSum w f v rest = absurd w
first-same BigProduct w f v rest = absurd w
first-same BigCap w f v rest = absurd w
first-same BigCup w f v rest = absurd w
first-same BigAnd w f v rest = go (f v) (gather f rest)
  where
    go : (x : Result Formula) (y : Result (List Formula)) → (((x >>= λ b. y >>= λ bs. Done (b ∷ bs)) >>= λ fs. Done (conjunction fs)) >>= nodes)
        ≡ ((x >>= nodes) >>= λ u. as_formula u >>= λ a. y >>= λ fs. nodes (joined And a fs))
    go (Refused n p) y = refl
    go (Done a) (Refused n p) = refl
    go (Done a) (Done fs) = refl
first-same BigOr w f v rest = go (f v) (gather f rest)
  where
    go : (x : Result Formula) (y : Result (List Formula)) → (((x >>= λ b. y >>= λ bs. Done (b ∷ bs)) >>= λ fs. Done (disjunction fs)) >>= nodes)
        ≡ ((x >>= nodes) >>= λ u. as_formula u >>= λ a. y >>= λ fs. nodes (joined Or a fs))
    go (Refused n p) y = refl
    go (Done a) (Refused n p) = refl
    go (Done a) (Done fs) = refl

-- a further element
pub next-same : (o : Binary) (f : ℕ → Result Formula) (v : ℕ) (rest : List ℕ) (a : Formula)
    → onwards o f (v ∷ rest) a ≡ ((f v >>= nodes) >>= λ u. as_formula u >>= λ g. onwards o f rest (Two o a g))
unfolding ◌>>=◌
next-same o f v rest a = go (f v) (gather f rest)
  where
    go : (x : Result Formula) (y : Result (List Formula)) → ((x >>= λ b. y >>= λ bs. Done (b ∷ bs)) >>= λ fs. nodes (joined o a fs))
        ≡ ((x >>= nodes) >>= λ u. as_formula u >>= λ g. y >>= λ fs. nodes (joined o (Two o a g) fs))
    go (Refused n p) y = refl
    go (Done g) (Refused n p) = refl
    go (Done g) (Done fs) = refl

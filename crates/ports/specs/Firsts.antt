-- The number of each name's first signal, by the name's number.
use Rattle.std.specs.Prelude.{ℕ, ◌+◌, List, [], ◌∷◌, ◌≡◌, set}
use Rattle.language.specs.Tokens.{Token}
use Rattle.language.specs.DeclaredNames.{Port}
use Rattle.language.specs.Numbering.{signals_of}
use Rattle.language.specs.Lists.{All}

-- 'Signals number from 0, inputs first, a bus taking consecutive numbers': the first of these ports has the signal number n
abbrev pub numbered_from : (Token → ℕ) → ℕ → List Port → List ℕ → List ℕ
numbered_from R n [] firsts = firsts
numbered_from R n (p ∷ ps) firsts = numbered_from R (n + signals_of p) ps (set firsts (R p.name) n)

-- names of different numbers
abbrev pub Separate : (Token → ℕ) → List Port → Type 0
Separate R [] = Unit {0}
Separate R (p ∷ ps) = All (λ q. R p.name ≡ R q.name → ⊥) ps × Separate R ps

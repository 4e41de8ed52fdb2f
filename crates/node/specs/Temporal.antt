-- The temporal operators of document 001, Appendix A.1, on properties of positions.
use Rattle.std.specs.Prelude.{ℕ, ◌≤◌, ◌<◌}
use Rattle.node.specs.Logic.{Either, Some}

-- what holds at a position, and what does not
abbrev pub Property : Type 1
Property = ℕ → Type 0

-- G: P at each position from t on
abbrev pub Always : Property → Property
Always P t = (n : ℕ) → t ≤ n → P n

-- F: P at some position from t on
abbrev pub Eventually : Property → Property
Eventually P t = Some (λ n. (t ≤ n) × P n)

-- U: 'there is n ≥ i with the second at n, and the first at each j, i ≤ j < n'
abbrev pub Until : Property → Property → Property
Until P Q t = Some (λ n. (t ≤ n) × Q n × ((j : ℕ) → t ≤ j → j < n → P j))

-- R: 'a R b is !(!a U !b)'
abbrev pub Release : Property → Property → Property
Release P Q t = ¬ Until (λ n. ¬ P n) (λ n. ¬ Q n) t

-- W: 'a W b is (a U b) or G a'
abbrev pub WeakUntil : Property → Property → Property
WeakUntil P Q t = Either (Until P Q t) (Always P t)

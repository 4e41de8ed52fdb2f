-- How many operands an entry has, by its kind. Two kinds vary: a set in braces may be empty, and an element of a set has the elements behind it for a second operand,
-- or none if it is the last. The elements behind it are the entry before.
use Rattle.std.specs.Prelude.{ℕ, List, [], ◌∷◌, eqb, get_or}
use Rattle.language.specs.Bytes.{if◌then◌otherwise◌}
use Rattle.entries.specs.Kinds as Kind
use Rattle.traversal.specs.declared.Cell.{Cell}

-- by kind: leaves; an index, a parenthesis, operators before; operators between; `X[n]`, windows; big operators, their names; bounds; sets; lines
abbrev pub arities : List ℕ
arities =
    0 ∷ 0 ∷ 0 ∷ 0 ∷ 1 ∷ 1 ∷ 1 ∷ 1 ∷ 1 ∷ 1 ∷ 1 ∷ 1 ∷ 1 ∷ 1 ∷ 2 ∷ 2 ∷
    2 ∷ 2 ∷ 2 ∷ 2 ∷ 2 ∷ 2 ∷ 2 ∷ 2 ∷ 2 ∷ 2 ∷ 2 ∷ 2 ∷ 2 ∷ 2 ∷ 2 ∷ 2 ∷
    2 ∷ 2 ∷ 2 ∷ 2 ∷ 2 ∷ 3 ∷ 3 ∷ 2 ∷ 2 ∷ 2 ∷ 2 ∷ 2 ∷ 2 ∷ 1 ∷ 1 ∷ 2 ∷
    2 ∷ 2 ∷ 2 ∷ 1 ∷ 1 ∷ 3 ∷ 1 ∷ 1 ∷ 0 ∷ 0 ∷ 0 ∷ 0 ∷ 1 ∷ 1 ∷ 1 ∷ 0 ∷ []

unfoldable pub operands : ℕ → Cell → ℕ
operands before c =
    if eqb c.kind Kind.element then (if eqb before Kind.element then 2 otherwise 1) otherwise (
    if eqb c.kind Kind.listed then (if eqb c.size 1 then 0 otherwise 1) otherwise get_or arities c.kind 0)

-- lines come behind what stands in them
abbrev pub first_line : ℕ
first_line = Kind.parameter

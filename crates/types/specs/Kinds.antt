-- What an entry gives and what it takes, by its kind, in the numbers of Codes.
use Rattle.std.specs.Prelude.{ℕ, List, [], ◌∷◌, Bool, true, eqb, ltb, get_or, drop}
use Rattle.std.proofs.Math.Option.{Option, none, some}
use Rattle.node.specs.BitFields.{above, below}
use Rattle.language.specs.Bytes.{if◌then◌otherwise◌}
use Rattle.language.specs.Places.{first, unless}
use Rattle.language.specs.Limits.{max_names}
use Rattle.lexer.specs.Stored.{offset_bits}
use Rattle.entries.specs.Kinds as Kind
use Rattle.traversal.specs.Starts.{first_of}
use Rattle.types.specs.Codes.{
  a_number,
  a_set,
  a_formula,
  a_bus,
  a_value,
  a_type,
  gives_name,
  gives_operand,
  gives_nothing,
  takes_any,
  takes_definable,
  first_undefinable,
  takes_sides,
  takes_index,
}

-- by kind: the type of what an entry gives; gives_name for a name's own, gives_operand for that of the operand, gives_nothing for a line
abbrev pub giving : List ℕ
giving =
    gives_name ∷ a_number ∷ a_formula ∷ a_formula ∷ a_formula ∷ gives_operand ∷ a_number ∷ a_number ∷ a_number ∷ a_number ∷ a_formula ∷ a_formula ∷ a_formula ∷ a_formula ∷ a_number ∷ a_number ∷
    a_number ∷ a_number ∷ a_number ∷ a_set ∷ a_set ∷ a_set ∷ a_formula ∷ a_formula ∷ a_formula ∷ a_formula ∷ a_formula ∷ a_formula ∷ a_formula ∷ a_formula ∷ a_formula ∷ a_formula ∷
    a_formula ∷ a_formula ∷ a_formula ∷ a_formula ∷ a_formula ∷ a_formula ∷ a_formula ∷ a_number ∷ a_number ∷ a_set ∷ a_set ∷ a_formula ∷ a_formula ∷ a_set ∷ a_set ∷ a_set ∷
    a_set ∷ a_set ∷ a_set ∷ a_set ∷ a_set ∷ a_set ∷ gives_nothing ∷ gives_nothing ∷ gives_nothing ∷ gives_nothing ∷ gives_nothing ∷ gives_nothing ∷ gives_nothing ∷ gives_nothing ∷ gives_nothing ∷ gives_nothing ∷ []

-- by kind: the type of the last operand, and of those before it; takes_any for any, takes_definable for one that 'a definition is', takes_sides before the last
-- for two sides of an equation, takes_index for an index, which stands on a bus
abbrev pub last_takes : List ℕ
last_takes =
    takes_any ∷ takes_any ∷ takes_any ∷ takes_any ∷ a_number ∷ takes_any ∷ a_set ∷ a_set ∷ a_set ∷ a_bus ∷ a_formula ∷ a_formula ∷ a_formula ∷ a_formula ∷ a_number ∷ a_number ∷
    a_number ∷ a_number ∷ a_number ∷ a_set ∷ a_set ∷ a_set ∷ takes_any ∷ takes_any ∷ a_number ∷ a_number ∷ a_number ∷ a_number ∷ a_set ∷ a_formula ∷ a_formula ∷ a_formula ∷
    a_formula ∷ a_formula ∷ a_formula ∷ a_formula ∷ a_formula ∷ a_formula ∷ a_formula ∷ a_number ∷ a_number ∷ a_set ∷ a_set ∷ a_formula ∷ a_formula ∷ a_set ∷ a_set ∷ a_number ∷
    a_number ∷ a_number ∷ a_number ∷ takes_any ∷ a_number ∷ a_number ∷ a_number ∷ takes_definable ∷ takes_any ∷ takes_any ∷ takes_any ∷ takes_any ∷ a_number ∷ a_type ∷ a_formula ∷ takes_any ∷ []

abbrev pub other_takes : List ℕ
other_takes =
    takes_any ∷ takes_any ∷ takes_any ∷ takes_any ∷ takes_index ∷ takes_any ∷ takes_any ∷ takes_any ∷ takes_any ∷ takes_any ∷ takes_any ∷ takes_any ∷ takes_any ∷ takes_any ∷ a_number ∷ a_number ∷
    a_number ∷ a_number ∷ a_number ∷ a_set ∷ a_set ∷ a_set ∷ takes_sides ∷ takes_sides ∷ a_number ∷ a_number ∷ a_number ∷ a_number ∷ a_number ∷ a_formula ∷ a_formula ∷ a_formula ∷
    a_formula ∷ a_formula ∷ a_formula ∷ a_formula ∷ a_number ∷ a_number ∷ a_number ∷ takes_any ∷ takes_any ∷ takes_any ∷ takes_any ∷ takes_any ∷ takes_any ∷ takes_any ∷ takes_any ∷ a_number ∷
    a_number ∷ a_number ∷ a_number ∷ takes_any ∷ a_number ∷ a_number ∷ takes_any ∷ takes_any ∷ takes_any ∷ takes_any ∷ takes_any ∷ takes_any ∷ takes_any ∷ takes_any ∷ takes_any ∷ takes_any ∷ []

-- what an entry of kind k gives, with the type of its name and of its first operand
unfoldable pub gives_of : ℕ → ℕ → ℕ → ℕ
gives_of k name operand =
    if eqb (get_or giving k 0) gives_name then name otherwise (
    if eqb (get_or giving k 0) gives_operand then operand otherwise get_or giving k 0)

-- does a type fit what is taken?
unfoldable pub fits : ℕ → ℕ → Bool
fits d k = if eqb d takes_any then true otherwise (if eqb d takes_definable then ltb k first_undefinable otherwise eqb d k)

-- the operands of n, of which an element of a set takes the elements behind it as they are
unfoldable pub takes_last : ℕ → ℕ → ℕ
takes_last k n = if eqb k Kind.element then (if eqb n 2 then takes_any otherwise a_number) otherwise get_or last_takes k 0

abbrev pub demand : ℕ → ℕ → List ℕ → ℕ
demand other last [] = last
demand other last (k ∷ ks) = other

-- the first operand of a wrong type
abbrev pub misfits : ℕ → ℕ → List ℕ → List ℕ → Option ℕ
misfits other last [] ss = none
misfits other last (k ∷ ks) ss = first (unless (fits (demand other last ks) k) (first_of ss)) (misfits other last ks (drop 1 ss))

-- `==` and `!=`
unfoldable pub sides_of : ℕ → ℕ → ℕ → ℕ → Option ℕ
sides_of a b s t =
    if eqb a a_number then unless (fits a_number b) t otherwise (
    if eqb a a_bus then unless (fits a_value b) t otherwise (
    if eqb a a_value then unless (fits a_bus b) t otherwise some s))

-- an index stands on a bus
unfoldable pub indexed : ℕ → ℕ → ℕ → Option ℕ
indexed k name place = if eqb (get_or other_takes k 0) takes_index then unless (fits a_bus name) place otherwise none

-- an entry's name, as the pass sees it: its reference above the bits of its token's place
abbrev pub place_of : ℕ → ℕ
place_of x = below offset_bits x

abbrev pub reference_of : ℕ → ℕ
reference_of x = above offset_bits x

-- the type of a name by its reference: of a declared name from the table, of a big operator's a number
unfoldable pub type_at : List ℕ → ℕ → ℕ
type_at table r = if ltb r max_names then get_or table r 0 otherwise a_number

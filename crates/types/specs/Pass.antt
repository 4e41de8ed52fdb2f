-- Refusal 9, 'operand, width, declaring type or a line's expression of a wrong type', as one pass over the entries: of each operand on the stack its type and where it starts.
use Rattle.std.specs.Prelude.{ℕ, ◌-◌, List, [], ◌∷◌, ◌++◌, map, eqb, ltb, length, get_or, take, drop, set}
use Rattle.std.proofs.Math.Option.{Option}
use Rattle.language.specs.Bytes.{if◌then◌otherwise◌}
use Rattle.language.specs.Places.{first}
use Rattle.entries.specs.Kinds as Kind
use Rattle.traversal.specs.declared.Cell.{Cell}
use Rattle.traversal.specs.Arity.{operands, first_line}
use Rattle.traversal.specs.Starts.{start_of, first_of}
use Rattle.types.specs.Codes.{takes_sides}
use Rattle.types.specs.Kinds.{other_takes, gives_of, takes_last, misfits, sides_of, indexed, place_of, reference_of, type_at}

pub record Operand : Type 0 where
  pub type : ℕ
  pub start : ℕ

-- `table`: the types of declared names by their references
pub record State : Type 0 where
  pub before : ℕ
  pub stack : List Operand
  pub found : Option ℕ
  pub table : List ℕ

abbrev pub types_of : List Operand → List ℕ
types_of xs = map (λ (x : Operand). x.type) xs

abbrev pub starts_of : List Operand → List ℕ
starts_of xs = map (λ (x : Operand). x.start) xs

unfoldable pub node : List ℕ → Cell → List Operand → Operand
node table c xs =
    record {
      type = gives_of c.kind (type_at table (reference_of c.token)) (first_of (types_of xs));
      start = start_of c.kind (place_of c.token) (first_of (starts_of xs));
    }

-- what is wrong with the operands of types ks that start at ss
unfoldable pub wrong_at : ℕ → List ℕ → List ℕ → Option ℕ
wrong_at k ks ss =
    if eqb (get_or other_takes k 0) takes_sides then sides_of (first_of ks) (first_of (drop 1 ks)) (first_of ss) (first_of (drop 1 ss)) otherwise misfits (get_or other_takes k 0) (takes_last k (length ks)) ks ss

abbrev pub fault : List ℕ → Cell → List Operand → Option ℕ
fault table c xs =
    first (indexed c.kind (type_at table (reference_of c.token)) (place_of c.token)) (wrong_at c.kind (types_of xs) (starts_of xs))

-- a definition has the type of its expression
unfoldable pub table_of : List ℕ → ℕ → ℕ → ℕ → List ℕ
table_of table k token type = if eqb k Kind.definition then set table (reference_of token) type otherwise table

abbrev pub table_after : List ℕ → Cell → List Operand → List ℕ
table_after table c xs = table_of table c.kind c.token (first_of (types_of xs))

-- the state after an entry whose operands stand from m on; a line leaves nothing on the stack
abbrev pub stepped : Cell → State → ℕ → State
stepped c s m =
    let xs = drop m s.stack in
    record {
      before = c.kind;
      stack = if ltb c.kind first_line then take m s.stack ++ (node s.table c xs ∷ []) otherwise take m s.stack;
      found = first s.found (fault s.table c xs);
      table = table_after s.table c xs;
    }

unfoldable pub step : Cell → State → State
step c s = stepped c s (length s.stack - operands s.before c)

abbrev pub state : List ℕ → ℕ → List Operand → Option ℕ → State
state table before stack found = record { before = before; stack = stack; found = found; table = table }

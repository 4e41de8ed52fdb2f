-- Refusal 5, 'tree too deep', as one pass over the entries: of each operand on the stack its levels and where it starts.
use Rattle.std.specs.Prelude.{ℕ, suc, ◌-◌, min, max, List, [], ◌∷◌, ◌++◌, map, false, eqb, leb, ltb, length, get_or, take, drop}
use Rattle.std.proofs.Math.Option.{Option, none}
use Rattle.language.specs.Limits.{max_levels}
use Rattle.language.specs.Bytes.{if◌then◌otherwise◌}
use Rattle.language.specs.Places.{first, unless}
use Rattle.lexer.specs.Stored.{offset_in}
use Rattle.entries.specs.Kinds as Kind
use Rattle.traversal.specs.declared.Cell.{Cell}
use Rattle.traversal.specs.Arity.{operands, first_line}
use Rattle.traversal.specs.Starts.{start_of, first_of}

-- levels are counted up to one more than are allowed
pub record Operand : Type 0 where
  pub level : ℕ
  pub start : ℕ

pub record State : Type 0 where
  pub before : ℕ
  pub stack : List Operand
  pub found : Option ℕ

abbrev pub capped : ℕ → ℕ
capped n = min n (suc max_levels)

-- by kind: 1 if the entry is a level of its own, 0 if not, 2 if that depends on its first operand: a big operator is one, 'however many names it has'
abbrev pub own_levels : List ℕ
own_levels =
    1 ∷ 1 ∷ 1 ∷ 1 ∷ 1 ∷ 1 ∷ 1 ∷ 1 ∷ 1 ∷ 1 ∷ 1 ∷ 1 ∷ 1 ∷ 1 ∷ 1 ∷ 1 ∷
    1 ∷ 1 ∷ 1 ∷ 1 ∷ 1 ∷ 1 ∷ 1 ∷ 1 ∷ 1 ∷ 1 ∷ 1 ∷ 1 ∷ 1 ∷ 1 ∷ 1 ∷ 1 ∷
    1 ∷ 1 ∷ 1 ∷ 1 ∷ 1 ∷ 1 ∷ 1 ∷ 2 ∷ 2 ∷ 2 ∷ 2 ∷ 2 ∷ 2 ∷ 0 ∷ 0 ∷ 0 ∷
    0 ∷ 0 ∷ 0 ∷ 1 ∷ 0 ∷ 1 ∷ 0 ∷ 0 ∷ 0 ∷ 0 ∷ 0 ∷ 0 ∷ 0 ∷ 0 ∷ 0 ∷ 0 ∷ []

abbrev pub highest : List ℕ → ℕ
highest [] = 0
highest (n ∷ ns) = max n (highest ns)

-- an entry of kind k with operands of at most n levels, the first of which starts at s
unfoldable pub level_of : ℕ → ℕ → ℕ → ℕ
level_of k n s =
    if eqb (get_or own_levels k 0) 1 then capped (suc n) otherwise (
    if eqb (get_or own_levels k 0) 2 then (if eqb s (Kind.binder false) then capped (suc n) otherwise n) otherwise n)

abbrev pub levels_of : List Operand → List ℕ
levels_of xs = map (λ (x : Operand). x.level) xs

abbrev pub starts_of : List Operand → List ℕ
starts_of xs = map (λ (x : Operand). x.start) xs

unfoldable pub node : Cell → List Operand → Operand
node c xs =
    let s = first_of (starts_of xs) in
    record { level = level_of c.kind (highest (levels_of xs)) s; start = start_of c.kind (offset_in c.token) s }

-- a line whose expression is too deep
unfoldable pub fault_of : ℕ → ℕ → ℕ → Option ℕ
fault_of k level start = if ltb k first_line then none otherwise unless (leb level max_levels) start

abbrev pub fault : Cell → List Operand → Option ℕ
fault c xs = fault_of c.kind (first_of (levels_of xs)) (first_of (starts_of xs))

-- the state after an entry whose operands stand from m on; a line leaves nothing on the stack
abbrev pub stepped : Cell → State → ℕ → State
stepped c s m =
    record {
      before = c.kind;
      stack = if ltb c.kind first_line then take m s.stack ++ (node c (drop m s.stack) ∷ []) otherwise take m s.stack;
      found = first s.found (fault c (drop m s.stack));
    }

unfoldable pub step : Cell → State → State
step c s = stepped c s (length s.stack - operands s.before c)

abbrev pub state : ℕ → List Operand → Option ℕ → State
state before stack found = record { before = before; stack = stack; found = found }

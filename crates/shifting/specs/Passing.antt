-- One pass over a finished table: every node once, with its operands' new numbers, and an X behind each late signal's.
use Rattle.std.specs.Prelude.{ℕ, zero, suc, ◌-◌, ◌<◌, ◌≡◌, Bool, true, false, not, ◌&&◌, List, [], ◌∷◌, ◌++◌, eqb, ltb, length, get_or}
use Rattle.node.specs.Limits.{max_nodes, field_limit}
use Rattle.node.specs.Fields.{pack, kind_of, first_of, second_of}
use Rattle.node.specs.Ltl.{Formula, Not, X}
use Rattle.node.specs.Kinds.{signal_kind, unary_kind, has_two}
use Rattle.language.specs.Bytes.{if◌then◌otherwise◌}
use Rattle.language.specs.Shifting.{is_output, shifted}
use Rattle.writing.specs.Writing.{Wrote}

-- the late signals: the outputs, or the inputs
abbrev pub late_by : Bool → List ℕ → ℕ → Bool
late_by true list k = is_output list k
late_by false list k = not (is_output list k)

-- a node with its operands' new numbers; constants and signals have none
unfoldable pub renumbered : List ℕ → ℕ → ℕ
renumbered ns w = if ltb (kind_of w) (unary_kind Not) then w otherwise pack (kind_of w) (get_or ns (first_of w) 0) (if has_two (kind_of w) then get_or ns (second_of w) 0 otherwise 0)

-- is it a late signal's?
abbrev pub is_late : (ℕ → Bool) → ℕ → Bool
is_late late w = eqb (kind_of w) signal_kind && late (first_of w)

-- the node at index `at`, and an X behind it
unfoldable pub written : Bool → ℕ → ℕ → List ℕ
written true at w = w ∷ pack (unary_kind X) at 0 ∷ []
written false at w = w ∷ []

-- the nodes that were written, and the new number of each that was read
pub record Pass : Type 0 where
  pub words : List ℕ
  pub numbers : List ℕ

abbrev pub passes : (ℕ → Bool) → Pass → ℕ → Pass
passes late p w =
    let ws = written (is_late late w) (length p.words) (renumbered p.numbers w) in
    record { words = p.words ++ ws; numbers = p.numbers ++ ((length (p.words ++ ws) - 1) ∷ []) }

-- after the first n nodes of a table
unfoldable pub passed : (ℕ → Bool) → List ℕ → ℕ → Pass
passed late table zero = record { words = []; numbers = [] }
passed late table (suc n) = passes late (passed late table n) (get_or table n 0)

-- new numbers in a whole table, each of which a node's field holds
pub record Numbers (ns : List ℕ) : Type 0 where
  pub whole : length ns ≡ max_nodes
  pub small : (k : ℕ) → get_or ns k 0 < field_limit

-- whatever formula the first m nodes of the table are: its nodes with the X stand in the other table
pub record Shifts (late : ℕ → Bool) (table : List ℕ) (m : ℕ) (out out' : List ℕ) (r : ℕ) : Type 0 where
  pub shifts : {f : Formula} {before : List ℕ} → length before ≡ max_nodes → Wrote f before table 0 m → Wrote (shifted late f) out out' 0 r

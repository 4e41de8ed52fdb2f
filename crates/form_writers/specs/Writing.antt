-- What the functions of the rewriter that write nodes promise and ask: crate storing's words, and a node of a table. Laws in WritingLaws.
use Rattle.std.specs.Prelude.{ℕ, ◌<◌, ◌≡◌, cond, List, [], ◌∷◌, eqb, length, get_or}
use Rattle.node.specs.Limits.{field_limit, kind_limit}
use Rattle.node.specs.Ltl.{Unary, Not, X, G, F, Binary, And, Or, Implies, Iff, U, R, W}
use Rattle.node.specs.Kinds.{unary_kind, binary_kind}
use Rattle.node.specs.Formed.{Formed}
pub use Rattle.storing.specs.Storing.{Stored, Puts, Wrote, Room, constant_of}

-- what the functions ask of the table, the node's number, the slice and the first index
pub record Ready (nodes : List ℕ) (i : ℕ) (out : List ℕ) (at : ℕ) : Type 0 where
  pub formed : Formed field_limit nodes
  pub inside : i < length nodes
  pub room : Room out at

-- the operators that a kind stands for
abbrev pub unary_of : ℕ → Unary
unary_of k = get_or (Not ∷ Not ∷ Not ∷ Not ∷ Not ∷ Not ∷ Not ∷ Not ∷ X ∷ G ∷ F ∷ []) k Not

abbrev pub binary_of : ℕ → Binary
binary_of k = get_or (And ∷ And ∷ And ∷ And ∷ And ∷ Or ∷ Implies ∷ Iff ∷ And ∷ And ∷ And ∷ U ∷ R ∷ W ∷ []) k And

-- a kind of one operand, and one of two
pub record IsUnary (op : ℕ) : Type 0 where
  pub small : op < kind_limit
  pub number : unary_kind (unary_of op) ≡ op

pub record IsBinary (op : ℕ) : Type 0 where
  pub small : op < kind_limit
  pub number : binary_kind (binary_of op) ≡ op

-- the kind of the dual operator
abbrev pub dual_kind : ℕ → ℕ
dual_kind k =
    cond (eqb k (binary_kind And)) (binary_kind Or) (cond (eqb k (binary_kind Or)) (binary_kind And)
    (cond (eqb k (unary_kind G)) (unary_kind F) (cond (eqb k (unary_kind F)) (unary_kind G)
    (cond (eqb k (binary_kind U)) (binary_kind R) (cond (eqb k (binary_kind R)) (binary_kind U) k)))))

-- `||` for `&&`, U for R: the operators that core form derives them from
abbrev pub base_kind : ℕ → ℕ
base_kind k = cond (eqb k (binary_kind And)) (binary_kind Or) (binary_kind U)

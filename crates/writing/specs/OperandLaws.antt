-- A formula's nodes are those of its operands and then its own: how many they are, and which. Who counts nodes, or lists those of a formula that he knows, cites
-- these laws and does not open how nodes are numbered.
use Rattle.std.specs.Prelude.{ℕ, ◌+◌, ◌-◌, ◌≡◌, refl, [], ◌∷◌, ◌++◌}
use Rattle.node.specs.Ltl.{Unary, Binary, Formula, True, False, Signal, One, Two}
use Rattle.node.specs.Fields.{pack}
use Rattle.node.specs.Kinds.{unary_kind, binary_kind, true_kind, false_kind, signal_kind}
use Rattle.node.specs.Postorder.{size, nodes_from}

-- how many
pub size_true : size True ≡ 1
unfolding size
size_true = refl

pub size_false : size False ≡ 1
unfolding size
size_false = refl

pub size-signal : (k : ℕ) → size (Signal k) ≡ 1
unfolding size
size-signal k = refl

pub size-one : (o : Unary) (a : Formula) → size (One o a) ≡ size a + 1
unfolding size
size-one o a = refl

pub size-two : (o : Binary) (a b : Formula) → size (Two o a b) ≡ size a + size b + 1
unfolding size
size-two o a b = refl

-- which
pub nodes_true : (at : ℕ) → nodes_from at True ≡ pack true_kind 0 0 ∷ []
unfolding nodes_from
nodes_true at = refl

pub nodes_false : (at : ℕ) → nodes_from at False ≡ pack false_kind 0 0 ∷ []
unfolding nodes_from
nodes_false at = refl

pub nodes-signal : (at k : ℕ) → nodes_from at (Signal k) ≡ pack signal_kind k 0 ∷ []
unfolding nodes_from
nodes-signal at k = refl

pub nodes-one : (at : ℕ) (o : Unary) (a : Formula) → nodes_from at (One o a) ≡ nodes_from at a ++ (pack (unary_kind o) (at + size a - 1) 0 ∷ [])
unfolding nodes_from
nodes-one at o a = refl

pub nodes-two : (at : ℕ) (o : Binary) (a b : Formula)
    → nodes_from at (Two o a b) ≡ nodes_from at a ++ (nodes_from (at + size a) b ++ (pack (binary_kind o) (at + size a - 1) (at + size a + size b - 1) ∷ []))
unfolding nodes_from
nodes-two at o a b = refl

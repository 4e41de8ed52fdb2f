-- A formula written out as a table: 'in postorder, left first, nothing shared' (document 01, 'Expansion'). Laws in PostorderLaws.
use Rattle.std.specs.Prelude.{ℕ, ◌+◌, ◌-◌, ◌<◌, List, [], ◌∷◌, ◌++◌}
use Rattle.node.specs.Ltl.{Formula, True, False, Signal, One, Two}
use Rattle.node.specs.Fields.{pack}
use Rattle.node.specs.Kinds.{unary_kind, binary_kind, true_kind, false_kind, signal_kind}

-- how many nodes a formula has
unfoldable pub size : Formula → ℕ
size True = 1
size False = 1
size (Signal k) = 1
size (One o a) = size a + 1
size (Two o a b) = size a + size b + 1

-- its nodes, the first of them numbered `base`; the last is the formula itself
unfoldable pub nodes_from : ℕ → Formula → List ℕ
nodes_from base True = pack true_kind 0 0 ∷ []
nodes_from base False = pack false_kind 0 0 ∷ []
nodes_from base (Signal k) = pack signal_kind k 0 ∷ []
nodes_from base (One o a) = nodes_from base a ++ (pack (unary_kind o) (base + size a - 1) 0 ∷ [])
nodes_from base (Two o a b) =
    nodes_from base a ++ (nodes_from (base + size a) b ++ (pack (binary_kind o) (base + size a - 1) (base + size a + size b - 1) ∷ []))

-- every signal number lies below `limit`
unfoldable pub SignalsBelow : ℕ → Formula → Type 0
SignalsBelow limit True = Unit {0}
SignalsBelow limit False = Unit {0}
SignalsBelow limit (Signal k) = k < limit
SignalsBelow limit (One o a) = SignalsBelow limit a
SignalsBelow limit (Two o a b) = SignalsBelow limit a × SignalsBelow limit b

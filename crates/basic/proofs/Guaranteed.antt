-- The formula of a specification without lines, with another for the `true` of its GUARANTEE: its nodes, its size, and what it says.
use Rattle.std.specs.Prelude.{ℕ, ◌+◌, ◌≤◌, ◌≡◌, List, [], ◌∷◌, ◌++◌, map, ◌↔◌}
use Rattle.std.proofs.Common.{ap, ap₂, ◌∙◌, sym, append_assoc, arith}
use Rattle.node.specs.Limits.{field_limit}
use Rattle.node.specs.Ltl.{Formula, Word, Holds}
use Rattle.node.specs.Fields.{pack}
use Rattle.node.specs.Postorder.{size, nodes_from, SignalsBelow}
use Rattle.node.proofs.PostorderLaws.{size_pos}
use Rattle.node.specs.Written.{nodes_of, count}
use Rattle.writing.specs.Moving.{moved}
use Rattle.writing.specs.MovingLaws.{moved-nodes}
use Rattle.writing.specs.OperandLaws.{size_true, size-one, size-two, nodes_true, nodes-one, nodes-two}
use Rattle.basic.specs.Statements.{guaranteeing, front, behind}

-- the nodes: those before GUARANTEE, the written ones moved by 8, and those behind
four-more : (l : List ℕ) (a b c d : ℕ) → (((l ++ (a ∷ [])) ++ (b ∷ [])) ++ (c ∷ [])) ++ (d ∷ []) ≡ l ++ (a ∷ b ∷ c ∷ d ∷ [])
four-more l a b c d = simp append_assoc

nodes_of_lem : (f : Formula) → nodes_from 0 (guaranteeing f) ≡ front ++ (nodes_from 8 f ++ behind (size f))
nodes_of_lem f =
    let some = size_pos f in
    simp (nodes-two, nodes-one, nodes_true, size-two, size-one, size_true)
    (ap (front ++◌) (four-more (nodes_from 8 f) _ _ _ _)
    ∙ ap (λ (l : List ℕ). front ++ (nodes_from 8 f ++ l)) (ap₂ ◌∷◌ (ap (pack 4 7) (omega arith))
    (ap₂ ◌∷◌ (ap (pack 6 5) (omega arith)) (ap₂ ◌∷◌ (ap (pack 4 1) (omega arith)) (ap (λ (n : ℕ). pack 6 0 n ∷ []) (omega arith))))))

pub guaranteed-nodes : (f : Formula) → size f ≤ field_limit → SignalsBelow field_limit f → nodes_of (guaranteeing f) ≡ front ++ (map (moved 0 8) (nodes_of f) ++ behind (count f))
unfolding nodes_of count
guaranteed-nodes f small below = nodes_of_lem f ∙ ap (λ (l : List ℕ). front ++ (l ++ behind (size f))) (sym (moved-nodes 0 8 0 f (omega arith) (omega arith) below))

pub guaranteed-size : (f : Formula) → size (guaranteeing f) ≡ size f + 12
guaranteed-size f = simp (size-two, size-one, size_true) (omega arith)

-- what the formula that is read back says: what the written one says
pub guaranteeing_means : (f : Formula) (w : Word) (t : ℕ) → Holds (guaranteeing f) w t ↔ Holds f w t
unfolding Holds
guaranteeing_means f w t = (λ h. ((h tt).1 ((λ n l. tt), tt)).1, λ h _. (tt, λ _. ((λ n l. tt), h)))

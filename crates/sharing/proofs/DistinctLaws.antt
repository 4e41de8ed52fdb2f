-- Laws of a formula's nodes, each distinct subformula once: how many, that none comes twice, their root, and that they are a table of the format.
use Rattle.std.specs.Prelude.{ℕ, ◌-◌, ◌<◌, ◌≤◌, ◌≡◌, refl, List, [], ◌++◌, length, get_or}
use Rattle.std.proofs.Common.{ap, ◌∙◌, sym, subst, append-nil, arith}
use Rattle.node.specs.Limits.{max_nodes, field_limit}
use Rattle.node.specs.Ltl.{Formula}
use Rattle.node.specs.Result.{Done}
use Rattle.node.specs.Table.{tree_at, root, checked}
use Rattle.node.specs.Formed.{Formed}
use Rattle.node.specs.Postorder.{size, SignalsBelow}
use Rattle.sharing.specs.Sharing.{write, distinct_nodes, distinct_count}
use Rattle.sharing.proofs.WriteLaws.{write-inside, write-most, write_distinct}
use Rattle.sharing.proofs.StandsLaws.{found-written}
use Rattle.sharing.proofs.TreeLaws.{fits_none, fits-write, found-tree}
use Rattle.sharing.proofs.FormulasLaws.{tree_longer, formed-checked}
use Rattle.sharing.proofs.LastLaws.{last-number}

-- at least one node, at most one for each place in the formula, and as many as are counted
pub count_some : (f : Formula) → 0 < distinct_count f
unfolding distinct_nodes distinct_count
count_some f = let i = write-inside [] f in omega arith

pub count_most : (f : Formula) → distinct_count f ≤ size f
unfolding distinct_nodes distinct_count
count_most f = let h = write-most [] f in omega arith

pub length_of : (f : Formula) → length (distinct_nodes f) ≡ distinct_count f
unfolding distinct_count
length_of f = refl

-- 'no two nodes of a result are equal'
pub distinct_nodes_lem : (f : Formula) (i j : ℕ) → i < distinct_count f → j < distinct_count f → get_or (distinct_nodes f) i 0 ≡ get_or (distinct_nodes f) j 0 → i ≡ j
unfolding distinct_nodes distinct_count
distinct_nodes_lem f i j hi hj e = write_distinct [] f (λ a b ha hb q. absurd (omega arith)) i j hi hj e

-- the last is the formula, whatever stands behind; the nodes alone are a table whose root it is
pub root_of : (f : Formula) (rest : List ℕ) → SignalsBelow field_limit f → distinct_count f ≤ field_limit → tree_at (distinct_nodes f ++ rest) (distinct_count f - 1) ≡ f
unfolding distinct_nodes distinct_count
root_of f rest s h =
    let i = write-inside [] f in
    let e = last-number f s h in
    let v : (write [] f).number ≡ distinct_count f - 1 = omega arith in
    tree_longer (write [] f).table rest (distinct_count f - 1) (omega arith)
    ∙ subst (λ (n : ℕ). tree_at (write [] f).table n ≡ f) v
    (found-tree field_limit (write [] f).table (fits-write field_limit (omega arith) [] f s h (fits_none field_limit)) h f (write [] f).number s (found-written [] f))

pub formed_of : (limit : ℕ) (f : Formula) → limit ≤ field_limit → SignalsBelow limit f → distinct_count f ≤ max_nodes → Formed limit (distinct_nodes f)
unfolding distinct_nodes distinct_count
formed_of limit f small s h =
    record {
      some = count_some f;
      few = h;
      each = fits-write limit small [] f s (omega arith) (fits_none limit);
    }

pub table_of : (limit : ℕ) (f : Formula) → limit ≤ field_limit → SignalsBelow limit f → distinct_count f ≤ max_nodes
    → checked limit (distinct_nodes f) ≡ Done (record { nodes = distinct_count f; signals = limit })
unfolding distinct_count
table_of limit f small s h = formed-checked (formed_of limit f small s h)

pub table-root : (f : Formula) → SignalsBelow field_limit f → distinct_count f ≤ max_nodes → root (distinct_nodes f) ≡ f
unfolding distinct_count
table-root f s h =
    ap (λ (x : List ℕ). tree_at x (distinct_count f - 1)) (sym (append-nil (distinct_nodes f))) ∙ root_of f [] s (omega arith)

-- so a table in which each distinct subformula stands once, in postorder, comes back unchanged
pub again : (f : Formula) → SignalsBelow field_limit f → distinct_count f ≤ max_nodes → distinct_nodes (root (distinct_nodes f)) ≡ distinct_nodes f
again f s h = ap distinct_nodes (table-root f s h)

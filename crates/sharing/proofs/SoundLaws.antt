-- A table whose nodes are formulas of some kind, each found at its number: the empty one is, and it stays so as formulas of that kind are written.
use Rattle.std.specs.Prelude.{ℕ, ◌<◌, ◌≤◌, ◌≡◌, List, [], length}
use Rattle.std.proofs.Common.{sym, subst, arith}
use Rattle.node.specs.Limits.{field_limit}
use Rattle.node.specs.Ltl.{Formula}
use Rattle.node.specs.Table.{tree_at}
use Rattle.node.specs.Postorder.{SignalsBelow}
use Rattle.sharing.specs.Sharing.{write}
use Rattle.sharing.proofs.StandsLaws.{Found}
use Rattle.sharing.specs.Subformulas.{Everywhere}
use Rattle.sharing.proofs.SubformulaLaws.{everywhere_both, everywhere_signals}
use Rattle.sharing.proofs.NameLaws.{Named, named_none, named-write}
use Rattle.sharing.proofs.TreeLaws.{Fits, fits_none, fits-write, found-tree}

-- a formula of the kind P whose signals the fields hold
abbrev pub Kept : (Formula → Type 0) → Formula → Type 0
Kept P g = P g × SignalsBelow field_limit g

pub record Sound (P : Formula → Type 0) (t : List ℕ) : Type 0 where
  pub fit : Fits field_limit t
  pub few : length t ≤ field_limit
  pub named : Named (Kept P) t

module _ (P : Formula → Type 0) where
  pub sound_none : Sound P []
  sound_none = record { fit = fits_none field_limit; few = omega arith; named = named_none (Kept P) }

  pub sound-write : (t : List ℕ) (f : Formula) → Everywhere P f → SignalsBelow field_limit f → length (write t f).table ≤ field_limit → Sound P t → Sound P (write t f).table
  sound-write t f each s few m =
      record {
        fit = fits-write field_limit (omega arith) t f s few m.fit;
        few = few;
        named = named-write (Kept P) t f (everywhere_both P (SignalsBelow field_limit) f each (everywhere_signals field_limit f s)) m.named;
      }

  -- the tree of each node is such a formula, and found there
  module _ (t : List ℕ) (m : Sound P t) (i : ℕ) (h : i < length t) where
    tree-name : tree_at t i ≡ (m.named i h).formula
    tree-name = let n = m.named i h in found-tree field_limit t m.fit m.few n.formula i n.such.1 n.found

    pub sound-such : P (tree_at t i)
    sound-such = subst P (sym tree-name) (m.named i h).such.0

    pub sound-found : Found t (tree_at t i) i
    sound-found = subst (λ (g : Formula). Found t g i) (sym tree-name) (m.named i h).found

-- What follows from the promise: the array holds a table of the format without equal nodes, as many as the formula has distinct subformulas; so there is no room exactly if these
-- are more than the array can hold.
use Rattle.std.specs.Prelude.{ℕ, ◌-◌, ◌≤◌, ◌<◌, ◌≡◌, length}
use Rattle.std.proofs.Common.{sym, subst, arith}
use mathlib.Core.List.Memᴰ
use mathlib.Core.List.{List, [], Memᴰ}
use Rattle.std.proofs.Math.Decide.{dec_lt}
use Rattle.node.specs.Limits.{max_nodes, field_limit}
use Rattle.node.specs.Ltl.{Formula}
use Rattle.node.specs.Table.{formulas, tree_at, root}
use Rattle.node.specs.Formed.{Formed}
use Rattle.node.specs.Postorder.{SignalsBelow}
use Rattle.node.proofs.PostorderLaws.{tree-signals}
use Rattle.forms.specs.Forms.{form as form_of}
use Rattle.forms.proofs.FormSignals.{form-signals}
use Rattle.sharing.specs.Sharing.{distinct_count}
use Rattle.sharing.proofs.PlaceLaws.{Distinct}
use Rattle.sharing.proofs.StandsLaws.{Found, found_inside, stands-found}
use Rattle.sharing.specs.Subformulas.{Everywhere}
use Rattle.sharing.proofs.SubformulaLaws.{everywhere_map, everywhere_both, everywhere_signals}
use Rattle.sharing.proofs.NameLaws.{Somewhere, written_somewhere}
use Rattle.sharing.proofs.TreeLaws.{found-tree}
use Rattle.sharing.proofs.CountLaws.{Holding, count-within, tree-member, trees_length}
use Rattle.shared_table.specs.Shared.{capacity}
use Rattle.shared_table.specs.SharedLaws.{shares_few, shares_distinct}
use Rattle.shared_forms.specs.PutLaws.{sound-most}
use Rattle.shared_forms.specs.Promise.{Built, Builds}

-- the signals of a form of a table's root
pub root-signals : {ws : List ℕ} (form : ℕ) → Formed field_limit ws → SignalsBelow field_limit (form_of form (root ws))
root-signals {ws} form f = let s = f.some in form-signals form field_limit (root ws) (tree-signals f (length ws - 1) (omega arith))

module _ {f : Formula} {out : List ℕ} {r : ℕ} (b : Built f out r) where
  pub built_found : Found b.table f (r - 1)
  built_found = stands-found b.table f (r - 1) b.stands

  -- the number is one of the table's
  pub built_inside : r ≤ length b.table
  built_inside = let i = found_inside b.table f (r - 1) built_found in let s = b.some in omega arith

  pub built_few : r ≤ max_nodes
  built_few = let i = built_inside in let l = shares_few b.shares in omega arith

  pub built_formed : Formed field_limit b.table
  built_formed = let i = built_inside in let s = b.some in record { some = omega arith; few = shares_few b.shares; each = b.sound.fit }

  pub built_distinct : Distinct b.table
  built_distinct = shares_distinct b.shares

  module _ (signals : SignalsBelow field_limit f) where
    -- the tree at its number is the formula
    pub built-tree : tree_at b.table (r - 1) ≡ f
    built-tree = found-tree field_limit b.table b.sound.fit b.sound.few f (r - 1) signals built_found

    -- each subformula is one of the table's trees
    holding : Holding (formulas [] b.table) f
    holding =
        let t : List ℕ = b.table in
        let there : Everywhere (Somewhere t) f = subst (λ (u : List ℕ). Everywhere (Somewhere u) f) b.stands.0 (written_somewhere t f) in
        let kept : (g : Formula) → Somewhere t g × SignalsBelow field_limit g → Memᴰ g (formulas [] t) =
        λ g k.
        let v = k.0 in
        Memᴰ.cast (sym (found-tree field_limit t b.sound.fit b.sound.few g v.0 k.1 v.1)) (tree-member t v.0 (found_inside t g v.0 v.1)) in
        everywhere_map (λ g. Somewhere t g × SignalsBelow field_limit g) (λ g. Memᴰ g (formulas [] t)) kept f
        (everywhere_both (Somewhere t) (SignalsBelow field_limit) f there (everywhere_signals field_limit f signals))

    -- as many nodes as distinct subformulas
    pub built-count : length b.table ≡ distinct_count f
    built-count =
        let least = count-within f (formulas [] b.table) holding in
        let l = trees_length b.table in
        let most = sound-most f signals b.sound in
        omega arith

-- there is room exactly if the array can hold them all
module _ {f : Formula} {out out' : List ℕ} {r : ℕ} (p : Builds f out out' r) (signals : SignalsBelow field_limit f) (same : length out' ≡ length out) where
  pub room_enough : r ≤ max_nodes → distinct_count f ≤ capacity (length out)
  room_enough h =
      let b = p.done h in
      let c = built-count b signals in
      let m : length b.table ≤ capacity (length out) = subst (λ (n : ℕ). length b.table ≤ capacity n) same b.shares.room in
      omega arith

  pub room_needed : distinct_count f ≤ capacity (length out) → r ≤ max_nodes
  room_needed h = go (dec_lt max_nodes r)
    where
      go : Dec (max_nodes < r) → r ≤ max_nodes
      go (yes m) = let n = p.refused m in absurd (omega arith)
      go (no m) = omega arith

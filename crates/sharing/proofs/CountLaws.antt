-- How many nodes a formula has: at most the length of any list with all its subformulas, at least the nodes of any table of its subformulas without equal ones.
use Rattle.std.specs.Prelude.{ℕ, ◌-◌, ◌<◌, ◌≤◌, ◌≡◌, length}
use Rattle.std.proofs.Common.{◌∙◌, sym, arith}
use mathlib.Core.List.Memᴰ
use mathlib.Core.List.{List, [], Memᴰ}
use Rattle.std.proofs.Math.Decide.{dec_lt}
use Rattle.node.specs.Limits.{field_limit}
use Rattle.node.specs.Ltl.{Formula, True}
use Rattle.node.specs.Formed.{Formed}
use Rattle.node.specs.Table.{formulas, tree_at, root}
use Rattle.node.specs.Postorder.{SignalsBelow}
use Rattle.sharing.specs.Sharing.{write, distinct_nodes, distinct_count}
use Rattle.sharing.proofs.PlaceLaws.{Distinct}
use Rattle.sharing.proofs.StandsLaws.{Found, found_inside, found-same}
use Rattle.sharing.specs.Subformulas.{postorder, Everywhere}
use Rattle.sharing.proofs.SubformulaLaws.{everywhere_map, everywhere_both, everywhere_signals, everywhere_inner, everywhere_member}
use Rattle.sharing.proofs.NameLaws.{Named, Somewhere, named_none, named-write, written_somewhere}
use Rattle.sharing.proofs.TreeLaws.{fits_none, fits-write, found-tree}
use Rattle.sharing.proofs.FormulasLaws.{formulas-length}
use Rattle.sharing.proofs.DistinctLaws.{length_of}
use Rattle.sharing.proofs.FormedLaws.{tree_everywhere, formed-found}
use Rattle.sharing.proofs.PigeonholeLaws.{pigeonhole, member_at_lem}

-- a list that has each subformula
abbrev pub Holding : List Formula → Formula → Type 0
Holding l f = Everywhere (λ g. Memᴰ g l) f

-- no more nodes than it has members
pub count-within : (f : Formula) (l : List Formula) → Holding l f → distinct_count f ≤ length l
unfolding distinct_nodes distinct_count
count-within f l each =
    let P : Formula → Type 0 = λ g. Memᴰ g l in
    let t : List ℕ = (write [] f).table in
    pigeonhole (λ (i : ℕ) (g : Formula). Found t g i) (λ i j g a b. found-same t g i j a b) (length t) l
    (λ i h. let n = named-write P [] f each (named_none P) i h in (n.formula, n.such, n.found))

-- a table's trees
pub tree-member : (t : List ℕ) (i : ℕ) → i < length t → Memᴰ (tree_at t i) (formulas [] t)
unfolding tree_at
tree-member t i h = let l = formulas-length [] t in member_at_lem (formulas [] t) True i (omega arith)

pub trees_length : (t : List ℕ) → length (formulas [] t) ≡ length t
trees_length t = formulas-length [] t ∙ omega arith

-- those of a table of the format have each subformula of its root
pub root-holding : {limit : ℕ} {ws : List ℕ} → Formed limit ws → Holding (formulas [] ws) (root ws)
root-holding {limit} {ws} f =
    let s = f.some in
    tree_everywhere (λ g. Memᴰ g (formulas [] ws)) f (λ i h. tree-member ws i h) (length ws - 1) (omega arith)

-- a formula has no more nodes than a table whose root it is
pub count-root : {limit : ℕ} {ws : List ℕ} → Formed limit ws → distinct_count (root ws) ≤ length ws
count-root {limit} {ws} f =
    let h = count-within (root ws) (formulas [] ws) (root-holding f) in
    let l = trees_length ws in
    omega arith

-- the trees of a formula's own nodes have each of its subformulas
pub own-holding : (f : Formula) → SignalsBelow field_limit f → distinct_count f ≤ field_limit → Holding (formulas [] (distinct_nodes f)) f
unfolding distinct_nodes distinct_count
own-holding f s h =
    let t : List ℕ = (write [] f).table in
    let kept : (g : Formula) → Somewhere t g × SignalsBelow field_limit g → Memᴰ g (formulas [] t) =
    λ g k.
    let v = k.0 in
    let tree = found-tree field_limit t (fits-write field_limit (omega arith) [] f s h (fits_none field_limit)) h g v.0 k.1 v.1 in
    Memᴰ.cast (sym tree) (tree-member t v.0 (found_inside t g v.0 v.1)) in
    everywhere_map (λ g. Somewhere t g × SignalsBelow field_limit g) (λ g. Memᴰ g (formulas [] t)) kept f
    (everywhere_both (Somewhere t) (SignalsBelow field_limit) f (written_somewhere [] f) (everywhere_signals field_limit f s))

-- a table whose nodes are subformulas of f has no more nodes than f: no more than n where f has not
module _ (f : Formula) (t : List ℕ) (s : SignalsBelow field_limit f) (named : Named (λ g. Memᴰ g (postorder f)) t) where
  pub more-named : (n : ℕ) → n ≤ field_limit → n < length t → n < distinct_count f
  more-named n few more = go (dec_lt field_limit (distinct_count f))
    where
      own : List Formula
      own = formulas [] (distinct_nodes f)

      go : Dec (field_limit < distinct_count f) → n < distinct_count f
      go (yes h) = omega arith
      go (no h) =
          let held = own-holding f s (omega arith) in
          let each : (i : ℕ) → i < length t → (g : Formula) × Memᴰ g own × Found t g i =
          λ i k. let n = named i k in (n.formula, everywhere_member (λ g. Memᴰ g own) n.formula f held n.such, n.found) in
          let p = pigeonhole (λ (i : ℕ) (g : Formula). Found t g i) (λ i j g a b. found-same t g i j a b) (length t) own each in
          let l = trees_length (distinct_nodes f) in
          let c = length_of f in
          omega arith

  pub most-named : length t ≤ field_limit → length t ≤ distinct_count f
  most-named few = go (dec_lt (distinct_count f) (length t))
    where
      go : Dec (distinct_count f < length t) → length t ≤ distinct_count f
      go (yes h) = absurd (let m = more-named (distinct_count f) (omega arith) h in omega arith)
      go (no h) = omega arith

-- and so has a table of the format without equal nodes, each of whose trees is a subformula of f
pub most : {limit : ℕ} {ws : List ℕ} (f : Formula) → Formed limit ws → Distinct ws → SignalsBelow field_limit f
    → ((i : ℕ) → i < length ws → Memᴰ (tree_at ws i) (postorder f)) → length ws ≤ distinct_count f
most {limit} {ws} f formed distinct s each =
    let l = formed.few in
    most-named f ws s (λ i h. record { formula = tree_at ws i; such = each i h; found = formed-found ws limit formed distinct i h }) (omega arith)

-- a subformula has no more nodes than the formula
pub count-sub : (f g : Formula) → SignalsBelow field_limit f → distinct_count g ≤ field_limit → Memᴰ g (postorder f) → distinct_count g ≤ distinct_count f
count-sub f g s few m = go (dec_lt field_limit (distinct_count f))
  where
    own : List Formula
    own = formulas [] (distinct_nodes f)

    go : Dec (field_limit < distinct_count f) → distinct_count g ≤ distinct_count f
    go (yes h) = omega arith
    go (no h) =
        let held = everywhere_inner (λ x. Memᴰ x own) f (own-holding f s (omega arith)) in
        let c = count-within g own (everywhere_member (Holding own) g f held m) in
        let l = trees_length (distinct_nodes f) in
        let k = length_of f in
        omega arith

-- The line that the walk finds is the one that the definition names: the root stands for a whole formula, the counts are its sections', and the rows are right.
use Rattle.std.specs.Prelude.{ℕ, ◌-◌, ◌<◌, ◌≡◌, Bool, true, false, List, map, length}
use Rattle.std.proofs.Common.{ap, ◌∙◌, arith}
use Rattle.std.proofs.Math.Path.{ap₂}
use Rattle.std.proofs.Math.Option.{Option, none, some}
use Rattle.node.specs.Ltl.{Formula}
use Rattle.node.specs.Table.{tree_at}
use Rattle.node.specs.Formed.{Formed}
use Rattle.bits.specs.Bits.{Values, width}
use Rattle.rows.specs.Row.{row}
use Rattle.language.specs.Bytes.{if◌then◌otherwise◌}
use Rattle.language.specs.Tree.{Part, Preset, Require, Assert, Guarantee}
use Rattle.language.specs.Expansion.{conjunction, whole}
use Rattle.faults.specs.Naming.{FaultIn, first_false, all_true, broken_from, after_preset, or_else, line_named}
use Rattle.faults.proofs.NamingLaws.{Found, broken_found}
use Rattle.line_counts.specs.declared.LineCounts.{LineCounts}
use Rattle.line_search.specs.Walking.{walked, value_of, seen, section_at, break_at, after_break, line_found}
use Rattle.line_search.specs.LineLaws.{
  At,
  preset-standard,
  preset-strict,
  require-standard,
  require-strict,
  assert-standard,
  assert-strict,
  guarantee-standard,
  guarantee-strict,
  section-seen,
  conjunction_true,
  broken_same,
}

-- what the walk is given
pub record Given (ws rows : List ℕ) (strict : Bool) (lines : LineCounts) (n l : ℕ) (letter : ℕ → ℕ → Bool) (fs : Part → List Formula) : Type 0 where
  pub limit : ℕ
  pub formed : Formed limit ws
  pub root : tree_at ws (length ws - 1) ≡ whole strict (λ q. conjunction (fs q))
  pub some : 0 < n
  pub right : (i p : ℕ) → i < length ws → p < n → value_of rows (width n) i p ≡ row n l letter (tree_at ws i) p
  pub preset : lines.preset ≡ length (fs Preset)
  pub assert : lines.assert ≡ length (fs Assert)
  pub guarantee : lines.guarantee ≡ length (fs Guarantee)

module _ (ws rows : List ℕ) (strict : Bool) (lines : LineCounts) (n l : ℕ) (letter : ℕ → ℕ → Bool) (fs : Part → List Formula) (g : Given ws rows strict lines n l letter fs) where
  abbrev rows_of : Part → List Values
  rows_of q = map (row n l letter) (fs q)

  abbrev sections : Part → Formula
  sections q = conjunction (fs q)

  root-at : At ws (length ws - 1) (whole strict sections)
  root-at = let h = g.formed.some in record { tree = g.root; below = omega arith }

  -- the sections' nodes
  preset-at : At ws (section_at ws strict Preset) (sections Preset)
  preset-at = go strict root-at
    where
      go : (b : Bool) → At ws (length ws - 1) (whole b sections) → At ws (walked ws 1 (if b then 3 otherwise 2) (length ws - 1)) (sections Preset)
      go true h = preset-strict g.formed (length ws - 1) sections h
      go false h = preset-standard g.formed (length ws - 1) sections h

  require-at : At ws (section_at ws strict Require) (sections Require)
  require-at = go strict root-at
    where
      go : (b : Bool) → At ws (length ws - 1) (whole b sections) → At ws (walked ws 3 5 (length ws - 1)) (sections Require)
      go true h = require-strict g.formed (length ws - 1) sections h
      go false h = require-standard g.formed (length ws - 1) sections h

  assert-at : At ws (section_at ws strict Assert) (sections Assert)
  assert-at = go strict root-at
    where
      go : (b : Bool) → At ws (length ws - 1) (whole b sections) → At ws (walked ws (if b then 5 otherwise 7) (if b then 4 otherwise 5) (length ws - 1)) (sections Assert)
      go true h = assert-strict g.formed (length ws - 1) sections h
      go false h = assert-standard g.formed (length ws - 1) sections h

  guarantee_at : At ws (section_at ws strict Guarantee) (sections Guarantee)
  guarantee_at = go strict root-at
    where
      go : (b : Bool) → At ws (length ws - 1) (whole b sections) → At ws (walked ws (if b then 7 otherwise 15) (if b then 3 otherwise 4) (length ws - 1)) (sections Guarantee)
      go true h = guarantee-strict g.formed (length ws - 1) sections h
      go false h = guarantee-standard g.formed (length ws - 1) sections h

  -- the first false line of one
  first_there : (q : Part) (i k p : ℕ) → At ws i (sections q) → k ≡ length (fs q) → p < n → seen ws (λ j. value_of rows (width n) j p) i k 0 ≡ first_false 1 (rows_of q) p
  first_there q i k p h e m = section-seen (row n l letter) p g.formed (λ j. value_of rows (width n) j p) (λ j b. g.right j p b m) (fs q) i k e h

  -- its row
  value_there : (q : Part) (i p : ℕ) → At ws i (sections q) → p < n → value_of rows (width n) i p ≡ all_true (rows_of q) p
  value_there q i p h m = g.right i p h.below m ∙ ap (λ (f : Formula). row n l letter f p) h.tree ∙ conjunction_true n l letter p (fs q)

  breaks : break_at ws rows strict n ≡ broken_from strict (all_true (rows_of Require)) (all_true (rows_of Assert)) 0 n
  breaks =
      broken_same strict (value_of rows (width n) (section_at ws strict Require)) (all_true (rows_of Require)) (value_of rows (width n) (section_at ws strict Assert)) (all_true (rows_of Assert)) 0 n
      (λ p h. value_there Require (section_at ws strict Require) p require-at (omega arith)) (λ p h. value_there Assert (section_at ws strict Assert) p assert-at (omega arith))

  behind : (o : Option ℕ) → Found strict (all_true (rows_of Require)) (all_true (rows_of Assert)) 0 n o → after_break ws rows strict lines n o ≡ after_preset (rows_of Assert) (rows_of Guarantee) o
  behind (some p) f = let m = f.within in ap (FaultIn Assert) (first_there Assert (section_at ws strict Assert) lines.assert p assert-at g.assert (omega arith))
  behind none f = ap (FaultIn Guarantee) (first_there Guarantee (section_at ws strict Guarantee) lines.guarantee 0 guarantee_at g.guarantee g.some)

  pub found-named : line_found ws rows strict lines n ≡ line_named strict rows_of n
  unfolding line_named
  found-named =
      let b = broken_from strict (all_true (rows_of Require)) (all_true (rows_of Assert)) 0 n in
      ap₂ or_else (first_there Preset (section_at ws strict Preset) lines.preset 0 preset-at g.preset g.some)
      (ap (after_break ws rows strict lines n) breaks ∙ behind b (broken_found strict (all_true (rows_of Require)) (all_true (rows_of Assert)) 0 n))

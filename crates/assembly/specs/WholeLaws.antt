-- The whole formula: it has the nodes of every line, and its own are handed over as they are.
use Rattle.std.specs.Prelude.{ℕ, ◌+◌, ◌<◌, ◌≤◌, Bool, true, false, ◌≡◌, List, [], ◌∷◌, ◌++◌, length, drop}
use Rattle.std.proofs.Common.{ap₂, ◌∙◌, sym, arith}
use Rattle.std.proofs.lemmas.List.Edits.{sets, sets-eq}
use Rattle.node.specs.Limits.{max_nodes}
use Rattle.node.specs.Ltl.{And, Formula, Two}
use Rattle.node.specs.Postorder.{size, nodes_from}
use Rattle.node.proofs.PostorderLaws.{length-nodes}
use Rattle.node.specs.Written.{nodes_of, count}
use Rattle.node.proofs.WrittenLaws.{nodes_are, count-is}
use Rattle.language.specs.Tree.{Part, Initially, Preset, Require, Assert, Assume, Guarantee, part_code}
use Rattle.language.specs.Expansion.{Sections, joined, conjunction, lines_of, section, whole}
use Rattle.writing.specs.Writing.{Wrote}
use Rattle.writing.specs.WritingLaws.{ends, past, wrote_none}
use Rattle.writing.specs.OperandLaws.{size-one, size-two}
use Rattle.writing.specs.Parts.{moves}
use Rattle.writing.specs.PartLaws.{stands, lent}
use Rattle.assembly.specs.Gathered.{in_turn, extent, Gathered}
use Rattle.assembly.specs.Folding.{lines_in}
use Rattle.assembly.specs.FoldingLaws.{lines_of_lem}

-- how many nodes formulas have
sum : List Formula → ℕ
sum [] = 0
sum (f ∷ fs) = size f + sum fs

joined-size : (a : Formula) (bs : List Formula) → size a + sum bs ≤ size (joined And a bs)
unfolding sum
joined-size a [] = omega arith
joined-size a (b ∷ bs) = omega (arith, size-two And a b, joined-size (Two And a b) bs)

conjunction-size : (fs : List Formula) → sum fs ≤ size (conjunction fs)
unfolding sum
conjunction-size [] = omega arith
conjunction-size (f ∷ fs) = joined-size f fs

-- all lines by their parts
abbrev part_sum : Part → List (Part × Formula) → ℕ
part_sum p ls = sum (lines_in (part_code p) ls)

abbrev all_sum : List (Part × Formula) → ℕ
all_sum ls = part_sum Initially ls + part_sum Preset ls + part_sum Require ls + part_sum Assert ls + part_sum Assume ls + part_sum Guarantee ls

parts-size : (ls : List (Part × Formula)) → extent ls ≤ all_sum ls
unfolding sum
parts-size [] = omega arith
parts-size (l ∷ ls) = go l.0 (parts-size ls)
  where
    go : (p : Part) → extent ls ≤ all_sum ls → extent (l ∷ ls) ≤ all_sum ((p, l.1) ∷ ls)
    go Initially h = omega arith
    go Preset h = omega arith
    go Require h = omega arith
    go Assert h = omega arith
    go Assume h = omega arith
    go Guarantee h = omega arith

part-size : (p : Part) (ss : Sections) → part_sum p (in_turn ss) ≤ size (section ss p)
part-size p ss = rw (lines_of_lem p ss) (conjunction-size (lines_of p ss))

-- no line is left out of the whole formula
pub whole-size : (strict : Bool) (ss : Sections) → extent (in_turn ss) ≤ size (whole strict (section ss))
whole-size strict ss = go strict (parts-size (in_turn ss)) (part-size Initially ss) (part-size Preset ss) (part-size Require ss) (part-size Assert ss) (part-size Assume ss) (part-size Guarantee ss)
  where
    go : {n a b c d e g : ℕ} (strict : Bool) → n ≤ a + b + c + d + e + g → a ≤ size (section ss Initially) → b ≤ size (section ss Preset) → c ≤ size (section ss Require) → d ≤ size (section ss Assert)
        → e ≤ size (section ss Assume) → g ≤ size (section ss Guarantee) → n ≤ size (whole strict (section ss))
    go false h i j k l m n = simp (size-one, size-two) (omega arith)
    go true h i j k l m n = simp (size-one, size-two) (omega arith)

pub whole-count : (strict : Bool) (ss : Sections) → extent (in_turn ss) ≤ count (whole strict (section ss))
whole-count strict ss = omega (arith, whole-size strict ss, count-is (whole strict (section ss)))

-- lines that do not fit the table
pub assembled_many : (strict : Bool) (ss : Sections) {words table out out' : List ℕ} {count at r : ℕ} → Gathered (in_turn ss) words count table at → max_nodes < at → max_nodes < r
    → Wrote (whole strict (section ss)) out out' 0 r
assembled_many strict ss g h l = wrote_none (omega (arith, g.many h, whole-size strict ss)) l

-- a formula written from the first index on: where its nodes end, and that they do not fit
module _ {f : Formula} {before whole : List ℕ} {n : ℕ} (w : Wrote f before whole 0 n) where
  pub written_count : n ≤ max_nodes → n ≡ count f
  written_count h = let b = ends w h in omega (arith, count-is f)

  pub written_many : max_nodes < n → max_nodes < count f
  written_many h = let b = past w h in omega (arith, count-is f)

  -- they are copied to the front of a lent slice
  pub delivered : (nodes : List ℕ) → length before ≡ max_nodes → n ≤ max_nodes → n ≤ length nodes → sets nodes 0 (moves 0 0 n whole) ≡ nodes_of f ++ drop (count f) nodes
  delivered nodes l h g =
      let b = ends w h in
      let e : n ≡ size f = omega arith in
      let k = length-nodes 0 f in
      let z : 0 + length (nodes_from 0 f) ≡ size f = omega arith in
      lent (stands w l h) e nodes 0 ∙ sets-eq (nodes_from 0 f) nodes 0 (omega arith)
      ∙ ap₂ (λ (vs : List ℕ) (j : ℕ). vs ++ drop j nodes) (sym (nodes_are f)) (z ∙ sym (count-is f))

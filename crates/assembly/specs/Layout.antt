-- The parts of the whole formula in which the two layouts differ, and what it means to write a part of it.
use Rattle.std.specs.Prelude.{ℕ, Bool, true, false, List}
use Rattle.node.specs.Ltl.{Not, G, And, W, Formula, One, Two}
use Rattle.language.specs.Tree.{Part, Preset, Require, Assert, Assume, Guarantee}
use Rattle.language.specs.Expansion.{Sections, section, whole}
use Rattle.writing.specs.Writing.{Wrote}
use Rattle.assembly.specs.Gathered.{in_turn, Lined, Gathered}

-- P; 'Strict': P && (A W !R)
abbrev pub preset : Bool → (Part → Formula) → Formula
preset false f = f Preset
preset true f = Two And (f Preset) (Two W (f Assert) (One Not (f Require)))

-- G R && S
abbrev pub assumed : (Part → Formula) → Formula
assumed f = Two And (One G (f Require)) (f Assume)

-- G A && U; 'Strict': U
abbrev pub promised : Bool → (Part → Formula) → Formula
promised false f = Two And (One G (f Assert)) (f Guarantee)
promised true f = f Guarantee

-- for all sections whose lines are listed and stand in the table: a formula made of the sections is written from `at` up to r
abbrev pub Writes : ((Part → Formula) → Formula) → List ℕ → ℕ → List ℕ → List ℕ → List ℕ → ℕ → ℕ → Type 0
Writes g words count table out out' at r = (ss : Sections) → Lined (in_turn ss) words count table → Wrote (g (section ss)) out out' at r

-- the same where the lines may not fit the table, in which they end at m
abbrev pub Assembles : Bool → List ℕ → ℕ → List ℕ → ℕ → List ℕ → List ℕ → ℕ → Type 0
Assembles strict words count table m out out' r = (ss : Sections) → Gathered (in_turn ss) words count table m → Wrote (whole strict (section ss)) out out' 0 r

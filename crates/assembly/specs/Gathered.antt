-- The lines of a text as they are gathered: a word for each with its part and its size, and their formulas one after the other in a table.
use Rattle.std.specs.Prelude.{ℕ, suc, ◌+◌, ◌<◌, ◌≤◌, ◌≡◌, List, [], ◌∷◌, ◌++◌, map, length, take}
use Rattle.node.specs.Limits.{max_nodes, field_bits}
use Rattle.node.specs.Ltl.{Formula}
use Rattle.node.specs.Fields.{join}
use Rattle.node.specs.Postorder.{size}
use Rattle.node.specs.Result.{Result, Done, ◌>>=◌}
use Rattle.language.specs.Tree.{Part, Guarantee, part_code, Spec}
use Rattle.language.specs.DeclaredNames.{Declarations}
use Rattle.language.specs.Lines.{Line}
use Rattle.language.specs.Expansion.{gather, at_signals, define_all, expand_section}
use Rattle.writing.specs.Writing.{Wrote}
use Rattle.writing.specs.Parts.{Stands}

-- the lines of sections one after the other, each with its part
abbrev pub in_turn : {A : Type 0} → List (Part × List A) → List (Part × A)
in_turn [] = []
in_turn (s ∷ ss) = map (λ a. (s.0, a)) s.1 ++ in_turn ss

-- a text's lines, expanded by what it declares, one after the other
abbrev pub lines_in_turn : Spec → Declarations → List (Part × List Line) → Result (List (Part × Formula))
lines_in_turn x d lines = gather (expand_section (define_all (at_signals d) x.definitions)) lines >>= λ ss. Done (in_turn ss)

-- how many parts there are
abbrev pub parts : ℕ
parts = suc (part_code Guarantee)

-- a line's word: its part's number above the number of its nodes
abbrev pub word : Part × Formula → ℕ
word l = join field_bits (part_code l.0) (size l.1)

-- how many nodes the lines have
abbrev pub extent : List (Part × Formula) → ℕ
extent [] = 0
extent (l ∷ ls) = size l.1 + extent ls

-- the lines' formulas stand in the table one after the other, from `at` on
abbrev pub InTable : List (Part × Formula) → List ℕ → ℕ → Type 0
InTable [] table at = Unit {0}
InTable (l ∷ ls) table at = Stands l.1 table at × InTable ls table (at + size l.1)

-- the first words of a list are those of the lines, whose formulas stand in the table from its start
pub record Lined (ls : List (Part × Formula)) (words : List ℕ) (count : ℕ) (table : List ℕ) : Type 0 where
  pub counted : length ls ≡ count
  pub listed : take count words ≡ map word ls
  pub stand : InTable ls table 0

-- the same in a whole table, and `at` is the index after them; an index past the last for lines that do not fit. Where nothing is to be written, `start` is such an
-- index too
pub record GatheredFrom (start : ℕ) (ls : List (Part × Formula)) (words : List ℕ) (count : ℕ) (table : List ℕ) (at : ℕ) : Type 0 where
  pub lined : at ≤ max_nodes → Lined ls words count table
  pub starts : at ≤ max_nodes → start ≡ 0
  pub ends : at ≤ max_nodes → at ≡ extent ls
  pub sized : at ≤ max_nodes → length table ≡ max_nodes
  pub many : max_nodes < at → max_nodes < start + extent ls

abbrev pub Gathered : List (Part × Formula) → List ℕ → ℕ → List ℕ → ℕ → Type 0
Gathered = GatheredFrom 0

-- some lines are
pub record SomeLined (words : List ℕ) (count : ℕ) (table : List ℕ) : Type 0 where
  pub some : List (Part × Formula)
  pub lined : Lined some words count table

pub record SomeGathered (words : List ℕ) (count : ℕ) (table : List ℕ) (at : ℕ) : Type 0 where
  pub some : List (Part × Formula)
  pub gathered : Gathered some words count table at

-- there is room for the word of a line that fits the table, and the line's formula stands from `at` up to `next`
pub record LineRoom (part at next : ℕ) (words : List ℕ) (count : ℕ) : Type 0 where
  pub known : part < parts
  pub long : max_nodes ≤ length words
  pub behind : next ≤ max_nodes → at ≤ next
  pub few : next ≤ max_nodes → count < max_nodes

-- whatever lines were gathered: now the one that was written to the table from `at` up to `next` is too
pub record Adds (part at next : ℕ) (words words' : List ℕ) (count r : ℕ) : Type 0 where
  pub more : (p : Part) → part ≡ part_code p → {start : ℕ} {ls : List (Part × Formula)} {f : Formula} {table table' : List ℕ} → GatheredFrom start ls words count table at → Wrote f table table' at next
      → GatheredFrom start (ls ++ ((p, f) ∷ [])) words' r table' next

-- The lines that buses add: formulas in signal order, and the buses as order in slices.
use Rattle.std.specs.Prelude.{ℕ, suc, ◌+◌, ◌≤◌, ◌<◌, true, false, ◌≡◌, List, [], ◌∷◌, ◌++◌, map, length, get_or}
use Rattle.node.specs.Limits.{max_nodes}
use Rattle.node.specs.Ltl.{Formula}
use Rattle.language.specs.Limits.{work_bytes, max_tokens, max_names, max_signals}
use Rattle.language.specs.Tree.{Part, part_code}
use Rattle.language.specs.DeclaredNames.{Port}
use Rattle.language.specs.Numbering.{first_of}
use Rattle.language.specs.Lines.{leaves_unnamed}
use Rattle.language.specs.Expansion.{one_of}
use Rattle.language.specs.RegularWords.{Regular}
use Rattle.choices.specs.Entries.{identifiers_end, Words}
use Rattle.assembly.specs.declared.implied.Ends.{Ends}
use Rattle.assembly.specs.declared.implied.Ports.{Ports}
use Rattle.assembly.specs.declared.implied.Span.{Span}
use Rattle.assembly.specs.Gathered.{GatheredFrom}

-- the formulas of the implied lines, of buses in signal order
abbrev pub implied_formulas : List Port → List Port → List Formula
implied_formulas ports [] = []
implied_formulas ports (p ∷ ps) = elim (leaves_unnamed p.words) [ true ↦ one_of ports p.name.text p.words ∷ implied_formulas ports ps | false ↦ implied_formulas ports ps ]

-- a bus whose words stand behind an enumeration's entry; signals have order unless there are too many, and then m is past the last node
pub record Bus (text w : List ℕ) (enumeration first m : ℕ) (ps : List Port) (q : Port) : Type 0 where
  pub words : Words text w (enumeration + 1) (identifiers_end w enumeration) q.words
  pub regular : Regular q.words
  pub first-is : m ≤ max_nodes → first ≡ first_of ps q.name.text
  pub small : m ≤ max_nodes → first ≤ max_signals

-- the port at position j: the entry of its enumeration, if it has one, and the number of its first signal by that of its name
pub record BusAt (text w : List ℕ) (a : Ports) (ps : List Port) (m j : ℕ) (q : Port) : Type 0 where
  pub typed : get_or a.enumerations j 0 < max_tokens → Bus text w (get_or a.enumerations j 0) (get_or a.firsts (get_or a.order j 0) 0) m ps q
  pub untyped : max_tokens ≤ get_or a.enumerations j 0 → q.words ≡ []
  pub named : get_or a.order j 0 < max_names

abbrev pub BusesFrom : (text w : List ℕ) → Ports → List Port → (m j : ℕ) → List Port → Type 0
BusesFrom text w a ps m j [] = Unit {0}
BusesFrom text w a ps m j (q ∷ qs) = BusAt text w a ps m j q × BusesFrom text w a ps m (suc j) qs

-- the ports at the positions [from, to)
pub record Buses (text w : List ℕ) (a : Ports) (ps : List Port) (m from to : ℕ) (qs : List Port) : Type 0 where
  pub buses : BusesFrom text w a ps m from qs
  pub total : from + length qs ≡ to
  pub few : to ≤ max_names

-- whatever lines were gathered: now those of these formulas are too
pub record AddsAll (part : ℕ) (e : Ends) (table words table' words' : List ℕ) (r : Ends) (fs : List Formula) : Type 0 where
  pub more : (p : Part) → part ≡ part_code p → {start : ℕ} {ls : List (Part × Formula)} → GatheredFrom start ls words e.count table e.at
      → GatheredFrom start (ls ++ map (λ f. (p, f)) fs) words' r.count table' r.at

-- lines are gathered, there is room for more, and the work buffer holds entries
pub record Room (part : ℕ) (w : List ℕ) (e : Ends) (table words : List ℕ) : Type 0 where
  pub section : Part
  pub code : part ≡ part_code section
  pub start : ℕ
  pub some : List (Part × Formula)
  pub gathered : GatheredFrom start some words e.count table e.at
  pub long : max_nodes ≤ length words
  pub work : work_bytes ≤ length w

-- and there is such a bus, there are such buses
pub record BusReady (part : ℕ) (text w : List ℕ) (enumeration first : ℕ) (e : Ends) (table words : List ℕ) : Type 0 where
  pub room : Room part w e table words
  pub entry : enumeration < max_tokens
  pub ports : List Port
  pub port : Port
  pub bus : Bus text w enumeration first e.at ports port

pub record Ready (text w : List ℕ) (a : Ports) (span : Span) (e : Ends) (table words : List ℕ) : Type 0 where
  pub room : Room span.part w e table words
  pub ports : List Port
  pub some : List Port
  pub buses : Buses text w a ports e.at span.from span.to some

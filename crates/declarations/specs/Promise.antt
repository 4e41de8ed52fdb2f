-- What `declare` promises: a text's declarations, worked out.
use Rattle.std.specs.Prelude.{ℕ, suc, ◌≤◌, true, List, [], ◌∷◌, ◌≡◌, length, get_or, Ok, Err}
use Rattle.std.proofs.Math.Option.{none, some}
use Rattle.std.proofs.lemmas.List.Edits.{sets}
use Rattle.node.specs.Result.{Result, Done}
use Rattle.node.specs.Returned.{Returned}
use Rattle.language.specs.Limits.{max_tokens, max_names}
use Rattle.language.specs.Tokens.{tokens}
use Rattle.language.specs.Grammar.{Tokens}
use Rattle.language.specs.Tree.{Spec}
use Rattle.language.specs.Names.{visible}
use Rattle.language.specs.DeclaredNames.{Port, Declarations, declarations}
use Rattle.language.specs.Numbering.{in_order, first_of, signal_list, too_many_signals}
use Rattle.language.specs.Lists.{All}
use Rattle.language.specs.RegularWords.{RegularDefinition}
use Rattle.names.specs.References.{number_in}
use Rattle.names.specs.Resolved.{declared_names}
use Rattle.name_values.specs.Worked.{world_in}
use Rattle.notes.specs.Notes.{Notes}
use Rattle.memory_notes.specs.Laid.{Laid}
use Rattle.ports.specs.Signals.{Signals}
use Rattle.declarations.specs.declared.Declarations.{Declarations as Answered}
use Rattle.declarations.specs.Trees.{Tree}
use Rattle.declarations.specs.Expressions.{MemoryRoom}
use Rattle.declarations.specs.Enumerations.{Enumerates}

-- what refusals 1 to 10 leave: the tree is stored, its names are resolved, its enumerations' words are regular
pub record Checked (text w refs found : List ℕ) (entries names : ℕ) (x : Spec) : Type 0 where
  pub tree : Tree text w refs found entries names x
  pub regular : All RegularDefinition x.definitions

pub record Given (text w refs found : List ℕ) (entries names : ℕ) : Type 0 where
  pub x : Spec
  pub checked : Checked text w refs found entries names x
  pub refs_room : max_tokens ≤ length refs
  pub found-room : max_names ≤ length found

-- a port at its position: the number of its name, and the entry of the enumeration that it is declared by
pub record PortNoted (x : Spec) (ts : Tokens) (w order enumerations : List ℕ) (j : ℕ) (p : Port) : Type 0 where
  pub named : get_or order j 0 ≡ number_in (declared_names x) p.name
  pub shown : visible (declared_names x) p.name ≡ true
  pub enumerates : Enumerates ts w (get_or enumerations j 0) p.words

abbrev pub PortsNoted : Spec → Tokens → List ℕ → List ℕ → List ℕ → ℕ → List Port → Type 0
PortsNoted x ts w order enumerations j [] = Unit {0}
PortsNoted x ts w order enumerations j (p ∷ ps) = PortNoted x ts w order enumerations j p × PortsNoted x ts w order enumerations (suc j) ps

-- the signals: how many there are, their list and the number of each name's first; or the place of 15
abbrev pub SignalsAre : Spec → List Port → (firsts list list' : List ℕ) → Signals → Type 0
SignalsAre x ps firsts list list' (Ok n) =
    (too_many_signals 0 ps ≡ none) × ((n ≡ length (signal_list ps)) ×
    ((list' ≡ sets list 0 (signal_list ps)) × All (λ p. get_or firsts (number_in (declared_names x) p.name) 0 ≡ first_of ps p.name.text) ps))
SignalsAre x ps firsts list list' (Err e) = too_many_signals 0 ps ≡ some e.place

-- the notes are laid, for the signals' order that the text has
pub record WorkedOut (text w : List ℕ) (entries : ℕ) (x : Spec) (mem table order enumerations firsts list list' : List ℕ) (count ins : ℕ) (signals : Signals) : Type 0 where
  pub result : Declarations
  pub is : declarations x ≡ Done result
  pub sorts : List ℕ
  pub numbers : List ℕ
  pub notes : Notes (tokens text) w (world_in x (in_order result) result.table) sorts numbers
  pub laid : Laid mem sorts numbers firsts
  pub room : MemoryRoom mem table entries
  pub inputs : length result.inputs ≡ ins
  pub ports : length (in_order result) ≡ count
  pub few : count ≤ max_names
  pub noted : PortsNoted x (tokens text) w order enumerations 0 (in_order result)
  pub listed : SignalsAre x (in_order result) firsts list list' signals

abbrev pub Answer : List ℕ → List ℕ → ℕ → Spec → (mem table list list' : List ℕ) → Returned Answered → Type 0
Answer text w entries x mem table list list' (Ok a) = WorkedOut text w entries x mem table a.order a.enumerations a.firsts list list' a.count a.ins a.listed
Answer text w entries x mem table list list' (Err r) = declarations x ≡ Result.Refused r.number r.place

pub record Declares (text w : List ℕ) (entries : ℕ) (x : Spec) (mem table list list' : List ℕ) (r : Returned Answered) : Type 0 where
  pub answer : Answer text w entries x mem table list list' r

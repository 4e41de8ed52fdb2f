-- From one stage to the next: what the notes and the chosen entries give to parameters, and what the ports' entries give to their turns.
use Rattle.std.specs.Prelude.{ℕ, ◌≤◌, ◌<◌, List, [], ◌≡◌, refl, Bool, true, false, ltb, length, get_or}
use Rattle.std.proofs.Common.{arith, ltb-true, ltb-false}
use Rattle.language.specs.Limits.{max_names, max_tokens}
use Rattle.language.specs.Tokens.{tokens}
use Rattle.language.specs.Grammar.{Tokens}
use Rattle.language.specs.Tree.{Spec}
use Rattle.language.specs.DeclaredNames.{inputs, outputs}
use Rattle.language.specs.Listed.{declared_name}
use Rattle.entries.specs.Flat.{Entry, outline}
use Rattle.entries.specs.Stored.{EntriesFrom}
use Rattle.names.specs.Resolved.{Stored, Resolved}
use Rattle.name_values.specs.Worked.{world_in}
use Rattle.notes.specs.Notes.{Notes}
use Rattle.notes.specs.FirstTable.{first_table}
use Rattle.notes.specs.Chosen.{Choice}
use Rattle.notes.specs.Choosing.{Chooses}
use Rattle.notes.specs.ChosenLaws.{parameter_choice, port_choice}
use Rattle.notes.specs.Owned.{DeclarationAt}
use Rattle.declarations.specs.Turnable.{Turnable}
use Rattle.memory_notes.specs.ShortTableLaws.{short_first}
use Rattle.declarations.specs.Trees.{Tree}
use Rattle.declarations.specs.TreeLaws.{tree-inside}
use Rattle.declarations.specs.Expressions.{MemoryRoom}
use Rattle.declarations.specs.Promise.{Checked, Given}
use Rattle.declarations.specs.Constants.{Parameters, ParametersGiven}
use Rattle.declarations.specs.DescribingRoom.{DescribeRoom}
use Rattle.declarations.specs.Placing.{PortsPlaced}
use Rattle.declarations.specs.PlacingLaws.{parameters_few, parameters_placed, ins_few, ports_placed, along_each}

-- what `choose` and `note_names` answer
abbrev pub Choosing : List ℕ → ℕ → Choice → List ℕ → ℕ → List ℕ → ℕ → Type 0
Choosing w entries c old from new r = (ts : Tokens) (es : List Entry) → EntriesFrom w ts 0 es → length es ≡ entries → Chooses c es old from new r

abbrev pub Noting : List ℕ → List ℕ → ℕ → List ℕ → List ℕ → Type 0
Noting w found names sorts numbers = (text refs : List ℕ) (count entries : ℕ) (x : Spec) → Stored text w count entries x → Resolved x refs found names
    → Notes (tokens text) w (world_in x [] (first_table x)) sorts numbers

module _ {text w refs found : List ℕ} {entries names : ℕ} where
  pub parameters_fit : (old new : List ℕ) (count : ℕ) (sorts numbers : List ℕ) → max_names ≤ length old → Choosing w entries parameter_choice old 0 new count → Noting w found names sorts numbers
      → (x : Spec) → Checked text w refs found entries names x → Parameters text w refs found entries names new count sorts numbers x (first_table x)
  parameters_fit old new count sorts numbers room f n x k =
      let t = k.tree in
      let p = parameters_placed t old new count room (f (tokens text) (outline x) t.stored.stored t.stored.total) in
      record { tree = t; places = p.0; total = p.1; short = short_first x k.regular; notes = n text refs t.count entries x t.stored t.resolved }

  pub parameters_given : (old new : List ℕ) (count : ℕ) (sorts numbers mem table : List ℕ) → max_names ≤ length old → length new ≡ length old → Choosing w entries parameter_choice old 0 new count
      → Noting w found names sorts numbers → length sorts ≡ max_names → length numbers ≡ max_names → MemoryRoom mem table entries → Given text w refs found entries names
      → ParametersGiven text w refs new count sorts numbers mem table entries
  parameters_given old new count sorts numbers mem table room size f n a b c g =
      let p = parameters_fit old new count sorts numbers room f n g.x g.checked in
      record {
        found = found;
        names = names;
        x = g.x;
        d = first_table g.x;
        parameters = p;
        room = record { refs_room = g.refs_room; sorts_full = a; numbers_full = b; memory = c };
        few = (let q = p.total in let few = parameters_few g.checked.tree in omega arith);
      }

  pub ins_small : (old new : List ℕ) (ins : ℕ) → Choosing w entries (port_choice 0) old 0 new ins → Given text w refs found entries names → ins ≤ max_names
  ins_small old new ins f g = ins_few g.checked.tree old new ins (f (tokens text) (outline g.x) g.checked.tree.stored.stored g.checked.tree.stored.total)

  pub ports_found : (old mid new : List ℕ) (ins count : ℕ) → max_names ≤ length old → length mid ≡ length old → Choosing w entries (port_choice 0) old 0 mid ins
      → Choosing w entries (port_choice 1) mid ins new count → (x : Spec) (t : Tree text w refs found entries names x) → PortsPlaced t new ins count
  ports_found old mid new ins count room size f g x t =
      ports_placed t old mid new ins count room size (f (tokens text) (outline x) t.stored.stored t.stored.total) (g (tokens text) (outline x) t.stored.stored t.stored.total)

  ports_inside : (places : List ℕ) (ins count : ℕ) (x : Spec) (t : Tree text w refs found entries names x) → PortsPlaced t places ins count → (i : ℕ) → i < count → get_or places i 0 < max_tokens
  ports_inside places ins count x t p i l = go (ltb i ins) refl
    where
      go : (b : Bool) → ltb i ins ≡ b → get_or places i 0 < max_tokens
      go true e = along_each (λ m k. DeclarationAt x text w refs m k × Turnable x (declared_name m)) (λ k. k < max_tokens) (λ m k h. tree-inside t k h.0.own.inside) places 0 (inputs x.main)
          p.ins-along i (omega arith) (let q = p.ins_total in let r = ltb-true i ins e in omega arith)
      go false e = along_each (λ m k. DeclarationAt x text w refs m k × Turnable x (declared_name m)) (λ k. k < max_tokens) (λ m k h. tree-inside t k h.0.own.inside) places ins (outputs x.main)
          p.outs-along i (ltb-false i ins e) (let q = p.outs_total in omega arith)

  pub describe_room : (places : List ℕ) (ins count : ℕ) (order enumerations offsets : List ℕ) (g : Given text w refs found entries names) → PortsPlaced g.checked.tree places ins count
      → max_names ≤ length places → max_names ≤ length order → max_names ≤ length enumerations → max_names ≤ length offsets → DescribeRoom w refs found places count order enumerations offsets
  describe_room places ins count order enumerations offsets g p a b c d =
      let few = p.few in
      record {
        work = g.checked.tree.stored.lexed.room;
        refs_room = g.refs_room;
        found-room = g.found-room;
        few = few;
        places-room = omega arith;
        order-room = omega arith;
        enumerations_room = omega
            arith;
        offsets_room = omega arith;
        inside = ports_inside places ins count g.x g.checked.tree p;
      }

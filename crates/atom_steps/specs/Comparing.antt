-- A comparison's operands as they have come: by which name a bus or an identifier is told, of which mode the left one is, which bus and which identifier face each other.
use Rattle.std.specs.Prelude.{ℕ, ◌+◌, ◌<◌, false, List, ◌≡◌, get_or}
use Rattle.node.specs.Result.{Result, ◌>>=◌}
use Rattle.language.specs.Limits.{max_names}
use Rattle.language.specs.Tokens.{Token}
use Rattle.language.specs.Operators.{Comparison}
use Rattle.language.specs.Values.{Value}
use Rattle.language.specs.DeclaredNames.{BusOf, Identifies}
use Rattle.language.specs.Expansion.{against}
use Rattle.name_values.specs.World.{Stands, name_at, meaning_at}
use Rattle.operators.specs.Codes.{comparison_code}
use Rattle.operators.specs.Tables.{infix_code_at}
use Rattle.operands.specs.Entries.{number_at}
use Rattle.operands.specs.Working.{Source}
use Rattle.machine.specs.Fields.{entry_field, at_field}
use Rattle.machine.specs.Phases as Phase
use Rattle.machine.specs.Came.{Came, Worth, nodes}
use Rattle.machine.specs.Frames.{Frame, apply}
use Rattle.machine.specs.Realm.{Realm}
use Rattle.machine.specs.Holding.{holding, empty}
use Rattle.machine.specs.Telling.{is_bus, is_choice, is_nodes}
use Rattle.machine.specs.Table.{Began}
use Rattle.machine.specs.States.{TopOf, Top}
use Rattle.machine.specs.declared.Machine.{Machine}
use Rattle.machine.specs.Entering.{Waiting}

-- the number of a name, by which a bus or an identifier is told
pub record Nameable (m : Machine) : Type 0 where
  pub bus : m.mode ≡ is_bus → m.from < max_names
  pub choice : m.mode ≡ is_choice → m.from < max_names

pub record NameOf (m : Machine) (r : ℕ) : Type 0 where
  pub bus : m.mode ≡ is_bus → r ≡ m.from
  pub choice : m.mode ≡ is_choice → r ≡ m.from
  pub small : r < max_names

-- the right operand has come, a value; the left one is of this mode
pub record Comparing (mem : List ℕ) (m : Machine) (mode : ℕ) : Type 0 where
  pub waiting : Waiting mem m Phase.right_compared
  pub value : m.mode ≡ is_nodes → ⊥
  pub left : get_or mem (m.frames + at_field) 0 ≡ mode

-- the frame and what has come to it are the bus b, whose name stands at `place`, and the identifier i
pub record Faced {s : Source} (R : Realm s) (mem out : List ℕ) (m : Machine) (x : Result Came) (o : Began) (place b i : ℕ) : Type 0 where
  pub frame : Frame
  pub top : TopOf R mem out m x o frame
  pub flat : holding frame ≡ empty Phase.right_compared false
  pub value : Value
  pub came : top.came ≡ Worth value
  pub operator : Comparison
  pub code : infix_code_at (number_at s.work (get_or mem (m.frames + entry_field) 0)) ≡ comparison_code operator
  pub width : ℕ
  pub words : List Token
  pub bus : b < max_names
  pub bus_means : meaning_at R.W b ≡ Stands (BusOf width)
  pub choice : i < max_names
  pub choice_means : meaning_at R.W i ≡ Stands (Identifies words)
  pub same : apply frame top.came ≡ (against R.ports operator (record { place = place; name = name_at R.W b; width = width }) words >>= nodes)

pub record Faces (s : Source) (mem out : List ℕ) (m : Machine) (place b i : ℕ) : Type 0 where
  pub faced : (R : Realm s) (x : Result Came) (o : Began) → Top R mem out m x o → Faced R mem out m x o place b i

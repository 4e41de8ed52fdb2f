-- The declarations of a text whose tree is checked: what they ask for, and what their answer says.
use Rattle.std.specs.Prelude.{ℕ, ◌+◌, ◌≤◌, List, ◌≡◌, length, Ok}
use Rattle.node.specs.Result.{Done, ◌>>=◌}
use Rattle.language.specs.Limits.{max_tokens, max_names, work_bytes}
use Rattle.language.specs.Tree.{Spec}
use Rattle.language.specs.DeclaredNames.{Declarations, declarations}
use Rattle.language.specs.Reading.{spec_expansion, delivered}
use Rattle.parser.specs.Outlines.{facts_of}
use Rattle.machine.specs.Memory.{first_kept, frame_words, reserve, spare}
use Rattle.machine_run.specs.Running.{max_memory, smaller}
use Rattle.memory_notes.specs.Laid.{last_slots}
use Rattle.declarations.specs.Promise.{Checked}
use Rattle.ending.specs.Hands.{Hands}
use Rattle.line_counts.specs.Promise.{CountsOf}
use Rattle.reader.specs.declared.expansion.CheckedTree.{CheckedTree}
use Rattle.reader.specs.declared.expansion.Counted.{Counted}

-- the tree of a text is checked, and the facts are its INFO's
pub record Parsed (text w refs found : List ℕ) (t : CheckedTree) (x : Spec) : Type 0 where
  pub checked : Checked text w refs found t.entries t.names x
  pub facts : t.facts ≡ facts_of x

pub record SomeParsed (text w refs found : List ℕ) (t : CheckedTree) : Type 0 where
  pub x : Spec
  pub parsed : Parsed text w refs found t x
  pub work_room : work_bytes ≤ length w
  pub refs_room : max_tokens ≤ length refs
  pub found-room : max_names ≤ length found

-- a memory with room for a text of so many entries
pub record Roomy (memory : List ℕ) (entries : ℕ) : Type 0 where
  pub room : last_slots (length memory) + entries + (frame_words + reserve + spare + entries) ≤ smaller (length memory)
  pub kept : first_kept ≤ last_slots (length memory)
  pub most : length memory ≤ max_memory

-- the answer on a tree, and the counts of one that is accepted
pub record Converts (x : Spec) (nodes signals nodes' signals' : List ℕ) (r : Counted) : Type 0 where
  pub hands : Hands (spec_expansion x >>= delivered (length nodes) (length signals)) nodes signals nodes' signals' r.answer
  pub lines : (n s : ℕ) → r.answer ≡ Ok (n, s) → (d : Declarations) → declarations x ≡ Done d → CountsOf x d r.lines

-- of whatever tree is stored there, the answer
pub record Expands (text w refs found : List ℕ) (t : CheckedTree) (nodes signals nodes' signals' : List ℕ) (r : Counted) : Type 0 where
  pub converts : (x : Spec) → Parsed text w refs found t x → Converts x nodes signals nodes' signals' r

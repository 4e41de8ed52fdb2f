-- The lines of a text whose names are worked out: what they ask for, and what their answer says.
use Rattle.std.specs.Prelude.{ℕ, ◌+◌, ◌≤◌, List, ◌≡◌, length, get_or}
use Rattle.language.specs.Limits.{max_tokens, max_signals, work_bytes}
use Rattle.language.specs.Tree.{Spec}
use Rattle.language.specs.DeclaredNames.{Declarations}
use Rattle.parser.specs.Outlines.{facts_of}
use Rattle.operands.specs.Working.{source}
use Rattle.machine.specs.Memory.{slots_word, frame_words, reserve, spare}
use Rattle.machine_run.specs.Running.{max_memory, smaller}
use Rattle.lines.specs.declared.Plan.{Plan}
use Rattle.lines.specs.Gathering.{buffers}
use Rattle.lines.specs.Whole.{Given}
use Rattle.ending.specs.Listing.{start_of, Listing}
use Rattle.reader.specs.declared.expansion.Named.{Named}

-- lines from `at` on
abbrev pub plan_at : Named → ℕ → Plan
plan_at a at = record { entries = a.entries; ins = a.ins; count = a.count; start = at }

-- names are worked out: the lines of the text may be too
pub record Ready (text w refs memory table : List ℕ) (a : Named) (x : Spec) (d : Declarations) : Type 0 where
  pub facts : a.facts ≡ facts_of x
  pub listing : Listing a.listed d a.list
  pub given : (words : List ℕ) → Given (source text w refs) (buffers memory table words) a.ports (plan_at a (start_of a.listed)) x d

pub record SomeReady (text w refs memory table : List ℕ) (a : Named) : Type 0 where
  pub x : Spec
  pub d : Declarations
  pub ready : Ready text w refs memory table a x d

pub record Sized (w refs memory : List ℕ) (a : Named) : Type 0 where
  pub work_room : work_bytes ≤ length w
  pub refs_room : max_tokens ≤ length refs
  pub room : get_or memory slots_word 0 + a.entries + (frame_words + reserve + spare + a.entries) ≤ smaller (length memory)
  pub most : length memory ≤ max_memory
  pub list-size : max_signals ≡ length a.list

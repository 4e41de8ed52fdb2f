-- The walk may begin where a text's names are resolved, its declarations worked out and their notes laid into the memory.
use Rattle.std.specs.Prelude.{ℕ, suc, ◌≤◌, List, ◌≡◌, refl}
use Rattle.std.proofs.Common.{arith}
use Rattle.node.specs.Limits.{max_nodes}
use Rattle.node.specs.Result.{Done}
use Rattle.language.specs.Tokens.{tokens}
use Rattle.language.specs.Tree.{Spec}
use Rattle.language.specs.DeclaredNames.{Declarations, declarations}
use Rattle.language.specs.Numbering.{in_order}
use Rattle.language.proofs.Laws.Basics.Lists.{All}
use Rattle.language.proofs.Laws.Basics.Results.{value_of}
use Rattle.language.proofs.Laws.Values.RegularWords.{RegularDefinition}
use Rattle.names.specs.Resolved.{Stored, Resolved}
use Rattle.name_values.specs.World.{World}
use Rattle.name_values.specs.Worked.{world_in}
use Rattle.notes.specs.Notes.{Notes}
use Rattle.operands.specs.Working.{Source}
use Rattle.memory_notes.specs.Laid.{Laid, FirstSignals}
use Rattle.memory_notes.specs.LaidLaws.{laid_noted, laid_lasting}
use Rattle.memory_notes.specs.ShortTableLaws.{short_table}
use Rattle.machine_run.specs.Running.{regions_of}
use Rattle.lines.specs.Gathering.{Tree, realm_of, buffers, Begins}

-- what the declared names mean
abbrev pub world : Spec → Declarations → World
world x d = world_in x (in_order d) d.table

module _ (x : Spec) (d : Declarations) (regular : All RegularDefinition x.definitions) (declared : declarations x ≡ Done d) where
  pub begins : {s : Source} {memory table words sorts numbers firsts found : List ℕ} {count entries names start : ℕ} → Stored s.text s.work count entries x → Resolved x s.refs found names
      → Notes (tokens s.text) s.work (world x d) sorts numbers → Laid memory sorts numbers firsts → (start ≤ max_nodes → FirstSignals (in_order d) (world x d) firsts)
      → start ≤ suc max_nodes → (start ≤ max_nodes → start ≡ 0) → Begins s (buffers memory table words) entries start x d
  begins {s} {memory} {table} {entries = entries} {start = start} stored resolved notes laid firsts few starts =
      let t : Tree s entries x d = record { count = _; found = _; names = _; stored = stored; resolved = resolved; short = value_of declared (short_table x regular) } in
      let z = laid.behind in
      record {
        tree = t;
        few = few;
        starts = starts;
        noted = laid_noted laid (realm_of t) (regions_of memory entries) start notes firsts refl (omega arith) (omega arith);
        lasting = laid_lasting laid (world x d) table start;
      }

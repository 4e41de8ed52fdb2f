-- What the pass takes for granted holds of a stored tree whose names are resolved.
use Rattle.std.specs.Prelude.{ℕ, suc, List, [], ◌∷◌}
use Rattle.std.proofs.Common.{sym, ap, ap₂, ◌∙◌}
use Rattle.language.specs.Tokens.{tokens}
use Rattle.language.specs.Tree.{Spec}
use Rattle.language.specs.Names.{Names}
use Rattle.language.proofs.Laws.Basics.Results.{value_of}
use Rattle.language.proofs.Laws.Grammar.BracesReads.{spec_proper}
use Rattle.lexer.specs.LexingLaws.{offset_at}
use Rattle.entries.specs.Flat.{Entry, outline}
use Rattle.names.specs.Scan.{token_of}
use Rattle.names.specs.Walkable.{names}
use Rattle.names.specs.References.{reference}
use Rattle.names.specs.Walking.{open_after}
use Rattle.names.specs.Refers.{Run, run-one}
use Rattle.names.specs.Resolved.{Stored, declared_names, Resolved}
use Rattle.names.proofs.ResolvedLaws.{run-begins}
use Rattle.traversal.specs.Cells.{SeenAlong}
use Rattle.traversal.specs.TreeStored.{TreeStored}
use Rattle.types.specs.Known as Known
use Rattle.types.specs.Cells.{named_cell, Referring}
use Rattle.types.specs.CellLaws.{named-seen}
use Rattle.types.specs.Lines.{TypesKnown}
use Rattle.types.specs.Declaring.{declared_table}
use Rattle.types.specs.TableLaws.{table-first}
use Rattle.types.specs.KnownLineLaws.{types-known}

-- as a pass asks for it
pub tree_stored : {text w : List ℕ} {count entries : ℕ} {x : Spec} → Stored text w count entries x → TreeStored w (tokens text) entries x
tree_stored {text} s = record { entries = s.stored; count = sym s.total; proper = value_of s.read (spec_proper (tokens text)) }

module _ {text w refs found : List ℕ} {count entries n : ℕ} {x : Spec} (s : Stored text w count entries x) (r : Resolved x refs found n) where
  referring : (bs : Names) (i : ℕ) (es : List Entry) → Run (outline x) i bs [] es → Referring (declared_names x) refs bs i es
  referring bs i [] h = tt
  referring bs i (e ∷ es) h =
      let d = run-one (outline x) i bs e es (record { here = h.here; opened = h.opened }) in (
        λ y. r.refers i d.0 (ap (λ (m : Entry). names m.kind) d.1 ∙ y) ∙ ap₂ (λ os m. reference (declared_names x) os (token_of m)) d.2.opened d.1,
        referring (open_after bs e) (suc i) es d.2,
      )

  pub names-seen : SeenAlong open_after (Known.Resolved (declared_names x)) (named_cell refs w) [] 0 (outline x)
  names-seen = named-seen (declared_names x) refs w (tokens text) (offset_at s.lexed.lexical s.lexed.stored) [] 0 (outline x) s.stored (referring [] 0 (outline x) (run-begins x))

  pub names-known : TypesKnown (declared_names x) (declared_table refs w entries) x
  names-known = types-known r (declared_table refs w entries) (table-first (declared_names x) refs w (tokens text) entries x names-seen (tree_stored s))

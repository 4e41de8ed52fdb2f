-- A tree that stands in the work buffer is what each stage after the parser asks for.
use Rattle.std.specs.Prelude.{ℕ, ◌≤◌, List, ◌≡◌, length}
use Rattle.language.specs.Limits.{work_bytes}
use Rattle.language.specs.Tokens.{tokens}
use Rattle.language.specs.Tree.{Spec}
use Rattle.language.specs.Places.{too_deep}
use Rattle.language.specs.Types.{wrong_type}
use Rattle.language.specs.Words.{wrong_words}
use Rattle.lexer.specs.LexingLaws.{offset_at}
use Rattle.parser.specs.declared.Facts.{Facts}
use Rattle.outline.specs.Outlining.{Outlined}
use Rattle.spellings.specs.InternLaws.{lexed-from}
use Rattle.names.specs.Resolved.{Stored, Resolved}
use Rattle.traversal.specs.Places.{Place, placed}
use Rattle.depth.specs.Promise.{TooDeep}
use Rattle.types.specs.Resolving.{tree_stored}
use Rattle.types.specs.Running.{WrongType}
use Rattle.enumerations.specs.SpellLaws.{spells_tell}
use Rattle.enumerations.specs.WordReads.{good_definitions}
use Rattle.enumerations.specs.Promise.{WrongWords}

-- the parser leaves it so
pub outline_stored : {text v : List ℕ} {n m : ℕ} {f : Facts} (o : Outlined text v n m f) → work_bytes ≤ length v → Stored text v n m o.tree
outline_stored o room = record { lexed = lexed-from o.lexed room; read = o.read; total = o.total; few = o.few; stored = o.stored }

-- what refusals 5, 9 and 10 find in it
module _ {text w : List ℕ} {count m : ℕ} {x : Spec} (s : Stored text w count m x) where
  pub deep-place : {r : Place} → TooDeep w m r → r ≡ placed (too_deep x)
  unfolding TooDeep
  deep-place h = h (tokens text) x (offset_at s.lexed.lexical s.lexed.stored) (tree_stored s)

  pub type_place : {refs found : List ℕ} {n : ℕ} {r : Place} → Resolved x refs found n → WrongType refs w m r → r ≡ placed (wrong_type x)
  unfolding WrongType
  type_place k h = h text count x _ _ s k

  pub words-place : {r : Place} → WrongWords text w m r → r ≡ placed (wrong_words x)
  unfolding WrongWords
  words-place h = h (tokens text) x (spells_tell s.lexed.lexical s.lexed.stored) (tree_stored s) (good_definitions text s.read)

-- What the first two stages promise: refusals 1 to 4 of a text, or its tokens and its outline in the work buffer.
use Rattle.std.specs.Prelude.{ℕ, ◌≤◌, List, ◌≡◌, Ok, Err, length}
use Rattle.node.specs.Returned.{Returned}
use Rattle.node.specs.Result.{Done, Refused, ◌>>=◌}
use Rattle.words.specs.Words.{past}
use Rattle.language.specs.Limits.{max_tokens, work_bytes}
use Rattle.language.specs.Tokens.{tokens}
use Rattle.language.specs.Tree.{Spec}
use Rattle.language.specs.Sections.{spec_of}
use Rattle.lexer.specs.Lexing.{lexing}
use Rattle.lexer.specs.Answer.{Tokenized}
use Rattle.entries.specs.Flat.{outline}
use Rattle.entries.specs.Stored.{EntriesFrom}
use Rattle.parser.specs.declared.Facts.{Facts}
use Rattle.parser.specs.Outlines.{facts_of}
use Rattle.outline.specs.declared.TextOutline.{TextOutline}

-- the buffer v holds n tokens and the m entries of the tree that they are read as
pub record Outlined (text v : List ℕ) (n m : ℕ) (f : Facts) : Type 0 where
  pub tree : Spec
  pub lexed : Tokenized text v n
  pub read : spec_of (tokens text) ≡ Done tree
  pub total : length (outline tree) ≡ m
  pub few : m ≤ max_tokens
  pub stored : EntriesFrom v (tokens text) 0 (outline tree)
  pub facts : f ≡ facts_of tree

abbrev pub Says : List ℕ → List ℕ → Returned TextOutline → Type 0
Says text v (Ok o) = Outlined text v o.tokens o.entries o.facts
Says text v (Err r) = lexing text >>= spec_of ≡ Refused r.number r.place

-- from the buffer w to the buffer v
pub record Outlining (text w v : List ℕ) (r : Returned TextOutline) : Type 0 where
  pub says : Says text v r
  pub size : length v ≡ length w
  pub beyond : past work_bytes v ≡ past work_bytes w

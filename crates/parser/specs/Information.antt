-- INFO after its word, in the parts that the code reads one by one.
use Rattle.std.specs.Prelude.{ℕ, List, Bool}
use Prim.Native.String.{String}
use Rattle.node.specs.Result.{Done, ◌>>=◌}
use Rattle.language.specs.Tokens.{Token}
use Rattle.language.specs.Tree.{Model}
use Rattle.language.specs.Grammar.{Tokens, Read, front, expect}
use Rattle.language.specs.Sections.{described, model_of, strict_of, info_end}
use Rattle.entries.specs.declared.Cursor.{Cursor}
use Rattle.entries.specs.Parse.{Parse}
use Rattle.entries.specs.Reads.{Parses, no_entries}
use Rattle.parser.specs.Spelling.{Spells}

-- a sign or word, then another
abbrev pub pair_of : String → String → Tokens → Read Token
pair_of s u ts = expect s ts >>= λ (w, ts). expect u ts

abbrev pub ReadsPair : ℕ → ℕ → List ℕ → Cursor → Parse → Type 0
ReadsPair first second w c r = (s u : String) → Spells s first → Spells u second → Parses (pair_of s u) no_entries w w c r

abbrev pub ReadsDescribed : ℕ → List ℕ → Cursor → Parse → Type 0
ReadsDescribed word w c r = (s : String) → Spells s word → Parses (described s) no_entries w w c r

-- `{`, the title and the description
abbrev pub titles_of : Tokens → Read Token
titles_of ts = do
  (w, ts) ← expect "{" ts
  (w, ts) ← described "TITLE" ts
  described "DESCRIPTION" ts

-- up to the word of the semantics
abbrev pub to_semantics : Tokens → Read Token
to_semantics ts = titles_of ts >>= λ (w, ts). pair_of "SEMANTICS" ":" ts

-- from there on up to the target's word: is it strict?
abbrev pub to_target : Tokens → Read Bool
to_target ts = strict_of ts >>= λ (s, ts). pair_of "TARGET" ":" ts >>= λ (w, ts). Done (s, ts)

-- the target, and the end of INFO
abbrev pub closing_of : Tokens → Read Model
closing_of ts = model_of ts >>= λ (m, ts). info_end ts >>= λ (w, ts). Done (m, ts)

-- what INFO says
pub record Info : Type 0 where
  pub semantics : Model
  pub strict : Bool
  pub target : Model
  pub target_word : Token

abbrev pub information_of : Tokens → Read Info
information_of ts = do
  (w, ts) ← to_semantics ts
  (m, ts) ← model_of ts
  (s, ts) ← to_target ts
  (n, us) ← closing_of ts
  Done (record { semantics = m; strict = s; target = n; target_word = front ts }, us)

-- A text's outline: what the parser answers, and what it leaves in the buffer.
use Rattle.std.specs.Prelude.{ℕ, ◌≤◌, List, [], ◌++◌, ◌≡◌, eqb, length, drop, Ok, Err}
use Rattle.node.specs.Returned.{Returned, refusal}
use Rattle.node.specs.Result.{Result, Done, Refused, ◌>>=◌}
use Rattle.language.specs.Bytes.{if◌then◌otherwise◌}
use Rattle.language.specs.Limits.{max_tokens}
use Rattle.language.specs.Models.{model_code}
use Rattle.language.specs.Tree.{Subsection, Spec}
use Rattle.language.specs.Grammar.{Tokens, Read, expect}
use Rattle.language.specs.Sections.{subsections_of, spec_of}
use Rattle.entries.specs.Flat.{Entry, each, flat_subsection, outline}
use Rattle.entries.specs.Stored.{EntriesFrom}
use Rattle.entries.specs.declared.Cursor.{Cursor}
use Rattle.entries.specs.Cursors.{Fits, Tells, Ready, number_at, refused_at}
use Rattle.entries.specs.Reads.{Kept, Reads, no_entries}
use Rattle.entries.specs.Parse.{Parse}
use Rattle.parser.specs.declared.Facts.{Facts}
use Rattle.parser.specs.declared.Outline.{Outline}
use Rattle.parser.specs.Parts.{Globals, globals_of, flat_globals}
use Rattle.parser.specs.Information as Information

-- what INFO says, as the code hands it back
abbrev pub told_of : Information.Info → Facts
told_of i = record { semantics = model_code i.semantics; strict = i.strict; target = model_code i.target; place = i.target_word.at }

-- where the parser stands behind INFO
abbrev pub behind : Returned (Facts × Cursor) → Parse
behind (Ok (f, d)) = Ok d
behind (Err r) = Err r

-- INFO is read as its definition says, without entries, and the facts are those of its value
pub record Informs (ts : Tokens) (w : List ℕ) (c : Cursor) (x : Read Information.Info) (r : Returned (Facts × Cursor)) : Type 0 where
  pub reads : Reads ts w w c no_entries x (behind r)
  pub facts : (f : Facts) (d : Cursor) (i : Information.Info) (us : Tokens) → r ≡ Ok (f, d) → x ≡ Done (i, us) → f ≡ told_of i

abbrev pub ReadsInformation : List ℕ → Cursor → Returned (Facts × Cursor) → Type 0
ReadsInformation w c r = (ts : Tokens) → Ready ts w c → Informs ts w c (Information.information_of (drop c.at ts)) r

-- GLOBAL and MAIN
abbrev pub sections_of : Tokens → Read (Globals × List Subsection)
sections_of ts = do
  (g, ts) ← globals_of ts
  (w, ts) ← expect "MAIN" ts
  (w, ts) ← expect "{" ts
  (m, ts) ← subsections_of 9 [] ts
  Done ((g, m), ts)

abbrev pub flat_sections : Globals × List Subsection → List Entry
flat_sections (g, m) = flat_globals g ++ each flat_subsection m

-- the text's end, or no token that the grammar continues
abbrev pub ended : List ℕ → Cursor → Parse
ended w c = if eqb (number_at w c) 0 then Ok c otherwise refused_at w c

-- the cursor before the first token
abbrev pub start_of : ℕ → ℕ → Cursor
start_of count end = record { at = 0; out = 0; count = count; end = end }

-- tokens stand in the buffer
pub record Lexed (w : List ℕ) (count end : ℕ) : Type 0 where
  pub tokens : Tokens
  pub fits : Fits w (start_of count end)
  pub tells : Tells tokens w count end

-- what a text's INFO says
abbrev pub facts_of : Spec → Facts
facts_of x = told_of (record { semantics = x.semantics; strict = x.strict; target = x.target; target_word = x.target_word })

-- an accepted text: how many entries it has and what INFO says; the entries are written
pub record Drawn (ts : Tokens) (v : List ℕ) (x : Spec) (r : Returned Outline) : Type 0 where
  pub accepted : r ≡ Ok (record { entries = length (outline x); facts = facts_of x })
  pub entries : EntriesFrom v ts 0 (outline x)
  pub few : length (outline x) ≤ max_tokens

abbrev pub Answer : Tokens → List ℕ → Result Spec → Returned Outline → Type 0
Answer ts v (Done x) r = Drawn ts v x r
Answer ts v (Refused n p) r = r ≡ Err (refusal n p)

-- the answer of the grammar: `spec_of` of the tokens
pub record Outlined (ts : Tokens) (w v : List ℕ) (r : Returned Outline) : Type 0 where
  pub kept : Kept w v 0
  pub says : Answer ts v (spec_of ts) r

-- whatever the tokens are that the buffer holds
abbrev pub Outlines : List ℕ → List ℕ → ℕ → ℕ → Returned Outline → Type 0
Outlines w v count end r = (ts : Tokens) → Tells ts w count end → Outlined ts w v r

-- Refusals 6, 7 and 8 of a stored tree, and what each name of it refers to.
use Rattle.std.specs.Prelude.{ℕ, ◌≤◌, ◌<◌, List, true, ◌≡◌, length, get_or, Ok, Err}
use Rattle.std.proofs.Math.Option.{none}
use Rattle.node.specs.Result.{Result, Done, Refused as RefusedAt}
use Rattle.node.specs.Returned.{Returned}
use Rattle.language.specs.Limits.{max_tokens, max_names}
use Rattle.language.specs.Tokens.{tokens}
use Rattle.language.specs.Tree.{Spec}
use Rattle.language.specs.Sections.{spec_of}
use Rattle.language.specs.Places.{refuse_at, all_lines}
use Rattle.language.specs.Names.{Names, declares, over, not_visible, declared_again, too_many}
use Rattle.entries.specs.Flat.{outline}
use Rattle.entries.specs.Stored.{EntriesFrom}
use Rattle.spellings.specs.Interned.{Lexed}
use Rattle.names.specs.Walkable.{names, entry_of}
use Rattle.names.specs.Walking.{refers_to}
use Rattle.names.specs.References.{last_first, Where}

-- a text's tree in the work buffer, behind its tokens
pub record Stored (text w : List ℕ) (count entries : ℕ) (x : Spec) : Type 0 where
  pub lexed : Lexed text w count
  pub read : spec_of (tokens text) ≡ Done x
  pub total : length (outline x) ≡ entries
  pub few : entries ≤ max_tokens
  pub stored : EntriesFrom w (tokens text) 0 (outline x)

pub record TreeStored (text w : List ℕ) (count entries : ℕ) : Type 0 where
  pub tree : Spec
  pub stored : Stored text w count entries tree

-- 'each over the whole text, first place first'
abbrev pub naming : Spec → Result Spec
naming x = refuse_at 6 (not_visible x) (refuse_at 7 (declared_again x) (refuse_at 8 (too_many x) (Done x)))

-- the declared names of a text, the last first: a name's number is how many stand behind it
abbrev pub declared_names : Spec → Names
declared_names x = last_first (over declares (all_lines x))

-- every entry that uses, brings or declares a name has what the name refers to; `found` holds the entry of each declared name
pub record Resolved (x : Spec) (refs found : List ℕ) (n : ℕ) : Type 0 where
  pub count : n ≡ length (declared_names x)
  pub few : n ≤ max_names
  pub visible : not_visible x ≡ none
  pub distinct : declared_again x ≡ none
  pub refers : (i : ℕ) → i < length (outline x) → names (entry_of (outline x) i).kind ≡ true → get_or refs i 0 ≡ refers_to (declared_names x) (outline x) i
  pub entries : Where (outline x) found (declared_names x)

abbrev pub Says : Spec → List ℕ → List ℕ → Returned ℕ → Type 0
Says x refs found (Ok n) = (naming x ≡ Done x) × Resolved x refs found n
Says x refs found (Err r) = naming x ≡ RefusedAt r.number r.place

pub record Answers (x : Spec) (refs found : List ℕ) (r : Returned ℕ) : Type 0 where
  pub says : Says x refs found r

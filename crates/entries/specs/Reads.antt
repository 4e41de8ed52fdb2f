-- One contract for every function of the parser: it reads what a definition of the grammar reads, and writes the entries of what is read.
use Rattle.std.specs.Prelude.{ℕ, ◌+◌, ◌≤◌, ◌<◌, List, [], ◌≡◌, length, drop, Ok, Err}
use Rattle.node.specs.Returned.{refusal}
use Rattle.node.specs.Result.{Done, Refused}
use Rattle.words.specs.Words.{word_at, past}
use Rattle.language.specs.Limits.{work_bytes}
use Rattle.language.specs.Grammar.{Tokens, Read}
use Rattle.entries.specs.Flat.{Entry}
use Rattle.entries.specs.Stored.{first_entry, EntriesFrom}
use Rattle.entries.specs.declared.Cursor.{Cursor}
use Rattle.entries.specs.Parse.{Parse}
use Rattle.entries.specs.Cursors.{Ready}

-- the buffer v after the buffer w: tokens, the first `out` entries and everything beyond the work buffer stay
pub record Kept (w v : List ℕ) (out : ℕ) : Type 0 where
  pub len : length v ≡ length w
  pub beyond : past work_bytes v ≡ past work_bytes w
  pub words : (i : ℕ) → i < first_entry + out → word_at v i ≡ word_at w i

-- a cursor further on in the same tokens: not more entries than tokens were added
pub record Onward (s d : Cursor) : Type 0 where
  pub count : d.count ≡ s.count
  pub end : d.end ≡ s.end
  pub further : s.at ≤ d.at
  pub slack : d.out + s.at ≤ s.out + d.at

-- read from the cursor s on to d, with the entries es
pub record Took (ts : Tokens) (v : List ℕ) (s d : Cursor) (es : List Entry) : Type 0 where
  pub entries : EntriesFrom v ts s.out es
  pub out : d.out ≡ s.out + length es
  pub ready : Ready ts v d
  pub onward : Onward s d

-- the tokens us are left
pub record Reached (ts : Tokens) (v : List ℕ) (s : Cursor) (es : List Entry) (us : Tokens) (r : Parse) : Type 0 where
  pub cursor : Cursor
  pub parsed : r ≡ Ok cursor
  pub left : us ≡ drop cursor.at ts
  pub took : Took ts v s cursor es

-- the code's answer r against the definition's
abbrev pub Outcome : {A : Type 0} → Tokens → List ℕ → Cursor → (A → List Entry) → Read A → Parse → Type 0
Outcome ts v s f (Done x) r = Reached ts v s (f x.0) x.1 r
Outcome ts v s f (Refused n p) r = r ≡ Err (refusal n p)

-- From the cursor s on, the buffer w became v and the answer was r, where the definition answers x, of which f gives the entries.
pub record Reads {A : Type 0} (ts : Tokens) (w v : List ℕ) (s : Cursor) (f : A → List Entry) (x : Read A) (r : Parse) : Type 0 where
  pub kept : Kept w v s.out
  pub says : Outcome ts v s f x r

-- a function's contract, whatever the tokens are: it reads as the definition D does
abbrev pub Parses : {A : Type 0} → (Tokens → Read A) → (A → List Entry) → List ℕ → List ℕ → Cursor → Parse → Type 0
Parses D f w v c r = (ts : Tokens) → Ready ts w c → Reads ts w v c f (D (drop c.at ts)) r

-- a token alone has no entries
abbrev pub no_entries : {A : Type 0} → A → List Entry
no_entries a = []

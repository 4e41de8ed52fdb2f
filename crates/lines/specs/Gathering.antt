-- What the walk over a text's entries asks for, what it keeps from line to line, and what it answers.
use Rattle.std.specs.Prelude.{ℕ, suc, ◌+◌, ◌≤◌, ◌<◌, List, [], ◌∷◌, ◌++◌, map, ◌≡◌, length, get_or, Ok, Err}
use Rattle.node.specs.Limits.{max_nodes}
use Rattle.node.specs.Ltl.{Formula}
use Rattle.node.specs.Result.{Result, Done, ◌>>=◌}
use Rattle.node.specs.Returned.{Returned}
use Rattle.language.specs.Limits.{max_tokens, work_bytes}
use Rattle.language.specs.Tokens.{tokens}
use Rattle.language.specs.Tree.{Expr, Part, part_code, Spec}
use Rattle.language.specs.DeclaredNames.{Declarations}
use Rattle.language.specs.Numbering.{in_order}
use Rattle.language.specs.Expansion.{Context, at_signals, define_all, expansion}
use Rattle.language.specs.Lists.{All}
use Rattle.entries.specs.Stored.{EntriesFrom}
use Rattle.names.specs.Resolved.{Stored, Resolved}
use Rattle.name_values.specs.Worked.{Worked}
use Rattle.operands.specs.Working.{Source}
use Rattle.machine.specs.Memory.{slots_word, frame_words, reserve, spare}
use Rattle.machine.specs.Realm.{Realm}
use Rattle.machine.specs.Notes.{Noted, Lasting}
use Rattle.machine_run.specs.Running.{max_memory, smaller, regions_of}
use Rattle.memory_notes.specs.ShortTables.{ShortTable}
use Rattle.memory_notes.specs.Realms.{realm}
use Rattle.assembly.specs.Gathered.{GatheredFrom}
use Rattle.assembly.specs.declared.implied.Ends.{Ends}
use Rattle.lines.specs.Items.{Item, items, entry_of, Headed, worked}
use Rattle.lines.specs.PassedLaws.{PassesOther}
use Rattle.lines.specs.KnownLines.{EachLine, LineKnown}
use Rattle.lines.specs.declared.Place.{Place}

-- what the names stand for in MAIN
abbrev pub line_context : Spec → Declarations → Context
line_context x d = define_all (at_signals d) x.definitions

-- the tree of a text, its names resolved, its declarations worked out
pub record Tree (s : Source) (entries : ℕ) (x : Spec) (d : Declarations) : Type 0 where
  pub count : ℕ
  pub found : List ℕ
  pub names : ℕ
  pub stored : Stored s.text s.work count entries x
  pub resolved : Resolved x s.refs found names
  pub short : ShortTable d.table

-- what the machine works in
abbrev pub realm_of : {s : Source} {entries : ℕ} {x : Spec} {d : Declarations} → Tree s entries x d → Realm s
realm_of {x = x} {d = d} t = realm x (in_order d) d.table t.stored t.resolved t.short

-- the lent buffers: the machine's memory, the table of nodes, the words of the lines
pub record Buffers : Type 0 where
  pub memory : List ℕ
  pub table : List ℕ
  pub words : List ℕ

abbrev pub buffers : List ℕ → List ℕ → List ℕ → Buffers
buffers memory table words = record { memory = memory; table = table; words = words }

-- the formulas ls of some lines are written, the first of them from `start` on
pub record Reached {s : Source} (R : Realm s) (b : Buffers) (e : Ends) (entries start : ℕ) (ls : List (Part × Formula)) : Type 0 where
  pub few : e.at ≤ suc max_nodes
  pub noted : Noted R (regions_of b.memory entries) e.at b.memory
  pub lasting : Lasting R.W b.memory b.table e.at
  pub gathered : GatheredFrom start ls b.words e.count b.table e.at

-- the buffers' sizes: on an empty stack an operator finds room
pub record Sizes (s : Source) (memory words : List ℕ) (entries : ℕ) : Type 0 where
  pub work : work_bytes ≤ length s.work
  pub refs : max_tokens ≤ length s.refs
  pub room : get_or memory slots_word 0 + entries + (frame_words + reserve + spare + entries) ≤ smaller (length memory)
  pub most : length memory ≤ max_memory
  pub lines : max_nodes ≤ length words

-- the buffers are as long as they were, and slots begin where they did
pub record Lengths (b₀ b : Buffers) : Type 0 where
  pub memory : length b.memory ≡ length b₀.memory
  pub slots : get_or b.memory slots_word 0 ≡ get_or b₀.memory slots_word 0
  pub words : length b.words ≡ length b₀.words

-- the line of the part p with the expression e
pub record AtLine (s : Source) (b : Buffers) (here : Place) (ends : Ends) (start : ℕ) (x : Spec) (d : Declarations) (ls : List (Part × Formula)) (p : Part) (e : Expr) : Type 0 where
  pub tree : Tree s here.entries x d
  pub reached : Reached (realm_of tree) b ends here.entries start ls
  pub known : Worked x s.text s.work s.refs x.definitions here.k e
  pub inside : here.k < here.entries
  pub heads : here.heading ≡ 2 + part_code p

pub record SomeLine (s : Source) (b : Buffers) (here : Place) (ends : Ends) : Type 0 where
  pub start : ℕ
  pub x : Spec
  pub d : Declarations
  pub ls : List (Part × Formula)
  pub p : Part
  pub e : Expr
  pub at : AtLine s b here ends start x d ls p e

-- lines have formulas, and P holds of them
pub record Formulas (P : List (Part × Formula) → Type 0) (v : Result (List (Part × Formula))) : Type 0 where
  pub all : List (Part × Formula)
  pub are : v ≡ Done all
  pub told : P all

-- what an answer says of the formulas of lines
abbrev pub Says : (ℕ → ℕ → List (Part × Formula) → Type 0) → Returned Ends → Result (List (Part × Formula)) → Type 0
Says P (Ok e) v = Formulas (P e.count e.at) v
Says P (Err r) v = v ≡ Result.Refused r.number r.place

pub record Answered (P : ℕ → ℕ → List (Part × Formula) → Type 0) (r : Returned Ends) (v : Result (List (Part × Formula))) : Type 0 where
  pub says : Says P r v

abbrev pub ends_at : ℕ → ℕ → Ends
ends_at at count = record { at = at; count = count }

-- of whatever line it is, its formula is written behind the others
pub record WritesLine (s : Source) (b b' : Buffers) (here : Place) (e : Ends) (r : Returned Ends) : Type 0 where
  pub lengths : Lengths b b'
  pub says : {start : ℕ} {x : Spec} {d : Declarations} {ls : List (Part × Formula)} {p : Part} {f : Expr} (a : AtLine s b here e start x d ls p f)
      → Answered (λ n m all. Reached (realm_of a.tree) b' (ends_at m n) here.entries start all) r (expansion (line_context x d) f >>= λ g. Done (ls ++ ((p, g) ∷ [])))

-- the start: a tree, and no line yet
pub record Begins (s : Source) (b : Buffers) (entries start : ℕ) (x : Spec) (d : Declarations) : Type 0 where
  pub tree : Tree s entries x d
  pub few : start ≤ suc max_nodes
  pub starts : start ≤ max_nodes → start ≡ 0
  pub noted : Noted (realm_of tree) (regions_of b.memory entries) start b.memory
  pub lasting : Lasting (realm_of tree).W b.memory b.table start

pub record SomeTree (s : Source) (b : Buffers) (entries start : ℕ) : Type 0 where
  pub x : Spec
  pub d : Declarations
  pub begins : Begins s b entries start x d

-- of whatever tree the entries are, the formulas of all its lines are written
pub record WritesLines (s : Source) (b b' : Buffers) (entries start : ℕ) (r : Returned Ends) : Type 0 where
  pub says : {x : Spec} {d : Declarations} → Begins s b entries start x d
      → Answered (λ n m all. GatheredFrom start all b'.words n b'.table m) r (worked (line_context x d) (items x))

-- from entry i on there is the rest of the items; ls are the formulas of the lines before it
pub record Ahead (s : Source) (entries part i : ℕ) (x : Spec) (d : Declarations) (ls : List (Part × Formula)) (rest : List Item) : Type 0 where
  pub split : worked (line_context x d) (items x) ≡ (worked (line_context x d) rest >>= λ gs. Done (ls ++ gs))
  pub there : EntriesFrom s.work (tokens s.text) i (map entry_of rest)
  pub total : i + length rest ≡ entries
  pub other : All PassesOther rest
  pub known : EachLine (LineKnown x s.text s.work s.refs) i rest
  pub headed : Headed part rest

-- before entry i: the formulas of the lines before it are written
pub record Progress {s : Source} {entries : ℕ} {x : Spec} {d : Declarations} (tree : Tree s entries x d) (b : Buffers) (e : Ends) (part i start : ℕ) : Type 0 where
  pub ls : List (Part × Formula)
  pub reached : Reached (realm_of tree) b e entries start ls
  pub rest : List Item
  pub ahead : Ahead s entries part i x d ls rest
  pub begun : 0 < part → 0 < i

pub record Walking (s : Source) (b₀ b : Buffers) (e : Ends) (entries start part i : ℕ) : Type 0 where
  pub progress : {x : Spec} {d : Declarations} (h : Begins s b₀ entries start x d) → Progress h.tree b e part i start

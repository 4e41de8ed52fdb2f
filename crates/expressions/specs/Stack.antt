-- The stack in the work buffer: slots from its last word downwards, while entries grow upwards from below. A slot has the class of a frame, the level at which
-- the expression around it reads on, and the index of a token.
use Rattle.std.specs.Prelude.{ℕ, zero, suc, ◌+◌, ◌-◌, ◌≤◌, ◌<◌, ◌^◌, List, [], ◌∷◌, ◌≡◌, length}
use Rattle.std.proofs.Math.Option.{Option, some}
use Rattle.node.specs.BitFields.{join, above, below}
use Rattle.words.specs.Words.{word_at, put_word}
use Rattle.language.specs.Tokens.{Token}
use Rattle.language.specs.Grammar.{Tokens}
use Rattle.language.specs.Limits.{max_tokens}
use Rattle.language.specs.Operators.{loosest, bound_level}
use Rattle.entries.specs.Flat.{Entry, under}
use Rattle.entries.specs.Stored.{work_words, first_entry, field_bits, size_of, Keeps, EntriesFrom}
use Rattle.entries.specs.Cursors.{Ready}
use Rattle.entries.specs.declared.Cursor.{Cursor}
use Rattle.operators.specs.Fields.{level_bits}

-- the last word of the work buffer, and the end behind it
abbrev pub last_word : ℕ
last_word = work_words - 1

abbrev pub stack_top : ℕ
stack_top = last_word + 1

-- the bits of a class; a level has as many as in an operator's row, a token's index as in an entry
abbrev pub class_bits : ℕ
class_bits = 5

-- what the code's constants stand for
abbrev pub constants : List ℕ
constants = last_word ∷ stack_top ∷ loosest ∷ bound_level ∷ []

abbrev pub slot_word : ℕ → ℕ → ℕ → ℕ
slot_word class level index = join field_bits (join level_bits class level) index

-- what a slot's word holds
abbrev pub slot_class : ℕ → ℕ
slot_class x = above level_bits (above field_bits x)

abbrev pub slot_level : ℕ → ℕ
slot_level x = below level_bits (above field_bits x)

abbrev pub slot_index : ℕ → ℕ
slot_index x = below field_bits x

-- the buffer with one more slot, after `depth` of them; the last slot
abbrev pub put_slot : List ℕ → ℕ → ℕ → ℕ → ℕ → List ℕ
put_slot w depth class level index = put_word w (last_word - depth) (slot_word class level index)

abbrev pub top_slot : List ℕ → ℕ → ℕ
top_slot w depth = word_at w (stack_top - depth)

-- a slot whose token is followed by others
pub record Slot : Type 0 where
  pub class : ℕ
  pub level : ℕ
  pub token : Token
  pub next : List Token

-- these tokens stand from index j on
abbrev pub Follow : Tokens → ℕ → List Token → Type 0
Follow ts j [] = Unit {0}
Follow ts j (t ∷ us) = Keeps ts j (some t) × Follow ts (suc j) us

pub record SlotAt (w : List ℕ) (ts : Tokens) (depth : ℕ) (slot : Slot) : Type 0 where
  pub index : ℕ
  pub deep : 0 < depth
  pub word : top_slot w depth ≡ slot_word slot.class slot.level index
  pub tokens : Follow ts index (slot.token ∷ slot.next)
  pub index-fits : index < max_tokens
  pub class-fits : slot.class < 2 ^ class_bits
  pub level_fits : slot.level < 2 ^ level_bits

-- the slots, the last pushed first
abbrev pub SlotsAt : List ℕ → Tokens → ℕ → List Slot → Type 0
SlotsAt w ts depth [] = depth ≡ 0
SlotsAt w ts depth (slot ∷ slots) = SlotAt w ts depth slot × SlotsAt w ts (depth - 1) slots

-- From the cursor s on, the entries es were written and the slots pushed. Each entry and each slot is paid by a token that was read, and n more are.
pub record Stacked (ts : Tokens) (s : Cursor) (w : List ℕ) (c : Cursor) (depth : ℕ) (slots : List Slot) (es : List Entry) (n : ℕ) : Type 0 where
  pub ready : Ready ts w c
  pub begun : s.out < s.at
  pub count : c.count ≡ s.count
  pub end : c.end ≡ s.end
  pub further : s.at ≤ c.at
  pub room : c.out + depth + n + s.at ≤ s.out + c.at
  pub slots_at : SlotsAt w ts depth slots
  pub entries : EntriesFrom w ts s.out es
  pub out : c.out ≡ s.out + length es

-- the entries of a tree: its own is the last
abbrev pub Rooted : List Entry → Type 0
Rooted es = (kind : ℕ) × (token : Option Token) × (below : List Entry) × (es ≡ under kind token below)

-- the size of the tree whose entries end before `out`; where the last n such trees begin
abbrev pub size_at : List ℕ → ℕ → ℕ
size_at w out = size_of (word_at w (first_entry + (out - 1)))

abbrev pub start_of : List ℕ → ℕ → ℕ → ℕ
start_of w out zero = out
start_of w out (suc n) = start_of w (out - size_at w out) n

-- there are n such trees
abbrev pub Trees : List ℕ → ℕ → ℕ → Type 0
Trees w out zero = Unit {0}
Trees w out (suc n) = (0 < out) × (size_at w out ≤ out) × Trees w (out - size_at w out) n

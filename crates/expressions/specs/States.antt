-- The parser's state: its frames stand in the stack, their trees among the entries, and what they make of the part that is read now is the answer.
use Rattle.std.specs.Prelude.{ℕ, ◌+◌, ◌*◌, ◌-◌, ◌<◌, ◌^◌, List, [], ◌∷◌, ◌++◌, Bool, true, false, ◌||◌, ◌≡◌, eqb, drop}
use Rattle.std.proofs.Math.Option.{some}
use Rattle.language.specs.Tokens.{Token}
use Rattle.language.specs.Operators.{Role}
use Rattle.language.specs.Tree.{Expr}
use Rattle.language.specs.Grammar.{Tokens, Read}
use Rattle.language.specs.Lists.{All as Every}
use Rattle.language.specs.Limits.{max_tokens}
use Rattle.lexer.specs.Numbers.{number}
use Rattle.entries.specs.Kinds as Kind
use Rattle.entries.specs.Flat.{Entry, under, flat}
use Rattle.entries.specs.declared.Cursor.{Cursor}
use Rattle.entries.specs.Reads.{Kept, Outcome}
use Rattle.operators.specs.Fields.{level_bits}
use Rattle.expressions.specs.declared.stack.Machine.{Machine}
use Rattle.expressions.specs.declared.stack.Turn.{Turn}
use Rattle.expressions.specs.declared.stack.Turn.TheVariants.{Next, Ended}
use Rattle.operators.specs.Readers.{reads, climbs, role_at, sole_of, big_of}
use Rattle.expressions.specs.Classes.{Class, Right, Sole, Stepped, Within, Cons, Over, Round, Bars, Square, Last, All, Count, Low, High, One, Two, More, Bound, Upper, Member, class_number}
use Rattle.expressions.specs.Frames.{Frame, frame, plug}
use Rattle.operators.specs.Tables.{sole_kind, window_kind, infix_at, prefix_at}
use Rattle.expressions.specs.Stack.{Slot, Stacked, Rooted, class_bits}

abbrev pub slot : ℕ → ℕ → Token → List Token → Slot
slot class level t us = record { class = class; level = level; token = t; next = us }

-- the slots of a frame: while the set or the high bound of a name is read, one for it and one for the operator
abbrev pub slots_by : ℕ → Frame → List Slot
slots_by n F =
    elim (eqb n (class_number Upper)) [
      | true ↦ slot (class_number Upper) 0 F.low (F.name ∷ F.high ∷ []) ∷ slot (class_number Over) F.level F.token [] ∷ []
      | false ↦ elim (eqb n (class_number Member)) [ true ↦ slot (class_number Member) 0 F.name [] ∷ slot (class_number Over) F.level F.token [] ∷ [] | false ↦ slot n F.level F.token [] ∷ [] ]
    ]

abbrev pub slots_of : List Frame → List Slot
slots_of [] = []
slots_of (F ∷ Fs) = slots_by (class_number F.class) F ++ slots_of Fs

-- the entries of what was read of a frame before, tree by tree
abbrev pub trees_by : Class → Frame → List (List Entry)
trees_by Right F = flat F.first ∷ []
trees_by Sole F = []
trees_by Stepped F = flat F.first ∷ []
trees_by Within F = flat F.first ∷ flat F.second ∷ []
trees_by Cons F = flat F.first ∷ []
trees_by Over F = under (Kind.binder (eqb F.level 0)) (some F.name) (flat F.first) ∷ []
trees_by Round F = []
trees_by Bars F = []
trees_by Square F = []
trees_by Last F = flat F.first ∷ flat F.second ∷ []
trees_by All F = flat F.first ∷ []
trees_by Count F = []
trees_by Low F = []
trees_by High F = flat F.first ∷ []
trees_by One F = []
trees_by Two F = flat F.first ∷ []
trees_by More F = []
trees_by Bound F = []
trees_by Upper F = flat F.first ∷ []
trees_by Member F = []

-- entries with those of some trees behind them
abbrev pub behind : List Entry → List (List Entry) → List Entry
behind es [] = es
behind es (t ∷ ts) = behind (es ++ t) ts

-- the entries of all frames, the first pushed first
abbrev pub base : List Frame → List Entry
base [] = []
base (F ∷ Fs) = behind (base Fs) (trees_by F.class F)

-- the word of the row of Table 1 that a frame's token has, where it must have one
abbrev pub row_by : Class → ℕ → ℕ
row_by Right n = infix_at n
row_by Sole n = prefix_at n
row_by Stepped n = 1
row_by Within n = prefix_at n
row_by Cons n = 1
row_by Over n = prefix_at n
row_by Round n = 1
row_by Bars n = 1
row_by Square n = 1
row_by Last n = 1
row_by All n = 1
row_by Count n = prefix_at n
row_by Low n = prefix_at n
row_by High n = prefix_at n
row_by One n = 1
row_by Two n = 1
row_by More n = 1
row_by Bound n = prefix_at n
row_by Upper n = prefix_at n
row_by Member n = prefix_at n

-- the kind of entry that the row has is the kind of the frame's tree
abbrev pub Suits : Class → Role → Type 0
Suits Right o = Unit {0}
Suits Sole o = sole_kind o ≡ Kind.before (sole_of o)
Suits Stepped o = Unit {0}
Suits Within o = window_kind o ≡ Kind.window
Suits Cons o = Unit {0}
Suits Over o = sole_kind o ≡ Kind.big (big_of o)
Suits Round o = Unit {0}
Suits Bars o = Unit {0}
Suits Square o = Unit {0}
Suits Last o = Unit {0}
Suits All o = Unit {0}
Suits Count o = Unit {0}
Suits Low o = window_kind o ≡ Kind.window
Suits High o = window_kind o ≡ Kind.window
Suits One o = Unit {0}
Suits Two o = Unit {0}
Suits More o = Unit {0}
Suits Bound o = sole_kind o ≡ Kind.big (big_of o)
Suits Upper o = sole_kind o ≡ Kind.big (big_of o)
Suits Member o = sole_kind o ≡ Kind.big (big_of o)

abbrev pub Marked : Class → Token → Type 0
Marked c t = (row_by c (number t) ≡ 0 → ⊥) × Suits c (role_at t)

abbrev pub Firm : Frame → Type 0
Firm F = Every Rooted (trees_by F.class F) × Marked F.class F.token

-- tokens that were read for a frame and have neither slot nor entry yet
abbrev pub credit_by : Class → ℕ
credit_by c = elim (eqb (class_number c) (class_number Two) || eqb (class_number c) (class_number Upper)) [ true ↦ 1 | false ↦ 0 ]

abbrev pub credits : List Frame → ℕ
credits [] = 0
credits (F ∷ Fs) = credit_by F.class + credits Fs

-- what is read now: an expression, or the operators behind a complete operand e
abbrev pub current : Bool → ℕ → Expr → Tokens → Read Expr
current false max e ts = reads max ts
current true max e ts = climbs max e ts

abbrev pub made_by : Bool → Expr → List Entry
made_by false e = []
made_by true e = flat e

abbrev pub Good : Bool → ℕ → Expr → Type 0
Good false max e = 0 < max
Good true max e = Rooted (flat e)

-- From the cursor s on, where the definition answers x. The expression that is read has an operand that is complete, or not.
pub record State (complete : Bool) (ts : Tokens) (s : Cursor) (x : Read Expr) (w : List ℕ) (m : Machine) : Type 0 where
  pub frames : List Frame
  pub tree : Expr
  pub mode : m.complete ≡ complete
  pub good : Good complete m.level tree
  pub level_fits : m.level < 2 ^ level_bits
  pub firm : Every Firm frames
  pub stacked : Stacked ts s w m.c m.depth (slots_of frames) (base frames ++ made_by complete tree) (credits frames)
  pub same : x ≡ plug frames (current complete m.level tree (drop m.c.at ts))

-- for some tokens, cursor and answer
pub record Standing (complete : Bool) (w : List ℕ) (m : Machine) : Type 0 where
  pub tokens : Tokens
  pub start : Cursor
  pub answer : Read Expr
  pub state : State complete tokens start answer w m

-- what is left to do: tokens count three times, slots and entries to come once
abbrev pub weight : Machine → ℕ
weight m = 3 * (m.c.count - m.c.at) + m.depth + (max_tokens - m.c.out)

pub record Went (ts : Tokens) (s : Cursor) (x : Read Expr) (v : List ℕ) (m n : Machine) : Type 0 where
  pub state : State n.complete ts s x v n
  pub lighter : weight n < weight m

abbrev pub After : Tokens → Cursor → Read Expr → List ℕ → Machine → Turn → Type 0
After ts s x v m (Next n) = Went ts s x v m n
After ts s x v m (Ended p) = Outcome ts v s flat x p

-- one step, from the buffer w to v
pub record Turned (ts : Tokens) (s : Cursor) (x : Read Expr) (w v : List ℕ) (m : Machine) (r : Turn) : Type 0 where
  pub kept : Kept w v s.out
  pub after : After ts s x v m r

-- a step's contract, whatever is read
abbrev pub Steps : Bool → List ℕ → List ℕ → Machine → Turn → Type 0
Steps complete w v m r = (ts : Tokens) (s : Cursor) (x : Read Expr) → State complete ts s x w m → Turned ts s x w v m r

-- a frame of the class is one slot, and holds no trees and no credit
pub record Simple (K : Class) : Type 0 where
  pub slots : (l : ℕ) (t : Token) → slots_by (class_number K) (frame K l t) ≡ slot (class_number K) l t [] ∷ []
  pub trees : (l : ℕ) (t : Token) → trees_by K (frame K l t) ≡ []
  pub credit : credit_by K ≡ 0
  pub class : class_number K < 2 ^ class_bits

-- The stack of frames in the memory.
use Rattle.std.specs.Prelude.{ℕ, ◌+◌, ◌-◌, ◌≤◌, ◌<◌, Bool, true, false, List, [], ◌∷◌, ◌≡◌, length, get_or, drop}
use Rattle.language.specs.Limits.{max_tokens, max_names, max_number}
use Rattle.language.specs.Tokens.{Token}
use Rattle.language.specs.Operators.{Big, BigSum, BigProduct, BigCap, BigCup, BigAnd, BigOr, Calculates, Combines, Compares, Connects, Measures, Applies}
use Rattle.language.specs.Tree.{Expr, Empty}
use Rattle.language.specs.Expansion.{Context, at}
use Rattle.language.specs.Lists.{All}
use Rattle.entries.specs.Kinds as Kind
use Rattle.name_values.specs.World.{World, Defines, meaning_at}
use Rattle.name_values.specs.Agrees.{Uses}
use Rattle.operands.specs.Entries.{kind_at, size_at, place_at}
use Rattle.operands.specs.Working.{Source}
use Rattle.machine.specs.Realm.{OperandIn, Operand, Realm}
use Rattle.machine.specs.Operators.{Before, Between, Bounds, Stepping, Folds, Within, OpAt}
use Rattle.machine.specs.Memory.{frame_words, set_words, spare, reserve, free_of, Held, Slotted, Lies, spread}
use Rattle.machine.specs.Holding.{holding, phase, elements, folded, bound, forms_of}
use Rattle.machine.specs.Table.{Began, end_of}
use Rattle.machine.specs.Telling.{Fine, Tells}
use Rattle.machine.specs.declared.Words.{Words}
use Rattle.machine.specs.Frames.{
  Frame,
  Measured,
  Width,
  Left,
  Right,
  LeftSet,
  RightSet,
  Low,
  High,
  Elements,
  RangeFirst,
  RangeSecond,
  RangeLast,
  Over,
  FirstNumber,
  NextNumber,
  FirstSet,
  NextSet,
  KeepValue,
  Capping,
  LeftFormula,
  RightFormula,
  LeftCompared,
  RightCompared,
  Member,
  Among,
  Indexed,
  Repeat,
  Repeated,
  WindowFrom,
  WindowTo,
  Windowed,
  OverEach,
  FirstEach,
  NextEach,
  KeepFormula,
  BitOf,
}

-- what lies under a frame: its words, the slots of the names that its operator sees, the entries that could be worked out there, and the words reserved for it
pub record Ground : Type 0 where
  pub words : Words
  pub scope : ℕ
  pub depth : ℕ
  pub env : List ℕ
  pub limit : ℕ
  pub reserved : ℕ

-- the scope above a frame: a definition's body sees none of the names
abbrev pub scope_above : Bool → Ground → ℕ
scope_above true g = g.depth
scope_above false g = g.scope

-- big operators of numbers, of sets, of formulas
abbrev pub OfNumbers : Big → Type 0
OfNumbers BigSum = Unit {0}
OfNumbers BigProduct = Unit {0}
OfNumbers BigCap = ⊥
OfNumbers BigCup = ⊥
OfNumbers BigAnd = ⊥
OfNumbers BigOr = ⊥

abbrev pub OfSets : Big → Type 0
OfSets BigSum = ⊥
OfSets BigProduct = ⊥
OfSets BigCap = Unit {0}
OfSets BigCup = Unit {0}
OfSets BigAnd = ⊥
OfSets BigOr = ⊥

abbrev pub OfFormulas : Big → Type 0
OfFormulas BigSum = ⊥
OfFormulas BigProduct = ⊥
OfFormulas BigCap = ⊥
OfFormulas BigCup = ⊥
OfFormulas BigAnd = Unit {0}
OfFormulas BigOr = Unit {0}

-- a number in the frame's word
pub record Holds₁ (w : Words) (n : ℕ) : Type 0 where
  pub here : w.value ≡ n
  pub small : n ≤ max_number

-- and one in the last
pub record Holds₂ (w : Words) (m n : ℕ) : Type 0 where
  pub first : Holds₁ w m
  pub here : w.other ≡ n
  pub small : n ≤ max_number

-- a set by its address, in a kept set or where the frame's values begin
pub record HoldsSet (w : Words) (l : List ℕ) : Type 0 where
  pub fine : Fine l
  pub near : w.at ≤ w.base

-- the elements that are left, whose end is near the frame's base: a set that is folded has room above them
pub record HoldsRest (w : Words) (l : List ℕ) : Type 0 where
  pub fine : Fine l
  pub near : w.at + length l ≤ w.base + set_words

-- a set that is folded, by the frame's last two words
pub record HoldsFold (w : Words) (l : List ℕ) : Type 0 where
  pub fine : Fine l
  pub size : w.value ≡ length l
  pub near : w.other ≤ w.base + set_words

-- the scope to go back to, and the definition's number
pub record Returns (w : Words) (scope r : ℕ) : Type 0 where
  pub scope_is : w.value ≡ scope
  pub name-is : w.other ≡ r

-- the scope to go back to, and the index of a bit
pub record Locates (w : Words) (scope i : ℕ) : Type 0 where
  pub scope_is : w.value ≡ scope
  pub index_is : w.at ≡ i
  pub small : i ≤ max_number

-- numbers of braces, where the frame's values begin, and room for those that can still come
pub record Gathers (g : Ground) (ns : List ℕ) : Type 0 where
  pub at_base : g.words.at ≡ g.words.base
  pub small : All (λ n. n ≤ max_number) ns
  pub room : length ns + g.words.entry ≤ g.reserved

-- how a frame's words tell it; n is the next index of the table under it
abbrev pub Holds : World → ℕ → Ground → Frame → Type 0
Holds W n g (Measured p m) = Unit {0}
Holds W n g Width = Unit {0}
Holds W n g (Left p o c b) = Unit {0}
Holds W n g (Right p o m) = Holds₁ g.words m
Holds W n g (LeftSet p o c b) = Unit {0}
Holds W n g (RightSet p o m) = HoldsSet g.words m
Holds W n g (Low p l h c b) = Unit {0}
Holds W n g (High p l h m) = Holds₁ g.words m
Holds W n g (Elements p c es ns) = Gathers g ns
Holds W n g (RangeFirst p c y z) = Unit {0}
Holds W n g (RangeSecond p c z x) = Holds₁ g.words x
Holds W n g (RangeLast p x y) = Holds₂ g.words x y
Holds W n g (Over p o c i e) = Unit {0}
Holds W n g (FirstNumber p o c i e rest) = Fine rest
Holds W n g (NextNumber p o c i e a rest) = Fine rest × Holds₁ g.words a
Holds W n g (FirstSet p o c i e rest) = HoldsRest g.words rest
Holds W n g (NextSet p o c i e a rest) = HoldsRest g.words rest × HoldsFold g.words a
Holds W n g (KeepValue r c e) = Returns g.words g.scope r
Holds W n g (Capping o) = Unit {0}
Holds W n g (LeftFormula o c b) = Unit {0}
Holds W n g (RightFormula o f end) = g.words.value ≡ end
Holds W n g (LeftCompared o c b) = Unit {0}
Holds W n g (RightCompared o c x) = Tells W g.words.at g.words.value g.words.other x
Holds W n g (Member c b) = Unit {0}
Holds W n g (Among m) = Holds₁ g.words m
Holds W n g (Indexed c t) = Unit {0}
Holds W n g (Repeat c e) = Unit {0}
Holds W n g (Repeated m) = Holds₁ g.words m
Holds W n g (WindowFrom p o c m e) = Unit {0}
Holds W n g (WindowTo p o c e j) = Holds₁ g.words j
Holds W n g (Windowed o j k) = Holds₂ g.words j k × (j ≤ k) × (g.words.at ≡ n)
Holds W n g (OverEach o c i e) = Unit {0}
Holds W n g (FirstEach o c i e rest) = Fine rest
Holds W n g (NextEach o c i e f end rest) = Fine rest × (g.words.value ≡ end)
Holds W n g (KeepFormula r c e) = Returns g.words g.scope r × (g.words.at ≡ n)
Holds W n g (BitOf c i) = Locates g.words g.scope i

module _ {s : Source} (R : Realm s) (g : Ground) where
  abbrev k : ℕ
  k = g.words.entry

  -- the last operand, at the entry before, and the one before it, whose entries end where the last one's begin
  abbrev LastOf : Context → Expr → Type 0
  LastOf c e = Operand s R.W R.ports g.env c (k - 1) e

  abbrev MiddleOf : Context → Expr → Type 0
  MiddleOf c e = (size_at s.work (k - 1) < k) × Operand s R.W R.ports g.env c (k - 1 - size_at s.work (k - 1)) e

  -- a big operator's operand, at every element
  abbrev pub EachOf : Context → Token → Expr → Type 0
  EachOf c i e = (v : ℕ) → v ≤ max_number → Operand s R.W R.ports (v ∷ g.env) (at c i v) (k - 1) e

  -- the operator, whatever its place
  pub record Folding (o : Big) : Type 0 where
    pub place : ℕ
    pub here : OpAt s k (Folds o) place

  -- the rest of braces, whose own entry is noted in the frame
  pub record Rest (p : ℕ) (c : Context) (es : Expr) : Type 0 where
    pub few : g.words.value < max_tokens
    pub last : es ≡ Empty → kind_at s.work (k - 1) ≡ Kind.element → ⊥
    pub place : place_at s.work g.words.value ≡ p
    pub rest : OperandIn s R.W R.ports true g.env c (k - 1) es

  -- the name r is defined by e
  pub record Defining (r : ℕ) (c : Context) (e : Expr) : Type 0 where
    pub declared : r < max_names
    pub entry : ℕ
    pub means : meaning_at R.W r ≡ Defines entry c e

  -- the name at the entry itself
  pub record Naming (c : Context) (t : Token) : Type 0 where
    pub limit : ℕ
    pub before : limit ≤ k
    pub uses : Uses R.W limit g.env (get_or s.refs k 0) t c
    pub place : place_at s.work k ≡ t.at
    pub ports : c.ports ≡ R.ports

  -- what a frame needs of its entry: the operator, and the operands that are left
  abbrev pub Waits : Frame → Type 0
  Waits (Measured p m) = OpAt s k (Before (Measures m)) p
  Waits Width = Unit {0}
  Waits (Left p o c b) = OpAt s k (Between (Calculates o)) p × LastOf c b
  Waits (Right p o m) = OpAt s k (Between (Calculates o)) p
  Waits (LeftSet p o c b) = OpAt s k (Between (Combines o)) p × LastOf c b
  Waits (RightSet p o m) = OpAt s k (Between (Combines o)) p
  Waits (Low p l h c b) = OpAt s k (Bounds l h) p × LastOf c b
  Waits (High p l h m) = OpAt s k (Bounds l h) p
  Waits (Elements p c es ns) = Rest p c es
  Waits (RangeFirst p c y z) = OpAt s k Stepping p × MiddleOf c y × LastOf c z
  Waits (RangeSecond p c z x) = OpAt s k Stepping p × LastOf c z
  Waits (RangeLast p x y) = OpAt s k Stepping p
  Waits (Over p o c i e) = OpAt s k (Folds o) p × EachOf c i e
  Waits (FirstNumber p o c i e rest) = OpAt s k (Folds o) p × EachOf c i e × OfNumbers o
  Waits (NextNumber p o c i e a rest) = OpAt s k (Folds o) p × EachOf c i e × OfNumbers o
  Waits (FirstSet p o c i e rest) = OpAt s k (Folds o) p × EachOf c i e × OfSets o
  Waits (NextSet p o c i e a rest) = OpAt s k (Folds o) p × EachOf c i e × OfSets o
  Waits (KeepValue r c e) = Defining r c e
  Waits (Capping o) = (p : ℕ) × OpAt s k (Before (Applies o)) p
  Waits (LeftFormula o c b) = (p : ℕ) × OpAt s k (Between (Connects o)) p × LastOf c b
  Waits (RightFormula o f end) = (p : ℕ) × OpAt s k (Between (Connects o)) p
  Waits (LeftCompared o c b) = (p : ℕ) × OpAt s k (Between (Compares o)) p × LastOf c b
  Waits (RightCompared o c x) = (p : ℕ) × OpAt s k (Between (Compares o)) p × (c.ports ≡ R.ports)
  Waits (Member c b) = LastOf c b
  Waits (Among n) = Unit {0}
  Waits (Indexed c t) = Naming c t
  Waits (Repeat c e) = LastOf c e
  Waits (Repeated n) = Unit {0}
  Waits (WindowFrom p o c m e) = OpAt s k (Within o) p × MiddleOf c m × LastOf c e
  Waits (WindowTo p o c e j) = OpAt s k (Within o) p × LastOf c e
  Waits (Windowed o i j) = (p : ℕ) × OpAt s k (Within o) p
  Waits (OverEach o c i e) = Folding o × EachOf c i e
  Waits (FirstEach o c i e rest) = Folding o × EachOf c i e × OfFormulas o
  Waits (NextEach o c i e f end rest) = Folding o × EachOf c i e × OfFormulas o
  Waits (KeepFormula r c e) = Defining r c e
  Waits (BitOf c i) = c.ports ≡ R.ports

-- the frame F at word `at`, above the ground g and the index n of the table; with it `scope`, `depth`, `top` as the machine has them, and entries below k
pub record FrameAt {s : Source} (R : Realm s) (o : Began) (mem : List ℕ) (F : Frame) (g : Ground) (n scope depth top at k : ℕ) : Type 0 where
  pub words : drop at mem ≡ spread g.words (drop (at + frame_words) mem)
  pub inside : at + frame_words ≤ length mem
  pub phased : g.words.phase ≡ phase F
  pub entry : g.words.entry ≡ k
  pub some : 0 < k
  pub below : k < g.limit
  pub scoped : scope ≡ scope_above (holding F).inside g
  pub deep : depth ≡ g.depth + bound F
  pub slots : g.depth + k < o.regions.floor
  pub first : o.regions.slots ≤ g.scope
  pub width : g.depth ≡ g.scope + length g.env
  pub seen : Slotted mem g.scope g.env
  pub low : o.regions.floor ≤ g.words.base
  pub lower : g.words.base ≤ top
  pub high : top ≤ g.words.base + g.reserved
  pub level : (holding F).flat ≡ true → top ≡ g.words.base
  pub enough : reserve ≤ g.reserved
  pub room : g.words.base + g.reserved + spare ≤ at
  pub counted : g.words.count ≡ length (elements F)
  pub held : Held mem g.words.at (elements F)
  pub lies : Lies (free_of mem) g.words.base top g.words.at (length (elements F))
  pub held_fold : Held mem g.words.other (folded F)
  pub lies_fold : Lies (free_of mem) g.words.base top g.words.other (length (folded F))
  pub holds : Holds R.W n g F
  pub waits : Waits R g F

-- no frame: a run begins and ends there
pub record Bottom (o : Began) (mem : List ℕ) (depth top at limit : ℕ) : Type 0 where
  pub end : at ≡ length mem
  pub start : top ≡ o.regions.floor
  pub first : o.regions.slots ≤ depth
  pub slots : depth + limit ≤ o.regions.floor
  pub few : limit ≤ max_tokens
  pub room : top + spare ≤ at

-- all frames, the last pushed first; an entry below `limit` may be worked out on top of them
pub data Stack {s : Source} (R : Realm s) (o : Began) (mem : List ℕ) : List Frame → (scope depth top at limit : ℕ) → Type 0 where
  bottom : {scope depth top at k : ℕ} → Bottom o mem depth top at k → Stack R o mem [] scope depth top at k
  above : {F : Frame} {Fs : List Frame} {scope depth top at k : ℕ} (g : Ground) → FrameAt R o mem F g (end_of o (forms_of Fs)) scope depth top at k
      → Stack R o mem Fs g.scope g.depth g.words.base (at + frame_words) g.limit → Stack R o mem (F ∷ Fs) scope depth top at k

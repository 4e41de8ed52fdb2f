-- What a frame holds in the memory: its phase by number; lists of numbers, formulas with the index after their nodes; and which names are seen above it.
use Rattle.std.specs.Prelude.{ℕ, Bool, true, false, List, [], ◌∷◌, ◌++◌}
use Rattle.node.specs.Ltl.{Formula}
use Rattle.machine.specs.Phases as Phase
use Rattle.machine.specs.Frames.{
  Frame,
  Measured,
  Width,
  Left,
  Right,
  LeftSet,
  RightSet,
  Low,
  High,
  Elements,
  RangeFirst,
  RangeSecond,
  RangeLast,
  Over,
  FirstNumber,
  NextNumber,
  FirstSet,
  NextSet,
  KeepValue,
  Capping,
  LeftFormula,
  RightFormula,
  LeftCompared,
  RightCompared,
  Member,
  Among,
  Indexed,
  Repeat,
  Repeated,
  WindowFrom,
  WindowTo,
  Windowed,
  OverEach,
  FirstEach,
  NextEach,
  KeepFormula,
  BitOf,
}

-- a formula whose nodes are written, and the index after them
pub record Laying : Type 0 where
  pub formula : Formula
  pub end : ℕ

-- `elements` stand from the frame's address on, `folded` from its second one; it `binds` a name above it; a body is worked out
-- `inside`, where none is visible; a `flat` frame holds no words, so that the values above it begin at its base
pub record Holding : Type 0 where
  pub phase : ℕ
  pub elements : List ℕ
  pub folded : List ℕ
  pub forms : List Laying
  pub binds : Bool
  pub inside : Bool
  pub flat : Bool

-- nothing is held, by a frame that stays so or by one that waits for what it will hold
abbrev pub vacant : ℕ → (inside flat : Bool) → Holding
vacant p b f = record { phase = p; elements = []; folded = []; forms = []; binds = false; inside = b; flat = f }

abbrev pub empty : ℕ → Bool → Holding
empty p b = vacant p b true

abbrev plain : ℕ → Holding
plain p = empty p false

abbrev listing : ℕ → List ℕ → Holding
listing p s = record { phase = p; elements = s; folded = []; forms = []; binds = false; inside = false; flat = false }

-- a frame that binds a name: elements that are left, a set that is folded, formulas
abbrev pub turning : ℕ → (rest folded : List ℕ) → List Laying → Holding
turning p s a fs = record { phase = p; elements = s; folded = a; forms = fs; binds = true; inside = false; flat = false }

-- a frame that holds formulas alone
abbrev pub noting : ℕ → List Laying → Holding
noting p fs = record { phase = p; elements = []; folded = []; forms = fs; binds = false; inside = false; flat = true }

abbrev pub writing : ℕ → Formula → ℕ → Holding
writing p f n = noting p (record { formula = f; end = n } ∷ [])

abbrev keeping : ℕ → Holding
keeping p = empty p true

abbrev pub holding : Frame → Holding
holding (Measured p m) = plain Phase.measured
holding Width = plain Phase.width
holding (Left p o c b) = plain Phase.left
holding (Right p o m) = plain Phase.right
holding (LeftSet p o c b) = plain Phase.left_set
holding (RightSet p o m) = listing Phase.right_set m
holding (Low p l h c b) = plain Phase.low
holding (High p l h m) = plain Phase.high
holding (Elements p c es ns) = listing Phase.elements ns
holding (RangeFirst p c y z) = plain Phase.range_first
holding (RangeSecond p c z x) = plain Phase.range_second
holding (RangeLast p x y) = plain Phase.range_last
holding (Over p o c i e) = plain Phase.over
holding (FirstNumber p o c i e rest) = turning Phase.first_number rest [] []
holding (NextNumber p o c i e a rest) = turning Phase.next_number rest [] []
holding (FirstSet p o c i e rest) = turning Phase.first_set rest [] []
holding (NextSet p o c i e a rest) = turning Phase.next_set rest a []
holding (KeepValue r c e) = keeping Phase.keep_value
holding (Capping o) = plain Phase.capping
holding (LeftFormula o c b) = plain Phase.left_formula
holding (RightFormula o f end) = writing Phase.right_formula f end
holding (LeftCompared o c b) = plain Phase.left_compared
holding (RightCompared o c x) = plain Phase.right_compared
holding (Member c b) = plain Phase.member
holding (Among n) = plain Phase.among
holding (Indexed c t) = plain Phase.indexed
holding (Repeat c e) = plain Phase.repeat
holding (Repeated n) = plain Phase.repeated
holding (WindowFrom p o c m e) = plain Phase.window_from
holding (WindowTo p o c e j) = plain Phase.window_to
holding (Windowed o j k) = plain Phase.windowed
holding (OverEach o c i e) = plain Phase.over_each
holding (FirstEach o c i e rest) = turning Phase.first_each rest [] []
holding (NextEach o c i e f end rest) = turning Phase.next_each rest [] (record { formula = f; end = end } ∷ [])
holding (KeepFormula r c e) = keeping Phase.keep_formula
holding (BitOf c i) = keeping Phase.bit_of

abbrev pub phase : Frame → ℕ
phase F = (holding F).phase

abbrev pub elements : Frame → List ℕ
elements F = (holding F).elements

abbrev pub folded : Frame → List ℕ
folded F = (holding F).folded

abbrev pub slots_of : Bool → ℕ
slots_of true = 1
slots_of false = 0

-- the slots that it takes
abbrev pub bound : Frame → ℕ
bound F = slots_of (holding F).binds

-- the formulas that frames hold, the last written first
unfoldable pub forms_of : List Frame → List Laying
forms_of [] = []
forms_of (F ∷ Fs) = (holding F).forms ++ forms_of Fs

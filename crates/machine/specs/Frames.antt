-- Frames: what is still to be made of a value or a formula that is being worked out, one constructor for each thing that the machine can wait for. Together
-- they are the rest of the definitions `value` and `expansion`.
use Rattle.std.specs.Prelude.{ℕ, ◌-◌, Bool, List, [], ◌∷◌, ◌≡◌, leb}
use Rattle.node.specs.Operators.{Unary, Binary, And, Or}
use Rattle.node.specs.Ltl.{Formula, One, Two}
use Rattle.node.specs.Result.{Result, Done, ◌>>=◌, guard}
use Rattle.language.specs.Tokens.{Token}
use Rattle.language.specs.Operators.{Arithmetic, Plus, Times, Measure, Combination, Cap, Comparison, Big, BigSum, BigProduct, BigCap, BigCup, BigAnd, BigOr, Window}
use Rattle.language.specs.Tree.{Expr}
use Rattle.language.specs.Sets.{insert, union, combine, member_of}
use Rattle.language.specs.Values.{Value, Number, Set, number, set, bus, calculate, measure, limited, range, between, onward, big, value}
use Rattle.language.specs.Expansion.{Context, at, expansion, compared, truth, bit_at, gather, joined, nexts, chain, window_operator, big_formula}
use Rattle.machine.specs.Came.{Evaluate, Expand, Came, worth, nodes, works, as_value, as_number, as_set, as_formula}

-- place, operator, context and the operands that are left to be worked out; then what has come before. `Elements` waits for an element of braces, others are left
-- and some numbers have come; a formula that was written is kept with the index after its nodes; `Keep` waits for the body of the definition numbered r, `BitOf`
-- for that of a definition of which bit i is taken.
pub data Frame : Type 0 where
  Measured : (place : ℕ) → Measure → Frame
  Width : Frame
  Left : (place : ℕ) → Arithmetic → Context → Expr → Frame
  Right : (place : ℕ) → Arithmetic → ℕ → Frame
  LeftSet : (place : ℕ) → Combination → Context → Expr → Frame
  RightSet : (place : ℕ) → Combination → List ℕ → Frame
  Low : (place : ℕ) (afterLow beforeHigh : Bool) → Context → Expr → Frame
  High : (place : ℕ) (afterLow beforeHigh : Bool) → ℕ → Frame
  Elements : (place : ℕ) → Context → Expr → List ℕ → Frame
  RangeFirst : (place : ℕ) → Context → Expr → Expr → Frame
  RangeSecond : (place : ℕ) → Context → Expr → ℕ → Frame
  RangeLast : (place : ℕ) → ℕ → ℕ → Frame
  Over : (place : ℕ) → Big → Context → Token → Expr → Frame
  FirstNumber : (place : ℕ) → Big → Context → Token → Expr → List ℕ → Frame
  NextNumber : (place : ℕ) → Big → Context → Token → Expr → ℕ → List ℕ → Frame
  FirstSet : (place : ℕ) → Big → Context → Token → Expr → List ℕ → Frame
  NextSet : (place : ℕ) → Big → Context → Token → Expr → (folded rest : List ℕ) → Frame
  KeepValue : (r : ℕ) → Context → Expr → Frame
  Capping : Unary → Frame
  LeftFormula : Binary → Context → Expr → Frame
  RightFormula : Binary → Formula → (end : ℕ) → Frame
  LeftCompared : Comparison → Context → Expr → Frame
  RightCompared : Comparison → Context → Value → Frame
  Member : Context → Expr → Frame
  Among : ℕ → Frame
  Indexed : Context → Token → Frame
  Repeat : Context → Expr → Frame
  Repeated : ℕ → Frame
  WindowFrom : (place : ℕ) → Window → Context → Expr → Expr → Frame
  WindowTo : (place : ℕ) → Window → Context → Expr → ℕ → Frame
  Windowed : Window → ℕ → ℕ → Frame
  OverEach : Big → Context → Token → Expr → Frame
  FirstEach : Big → Context → Token → Expr → List ℕ → Frame
  NextEach : Big → Context → Token → Expr → Formula → (end : ℕ) → List ℕ → Frame
  KeepFormula : (r : ℕ) → Context → Expr → Frame
  BitOf : Context → ℕ → Frame

-- what a big operator joins its operands with
abbrev pub numeric : Big → Arithmetic
numeric BigSum = Plus
numeric BigProduct = Times
numeric BigCap = Plus
numeric BigCup = Plus
numeric BigAnd = Plus
numeric BigOr = Plus

abbrev pub merging : ℕ → Big → List ℕ → List ℕ → Result (List ℕ)
merging p BigSum a b = Done (combine Cap a b)
merging p BigProduct a b = Done (combine Cap a b)
merging p BigCap a b = Done (combine Cap a b)
merging p BigCup a b = limited p (union a b)
merging p BigAnd a b = Done (combine Cap a b)
merging p BigOr a b = Done (combine Cap a b)

abbrev pub connective : Big → Binary
connective BigSum = And
connective BigProduct = And
connective BigCap = And
connective BigCup = And
connective BigAnd = And
connective BigOr = Or

-- the numbers of braces put into a set, the last one first
abbrev pub inserts : List ℕ → List ℕ → List ℕ
inserts [] s = s
inserts (x ∷ xs) s = insert x (inserts xs s)

-- a big operator's operand at an element: a number, a set, a formula
abbrev pub number_at : Context → Token → Expr → ℕ → Result ℕ
number_at c i e k = value (at c i k).values e >>= number

abbrev pub set_at : Context → Token → Expr → ℕ → Result (List ℕ)
set_at c i e k = value (at c i k).values e >>= set

abbrev pub formula_at : Context → Token → Expr → ℕ → Result Formula
formula_at c i e k = expansion (at c i k) e

-- what is made of the last operand
abbrev pub calculated : ℕ → Arithmetic → ℕ → Came → Result Came
calculated p o m v = as_number v >>= λ n. calculate p o m n >>= λ i. worth (Number i)

abbrev pub combined : ℕ → Combination → List ℕ → Came → Result Came
combined p o m v = as_set v >>= λ n. limited p (combine o m n) >>= λ s. worth (Set s)

abbrev pub bounded : ℕ → Bool → Bool → ℕ → Came → Result Came
bounded p l h m v = as_number v >>= λ n. between p l h m n >>= λ s. worth (Set s)

abbrev pub ranged : ℕ → ℕ → ℕ → Came → Result Came
ranged p x y v = as_number v >>= λ z. range p x y z >>= λ s. worth (Set s)

abbrev pub ranging : ℕ → Context → Expr → ℕ → Came → Result Came
ranging p c z x v = as_number v >>= λ y. works Evaluate c z >>= ranged p x y

abbrev pub comparing : Comparison → Context → Value → Came → Result Came
comparing o c x v = as_value v >>= λ y. compared c.ports o x y >>= nodes

abbrev pub connected : Binary → Formula → Came → Result Came
connected o f v = as_formula v >>= λ g. nodes (Two o f g)

abbrev pub among : ℕ → Came → Result Came
among n v = as_set v >>= λ m. nodes (truth (member_of m n))

abbrev pub repeated : ℕ → Came → Result Came
repeated n v = as_formula v >>= λ f. nodes (nexts n f)

abbrev pub windowed : Window → ℕ → ℕ → Came → Result Came
windowed o j k v = as_formula v >>= λ f. nodes (nexts j (chain (window_operator o) (k - j) f))

abbrev pub windowing : ℕ → Window → Context → Expr → ℕ → Came → Result Came
windowing p o c e j v = as_number v >>= λ k. guard (leb j k) 11 p (works Expand c e >>= windowed o j k)

-- the rest of a fold, where a was folded before
abbrev pub onward_numbers : ℕ → Big → Context → Token → Expr → List ℕ → ℕ → Result Came
onward_numbers p o c i e rest a = onward (calculate p (numeric o)) (number_at c i e) a rest >>= λ n. worth (Number n)

abbrev pub onward_sets : ℕ → Big → Context → Token → Expr → List ℕ → List ℕ → Result Came
onward_sets p o c i e rest a = onward (merging p o) (set_at c i e) a rest >>= λ s. worth (Set s)

abbrev pub onward_formulas : Big → Context → Token → Expr → List ℕ → Formula → Result Came
onward_formulas o c i e rest a = gather (formula_at c i e) rest >>= λ fs. nodes (joined (connective o) a fs)

abbrev pub apply : Frame → Came → Result Came
apply (Measured p m) v = as_set v >>= λ s. measure p m s >>= λ n. worth (Number n)
apply Width v = as_value v >>= bus >>= λ b. worth (Number b.width)
apply (Left p o c b) v = as_number v >>= λ m. works Evaluate c b >>= calculated p o m
apply (Right p o m) v = calculated p o m v
apply (LeftSet p o c b) v = as_set v >>= λ m. works Evaluate c b >>= combined p o m
apply (RightSet p o m) v = combined p o m v
apply (Low p l h c b) v = as_number v >>= λ m. works Evaluate c b >>= bounded p l h m
apply (High p l h m) v = bounded p l h m v
apply (Elements p c es ns) v = as_number v >>= λ n. value c.values es >>= set >>= λ s. limited p (inserts ns (insert n s)) >>= λ u. worth (Set u)
apply (RangeFirst p c y z) v = as_number v >>= λ x. works Evaluate c y >>= ranging p c z x
apply (RangeSecond p c z x) v = ranging p c z x v
apply (RangeLast p x y) v = ranged p x y v
apply (Over p o c i e) v = as_set v >>= λ s. big p o (λ k. value (at c i k).values e) s >>= worth
apply (FirstNumber p o c i e rest) v = as_number v >>= onward_numbers p o c i e rest
apply (NextNumber p o c i e a rest) v = as_number v >>= λ b. calculate p (numeric o) a b >>= onward_numbers p o c i e rest
apply (FirstSet p o c i e rest) v = as_set v >>= onward_sets p o c i e rest
apply (NextSet p o c i e a rest) v = as_set v >>= λ b. merging p o a b >>= onward_sets p o c i e rest
apply (KeepValue r c e) v = Done v
apply (Capping o) v = as_formula v >>= λ f. nodes (One o f)
apply (LeftFormula o c b) v = as_formula v >>= λ f. works Expand c b >>= connected o f
apply (RightFormula o f end) v = connected o f v
apply (LeftCompared o c b) v = as_value v >>= λ x. works Evaluate c b >>= comparing o c x
apply (RightCompared o c x) v = comparing o c x v
apply (Member c b) v = as_number v >>= λ n. works Evaluate c b >>= among n
apply (Among n) v = among n v
apply (Indexed c t) v = as_number v >>= λ i. c.values t >>= bus >>= bit_at c.ports i >>= nodes
apply (Repeat c e) v = as_number v >>= λ n. works Expand c e >>= repeated n
apply (Repeated n) v = repeated n v
apply (WindowFrom p o c m e) v = as_number v >>= λ j. works Evaluate c m >>= windowing p o c e j
apply (WindowTo p o c e j) v = windowing p o c e j v
apply (Windowed o j k) v = windowed o j k v
apply (OverEach o c i e) v = as_set v >>= λ s. big_formula o (λ k. expansion (at c i k) e) s >>= nodes
apply (FirstEach o c i e rest) v = as_formula v >>= onward_formulas o c i e rest
apply (NextEach o c i e f end rest) v = as_formula v >>= λ g. onward_formulas o c i e rest (Two (connective o) f g)
apply (KeepFormula r c e) v = Done v
apply (BitOf c i) v = as_value v >>= bus >>= bit_at c.ports i >>= nodes

-- what is known of the part that is worked out above a frame: the body of a definition that is to be kept
abbrev pub Kept : Frame → Result Came → Type 0
Kept (Measured p m) r = Unit {0}
Kept Width r = Unit {0}
Kept (Left p o c b) r = Unit {0}
Kept (Right p o m) r = Unit {0}
Kept (LeftSet p o c b) r = Unit {0}
Kept (RightSet p o m) r = Unit {0}
Kept (Low p l h c b) r = Unit {0}
Kept (High p l h m) r = Unit {0}
Kept (Elements p c es ns) r = Unit {0}
Kept (RangeFirst p c y z) r = Unit {0}
Kept (RangeSecond p c z x) r = Unit {0}
Kept (RangeLast p x y) r = Unit {0}
Kept (Over p o c i e) r = Unit {0}
Kept (FirstNumber p o c i e rest) r = Unit {0}
Kept (NextNumber p o c i e a rest) r = Unit {0}
Kept (FirstSet p o c i e rest) r = Unit {0}
Kept (NextSet p o c i e a rest) r = Unit {0}
Kept (KeepValue r c e) x = works Evaluate c e ≡ x
Kept (Capping o) r = Unit {0}
Kept (LeftFormula o c b) r = Unit {0}
Kept (RightFormula o f end) r = Unit {0}
Kept (LeftCompared o c b) r = Unit {0}
Kept (RightCompared o c x) r = Unit {0}
Kept (Member c b) r = Unit {0}
Kept (Among n) r = Unit {0}
Kept (Indexed c t) r = Unit {0}
Kept (Repeat c e) r = Unit {0}
Kept (Repeated n) r = Unit {0}
Kept (WindowFrom p o c m e) r = Unit {0}
Kept (WindowTo p o c e j) r = Unit {0}
Kept (Windowed o j k) r = Unit {0}
Kept (OverEach o c i e) r = Unit {0}
Kept (FirstEach o c i e rest) r = Unit {0}
Kept (NextEach o c i e f end rest) r = Unit {0}
Kept (KeepFormula r c e) x = works Expand c e ≡ x
Kept (BitOf c i) r = Unit {0}

-- the frames, the last pushed first, make x of r
unfoldable pub Means : Result Came → List Frame → Result Came → Type 0
Means x [] r = x ≡ r
Means x (F ∷ Fs) r = Kept F r × Means x Fs (r >>= apply F)

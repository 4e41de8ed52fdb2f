-- Values keep their bounds: every number that is worked out is at most 1,000,000, every set ascends, has at most 256 elements and holds such numbers only,
-- and no bus is wider than 255.
use Rattle.std.specs.Prelude.{ℕ, suc, ◌≤◌, ◌≡◌, Bool, true, false, List, [], ◌∷◌, leb, length}
use Rattle.std.proofs.Common.{subst, sym, arith, le_trans}
use Rattle.node.specs.Result.{Result, Done, ◌>>=◌}
use Rattle.language.specs.Limits.{max_number, max_elements, max_width}
use Rattle.language.specs.Operators.{
  Arithmetic,
  Plus,
  Times,
  Measure,
  Size,
  Min,
  Max,
  Cap,
  Big,
  BigSum,
  BigProduct,
  BigCap,
  BigCup,
  BigAnd,
  BigOr,
  Calculates,
  Combines,
  Compares,
  Membership,
  Connects,
  Measures,
  WidthOf,
  Applies,
}
use Rattle.language.specs.Tree.{Expr, Named, Numeral, Truth, Index, Paren, Prefixed, Joined, Nexts, InWindow, Each, Between, Listed, Empty, Element, Range}
use Rattle.language.specs.Sets.{member_of, union, combine}
use Rattle.language.specs.Values.{
  Value,
  Number,
  Set,
  Logic,
  Bus,
  Unsized,
  Choice,
  number,
  set,
  bus,
  Sized,
  in_range,
  decimal,
  calculate,
  measure,
  limited,
  range,
  between,
  big,
  Scope,
  naming,
  value,
}
pub use Rattle.language.specs.Lists.{Ordered}
use Rattle.language.specs.Braces.{Proper}
use Rattle.language.proofs.Laws.Basics.Lists.{All}
use Rattle.language.proofs.Laws.Basics.Tests.{so_leb}
use Rattle.language.proofs.Laws.Basics.Results.{done, refused, guarded, bind, weaken, folds, Within}
use Rattle.language.proofs.Laws.Values.SetLaws.{ascending_all, last-high, insert_ascending, union_ascending, keep_fewer, combine_ascending}
use Rattle.language.proofs.Laws.Values.SetAnswers.{Small, rises_ascending, range_exact, Below, between_exact}
use Rattle.language.proofs.Laws.Values.Arithmetic.{in_range_exact, calculate_exact}
use Rattle.language.proofs.Laws.Values.ValueTypes.{number_as, set_as, bus_as}
use Rattle.language.proofs.Laws.Values.NameLaws.{Visible, naming-within}

abbrev pub SaneNumber : ℕ → Type 0
SaneNumber n = n ≤ max_number

abbrev pub SaneSet : List ℕ → Type 0
SaneSet s = Ordered s × (length s ≤ max_elements)

abbrev pub Sane : Value → Type 0
Sane (Number n) = SaneNumber n
Sane (Set s) = SaneSet s
Sane Logic = Unit {0}
Sane (Bus p x n) = n ≤ max_width
Sane (Unsized p) = Unit {0}
Sane (Choice v) = Unit {0}

-- what is kept of a value, and of the elements of a set in braces
abbrev pub SaneIn : (braces : Bool) → Value → Type 0
SaneIn true v = Within Ordered (set v)
SaneIn false v = Sane v

-- a value as a number, a set, a bus
pub as_number : (r : Result Value) → Within Sane r → Within SaneNumber (r >>= number)
as_number r h = bind r number h (number_as Sane (λ n k. k) (λ _ _ _. tt))

pub as_set_lem : (r : Result Value) → Within Sane r → Within SaneSet (r >>= set)
as_set_lem r h = bind r set h (set_as Sane (λ s k. k) (λ _ _ _. tt))

abbrev pub SaneBus : Sized → Type 0
SaneBus b = b.width ≤ max_width

pub bus_sane : (v : Value) → Sane v → Within SaneBus (bus v)
bus_sane = bus_as Sane (λ p x n h. h) (λ p h. tt) (λ _ _ _. tt)

number_is : (r : Result ℕ) → Within SaneNumber r → Within Sane (r >>= λ n. Done (Number n))
number_is r h = bind r _ h (λ n k. done k)

set_is : (r : Result (List ℕ)) → Within SaneSet r → Within Sane (r >>= λ s. Done (Set s))
set_is r h = bind r _ h (λ s k. done k)

-- operation by operation
pub in_range_sane : (p n : ℕ) → Within SaneNumber (in_range p n)
in_range_sane p n = weaken _ (λ _ _ _. tt) (λ c h. h.1) (in_range_exact p n)

pub calculate_sane : (p : ℕ) (o : Arithmetic) (a b : ℕ) → SaneNumber a → SaneNumber b → Within SaneNumber (calculate p o a b)
calculate_sane p o a b h k = weaken _ (λ _ _ _. tt) (λ c g. g.1) (calculate_exact p o a b h)

pub measure_sane : (p : ℕ) (m : Measure) (s : List ℕ) → SaneSet s → Within SaneNumber (measure p m s)
measure_sane p Size s h = done (omega (arith, h.1))
measure_sane p Min [] h = refused tt
measure_sane p Min (x ∷ s) h = done h.0.1
measure_sane p Max [] h = refused tt
measure_sane p Max (x ∷ s) h = done (last-high (suc x) max_number x s h.0.1 h.0.2)

pub limited_sane : (p : ℕ) (s : List ℕ) → Ordered s → Within SaneSet (limited p s)
limited_sane p s h = guarded (leb (length s) max_elements) 12 p (λ _. tt) (λ e. done (h, (so_leb (length s) max_elements).0 e))

small_sane : (P : ℕ → Type 0) (s : List ℕ) → ((k : ℕ) → P k → k ≤ max_number) → Small P s → SaneSet s
small_sane P s b h = (rises_ascending 0 max_number s h.lists.rises (λ k m. b k ((h.lists.members k).0 m)), h.few)

pub range_sane : (p x y z : ℕ) → SaneNumber z → Within SaneSet (range p x y z)
range_sane p x y z l = weaken _ (λ _ _ _. tt) (λ s h. small_sane _ s (λ k m. le_trans m.1 l) h.1) (range_exact p x y z)

pub between_sane : (p : ℕ) (l h : Bool) (a b : ℕ) → SaneNumber b → Within SaneSet (between p l h a b)
between_sane p l h a b u = weaken _ (λ _ _ _. tt) (λ s g. small_sane _ s (λ k m. le_trans (below h k m.1) u) g) (between_exact p l h a b)
  where
    below : (c : Bool) (k : ℕ) → Below c k b → k ≤ b
    below true k m = omega arith
    below false k m = m

cap_sane : (s t : List ℕ) → SaneSet s → SaneSet t → Within SaneSet (Done (combine Cap s t))
cap_sane s t h k = done (combine_ascending Cap 0 max_number s t h.0 k.0, le_trans (keep_fewer (member_of t) s) h.1)

pub big_sane : (p : ℕ) (o : Big) (f : ℕ → Result Value) → ((k : ℕ) → SaneNumber k → Within Sane (f k)) → (s : List ℕ) → All SaneNumber s → Within Sane (big p o f s)
big_sane p BigSum f h s l =
    number_is _ (folds SaneNumber (calculate p Plus) (calculate_sane p Plus) _ (λ k m. as_number (f k) (h k m)) _ (done (omega arith)) s l)
big_sane p BigProduct f h s l =
    number_is _ (folds SaneNumber (calculate p Times) (calculate_sane p Times) _ (λ k m. as_number (f k) (h k m)) _ (done (omega arith)) s l)
big_sane p BigCap f h s l =
    set_is _ (folds SaneNumber _ cap_sane _ (λ k m. as_set_lem (f k) (h k m)) _ (refused tt) s l)
big_sane p BigCup f h s l =
    set_is _ (folds SaneNumber _ (λ a b u v. limited_sane p (union a b) (union_ascending 0 max_number a b u.0 v.0)) _ (λ k m. as_set_lem (f k) (h k m)) _ (done (tt, omega arith)) s l)
big_sane p BigAnd f h s l = done tt
big_sane p BigOr f h s l = done tt

-- what is no list of elements, and what is
whole : {braces : Bool} → braces ≡ false → (r : Result Value) → Within Sane r → Within (SaneIn braces) r
whole e r h = subst (λ b. Within (SaneIn b) r) (sym e) h

elements : {braces : Bool} → braces ≡ true → (r : Result Value) → Within (SaneIn true) r → Within (SaneIn braces) r
elements e r h = subst (λ b. Within (SaneIn b) r) (sym e) h

logic : {braces : Bool} → braces ≡ false → Within (SaneIn braces) (Done Logic)
logic e = whole e (Done Logic) (done tt)

-- whatever is worked out in a scope within its bounds is within them; of the elements of a set in braces all but their number
pub value_sane : (e : Expr) (braces : Bool) → Proper braces e → (sc : Scope) → Visible Sane sc → Within (SaneIn braces) (value sc e)
value_sane (Named t) b p sc g = whole p.0 _ (g t)
value_sane (Numeral t) b p sc g = whole p.0 _ (number_is _ (in_range_sane t.at (decimal 0 t.text)))
value_sane (Truth t c) b p sc g = logic p.0
value_sane (Index t e) b p sc g = logic p.0
value_sane (Paren t e) b p sc g = whole p.0 _ (value_sane e false p.1 sc g)
value_sane (Prefixed t (Measures m) e) b p sc g =
    whole p.0.0 _ (number_is _ (bind _ _ (as_set_lem _ (value_sane e false p.1 sc g)) (measure_sane t.at m)))
value_sane (Prefixed t WidthOf e) b p sc g =
    whole p.0.0 _ (bind _ _ (bind _ bus (value_sane e false p.1 sc g) bus_sane) (λ u h. done (omega (arith, h))))
value_sane (Prefixed t (Applies o) e) b p sc g = logic p.0.0
value_sane (Joined t (Calculates o) x y) b p sc g =
    whole p.0.0 _ (bind _ _ (as_number _ (value_sane x false p.1 sc g)) (λ m h.
    number_is _ (bind _ _ (as_number _ (value_sane y false p.2 sc g)) (λ n k. calculate_sane t.at o m n h k))))
value_sane (Joined t (Combines o) x y) b p sc g =
    whole p.0.0 _ (bind _ _ (as_set_lem _ (value_sane x false p.1 sc g)) (λ m h.
    bind _ _ (as_set_lem _ (value_sane y false p.2 sc g)) (λ n k.
    set_is _ (limited_sane t.at (combine o m n) (combine_ascending o 0 max_number m n h.0 k.0)))))
value_sane (Joined t (Compares o) x y) b p sc g = logic p.0.0
value_sane (Joined t Membership x y) b p sc g = logic p.0.0
value_sane (Joined t (Connects o) x y) b p sc g = logic p.0.0
value_sane (Nexts t n e) b p sc g = logic p.0
value_sane (InWindow t o n m e) b p sc g = logic p.0.0
value_sane (Each t o further i s e) b p sc g =
    whole p.0.0 _ (bind _ _ (as_set_lem _ (value_sane s false p.1 sc g)) (λ m h.
    big_sane t.at o _ (λ k l. value_sane e false p.2 (naming i (Done (Number k)) sc) (naming-within Sane i _ sc (done l) g)) m (ascending_all 0 max_number m h.0)))
value_sane (Between t l h x y) b p sc g =
    whole p.0.0 _ (bind _ _ (as_number _ (value_sane x false p.1 sc g)) (λ m u.
    set_is _ (bind _ _ (as_number _ (value_sane y false p.2 sc g)) (λ n k. between_sane t.at l h m n k))))
value_sane (Listed t es) b p sc g =
    whole p.0 _ (set_is _ (bind _ _ (bind _ set (value_sane es true p.1 sc g) (λ v h. h)) (limited_sane t.at)))
value_sane Empty b p sc g = elements p _ (done (done tt))
value_sane (Element e es) b p sc g =
    elements p.0 _ (bind _ _ (as_number _ (value_sane e false p.1 sc g)) (λ n h.
    bind _ _ (bind _ set (value_sane es true p.2 sc g) (λ v h. h)) (λ s k.
    done (done (insert_ascending 0 max_number n s (omega arith) h k)))))
value_sane (Range t x y z) b p sc g =
    whole p.0 _ (bind _ _ (as_number _ (value_sane x false p.1 sc g)) (λ m u.
    bind _ _ (as_number _ (value_sane y false p.2 sc g)) (λ n v.
    set_is _ (bind _ _ (as_number _ (value_sane z false p.3 sc g)) (λ o k. range_sane t.at m n o k)))))

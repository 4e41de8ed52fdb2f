-- A frame by the number of its phase.
use Rattle.std.specs.Prelude.{ℕ, Bool, List, [], ◌∷◌, ◌≡◌, refl, get_or}
use Rattle.std.proofs.Common.{sym, ap, ◌∙◌, subst}
use Rattle.node.specs.Operators.{Unary, Binary}
use Rattle.node.specs.Ltl.{Formula}
use Rattle.language.specs.Tokens.{Token}
use Rattle.language.specs.Operators.{Arithmetic, Measure, Combination, Comparison, Big, Window}
use Rattle.language.specs.Tree.{Expr}
use Rattle.language.specs.Values.{Value}
use Rattle.language.specs.Expansion.{Context}
use Rattle.machine.specs.Holding.{phase}
use Rattle.machine.specs.Frames.{
  Frame,
  Measured,
  Width,
  Left,
  Right,
  LeftSet,
  RightSet,
  Low,
  High,
  Elements,
  RangeFirst,
  RangeSecond,
  RangeLast,
  Over,
  FirstNumber,
  NextNumber,
  FirstSet,
  NextSet,
  KeepValue,
  Capping,
  LeftFormula,
  RightFormula,
  LeftCompared,
  RightCompared,
  Member,
  Among,
  Indexed,
  Repeat,
  Repeated,
  WindowFrom,
  WindowTo,
  Windowed,
  OverEach,
  FirstEach,
  NextEach,
  KeepFormula,
  BitOf,
}

-- what a frame waits for, without its contents
pub data Stage : Type 0 where
  at_measured at_width at_left at_right at_left_set at_right_set at_low at_high at_elements at_range_first at_range_second at_range_last at_over at_first_number at_next_number at_first_set at_next_set at_keep_value : Stage
  at_capping at_left_formula at_right_formula at_left_compared at_right_compared at_member at_among at_indexed : Stage
  at_repeat at_repeated at_window_from at_window_to at_windowed at_over_each at_first_each at_next_each at_keep_formula at_bit_of : Stage

abbrev stages : List Stage
stages =
    at_measured ∷ at_width ∷ at_left ∷ at_right ∷ at_left_set ∷ at_right_set ∷ at_low ∷ at_high ∷ at_elements ∷
    at_range_first ∷ at_range_second ∷ at_range_last ∷ at_over ∷ at_first_number ∷ at_next_number ∷ at_first_set ∷ at_next_set ∷ at_keep_value ∷
    at_capping ∷ at_left_formula ∷ at_right_formula ∷ at_left_compared ∷ at_right_compared ∷ at_member ∷ at_among ∷ at_indexed ∷ at_repeat ∷
    at_repeated ∷ at_window_from ∷ at_window_to ∷ at_windowed ∷ at_over_each ∷ at_first_each ∷ at_next_each ∷ at_keep_formula ∷ at_bit_of ∷ []

abbrev stage_at : ℕ → Stage
stage_at n = get_or stages n at_bit_of

abbrev stage_of : Frame → Stage
stage_of (Measured p m) = at_measured
stage_of Width = at_width
stage_of (Left p o c b) = at_left
stage_of (Right p o m) = at_right
stage_of (LeftSet p o c b) = at_left_set
stage_of (RightSet p o m) = at_right_set
stage_of (Low p l h c b) = at_low
stage_of (High p l h m) = at_high
stage_of (Elements p c es ns) = at_elements
stage_of (RangeFirst p c y z) = at_range_first
stage_of (RangeSecond p c z x) = at_range_second
stage_of (RangeLast p x y) = at_range_last
stage_of (Over p o c i e) = at_over
stage_of (FirstNumber p o c i e rest) = at_first_number
stage_of (NextNumber p o c i e a rest) = at_next_number
stage_of (FirstSet p o c i e rest) = at_first_set
stage_of (NextSet p o c i e a rest) = at_next_set
stage_of (KeepValue r c e) = at_keep_value
stage_of (Capping o) = at_capping
stage_of (LeftFormula o c b) = at_left_formula
stage_of (RightFormula o f end) = at_right_formula
stage_of (LeftCompared o c b) = at_left_compared
stage_of (RightCompared o c x) = at_right_compared
stage_of (Member c b) = at_member
stage_of (Among n) = at_among
stage_of (Indexed c t) = at_indexed
stage_of (Repeat c e) = at_repeat
stage_of (Repeated n) = at_repeated
stage_of (WindowFrom p o c m e) = at_window_from
stage_of (WindowTo p o c e j) = at_window_to
stage_of (Windowed o j k) = at_windowed
stage_of (OverEach o c i e) = at_over_each
stage_of (FirstEach o c i e rest) = at_first_each
stage_of (NextEach o c i e f end rest) = at_next_each
stage_of (KeepFormula r c e) = at_keep_formula
stage_of (BitOf c i) = at_bit_of

abbrev pub View : Stage → Frame → Type 0
View at_measured F = (p : ℕ) × (m : Measure) × (F ≡ Measured p m)
View at_width F = F ≡ Width
View at_left F = (p : ℕ) × (o : Arithmetic) × (c : Context) × (b : Expr) × (F ≡ Left p o c b)
View at_right F = (p : ℕ) × (o : Arithmetic) × (m : ℕ) × (F ≡ Right p o m)
View at_left_set F = (p : ℕ) × (o : Combination) × (c : Context) × (b : Expr) × (F ≡ LeftSet p o c b)
View at_right_set F = (p : ℕ) × (o : Combination) × (m : List ℕ) × (F ≡ RightSet p o m)
View at_low F = (p : ℕ) × (l : Bool) × (h : Bool) × (c : Context) × (b : Expr) × (F ≡ Low p l h c b)
View at_high F = (p : ℕ) × (l : Bool) × (h : Bool) × (m : ℕ) × (F ≡ High p l h m)
View at_elements F = (p : ℕ) × (c : Context) × (es : Expr) × (ns : List ℕ) × (F ≡ Elements p c es ns)
View at_range_first F = (p : ℕ) × (c : Context) × (y : Expr) × (z : Expr) × (F ≡ RangeFirst p c y z)
View at_range_second F = (p : ℕ) × (c : Context) × (z : Expr) × (x : ℕ) × (F ≡ RangeSecond p c z x)
View at_range_last F = (p : ℕ) × (x : ℕ) × (y : ℕ) × (F ≡ RangeLast p x y)
View at_over F = (p : ℕ) × (o : Big) × (c : Context) × (i : Token) × (e : Expr) × (F ≡ Over p o c i e)
View at_first_number F = (p : ℕ) × (o : Big) × (c : Context) × (i : Token) × (e : Expr) × (rest : List ℕ) × (F ≡ FirstNumber p o c i e rest)
View at_next_number F = (p : ℕ) × (o : Big) × (c : Context) × (i : Token) × (e : Expr) × (a : ℕ) × (rest : List ℕ) × (F ≡ NextNumber p o c i e a rest)
View at_first_set F = (p : ℕ) × (o : Big) × (c : Context) × (i : Token) × (e : Expr) × (rest : List ℕ) × (F ≡ FirstSet p o c i e rest)
View at_next_set F = (p : ℕ) × (o : Big) × (c : Context) × (i : Token) × (e : Expr) × (a : List ℕ) × (rest : List ℕ) × (F ≡ NextSet p o c i e a rest)
View at_keep_value F = (r : ℕ) × (c : Context) × (e : Expr) × (F ≡ KeepValue r c e)
View at_capping F = (o : Unary) × (F ≡ Capping o)
View at_left_formula F = (o : Binary) × (c : Context) × (b : Expr) × (F ≡ LeftFormula o c b)
View at_right_formula F = (o : Binary) × (f : Formula) × (end : ℕ) × (F ≡ RightFormula o f end)
View at_left_compared F = (o : Comparison) × (c : Context) × (b : Expr) × (F ≡ LeftCompared o c b)
View at_right_compared F = (o : Comparison) × (c : Context) × (x : Value) × (F ≡ RightCompared o c x)
View at_member F = (c : Context) × (b : Expr) × (F ≡ Member c b)
View at_among F = (n : ℕ) × (F ≡ Among n)
View at_indexed F = (c : Context) × (t : Token) × (F ≡ Indexed c t)
View at_repeat F = (c : Context) × (e : Expr) × (F ≡ Repeat c e)
View at_repeated F = (n : ℕ) × (F ≡ Repeated n)
View at_window_from F = (p : ℕ) × (o : Window) × (c : Context) × (m : Expr) × (e : Expr) × (F ≡ WindowFrom p o c m e)
View at_window_to F = (p : ℕ) × (o : Window) × (c : Context) × (e : Expr) × (j : ℕ) × (F ≡ WindowTo p o c e j)
View at_windowed F = (o : Window) × (j : ℕ) × (k : ℕ) × (F ≡ Windowed o j k)
View at_over_each F = (o : Big) × (c : Context) × (i : Token) × (e : Expr) × (F ≡ OverEach o c i e)
View at_first_each F = (o : Big) × (c : Context) × (i : Token) × (e : Expr) × (rest : List ℕ) × (F ≡ FirstEach o c i e rest)
View at_next_each F = (o : Big) × (c : Context) × (i : Token) × (e : Expr) × (f : Formula) × (end : ℕ) × (rest : List ℕ) × (F ≡ NextEach o c i e f end rest)
View at_keep_formula F = (r : ℕ) × (c : Context) × (e : Expr) × (F ≡ KeepFormula r c e)
View at_bit_of F = (c : Context) × (i : ℕ) × (F ≡ BitOf c i)

view : (F : Frame) → View (stage_of F) F
view (Measured p m) = (p, m, refl)
view Width = refl
view (Left p o c b) = (p, o, c, b, refl)
view (Right p o m) = (p, o, m, refl)
view (LeftSet p o c b) = (p, o, c, b, refl)
view (RightSet p o m) = (p, o, m, refl)
view (Low p l h c b) = (p, l, h, c, b, refl)
view (High p l h m) = (p, l, h, m, refl)
view (Elements p c es ns) = (p, c, es, ns, refl)
view (RangeFirst p c y z) = (p, c, y, z, refl)
view (RangeSecond p c z x) = (p, c, z, x, refl)
view (RangeLast p x y) = (p, x, y, refl)
view (Over p o c i e) = (p, o, c, i, e, refl)
view (FirstNumber p o c i e rest) = (p, o, c, i, e, rest, refl)
view (NextNumber p o c i e a rest) = (p, o, c, i, e, a, rest, refl)
view (FirstSet p o c i e rest) = (p, o, c, i, e, rest, refl)
view (NextSet p o c i e a rest) = (p, o, c, i, e, a, rest, refl)
view (KeepValue r c e) = (r, c, e, refl)
view (Capping o) = (o, refl)
view (LeftFormula o c b) = (o, c, b, refl)
view (RightFormula o f end) = (o, f, end, refl)
view (LeftCompared o c b) = (o, c, b, refl)
view (RightCompared o c x) = (o, c, x, refl)
view (Member c b) = (c, b, refl)
view (Among n) = (n, refl)
view (Indexed c t) = (c, t, refl)
view (Repeat c e) = (c, e, refl)
view (Repeated n) = (n, refl)
view (WindowFrom p o c m e) = (p, o, c, m, e, refl)
view (WindowTo p o c e j) = (p, o, c, e, j, refl)
view (Windowed o j k) = (o, j, k, refl)
view (OverEach o c i e) = (o, c, i, e, refl)
view (FirstEach o c i e rest) = (o, c, i, e, rest, refl)
view (NextEach o c i e f end rest) = (o, c, i, e, f, end, rest, refl)
view (KeepFormula r c e) = (r, c, e, refl)
view (BitOf c i) = (c, i, refl)

stage_phase : (F : Frame) → stage_at (phase F) ≡ stage_of F
stage_phase (Measured p m) = refl
stage_phase Width = refl
stage_phase (Left p o c b) = refl
stage_phase (Right p o m) = refl
stage_phase (LeftSet p o c b) = refl
stage_phase (RightSet p o m) = refl
stage_phase (Low p l h c b) = refl
stage_phase (High p l h m) = refl
stage_phase (Elements p c es ns) = refl
stage_phase (RangeFirst p c y z) = refl
stage_phase (RangeSecond p c z x) = refl
stage_phase (RangeLast p x y) = refl
stage_phase (Over p o c i e) = refl
stage_phase (FirstNumber p o c i e rest) = refl
stage_phase (NextNumber p o c i e a rest) = refl
stage_phase (FirstSet p o c i e rest) = refl
stage_phase (NextSet p o c i e a rest) = refl
stage_phase (KeepValue r c e) = refl
stage_phase (Capping o) = refl
stage_phase (LeftFormula o c b) = refl
stage_phase (RightFormula o f end) = refl
stage_phase (LeftCompared o c b) = refl
stage_phase (RightCompared o c x) = refl
stage_phase (Member c b) = refl
stage_phase (Among n) = refl
stage_phase (Indexed c t) = refl
stage_phase (Repeat c e) = refl
stage_phase (Repeated n) = refl
stage_phase (WindowFrom p o c m e) = refl
stage_phase (WindowTo p o c e j) = refl
stage_phase (Windowed o j k) = refl
stage_phase (OverEach o c i e) = refl
stage_phase (FirstEach o c i e rest) = refl
stage_phase (NextEach o c i e f end rest) = refl
stage_phase (KeepFormula r c e) = refl
stage_phase (BitOf c i) = refl

-- the frame of a phase
pub by_phase : (F : Frame) (n : ℕ) → phase F ≡ n → View (stage_at n) F
by_phase F n e = subst (λ (t : Stage). View t F) (sym (stage_phase F) ∙ ap stage_at e) (view F)

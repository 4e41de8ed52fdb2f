-- How numbers and sets are worked out (document 01, 'Accepted text' and refusals 11 to 13). A formula is only marked as one here.
use Rattle.std.specs.Prelude.{ℕ, suc, ◌+◌, ◌-◌, ◌*◌, ◌/◌, ◌%◌, Bool, true, false, List, [], ◌∷◌, leb, ltb, length}
use Rattle.node.specs.Result.{Result, Done, Refused, ◌>>=◌, guard}
use Rattle.language.specs.Limits.{max_number, max_elements}
use Rattle.language.specs.Bytes.{if◌then◌otherwise◌, same}
use Rattle.language.specs.Tokens.{Token}
use Rattle.language.specs.Operators.{
  Arithmetic,
  Plus,
  Minus,
  Times,
  Divide,
  Modulo,
  Measure,
  Size,
  Min,
  Max,
  Cap,
  Big,
  BigSum,
  BigProduct,
  BigCap,
  BigCup,
  BigAnd,
  BigOr,
  Calculates,
  Combines,
  Compares,
  Membership,
  Connects,
  Measures,
  WidthOf,
  Applies,
}
use Rattle.language.specs.Tree.{Expr, Named, Numeral, Truth, Index, Paren, Prefixed, Joined, Nexts, InWindow, Each, Between, Listed, Empty, Element, Range}
use Rattle.language.specs.Sets.{insert, union, combine, steps, range_size, last}

-- what an expression is: a number; a set; some formula; a bus, with the place of its name, the name and the width; a bus not yet sized; the words of an
-- enumeration's identifier
pub data Value : Type 0 where
  Number : ℕ → Value
  Set : List ℕ → Value
  Logic : Value
  Bus : (place : ℕ) (name : List ℕ) (width : ℕ) → Value
  Unsized : (place : ℕ) → Value
  Choice : List Token → Value

-- a value of another kind than is taken there: no text that has passed refusal 9 comes to this
abbrev pub misfit : {A : Type 0} → Result A
misfit = Refused 9 0

abbrev pub number : Value → Result ℕ
number (Number n) = Done n
number (Set s) = misfit
number Logic = misfit
number (Bus p x n) = misfit
number (Unsized p) = misfit
number (Choice v) = misfit

abbrev pub set : Value → Result (List ℕ)
set (Number n) = misfit
set (Set s) = Done s
set Logic = misfit
set (Bus p x n) = misfit
set (Unsized p) = misfit
set (Choice v) = misfit

-- a bus that is sized: its name's place, its name and its width. 'SIZEOF of a bus not yet sized' is 13 at its name
pub record Sized : Type 0 where
  pub place : ℕ
  pub name : List ℕ
  pub width : ℕ

abbrev pub bus : Value → Result Sized
bus (Number n) = misfit
bus (Set s) = misfit
bus Logic = misfit
bus (Bus p x n) = Done (record { place = p; name = x; width = n })
bus (Unsized p) = Refused 13 p
bus (Choice v) = misfit

abbrev pub choice : Value → Result (List Token)
choice (Number n) = misfit
choice (Set s) = misfit
choice Logic = misfit
choice (Bus p x n) = misfit
choice (Unsized p) = misfit
choice (Choice v) = Done v

-- 'Values are decimal, 0 to 1,000,000 at each step'
abbrev pub in_range : ℕ → ℕ → Result ℕ
in_range place n = guard (leb n max_number) 11 place (Done n)

abbrev pub decimal : ℕ → List ℕ → ℕ
decimal n [] = n
decimal n (b ∷ s) = decimal (n * 10 + (b - 48)) s

abbrev pub calculate : ℕ → Arithmetic → ℕ → ℕ → Result ℕ
calculate place Plus a b = in_range place (a + b)
calculate place Minus a b = guard (leb b a) 11 place (Done (a - b))
calculate place Times a b = in_range place (a * b)
calculate place Divide a b = guard (ltb 0 b) 11 place (Done (a / b))
calculate place Modulo a b = guard (ltb 0 b) 11 place (Done (a % b))

-- 'MIN, MAX .. of nothing' is 11
abbrev pub measure : ℕ → Measure → List ℕ → Result ℕ
measure place Size s = Done (length s)
measure place Min [] = Refused 11 place
measure place Min (x ∷ s) = Done x
measure place Max [] = Refused 11 place
measure place Max (x ∷ s) = Done (last x s)

-- 'set too large' is 12
abbrev pub limited : ℕ → List ℕ → Result (List ℕ)
limited place s = guard (leb (length s) max_elements) 12 place (Done s)

-- {x, y .. z}: the step, then the size
abbrev pub range : ℕ → ℕ → ℕ → ℕ → Result (List ℕ)
range place x y z =
    let n = range_size x y z in
    guard (ltb x y) 12 place (guard (leb n max_elements) 12 place (Done (steps n x (y - x))))

-- 'The bounds .. give the numbers between, without working out n-1': from a to b, without a or b where its sign is `<`
abbrev pub between : ℕ → Bool → Bool → ℕ → ℕ → Result (List ℕ)
between place afterLow beforeHigh a b =
    let from = if afterLow then suc a otherwise a in
    let n = (if beforeHigh then b otherwise suc b) - from in
    guard (leb n max_elements) 12 place (Done (steps n from 1))

-- 'Big operators fold to the left, ascending; one element is itself': f works out the operand at an element, `step` joins, `none` is over nothing
abbrev pub onward : {A : Type 0} → (A → A → Result A) → (ℕ → Result A) → A → List ℕ → Result A
onward step f a [] = Done a
onward step f a (k ∷ s) = f k >>= λ b. step a b >>= λ c. onward step f c s

abbrev pub folded : {A : Type 0} → (A → A → Result A) → Result A → (ℕ → Result A) → List ℕ → Result A
folded step none f [] = none
folded step none f (k ∷ s) = f k >>= λ a. onward step f a s

abbrev pub big_number : ℕ → Arithmetic → ℕ → (ℕ → Result Value) → List ℕ → Result Value
big_number place o none f s = folded (calculate place o) (Done none) (λ k. f k >>= number) s >>= λ n. Done (Number n)

abbrev pub big_set : (List ℕ → List ℕ → Result (List ℕ)) → Result (List ℕ) → (ℕ → Result Value) → List ℕ → Result Value
big_set step none f s = folded step none (λ k. f k >>= set) s >>= λ m. Done (Set m)

-- 'over nothing `&&` is true, `||` false, `+` 0, `*` 1, `(+)` empty'; '`(*)[..]` of nothing' is 11
abbrev pub big : ℕ → Big → (ℕ → Result Value) → List ℕ → Result Value
big place BigSum f s = big_number place Plus 0 f s
big place BigProduct f s = big_number place Times 1 f s
big place BigCap f s = big_set (λ a b. Done (combine Cap a b)) (Refused 11 place) f s
big place BigCup f s = big_set (λ a b. limited place (union a b)) (Done []) f s
big place BigAnd f s = Done Logic
big place BigOr f s = Done Logic

-- what the visible names stand for
abbrev pub Scope : Type 0
Scope = Token → Result Value

-- a name, and what it stands for, put before the others
abbrev pub naming : {A : Type 0} → Token → Result A → (Token → Result A) → Token → Result A
naming x r sc t = elim (same x.text t.text) [ true ↦ r | false ↦ sc t ]

-- 'left operand first, set elements ascending'
abbrev pub value : Scope → Expr → Result Value
value sc (Named t) = sc t
value sc (Numeral t) = in_range t.at (decimal 0 t.text) >>= λ n. Done (Number n)
value sc (Truth t b) = Done Logic
value sc (Index t e) = Done Logic
value sc (Paren t e) = value sc e
value sc (Prefixed t (Measures m) e) = value sc e >>= set >>= measure t.at m >>= λ n. Done (Number n)
value sc (Prefixed t WidthOf e) = value sc e >>= bus >>= λ b. Done (Number b.width)
value sc (Prefixed t (Applies o) e) = Done Logic
value sc (Joined t (Calculates o) a b) =
    value sc a >>= number >>= λ m. value sc b >>= number >>= calculate t.at o m >>= λ n. Done (Number n)
value sc (Joined t (Combines o) a b) =
    value sc a >>= set >>= λ m. value sc b >>= set >>= λ n. limited t.at (combine o m n) >>= λ s. Done (Set s)
value sc (Joined t (Compares o) a b) = Done Logic
value sc (Joined t Membership a b) = Done Logic
value sc (Joined t (Connects o) a b) = Done Logic
value sc (Nexts t n e) = Done Logic
value sc (InWindow t o n m e) = Done Logic
value sc (Each t o further i s e) = value sc s >>= set >>= big t.at o (λ k. value (naming i (Done (Number k)) sc) e)
value sc (Between t l h a b) = value sc a >>= number >>= λ m. value sc b >>= number >>= between t.at l h m >>= λ s. Done (Set s)
value sc (Listed t es) = value sc es >>= set >>= limited t.at >>= λ s. Done (Set s)
value sc Empty = Done (Set [])
value sc (Element e es) = value sc e >>= number >>= λ n. value sc es >>= set >>= λ s. Done (Set (insert n s))
value sc (Range t x y z) =
    value sc x >>= number >>= λ a. value sc y >>= number >>= λ b. value sc z >>= number >>= range t.at a b >>= λ s. Done (Set s)

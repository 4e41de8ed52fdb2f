-- The expansion of a text to one formula (document 01, 'Expansion').
use Rattle.std.specs.Prelude.{ℕ, suc, ◌+◌, ◌-◌, Bool, true, false, not, ◌&&◌, List, [], ◌∷◌, ◌++◌, map, eqb, leb, ltb, length}
use Rattle.node.specs.Operators.{Not, G, Binary, And, Or, Implies, W}
use Rattle.node.specs.Ltl.{Formula, True, False, Signal, One, Two}
use Rattle.node.specs.Result.{Result, Done, Refused, ◌>>=◌, guard}
pub use Rattle.node.specs.Derived.{truth, nexts, chain}
use Rattle.language.specs.Tokens.{Token}
use Rattle.language.specs.Operators.{
  Comparison,
  Equal,
  Unequal,
  Less,
  AtMost,
  Greater,
  AtLeast,
  Big,
  BigSum,
  BigProduct,
  BigCap,
  BigCup,
  BigAnd,
  BigOr,
  Window,
  FinallyIn,
  GloballyIn,
  Calculates,
  Combines,
  Compares,
  Membership,
  Connects,
  Measures,
  WidthOf,
  Applies,
}
use Rattle.language.specs.Tree.{
  Expr,
  Named,
  Numeral,
  Truth,
  Index,
  Paren,
  Prefixed,
  Joined,
  Nexts,
  InWindow,
  Each,
  Between,
  Listed,
  Empty,
  Element,
  Range,
  Definition,
  Defined,
  Enumerated,
  Part,
  Initially,
  Preset,
  Require,
  Assert,
  Assume,
  Guarantee,
  part_code,
  Spec,
}
use Rattle.language.specs.Sets.{member_of}
use Rattle.language.specs.Values.{Value, Number, Set, Logic, Bus, Unsized, Choice, misfit, number, set, Sized, bus, choice, Scope, naming, value}
use Rattle.language.specs.DeclaredNames.{Declared, Constant, Single, BusOf, Identifies, WaitingBus, Table, find, declared, Port, Declarations}
use Rattle.language.specs.Numbering.{in_order, first_of, Mark, Absent, Present, Star, marks_of}
use Rattle.language.specs.Lines.{Line, Written, Implied}

-- 'fold to the left .. one element is itself'
abbrev pub joined : Binary → Formula → List Formula → Formula
joined o a [] = a
joined o a (b ∷ bs) = joined o (Two o a b) bs

-- 'over nothing `&&` is true, `||` false'
abbrev pub conjunction : List Formula → Formula
conjunction [] = True
conjunction (a ∷ bs) = joined And a bs

abbrev pub disjunction : List Formula → Formula
disjunction [] = False
disjunction (a ∷ bs) = joined Or a bs

-- '`F[n:m] a` is n X over `a || X(a || ..)`, `G[n:m]` with `&&`'; 'm below n' is 11
abbrev pub window_operator : Window → Binary
window_operator FinallyIn = Or
window_operator GloballyIn = And

-- the signal of a name at an index: every signal node is made here
abbrev pub signal_node : List Port → List ℕ → ℕ → Formula
signal_node ps x i = Signal (first_of ps x + i)

-- 'per word the literals of its unstarred marks, bit 0 first, folded with `&&` (all stars: true)': those from bit i on
abbrev pub literals : List Port → List ℕ → ℕ → List Mark → List Formula
literals ps x i [] = []
literals ps x i (Absent ∷ v) = One Not (signal_node ps x i) ∷ literals ps x (suc i) v
literals ps x i (Present ∷ v) = signal_node ps x i ∷ literals ps x (suc i) v
literals ps x i (Star ∷ v) = literals ps x (suc i) v

-- 'words folded with `||`'
abbrev pub one_of : List Port → List ℕ → List Token → Formula
one_of ps x vs = disjunction (map (λ v. conjunction (literals ps x 0 (marks_of v))) vs)

-- are the words as wide as the bus? 'unequal widths' is 13 at the bus's name
abbrev pub width_is : ℕ → List Token → Bool
width_is n [] = true
width_is n (v ∷ vs) = eqb (length v.text) n && width_is n vs

-- 'Bus equals enumeration value .. `!=` puts `!` above'
abbrev pub against : List Port → Comparison → Sized → List Token → Result Formula
against ps Equal b v = guard (width_is b.width v) 13 b.place (Done (one_of ps b.name v))
against ps Unequal b v = guard (width_is b.width v) 13 b.place (Done (One Not (one_of ps b.name v)))
against ps Less b v = misfit
against ps AtMost b v = misfit
against ps Greater b v = misfit
against ps AtLeast b v = misfit

abbrev pub test : Comparison → ℕ → ℕ → Bool
test Equal a b = eqb a b
test Unequal a b = not (eqb a b)
test Less a b = ltb a b
test AtMost a b = leb a b
test Greater a b = ltb b a
test AtLeast a b = leb b a

-- a comparison: of two numbers, or of a bus and an identifier in either order
abbrev pub compared : List Port → Comparison → Value → Value → Result Formula
compared ps o (Number m) y = number y >>= λ n. Done (truth (test o m n))
compared ps o (Set s) y = misfit
compared ps o Logic y = misfit
compared ps o (Bus p x n) y = choice y >>= against ps o (record { place = p; name = x; width = n })
compared ps o (Unsized p) y = Refused 13 p
compared ps o (Choice v) y = bus y >>= λ b. against ps o b v

-- the operand of a big operator at each element
abbrev pub gather : {A B : Type 0} → (A → Result B) → List A → Result (List B)
gather f [] = Done []
gather f (k ∷ s) = f k >>= λ b. gather f s >>= λ bs. Done (b ∷ bs)

abbrev pub big_formula : Big → (ℕ → Result Formula) → List ℕ → Result Formula
big_formula BigSum f s = misfit
big_formula BigProduct f s = misfit
big_formula BigCap f s = misfit
big_formula BigCup f s = misfit
big_formula BigAnd f s = gather f s >>= λ fs. Done (conjunction fs)
big_formula BigOr f s = gather f s >>= λ fs. Done (disjunction fs)

-- the signals in order; what the visible names stand for, and the formulas of those that stand for one
pub record Context : Type 0 where
  pub ports : List Port
  pub values : Scope
  pub formulas : Token → Result Formula

-- bit i of a bus: 'index too large' is 13
abbrev pub bit_at : List Port → ℕ → Sized → Result Formula
bit_at ps i b = guard (ltb i b.width) 13 b.place (Done (signal_node ps b.name i))

-- a big operator's name at an element: a number, and no formula
abbrev pub at : Context → Token → ℕ → Context
at c i k = record { ports = c.ports; values = naming i (Done (Number k)) c.values; formulas = naming i misfit c.formulas }

abbrev pub expansion : Context → Expr → Result Formula
expansion c (Named t) = c.formulas t
expansion c (Numeral t) = misfit
expansion c (Truth t b) = Done (truth b)
expansion c (Index t e) = value c.values e >>= number >>= λ i. c.values t >>= bus >>= bit_at c.ports i
expansion c (Paren t e) = expansion c e
expansion c (Prefixed t (Measures m) e) = misfit
expansion c (Prefixed t WidthOf e) = misfit
expansion c (Prefixed t (Applies o) e) = expansion c e >>= λ f. Done (One o f)
expansion c (Joined t (Calculates o) a b) = misfit
expansion c (Joined t (Combines o) a b) = misfit
expansion c (Joined t (Compares o) a b) = value c.values a >>= λ x. value c.values b >>= compared c.ports o x
expansion c (Joined t Membership a b) =
    value c.values a >>= number >>= λ n. value c.values b >>= set >>= λ m. Done (truth (member_of m n))
expansion c (Joined t (Connects o) a b) = expansion c a >>= λ f. expansion c b >>= λ g. Done (Two o f g)
expansion c (Nexts t n e) = value c.values n >>= number >>= λ k. expansion c e >>= λ f. Done (nexts k f)
expansion c (InWindow t o n m e) =
    value c.values n >>= number >>= λ j. value c.values m >>= number >>= λ k.
    guard (leb j k) 11 t.at (expansion c e >>= λ f. Done (nexts j (chain (window_operator o) (k - j) f)))
expansion c (Each t o further i s e) = value c.values s >>= set >>= big_formula o (λ k. expansion (at c i k) e)
expansion c (Between t l h a b) = misfit
expansion c (Listed t es) = misfit
expansion c Empty = misfit
expansion c (Element e es) = misfit
expansion c (Range t x y z) = misfit

-- a declared name
abbrev pub signal_of : List Port → Token → Declared → Result Formula
signal_of ps t (Constant n) = misfit
signal_of ps t Single = Done (signal_node ps t.text 0)
signal_of ps t (BusOf n) = misfit
signal_of ps t (Identifies v) = misfit
signal_of ps t WaitingBus = misfit

-- the names of a table, with the signals' order
abbrev pub context_of : List Port → Table → Context
context_of ps d = record { ports = ps; values = declared d; formulas = λ t. find d t.text >>= signal_of ps t }

abbrev pub at_signals : Declarations → Context
at_signals d = context_of (in_order d) d.table

-- a definition is what its body is, in terms of the names before it
abbrev pub define : Context → Token → Expr → Context
define c x e =
    record { ports = c.ports; values = naming x (value c.values e) c.values; formulas = naming x (expansion c e) c.formulas }

abbrev pub define_all : Context → List Definition → Context
define_all c [] = c
define_all c (Defined x e ∷ ds) = define_all (define c x e) ds
define_all c (Enumerated x is ∷ ds) = define_all c ds

abbrev pub expand_line : Context → Line → Result Formula
expand_line c (Written e) = expansion c e
expand_line c (Implied p) = Done (one_of c.ports p.name.text p.words)

-- the formulas of a part's lines
abbrev pub Sections : Type 0
Sections = List (Part × List Formula)

abbrev pub expand_section : Context → Part × List Line → Result (Part × List Formula)
expand_section c s = gather (expand_line c) s.1 >>= λ fs. Done (s.0, fs)

abbrev pub lines_of : Part → Sections → List Formula
lines_of p [] = []
lines_of p (s ∷ ss) = elim (eqb (part_code p) (part_code s.0)) [ true ↦ s.1 ++ lines_of p ss | false ↦ lines_of p ss ]

-- 'A section is its lines folded with `&&`; without lines, true'
abbrev pub section : Sections → Part → Formula
section ss p = conjunction (lines_of p ss)

-- 'I -> (P && ((G R && S) -> (G A && U)))'; 'Strict: I -> ((P && (A W !R)) && ((G R && S) -> U))'
abbrev pub whole : Bool → (Part → Formula) → Formula
whole false f =
    Two Implies (f Initially)
    (Two And (f Preset) (Two Implies (Two And (One G (f Require)) (f Assume)) (Two And (One G (f Assert)) (f Guarantee))))
whole true f =
    Two Implies (f Initially)
    (Two And (Two And (f Preset) (Two W (f Assert) (One Not (f Require)))) (Two Implies (Two And (One G (f Require)) (f Assume)) (f Guarantee)))

-- 'sections in text order'
abbrev pub expand : Spec → Declarations → List (Part × List Line) → Result Formula
expand x d lines =
    gather (expand_section (define_all (at_signals d) x.definitions)) lines >>= λ ss. Done (whole x.strict (section ss))

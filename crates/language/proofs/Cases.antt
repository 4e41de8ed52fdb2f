-- How a case is written: texts around their lines, and what the definitions make of them.
pub mod Every
pub mod Starred
pub mod Slips
pub mod Buffers
use Rattle.std.specs.Prelude.{ℕ, zero, suc, ◌+◌, ◌*◌, ◌/◌, ◌%◌, List, [], ◌∷◌, ◌++◌, length}
use Prim.Native.String.{String}
use Rattle.node.specs.Ltl.{Formula, True, False, Signal, One, Two, Not, G, And, Implies, W}
use Rattle.node.specs.Result.{Result, Done, ◌>>=◌}
use Rattle.node.specs.Written.{count}
use Rattle.language.specs.Bytes.{ascii}
use Rattle.language.specs.Reading.{NumberedFormula, text_expansion, reading}

-- the INFO section of document 01's file
abbrev pub front : List ℕ
front = ascii "INFO { TITLE: \"t\" DESCRIPTION: \"d\" SEMANTICS: Mealy TARGET: Mealy } "

-- GLOBAL and MAIN behind that section
abbrev pub text : List ℕ → List ℕ
text s = front ++ s

-- lines of GUARANTEE, where a, b, c are the signals 0, 1, 2, the bits of v 3, 4, 5, and g is 6
abbrev pub line : List ℕ → List ℕ
line s = text (ascii "MAIN { INPUTS { a; b; c; v[3]; } OUTPUTS { g; } GUARANTEE { " ++ s ++ ascii " } }")

-- lines of GUARANTEE, where a is 0, the bits of v are 1, 2, 3, those of w 4, 5, and those of x, which is declared by the enumeration e, 6, 7, 8
abbrev pub typed : List ℕ → List ℕ
typed s =
    text (ascii "GLOBAL { DEFINITIONS { enum e = P: 1*0 Q: 0**, 111; } } MAIN { INPUTS { a; v[3]; w[2]; } OUTPUTS { e x; } GUARANTEE { " ++ s ++ ascii " } }")

-- n times the same bytes
abbrev pub repeated : ℕ → String → List ℕ
repeated zero s = []
repeated (suc n) s = ascii s ++ repeated n s

-- n signals of two letters each, from `aa` on, with `;` behind each
abbrev pub lettered_from : ℕ → ℕ → List ℕ
lettered_from i zero = []
lettered_from i (suc n) = (97 + i / 26) ∷ (97 + i % 26) ∷ 59 ∷ lettered_from (suc i) n

abbrev pub lettered : ℕ → List ℕ
lettered n = lettered_from 0 n

-- how many nodes and signals an accepted text has
abbrev pub counted : Result NumberedFormula → Result (ℕ × ℕ)
counted r = r >>= λ c. Done (count c.formula, length c.signals)

abbrev pub outcome : List ℕ → Result (ℕ × ℕ)
outcome s = counted (text_expansion s)

-- its formula
abbrev pub formula : List ℕ → Result Formula
formula s = text_expansion s >>= λ c. Done c.formula

-- its signal list
abbrev pub signals : List ℕ → Result (List ℕ)
signals s = text_expansion s >>= λ c. Done c.signals

-- a signal list entry: output flag, offset of the name, index, width
abbrev pub entry : ℕ → ℕ → ℕ → ℕ → ℕ
entry output offset index width = output * 2_147_483_648 + offset * 65_536 + index * 256 + width

-- lines folded to the left
abbrev pub onward : Formula → List Formula → Formula
onward f [] = f
onward f (h ∷ hs) = onward (Two And f h) hs

abbrev pub all_of : List Formula → Formula
all_of [] = True
all_of (f ∷ fs) = onward f fs

-- 'I -> (P && ((G R && S) -> (G A && U)))', its parts in the order I, P, R, A, S, U
abbrev pub standard : (i p r a s u : Formula) → Formula
standard i p r a s u = Two Implies i (Two And p (Two Implies (Two And (One G r) s) (Two And (One G a) u)))

-- 'I -> ((P && (A W !R)) && ((G R && S) -> U))'
abbrev pub strict : (i p r a s u : Formula) → Formula
strict i p r a s u = Two Implies i (Two And (Two And p (Two W a (One Not r))) (Two Implies (Two And (One G r) s) u))

-- the second operand of a formula; a formula without one is itself
abbrev pub second : Formula → Formula
second True = True
second False = False
second (Signal k) = Signal k
second (One o f) = One o f
second (Two o f h) = h

-- what the lines of GUARANTEE give in I -> (P && ((G R && S) -> (G A && U)))
abbrev pub guaranteed : List ℕ → Result Formula
guaranteed s = text_expansion s >>= λ c. Done (second (second (second (second c.formula))))

-- the outcome on buffers of these lengths for work, nodes and signals
abbrev pub lent : List ℕ → ℕ → ℕ → ℕ → Result (ℕ × ℕ)
lent s work nodes list = counted (reading s work nodes list)

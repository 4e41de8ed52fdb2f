-- Signals by number: their order, their list, 15, and the marks of enumerations' words (document 01, 'Expansion'). The expansion's side alone.
use Rattle.std.specs.Prelude.{ℕ, zero, suc, ◌+◌, max, Bool, true, false, not, ◌&&◌, List, [], ◌∷◌, ◌++◌, map, eqb, leb}
use Rattle.std.proofs.Math.Option.{Option, none, some}
use Rattle.node.specs.BitFields.{join}
use Rattle.language.specs.Limits.{max_signals, offset_bits, index_bits, width_bits}
use Rattle.language.specs.Bytes.{if◌then◌otherwise◌, same}
use Rattle.language.specs.Tokens.{Token}
use Rattle.language.specs.DeclaredNames.{Port, Declarations}

-- 'Signals number from 0, inputs first'
abbrev pub in_order : Declarations → List Port
in_order d = d.inputs ++ d.outputs

-- how many signals a name has
abbrev pub signals_of : Port → ℕ
signals_of p = max 1 p.width

-- '.. a bus taking consecutive numbers': a name's first signal has as many before it as the names before it have
abbrev pub first_of : List Port → List ℕ → ℕ
first_of [] x = 0
first_of (p ∷ ps) x = elim (same p.name.text x) [ true ↦ 0 | false ↦ signals_of p + first_of ps x ]

-- a field on top of three others, which have a, b and c bits
abbrev pub fields : (a b c : ℕ) → ℕ → ℕ → ℕ → ℕ → ℕ
fields a b c top x y z = join c (join b (join a top x) y) z

-- 'A signal list entry is 32 bits: 1 output flag, 15 offset of the name, 8 index in the bus, 8 width (index and width 0 for a single signal)'
abbrev pub entry : Bool → ℕ → ℕ → ℕ → ℕ
entry output offset index width = fields offset_bits index_bits width_bits (if output then 1 otherwise 0) offset index width

-- the entries of n signals of a name, from index i on
abbrev pub entries : Port → ℕ → ℕ → List ℕ
entries p zero i = []
entries p (suc n) i = entry p.output p.name.at i p.width ∷ entries p n (suc i)

abbrev pub signal_list : List Port → List ℕ
signal_list [] = []
signal_list (p ∷ ps) = entries p (signals_of p) 0 ++ signal_list ps

-- 'too many signals': the declared name with which n signals and its own pass 255
abbrev pub too_many_signals : ℕ → List Port → Option ℕ
too_many_signals n [] = none
too_many_signals n (p ∷ ps) = elim (leb (n + signals_of p) max_signals) [ true ↦ too_many_signals (n + signals_of p) ps | false ↦ some p.name.at ]

-- a mark of an enumeration's word: `0`, `1`, `*`
pub data Mark : Type 0 where
  Absent Present Star : Mark

abbrev pub mark_of : ℕ → Mark
mark_of b = if eqb b 48 then Absent otherwise (if eqb b 49 then Present otherwise Star)

abbrev pub marks_of : Token → List Mark
marks_of t = map mark_of t.text

-- the rests of the words that begin with a mark for b
abbrev pub admits : Bool → Mark → Bool
admits b Absent = not b
admits b Present = b
admits b Star = true

abbrev pub after : Bool → List (List Mark) → List (List Mark)
after b [] = []
after b ([] ∷ vs) = after b vs
after b ((m ∷ v) ∷ vs) = elim (admits b m) [ true ↦ v ∷ after b vs | false ↦ after b vs ]

-- do the words name every valuation of n bits?
abbrev pub covered : ℕ → List (List Mark) → Bool
covered zero [] = false
covered zero (v ∷ vs) = true
covered (suc n) vs = covered n (after false vs) && covered n (after true vs)

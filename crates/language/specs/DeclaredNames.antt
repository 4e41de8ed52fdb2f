-- What the declared names stand for: parameters' numbers, identifiers' words, and the widths of buses, each worked out at its turn (document 01, 'Accepted
-- text'; refusal 13).
use Rattle.std.specs.Prelude.{ℕ, zero, suc, Bool, true, false, ◌&&◌, List, [], ◌∷◌, ◌++◌, leb, length}
use Rattle.node.specs.Result.{Result, Done, Refused, ◌>>=◌, guard}
use Rattle.language.specs.Limits.{max_width}
use Rattle.language.specs.Bytes.{same}
use Rattle.language.specs.Tokens.{Token}
use Rattle.language.specs.Tree.{Identifier, Definition, Defined, Enumerated, Parameter, Declaration, OneSignal, OfWidth, OfType, Subsection, Inputs, Outputs, Lines, Spec}
use Rattle.language.specs.Words.{words_in}
use Rattle.language.specs.Values.{Value, Number, Logic, Bus, Unsized, Choice, Scope, naming, number, value}

-- what a name is declared to be: a parameter; a single signal; a bus with its width; an enumeration's identifier with its words; a bus before its turn
pub data Declared : Type 0 where
  Constant : ℕ → Declared
  Single : Declared
  BusOf : (width : ℕ) → Declared
  Identifies : List Token → Declared
  WaitingBus : Declared

-- the declared names by their bytes
abbrev pub Table : Type 0
Table = List (List ℕ × Declared)

abbrev pub find : Table → List ℕ → Result Declared
find [] x = Refused 6 0
find (d ∷ ds) x = elim (same d.0 x) [ true ↦ Done d.1 | false ↦ find ds x ]

-- the value of a name that stands somewhere
abbrev pub value_at : Token → Declared → Value
value_at t (Constant n) = Number n
value_at t Single = Logic
value_at t (BusOf n) = Bus t.at t.text n
value_at t (Identifies v) = Choice v
value_at t WaitingBus = Unsized t.at

abbrev pub declared : Table → Scope
declared d t = find d t.text >>= λ x. Done (value_at t x)

-- 'A definition is worked out at each use': a name stands for its body's value, in terms of the names before it
abbrev pub defining : Scope → List Definition → Scope
defining sc [] = sc
defining sc (Defined x e ∷ ds) = defining (naming x (value sc e) sc) ds
defining sc (Enumerated x is ∷ ds) = defining sc ds

-- the identifiers of all enumerations
abbrev pub identified : List Identifier → Table
identified [] = []
identified (i ∷ is) = (i.name.text, Identifies i.words) ∷ identified is

abbrev pub identifiers : List Definition → Table
identifiers [] = []
identifiers (Defined x e ∷ ds) = identifiers ds
identifiers (Enumerated x is ∷ ds) = identified is ++ identifiers ds

-- all words of the enumeration that a bus is declared by, in the text's order
abbrev pub words_of_type : List Definition → Token → List Token
words_of_type [] u = []
words_of_type (Defined x e ∷ ds) u = words_of_type ds u
words_of_type (Enumerated x is ∷ ds) u = elim (same x.text u.text) [ true ↦ words_in is | false ↦ words_of_type ds u ]

-- 'A bus specified via an enumeration type has the same width as the valuations'
abbrev pub word_width : List Token → ℕ
word_width [] = 0
word_width (v ∷ vs) = length v.text

-- a signal or a bus at its turn: its name; is it an output? its width, 0 for a single signal; the words of its enumeration, none for others
pub record Port : Type 0 where
  pub name : Token
  pub output : Bool
  pub width : ℕ
  pub words : List Token

-- 'width 0 or over 255' is 13 at the declared name
abbrev pub sized : Token → ℕ → Result ℕ
sized x n = guard (leb 1 n && leb n max_width) 13 x.at (Done n)

abbrev pub port_of : List Definition → Bool → Table → Declaration → Result Port
port_of defs output d (OneSignal x) = Done (record { name = x; output = output; width = 0; words = [] })
port_of defs output d (OfWidth x e) =
    value (defining (declared d) defs) e >>= number >>= sized x >>= λ n. Done (record { name = x; output = output; width = n; words = [] })
port_of defs output d (OfType u x) =
    let words = words_of_type defs u in
    sized x (word_width words) >>= λ n. Done (record { name = x; output = output; width = n; words = words })

-- what a name stands for after its turn
abbrev pub as_declared : ℕ → Declared
as_declared zero = Single
as_declared (suc n) = BusOf (suc n)

-- the names after some turns, and the ports of these turns
pub record Turns : Type 0 where
  pub table : Table
  pub ports : List Port

-- 'every bus, by enumeration too, is sized at its own turn'
abbrev pub turns : List Definition → Bool → List Declaration → Table → Result Turns
turns defs output [] d = Done (record { table = d; ports = [] })
turns defs output (x ∷ xs) d =
    port_of defs output d x >>= λ p. turns defs output xs ((p.name.text, as_declared p.width) ∷ d) >>= λ s.
    Done (record { table = s.table; ports = p ∷ s.ports })

-- signals and buses before their turn
abbrev pub waiting : List Declaration → Table → Table
waiting [] d = d
waiting (OneSignal x ∷ ds) d = (x.text, Single) ∷ waiting ds d
waiting (OfWidth x e ∷ ds) d = (x.text, WaitingBus) ∷ waiting ds d
waiting (OfType u x ∷ ds) d = (x.text, WaitingBus) ∷ waiting ds d

-- parameters, in order
abbrev pub constants : List Parameter → Table → Result Table
constants [] d = Done d
constants (x ∷ xs) d = value (declared d) x.value >>= number >>= λ n. constants xs ((x.name.text, Constant n) ∷ d)

-- the declarations of INPUTS and of OUTPUTS
abbrev pub inputs : List Subsection → List Declaration
inputs [] = []
inputs (Inputs ds ∷ ss) = ds ++ inputs ss
inputs (Outputs ds ∷ ss) = inputs ss
inputs (Lines p es ∷ ss) = inputs ss

abbrev pub outputs : List Subsection → List Declaration
outputs [] = []
outputs (Inputs ds ∷ ss) = outputs ss
outputs (Outputs ds ∷ ss) = ds ++ outputs ss
outputs (Lines p es ∷ ss) = outputs ss

-- all that is declared, worked out
pub record Declarations : Type 0 where
  pub table : Table
  pub inputs : List Port
  pub outputs : List Port

-- 'Everything is evaluated ..: parameters, widths of inputs then outputs'
abbrev pub declarations : Spec → Result Declarations
declarations x =
    let ins = inputs x.main in
    let outs = outputs x.main in
    constants x.parameters (waiting ins (waiting outs (identifiers x.definitions))) >>= λ d.
    turns x.definitions false ins d >>= λ i. turns x.definitions true outs i.table >>= λ o.
    Done (record { table = o.table; inputs = i.ports; outputs = o.ports })

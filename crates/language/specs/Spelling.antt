-- Which operator a token spells, by Table 1.
use Rattle.std.specs.Prelude.{Bool, true, false, [], ◌∷◌, ◌≡◌}
use Rattle.std.proofs.Math.Option.{Option, none, some}
use Rattle.node.specs.Operators.{X, F, G}
use Rattle.language.specs.Tokens.{Token, is}
use Rattle.language.specs.Operators.{Prefix, Infix, Window, FinallyIn, GloballyIn, Size, Measures, Applies, Role, Plain, Counted, Windowed, Folding, Big, InfixRow, infixes, PrefixRow, prefixes}
use Rattle.language.specs.Grammar.{named, infix_of, prefix_of}

-- between operands
abbrev pub infix_in : Option InfixRow → Option Infix
infix_in none = none
infix_in (some r) = some r.operator

abbrev pub SpellsInfix : Token → Infix → Type 0
SpellsInfix t o = infix_in (infix_of infixes t) ≡ some o

-- before an operand, with no brackets behind it; a bar is the size of a set
abbrev pub prefix_in : Role → Option Prefix
prefix_in (Plain p) = some p
prefix_in Counted = some (Applies X)
prefix_in (Windowed FinallyIn) = some (Applies F)
prefix_in (Windowed GloballyIn) = some (Applies G)
prefix_in (Folding o) = none

abbrev pub prefix_by : Option PrefixRow → Token → Option Prefix
prefix_by (some r) t = prefix_in r.role
prefix_by none t = elim (is "|" t) [ true ↦ some (Measures Size) | false ↦ none ]

abbrev pub SpellsPrefix : Token → Prefix → Type 0
SpellsPrefix t o = prefix_by (prefix_of prefixes t) t ≡ some o

-- before brackets
abbrev pub window_in : Role → Option Window
window_in (Plain p) = none
window_in Counted = none
window_in (Windowed o) = some o
window_in (Folding o) = none

abbrev pub window_by : Option PrefixRow → Option Window
window_by none = none
window_by (some r) = window_in r.role

abbrev pub SpellsWindow : Token → Window → Type 0
SpellsWindow t o = window_by (prefix_of prefixes t) ≡ some o

abbrev pub big_in : Role → Option Big
big_in (Plain p) = none
big_in Counted = none
big_in (Windowed o) = none
big_in (Folding o) = some o

abbrev pub big_by : Option PrefixRow → Option Big
big_by none = none
big_by (some r) = big_in r.role

abbrev pub SpellsBig : Token → Big → Type 0
SpellsBig t o = big_by (prefix_of prefixes t) ≡ some o

-- true or false; a bound's sign that leaves the bound out
abbrev pub SpellsTruth : Token → Bool → Type 0
SpellsTruth t b = b ≡ is "true" t

abbrev pub SpellsSign : Token → Bool → Type 0
SpellsSign t b = b ≡ named ("<" ∷ "LE" ∷ []) t

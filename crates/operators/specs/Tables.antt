-- Table 1's rows by the numbers of tokens, packed into words as the code has them.
use Rattle.std.specs.Prelude.{ℕ, List, [], ◌∷◌, true, false}
use Prim.Native.String.{String}
use Rattle.std.proofs.Math.Option.{Option, none, some}
use Rattle.language.specs.Operators.{Role, Plain, Counted, Windowed, Folding, InfixRow, infixes, PrefixRow, prefixes}
use Rattle.language.specs.Grammar.{right_level}
use Rattle.lexer.specs.Numbers.{numbered}
use Rattle.entries.specs.Kinds as Kind
use Rattle.operators.specs.Readers.{sole_of}
use Rattle.operators.specs.Codes.{infix_code, role_code}
use Rattle.operators.specs.Fields.{pack_infix, pack_prefix, infix_field, prefix_field, plain_role, counted_role, windowed_role, folding_role}

-- the first row that has a token of this number among its names
abbrev pub row_by : {R : Type 0} → (R → List String) → List R → ℕ → Option R
row_by names [] n = none
row_by names (r ∷ rs) n = elim (numbered (names r) n) [ true ↦ some r | false ↦ row_by names rs n ]

abbrev pub infix_by : ℕ → Option InfixRow
infix_by n = row_by (λ (r : InfixRow). r.names) infixes n

abbrev pub prefix_by : ℕ → Option PrefixRow
prefix_by n = row_by (λ (r : PrefixRow). r.names) prefixes n

abbrev pub infix_word : Option InfixRow → ℕ
infix_word none = 0
infix_word (some r) = pack_infix (infix_code r.operator) (Kind.joining r.operator) (right_level r) r.level

abbrev pub role_number : Role → ℕ
role_number (Plain p) = plain_role
role_number Counted = counted_role
role_number (Windowed o) = windowed_role
role_number (Folding o) = folding_role

-- the kind of the entry with a count or a window; without, or of the big operator
abbrev pub window_kind : Role → ℕ
window_kind (Plain p) = 0
window_kind Counted = Kind.nexts
window_kind (Windowed o) = Kind.window
window_kind (Folding o) = 0

abbrev pub sole_kind : Role → ℕ
sole_kind (Plain p) = Kind.before p
sole_kind Counted = Kind.before (sole_of Counted)
sole_kind (Windowed o) = Kind.before (sole_of (Windowed o))
sole_kind (Folding o) = Kind.big o

abbrev pub prefix_word : Option PrefixRow → ℕ
prefix_word none = 0
prefix_word (some r) = pack_prefix (role_code r.role) (window_kind r.role) (sole_kind r.role) (role_number r.role) r.level

unfoldable pub infix_at : ℕ → ℕ
infix_at n = infix_word (infix_by n)

unfoldable pub prefix_at : ℕ → ℕ
prefix_at n = prefix_word (prefix_by n)

-- the codes alone
abbrev pub infix_code_at : ℕ → ℕ
infix_code_at n = infix_field (infix_at n)

abbrev pub prefix_code_at : ℕ → ℕ
prefix_code_at n = prefix_field (prefix_at n)

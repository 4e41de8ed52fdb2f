-- MAIN's subsections by the numbers of their words.
use Rattle.std.specs.Prelude.{ℕ, zero, suc, ◌+◌, List, [], ◌∷◌, Bool, true, false, ◌&&◌, ◌≡◌}
use Rattle.std.proofs.Math.Option.{Option, none, some}
use Rattle.node.specs.Result.{Done, ◌>>=◌}
use Rattle.language.specs.Tree.{part_code, Subsection}
use Rattle.language.specs.Grammar.{Tokens, Read, rest, stop, expect}
use Rattle.language.specs.Sections.{Heading, InputsHere, OutputsHere, LinesHere, HeadingRow, headings, subsection_of}
use Rattle.lexer.specs.Numbers.{numbered}
use Rattle.entries.specs.Headings as Heading
use Rattle.entries.specs.Flat.{each, flat_subsection}
use Rattle.entries.specs.declared.Cursor.{Cursor}
use Rattle.entries.specs.Parse.{Parse}
use Rattle.entries.specs.Reads.{Parses}

-- the row of a word, by the word's number
abbrev pub row_of : List HeadingRow → ℕ → Option HeadingRow
row_of [] k = none
row_of (r ∷ rs) k = elim (numbered r.names k) [ true ↦ some r | false ↦ row_of rs k ]

-- the number of a row, if there is one
abbrev pub row_number : Option HeadingRow → ℕ
row_number none = Heading.no_heading
row_number (some r) = r.number

-- the subsection whose word has the number k
unfoldable pub heading_number : ℕ → ℕ
heading_number k = row_number (row_of headings k)

-- the number under which a subsection's entry stands
abbrev pub heading_code : Heading → ℕ
heading_code InputsHere = Heading.inputs
heading_code OutputsHere = Heading.outputs
heading_code (LinesHere p) = Heading.first_part + part_code p

-- subsection n from its word on
abbrev pub ReadsSubsection : ℕ → List ℕ → List ℕ → Cursor → Parse → Type 0
ReadsSubsection n w v c r = (h : Heading) → heading_code h ≡ n → Parses (λ ts. subsection_of h (rest ts)) flat_subsection w v c r

-- the end of MAIN, if INPUTS and OUTPUTS have stood
abbrev pub end_of : Bool → Tokens → Read (List Subsection)
end_of complete ts = elim complete [ true ↦ expect "}" ts >>= λ (c, ts). Done ([], ts) | false ↦ stop ts ]

-- by two marks, 0 for a subsection that has not stood
abbrev pub marked : ℕ → Bool
marked zero = false
marked (suc n) = true

abbrev pub ReadsEnd : ℕ → ℕ → List ℕ → Cursor → Parse → Type 0
ReadsEnd inputs outputs w c r = Parses (end_of (marked inputs && marked outputs)) (each flat_subsection) w w c r

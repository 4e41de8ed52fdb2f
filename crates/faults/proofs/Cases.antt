-- Lines named and not named, and the refusals in their order, by computing.
use Rattle.std.specs.Prelude.{ℕ, List, [], ◌∷◌, ◌++◌, ◌≡◌, refl}
use Prim.Native.String.{String}
use Rattle.node.specs.Postorder.{size, nodes_from}
use Rattle.node.specs.Result.{Result, Done, Refused, ◌>>=◌, guard}
use Rattle.node.specs.Table.{tree_at, formulas, scanned, checked}
use Rattle.node.specs.Written.{nodes_of, count}
use Rattle.bits.specs.Bits.{bit_at, number}
use Rattle.recordings.specs.Limits.{told}
use Rattle.recordings.specs.Recording.{blank, filled, readable}
use Rattle.recordings.specs.Lasso.{next}
use Rattle.rows.specs.Row.{sweep_from, around, row}
use Rattle.evaluator.specs.Evaluation.{evaluation, verdict_of}
use Rattle.language.specs.Bytes.{ascii}
use Rattle.language.specs.Places.{refuse_at}
use Rattle.language.specs.Parsing.{parsed}
use Rattle.language.specs.Reading.{text_expansion, spec_expansion}
use Rattle.language.specs.Tree.{Preset, Assert, Guarantee}
use Rattle.faults.specs.Naming.{Finding, NoFault, FaultIn, first_false, all_true, broken_from, line_named}
use Rattle.faults.specs.Diagnosing.{lined, diagnosing}

-- what is found of a text with these models on 2 positions, the second of which repeats, of so many signals
abbrev found : String → String → ℕ → List ℕ → Result Finding
found models main signals letters =
    diagnosing (ascii "INFO { TITLE: \"t\" DESCRIPTION: \"d\" SEMANTICS: " ++ ascii models ++ ascii " } " ++ ascii main) (0x00 ∷ 0x20 ∷ 0x01 ∷ signals ∷ letters) 65536 64

-- two lines in each section: of r and g, the bits of a letter
abbrev each : List ℕ → Result Finding
each = found "Mealy TARGET: Mealy" "MAIN { INPUTS { r; } OUTPUTS { g; } PRESET { true; g; } ASSERT { r -> g; g || r; } GUARANTEE { F g; G r; } }" 2

all_hold : each (0xf0 ∷ []) ≡ Done NoFault
unfolding diagnosing lined line_named first_false all_true broken_from text_expansion parsed spec_expansion refuse_at count size nodes_of nodes_from verdict_of evaluation ◌>>=◌ guard checked scanned readable filled blank tree_at
    formulas number bit_at next sweep_from around row
all_hold = refl

-- PRESET before ASSERT, which is broken too
second_of-preset : each (0xb0 ∷ []) ≡ Done (FaultIn Preset 2)
unfolding diagnosing lined line_named first_false all_true broken_from text_expansion parsed spec_expansion refuse_at count size nodes_of nodes_from verdict_of evaluation ◌>>=◌ guard checked scanned readable filled blank tree_at
    formulas number bit_at next sweep_from around row
second_of-preset = refl

-- broken in the loop alone; before GUARANTEE, which is false too
second_of-assert : each (0x40 ∷ []) ≡ Done (FaultIn Assert 2)
unfolding diagnosing lined line_named first_false all_true broken_from text_expansion parsed spec_expansion refuse_at count size nodes_of nodes_from verdict_of evaluation ◌>>=◌ guard checked scanned readable filled blank tree_at
    formulas number bit_at next sweep_from around row
second_of-assert = refl

first_of-assert : each (0xe0 ∷ []) ≡ Done (FaultIn Assert 1)
unfolding diagnosing lined line_named first_false all_true broken_from text_expansion parsed spec_expansion refuse_at count size nodes_of nodes_from verdict_of evaluation ◌>>=◌ guard checked scanned readable filled blank tree_at
    formulas number bit_at next sweep_from around row
first_of-assert = refl

second_of_guarantee : each (0x50 ∷ []) ≡ Done (FaultIn Guarantee 2)
unfolding diagnosing lined line_named first_false all_true broken_from text_expansion parsed spec_expansion refuse_at count size nodes_of nodes_from verdict_of evaluation ◌>>=◌ guard checked scanned readable filled blank tree_at
    formulas number bit_at next sweep_from around row
second_of_guarantee = refl

-- REQUIRE and ASSUME before ASSERT, in both semantics
abbrev standard : List ℕ → Result Finding
standard = found "Mealy TARGET: Mealy" "MAIN { INPUTS { r; } OUTPUTS { g; } INITIALLY { !g; } REQUIRE { r; } ASSUME { F g; } ASSERT { true; g; } }" 2

abbrev strict : List ℕ → Result Finding
strict = found "Mealy,Strict TARGET: Mealy" "MAIN { INPUTS { r; } OUTPUTS { g; } INITIALLY { !g; } REQUIRE { r; } ASSUME { F g; } ASSERT { true; g; } }" 2

broken : standard (0xb0 ∷ []) ≡ Done (FaultIn Assert 2)
unfolding diagnosing lined line_named first_false all_true broken_from text_expansion parsed spec_expansion refuse_at count size nodes_of nodes_from verdict_of evaluation ◌>>=◌ guard checked scanned readable filled blank tree_at
    formulas number bit_at next sweep_from around row
broken = refl

-- 'A recording that holds yields "holds"': INITIALLY fails, ASSUME fails, REQUIRE is broken after ASSERT
initially_fails : standard (0xe0 ∷ []) ≡ Done NoFault
unfolding diagnosing lined line_named first_false all_true broken_from text_expansion parsed spec_expansion refuse_at count size nodes_of nodes_from verdict_of evaluation ◌>>=◌ guard checked scanned readable filled blank tree_at
    formulas number bit_at next sweep_from around row
initially_fails = refl

assume_fails : standard (0xa0 ∷ []) ≡ Done NoFault
unfolding diagnosing lined line_named first_false all_true broken_from text_expansion parsed spec_expansion refuse_at count size nodes_of nodes_from verdict_of evaluation ◌>>=◌ guard checked scanned readable filled blank tree_at
    formulas number bit_at next sweep_from around row
assume_fails = refl

require_broken_later : standard (0x90 ∷ []) ≡ Done NoFault
unfolding diagnosing lined line_named first_false all_true broken_from text_expansion parsed spec_expansion refuse_at count size nodes_of nodes_from verdict_of evaluation ◌>>=◌ guard checked scanned readable filled blank tree_at
    formulas number bit_at next sweep_from around row
require_broken_later = refl

-- strict: ASSERT is owed without ASSUME, and up to a break of REQUIRE
strict_assume_fails : strict (0xa0 ∷ []) ≡ Done (FaultIn Assert 2)
unfolding diagnosing lined line_named first_false all_true broken_from text_expansion parsed spec_expansion refuse_at count size nodes_of nodes_from verdict_of evaluation ◌>>=◌ guard checked scanned readable filled blank tree_at
    formulas number bit_at next sweep_from around row
strict_assume_fails = refl

strict-require_broken_later : strict (0x90 ∷ []) ≡ Done (FaultIn Assert 2)
unfolding diagnosing lined line_named first_false all_true broken_from text_expansion parsed spec_expansion refuse_at count size nodes_of nodes_from verdict_of evaluation ◌>>=◌ guard checked scanned readable filled blank tree_at
    formulas number bit_at next sweep_from around row
strict-require_broken_later = refl

strict-require_broken_before : strict (0x10 ∷ []) ≡ Done NoFault
unfolding diagnosing lined line_named first_false all_true broken_from text_expansion parsed spec_expansion refuse_at count size nodes_of nodes_from verdict_of evaluation ◌>>=◌ guard checked scanned readable filled blank tree_at
    formulas number bit_at next sweep_from around row
strict-require_broken_before = refl

-- 'implied ones after the written': x is P at 0, and no value at 1
implied-behind-written : found "Mealy TARGET: Mealy" "GLOBAL { DEFINITIONS { enum e = P: 10 Q: 01; } } MAIN { INPUTS { r; } OUTPUTS { e x; } ASSERT { r; } }" 3 (0xd0 ∷ []) ≡ Done (FaultIn Assert 2)
unfolding diagnosing lined line_named first_false all_true broken_from text_expansion parsed spec_expansion refuse_at count size nodes_of nodes_from verdict_of evaluation ◌>>=◌ guard checked scanned readable filled blank tree_at
    formulas number bit_at next sweep_from around row
implied-behind-written = refl

-- a converted file's lines have their X
shifted-line : found "Mealy TARGET: Moore" "MAIN { INPUTS { r; } OUTPUTS { g; } ASSERT { r; g; } }" 2 (0xb0 ∷ []) ≡ Done NoFault
unfolding diagnosing lined line_named first_false all_true broken_from text_expansion parsed spec_expansion refuse_at count size nodes_of nodes_from verdict_of evaluation ◌>>=◌ guard checked scanned readable filled blank tree_at
    formulas number bit_at next sweep_from around row
shifted-line = refl

unshifted_line : found "Mealy TARGET: Mealy" "MAIN { INPUTS { r; } OUTPUTS { g; } ASSERT { r; g; } }" 2 (0xb0 ∷ []) ≡ Done (FaultIn Assert 2)
unfolding diagnosing lined line_named first_false all_true broken_from text_expansion parsed spec_expansion refuse_at count size nodes_of nodes_from verdict_of evaluation ◌>>=◌ guard checked scanned readable filled blank tree_at
    formulas number bit_at next sweep_from around row
unshifted_line = refl

-- 17, then the text's, then the recording's
work_first : diagnosing [] [] 65535 0 ≡ Refused 17 0
unfolding diagnosing lined line_named first_false all_true broken_from text_expansion parsed spec_expansion refuse_at count size nodes_of nodes_from verdict_of evaluation ◌>>=◌ guard checked scanned readable filled blank tree_at
    formulas number bit_at next sweep_from around row
work_first = refl

text-next : diagnosing [] [] 65536 0 ≡ Refused 4 0
unfolding diagnosing lined line_named first_false all_true broken_from text_expansion parsed spec_expansion refuse_at count size nodes_of nodes_from verdict_of evaluation ◌>>=◌ guard checked scanned readable filled blank tree_at
    formulas number bit_at next sweep_from around row
text-next = refl

recording_next : found "Mealy TARGET: Mealy" "MAIN { INPUTS { r; } OUTPUTS { g; } }" 2 [] ≡ Refused 20 4
unfolding diagnosing lined line_named first_false all_true broken_from text_expansion parsed spec_expansion refuse_at count size nodes_of nodes_from verdict_of evaluation ◌>>=◌ guard checked scanned readable filled blank told tree_at
    formulas number bit_at next
recording_next = refl

-- 18 last: 13 nodes of one byte each
rows_enough : diagnosing (ascii "INFO { TITLE: \"t\" DESCRIPTION: \"d\" SEMANTICS: Mealy TARGET: Mealy } MAIN { INPUTS { r; } OUTPUTS { g; } }") (0x00 ∷ 0x20 ∷ 0x01 ∷ 2 ∷ 0 ∷ []) 65536 13 ≡ Done
    NoFault
unfolding diagnosing lined line_named first_false all_true broken_from text_expansion parsed spec_expansion refuse_at count size nodes_of nodes_from verdict_of evaluation ◌>>=◌ guard checked scanned readable filled blank tree_at
    formulas number bit_at next sweep_from around row
rows_enough = refl

rows_short : diagnosing (ascii "INFO { TITLE: \"t\" DESCRIPTION: \"d\" SEMANTICS: Mealy TARGET: Mealy } MAIN { INPUTS { r; } OUTPUTS { g; } }") (0x00 ∷ 0x20 ∷ 0x01 ∷ 2 ∷ 0 ∷ []) 65536 12 ≡ Refused 18
    0
unfolding diagnosing lined line_named first_false all_true broken_from text_expansion parsed spec_expansion refuse_at count size nodes_of nodes_from verdict_of evaluation ◌>>=◌ guard checked scanned readable filled blank tree_at
    formulas number bit_at next sweep_from around row
rows_short = refl

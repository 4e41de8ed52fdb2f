-- Document 01's marked recordings on its file, and the refusals in their order, by computing.
use Rattle.std.specs.Prelude.{ℕ, true, false, List, [], ◌∷◌, ◌≡◌, refl}
use Rattle.node.specs.Postorder.{size, nodes_from}
use Rattle.node.specs.Result.{Done, Refused, ◌>>=◌, guard}
use Rattle.node.specs.Table.{tree_at, formulas, scanned, checked}
use Rattle.node.specs.Written.{nodes_of, count}
use Rattle.bits.specs.Bits.{bit_at, number}
use Rattle.recordings.specs.Limits.{told}
use Rattle.recordings.specs.Recording.{blank, filled, readable}
use Rattle.recordings.specs.Lasso.{next}
use Rattle.rows.specs.Row.{sweep_from, around, row}
use Rattle.evaluator.specs.Evaluation.{evaluation, verdict_of}
use Rattle.language.specs.Bytes.{ascii}
use Rattle.language.specs.Places.{refuse_at}
use Rattle.language.specs.Parsing.{parsed}
use Rattle.language.specs.Reading.{text_expansion, spec_expansion}
use Rattle.language.proofs.Cases.{text}
use Rattle.judging.specs.Judging.{judging}

-- 'One file in full'
abbrev file : List ℕ
file = text (ascii "MAIN { INPUTS { r; } OUTPUTS { g; } GUARANTEE { G (r -> F g); } }")

-- '★ recording 00 30 01 02 90 (hexadecimal) on it holds; ★ 00 30 01 02 80 fails'
marked_holds : judging file (0x00 ∷ 0x30 ∷ 0x01 ∷ 0x02 ∷ 0x90 ∷ []) 65536 ≡ Done true
unfolding judging text_expansion parsed spec_expansion refuse_at count size nodes_of nodes_from verdict_of evaluation ◌>>=◌ guard checked scanned readable filled blank told tree_at formulas number bit_at next sweep_from around row
marked_holds = refl

marked_fails : judging file (0x00 ∷ 0x30 ∷ 0x01 ∷ 0x02 ∷ 0x80 ∷ []) 65536 ≡ Done false
unfolding judging text_expansion parsed spec_expansion refuse_at count size nodes_of nodes_from verdict_of evaluation ◌>>=◌ guard checked scanned readable filled blank told tree_at formulas number bit_at next sweep_from around row
marked_fails = refl

-- 17, then the text's, then the recording's: too short, more signals than the text has, too long, a spare bit
work_first : judging [] [] 65535 ≡ Refused 17 0
unfolding judging guard
work_first = refl

text-next : judging [] [] 65536 ≡ Refused 4 0
unfolding judging text_expansion parsed ◌>>=◌ guard refuse_at
text-next = refl

recording_short : judging file (0x00 ∷ 0x30 ∷ 0x01 ∷ []) 65536 ≡ Refused 20 3
unfolding judging text_expansion parsed spec_expansion refuse_at count size nodes_of nodes_from verdict_of evaluation ◌>>=◌ guard checked scanned readable filled blank told number bit_at
recording_short = refl

signals_unknown : judging file (0x00 ∷ 0x30 ∷ 0x01 ∷ 0x03 ∷ 0x90 ∷ 0x00 ∷ []) 65536 ≡ Refused 20 0
unfolding judging text_expansion parsed spec_expansion refuse_at count size nodes_of nodes_from verdict_of evaluation ◌>>=◌ guard checked scanned readable filled blank told number bit_at
signals_unknown = refl

recording_long : judging file (0x00 ∷ 0x30 ∷ 0x01 ∷ 0x02 ∷ 0x91 ∷ 0x00 ∷ []) 65536 ≡ Refused 20 6
unfolding judging text_expansion parsed spec_expansion refuse_at count size nodes_of nodes_from verdict_of evaluation ◌>>=◌ guard checked scanned readable filled blank told number bit_at
recording_long = refl

spare-bit : judging file (0x00 ∷ 0x30 ∷ 0x01 ∷ 0x02 ∷ 0x91 ∷ []) 65536 ≡ Refused 20 4
unfolding judging text_expansion parsed spec_expansion refuse_at count size nodes_of nodes_from verdict_of evaluation ◌>>=◌ guard checked scanned readable filled blank told number bit_at
spare-bit = refl

-- document 02, F-5: a recording of one of the two signals is 23; what is wrong with it besides is 20, and goes first
signal-missing : judging file (0x00 ∷ 0x30 ∷ 0x01 ∷ 0x01 ∷ 0x80 ∷ []) 65536 ≡ Refused 23 0
unfolding judging text_expansion parsed spec_expansion refuse_at count size nodes_of nodes_from verdict_of evaluation ◌>>=◌ guard checked scanned readable filled blank told number bit_at
signal-missing = refl

signal-missing_long : judging file (0x00 ∷ 0x30 ∷ 0x01 ∷ 0x01 ∷ 0x80 ∷ 0x00 ∷ []) 65536 ≡ Refused 20 6
unfolding judging text_expansion parsed spec_expansion refuse_at count size nodes_of nodes_from verdict_of evaluation ◌>>=◌ guard checked scanned readable filled blank told number bit_at
signal-missing_long = refl

signal-missing-spare : judging file (0x00 ∷ 0x30 ∷ 0x01 ∷ 0x01 ∷ 0x81 ∷ []) 65536 ≡ Refused 20 4
unfolding judging text_expansion parsed spec_expansion refuse_at count size nodes_of nodes_from verdict_of evaluation ◌>>=◌ guard checked scanned readable filled blank told number bit_at
signal-missing-spare = refl

-- Document 01's marked recordings on the nodes of its one file: '★ recording 00 30 01 02 90 (hexadecimal) on it holds; ★ 00 30 01 02 80 fails'.
use Rattle.std.specs.Prelude.{ℕ, ◌≡◌, refl, Bool, true, false, List, [], ◌∷◌}
use Rattle.std.proofs.lemmas.Bool.{false≢true}
use Rattle.node.specs.Result.{Done, guard, ◌>>=◌}
use Rattle.node.specs.Fields.{pack}
use Rattle.node.specs.Table.{tree_at, formulas, scanned, checked, NodeHolds}
use Rattle.bits.specs.Bits.{bit_at, number}
use Rattle.recordings.specs.Recording.{blank, filled, readable}
use Rattle.recordings.specs.Lasso.{next, recorded}
use Rattle.rows.specs.Row.{sweep_from, around, row}
use Rattle.evaluator.specs.Evaluation.{evaluation, verdict_of}
use Rattle.evaluator.proofs.EvaluationLaws.{verdict_means}

-- the listing of 'One file in full', two signals
abbrev pub file : List ℕ
file =
    pack 0 0 0 ∷ pack 0 0 0 ∷ pack 0 0 0 ∷ pack 9 2 0 ∷ pack 0 0 0 ∷ pack 4 3 4 ∷ pack 0 0 0 ∷ pack 9 6 0 ∷ pack 2 0 0 ∷ pack 2 1 0 ∷ pack 10 9 0 ∷ pack 6 8 10 ∷ pack 9 11 0 ∷ pack 4 7 12 ∷ pack 6 5
    13 ∷ pack 4 1 14 ∷ pack 6 0 15 ∷ []

-- a recording, and what it is said to do on the file
pub record Marked : Type 0 where
  pub recording : List ℕ
  pub holds : Bool

abbrev pub marked : List Marked
marked =
    record { recording = 0x00 ∷ 0x30 ∷ 0x01 ∷ 0x02 ∷ 0x90 ∷ []; holds = true }
    ∷ record { recording = 0x00 ∷ 0x30 ∷ 0x01 ∷ 0x02 ∷ 0x80 ∷ []; holds = false }
    ∷ []

-- the definition gives the marked verdict for each, with a byte lent for each of the 17 rows
abbrev pub Met : List Marked → Type 0
Met [] = Unit {0}
Met (m ∷ ms) = (verdict_of file 2 m.recording 17 ≡ Done m.holds) × Met ms

pub marked-met : Met marked
unfolding verdict_of evaluation ◌>>=◌ guard checked scanned readable filled blank tree_at formulas number bit_at next sweep_from around row
marked-met = (refl, (refl, tt))

-- so the root holds at position 0 of the first recording's infinite word, and not of the second's
pub first_holds : NodeHolds file 16 (recorded (0x00 ∷ 0x30 ∷ 0x01 ∷ 0x02 ∷ 0x90 ∷ [])) 0
first_holds = (verdict_means file 2 (0x00 ∷ 0x30 ∷ 0x01 ∷ 0x02 ∷ 0x90 ∷ []) 17 marked-met.0).0 refl

pub second_fails : ¬ NodeHolds file 16 (recorded (0x00 ∷ 0x30 ∷ 0x01 ∷ 0x02 ∷ 0x80 ∷ [])) 0
second_fails h = false≢true ((verdict_means file 2 (0x00 ∷ 0x30 ∷ 0x01 ∷ 0x02 ∷ 0x80 ∷ []) 17 marked-met.1.0).1 h)

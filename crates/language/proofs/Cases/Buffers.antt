-- Lent work buffers of one byte too few, of just enough, and of one more ('work buffer short' is 17: '65,535 bytes'); result buffers on a text without lines.
use Rattle.std.specs.Prelude.{ℕ, ◌<◌, ◌≡◌, refl, List, [], ◌∷◌, length, drop, get_or, replicate}
use Rattle.std.proofs.Common.{arith}
use Rattle.node.specs.Fields.{pack}
use Rattle.node.specs.Postorder.{size, nodes_from}
use Rattle.node.specs.Result.{Done, Refused, ◌>>=◌, guard}
use Rattle.node.specs.Written.{nodes_of, count}
use Rattle.language.specs.Bytes.{ascii}
use Rattle.language.specs.Places.{refuse_at}
use Rattle.language.specs.Parsing.{parsed}
use Rattle.language.specs.Reading.{text_expansion, spec_expansion, reading, counts, nodes_after, signals_after, work_after}
use Rattle.language.proofs.Cases.{text, entry}
use Rattle.language.proofs.Laws.Buffers.{work_length, work_front_lem, work_beyond, work_short, short_refused}

module _ (s work : List ℕ) (nodes signals : ℕ) where
  one_short : length work ≡ 65_535 → (reading s (length work) nodes signals ≡ Refused 17 0) × (work_after work ≡ work)
  one_short e = (short_refused s (length work) nodes signals (omega arith), work_short work (omega arith))

  just_enough : length work ≡ 65_536 → ((i d : ℕ) → i < 65_536 → get_or (work_after work) i d ≡ 0) × (length (work_after work) ≡ 65_536)
  just_enough e = (work_front_lem work (omega arith), let same = work_length work in omega arith)

  one_more : length work ≡ 65_537 →
      ((i d : ℕ) → i < 65_536 → get_or (work_after work) i d ≡ 0) × ((d : ℕ) → get_or (work_after work) 65_536 d ≡ get_or work 65_536 d) × (length (work_after work) ≡ 65_537)
  one_more e = (work_front_lem work (omega arith), λ d. work_beyond work 65_536 d (omega arith), let same = work_length work in omega arith)

abbrev empty : List ℕ
empty = text (ascii "MAIN { INPUTS { r; } OUTPUTS { g; } }")

told : (text_expansion empty >>= λ c. Done (counts c)) ≡ Done (record { nodes = 13; signals = 2 })
unfolding text_expansion parsed spec_expansion ◌>>=◌ guard refuse_at count size
told = refl

nodes-left : drop 11 (nodes_after (text_expansion empty) (replicate 15 7)) ≡ pack 4 1 10 ∷ pack 6 0 11 ∷ 7 ∷ 7 ∷ []
unfolding text_expansion parsed spec_expansion ◌>>=◌ guard refuse_at count size nodes_of nodes_from
nodes-left = refl

signals-left : signals_after (text_expansion empty) (replicate 4 8) ≡ entry 0 84 0 0 ∷ entry 1 99 0 0 ∷ 8 ∷ 8 ∷ []
unfolding text_expansion parsed spec_expansion ◌>>=◌ guard refuse_at count size
signals-left = refl

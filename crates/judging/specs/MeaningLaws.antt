-- A word over the declared signals that has a recording's letters: there is one for every text. That a verdict is the text's own meaning in each of them is
-- faults/TextLaws `verdict-of-text`.
use Rattle.std.specs.Prelude.{ℕ, ◌≡◌, List}
use Rattle.node.specs.Result.{Done}
use Rattle.recordings.specs.Lasso.{recorded}
use Rattle.language.specs.Reading.{NumberedFormula, text_expansion}
use Rattle.language.proofs.Laws.Meaning.Acceptance.{text-once}
use Rattle.language.proofs.Laws.Meaning.ListedSignals.{unnumbered, numbered-back}
use Rattle.claim.specs.Claim.{Gives}

pub played : (text : List ℕ) (c : NumberedFormula) → text_expansion text ≡ Done c → (recording : List ℕ) → Gives text c.signals (recorded recording)
played text c e recording =
    record { word = unnumbered text c.signals (recorded recording); same = numbered-back text c.signals (text-once text c e) (recorded recording) }

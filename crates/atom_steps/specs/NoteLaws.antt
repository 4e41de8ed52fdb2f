-- The words of an identifier that is noted; and signals' numbers, as long as the table has room.
use Rattle.std.specs.Prelude.{ℕ, ◌+◌, ◌≤◌, List, ◌≡◌}
use Rattle.std.proofs.Common.{sym, ◌∙◌, subst, arith}
use Rattle.node.specs.Limits.{max_nodes}
use Rattle.node.specs.Result.{Result}
use Rattle.language.specs.Tokens.{Token, tokens}
use Rattle.language.specs.DeclaredNames.{Identifies}
use Rattle.choices.specs.Entries.{words_end, Words}
use Rattle.choices.specs.StoredWordsLaws.{identifier-words}
use Rattle.name_values.specs.World.{Stands, meaning_at}
use Rattle.name_values.specs.Facts.{IsIdentifier}
use Rattle.operands.specs.Working.{Source}
use Rattle.machine.specs.Came.{Came}
use Rattle.machine.specs.Frames.{Frame}
use Rattle.machine.specs.Realm.{Realm}
use Rattle.machine.specs.Notes.{Signals}
use Rattle.machine.specs.Table.{Began}
use Rattle.machine.specs.TableLaws.{laid_from}
use Rattle.machine.specs.States.{TopOf}
use Rattle.machine.specs.declared.Machine.{Machine}
use Rattle.machine.specs.FactLaws.{same-stands, same-words}

-- the words behind an identifier's entry
pub words-behind : {s : Source} (R : Realm s) (r : ℕ) {n : ℕ} {ws : List Token} → meaning_at R.W r ≡ Stands (Identifies ws) → IsIdentifier (tokens s.text) s.work (meaning_at R.W r) n
    → Words s.text s.work (n + 1) (words_end s.work n) ws
words-behind {s} R r {n} {ws} e h =
    subst (Words s.text s.work (n + 1) (words_end s.work n)) (same-words (same-stands (sym e ∙ h.identifies)))
    (identifier-words R.lexed n h.words h.stored h.ends h.fits (R.short r h.words h.identifies))

module _ {s : Source} {R : Realm s} {mem out : List ℕ} {m : Machine} {x : Result Came} {o : Began} {F : Frame} (h : TopOf R mem out m x o F) where
  pub signals-here : m.nodes ≤ max_nodes → Signals R mem
  signals-here l = h.noted.signals (let y = laid_from h.laid l in omega arith)

-- `first_note` meets its contract.
use Prim.Native.Nat.{◌<◌}
use mathlib.Core.Path.{sym, ap, subst}
use native.Mathlib.Omega.{arith}
use Rattle.language.specs.Limits.{max_tokens}
use Rattle.entries.specs.Stored.{kind_of}
use Rattle.notes.specs.NotingLaws.{found_inside, noted_as, unnoted}
use Rattle.notes.proofs.first.first_note.Goals as goal

pub returns-then-r-names : goal.returns-then-r-names
returns-then-r-names c = λ text refs count entries x s r. record { is = unnoted s r c.args.r (omega (arith, c.if-r-names.true)) 0 }

pub entry_word-requires : goal.entry_word-requires
entry_word-requires c = (
  c.requires.0.stored.lexed.room,
  subst (λ n. n < max_tokens) (sym c.from-k.ensures)
      (found_inside c.requires.0.stored c.requires.0.resolved c.args.r c.if-r-names.false),
)

pub note_of-requires : goal.note_of-requires
note_of-requires c =
    subst (λ n. n < max_tokens) (sym c.from-k.ensures) (found_inside c.requires.0.stored c.requires.0.resolved c.args.r c.if-r-names.false)

pub returns : goal.returns
returns c =
    λ text refs count entries x s r. record {
      is = noted_as s r c.args.r c.if-r-names.false c.from-k.result _ _ _ c.from-k.ensures
          (ap kind_of c.entry_word.ensures) c.note_of.ensures;
    }

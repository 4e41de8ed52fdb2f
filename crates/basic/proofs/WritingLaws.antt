-- The writer's whole answer: the order of its refusals, and that what it tells stands in the lent buffer and reads back.
use Rattle.std.specs.Prelude.{ℕ, suc, ◌≤◌, ◌≡◌, refl, true, false, ◌&&◌, List, leb, length, take, drop}
use Rattle.std.proofs.Common.{ap, ap₂, ◌∙◌, subst, take_at, arith, leb-true, le-leb}
use Rattle.std.proofs.lemmas.Bool.{lt-leb}
use Rattle.basics.specs.Told.{max_told}
use Rattle.node.specs.Result.{Result, Done, Refused, ◌>>=◌, guard}
use Rattle.node.proofs.ResultLaws.{guard-pass, guard-stop, guard-done, bind_done, bind_to}
use Rattle.language.specs.Limits.{work_bytes}
use Rattle.language.specs.Places.{refuse_at}
use Rattle.language.specs.Parsing.{parsed}
use Rattle.language.proofs.Cases.{repeated}
use Rattle.language.proofs.Laws.Basics.Tests.{and_left}
use Rattle.basic.specs.Writing.{written, fits, writing, bytes_told, text_after}
use Rattle.basic.specs.Statements.{Kept, ReadsBack}
use Rattle.basic.proofs.Cases.{file, file_written, in_full}
use Rattle.basic.proofs.ReadBack.{read_back}

-- 17 before 1; that 22 comes before 18 is among the cases
work_first : writing (repeated 32769 " ") 65535 0 ≡ Refused 17 0
unfolding writing guard
work_first = refl

text-next : writing (repeated 32769 " ") 65536 0 ≡ Refused 1 32768
unfolding writing written parsed ◌>>=◌ guard refuse_at
text-next = refl

-- what the text alone decides, and then the room
writing-room : (text : List ℕ) (work room : ℕ) {s : List ℕ} → leb work_bytes work ≡ true → written text ≡ Done s → writing text work room ≡ guard (fits room s) 18 0 (Done s)
unfolding writing
writing-room text work room {s} lent e = guard-pass 17 0 _ lent ∙ bind_to (written text) s _ e

-- room: just enough, one short, none with a longer work buffer
room : writing file 65536 266 ≡ Done file_written
room = writing-room file 65536 266 refl in_full ∙ guard-pass 18 0 _ refl

room-told : bytes_told (writing file 65536 266) ≡ Done 266
unfolding ◌>>=◌
room-told = ap bytes_told room

room_short : writing file 65536 265 ≡ Refused 18 0
room_short = writing-room file 65536 265 refl in_full ∙ guard-stop 18 0 _ refl

no_room : writing file 65537 0 ≡ Refused 18 0
no_room = writing-room file 65537 0 refl in_full ∙ guard-stop 18 0 _ refl

-- a count of 32 bits can be told, and one more not, whatever room there is
module _ (s : List ℕ) (room : ℕ) (enough : length s ≤ room) where
  largest_told : length s ≡ max_told → fits room s ≡ true
  largest_told e = ap₂ ◌&&◌ (le-leb (length s) room enough) (le-leb (length s) max_told (omega arith))

  one_more : length s ≡ suc max_told → fits room s ≡ false
  one_more e = ap₂ ◌&&◌ (le-leb (length s) room enough) (lt-leb (length s) max_told (omega arith))

-- what was written and told stands in the lent buffer, and reads back
pub writing-done : (text : List ℕ) (work room : ℕ) {s : List ℕ} → writing text work room ≡ Done s → (written text ≡ Done s) × (length s ≤ room)
unfolding writing
writing-done text work room {s} e =
    let a = guard-done (leb work_bytes work) 17 0 _ e in
    let b = bind_done (written text) _ a.1 in
    let c = guard-done (fits room b.0) 18 0 _ b.2 in
    let value = c.1 in
    let same : b.0 ≡ s = cc in
    let fit = leb-true (length b.0) room (and_left (leb (length b.0) room) (leb (length b.0) max_told) c.0) in
    (b.1 ∙ ap Done same, subst (λ (r : List ℕ). length r ≤ room) same fit)

pub stands-back : (text out : List ℕ) (work room : ℕ) {s : List ℕ} → writing text work room ≡ Done s → (take (length s) (text_after (writing text work room) out) ≡ s) × (Kept s → ReadsBack text s)
stands-back text out work room {s} e = (
  ap (λ (r : Result (List ℕ)). take (length s) (text_after r out)) e ∙ take_at s (drop (length s) out) (length s) refl,
  λ k. read_back
      (writing-done text work room e).0 k,
)

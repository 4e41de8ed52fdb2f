-- The writer's refusals have numbers of at most 22.
use Rattle.std.specs.Prelude.{ℕ, ◌≤◌, ◌≡◌, refl, Bool, true, false, List}
use Rattle.std.proofs.Common.{sym, ◌∙◌, arith}
use Rattle.std.proofs.Math.Option.{Option, none, some}
use Rattle.node.specs.Limits.{max_nodes}
use Rattle.node.specs.Result.{Result, Done, Refused, ◌>>=◌, guard}
use Rattle.node.proofs.ResultLaws.{not_done}
use Rattle.language.specs.Limits.{max_signals}
use Rattle.language.specs.Places.{refuse_at}
use Rattle.language.specs.Reading.{NumberedFormula, reading}
use Rattle.language.proofs.Laws.Basics.Results.{refusal_of}
use Rattle.claim.proofs.RefusalNumbers.{reading-numbers}
use Rattle.basic.specs.Writing.{writing, fits}
use Rattle.layout.specs.Text.{handed}
use Rattle.writer.specs.Stages.{writing-refused, writing_accepted}

-- 18, and 22 before it
room-number : (b : Bool) (s : List ℕ) {n p : ℕ} → guard b 18 0 (Done s) ≡ Refused n p → n ≤ 22
unfolding guard
room-number true s e = absurd (not_done (sym e))
room-number false s {n} e = let same : n ≡ 18 = cc in omega arith

late-number : (o : Option ℕ) (s : List ℕ) (room : ℕ) {n p : ℕ} → refuse_at 22 o (Done s) >>= handed room ≡ Refused n p → n ≤ 22
unfolding refuse_at ◌>>=◌
late-number (some k) s room {n} e = let same : n ≡ 22 = cc in omega arith
late-number none s room e = room-number (fits room s) s e

pub writing-number : (text : List ℕ) (work room : ℕ) {n p : ℕ} → writing text work room ≡ Refused n p → n ≤ 22
writing-number text work room {n} {p} e = go (reading text work max_nodes max_signals) refl
  where
    go : (r : Result NumberedFormula) → reading text work max_nodes max_signals ≡ r → n ≤ 22
    go (Refused m q) h =
        let first = refusal_of h (reading-numbers text work max_nodes max_signals) in
        let same : m ≡ n = let g = writing-refused text work room h in cc in
        omega arith
    go (Done c) h = let a = writing_accepted text work room max_nodes max_signals h in late-number a.fault a.bytes room (sym a.is ∙ e)

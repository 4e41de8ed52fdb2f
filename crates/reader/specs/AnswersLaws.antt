-- The reader's promise from the answer with a work buffer that is long enough, and from 17.
use Rattle.std.specs.Prelude.{ℕ, ◌≤◌, ◌<◌, List, ◌≡◌, length, Err}
use Rattle.std.proofs.Math.Path.{sym}
use Rattle.std.proofs.Common.{◌∙◌, le-leb}
use Rattle.node.specs.Result.{◌>>=◌}
use Rattle.node.proofs.ResultLaws.{guard-pass}
use Rattle.node.specs.Answer.{Answer}
use Rattle.node.specs.Returned.{refusal}
use Rattle.basics.specs.Clearing.{cleared}
use Rattle.words.specs.ClearingLaws.{cleared-same}
use Rattle.language.specs.Limits.{work_bytes}
use Rattle.language.specs.Reading.{text_expansion, delivered, reading}
use Rattle.language.proofs.Laws.Buffers.{work_short, work_long, short_refused}
use Rattle.claim.specs.Reads.{Reads}
use Rattle.claim.proofs.ReadsLaws.{reads}
use Rattle.ending.proofs.HandsLaws.{hands_as, hands_refused}
use Rattle.reader.specs.Answers.{Answers}

module _ (text : List ℕ) {work nodes signals : List ℕ} where
  pub reads_short : length work < work_bytes → Reads text work nodes signals work nodes signals (Err (refusal 17 0))
  reads_short h =
      let g = hands_refused nodes signals (short_refused text (length work) (length nodes) (length signals) h) in
      reads text (record { answer = g.answer; nodes_left = g.nodes_left; signals_left = g.signals_left; work_left = sym (work_short work h) })

  pub reads_long : {used nodes' signals' work' : List ℕ} {r : Answer} → work_bytes ≤ length work → Answers text work nodes signals used nodes' signals' r → work' ≡ cleared work_bytes used
      → Reads text work nodes signals work' nodes' signals' r
  unfolding reading
  reads_long {used} h a e =
      let g = hands_as (guard-pass 17 0 (text_expansion text >>= delivered (length nodes) (length signals)) (le-leb work_bytes (length work) h)) a.hands in
      reads text (record {
        answer = g.answer;
        nodes_left = g.nodes_left;
        signals_left = g.signals_left;
        work_left = e ∙ cleared-same work_bytes used work a.size a.beyond ∙ sym (work_long work h);
      })

-- A call of the reader or the converter, with the fronts of the buffers, keeps what a call promises.
use Rattle.std.specs.Prelude.{ℕ, min, List, ◌++◌, ◌≡◌, length, take, drop}
use Rattle.std.proofs.Common.{sym, ap, subst}
use Rattle.node.specs.Answer.{Answer}
use Rattle.claim.specs.Reads.{Reads}
use Rattle.claim.specs.Converts.{Converts}
use Rattle.stored_texts.specs.declared.calls.Call.{Call}
use Rattle.stored_texts.specs.declared.calls.Room.{Room}
use Rattle.stored_texts.specs.Calling.{Says, Calls, lent, CallsWith}

module _ {how : Call} {text work nodes signals work' nodes' signals' : List ℕ} {r : Answer} where
  pub calls-read : how ≡ Call.Read → Reads text work nodes signals work' nodes' signals' r → Calls how text work nodes signals work' nodes' signals' r
  calls-read e h = record { says = subst (λ (k : Call). Says k text work nodes signals work' nodes' signals' r) (sym e) h }

  pub calls_convert : {form : ℕ} → how ≡ Call.Convert form → Converts text form work nodes signals work' nodes' signals' r → Calls how text work nodes signals work' nodes' signals' r
  calls_convert e h = record { says = subst (λ (k : Call). Says k text work nodes signals work' nodes' signals' r) (sym e) h }

module _ {room : Room} {how : Call} {text work nodes signals work' nodes' signals' : List ℕ} {r : Answer} {w n s : ℕ} where
  pub calls-with : w ≡ min room.work (length work) → n ≡ min room.nodes (length nodes) → s ≡ min room.signals (length signals)
      → Calls how text (take w work) (take n nodes) (take s signals) work' nodes' signals' r
      → CallsWith room how text work nodes signals (work' ++ drop w work) (nodes' ++ drop n nodes) (signals' ++ drop s signals) r
  calls-with a b c h =
      record {
        work_front = work';
        nodes_front = nodes';
        signals_front = signals';
        called = subst (λ i. Calls how text (take i work) (lent room.nodes nodes) (lent room.signals signals) work' nodes' signals' r) a
            (subst (λ i. Calls how text (take w work) (take i nodes) (lent room.signals signals) work' nodes' signals' r) b
            (subst (λ i. Calls how text (take w work) (take n nodes) (take i signals) work' nodes' signals' r) c h));
        work_left = ap (λ i. work' ++ drop i work) a;
        nodes_left = ap (λ i. nodes' ++ drop i nodes) b;
        signals_left = ap (λ i. signals' ++ drop i signals) c;
      }

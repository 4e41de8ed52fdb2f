-- What the rewriter leaves, with the list copied or not, is what `write_out` promises.
use Rattle.std.specs.Prelude.{ℕ, ◌≤◌, ◌≡◌, refl, List, ◌++◌, length, take, drop, Ok, Err}
use Rattle.std.proofs.Common.{ap, ap₂, ◌∙◌, sym, append-nil, take-append-drop, length-take-le, zero-add, arith}
use Rattle.std.proofs.Math.Seq.{paste, take-length, drop-length}
use Rattle.node.specs.Ltl.{Formula}
use Rattle.node.specs.Result.{Result, Counts}
use Rattle.node.specs.Written.{nodes_of, count}
use Rattle.node.proofs.WrittenLaws.{count_some}
use Rattle.node.specs.Answer.{Answer, says}
use Rattle.node.specs.declared.Refusal.{Refusal}
use Rattle.rewriter.specs.Rewriting.{target, rewriting, leaves}
use Rattle.rewriter.specs.RewritingLaws.{accepts as rewriter-accepts}
use Rattle.rewriter.specs.Promise.{Rewrites}
use Rattle.converter.specs.Room.{room, Lends}
use Rattle.converter.specs.RoomLaws.{room-all, room_some}
use Rattle.converter.specs.WritingOut.{WritesOut}

module _ (number : ℕ) (table list nodes signals : List ℕ) {end : ℕ} {out nodes' : List ℕ} {b : Answer} (lent : Lends (length nodes) (length signals) (length list) end)
    (rewritten : Rewrites number table (take end nodes) out b) (back : nodes' ≡ out ++ drop end nodes) where
  answered : says b ≡ rewriting number table (room (length nodes) (length signals) (length list))
  answered = rewritten.answer ∙ ap (rewriting number table) (length-take-le end nodes lent.inside ∙ lent.is)

  left : {x : Answer} → b ≡ x → nodes' ≡ leaves (says x) (target number table) (take end nodes) ++ drop end nodes
  left {x} e =
      back ∙ ap (λ (l : List ℕ). l ++ drop end nodes)
      (rewritten.buffer ∙ ap (λ (r : Result Counts). leaves r (target number table) (take end nodes)) (sym rewritten.answer ∙ ap says e))

  pub out_refused : {r : Refusal} → b ≡ Err r → WritesOut number table list nodes signals nodes' signals (Err r)
  out_refused e =
      (record { answer = sym (ap says e) ∙ answered; nodes_left = left e ∙ take-append-drop end nodes; signals_left = refl })

  module _ {m k : ℕ} (e : b ≡ Ok (m, k)) where
    pub list-fits : length list ≤ length signals
    list-fits =
        let a = rewriter-accepts (room (length nodes) (length signals) (length list)) (sym answered ∙ ap says e) in
        let some = count_some (target number table) in
        room_some (length nodes) (length signals) (length list) (let fits = a.fits in omega arith)

    all : end ≡ length nodes
    all = lent.is ∙ room-all (length nodes) (length signals) (length list) list-fits

    pub out-accepted : {signals' : List ℕ} → signals' ≡ paste signals 0 list (length list) → WritesOut number table list nodes signals nodes' signals' (Ok (m, k))
    out-accepted copied =
        let f : Formula = target number table in
        (record {
          answer = sym (ap says e) ∙ answered;
          nodes_left = left e
              ∙ ap₂ (λ (l r : List ℕ). (nodes_of f ++ drop (count f) l) ++ r) (ap (λ (i : ℕ). take i nodes) all ∙ take-length nodes) (ap (λ (i : ℕ). drop i nodes) all ∙ drop-length nodes)
              ∙ append-nil (nodes_of f ++ drop (count f) nodes);
          signals_left = copied ∙ ap₂ (λ (l : List ℕ) (i : ℕ). l ++ drop i signals) (take-length list) (zero-add (length list));
        })

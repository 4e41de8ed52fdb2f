-- What is handed over of a formula that was written.
use Rattle.std.specs.Prelude.{ℕ, ◌≤◌, ◌<◌, Bool, ◌&&◌, List, ◌++◌, ◌≡◌, leb, length, drop, Ok, Err}
use Rattle.std.proofs.Common.{sym, ap, ap₂, ◌∙◌, subst, zero-add, arith, le-leb}
use Rattle.std.proofs.lemmas.List.Edits.{sets}
use Rattle.std.proofs.Math.Seq.{paste, take-length}
use Rattle.std.proofs.lemmas.Bool.{lt-leb}
use Rattle.node.specs.Limits.{max_nodes}
use Rattle.node.specs.Ltl.{Formula}
use Rattle.node.specs.Result.{Done, ◌>>=◌}
use Rattle.node.proofs.ResultLaws.{guard-pass, guard-stop}
use Rattle.node.specs.Written.{nodes_of, count}
use Rattle.node.specs.Answer.{Answer}
use Rattle.node.specs.Returned.{refusal}
use Rattle.language.specs.Expansion.{whole}
use Rattle.language.specs.Reading.{delivered}
use Rattle.language.proofs.Laws.Basics.Tests.{and-last_false}
use Rattle.writing.specs.Writing.{Wrote}
use Rattle.writing.specs.Parts.{moves}
use Rattle.assembly.specs.Layout.{Assembles}
use Rattle.assembly.specs.WholeLaws as Whole
use Rattle.shifting.specs.Passing.{late_by, Shifts}
use Rattle.ending.specs.Endings.{fitted}
use Rattle.ending.proofs.EndingsLaws.{too_large, not-too-large}
use Rattle.ending.specs.Hands.{Hands}
use Rattle.ending.proofs.HandsLaws.{hands_refused, hands_accepted}
use Rattle.ending.specs.Handing.{Delivers, as_expanded, as_shifted, HandsOver}

module _ {f : Formula} {out out' : List ℕ} {m : ℕ} (w : Wrote f out out' 0 m) (list : List ℕ) (nodes signals : List ℕ) where
  formula_large : max_nodes < m → Hands (fitted f list >>= delivered (length nodes) (length signals)) nodes signals nodes signals (Err (refusal 16 0))
  formula_large h = hands_refused nodes signals (too_large (delivered (length nodes) (length signals)) f list (Whole.written_many w h))

  module _ (h : m ≤ max_nodes) where
    nodes_short : length nodes < m → Hands (fitted f list >>= delivered (length nodes) (length signals)) nodes signals nodes signals (Err (refusal 18 0))
    nodes_short s =
        let n = Whole.written_count w h in
        hands_refused nodes signals (not-too-large (delivered (length nodes) (length signals)) f list (omega arith)
        ∙ guard-stop 18 0 _ (ap (λ b. b && leb (length list) (length signals)) (lt-leb (count f) (length nodes) (omega arith))))

    signals_short : length signals < length list → Hands (fitted f list >>= delivered (length nodes) (length signals)) nodes signals nodes signals (Err (refusal 18 0))
    signals_short s =
        let n = Whole.written_count w h in
        hands_refused nodes signals (not-too-large (delivered (length nodes) (length signals)) f list (omega arith)
        ∙ guard-stop 18 0 _ (and-last_false (leb (count f) (length nodes)) _ (lt-leb (length list) (length signals) s)))

    formula-handed : length out ≡ max_nodes → m ≤ length nodes → length list ≤ length signals
        → Hands (fitted f list >>= delivered (length nodes) (length signals)) nodes signals (sets nodes 0 (moves 0 0 m out')) (list ++ drop (length list) signals) (Ok (m, length list))
    formula-handed l p q =
        let n = Whole.written_count w h in
        let R = fitted f list >>= delivered (length nodes) (length signals) in
        let S = list ++ drop (length list) signals in
        let done : R ≡ Done (record { formula = f; signals = list }) =
        not-too-large (delivered (length nodes) (length signals)) f list (omega arith)
        ∙ guard-pass 18 0 _ (ap₂ ◌&&◌ (le-leb (count f) (length nodes) (omega arith)) (le-leb (length list) (length signals) q)) in
        subst (λ N. Hands R nodes signals N S (Ok (m, length list))) (sym (Whole.delivered w nodes l h p))
        (subst (λ k. Hands R nodes signals (nodes_of f ++ drop (count f) nodes) S (Ok (k, length list))) (sym n) (hands_accepted nodes signals done))

-- the same of whatever formula was written
module _ {whole : List ℕ} {m : ℕ} (list : List ℕ) (nodes signals : List ℕ) where
  pub deliver_large : max_nodes < m → Delivers whole m list nodes signals nodes signals (Err (refusal 16 0))
  deliver_large h = record { delivers = λ l w. formula_large w list nodes signals h }

  module _ (h : m ≤ max_nodes) where
    pub deliver-nodes : length nodes < m → Delivers whole m list nodes signals nodes signals (Err (refusal 18 0))
    deliver-nodes s = record { delivers = λ l w. nodes_short w list nodes signals h s }

    pub deliver-signals : length signals < length list → Delivers whole m list nodes signals nodes signals (Err (refusal 18 0))
    deliver-signals s = record { delivers = λ l w. signals_short w list nodes signals h s }

    pub deliver-all : {nodes' signals' : List ℕ} → m ≤ length nodes → length list ≤ length signals → nodes' ≡ sets nodes 0 (moves 0 0 m whole) → signals' ≡ paste signals 0 list (length list)
        → Delivers whole m list nodes signals nodes' signals' (Ok (m, length list))
    deliver-all {nodes'} {signals'} p q c d = record {
      delivers = λ {f} l w.
          let R = fitted f list >>= delivered (length nodes) (length signals) in
          let copied : paste signals 0 list (length list) ≡ list ++ drop (length list) signals = ap₂ (λ a i. a ++ drop i signals) (take-length list) (zero-add (length list)) in
          subst (λ N. Hands R nodes signals N signals' (Ok (m, length list))) (sym c)
          (subst (λ S. Hands R nodes signals (sets nodes 0 (moves 0 0 m whole)) S (Ok (m, length list))) (sym (d ∙ copied)) (formula-handed w list nodes signals h l p q));
    }

-- .. and of the sections, as they are assembled, or with the X
module _ {strict : Bool} {words : List ℕ} {count : ℕ} {table : List ℕ} {at : ℕ} {out whole' : List ℕ} {m : ℕ} (a : Assembles strict words count table at out whole' m) (l : length out ≡ max_nodes)
    {list nodes signals nodes' signals' : List ℕ} {r : Answer} where
  pub hands_expanded : Delivers whole' m list nodes signals nodes' signals' r → HandsOver as_expanded strict words count table at list nodes signals nodes' signals' r
  hands_expanded d = record { hands = λ ss g. d.delivers l (a ss g) }

  pub hands_shifted : (outputs : Bool) {before out' : List ℕ} {k : ℕ} → length before ≡ max_nodes → Shifts (late_by outputs list) whole' m before out' k
      → Delivers out' k list nodes signals nodes' signals' r
      → HandsOver (as_shifted outputs) strict words count table at list nodes signals nodes' signals' r
  hands_shifted outputs e s d = record { hands = λ ss g. d.delivers e (s.shifts l (a ss g)) }

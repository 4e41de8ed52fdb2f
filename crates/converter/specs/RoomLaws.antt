-- The room that is lent decides as both rooms do: 18 comes after 21 and 16, for either buffer.
use Prim.Native.Nat.{ℕ, ◌≤◌, ◌<◌}
use Rattle.std.specs.Prelude.{◌≡◌, true, false, ◌&&◌, cond, List}
use Rattle.std.proofs.Math.Path.{refl, ap}
use Rattle.std.proofs.Common.{◌∙◌, sym, arith, le-leb, leb-true}
use Rattle.std.proofs.Math.Bool.{Bool}
use Rattle.std.proofs.Math.Dec.{leb}
use Rattle.std.proofs.Math.ListN.{length}
use Rattle.std.proofs.Math.Decide.{dec_le}
use Rattle.std.proofs.lemmas.Bool.{lt-leb}
use Rattle.node.specs.Limits.{max_nodes}
use Rattle.node.specs.Ltl.{Formula}
use Rattle.node.specs.Result.{Result, Done, ◌>>=◌, guard, Counts}
use Rattle.node.proofs.ResultLaws.{guard-pass, guard-stop}
use Rattle.node.specs.Written.{nodes_of, count}
use Rattle.node.proofs.WrittenLaws.{count_some}
use Rattle.forms.specs.Forms.{form}
use Rattle.rewriter.specs.Rewriting.{fitting, rewriting}
use Rattle.rewriter.specs.RewritingLaws.{rewriting-form}
use Rattle.rewriter.specs.OwnNodes.{own-rewriting}
use Rattle.language.specs.Reading.{NumberedFormula, text_expansion}
use Rattle.claim.proofs.ClaimLaws.{text_few, text-small}
use Rattle.claim.specs.Yields.{told}
use Rattle.claim.specs.Converting.{in_form, formed}
use Rattle.converter.specs.Room.{room, with_signals}

-- as many nodes as there are, where the list fits
pub room-all : (nodes signals listed : ℕ) → listed ≤ signals → room nodes signals listed ≡ nodes
room-all nodes signals listed h = rw (le-leb listed signals h)

-- some room is lent only where the list fits
pub room_some : (nodes signals listed : ℕ) → 0 < room nodes signals listed → listed ≤ signals
room_some nodes signals listed h = leb-true listed signals (go (leb listed signals) h)
  where
    go : (b : Bool) → 0 < cond b nodes 0 → b ≡ true
    go true h = refl
    go false h = absurd (omega arith)

-- one node does not fit no room
room_fits : (n nodes signals listed : ℕ) → 0 < n → leb n (room nodes signals listed) ≡ (leb n nodes && leb listed signals)
room_fits n nodes signals listed h = go (leb listed signals) (leb n nodes) refl
  where
    go : (b d : Bool) → leb n nodes ≡ d → leb n (cond b nodes 0) ≡ (d && b)
    go true true e = e
    go true false e = e
    go false true e = lt-leb n 0 h
    go false false e = lt-leb n 0 h

-- three tests one after another, and what is told behind them
told-behind : {A B : Type 0} (k : A → Result Counts) (l : B → Result Counts) (a : A) (b : B) → k a ≡ l b → (p q r : Bool)
    → guard p 21 0 (guard q 16 0 (guard r 18 0 (Done a))) >>= k ≡ guard p 21 0 (guard q 16 0 (guard r 18 0 (Done b))) >>= l
unfolding guard ◌>>=◌
told-behind k l a b e true true true = e
told-behind k l a b e true true false = refl
told-behind k l a b e true false r = refl
told-behind k l a b e false q r = refl

module _ (text : List ℕ) (c : NumberedFormula) (e : text_expansion text ≡ Done c) (number : ℕ) where
  -- the rewriter on the reader's nodes: never 19
  own-answer : (room : ℕ) → rewriting number (nodes_of c.formula) room ≡ guard (leb number 2) 21 0 (fitting (form number c.formula) room)
  own-answer room = go (dec_le number 2)
    where
      go : Dec (number ≤ 2) → rewriting number (nodes_of c.formula) room ≡ guard (leb number 2) 21 0 (fitting (form number c.formula) room)
      go (yes h) = own-rewriting number c.formula room h (text-small text c e) (text_few text c e) ∙ sym (guard-pass 21 0 _ (le-leb number 2 h))
      go (no h) = rewriting-form number (nodes_of c.formula) room (omega arith) ∙ sym (guard-stop 21 0 _ (lt-leb number 2 (omega arith)))

  -- so the converter tells what the rewriter does, lent that room
  pub formed-told : (nodes signals : ℕ) → told (formed number nodes signals c) ≡ with_signals (length c.signals) (rewriting number (nodes_of c.formula) (room nodes signals (length c.signals)))
  unfolding formed fitting
  formed-told nodes signals =
      let f : Formula = form number c.formula in
      let s : ℕ = length c.signals in
      let large : Bool = leb (count f) max_nodes in
      ap (λ (b : Bool). told (guard (leb number 2) 21 0 (guard large 16 0 (guard b 18 0 (Done (in_form number c)))))) (sym (room_fits (count f) nodes signals s (count_some f)))
      ∙ told-behind _ _ (in_form number c) (record { nodes = count f; signals = 0 }) refl (leb number 2) large (leb (count f) (room nodes signals s))
      ∙ ap (with_signals s) (sym (own-answer (room nodes signals s)))

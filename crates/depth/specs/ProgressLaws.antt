-- One entry more: from what the pass's parts answer to the state that it has reached.
use Rattle.std.specs.Prelude.{ℕ, ◌+◌, ◌-◌, ◌≤◌, ◌<◌, List, ◌≡◌, refl, set}
use Rattle.std.proofs.Common.{ap, ap₂, ◌∙◌, subst, length-set, arith}
use Rattle.std.proofs.Math.Seq.{slice}
use Rattle.language.specs.Limits.{max_tokens}
use Rattle.language.specs.Places.{first}
use Rattle.lexer.specs.Stored.{offset_in}
use Rattle.traversal.specs.declared.Cell.{Cell}
use Rattle.traversal.specs.Arity.{operands, first_line}
use Rattle.traversal.specs.Cells.{cell_at}
use Rattle.traversal.specs.Places.{Place, placed, place_in}
use Rattle.traversal.specs.declared.Progress.{Progress}
use Rattle.traversal.specs.Starts.{first_of, start_of}
use Rattle.depth.specs.Depth.{highest, level_of, fault_of, step}
use Rattle.depth.specs.DepthLaws.{finds-deep}
use Rattle.depth.specs.Promise.{TooDeep}
use Rattle.depth.specs.Progress.{after, Agrees, Reached}
use Rattle.depth.specs.ReachedLaws.{part-agrees, line-agrees, reached-more}

module _ {w : List ℕ} {i : ℕ} {p : Progress} {ls ss : List ℕ} (r : Reached w i p ls ss) (small : i < max_tokens) {c : Cell} (hc : c ≡ cell_at w i) {n below start level : ℕ} {f g : Place}
    (hn : n ≡ operands p.before c) (hb : below ≡ p.top - n) (hs : start ≡ first_of (slice below p.top ss)) (hv : level ≡ first_of (slice below p.top ls))
    (hg : g ≡ placed (fault_of c.kind level start)) (hf : f ≡ placed (first (place_in p.found) (place_in g))) where
  low : below ≤ i
  low = omega (arith, hb, r.few)

  fault-here : g ≡ placed (fault_of c.kind (first_of (slice below p.top ls)) (first_of (slice below p.top ss)))
  fault-here = hg ∙ ap₂ (λ l s. placed (fault_of c.kind l s)) hv hs

  pub passes-part : {most l t : ℕ} → c.kind < first_line → most ≡ highest (slice below p.top ls) → l ≡ level_of c.kind most start → t ≡ start_of c.kind (offset_in c.token) start →
      Reached w (i + 1) (record { before = c.kind; top = below + 1; found = f }) (set ls below l) (set ss below t)
  passes-part {most} {l} {t} inner hm hl ht =
      reached-more w i p _ ls ss _ _ r (length-set ls below l) (length-set ss below t) (omega (arith, low))
      (subst (λ d. Agrees (step d (after w i)) (record { before = c.kind; top = below + 1; found = f }) (set ls below l) (set ss below t)) hc
      (part-agrees _ p ls ss c below r.agrees (hb ∙ ap (λ k. p.top - k) hn) f g l t inner (omega (arith, low, r.levels)) (omega (arith, low, r.starts))
      (hl ∙ ap₂ (level_of c.kind) hm hs) (ht ∙ ap (start_of c.kind (offset_in c.token)) hs) fault-here hf))

  pub passes_line : first_line ≤ c.kind → Reached w (i + 1) (record { before = c.kind; top = below; found = f }) ls ss
  passes_line out =
      reached-more w i p _ ls ss ls ss r refl refl (omega (arith, low))
      (subst (λ d. Agrees (step d (after w i)) (record { before = c.kind; top = below; found = f }) ls ss) hc
      (line-agrees _ p ls ss c below r.agrees (hb ∙ ap (λ k. p.top - k) hn) f g out fault-here hf))

pub passed-all : (w : List ℕ) (n i : ℕ) (p : Progress) (ls ss : List ℕ) → Reached w i p ls ss → i ≤ n → n ≤ i → TooDeep w n p.found
unfolding TooDeep
passed-all w n i p ls ss r h k ts x told t =
    let e : i ≡ n = omega arith in
    r.agrees.found ∙ ap (λ j. placed (after w j).found) e ∙ ap placed (finds-deep w ts n x told t)

-- The pass from entry to entry, and what it has found at the end.
use Rattle.std.specs.Prelude.{ℕ, ◌+◌, ◌≤◌, List, [], false, ◌≡◌, refl, length, get_or, replicate}
use Rattle.std.proofs.Math.Option.{none}
use Rattle.std.proofs.Common.{sym, ap, ◌∙◌, subst, arith}
use Rattle.std.proofs.lemmas.List.{length-replicate, get_or-replicate}
use Rattle.language.specs.Limits.{max_words, max_marks}
use Rattle.traversal.specs.Cells.{cell_at}
use Rattle.traversal.specs.Places.{placed}
use Rattle.traversal.specs.Passed.{passed}
use Rattle.traversal.specs.PassedLaws.{passed_none, passed-more}
use Rattle.enumerations.specs.declared.Progress.{Progress}
use Rattle.enumerations.specs.Pass.{State, step}
use Rattle.enumerations.specs.Progress.{Agrees, Sized, Passes}

abbrev pub begin : State
begin = record { owner = 0; size = 0; closed = false; rows = []; found = none }

abbrev blank : List ℕ
blank = replicate max_marks 0

-- the state after i entries of the buffer w
abbrev pub after : List ℕ → List ℕ → ℕ → State
after text w i = passed (step text) (cell_at w) begin i

pub record Ran (text w : List ℕ) (n i : ℕ) (p : Progress) (os : List ℕ) (rs : List (List ℕ)) : Type 0 where
  pub sized : Sized p os rs
  pub agrees : Agrees (after text w i) p os rs
  pub owner : p.owner ≤ i
  pub few : i ≤ n

pub ran_none : (text w : List ℕ) (n : ℕ) (os : List ℕ) (rs : List (List ℕ)) (p : Progress) → length os ≡ max_words → rs ≡ replicate max_words blank
    → p ≡ record { owner = 0; count = 0; size = 0; closed = false; found = placed none } → Ran text w n 0 p os rs
ran_none text w n os rs p l r e =
    record {
      sized = record {
        few = omega (arith, ap (λ (q : Progress). q.count) e);
        owners = l;
        rows = ap length r ∙ length-replicate max_words blank;
        each = λ j h. ap (λ l. length (get_or l j [])) r ∙ ap length (get_or-replicate max_words j blank [] (omega (arith, h, ap length r))) ∙ length-replicate {A = ℕ} max_marks 0;
      };
      agrees = subst (λ (s : State). Agrees s p os rs) (sym (passed_none (step text) (cell_at w) begin))
          (subst (λ q. Agrees begin q os rs) (sym e) (record { owner = refl; size = refl; closed = refl; count = refl; owners = refl; rows = refl; found = refl }));
      owner = omega (arith, ap (λ (q : Progress). q.owner) e);
      few = omega arith;
    }

pub ran_more : {text w : List ℕ} {n i : ℕ} {p : Progress} {os : List ℕ} {rs : List (List ℕ)} (q : Progress) (os' : List ℕ) (rs' : List (List ℕ)) → Ran text w n i p os rs
    → Passes (step text (cell_at w i)) p q os rs os' rs' → i + 1 ≤ n → Ran text w n (i + 1) q os' rs'
ran_more {text} {w} {n} {i} q os' rs' r h few =
    record {
      sized = h.sized;
      agrees = subst (λ (s : State). Agrees s q os' rs') (sym (passed-more (step text) (cell_at w) begin i)) (h.steps (after text w i) r.agrees);
      owner = omega (arith, h.owner, r.owner);
      few = few;
    }

-- the first bad word that the pass has found
pub ran_all : {text w : List ℕ} {n i : ℕ} {p : Progress} {os : List ℕ} {rs : List (List ℕ)} → Ran text w n i p os rs → n ≤ i → p.found ≡ placed (after text w n).found
ran_all {text} {w} {n} {i} r h = let e : i ≡ n = omega (arith, r.few) in r.agrees.found ∙ ap (λ j. placed (after text w j).found) e

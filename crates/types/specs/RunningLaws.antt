-- The pass, entry by entry.
use Rattle.std.specs.Prelude.{ℕ, ◌+◌, ◌≤◌, List, [], ◌≡◌, refl, length}
use Rattle.std.proofs.Math.Option.{none}
use Rattle.std.proofs.Common.{sym, ap, ◌∙◌, subst, arith}
use Rattle.language.specs.Limits.{work_bytes, max_tokens}
use Rattle.language.specs.Tokens.{tokens}
use Rattle.names.specs.Resolved.{declared_names}
use Rattle.traversal.specs.Places.{placed}
use Rattle.traversal.specs.PassedLaws.{passed_none, passed-more}
use Rattle.traversal.specs.declared.Progress.{Progress}
use Rattle.types.specs.Pass.{State, step, state}
use Rattle.types.specs.Cells.{named_cell}
use Rattle.types.specs.TypeLaws.{finds-wrong}
use Rattle.types.specs.Declaring.{declared_table}
use Rattle.types.specs.DeclaringLaws.{declared-size}
use Rattle.types.specs.Resolving.{tree_stored, names-seen, names-known}
use Rattle.types.specs.Progress.{Agrees, Passes}
use Rattle.types.specs.Running.{after, Ran, WrongType}

pub ran_none : (refs w : List ℕ) (n : ℕ) (ks ss ts : List ℕ) (p : Progress) → work_bytes ≤ length w → length ks ≡ max_tokens → length ss ≡ max_tokens → ts ≡ declared_table refs w n
    → p ≡ record { before = 0; top = 0; found = placed none } → Ran refs w n 0 p ks ss ts
ran_none refs w n ks ss ts p room l r d e =
    record {
      sized = record { room = room; few = omega (arith, ap (λ (q : Progress). q.top) e); types = l; starts = r; table = ap length d ∙ declared-size refs w n };
      agrees = subst (λ (s : State). Agrees s p ks ss ts) (sym (passed_none step (named_cell refs w) (state (declared_table refs w n) 0 [] none)))
          (subst (λ q. Agrees (state (declared_table refs w n) 0 [] none) q ks ss ts) (sym e) (record { before = refl; count = refl; types = refl; starts = refl; found = refl; table = d }));
      few = omega arith;
    }

pub ran_more : {refs w : List ℕ} {n i : ℕ} {p : Progress} {ks ss ts : List ℕ} (q : Progress) (ks' ss' ts' : List ℕ) → Ran refs w n i p ks ss ts
    → Passes w i (named_cell refs w i) p q ks ss ts ks' ss' ts' → i + 1 ≤ n → Ran refs w n (i + 1) q ks' ss' ts'
ran_more {refs} {w} {n} {i} q ks' ss' ts' r h few =
    record {
      sized = h.sized;
      agrees = subst (λ (s : State). Agrees s q ks' ss' ts') (sym (passed-more step (named_cell refs w) (state (declared_table refs w n) 0 [] none) i))
          (h.steps (after refs w n i) r.agrees);
      few = few;
    }

pub ran_all : {refs w : List ℕ} {n i : ℕ} {p : Progress} {ks ss ts : List ℕ} → Ran refs w n i p ks ss ts → n ≤ i → WrongType refs w n p.found
unfolding WrongType
ran_all {refs} {w} {n} {i} r h text count x found m s v =
    let e : i ≡ n = omega (arith, r.few) in
    r.agrees.found ∙ ap (λ j. placed (after refs w n j).found) e
    ∙ ap placed (finds-wrong (declared_names x) (named_cell refs w) w (tokens text) n x (declared_table refs w n) (names-seen s v) (tree_stored s) (names-known s v))

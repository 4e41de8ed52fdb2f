-- The types of declared names, entry by entry.
use Rattle.std.specs.Prelude.{ℕ, zero, suc, ◌+◌, ◌≤◌, ◌≡◌, refl, eqb, get_or, set, replicate}
use mathlib.Core.List.{List}
use Rattle.std.proofs.Math.Path.{sym, ap}
use Rattle.std.proofs.Common.{ap₂, ◌∙◌, add-one, arith, eq-eqb, ne_eqb}
use Rattle.std.proofs.Math.ListN.{length, length-set}
use Rattle.std.proofs.lemmas.List.{length-replicate}
use Rattle.std.proofs.Math.Seq.{set_out}
use Rattle.language.proofs.Laws.Basics.Tests.{split, pick, leave}
use Rattle.language.specs.Limits.{max_names}
use Rattle.traversal.specs.declared.Cell.{Cell}
use Rattle.types.specs.Codes.{undeclared}
use Rattle.types.specs.Cells.{named_cell}
use Rattle.traversal.specs.Passed.{passed}
use Rattle.traversal.specs.PassedLaws.{passed_none, passed-more}
use Rattle.types.specs.Kinds.{reference_of}
use Rattle.types.specs.Declaring.{declaring, declare, declared_table, Declared}

-- a reference past the table's end stores nothing
module _ (c : Cell) (table : List ℕ) where
  pub declares_none : get_or declaring c.kind 0 ≡ undeclared → table ≡ declare c table
  unfolding declare
  declares_none e = sym (pick (eqb (get_or declaring c.kind 0) undeclared) _ _ (eq-eqb _ _ e))

  pub declares-set : (v : ℕ) → (get_or declaring c.kind 0 ≡ undeclared → ⊥) → v ≡ get_or declaring c.kind 0 → set table (reference_of c.token) v ≡ declare c table
  unfolding declare
  declares-set v e h = ap (set table (reference_of c.token)) h ∙ sym (leave (eqb (get_or declaring c.kind 0) undeclared) _ _ (ne_eqb _ _ e))

  pub declares_out : (get_or declaring c.kind 0 ≡ undeclared → ⊥) → length table ≡ max_names → max_names ≤ reference_of c.token → table ≡ declare c table
  declares_out e l h = sym (set_out table (reference_of c.token) (get_or declaring c.kind 0) (omega arith)) ∙ declares-set (get_or declaring c.kind 0) e refl

  pub declare-length : length (declare c table) ≡ length table
  unfolding declare
  declare-length = split (λ (l : List ℕ). length l ≡ length table) (eqb (get_or declaring c.kind 0) undeclared) (λ _. refl) (λ _. length-set table (reference_of c.token) (get_or declaring c.kind 0))

pub declared_none : (refs w t : List ℕ) → length t ≡ max_names → Declared refs w t t 0
declared_none refs w t h = record { passes = sym (passed_none declare (named_cell refs w) t); size = h }

pub declared-more : {refs w t₀ t : List ℕ} {i : ℕ} (u : List ℕ) (c : Cell) → Declared refs w t₀ t i → c ≡ named_cell refs w i → u ≡ declare c t → Declared refs w t₀ u (i + 1)
declared-more {refs} {w} {t₀} {t} {i} u c d hc hu =
    record {
      passes = hu ∙ ap₂ declare hc d.passes ∙ sym (passed-more declare (named_cell refs w) t₀ i);
      size = ap length hu ∙ declare-length c t ∙ d.size;
    }

pub declared-all : {refs w t₀ t : List ℕ} {i : ℕ} (n : ℕ) → Declared refs w t₀ t i → i ≤ n → n ≤ i → t ≡ passed declare (named_cell refs w) t₀ n
declared-all {refs} {w} {t₀} {t} {i} n d h k = let e : i ≡ n = omega arith in d.passes ∙ ap (passed declare (named_cell refs w) t₀) e

pub declared-size : (refs w : List ℕ) (n : ℕ) → length (declared_table refs w n) ≡ max_names
declared-size refs w zero = ap length (passed_none declare (named_cell refs w) (replicate max_names 0)) ∙ length-replicate {A = ℕ} max_names 0
declared-size refs w (suc i) = ap (λ k. length (declared_table refs w k)) (sym (add-one i)) ∙ ap length (passed-more declare (named_cell refs w) (replicate max_names 0) i) ∙ declare-length
    (named_cell refs w i) (declared_table refs w i) ∙ declared-size refs w i

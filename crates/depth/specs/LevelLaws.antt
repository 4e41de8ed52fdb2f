-- The ways through the definitions of an entry's levels, start and fault, by what is tested.
use Rattle.std.specs.Prelude.{ℕ, suc, ◌+◌, ◌≤◌, ◌<◌, max, false, List, ◌≡◌, leb, ltb, length, get_or}
use Rattle.std.proofs.Math.Option.{none, some}
use Rattle.std.proofs.Common.{sym, ◌∙◌, arith, add-one, eq-eqb, ne_eqb, lt-ltb, le-ltb, le-leb}
use Rattle.std.proofs.Math.Path.{ap}
use Rattle.std.proofs.Math.Dec.{eqb}
use Rattle.std.proofs.Math.Seq.{slice, slice-cons}
use Rattle.std.proofs.lemmas.Bool.{lt-leb}
use Rattle.language.specs.Bytes.{if◌then◌otherwise◌}
use Rattle.language.specs.Limits.{max_levels}
use Rattle.language.proofs.Laws.Basics.Tests.{pick, leave}
use Rattle.entries.specs.Kinds as Kind
use Rattle.traversal.specs.Arity.{first_line}
use Rattle.traversal.specs.StackLaws.{no_part}
use Rattle.depth.specs.Depth.{capped, own_levels, highest, level_of, fault_of}

not-one : {a : ℕ} → a ≡ 2 → a ≡ 1 → ⊥
not-one e d = omega arith

-- levels
module _ (k n s : ℕ) where
  pub level_by : (v : ℕ) → v ≡ get_or own_levels k 0 → (if eqb v 1 then capped (suc n) otherwise (if eqb v 2 then (if eqb s (Kind.binder false) then capped (suc n) otherwise n) otherwise n)) ≡ level_of k n s
  unfolding level_of
  level_by v e = ap (λ u. if eqb u 1 then capped (suc n) otherwise (if eqb u 2 then (if eqb s (Kind.binder false) then capped (suc n) otherwise n) otherwise n)) e

  pub own_level_lem : get_or own_levels k 0 ≡ 1 → level_of k n s ≡ capped (suc n)
  unfolding level_of
  own_level_lem e = pick (eqb (get_or own_levels k 0) 1) _ _ (eq-eqb _ _ e)

  pub no_level : (get_or own_levels k 0 ≡ 1 → ⊥) → (get_or own_levels k 0 ≡ 2 → ⊥) → level_of k n s ≡ n
  unfolding level_of
  no_level e d = leave (eqb (get_or own_levels k 0) 1) _ _ (ne_eqb _ _ e) ∙ leave (eqb (get_or own_levels k 0) 2) _ _ (ne_eqb _ _ d)

  -- a big operator
  pub first_level : get_or own_levels k 0 ≡ 2 → s ≡ Kind.binder false → level_of k n s ≡ capped (suc n)
  unfolding level_of
  first_level e d =
      leave (eqb (get_or own_levels k 0) 1) _ _ (ne_eqb _ _ (not-one e)) ∙ pick (eqb (get_or own_levels k 0) 2) _ _ (eq-eqb _ _ e)
      ∙ pick (eqb s (Kind.binder false)) _ _ (eq-eqb _ _ d)

  pub further_level : get_or own_levels k 0 ≡ 2 → (s ≡ Kind.binder false → ⊥) → level_of k n s ≡ n
  unfolding level_of
  further_level e d =
      leave (eqb (get_or own_levels k 0) 1) _ _ (ne_eqb _ _ (not-one e)) ∙ pick (eqb (get_or own_levels k 0) 2) _ _ (eq-eqb _ _ e)
      ∙ leave (eqb s (Kind.binder false)) _ _ (ne_eqb _ _ d)

-- faults
module _ (k l s : ℕ) where
  pub fault-inside : k < first_line → fault_of k l s ≡ none
  unfolding fault_of
  fault-inside h = pick (ltb k first_line) _ _ (lt-ltb _ _ h)

  pub fault_shallow : first_line ≤ k → l ≤ max_levels → fault_of k l s ≡ none
  unfolding fault_of
  fault_shallow h d = leave (ltb k first_line) _ _ (le-ltb _ _ h) ∙ pick (leb l max_levels) _ _ (le-leb _ _ d)

  pub fault-deep : first_line ≤ k → max_levels < l → fault_of k l s ≡ some s
  unfolding fault_of
  fault-deep h d = leave (ltb k first_line) _ _ (le-ltb _ _ h) ∙ leave (leb l max_levels) _ _ (lt-leb _ _ d)

-- the highest of a part of the stack
pub highest_none : (ls : List ℕ) (from to most : ℕ) → to ≤ from → most ≡ max most (highest (slice from to ls))
highest_none ls from to most h = let z = ap highest (no_part ls from to h) in omega arith

pub highest-part : (ls : List ℕ) (from to most : ℕ) → to ≤ length ls → from < to → max (max most (get_or ls from 0)) (highest (slice (from + 1) to ls)) ≡ max most (highest (slice from to ls))
highest-part ls from to most few inside =
    ap (λ j. max (max most (get_or ls from 0)) (highest (slice j to ls))) (add-one from) ∙ max_assoc most (get_or ls from 0) (highest (slice (suc from) to ls)) ∙ ap (λ l. max most (highest l))
    (sym (slice-cons from to ls 0 inside few))
  where
    max_assoc : (a b c : ℕ) → max (max a b) c ≡ max a (max b c)
    max_assoc a b c = omega arith

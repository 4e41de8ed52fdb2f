-- What is noted of signals and buses, entry by entry.
use Rattle.std.specs.Prelude.{ℕ, suc, ◌+◌, ◌≤◌, ◌<◌, Bool, true, false, List, [], ◌∷◌, ◌≡◌, refl, eqb, ltb, length, get_or, set}
use Rattle.std.proofs.Common.{sym, ◌∙◌, subst, arith, get_or-set_same, get_or-set_other, ltb-true, ltb-false, eq-eqb, ne_eqb}
use Rattle.words.specs.Words.{word_at}
use Rattle.language.specs.Tokens.{tokens}
use Rattle.language.specs.Tree.{Declaration, OneSignal, OfWidth, OfType, Spec}
use Rattle.language.proofs.Laws.Basics.Tests.{pick, leave}
use Rattle.language.specs.Listed.{declared_name}
use Rattle.entries.specs.Kinds as Kind
use Rattle.entries.specs.Stored.{first_entry, kind_of}
use Rattle.entries.specs.StoredLaws.{entry-kind}
use Rattle.operands.specs.Entries.{place_at}
use Rattle.notes.specs.Owned.{DeclarationAt}
use Rattle.declarations.specs.Along.{Along}
use Rattle.declarations.specs.Turnable.{Turnable}
use Rattle.declarations.specs.Trees.{Tree}
use Rattle.declarations.specs.Enumerations.{no_entry, enumeration_of}
use Rattle.declarations.specs.EnumerationLaws.{enumerates, entry_offset}
use Rattle.declarations.specs.Widths.{EnumeratedBy}
use Rattle.declarations.specs.Turns.{PlacedFrom}
use Rattle.declarations.specs.Describing.{Filled, enumeration_for}

pub filled_more : (f : ℕ → ℕ) (xs : List ℕ) (n v : ℕ) → n < length xs → v ≡ f n → Filled f xs n → Filled f (set xs n v) (n + 1)
filled_more f xs n v l e h i m = go (ltb i n) refl
  where
    go : (b : Bool) → ltb i n ≡ b → get_or (set xs n v) i 0 ≡ f i
    go true q = get_or-set_other xs n i v 0 (λ d. omega (arith, ltb-true i n q)) ∙ h i (ltb-true i n q)
    go false q = let r : i ≡ n = omega (arith, ltb-false i n q) in subst (λ j. get_or (set xs n v) j 0 ≡ f j) (sym r) (get_or-set_same xs n v 0 l ∙ e)

pub enumeration_for_lem : (w refs found : List ℕ) (k : ℕ) → kind_of (word_at w (first_entry + k)) ≡ Kind.typed → enumeration_of w refs found k ≡ enumeration_for w refs found k
enumeration_for_lem w refs found k e = sym (pick (eqb (kind_of (word_at w (first_entry + k))) Kind.typed) _ _ (eq-eqb _ _ e))

pub enumeration_none : (w refs found : List ℕ) (k : ℕ) → (kind_of (word_at w (first_entry + k)) ≡ Kind.typed → ⊥) → no_entry ≡ enumeration_for w refs found k
enumeration_none w refs found k e = sym (leave (eqb (kind_of (word_at w (first_entry + k))) Kind.typed) _ _ (ne_eqb _ _ e))

module _ {text w refs found : List ℕ} {entries names : ℕ} {x : Spec} (t : Tree text w refs found entries names x) where
  by_kind : (m : Declaration) (k : ℕ) → DeclarationAt x text w refs m k → EnumeratedBy (tokens text) w x.definitions m (enumeration_for w refs found k)
  by_kind (OneSignal n) k h = sym (enumeration_none w refs found k (λ e. let z = entry-kind h.own.entry in omega arith))
  by_kind (OfWidth n b) k h = sym (enumeration_none w refs found k (λ e. let z = entry-kind h.own.entry in omega arith))
  by_kind (OfType u n) k h = subst (λ e. EnumeratedBy (tokens text) w x.definitions (OfType u n) e) (enumeration_for_lem w refs found k (entry-kind h.own.entry)) (enumerates t u n k h)

  abbrev At : Declaration → ℕ → Type 0
  At m k = DeclarationAt x text w refs m k × Turnable x (declared_name m)

  pub placed-from : (places enumerations : List ℕ) (count j : ℕ) (ms : List Declaration) → j + length ms ≤ count → Filled (λ i. enumeration_for w refs found (get_or places i 0)) enumerations count
      → Along (λ m k. DeclarationAt x text w refs m k × Turnable x (declared_name m)) places j ms → PlacedFrom x text w refs places enumerations j ms
  placed-from places enumerations count j [] l f h = tt
  placed-from places enumerations count j (m ∷ ms) l f h = (
    record { there = h.0.0; turnable = h.0.1; enumerated = subst (EnumeratedBy (tokens text) w x.definitions m) (sym (f j (omega arith))) (by_kind m (get_or places j 0) h.0.0) },
    placed-from places enumerations count (suc j) ms (omega arith) f h.1,
  )

  -- a port's offset and number
  pub place_offset : (m : Declaration) (k : ℕ) → DeclarationAt x text w refs m k → place_at w k ≡ (declared_name m).at
  unfolding place_at
  place_offset m k h = entry_offset t.stored.lexed h.own.entry

-- A kind has one role, and the role decides what an entry does to the visible and the open names.
use Rattle.std.specs.Prelude.{ℕ, ◌<◌, ◌∷◌, Bool, not, ◌&&◌, ◌≡◌, refl, eqb, leb}
use Rattle.std.proofs.Math.Bool.{true, false, ◌||◌}
use Rattle.std.proofs.Math.Option.{Option, none}
use Rattle.std.proofs.Common.{sym, subst, arith, eqb-true, leb-true, ne_eqb}
use Rattle.std.proofs.Math.Path.{ap₂}
use Rattle.std.proofs.lemmas.Bool.{lt-leb}
use Rattle.language.specs.Operators.{BigSum, BigOr}
use Rattle.language.specs.Tokens.{Token}
use Rattle.language.specs.Names.{Names}
use Rattle.language.proofs.Laws.Basics.Tests.{and_left, and_right, and_false, or_cases, and-last_false}
use Rattle.entries.specs.Kinds as Kind
use Rattle.entries.specs.Flat.{Entry}
use Rattle.names.specs.Roles.{uses, binds, ends, declares, Role}
use Rattle.names.specs.Scan.{token_of, outer, after, here}
use Rattle.names.proofs.ScanLaws.{neither}
use Rattle.names.specs.Walking.{open_after}

abbrev role : {k : ℕ} {u b e d : Bool} → uses k ≡ u → binds k ≡ b → ends k ≡ e → declares Kind.parameter k ≡ d → Role k u b e d
role x y z v = record { use_is = x; bind_is = y; end_is = z; declare-is = v }

pub uses_only : (k : ℕ) → uses k ≡ true → Role k true false false false
uses_only k y =
    or_cases (eqb k Kind.named) (eqb k Kind.index)
    (λ e. subst (λ i. Role i true false false false) (sym (eqb-true k Kind.named e)) (role refl refl refl refl))
    (λ e. subst (λ i. Role i true false false false) (sym (eqb-true k Kind.index e)) (role refl refl refl refl)) y

pub binds_only : (k : ℕ) → binds k ≡ true → Role k false true false false
binds_only k y =
    or_cases (eqb k (Kind.binder false)) (eqb k (Kind.binder true))
    (λ e. subst (λ i. Role i false true false false) (sym (eqb-true k (Kind.binder false) e)) (role refl refl refl refl))
    (λ e. subst (λ i. Role i false true false false) (sym (eqb-true k (Kind.binder true) e)) (role refl refl refl refl)) y

-- a kind behind that of an index uses no name; one that is neither kind of binders brings none
no_use : (k : ℕ) → Kind.index < k → uses k ≡ false
no_use k l = neither (eqb k Kind.named) (eqb k Kind.index) (ne_eqb k Kind.named (λ e. omega arith)) (ne_eqb k Kind.index (λ e. omega arith))

no_binder : (k : ℕ) → (k ≡ Kind.binder false → ⊥) → (k ≡ Kind.binder true → ⊥) → binds k ≡ false
no_binder k f g = neither (eqb k (Kind.binder false)) (eqb k (Kind.binder true)) (ne_eqb k (Kind.binder false) f) (ne_eqb k (Kind.binder true) g)

pub ends_only : (k : ℕ) → ends k ≡ true → Role k false false true false
ends_only k y =
    let low = leb-true (Kind.big BigSum) k (and_left (leb (Kind.big BigSum) k) (leb k (Kind.big BigOr)) y) in
    let high = leb-true k (Kind.big BigOr) (and_right (leb (Kind.big BigSum) k) (leb k (Kind.big BigOr)) y) in
    role (no_use k (omega arith)) (no_binder k (λ e. omega arith) (λ e. omega arith)) y
    (and_false (leb Kind.parameter k && not (eqb k Kind.word)) (leb k Kind.typed)
    (and_false (leb Kind.parameter k) (not (eqb k Kind.word)) (lt-leb Kind.parameter k (omega arith))))

pub declares_only : (k : ℕ) → declares Kind.parameter k ≡ true → Role k false false false true
declares_only k y =
    let low = leb-true Kind.parameter k
    (and_left (leb Kind.parameter k) (not (eqb k Kind.word)) (and_left (leb Kind.parameter k && not (eqb k Kind.word)) (leb k Kind.typed) y)) in
    role (no_use k (omega arith)) (no_binder k (λ e. omega arith) (λ e. omega arith))
    (and-last_false (leb (Kind.big BigSum) k) (leb k (Kind.big BigOr)) (lt-leb k (Kind.big BigOr) (omega arith))) y

-- what follows from a role
module _ (n : Entry) {u b e d : Bool} (r : Role n.kind u b e d) where
  pub after_role : (ns : Names) → after ns n ≡ elim (b || d) [ true ↦ token_of n ∷ ns | false ↦ elim e [ true ↦ outer ns | false ↦ ns ] ]
  unfolding after
  after_role ns =
      ap₂ (λ (x y : Bool). elim x as (λ _. Names) [ true ↦ token_of n ∷ ns | false ↦ elim y as (λ _. Names) [ true ↦ outer ns | false ↦ ns ] ])
      (ap₂ ◌||◌ r.bind_is r.declare-is) r.end_is

  pub open_role : (bs : Names) → open_after bs n ≡ elim b [ true ↦ token_of n ∷ bs | false ↦ elim e [ true ↦ outer bs | false ↦ bs ] ]
  unfolding open_after
  open_role bs =
      ap₂ (λ (x y : Bool). elim x as (λ _. Names) [ true ↦ token_of n ∷ bs | false ↦ elim y as (λ _. Names) [ true ↦ outer bs | false ↦ bs ] ]) r.bind_is r.end_is

  pub here_role : (used bound : Names → Token → Option ℕ) (ns : Names) → here used bound ns n ≡ elim u [ true ↦ used ns (token_of n) | false ↦ elim b [ true ↦ bound ns (token_of n) | false ↦ none ] ]
  unfolding here
  here_role used bound ns =
      ap₂ (λ (x y : Bool). elim x as (λ _. Option ℕ) [ true ↦ used ns (token_of n) | false ↦ elim y as (λ _. Option ℕ) [ true ↦ bound ns (token_of n) | false ↦ none ] ]) r.use_is r.bind_is

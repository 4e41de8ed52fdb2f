-- What each operator takes: the tables agree with the definition of refusal 9.
use Rattle.std.specs.Prelude.{ℕ, ◌≤◌, List, [], ◌∷◌, true, false, ◌≡◌, refl, eqb, length, get_or}
use Rattle.std.proofs.Math.Option.{Option, none}
use Rattle.std.proofs.Common.{sym, ap, ap₂, ◌∙◌, arith, ne_eqb}
use Rattle.language.specs.Places.{first, unless}
use Rattle.language.specs.Types.{ExprType, ANumber, ASet, AFormula, ABus, AValue, AType, Unknown, type_code}
use Rattle.language.proofs.Laws.Basics.Tests.{leave}
use Rattle.language.proofs.Laws.Basics.NoPlace.{first_none}
use Rattle.entries.specs.Kinds as EntryKind
use Rattle.types.specs.Codes.{takes_any, takes_definable, takes_sides, takes_index}
use Rattle.types.specs.Kinds.{last_takes, other_takes, fits, takes_last, misfits, indexed}
use Rattle.types.specs.Pass.{wrong_at}

-- an operand of type k that starts at s where K is wanted
abbrev pub lack : ExprType → ℕ → ℕ → Option ℕ
lack K k s = unless (eqb (type_code K) k) s

pub code-small : (K : ExprType) → type_code K ≤ type_code Unknown
code-small ANumber = omega arith
code-small ASet = omega arith
code-small AFormula = omega arith
code-small ABus = omega arith
code-small AValue = omega arith
code-small AType = omega arith
code-small Unknown = omega arith

fits-code : (d k : ℕ) → d ≤ type_code Unknown → fits d k ≡ eqb d k
unfolding fits
fits-code d k h = leave (eqb d takes_any) _ _ (ne_eqb d takes_any (λ e. omega arith)) ∙ leave (eqb d takes_definable) _ _ (ne_eqb d takes_definable (λ e. omega arith))

fits_type : (d k : ℕ) (K : ExprType) → d ≡ type_code K → fits d k ≡ eqb (type_code K) k
fits_type d k K e = ap (λ j. fits j k) e ∙ fits-code (type_code K) k (code-small K)

any_fits : (k : ℕ) → fits takes_any k ≡ true
unfolding fits
any_fits k = refl

-- what a kind takes
pub record Takes (k other last : ℕ) : Type 0 where
  pub others : get_or other_takes k 0 ≡ other
  pub final : get_or last_takes k 0 ≡ last
  pub plain : eqb k EntryKind.element ≡ false

pub last_takes_lem : {k other last : ℕ} → Takes k other last → (n : ℕ) → takes_last k n ≡ last
unfolding takes_last
last_takes_lem {k} h n = leave (eqb k EntryKind.element) _ _ h.plain ∙ h.final

-- no equation
pub by_misfits : (k other : ℕ) (ks ss : List ℕ) → get_or other_takes k 0 ≡ other → (other ≡ takes_sides → ⊥) → wrong_at k ks ss ≡ misfits other (takes_last k (length ks)) ks ss
unfolding wrong_at
by_misfits k other ks ss e h = leave (eqb (get_or other_takes k 0) takes_sides) _ _ (ne_eqb _ _ (λ z. h (sym e ∙ z))) ∙ ap (λ o. misfits o (takes_last k (length ks)) ks ss) e

pub none_wrong : {k other last : ℕ} → Takes k other last → (other ≡ takes_sides → ⊥) → wrong_at k [] [] ≡ none
none_wrong h o = by_misfits _ _ [] [] h.others o

-- one operand, of any type or of one
pub any_wrong : {k other : ℕ} (a s : ℕ) → Takes k other takes_any → (other ≡ takes_sides → ⊥) → wrong_at k (a ∷ []) (s ∷ []) ≡ none
any_wrong {k} {other} a s h o =
    by_misfits k other (a ∷ []) (s ∷ []) h.others o ∙ ap (λ l. misfits other l (a ∷ []) (s ∷ [])) (last_takes_lem h 1) ∙ ap (λ b. first (unless b s) none) (any_fits a)

pub one-wrong : {k other : ℕ} (L : ExprType) (a s : ℕ) → Takes k other (type_code L) → (other ≡ takes_sides → ⊥) → wrong_at k (a ∷ []) (s ∷ []) ≡ lack L a s
one-wrong {k} {other} L a s h o =
    by_misfits k other (a ∷ []) (s ∷ []) h.others o ∙ ap (λ l. misfits other l (a ∷ []) (s ∷ [])) (last_takes_lem h 1)
    ∙ ap (λ b. first (unless b s) none) (fits_type _ a L refl) ∙ first_none _

-- two and three operands
pub two-wrong : {k : ℕ} (K L : ExprType) (a b s t : ℕ) → Takes k (type_code K) (type_code L) → wrong_at k (a ∷ b ∷ []) (s ∷ t ∷ []) ≡ first (lack K a s) (lack L b t)
two-wrong {k} K L a b s t h =
    by_misfits k (type_code K) (a ∷ b ∷ []) (s ∷ t ∷ []) h.others (λ e. omega (arith, code-small K)) ∙ ap (λ l. misfits (type_code K) l (a ∷ b ∷ []) (s ∷ t ∷ [])) (last_takes_lem h 2)
    ∙ ap₂ (λ x y. first (unless x s) (first (unless y t) none)) (fits_type _ a K refl) (fits_type _ b L refl) ∙ ap (first (lack K a s)) (first_none _)

pub three-wrong : {k : ℕ} (K L : ExprType) (a b c s t u : ℕ) → Takes k (type_code K) (type_code L) →
    wrong_at k (a ∷ b ∷ c ∷ []) (s ∷ t ∷ u ∷ []) ≡ first (lack K a s) (first (lack K b t) (lack L c u))
three-wrong {k} K L a b c s t u h =
    by_misfits k (type_code K) (a ∷ b ∷ c ∷ []) (s ∷ t ∷ u ∷ []) h.others (λ e. omega (arith, code-small K)) ∙ ap (λ l. misfits (type_code K) l (a ∷ b ∷ c ∷ []) (s ∷ t ∷ u ∷ [])) (last_takes_lem h 3)
    ∙ ap₂ (λ x y. first (unless x s) (first (unless y t) (first (unless (fits (type_code L) c) u) none))) (fits_type _ a K refl) (fits_type _ b K refl)
    ∙ ap (λ x. first (lack K a s) (first (lack K b t) (first (unless x u) none))) (fits_type _ c L refl) ∙ ap (λ x. first (lack K a s) (first (lack K b t) x)) (first_none _)

-- a big operator: its name is asked for its set by itself
pub second-wrong : {k : ℕ} (L : ExprType) (a b s t : ℕ) → Takes k takes_any (type_code L) → wrong_at k (a ∷ b ∷ []) (s ∷ t ∷ []) ≡ lack L b t
second-wrong {k} L a b s t h =
    by_misfits k takes_any (a ∷ b ∷ []) (s ∷ t ∷ []) h.others (λ e. omega arith) ∙ ap (λ l. misfits takes_any l (a ∷ b ∷ []) (s ∷ t ∷ [])) (last_takes_lem h 2)
    ∙ ap₂ (λ x y. first (unless x s) (first (unless y t) none)) (any_fits a) (fits_type _ b L refl) ∙ first_none _

-- an element of a set, the last one or not
pub last-wrong : (a s : ℕ) → wrong_at EntryKind.element (a ∷ []) (s ∷ []) ≡ lack ANumber a s
unfolding takes_last
last-wrong a s = by_misfits EntryKind.element (type_code ANumber) (a ∷ []) (s ∷ []) refl (λ e. omega arith) ∙ ap (λ b. first (unless b s) none) (fits_type _ a ANumber refl) ∙ first_none _

pub more-wrong : (a b s t : ℕ) → wrong_at EntryKind.element (a ∷ b ∷ []) (s ∷ t ∷ []) ≡ lack ANumber a s
unfolding takes_last
more-wrong a b s t =
    by_misfits EntryKind.element (type_code ANumber) (a ∷ b ∷ []) (s ∷ t ∷ []) refl (λ e. omega arith)
    ∙ ap₂ (λ x y. first (unless x s) (first (unless y t) none)) (fits_type _ a ANumber refl) (any_fits b) ∙ first_none _

-- no index
pub unindexed : (k name place : ℕ) → (get_or other_takes k 0 ≡ takes_index → ⊥) → indexed k name place ≡ none
unfolding indexed
unindexed k name place h = leave (eqb (get_or other_takes k 0) takes_index) _ _ (ne_eqb _ _ h)

pub on_bus : (name place : ℕ) → indexed EntryKind.index name place ≡ unless (eqb (type_code ABus) name) place
unfolding indexed fits
on_bus name place = refl

-- The ways through the pass's definitions, by what the code tests.
use Rattle.std.specs.Prelude.{ℕ, suc, ◌+◌, ◌-◌, ◌≤◌, ◌<◌, List, Bool, true, false, ◌≡◌, refl, ltb, length, get_or, take, drop, Some, None}
use Rattle.std.proofs.Math.Option.{Option, none}
use Rattle.std.proofs.Math.Path.{sym, ap}
use Rattle.std.proofs.Common.{ap₂, ◌∙◌, drop-drop, add-one, arith, eq-eqb, ne_eqb, lt-ltb, le-ltb}
use Rattle.std.proofs.Math.Dec.{eqb}
use Rattle.std.proofs.Math.Seq.{slice, slice-cons, length-slice}
use Rattle.language.specs.Bytes.{if◌then◌otherwise◌}
use Rattle.language.specs.Places.{first, unless}
use Rattle.language.proofs.Laws.Basics.Tests.{pick, leave}
use Rattle.language.specs.Limits.{max_names}
use Rattle.language.specs.Types.{ANumber, ABus, AValue, type_code}
use Rattle.language.proofs.Laws.Basics.NoPlace.{first_none, first_assoc}
use Rattle.entries.specs.Kinds as Kind
use Rattle.traversal.specs.Places.{Place, placed, place_in}
use Rattle.traversal.specs.PlaceLaws.{place-placed, placed-place}
use Rattle.traversal.specs.StackLaws.{no_part}
use Rattle.traversal.specs.Starts.{first_of}
use Rattle.types.specs.Codes.{gives_name, gives_operand, takes_any, takes_definable, first_undefinable, takes_sides, takes_index}
use Rattle.types.specs.Kinds.{giving, last_takes, other_takes, gives_of, fits, takes_last, demand, misfits, sides_of, indexed, type_at}
use Rattle.types.specs.Pass.{wrong_at}

-- places
pub nowhere : (b : Bool) (p : ℕ) → b ≡ true → None ≡ placed (unless b p)
unfolding placed
nowhere true p e = refl
nowhere false p e = ap (λ b. placed (unless b p)) (sym e)

pub here : (b : Bool) (p : ℕ) → b ≡ false → Some p ≡ placed (unless b p)
unfolding placed
here true p e = ap (λ b. placed (unless b p)) (sym e)
here false p e = refl

-- names
pub declared_type_lem : (table : List ℕ) (r : ℕ) → r < max_names → get_or table r 0 ≡ type_at table r
unfolding type_at
declared_type_lem table r h = sym (pick (ltb r max_names) _ _ (lt-ltb _ _ h))

pub bound_type : (table : List ℕ) (r : ℕ) → max_names ≤ r → type_code ANumber ≡ type_at table r
unfolding type_at
bound_type table r h = sym (leave (ltb r max_names) _ _ (le-ltb _ _ h))

-- what an entry gives
module _ (k name operand : ℕ) where
  pub gives_by : (v : ℕ) → v ≡ get_or giving k 0 → (if eqb v gives_name then name otherwise (if eqb v gives_operand then operand otherwise v)) ≡ gives_of k name operand
  unfolding gives_of
  gives_by v e = ap (λ u. if eqb u gives_name then name otherwise (if eqb u gives_operand then operand otherwise u)) e

-- does it fit?
module _ (d k : ℕ) where
  pub fits_any : d ≡ takes_any → fits d k ≡ true
  unfolding fits
  fits_any e = pick (eqb d takes_any) _ _ (eq-eqb _ _ e)

  other_demand : (d ≡ takes_any → ⊥) → d ≡ takes_definable → fits d k ≡ ltb k first_undefinable
  unfolding fits
  other_demand e h = leave (eqb d takes_any) _ _ (ne_eqb _ _ e) ∙ pick (eqb d takes_definable) _ _ (eq-eqb _ _ h)

  pub fits-definable : (d ≡ takes_any → ⊥) → d ≡ takes_definable → k < first_undefinable → fits d k ≡ true
  fits-definable e h l = other_demand e h ∙ lt-ltb _ _ l

  pub not-definable : (d ≡ takes_any → ⊥) → d ≡ takes_definable → first_undefinable ≤ k → fits d k ≡ false
  not-definable e h l = other_demand e h ∙ le-ltb _ _ l

  one-demand : (d ≡ takes_any → ⊥) → (d ≡ takes_definable → ⊥) → fits d k ≡ eqb d k
  unfolding fits
  one-demand e h = leave (eqb d takes_any) _ _ (ne_eqb _ _ e) ∙ leave (eqb d takes_definable) _ _ (ne_eqb _ _ h)

  pub fits_one : (d ≡ takes_any → ⊥) → (d ≡ takes_definable → ⊥) → d ≡ k → fits d k ≡ true
  fits_one e h z = one-demand e h ∙ eq-eqb _ _ z

  pub not-one : (d ≡ takes_any → ⊥) → (d ≡ takes_definable → ⊥) → (d ≡ k → ⊥) → fits d k ≡ false
  not-one e h z = one-demand e h ∙ ne_eqb _ _ z

-- the last operand
module _ (k n : ℕ) where
  pub last_more : k ≡ Kind.element → n ≡ 2 → takes_any ≡ takes_last k n
  unfolding takes_last
  last_more e h = sym (pick (eqb k Kind.element) _ _ (eq-eqb _ _ e) ∙ pick (eqb n 2) _ _ (eq-eqb _ _ h))

  pub last_one : k ≡ Kind.element → (n ≡ 2 → ⊥) → type_code ANumber ≡ takes_last k n
  unfolding takes_last
  last_one e h = sym (pick (eqb k Kind.element) _ _ (eq-eqb _ _ e) ∙ leave (eqb n 2) _ _ (ne_eqb _ _ h))

  pub last-table : (k ≡ Kind.element → ⊥) → get_or last_takes k 0 ≡ takes_last k n
  unfolding takes_last
  last-table e = sym (leave (eqb k Kind.element) _ _ (ne_eqb _ _ e))

-- the sides of an equation
module _ (a b s t : ℕ) where
  pub number_side : a ≡ type_code ANumber → placed (unless (fits (type_code ANumber) b) t) ≡ placed (sides_of a b s t)
  unfolding sides_of
  number_side e = ap placed (sym (pick (eqb a (type_code ANumber)) _ _ (eq-eqb _ _ e)))

  pub bus_side : (a ≡ type_code ANumber → ⊥) → a ≡ type_code ABus → placed (unless (fits (type_code AValue) b) t) ≡ placed (sides_of a b s t)
  unfolding sides_of
  bus_side d e = ap placed (sym (leave (eqb a (type_code ANumber)) _ _ (ne_eqb _ _ d) ∙ pick (eqb a (type_code ABus)) _ _ (eq-eqb _ _ e)))

  pub value_side : (a ≡ type_code ANumber → ⊥) → (a ≡ type_code ABus → ⊥) → a ≡ type_code AValue → placed (unless (fits (type_code ABus) b) t) ≡ placed (sides_of a b s t)
  unfolding sides_of
  value_side d h e = ap placed (sym (leave (eqb a (type_code ANumber)) _ _ (ne_eqb _ _ d) ∙ leave (eqb a (type_code ABus)) _ _ (ne_eqb _ _ h) ∙ pick (eqb a (type_code AValue)) _ _ (eq-eqb _ _ e)))

  pub no_side : (a ≡ type_code ANumber → ⊥) → (a ≡ type_code ABus → ⊥) → (a ≡ type_code AValue → ⊥) → Some s ≡ placed (sides_of a b s t)
  unfolding sides_of placed
  no_side d h e = ap placed (sym (leave (eqb a (type_code ANumber)) _ _ (ne_eqb _ _ d) ∙ leave (eqb a (type_code ABus)) _ _ (ne_eqb _ _ h) ∙ leave (eqb a (type_code AValue)) _ _ (ne_eqb _ _ e)))

-- an index
module _ (k name place : ℕ) where
  pub index-bus : get_or other_takes k 0 ≡ takes_index → placed (unless (fits (type_code ABus) name) place) ≡ placed (indexed k name place)
  unfolding indexed
  index-bus e = ap placed (sym (pick (eqb (get_or other_takes k 0) takes_index) _ _ (eq-eqb _ _ e)))

  pub no_index : (get_or other_takes k 0 ≡ takes_index → ⊥) → None ≡ placed (indexed k name place)
  unfolding indexed placed
  no_index e = ap placed (sym (leave (eqb (get_or other_takes k 0) takes_index) _ _ (ne_eqb _ _ e)))

-- the operands
module _ (k : ℕ) (ks ss : List ℕ) where
  pub sides_wrong : get_or other_takes k 0 ≡ takes_sides → sides_of (first_of ks) (first_of (drop 1 ks)) (first_of ss) (first_of (drop 1 ss)) ≡ wrong_at k ks ss
  unfolding wrong_at
  sides_wrong e = sym (pick (eqb (get_or other_takes k 0) takes_sides) _ _ (eq-eqb _ _ e))

  pub misfits-wrong : (get_or other_takes k 0 ≡ takes_sides → ⊥) → misfits (get_or other_takes k 0) (takes_last k (length ks)) ks ss ≡ wrong_at k ks ss
  unfolding wrong_at
  misfits-wrong e = sym (leave (eqb (get_or other_takes k 0) takes_sides) _ _ (ne_eqb _ _ e))

-- one operand after the other
module _ (other last : ℕ) (ks ss : List ℕ) (i to : ℕ) (few : to ≤ length ks) (few' : to ≤ length ss) where
  pub misfits_none : to ≤ i → misfits other last (slice i to ks) (slice i to ss) ≡ none
  misfits_none h = ap (λ l. misfits other last l (slice i to ss)) (no_part ks i to h)

  rest : i < to → (d : ℕ) → demand other last (slice (suc i) to ks) ≡ d →
      misfits other last (slice i to ks) (slice i to ss) ≡ first (unless (fits d (get_or ks i 0)) (get_or ss i 0)) (misfits other last (slice (i + 1) to ks) (slice (i + 1) to ss))
  rest h d e =
      ap₂ (misfits other last) (slice-cons i to ks 0 h few) (slice-cons i to ss 0 h few')
      ∙ ap (λ x. first (unless (fits x (get_or ks i 0)) (get_or ss i 0)) (misfits other last (slice (suc i) to ks) (slice (suc i) to ss))) e
      ∙ ap (λ j. first (unless (fits d (get_or ks i 0)) (get_or ss i 0)) (misfits other last (slice j to ks) (slice j to ss))) (sym (add-one i))

  pub misfits-last : i + 1 ≡ to → misfits other last (slice i to ks) (slice i to ss) ≡ first (unless (fits last (get_or ks i 0)) (get_or ss i 0))
      (misfits other last (slice (i + 1) to ks) (slice (i + 1) to ss))
  misfits-last e = rest (omega arith) last (ap (demand other last) (no_part ks (suc i) to (omega arith)))

  pub misfits_other : i < to → (i + 1 ≡ to → ⊥) → misfits other last (slice i to ks) (slice i to ss) ≡ first (unless (fits other (get_or ks i 0)) (get_or ss i 0))
      (misfits other last (slice (i + 1) to ks) (slice (i + 1) to ss))
  misfits_other h n = rest h other (ap (demand other last) (slice-cons (suc i) to ks 0 (omega arith) few))

  -- with what was found before
  module _ (found : Place) (whole : Option ℕ) (inv : first (place_in found) (misfits other last (slice i to ks) (slice i to ss)) ≡ whole) where
    pub found_all : to ≤ i → found ≡ placed whole
    found_all h = sym (placed-place found) ∙ ap placed (sym (first_none (place_in found)) ∙ ap (first (place_in found)) (sym (misfits_none h)) ∙ inv)

    module _ (m r : Place) (hr : r ≡ placed (first (place_in found) (place_in m))) where
      pub found-other : i < to → (i + 1 ≡ to → ⊥) → m ≡ placed (unless (fits other (get_or ks i 0)) (get_or ss i 0))
          → first (place_in r) (misfits other last (slice (i + 1) to ks) (slice (i + 1) to ss)) ≡ whole
      found-other h n hm =
          ap (λ u. first u (misfits other last (slice (i + 1) to ks) (slice (i + 1) to ss))) (ap place_in hr ∙ place-placed _ ∙ ap (first (place_in found)) (ap place_in hm ∙ place-placed _))
          ∙ first_assoc (place_in found) _ _ ∙ ap (first (place_in found)) (sym (misfits_other h n)) ∙ inv

      pub found-last : i + 1 ≡ to → m ≡ placed (unless (fits last (get_or ks i 0)) (get_or ss i 0)) → r ≡ placed whole
      found-last e hm =
          let u : Option ℕ = unless (fits last (get_or ks i 0)) (get_or ss i 0) in
          let no : misfits other last (slice (i + 1) to ks) (slice (i + 1) to ss) ≡ none = ap (λ l. misfits other last l (slice (i + 1) to ss)) (no_part ks (i + 1) to (omega arith)) in
          hr ∙ ap (λ v. placed (first (place_in found) v)) (ap place_in hm ∙ place-placed u) ∙ ap placed (ap (first (place_in found)) (sym (misfits-last e ∙ ap (first u) no ∙ first_none u)) ∙ inv)

-- the operands that stand from `from` up to `to`
module _ (k : ℕ) (ks ss : List ℕ) (from to : ℕ) where
  second : (ls : List ℕ) → drop 1 (slice from to ls) ≡ slice (from + 1) to ls
  second ls = drop-drop 1 from (take to ls)

  pub wrong_sides_lem : {a b s t : ℕ} (r : Place) → get_or other_takes k 0 ≡ takes_sides → a ≡ first_of (slice from to ks) → b ≡ first_of (slice (from + 1) to ks) → s ≡ first_of (slice from to ss)
      → t ≡ first_of (slice (from + 1) to ss)
      → r ≡ placed (sides_of a b s t) → r ≡ placed (wrong_at k (slice from to ks) (slice from to ss))
  wrong_sides_lem {a} {b} {s} {t} r e ha hb hs ht hr =
      hr ∙ ap₂ (λ x y. placed (sides_of x y s t)) ha (hb ∙ ap first_of (sym (second ks))) ∙ ap₂ (λ x y. placed (sides_of (first_of (slice from to ks)) (first_of (drop 1 (slice from to ks))) x y)) hs
      (ht ∙ ap first_of (sym (second ss)))
      ∙ ap placed (sides_wrong k (slice from to ks) (slice from to ss) e)

  pub wrong-misfits : {o l : ℕ} (r : Place) → (get_or other_takes k 0 ≡ takes_sides → ⊥) → to ≤ length ks → o ≡ get_or other_takes k 0 → l ≡ takes_last k (to - from)
      → r ≡ placed (misfits o l (slice from to ks) (slice from to ss)) → r ≡ placed (wrong_at k (slice from to ks) (slice from to ss))
  wrong-misfits r e few ho hl hr =
      hr ∙ ap₂ (λ x y. placed (misfits x y (slice from to ks) (slice from to ss))) ho (hl ∙ ap (takes_last k) (sym (length-slice from to ks few))) ∙ ap placed
      (misfits-wrong k (slice from to ks) (slice from to ss) e)

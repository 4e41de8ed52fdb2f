-- The steps of Walking one at a time, and of the search for a break.
use Prim.Native.Nat.{ℕ, zero, suc, ◌+◌, ◌*◌, ◌-◌, ◌/◌, ◌%◌, ◌^◌, ◌≤◌, ◌<◌}
use Rattle.std.specs.Prelude.{◌≡◌, Bool, true, false, cond, not, ◌&&◌, ◌||◌, List, eqb, length}
use Rattle.std.proofs.Math.Path.{refl, ap}
use Rattle.std.proofs.Common.{sym, ◌∙◌, mul-le-mul}
use Rattle.std.proofs.lemmas.Bool.{false≢true}
use Rattle.std.proofs.Math.Option.{Option, none, some}
use Rattle.std.proofs.Math.Nat.{zero-div}
use native.Mathlib.Omega.{arith}
use Rattle.std.proofs.Math.ListN.{get_or-eq_default}
use Rattle.basics.specs.Told.{max_told}
use Rattle.node.specs.Fields.{first_of, second_of}
use Rattle.bits.specs.Bits.{Values, bit_at}
use Rattle.language.specs.Bytes.{if◌then◌otherwise◌}
use Rattle.faults.specs.Naming.{broken_from}
use Rattle.rows.specs.Memory.{row_bytes}
use Rattle.line_search.specs.Walking.{operand_of, walked, seen}

-- past the end of a table, or of the rows
pub bit_past : (bs : List ℕ) (i : ℕ) → length bs ≤ i / 8 → bit_at bs i ≡ false
unfolding bit_at
bit_past bs i h = ap (λ (x : ℕ). eqb (x / 2 ^ (7 - i % 8) % 2) 1) (get_or-eq_default bs 0 h) ∙ ap (λ (x : ℕ). eqb (x % 2) 1) (zero-div (2 ^ (7 - i % 8)))

pub operand-past : (ws : List ℕ) (i : ℕ) (second : Bool) → length ws ≤ i → operand_of ws i second ≡ 0
operand-past ws i true h = ap second_of (get_or-eq_default ws 0 h)
operand-past ws i false h = ap first_of (get_or-eq_default ws 0 h)

-- a choice as the definitions write it
pub chosen : {A : Type 0} (b : Bool) (x y : A) → cond b x y ≡ (if b then x otherwise y)
chosen true x y = refl
chosen false x y = refl

-- a row's bit has a small number
pub bit-small : (width i : ℕ) → width ≤ row_bytes → i ≤ max_told → width * i ≤ row_bytes * max_told
bit-small width i h l = mul-le-mul h l

-- a path
module _ (ws : List ℕ) (path k i : ℕ) where
  pub walked_step : 0 < k → walked ws path k i ≡ walked ws (path / 2) (k - 1) (operand_of ws i (eqb (path % 2) 1))
  unfolding walked
  walked_step h = go k h
    where
      go : (k : ℕ) → 0 < k → walked ws path k i ≡ walked ws (path / 2) (k - 1) (operand_of ws i (eqb (path % 2) 1))
      go zero h = absurd (omega arith)
      go (suc k) h = let e : k ≡ suc k - 1 = omega arith in ap (λ (m : ℕ). walked ws (path / 2) m (operand_of ws i (eqb (path % 2) 1))) e

  pub walked_end : k ≤ 0 → walked ws path k i ≡ i
  unfolding walked
  walked_end h = go k h
    where
      go : (k : ℕ) → k ≤ 0 → walked ws path k i ≡ i
      go zero h = refl
      go (suc k) h = absurd (omega arith)

-- the lines of a section, the last first
module _ (ws : List ℕ) (value : ℕ → Bool) (i k f : ℕ) where
  pub seen_step : 1 < k → seen ws value i k f ≡ seen ws value (operand_of ws i false) (k - 1) (if value (operand_of ws i true) then f otherwise k)
  unfolding seen
  seen_step h = go k h
    where
      go : (k : ℕ) → 1 < k → seen ws value i k f ≡ seen ws value (operand_of ws i false) (k - 1) (if value (operand_of ws i true) then f otherwise k)
      go zero h = absurd (omega arith)
      go (suc zero) h = absurd (omega arith)
      go (suc (suc k)) h =
          let e : suc k ≡ suc (suc k) - 1 = omega arith in
          ap (λ (m : ℕ). seen ws value (operand_of ws i false) m (if value (operand_of ws i true) then f otherwise suc (suc k))) e

  pub seen_one : k ≡ 1 → seen ws value i k f ≡ (if value i then f otherwise 1)
  unfolding seen
  seen_one e = ap (λ (m : ℕ). seen ws value i m f) e

  pub seen_none : k ≡ 0 → seen ws value i k f ≡ f
  unfolding seen
  seen_none e = ap (λ (m : ℕ). seen ws value i m f) e

-- the search for a break: `kept` is what is asked at p, and `holds` the value of ASSERT there
module _ (strict : Bool) (require assert : Values) (n p : ℕ) where
  abbrev search : Option ℕ
  search = broken_from strict require assert p (n - p)

  one_more : p < n → n - p ≡ suc (n - (p + 1))
  one_more h = omega arith

  opened : p < n → search ≡ (if strict && not (require p) then none otherwise (if assert p then broken_from strict require assert (suc p) (n - (p + 1)) otherwise some p))
  unfolding broken_from
  opened h = ap (broken_from strict require assert p) (one_more h)

  pub broken_end : n ≤ p → search ≡ none
  unfolding broken_from
  broken_end h = let e : n - p ≡ 0 = omega arith in ap (broken_from strict require assert p) e

  pub unrequired : p < n → not strict || require p ≡ false → search ≡ none
  unrequired h e = opened h ∙ go strict (require p) e
    where
      go : (s r : Bool) → not s || r ≡ false → (if s && not r then none otherwise (if assert p then broken_from strict require assert (suc p) (n - (p + 1)) otherwise some p)) ≡ none
      go true false e = refl
      go true true e = absurd (false≢true (sym e))
      go false r e = absurd (false≢true (sym e))

  met : (s r : Bool) (x y : Option ℕ) → not s || r ≡ true → (if s && not r then x otherwise y) ≡ y
  met true true x y e = refl
  met true false x y e = absurd (false≢true e)
  met false r x y e = refl

  pub broken_here : p < n → not strict || require p ≡ true → assert p ≡ false → search ≡ some p
  broken_here h e a = opened h ∙ met strict (require p) _ _ e ∙ ap (λ (b : Bool). if b then broken_from strict require assert (suc p) (n - (p + 1)) otherwise some p) a

  pub broken_on : p < n → not strict || require p ≡ true → assert p ≡ true → search ≡ broken_from strict require assert (p + 1) (n - (p + 1))
  broken_on h e a =
      opened h ∙ met strict (require p) _ _ e ∙ ap (λ (b : Bool). if b then broken_from strict require assert (suc p) (n - (p + 1)) otherwise some p) a
      ∙ (let q : suc p ≡ p + 1 = omega arith in ap (λ (x : ℕ). broken_from strict require assert x (n - (p + 1))) q)

-- Laws of intersection and difference: an element's place in an ascending set tells whether it is one of them.
use Rattle.std.specs.Prelude.{ℕ, zero, suc, ◌≤◌, ◌<◌, ◌≡◌, refl, Bool, true, false, not, ◌||◌, List, [], ◌∷◌, eqb, length, get_or, take, Ok}
use Rattle.std.proofs.Common.{sym, ap, ap₂, ◌∙◌, length-take, get_or-take, length-take-le, arith, eq-eqb, ne_eqb, le-leb}
use Rattle.node.specs.Result.{Done}
use Rattle.node.proofs.ResultLaws.{guard-pass}
use Rattle.language.specs.Limits.{max_number, max_elements}
use Rattle.language.specs.Sets.{member_of, keep, combine}
use Rattle.language.specs.Values.{limited}
use Rattle.language.specs.Operators.{Cup, Cap, Without}
use Rattle.language.proofs.Laws.Basics.Tests.{or_left, or_right}
use Rattle.language.proofs.Laws.Values.SetLaws.{Ascending}
use Rattle.operators.specs.Codes.{combination_code}
use Rattle.sets.specs.Answers.{SetIs}
use Rattle.sets.specs.Operators.{numbered, combination}
use Rattle.sets.specs.OperatorLaws.{another}
use Rattle.sets.specs.Listing.{Parted}
use Rattle.sets.specs.Combined.{Ordered, selection, passing, Selected}

-- the combination is what passes
pub selected_keep : (inside : Bool) (s t : List ℕ) → combine (selection inside) s t ≡ keep (passing inside t) s
selected_keep true s t = refl
selected_keep false s t = refl

-- an element at j; none below the first
member_at_lem : (t : List ℕ) (j x : ℕ) → j < length t → x ≡ get_or t j 0 → member_of t x ≡ true
member_at_lem [] j x l e = absurd (omega arith)
member_at_lem (y ∷ t) zero x l e = or_left (eqb x y) (member_of t x) (eq-eqb x y e)
member_at_lem (y ∷ t) (suc j) x l e = or_right (eqb x y) (member_of t x) (member_at_lem t j x (omega arith) e)

missing : (low high x : ℕ) (t : List ℕ) → Ascending low high t → x < low → member_of t x ≡ false
missing low high x [] h l = refl
missing low high x (y ∷ t) h l =
    ap₂ ◌||◌ (ne_eqb x y (λ e. omega (arith, h.0))) (missing (suc y) high x t h.2 (omega (arith, h.0)))

-- x stands between the entries before j and that at j
member_none : (low high x : ℕ) (t : List ℕ) (j : ℕ) → Ascending low high t → j ≤ length t → ((k : ℕ) → k < j → get_or t k 0 < x) → (j < length t → x < get_or t j 0) → member_of t x ≡ false
member_none low high x [] j h l lower upper = refl
member_none low high x (y ∷ t) zero h l lower upper =
    let less : x < y = upper (omega arith) in
    ap₂ ◌||◌ (ne_eqb x y (λ e. omega arith)) (missing (suc y) high x t h.2 (omega arith))
member_none low high x (y ∷ t) (suc j) h l lower upper =
    let less : y < x = lower 0 (omega arith) in
    ap₂ ◌||◌ (ne_eqb x y (λ e. omega arith)) (member_none (suc y) high x t j h.2 (omega arith) (λ k m. lower (suc k) (omega arith)) (λ m. upper (omega arith)))

passing_in : (inside : Bool) (t : List ℕ) (x : ℕ) → member_of t x ≡ true → inside ≡ passing inside t x
passing_in true t x e = sym e
passing_in false t x e = ap not (sym e)

passing_out : (inside : Bool) (t : List ℕ) (x : ℕ) → member_of t x ≡ false → not inside ≡ passing inside t x
passing_out true t x e = sym e
passing_out false t x e = ap not (sym e)

module _ (inside : Bool) (b : List ℕ) (j m x : ℕ) (h : Ordered b m) (parted : Parted b j m x) where
  whole : length (take m b) ≡ m
  whole = length-take-le m b (omega (arith, h.few, h.room))

  pub passes_there : j < m → x ≡ get_or b j 0 → inside ≡ passing inside (take m b) x
  passes_there l e = passing_in inside (take m b) x (member_at_lem (take m b) j x (omega (arith, whole)) (e ∙ sym (get_or-take m b j 0 l)))

  pub passes-not : (j < m → x < get_or b j 0) → not inside ≡ passing inside (take m b) x
  passes-not upper =
      let bound = parted.bound in
      passing_out inside (take m b) x
      (member_none 0 max_number x (take m b) j h.ascends (omega (arith, whole))
      (λ k l. let less = parted.lower k l in let same = get_or-take m b k 0 (omega arith) in omega arith)
      (λ l. let within : j < m = omega (arith, whole) in let less = upper within in let same = get_or-take m b j 0 within in omega arith))

-- neighbours ascend
neighbours : (low high : ℕ) (s : List ℕ) (i : ℕ) → Ascending low high s → suc i < length s → get_or s i 0 < get_or s (suc i) 0
neighbours low high [] i h l = absurd (omega arith)
neighbours low high (x ∷ []) i h l = absurd (omega arith)
neighbours low high (x ∷ y ∷ s) zero h l = h.2.0
neighbours low high (x ∷ y ∷ s) (suc i) h l = neighbours (suc x) high (y ∷ s) i h.2 (omega arith)

pub ascends_at : (a : List ℕ) (n i : ℕ) → Ordered a n → suc i < n → get_or a i 0 < get_or a (suc i) 0
ascends_at a n i h l =
    let whole = length-take-le n a (omega (arith, h.few, h.room)) in
    let here = get_or-take n a i 0 (omega arith) in
    let next = get_or-take n a (suc i) 0 l in
    let less = neighbours 0 max_number (take n a) i h.ascends (omega arith) in
    omega arith

-- the operator by its number; what is selected is within the limit
pub selection_of : (k : ℕ) → ¬ (k ≡ combination_code Cup) → selection (eqb k (combination_code Cap)) ≡ combination k
selection_of k h = same (eqb k (combination_code Cap)) ∙ sym (another combination_code k Cup {other = numbered combination_code k Cap Without} h)
  where
    same : (b : Bool) → selection b ≡ elim b [ true ↦ Cap | false ↦ Without ]
    same true = refl
    same false = refl

pub selected_limited : (place : ℕ) (s a : List ℕ) (n : ℕ) → Selected s a n → SetIs (Ok n) a (limited place s)
selected_limited place s a n h =
    let same = ap length h.same in
    let size = length-take n a in
    record { says = ap Done h.same ∙ sym (guard-pass _ _ _ (le-leb (length s) max_elements (omega (arith, h.few)))); few = h.few }

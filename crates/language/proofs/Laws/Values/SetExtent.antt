-- A set's list ascends strictly, so equal sets are equal lists; what its least and greatest element and the number of its elements are.
use Rattle.std.specs.Prelude.{ℕ, zero, suc, ◌≤◌, ◌<◌, ◌≡◌, refl, Bool, true, false, ◌||◌, List, [], ◌∷◌, ◌↔◌, eqb, length}
use Rattle.std.proofs.Common.{sym, ap, ap₂, ◌∙◌, arith, eqb-true, ne_eqb}
use Rattle.std.proofs.lemmas.Bool.{false≢true, eqb-false}
use Rattle.std.proofs.Math.Bool.{So}
use Rattle.node.proofs.LogicLaws.{so_same}
use Rattle.node.specs.Result.{Done}
use Rattle.language.specs.Operators.{Size, Min, Max}
use Rattle.language.specs.Sets.{member_of, last}
use Rattle.language.specs.Values.{measure}
use Rattle.language.proofs.Laws.Basics.Tests.{or_left}
use Rattle.language.proofs.Laws.Values.SetMembers.{member-cases, member-first, member-later}
use Rattle.language.proofs.Laws.Basics.Exactly.{Exactly, exactly, never}

-- strictly ascending, from `low` on
abbrev pub Rising : (low : ℕ) → List ℕ → Type 0
Rising low [] = Unit {0}
Rising low (x ∷ s) = (low ≤ x) × Rising (suc x) s

pub rising_low : (low : ℕ) (s : List ℕ) → Rising low s → (k : ℕ) → So (member_of s k) → low ≤ k
rising_low low [] h k m = absurd (false≢true m)
rising_low low (x ∷ s) h k m =
    member-cases x s k (λ e. omega (arith, h.0)) (λ r. let above = rising_low (suc x) s h.1 k r in omega (arith, h.0)) m

-- an element below the first is not in the list
missing : (x k : ℕ) (s : List ℕ) → Rising (suc x) s → k ≤ x → member_of s k ≡ false
missing x k s h l = go (member_of s k) (rising_low (suc x) s h k)
  where
    go : (b : Bool) → (b ≡ true → suc x ≤ k) → b ≡ false
    go true f = absurd (let above = f refl in omega arith)
    go false f = refl

-- equal sets are equal lists
pub same-elements : (m n : ℕ) (s t : List ℕ) → Rising m s → Rising n t → ((k : ℕ) → member_of s k ≡ member_of t k) → s ≡ t
same-elements m n [] [] h g e = refl
same-elements m n [] (y ∷ t) h g e = absurd (false≢true (e y ∙ member-first y t))
same-elements m n (x ∷ s) [] h g e = absurd (false≢true (sym (e x) ∙ member-first x s))
same-elements m n (x ∷ s) (y ∷ t) h g e =
    let below : y ≤ x = rising_low y (y ∷ t) (omega arith, g.1) x (sym (e x) ∙ member-first x s) in
    let above : x ≤ y = rising_low x (x ∷ s) (omega arith, h.1) y (e y ∙ member-first y t) in
    let equal : x ≡ y = omega arith in
    ap₂ ◌∷◌ equal (same-elements (suc x) (suc y) s t h.1 g.1 (λ k. rest k equal (eqb k x) refl))
  where
    rest : (k : ℕ) → x ≡ y → (b : Bool) → eqb k x ≡ b → member_of s k ≡ member_of t k
    rest k equal true q =
        let here = eqb-true k x q in
        missing x k s h.1 (omega arith) ∙ sym (missing y k t g.1 (omega arith))
    rest k equal false q =
        let other : eqb k y ≡ false = ne_eqb k y (λ z. eqb-false k x q (omega arith)) in
        rw (q, other) at (e k)

-- the list of the numbers that P holds of
pub record Lists (P : ℕ → Type 0) (s : List ℕ) : Type 0 where
  pub rises : Rising 0 s
  pub members : (k : ℕ) → So (member_of s k) ↔ P k

pub lists-one : (P : ℕ → Type 0) (s t : List ℕ) → Lists P s → Lists P t → s ≡ t
lists-one P s t h g =
    same-elements 0 0 s t h.rises g.rises
    (λ k. so_same (member_of s k) (member_of t k) (λ m. (g.members k).1 ((h.members k).0 m), λ m. (h.members k).1 ((g.members k).0 m)))

-- MIN: in the set, and none below
abbrev pub Least : List ℕ → ℕ → Type 0
Least s m = So (member_of s m) × ((k : ℕ) → So (member_of s k) → m ≤ k)

-- MAX: in the set, and none above
abbrev pub Greatest : List ℕ → ℕ → Type 0
Greatest s m = So (member_of s m) × ((k : ℕ) → So (member_of s k) → k ≤ m)

pub min-least : (p : ℕ) (s : List ℕ) → Rising 0 s → Exactly 11 p (Least s) (measure p Min s)
min-least p [] h = never 11 p (λ m l. false≢true l.0)
min-least p (x ∷ s) h = exactly 11 p (member-first x s, rising_low x (x ∷ s) (omega arith, h.1))

last_greatest : (x : ℕ) (s : List ℕ) → Rising (suc x) s → Greatest (x ∷ s) (last x s)
last_greatest x [] h = (member-first x [], λ k. member-cases x [] k (λ e. omega arith) (λ m. absurd (false≢true m)))
last_greatest x (y ∷ s) h =
    let later = last_greatest y s h.1 in (
      member-later x (y ∷ s) (last y s) later.0,
      λ k. member-cases x (y ∷ s) k (λ e. let above = later.1 y (member-first y s) in omega (arith, h.0)) (later.1 k),
    )

pub max_greatest : (p : ℕ) (s : List ℕ) → Rising 0 s → Exactly 11 p (Greatest s) (measure p Max s)
max_greatest p [] h = never 11 p (λ m l. false≢true l.0)
max_greatest p (x ∷ s) h = exactly 11 p (last_greatest x s h.1)

-- how many numbers below n pass a test
abbrev pub also : Bool → ℕ → ℕ
also true n = suc n
also false n = n

abbrev pub tally : (ℕ → Bool) → ℕ → ℕ
tally q zero = 0
tally q (suc n) = also (q n) (tally q n)

tally_none : (n : ℕ) → tally (member_of []) n ≡ 0
tally_none zero = refl
tally_none (suc n) = tally_none n

tally-same : (q r : ℕ → Bool) (n : ℕ) → ((k : ℕ) → k < n → q k ≡ r k) → tally q n ≡ tally r n
tally-same q r zero e = refl
tally-same q r (suc n) e = ap₂ also (e n (omega arith)) (tally-same q r n (λ k l. e k (omega arith)))

also-suc : (b : Bool) (n : ℕ) → also b (suc n) ≡ suc (also b n)
also-suc true n = refl
also-suc false n = refl

other_element : (s : List ℕ) (x k : ℕ) → eqb k x ≡ false → member_of (x ∷ s) k ≡ member_of s k
other_element s x k e = ap (λ b. b || member_of s k) e

-- one number more passes
tally-more : (s : List ℕ) (x n : ℕ) → member_of s x ≡ false → x < n → tally (member_of (x ∷ s)) n ≡ suc (tally (member_of s) n)
tally-more s x zero e l = absurd (let z : x < 0 = l in omega arith)
tally-more s x (suc n) e l = go (eqb n x) refl (tally-more s x n e)
  where
    go : (b : Bool) → eqb n x ≡ b → (x < n → tally (member_of (x ∷ s)) n ≡ suc (tally (member_of s) n)) →
        also (member_of (x ∷ s) n) (tally (member_of (x ∷ s)) n) ≡ suc (also (member_of s n) (tally (member_of s) n))
    go true q below =
        let here : n ≡ x = eqb-true n x q in
        let left : member_of (x ∷ s) n ≡ true = or_left (eqb n x) (member_of s n) q in
        let right : member_of s n ≡ false = ap (member_of s) here ∙ e in
        let rest : tally (member_of (x ∷ s)) n ≡ tally (member_of s) n = tally-same _ _ n (λ k m. other_element s x k (ne_eqb k x (λ z. omega arith))) in
        ap₂ also left rest ∙ ap suc (sym (ap (λ b. also b (tally (member_of s) n)) right))
    go false q below =
        let different : ¬ (n ≡ x) = eqb-false n x q in
        ap₂ also (other_element s x n q) (below (omega arith)) ∙ also-suc (member_of s n) (tally (member_of s) n)

-- SIZE: how many numbers are in the set
pub size-tally : (p : ℕ) (s : List ℕ) → Rising 0 s → (n : ℕ) → ((k : ℕ) → So (member_of s k) → k < n) → measure p Size s ≡ Done (tally (member_of s) n)
size-tally p s h n b = ap Done (go 0 s h b)
  where
    go : (low : ℕ) (s : List ℕ) → Rising low s → ((k : ℕ) → So (member_of s k) → k < n) → length s ≡ tally (member_of s) n
    go low [] h b = sym (tally_none n)
    go low (x ∷ s) h b =
        rw (go (suc x) s h.1 (λ k m. b k (member-later x s k m)))
        (sym (tally-more s x n (missing x x s h.1 (omega arith)) (b x (member-first x s))))

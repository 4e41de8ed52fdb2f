-- A set that has come: where the values end above it.
use Rattle.std.specs.Prelude.{ℕ, zero, suc, ◌+◌, ◌≤◌, ◌<◌, Bool, true, false, List, [], ◌∷◌, ◌≡◌, eqb, length, get_or}
use Rattle.std.proofs.Common.{sym, ap, ◌∙◌, arith, add-zero, eq-eqb, ne_eqb}
use Rattle.language.proofs.Laws.Basics.Tests.{pick, leave}
use Rattle.machine.specs.Memory.{Held, Lies, nowhere, kept_set, value, Sits, in_kept, on_top}
use Rattle.machine.specs.Moves.{above}
use Rattle.machine.specs.declared.Machine.{Machine}

pub above-is : (m : Machine) → m.from ≡ m.top → above m ≡ m.top + m.value
above-is m e = pick (eqb m.from m.top) _ _ (eq-eqb m.from m.top e)

pub above-not : (m : Machine) → (m.from ≡ m.top → ⊥) → above m ≡ m.top
above-not m e = leave (eqb m.from m.top) _ _ (ne_eqb m.from m.top e)

above_low : (b : Bool) (t n : ℕ) → t ≤ elim b [ true ↦ t + n | false ↦ t ]
above_low true t n = omega arith
above_low false t n = omega arith

above-high : (b : Bool) (t n : ℕ) → elim b [ true ↦ t + n | false ↦ t ] ≤ t + n
above-high true t n = omega arith
above-high false t n = omega arith

pub above_from : (m : Machine) → m.top ≤ above m
above_from m = above_low (eqb m.from m.top) m.top m.value

pub above_most : (m : Machine) → above m ≤ m.top + m.value
above_most m = above-high (eqb m.from m.top) m.top m.value

-- a set that has come is held where it stands
pub sits_lies : (m : Machine) {free base n : ℕ} → m.value ≡ n → m.top ≡ base → Sits free m.top m.from n → Lies free base (above m) m.from n
sits_lies m e b (in_kept p q) = kept_set p q
sits_lies m e b (on_top p) = let a = above-is m p in value (omega arith) (omega arith)

-- its elements lie below the end
pub sits_below : (m : Machine) {free n : ℕ} → m.value ≡ n → free ≤ m.top → Sits free m.top m.from n → m.from + n ≤ above m
sits_below m e b (in_kept p q) = let a = above_from m in omega arith
sits_below m e b (on_top p) = let a = above-is m p in omega arith

pub sits_low : (m : Machine) {free n : ℕ} → free ≤ m.top → Sits free m.top m.from n → m.from ≤ m.top
sits_low m b (in_kept p q) = omega arith
sits_low m b (on_top p) = omega arith

-- what a frame holds lies below the end of the values too
pub lies_under : {free base top at n : ℕ} → free ≤ top → at ≤ top → Lies free base top at n → at + n ≤ top
lies_under f h (nowhere e) = omega arith
lies_under f h (kept_set p q) = omega arith
lies_under f h (value p q) = q

-- word by word
pub held_word : (mem : List ℕ) (at : ℕ) (l : List ℕ) → Held mem at l → (i : ℕ) → i < length l → get_or mem (at + i) 0 ≡ get_or l i 0
unfolding Held
held_word mem at [] h i l = absurd (omega arith)
held_word mem at (x ∷ s) h zero l = ap (λ (j : ℕ). get_or mem j 0) (add-zero at) ∙ h.0
held_word mem at (x ∷ s) h (suc i) l =
    let e : at + suc i ≡ suc at + i = omega arith in
    ap (λ (j : ℕ). get_or mem j 0) e ∙ held_word mem (suc at) s h.1 i (omega arith)

pub held_words : (mem : List ℕ) (at : ℕ) (l : List ℕ) → ((i : ℕ) → i < length l → get_or mem (at + i) 0 ≡ get_or l i 0) → Held mem at l
unfolding Held
held_words mem at [] f = tt
held_words mem at (x ∷ s) f =
    (ap (λ (j : ℕ). get_or mem j 0) (sym (add-zero at)) ∙ f 0 (omega arith), held_words mem (suc at) s (λ i l. let e : suc at + i ≡ at + suc i = omega arith in ap (λ (j : ℕ). get_or mem j 0) e ∙ f (suc i) (omega arith)))

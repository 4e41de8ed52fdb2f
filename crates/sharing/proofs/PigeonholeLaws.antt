-- Counting by a list: if each of n things has a member of the list to itself, the list has at least n members.
use Rattle.std.specs.Prelude.{ℕ, zero, suc, ◌<◌, ◌≤◌, ◌≡◌, refl, ◌⊎◌, length, get_or}
use Rattle.std.proofs.Common.{ap, ◌∙◌, sym, subst, inl, inr, arith}
use mathlib.Core.List.Memᴰ
use mathlib.Core.List.{List, [], ◌∷◌, Memᴰ}

-- the list without one member: the others stay in it
record Taken {A : Type 0} (x : A) (l : List A) : Type 0 where
  rest : List A
  shorter : length l ≡ suc (length rest)
  others : (y : A) → Memᴰ y l → (y ≡ x → ⊥) → Memᴰ y rest

taken : {A : Type 0} {x : A} {l : List A} → Memᴰ x l → Taken x l
taken {A} {x} (Memᴰ.head {x = z} {xs} e) = record { rest = xs; shorter = refl; others = λ y m n. go y n (Memᴰ.cases_cons m) }
  where
    go : (y : A) → (y ≡ x → ⊥) → (y ≡ z) ⊎ Memᴰ y xs → Memᴰ y xs
    go y n (inl q) = absurd (n (q ∙ sym e))
    go y n (inr k) = k
taken {A} {x} (Memᴰ.tail {x = z} {xs} m) = with-head (taken m)
  where
    with-head : Taken x xs → Taken x (z ∷ xs)
    with-head t = record { rest = z ∷ t.rest; shorter = ap suc t.shorter; others = λ y k n. go y n (Memᴰ.cases_cons k) }
      where
        go : (y : A) → (y ≡ x → ⊥) → (y ≡ z) ⊎ Memᴰ y xs → Memᴰ y (z ∷ t.rest)
        go y n (inl q) = Memᴰ.head q
        go y n (inr k) = Memᴰ.tail (t.others y k n)

module _ {A : Type 0} (R : ℕ → A → Type 0) (single : (i j : ℕ) (x : A) → R i x → R j x → i ≡ j) where
  pub pigeonhole : (n : ℕ) (l : List A) → ((i : ℕ) → i < n → (x : A) × Memᴰ x l × R i x) → n ≤ length l
  pigeonhole zero l each = omega arith
  pigeonhole (suc n) l each =
      let last = each n (omega arith) in
      let t = taken last.1 in
      let other : (i : ℕ) → i < n → (x : A) × Memᴰ x t.rest × R i x =
      λ i h.
      let m = each i (omega arith) in
      (m.0, t.others m.0 m.1 (λ e. let q = single i n last.0 (subst (R i) e m.2) last.2 in omega arith), m.2) in
      let h = pigeonhole n t.rest other in
      let s = t.shorter in
      omega arith

-- the member at a number
pub member_at_lem : {A : Type 0} (l : List A) (d : A) (i : ℕ) → i < length l → Memᴰ (get_or l i d) l
member_at_lem [] d i h = absurd (omega arith)
member_at_lem (x ∷ l) d zero h = Memᴰ.head refl
member_at_lem (x ∷ l) d (suc i) h = Memᴰ.tail (member_at_lem l d i (omega arith))

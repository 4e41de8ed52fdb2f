-- Slots that are written one after the other, and the names before each.
use Rattle.std.specs.Prelude.{ℕ, zero, suc, ◌+◌, ◌*◌, ◌<◌, ◌≤◌, ◌≡◌, refl, Bool, true, false, not, ◌&&◌, ◌||◌, List, [], ◌∷◌, ◌++◌, eqb, nat_eq, leb, length, take, drop, set, get_or}
use Rattle.std.proofs.Common.{ap, ap₂, ◌∙◌, sym, append_assoc, length-drop, length-set, take-append-drop, drop-cons, take_at, drop_at, length-take-le, get_or-set_same, get_or-set_other, add-one, arith, below_more, le-leb}
use Rattle.std.proofs.Math.Option.{Option, some}
use Rattle.std.proofs.lemmas.List.Edits.{sets, sets-eq}
use Rattle.std.proofs.lemmas.List.{take-append-le, drop-append-le}
use Rattle.std.proofs.lemmas.Bool.{lt-leb}
use Rattle.std.specs.Cmp.Lexicographic.{pointwise}
use Rattle.std.proofs.Math.Decide.{dec_lt}
use Rattle.language.specs.Limits.{max_name}
use Rattle.language.specs.Bytes.{same}
use Rattle.basic.specs.Writing.{taken, fault_from}
use Rattle.signal_names.specs.Promise.{slot_bytes, slot, Held, part}
use Rattle.signal_names.specs.Slots.{earlier, PutsName}

-- bytes of unlike lengths are not the same
pub same_lengths : (a b : List ℕ) → (length a ≡ length b → ⊥) → same a b ≡ false
same_lengths [] [] h = absurd (h refl)
same_lengths [] (y ∷ b) h = refl
same_lengths (x ∷ a) [] h = refl
same_lengths (x ∷ a) (y ∷ b) h = go (eqb x y) (same_lengths a b (λ e. h (ap suc e)))
  where
    go : (t : Bool) → same a b ≡ false → (t && same a b) ≡ false
    go true e = e
    go false e = refl

-- the bytes are those that `==` compares
pub same-pointwise : (a b : List ℕ) → same a b ≡ pointwise nat_eq a b
same-pointwise [] [] = refl
same-pointwise [] (y ∷ b) = refl
same-pointwise (x ∷ a) [] = refl
same-pointwise (x ∷ a) (y ∷ b) = ap (λ (t : Bool). eqb x y && t) (same-pointwise a b)

or-true : (b : Bool) → (b || true) ≡ true
or-true true = refl
or-true false = refl

module _ (names sizes : List ℕ) where
  pub held_less : {k : ℕ} (j : ℕ) → Held names sizes k → j < k → Held names sizes (suc j)
  held_less j h l = let a = h.room in let b = h.sized in record { room = omega arith; sized = omega arith; small = λ i m. h.small i (omega arith) }

  -- a name that some slot has, or none
  pub taken-found : (k j : ℕ) (x : List ℕ) → j < k → same (slot names sizes j) x ≡ true → taken (earlier names sizes k) x ≡ true
  taken-found zero j x h e = absurd (omega arith)
  taken-found (suc k) j x h e = go (dec_lt j k) (λ l. taken-found k j x l e)
    where
      go : Dec (j < k) → (j < k → taken (earlier names sizes k) x ≡ true) → taken (earlier names sizes (suc k)) x ≡ true
      go (yes l) f = ap (λ (t : Bool). same (slot names sizes k) x || t) (f l) ∙ or-true (same (slot names sizes k) x)
      go (no l) f = let last : j ≡ k = omega arith in ap (λ (t : Bool). t || taken (earlier names sizes k) x) (ap (λ (m : ℕ). same (slot names sizes m) x) (sym last) ∙ e)

  pub taken_none : (k : ℕ) (x : List ℕ) → ((j : ℕ) → j < k → same (slot names sizes j) x ≡ false) → taken (earlier names sizes k) x ≡ false
  taken_none zero x h = refl
  taken_none (suc k) x h = ap₂ ◌||◌ (h k (omega arith)) (taken_none k x (λ j l. h j (omega arith)))

-- a part before what was written, and what was written
module _ (l vs : List ℕ) (at : ℕ) (r : at + length vs ≤ length l) where
  front_length : length (take at l) ≡ at
  front_length = length-take-le at l (omega arith)

  front-part : (rest : List ℕ) (i n : ℕ) → i + n ≤ at → part (take at l ++ rest) i n ≡ part (take at l) i n
  front-part rest i n h =
      let a = front_length in
      ap (take n) (drop-append-le i (take at l) rest (omega arith)) ∙ take-append-le n (drop i (take at l)) rest (rw length-drop (omega arith))

  written : sets l at vs ≡ take at l ++ (vs ++ drop (at + length vs) l)
  written = sets-eq vs l at r ∙ append_assoc (take at l) vs (drop (at + length vs) l)

  part-kept : (i n : ℕ) → i + n ≤ at → part (sets l at vs) i n ≡ part l i n
  part-kept i n h =
      ap (λ (x : List ℕ). part x i n) written ∙ front-part (vs ++ drop (at + length vs) l) i n h
      ∙ sym (ap (λ (x : List ℕ). part x i n) (sym (take-append-drop at l)) ∙ front-part (drop at l) i n h)

  part_new : part (sets l at vs) at (length vs) ≡ vs
  part_new =
      ap (λ (x : List ℕ). part x at (length vs)) written
      ∙ ap (take (length vs)) (drop_at (take at l) (vs ++ drop (at + length vs) l) at front_length) ∙ take_at vs (drop (at + length vs) l) (length vs) refl

-- the names ns in the slots before k, and the fault that is still to be found
pub record Spelling (names sizes : List ℕ) (ns : List (List ℕ)) (k : ℕ) : Type 0 where
  pub sized : k ≤ length sizes
  pub small : (j : ℕ) → j < k → get_or sizes j 0 ≤ max_name
  pub each : (j : ℕ) → j < k → slot names sizes j ≡ get_or ns j []
  pub fault : fault_from (earlier names sizes k) k (drop k ns) ≡ fault_from [] 0 ns

pub spelling-start : (names sizes : List ℕ) (ns : List (List ℕ)) → Spelling names sizes ns 0
spelling-start names sizes ns = record { sized = omega arith; small = λ j l. absurd (omega arith); each = λ j l. absurd (omega arith); fault = refl }

-- names before slot k stay when something is written there
earlier-same : (names sizes names' sizes' : List ℕ) (k : ℕ) → ((j : ℕ) → j < k → slot names' sizes' j ≡ slot names sizes j) → earlier names' sizes' k ≡ earlier names sizes k
earlier-same names sizes names' sizes' zero h = refl
earlier-same names sizes names' sizes' (suc k) h = ap₂ ◌∷◌ (h k (omega arith)) (earlier-same names sizes names' sizes' k (λ j l. h j (omega arith)))

-- the next name n is written to slot k
pub record Turn (names names' sizes : List ℕ) (ns : List (List ℕ)) (n : List ℕ) (k size : ℕ) : Type 0 where
  pub before : Spelling names sizes ns k
  pub room : slot_bytes * k + (max_name + 4) ≤ length names
  pub more : k < length ns
  pub is : get_or ns k [] ≡ n
  pub puts : PutsName n names names' (slot_bytes * k) size

module _ {names names' sizes n : List ℕ} {ns : List (List ℕ)} {k size : ℕ} (u : Turn names names' sizes ns n k size) where
  s : Spelling names sizes ns k
  s = u.before

  p : PutsName n names names' (slot_bytes * k) size
  p = u.puts

  -- name k in turn
  turn : (before : List (List ℕ)) → fault_from before k (drop k ns) ≡ elim (leb (length n) max_name && not (taken before n)) [ true ↦ fault_from (n ∷ before) (suc k) (drop (suc k) ns) | false ↦ some k ]
  turn before = ap (fault_from before k) (drop-cons ns k [] u.more ∙ ap (λ (x : List ℕ). x ∷ drop (suc k) ns) u.is)

  pub spelt_long : max_name < size → fault_from [] 0 ns ≡ some k
  spelt_long h =
      sym s.fault ∙ turn (earlier names sizes k)
      ∙ ap (λ (t : Bool). elim (t && not (taken (earlier names sizes k) n)) [ true ↦ fault_from (n ∷ earlier names sizes k) (suc k) (drop (suc k) ns) | false ↦ some k ])
      (lt-leb (length n) max_name (p.long h))

  module _ (h : size ≤ max_name) where
    count : size ≡ length n
    count = (p.whole h).0

    bytes : names' ≡ sets names (slot_bytes * k) n
    bytes = (p.whole h).1

    fit : slot_bytes * k + length n ≤ length names
    fit = omega (arith, count, u.room)

    pub spelt-held : Held names' sizes k
    spelt-held = let e = p.kept in let z = s.sized in let r = u.room in record { room = omega arith; sized = z; small = s.small }

    slot_kept : (j : ℕ) → j < k → slot names' sizes j ≡ slot names sizes j
    slot_kept j l = ap (λ (x : List ℕ). slot x sizes j) bytes ∙ part-kept names n (slot_bytes * k) fit (slot_bytes * j) (get_or sizes j 0) (omega (arith, s.small j l))

    new : part names' (slot_bytes * k) size ≡ n
    new = ap₂ (λ (x : List ℕ) (m : ℕ). part x (slot_bytes * k) m) bytes count ∙ part_new names n (slot_bytes * k) fit

    again : taken (earlier names' sizes k) (part names' (slot_bytes * k) size) ≡ taken (earlier names sizes k) n
    again = ap₂ taken (earlier-same names sizes names' sizes k slot_kept) new

    choice : Bool → Option ℕ
    choice t = elim (leb (length n) max_name && not t) [ true ↦ fault_from (n ∷ earlier names sizes k) (suc k) (drop (suc k) ns) | false ↦ some k ]

    short : leb (length n) max_name ≡ true
    short = le-leb (length n) max_name (omega (arith, count))

    pub spelt-taken : {t : Bool} → t ≡ taken (earlier names' sizes k) (part names' (slot_bytes * k) size) → t ≡ true → fault_from [] 0 ns ≡ some k
    spelt-taken a b =
        sym s.fault ∙ turn (earlier names sizes k)
        ∙ ap₂ (λ (u t : Bool). elim (u && not t) [ true ↦ fault_from (n ∷ earlier names sizes k) (suc k) (drop (suc k) ns) | false ↦ some k ]) short (sym again ∙ sym a ∙ b)

    module _ {t : Bool} (a : t ≡ taken (earlier names' sizes k) (part names' (slot_bytes * k) size)) (b : t ≡ false) (l : k < length sizes) where
      own : slot names' (set sizes k size) k ≡ n
      own = ap (part names' (slot_bytes * k)) (get_or-set_same sizes k size 0 l) ∙ new

      size-kept : (j : ℕ) → j < k → get_or (set sizes k size) j 0 ≡ get_or sizes j 0
      size-kept j m = get_or-set_other sizes k j size 0 (omega arith)

      other : (j : ℕ) → j < k → slot names' (set sizes k size) j ≡ slot names sizes j
      other j m = ap (part names' (slot_bytes * j)) (size-kept j m) ∙ slot_kept j m

      go_on : fault_from [] 0 ns ≡ fault_from (n ∷ earlier names sizes k) (suc k) (drop (suc k) ns)
      go_on =
          sym s.fault ∙ turn (earlier names sizes k)
          ∙ ap₂ (λ (u t : Bool). elim (u && not t) [ true ↦ fault_from (n ∷ earlier names sizes k) (suc k) (drop (suc k) ns) | false ↦ some k ]) short (sym again ∙ sym a ∙ b)

      pub spelt-more : Spelling names' (set sizes k size) ns (k + 1)
      spelt-more =
          record {
            sized = rw length-set (omega arith);
            small = below_more _ k (λ j m. omega (arith, size-kept j m, s.small j m)) (omega (arith, get_or-set_same sizes k size 0 l));
            each = below_more _ k (λ j m. other j m ∙ s.each j m) (own ∙ sym u.is);
            fault =
                ap (λ (m : ℕ). fault_from (earlier names' (set sizes k size) m) m (drop m ns)) (add-one k)
                ∙ ap₂ (λ (x : List ℕ) (before : List (List ℕ)). fault_from (x ∷ before) (suc k) (drop (suc k) ns)) own (earlier-same names sizes names' (set sizes k size) k other) ∙ sym go_on;
          }

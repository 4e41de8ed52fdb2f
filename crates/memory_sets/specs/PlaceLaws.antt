-- Laws of places in a memory: what stays when words are written elsewhere, what stands where a part was lent.
use Rattle.std.specs.Prelude.{ℕ, suc, ◌+◌, ◌-◌, ◌≤◌, ◌<◌, ◌≡◌, refl, List, ◌++◌, length, get_or, take, drop, set}
use Rattle.std.proofs.Common.{sym, ap, ◌∙◌, length-append, length-take, length-drop, length-set, length-take-le, get_or-set_same, get_or-set_other, drop-set-lt, get_or-take, get_or-drop, drop-drop, ext_get_or, drop_at, add-zero, arith}
use Rattle.std.proofs.Math.ListN.{get_or-append}
use Rattle.std.proofs.lemmas.List.{take-append-le}
use Rattle.std.proofs.Math.Decide.{dec_le}
use Rattle.sets.specs.Listing.{Parted}
use Rattle.memory_sets.specs.declared.Span.{Span}
use Rattle.memory_sets.specs.Places.{Outside, Copied, from, Placed}

-- nothing written; a word more; the other way round; one after the other
pub outside_none : (mem : List ℕ) (at : ℕ) → Outside mem mem at 0
outside_none mem at = record { len = refl; below = λ i l. refl; above = λ i l. refl }

pub outside-more : {mem mem' : List ℕ} {at n : ℕ} (v : ℕ) → Outside mem mem' at n → Outside mem (set mem' (at + n) v) at (suc n)
outside-more {mem} {mem'} {at} {n} v h = record {
  len = length-set mem' (at + n) v ∙ h.len;
  below = λ i l. get_or-set_other mem' (at + n) i v 0 (λ e. omega arith) ∙ h.below i l;
  above = λ i l. drop-set-lt i mem' (at + n) v (omega arith) ∙ h.above i (omega arith);
}

pub outside-back : {mem mem' : List ℕ} {at n : ℕ} → Outside mem mem' at n → Outside mem' mem at n
outside-back h = record { len = sym h.len; below = λ i l. sym (h.below i l); above = λ i l. sym (h.above i l) }

pub outside-both : {mem mem' mem'' : List ℕ} {at n : ℕ} → Outside mem mem' at n → Outside mem' mem'' at n → Outside mem mem'' at n
outside-both h k = record { len = k.len ∙ h.len; below = λ i l. k.below i l ∙ h.below i l; above = λ i l. k.above i l ∙ h.above i l }

-- a place within a place
pub outside-within : {mem mem' : List ℕ} {a m b n : ℕ} → b ≤ a → a + m ≤ b + n → Outside mem mem' a m → Outside mem mem' b n
outside-within l u h = record { len = h.len; below = λ i v. h.below i (omega arith); above = λ i v. h.above i (omega arith) }

-- words below the place
pub outside-words : {mem mem' : List ℕ} {to n : ℕ} → Outside mem mem' to n → (a k : ℕ) → a + k ≤ to → take k (drop a mem') ≡ take k (drop a mem)
outside-words {mem} {mem'} {to} {n} h a k l = ext_get_or 0 _ _ same (λ i u. at i (omega (arith, u, long)))
  where
    same : length (take k (drop a mem')) ≡ length (take k (drop a mem))
    same = simp (length-take, length-drop, h.len)

    long : length (take k (drop a mem')) ≤ k
    long = simp length-take (omega arith)

    at : (i : ℕ) → i < k → get_or (take k (drop a mem')) i 0 ≡ get_or (take k (drop a mem)) i 0
    at i u =
        get_or-take k (drop a mem') i 0 u ∙ get_or-drop a mem' i 0 ∙ h.below (a + i) (omega arith) ∙
        sym (get_or-take k (drop a mem) i 0 u ∙ get_or-drop a mem i 0)

-- a set below the place
pub placed-kept : {mem mem' : List ℕ} {to n : ℕ} (s : Span) → Outside mem mem' to n → s.at + s.count ≤ to → Placed mem s → Placed mem' s
placed-kept {mem} {mem'} s h l p =
    let room = p.room in
    let long = length-drop s.at mem in
    let long' = length-drop s.at mem' in
    record { few = p.few; room = omega (arith, h.len); ascends = rw (outside-words h s.at s.count l) p.ascends }

-- the words that are read of a set; its first and its last
pub placed-reads : (mem : List ℕ) (s : Span) → Placed mem s → (s.at + s.count ≤ length mem) × (s.at < length mem)
placed-reads mem s p =
    let few = p.few in let room = p.room in let long = length-drop s.at mem in (omega arith, omega arith)

pub first_word : (mem : List ℕ) (at : ℕ) → get_or mem at 0 ≡ get_or (drop at mem) 0 0
first_word mem at = ap (λ j. get_or mem j 0) (sym (add-zero at)) ∙ sym (get_or-drop at mem 0 0)

pub last_word_lem : (mem : List ℕ) (at n : ℕ) → ¬ (n ≡ 0) → get_or mem (at + n - 1) 0 ≡ get_or (drop at mem) (n - 1) 0
last_word_lem mem at n some = let e : at + n - 1 ≡ at + (n - 1) = omega arith in ap (λ j. get_or mem j 0) e ∙ sym (get_or-drop at mem (n - 1) 0)

-- a number's place in a set below the place
pub parted-kept : {mem mem' : List ℕ} {to n : ℕ} (s : Span) (j x : ℕ) → Outside mem mem' to n → s.at + s.count ≤ to → Parted (from mem s) j s.count x → Parted (from mem' s) j s.count x
parted-kept {mem} {mem'} s j x h l p =
    let bound = p.bound in
    record { bound = bound; lower = λ k u. rw (get_or-drop s.at mem' k 0 ∙ h.below (s.at + k) (omega arith) ∙ sym (get_or-drop s.at mem k 0)) (p.lower k u) }

-- words that were copied
-- words copied one by one
pub copied_none : (source : List ℕ) (a : ℕ) (mem : List ℕ) (b : ℕ) → Copied source a mem mem b 0
copied_none source a mem b = record { words = λ i l. absurd (omega arith); kept = outside_none mem b }

pub copied_more : {source : List ℕ} {a : ℕ} {mem mem' : List ℕ} {b n : ℕ} (v : ℕ) → v ≡ get_or source (a + n) 0 → b + n < length mem → Copied source a mem mem' b n →
    Copied source a mem (set mem' (b + n) v) b (suc n)
copied_more {source} {a} {mem} {mem'} {b} {n} v e l h = record { words = λ i u. at i u (dec_le n i); kept = outside-more v h.kept }
  where
    at : (i : ℕ) → i < suc n → Dec (n ≤ i) → get_or (set mem' (b + n) v) (b + i) 0 ≡ get_or source (a + i) 0
    at i u (yes m) =
        let last : i ≡ n = omega arith in
        rw last (get_or-set_same mem' (b + n) v 0 (omega (arith, h.kept.len)) ∙ e)
    at i u (no m) = get_or-set_other mem' (b + n) (b + i) v 0 (λ z. omega arith) ∙ h.words i (omega arith)

pub copied_words : {source : List ℕ} {a : ℕ} {mem mem' : List ℕ} {b n : ℕ} → Copied source a mem mem' b n → a + n ≤ length source → b + n ≤ length mem →
    take n (drop b mem') ≡ take n (drop a source)
copied_words {source} {a} {mem} {mem'} {b} {n} h l u = ext_get_or 0 _ _ same (λ i v. at i (omega (arith, v, long)))
  where
    long : length (take n (drop b mem')) ≡ n
    long = length-take-le n (drop b mem') (rw length-drop (omega (arith, h.kept.len)))

    same : length (take n (drop b mem')) ≡ length (take n (drop a source))
    same = long ∙ sym (length-take-le n (drop a source) (rw length-drop (omega arith)))

    at : (i : ℕ) → i < n → get_or (take n (drop b mem')) i 0 ≡ get_or (take n (drop a source)) i 0
    at i v =
        get_or-take n (drop b mem') i 0 v ∙ get_or-drop b mem' i 0 ∙ h.words i v ∙ sym (get_or-take n (drop a source) i 0 v ∙ get_or-drop a source i 0)

-- where words are moved down in one memory, the next one is not yet written over
pub lowered_word : {a : ℕ} {mem mem' : List ℕ} {b n : ℕ} → b ≤ a → Copied mem a mem mem' b n → get_or mem' (a + n) 0 ≡ get_or mem (a + n) 0
lowered_word {a} {mem} {mem'} {b} {n} l h =
    first_word mem' (a + n) ∙ ap (λ s. get_or s 0 0) (h.kept.above (a + n) (omega arith)) ∙ sym (first_word mem (a + n))

-- a part of k words from `at` on was lent and came back as `part`
module _ (mem : List ℕ) (at k : ℕ) (part : List ℕ) (fits : at + k ≤ length mem) (size : length part ≡ k) where
  abbrev back : List ℕ
  back = take at mem ++ (part ++ drop k (drop at mem))

  front : length (take at mem) ≡ at
  front = length-take-le at mem (omega arith)

  there : drop at back ≡ part ++ drop k (drop at mem)
  there = drop_at (take at mem) _ at front

  beyond : drop (at + k) back ≡ drop (at + k) mem
  beyond = sym (drop-drop k at back) ∙ ap (drop k) there ∙ drop_at part _ k size ∙ drop-drop k at mem

  pub part-words : (n : ℕ) → n ≤ k → take n (drop at back) ≡ take n part
  part-words n l = ap (take n) there ∙ take-append-le n part _ (omega (arith, size))

  pub part-outside : Outside mem back at k
  part-outside = record {
    len = length-append (take at mem) _ ∙ simp (length-append, length-drop) (omega (arith, front, size));
    below = λ i l. get_or-append (take at mem) _ 0 i (omega (arith, front)) ∙ get_or-take at mem i 0 l;
    above = λ i l. further i l;
  }
    where
      further : (i : ℕ) → at + k ≤ i → drop i back ≡ drop i mem
      further i l =
          let e : at + k + (i - (at + k)) ≡ i = omega arith in
          ap (λ j. drop j back) (sym e) ∙ sym (drop-drop (i - (at + k)) (at + k) back) ∙ ap (drop (i - (at + k))) beyond ∙ drop-drop (i - (at + k)) (at + k) mem ∙
          ap (λ j. drop j mem) e

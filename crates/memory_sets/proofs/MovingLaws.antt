-- Laws of words moved at once, as a slice's own methods do.
use Rattle.std.specs.Prelude.{ℕ, ◌+◌, ◌-◌, ◌≤◌, ◌<◌, ◌≡◌, List, ◌++◌, length, get_or, take, drop}
use Rattle.std.specs.List.{CopiedTo, SameBelow, SameFrom}
use Rattle.std.proofs.Common.{sym, ap, ◌∙◌, subst, length-drop, get_or-take, get_or-drop, ext_get_or, arith}
use Rattle.memory_sets.specs.Places.{Outside, Copied}
use Rattle.memory_sets.specs.PlaceLaws.{part-words, part-outside}

-- a part of the memory was lent, and n words of the source stand there
pub copied-part : (source : List ℕ) (a : ℕ) (mem : List ℕ) (b k n : ℕ) (part : List ℕ) → k ≡ n → b + k ≤ length mem → length part ≡ k → part ≡ take n (drop a source) →
    Copied source a mem (take b mem ++ (part ++ drop k (drop b mem))) b n
copied-part source a mem b k n part same fits size there = record { words = word; kept = subst (Outside mem back b) same (part-outside mem b k part fits size) }
  where
    back : List ℕ
    back = take b mem ++ (part ++ drop k (drop b mem))

    word : (i : ℕ) → i < n → get_or back (b + i) 0 ≡ get_or source (a + i) 0
    word i l =
        sym (get_or-drop b back i 0) ∙ sym (get_or-take n (drop b back) i 0 l) ∙ ap (λ s. get_or s i 0) (part-words mem b k part fits size n (omega arith)) ∙
        get_or-take n part i 0 l ∙ ap (λ s. get_or s i 0) there ∙ get_or-take n (drop a source) i 0 l ∙ get_or-drop a source i 0

-- n words were moved within the memory
pub copied-within : {mem mem' : List ℕ} {a b k n : ℕ} → k ≡ n → length mem' ≡ length mem → CopiedTo mem mem' a b k → SameBelow mem mem' b → SameFrom mem mem' (b + k) → Copied mem a mem mem' b n
copied-within {mem} {mem'} {a} {b} {k} {n} same len moved below above = record { words = word; kept = record { len = len; below = λ i l. below i 0 l; above = rest } }
  where
    word : (i : ℕ) → i < n → get_or mem' (b + i) 0 ≡ get_or mem (a + i) 0
    word i l =
        let e : a + (b + i - b) ≡ a + i = omega arith in
        moved (b + i) 0 (omega arith) (omega arith) ∙ ap (λ j. get_or mem j 0) e

    rest : (i : ℕ) → b + n ≤ i → drop i mem' ≡ drop i mem
    rest i l =
        ext_get_or 0 (drop i mem') (drop i mem) (length-drop i mem' ∙ ap (λ m. m - i) len ∙ sym (length-drop i mem))
        (λ j u. get_or-drop i mem' j 0 ∙ above (i + j) 0 (omega arith) ∙ sym (get_or-drop i mem j 0))

-- How a spelling is reached byte by byte in the tree of spellings.
use Rattle.std.specs.Prelude.{ℕ, ◌+◌, ◌≤◌, ◌<◌, List, [], ◌∷◌, ◌≡◌, refl, length, get_or, take, drop}
use Rattle.std.proofs.Common.{sym, ap, ◌∙◌, subst, arith, add-one, length-drop, length-append, take-suc, get_or-drop, length-take-le}
use Rattle.spellings.specs.Trie.{more, Trie, nodes_with, Steps, Spells, part}

pub part_none : (at : ℕ) (text : List ℕ) → part at 0 text ≡ []
unfolding part
part_none at text = refl

pub part-more : (at i : ℕ) (text : List ℕ) → at + i < length text → part at (i + 1) text ≡ more (part at i text) (get_or text (at + i) 0)
unfolding part
part-more at i text l =
    rw (add-one) (take-suc (drop at text) i 0 (rw length-drop (omega arith)) ∙ ap (more (take i (drop at text))) (get_or-drop at text i 0))

module _ {links byte : List ℕ} {n : ℕ} (t : Trie links byte n) where
  pub spells_none : {s : List ℕ} → s ≡ [] → Spells t links byte s n 0
  spells_none e =
      record { trie = t; kept = λ k l. refl; inside = t.rooted; spells = t.root ∙ sym e; less = omega arith; few = omega arith }

  stepped : {links' byte' links'' byte'' s u : List ℕ} {m r b q : ℕ} (h : Spells t links' byte' s m r) → Steps h.trie r b links'' byte'' q → u ≡ more s b → Spells t links'' byte'' u (nodes_with m q) q
  stepped {s = s} {m = m} {b = b} {q = q} h g e =
      let l = h.less in
      let f = h.few in
      let z = length-append s (b ∷ []) in
      let y = ap length e in
      record {
        trie = g.1.trie;
        kept = λ k d. g.1.kept k (omega arith) ∙ h.kept k d;
        inside = g.1.inside;
        spells = g.1.spells ∙ ap (λ v. more v b) h.spells ∙ sym e;
        less = omega arith;
        few = omega (arith, g.0);
      }

  pub spells_more : {links' byte' links'' byte'' s u : List ℕ} {m r b q w : ℕ} (h : Spells t links' byte' s m r) → Steps h.trie r b links'' byte'' q → u ≡ more s b → w ≡ nodes_with m q
      → Spells t links'' byte'' u w q
  spells_more {links'' = links''} {byte'' = byte''} {u = u} {q = q} h g e f = subst (λ w. Spells t links'' byte'' u w q) (sym f) (stepped h g e)

-- all the bytes
pub spells_all : {links byte links' byte' : List ℕ} {n m r : ℕ} {t : Trie links byte n} (at i k : ℕ) (text : List ℕ) → Spells t links' byte' (part at i text) m r → i ≡ k
    → Spells t links' byte' (part at k text) m r
spells_all at i k text h e = rw (sym e) h

pub part_length : (at n : ℕ) (text : List ℕ) → at + n ≤ length text → length (part at n text) ≡ n
unfolding part
part_length at n text h = length-take-le n (drop at text) (rw length-drop (omega arith))

-- a byte makes at most one node
pub spells_few : {links byte links' byte' : List ℕ} {n m r : ℕ} {t : Trie links byte n} (at i : ℕ) (text : List ℕ) → Spells t links' byte' (part at i text) m r → at + i ≤ length text → m ≤ n + i
spells_few at i text h l = let f = h.few in let p = part_length at i text l in omega arith

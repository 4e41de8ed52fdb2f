-- How a tree of spellings is searched for a child.
use Rattle.std.specs.Prelude.{ℕ, ◌*◌, ◌/◌, ◌%◌, ◌<◌, List, true, false, ◌≢◌, ◌⊎◌, ◌≡◌, eqb, get_or}
use Rattle.std.proofs.Common.{inl, inr, sym, ap, ap₂, ◌∙◌, subst, arith, eq-eqb, ne_eqb}
use Rattle.language.proofs.Laws.Basics.Tests.{pick, leave}
use Rattle.spellings.specs.Trie.{more, child_link, sibling_link, owner, Leads, here, further, Passed, start, another, Trie, Sought}
use Rattle.spellings.specs.TrieDepth.{few_passed}
use Rattle.spellings.specs.Spellings.{same-front, same_byte, never-empty, equal_or_not, positive}

-- whose children a link leads to
pub owner-child : (parent : ℕ → ℕ) (p : ℕ) → owner parent (child_link p) ≡ p
unfolding owner
owner-child parent p =
    let e : child_link p % 3 ≡ 2 = omega arith in
    pick (eqb (child_link p % 3) 2) _ _ (eq-eqb (child_link p % 3) 2 e) ∙ omega arith

pub owner_sibling : (parent : ℕ → ℕ) (k bits : ℕ) → owner parent (sibling_link k bits) ≡ parent k
unfolding owner
owner_sibling parent k bits =
    let d : sibling_link k bits % 3 ≢ 2 = λ e. omega arith in
    let q : sibling_link k bits / 3 ≡ k = omega arith in
    leave (eqb (sibling_link k bits % 3) 2) _ _ (ne_eqb (sibling_link k bits % 3) 2 d) ∙ ap parent q

pub owner-same : (parent' parent : ℕ → ℕ) (l : ℕ) → parent' (l / 3) ≡ parent (l / 3) → owner parent' l ≡ owner parent l
unfolding owner
owner-same parent' parent l e = ap (λ m. elim (eqb (l % 3) 2) [ true ↦ l / 3 | false ↦ m ]) e

-- A search is at link l, with these bits left: the link is one of p's, and a child of p by byte b lies ahead.
pub record Seeking {links byte : List ℕ} {n : ℕ} (t : Trie links byte n) (p b l bits : ℕ) : Type 0 where
  pub inside : l < 3 * n
  pub owned : owner t.parent l ≡ p
  pub passed : (d : ℕ) × Passed links byte p b d l bits
  pub ahead : (k : ℕ) → 0 < k → k < n → t.parent k ≡ p → get_or byte k 0 ≡ b → Leads links byte b k l bits

module _ {links byte : List ℕ} {n : ℕ} (t : Trie links byte n) (p b : ℕ) (h : p < n) where
  pub seek_start : {bits : ℕ} → bits ≡ b → Seeking t p b (child_link p) bits
  seek_start e =
      subst (Seeking t p b (child_link p)) (sym e)
      (record {
        inside = omega arith;
        owned = owner-child t.parent p;
        passed = (0, start);
        ahead =
            λ k s i q f. subst (λ c. Leads links byte c k (child_link p) c) f (subst (λ m. Leads links byte (get_or byte k 0) k (child_link m) (get_or byte k 0)) q (t.found k s i));
      })

  module _ {l bits at : ℕ} (s : Seeking t p b l bits) (e : at ≡ get_or links l 0) where
    pub seek-inside : at < n
    seek-inside = let i = t.inside l in omega arith

    -- a further link, if the node there has another byte; it lies behind
    pub seek-further : at ≢ 0 → get_or byte at 0 ≢ b → Seeking t p b (sibling_link at bits) (bits / 2) × (l < sibling_link at bits)
    seek-further d other =
        subst (λ m. Seeking t p b (sibling_link m bits) (bits / 2) × (l < sibling_link m bits)) (sym e) (
          record {
            inside = (let i = t.inside l in omega arith);
            owned = owner_sibling t.parent (get_or links l 0) bits ∙ t.owned l some ∙ s.owned;
            passed = (_, another s.passed.1 some differs);
            ahead = λ k j i q f. next k f (s.ahead k j i q f);
          },
          (let r = t.rising l some in omega arith),
        )
      where
        some : get_or links l 0 ≢ 0
        some z = d (e ∙ z)

        differs : get_or byte (get_or links l 0) 0 ≢ b
        differs f = other (ap (λ m. get_or byte m 0) e ∙ f)

        next : (k : ℕ) → get_or byte k 0 ≡ b → Leads links byte b k l bits → Leads links byte b k (sibling_link (get_or links l 0) bits) (bits / 2)
        next k f (here g) = absurd (differs (ap (λ m. get_or byte m 0) g ∙ f))
        next k f (further _ _ x) = x

    -- the search ends: the node there has the byte, or there is none
    pub seek-ends : b < 256 → (at ≢ 0 → get_or byte at 0 ≡ b) → Sought t p b l
    seek-ends small ends =
        record {
          inside = s.inside;
          owned = s.owned;
          count = s.passed.0;
          bits = bits;
          passed = s.passed.1;
          few = few_passed t small s.passed.1;
          found =
              λ d. (t.child (get_or links l 0) (positive (get_or links l 0) d) (t.inside l)).1 ∙ ap₂ more (ap t.str (t.owned l d ∙ s.owned))
              (ap (λ m. get_or byte m 0) (sym e) ∙ ends (λ z. d (sym e ∙ z)));
          missing = λ z k i g. none z k i g (equal_or_not k 0);
        }
      where
        behind : (k : ℕ) → get_or links l 0 ≡ 0 → k ≢ 0 → Leads links byte b k l bits → ⊥
        behind k z d (here g) = d (sym g ∙ z)
        behind k z d (further f _ _) = f z

        none : get_or links l 0 ≡ 0 → (k : ℕ) → k < n → t.str k ≡ more (t.str p) b → (k ≡ 0) ⊎ (k ≢ 0) → ⊥
        none z k i g (inl q) = never-empty (t.str p) b (sym t.root ∙ ap t.str (sym q) ∙ g)
        none z k i g (inr d) =
            let c = t.child k (positive k d) i in
            let same = sym c.1 ∙ g in
            let mine : t.parent k ≡ p = t.distinct (t.parent k) p c.0 h (same-front (t.str (t.parent k)) (t.str p) (get_or byte k 0) b same) in
            behind k z d (s.ahead k (positive k d) i mine (same_byte (t.str (t.parent k)) (t.str p) (get_or byte k 0) b same))

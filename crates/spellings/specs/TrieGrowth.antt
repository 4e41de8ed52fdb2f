-- How a tree of spellings grows by one node, and what a step in it reaches.
use Rattle.std.specs.Prelude.{ℕ, ◌+◌, ◌*◌, ◌/◌, ◌<◌, List, true, false, ◌≢◌, ◌⊎◌, ◌≡◌, refl, eqb, length, get_or, set}
use Rattle.std.proofs.Common.{inl, inr, sym, ap, ap₂, ◌∙◌, subst, arith, length-set, get_or-set_same, get_or-set_other, eq-eqb, ne_eqb}
use Rattle.language.proofs.Laws.Basics.Tests.{pick, leave}
use Rattle.spellings.specs.Trie.{more, child_link, sibling_link, owner, Leads, here, further, Passed, start, another, Trie, Sought, Reached, nodes_with, Steps}
use Rattle.spellings.specs.TrieSearch.{owner-same}
use Rattle.spellings.specs.Spellings.{equal_or_not}

-- One node more: a child of node p by byte b, where there is none, at the link where the search for it ended.
module _ {links byte : List ℕ} {n : ℕ} (t : Trie links byte n) (p b r : ℕ) (sought : Sought t p b r) (empty : get_or links r 0 ≡ 0) (inside : p < n) (room : n < length byte) (byte_small : b < 256) where
  abbrev str' : ℕ → List ℕ
  str' k = elim (eqb k n) [ true ↦ more (t.str p) b | false ↦ t.str k ]

  abbrev parent' : ℕ → ℕ
  parent' k = elim (eqb k n) [ true ↦ p | false ↦ t.parent k ]

  abbrev links' : List ℕ
  links' = set links r n

  abbrev byte' : List ℕ
  byte' = set byte n b

  absent : (k : ℕ) → k < n → t.str k ≢ more (t.str p) b
  absent = sought.missing empty

  str_new : str' n ≡ more (t.str p) b
  str_new = pick (eqb n n) _ _ (eq-eqb n n refl)

  str_old : (k : ℕ) → k < n → str' k ≡ t.str k
  str_old k l = leave (eqb k n) _ _ (ne_eqb k n (λ e. omega arith))

  parent_new : parent' n ≡ p
  parent_new = pick (eqb n n) _ _ (eq-eqb n n refl)

  parent_old : (k : ℕ) → k < n → parent' k ≡ t.parent k
  parent_old k l = leave (eqb k n) _ _ (ne_eqb k n (λ e. omega arith))

  byte_new : get_or byte' n 0 ≡ b
  byte_new = get_or-set_same byte n b 0 room

  byte_old : (k : ℕ) → k < n → get_or byte' k 0 ≡ get_or byte k 0
  byte_old k l = get_or-set_other byte n k b 0 (λ e. omega arith)

  link_new : get_or links' r 0 ≡ n
  link_new = get_or-set_same links r n 0 (let i = sought.inside in let l = t.links_room in omega arith)

  link_old : (l : ℕ) → l ≢ r → get_or links' l 0 ≡ get_or links l 0
  link_old l d = get_or-set_other links r l n 0 d

  -- a link that leads to a node leads to it still, so that no search which found one meets the new link
  link_kept : (l : ℕ) → get_or links l 0 ≢ 0 → get_or links' l 0 ≡ get_or links l 0
  link_kept l d = link_old l (λ e. d (ap (λ m. get_or links m 0) e ∙ empty))

  further-kept : {c k l bits : ℕ} → get_or links l 0 ≢ 0 → get_or byte (get_or links l 0) 0 ≢ c → Leads links' byte' c k (sibling_link (get_or links l 0) bits) (bits / 2) → Leads links' byte' c k l bits
  further-kept {c} {k} {l} {bits} d other x =
      let e = link_kept l d in
      further (λ z. d (sym e ∙ z)) (λ f. other (sym (byte_old (get_or links l 0) (t.inside l)) ∙ ap (λ m. get_or byte' m 0) (sym e) ∙ f))
      (subst (λ m. Leads links' byte' c k (sibling_link m bits) (bits / 2)) (sym e) x)

  leads_kept : {c k l bits : ℕ} → k ≢ 0 → Leads links byte c k l bits → Leads links' byte' c k l bits
  leads_kept {l = l} h (here e) = here (link_kept l (λ z. h (sym e ∙ z)) ∙ e)
  leads_kept h (further d other x) = further-kept d other (leads_kept h x)

  leads_back : {k d l bits : ℕ} → Passed links byte p b d l bits → Leads links' byte' b k l bits → Leads links' byte' b k (child_link p) b
  leads_back start x = x
  leads_back (another q d other) x = leads_back q (further-kept d other x)

  -- what holds of every node, if it holds of those that were there and of the new one; and of every link
  each-node : (P : ℕ → Type 0) → ((k : ℕ) → k < n → P k) → P n → (k : ℕ) → k < n + 1 → P k
  each-node P f g k l = go (equal_or_not k n)
    where
      go : (k ≡ n) ⊎ (k ≢ n) → P k
      go (inl e) = subst P (sym e) g
      go (inr d) = f k (omega arith)

  each_link : (P : ℕ → ℕ → Type 0) → ((l : ℕ) → P l (get_or links l 0)) → P r n → (l : ℕ) → P l (get_or links' l 0)
  each_link P f g l = go (equal_or_not l r)
    where
      go : (l ≡ r) ⊎ (l ≢ r) → P l (get_or links' l 0)
      go (inl e) = subst (λ m. P m (get_or links' m 0)) (sym e) (subst (P r) (sym link_new) g)
      go (inr d) = subst (P l) (sym (link_old l d)) (f l)

  owner_old : (l : ℕ) → l < 3 * n → owner parent' l ≡ owner t.parent l
  owner_old l h = owner-same parent' t.parent l (parent_old (l / 3) (omega arith))

  grown_trie : Trie links' byte' (n + 1)
  grown_trie =
      record {
        str = str';
        parent = parent';
        links_room = (let l = length-set links r n in let m = length-set byte n b in let q = t.links_room in omega arith);
        byte-room = (let l = length-set byte n b in omega arith);
        rooted = omega arith;
        root = str_old 0 t.rooted ∙ t.root;
        distinct = distinct';
        child = child';
        small = each-node (λ k. get_or byte' k 0 < 256) (λ k l. let e = byte_old k l in let s = t.small k l in omega arith) (let e = byte_new in omega arith);
        inside = each_link (λ l k. k < n + 1) (λ l. let i = t.inside l in omega arith) (omega arith);
        rising = each_link (λ l k. k ≢ 0 → l < 3 * k) t.rising (λ d. let i = sought.inside in omega arith);
        once = once';
        owned = each_link (λ l k. k ≢ 0 → parent' k ≡ owner parent' l) owned-old (λ d. parent_new ∙ sym sought.owned ∙ sym (owner_old r sought.inside));
        found = found';
      }
    where
      distinct' : (i k : ℕ) → i < n + 1 → k < n + 1 → str' i ≡ str' k → i ≡ k
      distinct' a c la lc e =
          each-node (λ i. (k : ℕ) → k < n + 1 → str' i ≡ str' k → i ≡ k)
          (λ i l. each-node (λ k. str' i ≡ str' k → i ≡ k) (λ k h e. t.distinct i k l h (sym (str_old i l) ∙ e ∙ str_old k h)) (λ e. absurd (absent i l (sym (str_old i l) ∙ e ∙ str_new))))
          (each-node (λ k. str' n ≡ str' k → n ≡ k) (λ k h e. absurd (absent k h (sym (str_old k h) ∙ sym e ∙ str_new))) (λ e. refl)) a la c lc e

      child' : (k : ℕ) → 0 < k → k < n + 1 → (parent' k < n + 1) × (str' k ≡ more (str' (parent' k)) (get_or byte' k 0))
      child' k s l =
          each-node (λ k. 0 < k → (parent' k < n + 1) × (str' k ≡ more (str' (parent' k)) (get_or byte' k 0)))
          (λ k h s. let c = t.child k s h in let e = parent_old k h in (omega (arith, c.0), str_old k h ∙ c.1 ∙ ap₂ more (sym (ap str' e ∙ str_old (t.parent k) c.0)) (sym (byte_old k h))))
          (λ s. (omega (arith, parent_new), str_new ∙ ap₂ more (sym (ap str' parent_new ∙ str_old p inside)) (sym byte_new))) k l s

      once' : (l m : ℕ) → get_or links' l 0 ≢ 0 → get_or links' l 0 ≡ get_or links' m 0 → l ≡ m
      once' l m d e =
          each_link (λ l k. k ≢ 0 → (m : ℕ) → k ≡ get_or links' m 0 → l ≡ m)
          (λ l d. each_link (λ m k. get_or links l 0 ≡ k → l ≡ m) (λ m. t.once l m d) (λ e. absurd (let i = t.inside l in omega arith)))
          (λ d. each_link (λ m k. n ≡ k → r ≡ m) (λ m e. absurd (let i = t.inside m in omega arith)) (λ e. refl)) l d m e

      owned-old : (l : ℕ) → get_or links l 0 ≢ 0 → parent' (get_or links l 0) ≡ owner parent' l
      owned-old l d =
          let i = t.inside l in
          let u = t.rising l d in
          parent_old (get_or links l 0) i ∙ t.owned l d ∙ sym (owner_old l (omega arith))

      leads-at : (k q c : ℕ) → parent' k ≡ q → get_or byte' k 0 ≡ c → Leads links' byte' c k (child_link q) c → Leads links' byte' (get_or byte' k 0) k (child_link (parent' k)) (get_or byte' k 0)
      leads-at k q c e f x = subst (λ m. Leads links' byte' (get_or byte' k 0) k (child_link m) (get_or byte' k 0)) (sym e) (subst (λ m. Leads links' byte' m k (child_link q) m) (sym f) x)

      found' : (k : ℕ) → 0 < k → k < n + 1 → Leads links' byte' (get_or byte' k 0) k (child_link (parent' k)) (get_or byte' k 0)
      found' k s l =
          each-node (λ k. 0 < k → Leads links' byte' (get_or byte' k 0) k (child_link (parent' k)) (get_or byte' k 0))
          (λ k h s. leads-at k (t.parent k) (get_or byte k 0) (parent_old k h) (byte_old k h) (leads_kept (λ z. omega arith) (t.found k s h)))
          (λ s. leads-at n p b parent_new byte_new (leads_back sought.passed (here link_new))) k l s

  reached_new : Reached t p b links' byte' (n + 1) n
  unfolding grown_trie
  reached_new = record { trie = grown_trie; kept = str_old; inside = omega arith; spells = str_new }

-- a step to the child that a search found, and to a new one
module _ {links byte : List ℕ} {n : ℕ} (t : Trie links byte n) (p b r : ℕ) (s : Sought t p b r) where
  pub step_room : r < length links
  step_room = let i = s.inside in let l = t.links_room in let m = t.byte-room in omega arith

  pub step_old : {k : ℕ} → k ≡ get_or links r 0 → k ≢ 0 → Steps t p b links byte k
  step_old {k} e d =
      let l : k < n = (let i = t.inside r in omega arith) in
      let same : n ≡ nodes_with n k = omega arith in
      (omega arith, subst (λ m. Reached t p b links byte m k) same (record { trie = t; kept = λ k l. refl; inside = l; spells = ap t.str e ∙ s.found (λ z. d (e ∙ z)) }))

  pub step_new : {k : ℕ} → k ≡ get_or links r 0 → k ≡ 0 → p < n → n < length byte → b < 256 → Steps t p b (set links r n) (set byte n b) n
  step_new e z inside room small =
      let same : n + 1 ≡ nodes_with n n = omega arith in
      (omega arith, subst (λ m. Reached t p b (set links r n) (set byte n b) m n) same (reached_new t p b r s (sym e ∙ z) inside room small))

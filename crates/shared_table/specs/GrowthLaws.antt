-- How the index grows by one node.
use Rattle.std.specs.Prelude.{ℕ, suc, ◌+◌, ◌/◌, ◌^◌, ◌≤◌, ◌<◌, List, ◌≢◌, ◌≡◌, refl, length, get_or, set}
use Rattle.std.proofs.Common.{sym, ap, ◌∙◌, subst, arith}
use Rattle.std.proofs.Math.Decide.{ℕ_discrete}
use Rattle.std.proofs.Math.ListN.{length-set}
use Rattle.std.proofs.Math.Seq.{get_or-set_same, get_or-set_other}
use Rattle.shared_table.specs.Shared.{slot, word_at, next_link, head_of, Link, Leads, here, further, Passed, start, another, Index, Seeking}
use Rattle.shared_table.specs.DepthLaws.{passed_link}

-- the array with a node at place p: a word that has no links yet
abbrev pub with_node : List ℕ → ℕ → ℕ → List ℕ
with_node out p w = set (set (set out p w) (p + 1) 0) (p + 2) 0

module _ (out : List ℕ) (p w : ℕ) where
  node-word : p < length out → get_or (with_node out p w) p 0 ≡ w
  node-word h =
      get_or-set_other (set (set out p w) (p + 1) 0) (p + 2) p 0 0 (λ e. omega arith) ∙ get_or-set_other (set out p w) (p + 1) p 0 0 (λ e. omega arith)
      ∙ get_or-set_same out p w 0 h

  node-first : p + 1 < length out → get_or (with_node out p w) (p + 1) 0 ≡ 0
  node-first h =
      get_or-set_other (set (set out p w) (p + 1) 0) (p + 2) (p + 1) 0 0 (λ e. omega arith) ∙ get_or-set_same (set out p w) (p + 1) 0 0 (let l = length-set out p w in omega arith)

  node-length : length (with_node out p w) ≡ length out
  node-length = length-set (set (set out p w) (p + 1) 0) (p + 2) 0 ∙ length-set (set out p w) (p + 1) 0 ∙ length-set out p w

  node-second : p + 2 < length out → get_or (with_node out p w) (p + 2) 0 ≡ 0
  node-second h = get_or-set_same (set (set out p w) (p + 1) 0) (p + 2) 0 0 (let l = length-set (set out p w) (p + 1) 0 in let m = length-set out p w in omega arith)

  node-before : (i : ℕ) → i < p → get_or (with_node out p w) i 0 ≡ get_or out i 0
  node-before i h =
      get_or-set_other (set (set out p w) (p + 1) 0) (p + 2) i 0 0 (λ e. omega arith) ∙ get_or-set_other (set out p w) (p + 1) i 0 0 (λ e. omega arith)
      ∙ get_or-set_other out p i w 0 (λ e. omega arith)

-- the array with one more than n nodes: the new node, the link r to it, and the count
unfoldable pub grown : List ℕ → ℕ → ℕ → ℕ → List ℕ
grown out n r w = set (set (with_node out (slot (n + 1)) w) r (n + 1)) 0 (n + 1)

module _ (out : List ℕ) (n r w : ℕ) (link : Link n r) (room : slot (n + 2) ≤ length out) where
  abbrev noded : List ℕ
  noded = with_node out (slot (n + 1)) w

  pub grown-length : length (grown out n r w) ≡ length out
  unfolding grown
  grown-length = length-set (set noded r (n + 1)) 0 (n + 1) ∙ length-set noded r (n + 1) ∙ node-length out (slot (n + 1)) w

  pub grown-count : get_or (grown out n r w) 0 0 ≡ n + 1
  unfolding grown
  grown-count =
      get_or-set_same (set noded r (n + 1)) 0 (n + 1) 0 (let l = length-set noded r (n + 1) in let m = node-length out (slot (n + 1)) w in omega arith)

  pub grown_link : get_or (grown out n r w) r 0 ≡ n + 1
  unfolding grown
  grown_link =
      get_or-set_other (set noded r (n + 1)) 0 r (n + 1) 0 (λ e. let l = link.low in omega arith)
      ∙ get_or-set_same noded r (n + 1) 0 (let h = link.high in let m = node-length out (slot (n + 1)) w in omega arith)

  -- behind the count, away from the link r, the new node alone is written
  behind : (i : ℕ) → i ≢ 0 → i ≢ r → get_or (grown out n r w) i 0 ≡ get_or noded i 0
  unfolding grown
  behind i z d = get_or-set_other (set noded r (n + 1)) 0 i (n + 1) 0 z ∙ get_or-set_other noded r i (n + 1) 0 d

  pub grown-last : word_at (grown out n r w) (n + 1) ≡ w
  grown-last = behind (slot (n + 1)) (λ e. omega arith) (λ e. link.apart (n + 1) (omega arith) (sym e)) ∙ node-word out (slot (n + 1)) w (omega arith)

  pub grown-first : get_or (grown out n r w) (slot (n + 1) + 1) 0 ≡ 0
  grown-first = behind (slot (n + 1) + 1) (λ e. omega arith) (λ e. let h = link.high in omega arith) ∙ node-first out (slot (n + 1)) w (omega arith)

  pub grown-second : get_or (grown out n r w) (slot (n + 1) + 2) 0 ≡ 0
  grown-second = behind (slot (n + 1) + 2) (λ e. omega arith) (λ e. let h = link.high in omega arith) ∙ node-second out (slot (n + 1)) w (omega arith)

  pub grown_old : (i : ℕ) → i ≢ 0 → i ≢ r → i < slot (n + 1) → get_or (grown out n r w) i 0 ≡ get_or out i 0
  grown_old i z d h = behind i z d ∙ node-before out (slot (n + 1)) w i h

  pub grown-words : (v : ℕ) → 1 ≤ v → v ≤ n → word_at (grown out n r w) v ≡ word_at out v
  grown-words v p h = grown_old (slot v) (λ e. omega arith) (λ e. link.apart v p (sym e)) (omega arith)

-- One node more: word w, where there is none, at the link where the search for it ended.
module _ {out : List ℕ} {n w r bits : ℕ} (t : Index out n) (s : Seeking out n w r bits) (empty : get_or out r 0 ≡ 0) (room : slot (n + 2) ≤ length out) (small : w < 2 ^ 32) where
  abbrev out' : List ℕ
  out' = grown out n r w

  link_old : (l : ℕ) → Link n l → l ≢ r → get_or out' l 0 ≡ get_or out l 0
  link_old l k d = grown_old out n r w s.link room l (λ e. let p = k.low in omega arith) d k.high

  -- a link that leads to a node leads to it still, so that no search which found one meets the new link
  link_kept : (l : ℕ) → Link n l → get_or out l 0 ≢ 0 → get_or out' l 0 ≡ get_or out l 0
  link_kept l k d = link_old l k (λ e. d (ap (λ m. get_or out m 0) e ∙ empty))

  further-kept : {u v l rest : ℕ} → Link n l → get_or out l 0 ≢ 0 → word_at out (get_or out l 0) ≢ u → Leads out' u v (next_link (get_or out l 0) rest) (rest / 2) → Leads out' u v l rest
  further-kept {u} {v} {l} {rest} k d other x =
      let e = link_kept l k d in
      let i = t.inside l k in
      further (λ z. d (sym e ∙ z)) (λ f. other (sym (grown-words out n r w s.link room (get_or out l 0) (omega arith) i) ∙ ap (word_at out') (sym e) ∙ f))
      (subst (λ m. Leads out' u v (next_link m rest) (rest / 2)) (sym e) x)

  leads_kept : {u v d l rest : ℕ} → v ≢ 0 → Passed out u d l rest → Leads out u v l rest → Leads out' u v l rest
  leads_kept {l = l} h q (here e) = here (link_kept l (passed_link t q) (λ z. h (sym e ∙ z)) ∙ e)
  leads_kept {d = d'} h q (further d other x) = further-kept (passed_link t q) d other (leads_kept {d = suc d'} h (another q d other) x)

  leads_back : {v d l rest : ℕ} → Passed out w d l rest → Leads out' w v l rest → Leads out' w v (head_of w) w
  leads_back start x = x
  leads_back (another q d other) x = leads_back q (further-kept (passed_link t q) d other x)

  -- what holds of every node, if it holds of those that were there and of the new one
  each-node : (P : ℕ → Type 0) → ((v : ℕ) → 1 ≤ v → v ≤ n → P v) → P (n + 1) → (v : ℕ) → 1 ≤ v → v ≤ n + 1 → P v
  each-node P f g v p h = go (ℕ_discrete v (n + 1))
    where
      go : Dec (v ≡ n + 1) → P v
      go (yes e) = subst P (sym e) g
      go (no d) = f v p (omega arith)

  -- what holds of every link and where it leads, if it holds of those that were there, of the one to the new node and of that node's own
  each_link : (P : ℕ → ℕ → Type 0) → ((l : ℕ) → Link n l → P l (get_or out l 0)) → P r (n + 1) → ((l : ℕ) → slot (n + 1) < l → P l 0) → (l : ℕ) → Link (n + 1) l → P l (get_or out' l 0)
  each_link P f g k l h = go (ℕ_discrete l r) (ℕ_discrete l (slot (n + 1) + 1)) (ℕ_discrete l (slot (n + 1) + 2))
    where
      go : Dec (l ≡ r) → Dec (l ≡ slot (n + 1) + 1) → Dec (l ≡ slot (n + 1) + 2) → P l (get_or out' l 0)
      go (yes e) _ _ = subst (λ m. P m (get_or out' m 0)) (sym e) (subst (P r) (sym (grown_link out n r w s.link room)) g)
      go (no d) (yes e) _ = subst (λ m. P m (get_or out' m 0)) (sym e) (subst (P (slot (n + 1) + 1)) (sym (grown-first out n r w s.link room)) (k (slot (n + 1) + 1) (omega arith)))
      go (no d) (no _) (yes e) = subst (λ m. P m (get_or out' m 0)) (sym e) (subst (P (slot (n + 1) + 2)) (sym (grown-second out n r w s.link room)) (k (slot (n + 1) + 2) (omega arith)))
      go (no d) (no a) (no b) =
          let other = h.apart (n + 1) (omega arith) in
          let old : Link n l = record { low = h.low; high = (let u = h.high in omega arith); apart = h.apart } in
          subst (P l) (sym (link_old l old d)) (f l old)

  pub grown-index : Index out' (n + 1)
  grown-index =
      record {
        inside = each_link (λ l v. v ≤ n + 1) (λ l k. let i = t.inside l k in omega arith) (omega arith) (λ l h. omega arith);
        rising = each_link (λ l v. v ≢ 0 → l < slot v) t.rising (λ d. s.link.high) (λ l h d. absurd (d refl));
        once = λ l m k j. once' l k m j;
        found = found';
        small = each-node (λ v. word_at out' v < 2 ^ 32) (λ v p h. let e = words v p h in let i = t.small v p h in omega arith) (let e = last in omega arith);
      }
    where
      words : (v : ℕ) → 1 ≤ v → v ≤ n → word_at out' v ≡ word_at out v
      words = grown-words out n r w s.link room

      last : word_at out' (n + 1) ≡ w
      last = grown-last out n r w s.link room

      once' : (l : ℕ) → Link (n + 1) l → (m : ℕ) → Link (n + 1) m → get_or out' l 0 ≢ 0 → get_or out' l 0 ≡ get_or out' m 0 → l ≡ m
      once' l k m j =
          each_link (λ l v. v ≢ 0 → v ≡ get_or out' m 0 → l ≡ m)
          (λ l k. each_link (λ m v. get_or out l 0 ≢ 0 → get_or out l 0 ≡ v → l ≡ m) (λ m j. t.once l m k j) (λ d e. absurd (let i = t.inside l k in omega arith)) (λ m h d e. absurd (d e)) m j)
          (each_link (λ m v. n + 1 ≢ 0 → n + 1 ≡ v → r ≡ m) (λ m j d e. absurd (let i = t.inside m j in omega arith)) (λ d e. refl) (λ m h d e. absurd (d e)) m j)
          (λ l h d. absurd (d refl)) l k

      leads-at : (u v : ℕ) → word_at out' v ≡ u → Leads out' u v (head_of u) u → Leads out' (word_at out' v) v (head_of (word_at out' v)) (word_at out' v)
      leads-at u v e x = subst (λ y. Leads out' y v (head_of y) y) (sym e) x

      found' : (v : ℕ) → 1 ≤ v → v ≤ n + 1 → Leads out' (word_at out' v) v (head_of (word_at out' v)) (word_at out' v)
      found' =
          each-node (λ v. Leads out' (word_at out' v) v (head_of (word_at out' v)) (word_at out' v))
          (λ v p h. leads-at (word_at out v) v (words v p h) (leads_kept (λ z. omega arith) start (t.found v p h)))
          (leads-at w (n + 1) last (leads_back s.passed (here (grown_link out n r w s.link room))))

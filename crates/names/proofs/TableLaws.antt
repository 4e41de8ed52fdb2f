-- What a table of smallest places says of visible names, and how it changes with them.
use Rattle.std.specs.Prelude.{ℕ, ◌≤◌, ◌<◌, min, max, List, [], ◌∷◌, Bool, true, false, ◌||◌, ◌⊎◌, ◌≡◌, refl, eqb, ltb, get_or, set}
use Rattle.std.proofs.Common.{inl, inr, sym, ap, ap₂, ◌∙◌, arith, length-set, get_or-set_same, get_or-set_other, lt-ltb, le-ltb, ltb-true, ltb-false, eqb-true}
use Rattle.std.proofs.Math.Option.{none, some}
use Rattle.std.proofs.lemmas.Bool.{eqb-false}
use Rattle.language.specs.Bytes.{same}
use Rattle.language.specs.Tokens.{Token}
use Rattle.language.specs.Places.{first, unless}
use Rattle.language.specs.Names.{Names, visible, hidden, again}
use Rattle.language.proofs.Laws.Basics.Lists.{All}
use Rattle.language.proofs.Laws.Basics.Tests.{pick, leave, same_equal}
use Rattle.names.proofs.AlikeLaws.{met}
use Rattle.spellings.specs.Interned.{token_at, IsName, Interned}
use Rattle.spellings.specs.TopLaws.{below_top}
use Rattle.names.specs.Tables.{no_place, place_of, least, hidden_place, Placed, Shows}

pub place_some : (v : ℕ) → v < no_place → place_of v ≡ some v
unfolding place_of
place_some v l = pick (ltb v no_place) (some v) none (lt-ltb v no_place l)

pub place_none : (v : ℕ) → no_place ≤ v → place_of v ≡ none
unfolding place_of
place_none v l = leave (ltb v no_place) (some v) none (le-ltb v no_place l)

pub below_or_not : (a b : ℕ) → (a < b) ⊎ (b ≤ a)
below_or_not a b = go (ltb a b) refl
  where
    go : (c : Bool) → ltb a b ≡ c → (a < b) ⊎ (b ≤ a)
    go true e = inl (ltb-true a b e)
    go false e = inr (ltb-false a b e)

-- the smaller of two places
pub place-min : (v w : ℕ) → first (place_of v) (place_of w) ≡ place_of (min v w)
place-min v w = go (below_or_not v no_place) (below_or_not w no_place)
  where
    go : (v < no_place) ⊎ (no_place ≤ v) → (w < no_place) ⊎ (no_place ≤ w) → first (place_of v) (place_of w) ≡ place_of (min v w)
    go (inl a) (inl b) = rw (place_some v a, place_some w b, place_some (min v w) (omega arith))
    go (inl a) (inr b) = let e : v ≡ min v w = omega arith in rw (place_some v a, place_none w b, ← e) (sym (place_some v a))
    go (inr a) (inl b) = let e : w ≡ min v w = omega arith in rw (place_none v a, ← e)
    go (inr a) (inr b) = rw (place_none v a, place_none w b, place_none (min v w) (omega arith))

-- a name's smallest place
pub least-same : (n : Token) (ns : Names) (t : Token) → same n.text t.text ≡ true → least (n ∷ ns) t ≡ min n.at (least ns t)
unfolding least
least-same n ns t e = pick (same n.text t.text) _ _ e

pub least_other : (n : Token) (ns : Names) (t : Token) → same n.text t.text ≡ false → least (n ∷ ns) t ≡ least ns t
unfolding least
least_other n ns t e = leave (same n.text t.text) _ _ e

pub least_none : (t : Token) → least [] t ≡ no_place
unfolding least
least_none t = refl

pub least-text : (ns : Names) (t u : Token) → t.text ≡ u.text → least ns t ≡ least ns u
unfolding least
least-text [] t u e = refl
least-text (n ∷ ns) t u e = ap₂ (λ (b : Bool) (k : ℕ). elim b as (λ x. ℕ) [ true ↦ min n.at k | false ↦ k ]) (ap (same n.text) e) (least-text ns t u e)

-- whether a name is visible, and where it meets another
pub visible-least : (ns : Names) (t : Token) → All Placed ns → visible ns t ≡ ltb (least ns t) no_place
visible-least [] t h = sym (le-ltb (least [] t) no_place (let e = least_none t in omega arith))
visible-least (n ∷ ns) t h = go (visible-least ns t h.1) (same n.text t.text) refl
  where
    go : visible ns t ≡ ltb (least ns t) no_place → (b : Bool) → same n.text t.text ≡ b → (same n.text t.text || visible ns t) ≡ ltb (least (n ∷ ns) t) no_place
    go ih true e = let l = least-same n ns t e in let p : n.at < no_place = h.0 in rw e (sym (lt-ltb (least (n ∷ ns) t) no_place (omega arith)))
    go ih false e = rw (e, least_other n ns t e) ih

pub again-least : (ns : Names) (t : Token) → All Placed ns → Placed t → again ns t ≡ place_of (max (least ns t) t.at)
again-least [] t h p = sym (place_none (max (least [] t) t.at) (let e = least_none t in omega arith))
again-least (n ∷ ns) t h p = go (again-least ns t h.1 p) (same n.text t.text) refl
  where
    q : n.at < no_place
    q = h.0

    go : again ns t ≡ place_of (max (least ns t) t.at) → (b : Bool) → same n.text t.text ≡ b → first (met n t) (again ns t) ≡ place_of (max (least (n ∷ ns) t) t.at)
    go ih true e =
        let l = least-same n ns t e in
        let m : min (max n.at t.at) (max (least ns t) t.at) ≡ max (least (n ∷ ns) t) t.at = omega arith in
        ap₂ first (pick (same n.text t.text) _ _ e ∙ sym (place_some (max n.at t.at) (omega arith))) ih
        ∙ place-min (max n.at t.at) (max (least ns t) t.at) ∙ ap place_of m
    go ih false e = rw (least_other n ns t e) (ap (λ o. first o (again ns t)) (leave (same n.text t.text) _ _ e) ∙ ih)

pub hidden-least : (ns : Names) (t : Token) → All Placed ns → Placed t → hidden ns t ≡ place_of (hidden_place (least ns t) t.at)
unfolding hidden_place
hidden-least ns t h p = ap (λ b. unless b t.at) (visible-least ns t h) ∙ go (ltb (least ns t) no_place)
  where
    go : (b : Bool) → unless b t.at ≡ place_of (elim b [ true ↦ no_place | false ↦ t.at ])
    go true = sym (place_none no_place (omega arith))
    go false = sym (place_some t.at p)

pub hidden-not : (v at : ℕ) → v < no_place → no_place ≡ hidden_place v at
unfolding hidden_place
hidden-not v at l = sym (pick (ltb v no_place) no_place at (lt-ltb v no_place l))

pub hidden-here : (v at : ℕ) → no_place ≤ v → at ≡ hidden_place v at
unfolding hidden_place
hidden-here v at l = sym (leave (ltb v no_place) no_place at (le-ltb v no_place l))

-- A table after a store at a name's number: what the names of its spelling have, and the others keep.
module _ {ts : List Token} {count : ℕ} {ids : List ℕ} (known : Interned ts count ids) (i : ℕ) (l : i < count) (name : IsName ts i) where
  pub shows_set : {table : List ℕ} {m m' : Token → ℕ} (v : ℕ) → Shows ts count ids table m → ((t : Token) → same (token_at ts i).text t.text ≡ true → m' t ≡ v)
      → ((t : Token) → same (token_at ts i).text t.text ≡ false → m' t ≡ m t) → Shows ts count ids (set table (get_or ids i 0) v) m'
  shows_set {table} {m} {m'} v s f g =
      record { room = (let a = s.room in let b = length-set table (get_or ids i 0) v in omega arith); holds = λ j k y. holds j k y (eqb (get_or ids i 0) (get_or ids j 0)) refl }
    where
      holds : (j : ℕ) → j < count → IsName ts j → (b : Bool) → eqb (get_or ids i 0) (get_or ids j 0) ≡ b → get_or (set table (get_or ids i 0) v) (get_or ids j 0) 0 ≡ m' (token_at ts j)
      holds j k y true e =
          let here : get_or ids i 0 ≡ get_or ids j 0 = eqb-true (get_or ids i 0) (get_or ids j 0) e in
          ap (λ d. get_or (set table (get_or ids i 0) v) d 0) (sym here)
          ∙ get_or-set_same table (get_or ids i 0) v 0 (let a = s.room in let b = below_top ids i in omega arith)
          ∙ sym (f (token_at ts j) (sym (known.told i j l k name y) ∙ e))
      holds j k y false e =
          get_or-set_other table (get_or ids i 0) (get_or ids j 0) v 0 (λ z. eqb-false (get_or ids i 0) (get_or ids j 0) e (sym z))
          ∙ s.holds j k y ∙ sym (g (token_at ts j) (sym (known.told i j l k name y) ∙ e))

  abbrev own : Token
  own = token_at ts i

  -- one name less
  pub shows_pop : {table : List ℕ} (ns : Names) (v : ℕ) → Shows ts count ids table (least (own ∷ ns)) → v ≡ least ns own → Shows ts count ids (set table (get_or ids i 0) v) (least ns)
  shows_pop ns v s e =
      shows_set v s (λ t q. least-text ns t own (sym (same_equal own.text t.text q)) ∙ sym e) (λ t q. sym (least_other own ns t q))

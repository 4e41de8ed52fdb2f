-- One entry of the walk: what every kind of entry has in common.
use Rattle.std.specs.Prelude.{ℕ, suc, ◌+◌, ◌*◌, ◌≤◌, ◌<◌, List, ◌∷◌, Bool, true, false, ◌≡◌, eqb, length, get_or, drop}
use Rattle.std.proofs.Math.Option.{Option}
use Rattle.std.proofs.Math.Path.{refl, ap}
use Rattle.std.proofs.Common.{sym, ap₂, ◌∙◌, subst, arith, add-one, eqb-true}
use Rattle.std.proofs.lemmas.Bool.{eqb-false}
use Rattle.language.specs.Limits.{max_tokens}
use Rattle.language.specs.Tokens.{Token}
use Rattle.language.specs.Places.{first}
use Rattle.language.specs.Names.{Names, hidden, again, nowhere}
use Rattle.language.proofs.Laws.Basics.Lists.{All}
use Rattle.language.proofs.Laws.Basics.NoPlace.{first_assoc}
use Rattle.entries.specs.Flat.{Entry}
use Rattle.names.specs.Scan.{token_of, after, here, scan}
use Rattle.names.specs.Balanced.{Balanced}
use Rattle.names.specs.Tables.{place_of, least, Placed}
use Rattle.names.specs.Walkable.{names, Walkable, Table, entry_of}
use Rattle.names.proofs.WalkableLaws.{rest_at}
use Rattle.names.specs.References.{reference}
use Rattle.names.specs.Walking.{visible_before, open_after, open_before, refers_to, Open, visible_at, Walking}

scan-one : (used bound : Names → Token → Option ℕ) (ns : Names) (n : Entry) (es : List Entry) → scan used bound ns (n ∷ es) ≡ first (here used bound ns n) (scan used bound (after ns n) es)
unfolding scan
scan-one used bound ns n es = refl

module _ {w ids : List ℕ} {entries : ℕ} (h : Walkable w ids entries) (declared : Names) (k : ℕ) (l : k < entries) where
  abbrev own : Entry
  own = entry_of h.es k

  abbrev visible-next : Names
  visible-next = after (visible_at h declared k) own

  abbrev open_next : Names
  open_next = open_after (open_before h.es k) own

  next-visible : visible_at h declared (k + 1) ≡ visible-next
  unfolding visible_before
  next-visible = ap (visible_at h declared) (add-one k)

  next_open : open_before h.es (k + 1) ≡ open_next
  unfolding open_before
  next_open = ap (open_before h.es) (add-one k)

  own_open : open_before h.es (suc k) ≡ open_next
  unfolding open_before
  own_open = refl

  pub rest : drop k h.es ≡ own ∷ drop (k + 1) h.es
  rest = rest_at h.es k (let t = h.total in omega arith) ∙ ap (λ d. own ∷ drop d h.es) (sym (add-one k))

  -- what is found with this entry
  found : (used bound : Names → Token → Option ℕ) (p q : ℕ) → scan used bound (visible_at h declared 0) h.es ≡ first (place_of p) (scan used bound (visible_at h declared k) (drop k h.es))
      → place_of q ≡ first (place_of p) (here used bound (visible_at h declared k) own)
      → scan used bound (visible_at h declared 0) h.es ≡ first (place_of q) (scan used bound (visible_at h declared (k + 1)) (drop (k + 1) h.es))
  found used bound p q e f =
      e
      ∙ ap (first (place_of p)) (ap (scan used bound (visible_at h declared k)) rest ∙ scan-one used bound (visible_at h declared k) own (drop (k + 1) h.es))
      ∙ sym (first_assoc (place_of p) (here used bound (visible_at h declared k) own) (scan used bound visible-next (drop (k + 1) h.es)))
      ∙ ap₂ first (sym f) (ap (λ ns. scan used bound ns (drop (k + 1) h.es)) (sym next-visible))

  -- the state behind it
  pub record Next (seen table stack refs : List ℕ) (depth p q : ℕ) {seen₀ table₀ stack₀ refs₀ : List ℕ} {depth₀ p₀ q₀ : ℕ} (s : Walking h declared k seen₀ table₀ stack₀ refs₀ depth₀ p₀ q₀) : Type 0
    where
      pub placed : All Placed visible-next
      pub shown : Table h seen (least visible-next)
      pub points : Table h table (reference declared open_next)
      pub opened : Open h declared stack visible-next open_next
      pub deep : depth ≡ length open_next
      pub small : depth ≤ k + 1
      pub balanced : Balanced depth (drop (k + 1) h.es)
      pub hides : place_of p ≡ first (place_of p₀) (here hidden nowhere (visible_at h declared k) own)
      pub meets : place_of q ≡ first (place_of q₀) (here nowhere again (visible_at h declared k) own)
      pub refers : names own.kind ≡ true → get_or refs k 0 ≡ reference declared open_next (token_of own)
      pub others : (i : ℕ) → i < k → get_or refs i 0 ≡ get_or refs₀ i 0
      pub stack_room : 3 * entries ≤ length stack
      pub refs_room : max_tokens ≤ length refs

  pub walk_on : {seen table stack refs seen₀ table₀ stack₀ refs₀ : List ℕ} {depth p q depth₀ p₀ q₀ : ℕ} (s : Walking h declared k seen₀ table₀ stack₀ refs₀ depth₀ p₀ q₀)
      → Next seen table stack refs depth p q s → Walking h declared (k + 1) seen table stack refs depth p q
  walk_on {seen} {table} {stack} {refs} {depth = depth} {p = p} {q = q} {p₀ = p₀} {q₀ = q₀} s n =
      record {
        placed = subst (All Placed) (sym next-visible) n.placed;
        shown = subst (λ ns. Table h seen (least ns)) (sym next-visible) n.shown;
        points = subst (λ bs. Table h table (reference declared bs)) (sym next_open) n.points;
        opened = subst (λ ns. Open h declared stack ns (open_before h.es (k + 1))) (sym next-visible) (subst (Open h declared stack visible-next) (sym next_open) n.opened);
        deep = n.deep ∙ ap length (sym next_open);
        small = n.small;
        balanced = n.balanced;
        hides = found hidden nowhere p₀ p s.hides n.hides;
        meets = found nowhere again q₀ q s.meets n.meets;
        refers = λ i m y. go i m y (eqb i k) refl;
        stack_room = n.stack_room;
        refs_room = n.refs_room;
      }
    where
      go : (i : ℕ) → i < k + 1 → names (entry_of h.es i).kind ≡ true → (b : Bool) → eqb i k ≡ b → get_or refs i 0 ≡ refers_to declared h.es i
      go i m y true e =
          let same : i ≡ k = eqb-true i k e in
          subst (λ d. names (entry_of h.es d).kind ≡ true → get_or refs d 0 ≡ refers_to declared h.es d) (sym same)
          (λ z. n.refers z ∙ ap (λ bs. reference declared bs (token_of own)) (sym own_open)) y
      go i m y false e = let d = eqb-false i k e in let less : i < k = omega arith in n.others i less ∙ s.refers i less y

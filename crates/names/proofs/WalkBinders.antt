-- The walk over a big operator's name, and over the end of a big operator.
use Rattle.std.specs.Prelude.{ℕ, ◌+◌, ◌-◌, ◌*◌, ◌≤◌, ◌<◌, min, max, List, [], ◌∷◌, Bool, true, false, ◌≡◌, refl, length, get_or, drop, set}
use Rattle.std.proofs.Common.{sym, ap, ap₂, ◌∙◌, subst, arith, add-one, length-set, get_or-set_same, get_or-set_other}
use Rattle.words.specs.Words.{word_at}
use Rattle.language.specs.Bytes.{same}
use Rattle.language.specs.Limits.{max_names}
use Rattle.language.specs.Tokens.{Token, tokens}
use Rattle.language.specs.Places.{first}
use Rattle.language.specs.Names.{Names, hidden, again, nowhere}
use Rattle.language.proofs.Laws.Basics.Lists.{All}
use Rattle.language.proofs.Laws.Basics.Tests.{pick, leave, same_refl, same_equal}
use Rattle.language.proofs.Laws.Basics.NoPlace.{first_none}
use Rattle.entries.specs.Flat.{Entry}
use Rattle.entries.specs.Stored.{first_entry, kind_of, index_of}
use Rattle.names.specs.Roles.{binds, ends, Role}
use Rattle.names.proofs.RoleLaws.{binds_only, ends_only, after_role, open_role, here_role}
use Rattle.names.specs.Scan.{token_of, outer, after}
use Rattle.names.specs.Balanced.{Balanced, after_binder_lem, after-end}
use Rattle.spellings.specs.Interned.{token_at, top}
use Rattle.spellings.specs.TopLaws.{below_top}
use Rattle.names.specs.Tables.{place_of, least, Placed}
use Rattle.names.proofs.TableLaws.{place-min, again-least, shows_set, shows_pop}
use Rattle.names.specs.Walkable.{names, Walkable, Table, entry_of}
use Rattle.names.proofs.WalkableLaws.{binds-names}
use Rattle.names.specs.OwnName.{OwnName}
use Rattle.names.proofs.OwnNameLaws.{own-token, own_at, own-placed, own_held, own-set, own-push}
use Rattle.names.specs.References.{reference, number_in}
use Rattle.names.specs.Walking.{open_after, open_before, Held, Open, visible_at, Walking}
use Rattle.names.proofs.WalkLaws.{walk_on}
use Rattle.names.proofs.WalkEntries.{nameless, own_kind_lem, own-named, balanced-own}

pub reference-same : (declared : Names) (b : Token) (bs : Names) (t : Token) → same b.text t.text ≡ true → reference declared (b ∷ bs) t ≡ max_names + length bs
unfolding reference
reference-same declared b bs t e = pick (same b.text t.text) _ _ e

pub reference_other : (declared : Names) (b : Token) (bs : Names) (t : Token) → same b.text t.text ≡ false → reference declared (b ∷ bs) t ≡ reference declared bs t
unfolding reference
reference_other declared b bs t e = leave (same b.text t.text) _ _ e

-- outside every big operator
pub reference-outside : (declared : Names) (t : Token) → reference declared [] t ≡ number_in declared t
unfolding reference
reference-outside declared t = refl

pub number-text : (ns : Names) (t u : Token) → t.text ≡ u.text → number_in ns t ≡ number_in ns u
unfolding number_in
number-text [] t u e = refl
number-text (n ∷ ns) t u e = ap₂ (λ (b : Bool) (k : ℕ). elim b as (λ x. ℕ) [ true ↦ length ns | false ↦ k ]) (ap (same n.text) e) (number-text ns t u e)

pub reference-text : (declared bs : Names) (t u : Token) → t.text ≡ u.text → reference declared bs t ≡ reference declared bs u
unfolding reference
reference-text declared [] t u e = number-text declared t u e
reference-text declared (b ∷ bs) t u e = ap₂ (λ (c : Bool) (k : ℕ). elim c as (λ x. ℕ) [ true ↦ max_names + length bs | false ↦ k ]) (ap (same b.text) e) (reference-text declared bs t u e)

-- the stack of open names
module _ {w ids : List ℕ} {entries : ℕ} (h : Walkable w ids entries) (declared : Names) where
  -- what lies above does not matter
  open_kept : (stack stack' : List ℕ) (ns bs : Names) → ((i : ℕ) → i < 3 * length bs → get_or stack' i 0 ≡ get_or stack i 0) → Open h declared stack ns bs → Open h declared stack' ns bs
  open_kept stack stack' ns [] f o = tt
  open_kept stack stack' [] (b ∷ bs) f o = o
  open_kept stack stack' (n ∷ ns) (b ∷ bs) f o =
      let g = o.1 in (
        o.0,
        record {
          index = g.index;
          name = g.name;
          own = f (3 * length bs) (omega arith) ∙ g.own;
          place = f (3 * length bs + 1) (omega arith) ∙ g.place;
          refers = f (3 * length bs + 2)
              (omega arith) ∙ g.refers;
        },
        open_kept stack stack' ns bs (λ i l. f i (omega arith)) o.2,
      )

  -- the innermost
  pub record Innermost (stack : List ℕ) (ns bs : Names) : Type 0 where
    pub name : Token
    pub visible : Names
    pub around : Names
    pub visible-is : ns ≡ name ∷ visible
    pub open_is : bs ≡ name ∷ around
    pub held : Held h declared stack (length around) name visible around
    pub outside : Open h declared stack visible around

  pub innermost : (stack : List ℕ) (ns bs : Names) → Open h declared stack ns bs → 0 < length bs → Innermost stack ns bs
  innermost stack ns [] o l = absurd (omega arith)
  innermost stack [] (b ∷ bs) o l = absurd o
  innermost stack (n ∷ ns) (b ∷ bs) o l = record { name = b; visible = ns; around = bs; visible-is = ap (λ u. u ∷ ns) o.0; open_is = refl; held = o.1; outside = o.2 }

  module _ (k : ℕ) (l : k < entries) {kind : ℕ} (said : kind ≡ kind_of (word_at w (first_entry + k))) {seen table stack refs : List ℕ} {depth p q : ℕ}
      (s : Walking h declared k seen table stack refs depth p q) where
    abbrev own : Entry
    own = entry_of h.es k

    abbrev ns : Names
    ns = visible_at h declared k

    abbrev bs : Names
    bs = open_before h.es k

    -- a big operator's name, which may meet one that is visible
    module _ {at id v x : ℕ} (e : binds kind ≡ true) (n : OwnName w ids k at id) (ev : v ≡ get_or seen id 0) (ex : x ≡ get_or table id 0) where
      role-of : Role own.kind false true false false
      role-of = binds_only own.kind (ap binds (sym (own_kind_lem h k l said)) ∙ e)

      y : names own.kind ≡ true
      y = own-named h k l said (binds-names kind e)

      abbrev opening : List ℕ
      opening = set (set (set stack (3 * depth) id) (3 * depth + 1) v) (3 * depth + 2) x

      room : 3 * depth + 2 < length stack
      room = let a = s.stack_room in let b = s.small in let c = h.few in omega arith

      opening-length : length opening ≡ length stack
      opening-length = length-set (set (set stack (3 * depth) id) (3 * depth + 1) v) (3 * depth + 2) x ∙ length-set (set stack (3 * depth) id) (3 * depth + 1) v ∙ length-set stack (3 * depth) id

      opening-below : (i : ℕ) → i < 3 * depth → get_or opening i 0 ≡ get_or stack i 0
      opening-below i m =
          get_or-set_other (set (set stack (3 * depth) id) (3 * depth + 1) v) (3 * depth + 2) i x 0 (λ e. omega arith)
          ∙ get_or-set_other (set stack (3 * depth) id) (3 * depth + 1) i v 0 (λ e. omega arith) ∙ get_or-set_other stack (3 * depth) i id 0 (λ e. omega arith)

      opening-own : get_or opening (3 * depth) 0 ≡ id
      opening-own =
          get_or-set_other (set (set stack (3 * depth) id) (3 * depth + 1) v) (3 * depth + 2) (3 * depth) x 0 (λ e. omega arith)
          ∙ get_or-set_other (set stack (3 * depth) id) (3 * depth + 1) (3 * depth) v 0 (λ e. omega arith) ∙ get_or-set_same stack (3 * depth) id 0 (let r = room in omega arith)

      opening-place : get_or opening (3 * depth + 1) 0 ≡ v
      opening-place =
          get_or-set_other (set (set stack (3 * depth) id) (3 * depth + 1) v) (3 * depth + 2) (3 * depth + 1) x 0 (λ e. omega arith)
          ∙ get_or-set_same (set stack (3 * depth) id) (3 * depth + 1) v 0 (let z = length-set stack (3 * depth) id in let r = room in omega arith)

      opening-refers : get_or opening (3 * depth + 2) 0 ≡ x
      opening-refers =
          get_or-set_same (set (set stack (3 * depth) id) (3 * depth + 1) v) (3 * depth + 2) x 0
          (let z = length-set (set stack (3 * depth) id) (3 * depth + 1) v in let u = length-set stack (3 * depth) id in let r = room in omega arith)

      held : Held h declared opening (length bs) (token_of own) ns bs
      held =
          let d = s.deep in
          record {
            index = index_of (word_at w (first_entry + k));
            name = own-token h k l y n;
            own = ap (λ m. get_or opening (3 * m) 0) (sym d) ∙ opening-own ∙ n.number;
            place = ap (λ m. get_or opening (3 * m + 1) 0) (sym d) ∙ opening-place ∙ own_held h k l y n s.shown ev;
            refers = ap (λ m. get_or opening (3 * m + 2) 0) (sym d) ∙ opening-refers ∙ own_held h k l y n s.points ex;
          }

      pub walk-bind : {v' r q' : ℕ} → v' ≡ min v at → r ≡ max_names + depth → q' ≡ min q (max v at)
          → Walking h declared (k + 1) (set seen id v') (set table id r) opening (set refs k r) (depth + 1) p q'
      walk-bind {v'} {r} {q'} evs er eq =
          let t = token_of own in
          let placed = own-placed h k l y n in
          let vis : t ∷ ns ≡ after ns own = sym (after_role own role-of ns) in
          let o : t ∷ bs ≡ open_after bs own = sym (open_role own role-of bs) in
          let hv : v ≡ least ns t = own_held h k l y n s.shown ev in
          let d = s.deep in
          let table_more : Table h (set table id r) (reference declared (t ∷ bs)) =
          own-set h k l y n r s.points (λ u z. let same = reference-same declared t bs u z in omega arith) (λ u z. reference_other declared t bs u z) in
          let small-depth : depth + 1 ≤ k + 1 = (let m = s.small in omega arith) in
          walk_on h declared k l s
          (record {
            placed = subst (All Placed) vis (placed, s.placed);
            shown = subst (λ u. Table h (set seen id v') (least u)) vis (own-push h k l y n ns s.shown ev evs);
            points = subst (λ u. Table h (set table id r) (reference declared u)) o table_more;
            opened = subst (λ u. Open h declared opening u (open_after bs own)) vis
                (subst (Open h declared opening (t ∷ ns)) o (refl, held, open_kept stack opening ns bs (λ i m. opening-below i (omega arith)) s.opened));
            deep = (let z : length (t ∷ bs) ≡ length (open_after bs own) = ap length o in omega arith);
            small = small-depth;
            balanced = subst (λ m. Balanced m (drop (k + 1) h.es)) (sym (add-one depth)) (after_binder_lem depth own (drop (k + 1) h.es) role-of.bind_is (balanced-own h k l said declared s));
            hides = sym (first_none (place_of p)) ∙ ap (first (place_of p)) (sym (here_role own role-of hidden nowhere ns));
            meets =
                ap place_of (eq ∙ ap₂ (λ a b. min q (max a b)) hv (own_at h k l y n)) ∙ sym (place-min q (max (least ns t) t.at))
                ∙ ap (first (place_of q)) (sym (again-least ns t s.placed placed) ∙ sym (here_role own role-of nowhere again ns));
            refers = λ _. get_or-set_same refs k r 0 (let a = s.refs_room in let m = h.few in omega arith) ∙ er ∙ ap (λ m. max_names + m) d ∙ sym (reference-same declared t bs t (same_refl t.text))
                ∙ ap (λ m. reference declared m t) o;
            others = λ i m. get_or-set_other refs k i r 0 (λ e. omega arith);
            stack_room = (let a = s.stack_room in let z = opening-length in omega arith);
            refs_room = (let m = s.refs_room in let z = length-set refs k r in omega arith);
          })

    -- the end of a big operator: its name is gone, and the tables hold what they held before it
    module _ (y : ends kind ≡ true) where
      end-role : Role own.kind false false true false
      end-role = ends_only own.kind (ap ends (sym (own_kind_lem h k l said)) ∙ y)

      before : (0 < depth) × Balanced (depth - 1) (drop (k + 1) h.es)
      before = after-end depth own (drop (k + 1) h.es) end-role.bind_is end-role.end_is (balanced-own h k l said declared s)

      last : Innermost stack ns bs
      last = innermost stack ns bs s.opened (let d = s.deep in let b = before.0 in omega arith)

      around_depth : depth - 1 ≡ length last.around
      around_depth = let d = s.deep in let e : length bs ≡ length (last.name ∷ last.around) = ap length last.open_is in omega arith

      pub some-open : 0 < depth
      some-open = before.0

      -- its number is a node's
      held-own : {id : ℕ} → id ≡ get_or stack (3 * (depth - 1)) 0 → id ≡ get_or ids last.held.index 0
      held-own ei = ei ∙ ap (λ d. get_or stack (3 * d) 0) around_depth ∙ last.held.own

      pub end-inside : {id : ℕ} → id ≡ get_or stack (3 * (depth - 1)) 0 → id < top ids
      end-inside ei = let e = held-own ei in let f = below_top ids last.held.index in omega arith

      pub walk_end : {id v x : ℕ} → id ≡ get_or stack (3 * (depth - 1)) 0 → v ≡ get_or stack (3 * (depth - 1) + 1) 0 → x ≡ get_or stack (3 * (depth - 1) + 2) 0
          → Walking h declared (k + 1) (set seen id v) (set table id x) stack refs (depth - 1) p q
      walk_end {id} {v} {x} ei ev ex =
          let n = last.held.name in
          let j = last.held.index in
          let b = last.name in
          let vs = last.visible in
          let cs = last.around in
          let vis : vs ≡ after ns own = sym (after_role own end-role ns ∙ ap outer last.visible-is) in
          let o : cs ≡ open_after bs own = sym (open_role own end-role bs ∙ ap outer last.open_is) in
          let own-token = token_at (tokens h.text) j in
          let hid = held-own ei in
          let hv : v ≡ least vs own-token = ev ∙ ap (λ d. get_or stack (3 * d + 1) 0) around_depth ∙ last.held.place ∙ ap (least vs) n.token in
          let hx : x ≡ reference declared cs own-token = ex ∙ ap (λ d. get_or stack (3 * d + 2) 0) around_depth ∙ last.held.refers ∙ ap (reference declared cs) n.token in
          let seen-was : Table h seen (least (own-token ∷ vs)) = subst (λ u. Table h seen (least u)) (last.visible-is ∙ ap (λ u. u ∷ vs) n.token) s.shown in
          let table-was : Table h table (reference declared (own-token ∷ cs)) = subst (λ u. Table h table (reference declared u)) (last.open_is ∙ ap (λ u. u ∷ cs) n.token) s.points in
          let seen-less : Table h (set seen (get_or ids j 0) v) (least vs) = shows_pop h.interned j n.inside n.name vs v seen-was hv in
          let table-less : Table h (set table (get_or ids j 0) x) (reference declared cs) =
          shows_set h.interned j n.inside n.name x table-was
          (λ t e. reference-text declared cs t own-token (sym (same_equal own-token.text t.text e)) ∙ sym hx) (λ t e. sym (reference_other declared own-token cs t e)) in
          let placed-was : All Placed (b ∷ vs) = subst (All Placed) last.visible-is s.placed in
          walk_on h declared k l s
          (record {
            placed = subst (All Placed) vis placed-was.1;
            shown = subst (λ i. Table h (set seen i v) (least (after ns own))) (sym hid) (subst (λ u. Table h (set seen (get_or ids j 0) v) (least u)) vis seen-less);
            points = subst (λ i. Table h (set table i x) (reference declared (open_after bs own))) (sym hid) (subst (λ u. Table h (set table (get_or ids j 0) x) (reference declared u)) o table-less);
            opened = subst (λ u. Open h declared stack u (open_after bs own)) vis (subst (Open h declared stack vs) o last.outside);
            deep = around_depth ∙ ap length o;
            small = (let m = s.small in omega arith);
            balanced = before.1;
            hides = sym (first_none (place_of p)) ∙ ap (first (place_of p)) (sym (here_role own end-role hidden nowhere ns));
            meets = sym (first_none (place_of q)) ∙ ap (first (place_of q)) (sym (here_role own end-role nowhere again ns));
            refers = nameless end-role;
            others = λ i m. refl;
            stack_room = s.stack_room;
            refs_room = s.refs_room;
          })

-- The walk over one entry, by what the entry does to names: nothing, use one, declare one.
use Rattle.std.specs.Prelude.{ℕ, ◌+◌, ◌<◌, min, List, [], ◌∷◌, Bool, true, false, ◌||◌, ◌≡◌, refl, length, get_or, drop, set}
use Rattle.std.proofs.lemmas.Bool.{false≢true}
use Rattle.std.proofs.Math.Option.{Option, none}
use Rattle.std.proofs.Common.{sym, ap, ap₂, ◌∙◌, subst, arith, length-set, get_or-set_same, get_or-set_other}
use Rattle.words.specs.Words.{word_at}
use Rattle.language.specs.Places.{first}
use Rattle.language.specs.Names.{Names, hidden, again, nowhere}
use Rattle.language.proofs.Laws.Basics.Lists.{All}
use Rattle.language.proofs.Laws.Basics.NoPlace.{first_none}
use Rattle.entries.specs.Kinds as Kind
use Rattle.entries.specs.Flat.{Entry}
use Rattle.entries.specs.Stored.{first_entry, kind_of}
use Rattle.names.specs.Roles.{uses, binds, ends, declares, Role}
use Rattle.names.proofs.RoleLaws.{uses_only, declares_only, after_role, open_role, here_role}
use Rattle.names.specs.Scan.{token_of, after}
use Rattle.names.proofs.ScanLaws.{neither}
use Rattle.names.specs.Balanced.{Balanced, after-declared, after_quiet}
use Rattle.names.specs.Tables.{place_of, least, Placed, hidden_place}
use Rattle.names.proofs.TableLaws.{place-min, hidden-least}
use Rattle.names.specs.Walkable.{names, Walkable, Table, entry_of}
use Rattle.names.proofs.WalkableLaws.{uses-names, declares-names, kind_there}
use Rattle.names.specs.OwnName.{OwnName}
use Rattle.names.proofs.OwnNameLaws.{own_at, own-placed, own_held, own-push}
use Rattle.names.specs.References.{reference}
use Rattle.names.specs.Walking.{open_after, open_before, Open, visible_at, Walking}
use Rattle.names.proofs.WalkLaws.{walk_on, rest}

-- an entry that neither uses nor brings nor declares a name has none
pub nameless : {A : Type 0} {k : ℕ} {e : Bool} → Role k false false e false → names k ≡ true → A
nameless {k = k} r y = absurd (false≢true (sym (neither (uses k || binds k) (declares Kind.parameter k) (neither (uses k) (binds k) r.use_is r.bind_is) r.declare-is) ∙ y))

module _ {w ids : List ℕ} {entries : ℕ} (h : Walkable w ids entries) (k : ℕ) (l : k < entries) {kind : ℕ} (said : kind ≡ kind_of (word_at w (first_entry + k))) where
  abbrev own : Entry
  own = entry_of h.es k

  pub own_kind_lem : kind ≡ own.kind
  own_kind_lem = said ∙ kind_there h k l

  pub own-named : names kind ≡ true → names own.kind ≡ true
  own-named y = ap names (sym own_kind_lem) ∙ y

  module _ (declared : Names) {seen table stack refs : List ℕ} {depth p q : ℕ} (s : Walking h declared k seen table stack refs depth p q) where
    pub balanced-own : Balanced depth (own ∷ drop (k + 1) h.es)
    balanced-own = subst (Balanced depth) (rest h declared k l) s.balanced

    -- an entry that changes neither the visible nor the open names
    unchanged : {p' : ℕ} {refs' : List ℕ} {u : Bool} → Role own.kind u false false false
        → place_of p' ≡ first (place_of p) (elim u [ true ↦ hidden (visible_at h declared k) (token_of own) | false ↦ none ])
        → (names own.kind ≡ true → get_or refs' k 0 ≡ reference declared (open_before h.es k) (token_of own)) → ((i : ℕ) → i < k → get_or refs' i 0 ≡ get_or refs i 0) → length refs' ≡ length refs
        → Walking h declared (k + 1) seen table stack refs' depth p' q
    unchanged {p'} {refs'} {u} r ep f g z =
        let v : visible_at h declared k ≡ _ = sym (after_role own r (visible_at h declared k)) in
        let o : open_before h.es k ≡ _ = sym (open_role own r (open_before h.es k)) in
        walk_on h declared k l s
        (record {
          placed = subst (All Placed) v s.placed;
          shown = subst (λ ns. Table h seen (least ns)) v s.shown;
          points = subst (λ bs. Table h table (reference declared bs)) o s.points;
          opened = subst (λ bs. Open h declared stack (after (visible_at h declared k) own) bs) o (subst (λ ns. Open h declared stack ns (open_before h.es k)) v s.opened);
          deep = s.deep ∙ ap length o;
          small = (let m = s.small in omega arith);
          balanced = after_quiet depth own (drop (k + 1) h.es) r.bind_is r.end_is r.declare-is balanced-own;
          hides = ep ∙ ap (first (place_of p)) (sym (here_role own r hidden nowhere (visible_at h declared k)));
          meets = sym (first_none (place_of q)) ∙ ap (first (place_of q)) (none_here u ∙ sym (here_role own r nowhere again (visible_at h declared k)));
          refers = λ y. f y ∙ ap (λ bs. reference declared bs (token_of own)) o;
          others = g;
          stack_room = s.stack_room;
          refs_room = (let m = s.refs_room in omega arith);
        })
      where
        none_here : (u : Bool) → ◌≡◌ {A = Option ℕ} none (elim u [ true ↦ nowhere (visible_at h declared k) (token_of own) | false ↦ none ])
        none_here true = refl
        none_here false = refl

    pub walk-quiet : uses kind ≡ false → binds kind ≡ false → ends kind ≡ false → declares Kind.parameter kind ≡ false → Walking h declared (k + 1) seen table stack refs depth p q
    walk-quiet a b c d =
        let r : Role own.kind false false false false = subst (λ i. Role i false false false false) own_kind_lem (record { use_is = a; bind_is = b; end_is = c; declare-is = d }) in
        unchanged r (sym (first_none (place_of p)))
        (nameless r) (λ i m. refl) refl

    -- a name that is used: hidden if no name of its spelling is visible
    pub walk-use : {at id v x p' : ℕ} → uses kind ≡ true → OwnName w ids k at id → v ≡ get_or seen id 0 → x ≡ get_or table id 0 → p' ≡ min p (hidden_place v at)
        → Walking h declared (k + 1) seen table stack (set refs k x) depth p' q
    walk-use {x = x} e n ev ex ep =
        let y = own-named (uses-names kind e) in
        let ns = visible_at h declared k in
        let r = uses_only own.kind (ap uses (sym own_kind_lem) ∙ e) in
        let hv : _ ≡ least ns (token_of own) = own_held h k l y n s.shown ev in
        let hx : x ≡ reference declared (open_before h.es k) (token_of own) = own_held h k l y n s.points ex in
        unchanged r
        (ap place_of (ep ∙ ap₂ (λ a b. min p (hidden_place a b)) hv (own_at h k l y n)) ∙ sym (place-min p (hidden_place (least ns (token_of own)) (token_of own).at))
        ∙ ap (first (place_of p)) (sym (hidden-least ns (token_of own) s.placed (own-placed h k l y n))))
        (λ _. get_or-set_same refs k x 0 (let a = s.refs_room in let b = h.few in omega arith) ∙ hx)
        (λ i m. get_or-set_other refs k i x 0 (λ e. omega arith)) (length-set refs k x)

    -- a name that is declared, outside every big operator
    pub walk-declare : {at id v x v' : ℕ} → declares Kind.parameter kind ≡ true → OwnName w ids k at id → v ≡ get_or seen id 0 → x ≡ get_or table id 0 → v' ≡ min v at
        → Walking h declared (k + 1) (set seen id v') table stack (set refs k x) depth p q
    walk-declare {id = id} {x = x} {v' = v'} e n ev ex ep =
        let y = own-named (declares-names kind e) in
        let ns = visible_at h declared k in
        let bs = open_before h.es k in
        let r = declares_only own.kind (ap (declares Kind.parameter) (sym own_kind_lem) ∙ e) in
        let vis : token_of own ∷ ns ≡ after ns own = sym (after_role own r ns) in
        let o : bs ≡ open_after bs own = sym (open_role own r bs) in
        let b = after-declared depth own (drop (k + 1) h.es) r.bind_is r.end_is r.declare-is balanced-own in
        let none_open : [] ≡ bs = empty bs (sym s.deep ∙ b.0) in
        let hx : x ≡ reference declared bs (token_of own) = own_held h k l y n s.points ex in
        walk_on h declared k l s
        (record {
          placed = subst (All Placed) vis (own-placed h k l y n, s.placed);
          shown = subst (λ u. Table h (set seen id v') (least u)) vis (own-push h k l y n ns s.shown ev ep);
          points = subst (λ m. Table h table (reference declared m)) o s.points;
          opened = subst (Open h declared stack (after ns own)) (none_open ∙ o) tt;
          deep = s.deep ∙ ap length o;
          small = (let m = s.small in omega arith);
          balanced = b.1;
          hides = sym (first_none (place_of p)) ∙ ap (first (place_of p)) (sym (here_role own r hidden nowhere ns));
          meets = sym (first_none (place_of q)) ∙ ap (first (place_of q)) (sym (here_role own r nowhere again ns));
          refers = λ _. get_or-set_same refs k x 0 (let a = s.refs_room in let m = h.few in omega arith) ∙ hx ∙ ap (λ m. reference declared m (token_of own)) o;
          others = λ i m. get_or-set_other refs k i x 0 (λ e. omega arith);
          stack_room = s.stack_room;
          refs_room = (let m = s.refs_room in let z = length-set refs k x in omega arith);
        })
      where
        empty : (ns : Names) → length ns ≡ 0 → [] ≡ ns
        empty [] e = refl
        empty (n ∷ ns) e = absurd (omega arith)

-- The trees of frames that need no sign behind them, one law for each class.
use Rattle.std.specs.Prelude.{ℕ, suc, ◌+◌, ◌≤◌, ◌<◌, List, [], ◌∷◌, ◌++◌, ◌≡◌, refl, length, drop}
use Rattle.std.proofs.Common.{arith, append_assoc, sym, ap, ◌∙◌, subst, lit<}
use Rattle.std.proofs.Math.Option.{Option, none, some}
use Rattle.words.specs.Words.{word_at}
use Rattle.language.specs.Tokens.{Token}
use Rattle.language.specs.Tree.{Expr}
use Rattle.language.specs.Grammar.{Tokens, Read, front}
use Rattle.lexer.specs.Numbers.{number}
use Rattle.lexer.specs.Stored.{number_in}
use Rattle.lexer.specs.StoredLaws.{number_word}
use Rattle.entries.specs.Kinds as Kind
use Rattle.entries.specs.Flat.{under, flat}
use Rattle.entries.specs.Stored.{Keeps}
use Rattle.entries.specs.declared.Cursor.{Cursor}
use Rattle.entries.specs.Cursors.{Ready}
use Rattle.operators.specs.Fields.{kind_field, sole_field, window_field}
use Rattle.expressions.specs.declared.stack.Machine.{Machine}
use Rattle.operators.specs.Readers.{climbs}
use Rattle.expressions.specs.Classes.{Class, Right, Sole, Stepped, Within, Cons, Over, class_number}
use Rattle.expressions.specs.Frames.{Frame, turned, built_by, plug}
use Rattle.operators.specs.Tables.{infix_at, prefix_at}
use Rattle.operators.specs.RowLaws.{PrefixFound, infix_some, prefix_some}
use Rattle.expressions.specs.Stack.{slot_class, top_slot, Stacked}
use Rattle.expressions.specs.StackLaws.{slot_index_lem}
use Rattle.expressions.specs.States.{slot, slots_of, trees_by, behind, base, credits}
use Rattle.expressions.specs.Complete.{Complete}
use Rattle.expressions.specs.CompleteLaws.{Popping, popping, builds, turn-built}
use Rattle.expressions.specs.Wholes.{operator_in, Built}

pub stored_number : {ts : Tokens} {w : List ℕ} {c : Cursor} (j : ℕ) (t : Token) → Ready ts w c → Keeps ts j (some t) → number_in (word_at w j) ≡ number t
stored_number {ts} j t r keeps =
    ap number_in (r.tells.stored.words j keeps.1) ∙ number_word (front (drop j ts)) (omega (arith, r.tells.places j, r.fits.short)) ∙ ap number keeps.0

module _ {ts : Tokens} {s : Cursor} {x : Read Expr} {w : List ℕ} {m : Machine} where
  -- the tree e of the frame F, complete at the cursor d
  pub built : (F : Frame) (Gs : List Frame) (p : Popping ts s x w m F Gs) (d : Cursor) (n : ℕ)
      → Stacked ts s w d m.depth (slot (class_number F.class) F.level F.token [] ∷ slots_of Gs) (behind (base Gs) (trees_by F.class F) ++ flat p.tree) n
      → (e : Expr) (kind code : ℕ) → code ≡ kind → code < Kind.limit → (t : Option Token) → flat e ≡ under kind t (behind [] (trees_by F.class F) ++ flat p.tree)
      → ((j : ℕ) → Keeps ts j (some F.token) → Keeps ts j t)
      → 0 + credits Gs ≤ n → m.c.at ≤ d.at → x ≡ plug Gs (climbs F.level e (drop d.at ts)) → Built ts s x w m d code (suc (length (trees_by F.class F)))
  built F Gs p d n st e kind code same_kind small t made keeps less onward same =
      let made' : flat e ≡ under code t (behind [] (trees_by F.class F) ++ flat p.tree) = made ∙ ap (λ k. under k t (behind [] (trees_by F.class F) ++ flat p.tree)) (sym same_kind) in (
        builds x m (class_number F.class) F.level F.token (trees_by F.class F) p.firm_top.0 Gs p.firm p.tree p.rooted d n st e code small t made',
        turn-built x m (class_number F.class) F.level F.token (trees_by F.class F) p.firm_top.0 Gs p.firm p.tree p.rooted d n st e code small t made' keeps less onward
            p.stacked.count (omega (arith, p.stacked.out, st.out)) same,
      )

  module _ (h : Complete ts s x w m) (deep : 0 < m.depth) where
    abbrev top : ℕ
    top = top_slot w m.depth

    pub built-stepped : slot_class top ≡ class_number Stepped → Built ts s x w m m.c Kind.nexts 2
    built-stepped e =
        let q = popping h Stepped deep e in
        let F = turned Stepped q.0 in
        built F q.1 q.2 m.c (0 + credits q.1) q.2.stacked (built_by Stepped F q.2.tree) Kind.nexts Kind.nexts refl (lit< tt) (some F.token) refl (λ j k. k) (omega arith) (omega arith)
        q.2.same

    pub built-cons : slot_class top ≡ class_number Cons → Built ts s x w m m.c Kind.element 2
    built-cons e =
        let q = popping h Cons deep e in
        let F = turned Cons q.0 in
        built F q.1 q.2 m.c (0 + credits q.1) q.2.stacked (built_by Cons F q.2.tree) Kind.element Kind.element refl (lit< tt) none refl (λ j k. tt) (omega arith) (omega arith) q.2.same

    -- the operator's kind from its row
    pub number-top : (K : Class) (F : Frame) (Gs : List Frame) → (p : Popping ts s x w m (turned K F) Gs)
        → Stacked ts s w m.c m.depth (slot (class_number K) F.level F.token [] ∷ slots_of Gs) (behind (base Gs) (trees_by K (turned K F)) ++ flat p.tree) (0 + credits Gs)
        → operator_in w top ≡ number F.token
    number-top K F Gs p st =
        let at_top = st.slots_at.0 in
        ap (λ j. number_in (word_at w j)) (slot_index_lem at_top) ∙ stored_number at_top.index F.token st.ready at_top.tokens.0

    pub built-right : slot_class top ≡ class_number Right → Built ts s x w m m.c (kind_field (infix_at (operator_in w top))) 2
    built-right e =
        let q = popping h Right deep e in
        let F = turned Right q.0 in
        let number_is = number-top Right q.0 q.1 q.2 q.2.stacked in
        let row = infix_some F.token q.2.firm_top.1.0 in
        let is : kind_field (infix_at (operator_in w top)) ≡ kind_field (infix_at (number F.token)) = ap (λ n. kind_field (infix_at n)) number_is in
        built F q.1 q.2 m.c (0 + credits q.1) q.2.stacked (built_by Right F q.2.tree) _ _ (is ∙ row.kind) (subst (λ k. k < Kind.limit) (sym is) row.kind_fits) (some F.token) refl
        (λ j k. k) (omega arith) (omega arith) q.2.same

    -- a prefix operator's
    prefix-top : (K : Class) (F : Frame) → operator_in w top ≡ number F.token → (prefix_at (number F.token) ≡ 0 → ⊥) → PrefixFound F.token (prefix_at (operator_in w top))
    prefix-top K F is f = subst (λ n. PrefixFound F.token (prefix_at n)) (sym is) (prefix_some F.token f)

    pub built-sole : slot_class top ≡ class_number Sole → Built ts s x w m m.c (sole_field (prefix_at (operator_in w top))) 1
    built-sole e =
        let q = popping h Sole deep e in
        let F = turned Sole q.0 in
        let row = prefix-top Sole F (number-top Sole q.0 q.1 q.2 q.2.stacked) q.2.firm_top.1.0 in
        built F q.1 q.2 m.c (0 + credits q.1) q.2.stacked (built_by Sole F q.2.tree) _ _ (row.sole ∙ q.2.firm_top.1.1) (omega arith) (some F.token) refl (λ j k. k)
        (omega arith) (omega arith) q.2.same

    pub built-over : slot_class top ≡ class_number Over → Built ts s x w m m.c (sole_field (prefix_at (operator_in w top))) 2
    built-over e =
        let q = popping h Over deep e in
        let F = turned Over q.0 in
        let row = prefix-top Over F (number-top Over q.0 q.1 q.2 q.2.stacked) q.2.firm_top.1.0 in
        built F q.1 q.2 m.c (0 + credits q.1) q.2.stacked (built_by Over F q.2.tree) _ _ (row.sole ∙ q.2.firm_top.1.1) (omega arith) (some F.token) refl (λ j k. k)
        (omega arith) (omega arith) q.2.same

    pub built-within : slot_class top ≡ class_number Within → Built ts s x w m m.c (window_field (prefix_at (operator_in w top))) 3
    built-within e =
        let q = popping h Within deep e in
        let F = turned Within q.0 in
        let row = prefix-top Within F (number-top Within q.0 q.1 q.2 q.2.stacked) q.2.firm_top.1.0 in
        built F q.1 q.2 m.c (0 + credits q.1) q.2.stacked (built_by Within F q.2.tree) _ _ (row.window ∙ q.2.firm_top.1.1) row.window-fits (some F.token)
        (ap (λ es. under Kind.window (some F.token) es) (sym (append_assoc (flat F.first) (flat F.second) (flat q.2.tree)))) (λ j k. k) (omega arith)
        (omega arith) q.2.same

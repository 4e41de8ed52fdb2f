-- A frame that is opened anew: what a step asks for is there, and where it leads.
use Rattle.std.specs.Prelude.{ℕ, suc, ◌+◌, ◌-◌, ◌≤◌, ◌<◌, ◌^◌, Bool, true, false, ◌≡◌, eqb, drop}
use Rattle.std.proofs.Common.{arith, sym, ◌∙◌, lit<, eqb-true, eq-eqb}
use mathlib.Core.List.{List, [], ◌∷◌, ◌++◌, append-nil}
use Rattle.std.proofs.Math.Path.{refl, ap, subst}
use Rattle.std.proofs.lemmas.Bool.{eqb-false}
use Rattle.node.specs.Result.{◌>>=◌}
use Rattle.language.specs.Tree.{Expr}
use Rattle.language.specs.Operators.{loosest}
use Rattle.language.specs.Grammar.{Tokens, Read, next}
use Rattle.language.proofs.Laws.Basics.Tests.{pick}
use Rattle.language.proofs.Laws.Basics.Lists.{All as Every}
use Rattle.lexer.specs.Numbers.{fixed}
use Rattle.entries.specs.Flat.{Entry}
use Rattle.entries.specs.declared.Cursor.{Cursor}
use Rattle.entries.specs.Cursors.{number_at, next_of, refused_at}
use Rattle.entries.specs.CursorLaws.{drop-next}
use Rattle.entries.specs.TokenReads.{next_number_lem}
use Rattle.entries.specs.ReadsLaws.{kept_put}
use Rattle.operators.specs.Fields.{level_bits, level_field}
use Rattle.expressions.specs.declared.stack.Machine.{Machine}
use Rattle.expressions.specs.declared.stack.Turn.TheVariants.{Ended}
use Rattle.operators.specs.Readers.{reads, level_at}
use Rattle.expressions.specs.Classes.{Stepped, Within, Last, Count, Low, High, One, Two, class_number}
use Rattle.expressions.specs.Frames.{Frame, turned, with_first, with_second, resume, plug}
use Rattle.operators.specs.Tables.{prefix_at}
use Rattle.operators.specs.RowLaws.{prefix_some}
use Rattle.expressions.specs.Stack.{slot_word, slot_index, slot_level, slot_class, top_slot, put_slot, Stacked, last_word, class_bits}
use Rattle.expressions.specs.StackLaws.{slot_level_lem, slot_index_lem, stacked_apart, stacked_few, stacked_less, stacked_next, stacked_pop, stacked_push}
use Rattle.expressions.specs.States.{slot, slots_by, slots_of, trees_by, behind, base, Firm, credit_by, credits, Turned}
use Rattle.expressions.specs.Complete.{Complete}
use Rattle.expressions.specs.CompleteLaws.{popping, sign-inside}
use Rattle.expressions.specs.Wholes.{operator_in}
use Rattle.expressions.specs.WholeLaws.{number-top}
use Rattle.expressions.specs.Closes.{expect-here, expect_other, refused-here}
use Rattle.expressions.specs.Reopens.{reopened_of, reopened_in}

module _ {ts : Tokens} {s : Cursor} {x : Read Expr} {w : List ℕ} {m : Machine} where
  -- a frame F becomes F', with the same token and level
  pub reopens : (F F' : Frame) (Gs : List Frame) (E : List Entry) (d : Cursor) (n l : ℕ)
      → Stacked ts s w d m.depth (slot (class_number F.class) F.level F.token [] ∷ slots_of Gs) E n → Every Firm Gs → Firm F'
      → slots_by (class_number F'.class) F' ≡ slot (class_number F'.class) F.level F.token [] ∷ [] → behind (base Gs) (trees_by F'.class F') ≡ E → credit_by F'.class + credits Gs ≤ n
      → class_number F'.class < 2 ^ class_bits → m.c.at < d.at → m.c.count ≡ s.count → m.c.out ≤ d.out → 0 < l → l < 2 ^ level_bits
      → x ≡ plug Gs (reads l (drop d.at ts) >>= λ (y, us). resume F' y us)
      → Turned ts s x w (reopened_in w m (class_number F'.class)) m (reopened_of m d l)
  unfolding plug
  reopens F F' Gs E d n l at-d firm firm' slots entries credit class onward counted grew positive small same =
      let top = at-d.slots_at.0 in
      let apart = stacked_apart at-d in
      let few = stacked_few at-d in
      let deep = top.deep in
      let out = at-d.out in
      let popped = stacked_pop at-d (slot (class_number F.class) F.level F.token []) (slots_of Gs) refl in
      let new = slot (class_number F'.class) F.level F.token [] in
      let pushed = stacked_push popped new top.index (top.tokens.0, tt) top.index-fits class top.level_fits in
      let v = reopened_in w m (class_number F'.class) in
      let same-buffer : put_slot w (m.depth - 1) (class_number F'.class) F.level top.index ≡ v =
      ap (λ k. put_slot w (m.depth - 1) (class_number F'.class) k top.index) (sym (slot_level_lem top)) ∙ ap (put_slot w (m.depth - 1) (class_number F'.class) (slot_level (top_slot w m.depth)))
      (sym (slot_index_lem top)) in
      record {
        kept = kept_put w s.out (last_word - (m.depth - 1)) (slot_word (class_number F'.class) (slot_level (top_slot w m.depth)) (slot_index (top_slot w m.depth))) (omega arith) (omega arith);
        after =
            record {
              state =
                  record {
                    frames = F' ∷ Gs;
                    tree = F.first;
                    mode = refl;
                    good = positive;
                    level_fits = small;
                    firm = (firm', firm);
                    stacked =
                        subst (λ sl. Stacked ts s v d (m.depth - 1 + 1) (sl ++ slots_of Gs) (behind (base Gs) (trees_by F'.class F') ++ []) (credit_by F'.class + credits Gs)) (sym slots)
                        (subst (λ es. Stacked ts s v d (m.depth - 1 + 1) (new ∷ slots_of Gs) es (credit_by F'.class + credits Gs))
                        (sym (append-nil (behind (base Gs) (trees_by F'.class F')) ∙ entries))
                        (subst (λ u. Stacked ts s u d (m.depth - 1 + 1) (new ∷ slots_of Gs) E (credit_by F'.class + credits Gs)) same-buffer
                        (stacked_less pushed (credit_by F'.class + credits Gs) credit)));
                    same = same;
                  };
              lighter = omega (arith, at-d.count, counted, at-d.ready.fits.inside, grew);
            };
      }

  module _ (h : Complete ts s x w m) (deep : 0 < m.depth) where
    abbrev top : ℕ
    top = top_slot w m.depth

    -- the level of the operator's operand
    pub turn-counted : slot_class top ≡ class_number Count → number_at w m.c ≡ fixed "]" → Turned ts s x w (reopened_in w m (class_number Stepped)) m (reopened_of m (next_of m.c) (level_field (prefix_at (operator_in w top))))
    turn-counted e k =
        let q = popping h Count deep e in
        let F = turned Count q.0 in
        let p = q.2 in
        let row = prefix_some F.token p.firm_top.1.0 in
        let level : level_field (prefix_at (operator_in w top)) ≡ level_at F.token = ap (λ n. level_field (prefix_at n)) (number-top h deep Count q.0 q.1 p p.stacked) ∙ row.level in
        subst (λ l. Turned ts s x w (reopened_in w m (class_number Stepped)) m (reopened_of m (next_of m.c) l)) (sym level)
        (reopens F (with_first Stepped F p.tree) q.1 _ (next_of m.c) (suc (0 + credits q.1)) (level_at F.token) (stacked_next p.stacked (sign-inside h _ k (lit< tt))) p.firm
        ((p.rooted, tt), (λ z. omega arith, tt)) refl refl (omega arith) (lit< tt) (omega arith) p.stacked.count (omega arith) row.level_some row.level_fits
        (p.same ∙ ap (plug q.1) (expect-here h.stacked.ready "]" refl _ k)))

    pub turn_low : slot_class top ≡ class_number Low → number_at w m.c ≡ fixed ":" → Turned ts s x w (reopened_in w m (class_number High)) m (reopened_of m (next_of m.c) loosest)
    turn_low e k =
        let q = popping h Low deep e in
        let F = turned Low q.0 in
        let p = q.2 in
        reopens F (with_first High F p.tree) q.1 _ (next_of m.c) (suc (0 + credits q.1)) loosest (stacked_next p.stacked (sign-inside h _ k (lit< tt))) p.firm
        ((p.rooted, tt), p.firm_top.1) refl refl (omega arith) (lit< tt) (omega arith) p.stacked.count (omega arith) (lit< tt) (lit< tt)
        (p.same ∙ ap (plug q.1) (expect-here h.stacked.ready ":" refl _ k))

    pub turn-high : slot_class top ≡ class_number High → number_at w m.c ≡ fixed "]" → Turned ts s x w (reopened_in w m (class_number Within)) m (reopened_of m (next_of m.c) (level_field (prefix_at (operator_in w top))))
    turn-high e k =
        let q = popping h High deep e in
        let F = turned High q.0 in
        let p = q.2 in
        let row = prefix_some F.token p.firm_top.1.0 in
        let level : level_field (prefix_at (operator_in w top)) ≡ level_at F.token = ap (λ n. level_field (prefix_at n)) (number-top h deep High q.0 q.1 p p.stacked) ∙ row.level in
        subst (λ l. Turned ts s x w (reopened_in w m (class_number Within)) m (reopened_of m (next_of m.c) l)) (sym level)
        (reopens F (with_second Within F p.tree) q.1 _ (next_of m.c) (suc (0 + credits q.1)) (level_at F.token) (stacked_next p.stacked (sign-inside h _ k (lit< tt))) p.firm
        ((p.firm_top.0.0, (p.rooted, tt)), p.firm_top.1) refl refl (omega arith) (lit< tt) (omega arith) p.stacked.count (omega arith) row.level_some row.level_fits
        (p.same ∙ ap (plug q.1) (expect-here h.stacked.ready "]" refl _ k)))

    pub turn-uncounted : slot_class top ≡ class_number Count → (number_at w m.c ≡ fixed "]" → ⊥) → Turned ts s x w w m (Ended (refused_at w m.c))
    turn-uncounted e f = let q = popping h Count deep e in refused-here q.1 m.c h.stacked.ready (q.2.same ∙ ap (plug q.1) (expect_other h.stacked.ready "]" refl _ f))

    pub turn-unlow : slot_class top ≡ class_number Low → (number_at w m.c ≡ fixed ":" → ⊥) → Turned ts s x w w m (Ended (refused_at w m.c))
    turn-unlow e f = let q = popping h Low deep e in refused-here q.1 m.c h.stacked.ready (q.2.same ∙ ap (plug q.1) (expect_other h.stacked.ready ":" refl _ f))

    pub turn-unhigh : slot_class top ≡ class_number High → (number_at w m.c ≡ fixed "]" → ⊥) → Turned ts s x w w m (Ended (refused_at w m.c))
    turn-unhigh e f = let q = popping h High deep e in refused-here q.1 m.c h.stacked.ready (q.2.same ∙ ap (plug q.1) (expect_other h.stacked.ready "]" refl _ f))

    -- a set's first element, and a second
    pub turn-second : slot_class top ≡ class_number One → number_at w m.c ≡ fixed "," → Turned ts s x w (reopened_in w m (class_number Two)) m (reopened_of m (next_of m.c) loosest)
    turn-second e k =
        let q = popping h One deep e in
        let F = turned One q.0 in
        let p = q.2 in
        reopens F (with_first Two F p.tree) q.1 _ (next_of m.c) (suc (0 + credits q.1)) loosest (stacked_next p.stacked (sign-inside h _ k (lit< tt))) p.firm
        ((p.rooted, tt), (λ z. omega arith, tt)) refl refl (omega arith) (lit< tt) (omega arith) p.stacked.count (omega arith) (lit< tt) (lit< tt)
        (p.same ∙ ap (plug q.1) (pick (next "," (drop m.c.at ts)) _ _ (next_number_lem h.stacked.ready "," refl ∙ eq-eqb (number_at w m.c) _ k) ∙ ap
        (λ vs. reads loosest vs >>= λ (y, us). resume (with_first Two F p.tree) y us) (sym (drop-next m.c.at ts))))

    pub turn-range : slot_class top ≡ class_number Two → number_at w m.c ≡ fixed ".." → Turned ts s x w (reopened_in w m (class_number Last)) m (reopened_of m (next_of m.c) loosest)
    turn-range e k =
        let q = popping h Two deep e in
        let F = turned Two q.0 in
        let p = q.2 in
        reopens F (with_second Last F p.tree) q.1 _ (next_of m.c) (suc (1 + credits q.1)) loosest (stacked_next p.stacked (sign-inside h _ k (lit< tt))) p.firm
        ((p.firm_top.0.0, (p.rooted, tt)), (λ z. omega arith, tt)) refl refl (omega arith) (lit< tt) (omega arith) p.stacked.count (omega arith) (lit< tt) (lit< tt)
        (p.same ∙ ap (plug q.1) (pick (next ".." (drop m.c.at ts)) _ _ (next_number_lem h.stacked.ready ".." refl ∙ eq-eqb (number_at w m.c) _ k) ∙ ap
        (λ vs. reads loosest vs >>= λ (y, us). resume (with_second Last F p.tree) y us) (sym (drop-next m.c.at ts))))

    -- neither bracket of the two
    pub turn_unopened : class_number Count ≤ slot_class top → slot_class top < class_number One → (slot_class top ≡ class_number Low → ⊥) → (number_at w m.c ≡ fixed "]" → ⊥) → Turned ts s x w w m (Ended (refused_at w m.c))
    turn_unopened low high other f = go (eqb (slot_class top) (class_number Count)) refl
      where
        go : (b : Bool) → eqb (slot_class top) (class_number Count) ≡ b → Turned ts s x w w m (Ended (refused_at w m.c))
        go true e = turn-uncounted (eqb-true (slot_class top) (class_number Count) e) f
        go false e = turn-unhigh (let g = eqb-false (slot_class top) (class_number Count) e in omega arith) f

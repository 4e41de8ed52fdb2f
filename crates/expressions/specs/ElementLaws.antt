-- The elements of a set, one after the other: what a step asks for is there, and where it leads.
use Rattle.std.specs.Prelude.{ℕ, suc, ◌+◌, ◌-◌, ◌≤◌, ◌<◌, true, ◌≡◌}
use native.Mathlib.Omega.{arith}
use mathlib.Core.List.{List, [], ◌∷◌, ◌++◌, append-nil}
use Rattle.std.proofs.Math.Bool.{false}
use Rattle.std.proofs.Math.Option.{none}
use Rattle.std.proofs.Math.Path.{refl, sym, ap, subst}
use Rattle.std.proofs.Common.{◌∙◌}
use Rattle.std.proofs.Math.Dec.{lit<}
use Rattle.std.proofs.Math.ListN.{drop}
use borrow.Author.Tests.{eq-eqb, ne_eqb}
use Rattle.node.specs.Result.{Done, ◌>>=◌}
use Rattle.node.proofs.ResultLaws.{bind_again, bind_where}
use Rattle.words.specs.WordLaws.{length-put}
use Rattle.language.specs.Operators.{loosest}
use Rattle.language.specs.Tree.{Expr, Empty, Element}
use Rattle.language.specs.Grammar.{Tokens, Read, front, rest, next}
use Rattle.language.proofs.Laws.Basics.Tests.{leave}
use Rattle.language.specs.Limits.{work_bytes}
use Rattle.lexer.specs.Numbers.{fixed}
use Rattle.entries.specs.Kinds as Kind
use Rattle.entries.specs.Flat.{under, flat}
use Rattle.entries.specs.declared.Cursor.{Cursor}
use Rattle.entries.specs.Cursors.{Fits, number_at, next_of, emitted_of}
use Rattle.entries.specs.CursorLaws.{before-end, drop-next}
use Rattle.entries.specs.TokenReads.{next_number_lem}
use Rattle.entries.specs.Reads.{Kept}
use Rattle.entries.specs.ReadsLaws.{kept_put, kept_then}
use Rattle.expressions.specs.declared.stack.Machine.{Machine}
use Rattle.expressions.specs.declared.stack.Turn.TheVariants.{Next}
use Rattle.operators.specs.Readers.{reads, climbs, listed}
use Rattle.expressions.specs.ReaderLaws.{climbs-zero}
use Rattle.expressions.specs.ListLaws.{listed_more, listed-end}
use Rattle.expressions.specs.Classes.{Cons, All, Two, More, class_number}
use Rattle.expressions.specs.Frames.{frame, turned, with_first, plug}
use Rattle.expressions.specs.Stack.{slot_word, slot_class, slot_index, slot_level, top_slot, put_slot, Stacked, last_word}
use Rattle.expressions.specs.StackLaws.{slot_level_lem, slot_index_lem, stacked_apart, stacked_few, stacked_less, stacked_next, stacked_pop, stacked_push}
use Rattle.expressions.specs.Machines.{Pushes, popped_of}
use Rattle.expressions.specs.States.{slot, slots_of, base, credits, Turned}
use Rattle.expressions.specs.Complete.{Complete}
use Rattle.expressions.specs.CompleteLaws.{popping}
use Rattle.expressions.specs.Grown.{Grows, grown_in}
use Rattle.expressions.specs.GrownLaws.{grows, kept-grown, grown, turned-after}
use Rattle.expressions.specs.Elements.{Listing, Went}

module _ {ts : Tokens} {s : Cursor} {x : Read Expr} {w : List ℕ} {m : Machine} (h : Listing ts s x w m) where
  pub listing-fits : Fits w m.c
  listing-fits = h.stacked.ready.fits

  -- the list is complete
  pub listing-grows : Grows w m.c Kind.element 0 1
  listing-grows = grows (credits h.frames) (base h.frames) [] (flat h.tree) tt h.rooted h.stacked Kind.element 0 (lit< tt) (lit< tt)

  pub listing-ends : (number_at w m.c ≡ fixed "," → ⊥) → Went ts s x w (grown_in w m.c Kind.element 0 1) m (record { c = emitted_of m.c; depth = m.depth; level = 0; complete = true })
  listing-ends f =
      let e = Element h.tree Empty in
      let made : flat e ≡ under Kind.element none (flat h.tree) = ap (under Kind.element none) (append-nil (flat h.tree)) in
      record {
        kept = kept-grown (credits h.frames) (base h.frames) [] (flat h.tree) tt h.rooted h.stacked Kind.element 0 (lit< tt) (lit< tt);
        state =
            record {
              frames = h.frames;
              tree = e;
              mode = refl;
              good = (Kind.element, none, flat h.tree, made);
              level_fits = lit< tt;
              firm = h.firm;
              stacked =
                  subst (λ es. Stacked ts s (grown_in w m.c Kind.element 0 1) (emitted_of m.c) m.depth (slots_of h.frames) (base h.frames ++ es) (credits h.frames)) (sym made)
                  (grown (credits h.frames) (base h.frames) [] (flat h.tree) tt h.rooted h.stacked Kind.element 0 (lit< tt) (lit< tt) none tt);
              same =
                  h.same
                  ∙ ap (plug h.frames) (listed-end h.tree (drop m.c.at ts) (next_number_lem h.stacked.ready "," refl ∙ ne_eqb (number_at w m.c) _ f) ∙ sym
                  (climbs-zero e (drop m.c.at ts)));
            };
        light = omega (arith, stacked_apart h.stacked, stacked_few h.stacked);
      }

  -- another element follows
  module _ (comma : number_at w m.c ≡ fixed ",") where
    pub comma-inside : m.c.at < m.c.count
    comma-inside = before-end w m.c (omega arith)

    pub listing-push : Pushes w m (class_number Cons) m.c.at
    listing-push =
        let apart = stacked_apart h.stacked in
        let few = stacked_few h.stacked in
        let l = h.level in
        record { room = listing-fits.room; deep = omega arith; class-fits = lit< tt; level_fits = omega arith; token-fits = omega (arith, comma-inside, listing-fits.few) }

    pub listing-second : (k l i : ℕ) → Pushes (put_slot w m.depth k l i) (record { c = m.c; depth = m.depth + 1; level = 0; complete = false }) (class_number More) m.c.at
    listing-second k l i =
        let apart = stacked_apart h.stacked in
        let few = stacked_few h.stacked in
        record {
          room = subst (λ n. work_bytes ≤ n) (sym (length-put w (last_word - m.depth) (slot_word k l i))) listing-fits.room;
          deep = omega arith;
          class-fits = lit< tt;
          level_fits = lit< tt;
          token-fits = omega (arith, comma-inside, listing-fits.few);
        }

    pub listing-more : Went ts s x w (put_slot (put_slot w m.depth (class_number Cons) m.level m.c.at) (m.depth + 1) (class_number More) 0 m.c.at) m
        (record { c = next_of m.c; depth = m.depth + 1 + 1; level = loosest; complete = false })
    unfolding plug
    listing-more =
        let us = drop m.c.at ts in
        let t = front us in
        let i = comma-inside in
        let total = h.stacked.ready.tells.total in
        let few = h.stacked.ready.fits.few in
        let apart = stacked_apart h.stacked in
        let out = h.stacked.out in
        let cons = with_first Cons (frame Cons 0 t) h.tree in
        let after = stacked_next h.stacked i in
        let first = stacked_push after (slot (class_number Cons) 0 t []) m.c.at ((refl, omega arith), tt) (omega arith) (lit< tt) (lit< tt) in
        let both = stacked_push first (slot (class_number More) 0 t []) m.c.at ((refl, omega arith), tt) (omega arith) (lit< tt) (lit< tt) in
        let v = put_slot w m.depth (class_number Cons) 0 m.c.at in
        let u = put_slot v (m.depth + 1) (class_number More) 0 m.c.at in
        let rest-same : (reads loosest (rest us) >>= λ (y, vs). listed y vs >>= λ (es, zs). Done (Element h.tree es, zs)) ≡
        ((reads loosest (drop (m.c.at + 1) ts) >>= λ (y, vs). listed y vs) >>= λ (es, zs). climbs 0 (Element h.tree es) zs) =
        ap (λ vs. reads loosest vs >>= λ (y, zs). listed y zs >>= λ (es, ys). Done (Element h.tree es, ys)) (sym (drop-next m.c.at ts))
        ∙ bind_where (reads loosest (drop (m.c.at + 1) ts)) _ _ (λ (y, vs) _. bind_where (listed y vs) _ _ (λ (es, zs) _. sym (climbs-zero (Element h.tree es) zs)))
        ∙ sym (bind_again (reads loosest (drop (m.c.at + 1) ts)) _ _) in
        subst (λ l. Went ts s x w (put_slot (put_slot w m.depth (class_number Cons) l m.c.at) (m.depth + 1) (class_number More) 0 m.c.at) m
        (record { c = next_of m.c; depth = m.depth + 1 + 1; level = loosest; complete = false })) (sym h.level)
        (record {
          kept =
              kept_then (omega arith) (kept_put w s.out (last_word - m.depth) (slot_word (class_number Cons) 0 m.c.at) (omega (arith, stacked_few h.stacked)) (omega arith))
              (kept_put v s.out (last_word - (m.depth + 1)) (slot_word (class_number More) 0 m.c.at) (omega (arith, stacked_few h.stacked)) (omega arith));
          state =
              record {
                frames = frame More 0 t ∷ cons ∷ h.frames;
                tree = Empty;
                mode = refl;
                good = lit< tt;
                level_fits = lit< tt;
                firm = ((tt, (λ z. omega arith, tt)), (((h.rooted, tt), (λ z. omega arith, tt)), h.firm));
                stacked = subst (λ es. Stacked ts s u (next_of m.c) (m.depth + 1 + 1) (slot (class_number More) 0 t [] ∷ slot (class_number Cons) 0 t [] ∷ slots_of h.frames) es (0 + (0 + credits h.frames)))
                    (sym (append-nil (base h.frames ++ flat h.tree))) (stacked_less both (0 + (0 + credits h.frames)) (omega arith));
                same = h.same ∙ ap (plug h.frames) (listed_more h.tree us (next_number_lem h.stacked.ready "," refl ∙ eq-eqb (number_at w m.c) _ comma) ∙ rest-same);
              };
          light = omega arith;
        })

-- from a complete expression
module _ {ts : Tokens} {s : Cursor} {x : Read Expr} {w : List ℕ} {m : Machine} (h : Complete ts s x w m) (deep : 0 < m.depth) where
  -- a further element: its frame is popped
  pub lists-more : slot_class (top_slot w m.depth) ≡ class_number More → Listing ts s x w (popped_of m 0)
  lists-more e =
      let q = popping h More deep e in
      let p = q.2 in
      record {
        frames = q.1;
        tree = p.tree;
        rooted = p.rooted;
        firm = p.firm;
        level = refl;
        stacked = stacked_less (stacked_pop p.stacked _ (slots_of q.1) refl) (suc (credits q.1))
            (omega arith);
        same = p.same;
      }

  -- the second: its frame waits for the elements from the second on
  pub lists-two : slot_class (top_slot w m.depth) ≡ class_number Two → (number_at w m.c ≡ fixed ".." → ⊥)
      → Listing ts s x (put_slot w (m.depth - 1) (class_number All) (slot_level (top_slot w m.depth)) (slot_index (top_slot w m.depth))) (record { c = m.c; depth = m.depth - 1 + 1; level = 0; complete = false })
  unfolding plug
  lists-two e f =
      let q = popping h Two deep e in
      let F = turned Two q.0 in
      let p = q.2 in
      let top = p.stacked.slots_at.0 in
      let popped = stacked_less (stacked_pop p.stacked (slot (class_number Two) F.level F.token []) (slots_of q.1) refl) (suc (suc (credits q.1))) (omega arith) in
      let pushed = stacked_push popped (slot (class_number All) F.level F.token []) top.index (top.tokens.0, tt) top.index-fits (lit< tt) top.level_fits in
      let same-buffer : put_slot w (m.depth - 1) (class_number All) F.level top.index ≡ put_slot w (m.depth - 1) (class_number All) (slot_level (top_slot w m.depth)) (slot_index (top_slot w m.depth)) =
      ap (λ k. put_slot w (m.depth - 1) (class_number All) k top.index) (sym (slot_level_lem top)) ∙ ap (put_slot w (m.depth - 1) (class_number All) (slot_level (top_slot w m.depth))) (sym (slot_index_lem top)) in
      record {
        frames = turned All F ∷ q.1;
        tree = p.tree;
        rooted = p.rooted;
        firm = ((p.firm_top.0, (λ z. omega arith, tt)), p.firm);
        level = refl;
        stacked = subst (λ u. Stacked ts s u m.c (m.depth - 1 + 1) (slot (class_number All) F.level F.token [] ∷ slots_of q.1) ((base q.1 ++ flat F.first) ++ flat p.tree)
            (suc (0 + credits q.1))) same-buffer (stacked_less pushed (suc (0 + credits q.1)) (omega arith));
        same = p.same ∙ ap (plug q.1) (leave (next ".." (drop m.c.at ts)) _ _ (next_number_lem h.stacked.ready ".." refl ∙ ne_eqb (number_at w m.c) _ f));
      }

  pub kept-two : slot_class (top_slot w m.depth) ≡ class_number Two → (k l i : ℕ) → Kept w (put_slot w (m.depth - 1) k l i) s.out
  kept-two e k l i =
      let apart = stacked_apart h.stacked in
      let few = stacked_few h.stacked in
      let out = h.stacked.out in
      kept_put w s.out (last_word - (m.depth - 1)) (slot_word k l i) (omega arith) (omega arith)

  pub turn_more : {v : List ℕ} {n : Machine} → Went ts s x w v (popped_of m 0) n → Turned ts s x w v m (Next n)
  turn_more g = record { kept = g.kept; after = record { state = g.state; lighter = omega (arith, g.light) } }

  pub turn_two : {u v : List ℕ} {n : Machine} → Kept w u s.out → Went ts s x u v (record { c = m.c; depth = m.depth - 1 + 1; level = 0; complete = false }) n → Turned ts s x w v m (Next n)
  turn_two k g = turned-after k (record { kept = g.kept; after = record { state = g.state; lighter = (let e : m.depth - 1 + 1 ≡ m.depth = omega arith in omega (arith, g.light)) } })

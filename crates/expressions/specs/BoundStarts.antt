-- A complete expression that is the low bound of a big operator's name: a sign, the name and a sign must follow, then the high bound.
use Prim.Native.Nat.{ℕ, zero, suc, ◌+◌, ◌-◌, ◌≤◌, ◌<◌}
use Rattle.std.proofs.Common.{add-one, sym, ◌∙◌}
use native.Mathlib.Omega.{arith}
use mathlib.Core.List.{List, [], ◌∷◌, ◌++◌, append-nil}
use Rattle.std.specs.Prelude.{true, false, ◌≡◌}
use Rattle.std.proofs.lemmas.Bool.{false≢true}
use Rattle.std.proofs.Math.Option.{some}
use Rattle.std.proofs.Math.Path.{refl, ap, subst}
use Rattle.std.proofs.Math.Dec.{lit<}
use Rattle.std.proofs.Math.ListN.{drop}
use borrow.Author.Tests.{eq-eqb, ne_eqb}
use Rattle.node.specs.Result.{Done, ◌>>=◌}
use Rattle.node.proofs.ResultLaws.{bind_at}
use Rattle.words.specs.WordLaws.{length-put}
use Rattle.language.specs.Tokens.{Name, Token, is_of}
use Rattle.language.specs.Tree.{Expr, Between, Empty}
use Rattle.language.specs.Grammar.{Tokens, Read, front, rest, stop, sign_of, expect_of}
use Rattle.language.proofs.Laws.Basics.Tests.{pick, leave}
use Rattle.language.specs.Limits.{work_bytes}
use Rattle.language.specs.Operators.{bound_level}
use Rattle.lexer.specs.Numbers.{class_number as tokenNumber}
use Rattle.entries.specs.Flat.{flat}
use Rattle.entries.specs.Stored.{Keeps}
use Rattle.entries.specs.declared.Cursor.{Cursor}
use Rattle.entries.specs.Cursors.{Fits, Ready, number_at, next_of, refused_at}
use Rattle.entries.specs.CursorLaws.{ready-next, before-end, drop-next}
use Rattle.entries.specs.TokenReads.{next-class}
use Rattle.entries.specs.ReadsLaws.{kept_put, kept_then}
use Rattle.expressions.specs.declared.stack.Machine.{Machine}
use Rattle.expressions.specs.declared.stack.Turn.TheVariants.{Next, Ended}
use Rattle.operators.specs.Readers.{reads}
use Rattle.expressions.specs.Classes.{Over, Bound, Upper, class_number}
use Rattle.expressions.specs.Frames.{Frame, turned, is_strict, resume, plug, after_binder}
use Rattle.expressions.specs.Stack.{slot_word, slot_class, slot_index, slot_level, top_slot, put_slot, Stacked, last_word}
use Rattle.expressions.specs.StackLaws.{slot_level_lem, slot_index_lem, stacked_apart, stacked_few, stacked_less, stacked_next, stacked_pop, stacked_push}
use Rattle.expressions.specs.Machines.{Pushes, popped_of}
use Rattle.expressions.specs.States.{slot, slots_of, base, credits, Turned}
use Rattle.expressions.specs.Complete.{Complete}
use Rattle.expressions.specs.CompleteLaws.{popping}
use Rattle.expressions.specs.Closes.{refused-here}
use Rattle.expressions.specs.Signs.{sign_at}
use Rattle.expressions.specs.SignLaws.{sign-here, sign_other}

-- a sign is not the text's end
sign_some : (k : ℕ) → sign_at k ≡ true → 0 < k
sign_some k e = go k refl
  where
    go : (i : ℕ) → k ≡ i → 0 < k
    go zero z = absurd (false≢true (ap sign_at (sym z) ∙ e))
    go (suc i) z = omega arith

-- a name stands at the cursor, or another token
module _ {ts : Tokens} {w : List ℕ} {c : Cursor} (ready : Ready ts w c) {B : Type 0} (K : Token × Tokens → Read B) where
  name-here : number_at w c ≡ tokenNumber Name → (expect_of Name (drop c.at ts) >>= K) ≡ K (front (drop c.at ts), drop (c.at + 1) ts)
  name-here e =
      let us = drop c.at ts in
      ap (λ (r : Read Token). r >>= K) (pick (is_of Name (front us)) (Done (front us, rest us)) (stop us) (next-class ready Name refl ∙ eq-eqb (number_at w c) (tokenNumber Name) e))
      ∙ bind_at (front us, rest us) K ∙ ap (λ vs. K (front us, vs)) (sym (drop-next c.at ts))

  name_other : (number_at w c ≡ tokenNumber Name → ⊥) → (expect_of Name (drop c.at ts) >>= K) ≡ stop (drop c.at ts)
  unfolding ◌>>=◌
  name_other f = let us = drop c.at ts in ap (λ (r : Read Token). r >>= K) (leave (is_of Name (front us)) (Done (front us, rest us)) (stop us) (next-class ready Name refl ∙ ne_eqb (number_at w c) (tokenNumber Name) f))

module _ {ts : Tokens} {s : Cursor} {x : Read Expr} {w : List ℕ} {m : Machine} (h : Complete ts s x w m) (deep : 0 < m.depth) (e : slot_class (top_slot w m.depth) ≡ class_number Bound) where
  abbrev top : ℕ
  top = top_slot w m.depth

  abbrev second : Cursor
  second = next_of m.c

  abbrev third : Cursor
  third = next_of (next_of m.c)

  ready : Ready ts w m.c
  ready = h.stacked.ready

  pub turn_no_low : sign_at (number_at w m.c) ≡ false → Turned ts s x w w m (Ended (refused_at w m.c))
  turn_no_low f = let q = popping h Bound deep e in refused-here q.1 m.c ready (q.2.same ∙ ap (plug q.1) (sign_other ready _ f))

  module _ (low : sign_at (number_at w m.c) ≡ true) where
    pub low-inside : m.c.at < m.c.count
    low-inside = before-end w m.c (sign_some (number_at w m.c) low)

    pub low_fits : Fits w second
    low_fits = (ready-next ready low-inside).fits

    pub turn-no-name : (number_at w second ≡ tokenNumber Name → ⊥) → Turned ts s x w w m (Ended (refused_at w second))
    turn-no-name f =
        let q = popping h Bound deep e in
        let r = ready-next ready low-inside in
        refused-here q.1 second r
        (q.2.same ∙ ap (plug q.1) (sign-here ready _ low ∙ name_other r _ f))

    module _ (name : number_at w second ≡ tokenNumber Name) where
      pub name-inside : m.c.at + 1 < m.c.count
      name-inside = before-end w second (omega arith)

      ready-third : Ready ts w third
      ready-third = ready-next (ready-next ready low-inside) name-inside

      pub name-fits : Fits w third
      name-fits = ready-third.fits

      to_high : (F : Frame) (tree : Expr) → resume (turned Bound F) tree (drop m.c.at ts)
          ≡ (sign_of (drop (m.c.at + 1 + 1) ts) >>= λ (high, xs). reads bound_level xs >>= λ (y, ys). after_binder F.level F.token
          (record { name = front (drop (m.c.at + 1) ts); range = Between (front (drop m.c.at ts)) (is_strict (front (drop m.c.at ts))) high.1 tree y }) ys)
      to_high F tree =
          let r = ready-next ready low-inside in
          sign-here ready _ low ∙ name-here r _ name

      pub turn-no-high : sign_at (number_at w third) ≡ false → Turned ts s x w w m (Ended (refused_at w third))
      turn-no-high f =
          let q = popping h Bound deep e in
          refused-here q.1 third ready-third (q.2.same ∙ ap (plug q.1) (to_high q.0 q.2.tree ∙ sign_other ready-third _ f))

      module _ (high : sign_at (number_at w third) ≡ true) where
        pub high-inside : m.c.at + 1 + 1 < m.c.count
        high-inside = before-end w third (sign_some (number_at w third) high)

        pub bound-push : Pushes w (popped_of m (slot_level top)) (class_number Over) (slot_index top)
        bound-push =
            let apart = stacked_apart h.stacked in
            let few = stacked_few h.stacked in
            record { room = ready.fits.room; deep = omega arith; class-fits = lit< tt; level_fits = omega arith; token-fits = omega arith }

        pub bound-second : Pushes (put_slot w (m.depth - 1) (class_number Over) (slot_level top) (slot_index top)) (record { c = next_of third; depth = m.depth - 1 + 1; level = 0; complete = false }) (class_number Upper) m.c.at
        bound-second =
            let apart = stacked_apart h.stacked in
            let few = stacked_few h.stacked in
            record {
              room = subst (λ n. work_bytes ≤ n) (sym (length-put w (last_word - (m.depth - 1)) (slot_word (class_number Over) (slot_level top) (slot_index top)))) ready.fits.room;
              deep = omega arith;
              class-fits
                  = lit< tt;
              level_fits = lit< tt;
              token-fits = omega (arith, low-inside, ready.fits.few);
            }

        pub turn-bound : Turned ts s x w (put_slot (put_slot w (m.depth - 1) (class_number Over) (slot_level top) (slot_index top)) (m.depth - 1 + 1) (class_number Upper) 0 m.c.at) m
            (Next (record { c = next_of third; depth = m.depth - 1 + 1 + 1; level = bound_level; complete = false }))
        unfolding plug
        turn-bound =
            let q = popping h Bound deep e in
            let F = turned Bound q.0 in
            let p = q.2 in
            let at_top = p.stacked.slots_at.0 in
            let total = ready.tells.total in
            let few = ready.fits.few in
            let apart = stacked_apart h.stacked in
            let far = stacked_few h.stacked in
            let out = h.stacked.out in
            let i = high-inside in
            let t = front (drop m.c.at ts) in
            let name-token = front (drop (m.c.at + 1) ts) in
            let high-token = front (drop (m.c.at + 1 + 1) ts) in
            let G : Frame = record { class = Upper; level = F.level; token = F.token; first = p.tree; second = Empty; name = name-token; low = t; high = high-token } in
            let after = stacked_next (stacked_next (stacked_next (stacked_pop p.stacked (slot (class_number Bound) F.level F.token []) (slots_of q.1) refl) low-inside) name-inside) high-inside in
            let over = stacked_push after (slot (class_number Over) F.level F.token []) at_top.index (at_top.tokens.0, tt) at_top.index-fits (lit< tt) at_top.level_fits in
            let first-at : Keeps ts m.c.at (some t) = (refl, omega arith) in
            let name_at_lem : Keeps ts (suc m.c.at) (some name-token) = subst (λ k. Keeps ts k (some name-token)) (add-one m.c.at) (refl, omega arith) in
            let high-at : Keeps ts (suc (suc m.c.at)) (some high-token) = subst (λ k. Keeps ts k (some high-token)) (let z : m.c.at + 1 + 1 ≡ suc (suc m.c.at) = omega arith in z)
            (refl, omega arith) in
            let both = stacked_push over (slot (class_number Upper) 0 t (name-token ∷ high-token ∷ [])) m.c.at (first-at, (name_at_lem, (high-at, tt))) (omega arith) (lit< tt) (lit< tt) in
            let v = put_slot w (m.depth - 1) (class_number Over) (slot_level top) (slot_index top) in
            let u = put_slot v (m.depth - 1 + 1) (class_number Upper) 0 m.c.at in
            let same-buffer : put_slot w (m.depth - 1) (class_number Over) F.level at_top.index ≡ v =
            ap (λ k. put_slot w (m.depth - 1) (class_number Over) k at_top.index) (sym (slot_level_lem at_top)) ∙ ap (put_slot w (m.depth - 1) (class_number Over) (slot_level top)) (sym (slot_index_lem at_top)) in
            record {
              kept =
                  kept_then (omega arith) (kept_put w s.out (last_word - (m.depth - 1)) (slot_word (class_number Over) (slot_level top) (slot_index top)) (omega arith) (omega arith))
                  (kept_put v s.out (last_word - (m.depth - 1 + 1)) (slot_word (class_number Upper) 0 m.c.at) (omega arith) (omega arith));
              after =
                  record {
                    state =
                        record {
                          frames = G ∷ q.1;
                          tree = Empty;
                          mode = refl;
                          good = lit< tt;
                          level_fits = lit< tt;
                          firm = (((p.rooted, tt), p.firm_top.1), p.firm);
                          stacked =
                              subst (λ es. Stacked ts s u (next_of third) (m.depth - 1 + 1 + 1) (slot (class_number Upper) 0 t (name-token ∷ high-token ∷ []) ∷ slot (class_number Over) F.level F.token [] ∷ slots_of q.1) es
                              (1 + credits q.1)) (sym (append-nil (base q.1 ++ flat p.tree)))
                              (subst (λ b. Stacked ts s (put_slot b (m.depth - 1 + 1) (class_number Upper) 0 m.c.at) (next_of third) (m.depth - 1 + 1 + 1)
                              (slot (class_number Upper) 0 t (name-token ∷ high-token ∷ []) ∷ slot (class_number Over) F.level F.token [] ∷ slots_of q.1) (base q.1 ++ flat p.tree) (1 + credits q.1)) same-buffer
                              (stacked_less both (1 + credits q.1) (omega arith)));
                          same = p.same ∙ ap (plug q.1) (to_high q.0 p.tree ∙ sign-here ready-third _ high);
                        };
                    lighter = (let d : m.depth - 1 + 1 ≡ m.depth = omega arith in omega arith);
                  };
            }

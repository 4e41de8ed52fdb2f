-- A name is bound: what a step asks for is there, and where it leads.
use Rattle.std.specs.Prelude.{ℕ, ◌+◌, ◌<◌, List, [], ◌∷◌, ◌++◌, Bool, true, ◌≡◌, eqb, drop}
use Rattle.std.proofs.Common.{arith, append-nil, sym, ◌∙◌}
use Rattle.std.proofs.Math.Bool.{false}
use Rattle.std.proofs.Math.Option.{some}
use Rattle.std.proofs.Math.Path.{refl, ap, subst}
use Rattle.std.proofs.Math.Dec.{lit<}
use borrow.Author.Tests.{eq-eqb, ne_eqb}
use Rattle.node.specs.Result.{◌>>=◌}
use Rattle.words.specs.Words.{word_at}
use Rattle.language.specs.Tree.{Expr, Empty}
use Rattle.language.specs.Grammar.{Tokens, Read, next, expect}
use Rattle.language.proofs.Laws.Basics.Tests.{pick, leave}
use Rattle.language.proofs.Laws.Basics.Lists.{All as Every}
use Rattle.language.specs.Limits.{max_tokens}
use Rattle.lexer.specs.Stored.{number_in}
use Rattle.lexer.specs.Numbers.{fixed}
use Rattle.entries.specs.Kinds as Kind
use Rattle.entries.specs.Flat.{under, flat}
use Rattle.entries.specs.Stored.{Keeps}
use Rattle.entries.specs.declared.Cursor.{Cursor}
use Rattle.entries.specs.Cursors.{Fits, number_at, next_of, emitted_of, refused_at}
use Rattle.entries.specs.CursorLaws.{before-end, drop-next}
use Rattle.entries.specs.TokenReads.{next_number_lem}
use Rattle.entries.specs.Reads.{Kept}
use Rattle.operators.specs.Fields.{level_field}
use Rattle.expressions.specs.declared.stack.Machine.{Machine}
use Rattle.expressions.specs.declared.stack.Turn.TheVariants.{Next, Ended}
use Rattle.operators.specs.Readers.{reads, level_at, folds}
use Rattle.expressions.specs.Frames.{Frame, bound, resume, plug}
use Rattle.operators.specs.Tables.{prefix_at}
use Rattle.operators.specs.RowLaws.{prefix_some}
use Rattle.expressions.specs.Stack.{slot_index, slot_level, top_slot, Stacked}
use Rattle.expressions.specs.StackLaws.{slot_level_lem, slot_index_lem, stacked_apart, stacked_few, stacked_less, stacked_next}
use Rattle.expressions.specs.Machines.{Tops}
use Rattle.expressions.specs.States.{slots_of, base, Firm, credits, State}
use Rattle.expressions.specs.Wholes.{operator_in}
use Rattle.expressions.specs.WholeLaws.{stored_number}
use Rattle.expressions.specs.Closes.{expect-here, expect_other, refused-here}
use Rattle.expressions.specs.Grown.{Grows, grown_in}
use Rattle.expressions.specs.GrownLaws.{grows, kept-grown, grown, turned-after}
use Rattle.expressions.specs.Binders.{Folding, Named}
use Rattle.expressions.specs.NameStates.{Ranged, NameBound, binder_kind}

module _ {ts : Tokens} {s : Cursor} {x : Read Expr} {w : List ℕ} {m : Machine} {c : Cursor} {j : ℕ} (h : Ranged ts s x w m c j) where
  abbrev top : ℕ
  top = top_slot w m.depth

  pub ranged_tops : Tops w m
  ranged_tops =
      let apart = stacked_apart h.stacked in
      let few = stacked_few h.stacked in
      record { room = h.stacked.ready.fits.room; some = h.stacked.slots_at.0.deep; deep = omega arith }

  level_top : slot_level top ≡ h.frame.level
  level_top = slot_level_lem h.stacked.slots_at.0

  kind-small : (l : ℕ) → binder_kind l < Kind.limit
  kind-small l = go (eqb l 0)
    where
      go : (b : Bool) → Kind.binder b < Kind.limit
      go true = lit< tt
      go false = lit< tt

  pub ranged-grows : Grows w c (binder_kind (slot_level top)) j 1
  ranged-grows = grows (credits h.frames) (base h.frames) [] (flat h.binder.range) tt h.rooted h.stacked (binder_kind (slot_level top)) j (kind-small (slot_level top)) h.index-fits

  abbrev pub named_in : List ℕ
  named_in = grown_in w c (binder_kind (slot_level top)) j 1

  kept-named : Kept w named_in s.out
  kept-named = kept-grown (credits h.frames) (base h.frames) [] (flat h.binder.range) tt h.rooted h.stacked (binder_kind (slot_level top)) j (kind-small (slot_level top)) h.index-fits

  abbrev over : Frame
  over = bound h.frame h.binder

  -- the name is bound
  named_stacked : Stacked ts s named_in (emitted_of c) m.depth (slots_of (over ∷ h.frames)) (base (over ∷ h.frames) ++ []) (credits (over ∷ h.frames))
  named_stacked =
      let g = grown (credits h.frames) (base h.frames) [] (flat h.binder.range) tt h.rooted h.stacked (binder_kind (slot_level top)) j (kind-small (slot_level top)) h.index-fits
      (some h.binder.name) h.keeps in
      subst (λ es. Stacked ts s named_in (emitted_of c) m.depth (slots_of (over ∷ h.frames)) es (0 + credits h.frames)) (sym (append-nil (base (over ∷ h.frames))))
      (stacked_less (subst (λ l. Stacked ts s named_in (emitted_of c) m.depth (slots_of (over ∷ h.frames))
      (base h.frames ++ under (binder_kind l) (some h.binder.name) (flat h.binder.range)) (credits h.frames)) level_top g) (0 + credits h.frames) (omega arith))

  pub named-fits : Fits named_in (emitted_of c)
  named-fits = named_stacked.ready.fits

  firm_over : Every Firm (over ∷ h.frames)
  firm_over = ((((binder_kind h.frame.level, some h.binder.name, flat h.binder.range, refl), tt), h.marked), h.firm)

  -- further names follow
  module _ (comma : number_at named_in (emitted_of c) ≡ fixed ",") where
    pub comma-inside : c.at < c.count
    comma-inside = before-end named_in (emitted_of c) (omega arith)

    pub names-further : Folding ts s x named_in (record { c = emitted_of c; depth = m.depth; level = 0; complete = false }) (next_of (emitted_of c)) (slot_index top)
    unfolding plug
    names-further =
        let at_top = h.stacked.slots_at.0 in
        record {
          frames = over ∷ h.frames;
          operator = h.frame.token;
          firm = firm_over;
          marked = h.marked;
          keeps = subst (λ i. Keeps ts i (some h.frame.token)) (sym (slot_index_lem at_top)) at_top.tokens.0;
          token-fits = subst (λ i. i < max_tokens) (sym (slot_index_lem at_top)) at_top.index-fits;
          level_fits = lit< tt;
          stacked = stacked_next named_stacked comma-inside;
          same =
              h.same
              ∙ ap (plug h.frames)
              (pick (next "," (drop c.at ts)) _ _ (next_number_lem named_stacked.ready "," refl ∙ eq-eqb (number_at named_in (emitted_of c)) _ comma)
              ∙ ap (λ vs. folds 0 h.frame.token vs >>= λ (e, us). resume over e us) (sym (drop-next c.at ts)));
        }

    pub turn-further : {v : List ℕ} {n : Machine} → Named ts s x named_in v (record { c = emitted_of c; depth = m.depth; level = 0; complete = false }) (next_of (emitted_of c)) n
        → NameBound ts s x w v m c (Next n)
    turn-further {v} {n} g =
        record {
          step =
              turned-after kept-named
              (record {
                kept = g.kept;
                after = record {
                  state = subst (λ b. State b ts s x v n) (sym g.state.mode) g.state;
                  lighter = omega
                      (arith, g.light, comma-inside, stacked_apart h.stacked, stacked_few h.stacked);
                };
              });
        }

  -- the operand follows
  module _ (no_comma : number_at named_in (emitted_of c) ≡ fixed "," → ⊥) where
    ends-here : x ≡ plug h.frames (expect "]" (drop c.at ts) >>= λ (d, us). reads (level_at h.frame.token) us >>= λ (e, vs). resume over e vs)
    ends-here = h.same ∙ ap (plug h.frames) (leave (next "," (drop c.at ts)) _ _ (next_number_lem named_stacked.ready "," refl ∙ ne_eqb (number_at named_in (emitted_of c)) _ no_comma))

    pub turn-operand : number_at named_in (emitted_of c) ≡ fixed "]" → NameBound ts s x w named_in m c
        (Next (record { c = next_of (emitted_of c); depth = m.depth; level = level_field (prefix_at (operator_in named_in top)); complete = false }))
    unfolding plug
    turn-operand k =
        let i = before-end named_in (emitted_of c) (omega arith) in
        let at_top = h.stacked.slots_at.0 in
        let row = prefix_some h.frame.token h.marked.0 in
        let level : level_field (prefix_at (operator_in named_in top)) ≡ level_at h.frame.token =
        ap (λ n. level_field (prefix_at n)) (ap (λ q. number_in (word_at named_in q)) (slot_index_lem at_top) ∙ stored_number at_top.index h.frame.token named_stacked.ready at_top.tokens.0) ∙ row.level
        in
        subst (λ l. NameBound ts s x w named_in m c (Next (record { c = next_of (emitted_of c); depth = m.depth; level = l; complete = false }))) (sym level)
        (record {
          step =
              record {
                kept = kept-named;
                after =
                    record {
                      state =
                          record {
                            frames = over ∷ h.frames;
                            tree = Empty;
                            mode = refl;
                            good = row.level_some;
                            level_fits = row.level_fits;
                            firm = firm_over;
                            stacked = stacked_less (stacked_next named_stacked i) (0 + credits h.frames) (omega arith);
                            same = ends-here ∙ ap (plug h.frames) (expect-here named_stacked.ready "]" refl _ k);
                          };
                      lighter = omega (arith, i, stacked_apart h.stacked, stacked_few h.stacked);
                    };
              };
        })

    pub turn-unnamed : (number_at named_in (emitted_of c) ≡ fixed "]" → ⊥) → NameBound ts s x w named_in m c (Ended (refused_at named_in (emitted_of c)))
    turn-unnamed f =
        record { step = turned-after kept-named (refused-here h.frames (emitted_of c) named_stacked.ready (ends-here ∙ ap (plug h.frames) (expect_other named_stacked.ready "]" refl _ f))) }

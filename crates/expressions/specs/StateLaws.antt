-- From one state to the next: a refusal; a frame pushed where an operand begins; an operand that is complete. Each asks for an equation of the readers.
use Rattle.std.specs.Prelude.{ℕ, suc, ◌+◌, ◌-◌, ◌≤◌, ◌<◌, ◌^◌, List, [], ◌∷◌, ◌++◌, Bool, false, ◌≡◌, refl, drop, Err}
use Rattle.std.proofs.Common.{zero-add, arith, append_assoc, sym, ap, ◌∙◌, subst}
use Rattle.std.proofs.Math.Option.{some}
use Rattle.node.specs.Returned.{refusal}
use Rattle.node.specs.Result.{Refused, ◌>>=◌}
use Rattle.language.specs.Tokens.{Token}
use Rattle.language.specs.Tree.{Expr, Empty}
use Rattle.language.specs.Grammar.{Tokens, Read, front, stop}
use Rattle.language.proofs.Laws.Basics.Lists.{All as Every}
use Rattle.language.specs.Limits.{max_tokens}
use Rattle.entries.specs.Kinds as Kind
use Rattle.entries.specs.Flat.{leaf, flat}
use Rattle.entries.specs.Stored.{first_entry, entry_word, put_entry, Keeps}
use Rattle.entries.specs.declared.Cursor.{Cursor}
use Rattle.entries.specs.Cursors.{Fits, Ready, refused_at, emitted_of}
use Rattle.entries.specs.CursorLaws.{ready-place}
use Rattle.entries.specs.Reads.{Kept, Outcome}
use Rattle.entries.specs.ReadsLaws.{kept_same, kept_put}
use Rattle.operators.specs.Fields.{level_bits}
use Rattle.expressions.specs.declared.stack.Machine.{Machine}
use Rattle.expressions.specs.declared.stack.Turn.TheVariants.{Next, Ended}
use Rattle.operators.specs.Readers.{reads, climbs}
use Rattle.expressions.specs.Classes.{Class, class_number}
use Rattle.expressions.specs.Frames.{Frame, frame, resume, plug}
use Rattle.expressions.specs.Stack.{slot_word, put_slot, Stacked, Rooted, last_word}
use Rattle.expressions.specs.StackLaws.{stacked_apart, stacked_few, stacked_push, stacked_emit}
use Rattle.expressions.specs.Machines.{pushed_of, climbing_of}
use Rattle.expressions.specs.States.{slot, slots_of, trees_by, behind, base, Firm, credit_by, credits, current, State, Turned, Simple, Marked}

-- a refusal is what all frames make of it
pub plug-refused : (Fs : List Frame) (n p : ℕ) → plug Fs (Refused n p) ≡ Refused n p
unfolding plug ◌>>=◌
plug-refused [] n p = refl
plug-refused (F ∷ Fs) n p = plug-refused Fs n p

-- the numbers of a state
pub record Facts (w : List ℕ) (m : Machine) : Type 0 where
  pub fits : Fits w m.c
  pub apart : m.c.out + m.depth < m.c.at
  pub few : m.c.at ≤ max_tokens
  pub level_fits : m.level < 2 ^ level_bits

module _ {complete : Bool} {ts : Tokens} {s : Cursor} {x : Read Expr} {w : List ℕ} {m : Machine} (h : State complete ts s x w m) where
  pub facts : Facts w m
  facts =
      record {
        fits = h.stacked.ready.fits;
        apart = omega (arith, stacked_apart h.stacked);
        few = stacked_few h.stacked;
        level_fits = h.level_fits;
      }

  -- the token that is next
  abbrev pub here : Token
  here = front (drop m.c.at ts)

  pub keeps_here : m.c.at < m.c.count → Keeps ts m.c.at (some here)
  keeps_here l = (refl, omega (arith, h.stacked.ready.tells.total))

  -- buffers that are kept
  pub kept_slot : (k l j : ℕ) → Kept w (put_slot w m.depth k l j) s.out
  kept_slot k l j =
      let f = facts in
      let out = h.stacked.out in
      kept_put w s.out (last_word - m.depth) (slot_word k l j) (omega (arith, f.apart, f.few)) (omega arith)

  pub kept_entry : (k j n : ℕ) → Kept w (put_entry w m.c.out k j n) s.out
  kept_entry k j n =
      let f = facts in
      let out = h.stacked.out in
      kept_put w s.out (first_entry + m.c.out) (entry_word k j n) (omega arith) (omega (arith, f.apart, f.few))

  -- nothing continues at the cursor d
  pub refuses-at : (d : Cursor) → Ready ts w d → current complete m.level h.tree (drop m.c.at ts) ≡ stop (drop d.at ts) → Turned ts s x w w m (Ended (refused_at w d))
  refuses-at d ready e =
      record {
        kept = kept_same w s.out;
        after =
            subst (λ y. Outcome ts w s flat y (refused_at w d)) (sym (h.same ∙ ap (plug h.frames) e ∙ plug-refused h.frames 4 (front (drop d.at ts)).at))
            (ap (λ (p : ℕ). Err (refusal 4 p)) (ready-place ready));
      }

  pub refuses : current complete m.level h.tree (drop m.c.at ts) ≡ stop (drop m.c.at ts) → Turned ts s x w w m (Ended (refused_at w m.c))
  refuses e = refuses-at m.c h.stacked.ready e

-- a frame without trees and with the index j of its token is pushed; reading goes on at the cursor d, at a level
pub pushed : {ts : Tokens} {s : Cursor} {x : Read Expr} {w : List ℕ} (Fs : List Frame) (K : Class) (max j : ℕ) (t : Token) (d : Cursor) (depth l : ℕ)
    → Simple K → Marked K t → Every Firm Fs → Keeps ts j (some t) → j < max_tokens → max < 2 ^ level_bits → 0 < l → l < 2 ^ level_bits
    → Stacked ts s w d depth (slots_of Fs) (base Fs ++ []) (suc (credits Fs)) → x ≡ plug Fs (reads l (drop d.at ts) >>= λ (y, us). resume (frame K max t) y us)
    → State false ts s x (put_slot w depth (class_number K) max j) (record { c = d; depth = depth + 1; level = l; complete = false })
unfolding plug
pushed {ts} {s} {x} {w} Fs K max j t d depth l simple marked firm keeps fits below positive small stacked same =
    let F = frame K max t in
    let v = put_slot w depth (class_number K) max j in
    let top = slot (class_number K) max t [] in
    record {
      frames = F ∷ Fs;
      tree = Empty;
      mode = refl;
      good = positive;
      level_fits = small;
      firm = ((subst (Every Rooted) (sym (simple.trees max t)) tt, marked), firm);
      stacked =
          subst (λ sl. Stacked ts s v d (depth + 1) (sl ++ slots_of Fs) (behind (base Fs) (trees_by K F) ++ []) (credit_by K + credits Fs)) (sym (simple.slots max t))
          (subst (λ u. Stacked ts s v d (depth + 1) (top ∷ slots_of Fs) (behind (base Fs) u ++ []) (credit_by K + credits Fs)) (sym (simple.trees max t))
          (subst (λ n. Stacked ts s v d (depth + 1) (top ∷ slots_of Fs) (base Fs ++ []) n) (sym (ap (λ k. k + credits Fs) simple.credit ∙ zero-add (credits Fs)))
          (stacked_push stacked top j (keeps, tt) fits simple.class below)));
      same = same;
    }

-- where an operand begins
module _ {ts : Tokens} {s : Cursor} {x : Read Expr} {w : List ℕ} {m : Machine} (h : State false ts s x w m) where
  -- the frame of the next token
  pub enters : (K : Class) (d : Cursor) (l : ℕ) → Simple K → Marked K (here h) → m.c.at < m.c.count → m.c.at < d.at
      → Stacked ts s w d m.depth (slots_of h.frames) (base h.frames ++ []) (suc (credits h.frames))
      → 0 < l → l < 2 ^ level_bits
      → reads m.level (drop m.c.at ts) ≡ (reads l (drop d.at ts) >>= λ (y, us). resume (frame K m.level (here h)) y us)
      → Turned ts s x w (put_slot w m.depth (class_number K) m.level m.c.at) m (Next (pushed_of m d l))
  enters K d l simple marked inside onward stacked positive small step =
      let f = facts h in
      record {
        kept = kept_slot h (class_number K) m.level m.c.at;
        after =
            record {
              state = pushed h.frames K m.level m.c.at (here h) d m.depth l simple marked h.firm (keeps_here h inside) (omega (arith, f.few, f.fits.few)) h.level_fits positive
                  small stacked (h.same ∙ ap (plug h.frames) step);
              lighter = omega (arith, stacked.count, h.stacked.count, stacked.ready.fits.inside, stacked.out, h.stacked.out);
            };
      }

  -- the next token makes an operand e without others, up to the cursor d
  pub completes_at : (e : Expr) (k : ℕ) → flat e ≡ leaf k (here h) → k < Kind.limit → m.c.at < m.c.count → (d : Cursor) → m.c.at < d.at → d.out ≡ m.c.out
      → Stacked ts s w d m.depth (slots_of h.frames) (base h.frames ++ []) (suc (credits h.frames))
      → reads m.level (drop m.c.at ts) ≡ climbs m.level e (drop d.at ts)
      → Turned ts s x w (put_entry w m.c.out k m.c.at 1) m (Next (climbing_of m (emitted_of d)))
  completes_at e k one small inside d onward out stacked step =
      let f = facts h in
      let v = put_entry w m.c.out k m.c.at 1 in
      let written : Stacked ts s v (emitted_of d) m.depth (slots_of h.frames) ((base h.frames ++ []) ++ leaf k (here h)) (credits h.frames) =
      subst (λ o. Stacked ts s (put_entry w o k m.c.at 1) (emitted_of d) m.depth (slots_of h.frames) ((base h.frames ++ []) ++ leaf k (here h)) (credits h.frames)) out
      (stacked_emit stacked k m.c.at 1 (some (here h)) (keeps_here h inside) small (omega (arith, f.few, f.fits.few)) (omega arith)) in
      record {
        kept = kept_entry h k m.c.at 1;
        after =
            record {
              state =
                  record {
                    frames = h.frames;
                    tree = e;
                    mode = refl;
                    good = (k, some (here h), [], one);
                    level_fits = h.level_fits;
                    firm = h.firm;
                    stacked = subst (λ es. Stacked ts s v (emitted_of d) m.depth (slots_of h.frames) es (credits h.frames))
                        (append_assoc (base h.frames) [] (leaf k (here h)) ∙ ap (λ es. base h.frames ++ es) (sym one)) written;
                    same = h.same ∙ ap (plug h.frames) step;
                  };
              lighter = omega (arith, stacked.count, h.stacked.count, stacked.ready.fits.inside, stacked.out, h.stacked.out);
            };
      }

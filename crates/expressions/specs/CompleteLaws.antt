-- A complete expression and the last frame: its class, and the state in which its tree is complete in turn.
use Rattle.std.specs.Prelude.{ℕ, suc, ◌+◌, ◌-◌, ◌≤◌, ◌<◌, ◌^◌, Bool, true, false, ◌&&◌, ◌≡◌, refl, eqb, leb, ltb, length, Ok}
use Rattle.std.proofs.Common.{arith, ◌∙◌, length-append, eqb-true, leb-true, ltb-true}
use mathlib.Core.List.{List, [], ◌∷◌, ◌++◌, append_assoc}
use Rattle.std.proofs.Math.Option.{Option, some}
use Rattle.std.proofs.Math.Path.{sym, ap, subst}
use Rattle.std.proofs.Math.ListN.{drop, get_or}
use Rattle.node.specs.Result.{Done}
use Rattle.node.proofs.ResultLaws.{bind_at}
use Rattle.language.specs.Tokens.{Token}
use Rattle.language.specs.Tree.{Expr}
use Rattle.language.specs.Grammar.{Tokens, Read}
use Rattle.language.proofs.Laws.Basics.Lists.{All as Every}
use Rattle.language.proofs.Laws.Basics.Tests.{and_left, and_right}
use Rattle.entries.specs.Kinds as Kind
use Rattle.entries.specs.Flat.{Entry, under, flat}
use Rattle.entries.specs.Stored.{first_entry, entry_word, put_entry, Keeps}
use Rattle.entries.specs.declared.Cursor.{Cursor}
use Rattle.entries.specs.Cursors.{Fits, number_at, emitted_of}
use Rattle.entries.specs.CursorLaws.{before-end}
use Rattle.entries.specs.Reads.{Outcome}
use Rattle.entries.specs.ReadsLaws.{kept_same, kept_put}
use Rattle.operators.specs.Fields.{level_bits}
use Rattle.expressions.specs.declared.stack.Machine.{Machine}
use Rattle.expressions.specs.declared.stack.Turn.TheVariants.{Next, Ended}
use Rattle.operators.specs.Readers.{climbs}
use Rattle.expressions.specs.Classes.{Class, Right, Sole, Stepped, Within, Cons, Over, Round, Bars, Square, Last, All, Count, Low, High, One, Two, More, Bound, Upper, Member, class_number, classes}
use Rattle.expressions.specs.Frames.{Frame, turned, resume, plug}
use Rattle.expressions.specs.Stack.{slot_index, slot_class, top_slot, Slot, SlotsAt, Stacked, Rooted, start_of, Trees}
use Rattle.expressions.specs.StackLaws.{slot_class_lem, slot_level_lem, slot_index_lem, stacked_apart, stacked_few, stacked_less, stacked_pop, stacked_emit}
use Rattle.expressions.specs.Machines.{Tops}
use Rattle.expressions.specs.States.{slot, slots_by, slots_of, trees_by, behind, base, Firm, credit_by, credits, Turned}
use Rattle.expressions.specs.Complete.{Complete, Builds, built_of, built_in}
use Rattle.expressions.specs.SpanLaws.{behind-append, spans}

-- the class of a number
class_of : (c : Class) → get_or (Right ∷ classes) (class_number c) Right ≡ c
class_of Right = refl
class_of Sole = refl
class_of Stepped = refl
class_of Within = refl
class_of Cons = refl
class_of Over = refl
class_of Round = refl
class_of Bars = refl
class_of Square = refl
class_of Last = refl
class_of All = refl
class_of Count = refl
class_of Low = refl
class_of High = refl
class_of One = refl
class_of Two = refl
class_of More = refl
class_of Bound = refl
class_of Upper = refl
class_of Member = refl

-- numbers go from 1 to the last class's
numbered : (c : Class) → (ltb 0 (class_number c) && leb (class_number c) (class_number Member)) ≡ true
numbered Right = refl
numbered Sole = refl
numbered Stepped = refl
numbered Within = refl
numbered Cons = refl
numbered Over = refl
numbered Round = refl
numbered Bars = refl
numbered Square = refl
numbered Last = refl
numbered All = refl
numbered Count = refl
numbered Low = refl
numbered High = refl
numbered One = refl
numbered Two = refl
numbered More = refl
numbered Bound = refl
numbered Upper = refl
numbered Member = refl

number_some : (c : Class) → 0 < class_number c
number_some c = ltb-true 0 (class_number c) (and_left (ltb 0 (class_number c)) (leb (class_number c) (class_number Member)) (numbered c))

number_few : (c : Class) → class_number c ≤ class_number Member
number_few c = leb-true (class_number c) (class_number Member) (and_right (ltb 0 (class_number c)) (leb (class_number c) (class_number Member)) (numbered c))

-- the last frame F, and those before it
pub record Popping (ts : Tokens) (s : Cursor) (x : Read Expr) (w : List ℕ) (m : Machine) (F : Frame) (Gs : List Frame) : Type 0 where
  pub tree : Expr
  pub rooted : Rooted (flat tree)
  pub firm_top : Firm F
  pub firm : Every Firm Gs
  pub stacked : Stacked ts s w m.c m.depth (slots_by (class_number F.class) F ++ slots_of Gs) (behind (base Gs) (trees_by F.class F) ++ flat tree) (credit_by F.class + credits Gs)
  pub same : x ≡ plug Gs (resume F tree (drop m.c.at ts))

-- a frame has a last slot, which has its class
top-class : (w : List ℕ) (ts : Tokens) (depth n : ℕ) (F : Frame) (slots : List Slot) → SlotsAt w ts depth (slots_by n F ++ slots) → (0 < depth) × (slot_class (top_slot w depth) ≡ n)
top-class w ts depth n F slots h = go (eqb n (class_number Upper)) (eqb n (class_number Member)) refl refl h
  where
    go : (a b : Bool) → eqb n (class_number Upper) ≡ a → eqb n (class_number Member) ≡ b
        → SlotsAt w ts depth (elim a [
          | true ↦ slot (class_number Upper) 0 F.low (F.name ∷ F.high ∷ []) ∷ slot (class_number Over) F.level F.token [] ∷ []
          | false ↦ elim b
              [ true ↦ slot (class_number Member) 0 F.name [] ∷ slot (class_number Over) F.level F.token [] ∷ [] | false ↦ slot n F.level F.token [] ∷ [] ]
        ] ++ slots)
        → (0 < depth) × (slot_class (top_slot w depth) ≡ n)
    go true b p q g = (g.0.deep, slot_class_lem g.0 ∙ sym (eqb-true n (class_number Upper) p))
    go false true p q g = (g.0.deep, slot_class_lem g.0 ∙ sym (eqb-true n (class_number Member) q))
    go false false p q g = (g.0.deep, slot_class_lem g.0)

module _ {ts : Tokens} {s : Cursor} {x : Read Expr} {w : List ℕ} {m : Machine} (h : Complete ts s x w m) where
  -- no frame is left
  pub turn_done : m.depth ≡ 0 → Turned ts s x w w m (Ended (Ok m.c))
  unfolding plug
  turn_done e = go h.frames h.stacked h.same
    where
      go : (Fs : List Frame) → Stacked ts s w m.c m.depth (slots_of Fs) (base Fs ++ flat h.tree) (credits Fs) → x ≡ plug Fs (Done (h.tree, drop m.c.at ts))
          → Turned ts s x w w m (Ended (Ok m.c))
      go [] st same =
          record {
            kept = kept_same w s.out;
            after =
                subst (λ y. Outcome ts w s flat y (Ok m.c)) (sym same)
                (record {
                  cursor = m.c;
                  parsed = refl;
                  left = refl;
                  took =
                      record {
                        entries = st.entries;
                        out = st.out;
                        ready = st.ready;
                        onward = record { count = st.count; end = st.end; further = st.further; slack = omega (arith, st.room) };
                      };
                });
          }
      go (F ∷ Fs) st same = let d = (top-class w ts m.depth (class_number F.class) F (slots_of Fs) st.slots_at).0 in absurd (omega arith)

  pub complete_tops : (m.depth ≡ 0 → ⊥) → Tops w m
  complete_tops d =
      let apart = stacked_apart h.stacked in
      let few = stacked_few h.stacked in
      record { room = h.stacked.ready.fits.room; some = omega arith; deep = omega arith }

  -- the last slot has the number of a class
  of_class : (P : ℕ → Type 0) → ((c : Class) → P (class_number c)) → 0 < m.depth → P (slot_class (top_slot w m.depth))
  of_class P all deep = go h.frames h.stacked
    where
      go : (Fs : List Frame) → Stacked ts s w m.c m.depth (slots_of Fs) (base Fs ++ flat h.tree) (credits Fs) → P (slot_class (top_slot w m.depth))
      go [] st = absurd (let d = st.slots_at in omega arith)
      go (F ∷ Fs) st = subst P (sym (top-class w ts m.depth (class_number F.class) F (slots_of Fs) st.slots_at).1) (all F.class)

  pub class_some : 0 < m.depth → 0 < slot_class (top_slot w m.depth)
  class_some deep = of_class (λ n. 0 < n) number_some deep

  pub class_few : 0 < m.depth → slot_class (top_slot w m.depth) ≤ class_number Member
  class_few deep = of_class (λ n. n ≤ class_number Member) number_few deep

  -- a sign stands at the cursor
  pub sign-inside : (k : ℕ) → number_at w m.c ≡ k → 0 < k → m.c.at < m.c.count
  sign-inside k e l = before-end w m.c (omega arith)

  pub complete-fits : Fits w m.c
  complete-fits = h.stacked.ready.fits

  -- the last frame has the class of the last slot
  pub popping : (K : Class) → 0 < m.depth → slot_class (top_slot w m.depth) ≡ class_number K → (F : Frame) × (Gs : List Frame) × Popping ts s x w m (turned K F) Gs
  unfolding plug
  popping K deep e = go h.frames h.firm h.stacked h.same
    where
      go : (Fs : List Frame) → Every Firm Fs → Stacked ts s w m.c m.depth (slots_of Fs) (base Fs ++ flat h.tree) (credits Fs) → x ≡ plug Fs (Done (h.tree, drop m.c.at ts))
          → (F : Frame) × (Gs : List Frame) × Popping ts s x w m (turned K F) Gs
      go [] f st same = absurd (let d = st.slots_at in omega arith)
      go (F ∷ Fs) f st same =
          let number : class_number F.class ≡ class_number K = sym (top-class w ts m.depth (class_number F.class) F (slots_of Fs) st.slots_at).1 ∙ e in
          let is : F.class ≡ K = sym (class_of F.class) ∙ ap (λ n. get_or (Right ∷ classes) n Right) number ∙ class_of K in
          let whole : Popping ts s x w m (turned F.class F) Fs =
          record { tree = h.tree; rooted = h.rooted; firm_top = f.0; firm = f.1; stacked = st; same = same ∙ ap (plug Fs) (bind_at (h.tree, drop m.c.at ts) _) } in
          (F, Fs, subst (λ k. Popping ts s x w m (turned k F) Fs) is whole)

-- the tree of a frame of one slot is complete at the cursor d
module _ {ts : Tokens} {s : Cursor} (x : Read Expr) {w : List ℕ} (m : Machine) (cls lev : ℕ) (tok : Token) (css : List (List Entry)) (firm-css : Every Rooted css) (Gs : List Frame)
    (firm : Every Firm Gs) (tree : Expr) (rooted : Rooted (flat tree))
    (d : Cursor) (n : ℕ) (at-d : Stacked ts s w d m.depth (slot cls lev tok [] ∷ slots_of Gs) (behind (base Gs) css ++ flat tree) n)
    (e : Expr) (kind : ℕ) (small : kind < Kind.limit) (t : Option Token) (made : flat e ≡ under kind t (behind [] css ++ flat tree))
  where
    abbrev count : ℕ
    count = suc (length css)

    spanned : Trees w d.out count × (start_of w d.out count ≡ s.out + length (base Gs))
    spanned = spans w ts s.out d.out (base Gs) css (flat tree) firm-css rooted at-d.out at-d.entries

    pub builds : Builds w m d kind count
    builds =
        let apart = stacked_apart at-d in
        let few = stacked_few at-d in
        let deep = at-d.slots_at.0.deep in
        let below = spanned.1 in
        let l = length-append (base Gs) (behind [] css ++ flat tree) in
        record { room = at-d.ready.fits.room; some_slot = deep; deep = omega arith; few = omega arith; kind_fits = small; trees = spanned.0; begins = begins }
      where
        begins : start_of w d.out count ≤ d.out
        begins =
            let below = spanned.1 in
            let all = at-d.out in
            let l = length-append (behind (base Gs) css) (flat tree) in
            let b = ap length (behind-append (base Gs) css) in
            let c = length-append (base Gs) (behind [] css) in
            omega arith

    module _ (keeps : (j : ℕ) → Keeps ts j (some tok) → Keeps ts j t) (less : 0 + credits Gs ≤ n) (onward : m.c.at ≤ d.at) (counted : m.c.count ≡ s.count) (grew : m.c.out ≤ d.out)
        (same : x ≡ plug Gs (climbs lev e (drop d.at ts))) where
      pub turn-built : Turned ts s x w (built_in w m d kind count) m (Next (built_of w m d))
      turn-built =
          let top = at-d.slots_at.0 in
          let j = top.index in
          let size : 1 + (d.out - start_of w d.out count) ≡ suc (length (behind [] css ++ flat tree)) =
          (let below = spanned.1 in
          let all = at-d.out in
          let l = length-append (behind (base Gs) css) (flat tree) in
          let b = ap length (behind-append (base Gs) css) in
          let c = length-append (base Gs) (behind [] css) in
          let q = length-append (behind [] css) (flat tree) in
          omega arith) in
          let apart = stacked_apart at-d in
          let few = stacked_few at-d in
          let begins = builds.begins in
          let popped = stacked_pop at-d (slot cls lev tok []) (slots_of Gs) refl in
          let level = slot_level_lem top in
          let written = stacked_emit popped kind j (1 + (d.out - start_of w d.out count)) t (keeps j top.tokens.0) small top.index-fits (omega (arith, at-d.out)) in
          let own : List Entry = record { kind = kind; token = t; size = suc (length (behind [] css ++ flat tree)) } ∷ [] in
          let entries-same : (behind (base Gs) css ++ flat tree) ++ own ≡ base Gs ++ flat e =
          ap (λ l. (l ++ flat tree) ++ own) (behind-append (base Gs) css) ∙ ap (λ l. l ++ own) (append_assoc (base Gs) (behind [] css) (flat tree))
          ∙ append_assoc (base Gs) (behind [] css ++ flat tree) own ∙ ap (λ l. base Gs ++ l) (sym made) in
          let v = built_in w m d kind count in
          let k = kept_put w s.out (first_entry + d.out) (entry_word kind (slot_index (top_slot w m.depth)) (1 + (d.out - start_of w d.out count))) (omega (arith, at-d.out)) (omega arith) in
          record {
            kept = k;
            after =
                record {
                  state =
                      record {
                        frames = Gs;
                        tree = e;
                        mode = refl;
                        good = (kind, t, behind [] css ++ flat tree, made);
                        level_fits = subst (λ l. l < 2 ^ level_bits) (sym level) top.level_fits;
                        firm = firm;
                        stacked =
                            subst (λ i. Stacked ts s (put_entry w d.out kind i (1 + (d.out - start_of w d.out count))) (emitted_of d) (m.depth - 1) (slots_of Gs) (base Gs ++ flat e) (credits Gs))
                            (sym (slot_index_lem top))
                            (subst (λ es. Stacked ts s (put_entry w d.out kind j (1 + (d.out - start_of w d.out count))) (emitted_of d) (m.depth - 1) (slots_of Gs) es (credits Gs))
                            (ap (λ z. (behind (base Gs) css ++ flat tree) ++ (record { kind = kind; token = t; size = z } ∷ [])) size ∙ entries-same)
                            (stacked_less written (credits Gs) (omega arith)));
                        same = same ∙ ap (λ l. plug Gs (climbs l e (drop d.at ts))) (sym level);
                      };
                  lighter = omega (arith, at-d.count, counted, at-d.ready.fits.inside, top.deep, grew);
                };
          }

-- A set is folded: the answer where no element is left, else the operand is worked out at the next one while the frame holds the set.
use Rattle.std.specs.Prelude.{ℕ, suc, ◌+◌, ◌-◌, ◌*◌, ◌≤◌, ◌<◌, ◌^◌, List, [], ◌≡◌, refl, length, get_or, drop, Ok}
use Rattle.std.proofs.Common.{sym, ap, ◌∙◌, subst, arith}
use Rattle.node.specs.Result.{Result}
use Rattle.machine.specs.declared.Move.TheVariants.{Next}
use Rattle.machine.specs.Stepped.{Stepped}
use Rattle.language.specs.Tokens.{Token}
use Rattle.language.specs.Operators.{Big}
use Rattle.language.specs.Tree.{Expr}
use Rattle.language.specs.Values.{Value, Set}
use Rattle.language.specs.Expansion.{Context}
use Rattle.operands.specs.Working.{Source}
use Rattle.memory_sets.specs.Places.{Outside}
use Rattle.memory_sets.specs.PlaceLaws.{outside-both, outside-within}
use Rattle.machine.specs.Fields.{entry_field, base_field, at_field, count_field}
use Rattle.machine.specs.Phases as Phase
use Rattle.machine.specs.Came.{Evaluate, Came, Worth}
use Rattle.machine.specs.Frames.{Frame, NextSet, onward_sets, apply}
use Rattle.machine.specs.Realm.{Realm}
use Rattle.machine.specs.Operators.{Folds, OpAt}
use Rattle.machine.specs.Memory.{first_kept, free_word, frame_words, set_words, free_of, Held, Lies, kept_set, value as placed, in_kept, on_top, Agree}
use Rattle.machine.specs.MemoryLaws.{held_kept, lies_more, agree-from, word_of}
use Rattle.machine.specs.Notes.{Noted, Lasting}
use Rattle.machine.specs.NoteLaws.{noted_kept, lasting_kept}
use Rattle.machine.specs.SetLaws.{held_word, held_words}
use Rattle.machine.specs.Holding.{holding, turning}
use Rattle.machine.specs.Telling.{Fine}
use Rattle.machine.specs.Table.{Began}
use Rattle.machine.specs.Cost.{turns}
use Rattle.machine.specs.Stack.{EachOf, OfSets, HoldsRest}
use Rattle.machine.specs.States.{mode_of, Turned, TopOf}
use Rattle.machine.specs.TakeLaws.{words, room-under}
use Rattle.machine.specs.declared.Machine.{Machine}
use Rattle.fold_steps.specs.Turning.{Turns, words_at, next_at}
use Rattle.fold_steps.specs.ElementLaws.{split, no_element}
use Rattle.fold_steps.specs.ContinueLaws.{continues, ends, turning-depth, turning_held, turning_lies, turning-count, turning-laid}
use Rattle.fold_steps.specs.SetFolds.{fold_end, fold_more}
use Rattle.fold_steps.specs.FoldPlaces.{lies_to, Room, room-behind, Rests, kept, high}
use Rattle.fold_steps.specs.FoldingSets.{Behind, Foldable, Onward, kept_end, low_end, kept_on, low_on}

module _ {s : Source} {R : Realm s} {mem out : List ℕ} {m : Machine} {x : Result Came} {o : Began} {F : Frame} (h : TopOf R mem out m x o F) {phase : ℕ} {l fold : List ℕ} (f : holding F ≡ turning phase l fold []) where
  -- numbers that all of this goes by
  pub record Limits : Type 0 where
    pub base-low : (words h).base ≤ m.top
    pub top-high : m.top + 2 * set_words ≤ m.frames
    pub wide : (words h).base + 4 * set_words ≤ m.frames
    pub free : suc (free_of mem) ≤ (words h).base
    pub first : first_kept ≤ (words h).base
    pub deep : suc h.footing.depth ≤ (words h).base
    pub fits : m.frames + frame_words ≤ length mem
    pub bound : m.depth ≡ h.footing.depth + 1

  pub limits : Limits
  limits =
      let u1 = (room-under h).values in
      let u2 = (room-under h).first in
      let n0 = h.noted.first in
      let n1 = h.noted.within in
      let n2 = h.noted.ascending in
      let sl = h.at.slots in
      let lo = h.at.lower in
      let hi = h.at.high in
      let ro = h.at.room in
      let en = h.at.enough in
      record {
        base-low = lo;
        top-high = omega arith;
        wide = omega arith;
        free = omega arith;
        first = omega arith;
        deep = omega arith;
        fits = h.at.inside;
        bound = turning-depth h f;
      }

  -- what stays where only words from the frame's base on, below the frames, are written
  record Keeps (mem₂ : List ℕ) : Type 0 where
    words-kept : drop m.frames mem₂ ≡ drop m.frames mem
    free : free_of mem₂ ≡ free_of mem
    agree : Agree o.regions mem mem₂ h.footing.depth (words h).base (m.frames + frame_words)
    noted : Noted R o.regions o.index mem₂
    lasting : Lasting R.W mem₂ out m.nodes

  keeps : {mem₂ : List ℕ} → Outside mem mem₂ (words h).base (m.frames - (words h).base) → Keeps mem₂
  keeps {mem₂} k =
      let z = limits in
      let z1 = z.base-low in
      let z2 = z.top-high in
      let z3 = z.free in
      let z4 = z.first in
      let z5 = z.deep in
      record {
        words-kept = k.above m.frames (omega arith);
        free = k.below free_word (omega arith);
        agree = agree-from mem mem₂ (words h).base h.footing.depth (words h).base (m.frames + frame_words) k.len k.below (k.above (m.frames + frame_words) (omega arith)) z4 (omega arith) (omega arith) (omega arith);
        noted = noted_kept mem mem₂ (words h).base k.below z4 (omega arith) h.noted;
        lasting = lasting_kept mem mem₂ (words h).base k.below z4 (omega arith) h.lasting;
      }

  -- l is left; a, of n elements, was folded before, and stands at `from` in mem₀
  pub record Folding (p : ℕ) (op : Big) (c : Context) (i : Token) (e : Expr) (a mem₀ : List ℕ) (from n : ℕ) : Type 0 where
    pub value-came : Value
    pub came-is : h.came ≡ Worth value-came
    pub same : apply F h.came ≡ onward_sets p op c i e l a
    pub rest : HoldsRest (words h) l
    pub fine : Fine a
    pub size : n ≡ length a
    pub held : Held mem₀ from a
    pub place : Rests (free_of mem) m.top m.frames from n
    pub kept : Outside mem mem₀ m.top (m.frames - m.top)
    pub here : OpAt s (words h).entry (Folds op) p
    pub each : EachOf R h.footing c i e
    pub sets : OfSets op
    pub fewer : (count : ℕ) → turns Phase.next_set count < turns phase (suc count)

  module _ {p : ℕ} {op : Big} {c : Context} {i : Token} {e : Expr} {a mem₀ : List ℕ} {from n : ℕ} (b : Folding p op c i e a mem₀ from n) where
    -- the frame's words in mem₀
    same-words : drop m.frames mem₀ ≡ drop m.frames mem
    same-words = let z1 = limits.base-low in let z2 = limits.top-high in b.kept.above m.frames (omega arith)

    entry₀ : get_or mem₀ (m.frames + entry_field) 0 ≡ (words h).entry
    entry₀ = word_of mem₀ m.frames 1 (same-words ∙ h.at.words)

    base₀ : get_or mem₀ (m.frames + base_field) 0 ≡ (words h).base
    base₀ = word_of mem₀ m.frames 2 (same-words ∙ h.at.words)

    at₀ : get_or mem₀ (m.frames + at_field) 0 ≡ (words h).at
    at₀ = word_of mem₀ m.frames 3 (same-words ∙ h.at.words)

    count₀ : get_or mem₀ (m.frames + count_field) 0 ≡ length l
    count₀ = word_of mem₀ m.frames 4 (same-words ∙ h.at.words) ∙ turning-count h f

    -- a kept set lies below the frame's base, another one above the values
    rests-kept : from < (words h).base → (first_kept ≤ from) × (from + n ≤ free_of mem)
    rests-kept q = go b.place
      where
        go : Rests (free_of mem) m.top m.frames from n → (first_kept ≤ from) × (from + n ≤ free_of mem)
        go (kept u v) = (u, v)
        go (high u v) = let z = limits.base-low in absurd (omega arith)

    rests-high : (words h).base ≤ from → m.top ≤ from
    rests-high q = go b.place
      where
        go : Rests (free_of mem) m.top m.frames from n → m.top ≤ from
        go (kept u v) = let z = limits.free in absurd (omega arith)
        go (high u v) = u

    rests-fits : from + n ≤ m.frames
    rests-fits = go b.place
      where
        go : Rests (free_of mem) m.top m.frames from n → from + n ≤ m.frames
        go (kept u v) = let z = limits.free in let y = limits.base-low in let q = limits.top-high in omega arith
        go (high u v) = v

    outside₀ : Outside mem mem₀ (words h).base (m.frames - (words h).base)
    outside₀ = let z1 = limits.base-low in let z2 = limits.top-high in outside-within z1 (omega arith) b.kept

    -- the place behind the elements that are left
    behind : {low : ℕ} → 0 < get_or mem₀ (m.frames + count_field) 0
        → Behind (get_or mem₀ (m.frames + base_field) 0) (get_or mem₀ (m.frames + at_field) 0) (get_or mem₀ (m.frames + count_field) 0) low → Room (words h).base m.top (words h).at (length l) low
    behind {low} q g =
        let c0 = count₀ in
        let z1 = limits.free in
        room-behind (rw (base₀, at₀, count₀) at g) (omega arith) limits.base-low (omega arith) (turning_lies h f)

    pub foldable : length mem < 2 ^ 32 → Foldable mem₀ m from n
    foldable sm =
        let z1 = limits.base-low in
        let z2 = limits.top-high in
        let z3 = limits.fits in
        let z4 = limits.bound in
        let z5 = limits.deep in
        let le = b.kept.len in
        let e1 = entry₀ in
        let e2 = h.at.entry in
        let e3 = h.at.some in
        let b0 = base₀ in
        let a0 = at₀ in
        let c0 = count₀ in
        let fw = b.rest.fine.few in
        let nr = b.rest.near in
        let wi = limits.wide in
        record {
          inside = omega arith;
          small = omega arith;
          bound = omega arith;
          slot = omega arith;
          entry = omega arith;
          rest = λ q. omega arith;
          few = omega arith;
          fits = rests-fits;
          down = λ q low g u. let r = (behind q g).below_top in let y = rests-high (omega arith) in omega arith;
        }

    -- the set is held at `other` in mem₂, where the values end at `top`
    record Holding₂ (low other top : ℕ) (mem₂ : List ℕ) : Type 0 where
      outside : Outside mem mem₂ (words h).base (m.frames - (words h).base)
      some : 0 < length l
      room : Room (words h).base m.top (words h).at (length l) low
      below : (j : ℕ) → j < low → get_or mem₂ j 0 ≡ get_or mem j 0
      held : Held mem₂ other a
      lies : Lies (free_of mem) (words h).base top other (length a)
      lower : low ≤ top
      high : top ≤ low + n
      near : other ≤ (words h).base + set_words

    holds_on : {low other top : ℕ} {mem₂ mem' : List ℕ} {y : Machine} → Holding₂ low other top mem₂
        → Turns mem₂ mem' m (next_at (words_at mem₂ m.frames) Phase.next_set n other) (m.depth - 1) (get_or mem₂ (get_or mem₂ (m.frames + at_field) 0) 0) (mode_of Evaluate) top y → Turned R mem mem' out out m x o (Ok (Next y))
    holds_on {low} {other} {top} {mem₂} {mem'} {y} g t =
        let k = keeps g.outside in
        let r = g.room in
        let r1 = r.above-base in
        let r2 = r.above-rest in
        let r4 = r.near b.rest.near in
        let fr = k.free in
        let g1 = g.lower in
        let g2 = g.high in
        let sz = b.size in
        let fw = b.fine.few in
        let en = h.at.enough in
        let held-rest : Held mem₂ (words h).at l = held_kept mem mem₂ (words h).at l (λ j u v. g.below j (omega arith)) (turning_held h f) in
        let q = split mem₂ (words h).at l held-rest b.rest.fine g.some in
        let v = get_or mem₂ (words h).at 0 in
        let qs : length l ≡ suc (length q.rest) = ap length q.same in
        let nr = b.rest.near in
        continues h f {G = NextSet p op c i e a q.rest} {new = Phase.next_set} {value = n} {other = other} {fold' = a} {forms' = []} {a = Evaluate} {c = c} {i = i} {e = e} {mem₀ = mem₂} {out' = out} (record {
          words-kept = k.words-kept;
          agree = k.agree;
          some = q;
          framed = t.framed;
          next = t.next;
          is-turning = refl;
          lower = omega arith;
          high = omega arith;
          lies = lies_to (omega arith) (omega arith) (turning_lies h f);
          held_fold = g.held;
          lies_fold = lies_more (omega arith) g.lies;
          holds = (record { fine = q.fine; near = omega arith }, record { fine = b.fine; size = b.size; near = g.near });
          waits = (b.here, b.each, b.sets);
          each = b.each;
          laid = turning-laid h f b.came-is;
          few = h.few;
          noted = k.noted;
          lasting = k.lasting;
          fewer = b.fewer;
          kept = tt;
          same = b.same ∙ ap (λ (u : List ℕ). onward_sets p op c i e u a) q.same ∙ fold_more p op c i e v q.rest a;
        })

    pub folds_on : {mem' : List ℕ} (r : Stepped) → Onward mem₀ mem' m from n r → Turned R mem mem' out out m x o r
    folds_on {mem'} r (kept_end z lo em er) =
        let none = no_element l (sym count₀ ∙ z) in
        let k = keeps outside₀ in
        let b0 = base₀ in
        let rk = rests-kept (omega arith) in
        let fr = k.free in
        let sz = b.size in
        let k1 = rk.1 in
        subst (λ (u : List ℕ). Turned R mem u out out m x o r) (sym em) (subst (λ (u : Stepped). Turned R mem mem₀ out out m x o u) (sym er) (ends h f {v = Set a} (record {
          value-came = b.value-came;
          came-is = b.came-is;
          same = b.same ∙ ap (λ (u : List ℕ). onward_sets p op c i e u a) none ∙ fold_end p op c i e a;
          base-is = base₀;
          tells = record { mode_is = refl; count = b.size; fine = b.fine };
          stands = (b.held, in_kept rk.0 (omega arith));
          agree = k.agree;
          noted = k.noted;
          lasting = k.lasting;
        })))
    folds_on {mem'} r (low_end z lo g er) =
        let none = no_element l (sym count₀ ∙ z) in
        let z1 = limits.base-low in
        let z2 = limits.top-high in
        let b0 = base₀ in
        let rf = rests-fits in
        let sz = b.size in
        let k = keeps (outside-both outside₀ (outside-within (omega arith) (omega arith) g.kept)) in
        subst (λ (u : Stepped). Turned R mem mem' out out m x o u) (sym er) (ends h f {v = Set a} (record {
          value-came = b.value-came;
          came-is = b.came-is;
          same = b.same ∙ ap (λ (u : List ℕ). onward_sets p op c i e u a) none ∙ fold_end p op c i e a;
          base-is = base₀;
          tells = record { mode_is = refl; count = b.size; fine = b.fine };
          stands = (held_words mem' (get_or mem₀ (m.frames + base_field) 0) a (λ j u. g.words j (omega arith) ∙ held_word mem₀ from a b.held j u), on_top refl);
          agree = k.agree;
          noted = k.noted;
          lasting = k.lasting;
        }))
    folds_on {mem'} r (kept_on {low} {y} z g lo er t) =
        let b0 = base₀ in
        let c0 = count₀ in
        let rk = rests-kept (omega arith) in
        let k1 = rk.1 in
        let sz = b.size in
        let ro = behind z g in
        let r3 = ro.below_top in
        subst (λ (u : Stepped). Turned R mem mem' out out m x o u) (sym er) (holds_on {low = low} {other = from} {top = low} {mem₂ = mem₀} (record {
          outside = outside₀;
          some = omega arith;
          room = ro;
          below = λ j u. b.kept.below j (omega arith);
          held = b.held;
          lies = kept_set rk.0 (omega arith);
          lower = omega arith;
          high = omega arith;
          near = omega arith;
        }) t)
    folds_on {mem'} r (low_on {low} {y} {mem₁} z g lo q er t) =
        let b0 = base₀ in
        let c0 = count₀ in
        let z1 = limits.base-low in
        let z2 = limits.top-high in
        let rh = rests-high (omega arith) in
        let rf = rests-fits in
        let sz = b.size in
        let ro = behind z g in
        let r1 = ro.above-base in
        let r3 = ro.below_top in
        let r4 = ro.near b.rest.near in
        subst (λ (u : Stepped). Turned R mem mem' out out m x o u) (sym er) (holds_on {low = low} {other = low} {top = low + n} {mem₂ = mem₁} (record {
          outside = outside-both outside₀ (outside-within r1 (omega arith) q.kept);
          some = omega arith;
          room = ro;
          below = λ j u. q.kept.below j u ∙ b.kept.below j (omega arith);
          held = held_words mem₁ low a (λ j u. q.words j (omega arith) ∙ held_word mem₀ from a b.held j u);
          lies = placed r1 (omega arith);
          lower = omega arith;
          high = omega arith;
          near = r4;
        }) t)

-- An operator between two sets: its right operand, and the set that is made of both.
use Rattle.std.specs.Prelude.{ℕ, suc, ◌+◌, ◌≤◌, ◌<◌, List, ◌++◌, ◌≡◌, refl, length, get_or, take, drop, Ok, Err}
use Rattle.std.proofs.Common.{sym, ap, ap₂, ◌∙◌, subst, arith, add-zero, length-drop, length-take-le}
use Rattle.node.specs.Result.{Result, ◌>>=◌}
use Rattle.node.proofs.ResultLaws.{bind_at, bind_refused}
use Rattle.node.specs.Returned.{refusal}
use Rattle.machine.specs.declared.Move.TheVariants.{Next}
use Rattle.language.specs.Limits.{max_elements}
use Rattle.language.specs.Operators.{Combination, Combines}
use Rattle.language.specs.Sets.{combine}
use Rattle.language.specs.Values.{Set, limited}
use Rattle.language.proofs.Laws.Basics.Results.{value_of}
use Rattle.sets.specs.Operators.{combination}
use Rattle.operators.specs.Tables.{infix_code_at}
use Rattle.operands.specs.Entries.{place_at, number_at}
use Rattle.operands.specs.Working.{Source}
use Rattle.memory_sets.specs.Places.{Copied, elements_at, Two, SetAt}
use Rattle.memory_sets.specs.PlacedLaws.{words_of_lem, combine_sane}
use Rattle.machine.specs.Fields.{entry_field, base_field, at_field, count_field}
use Rattle.machine.specs.Phases as Phase
use Rattle.machine.specs.Came.{Came, Worth, worth}
use Rattle.machine.specs.Frames.{RightSet, apply}
use Rattle.machine.specs.Realm.{Realm}
use Rattle.machine.specs.Operators.{Between, OpAt}
use Rattle.machine.specs.OperatorLaws.{op_combination}
use Rattle.machine.specs.Memory.{first_kept, frame_words, free_of, Held, on_top}
use Rattle.machine.specs.MemoryLaws.{agree-from}
use Rattle.machine.specs.NoteLaws.{noted_kept, lasting_kept}
use Rattle.machine.specs.SetLaws.{above_from, above_most, sits_below, sits_low, lies_under, held_words}
use Rattle.machine.specs.Moves.{above}
use Rattle.machine.specs.Telling.{is_set}
use Rattle.machine.specs.Table.{Began}
use Rattle.machine.specs.TableLaws.{laid_as}
use Rattle.machine.specs.Holding.{forms_of}
use Rattle.machine.specs.States.{written, TopOf, Topped, Takes}
use Rattle.machine.specs.ComeLaws.{IsSet, came-set}
use Rattle.machine.specs.FrameViews.{by_phase}
use Rattle.machine.specs.TakeLaws.{words, entry_word_lem, base_word, at-word, count_word, room-under, refuses-late, pops, top-phase, top_as}
use Rattle.machine.specs.declared.Machine.{Machine}
use Rattle.machine.specs.Entering.{Waiting}
use Rattle.value_steps.specs.PlacedLaws.{elements_are, placed}
use Rattle.value_steps.specs.Moves.{made-set}

-- the right operand has come: both sets, and the place behind them
module _ {s : Source} {mem : List ℕ} {m : Machine} (w : Waiting mem m Phase.right_set) (e : m.mode ≡ is_set) where
  module _ {R : Realm s} {out : List ℕ} {x : Result Came} {o : Began} {p : ℕ} {op : Combination} {l : List ℕ} (h : TopOf R mem out m x o (RightSet p op l)) where
    right : IsSet mem m h.came
    right = came-set R o mem m h.came h.come e

    -- numbers that all of this goes by
    record Limits : Type 0 where
      to_low : m.top ≤ above m
      to_high : above m + suc max_elements ≤ m.frames
      base-low : (words h).base ≤ m.top
      first-kept : free_of mem ≤ (words h).base
      left_near : (words h).at ≤ (words h).base
      right_near : m.from ≤ m.top
      fits : m.frames + frame_words ≤ length mem
      deep : h.footing.depth ≤ (words h).base
      start : first_kept ≤ (words h).base

    limits : Limits
    limits =
        let u = room-under h in
        let u1 = u.values in
        let u2 = u.slots in
        let n0 = h.noted.first in
        let n1 = h.noted.within in
        let n2 = h.noted.ascending in
        let lo = h.at.lower in
        let hi = h.at.high in
        let ro = h.at.room in
        let am = above_most m in
        let sz = right.count in
        let fw = right.fine.few in
        let lw = sits_low m (omega arith) right.sits in
        let nr = h.at.holds.near in
        record {
          to_low = above_from m;
          to_high = omega arith;
          base-low = lo;
          first-kept = omega arith;
          left_near = nr;
          right_near = lw;
          fits = h.at.inside;
          deep = omega arith;
          start = omega arith;
        }

    module _ {la lc : ℕ} (ea : la ≡ (words h).at) (ec : lc ≡ (words h).count) where
      left-held : Held mem la l
      left-held = subst (λ (i : ℕ). Held mem i l) (sym ea) h.at.held

      left-elements : elements_at mem (record { at = la; count = lc }) ≡ l
      left-elements =
          let z = limits in
          let z1 = z.left_near in
          let z2 = z.base-low in
          let z3 = z.to_low in
          let z4 = z.to_high in
          let z5 = z.fits in
          elements_are mem (record { at = la; count = lc }) l left-held (ec ∙ h.at.counted) h.at.holds.fine (omega arith)

      right-elements : elements_at mem (record { at = m.from; count = m.value }) ≡ right.set
      right-elements =
          let z = limits in
          let z1 = z.right_near in
          let z3 = z.to_low in
          let z4 = z.to_high in
          let z5 = z.fits in
          elements_are mem (record { at = m.from; count = m.value }) right.set right.held right.count right.fine (omega arith)

      both : Two mem (record { at = la; count = lc }) (record { at = m.from; count = m.value }) (above m)
      both =
          let z = limits in
          let z1 = z.left_near in
          let z2 = z.base-low in
          let z3 = z.to_low in
          let z4 = z.to_high in
          let z5 = z.fits in
          let z6 = z.right_near in
          let z7 = z.first-kept in
          let lu = lies_under (omega arith) (omega arith) h.at.lies in
          let cn = h.at.counted in
          let rb = sits_below m right.count (omega arith) right.sits in
          let rc = right.count in
          record {
            left = placed mem (record { at = la; count = lc }) l left-held (ec ∙ h.at.counted) h.at.holds.fine (omega arith);
            right = placed mem (record { at = m.from; count = m.value }) right.set right.held right.count right.fine (omega arith);
            left_below = omega arith;
            right_below = omega arith;
            room = record { room = omega arith };
          }

      -- what the definition makes of them
      joined : {r : Result (List ℕ)} → limited p (combine op (elements_at mem (record { at = la; count = lc })) (elements_at mem (record { at = m.from; count = m.value }))) ≡ r
          → apply (RightSet p op l) h.came ≡ (r >>= λ y. worth (Set y))
      joined q = ap (apply (RightSet p op l)) right.same ∙ bind_at right.set (λ n. limited p (combine op l n) >>= λ y. worth (Set y))
          ∙ ap (λ y. y >>= λ y. worth (Set y)) (ap₂ (λ (a b : List ℕ). limited p (combine op a b)) (sym left-elements) (sym right-elements) ∙ q)

-- the frame's words as the code reads them
pub record Reads (s : Source) (mem : List ℕ) (m : Machine) (k base la lc to i p : ℕ) : Type 0 where
  pub entry : k ≡ get_or mem (m.frames + entry_field) 0
  pub base-is : base ≡ get_or mem (m.frames + base_field) 0
  pub left_at : la ≡ get_or mem (m.frames + at_field) 0
  pub left-count : lc ≡ get_or mem (m.frames + count_field) 0
  pub to_is : to ≡ above m
  pub operator : i ≡ infix_code_at (number_at s.work k)
  pub place : p ≡ place_at s.work k

-- where the result goes
pub record Lowers (mem : List ℕ) (base to n : ℕ) : Type 0 where
  pub down : base ≤ to
  pub inside : to + n ≤ length mem

-- what the two sets come to
abbrev pub answer : List ℕ → Machine → (la lc i p : ℕ) → Result (List ℕ)
answer mem m la lc i p = limited p (combine (combination i) (elements_at mem (record { at = la; count = lc })) (elements_at mem (record { at = m.from; count = m.value })))

-- a frame of this phase
module _ {s : Source} {mem : List ℕ} {m : Machine} (w : Waiting mem m Phase.right_set) where
  module _ (e : m.mode ≡ is_set) where
    pub right-two : Topped s mem m → {la lc to : ℕ} → la ≡ get_or mem (m.frames + at_field) 0 → lc ≡ get_or mem (m.frames + count_field) 0 → to ≡ above m
        → Two mem (record { at = la; count = lc }) (record { at = m.from; count = m.value }) to
    right-two t {la} {lc} ea ec et =
        let v = by_phase t.top.frame Phase.right_set (top-phase t.top ∙ w.phase) in
        let h = top_as t.top v.3 in
        subst (Two mem (record { at = la; count = lc }) (record { at = m.from; count = m.value })) (sym et) (both w e h (ea ∙ at-word h) (ec ∙ count_word h))

    pub right-lowers : Topped s mem m → {base to n : ℕ} → base ≡ get_or mem (m.frames + base_field) 0 → to ≡ above m → n ≤ max_elements → Lowers mem base to n
    right-lowers t eb et l =
        let v = by_phase t.top.frame Phase.right_set (top-phase t.top ∙ w.phase) in
        let h = top_as t.top v.3 in
        let z = limits w e h in
        let z1 = z.base-low in
        let z2 = z.to_low in
        let z3 = z.to_high in
        let z4 = z.fits in
        let b = base_word h in
        record { down = omega arith; inside = omega arith }

    module _ {k base la lc to i p : ℕ} (q : Reads s mem m k base la lc to i p) where
      module _ {R : Realm s} {out : List ℕ} {x : Result Came} {o : Began} {pl : ℕ} {op : Combination} {l : List ℕ} (h : TopOf R mem out m x o (RightSet pl op l)) where
        at : OpAt s k (Between (Combines op)) pl
        at = subst (λ (j : ℕ). OpAt s j (Between (Combines op)) pl) (sym (q.entry ∙ entry_word_lem h)) h.at.waits

        as-defined : answer mem m la lc i p ≡ limited pl (combine op (elements_at mem (record { at = la; count = lc })) (elements_at mem (record { at = m.from; count = m.value })))
        as-defined = ap₂ (λ (j : ℕ) (y : Combination). limited j (combine y (elements_at mem (record { at = la; count = lc })) (elements_at mem (record { at = m.from; count = m.value }))))
            (q.place ∙ at.place) (ap combination q.operator ∙ op_combination at)

        comes-to : {r : Result (List ℕ)} → r ≡ answer mem m la lc i p → apply (RightSet pl op l) h.came ≡ (r >>= λ y. worth (Set y))
        comes-to g = joined w e h (q.left_at ∙ at-word h) (q.left-count ∙ count_word h) (sym as-defined ∙ sym g)

      pub right-refuses : {mem₁ : List ℕ} {number place : ℕ} → SetAt mem mem₁ to (Err (refusal number place)) (answer mem m la lc i p) → Takes s mem mem₁ m (Err (refusal number place))
      right-refuses g = record {
        turns = λ R x o out t.
            let v = by_phase t.frame Phase.right_set (top-phase t ∙ w.phase) in
            let h = top_as t v.3 in
            refuses-late h g.kept.len (comes-to h g.set.says ∙ bind_refused _ _ _ _ refl);
      }

      pub right-makes : {mem₁ mem₂ : List ℕ} {n : ℕ} → SetAt mem mem₁ to (Ok n) (answer mem m la lc i p) → Copied mem₁ to mem₁ mem₂ base n → Takes s mem mem₂ m (Ok (Next (made-set m n base)))
      right-makes {mem₁} {mem₂} {n} g c = record {
        turns = λ R x o out t.
            let v = by_phase t.frame Phase.right_set (top-phase t ∙ w.phase) in
            let h = top_as t v.3 in
            let z = limits w e h in
            let z1 = z.base-low in
            let z2 = z.to_low in
            let z3 = z.to_high in
            let z4 = z.fits in
            let z5 = z.first-kept in
            let z6 = z.start in
            let z7 = z.deep in
            let et = q.to_is in
            let eb : base ≡ (words h).base = q.base-is ∙ base_word h in
            let two = both w e h (q.left_at ∙ at-word h) (q.left-count ∙ count_word h) in
            let l = take n (drop to mem₁) in
            let few = g.set.few in
            let sane = value_of (sym g.set.says) (combine_sane p (combination i) two) in
            let len : length l ≡ n = length-take-le n (drop to mem₁) (let d = length-drop to mem₁ in let y = g.kept.len in omega arith) in
            let below : (j : ℕ) → j < (words h).base → get_or mem₂ j 0 ≡ get_or mem j 0 = λ j y. c.kept.below j (omega arith) ∙ g.kept.below j (omega arith) in
            let whole : length mem₂ ≡ length mem = c.kept.len ∙ g.kept.len in
            let rest : drop (m.frames + frame_words) mem₂ ≡ drop (m.frames + frame_words) mem = c.kept.above (m.frames + frame_words) (omega arith) ∙ g.kept.above (m.frames + frame_words) (omega arith) in
            pops h {v = Worth (Set l)} (record {
              same = comes-to h g.set.says ∙ bind_at l (λ y. worth (Set y));
              come = record {
                tells = record { mode_is = refl; count = sym len; fine = record { few = omega arith; ordered = sane.0 } };
                stands = (held_words mem₂ base l (λ j y. c.words j (omega arith) ∙ words_of_lem mem₁ (record { at = to; count = n }) l refl j y), on_top refl);
              };
              scope_is = h.at.scoped;
              depth_is = h.at.deep ∙ add-zero h.footing.depth;
              top-is = eb;
              frames-is = refl;
              agree = agree-from mem mem₂ (words h).base h.footing.depth (words h).base (m.frames + frame_words) whole below rest z6 z5 z7 (omega arith);
              laid = laid_as (ap (λ (y : Came). written m.nodes y ++ forms_of h.rest) (right w e h).same) h.laid;
              few = h.few;
              noted = noted_kept mem mem₂ (words h).base below z6 z5 h.noted;
              lasting = lasting_kept mem mem₂ (words h).base below z6 z5 h.lasting;
            });
      }

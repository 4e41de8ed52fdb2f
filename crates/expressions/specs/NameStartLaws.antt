-- A complete expression that is the set of a big operator's name, or its high bound: what a step asks for is there, and where it leads.
use Rattle.std.specs.Prelude.{ℕ, suc, ◌+◌, ◌-◌, ◌<◌, List, [], ◌∷◌, ◌++◌, Bool, true, false, ◌≡◌, refl}
use Rattle.std.proofs.Common.{arith, sym, ap, ◌∙◌, subst, lit<}
use Rattle.std.proofs.Math.Option.{some}
use Rattle.words.specs.Words.{word_at}
use Rattle.language.specs.Tree.{Expr, Between}
use Rattle.language.specs.Grammar.{Tokens, Read}
use Rattle.language.specs.Limits.{max_tokens}
use Rattle.lexer.specs.Stored.{number_in}
use Rattle.entries.specs.Kinds as Kind
use Rattle.entries.specs.Flat.{under, flat}
use Rattle.entries.specs.Stored.{Keeps}
use Rattle.entries.specs.declared.Cursor.{Cursor}
use Rattle.entries.specs.Cursors.{emitted_of}
use Rattle.entries.specs.Reads.{Kept}
use Rattle.operators.specs.Signs.{strict_at}
use Rattle.operators.specs.SignLaws.{strict-number}
use Rattle.expressions.specs.declared.stack.Machine.{Machine}
use Rattle.expressions.specs.declared.stack.Turn.{Turn}
use Rattle.expressions.specs.declared.stack.Turn.TheVariants.{Next, Ended}
use Rattle.expressions.specs.Classes.{Over, Upper, Member, class_number}
use Rattle.expressions.specs.Frames.{turned, is_strict}
use Rattle.expressions.specs.Stack.{slot_class, slot_index, top_slot, Stacked}
use Rattle.expressions.specs.StackLaws.{slot_index_lem, stacked_less, stacked_pop}
use Rattle.expressions.specs.Machines.{popped_of}
use Rattle.expressions.specs.States.{slot, slots_of, base, credits, weight, Turned}
use Rattle.expressions.specs.Complete.{Complete}
use Rattle.expressions.specs.CompleteLaws.{popping}
use Rattle.expressions.specs.WholeLaws.{stored_number}
use Rattle.expressions.specs.Grown.{Grows, grown_in}
use Rattle.expressions.specs.GrownLaws.{grows, kept-grown, grown, turned-after}
use Rattle.expressions.specs.NameStates.{Ranged, NameBound}
use Rattle.expressions.specs.NameStarts.{between_at}

between-small : (b : Bool) → Kind.between b < Kind.limit
between-small true = lit< tt
between-small false = lit< tt

-- a step counted from another machine of the same weight
as-light : {ts : Tokens} {s : Cursor} {x : Read Expr} {w v : List ℕ} (m n : Machine) → weight n ≡ weight m → (r : Turn) → Turned ts s x w v n r → Turned ts s x w v m r
as-light m n e (Next k) t = record { kept = t.kept; after = record { state = t.after.state; lighter = subst (λ i. weight k < i) e t.after.lighter } }
as-light m n e (Ended p) t = record { kept = t.kept; after = t.after }

module _ {ts : Tokens} {s : Cursor} {x : Read Expr} {w : List ℕ} {m : Machine} (h : Complete ts s x w m) (deep : 0 < m.depth) where
  abbrev top : ℕ
  top = top_slot w m.depth

  -- its set
  pub names-member : slot_class top ≡ class_number Member → Ranged ts s x w (popped_of m 0) m.c (slot_index top)
  names-member e =
      let q = popping h Member deep e in
      let F = turned Member q.0 in
      let p = q.2 in
      let at_top = p.stacked.slots_at.0 in
      record {
        frame = F;
        frames = q.1;
        binder = record { name = F.name; range = p.tree };
        rooted = p.rooted;
        firm = p.firm;
        marked = p.firm_top.1;
        keeps = subst (λ i. Keeps ts i (some F.name)) (sym (slot_index_lem at_top)) at_top.tokens.0;
        index-fits = subst (λ i. i < max_tokens) (sym (slot_index_lem at_top)) at_top.index-fits;
        stacked = stacked_less (stacked_pop p.stacked (slot (class_number Member) 0 F.name []) (slot (class_number Over) F.level F.token [] ∷ slots_of q.1) refl) (suc (credits q.1)) (omega arith);
        same = p.same;
      }

  pub turn_member : {v : List ℕ} (r : Turn) → NameBound ts s x w v (popped_of m 0) m.c r → Turned ts s x w v m r
  turn_member r b = as-light m _ (let d : m.depth - 1 + 1 ≡ m.depth = omega arith in omega arith) r b.step

  -- its high bound
  module _ (e : slot_class top ≡ class_number Upper) where
    abbrev index : ℕ
    index = slot_index top

    abbrev kind : ℕ
    kind = between_at (number_in (word_at w (index + 2)))

    pub upper-index : index + 2 < max_tokens
    upper-index =
        let q = popping h Upper deep e in
        let at_top = q.2.stacked.slots_at.0 in
        let i = slot_index_lem at_top in
        omega (arith, at_top.tokens.1.1.0.1, h.stacked.ready.tells.total, h.stacked.ready.fits.few)

    pub upper-grows : Grows w m.c kind index 2
    upper-grows =
        let q = popping h Upper deep e in
        let F = turned Upper q.0 in
        let p = q.2 in
        grows (credits q.1) (base q.1) (flat F.first ∷ []) (flat p.tree) p.firm_top.0 p.rooted (stacked_less p.stacked (suc (credits q.1)) (omega arith)) kind index
        (between-small (strict_at (number_in (word_at w (index + 2))))) (omega (arith, upper-index))

    pub names-upper : Ranged ts s x (grown_in w m.c kind index 2) (popped_of m 0) (emitted_of m.c) (index + 1)
    names-upper =
        let q = popping h Upper deep e in
        let F = turned Upper q.0 in
        let p = q.2 in
        let st = stacked_less p.stacked (suc (credits q.1)) (omega arith) in
        let at_top = p.stacked.slots_at.0 in
        let here = slot_index_lem at_top in
        let keeps_low : Keeps ts index (some F.low) = subst (λ i. Keeps ts i (some F.low)) (sym here) at_top.tokens.0 in
        let keeps-name : Keeps ts (index + 1) (some F.name) = subst (λ i. Keeps ts i (some F.name)) (let z : suc at_top.index ≡ index + 1 = omega arith in z) at_top.tokens.1.0 in
        let keeps_high : Keeps ts (index + 2) (some F.high) = subst (λ i. Keeps ts i (some F.high)) (let z : suc (suc at_top.index) ≡ index + 2 = omega arith in z) at_top.tokens.1.1.0
        in
        let ready = h.stacked.ready in
        let kind-is : kind ≡ Kind.between (is_strict F.high) =
        ap Kind.between (ap strict_at (stored_number (index + 2) F.high ready keeps_high) ∙ sym (strict-number F.high)) in
        let g = grown (credits q.1) (base q.1) (flat F.first ∷ []) (flat p.tree) p.firm_top.0 p.rooted st kind index
        (between-small (strict_at (number_in (word_at w (index + 2))))) (omega (arith, upper-index)) (some F.low) keeps_low in
        let r = Between F.low (is_strict F.low) (is_strict F.high) F.first p.tree in
        let g' : Stacked ts s (grown_in w m.c kind index 2) (emitted_of m.c) m.depth (slot (class_number Upper) 0 F.low (F.name ∷ F.high ∷ []) ∷ slot (class_number Over) F.level F.token [] ∷ slots_of q.1)
        (base q.1 ++ flat r) (credits q.1) =
        subst (λ k. Stacked ts s (grown_in w m.c kind index 2) (emitted_of m.c) m.depth (slot (class_number Upper) 0 F.low (F.name ∷ F.high ∷ []) ∷ slot (class_number Over) F.level F.token [] ∷ slots_of q.1)
        (base q.1 ++ under k (some F.low) (flat F.first ++ flat p.tree)) (credits q.1)) kind-is g in
        record {
          frame = F;
          frames = q.1;
          binder = record { name = F.name; range = r };
          rooted = (Kind.between (is_strict F.high), some F.low, flat F.first ++ flat p.tree, refl);
          firm = p.firm;
          marked = p.firm_top.1;
          keeps = keeps-name;
          index-fits = omega (arith, upper-index);
          stacked = stacked_pop g' (slot (class_number Upper) 0 F.low (F.name ∷ F.high ∷ [])) (slot (class_number Over) F.level F.token [] ∷ slots_of q.1) refl;
          same = p.same;
        }

    pub kept-upper : Kept w (grown_in w m.c kind index 2) s.out
    kept-upper =
        let q = popping h Upper deep e in
        let F = turned Upper q.0 in
        let p = q.2 in
        kept-grown (credits q.1) (base q.1) (flat F.first ∷ []) (flat p.tree) p.firm_top.0 p.rooted (stacked_less p.stacked (suc (credits q.1)) (omega arith)) kind index
        (between-small (strict_at (number_in (word_at w (index + 2))))) (omega (arith, upper-index))

    pub turn-upper : {v : List ℕ} (r : Turn) → NameBound ts s x (grown_in w m.c kind index 2) v (popped_of m 0) (emitted_of m.c) r → Turned ts s x w v m r
    turn-upper (Next n) b = let t = b.step in turned-after kept-upper
        (record { kept = t.kept; after = record { state = t.after.state; lighter = (let d : m.depth - 1 + 1 ≡ m.depth = omega arith in omega (arith, t.after.lighter)) } })
    turn-upper (Ended p) b = turned-after kept-upper (record { kept = b.step.kept; after = b.step.after })

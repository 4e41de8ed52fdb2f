-- The needed forms put together one after the other: each over what is noted of its operands' forms, by its recipe.
use Prim.Native.Nat.{ℕ, ◌+◌, ◌-◌, ◌≤◌, ◌<◌}
use Rattle.std.specs.Prelude.{◌≡◌, ◌≢◌, length, set}
use Rattle.std.proofs.Math.Path.{ap}
use Rattle.std.proofs.Common.{◌∙◌, sym, subst, length-set, get_or-set_same, get_or-set_other, arith}
use mathlib.Core.List.{List}
use Rattle.std.proofs.Math.ListN.{get_or}
use Rattle.std.proofs.Math.Decide.{dec_lt, ℕ_discrete}
use Rattle.node.specs.Limits.{max_nodes}
use Rattle.node.specs.Ltl.{Formula, Signal}
use Rattle.node.specs.Fields.{kind_of, first_of, second_of}
use Rattle.node.specs.Kinds.{Shape, Truth, Falsehood, Atom, UnaryOf, BinaryOf, Unused, shape_of, signal_kind}
use Rattle.node.specs.Table.{tree_at, root}
use Rattle.node.specs.Formed.{Below}
use Rattle.forms.specs.Forms.{form as form_of}
use Rattle.sharing.specs.Sharing.{place, write}
use Rattle.sharing.proofs.WriteLaws.{grows_none}
use Rattle.sharing.proofs.StandsLaws.{Found, found_inside, found-grows}
use Rattle.sharing.specs.Subformulas.{Everywhere}
use Rattle.shared_table.specs.Shared.{Puts}
use Rattle.shared_table.specs.SharedLaws.{shares_few}
use Rattle.shared_forms.specs.Templates.{substitute}
use Rattle.shared_forms.specs.Forming.{form_at, word_at, recipe_at, stands_for, part_word, Place, part_at, Within, Operand, asked_at}
use Rattle.shared_forms.specs.Building.{over_at, Composing, TooMany}
use Rattle.shared_forms.specs.PartLaws.{step, step-kind, part-such, operand-part, operand_below}
use Rattle.shared_forms.specs.WordLaws.{Ready, step-writes}
use Rattle.shared_forms.specs.PromiseLaws.{root-signals}
use Rattle.shared_forms.specs.PutLaws.{Written, put-done, put_refused}

-- a template's own signal
own-signal : (form : ℕ) (tree : ℕ → Formula) (a b r : ℕ) → r ≡ 4 → stands_for form tree a b r ≡ Signal a
unfolding stands_for
own-signal form tree a b r e = rw e

-- the operands of a recipe's node are earlier parts
ready : (t : List ℕ) (e tree : ℕ → Formula) (s : Shape) (j x y m n : ℕ) → Below 5 s j x y → (x < j → Found t (substitute e (tree x)) m) → (y < j → Found t (substitute e (tree y)) n)
    → Ready t e tree s x y m n
ready t e tree Truth j x y m n l f g = tt
ready t e tree Falsehood j x y m n l f g = tt
ready t e tree Atom j x y m n l f g = tt
ready t e tree (UnaryOf o) j x y m n l f g = f l
ready t e tree (BinaryOf o) j x y m n l f g = (f l.0, g l.1)
ready t e tree Unused j x y m n l f g = l

module _ {form x j : ℕ} {ws notes numbers out : List ℕ} (c : Composing form ws x j notes numbers out) where
  pub composing_place : Place form ws x
  composing_place = record { formed = c.building.marking.formed; inside = c.inside }

  each : Everywhere (Within form ws) (form_at form ws x)
  each = c.building.marking.such x c.inside c.needed

  -- one part more, of a table that has grown
  pub composing_more : {out' : List ℕ} {r : ℕ} → Written (form_of form (root ws)) (part_at form ws x j) c.building.table out' r → j < 16 → r ≤ max_nodes
      → Composing form ws x (j + 1) notes (set numbers j r) out'
  composing_more {out'} {r} w h few =
      let slots = c.numbered.slots in
      let l = length-set numbers j r in
      let some = w.some in
      record {
        inside = c.inside;
        needed = c.needed;
        building = record {
          marking = c.building.marking;
          table = w.table;
          shares = w.shares;
          sound = w.sound;
          stands = λ y b d. found-grows (form_at form ws y) (get_or notes y 0 - 1) w.grows (c.building.stands y b d);
        };
        numbered = record { slots = omega arith; some = λ i b. low i b (ℕ_discrete i j); few = λ i b. high i b (ℕ_discrete i j) };
        parts = λ i b. go i b (ℕ_discrete i j);
      }
    where
      same : (i : ℕ) → i ≡ j → get_or (set numbers j r) i 0 ≡ r
      same i e = let slots = c.numbered.slots in ap (λ (n : ℕ). get_or (set numbers j r) n 0) e ∙ get_or-set_same numbers j r 0 (omega arith)

      low : (i : ℕ) → i < 16 → Dec (i ≡ j) → 1 ≤ get_or (set numbers j r) i 0
      low i b (yes e) = rw (same i e) w.some
      low i b (no d) = rw (get_or-set_other numbers j i r 0 d) (c.numbered.some i b)

      high : (i : ℕ) → i < 16 → Dec (i ≡ j) → get_or (set numbers j r) i 0 ≤ max_nodes
      high i b (yes e) = rw (same i e) few
      high i b (no d) = rw (get_or-set_other numbers j i r 0 d) (c.numbered.few i b)

      go : (i : ℕ) → i < j + 1 → Dec (i ≡ j) → Found w.table (part_at form ws x i) (get_or (set numbers j r) i 0 - 1)
      go i b (yes e) = rw (same i e) (subst (λ (n : ℕ). Found w.table (part_at form ws x n) (r - 1)) (sym e) w.found)
      go i b (no d) =
          rw (get_or-set_other numbers j i r 0 d) (found-grows (part_at form ws x i) (get_or numbers i 0 - 1) w.grows (c.parts i (omega arith)))

  module _ (h : j < length (recipe_at form ws x)) where
    -- its first field, where it is a signal that stands for no operand's form
    own_first : ¬ Operand (kind_of (part_word form ws x j)) (first_of (part_word form ws x j)) → kind_of (part_word form ws x j) ≡ 2 → first_of (part_word form ws x j) ≡ 4
    own_first none e =
        let l : Below 5 (shape_of signal_kind) j (first_of (part_word form ws x j)) (second_of (part_word form ws x j)) =
        subst (λ (k : ℕ). Below 5 (shape_of k) j (first_of (part_word form ws x j)) (second_of (part_word form ws x j))) e (step composing_place j h).lower in
        go l (dec_lt (first_of (part_word form ws x j)) 4)
      where
        go : first_of (part_word form ws x j) < 5 → Dec (first_of (part_word form ws x j) < 4) → first_of (part_word form ws x j) ≡ 4
        go l (yes b) = absurd (none (record { signal = e; operand = b }))
        go l (no b) = omega arith

    -- its word writes the part
    part-writes : ¬ Operand (kind_of (part_word form ws x j)) (first_of (part_word form ws x j))
        → write c.building.table (part_at form ws x j)
        ≡ place c.building.table (over_at form ws x j numbers)
    unfolding part_at
    part-writes none =
        let a : ℕ = first_of (word_at ws x) in
        let b : ℕ = second_of (word_at ws x) in
        let w : ℕ = part_word form ws x j in
        let e : ℕ → Formula = stands_for form (tree_at ws) a b in
        let tree : ℕ → Formula = tree_at (recipe_at form ws x) in
        let t : List ℕ = c.building.table in
        let m : ℕ = get_or numbers (first_of w) 0 - 1 in
        let n : ℕ = get_or numbers (second_of w) 0 - 1 in
        let s = step composing_place j h in
        ap (λ (g : Formula). write t (substitute e g)) s.tree
        ∙ step-writes (kind_of w) (step-kind composing_place j h) t e tree a (first_of w) (second_of w) m n (λ q. own-signal form (tree_at ws) a b (first_of w) (own_first none q))
        (ready t e tree (shape_of (kind_of w)) j (first_of w) (second_of w) m n s.lower (λ l. c.parts (first_of w) l) (λ l. c.parts (second_of w) l))

    module _ {out' : List ℕ} {r : ℕ} (puts : Puts out out' (over_at form ws x j numbers) r) (none : ¬ Operand (kind_of (part_word form ws x j)) (first_of (part_word form ws x j))) where
      pub part-put : r ≤ max_nodes → Written (form_of form (root ws)) (part_at form ws x j) c.building.table out' r
      part-put few =
          put-done (form_of form (root ws)) (part_at form ws x j) puts c.building.shares c.building.sound (part-writes none)
          (part-such composing_place (Within form ws) each j h) (root-signals form c.building.marking.formed) few

      pub part-many : max_nodes < r → TooMany form ws out
      part-many many =
          put_refused (form_of form (root ws)) (part_at form ws x j) puts c.building.shares c.building.sound (part-writes none)
          (part-such composing_place (Within form ws) each j h) (root-signals form c.building.marking.formed) many

    module _ (o : Operand (kind_of (part_word form ws x j)) (first_of (part_word form ws x j))) where
      noted-below : asked_at form ws x j < x
      noted-below = let b = operand_below composing_place j h o in omega arith

      noted-some : get_or notes (asked_at form ws x j) 0 ≢ 0
      noted-some = c.building.marking.asked x (omega arith) c.inside c.needed j h o

      part-noted : Found c.building.table (part_at form ws x j) (get_or notes (asked_at form ws x j) 0 - 1)
      part-noted =
          subst (λ (g : Formula). Found c.building.table g (get_or notes (asked_at form ws x j) 0 - 1)) (sym (operand-part composing_place j h o))
          (c.building.stands (asked_at form ws x j) noted-below noted-some)

      pub noted-inside : asked_at form ws x j < length notes
      noted-inside = let b = noted-below in let i = c.inside in let l = c.building.marking.long in omega arith

      pub noted-few : get_or notes (asked_at form ws x j) 0 ≤ max_nodes
      noted-few =
          let i = found_inside c.building.table (part_at form ws x j) (get_or notes (asked_at form ws x j) 0 - 1) part-noted in
          let l = shares_few c.building.shares in
          omega arith

      pub part-loaded : {r : ℕ} → r ≡ get_or notes (asked_at form ws x j) 0 → Written (form_of form (root ws)) (part_at form ws x j) c.building.table out r
      part-loaded {r} e =
          let d = noted-some in
          record {
            table = c.building.table;
            grows = grows_none c.building.table;
            shares = c.building.shares;
            sound = c.building.sound;
            some = omega arith;
            found = subst (λ (n : ℕ). Found c.building.table (part_at form ws x j) (n - 1)) (sym e) part-noted;
          }

-- Marking from the root downwards: what is needed are subformulas of the root's form, and what the recipe for a needed form stands for is needed too.
use Rattle.std.specs.Prelude.{ℕ, zero, suc, ◌+◌, ◌-◌, ◌*◌, ◌/◌, ◌%◌, ◌≤◌, ◌<◌, ◌≡◌, refl, ◌≢◌, List, length, get_or, set}
use Rattle.std.proofs.Common.{ap, ap₂, ◌∙◌, sym, subst, length-set, get_or-set_same, get_or-set_other, arith}
use Rattle.std.proofs.Math.Decide.{ℕ_discrete}
use Rattle.node.specs.Limits.{field_limit}
use Rattle.node.specs.Ltl.{Formula}
use Rattle.node.specs.Fields.{kind_of, first_of}
use Rattle.node.specs.Table.{tree_at, root}
use Rattle.node.specs.Formed.{Formed}
use Rattle.forms.specs.Forms.{form as form_of}
use Rattle.sharing.specs.Subformulas.{Everywhere}
use Rattle.shared_forms.specs.Templates.{list_of, by_list}
use Rattle.shared_forms.specs.Forming.{form_at, recipe_at, part_word, asked_at, Within, Operand, Place, Asked, Marking, Asking}
use Rattle.shared_forms.specs.TemplateLaws.{everywhere_own}
use Rattle.shared_forms.specs.PartLaws.{part-such, operand-part, operand_below}

-- a note that is made leaves no other one out, and adds none
module _ (l : List ℕ) (p v : ℕ) where
  note_keeps : v ≢ 0 → p < length l → (y : ℕ) → get_or l y 0 ≢ 0 → get_or (set l p v) y 0 ≢ 0
  note_keeps some h y d = go (ℕ_discrete y p)
    where
      go : Dec (y ≡ p) → get_or (set l p v) y 0 ≢ 0
      go (yes e) = rw (e, get_or-set_same l p v 0 h) some
      go (no n) = rw (get_or-set_other l p y v 0 n) d

  note_adds : (y : ℕ) → get_or (set l p v) y 0 ≢ 0 → y ≢ p → get_or l y 0 ≢ 0
  note_adds y d n = subst (λ (x : ℕ). x ≢ 0) (get_or-set_other l p y v 0 n) d

module _ {form k : ℕ} {ws notes : List ℕ} (m : Marking form ws k notes) where
  -- one note more, below k or where there is one
  pub marking_note : (p v : ℕ) → v ≢ 0 → p < 2 * length ws → (k ≤ p → get_or notes p 0 ≢ 0) → Everywhere (Within form ws) (form_at form ws p) → Marking form ws k (set notes p v)
  marking_note p v some inside known each =
      let l = m.long in
      let s = length-set notes p v in
      let h : p < length notes = omega arith in
      record {
        formed = m.formed;
        long = omega arith;
        top = note_keeps notes p v some h _ m.top;
        such = λ x i d. go x i d (ℕ_discrete x p);
        asked = λ x g i d j b o. note_keeps notes p v some h _ (m.asked x g i (was x g d (ℕ_discrete x p)) j b o);
      }
    where
      go : (x : ℕ) → x < 2 * length ws → get_or (set notes p v) x 0 ≢ 0 → Dec (x ≡ p) → Everywhere (Within form ws) (form_at form ws x)
      go x i d (yes e) = subst (λ (y : ℕ). Everywhere (Within form ws) (form_at form ws y)) (sym e) each
      go x i d (no n) = m.such x i (note_adds notes p v x d n)

      was : (x : ℕ) → k ≤ x → get_or (set notes p v) x 0 ≢ 0 → Dec (x ≡ p) → get_or notes x 0 ≢ 0
      was x g d (yes e) = subst (λ (y : ℕ). get_or notes y 0 ≢ 0) (sym e) (known (omega arith))
      was x g d (no n) = note_adds notes p v x d n

-- a node's own form
first_half : (form : ℕ) (f : Formula) → by_list (list_of form 0) f ≡ form_of form f
first_half zero f = refl
first_half (suc zero) f = refl
first_half (suc (suc form)) f = refl

pub own-form : (form : ℕ) (ws : List ℕ) (n : ℕ) → form_at form ws (2 * n) ≡ form_of form (tree_at ws n)
own-form form ws n =
    let h : 2 * n % 2 ≡ 0 = omega arith in
    let i : 2 * n / 2 ≡ n = omega arith in
    ap₂ (λ (a b : ℕ). by_list (list_of form a) (tree_at ws b)) h i ∙ first_half form (tree_at ws n)

-- at the root
pub marking-start : {form : ℕ} {ws : List ℕ} (notes : List ℕ) → Formed field_limit ws → 2 * length ws ≤ length notes → ((x : ℕ) → get_or notes x 0 ≡ 0)
    → Marking form ws (2 * length ws) (set notes (2 * (length ws - 1)) 1)
marking-start {form} {ws} notes f long zeros =
    let s = f.some in
    let n = length-set notes (2 * (length ws - 1)) 1 in
    let h : 2 * (length ws - 1) < length notes = omega arith in
    record {
      formed = f;
      long = omega arith;
      top = rw (get_or-set_same notes (2 * (length ws - 1)) 1 0 h) (λ e. omega arith);
      such = λ x i d. go x d (ℕ_discrete x (2 * (length ws - 1)));
      asked = λ x g i d. absurd (omega arith);
    }
  where
    go : (x : ℕ) → get_or (set notes (2 * (length ws - 1)) 1) x 0 ≢ 0 → Dec (x ≡ 2 * (length ws - 1)) → Everywhere (Within form ws) (form_at form ws x)
    go x d (yes e) = subst (Everywhere (Within form ws)) (sym (ap (form_at form ws) e ∙ own-form form ws (length ws - 1))) (everywhere_own (form_of form (root ws)))
    go x d (no n) = absurd (note_adds notes (2 * (length ws - 1)) 1 x d n (zeros x))

pub marking-at : {form k m : ℕ} {ws notes : List ℕ} → k ≡ m → Marking form ws k notes → Marking form ws m notes
marking-at {form} {k} {m} {ws} {notes} e h = subst (λ (n : ℕ). Marking form ws n notes) e h

-- a form that is not needed
pub marking-pass : {form x : ℕ} {ws notes : List ℕ} → Marking form ws (x + 1) notes → get_or notes x 0 ≡ 0 → Marking form ws x notes
marking-pass {form} {x} {ws} {notes} m e =
    record { formed = m.formed; long = m.long; top = m.top; such = m.such; asked = λ y g i d. go y g i d (ℕ_discrete y x) }
  where
    go : (y : ℕ) → x ≤ y → y < 2 * length ws → get_or notes y 0 ≢ 0 → Dec (y ≡ x) → Asked form ws notes y (length (recipe_at form ws y))
    go y g i d (yes q) = absurd (d (ap (λ (z : ℕ). get_or notes z 0) q ∙ e))
    go y g i d (no n) = m.asked y (omega arith) i d

-- the recipe for a needed form, node by node
pub asking_start : {form x : ℕ} {ws notes : List ℕ} → Marking form ws (x + 1) notes → x < 2 * length ws → get_or notes x 0 ≢ 0 → Asking form ws x 0 notes
asking_start m i d = record { inside = i; marking = m; needed = d; so_far = λ j h. absurd (omega arith) }

module _ {form x n : ℕ} {ws notes : List ℕ} (a : Asking form ws x n notes) where
  pub asking_place : Place form ws x
  asking_place = record { formed = a.marking.formed; inside = a.inside }

  -- a node that stands for no operand's form
  pub asking_pass : (Operand (kind_of (part_word form ws x n)) (first_of (part_word form ws x n)) → ⊥) → Asking form ws x (n + 1) notes
  asking_pass none = record { inside = a.inside; marking = a.marking; needed = a.needed; so_far = λ j h o. go j h o (ℕ_discrete j n) }
    where
      go : (j : ℕ) → j < n + 1 → Operand (kind_of (part_word form ws x j)) (first_of (part_word form ws x j)) → Dec (j ≡ n) → get_or notes (asked_at form ws x j) 0 ≢ 0
      go j h o (yes e) = absurd (none (subst (λ (i : ℕ). Operand (kind_of (part_word form ws x i)) (first_of (part_word form ws x i))) e o))
      go j h o (no d) = a.so_far j (omega arith) o

  -- one that stands for an operand's form, which is noted
  module _ (h : n < length (recipe_at form ws x)) (o : Operand (kind_of (part_word form ws x n)) (first_of (part_word form ws x n))) where
    pub asked-inside : asked_at form ws x n < length notes
    asked-inside = let b = operand_below asking_place n h o in let i = a.inside in let l = a.marking.long in omega arith

    pub asking-one : Asking form ws x (n + 1) (set notes (asked_at form ws x n) 1)
    asking-one =
        let p : ℕ = asked_at form ws x n in
        let b = operand_below asking_place n h o in
        let i = a.inside in
        record {
          inside = i;
          marking =
              marking_note a.marking p 1 some (omega arith) (λ g. absurd (omega arith))
              (subst (Everywhere (Within form ws)) (operand-part asking_place n h o) (part-such asking_place (Within form ws) (a.marking.such x i a.needed) n h));
          needed = note_keeps notes p 1 some asked-inside x a.needed;
          so_far = λ j g q. go j g q (ℕ_discrete j n);
        }
      where
        some : ◌≢◌ {A = ℕ} 1 0
        some e = omega arith

        go : (j : ℕ) → j < n + 1 → Operand (kind_of (part_word form ws x j)) (first_of (part_word form ws x j)) → Dec (j ≡ n)
            → get_or (set notes (asked_at form ws x n) 1) (asked_at form ws x j) 0 ≢ 0
        go j g q (yes e) = rw (ap (asked_at form ws x) e, get_or-set_same notes (asked_at form ws x n) 1 0 asked-inside) (λ z. omega arith)
        go j g q (no d) = note_keeps notes (asked_at form ws x n) 1 some asked-inside (asked_at form ws x j) (a.so_far j (omega arith) q)

  -- at its end
  pub asking_end : length (recipe_at form ws x) ≤ n → Marking form ws x notes
  asking_end e =
      let m = a.marking in
      record { formed = m.formed; long = m.long; top = m.top; such = m.such; asked = λ y g i d. go y g i d (ℕ_discrete y x) }
    where
      go : (y : ℕ) → x ≤ y → y < 2 * length ws → get_or notes y 0 ≢ 0 → Dec (y ≡ x) → Asked form ws notes y (length (recipe_at form ws y))
      go y g i d (yes q) = subst (λ (z : ℕ). Asked form ws notes z (length (recipe_at form ws z))) (sym q) (λ j h. a.so_far j (omega arith))
      go y g i d (no n) = a.marking.asked y (omega arith) i d

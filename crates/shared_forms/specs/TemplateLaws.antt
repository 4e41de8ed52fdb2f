-- Laws of the templates: each makes of a node's operands the form of the node; the bytes of the table are their nodes; and what holds of each subformula of a form holds of what
-- its recipe puts together.
use Rattle.std.specs.Prelude.{ℕ, zero, suc, ◌+◌, ◌*◌, ◌≤◌, ◌<◌, ◌≡◌, refl, Bool, true, false, ◌&&◌, ◌||◌, ltb, leb, eqb, length, get_or, take, drop}
use Rattle.std.proofs.Common.{ap, ◌∙◌, sym, subst, get_or-take, get_or-drop, arith, leb-true, ltb-true, ne_eqb}
use mathlib.Core.List.Memᴰ
use mathlib.Core.List.{List, [], map, ◌∷◌, ◌++◌, Memᴰ}
use Rattle.std.proofs.Math.Bool.{or-false}
use Rattle.std.proofs.lemmas.Bool.{false≢true}
use Rattle.std.proofs.lemmas.List.{length-map}
use Rattle.std.proofs.Math.ListN.{get_or-map}
use Rattle.std.proofs.Math.Decide.{ℕ_discrete}
use Rattle.node.specs.Tests.{and_left, and_right}
use Rattle.node.specs.Ltl.{Formula, True, False, Signal, One, Two}
use Rattle.node.specs.Kinds.{Shape, Truth, Falsehood, Atom, UnaryOf, BinaryOf, Unused, shapes, kind_count, shape_of, build}
use Rattle.node.specs.Table.{tree_at, root}
use Rattle.node.specs.Formed.{Formed}
use Rattle.node.specs.Postorder.{SignalsBelow}
use Rattle.node.proofs.PostorderLaws.{signals-more}
use Rattle.forms.specs.Forms.{plain, negated, core}
use Rattle.sharing.specs.Sharing.{position, having, write, distinct_nodes, distinct_count}
use Rattle.sharing.specs.Subformulas.{postorder, Everywhere}
use Rattle.sharing.proofs.SubformulaLaws.{everywhere_map}
use Rattle.sharing.proofs.SoundLaws.{sound_none, sound-write, sound-such}
use Rattle.sharing.proofs.DistinctLaws.{length_of, formed_of, table-root}
use Rattle.shared_forms.specs.Templates.{templates, template, list_of, by_list, substitute}
use Rattle.shared_forms.specs.Forming.{stands_for}

-- how many signals of a template stand for forms of a node's operands
abbrev pub operand_signals : Shape → ℕ
operand_signals Truth = 0
operand_signals Falsehood = 0
operand_signals Atom = 0
operand_signals (UnaryOf o) = 2
operand_signals (BinaryOf o) = 4
operand_signals Unused = 0

-- has the template no other signals than those and the node's own?
unfoldable within : ℕ → Formula → Bool
within n True = true
within n False = true
within n (Signal r) = ltb r n || eqb r 4
within n (One o a) = within n a
within n (Two o a b) = within n a && within n b

-- the fourteen templates of a list
abbrev fourteen : ℕ → List Formula
fourteen list = take kind_count (drop (kind_count * list) templates)

template-at : (list k : ℕ) → k < kind_count → template (kind_count * list + k) ≡ get_or (fourteen list) k True
template-at list k h = sym (get_or-take kind_count (drop (kind_count * list) templates) k True h ∙ get_or-drop (kind_count * list) templates k True)

-- each makes the form of a node of its kind
make_all : (form half : ℕ) (tree : ℕ → Formula) (a b : ℕ)
    → map (substitute (stands_for form tree a b)) (fourteen (list_of form half)) ≡ map (λ (s : Shape). by_list (list_of form half) (build s tree a b)) shapes
unfolding templates substitute stands_for plain negated core
make_all zero half tree a b = refl
make_all (suc zero) zero tree a b = refl
make_all (suc zero) (suc half) tree a b = refl
make_all (suc (suc form)) half tree a b = refl

-- inside a list it does not matter what is read behind its end
any_default : {A : Type 0} (l : List A) (k : ℕ) (d e : A) → k < length l → get_or l k d ≡ get_or l k e
any_default [] k d e h = absurd (omega arith)
any_default (x ∷ l) zero d e h = refl
any_default (x ∷ l) (suc k) d e h = any_default l k d e (omega arith)

mapped : {A : Type 0} (f : A → Formula) (l : List A) (k : ℕ) (d : A) (e : Formula) → k < length l → get_or (map f l) k e ≡ f (get_or l k d)
mapped f l k d e h = any_default (map f l) k e (f d) (let n = length-map l f in omega arith) ∙ get_or-map f l k d

pub makes : (form half k : ℕ) → k < kind_count → (tree : ℕ → Formula) (a b : ℕ)
    → substitute (stands_for form tree a b) (template (kind_count * list_of form half + k)) ≡ by_list (list_of form half) (build (shape_of k) tree a b)
makes form half k h tree a b =
    let e : ℕ → Formula = stands_for form tree a b in
    let l : List Formula = fourteen (list_of form half) in
    ap (substitute e) (template-at (list_of form half) k h) ∙ sym (get_or-map (substitute e) l k True) ∙ ap (λ (fs : List Formula). get_or fs k (substitute e True)) (make_all form half tree a b)
    ∙ mapped (λ (s : Shape). by_list (list_of form half) (build s tree a b)) shapes k Unused (substitute e True) h

-- has each of the templates the signals that it may have, and few nodes?
unfoldable tidy : List Shape → List Formula → Bool
tidy [] fs = true
tidy (s ∷ ss) [] = false
tidy (s ∷ ss) (f ∷ fs) = (within (operand_signals s) f && leb (distinct_count f) 10) && tidy ss fs

tidy-all : (form half : ℕ) → tidy shapes (fourteen (list_of form half)) ≡ true
unfolding tidy within templates distinct_count distinct_nodes write having position
tidy-all zero half = refl
tidy-all (suc zero) zero = refl
tidy-all (suc zero) (suc half) = refl
tidy-all (suc (suc form)) half = refl

tidy-at : (ss : List Shape) (fs : List Formula) (k : ℕ) → tidy ss fs ≡ true → k < length ss
    → (within (operand_signals (get_or ss k Unused)) (get_or fs k True) && leb (distinct_count (get_or fs k True)) 10) ≡ true
unfolding tidy
tidy-at [] fs k h l = absurd (omega arith)
tidy-at (s ∷ ss) [] k h l = absurd (false≢true h)
tidy-at (s ∷ ss) (f ∷ fs) zero h l = and_left _ (tidy ss fs) h
tidy-at (s ∷ ss) (f ∷ fs) (suc k) h l = tidy-at ss fs k (and_right (within (operand_signals s) f && leb (distinct_count f) 10) (tidy ss fs) h) (omega arith)

module _ (form half k : ℕ) (h : k < kind_count) where
  tested : (within (operand_signals (shape_of k)) (template (kind_count * list_of form half + k)) && leb (distinct_count (template (kind_count * list_of form half + k))) 10) ≡ true
  tested = rw (template-at (list_of form half) k h) (tidy-at shapes (fourteen (list_of form half)) k (tidy-all form half) h)

  its_signals : within (operand_signals (shape_of k)) (template (kind_count * list_of form half + k)) ≡ true
  its_signals = and_left _ (leb (distinct_count (template (kind_count * list_of form half + k))) 10) tested

  few_nodes_lem : distinct_count (template (kind_count * list_of form half + k)) ≤ 10
  few_nodes_lem =
      leb-true (distinct_count (template (kind_count * list_of form half + k))) 10 (and_right (within (operand_signals (shape_of k)) (template (kind_count * list_of form half + k))) _ tested)

-- a signal of the template stands for an operand's form, or for the node's own
unfoldable pub Local : ℕ → Formula → Type 0
Local n True = Unit {0}
Local n False = Unit {0}
Local n (Signal r) = (ltb r n || eqb r 4) ≡ true
Local n (One o a) = Unit {0}
Local n (Two o a b) = Unit {0}

within_local : (n : ℕ) (f : Formula) → within n f ≡ true → Everywhere (Local n) f
unfolding within Local Everywhere
within_local n True h = tt
within_local n False h = tt
within_local n (Signal r) h = h
within_local n (One o a) h = (within_local n a h, tt)
within_local n (Two o a b) h = (within_local n a (and_left (within n a) (within n b) h), within_local n b (and_right (within n a) (within n b) h), tt)

-- such a signal is below n unless it is the fifth
local_signal : (n r : ℕ) → (ltb r n || eqb r 4) ≡ true → (r ≡ 4 → ⊥) → r < n
local_signal n r h other = ltb-true r n (sym (ap (λ (b : Bool). ltb r n || b) (ne_eqb r 4 other) ∙ or-false (ltb r n)) ∙ h)

pub local_below : {n r : ℕ} {f : Formula} → f ≡ Signal r → Local n f → r < 4 → r < n
unfolding Local
local_below {n} {r} e h l = local_signal n r (subst (Local n) e h) (λ q. omega arith)

within-signals : (n : ℕ) (f : Formula) → n ≤ 4 → within n f ≡ true → SignalsBelow 5 f
unfolding within SignalsBelow
within-signals n True l h = tt
within-signals n False l h = tt
within-signals n (Signal r) l h = go (ℕ_discrete r 4)
  where
    go : Dec (r ≡ 4) → r < 5
    go (yes e) = omega arith
    go (no d) = let b = local_signal n r h d in omega arith
within-signals n (One o a) l h = within-signals n a l h
within-signals n (Two o a b) l h = (within-signals n a l (and_left (within n a) (within n b) h), within-signals n b l (and_right (within n a) (within n b) h))

signals_few : (s : Shape) → operand_signals s ≤ 4
signals_few Truth = omega arith
signals_few Falsehood = omega arith
signals_few Atom = omega arith
signals_few (UnaryOf o) = omega arith
signals_few (BinaryOf o) = omega arith
signals_few Unused = omega arith

-- what is known of a recipe: a table of the format with few nodes, whose root is the template; and what holds of the template's subformulas holds of its trees
pub record Reciped (n : ℕ) (f : Formula) : Type 0 where
  pub few : length (distinct_nodes f) ≤ 10
  pub formed : Formed 5 (distinct_nodes f)
  pub top : root (distinct_nodes f) ≡ f
  pub local : (j : ℕ) → j < length (distinct_nodes f) → Local n (tree_at (distinct_nodes f) j)

module _ (f : Formula) (s : SignalsBelow 5 f) (few : distinct_count f ≤ 10) where
  such : (Q : Formula → Type 0) → Everywhere Q f → (j : ℕ) → j < length (distinct_nodes f) → Q (tree_at (distinct_nodes f) j)
  unfolding distinct_nodes distinct_count
  such Q each j h =
      sound-such Q (write [] f).table (sound-write Q [] f each (signals-more (omega arith) f s) (omega arith) (sound_none Q)) j h

  reciped : (n : ℕ) → Everywhere (Local n) f → Reciped n f
  reciped n each =
      let l = length_of f in
      record {
        few = omega arith;
        formed = formed_of 5 f (omega arith) s (omega arith);
        top = table-root f (signals-more (omega arith) f s) (omega arith);
        local = such (Local n) each;
      }

-- the recipe for a node of kind k
pub kind-reciped : (form half k : ℕ) → k < kind_count → Reciped (operand_signals (shape_of k)) (template (kind_count * list_of form half + k))
kind-reciped form half k h =
    let f : Formula = template (kind_count * list_of form half + k) in
    let n : ℕ = operand_signals (shape_of k) in
    let g = its_signals form half k h in
    reciped f (within-signals n f (signals_few (shape_of k)) g) (few_nodes_lem form half k h) n (within_local n f g)

-- what holds of each subformula of a form holds of those of each part that the recipe puts together
everywhere_parts : (P : Formula → Type 0) (e : ℕ → Formula) (f : Formula) → Everywhere P (substitute e f) → Everywhere (λ g. Everywhere P (substitute e g)) f
unfolding Everywhere substitute
everywhere_parts P e True h = h
everywhere_parts P e False h = h
everywhere_parts P e (Signal k) h = h
everywhere_parts P e (One o a) h = (everywhere_parts P e a h.0, h)
everywhere_parts P e (Two o a b) h = (everywhere_parts P e a h.0, everywhere_parts P e b h.1, h)

pub parts-such : (P : Formula → Type 0) (e : ℕ → Formula) (form half k : ℕ) → k < kind_count
    → Everywhere P (substitute e (template (kind_count * list_of form half + k))) → (j : ℕ) → j < length (distinct_nodes (template (kind_count * list_of form half + k)))
    → Everywhere P (substitute e (tree_at (distinct_nodes (template (kind_count * list_of form half + k))) j))
parts-such P e form half k h each j l =
    let f : Formula = template (kind_count * list_of form half + k) in
    let n : ℕ = operand_signals (shape_of k) in
    such f (within-signals n f (signals_few (shape_of k)) (its_signals form half k h)) (few_nodes_lem form half k h) (λ x. Everywhere P (substitute e x)) (everywhere_parts P e f each) j l

-- each subformula is one of the postorder
pub everywhere_own : (f : Formula) → Everywhere (λ g. Memᴰ g (postorder f)) f
unfolding Everywhere postorder
everywhere_own True = Memᴰ.head refl
everywhere_own False = Memᴰ.head refl
everywhere_own (Signal k) = Memᴰ.head refl
everywhere_own (One o a) = (
  everywhere_map (λ g. Memᴰ g (postorder a)) (λ g. Memᴰ g (postorder a ++ (One o a ∷ []))) (λ g m. Memᴰ.append_left (One o a ∷ []) m) a (everywhere_own a),
  Memᴰ.append_right (postorder a) (Memᴰ.head refl),
)
everywhere_own (Two o a b) =
    let whole : List Formula = postorder a ++ (postorder b ++ (Two o a b ∷ [])) in (
      everywhere_map (λ g. Memᴰ g (postorder a)) (λ g. Memᴰ g whole) (λ g m. Memᴰ.append_left (postorder b ++ (Two o a b ∷ [])) m) a (everywhere_own a),
      everywhere_map (λ g. Memᴰ g (postorder b)) (λ g. Memᴰ g whole) (λ g m. Memᴰ.append_right (postorder a) (Memᴰ.append_left (Two o a b ∷ []) m)) b (everywhere_own b),
      Memᴰ.append_right (postorder a) (Memᴰ.append_right (postorder b) (Memᴰ.head refl)),
    )

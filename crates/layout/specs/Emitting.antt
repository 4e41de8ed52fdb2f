-- The loops over a table: sizes of the nodes so far; bytes so far, and what the stack still owes.
use Rattle.std.specs.Prelude.{ℕ, ◌+◌, ◌-◌, ◌<◌, ◌≤◌, min, ◌≡◌, refl, get_or, set}
use Rattle.std.proofs.Math.Path.{ap, ap₂, subst}
use Rattle.std.proofs.Common.{◌∙◌, sym, length-append, get_or-set_same, get_or-set_other, below_more}
use mathlib.Core.List.{List, [], ◌++◌, append_assoc, append-nil}
use Rattle.std.proofs.Math.ListN.{length}
use native.Mathlib.Omega.{arith}
use Rattle.node.specs.Limits.{max_nodes}
use Rattle.node.specs.Fields.{kind_of, first_of, second_of}
use Rattle.node.specs.Kinds.{Shape, Truth, Falsehood, Atom, UnaryOf, BinaryOf, Unused, shape_of}
use Rattle.node.specs.Table.{tree_at, root}
use Rattle.node.specs.Formed.{Below, NodeIs}
use Rattle.node.proofs.TableLaws.{node-is}
use Rattle.basics.specs.Told.{max_told}
use Rattle.signal_names.specs.Runs.{puts_nothing, puts_after, puts_length}
use Rattle.signal_names.specs.Promise.{Puts}
use Rattle.layout.specs.Layout.{layout, left, sized, weight, nth}
use Rattle.layout.specs.Table.{Measurable}
use Rattle.layout.specs.SizeLaws.{sized-weight, sized-capped}
use Rattle.layout.specs.Stack.{owner, written, owed, todo, Entry, Stacked, Scene, Turns}
use Rattle.layout.specs.declared.formula.Turn.{Turn}

below_wider : (limit n m a b : ℕ) (s : Shape) → n ≤ m → Below limit s n a b → Below limit s m a b
below_wider limit n m a b Truth l h = tt
below_wider limit n m a b Falsehood l h = tt
below_wider limit n m a b Atom l h = h
below_wider limit n m a b (UnaryOf o) l h = omega arith
below_wider limit n m a b (BinaryOf o) l h = (omega (arith, h.0), omega (arith, h.1))
below_wider limit n m a b Unused l h = h

-- the sizes of the nodes before i
abbrev pub Measured : (nodes sizes lens : List ℕ) → ℕ → Type 0
Measured nodes sizes lens i = (j : ℕ) → j < i → get_or lens j 0 ≡ min max_told (weight (nth sizes) (tree_at nodes j))

module _ {nodes names sizes : List ℕ} (s : Scene nodes names sizes) where
  is : (i : ℕ) → i < length nodes
      → NodeIs s.limit nodes i (shape_of (kind_of (get_or nodes i 0))) (first_of (get_or nodes i 0)) (second_of (get_or nodes i 0))
  is i h = node-is i _ _ _ s.formed h refl refl refl

  pub measurable : (i n : ℕ) → i < length nodes → i ≤ n → Measurable sizes n (get_or nodes i 0)
  measurable i n h l =
      record { limit = s.limit; listed = s.held.sized; small = s.held.small; below = below_wider s.limit i n _ _ (shape_of (kind_of (get_or nodes i 0))) l (is i h).lower }

  pub measured-more : (lens : List ℕ) (i : ℕ) {r : ℕ} → Measured nodes sizes lens i → i < length nodes → i < length lens
      → r ≡ min max_told (sized (shape_of (kind_of (get_or nodes i 0))) (nth sizes) (nth lens) (first_of (get_or nodes i 0)) (second_of (get_or nodes i 0))) → Measured nodes sizes (set lens i r) (i + 1)
  measured-more lens i {r} m h l e =
      let word = get_or nodes i 0 in
      let shape = shape_of (kind_of word) in
      let real : ℕ → ℕ = λ j. weight (nth sizes) (tree_at nodes j) in
      let all = e ∙ sized-capped s.limit i (first_of word) (second_of word) max_told shape (nth sizes) (nth lens) real (is i h).lower m
      ∙ ap (min max_told) (sized-weight s.limit i (first_of word) (second_of word) shape (nth sizes) (tree_at nodes) (is i h).lower ∙ ap (weight (nth sizes)) (sym (is i h).tree)) in
      below_more _ i (λ j k. get_or-set_other lens i j r 0 (omega arith) ∙ m j k) (get_or-set_same lens i r 0 l ∙ all)

-- bytes written from `start` on, and what is left of the whole
pub record Emits (name : ℕ → List ℕ) (nodes stack out₀ out whole : List ℕ) (start h at : ℕ) : Type 0 where
  pub done : List ℕ
  pub rest : done ++ todo name nodes stack h ≡ whole
  pub puts : Puts done out₀ out start at
  pub stacked : Stacked nodes stack h

module _ {name : ℕ → List ℕ} {nodes names sizes : List ℕ} (s : Scene nodes names sizes) where
  pub emits_start : {stack out : List ℕ} {start : ℕ} → get_or stack 0 0 ≡ length nodes - 1 → max_nodes ≤ length stack → Emits name nodes stack out out (layout name (root nodes)) start 1 start
  unfolding left
  emits_start {stack} {out} {start} top room =
      let some = s.formed.some in
      let few = s.formed.few in
      let last = length nodes - 1 in
      let o : owner last ≡ last = omega arith in
      let n : written last ≡ 0 = omega arith in
      let entry : Entry nodes 0 last = record { low = omega arith; some = omega arith } in
      record {
        done = [];
        rest = ap (λ (e : ℕ). owed name nodes e ++ []) top ∙ append-nil (owed name nodes last) ∙ ap₂ (λ (d j : ℕ). left name d (tree_at nodes j)) n o;
        puts = puts_nothing out start;
        stacked = record {
          each = λ k l. let z : k ≡ 0 = omega arith in subst (λ (j : ℕ). Entry nodes j (get_or stack j 0)) (sym z) (subst (Entry nodes 0) (sym top) entry);
          room = room;
        };
      }

module _ {name : ℕ → List ℕ} {nodes stack out₀ out whole : List ℕ} {start h at : ℕ} (e : Emits name nodes stack out₀ out whole start h at) where
  pub emits_room : (room : ℕ) → start + length whole ≤ room → at + length (todo name nodes stack h) ≤ room
  emits_room room l = omega (arith, e.puts.next, ap length e.rest, length-append e.done (todo name nodes stack h))

  pub emits_kept : length out ≡ length out₀
  emits_kept = puts_length e.puts

  pub emits_turn : {stack' out' : List ℕ} {r : Turn} → Turns name nodes stack stack' out out' h at r → Emits name nodes stack' out₀ out' whole start r.height r.at
  emits_turn {stack'} {r = r} t =
      record {
        done = e.done ++ t.bytes;
        rest = append_assoc e.done t.bytes (todo name nodes stack' r.height) ∙ ap (λ (x : List ℕ). e.done ++ x) (sym t.split) ∙ e.rest;
        puts = puts_after e.puts t.puts;
        stacked = t.stacked;
      }

  pub emits_on : {stack' out' : List ℕ} {r : Turn} (room : ℕ) → start + length whole ≤ room → Turns name nodes stack stack' out out' h at r → (at < r.at) × (r.at ≤ room)
  emits_on {stack'} {r = r} room l t =
      let b = emits_room room l in
      let c = t.puts.next in
      let d = t.some in
      let all = length-append t.bytes (todo name nodes stack' r.height) in
      (omega arith, omega (arith, ap length t.split))

  pub emits_end : h ≡ 0 → Puts whole out₀ out start at
  emits_end z = let all : e.done ≡ whole = sym (append-nil e.done) ∙ ap (λ (n : ℕ). e.done ++ todo name nodes stack n) (sym z) ∙ e.rest in rw all at e.puts

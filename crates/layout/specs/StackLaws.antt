-- A turn of the stack: what the node on top owes, its next piece first.
use Prim.Native.Nat.{ℕ, zero, suc, ◌+◌, ◌-◌, ◌<◌, ◌≤◌}
use Rattle.std.specs.Prelude.{◌≡◌, Bool, true, false, List, [], ◌∷◌, ◌++◌, ltb, length, get_or, set}
use Rattle.std.proofs.Math.Path.{refl, ap, ap₂}
use Rattle.std.proofs.Common.{◌∙◌, sym, subst, append_assoc, length-append, length-set, get_or-set_same, get_or-set_other, add-one, arith, below_more}
use borrow.Author.Tests.{ltb-true, ltb-false}
use Rattle.node.specs.Limits.{max_nodes}
use Rattle.node.specs.Fields.{kind_of, first_of, second_of}
use Rattle.node.specs.Ltl.{Formula}
use Rattle.node.specs.Kinds.{Shape, Truth, Falsehood, Atom, UnaryOf, BinaryOf, Unused, kind_count, shape_of, build, signal_kind}
use Rattle.node.specs.Table.{tree_at}
use Rattle.node.specs.Formed.{Below, NodeIs}
use Rattle.node.proofs.TableLaws.{node-is}
use Rattle.language.specs.Bytes.{ascii}
use Rattle.basic.specs.Basic.{binary_sign}
use Rattle.signal_names.specs.Promise.{slot, Puts}
use Rattle.layout.specs.Layout.{operands, layout, left, piece_of}
use Rattle.layout.specs.Table.{following, Writable}
use Rattle.layout.specs.SizeLaws.{kind-below, atom_below}
use Rattle.layout.specs.Stack.{owner, written, owed, todo, shape_at, Entry, Stacked, Scene, operand_at, Turns}

pub operand-first : (k a b : ℕ) → k ≡ 0 → a ≡ operand_at k a b
operand-first zero a b e = refl
operand-first (suc k) a b e = absurd (omega arith)

pub operand-second : (k a b : ℕ) → (k ≡ 0 → ⊥) → b ≡ operand_at k a b
operand-second zero a b e = absurd (e refl)
operand-second (suc k) a b e = refl

-- a node's text after k operands: the next piece, then the next operand and the rest; or the last piece
module _ (name : ℕ → List ℕ) (tree : ℕ → Formula) (limit n a b : ℕ) where
  left-last : (s : Shape) (k : ℕ) → Below limit s n a b → k ≤ operands s → following s k ≡ false → left name k (build s tree a b) ≡ piece_of name s k a
  unfolding left layout
  left-last Truth zero h l f = refl
  left-last Truth (suc k) h l f = absurd (omega arith)
  left-last Falsehood zero h l f = refl
  left-last Falsehood (suc k) h l f = absurd (omega arith)
  left-last Atom zero h l f = refl
  left-last Atom (suc k) h l f = absurd (omega arith)
  left-last (UnaryOf o) zero h l f = absurd (omega (arith, ltb-false 0 1 f))
  left-last (UnaryOf o) (suc zero) h l f = refl
  left-last (UnaryOf o) (suc (suc k)) h l f = absurd (omega arith)
  left-last (BinaryOf o) zero h l f = absurd (omega (arith, ltb-false 0 2 f))
  left-last (BinaryOf o) (suc zero) h l f = absurd (omega (arith, ltb-false 1 2 f))
  left-last (BinaryOf o) (suc (suc zero)) h l f = refl
  left-last (BinaryOf o) (suc (suc (suc k))) h l f = absurd (omega arith)
  left-last Unused k h l f = absurd h

  left-more : (s : Shape) (k : ℕ) → following s k ≡ true → left name k (build s tree a b) ≡ piece_of name s k a ++ (layout name (tree (operand_at k a b)) ++ left name (suc k) (build s tree a b))
  unfolding left layout
  left-more Truth k f = absurd (omega (arith, ltb-true k 0 f))
  left-more Falsehood k f = absurd (omega (arith, ltb-true k 0 f))
  left-more Atom k f = absurd (omega (arith, ltb-true k 0 f))
  left-more (UnaryOf o) zero f = refl
  left-more (UnaryOf o) (suc k) f = absurd (omega (arith, ltb-true (suc k) 1 f))
  left-more (BinaryOf o) zero f = refl
  left-more (BinaryOf o) (suc zero) f = refl
  left-more (BinaryOf o) (suc (suc k)) f = absurd (omega (arith, ltb-true (suc (suc k)) 2 f))
  left-more Unused k f = absurd (omega (arith, ltb-true k 0 f))

  -- a piece is not empty
  piece_some : (s : Shape) (k : ℕ) → Below limit s n a b → k ≤ operands s → 0 < length (piece_of name s k a)
  piece_some Truth zero h l = omega arith
  piece_some Truth (suc k) h l = absurd (omega arith)
  piece_some Falsehood zero h l = omega arith
  piece_some Falsehood (suc k) h l = absurd (omega arith)
  piece_some Atom k h l = omega arith
  piece_some (UnaryOf o) zero h l = omega arith
  piece_some (UnaryOf o) (suc zero) h l = omega arith
  piece_some (UnaryOf o) (suc (suc k)) h l = absurd (omega arith)
  piece_some (BinaryOf o) zero h l = omega arith
  piece_some (BinaryOf o) (suc zero) h l = omega (arith, length-append (ascii (binary_sign o)) (32 ∷ []))
  piece_some (BinaryOf o) (suc (suc zero)) h l = omega arith
  piece_some (BinaryOf o) (suc (suc (suc k))) h l = absurd (omega arith)
  piece_some Unused k h l = absurd h

  -- an operand comes before the node
  operand_below : (s : Shape) (k : ℕ) → Below limit s n a b → following s k ≡ true → operand_at k a b < n
  operand_below Truth k h f = absurd (omega (arith, ltb-true k 0 f))
  operand_below Falsehood k h f = absurd (omega (arith, ltb-true k 0 f))
  operand_below Atom k h f = absurd (omega (arith, ltb-true k 0 f))
  operand_below (UnaryOf o) zero h f = h
  operand_below (UnaryOf o) (suc k) h f = absurd (omega (arith, ltb-true (suc k) 1 f))
  operand_below (BinaryOf o) zero h f = h.0
  operand_below (BinaryOf o) (suc k) h f = h.1
  operand_below Unused k h f = absurd h

-- entries from the top on do not touch what the lower ones owe
todo-same : (name : ℕ → List ℕ) (nodes stack stack' : List ℕ) (h : ℕ) → ((k : ℕ) → k < h → get_or stack' k 0 ≡ get_or stack k 0) → todo name nodes stack' h ≡ todo name nodes stack h
todo-same name nodes stack stack' zero e = refl
todo-same name nodes stack stack' (suc h) e =
    ap₂ (λ (x : ℕ) (s : List ℕ). owed name nodes x ++ s) (e h (omega arith)) (todo-same name nodes stack stack' h (λ k l. e k (omega arith)))

-- the node on top, with its kind and first field
abbrev pub top_of : List ℕ → ℕ → ℕ
top_of stack h = get_or stack (h - 1) 0

pub record Top (nodes names sizes stack : List ℕ) (h kind first : ℕ) : Type 0 where
  pub scene : Scene nodes names sizes
  pub stacked : Stacked nodes stack h
  pub some : 0 < h
  pub kind-is : kind ≡ kind_of (get_or nodes (owner (top_of stack h)) 0)
  pub first-is : first ≡ first_of (get_or nodes (owner (top_of stack h)) 0)

module _ {nodes names sizes stack : List ℕ} {h : ℕ} (s : Scene nodes names sizes) (k : Stacked nodes stack h) (some : 0 < h) where
  pub node-inside : owner (top_of stack h) < length nodes
  node-inside = omega (arith, (k.each (h - 1) (omega arith)).low)

  pub high : h ≤ max_nodes
  high = omega (arith, (k.each (h - 1) (omega arith)).low, s.formed.few)

  pub top-at : {kind first : ℕ} → kind ≡ kind_of (get_or nodes (owner (top_of stack h)) 0) → first ≡ first_of (get_or nodes (owner (top_of stack h)) 0) → Top nodes names sizes stack h kind first
  top-at a b = record { scene = s; stacked = k; some = some; kind-is = a; first-is = b }

module _ {nodes names sizes stack : List ℕ} {h kind first : ℕ} (t : Top nodes names sizes stack h kind first) where
  abbrev name : ℕ → List ℕ
  name = slot names sizes

  abbrev limit : ℕ
  limit = t.scene.limit

  abbrev top : ℕ
  top = h - 1

  abbrev i : ℕ
  i = owner (top_of stack h)

  abbrev done : ℕ
  done = written (top_of stack h)

  abbrev second : ℕ
  second = second_of (get_or nodes i 0)

  at_top : Entry nodes top (top_of stack h)
  at_top = let some = t.some in t.stacked.each top (omega arith)

  inside : i < length nodes
  inside = node-inside t.scene t.stacked t.some

  is : NodeIs limit nodes i (shape_of kind) first second
  is = node-is i kind first second t.scene.formed inside t.kind-is t.first-is refl

  pub kind-small : kind < kind_count
  kind-small = kind-below limit i first second kind is.lower

  few : done ≤ operands (shape_of kind)
  few = rw t.kind-is at_top.some

  pub done-small : done < 3
  done-small = go (shape_of kind) few
    where
      go : (x : Shape) → done ≤ operands x → done < 3
      go Truth l = omega arith
      go Falsehood l = omega arith
      go Atom l = omega arith
      go (UnaryOf o) l = omega arith
      go (BinaryOf o) l = omega arith
      go Unused l = omega arith

  pub top_writable : Writable names sizes kind first done
  top_writable =
      let below = atom_below limit i first second kind is.lower in
      let held = t.scene.held in
      record {
        start = λ e. let l : done ≤ operands (shape_of signal_kind) = rw e at few in omega arith;
        listed = λ e. omega (arith, below e, held.sized);
        small = λ e. held.small first (below e);
        room = λ e. omega (arith, below e, held.room);
      }

  abbrev whole : List ℕ
  whole = piece_of name (shape_of kind) done first

  -- what the stack owes, the top's part first
  top_owes : todo name nodes stack h ≡ left name done (tree_at nodes i) ++ todo name nodes stack top
  top_owes = let some = t.some in let e : h ≡ suc top = omega arith in ap (todo name nodes stack) e

  tree_is : left name done (tree_at nodes i) ≡ left name done (build (shape_of kind) (tree_at nodes) first second)
  tree_is = ap (left name done) is.tree

  owes_last : following (shape_of kind) done ≡ false → todo name nodes stack h ≡ whole ++ todo name nodes stack top
  owes_last f =
      top_owes ∙ ap (λ (x : List ℕ). x ++ todo name nodes stack top) (tree_is ∙ left-last name (tree_at nodes) limit i first second (shape_of kind) done is.lower few f)

  abbrev child : ℕ
  child = operand_at done first second

  abbrev below_top : List ℕ
  below_top = todo name nodes stack top

  owes_more : following (shape_of kind) done ≡ true
      → todo name nodes stack h ≡ whole ++ (layout name (tree_at nodes child) ++ (left name (suc done) (tree_at nodes i) ++ below_top))
  owes_more f =
      let a = layout name (tree_at nodes child) in
      let b = left name (suc done) (tree_at nodes i) in
      let node = ap (λ (x : Formula). whole ++ (a ++ left name (suc done) x)) (sym is.tree) in
      top_owes ∙ ap (λ (x : List ℕ). x ++ below_top) (tree_is ∙ left-more name (tree_at nodes) limit i first second (shape_of kind) done f ∙ node)
      ∙ append_assoc whole (a ++ b) below_top ∙ ap (λ (x : List ℕ). whole ++ x) (append_assoc a b below_top)

  pub piece-room : (at room : ℕ) → at + length (todo name nodes stack h) ≤ room → at + length whole ≤ room
  piece-room at room l = go (following (shape_of kind) done) refl
    where
      go : (b : Bool) → following (shape_of kind) done ≡ b → at + length whole ≤ room
      go true f = omega (arith, ap length (owes_more f), length-append whole (layout name (tree_at nodes child) ++ (left name (suc done) (tree_at nodes i) ++ below_top)))
      go false f = omega (arith, ap length (owes_last f), length-append whole below_top)

  -- an operand's number is smaller, so there is room for it
  pub stack_fits : following (shape_of kind) done ≡ true → h < length stack
  stack_fits f =
      let some = t.some in
      omega (arith, at_top.low, operand_below name (tree_at nodes) limit i first second (shape_of kind) done is.lower f, t.scene.formed.few, t.stacked.room)

  some_bytes : 0 < length whole
  some_bytes = piece_some name (tree_at nodes) limit i first second (shape_of kind) done is.lower few

  module _ {out out' : List ℕ} {at m : ℕ} (p : Puts whole out out' at m) where
    -- the last piece: the entry goes
    pub turn_last : following (shape_of kind) done ≡ false → Turns name nodes stack stack out out' h at (record { height = h - 1; at = m })
    turn_last f =
        record {
          bytes = whole;
          split = owes_last f;
          puts = p;
          some = some_bytes;
          stacked = record { each = λ j l. t.stacked.each j (omega arith); room = t.stacked.room };
          kept = refl;
        }

    -- an operand follows: the entry counts it, and it comes on top
    module _ (f : following (shape_of kind) done ≡ true) (r : ℕ) (next : r ≡ operand_at done (first_of (get_or nodes i 0)) second) where
      abbrev counted : List ℕ
      counted = set stack top (top_of stack h + max_nodes)

      abbrev pushed : List ℕ
      pushed = set counted h r

      next-is : r ≡ child
      next-is = next ∙ ap (λ (a : ℕ). operand_at done a second) (sym t.first-is)

      lower : r < i
      lower = omega (arith, next-is, operand_below name (tree_at nodes) limit i first second (shape_of kind) done is.lower f)

      small : i < max_nodes
      small = omega arith

      fits : h < length stack
      fits = stack_fits f

      at-h : get_or pushed h 0 ≡ r
      at-h = get_or-set_same counted h r 0 (rw length-set fits)

      at_own : get_or pushed top 0 ≡ top_of stack h + max_nodes
      at_own = let some = t.some in get_or-set_other counted h top r 0 (omega arith) ∙ get_or-set_same stack top (top_of stack h + max_nodes) 0 (omega (arith, fits))

      at-lower : (j : ℕ) → j < top → get_or pushed j 0 ≡ get_or stack j 0
      at-lower j l = get_or-set_other counted h j r 0 (omega arith) ∙ get_or-set_other stack top j (top_of stack h + max_nodes) 0 (omega arith)

      own_entry_lem : Entry nodes top (top_of stack h + max_nodes)
      own_entry_lem =
          let o : owner (top_of stack h + max_nodes) ≡ i = omega arith in
          let n : written (top_of stack h + max_nodes) ≡ suc done = omega arith in
          let more : done < operands (shape_of kind) = ltb-true done (operands (shape_of kind)) f in
          let all : suc done ≤ operands (shape_at nodes i) = rw t.kind-is at more in
          record { low = rw o at_top.low; some = rw (o, n) all }

      new-entry : Entry nodes h r
      new-entry =
          let some = t.some in
          let o : owner r ≡ r = omega (arith, lower, small) in
          let n : written r ≡ 0 = omega (arith, lower, small) in
          record { low = omega (arith, o, lower, at_top.low); some = omega (arith, n) }

      all-entries : (j : ℕ) → j < h + 1 → Entry nodes j (get_or pushed j 0)
      all-entries = below_more _ h (λ j l. go j (ltb j top) refl l) (subst (Entry nodes h) (sym at-h) new-entry)
        where
          go : (j : ℕ) (b : Bool) → ltb j top ≡ b → j < h → Entry nodes j (get_or pushed j 0)
          go j true e l = let m = ltb-true j top e in subst (Entry nodes j) (sym (at-lower j m)) (t.stacked.each j l)
          go j false e l =
              let m = ltb-false j top e in
              let same : j ≡ top = omega arith in
              subst (λ (x : ℕ). Entry nodes x (get_or pushed x 0)) (sym same) (subst (Entry nodes top) (sym at_own) own_entry_lem)

      owed-new : owed name nodes (get_or pushed h 0) ≡ layout name (tree_at nodes child)
      unfolding left
      owed-new =
          let o : owner r ≡ r = omega (arith, lower, small) in
          let n : written r ≡ 0 = omega (arith, lower, small) in
          ap (owed name nodes) at-h ∙ ap₂ (λ (d j : ℕ). left name d (tree_at nodes j)) n (o ∙ next-is)

      owed-own : owed name nodes (get_or pushed top 0) ≡ left name (suc done) (tree_at nodes i)
      owed-own =
          let o : owner (top_of stack h + max_nodes) ≡ i = omega arith in
          let n : written (top_of stack h + max_nodes) ≡ suc done = omega arith in
          ap (owed name nodes) at_own ∙ ap₂ (λ (d j : ℕ). left name d (tree_at nodes j)) n o

      owes-next : todo name nodes pushed (h + 1) ≡ layout name (tree_at nodes child) ++ (left name (suc done) (tree_at nodes i) ++ below_top)
      owes-next =
          let some = t.some in
          let e : h ≡ suc top = omega arith in
          ap (todo name nodes pushed) (add-one h)
          ∙ ap₂ ◌++◌ owed-new (ap (todo name nodes pushed) e ∙ ap₂ ◌++◌ owed-own (todo-same name nodes stack pushed top at-lower))

      pub turn_more : Turns name nodes stack pushed out out' h at (record { height = h + 1; at = m })
      turn_more =
          record {
            bytes = whole;
            split = owes_more f ∙ ap (λ (x : List ℕ). whole ++ x) (sym owes-next);
            puts = p;
            some = some_bytes;
            stacked = record { each = all-entries; room = rw (length-set, length-set) t.stacked.room };
            kept = simp length-set;
          }

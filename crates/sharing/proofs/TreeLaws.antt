-- A table that was written is one of the format, and the tree at a formula's number is the formula.
use Prim.Native.Nat.{ℕ, ◌<◌, ◌≤◌}
use Rattle.std.specs.Prelude.{◌≡◌, List, [], ◌∷◌, ◌++◌, true, get_or}
use Rattle.std.proofs.Math.Path.{refl, ap, ap₂}
use Rattle.std.proofs.Common.{◌∙◌, subst, length-append, arith}
use Rattle.std.proofs.Math.ListN.{length, get_or-append}
use Rattle.std.proofs.lemmas.List.{get_or_at}
use Rattle.std.proofs.Math.Decide.{dec_lt}
use borrow.Author.Tests.{lt-ltb}
use Rattle.node.specs.Limits.{field_limit}
use Rattle.node.specs.Ltl.{Formula, True, False, Signal, One, Two}
use Rattle.node.specs.Fields.{pack, kind_of, first_of, second_of}
use Rattle.node.proofs.FieldLaws.{kind-pack, first-pack, second-pack}
use Rattle.node.specs.Kinds.{Shape, shape_of, build, unary_kind, binary_kind, true_kind, false_kind, signal_kind}
use Rattle.node.proofs.KindLaws.{unary-shape, binary-shape}
use Rattle.node.specs.Table.{tree_at, node_fits}
use Rattle.node.proofs.TableLaws.{tree-step}
use Rattle.node.specs.Postorder.{SignalsBelow}
use Rattle.node.proofs.FormatLaws.{fits-pack}
use Rattle.sharing.specs.Sharing.{having, write}
use Rattle.sharing.proofs.PlaceLaws.{word_at, Placing, stood, added, placing}
use Rattle.sharing.proofs.WriteLaws.{having-grows, write-grows, grows-length, write-inside}
use Rattle.sharing.proofs.StandsLaws.{At, Found, found_inside}

-- each word may stand as the node that it is
abbrev pub Fits : ℕ → List ℕ → Type 0
Fits limit t = (i : ℕ) → i < length t → node_fits limit i (get_or t i 0) ≡ true

pub fits_none : (limit : ℕ) → Fits limit []
fits_none limit i h = absurd (omega arith)

fits-having : (limit : ℕ) (t : List ℕ) (w : ℕ) → node_fits limit (length t) w ≡ true → Fits limit t → Fits limit (having t w)
fits-having limit t w ok f = go (placing t w)
  where
    new : (i : ℕ) → i < length (t ++ (w ∷ [])) → Dec (i < length t) → node_fits limit i (get_or (t ++ (w ∷ [])) i 0) ≡ true
    new i h (yes l) = rw (get_or-append t (w ∷ []) 0 i l) (f i l)
    new i h (no l) =
        let q = length-append t (w ∷ []) in
        let e : length t ≡ i = omega arith in
        rw (get_or_at t w [] 0 i e) (subst (λ (n : ℕ). node_fits limit n w ≡ true) e ok)

    go : Placing t w → Fits limit (having t w)
    go (stood h e) = rw e f
    go (added p e) = rw e (λ i h. new i h (dec_lt i (length t)))

-- a table that was written fits, if the fields hold its numbers
module _ (limit : ℕ) (small : limit ≤ field_limit) where
  pub fits-write : (t : List ℕ) (f : Formula) → SignalsBelow limit f → length (write t f).table ≤ field_limit → Fits limit t → Fits limit (write t f).table
  unfolding write SignalsBelow
  fits-write t True s h g = fits-having limit t (pack true_kind 0 0) (fits-pack limit (length t) true_kind 0 0 (omega arith) (omega arith) refl refl) g
  fits-write t False s h g = fits-having limit t (pack false_kind 0 0) (fits-pack limit (length t) false_kind 0 0 (omega arith) (omega arith) refl refl) g
  fits-write t (Signal k) s h g =
      fits-having limit t (pack signal_kind k 0) (fits-pack limit (length t) signal_kind k 0 (omega arith) (omega arith) refl (rw (lt-ltb k limit s))) g
  fits-write t (One o a) s h g =
      let x = write t a in
      let w : ℕ = pack (unary_kind o) x.number 0 in
      let i = write-inside t a in
      let l = grows-length (having-grows x.table w) in
      fits-having limit x.table w
      (fits-pack limit (length x.table) (unary_kind o) x.number 0 (omega arith) (omega arith) (unary-shape o) (rw (lt-ltb x.number (length x.table) i)))
      (fits-write t a s (omega arith) g)
  fits-write t (Two o a b) s h g =
      let x = write t a in
      let y = write x.table b in
      let w : ℕ = pack (binary_kind o) x.number y.number in
      let m = grows-length (write-grows x.table b) in
      let l = grows-length (having-grows y.table w) in
      let i : x.number < length y.table = omega (arith, write-inside t a) in
      let j = write-inside x.table b in
      fits-having limit y.table w
      (fits-pack limit (length y.table) (binary_kind o) x.number y.number (omega arith) (omega arith) (binary-shape o)
      (rw (lt-ltb x.number (length y.table) i, lt-ltb y.number (length y.table) j)))
      (fits-write x.table b s.1 (omega arith) (fits-write t a s.0 (omega arith) g))

-- the tree at a word that was put together
module _ (limit : ℕ) (t : List ℕ) (g : Fits limit t) (few : length t ≤ field_limit) where
  tree-pack : (k a b v : ℕ) {s : Shape} → a < field_limit → b < field_limit → shape_of k ≡ s → At t (pack k a b) v → tree_at t v ≡ build s (tree_at t) a b
  tree-pack k a b v ha hb e h =
      let i = h.inside in
      let p = h.found in
      let w : get_or t v 0 ≡ pack k a b = subst (λ (n : ℕ). get_or t n 0 ≡ pack k a b) p (word_at t (pack k a b) (omega arith)) in
      tree-step limit t v i (g v i) ∙ ap (λ (x : ℕ). build (shape_of (kind_of x)) (tree_at t) (first_of x) (second_of x)) w
      ∙ simp (kind-pack k ha hb, first-pack k ha hb, second-pack k a hb, e)

  -- the tree at a formula's number is the formula
  pub found-tree : (f : Formula) (v : ℕ) → SignalsBelow field_limit f → Found t f v → tree_at t v ≡ f
  unfolding Found SignalsBelow
  found-tree True v s h = tree-pack true_kind 0 0 v (omega arith) (omega arith) refl h
  found-tree False v s h = tree-pack false_kind 0 0 v (omega arith) (omega arith) refl h
  found-tree (Signal k) v s h = tree-pack signal_kind k 0 v s (omega arith) refl h
  found-tree (One o a) v s h =
      let i = found_inside t a h.0 h.1 in
      tree-pack (unary_kind o) h.0 0 v (omega arith) (omega arith) (unary-shape o) h.2 ∙ ap (One o) (found-tree a h.0 s h.1)
  found-tree (Two o a b) v s h =
      let i = found_inside t a h.0 h.2 in
      let j = found_inside t b h.1 h.3 in
      tree-pack (binary_kind o) h.0 h.1 v (omega arith) (omega arith) (binary-shape o) h.4
      ∙ ap₂ (Two o) (found-tree a h.0 s.0 h.2) (found-tree b h.1 s.1 h.3)

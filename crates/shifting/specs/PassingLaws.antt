-- The pass writes the nodes of the formula with an X above each late signal.
use Prim.Native.Nat.{ℕ, zero, suc, ◌+◌, ◌-◌, ◌<◌, ◌≤◌}
use Rattle.std.specs.Prelude.{Bool, ◌&&◌, ◌≡◌, eqb, ltb}
use Rattle.std.proofs.Math.Bool.{true, false}
use mathlib.Core.List.{List, [], ◌∷◌, ◌++◌}
use Rattle.std.proofs.Math.Path.{refl, ap, ap₂, sym}
use Rattle.std.proofs.Common.{◌∙◌}
use Rattle.std.proofs.Math.ListN.{length, get_or, length-append, get_or-append}
use Rattle.std.proofs.Math.Seq.{get_or_at}
use Rattle.std.proofs.Math.Decide.{dec_lt}
use native.Mathlib.Omega.{arith}
use Rattle.node.specs.Limits.{field_limit}
use Rattle.node.specs.Fields.{pack}
use Rattle.node.proofs.FieldLaws.{kind-pack, first-pack, second-pack}
use Rattle.node.specs.Ltl.{Unary, Not, X, G, F, Binary, And, Or, Implies, Iff, U, R, W, Signal, One}
use Rattle.node.specs.Kinds.{unary_kind, binary_kind, true_kind, false_kind, signal_kind, has_two}
use Rattle.node.specs.Postorder.{size, nodes_from}
use Rattle.language.specs.Bytes.{if◌then◌otherwise◌}
use Rattle.language.specs.Shifting.{shifted}
use Rattle.writing.specs.OperandLaws.{size-signal, nodes_true, nodes_false, nodes-signal, nodes-one}
use Rattle.writing.specs.PassLaws.{Passes}
use Rattle.shifting.specs.Passing.{renumbered, is_late, written, Pass, passes, passed}

-- a node by its kind and its fields
module _ (k a b : ℕ) (ha : a < field_limit) (hb : b < field_limit) where
  renumbered-fields : (ns : List ℕ) → renumbered ns (pack k a b) ≡ (if ltb k (unary_kind Not) then pack k a b otherwise pack k (get_or ns a 0) (if has_two k then get_or ns b 0 otherwise 0))
  unfolding renumbered
  renumbered-fields ns = simp (kind-pack k ha hb, first-pack k ha hb, second-pack k a hb)

  late-fields : (late : ℕ → Bool) → is_late late (pack k a b) ≡ (eqb k signal_kind && late a)
  late-fields late = simp (kind-pack k ha hb, first-pack k ha hb)

module _ (ns : List ℕ) (late : ℕ → Bool) where
  unary-fields : (o : Unary) (a : ℕ) → a < field_limit → (renumbered ns (pack (unary_kind o) a 0) ≡ pack (unary_kind o) (get_or ns a 0) 0) × (is_late late (pack (unary_kind o) a 0) ≡ false)
  unary-fields Not a h = (renumbered-fields 3 a 0 h (omega arith) ns, late-fields 3 a 0 h (omega arith) late)
  unary-fields X a h = (renumbered-fields 8 a 0 h (omega arith) ns, late-fields 8 a 0 h (omega arith) late)
  unary-fields G a h = (renumbered-fields 9 a 0 h (omega arith) ns, late-fields 9 a 0 h (omega arith) late)
  unary-fields F a h = (renumbered-fields 10 a 0 h (omega arith) ns, late-fields 10 a 0 h (omega arith) late)

  binary-fields : (o : Binary) (a b : ℕ) → a < field_limit → b < field_limit
      → (renumbered ns (pack (binary_kind o) a b) ≡ pack (binary_kind o) (get_or ns a 0) (get_or ns b 0)) × (is_late late (pack (binary_kind o) a b) ≡ false)
  binary-fields And a b h g = (renumbered-fields 4 a b h g ns, late-fields 4 a b h g late)
  binary-fields Or a b h g = (renumbered-fields 5 a b h g ns, late-fields 5 a b h g late)
  binary-fields Implies a b h g = (renumbered-fields 6 a b h g ns, late-fields 6 a b h g late)
  binary-fields Iff a b h g = (renumbered-fields 7 a b h g ns, late-fields 7 a b h g late)
  binary-fields U a b h g = (renumbered-fields 11 a b h g ns, late-fields 11 a b h g late)
  binary-fields R a b h g = (renumbered-fields 12 a b h g ns, late-fields 12 a b h g late)
  binary-fields W a b h g = (renumbered-fields 13 a b h g ns, late-fields 13 a b h g late)

module _ (late : ℕ → Bool) (table : List ℕ) where
  abbrev after : ℕ → Pass
  after n = passed late table n

  pub passed-next : (n : ℕ) → passed late table (n + 1) ≡ passes late (after n) (get_or table n 0)
  unfolding passed
  passed-next n = ap after (let z : n + 1 ≡ suc n = omega arith in z)

  pub passed-numbers : (n : ℕ) → length (after n).numbers ≡ n
  unfolding passed
  passed-numbers zero = refl
  passed-numbers (suc n) = length-append (after n).numbers _ ∙ omega (arith, passed-numbers n)

  -- the pass does not take back what it wrote
  pub passed-grows : (n k : ℕ) → length (after n).words ≤ length (after (n + k)).words
  unfolding passed
  passed-grows n zero = let e : after (n + 0) ≡ after n = ap after (let z : n + 0 ≡ n = omega arith in z) in rw e (omega arith)
  passed-grows n (suc k) =
      let e : after (n + suc k) ≡ after (suc (n + k)) = ap after (let z : n + suc k ≡ suc (n + k) = omega arith in z) in
      let l = length-append (after (n + k)).words (written (is_late late (get_or table (n + k) 0)) (length (after (n + k)).words) (renumbered (after (n + k)).numbers (get_or table (n + k) 0))) in
      rw e (omega (arith, passed-grows n k))

  -- the new number of a node is that of the last node written for it
  number_is : (n j : ℕ) → j < n → get_or (after n).numbers j 0 ≡ length (after (j + 1)).words - 1
  unfolding passed
  number_is zero j h = absurd (omega arith)
  number_is (suc n) j h = go (number_is n j) (dec_lt j n)
    where
      go : (j < n → get_or (after n).numbers j 0 ≡ length (after (j + 1)).words - 1) → Dec (j < n) → get_or (after (suc n)).numbers j 0 ≡ length (after (j + 1)).words - 1
      go f (yes l) = get_or-append (after n).numbers _ 0 j (omega (arith, passed-numbers n)) ∙ f l
      go f (no l) =
          let same : suc n ≡ j + 1 = omega arith in
          get_or_at (after n).numbers _ [] 0 j (omega (arith, passed-numbers n)) ∙ ap (λ (k : ℕ). length (after k).words - 1) same

  -- one node more: it is not late, or it is a signal's
  one_more : (n : ℕ) {w v : ℕ} (b : Bool) → get_or table n 0 ≡ w → renumbered (after n).numbers w ≡ v → is_late late w ≡ b
      → (after (n + 1)).words ≡ (after n).words ++ written b (length (after n).words) v
  one_more n {w} {v} b e r l =
      ap (λ (p : Pass). p.words) (passed-next n)
      ∙ ap (λ (x : ℕ). (after n).words ++ written (is_late late x) (length (after n).words) (renumbered (after n).numbers x)) e
      ∙ ap₂ (λ (c : Bool) (x : ℕ). (after n).words ++ written c (length (after n).words) x) l r

  -- a signal's node, and X above it where it is late
  signal-nodes : (at k : ℕ) (b : Bool) → written b at (pack signal_kind k 0) ≡ nodes_from at (elim b [ true ↦ One X (Signal k) | false ↦ Signal k ])
  unfolding written
  signal-nodes at k true =
      let one = size-signal k in
      let z : at + size (Signal k) - 1 ≡ at = omega arith in
      sym (nodes-one at X (Signal k) ∙ ap₂ (λ (ws : List ℕ) (n : ℕ). ws ++ (pack (unary_kind X) n 0 ∷ [])) (nodes-signal at k) z)
  signal-nodes at k false = sym (nodes-signal at k)

  -- whatever formula's nodes are passed: X above its late signals is what is made of it
  pub passed-passes : Passes table (λ (n : ℕ). (after n).words) (shifted late)
  unfolding written
  passed-passes = record {
    truth = λ n e.
        one_more n false e (renumbered-fields true_kind 0 0 (omega arith) (omega arith) _) (late-fields true_kind 0 0 (omega arith) (omega arith) late)
        ∙ ap (λ (ws : List ℕ). (after n).words ++ ws) (sym (nodes_true (length (after n).words)));
    falsehood = λ n e.
        one_more n false e (renumbered-fields false_kind 0 0 (omega arith) (omega arith) _) (late-fields false_kind 0 0 (omega arith) (omega arith) late)
        ∙ ap (λ (ws : List ℕ). (after n).words ++ ws) (sym (nodes_false (length (after n).words)));
    signal = λ n k h e.
        one_more n (late k) e (renumbered-fields signal_kind k 0 h (omega arith) _) (late-fields signal_kind k 0 h (omega arith) late)
        ∙ ap (λ (ws : List ℕ). (after n).words ++ ws) (signal-nodes (length (after n).words) k (late k));
    one = λ n o a l h e.
        let own = unary-fields (after n).numbers late o a (omega arith) in
        one_more n false e (own.0 ∙ ap (λ (k : ℕ). pack (unary_kind o) k 0) (number_is n a l)) own.1;
    two = λ n o a b l m h e.
        let own = binary-fields (after n).numbers late o a b (omega arith) (omega arith) in
        one_more n false e (own.0 ∙ ap₂ (λ (j k : ℕ). pack (binary_kind o) j k) (number_is n a l) (number_is n b m)) own.1;
    made_one = λ o a. refl;
    made-two = λ o a b. refl;
  }

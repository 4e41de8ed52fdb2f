-- A pass over a formula's nodes that writes each once more, with its operands' new numbers, and another formula for each leaf: what it writes are the nodes of the
-- formula that this makes.
use Prim.Native.Nat.{ℕ, ◌+◌, ◌-◌, ◌<◌, ◌≤◌}
use mathlib.Core.List.{List, [], ◌∷◌, ◌++◌, append_assoc}
use Rattle.std.specs.Prelude.{◌≡◌, get_or}
use Rattle.std.proofs.Math.Path.{ap, ap₂, sym, subst}
use Rattle.std.proofs.Common.{◌∙◌, length-append, get_or-append-add}
use Rattle.std.proofs.Math.ListN.{length, get_or-append}
use native.Mathlib.Omega.{arith}
use Rattle.node.specs.Limits.{max_nodes, field_limit}
use Rattle.node.specs.Fields.{pack}
use Rattle.node.specs.Ltl.{Unary, Binary, Formula, True, False, Signal, One, Two}
use Rattle.node.specs.Kinds.{unary_kind, binary_kind, true_kind, false_kind, signal_kind}
use Rattle.node.specs.Postorder.{size, nodes_from, SignalsBelow}
use Rattle.node.proofs.PostorderLaws.{size_pos, length-nodes}
use Rattle.writing.specs.Parts.{Stands}
use Rattle.writing.specs.PartLaws.{get_d_part}
use Rattle.writing.specs.OperandLaws.{size_true, size_false, size-signal, size-one, size-two, nodes_true, nodes_false, nodes-signal, nodes-one, nodes-two}

-- the words that a pass has written after the first n nodes of a table, and what it makes of a formula
pub record Passes (table : List ℕ) (words : ℕ → List ℕ) (made : Formula → Formula) : Type 0 where
  pub truth : (n : ℕ) → get_or table n 0 ≡ pack true_kind 0 0 → words (n + 1) ≡ words n ++ nodes_from (length (words n)) (made True)
  pub falsehood : (n : ℕ) → get_or table n 0 ≡ pack false_kind 0 0 → words (n + 1) ≡ words n ++ nodes_from (length (words n)) (made False)
  pub signal : (n k : ℕ) → k < field_limit → get_or table n 0 ≡ pack signal_kind k 0 → words (n + 1) ≡ words n ++ nodes_from (length (words n)) (made (Signal k))
  -- an operand's new number is that of the last word written for it
  pub one : (n : ℕ) (o : Unary) (a : ℕ) → a < n → n < max_nodes → get_or table n 0 ≡ pack (unary_kind o) a 0
      → words (n + 1) ≡ words n ++ (pack (unary_kind o) (length (words (a + 1)) - 1) 0 ∷ [])
  pub two : (n : ℕ) (o : Binary) (a b : ℕ) → a < n → b < n → n < max_nodes → get_or table n 0 ≡ pack (binary_kind o) a b
      → words (n + 1) ≡ words n ++ (pack (binary_kind o) (length (words (a + 1)) - 1) (length (words (b + 1)) - 1) ∷ [])
  pub made_one : (o : Unary) (a : Formula) → made (One o a) ≡ One o (made a)
  pub made-two : (o : Binary) (a b : Formula) → made (Two o a b) ≡ Two o (made a) (made b)

-- words that stand in a table from an index on
record At (table : List ℕ) (base : ℕ) (ws : List ℕ) : Type 0 where
  reads : (j : ℕ) → j < length ws → get_or table (base + j) 0 ≡ get_or ws j 0

at_left_lem : {table : List ℕ} {base : ℕ} (us vs : List ℕ) → At table base (us ++ vs) → At table base us
at_left_lem us vs h = record { reads = λ j l. h.reads j (omega (arith, length-append us vs)) ∙ get_or-append us vs 0 j l }

at_right_lem : {table : List ℕ} {base : ℕ} (us vs : List ℕ) (n : ℕ) → length us ≡ n → At table base (us ++ vs) → At table (base + n) vs
at_right_lem {table} {base} us vs n e h = record {
  reads = λ j l.
      let z : base + n + j ≡ base + (length us + j) = omega arith in
      ap (λ (k : ℕ). get_or table k 0) z ∙ h.reads (length us + j) (omega (arith, length-append us vs)) ∙ get_or-append-add us vs j 0;
}

at_one : {table : List ℕ} {base w : ℕ} → At table base (w ∷ []) → get_or table base 0 ≡ w
at_one {table} {base} h = ap (λ (k : ℕ). get_or table k 0) (let z : base ≡ base + 0 = omega arith in z) ∙ h.reads 0 (omega arith)

module _ {table : List ℕ} {words : ℕ → List ℕ} {made : Formula → Formula} (p : Passes table words made) where
  abbrev Grown : ℕ → Formula → Type 0
  Grown base f = words (base + size f) ≡ words base ++ nodes_from (length (words base)) (made f)

  -- the new number of a formula's last node
  grown-length : (base : ℕ) (f : Formula) → Grown base f → length (words (base + size f)) ≡ length (words base) + size (made f)
  grown-length base f g =
      let at = length (words base) in
      ap length g ∙ omega (arith, length-append (words base) (nodes_from at (made f)), length-nodes at (made f))

  root-number : (base : ℕ) (f : Formula) → Grown base f → length (words (base + size f - 1 + 1)) - 1 ≡ length (words base) + size (made f) - 1
  root-number base f g =
      let some = size_pos f in
      let same : base + size f - 1 + 1 ≡ base + size f = omega arith in
      ap (λ (k : ℕ). length (words k) - 1) same ∙ ap (λ (k : ℕ). k - 1) (grown-length base f g)

  -- a leaf's one node
  leaf : (base : ℕ) (f : Formula) → size f ≡ 1 → words (base + 1) ≡ words base ++ nodes_from (length (words base)) (made f) → Grown base f
  leaf base f e h = ap (λ (k : ℕ). words (base + k)) e ∙ h

  grown : (base : ℕ) (f : Formula) → base + size f ≤ max_nodes → SignalsBelow field_limit f → At table base (nodes_from base f) → Grown base f
  unfolding SignalsBelow
  grown base True h s t = leaf base True size_true (p.truth base (at_one (subst (At table base) (nodes_true base) t)))
  grown base False h s t = leaf base False size_false (p.falsehood base (at_one (subst (At table base) (nodes_false base) t)))
  grown base (Signal k) h s t = leaf base (Signal k) (size-signal k) (p.signal base k s (at_one (subst (At table base) (nodes-signal base k) t)))
  grown base (One o a) h s t =
      let A = nodes_from base a in
      let at = length (words base) in
      let n = base + size a in
      let some = size_pos a in
      let count = size-one o a in
      let here = subst (At table base) (nodes-one base o a) t in
      let below = grown base a (omega arith) s (at_left_lem A _ here) in
      let last : ℕ → List ℕ = λ k. pack (unary_kind o) k 0 ∷ [] in
      ap words (let z : base + size (One o a) ≡ n + 1 = omega arith in z)
      ∙ p.one n o (n - 1) (omega arith) (omega arith) (at_one (at_right_lem A _ (size a) (length-nodes base a) here))
      ∙ ap₂ (λ (ws : List ℕ) (k : ℕ). ws ++ last k) below (root-number base a below)
      ∙ append_assoc (words base) (nodes_from at (made a)) _
      ∙ ap (λ (ws : List ℕ). words base ++ ws) (sym (nodes-one at o (made a)) ∙ ap (nodes_from at) (sym (p.made_one o a)))
  grown base (Two o a b) h s t =
      let A = nodes_from base a in
      let m = base + size a in
      let B = nodes_from m b in
      let at = length (words base) in
      let n = m + size b in
      let f = made a in
      let g = made b in
      let posa = size_pos a in
      let posb = size_pos b in
      let count = size-two o a b in
      let here = subst (At table base) (nodes-two base o a b) t in
      let rest = at_right_lem A _ (size a) (length-nodes base a) here in
      let left = grown base a (omega arith) s.0 (at_left_lem A _ here) in
      let middle = grown-length base a left in
      let right = grown m b (omega arith) s.1 (at_left_lem B _ rest) in
      let second = root-number m b right ∙ ap (λ (k : ℕ). k + size g - 1) middle in
      let last : ℕ → ℕ → List ℕ = λ j k. pack (binary_kind o) j k ∷ [] in
      let own = last (at + size f - 1) (at + size f + size g - 1) in
      ap words (let z : base + size (Two o a b) ≡ n + 1 = omega arith in z)
      ∙ p.two n o (m - 1) (n - 1) (omega arith) (omega arith) (omega arith) (at_one (at_right_lem B _ (size b) (length-nodes m b) rest))
      ∙ ap₂ (λ (j k : ℕ). words n ++ last j k) (root-number base a left) second
      ∙ ap (λ (ws : List ℕ). ws ++ own) (right ∙ ap₂ (λ (ws : List ℕ) (k : ℕ). ws ++ nodes_from k g) left middle ∙ append_assoc (words base) (nodes_from at f) _)
      ∙ append_assoc (words base) (nodes_from at f ++ nodes_from (at + size f) g) own
      ∙ ap (λ (ws : List ℕ). words base ++ ws)
      (append_assoc (nodes_from at f) (nodes_from (at + size f) g) own ∙ sym (nodes-two at o f g) ∙ ap (nodes_from at) (sym (p.made-two o a b)))

  -- a formula that stands at the table's start
  pub passes-all : {f : Formula} → Stands f table 0 → words 0 ≡ [] → words (size f) ≡ nodes_from 0 (made f)
  passes-all {f} s e =
      let room = s.room in
      let many = length-nodes 0 f in
      let here : At table 0 (nodes_from 0 f) = record {
        reads = λ j l. sym (get_d_part 0 (size f) table j (omega arith)) ∙ ap (λ (ws : List ℕ). get_or ws j 0) s.words;
      } in
      ap words (let z : size f ≡ 0 + size f = omega arith in z) ∙ grown 0 f room s.signals here ∙ ap (λ (ws : List ℕ). ws ++ nodes_from (length ws) (made f)) e

-- What the names of an expression refer to, as the evaluation of a stored expression meets them: by recursion on the expression whose own entry is entry k, under the
-- open names of big operators. The last operand's entry is k - 1, and the operand before it ends where the last one starts.
use Rattle.std.specs.Prelude.{ℕ, zero, suc, ◌+◌, ◌-◌, ◌<◌, List, [], ◌∷◌, ◌++◌, ◌≡◌, length, get_or, drop}
use Rattle.std.proofs.Common.{append_assoc, ◌∙◌, arith}
use Rattle.std.proofs.Math.Path.{ap₂}
use Rattle.language.specs.Limits.{max_names}
use Rattle.language.specs.Tree.{Expr, Named, Numeral, Truth, Index, Paren, Prefixed, Joined, Nexts, InWindow, Each, Between, Listed, Empty, Element, Range}
use Rattle.language.specs.Names.{Names}
use Rattle.entries.specs.Flat.{Entry, flat}
use Rattle.names.specs.Walkable.{entry_of}
use Rattle.names.specs.References.{reference}
use Rattle.names.specs.Walking.{open_after, open_before}

abbrev pub Refers : List ℕ → Names → Names → ℕ → Expr → Type 0
Refers refs declared bs k (Named t) = get_or refs k 0 ≡ reference declared bs t
Refers refs declared bs k (Numeral t) = Unit {0}
Refers refs declared bs k (Truth t b) = Unit {0}
Refers refs declared bs k (Index t e) = (get_or refs k 0 ≡ reference declared bs t) × Refers refs declared bs (k - 1) e
Refers refs declared bs k (Paren t e) = Refers refs declared bs (k - 1) e
Refers refs declared bs k (Prefixed t o e) = Refers refs declared bs (k - 1) e
Refers refs declared bs k (Joined t o a b) = Refers refs declared bs (k - 1 - length (flat b)) a × Refers refs declared bs (k - 1) b
Refers refs declared bs k (Nexts t n e) = Refers refs declared bs (k - 1 - length (flat e)) n × Refers refs declared bs (k - 1) e
Refers refs declared bs k (InWindow t o n m e) =
    Refers refs declared bs (k - 1 - length (flat e) - length (flat m)) n × Refers refs declared bs (k - 1 - length (flat e)) m × Refers refs declared bs (k - 1) e
Refers refs declared bs k (Each t o further i s e) =
    Refers refs declared bs (k - 1 - length (flat e) - 1) s × (get_or refs (k - 1 - length (flat e)) 0 ≡ max_names + length bs) × Refers refs declared (i ∷ bs) (k - 1) e
Refers refs declared bs k (Between t l h a b) = Refers refs declared bs (k - 1 - length (flat b)) a × Refers refs declared bs (k - 1) b
Refers refs declared bs k (Listed t es) = Refers refs declared bs (k - 1) es
Refers refs declared bs k Empty = Unit {0}
Refers refs declared bs k (Element e es) = Refers refs declared bs (k - 1 - length (flat es)) e × Refers refs declared bs (k - 1) es
Refers refs declared bs k (Range t x y z) =
    Refers refs declared bs (k - 1 - length (flat z) - length (flat y)) x × Refers refs declared bs (k - 1 - length (flat z)) y × Refers refs declared bs (k - 1) z

-- entries from `start` on, in a list of entries
module _ (es : List Entry) where
  pub record Run (start : ℕ) (bs : Names) (ops post : List Entry) : Type 0 where
    pub here : drop start es ≡ ops ++ post
    pub opened : open_before es start ≡ bs

  drop-cons : (l : List Entry) (i : ℕ) {n : Entry} {post : List Entry} → drop i l ≡ n ∷ post → (i < length l) × (entry_of l i ≡ n) × (drop (suc i) l ≡ post)
  drop-cons [] zero e = absurd (none-cons e)
    where
      none-cons : {n : Entry} {post : List Entry} → [] ≡ n ∷ post → ⊥
      none-cons f = let z : ◌≡◌ {A = ℕ} 0 1 = cc in omega arith
  drop-cons [] (suc i) e = absurd (none-cons e)
    where
      none-cons : {n : Entry} {post : List Entry} → [] ≡ n ∷ post → ⊥
      none-cons f = let z : ◌≡◌ {A = ℕ} 0 1 = cc in omega arith
  drop-cons (m ∷ l) zero e = (omega arith, cc, cc)
  drop-cons (m ∷ l) (suc i) e = let r = drop-cons l i e in (omega (arith, r.0), r.1, r.2)

  -- over one entry
  pub run-one : (start : ℕ) (bs : Names) (n : Entry) (post : List Entry) → Run start bs (n ∷ []) post → (start < length es) × (entry_of es start ≡ n) × Run (suc start) (open_after bs n) [] post
  unfolding open_before
  run-one start bs n post r =
      let d = drop-cons es start r.here in
      (d.0, d.1, record { here = d.2; opened = ap₂ open_after r.opened d.1 })

  pub run-split : (start : ℕ) (bs : Names) (xs ys post : List Entry) → Run start bs (xs ++ ys) post → Run start bs xs (ys ++ post)
  run-split start bs xs ys post r = record { here = r.here ∙ append_assoc xs ys post; opened = r.opened }

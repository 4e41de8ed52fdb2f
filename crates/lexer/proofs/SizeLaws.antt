-- The sizes of runs, lines, strings and comments, one byte of the text at a time.
use Prim.Native.Nat.{ℕ, suc, ◌+◌, ◌-◌, ◌*◌, ◌≤◌, ◌<◌}
use mathlib.Core.List.{List, [], ◌∷◌}
use mathlib.Core.Bool.{Bool, true, false, ◌&&◌, not}
use mathlib.Core.Path.{◌≡◌, refl, sym, ap, ap₂, ◌∙◌}
use lib.Dec.{eqb, leb}
use lib.ListN.{length, get_or, drop, drop_of_length-le}
use lib.Seq.{drop-cons}
use native.Mathlib.Numerals.{add-one}
use native.Mathlib.Omega.{arith}
use borrow.Author.Tests.{eqb-true, eq-eqb, ne_eqb, le-leb, lt-leb}
use Rattle.language.specs.Bytes.{within}
use Rattle.language.specs.Tokens.{run, line_size, quoted_size, Nesting, nested, comment_size}
use Rattle.language.proofs.Laws.Basics.Tests.{split}
use Rattle.lexer.specs.Tables.{classed}
use Rattle.lexer.specs.Scanning.{opened, Nests}
use Rattle.lexer.specs.declared.sizes.Nest.{Nest}

-- a line is a run of other bytes than line feeds
abbrev pub in_line : ℕ → Bool
in_line b = not (eqb b 10)

pub line-run : (s : List ℕ) → run in_line s ≡ line_size s
line-run [] = refl
line-run (b ∷ s) = turned (eqb b 10) (run in_line s) ∙ ap (λ (n : ℕ). elim (eqb b 10) [ true ↦ 0 | false ↦ suc n ]) (line-run s)
  where
    turned : (q : Bool) (n : ℕ) → ◌≡◌ {A = ℕ} (elim (not q) [ true ↦ suc n | false ↦ 0 ]) (elim q [ true ↦ 0 | false ↦ suc n ])
    turned true n = refl
    turned false n = refl

-- a string's bytes are a run of other bytes than quotes, then a quote
abbrev pub in_string : ℕ → Bool
in_string b = not (eqb b 34)

pub quoted_run : (n : ℕ) (s : List ℕ) → run in_string s < length s → run in_string s + (n + 1) ≡ quoted_size n s
quoted_run n [] h = absurd (omega arith)
quoted_run n (b ∷ s) h = go (eqb b 34) h (quoted_run (suc n) s)
  where
    go : (q : Bool) → elim (not q) [ true ↦ suc (run in_string s) | false ↦ 0 ] < suc (length s)
        → (run in_string s < length s → run in_string s + (suc n + 1) ≡ quoted_size (suc n) s)
        → ◌≡◌ {A = ℕ} (elim (not q) [ true ↦ suc (run in_string s) | false ↦ 0 ] + (n + 1)) (elim q [ true ↦ suc n | false ↦ quoted_size (suc n) s ])
    go true l more = omega arith
    go false l more = let rest = more (omega arith) in omega arith

pub quoted_open : (n : ℕ) (s : List ℕ) → length s ≤ run in_string s → 0 ≡ quoted_size n s
quoted_open n [] h = refl
quoted_open n (b ∷ s) h = go (eqb b 34) h (quoted_open (suc n) s)
  where
    go : (q : Bool) → suc (length s) ≤ elim (not q) [ true ↦ suc (run in_string s) | false ↦ 0 ]
        → (length s ≤ run in_string s → 0 ≡ quoted_size (suc n) s) → ◌≡◌ {A = ℕ} 0 (elim q [ true ↦ suc n | false ↦ quoted_size (suc n) s ])
    go true l more = absurd (omega arith)
    go false l more = more (omega arith)

-- at a byte of the text
module _ (s : List ℕ) (i : ℕ) (h : i < length s) where
  pub run_more : (p : ℕ → Bool) → p (get_or s i 0) ≡ true → run p (drop i s) ≡ suc (run p (drop (i + 1) s))
  run_more p e = rw (add-one i, drop-cons s i 0 h, e, run)

  pub run-stop : (p : ℕ → Bool) → p (get_or s i 0) ≡ false → run p (drop i s) ≡ 0
  run-stop p e = rw (drop-cons s i 0 h, e, run)

  pub comment_more : (k : ℕ) (n : Nesting) → eqb (nested n (get_or s i 0)).depth 0 ≡ false → comment_size k n (drop i s) ≡ comment_size (suc k) (nested n (get_or s i 0)) (drop (i + 1) s)
  comment_more k n e = rw (add-one i, drop-cons s i 0 h, e, comment_size)

  pub comment_stop : (k : ℕ) (n : Nesting) → eqb (nested n (get_or s i 0)).depth 0 ≡ true → comment_size k n (drop i s) ≡ suc k
  comment_stop k n e = rw (drop-cons s i 0 h, e, comment_size)

-- a byte by its class in the table
module _ (bs : List ℕ) (low high b k : ℕ) (e : k ≡ get_or bs (2 * b) 0) where
  pub class-below : k < low → classed bs low high b ≡ false
  unfolding classed
  class-below h = ap (within low high) (sym e) ∙ ap (λ p. p && leb k high) (lt-leb low k h)

  pub class-above : low ≤ k → high < k → classed bs low high b ≡ false
  unfolding classed
  class-above l h = ap (within low high) (sym e) ∙ ap₂ ◌&&◌ (le-leb low k l) (lt-leb k high h)

  pub class-within : low ≤ k → k ≤ high → classed bs low high b ≡ true
  unfolding classed
  class-within l h = ap (within low high) (sym e) ∙ ap₂ ◌&&◌ (le-leb low k l) (le-leb k high h)

-- one byte more of a comment
not-both : (a b x y : ℕ) → (a ≡ x → b ≡ y → ⊥) → (eqb a x && eqb b y) ≡ false
not-both a b x y h = go (eqb a x) (eqb b y) refl refl
  where
    go : (p q : Bool) → eqb a x ≡ p → eqb b y ≡ q → (p && q) ≡ false
    go true true e f = absurd (h (eqb-true a x e) (eqb-true b y f))
    go true false e f = refl
    go false q e f = refl

module _ (depth last b : ℕ) where
  pub nest_close : last ≡ 42 → b ≡ 47 → Nests depth last b (record { depth = depth - 1; last = 0 })
  nest_close e f = rw (e, f) (record { depths = refl; lasts = refl })

  pub nest_open : last ≡ 47 → b ≡ 42 → Nests depth last b (record { depth = depth + 1; last = 0 })
  nest_open e f = rw (e, f) (record { depths = add-one depth; lasts = refl })

  pub nest_plain : (last ≡ 42 → b ≡ 47 → ⊥) → (last ≡ 47 → b ≡ 42 → ⊥) → Nests depth last b (record { depth = depth; last = b })
  nest_plain h k =
      let e = not-both last b 42 47 h in
      let f = not-both last b 47 42 k in
      record { depths = rw (e, f); lasts = rw (e, f) }

-- the loops: what is known before byte i of the rest of the text
abbrev pub Running : (ℕ → Bool) → List ℕ → ℕ → Type 0
Running p s i = run p s ≡ i + run p (drop i s)

module _ (p : ℕ → Bool) (s : List ℕ) (i : ℕ) (q : Running p s i) where
  pub running_on : i < length s → p (get_or s i 0) ≡ true → Running p s (i + 1)
  running_on h e = let more : run p (drop i s) ≡ suc (run p (drop (i + 1) s)) = run_more s i h p e in omega arith

  pub running_stop : i < length s → p (get_or s i 0) ≡ false → i ≡ run p s
  running_stop h e = let stop : run p (drop i s) ≡ 0 = run-stop s i h p e in omega arith

  pub running_end : length s ≤ i → i ≡ run p s
  running_end h = let stop : run p (drop i s) ≡ 0 = rw (drop_of_length-le s h) in omega arith

pub record Commenting (s : List ℕ) (i : ℕ) (n : Nest) : Type 0 where
  pub some : 1 ≤ n.depth
  pub few : n.depth ≤ i + 1
  pub same : comment_size 2 opened s ≡ comment_size (i + 2) (record { depth = n.depth; last = n.last }) (drop i s)

pub commenting_start : (s : List ℕ) → Commenting s 0 (record { depth = 1; last = 0 })
commenting_start s = record { some = omega arith; few = omega arith; same = refl }

pub commenting_end : (s : List ℕ) (i : ℕ) (n : Nest) → Commenting s i n → length s ≤ i → 0 ≡ comment_size 2 opened s
commenting_end s i n q h = sym (q.same ∙ rw (drop_of_length-le s h))

nested-depth : (n : Nesting) (b : ℕ) → (nested n b).depth ≤ suc n.depth
nested-depth n b =
    split (λ (m : Nesting). m.depth ≤ suc n.depth) (eqb n.last 42 && eqb b 47) (λ _. omega arith)
    (λ _. split (λ (m : Nesting). m.depth ≤ suc n.depth) (eqb n.last 47 && eqb b 42) (λ _. omega arith) (λ _. omega arith))

module _ (s : List ℕ) (i : ℕ) (m : Nest) (q : Commenting s i m) (h : i < length s) (r : Nest) (n : Nests m.depth m.last (get_or s i 0) r) where
  abbrev before : Nesting
  before = record { depth = m.depth; last = m.last }

  abbrev after : Nesting
  after = nested before (get_or s i 0)

  pub commenting_on : (r.depth ≡ 0 → ⊥) → Commenting s (i + 1) r
  commenting_on e =
      let deeper : after.depth ≤ suc m.depth = nested-depth before (get_or s i 0) in
      let few = q.few in
      let d = n.depths in
      let f : suc (i + 2) ≡ i + 1 + 2 = omega arith in
      let nesting : ℕ → ℕ → Nesting = λ k l. record { depth = k; last = l } in
      let same : after ≡ record { depth = r.depth; last = r.last } = ap₂ nesting (sym n.depths) (sym n.lasts) in
      record {
        some = omega arith;
        few = omega arith;
        same = q.same ∙ comment_more s i h (i + 2) before (ne_eqb after.depth 0 (λ z. e (d ∙ z))) ∙ ap₂ (λ k m. comment_size k m (drop (i + 1) s)) f same;
      }

  pub commenting_stop : r.depth ≡ 0 → i + 3 ≡ comment_size 2 opened s
  commenting_stop e =
      let f : i + 3 ≡ suc (i + 2) = omega arith in
      f ∙ sym (q.same ∙ comment_stop s i h (i + 2) before (eq-eqb after.depth 0 (sym n.depths ∙ e)))

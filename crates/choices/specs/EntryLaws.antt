-- From entry to entry: where the words' entries end, and the words passed so far.
use Rattle.std.specs.Prelude.{ℕ, zero, suc, ◌+◌, ◌-◌, ◌≤◌, ◌<◌, Bool, true, false, List, [], ◌∷◌, ◌++◌, ◌≡◌, refl, eqb, length}
use Rattle.std.proofs.Math.Bool.{◌&&◌}
use Rattle.std.proofs.Common.{append-nil, append_assoc, ap₂, ◌∙◌, add-one, length-append}
use Rattle.std.proofs.Math.Path.{sym, ap}
use native.Mathlib.Omega.{arith}
use Rattle.std.proofs.Math.Dec.{leb}
use borrow.Author.Tests.{eq-eqb, ne_eqb, le-leb, lt-leb}
use Rattle.language.specs.Limits.{max_tokens}
use Rattle.language.proofs.Laws.Basics.Tests.{pick, leave, and_false, and-last_false}
use Rattle.entries.specs.Kinds as Kind
use Rattle.traversal.specs.declared.Cell.{Cell}
use Rattle.traversal.specs.Cells.{cell_at}
use Rattle.enumerations.specs.Pass.{bytes_at}
use Rattle.choices.specs.Entries.{end_in, end_from, words_at}

module _ (w : List ℕ) (low j : ℕ) where
  end_at_lem : (n m : ℕ) → n ≡ suc m → end_in w low n j ≡ elim (leb low (cell_at w j).kind && leb (cell_at w j).kind Kind.word) [ true ↦ end_in w low m (suc j) | false ↦ j ]
  unfolding end_in
  end_at_lem n m e = rw e

  -- past the last entry
  pub end-past : max_tokens ≤ j → j ≡ end_from w low j
  unfolding end_from end_in
  end-past h = let z : max_tokens - j ≡ 0 = omega arith in rw z

  module _ (inside : j < max_tokens) {c : Cell} (here : c ≡ cell_at w j) where
    less : max_tokens - j ≡ suc (max_tokens - (j + 1))
    less = omega arith

    pub end_low : c.kind < low → j ≡ end_from w low j
    unfolding end_from
    end_low h =
        sym (end_at_lem (max_tokens - j) (max_tokens - (j + 1)) less
        ∙ leave (leb low (cell_at w j).kind && leb (cell_at w j).kind Kind.word) _ _
        (and_false (leb low (cell_at w j).kind) _ (ap (λ (d : Cell). leb low d.kind) (sym here) ∙ lt-leb low c.kind h)))

    pub end-high : Kind.word < c.kind → j ≡ end_from w low j
    unfolding end_from
    end-high h =
        sym (end_at_lem (max_tokens - j) (max_tokens - (j + 1)) less
        ∙ leave (leb low (cell_at w j).kind && leb (cell_at w j).kind Kind.word) _ _
        (and-last_false (leb low (cell_at w j).kind) _ (ap (λ (d : Cell). leb d.kind Kind.word) (sym here) ∙ lt-leb c.kind Kind.word h)))

    pub end_more : low ≤ c.kind → c.kind ≤ Kind.word → end_from w low (j + 1) ≡ end_from w low j
    unfolding end_from
    end_more l h =
        ap (end_in w low (max_tokens - (j + 1))) (add-one j)
        ∙ sym (end_at_lem (max_tokens - j) (max_tokens - (j + 1)) less
        ∙ pick (leb low (cell_at w j).kind && leb (cell_at w j).kind Kind.word) _ _
        (ap₂ ◌&&◌ (ap (λ (d : Cell). leb low d.kind) (sym here) ∙ le-leb low c.kind l) (ap (λ (d : Cell). leb d.kind Kind.word) (sym here) ∙ le-leb c.kind Kind.word h)))

-- the end lies within the entries
end_in-bound : (w : List ℕ) (low n i : ℕ) → end_in w low n i ≤ i + n
unfolding end_in
end_in-bound w low zero i = omega arith
end_in-bound w low (suc n) i = go (leb low (cell_at w i).kind && leb (cell_at w i).kind Kind.word) (end_in-bound w low n (suc i))
  where
    go : (b : Bool) → end_in w low n (suc i) ≤ suc i + n → elim b [ true ↦ end_in w low n (suc i) | false ↦ i ] ≤ i + suc n
    go true h = omega arith
    go false h = omega arith

pub end-bound : (w : List ℕ) (low i : ℕ) → i ≤ max_tokens → end_from w low i ≤ max_tokens
unfolding end_from
end-bound w low i h = let b = end_in-bound w low (max_tokens - i) i in omega arith

-- a token's bytes, from its word
pub length-bytes : (text : List ℕ) (at n : ℕ) → length (bytes_at text at n) ≡ n
unfolding bytes_at
length-bytes text at zero = refl
length-bytes text at (suc n) = length-append (bytes_at text at n) _ ∙ omega (arith, length-bytes text at n)

-- the words of the entries from i on
module _ (w : List ℕ) (i to : ℕ) where
  pub words_none : to ≤ i → words_at w i (to - i) ≡ []
  unfolding words_at
  words_none h = let z : to - i ≡ 0 = omega arith in rw z

  words_at_lem : (n m : ℕ) → n ≡ suc m → words_at w i n ≡ elim (eqb (cell_at w i).kind Kind.word) [ true ↦ (cell_at w i).token ∷ words_at w (suc i) m | false ↦ words_at w (suc i) m ]
  unfolding words_at
  words_at_lem n m e = rw e

  module _ (inside : i < to) {c : Cell} (here : c ≡ cell_at w i) where
    fewer : to - i ≡ suc (to - (i + 1))
    fewer = omega arith

    pub words-skip : (c.kind ≡ Kind.word → ⊥) → words_at w i (to - i) ≡ words_at w (i + 1) (to - (i + 1))
    words-skip h =
        words_at_lem (to - i) (to - (i + 1)) fewer
        ∙ leave (eqb (cell_at w i).kind Kind.word) _ _ (ap (λ (d : Cell). eqb d.kind Kind.word) (sym here) ∙ ne_eqb c.kind Kind.word h)
        ∙ ap (λ (k : ℕ). words_at w k (to - (i + 1))) (sym (add-one i))

    pub words-here : c.kind ≡ Kind.word → words_at w i (to - i) ≡ c.token ∷ words_at w (i + 1) (to - (i + 1))
    words-here h =
        words_at_lem (to - i) (to - (i + 1)) fewer
        ∙ pick (eqb (cell_at w i).kind Kind.word) _ _ (ap (λ (d : Cell). eqb d.kind Kind.word) (sym here) ∙ eq-eqb c.kind Kind.word h)
        ∙ ap₂ (λ (x : ℕ) (k : ℕ). x ∷ words_at w k (to - (i + 1))) (ap (λ (d : Cell). d.token) (sym here)) (sym (add-one i))

-- of the words in the entries [from, to) those before entry i are `done`
pub record Passed (w : List ℕ) (from to i : ℕ) (done : List ℕ) : Type 0 where
  pub all : done ++ words_at w i (to - i) ≡ words_at w from (to - from)

pub passed_none : (w : List ℕ) (from to : ℕ) → Passed w from to from []
passed_none w from to = record { all = refl }

module _ {w : List ℕ} {from to i : ℕ} {done : List ℕ} (p : Passed w from to i done) where
  pub passed-all : to ≤ i → done ≡ words_at w from (to - from)
  passed-all h = sym (append-nil done) ∙ ap (λ (l : List ℕ). done ++ l) (sym (words_none w i to h)) ∙ p.all

  module _ (inside : i < to) {c : Cell} (here : c ≡ cell_at w i) where
    pub passed-skip : (c.kind ≡ Kind.word → ⊥) → Passed w from to (i + 1) done
    passed-skip h = record { all = ap (λ (l : List ℕ). done ++ l) (sym (words-skip w i to inside here h)) ∙ p.all }

    pub passed_here : c.kind ≡ Kind.word → done ++ (c.token ∷ words_at w (i + 1) (to - (i + 1))) ≡ words_at w from (to - from)
    passed_here h = ap (λ (l : List ℕ). done ++ l) (sym (words-here w i to inside here h)) ∙ p.all

    pub passed-word : c.kind ≡ Kind.word → Passed w from to (i + 1) (done ++ (c.token ∷ []))
    passed-word h = record { all = append_assoc done (c.token ∷ []) _ ∙ passed_here h }

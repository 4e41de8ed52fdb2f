-- One mark more: its literal, or none for a star.
use Rattle.std.specs.Prelude.{ℕ, suc, ◌+◌, Bool, true, false, not, List, [], ◌∷◌, ◌++◌, map, ◌≡◌, refl, eqb, length, get_or}
use Rattle.std.proofs.lemmas.Bool.{false≢true, eqb-false}
use Rattle.std.proofs.lemmas.List.{map-append}
use Rattle.std.proofs.Common.{append-nil, sym, ◌∙◌, add-one, arith, eq-eqb, ne_eqb, eqb-true}
use Rattle.std.proofs.Math.Path.{ap, ap₂}
use Rattle.std.proofs.Math.ListN.{length-map}
use Rattle.node.specs.Ltl.{Not, Formula, Signal, One}
use Rattle.language.specs.DeclaredNames.{Port}
use Rattle.language.specs.Numbering.{Mark, Absent, Present, Star, mark_of, first_of}
use Rattle.language.specs.Expansion.{literals}
use Rattle.language.proofs.Laws.Basics.Tests.{pick, leave}
use Rattle.enumerations.specs.Pass.{bytes_at}
use Rattle.writing.specs.Writing.{Wrote}
use Rattle.choices.specs.Literals.{is_star, literal}
use Rattle.choices.specs.EntryLaws.{length-bytes}

-- a byte's mark
module _ (b : ℕ) where
  pub mark_absent : b ≡ 48 → mark_of b ≡ Absent
  mark_absent h = pick (eqb b 48) _ _ (eq-eqb b 48 h)

  module _ (h : b ≡ 48 → ⊥) where
    pub mark-present : b ≡ 49 → mark_of b ≡ Present
    mark-present g = leave (eqb b 48) _ _ (ne_eqb b 48 h) ∙ pick (eqb b 49) _ _ (eq-eqb b 49 g)

    pub mark-star : (b ≡ 49 → ⊥) → mark_of b ≡ Star
    mark-star g = leave (eqb b 48) _ _ (ne_eqb b 48 h) ∙ leave (eqb b 49) _ _ (ne_eqb b 49 g)

-- as the code asks
pub starred-absent : (b : ℕ) → b ≡ 48 → false ≡ is_star (mark_of b)
starred-absent b h = sym (ap is_star (mark_absent b h))

pub starred_other : (b : ℕ) → (b ≡ 48 → ⊥) → not (eqb b 49) ≡ is_star (mark_of b)
starred_other b h = go (eqb b 49) refl
  where
    go : (c : Bool) → eqb b 49 ≡ c → not c ≡ is_star (mark_of b)
    go true e = sym (ap is_star (mark-present b h (eqb-true b 49 e)))
    go false e = sym (ap is_star (mark-star b h (eqb-false b 49 e)))

module _ {k : ℕ} {out out' : List ℕ} {at r : ℕ} where
  pub wrote-present : {b : Bool} → b ≡ true → Wrote (Signal k) out out' at r → Wrote (literal b k) out out' at r
  wrote-present e w = rw e w

  pub wrote-absent : {b : Bool} → b ≡ false → Wrote (One Not (Signal k)) out out' at r → Wrote (literal b k) out out' at r
  wrote-absent e w = rw e w

module _ (ps : List Port) (x : List ℕ) where
  literals-more : (i : ℕ) (v : List Mark) (m : Mark) → literals ps x i (v ++ (m ∷ [])) ≡ literals ps x i v ++ literals ps x (i + length v) (m ∷ [])
  literals-more i [] m = ap (λ (k : ℕ). literals ps x k (m ∷ [])) (omega arith)
  literals-more i (Absent ∷ v) m =
      ap (λ (l : List Formula). literal false (first_of ps x + i) ∷ l) (literals-more (suc i) v m ∙ ap (λ (k : ℕ). literals ps x (suc i) v ++ literals ps x k (m ∷ [])) (omega arith))
  literals-more i (Present ∷ v) m =
      ap (λ (l : List Formula). literal true (first_of ps x + i) ∷ l) (literals-more (suc i) v m ∙ ap (λ (k : ℕ). literals ps x (suc i) v ++ literals ps x k (m ∷ [])) (omega arith))
  literals-more i (Star ∷ v) m = literals-more (suc i) v m ∙ ap (λ (k : ℕ). literals ps x (suc i) v ++ literals ps x k (m ∷ [])) (omega arith)

  one-star : (i : ℕ) (m : Mark) → is_star m ≡ true → literals ps x i (m ∷ []) ≡ []
  one-star i Absent e = absurd (false≢true e)
  one-star i Present e = absurd (false≢true e)
  one-star i Star e = refl

  one-literal : (i b : ℕ) → is_star (mark_of b) ≡ false → literals ps x i (mark_of b ∷ []) ≡ literal (eqb b 49) (first_of ps x + i) ∷ []
  one-literal i b h = go (eqb b 48) refl (eqb b 49) refl
    where
      go : (c : Bool) → eqb b 48 ≡ c → (d : Bool) → eqb b 49 ≡ d → literals ps x i (mark_of b ∷ []) ≡ literal (eqb b 49) (first_of ps x + i) ∷ []
      go true e d f =
          let z : b ≡ 48 = eqb-true b 48 e in
          ap (λ (m : Mark). literals ps x i (m ∷ [])) (mark_absent b z) ∙ ap (λ (y : Bool). literal y (first_of ps x + i) ∷ []) (sym (ne_eqb b 49 (λ g. omega arith)))
      go false e true f =
          ap (λ (m : Mark). literals ps x i (m ∷ [])) (mark-present b (eqb-false b 48 e) (eqb-true b 49 f)) ∙ ap (λ (y : Bool). literal y (first_of ps x + i) ∷ []) (sym f)
      go false e false f = absurd (false≢true (sym h ∙ ap is_star (mark-star b (eqb-false b 48 e) (eqb-false b 49 f))))

  -- the literals of the marks so far
  abbrev pub literals_at : List ℕ → ℕ → ℕ → List Formula
  literals_at text place n = literals ps x 0 (map mark_of (bytes_at text place n))

  module _ (text : List ℕ) (place i : ℕ) {b : ℕ} (here : b ≡ get_or text (place + i) 0) where
    one_more : literals_at text place (i + 1) ≡ literals_at text place i ++ literals ps x i (mark_of b ∷ [])
    unfolding bytes_at
    one_more =
        ap (λ (n : ℕ). literals_at text place n) (add-one i)
        ∙ ap (literals ps x 0) (map-append mark_of (bytes_at text place i) _)
        ∙ literals-more 0 (map mark_of (bytes_at text place i)) _
        ∙ ap₂ (λ (k : ℕ) (c : ℕ). literals_at text place i ++ literals ps x k (mark_of c ∷ [])) (let l = length-map (bytes_at text place i) mark_of in let m = length-bytes text place i in omega arith)
        (sym here)

    pub star-more : is_star (mark_of b) ≡ true → literals_at text place (i + 1) ≡ literals_at text place i
    star-more h = one_more ∙ ap (λ (l : List Formula). literals_at text place i ++ l) (one-star i (mark_of b) h) ∙ append-nil (literals_at text place i)

    pub literal-more : is_star (mark_of b) ≡ false → literals_at text place (i + 1) ≡ literals_at text place i ++ (literal (eqb b 49) (first_of ps x + i) ∷ [])
    literal-more h = one_more ∙ ap (λ (l : List Formula). literals_at text place i ++ l) (one-literal i b h)

-- When an implied line may be left out: the words of an enumeration are covered if and only if a bus matches one of them whatever its bits are. By way of
-- valuations as lists of bits.
use Rattle.std.specs.Prelude.{ℕ, zero, suc, ◌≡◌, refl, Bool, true, false, ◌&&◌, ◌||◌, List, [], ◌∷◌, map, ◌↔◌, length, get_or}
use Rattle.std.proofs.Common.{sym, ◌∙◌, ap, ap₂, subst, arith}
use Rattle.std.proofs.Math.Bool.{So}
use Rattle.std.proofs.lemmas.Bool.{false≢true}
use Rattle.std.proofs.Math.Logic.Iff as Equiv
use Rattle.std.proofs.lemmas.List.{length-map}
use Rattle.node.specs.Logic.{Either}
use Rattle.node.proofs.LogicLaws.{or_left, or_right, or_cases, stable_so, so_and}
use Rattle.language.specs.Tokens.{Token}
use Rattle.language.specs.Numbering.{Mark, mark_of, marks_of, admits, after, covered}
use Rattle.language.specs.Meaning.{SignalOf, BitOf, Word, Holding, Fits, MatchesOne}
use Rattle.language.proofs.Laws.Basics.Lists.{All, all_map}
use Rattle.language.proofs.Laws.Basics.Tests.{split, and_left, and_right, or_left as either_left, or_right as either-right, or_cases as either-cases}
use Rattle.language.proofs.Laws.Meaning.Comparisons.{so_not}
use Rattle.language.proofs.Laws.Meaning.BusPatterns.{fits-absent, fits-present, fits-star, mark_cases, MatchesFrom, matches_from}

-- is the valuation one of the word, of some word?
abbrev admitted : List Mark → List Bool → Bool
admitted [] u = true
admitted (m ∷ v) [] = false
admitted (m ∷ v) (b ∷ u) = admits b m && admitted v u

abbrev any_admits : List (List Mark) → List Bool → Bool
any_admits [] u = false
any_admits (v ∷ vs) u = admitted v u || any_admits vs u

-- words of n marks
abbrev Wide : ℕ → List (List Mark) → Type 0
Wide n vs = All (λ v. length v ≡ n) vs

-- the words that begin with a mark for b
module _ (b : Bool) (u : List Bool) where
  chosen : (a r x : Bool) (vs : List (List Mark)) (v : List Mark) → admitted v u ≡ x → any_admits vs u ≡ r → any_admits (elim a [ true ↦ v ∷ vs | false ↦ vs ]) u ≡ ((a && x) || r)
  chosen true r x vs v e f = ap₂ ◌||◌ e f
  chosen false r x vs v e f = f

  after-admits : (n : ℕ) (vs : List (List Mark)) → Wide (suc n) vs → any_admits (after b vs) u ≡ any_admits vs (b ∷ u)
  after-admits n [] h = refl
  after-admits n ([] ∷ vs) h = absurd (omega arith)
  after-admits n ((m ∷ v) ∷ vs) h = chosen (admits b m) (any_admits vs (b ∷ u)) (admitted v u) (after b vs) v refl (after-admits n vs h.1)

after_wide : (b : Bool) (n : ℕ) (vs : List (List Mark)) → Wide (suc n) vs → Wide n (after b vs)
after_wide b n [] h = tt
after_wide b n ([] ∷ vs) h = absurd (omega arith)
after_wide b n ((m ∷ v) ∷ vs) h = split (Wide n) (admits b m) (λ _. (omega (arith, h.0), after_wide b n vs h.1)) (λ _. after_wide b n vs h.1)

covered-admits : (n : ℕ) (vs : List (List Mark)) → Wide n vs → covered n vs ≡ true → (u : List Bool) → length u ≡ n → any_admits vs u ≡ true
covered-admits zero [] h e u l = absurd (false≢true e)
covered-admits zero ([] ∷ vs) h e u l = refl
covered-admits zero ((m ∷ v) ∷ vs) h e u l = absurd (omega arith)
covered-admits (suc n) vs h e [] l = absurd (omega arith)
covered-admits (suc n) vs h e (false ∷ u) l =
    let here = and_left (covered n (after false vs)) (covered n (after true vs)) e in
    sym (after-admits false u n vs h) ∙ covered-admits n (after false vs) (after_wide false n vs h) here u (omega arith)
covered-admits (suc n) vs h e (true ∷ u) l =
    let here = and_right (covered n (after false vs)) (covered n (after true vs)) e in
    sym (after-admits true u n vs h) ∙ covered-admits n (after true vs) (after_wide true n vs h) here u (omega arith)

admits-covered : (n : ℕ) (vs : List (List Mark)) → Wide n vs → ((u : List Bool) → length u ≡ n → any_admits vs u ≡ true) → covered n vs ≡ true
admits-covered zero [] h f = absurd (false≢true (f [] refl))
admits-covered zero (v ∷ vs) h f = refl
admits-covered (suc n) vs h f =
    let half : (b : Bool) → covered n (after b vs) ≡ true = λ b. admits-covered n (after b vs) (after_wide b n vs h) (λ u l. after-admits b u n vs h ∙ f (b ∷ u) (omega arith)) in
    ap₂ ◌&&◌ (half false) (half true)

-- n bits from i on
abbrev bits_from : (ℕ → Bool) → ℕ → ℕ → List Bool
bits_from f i zero = []
bits_from f i (suc n) = f i ∷ bits_from f (suc i) n

length_bits_lem : (f : ℕ → Bool) (i n : ℕ) → length (bits_from f i n) ≡ n
length_bits_lem f i zero = refl
length_bits_lem f i (suc n) = ap suc (length_bits_lem f (suc i) n)

bits-shift : (f : ℕ → Bool) (i n : ℕ) → bits_from f (suc i) n ≡ bits_from (λ k. f (suc k)) i n
bits-shift f i zero = refl
bits-shift f i (suc n) = ap (f (suc i) ∷◌) (bits-shift f (suc i) n)

bits_of : (u : List Bool) → bits_from (λ i. get_or u i false) 0 (length u) ≡ u
bits_of [] = refl
bits_of (b ∷ u) = ap (b ∷◌) (bits-shift (λ i. get_or (b ∷ u) i false) 0 (length u) ∙ bits_of u)

-- a word of marks admits the bits that match it
so_or : {A B : Type 0} (a b : Bool) → A ↔ So a → B ↔ So b → Either A B ↔ So (a || b)
so_or a b h k = (
  or_cases (stable_so (a || b)) (λ x. either_left a b (h.0 x)) (λ y. either-right a b (k.0 y)),
  λ e. either-cases a b (λ p. or_left (h.1 p)) (λ q. or_right (k.1 q)) e,
)

fits-admits : (m : ℕ) (b : Bool) → Fits m (So b) ↔ So (admits b (mark_of m))
fits-admits m b =
    mark_cases (λ k. Fits m (So b) ↔ So (admits b k)) m (λ e. Equiv.trans (fits-absent m e) (Equiv.symm (so_not b))) (fits-present m)
    (λ c d. (λ _. refl, λ _. fits-star m c d))

word-admits : (f : ℕ → Bool) (ms : List ℕ) (i : ℕ) → MatchesFrom i ms (λ k. So (f k)) ↔ So (admitted (map mark_of ms) (bits_from f i (length ms)))
word-admits f [] i = (λ _. refl, λ _. tt)
word-admits f (m ∷ ms) i =
    Equiv.trans (Equiv.and (fits-admits m (f i)) (word-admits f ms (suc i))) (so_and (admits (f i) (mark_of m)) (admitted (map mark_of ms) (bits_from f (suc i) (length ms))))

module _ (x : List ℕ) (w : Word) (t n : ℕ) where
  abbrev bits : List Bool
  bits = bits_from (λ i. w t (BitOf x i)) 0 n

  words_admit : (vs : List Token) → All (λ v. length v.text ≡ n) vs → MatchesOne x vs w t ↔ So (any_admits (map marks_of vs) bits)
  words_admit [] h = (λ e. absurd e, λ e. absurd (false≢true e))
  words_admit (v ∷ vs) h =
      so_or (admitted (marks_of v) bits) (any_admits (map marks_of vs) bits)
      (Equiv.trans (matches_from x v.text w t)
      (subst (λ k. MatchesFrom 0 v.text (λ i. Holding (BitOf x i) w t) ↔ So (admitted (marks_of v) (bits_from (λ i. w t (BitOf x i)) 0 k))) h.0 (word-admits (λ i. w t (BitOf x i)) v.text 0)))
      (words_admit vs h.1)

-- the word whose bus bits are these at every position
abbrev constantly : List Bool → Word
constantly u t (SignalOf x) = false
constantly u t (BitOf x i) = get_or u i false

marks_wide : (n : ℕ) (vs : List Token) → All (λ v. length v.text ≡ n) vs → Wide n (map marks_of vs)
marks_wide n vs h = all_map _ (λ v. length v ≡ n) marks_of (λ v e. length-map v.text mark_of ∙ e) vs h

-- every valuation is named if and only if a bus always matches one of the words
pub covered_matches : (n : ℕ) (vs : List Token) → All (λ v. length v.text ≡ n) vs →
    (covered n (map marks_of vs) ≡ true) ↔ ((x : List ℕ) (w : Word) (t : ℕ) → MatchesOne x vs w t)
covered_matches n vs h = (
  λ e x w t. (words_admit x w t n vs h).1 (covered-admits n (map marks_of vs) (marks_wide n vs h) e (bits x w t n) (length_bits_lem _ 0 n)),
  λ f. admits-covered n (map marks_of vs) (marks_wide n vs h) (λ u l. subst (λ (k : List Bool). any_admits (map marks_of vs) k ≡ true)
      (ap (bits_from (λ i. get_or u i false) 0) (sym l) ∙ bits_of u) ((words_admit [] (constantly u) 0 n vs h).0 (f [] (constantly u) 0))),
)

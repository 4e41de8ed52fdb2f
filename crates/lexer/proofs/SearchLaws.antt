-- The search among signs and words: an entry is compared byte by byte, and entries that begin with another byte are passed over.
use Prim.Native.Nat.{ℕ, zero, suc, ◌+◌, ◌-◌, ◌≤◌, ◌<◌}
use mathlib.Core.List.{List, [], ◌∷◌}
use mathlib.Core.Bool.{Bool, true, false, ◌&&◌, ◌||◌, not, false≢true}
use mathlib.Core.Path.{◌≡◌, refl, sym, ap, ◌∙◌, subst}
use lib.Dec.{eqb}
use lib.ListN.{length, get_or, drop, drop_of_length-le, length-drop}
use lib.Seq.{drop-cons, drop-drop}
use native.Mathlib.Nat.{add-zero}
use native.Mathlib.Numerals.{add-one}
use native.Mathlib.Omega.{arith}
use borrow.Author.Tests.{eq-eqb, ne_eqb}
use Rattle.language.specs.Bytes.{starts}
use Rattle.language.proofs.Laws.Basics.Tests.{pick, leave, and_left, and_right, and_false, and-last_false}
use Rattle.language.proofs.Laws.Grammar.PieceLaws.{starts-fits}
use Rattle.lexer.specs.Spelling.{count, entries, entry, search, fitting}
use Rattle.lexer.proofs.Choices.{refute}
use Rattle.lexer.specs.Tables.{begins, differs, passes, NextWith}

-- one byte of an entry and of the text
module _ (w s : List ℕ) (i j : ℕ) (hw : j < length w) (hs : i < length s) where
  starts_on : get_or s i 0 ≡ get_or w j 0 → starts (drop j w) (drop i s) ≡ starts (drop (j + 1) w) (drop (i + 1) s)
  starts_on e = rw (add-one i, add-one j, drop-cons s i 0 hs, drop-cons w j 0 hw) (ap (λ p. p && starts (drop (suc j) w) (drop (suc i) s)) (eq-eqb _ _ (sym e)))

  starts_off : (get_or s i 0 ≡ get_or w j 0 → ⊥) → starts (drop j w) (drop i s) ≡ false
  starts_off e = rw (drop-cons s i 0 hs, drop-cons w j 0 hw) (ap (λ p. p && starts (drop (suc j) w) (drop (suc i) s)) (ne_eqb _ _ (λ f. e (sym f))))

starts-all : (w s : List ℕ) (j : ℕ) → length w ≤ j → starts (drop j w) s ≡ true
starts-all w s j h = rw (drop_of_length-le w h)

starts_short : (w s : List ℕ) → length s < length w → starts w s ≡ false
starts_short w s h = refute (starts w s) (λ e. let f = starts-fits w s e in omega arith)

-- j bytes of the entry w are those of the text from `at` on
pub record Comparing (w text : List ℕ) (at j : ℕ) : Type 0 where
  pub within : j ≤ length w
  pub room : at + length w ≤ length text
  pub same : starts w (drop at text) ≡ starts (drop j w) (drop (at + j) text)

module _ (w text : List ℕ) (at n size : ℕ) (e : n ≡ length w) where
  pub fit_size : (eqb size 0 || eqb n size) ≡ false → false ≡ fitting size (drop at text) w
  unfolding fitting
  fit_size f = sym (and_false _ _ (ap (λ m. eqb size 0 || eqb m size) (sym e) ∙ f))

  fit_sized : (eqb size 0 || eqb n size) ≡ true → starts w (drop at text) ≡ fitting size (drop at text) w
  unfolding fitting
  fit_sized f = ap (λ p. p && starts w (drop at text)) (sym (ap (λ m. eqb size 0 || eqb m size) (sym e) ∙ f))

  pub fit_short : (eqb size 0 || eqb n size) ≡ true → length text - at < n → false ≡ fitting size (drop at text) w
  fit_short f l = sym (starts_short w (drop at text) (rw (length-drop at text) (omega arith))) ∙ fit_sized f

  pub comparing-start : at ≤ length text → n ≤ length text - at → Comparing w text at 0
  comparing-start h l = record { within = omega arith; room = omega arith; same = ap (λ m. starts w (drop m text)) (sym (add-zero at)) }

  module _ (j : ℕ) (c : Comparing w text at j) where
    pub comparing-on : j < n → get_or text (at + j) 0 ≡ get_or w j 0 → Comparing w text at (j + 1)
    comparing-on h f =
        let room = c.room in
        let k : at + j + 1 ≡ at + (j + 1) = omega arith in
        record {
          within = omega arith;
          room = room;
          same = c.same ∙ starts_on w text (at + j) j (omega arith) (omega arith) f ∙ ap (λ m. starts (drop (j + 1) w) (drop m text)) k;
        }

    pub comparing-off : (eqb size 0 || eqb n size) ≡ true → j < n → (get_or text (at + j) 0 ≡ get_or w j 0 → ⊥) → false ≡ fitting size (drop at text) w
    comparing-off s h f =
        let room = c.room in
        sym (c.same ∙ starts_off w text (at + j) j (omega arith) (omega arith) f) ∙ fit_sized s

    pub comparing-end : (eqb size 0 || eqb n size) ≡ true → n ≤ j → true ≡ fitting size (drop at text) w
    comparing-end s h = sym (c.same ∙ starts-all w (drop (at + j) text) j (omega arith)) ∙ fit_sized s

-- entries that begin with another byte
differs-starts : (b : ℕ) (s w : List ℕ) → differs b w ≡ true → starts w (b ∷ s) ≡ false
differs-starts b s [] e = absurd (false≢true e)
differs-starts b s (x ∷ w) e = and_false _ _ (ne_eqb x b (λ f. false≢true (ap not (sym (eq-eqb b x (sym f))) ∙ e)))

passed_over : (f : List ℕ → Bool) (b : ℕ) → ((w : List ℕ) → differs b w ≡ true → f w ≡ false) → (n : ℕ) (ws : List (List ℕ)) → passes b n ws ≡ true → n ≤ length ws
    → search f ws ≡ n + search f (drop n ws)
passed_over f b h zero ws e l = omega arith
passed_over f b h (suc n) [] e l = absurd (omega arith)
passed_over f b h (suc n) (w ∷ ws) e l =
    let ih = passed_over f b h n ws (and_right (differs b w) (passes b n ws) e) (omega arith) in
    leave (f w) 0 (suc (search f ws)) (h w (and_left (differs b w) (passes b n ws) e)) ∙ omega arith

pub length-entries : length entries ≡ count
unfolding entries
length-entries = refl

-- entry k is where the search stands
pub record Finding (text : List ℕ) (at size k : ℕ) : Type 0 where
  pub fits : k ≤ count
  pub begun : k < count → begins (get_or text at 0) (entry k) ≡ true
  pub same : search (fitting size (drop at text)) entries ≡ k + search (fitting size (drop at text)) (drop k entries)

module _ (text : List ℕ) (at size : ℕ) (inside : at < length text) where
  abbrev test : List ℕ → Bool
  test = fitting size (drop at text)

  abbrev byte : ℕ
  byte = get_or text at 0

  other_byte : (w : List ℕ) → differs byte w ≡ true → test w ≡ false
  unfolding fitting
  other_byte w e = rw (drop-cons text at 0 inside) (ap (λ p. (eqb size 0 || eqb (length w) size) && p) (differs-starts byte (drop (suc at) text) w e) ∙ and-last_false (eqb size 0 || eqb (length w) size) false refl)

  onward : (i k : ℕ) → NextWith byte i k → search test entries ≡ i + search test (drop i entries) → Finding text at size k
  onward i k n e =
      let l : k - i ≤ length (drop i entries) = rw (length-drop i entries, length-entries) (omega (arith, n.fits, n.onward)) in
      let p = passed_over test byte other_byte (k - i) (drop i entries) n.passed l in
      let sum : i + (k - i) ≡ k = omega (arith, n.onward) in
      let q : drop (k - i) (drop i entries) ≡ drop k entries = drop-drop (k - i) i entries ∙ ap (λ m. drop m entries) sum in
      record {
        fits = n.fits;
        begun = n.begun;
        same = e ∙ ap (λ m. i + m) (p ∙ ap (λ ws. k - i + search test ws) q) ∙ omega (arith, n.onward);
      }

  pub finding-start : (k : ℕ) → NextWith byte 0 k → Finding text at size k
  finding-start k n = onward 0 k n (omega arith)

  module _ (k : ℕ) (c : Finding text at size k) where
    here : k < count → drop k entries ≡ entry k ∷ drop (suc k) entries
    unfolding entry
    here h = drop-cons entries k [] (subst (λ m. k < m) (sym length-entries) h)

    pub finding-stop : k < count → (r : Bool) → r ≡ true → r ≡ test (entry k) → k ≡ search test entries
    finding-stop h r g e =
        let z : search test (drop k entries) ≡ 0 = ap (search test) (here h) ∙ pick (test (entry k)) 0 (suc (search test (drop (suc k) entries))) (sym e ∙ g) in
        omega (arith, c.same)

    pub finding-on : (m : ℕ) → k < count → (r : Bool) → r ≡ false → r ≡ test (entry k) → NextWith byte (suc k) m → Finding text at size m
    finding-on m h r g e n =
        let z : search test (drop k entries) ≡ suc (search test (drop (suc k) entries)) = ap (search test) (here h) ∙ leave (test (entry k)) 0 (suc (search test (drop (suc k) entries))) (sym e ∙ g) in
        onward (suc k) m n (c.same ∙ omega arith)

    pub finding-end : count ≤ k → count ≡ search test entries
    finding-end h =
        let e : k ≡ count = omega (arith, c.fits) in
        let z : search test (drop k entries) ≡ 0 = ap (search test) (drop_of_length-le entries (subst (λ m. m ≤ k) (sym length-entries) h)) in
        omega (arith, c.same)

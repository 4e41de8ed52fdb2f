-- A bus against words: the literals of a word hold where the bus matches it, if the bus's signals are present where its bits are.
use Rattle.std.specs.Prelude.{ℕ, zero, suc, ◌+◌, ◌≤◌, ◌<◌, ◌≡◌, refl, Bool, true, false, ◌↔◌, eqb, length, get_or}
use Rattle.std.proofs.Common.{sym, subst, arith, add-zero, eqb-true, eq-eqb}
use Rattle.std.proofs.Math.Bool.{So}
use Rattle.std.proofs.lemmas.Bool.{false≢true}
use mathlib.Core.List.{List, [], ◌∷◌, map}
use Rattle.std.proofs.Math.Logic.Iff as Equiv
use Rattle.node.proofs.LogicLaws.{or_same}
use Rattle.node.proofs.TemporalLaws.{Same}
use Rattle.node.specs.Ltl.{Holds, Word as NodeWord}
use Rattle.language.specs.Bytes.{if◌then◌otherwise◌}
use Rattle.language.specs.Tokens.{Token}
use Rattle.language.specs.DeclaredNames.{Port}
use Rattle.language.specs.Numbering.{first_of, Mark, Absent, Present, Star, mark_of, marks_of}
use Rattle.language.specs.Expansion.{conjunction, literals, one_of}
use Rattle.language.specs.Meaning.{SignalOf, BitOf, Word, Holding, Fits, Matches, MatchesOne}
use Rattle.language.proofs.Laws.Basics.Lists.{All}
use Rattle.language.proofs.Laws.Meaning.ExpansionLaws.{AllHold, SomeHold, conjunction_holds, disjunction_holds}

-- a mark by its byte
module _ {P : Type 0} (m : ℕ) where
  pub fits-absent : m ≡ 48 → Fits m P ↔ (¬ P)
  fits-absent e = (λ f. f.0 e, λ n. (λ _. n, λ d. absurd (omega arith)))

  pub fits-present : m ≡ 49 → Fits m P ↔ P
  fits-present e = (λ f. f.1 e, λ p. (λ d. absurd (omega arith), λ _. p))

  pub fits-star : ¬ (m ≡ 48) → ¬ (m ≡ 49) → Fits m P
  fits-star a b = (λ e. absurd (a e), λ e. absurd (b e))

-- what holds of each kind of mark holds of the byte's
pub mark_cases : (Q : Mark → Type 0) (m : ℕ) → (m ≡ 48 → Q Absent) → (m ≡ 49 → Q Present) → (¬ (m ≡ 48) → ¬ (m ≡ 49) → Q Star) → Q (mark_of m)
mark_cases Q m f g h = go (eqb m 48) (eqb m 49) (eqb-true m 48) (eq-eqb m 48) (eqb-true m 49) (eq-eqb m 49)
  where
    go : (a b : Bool) → (a ≡ true → m ≡ 48) → (m ≡ 48 → a ≡ true) → (b ≡ true → m ≡ 49) → (m ≡ 49 → b ≡ true) → Q (if a then Absent otherwise (if b then Present otherwise Star))
    go true b i j k l = f (i refl)
    go false true i j k l = g (k refl)
    go false false i j k l = h (λ e. false≢true (j e)) (λ e. false≢true (l e))

-- marks from bit i on, where P says which bits are present
abbrev pub MatchesFrom : ℕ → List ℕ → (ℕ → Type 0) → Type 0
MatchesFrom i [] P = Unit {0}
MatchesFrom i (m ∷ ms) P = Fits m (P i) × MatchesFrom (suc i) ms P

module _ (P : ℕ → Type 0) where
  abbrev FitsAt : List ℕ → ℕ → ℕ → Type 0
  FitsAt ms j k = Fits (get_or ms j 0) (P k)

  from_each : (ms : List ℕ) (i : ℕ) → ((j : ℕ) → j < length ms → FitsAt ms j (i + j)) ↔ MatchesFrom i ms P
  from_each [] i = (λ f. tt, λ u j h. absurd (omega arith))
  from_each (m ∷ ms) i = (
    λ f. (subst (λ k. Fits m (P k)) (add-zero i) (f 0 (omega arith)), (from_each ms (suc i)).0 (λ j h. subst (FitsAt ms j) (omega arith) (f (suc j) (omega arith)))),
    λ g. each g.0 ((from_each ms (suc i)).1 g.1),
  )
    where
      each : Fits m (P i) → ((j : ℕ) → j < length ms → FitsAt ms j (suc i + j)) → (j : ℕ) → j < length (m ∷ ms) → FitsAt (m ∷ ms) j (i + j)
      each g f zero h = subst (λ k. Fits m (P k)) (sym (add-zero i)) g
      each g f (suc j) h = subst (FitsAt ms j) (omega arith) (f j (omega arith))

pub matches_from : (x marks : List ℕ) (w : Word) (t : ℕ) → Matches x marks w t ↔ MatchesFrom 0 marks (λ i. Holding (BitOf x i) w t)
matches_from x marks w t =
    let P : ℕ → Type 0 = λ i. Holding (BitOf x i) w t in
    Equiv.trans (λ f j h. subst (FitsAt P marks j) (omega arith) (f j h), λ f j h. subst (FitsAt P marks j) (omega arith) (f j h)) (from_each P marks 0)

-- the bits of a bus, and the signals that are theirs
module _ (ps : List Port) (x : List ℕ) (P : ℕ → Type 0) (v : NodeWord) (t n : ℕ) (same : (i : ℕ) → i < n → P i ↔ So (v t (first_of ps x + i))) where
  literals_hold : (ms : List ℕ) (i : ℕ) → i + length ms ≤ n → MatchesFrom i ms P ↔ AllHold (literals ps x i (map mark_of ms)) v t
  unfolding Holds
  literals_hold [] i l = Equiv.rfl
  literals_hold (m ∷ ms) i l =
      let rest : MatchesFrom (suc i) ms P ↔ AllHold (literals ps x (suc i) (map mark_of ms)) v t = literals_hold ms (suc i) (omega arith) in
      let here : P i ↔ So (v t (first_of ps x + i)) = same i (omega arith) in
      mark_cases (λ k. (Fits m (P i) × MatchesFrom (suc i) ms P) ↔ AllHold (literals ps x i (k ∷ map mark_of ms)) v t) m
      (λ e. Equiv.and (Equiv.trans (fits-absent m e) (Equiv.not here)) rest)
      (λ e. Equiv.and (Equiv.trans (fits-present m e) here) rest)
      (λ a b. Equiv.trans (λ p. p.1, λ r. (fits-star m a b, r)) rest)

-- a name's signals are present where the declared ones are
abbrev pub SingleAgrees : List Port → Word → NodeWord → List ℕ → Type 0
SingleAgrees ps w v x = (t : ℕ) → v t (first_of ps x + 0) ≡ w t (SignalOf x)

abbrev pub BusAgrees : List Port → Word → NodeWord → List ℕ → ℕ → Type 0
BusAgrees ps w v x n = (t i : ℕ) → i < n → v t (first_of ps x + i) ≡ w t (BitOf x i)

pub so_same : {a b : Bool} → a ≡ b → So b ↔ So a
so_same e = (subst So (sym e), subst So e)

module _ (ps : List Port) (w : Word) (v : NodeWord) (x : List ℕ) (n : ℕ) (bus : BusAgrees ps w v x n) where
  word_holds : (marks : List ℕ) → length marks ≤ n → Same (Matches x marks w) (Holds (conjunction (literals ps x 0 (map mark_of marks))) v)
  word_holds marks l t =
      Equiv.trans (matches_from x marks w t)
      (Equiv.trans (literals_hold ps x (λ i. Holding (BitOf x i) w t) v t n (λ i h. so_same (bus t i h)) marks 0 (omega arith))
      (conjunction_holds (literals ps x 0 (map mark_of marks)) v t))

  words_hold : (vs : List Token) → All (λ u. length u.text ≤ n) vs → Same (MatchesOne x vs w) (SomeHold (map (λ u. conjunction (literals ps x 0 (marks_of u))) vs) v)
  words_hold [] l t = Equiv.rfl
  words_hold (u ∷ vs) l t = or_same (word_holds u.text l.0 t) (words_hold vs l.1 t)

  -- words no wider than the bus
  pub one_of_holds : (vs : List Token) → All (λ u. length u.text ≤ n) vs → Same (MatchesOne x vs w) (Holds (one_of ps x vs) v)
  one_of_holds vs l t = Equiv.trans (words_hold vs l t) (disjunction_holds (map (λ u. conjunction (literals ps x 0 (marks_of u))) vs) v t)

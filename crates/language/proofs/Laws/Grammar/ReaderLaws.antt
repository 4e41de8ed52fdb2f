-- How a reader goes about its tokens, and how what it has taken can be gone on with. It takes tokens from the front, none of them the text's end, and looks no
-- further than the one after them: whatever stands behind that one, and however much more fuel there is, its answer is the same. W is the class of the tokens
-- that may follow what it reads; S of those with which it begins where it has taken none. An accepted answer stays the same before every token of W; and behind
-- the tokens before a refused one there are tokens with which the reader accepts.
use Rattle.std.specs.Prelude.{ℕ, suc, ◌+◌, ◌≤◌, ◌<◌, [], ◌∷◌, ◌++◌, ◌≡◌, refl, length}
use Rattle.std.proofs.Common.{append_assoc, sym, ap, ◌∙◌, subst, length-append, arith}
use Rattle.node.specs.Result.{Done, Refused}
use Rattle.language.specs.Tokens.{Token}
use Rattle.language.specs.Grammar.{Tokens, Read, front}
use Rattle.language.proofs.Laws.Basics.Lists.{All, all_append, all_left, all_right}
use Rattle.language.proofs.Laws.Grammar.Lookahead.{Alike, alike_refl, Inner, Begins, begins-more, Near, alike, near_more, near_left}

-- R, a reader with k more fuel, accepts with an ending behind the tokens taken
pub record Completes (A : Type 0) (S W : Token → Type 0) (b d : ℕ) (ts taken : Tokens) (R : ℕ → Tokens → Read A) : Type 0 where
  pub ending : Tokens
  pub value : A
  pub enough : d ≤ length (taken ++ ending)
  pub accepted : (k : ℕ) (us : Tokens) → Begins W us → length (taken ++ (ending ++ us)) < b + k → R k (taken ++ (ending ++ us)) ≡ Done (value, us)
  pub opens : (us : Tokens) → Begins W us → Near S ts (taken ++ (ending ++ us))

-- Q holds of what is read if P holds of each token taken
pub record Accepts (A : Type 0) (P : Token → Type 0) (Q : A → Type 0) (S W : Token → Type 0) (b d : ℕ) (ts : Tokens) (a : A) (left : Tokens) (R : ℕ → Tokens → Read A) : Type 0 where
  pub taken : Tokens
  pub whole : ts ≡ taken ++ left
  pub inner : All Inner taken
  pub enough : d ≤ length taken
  pub again : (k : ℕ) (us : Tokens) → Near W left us → length (taken ++ us) < b + k → R k (taken ++ us) ≡ Done (a, us)
  pub opens : (us : Tokens) → Near W left us → Near S ts (taken ++ us)
  pub value : All P taken → Q a

pub record Stops (A : Type 0) (S W : Token → Type 0) (b d : ℕ) (ts : Tokens) (p : ℕ) (R : ℕ → Tokens → Read A) : Type 0 where
  pub taken : Tokens
  pub left : Tokens
  pub whole : ts ≡ taken ++ left
  pub inner : All Inner taken
  pub place : p ≡ (front left).at
  pub again : (k : ℕ) (us : Tokens) → Alike left us → length (taken ++ us) < b + k → R k (taken ++ us) ≡ Refused 4 p
  pub completes : Completes A S W b d ts taken R

-- the answer r on the tokens ts, of which at least d are taken
abbrev pub Says : (A : Type 0) → (Token → Type 0) → (A → Type 0) → (Token → Type 0) → (Token → Type 0) → ℕ → ℕ → Tokens → Read A → (ℕ → Tokens → Read A) → Type 0
Says A P Q S W b d ts (Done x) R = Accepts A P Q S W b d ts x.0 x.1 R
Says A P Q S W b d ts (Refused number p) R = (number ≡ 4) × Stops A S W b d ts p R

pub record Reads (A : Type 0) (P : Token → Type 0) (Q : A → Type 0) (S W : Token → Type 0) (b d : ℕ) (ts : Tokens) (r : Read A) (R : ℕ → Tokens → Read A) : Type 0 where
  pub says : Says A P Q S W b d ts r R

-- another reader Z that, behind the tokens vs, answers as X does
pub record Moves (A : Type 0) (P : Token → Type 0) (Q Q' : A → Type 0) (S S' : Token → Type 0) (b b' : ℕ) (ts ts' vs : Tokens) (X Z : ℕ → Tokens → Read A) : Type 0 where
  pub whole : ts' ≡ vs ++ ts
  pub inner : All Inner vs
  pub step : (k : ℕ) (us : Tokens) → Near S ts us → length (vs ++ us) < b' + k → (j : ℕ) × (length us < b + j) × (Z k (vs ++ us) ≡ X j us)
  pub near : (us : Tokens) → Near S ts us → Near S' ts' (vs ++ us)
  pub value : (a : A) → All P vs → Q a → Q' a

module _ {A : Type 0} {P : Token → Type 0} {Q Q' : A → Type 0} {S S' : Token → Type 0} {b b' : ℕ} {ts ts' vs : Tokens} {X Z : ℕ → Tokens → Read A} where
  steps : Moves A P Q Q' S S' b b' ts ts' vs X Z → (xs us : Tokens) {r : Read A} (k : ℕ) →
      Near S ts (xs ++ us) → length ((vs ++ xs) ++ us) < b' + k → ((j : ℕ) → length (xs ++ us) < b + j → X j (xs ++ us) ≡ r) → Z k ((vs ++ xs) ++ us) ≡ r
  steps m xs us k h l g =
      let e = append_assoc vs xs us in
      let s = m.step k (xs ++ us) h (subst (λ ys. length ys < b' + k) e l) in
      ap (Z k) e ∙ s.2 ∙ g s.0 s.1

  nearer : Moves A P Q Q' S S' b b' ts ts' vs X Z → (xs us : Tokens) → Near S ts (xs ++ us) → Near S' ts' ((vs ++ xs) ++ us)
  nearer m xs us h = subst (Near S' ts') (sym (append_assoc vs xs us)) (m.near (xs ++ us) h)

  moved : Moves A P Q Q' S S' b b' ts ts' vs X Z → (xs left : Tokens) → ts ≡ xs ++ left → ts' ≡ (vs ++ xs) ++ left
  moved m xs left e = m.whole ∙ ap (λ us. vs ++ us) e ∙ sym (append_assoc vs xs left)

  pub move : {W : Token → Type 0} {d d' : ℕ} (r : Read A) → Reads A P Q S W b d ts r X → d' ≤ length vs + d → Moves A P Q Q' S S' b b' ts ts' vs X Z → Reads A P Q' S' W b' d' ts' r Z
  move (Done x) h n m =
      let s = h.says in
      let z = s.enough in
      record {
        says = record {
          taken = vs ++ s.taken;
          whole = moved m s.taken x.1 s.whole;
          inner = all_append Inner vs s.taken m.inner s.inner;
          enough = omega (arith, length-append vs s.taken);
          again = λ k us w l. steps m s.taken us k (s.opens us w) l (λ j n. s.again j us w n);
          opens = λ us w. nearer m s.taken us (s.opens us w);
          value = λ p. m.value x.0 (all_left P vs s.taken p) (s.value (all_right P vs s.taken p));
        };
      }
  move (Refused q p) h n m =
      let s = h.says.1 in
      let c = s.completes in
      let z = c.enough in
      record {
        says = (
          h.says.0,
          record {
            taken = vs ++ s.taken;
            left = s.left;
            whole = moved m s.taken s.left s.whole;
            inner = all_append Inner vs s.taken m.inner s.inner;
            place = s.place;
            again = λ k us w l. steps m s.taken us k (near_left s.taken us s.left s.whole w) l (λ j n. s.again j us w n);
            completes = record {
              ending = c.ending;
              value = c.value;
              enough = omega (arith, length-append (vs ++ s.taken) c.ending, length-append vs s.taken, length-append s.taken c.ending);
              accepted = λ k us w l. steps m s.taken (c.ending ++ us) k (c.opens us w) l (λ j n. c.accepted j us w n);
              opens = λ us w. nearer m s.taken (c.ending ++ us) (c.opens us w);
            };
          },
        );
      }

-- a reader that has taken t
pub prefixed : {A : Type 0} {P : Token → Type 0} {Q : A → Type 0} {S S' W : Token → Type 0} {b b' d d' : ℕ} {ts : Tokens} (Z : ℕ → Tokens → Read A) (t : Token) (r : Read A) → Inner t → b ≤ suc b'
    → d ≤ suc d' → Reads A P (λ a. P t → Q a) S W b' d' ts r (λ k us. Z k (t ∷ us)) → Reads A P Q S' W b d (t ∷ ts) r Z
prefixed Z t r i g m h = move {vs = t ∷ []} r h (omega arith)
    (record { whole = refl; inner = (i, tt); step = λ k us w l. (k, omega arith, refl); near = λ us w. alike refl; value = λ a p f. f p.0 })

module _ {A : Type 0} {P : Token → Type 0} {Q : A → Type 0} {S W : Token → Type 0} {b d : ℕ} {ts : Tokens} where
  -- another reader that answers alike, and a wider class
  pub transfer : {S' : Token → Type 0} {X Z : ℕ → Tokens → Read A} (r : Read A) → ((t : Token) → S t → S' t) → Reads A P Q S W b d ts r X
      → ((k : ℕ) (us : Tokens) → Near S ts us → length us < b + k → Z k us ≡ X k us) → Reads A P Q S' W b d ts r Z
  transfer r v h f = move {vs = []} r h (omega arith) (record { whole = refl; inner = tt; step = λ k us w l. (k, l, f k us w l); near = λ us w. near_more v w; value = λ a p q. q })

  -- another way to write the answer and the reader
  pub rephrase : {X Z : ℕ → Tokens → Read A} (r : Read A) {r' : Read A} → r' ≡ r → ((k : ℕ) (us : Tokens) → Z k us ≡ X k us) → Reads A P Q S W b d ts r X → Reads A P Q S W b d ts r' Z
  rephrase {X} {Z} r e f h = subst (λ x. Reads A P Q S W b d ts x Z) (sym e) (transfer r (λ t v. v) h (λ k us w l. f k us))

  -- weaker bounds, and of the value
  pub weaken : {b' d' : ℕ} {Q' : A → Type 0} {X : ℕ → Tokens → Read A} (r : Read A) → b' ≤ b → d' ≤ d → ((a : A) → Q a → Q' a) → Reads A P Q S W b d ts r X → Reads A P Q' S W b' d' ts r X
  weaken r g m q h = move {vs = []} r h (omega arith) (record { whole = refl; inner = tt; step = λ k us w l. (k, omega arith, refl); near = λ us w. w; value = λ a _. q a })

  -- that it takes something is not needed
  pub some_taken : {X : ℕ → Tokens → Read A} {r : Read A} → Reads A P Q S W b d ts r X → Reads A P Q S W b 0 ts r X
  some_taken {r = r} h = weaken r (omega arith) (omega arith) (λ a q. q) h

  -- a wider class
  pub wider : {S' : Token → Type 0} {X : ℕ → Tokens → Read A} (r : Read A) → ((t : Token) → S t → S' t) → Reads A P Q S W b d ts r X → Reads A P Q S' W b d ts r X
  wider r v h = transfer r v h (λ k us w l. refl)

  -- fewer tokens that may follow
  pub narrow : {W' : Token → Type 0} {X : ℕ → Tokens → Read A} (r : Read A) → ((t : Token) → W' t → W t) → Reads A P Q S W b d ts r X → Reads A P Q S W' b d ts r X
  narrow (Done x) v h =
      let s = h.says in
      record {
        says = record {
          taken = s.taken;
          whole = s.whole;
          inner = s.inner;
          enough = s.enough;
          again = λ k us w l. s.again k us (near_more v w) l;
          opens = λ us w. s.opens us
              (near_more v w);
          value = s.value;
        };
      }
  narrow (Refused q p) v h =
      let s = h.says.1 in
      let c = s.completes in
      record {
        says = (
          h.says.0,
          record {
            taken = s.taken;
            left = s.left;
            whole = s.whole;
            inner = s.inner;
            place = s.place;
            again = s.again;
            completes = record {
              ending = c.ending;
              value = c.value;
              enough = c.enough;
              accepted = λ k us w l. c.accepted k us (begins-more v us w) l;
              opens = λ us w. c.opens us
                  (begins-more v us w);
            };
          },
        );
      }

  -- the same tokens with more fuel
  pub same_answer : {X : ℕ → Tokens → Read A} (r : Read A) → Reads A P Q S W b d ts r X → (k : ℕ) → length ts < b + k → X k ts ≡ r
  same_answer {X} (Done x) h k l = let s = h.says in ap (X k) s.whole ∙ s.again k x.1 (alike (alike_refl x.1)) (subst (λ us. length us < b + k) s.whole l)
  same_answer {X} (Refused q p) h k l =
      let s = h.says.1 in
      ap (X k) s.whole ∙ s.again k s.left (alike_refl s.left) (subst (λ us. length us < b + k) s.whole l) ∙ ap (λ j. Refused j p) (sym h.says.0)

-- a reader whose fuel is enough by itself
pub free : {A : Type 0} {P : Token → Type 0} {Q : A → Type 0} {S W : Token → Type 0} {b b' d : ℕ} {ts : Tokens} {X : ℕ → Tokens → Read A} (Z : Tokens → Read A) (r : Read A)
    → Reads A P Q S W b d ts r X → ((k : ℕ) (us : Tokens) → length us < b + k → Z us ≡ X k us) → Reads A P Q S W b' d ts r (λ k. Z)
free Z r h f =
    move {vs = []} r h (omega arith)
    (record { whole = refl; inner = tt; step = λ k us w l. (suc (length us), omega arith, f (suc (length us)) us (omega arith)); near = λ us w. w; value = λ a _ q. q })

-- the tokens that are left of an accepted answer
pub takes : {A : Type 0} {P : Token → Type 0} {Q : A → Type 0} {S W : Token → Type 0} {b d : ℕ} {ts : Tokens} {X : ℕ → Tokens → Read A} (r : Read A) (a : A) (left : Tokens) → r ≡ Done (a, left)
    → Reads A P Q S W b d ts r X → (us : Tokens) × (ts ≡ us ++ left) × (d ≤ length us)
takes {A} {P} {Q} {S} {W} {b} {d} {ts} {X} r a left e h = let s = (subst (λ x. Reads A P Q S W b d ts x X) e h).says in (s.taken, s.whole, s.enough)

-- an answer that takes nothing
pub done : {A : Type 0} {P : Token → Type 0} {Q : A → Type 0} {W : Token → Type 0} {b : ℕ} {ts : Tokens} (a : A) → Q a → Reads A P Q W W b 0 ts (Done (a, ts)) (λ k us. Done (a, us))
done a q = record { says = record { taken = []; whole = refl; inner = tt; enough = omega arith; again = λ k us w l. refl; opens = λ us w. w; value = λ _. q } }

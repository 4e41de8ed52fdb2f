-- One reader after another, a choice by the front token, and readers of one token go about the tokens as ReaderLaws says.
use Rattle.std.specs.Prelude.{ℕ, suc, ◌+◌, ◌-◌, ◌≤◌, ◌<◌, Bool, true, false, ◌≡◌, refl}
use mathlib.Core.List.{[], ◌∷◌, ◌++◌, append_assoc}
use Rattle.std.proofs.lemmas.Bool.{false≢true}
use Rattle.std.proofs.Common.{sym, ◌∙◌, subst, arith}
use Rattle.std.proofs.Math.Path.{ap}
use Rattle.std.proofs.Math.ListN.{length, length-append}
use Rattle.node.specs.Result.{Done, Refused, ◌>>=◌}
use Rattle.node.proofs.ResultLaws.{bind_refused, bind_to}
use Rattle.language.specs.Tokens.{Token}
use Rattle.language.specs.Grammar.{Tokens, Read, front, rest, stop}
use Rattle.language.proofs.Laws.Basics.Tests.{pick, leave}
use Rattle.language.proofs.Laws.Grammar.Lookahead.{Alike, alike-front, Inner, Begins, begins-more, Near, alike, opened, near_more, near_test}
use Rattle.language.proofs.Laws.Grammar.ReaderLaws.{Completes, Reads, move, prefixed, transfer}

pub rest_less : (ts : Tokens) → length (rest ts) ≤ length ts - 1
rest_less [] = omega arith
rest_less (t ∷ ts) = omega arith

pub rest-inner : (ts : Tokens) → Inner (front ts) → length (rest ts) < length ts
rest-inner [] i = absurd (false≢true (sym i))
rest-inner (t ∷ ts) i = omega arith

-- from nothing: what a reader accepts before every token that may follow
pub fresh : {A : Type 0} {P : Token → Type 0} {Q : A → Type 0} {S W : Token → Type 0} {b d : ℕ} {R : ℕ → Tokens → Read A} (r : Read A) → Reads A P Q S W b d [] r R → Completes A S W b d [] [] R
fresh {A} {P} {Q} {S} {W} {b} {d} {R} (Done x) h = let s = h.says in go s.taken s.whole s.enough (λ k us w l. s.again k us (opened w) l) (λ us w. s.opens us (opened w))
  where
    go : (vs : Tokens) → [] ≡ vs ++ x.1 → d ≤ length vs → ((k : ℕ) (us : Tokens) → Begins W us → length (vs ++ us) < b + k → R k (vs ++ us) ≡ Done (x.0, us))
        → ((us : Tokens) → Begins W us → Near S [] (vs ++ us)) → Completes A S W b d [] [] R
    go [] e n f g = record { ending = []; value = x.0; enough = n; accepted = f; opens = g }
    go (v ∷ vs) e n f g = absurd (omega (arith, ap length e))
fresh {A} {P} {Q} {S} {W} {b} {d} {R} (Refused q p) h = let s = h.says.1 in go s.taken s.whole s.completes
  where
    go : (vs : Tokens) → [] ≡ vs ++ h.says.1.left → Completes A S W b d [] vs R → Completes A S W b d [] [] R
    go [] e c = c
    go (v ∷ vs) e c = absurd (omega (arith, ap length e))

opens_fresh : {S : Token → Type 0} (W : Token → Type 0) (vs us : Tokens) → Begins W us → Near S [] (vs ++ us) → Begins S (vs ++ us)
opens_fresh W vs us w (opened v) = v
opens_fresh W [] [] w (alike h) = absurd w
opens_fresh W [] (u ∷ us) w (alike h) = absurd h
opens_fresh W (v ∷ vs) us w (alike h) = absurd h

module _ {A B : Type 0} {S S' W W' : Token → Type 0} {b b' d : ℕ} {ts : Tokens} where
  -- a first part that is refused: its ending, then what the second part accepts from nothing
  pub completes_first : {taken : Tokens} {G : ℕ → Tokens → Read A} (K : ℕ → A × Tokens → Read B) → b ≤ d + b' → ((t : Token) → S' t → W t) → (c : Completes A S W b d ts taken G)
      → Completes B S' W' b' 0 [] [] (λ k us. K k (c.value, us)) → Completes B S W' b d ts taken (λ k us. G k us >>= K k)
  completes_first {taken} {G} K g v c n =
      let follows : (us : Tokens) → Begins W' us → Begins W (n.ending ++ us) = λ us w. begins-more v (n.ending ++ us) (opens_fresh W' n.ending us w (n.opens us w)) in
      let z = c.enough in
      record {
        ending = c.ending ++ n.ending;
        value = n.value;
        enough = omega (arith, length-append taken (c.ending ++ n.ending), length-append c.ending n.ending, length-append taken c.ending);
        accepted = λ k us w l.
            let e : taken ++ ((c.ending ++ n.ending) ++ us) ≡ taken ++ (c.ending ++ (n.ending ++ us)) = ap (λ xs. taken ++ xs) (append_assoc c.ending n.ending us) in
            let l' : length (taken ++ (c.ending ++ (n.ending ++ us))) < b + k = subst (λ xs. length xs < b + k) e l in
            bind_to (G k (taken ++ ((c.ending ++ n.ending) ++ us))) (c.value, n.ending ++ us) (K k) (ap (G k) e ∙ c.accepted k (n.ending ++ us) (follows us w) l')
            ∙ n.accepted k us w (omega (arith, length-append taken (c.ending ++ (n.ending ++ us)), length-append c.ending (n.ending ++ us), length-append taken c.ending));
        opens = λ us w. subst (λ xs. Near S ts (taken ++ xs)) (sym (append_assoc c.ending n.ending us)) (c.opens (n.ending ++ us) (follows us w));
      }

  -- The fuel that the second part needs may be less by the tokens that the first takes.
  pub bind_less : {P : Token → Type 0} {Q : A → Type 0} {Q' : B → Type 0} (r : Read A) {G : ℕ → Tokens → Read A} → b ≤ d + b' → ((t : Token) → S' t → W t)
      → (C : A × Tokens → Read B) (K : ℕ → A × Tokens → Read B) → Reads A P Q S W b d ts r G →
      ((a : A) (rs : Tokens) → length rs ≤ length ts - d → Reads B P (λ x. Q a → Q' x) S' W' b' 0 rs (C (a, rs)) (λ k us. K k (a, us))) → Reads B P Q' S W' b d ts (r >>= C) (λ k us. G k us >>= K k)
  unfolding ◌>>=◌
  bind_less (Done x) {G} g v C K h f =
      let s = h.says in
      let z = s.enough in
      move {vs = s.taken} (C x) (f x.0 x.1 (omega (arith, length-append s.taken x.1, ap length s.whole))) (omega arith)
      (record {
        whole = s.whole;
        inner = s.inner;
        step = λ k us w l. (k, omega (arith, length-append s.taken us), bind_to (G k (s.taken ++ us)) (x.0, us) (K k) (s.again k us (near_more v w) l));
        near = λ us w. s.opens us (near_more v w);
        value = λ y p q. q (s.value p);
      })
  bind_less (Refused q p) {G} g v C K h f =
      let s = h.says.1 in
      let c = s.completes in
      record {
        says = (
          h.says.0,
          record {
            taken = s.taken;
            left = s.left;
            whole = s.whole;
            inner = s.inner;
            place = s.place;
            again = λ k us w l. bind_refused (G k (s.taken ++ us)) 4 p (K k) (s.again k us w l);
            completes = completes_first K g v c (fresh (C (c.value, [])) (f c.value [] (omega arith)));
          },
        );
      }

module _ {A B : Type 0} {P : Token → Type 0} {Q : A → Type 0} {Q' : B → Type 0} {S S' W' : Token → Type 0} {b d : ℕ} {ts : Tokens} where
  pub bind_before : {W : Token → Type 0} (r : Read A) {G : ℕ → Tokens → Read A} → ((t : Token) → S' t → W t) → (C : A × Tokens → Read B) (K : ℕ → A × Tokens → Read B) → Reads A P Q S W b d ts r G →
      ((a : A) (rs : Tokens) → length rs ≤ length ts - d → Reads B P (λ x. Q a → Q' x) S' W' b 0 rs (C (a, rs)) (λ k us. K k (a, us))) → Reads B P Q' S W' b d ts (r >>= C) (λ k us. G k us >>= K k)
  bind_before r v C K h f = bind_less r (omega arith) v C K h f

  pub bind : (r : Read A) {G : ℕ → Tokens → Read A} (C : A × Tokens → Read B) (K : ℕ → A × Tokens → Read B) → Reads A P Q S S' b d ts r G →
      ((a : A) (rs : Tokens) → length rs ≤ length ts - d → Reads B P (λ x. Q a → Q' x) S' W' b 0 rs (C (a, rs)) (λ k us. K k (a, us))) → Reads B P Q' S W' b d ts (r >>= C) (λ k us. G k us >>= K k)
  bind r C K h f = bind_less r (omega arith) (λ t v. v) C K h f

-- a choice by the front token
module _ {A : Type 0} {P : Token → Type 0} {Q : A → Type 0} {S W : Token → Type 0} {b d : ℕ} {ts : Tokens} where
  pub choose_both : {S₁ S₂ : Token → Type 0} (test : Token → Bool) {x y : Read A} {X Y : ℕ → Tokens → Read A} → ((t : Token) → S₁ t → test t ≡ true) → ((t : Token) → S₂ t → test t ≡ false)
      → ((t : Token) → S₁ t → S t) → ((t : Token) → S₂ t → S t) →
      (test (front ts) ≡ true → Reads A P Q S₁ W b d ts x X) → (test (front ts) ≡ false → Reads A P Q S₂ W b d ts y Y)
      → Reads A P Q S W b d ts (elim (test (front ts)) [ true ↦ x | false ↦ y ]) (λ k us. elim (test (front us)) [ true ↦ X k us | false ↦ Y k us ])
  choose_both test {x} {y} {X} {Y} c₁ c₂ v₁ v₂ f g = go (test (front ts)) refl
    where
      go : (c : Bool) → test (front ts) ≡ c → Reads A P Q S W b d ts (elim c [ true ↦ x | false ↦ y ]) (λ k us. elim (test (front us)) [ true ↦ X k us | false ↦ Y k us ])
      go true e = transfer x v₁ (f e) (λ k us w l. pick (test (front us)) (X k us) (Y k us) (near_test test true ts us e c₁ w))
      go false e = transfer y v₂ (g e) (λ k us w l. leave (test (front us)) (X k us) (Y k us) (near_test test false ts us e c₂ w))

  -- where the first way takes the front token
  pub choose : (test : Token → Bool) {x y : Read A} {X Y : ℕ → Tokens → Read A} → ((t : Token) → S t → test t ≡ false) →
      (test (front ts) ≡ true → Reads A P Q (λ t. ⊥) W b d ts x X) → (test (front ts) ≡ false → Reads A P Q S W b d ts y Y)
      → Reads A P Q S W b d ts (elim (test (front ts)) [ true ↦ x | false ↦ y ]) (λ k us. elim (test (front us)) [ true ↦ X k us | false ↦ Y k us ])
  choose test c f g = choose_both {S₁ = λ t. ⊥} {S₂ = S} test (λ t v. absurd v) c (λ t v. absurd v) (λ t v. v) f g

-- a token taken, then the rest
pub take : {A : Type 0} {P : Token → Type 0} {Q : A → Type 0} {S S' W : Token → Type 0} {b b' d d' : ℕ} {X : ℕ → Tokens → Read A} (ts : Tokens) (r : Read A) → Inner (front ts) → b ≤ suc b'
    → d ≤ suc d' → Reads A P (λ a. P (front ts) → Q a) S W b' d' (rest ts) r X → Reads A P Q S' W b d ts r (λ k us. X k (rest us))
take [] r i g m h = absurd (false≢true (sym i))
take {X = X} (t ∷ ts) r i g m h = prefixed (λ k us. X k (rest us)) t r i g m h

-- one token, or another one in its place
pub one : {A : Type 0} {P : Token → Type 0} {Q : A → Type 0} {S W : Token → Type 0} {b : ℕ} (ts : Tokens) (f : Token → A) → Inner (front ts) → ((t : Token) → P t → Q (f t))
    → Reads A P Q S W b 1 ts (Done (f (front ts), rest ts)) (λ k us. Done (f (front us), rest us))
one [] f i q = absurd (false≢true (sym i))
one (t ∷ ts) f i q = record { says = record { taken = t ∷ []; whole = refl; inner = (i, tt); enough = omega arith; again = λ k us w l. refl; opens = λ us w. alike refl; value = λ p. q t p.0 } }

pub one_of : {A : Type 0} {P : Token → Type 0} {Q : A → Type 0} {W : Token → Type 0} {b : ℕ} (test : Token → Bool) (f : Token → A) (u : Token) (ts : Tokens) → test u ≡ true
    → ((t : Token) → test t ≡ true → Inner t) → ((t : Token) → P t → Q (f t)) →
    Reads A P Q (λ t. t ≡ u) W b 1 ts (elim (test (front ts)) [ true ↦ Done (f (front ts), rest ts) | false ↦ stop ts ])
    (λ k us. elim (test (front us)) [ true ↦ Done (f (front us), rest us) | false ↦ stop us ])
one_of {A} {P} {Q} {W} {b} test f u ts h i q = go (test (front ts)) refl
  where
    R : ℕ → Tokens → Read A
    R k us = elim (test (front us)) [ true ↦ Done (f (front us), rest us) | false ↦ stop us ]

    go : (c : Bool) → test (front ts) ≡ c → Reads A P Q (λ t. t ≡ u) W b 1 ts (elim c [ true ↦ Done (f (front ts), rest ts) | false ↦ stop ts ]) R
    go true e =
        transfer {S = λ t. ⊥} _ (λ t v. absurd v) (one ts f (i (front ts) e) q)
        (λ k us w l. pick (test (front us)) (Done (f (front us), rest us)) (stop us) (near_test test true ts us e (λ t v. absurd v) w))
    go false e =
        record {
          says = (
            refl,
            record {
              taken = [];
              left = ts;
              whole = refl;
              inner = tt;
              place = refl;
              again = λ k us w l. leave (test (front us)) _ _ (ap test (alike-front ts us w) ∙ e) ∙ ap (λ (t : Token). Refused 4 t.at) (alike-front ts us w);
              completes = record { ending = u ∷ []; value = f u; enough = omega arith; accepted = λ k us w l. pick (test u) (Done (f u, us)) (stop (u ∷ us)) h; opens = λ us w. opened refl };
            },
          );
        }

-- no tokens: whatever the fuel, they are refused
pub none_reads : {A : Type 0} {P : Token → Type 0} {Q : A → Type 0} {S W : Token → Type 0} {b d : ℕ} {F : ℕ → Tokens → Read A} (ts : Tokens) → length ts ≤ 0 → ((k : ℕ) → 0 < b + k → F k [] ≡ stop [])
    → Completes A S W b d [] [] F → Reads A P Q S W b d ts (stop ts) F
none_reads {A} {b = b} {F = F} [] h e c = record { says = (refl, record { taken = []; left = []; whole = refl; inner = tt; place = refl; again = again; completes = c }) }
  where
    again : (k : ℕ) (us : Tokens) → Alike [] us → length us < b + k → F k us ≡ stop {A = A} []
    again k [] w l = e k l
    again k (u ∷ us) w l = absurd w
none_reads (t ∷ ts) h e c = absurd (omega arith)

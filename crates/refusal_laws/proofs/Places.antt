-- The first of several places is the first of all of them.
use Rattle.std.specs.Prelude.{ℕ, min, ◌≤◌, ◌≡◌, refl, Bool, true, false, List, [], ◌∷◌, ◌++◌, map, ◌↔◌, ◌⊎◌, leb}
use Rattle.std.proofs.Common.{subst, inl, inr, ⊎_elim, arith, leb-true, leb-false}
use Rattle.std.proofs.Math.Option.{Option, none, some}
use Rattle.language.specs.Places.{first, first_in, unless}
use Rattle.language.proofs.Laws.Basics.Lists.{All}
use Rattle.refusal_laws.specs.Refusals.{Among, FirstPlace}

pub nowhere : {A : ℕ → Type 0} → ((p : ℕ) → ¬ A p) → FirstPlace A none
nowhere h = record { says = h }

pub at : {A : ℕ → Type 0} (p : ℕ) → A p → ((q : ℕ) → A q → p ≤ q) → FirstPlace A (some p)
at p h k = record { says = (h, k) }

lesser : (P : ℕ → Type 0) (p q : ℕ) → P p → P q → P (min p q)
lesser P p q f g = go (leb p q) refl
  where
    go : (b : Bool) → leb p q ≡ b → P (min p q)
    go true e = let l = leb-true p q e in subst P (omega arith) f
    go false e = let l = leb-false p q e in subst P (omega arith) g

pub either : {A B : ℕ → Type 0} (o q : Option ℕ) → FirstPlace A o → FirstPlace B q → FirstPlace (λ p. A p ⊎ B p) (first o q)
either none none h k = nowhere (λ p s. ⊎_elim (h.says p) (k.says p) s)
either none (some q) h k = at q (inr k.says.0) (λ r s. ⊎_elim (λ a. absurd (h.says r a)) (k.says.1 r) s)
either (some p) none h k = at p (inl h.says.0) (λ r s. ⊎_elim (h.says.1 r) (λ b. absurd (k.says r b)) s)
either {A} {B} (some p) (some q) h k =
    at (min p q) (lesser (λ r. A r ⊎ B r) p q (inl h.says.0) (inr k.says.0))
    (λ r s. ⊎_elim (λ a. let l = h.says.1 r a in omega arith) (λ b. let l = k.says.1 r b in omega arith) s)

pub same-places : {A B : ℕ → Type 0} (o : Option ℕ) → ((p : ℕ) → A p ↔ B p) → FirstPlace A o → FirstPlace B o
same-places none e h = nowhere (λ p b. h.says p ((e p).1 b))
same-places (some p) e h = at p ((e p).0 h.says.0) (λ q b. h.says.1 q ((e q).1 b))

pub unless-place : {P : Type 0} (b : Bool) (p : ℕ) → (b ≡ true → ¬ P) → (b ≡ false → P) → FirstPlace (λ q. P × (q ≡ p)) (unless b p)
unless-place true p f g = nowhere (λ q h. f refl h.0)
unless-place false p f g = at p (g refl, refl) (λ q h. let e = h.1 in omega arith)

-- lists
pub in_list : {A : Type 0} (P : A → Type 0) (Fault : A → ℕ → Type 0) (f : A → Option ℕ) → ((a : A) → P a → FirstPlace (Fault a) (f a)) → (l : List A) → All P l →
    FirstPlace (λ p. Among (λ a. Fault a p) l) (first_in f l)
in_list P Fault f h [] u = nowhere (λ p e. e)
in_list P Fault f h (a ∷ l) u = either (f a) (first_in f l) (h a u.0) (in_list P Fault f h l u.1)

pub among-append : {A : Type 0} (Q : A → Type 0) (l m : List A) → (Among Q l ⊎ Among Q m) ↔ Among Q (l ++ m)
among-append Q [] m = (λ s. ⊎_elim (λ e. absurd e) (λ b. b) s, inr)
among-append Q (a ∷ l) m =
    let more = among-append Q l m in (
      λ s. ⊎_elim (λ s. ⊎_elim inl (λ b. inr (more.0 (inl b))) s) (λ b. inr (more.0 (inr b))) s,
      λ s. ⊎_elim (λ h. inl (inl h)) (λ b. ⊎_elim (λ c. inl (inr c)) inr (more.1 b)) s,
    )

pub among-map : {A B : Type 0} (Q : B → Type 0) (f : A → B) (l : List A) → Among Q (map f l) ↔ Among (λ a. Q (f a)) l
among-map Q f [] = (λ e. e, λ e. e)
among-map Q f (a ∷ l) = let more = among-map Q f l in (λ s. ⊎_elim inl (λ b. inr (more.0 b)) s, λ s. ⊎_elim inl (λ b. inr (more.1 b)) s)

pub among_same : {A : Type 0} {P Q : A → Type 0} → ((a : A) → P a ↔ Q a) → (l : List A) → Among P l ↔ Among Q l
among_same e [] = (λ s. s, λ s. s)
among_same e (a ∷ l) = let more = among_same e l in (λ s. ⊎_elim (λ h. inl ((e a).0 h)) (λ b. inr (more.0 b)) s, λ s. ⊎_elim (λ h. inl ((e a).1 h)) (λ b. inr (more.1 b)) s)

-- the faults of two lists, one behind the other
pub appended : {A : Type 0} (Fault : A → ℕ → Type 0) (l m : List A) (o q : Option ℕ) → FirstPlace (λ p. Among (λ a. Fault a p) l) o → FirstPlace (λ p. Among (λ a. Fault a p) m) q →
    FirstPlace (λ p. Among (λ a. Fault a p) (l ++ m)) (first o q)
appended Fault l m o q h k = same-places (first o q) (λ p. among-append (λ a. Fault a p) l m) (either o q h k)

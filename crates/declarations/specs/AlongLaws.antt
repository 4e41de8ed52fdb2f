-- Laws of things in order with their entries.
use Rattle.std.specs.Prelude.{ℕ, suc, ◌+◌, ◌≤◌, ◌<◌, List, [], ◌∷◌, ◌++◌, ◌≡◌, refl, length, get_or, take, drop}
use Rattle.std.proofs.Common.{sym, ap, ◌∙◌, subst, arith, length-append, length-take-le, get_or-append-add}
use Rattle.std.proofs.Math.ListN.{get_or-append}
use Rattle.std.proofs.lemmas.List.Edits.{sets, sets-eq}
use Rattle.language.proofs.Laws.Basics.Lists.{All}
use Rattle.language.proofs.Laws.Values.PortLaws.{Pairs}
use Rattle.declarations.specs.Along.{Along}

pub along_from : {A : Type 0} (P : A → ℕ → Type 0) (order ks : List ℕ) (j : ℕ) (l : List A) → Pairs P l ks → ((i : ℕ) → i < length ks → get_or order (j + i) 0 ≡ get_or ks i 0) → Along P order j l
along_from P order ks j [] h e = tt
along_from P order [] j (a ∷ l) h e = absurd h
along_from P order (k ∷ ks) j (a ∷ l) h e = (
  subst (P a) (sym (ap (λ i. get_or order i 0) (omega arith) ∙ e 0 (omega arith))) h.0,
  along_from P order ks (suc j) l h.1 (λ i m. ap (λ n. get_or order n 0) (omega arith) ∙ e (suc i) (omega arith)),
)

pub along_both : {A : Type 0} (P : A → ℕ → Type 0) (Q : A → Type 0) (order : List ℕ) (j : ℕ) (l : List A) → Along P order j l → All Q l → Along (λ a k. P a k × Q a) order j l
along_both P Q order j [] h g = tt
along_both P Q order j (a ∷ l) h g = ((h.0, g.0), along_both P Q order (suc j) l h.1 g.1)

pub pairs-length : {A B : Type 0} (R : A → B → Type 0) (l : List A) (m : List B) → Pairs R l m → length l ≡ length m
pairs-length R [] [] h = refl
pairs-length R [] (b ∷ m) h = absurd h
pairs-length R (a ∷ l) [] h = absurd h
pairs-length R (a ∷ l) (b ∷ m) h = ap suc (pairs-length R l m h.1)

-- a run of stores, read again
pub sets-read : (l : List ℕ) (i : ℕ) (vs : List ℕ) (k : ℕ) → i + length vs ≤ length l → k < length vs → get_or (sets l i vs) (i + k) 0 ≡ get_or vs k 0
sets-read l i vs k h m =
    let t = length-take-le i l (omega arith) in
    ap (λ s. get_or s (i + k) 0) (sets-eq vs l i h) ∙ ap (λ n. get_or ((take i l ++ vs) ++ drop (i + length vs) l) (n + k) 0) (sym t)
    ∙ get_or-append (take i l ++ vs) (drop (i + length vs) l) 0 (length (take i l) + k) (let s = length-append (take i l) vs in omega arith) ∙ get_or-append-add (take i l) vs k 0

-- Spellings with one byte more: when they are equal.
use Rattle.std.specs.Prelude.{ℕ, suc, ◌<◌, List, [], ◌∷◌, Bool, true, false, ◌≢◌, ◌⊎◌, ◌≡◌, refl, eqb, length, get_or}
use Rattle.std.proofs.lemmas.List.{append_cancel_right}
use Rattle.std.proofs.Common.{inl, inr, sym, ap, ◌∙◌, arith, length-append, eqb-true}
use Rattle.std.proofs.lemmas.Bool.{eqb-false}
use Rattle.spellings.specs.Trie.{more}

-- two spellings with one byte more
more-length : (s : List ℕ) (b : ℕ) → length (more s b) ≡ suc (length s)
more-length s b = length-append s (b ∷ []) ∙ omega arith

last_byte : (s : List ℕ) (b : ℕ) → get_or (more s b) (length s) 0 ≡ b
last_byte [] b = refl
last_byte (x ∷ s) b = last_byte s b

pub same_byte : (s u : List ℕ) (b d : ℕ) → more s b ≡ more u d → b ≡ d
same_byte s u b d e =
    let m : length s ≡ length u = (let x = more-length s b in let y = more-length u d in let z = ap length e in omega arith) in
    sym (last_byte s b) ∙ ap (λ l. get_or l (length s) 0) e ∙ ap (λ i. get_or (more u d) i 0) m ∙ last_byte u d

pub same-front : (s u : List ℕ) (b d : ℕ) → more s b ≡ more u d → s ≡ u
same-front s u b d e = append_cancel_right s u (d ∷ []) (ap (more s) (sym (same_byte s u b d e)) ∙ e)

pub never-more : (s : List ℕ) (b : ℕ) → s ≢ more s b
never-more s b e = let m = more-length s b in let z = ap length e in omega arith

pub never-empty : (s : List ℕ) (b : ℕ) → [] ≢ more s b
never-empty s b e = let m = more-length s b in let z : 0 ≡ length (more s b) = ap length e in omega arith

pub equal_or_not : (a b : ℕ) → (a ≡ b) ⊎ (a ≢ b)
equal_or_not a b = go (eqb a b) refl
  where
    go : (c : Bool) → eqb a b ≡ c → (a ≡ b) ⊎ (a ≢ b)
    go true e = inl (eqb-true a b e)
    go false e = inr (eqb-false a b e)

pub positive : (a : ℕ) → a ≢ 0 → 0 < a
positive a d = omega arith

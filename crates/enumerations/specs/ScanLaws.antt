-- The first bad word is the first of the three places that refusal 10 names.
use Rattle.std.specs.Prelude.{ℕ, zero, suc, ◌-◌, ◌≤◌, ◌<◌, min, List, [], ◌∷◌, ◌++◌, map, Bool, true, false, ◌&&◌, ◌||◌, not, ◌≡◌, refl, eqb, leb, ltb, length, drop}
use Rattle.std.proofs.lemmas.List.{map-append}
use Rattle.std.proofs.lemmas.Bool.{false≢true, not-true}
use Rattle.std.proofs.Math.Option.{Option, none, some}
use Rattle.std.proofs.Common.{sym, ap, ap₂, ◌∙◌, length-append, arith, ltb-true, ltb-false, ne_eqb, eq-eqb}
use Rattle.language.specs.Limits.{max_words, max_marks}
use Rattle.language.specs.Tokens.{Token}
use Rattle.language.specs.Tree.{Identifier}
use Rattle.language.specs.Places.{first, first_in, unless}
use Rattle.language.specs.Names.{place_of_first}
use Rattle.language.specs.Words.{meet, words_in, wrong_length, wrong_lengths, clash, clashes}
use Rattle.language.proofs.Laws.Basics.Lists.{All, all_append}
use Rattle.language.proofs.Laws.Basics.Tests.{split, pick, leave, and_left, and_right}
use Rattle.language.proofs.Laws.Basics.NoPlace.{first_none, first_assoc, first_comm}
use Rattle.traversal.specs.PlaceLaws.{first_in-append}
use Rattle.enumerations.specs.Scan.{Word, owned, words_from, meets, any_meets, good, scan, scan_all, Ascends}

-- no place before p
abbrev At : ℕ → Option ℕ → Type 0
At p none = Unit {0}
At p (some q) = p ≤ q

record Floor (p : ℕ) (o : Option ℕ) : Type 0 where
  says : At p o

floor_none : {p : ℕ} → Floor p none
floor_none = record { says = tt }

floor_some : {p q : ℕ} → p ≤ q → Floor p (some q)
floor_some h = record { says = h }

floor_first : {p : ℕ} {a b : Option ℕ} → Floor p a → Floor p b → Floor p (first a b)
floor_first {p} {a} {b} h g = record { says = go a b h.says g.says }
  where
    go : (a b : Option ℕ) → At p a → At p b → At p (first a b)
    go none b h g = g
    go (some q) none h g = h
    go (some q) (some r) h g = omega arith

hit_left : {p : ℕ} (a b : Option ℕ) → a ≡ some p → Floor p b → first a b ≡ some p
hit_left {p} a b e g = ap (λ x. first x b) e ∙ go b g.says
  where
    go : (b : Option ℕ) → At p b → first (some p) b ≡ some p
    go none h = refl
    go (some q) h = let m : min p q ≡ p = omega arith in ap some m

hit_right : {p : ℕ} (a b : Option ℕ) → Floor p a → b ≡ some p → first a b ≡ some p
hit_right a b g e = first_comm a b ∙ hit_left b a e g

floor_in : {A : Type 0} {p : ℕ} (f : A → Option ℕ) (xs : List A) → All (λ x. Floor p (f x)) xs → Floor p (first_in f xs)
floor_in f [] h = floor_none
floor_in f (x ∷ xs) h = floor_first h.0 (floor_in f xs h.1)

floor_unless : {p q : ℕ} (b : Bool) → p ≤ q → Floor p (unless b q)
floor_unless true h = floor_none
floor_unless false h = floor_some h

abbrev tokens_of : List Word → List Token
tokens_of vs = map (λ (v : Word). v.token) vs

-- two words of different identifiers
abbrev clash_if : Word → Word → Option ℕ
clash_if u v = elim (meets u v) [ true ↦ some v.token.at | false ↦ none ]

abbrev clashes_with : List Word → Word → Option ℕ
clashes_with vs u = first_in (clash_if u) vs

abbrev clashes_in : List Word → Option ℕ
clashes_in [] = none
clashes_in (v ∷ vs) = first (clashes_with vs v) (clashes_in vs)

-- every place of words that stand at p or later
abbrev Later : ℕ → List Word → Type 0
Later p vs = All (λ (u : Word). p ≤ u.token.at) vs

floor_lengths : (p n : ℕ) (vs : List Word) → Later p vs → Floor p (first_in (wrong_length n) (tokens_of vs))
floor_lengths p n [] h = floor_none
floor_lengths p n (v ∷ vs) h = floor_first (floor_unless (eqb (length v.token.text) n && leb n max_marks) h.0) (floor_lengths p n vs h.1)

floor_many : (p k : ℕ) (vs : List Word) → Later p vs → Floor p (place_of_first (drop k (tokens_of vs)))
floor_many p zero [] h = floor_none
floor_many p zero (v ∷ vs) h = floor_some h.0
floor_many p (suc k) [] h = floor_none
floor_many p (suc k) (v ∷ vs) h = floor_many p k vs h.1

floor_clash_if : (p : ℕ) (u v : Word) → p ≤ v.token.at → Floor p (clash_if u v)
floor_clash_if p u v h = split (Floor p) (meets u v) (λ _. floor_some h) (λ _. floor_none)

floor_with : (p : ℕ) (vs : List Word) (u : Word) → Later p vs → Floor p (clashes_with vs u)
floor_with p [] u h = floor_none
floor_with p (v ∷ vs) u h = floor_first (floor_clash_if p u v h.0) (floor_with p vs u h.1)

floor_against : (p : ℕ) (us vs : List Word) → Later p vs → Floor p (first_in (clashes_with vs) us)
floor_against p [] vs h = floor_none
floor_against p (u ∷ us) vs h = floor_first (floor_with p vs u h) (floor_against p us vs h)

floor_clashes : (p : ℕ) (vs : List Word) → Later p vs → Floor p (clashes_in vs)
floor_clashes p [] h = floor_none
floor_clashes p (v ∷ vs) h = floor_first (floor_with p vs v h.1) (floor_clashes p vs h.1)

-- an earlier word meets v, or none does
hit_against : (p : ℕ) (us vs : List Word) (v : Word) → p ≡ v.token.at → Later p (v ∷ vs) → any_meets us v ≡ true → first_in (clashes_with (v ∷ vs)) us ≡ some p
hit_against p [] vs v e h m = absurd (false≢true m)
hit_against p (u ∷ us) vs v e h m = go (meets u v) refl (λ k. hit_against p us vs v e h k)
  where
    go : (b : Bool) → meets u v ≡ b → (any_meets us v ≡ true → first_in (clashes_with (v ∷ vs)) us ≡ some p) → first_in (clashes_with (v ∷ vs)) (u ∷ us) ≡ some p
    go true z rec =
        hit_left (clashes_with (v ∷ vs) u) (first_in (clashes_with (v ∷ vs)) us)
        (hit_left (clash_if u v) (clashes_with vs u) (pick (meets u v) _ _ z ∙ ap some (sym e)) (floor_with p vs u h.1)) (floor_against p us (v ∷ vs) h)
    go false z rec =
        hit_right (clashes_with (v ∷ vs) u) (first_in (clashes_with (v ∷ vs)) us) (floor_with p (v ∷ vs) u h)
        (rec (sym (ap (λ b. b || any_meets us v) z) ∙ m))

pass-against : (us vs : List Word) (v : Word) → any_meets us v ≡ false → first_in (clashes_with (v ∷ vs)) us ≡ first_in (clashes_with vs) us
pass-against [] vs v m = refl
pass-against (u ∷ us) vs v m = go (meets u v) refl (λ k. pass-against us vs v k)
  where
    go : (b : Bool) → meets u v ≡ b → (any_meets us v ≡ false → first_in (clashes_with (v ∷ vs)) us ≡ first_in (clashes_with vs) us)
        → first_in (clashes_with (v ∷ vs)) (u ∷ us) ≡ first_in (clashes_with vs) (u ∷ us)
    go true z rec = absurd (false≢true (sym m ∙ ap (λ b. b || any_meets us v) z))
    go false z rec = ap₂ first (ap (λ x. first x (clashes_with vs u)) (leave (meets u v) _ _ z)) (rec (sym (ap (λ b. b || any_meets us v) z) ∙ m))

none_against : (us : List Word) → first_in (clashes_with []) us ≡ none
none_against [] = refl
none_against (u ∷ us) = none_against us

-- the three places, after the words us
abbrev three : ℕ → List Word → List Word → Option ℕ
three n us vs =
    first (first_in (wrong_length n) (tokens_of vs))
    (first (place_of_first (drop (max_words - length us) (tokens_of vs))) (first (first_in (clashes_with vs) us) (clashes_in vs)))

-- a good word gives none of them
module _ (n : ℕ) (us vs : List Word) (v : Word) where
  room_for : ltb (length us) max_words ≡ true → place_of_first (drop (max_words - length us) (v.token ∷ tokens_of vs)) ≡ place_of_first (drop (max_words - length (us ++ (v ∷ []))) (tokens_of vs))
  room_for h =
      let few : length us < max_words = ltb-true (length us) max_words h in
      let k : max_words - length us ≡ suc (max_words - length (us ++ (v ∷ []))) = omega (arith, length-append us (v ∷ [])) in
      ap (λ j. place_of_first (drop j (v.token ∷ tokens_of vs))) k

  clashes_on : any_meets us v ≡ false → first (first_in (clashes_with (v ∷ vs)) us) (first (clashes_with vs v) (clashes_in vs)) ≡ first (first_in (clashes_with vs) (us ++ (v ∷ []))) (clashes_in vs)
  clashes_on m =
      ap (λ x. first x (first (clashes_with vs v) (clashes_in vs))) (pass-against us vs v m) ∙ sym (first_assoc (first_in (clashes_with vs) us) (clashes_with vs v) (clashes_in vs))
      ∙ ap (λ x. first x (clashes_in vs)) (sym (first_in-append (clashes_with vs) us (v ∷ []) ∙ ap (first (first_in (clashes_with vs) us)) (first_none (clashes_with vs v))))

  good_on : good n us v ≡ true → three n us (v ∷ vs) ≡ three n (us ++ (v ∷ [])) vs
  good_on g =
      let rest = and_right (eqb (length v.token.text) n && leb n max_marks) _ g in
      ap₂ first (ap (λ x. first x (first_in (wrong_length n) (tokens_of vs))) (ap (λ b. unless b v.token.at) (and_left (eqb (length v.token.text) n && leb n max_marks) _ g)))
      (ap₂ first (room_for (and_left (ltb (length us) max_words) _ rest)) (clashes_on (not-true _ (and_right (ltb (length us) max_words) _ rest))))

  -- a bad one gives its own place, and later words no earlier one
  module _ (later : Later v.token.at vs) where
    all-later : Later v.token.at (v ∷ vs)
    all-later = (omega arith, later)

    lengths-floor : Floor v.token.at (first_in (wrong_length n) (tokens_of (v ∷ vs)))
    lengths-floor = floor_lengths v.token.at n (v ∷ vs) all-later

    many-floor : Floor v.token.at (place_of_first (drop (max_words - length us) (tokens_of (v ∷ vs))))
    many-floor = floor_many v.token.at (max_words - length us) (v ∷ vs) all-later

    clash-floor : Floor v.token.at (first (first_in (clashes_with (v ∷ vs)) us) (clashes_in (v ∷ vs)))
    clash-floor = floor_first (floor_against v.token.at us (v ∷ vs) all-later) (floor_clashes v.token.at (v ∷ vs) all-later)

    by_length : (eqb (length v.token.text) n && leb n max_marks) ≡ false → three n us (v ∷ vs) ≡ some v.token.at
    by_length e =
        hit_left _ _ (hit_left (wrong_length n v.token) (first_in (wrong_length n) (tokens_of vs)) (ap (λ b. unless b v.token.at) e) (floor_lengths v.token.at n vs later))
        (floor_first many-floor clash-floor)

    by_count : ltb (length us) max_words ≡ false → three n us (v ∷ vs) ≡ some v.token.at
    by_count e =
        let full : max_words ≤ length us = ltb-false (length us) max_words e in
        let k : max_words - length us ≡ 0 = omega arith in
        hit_right (first_in (wrong_length n) (tokens_of (v ∷ vs))) _ lengths-floor (hit_left _ _ (ap (λ j. place_of_first (drop j (tokens_of (v ∷ vs)))) k) clash-floor)

    by-clash : any_meets us v ≡ true → three n us (v ∷ vs) ≡ some v.token.at
    by-clash e =
        hit_right (first_in (wrong_length n) (tokens_of (v ∷ vs))) _ lengths-floor (hit_right (place_of_first (drop (max_words - length us) (tokens_of (v ∷ vs)))) _ many-floor
        (hit_left (first_in (clashes_with (v ∷ vs)) us) (clashes_in (v ∷ vs)) (hit_against v.token.at us vs v refl all-later e) (floor_clashes v.token.at (v ∷ vs) all-later)))

    bad-here : good n us v ≡ false → three n us (v ∷ vs) ≡ some v.token.at
    bad-here g = go (eqb (length v.token.text) n && leb n max_marks) refl (ltb (length us) max_words) refl (any_meets us v) refl
      where
        go : (a : Bool) → (eqb (length v.token.text) n && leb n max_marks) ≡ a → (b : Bool) → ltb (length us) max_words ≡ b → (c : Bool) → any_meets us v ≡ c
            → three n us (v ∷ vs) ≡ some v.token.at
        go false ea b eb c ec = by_length ea
        go true ea false eb c ec = by_count eb
        go true ea true eb true ec = by-clash ec
        go true ea true eb false ec = absurd (false≢true (sym g ∙ ap₂ ◌&&◌ ea (ap₂ (λ x y. x && not y) eb ec)))

scan-three : (n : ℕ) (us vs : List Word) → Ascends vs → scan n us vs ≡ three n us vs
scan-three n us [] h = sym (ap₂ first (drop-none (max_words - length us)) (ap (λ x. first x none) (none_against us)))
  where
    drop-none : (k : ℕ) → place_of_first (drop k []) ≡ none
    drop-none zero = refl
    drop-none (suc k) = refl
scan-three n us (v ∷ vs) h = go (good n us v) refl (scan-three n (us ++ (v ∷ [])) vs h.1)
  where
    go : (b : Bool) → good n us v ≡ b → scan n (us ++ (v ∷ [])) vs ≡ three n (us ++ (v ∷ [])) vs → scan n us (v ∷ vs) ≡ three n us (v ∷ vs)
    go true e rec = pick (good n us v) _ _ e ∙ rec ∙ sym (good_on n us vs v e)
    go false e rec = leave (good n us v) _ _ e ∙ sym (bad-here n us vs v h.0 e)

-- words of one identifier do not clash, those of different ones by their marks
tokens-owned : (o : ℕ) (ws : List Token) → tokens_of (owned o ws) ≡ ws
tokens-owned o [] = refl
tokens-owned o (w ∷ ws) = ap (λ l. w ∷ l) (tokens-owned o ws)

tokens-from : (o : ℕ) (is : List Identifier) → tokens_of (words_from o is) ≡ words_in is
tokens-from o [] = refl
tokens-from o (i ∷ is) = map-append (λ (v : Word). v.token) (owned o i.words) (words_from (suc o) is) ∙ ap₂ ◌++◌ (tokens-owned o i.words) (tokens-from (suc o) is)

-- every identifier from o on has a number of at least o
abbrev Above : ℕ → List Word → Type 0
Above o vs = All (λ (v : Word). o ≤ v.owner) vs

above-owned : (o k : ℕ) (ws : List Token) → o ≤ k → Above o (owned k ws)
above-owned o k [] h = tt
above-owned o k (w ∷ ws) h = (h, above-owned o k ws h)

above_from : (o k : ℕ) (is : List Identifier) → o ≤ k → Above o (words_from k is)
above_from o k [] h = tt
above_from o k (i ∷ is) h = all_append (λ (v : Word). o ≤ v.owner) (owned k i.words) (words_from (suc k) is) (above-owned o k i.words h) (above_from o (suc k) is (omega arith))

-- a word against those of its own identifier, and of later ones
with-own : (u : Word) (ws : List Token) → clashes_with (owned u.owner ws) u ≡ none
with-own u [] = refl
with-own u (w ∷ ws) =
    ap₂ first (leave (meets u (record { owner = u.owner; token = w })) _ _ (ap (λ b. not b && meet u.token.text w.text) (eq-eqb u.owner u.owner refl))) (with-own u ws)

with-later : (u : Word) (vs : List Word) → Above (suc u.owner) vs → clashes_with vs u ≡ first_in (clash u.token) (tokens_of vs)
with-later u [] h = refl
with-later u (v ∷ vs) h =
    ap₂ first (ap (λ b. elim b [ true ↦ some v.token.at | false ↦ none ])
    (ap (λ b. not b && meet u.token.text v.token.text) (ne_eqb u.owner v.owner (λ e. let a = h.0 in omega arith)))) (with-later u vs h.1)

with_rest : (o : ℕ) (w : Token) (ws : List Token) (vs : List Word) → Above (suc o) vs → clashes_with (owned o ws ++ vs) (record { owner = o; token = w }) ≡ first_in (clash w) (tokens_of vs)
with_rest o w ws vs h =
    first_in-append (clash_if (record { owner = o; token = w })) (owned o ws) vs ∙ ap₂ first (with-own (record { owner = o; token = w }) ws) (with-later (record { owner = o; token = w }) vs h)

clashes-owned : (o : ℕ) (ws : List Token) (vs : List Word) → Above (suc o) vs → clashes_in (owned o ws ++ vs) ≡ first (first_in (λ u. first_in (clash u) (tokens_of vs)) ws) (clashes_in vs)
clashes-owned o [] vs h = refl
clashes-owned o (w ∷ ws) vs h = ap₂ first (with_rest o w ws vs h) (clashes-owned o ws vs h) ∙ sym
    (first_assoc (first_in (clash w) (tokens_of vs)) (first_in (λ u. first_in (clash u) (tokens_of vs)) ws) (clashes_in vs))

clashes-from : (o : ℕ) (is : List Identifier) → clashes_in (words_from o is) ≡ clashes is
clashes-from o [] = refl
clashes-from o (i ∷ is) =
    clashes-owned o i.words (words_from (suc o) is) (above_from (suc o) (suc o) is (omega arith))
    ∙ ap₂ (λ l c. first (first_in (λ u. first_in (clash u) l) i.words) c) (tokens-from (suc o) is) (clashes-from (suc o) is)

-- the first bad word of an enumeration
pub scan-finds : (o : ℕ) (is : List Identifier) → Ascends (words_from o is)
    → scan_all (words_from o is) ≡ first (wrong_lengths (words_in is)) (first (place_of_first (drop max_words (words_in is))) (clashes is))
scan-finds o is h = all_three (words_from o is) h ∙ ap₂ (λ l c. first (wrong_lengths l) (first (place_of_first (drop max_words l)) c)) (tokens-from o is) (clashes-from o is)
  where
    all_three : (vs : List Word) → Ascends vs → scan_all vs ≡ first (wrong_lengths (tokens_of vs)) (first (place_of_first (drop max_words (tokens_of vs))) (clashes_in vs))
    all_three [] h = refl
    all_three (v ∷ vs) h = scan-three (length v.token.text) [] (v ∷ vs) h

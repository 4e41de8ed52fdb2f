-- Refusal 10 leaves regular words; so are the words that a bus is declared by.
use Rattle.std.specs.Prelude.{ℕ, zero, suc, ◌≤◌, ◌≡◌, refl, ◌&&◌, List, [], ◌∷◌, eqb, leb, length, drop}
use Rattle.std.proofs.Common.{subst, arith, eqb-true, leb-true}
use Rattle.std.proofs.Math.Option.{none}
use Rattle.node.specs.Result.{Done}
use Rattle.node.proofs.ResultLaws.{guard-done}
use Rattle.language.specs.Limits.{max_words, max_marks, max_width}
use Rattle.language.specs.Bytes.{same}
use Rattle.language.specs.Tokens.{Token}
use Rattle.language.specs.Tree.{Identifier, Definition, Defined, Enumerated, Spec}
use Rattle.language.specs.Places.{first}
use Rattle.language.specs.Names.{place_of_first}
use Rattle.language.specs.Words.{words_in, wrong_length, wrong_lengths, clashes, bad_words, wrong_words}
use Rattle.language.specs.Parsing.{parsed}
use Rattle.language.specs.DeclaredNames.{words_of_type, word_width, sized}
pub use Rattle.language.specs.RegularWords.{Regular, RegularDefinition, PortRegular}
use Rattle.language.proofs.Laws.Basics.Lists.{All, all_more}
use Rattle.language.proofs.Laws.Basics.Tests.{split, and_left, and_right, some_none}
use Rattle.language.proofs.Laws.Basics.NoPlace.{first-left, first-right, first_in_none, unless_none}
use Rattle.language.proofs.Laws.Grammar.Parses.{parses}

no_more : (n : ℕ) (ws : List Token) → place_of_first (drop n ws) ≡ none → length ws ≤ n
no_more zero [] e = omega arith
no_more zero (w ∷ ws) e = absurd (some_none e)
no_more (suc n) [] e = omega arith
no_more (suc n) (w ∷ ws) e = let h = no_more n ws e in omega arith

as_wide : (n : ℕ) (ws : List Token) → All (λ w. wrong_length n w ≡ none) ws → All (λ v. length v.text ≡ n) ws
as_wide n ws h =
    all_more (λ w e. let b = eqb (length w.text) n in eqb-true (length w.text) n (and_left b (leb n max_marks) (unless_none (b && leb n max_marks) w.at e))) ws h

equal_words : (ws : List Token) → wrong_lengths ws ≡ none → All (λ v. length v.text ≡ word_width ws) ws
equal_words [] e = tt
equal_words (w ∷ ws) e = as_wide (length w.text) (w ∷ ws) (first_in_none (wrong_length (length w.text)) (w ∷ ws) e)

narrow_words : (ws : List Token) → wrong_lengths ws ≡ none → word_width ws ≤ max_marks
narrow_words [] e = omega arith
narrow_words (w ∷ ws) e =
    let n = length w.text in
    let h = (first_in_none (wrong_length n) (w ∷ ws) e).0 in
    leb-true n max_marks (and_right (eqb n n) (leb n max_marks) (unless_none (eqb n n && leb n max_marks) w.at h))

regular-enumeration : (is : List Identifier) (n : ℕ) → n ≡ max_words → first (wrong_lengths (words_in is)) (first (place_of_first (drop n (words_in is))) (clashes is)) ≡ none
    → Regular (words_in is)
regular-enumeration is n k e =
    let p = wrong_lengths (words_in is) in
    let q = place_of_first (drop n (words_in is)) in
    let even : p ≡ none = first-left p (first q (clashes is)) e in
    record {
      equal = equal_words (words_in is) even;
      narrow = narrow_words (words_in is) even;
      few = subst (λ (m : ℕ). length (words_in is) ≤ m) k (no_more n (words_in is) (first-left q (clashes is) (first-right p (first q (clashes is)) e)));
    }

regular-definition : (d : Definition) → bad_words d ≡ none → RegularDefinition d
regular-definition (Defined x e) h = tt
regular-definition (Enumerated x is) h = regular-enumeration is max_words refl h

pub regular-words : (x : Spec) → wrong_words x ≡ none → All RegularDefinition x.definitions
regular-words x e = all_more regular-definition x.definitions (first_in_none bad_words x.definitions e)

-- the words that a bus is declared by
pub regular_type : (ds : List Definition) → All RegularDefinition ds → (t : Token) → Regular (words_of_type ds t)
regular_type [] h t = record { equal = tt; narrow = omega arith; few = omega arith }
regular_type (Defined x e ∷ ds) h t = regular_type ds h.1 t
regular_type (Enumerated x is ∷ ds) h t = split Regular (same x.text t.text) (λ _. h.0) (λ _. regular_type ds h.1 t)

-- a bus of an enumeration has 1 to 8 bits
pub enumerated_width : (words : List Token) → Regular words → (x : Token) (n : ℕ) → sized x (word_width words) ≡ Done n → (1 ≤ n) × (n ≤ max_marks)
enumerated_width words r x n e =
    let w = word_width words in
    let g = guard-done (leb 1 w && leb w max_width) 13 x.at (Done w) e in
    let s : w ≡ n = cc in
    let l = leb-true 1 w (and_left (leb 1 w) (leb w max_width) g.0) in
    let k = r.narrow in
    omega arith

-- the words of a parsed text's enumerations
pub parsed-regular : (text : List ℕ) (x : Spec) → parsed text ≡ Done x → (u : Token) → Regular (words_of_type x.definitions u)
parsed-regular text x e = regular_type x.definitions (regular-words x (parses e).formed.words)

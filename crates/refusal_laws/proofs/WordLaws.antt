-- 10 is refused at the first word that is unlike the first of its enumeration, too long, one too many, or shares a valuation with an earlier identifier's.
use Rattle.std.specs.Prelude.{ℕ, zero, suc, ◌<◌, ◌≡◌, refl, Bool, true, false, ◌&&◌, ◌||◌, List, [], ◌∷◌, ◌++◌, ◌↔◌, ◌⊎◌, eqb, leb, length, get_or, drop}
use Rattle.std.proofs.Common.{sym, ◌∙◌, ap, subst, inl, inr, ⊎_elim, arith, eqb-true, eq-eqb, leb-true, leb-false}
use Rattle.std.proofs.lemmas.Bool.{false≢true, eqb-false}
use Rattle.std.proofs.Math.Logic.Iff as Equiv
use Rattle.std.proofs.Math.Option.{Option}
use Rattle.language.specs.Limits.{max_words, max_marks}
use Rattle.language.specs.Bytes.{is_mark}
use Rattle.language.specs.Tokens.{Marks, Token, is_of, tokens}
use Rattle.language.specs.Tree.{Identifier, Definition, Defined, Enumerated, Spec}
use Rattle.language.specs.Sections.{spec_of}
use Rattle.language.specs.Places.{first, first_in}
use Rattle.language.specs.Names.{place_of_first}
use Rattle.language.specs.Words.{meet, words_in, wrong_length, wrong_lengths, clash, clashes, bad_words, wrong_words}
use Rattle.language.specs.Meaning.{SignalOf, BitOf, Word, Matches}
use Rattle.language.proofs.Laws.Basics.Lists.{All, Any, all_any, all_both, all_left, all_right, all_append}
use Rattle.language.proofs.Laws.Basics.Tests.{split, or_left, or_right, or_cases, and_left, and_right, or_left_false, or_right_false}
use Rattle.language.proofs.Laws.Basics.Results.{value_of}
use Rattle.language.proofs.Laws.Grammar.TreeTokens.{InIdentifier, InDefinition}
use Rattle.language.proofs.Laws.Grammar.SpecReads.{spec_of_decides}
use Rattle.node.specs.Result.{Done}
use Rattle.enumerations.specs.Scan.{Word as Owned, owned, words_from}
use Rattle.enumerations.specs.Given.{GoodDefinition}
use Rattle.enumerations.specs.WordReads.{good_definitions}
use Rattle.refusal_laws.specs.Refusals.{Among, Following, FirstPlace, joined, words_of, UnlikeAt, OneValuation, SharedAt, BadWordAt, MiswordedAt}
use Rattle.refusal_laws.proofs.Places.{nowhere, at, either, same-places, unless-place, in_list, among-append, among_same}
use Rattle.refusal_laws.proofs.CountLaws.{nth-first}
use Rattle.refusal_laws.proofs.MarkTokens.{AreMarks, Marked, tokens-marked}

-- a star is 42; two marks at one place
abbrev Meet : ℕ → ℕ → Bool
Meet a b = eqb a b || eqb a 42 || eqb b 42

-- words that do not meet differ somewhere, without a star
record Differ (u v : List ℕ) : Type 0 where
  index : ℕ
  inner : index < length u
  outer : index < length v
  unlike : ¬ (get_or u index 0 ≡ get_or v index 0)
  left : ¬ (get_or u index 0 ≡ 42)
  right : ¬ (get_or v index 0 ≡ 42)

differ : (u v : List ℕ) → meet u v ≡ false → Differ u v
differ [] v e = absurd (false≢true (sym e))
differ (a ∷ u) [] e = absurd (false≢true (sym e))
differ (a ∷ u) (b ∷ v) e = go (Meet a b) refl (λ f. differ u v f)
  where
    go : (c : Bool) → Meet a b ≡ c → (meet u v ≡ false → Differ u v) → Differ (a ∷ u) (b ∷ v)
    go true h more =
        let d = more (sym (subst (λ (c : Bool). (c && meet u v) ≡ meet u v) (sym h) refl) ∙ e) in
        record { index = suc d.index; inner = let l = d.inner in omega arith; outer = let l = d.outer in omega arith; unlike = d.unlike; left = d.left; right = d.right }
    go false h more =
        let f = or_left_false (eqb a b || eqb a 42) (eqb b 42) h in
        record {
          index = 0;
          inner = omega arith;
          outer = omega arith;
          unlike = eqb-false a b (or_left_false (eqb a b) (eqb a 42) f);
          left = eqb-false a 42 (or_right_false (eqb a b) (eqb a 42) f);
          right = eqb-false b 42 (or_right_false (eqb a b || eqb a 42) (eqb b 42) h);
        }

mark_at : (ms : List ℕ) (i : ℕ) → AreMarks ms → i < length ms → is_mark (get_or ms i 0) ≡ true
mark_at [] i h l = absurd (omega arith)
mark_at (m ∷ ms) zero h l = h.0
mark_at (m ∷ ms) (suc i) h l = mark_at ms i h.1 (omega arith)

-- a mark that is no star is `0` or `1`
plain : (m : ℕ) → is_mark m ≡ true → ¬ (m ≡ 42) → (m ≡ 48) ⊎ (m ≡ 49)
plain m e n =
    or_cases (eqb m 48 || eqb m 49) (eqb m 42) (λ f. or_cases (eqb m 48) (eqb m 49) (λ h. inl (eqb-true m 48 h)) (λ h. inr (eqb-true m 49 h)) f) (λ h. absurd (n (eqb-true m 42 h))) e

apart : (u v : List ℕ) → AreMarks u → AreMarks v → Differ u v → (x : List ℕ) (w : Word) (t : ℕ) → Matches x u w t → ¬ Matches x v w t
apart u v hu hv d x w t f g =
    let i = d.index in
    let a = get_or u i 0 in
    let b = get_or v i 0 in
    let here = f i d.inner in
    let there = g i d.outer in
    let differs = d.unlike in
    ⊎_elim
    (λ (p : a ≡ 48). ⊎_elim (λ (q : b ≡ 48). absurd (differs (p ∙ sym q))) (λ q. here.0 p (there.1 q)) (plain b (mark_at v i hv d.outer) d.right))
    (λ (p : a ≡ 49). ⊎_elim (λ (q : b ≡ 48). there.0 q (here.1 p)) (λ q. absurd (differs (p ∙ sym q))) (plain b (mark_at v i hv d.outer) d.right))
    (plain a (mark_at u i hu d.inner) d.left)

-- words that meet: the bits that either has as `1`
abbrev either-one : List ℕ → List ℕ → Word
either-one u v t (SignalOf x) = false
either-one u v t (BitOf x i) = eqb (get_or u i 0) 49 || eqb (get_or v i 0) 49

meet_swap : (u v : List ℕ) → meet u v ≡ true → (i : ℕ) → ¬ ((get_or u i 0 ≡ 48) × (get_or v i 0 ≡ 49)) × ¬ ((get_or u i 0 ≡ 49) × (get_or v i 0 ≡ 48))
meet_swap [] v e i = (λ h. let z = h.0 in absurd (omega arith), λ h. let z = h.0 in absurd (omega arith))
meet_swap (a ∷ u) [] e i = (λ h. let z = h.1 in absurd (omega arith), λ h. let z = h.1 in absurd (omega arith))
meet_swap (a ∷ u) (b ∷ v) e (suc i) = meet_swap u v (and_right (Meet a b) (meet u v) e) i
meet_swap (a ∷ u) (b ∷ v) e zero =
    let h = and_left (Meet a b) (meet u v) e in
    let cases : (a ≡ b) ⊎ ((a ≡ 42) ⊎ (b ≡ 42)) =
    or_cases (eqb a b || eqb a 42) (eqb b 42) (λ f. or_cases (eqb a b) (eqb a 42) (λ g. inl (eqb-true a b g)) (λ g. inr (inl (eqb-true a 42 g))) f) (λ g. inr (inr (eqb-true b 42 g))) h in (
      λ k. let p = k.0 in let q = k.1 in ⊎_elim (λ (z : a ≡ b). absurd (omega arith)) (λ s. ⊎_elim (λ (z : a ≡ 42). absurd (omega arith)) (λ (z : b ≡ 42). absurd (omega arith)) s) cases,
      λ k. let p = k.0 in let q = k.1 in ⊎_elim (λ (z : a ≡ b). absurd (omega arith)) (λ s. ⊎_elim (λ (z : a ≡ 42). absurd (omega arith)) (λ (z : b ≡ 42). absurd (omega arith)) s) cases,
    )

shared : (u v : Token) → meet u.text v.text ≡ true → OneValuation u v
shared u v e =
    let a = u.text in
    let b = v.text in
    record {
      bus = [];
      word = either-one a b;
      position = 0;
      earlier = λ i l. (
        λ p s. or_cases (eqb (get_or a i 0) 49) (eqb (get_or b i 0) 49) (λ h. let z = eqb-true (get_or a i 0) 49 h in absurd (omega (arith, p))) (λ h. (meet_swap a b e i).0 (p, eqb-true (get_or b i 0) 49 h)) s,
        λ p. or_left (eqb (get_or a i 0) 49) (eqb (get_or b i 0) 49) (eq-eqb (get_or a i 0) 49 p),
      );
      later = λ i l. (
        λ p s. or_cases (eqb (get_or a i 0) 49) (eqb (get_or b i 0) 49) (λ h. (meet_swap a b e i).1 (eqb-true (get_or a i 0) 49 h, p)) (λ h. let z = eqb-true (get_or b i 0) 49 h in absurd (omega (arith, p))) s,
        λ p. or_right (eqb (get_or a i 0) 49) (eqb (get_or b i 0) 49) (eq-eqb (get_or b i 0) 49 p),
      );
    }

abbrev WordOfMarks : Token → Type 0
WordOfMarks w = AreMarks w.text

clash-first : (u v : Token) → WordOfMarks u → WordOfMarks v → FirstPlace (λ p. OneValuation u v × (p ≡ v.at)) (clash u v)
clash-first u v hu hv =
    split (FirstPlace (λ p. OneValuation u v × (p ≡ v.at))) (meet u.text v.text)
    (λ e. at v.at (shared u v e, refl) (λ q h. let z = h.1 in omega arith))
    (λ e. nowhere (λ p h. let o = h.0 in apart u.text v.text hu hv (differ u.text v.text e) o.bus o.word o.position o.earlier o.later))

-- an identifier's words against those of the later ones
among-joined : {A B : Type 0} (Q : B → Type 0) (f : A → List B) (l : List A) → Among Q (joined f l) ↔ Among (λ a. Among Q (f a)) l
among-joined Q f [] = (λ s. s, λ s. s)
among-joined Q f (a ∷ l) =
    let more = among-joined Q f l in
    Equiv.trans (Equiv.symm (among-append Q (f a) (joined f l))) (λ s. ⊎_elim inl (λ t. inr (more.0 t)) s, λ s. ⊎_elim inl (λ t. inr (more.1 t)) s)

among-never : {A : Type 0} (l : List A) → ¬ Among (λ a. ⊥) l
among-never [] s = s
among-never (a ∷ l) s = ⊎_elim (λ e. e) (among-never l) s

among-either : {A : Type 0} (P Q : A → Type 0) (l : List A) → Among (λ a. P a ⊎ Q a) l ↔ (Among P l ⊎ Among Q l)
among-either P Q [] = (λ s. absurd s, λ s. ⊎_elim (λ e. e) (λ e. e) s)
among-either P Q (a ∷ l) =
    let more = among-either P Q l in (
      λ s. ⊎_elim (λ h. ⊎_elim (λ p. inl (inl p)) (λ q. inr (inl q)) h) (λ t. ⊎_elim (λ p. inl (inr p)) (λ q. inr (inr q)) (more.0 t)) s,
      λ s. ⊎_elim (λ h. ⊎_elim (λ p. inl (inl p)) (λ t. inr (more.1 (inl t))) h) (λ h. ⊎_elim (λ q. inl (inr q)) (λ t. inr (more.1 (inr t))) h) s,
    )

among_swap : {A B : Type 0} (R : A → B → Type 0) (l : List A) (m : List B) → Among (λ a. Among (R a) m) l ↔ Among (λ b. Among (λ a. R a b) l) m
among_swap R l [] = (λ s. absurd (among-never l s), λ s. absurd s)
among_swap R l (b ∷ m) =
    let more = among_swap R l m in
    Equiv.trans (among-either (λ a. R a b) (λ a. Among (R a) m) l) (λ s. ⊎_elim inl (λ t. inr (more.0 t)) s, λ s. ⊎_elim inl (λ t. inr (more.1 t)) s)

words_are : (is : List Identifier) → words_in is ≡ words_of is
words_are [] = refl
words_are (i ∷ is) = ap (i.words ++◌) (words_are is)

abbrev OfMarks : Identifier → Type 0
OfMarks i = All WordOfMarks i.words

words_of_marks : (is : List Identifier) → All OfMarks is → All WordOfMarks (words_in is)
words_of_marks [] h = tt
words_of_marks (i ∷ is) h = all_append WordOfMarks i.words (words_in is) h.0 (words_of_marks is h.1)

abbrev Shares : ℕ → Token → Token → Type 0
Shares p u v = OneValuation u v × (p ≡ v.at)

against : (us : List Token) (is : List Identifier) (p : ℕ) → Among (λ u. Among (Shares p u) (words_in is)) us ↔ Among (λ j. Among (λ u. Among (Shares p u) j.words) us) is
against us is p =
    Equiv.trans (among_same (λ u. subst (λ (ws : List Token). Among (Shares p u) ws ↔ Among (λ j. Among (Shares p u) j.words) is) (sym (words_are is)) (among-joined (Shares p u) (λ i. i.words) is)) us)
    (among_swap (λ u j. Among (Shares p u) j.words) us is)

clashes-first : (is : List Identifier) → All OfMarks is → FirstPlace (SharedAt is) (clashes is)
clashes-first [] h = nowhere (λ p e. e)
clashes-first (i ∷ is) h =
    let one : Token → Option ℕ = λ u. first_in (clash u) (words_in is) in
    either (first_in one i.words) (clashes is)
    (same-places (first_in one i.words) (against i.words is)
    (in_list WordOfMarks (λ u p. Among (Shares p u) (words_in is)) one
    (λ u hu. in_list WordOfMarks (λ v p. Shares p u v) (clash u) (λ v hv. clash-first u v hu hv) (words_in is) (words_of_marks is h.1)) i.words h.0))
    (clashes-first is h.1)

-- lengths
length-first : (n : ℕ) (w : Token) → FirstPlace (λ p. ((¬ length w.text ≡ n) ⊎ (max_marks < length w.text)) × (p ≡ w.at)) (wrong_length n w)
length-first n w =
    let k = length w.text in
    unless-place (eqb k n && leb n max_marks) w.at
    (λ e s. let same = eqb-true k n (and_left (eqb k n) (leb n max_marks) e) in let few = leb-true n max_marks (and_right (eqb k n) (leb n max_marks) e) in
    ⊎_elim (λ f. f same) (λ l. absurd (omega arith)) s)
    (λ e. go k (eqb k n) refl e)
  where
    go : (k : ℕ) (b : Bool) → eqb k n ≡ b → (b && leb n max_marks) ≡ false → (¬ k ≡ n) ⊎ (max_marks < k)
    go k true e f = let same = eqb-true k n e in let many = leb-false n max_marks f in inr (omega arith)
    go k false e f = inl (eqb-false k n e)

unlike_first : (ws : List Token) → FirstPlace (UnlikeAt ws) (wrong_lengths ws)
unlike_first [] = nowhere (λ p e. e)
unlike_first (v ∷ ws) =
    let n = length v.text in
    in_list Any (λ w p. ((¬ length w.text ≡ n) ⊎ (max_marks < length w.text)) × (p ≡ w.at)) (wrong_length n) (λ w _. length-first n w) (v ∷ ws) (all_any (v ∷ ws))

-- an enumeration
abbrev DefinitionOfMarks : Definition → Type 0
DefinitionOfMarks (Defined x e) = Unit {0}
DefinitionOfMarks (Enumerated x is) = All OfMarks is

seventeenth_first : (n : ℕ) (ws vs : List Token) → ws ≡ vs → FirstPlace (λ p. Following (λ before w. (length before ≡ n) × (p ≡ w.at)) [] vs) (place_of_first (drop n ws))
seventeenth_first n ws vs e = subst (λ (us : List Token). FirstPlace (λ p. Following (λ before w. (length before ≡ n) × (p ≡ w.at)) [] vs) (place_of_first (drop n us))) (sym e) (nth-first n vs)

worded : (n : ℕ) (ws : List Token) (is : List Identifier) → ws ≡ words_of is → All OfMarks is
    → FirstPlace (λ p. UnlikeAt (words_of is) p ⊎ Following (λ before w. (length before ≡ n) × (p ≡ w.at)) [] (words_of is) ⊎ SharedAt is p)
    (first (wrong_lengths ws) (first (place_of_first (drop n ws)) (clashes is)))
worded n ws is e h =
    either (wrong_lengths ws) (first (place_of_first (drop n ws)) (clashes is)) (subst (λ (us : List Token). FirstPlace (UnlikeAt (words_of is)) (wrong_lengths us)) (sym e) (unlike_first (words_of is)))
    (either (place_of_first (drop n ws)) (clashes is) (seventeenth_first n ws (words_of is) e) (clashes-first is h))

bad-first : (d : Definition) → DefinitionOfMarks d → FirstPlace (BadWordAt d) (bad_words d)
bad-first (Defined x e) h = nowhere (λ p e. e)
bad-first (Enumerated x is) h = worded max_words (words_in is) is (words_are is) h

-- the words of a text are of marks
marks_owned : (o : ℕ) (ws : List Token) → All (λ (v : Owned). is_of Marks v.token ≡ true) (owned o ws) → All (λ w. is_of Marks w ≡ true) ws
marks_owned o [] h = tt
marks_owned o (w ∷ ws) h = (h.0, marks_owned o ws h.1)

of_marks : (o : ℕ) (is : List Identifier) → All (λ (v : Owned). is_of Marks v.token ≡ true) (words_from o is) → All (InIdentifier Marked) is → All OfMarks is
of_marks o [] h k = tt
of_marks o (i ∷ is) h k = (
  all_both (λ w m f. f m) i.words (marks_owned o i.words (all_left _ (owned o i.words) (words_from (suc o) is) h)) k.0.1,
  of_marks (suc o) is (all_right _ (owned o i.words) (words_from (suc o) is) h) k.1,
)

definition_of_marks : (d : Definition) → GoodDefinition d → InDefinition Marked d → DefinitionOfMarks d
definition_of_marks (Defined x e) g h = tt
definition_of_marks (Enumerated x is) g h = of_marks 1 is g.marks h.1

-- 10
pub misworded_is-first : (text : List ℕ) (x : Spec) → spec_of (tokens text) ≡ Done x → FirstPlace (MiswordedAt x) (wrong_words x)
misworded_is-first text x e =
    in_list DefinitionOfMarks BadWordAt bad_words bad-first x.definitions
    (all_both definition_of_marks x.definitions (good_definitions text e) (value_of e (spec_of_decides Marked (tokens text) (tokens-marked text))).definitions)

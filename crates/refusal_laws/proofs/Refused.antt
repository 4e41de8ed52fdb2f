-- From a text's bytes: what stands at the place of a text refused with 5, 6, 8 or 10, and what an accepted text has nowhere.
use Rattle.std.specs.Prelude.{ℕ, ◌≤◌, ◌≡◌, refl, List, [], ◌∷◌, ◌⊎◌, leb, length}
use Rattle.std.proofs.Common.{sym, ap, subst, inl, inr, ⊎_elim, arith}
use Rattle.std.proofs.Math.Option.{Option, none, some}
use Rattle.node.specs.Result.{Result, Done, Refused, ◌>>=◌}
use Rattle.node.proofs.ResultLaws.{not_done, number_of, guard_other}
use Rattle.language.specs.Limits.{max_bytes, max_names}
use Rattle.language.specs.Tokens.{Token, tokens}
use Rattle.language.specs.Tree.{Identifier, Definition, Defined, Enumerated, Spec}
use Rattle.language.specs.Sections.{spec_of}
use Rattle.language.specs.Places.{refuse_at, too_deep}
use Rattle.language.specs.Names.{not_visible, declared_again, too_many}
use Rattle.language.specs.Types.{wrong_type}
use Rattle.language.specs.Words.{wrong_words}
use Rattle.language.specs.Parsing.{no_token, too_many_tokens, well_formed, parsed}
use Rattle.language.specs.Meaning.{Word, Matches, MatchesOne}
use Rattle.language.proofs.Laws.Basics.Lists.{All}
use Rattle.language.proofs.Laws.Grammar.Parses.{parses}
use Rattle.language.proofs.Laws.Grammar.RefusedToken.{decided}
use Rattle.refusal_laws.specs.Refusals.{Among, FirstPlace, joined, text_lines, DeepAt, brings, HiddenAt, SurplusAt, OneValuation, RefusedFor, Pairwise, Exclusive, ExclusiveIn, SharedAt, BadWordAt, MiswordedAt}
use Rattle.refusal_laws.proofs.UseLaws.{hidden-is-first}
use Rattle.refusal_laws.proofs.LineLaws.{deep-is-first}
use Rattle.refusal_laws.proofs.CountLaws.{at_most, surplus_is-first}
use Rattle.refusal_laws.proofs.WordLaws.{misworded_is-first}

-- which of the refusals in a row was met
record Met {A : Type 0} (m number p : ℕ) (o : Option ℕ) (r : Result A) : Type 0 where
  which : ((m ≡ number) × (o ≡ some p)) ⊎ (r ≡ Refused number p)

place_of : {A : Type 0} → Result A → ℕ
place_of (Done x) = 0
place_of (Refused number p) = p

met : {A : Type 0} (m : ℕ) (o : Option ℕ) (r : Result A) {number p : ℕ} → refuse_at m o r ≡ Refused number p → Met m number p o r
unfolding refuse_at number_of place_of
met m none r e = record { which = inr e }
met m (some q) r e = record { which = inl (ap number_of e, ap (λ z. some (place_of z)) e) }

-- passed by, since it has another number
other : {A : Type 0} (m : ℕ) (o : Option ℕ) (r : Result A) {number p : ℕ} → (m ≡ number → ⊥) → refuse_at m o r ≡ Refused number p → r ≡ Refused number p
other m o r f e = ⊎_elim (λ h. absurd (f h.0)) (λ h. h) (met m o r e).which

-- met, since those behind it have other numbers
this : {A : Type 0} (m : ℕ) (o : Option ℕ) (r : Result A) {p : ℕ} → (r ≡ Refused m p → ⊥) → refuse_at m o r ≡ Refused m p → o ≡ some p
this m o r f e = ⊎_elim (λ h. h.1) (λ h. absurd (f h)) (met m o r e).which

record ReadAs (text : List ℕ) (number p : ℕ) : Type 0 where
  tree : Spec
  read : spec_of (tokens text) ≡ Done tree
  formed : well_formed tree ≡ Refused number p

grammar_passed : (text : List ℕ) (number p : ℕ) → 5 ≤ number → (r : Result Spec) → spec_of (tokens text) ≡ r → r >>= well_formed ≡ Refused number p → ReadAs text number p
unfolding ◌>>=◌ number_of
grammar_passed text number p l (Done x) e f = record { tree = x; read = e; formed = f }
grammar_passed text number p l (Refused n q) e f = let h = (decided (tokens text) n q e).0 in let g : n ≡ number = ap number_of f in absurd (omega arith)

read_as_lem : (text : List ℕ) (number p : ℕ) → 5 ≤ number → parsed text ≡ Refused number p → ReadAs text number p
unfolding parsed
read_as_lem text number p l e =
    let ts = tokens text in
    let e₁ = guard_other (leb (length text) max_bytes) 1 max_bytes _ (λ z. omega arith) e in
    let e₂ = other 2 (no_token ts) _ (λ z. omega arith) e₁ in
    let e₃ = other 3 (too_many_tokens ts) (spec_of ts >>= well_formed) (λ z. omega arith) e₂ in
    grammar_passed text number p l (spec_of ts) refl e₃

fault : (Fault : Spec → ℕ → Type 0) (text : List ℕ) (x : Spec) (p : ℕ) (o : Option ℕ) → spec_of (tokens text) ≡ Done x → o ≡ some p → FirstPlace (Fault x) o → RefusedFor Fault text p
fault Fault text x p o e s h =
    let g : FirstPlace (Fault x) (some p) = subst (FirstPlace (Fault x)) s h in
    record { tree = x; read = e; here = g.says.0; before = g.says.1 }

-- the refusals from a number on, and that they have no lower one
abbrev from10 : Spec → Result Spec
from10 x = refuse_at 10 (wrong_words x) (Done x)

abbrev from9 : Spec → Result Spec
from9 x = refuse_at 9 (wrong_type x) (from10 x)

abbrev from8 : Spec → Result Spec
from8 x = refuse_at 8 (too_many x) (from9 x)

abbrev from7 : Spec → Result Spec
from7 x = refuse_at 7 (declared_again x) (from8 x)

abbrev from6 : Spec → Result Spec
from6 x = refuse_at 6 (not_visible x) (from7 x)

least : {A : Type 0} (m : ℕ) (o : Option ℕ) (r : Result A) {number p : ℕ} → (r ≡ Refused number p → m ≤ number) → refuse_at m o r ≡ Refused number p → m ≤ number
least m o r f e = ⊎_elim (λ h. let k = h.0 in omega arith) f (met m o r e).which

module _ (x : Spec) {number p : ℕ} where
  least10 : from10 x ≡ Refused number p → 10 ≤ number
  least10 e = least 10 (wrong_words x) (Done x) (λ f. absurd (not_done (sym f))) e

  least9 : from9 x ≡ Refused number p → 9 ≤ number
  least9 e = least 9 (wrong_type x) (from10 x) (λ f. let k = least10 f in omega arith) e

  least8 : from8 x ≡ Refused number p → 8 ≤ number
  least8 e = least 8 (too_many x) (from9 x) (λ f. let k = least9 f in omega arith) e

  least7 : from7 x ≡ Refused number p → 7 ≤ number
  least7 e = least 7 (declared_again x) (from8 x) (λ f. let k = least8 f in omega arith) e

  least6 : from6 x ≡ Refused number p → 6 ≤ number
  least6 e = least 6 (not_visible x) (from7 x) (λ f. let k = least7 f in omega arith) e

  -- those before the one met have passed
  passed6 : 6 ≤ number → well_formed x ≡ Refused number p → from6 x ≡ Refused number p
  passed6 l e = other 5 (too_deep x) (from6 x) (λ z. omega arith) e

  passed8 : 8 ≤ number → well_formed x ≡ Refused number p → from8 x ≡ Refused number p
  passed8 l e = other 7 (declared_again x) (from8 x) (λ z. omega arith) (other 6 (not_visible x) (from7 x) (λ z. omega arith) (passed6 (omega arith) e))

  passed10 : 10 ≤ number → well_formed x ≡ Refused number p → from10 x ≡ Refused number p
  passed10 l e = other 9 (wrong_type x) (from10 x) (λ z. omega arith) (other 8 (too_many x) (from9 x) (λ z. omega arith) (passed8 (omega arith) e))

-- what stands at the place of a refused text
module _ (text : List ℕ) (p : ℕ) where
  -- 'tree too deep'
  pub refused-too_deep : parsed text ≡ Refused 5 p → RefusedFor DeepAt text p
  refused-too_deep e =
      let r = read_as_lem text 5 p (omega arith) e in
      let x = r.tree in
      fault DeepAt text x p (too_deep x) r.read (this 5 (too_deep x) (from6 x) (λ f. let l = least6 x f in omega arith) r.formed) (deep-is-first x)

  -- 'name not visible'
  pub refused-not_visible : parsed text ≡ Refused 6 p → RefusedFor HiddenAt text p
  refused-not_visible e =
      let r = read_as_lem text 6 p (omega arith) e in
      let x = r.tree in
      fault HiddenAt text x p (not_visible x) r.read (this 6 (not_visible x) (from7 x) (λ f. let l = least7 x f in omega arith) (passed6 x (omega arith) r.formed)) (hidden-is-first x)

  -- 'too many names'
  pub refused-too_many-names : parsed text ≡ Refused 8 p → RefusedFor SurplusAt text p
  refused-too_many-names e =
      let r = read_as_lem text 8 p (omega arith) e in
      let x = r.tree in
      fault SurplusAt text x p (too_many x) r.read (this 8 (too_many x) (from9 x) (λ f. let l = least9 x f in omega arith) (passed8 x (omega arith) r.formed)) (surplus_is-first x)

  -- 'words unequal, too long or many, or one valuation under two identifiers'
  pub refused-words : parsed text ≡ Refused 10 p → RefusedFor MiswordedAt text p
  refused-words e =
      let r = read_as_lem text 10 p (omega arith) e in
      let x = r.tree in
      fault MiswordedAt text x p (wrong_words x) r.read (this 10 (wrong_words x) (Done x) (λ f. not_done (sym f)) (passed10 x (omega arith) r.formed)) (misworded_is-first text x r.read)

-- an accepted text has none of these faults
none_there : (Fault : ℕ → Type 0) (o : Option ℕ) → o ≡ none → FirstPlace Fault o → (p : ℕ) → ¬ Fault p
none_there Fault o e h = let g : FirstPlace Fault none = subst (FirstPlace Fault) e h in g.says

-- words that share no valuation are not matched at once
module _ (x : List ℕ) (w : Word) (t : ℕ) where
  word_apart : (u : Token) (vs : List Token) → ¬ Among (OneValuation u) vs → Matches x u.text w t → ¬ MatchesOne x vs w t
  word_apart u [] n m s = s
  word_apart u (v ∷ vs) n m s = s (λ h. n (inl (record { bus = x; word = w; position = t; earlier = m; later = h })), λ h. word_apart u vs (λ k. n (inr k)) m h)

  words_apart : (us vs : List Token) → ¬ Among (λ u. Among (OneValuation u) vs) us → MatchesOne x us w t → ¬ MatchesOne x vs w t
  words_apart [] vs n s f = s
  words_apart (u ∷ us) vs n s f = s (λ h. word_apart u vs (λ k. n (inl k)) h f, λ h. words_apart us vs (λ k. n (inr k)) h f)

-- a shared valuation has a place
some_place : {A : Type 0} (Q : A → ℕ → Type 0) (P : A → Type 0) → ((a : A) → P a → (p : ℕ) × Q a p) → (l : List A) → Among P l → (p : ℕ) × Among (λ a. Q a p) l
some_place Q P f [] s = absurd s
some_place Q P f (a ∷ l) s = ⊎_elim (λ h. let g = f a h in (g.0, inl g.1)) (λ h. let g = some_place Q P f l h in (g.0, inr g.1)) s

placed : (us vs : List Token) → Among (λ u. Among (OneValuation u) vs) us → (p : ℕ) × Among (λ u. Among (λ v. OneValuation u v × (p ≡ v.at)) vs) us
placed us vs s =
    some_place (λ u p. Among (λ v. OneValuation u v × (p ≡ v.at)) vs) (λ u. Among (OneValuation u) vs)
    (λ u h. some_place (λ v p. OneValuation u v × (p ≡ v.at)) (OneValuation u) (λ v o. (v.at, (o, refl))) vs h) us s

exclusive : (is : List Identifier) → ((p : ℕ) → ¬ SharedAt is p) → Pairwise Exclusive is
exclusive [] n = tt
exclusive (i ∷ is) n = (later is (λ p s. n p (inl s)), exclusive is (λ p s. n p (inr s)))
  where
    later : (js : List Identifier) → ((p : ℕ) → ¬ Among (λ j. Among (λ u. Among (λ v. OneValuation u v × (p ≡ v.at)) j.words) i.words) js) → All (Exclusive i) js
    later [] f = tt
    later (j ∷ js) f = (λ x w t. words_apart x w t i.words j.words (λ s. let g = placed i.words j.words s in f g.0 (inl g.1)), later js (λ p s. f p (inr s)))

exclusive_in : (d : Definition) → ((p : ℕ) → ¬ BadWordAt d p) → ExclusiveIn d
exclusive_in (Defined x e) n = tt
exclusive_in (Enumerated x is) n = exclusive is (λ p s. n p (inr (inr s)))

all_in : (ds : List Definition) → ((p : ℕ) → ¬ Among (λ d. BadWordAt d p) ds) → All ExclusiveIn ds
all_in [] n = tt
all_in (d ∷ ds) n = (exclusive_in d (λ p s. n p (inl s)), all_in ds (λ p s. n p (inr s)))

module _ (text : List ℕ) (x : Spec) (e : parsed text ≡ Done x) where
  -- every expression of a line has at most 256 levels, however its operands nest
  pub nowhere-too_deep : (p : ℕ) → ¬ DeepAt x p
  nowhere-too_deep = none_there (DeepAt x) (too_deep x) (parses e).formed.shallow (deep-is-first x)

  -- every name that is used is visible
  pub nowhere-hidden : (p : ℕ) → ¬ HiddenAt x p
  nowhere-hidden = none_there (HiddenAt x) (not_visible x) (parses e).formed.visible (hidden-is-first x)

  -- '256 declared names'
  pub few_names : length (joined brings (text_lines x)) ≤ max_names
  few_names = let n = none_there (SurplusAt x) (too_many x) (parses e).formed.few (surplus_is-first x) in
      let l = at_most max_names [] (joined brings (text_lines x)) n (omega arith) in
      omega arith

  -- no valuation matches words of two identifiers of one enumeration
  pub no_shared_valuation : All ExclusiveIn x.definitions
  no_shared_valuation = all_in x.definitions (none_there (MiswordedAt x) (wrong_words x) (parses e).formed.words (misworded_is-first text x (parses e).read))

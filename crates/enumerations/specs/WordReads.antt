-- The words of an enumeration that the grammar reads are words, in the text's order.
use Rattle.std.specs.Prelude.{ℕ, zero, suc, ◌≤◌, true, List, [], ◌∷◌, ◌++◌, ◌≡◌, refl, length}
use Prim.Native.String.{String}
use Rattle.std.proofs.Common.{append_assoc, append-nil, sym, ap, ◌∙◌, subst, arith}
use Rattle.node.specs.Result.{Result, Done, Refused}
use Rattle.language.specs.Tokens.{Class, Name, Marks, End, Token, is_of, tokens}
use Rattle.language.specs.Tree.{Identifier, Spec}
use Rattle.language.specs.Grammar.{Tokens, Read, front, rest, next, expect, expect_of}
use Rattle.language.specs.Sections.{expression, described, model_of, strict_of, info_end, info_of, lines_of, optional, parameter_of, words_of, identifiers_of, definition_of, global_of, subsections_of, spec_of}
use Rattle.language.proofs.Laws.Basics.Lists.{All, Any, all_append}
use Rattle.language.proofs.Laws.Basics.Tests.{split}
use Rattle.language.proofs.Laws.Basics.Results.{done, refused, bind, weaken, value_of, Within, bind_any}
use Rattle.language.proofs.Laws.Grammar.TokenLaws.{Rising, tokens_rise}
use Rattle.language.proofs.Laws.Grammar.ReaderLaws.{Reads, takes}
use Rattle.language.proofs.Laws.Grammar.SectionReads.{expression-reads, info_of-reads}
use Rattle.enumerations.specs.Scan.{Word, owned, words_from, Ascends}
use Rattle.enumerations.specs.Given.{WordsOf, GoodDefinition}

-- tokens in the text's order, from a place on
abbrev Ascending : ℕ → Tokens → Type 0
Ascending b [] = Unit {0}
Ascending b (t ∷ ts) = (b ≤ t.at) × Ascending t.at ts

ascending_below : (b c : ℕ) (ts : Tokens) → b ≤ c → Ascending c ts → Ascending b ts
ascending_below b c [] l h = tt
ascending_below b c (t ∷ ts) l h = let k = h.0 in (omega arith, h.1)

rising_ascends : (ts : Tokens) (b : ℕ) → Rising b ts → Ascending b ts
rising_ascends [] b h = tt
rising_ascends (t ∷ ts) b h = (h.0, ascending_below t.at _ ts (omega arith) (rising_ascends ts _ h.1))

-- us stands in the text's order wherever ts does
abbrev Keeps : Tokens → Tokens → Type 0
Keeps ts us = (b : ℕ) → Ascending b ts → Ascending b us

keeps-rest : (ts : Tokens) → Keeps ts (rest ts)
keeps-rest [] b h = tt
keeps-rest (t ∷ ts) b h = ascending_below b t.at ts h.0 h.1

keeps-left : (vs us : Tokens) → Keeps (vs ++ us) us
keeps-left [] us b h = h
keeps-left (v ∷ vs) us b h = keeps-left vs us b (ascending_below b v.at (vs ++ us) h.0 h.1)

keeps-front : (vs us : Tokens) → Keeps (vs ++ us) vs
keeps-front [] us b h = tt
keeps-front (v ∷ vs) us b h = (h.0, keeps-front vs us v.at h.1)

keeps-after : (ws ts us : Tokens) → Keeps ts us → Keeps (ws ++ ts) (ws ++ us)
keeps-after [] ts us k b h = k b h
keeps-after (w ∷ ws) ts us k b h = (h.0, keeps-after ws ts us k w.at h.1)

-- a reader of which Q holds, and what it leaves stands in the text's order
abbrev Orderly : {A : Type 0} → (A → Type 0) → Tokens → Read A → Type 0
Orderly Q ts r = Within (λ x. Q x.0 × Keeps ts x.1) r

expect_orderly : (s : String) (ts : Tokens) → Orderly Any ts (expect s ts)
expect_orderly s ts = split (Orderly Any ts) (next s ts) (λ _. done (tt, keeps-rest ts)) (λ _. refused tt)

expect_of_orderly : (c : Class) (ts : Tokens) → Orderly Any ts (expect_of c ts)
expect_of_orderly c ts = split (Orderly Any ts) (is_of c (front ts)) (λ _. done (tt, keeps-rest ts)) (λ _. refused tt)

reads_orderly : {A : Type 0} {P : Token → Type 0} {Q : A → Type 0} {S W : Token → Type 0} {b d : ℕ} {ts : Tokens} {X : ℕ → Tokens → Read A} (r : Read A) → Reads A P Q S W b d ts r X → Orderly Any ts r
reads_orderly {ts = ts} (Done x) h = let t = takes (Done x) x.0 x.1 refl h in done (tt, subst (λ us. Keeps us x.1) (sym t.1) (keeps-left t.0 x.1))
reads_orderly (Refused n p) h = refused tt

-- words, and all words of an enumeration, before what is left
abbrev IsMarks : Token → Type 0
IsMarks w = is_of Marks w ≡ true

abbrev spelled : List Identifier → Tokens
spelled [] = []
spelled (i ∷ is) = i.words ++ spelled is

abbrev Spelling : {A : Type 0} → (A → Tokens) → Tokens → Read A → Type 0
Spelling f ts r = Within (λ x. All IsMarks (f x.0) × Keeps ts (f x.0 ++ x.1)) r

word_spelt : (ts : Tokens) → Spelling (λ w. w ∷ []) ts (expect_of Marks ts)
word_spelt [] = refused tt
word_spelt (t ∷ ts) = split (Spelling (λ w. w ∷ []) (t ∷ ts)) (is_of Marks t) (λ e. done ((e, tt), λ b h. h)) (λ _. refused tt)

words_spelt : (f : ℕ) (ts : Tokens) → Spelling (λ ws. ws) ts (words_of f ts)
words_spelt zero ts = refused tt
words_spelt (suc f) ts =
    bind (expect_of Marks ts) _ (word_spelt ts) (λ x hx.
    split (Spelling (λ ws. ws) ts) (next "," x.1)
    (λ _. bind (words_of f (rest x.1)) _ (words_spelt f (rest x.1)) (λ y hy.
    done ((hx.0.0, hy.0), λ b h. keeps-after (x.0 ∷ []) x.1 (y.0 ++ y.1) (λ c l. hy.1 c (keeps-rest x.1 c l)) b (hx.1 b h))))
    (λ _. done hx))

identifiers_spelt : (f : ℕ) (ts : Tokens) → Spelling spelled ts (identifiers_of f ts)
identifiers_spelt zero ts = refused tt
identifiers_spelt (suc f) ts =
    bind (expect_of Name ts) _ (expect_of_orderly Name ts) (λ x hx.
    bind (expect ":" x.1) _ (expect_orderly ":" x.1) (λ c hc.
    bind (words_of (length c.1) c.1) _ (words_spelt (length c.1) c.1) (λ y hy.
    let words : Keeps ts (y.0 ++ y.1) = λ b h. hy.1 b (hc.1 b (hx.1 b h)) in
    split (Spelling spelled ts) (is_of Name (front y.1))
    (λ _. bind (identifiers_of f y.1) _ (identifiers_spelt f y.1) (λ z hz.
    done (all_append IsMarks y.0 (spelled z.0) hy.0 hz.0, λ b h. rw append_assoc (keeps-after y.0 y.1 (spelled z.0 ++ z.1) hz.1 b (words b h)))))
    (λ _. done (rw append-nil hy.0, rw append-nil words)))))

-- the words of an enumeration's identifiers
abbrev tokens_of : List Word → Tokens
tokens_of [] = []
tokens_of (v ∷ vs) = v.token ∷ tokens_of vs

tokens-owned : (o : ℕ) (ws : Tokens) (vs : List Word) → tokens_of (owned o ws ++ vs) ≡ ws ++ tokens_of vs
tokens-owned o [] vs = refl
tokens-owned o (w ∷ ws) vs = ap (λ us. w ∷ us) (tokens-owned o ws vs)

tokens-from : (o : ℕ) (is : List Identifier) → tokens_of (words_from o is) ≡ spelled is
tokens-from o [] = refl
tokens-from o (i ∷ is) = tokens-owned o i.words (words_from (suc o) is) ∙ ap (λ us. i.words ++ us) (tokens-from (suc o) is)

all_words : (P : Token → Type 0) (vs : List Word) → All P (tokens_of vs) → All (λ (v : Word). P v.token) vs
all_words P [] h = tt
all_words P (v ∷ vs) h = (h.0, all_words P vs h.1)

ascending_all : (b : ℕ) (ts : Tokens) → Ascending b ts → All (λ (t : Token). b ≤ t.at) ts
ascending_all b [] h = tt
ascending_all b (t ∷ ts) h = (h.0, ascending_all b ts (ascending_below b t.at ts h.0 h.1))

words_ascend : (b : ℕ) (vs : List Word) → Ascending b (tokens_of vs) → Ascends vs
words_ascend b [] h = tt
words_ascend b (v ∷ vs) h = (all_words (λ t. v.token.at ≤ t.at) vs (ascending_all v.token.at (tokens_of vs) h.1), words_ascend v.token.at vs h.1)

words_of_lem : (is : List Identifier) → All IsMarks (spelled is) → Ascending 0 (spelled is) → WordsOf is
words_of_lem is m a =
    record {
      marks = all_words IsMarks (words_from 1 is) (subst (All IsMarks) (sym (tokens-from 1 is)) m);
      ascend = words_ascend 0 (words_from 1 is) (subst (Ascending 0) (sym (tokens-from 1 is)) a);
    }

-- readers of tokens in the text's order
abbrev Sorted : Tokens → Type 0
Sorted ts = Ascending 0 ts

abbrev Gives : {A : Type 0} → (A → Type 0) → Read A → Type 0
Gives Q r = Within (λ x. Q x.0 × Sorted x.1) r

given : {A : Type 0} (ts : Tokens) (r : Read A) → Orderly Any ts r → Sorted ts → Gives Any r
given ts r h s = weaken r (λ _ _ z. z) (λ x k. (tt, k.1 0 s)) h

-- sections
module _ {A : Type 0} (Q : A → Type 0) (line : Tokens → Read A) (good : (ts : Tokens) → Sorted ts → Gives Q (line ts)) where
  lines_give : (f : ℕ) (ts : Tokens) → Sorted ts → Gives (All Q) (lines_of f line ts)
  lines_give zero ts h = refused tt
  lines_give (suc f) ts h =
      split (Gives (All Q)) (next "}" ts) (λ _. done (tt, keeps-rest ts 0 h))
      (λ _. bind (line ts) _ (good ts h) (λ x hx.
      split (Gives (All Q)) (next ";" x.1)
      (λ _. bind (lines_of f line (rest x.1)) _ (lines_give f (rest x.1) (keeps-rest x.1 0 hx.1)) (λ y hy. done ((hx.0, hy.0), hy.1)))
      (λ _. bind (expect "}" x.1) _ (given x.1 _ (expect_orderly "}" x.1) hx.1) (λ c hc. done ((hx.0, tt), hc.1)))))

  optional_gives : (word : String) (ts : Tokens) → Sorted ts → Gives (All Q) (optional word line ts)
  optional_gives word ts h =
      split (Gives (All Q)) (next word ts)
      (λ _. bind (expect "{" (rest ts)) _ (given (rest ts) _ (expect_orderly "{" (rest ts)) (keeps-rest ts 0 h)) (λ c hc. lines_give (length c.1) c.1 hc.1))
      (λ _. done (tt, h))

parameter_gives : (ts : Tokens) → Sorted ts → Gives Any (parameter_of ts)
parameter_gives ts h =
    bind (expect_of Name ts) _ (given ts _ (expect_of_orderly Name ts) h) (λ x hx.
    bind (expect "=" x.1) _ (given x.1 _ (expect_orderly "=" x.1) hx.1) (λ c hc.
    bind (expression c.1) _ (given c.1 _ (reads_orderly (expression c.1) (expression-reads Any 0 c.1)) hc.1) (λ e he. done (tt, he.1))))

definition_gives : (ts : Tokens) → Sorted ts → Gives GoodDefinition (definition_of ts)
definition_gives ts h =
    split (Gives GoodDefinition) (next "enum" ts)
    (λ _. bind (expect_of Name (rest ts)) _ (given (rest ts) _ (expect_of_orderly Name (rest ts)) (keeps-rest ts 0 h)) (λ x hx.
    bind (expect "=" x.1) _ (given x.1 _ (expect_orderly "=" x.1) hx.1) (λ c hc.
    bind (identifiers_of (length c.1) c.1) _ (identifiers_spelt (length c.1) c.1) (λ y hy.
    let all : Sorted (spelled y.0 ++ y.1) = hy.1 0 hc.1 in
    done (words_of_lem y.0 hy.0 (keeps-front (spelled y.0) y.1 0 all), keeps-left (spelled y.0) y.1 0 all)))))
    (λ _. bind (parameter_of ts) _ (parameter_gives ts h) (λ p hp. done (tt, hp.1)))

abbrev Good : Spec → Type 0
Good x = All GoodDefinition x.definitions

-- before GLOBAL there are no definitions
info_gives : (ts : Tokens) → Within (λ x. Good x.0) (info_of ts)
info_gives ts =
    bind_any (expect "INFO" ts) _ (λ a. bind_any (expect "{" a.1) _ (λ b. bind_any (described "TITLE" b.1) _ (λ c.
    bind_any (described "DESCRIPTION" c.1) _ (λ d. bind_any (expect "SEMANTICS" d.1) _ (λ e. bind_any (expect ":" e.1) _ (λ f.
    bind_any (model_of f.1) _ (λ g. bind_any (strict_of g.1) _ (λ h. bind_any (expect "TARGET" h.1) _ (λ i.
    bind_any (expect ":" i.1) _ (λ j. bind_any (model_of j.1) _ (λ k. bind_any (info_end k.1) _ (λ l. done tt))))))))))))

global_gives : (s : Spec) → Good s → (ts : Tokens) → Sorted ts → Within (λ x. Good x.0) (global_of s ts)
global_gives s g ts h =
    split (Within (λ x. Good x.0)) (next "GLOBAL" ts)
    (λ _. bind (expect "{" (rest ts)) _ (given (rest ts) _ (expect_orderly "{" (rest ts)) (keeps-rest ts 0 h)) (λ c hc.
    bind (optional "PARAMETERS" parameter_of c.1) _ (optional_gives Any parameter_of parameter_gives "PARAMETERS" c.1 hc.1) (λ p hp.
    bind (optional "DEFINITIONS" definition_of p.1) _ (optional_gives GoodDefinition definition_of definition_gives "DEFINITIONS" p.1 hp.1) (λ d hd.
    bind_any (expect "}" d.1) _ (λ e. done hd.0)))))
    (λ _. done g)

both : {A : Type 0} {P Q : A → Type 0} (r : Result A) → Within P r → Within Q r → Within (λ a. P a × Q a) r
both (Done a) h k = done (h.says, k.says)
both (Refused n p) h k = refused tt

spec_gives : (ts : Tokens) → Sorted ts → Within Good (spec_of ts)
spec_gives ts h =
    bind (info_of ts) _ (both (info_of ts) (info_gives ts) (given ts _ (reads_orderly (info_of ts) (info_of-reads {W = Any} Any 0 ts)) h)) (λ x hx.
    bind (global_of x.0 x.1) _ (global_gives x.0 hx.0 x.1 hx.1.1) (λ y hy.
    bind_any (expect "MAIN" y.1) _ (λ a. bind_any (expect "{" a.1) _ (λ b. bind_any (subsections_of 9 [] b.1) _ (λ z.
    bind_any (expect_of End z.1) _ (λ c. done hy))))))

-- the enumerations of a text's tree
pub good_definitions : (text : List ℕ) {x : Spec} → spec_of (tokens text) ≡ Done x → All GoodDefinition x.definitions
good_definitions text e = value_of e (spec_gives (tokens text) (rising_ascends (tokens text) 0 (tokens_rise text)))

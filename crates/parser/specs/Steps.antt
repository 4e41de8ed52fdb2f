-- The readers of lists, one element at a time: what has been read is put before what is still to come. Their fuel is the number of tokens at first, and one less with
-- each element; an element takes at least one token.
use Rattle.std.specs.Prelude.{ℕ, suc, List, [], ◌∷◌, ◌++◌, true, false, ◌≡◌, refl}
use Rattle.std.proofs.Common.{append_assoc, sym, ap, ◌∙◌}
use Rattle.node.specs.Result.{Result, Done, Refused, ◌>>=◌}
use Rattle.node.proofs.ResultLaws.{bind_refused, bind_to}
use Rattle.language.specs.Tokens.{Token, Marks}
use Rattle.language.specs.Grammar.{Tokens, Read, rest, next, expect, expect_of}
use Rattle.language.specs.Sections.{lines_of, words_of, tag_of, tags_of}
use Rattle.language.proofs.Laws.Basics.Tests.{pick, leave}

pub then_id : {A B : Type 0} (r : Result (A × B)) → r ≡ (r >>= λ (a, b). Done (a, b))
unfolding ◌>>=◌
then_id (Done x) = refl
then_id (Refused number p) = refl

-- elements that have been read, before those of an answer
unfoldable pub onto : {A : Type 0} → List A → Read (List A) → Read (List A)
onto xs r = r >>= λ (ys, us). Done (xs ++ ys, us)

pub onto-done : {A : Type 0} (xs : List A) {r : Read (List A)} {ys : List A} {us : Tokens} → r ≡ Done (ys, us) → onto xs r ≡ Done (xs ++ ys, us)
unfolding onto
onto-done xs e = bind_to _ _ _ e

pub onto-refused : {A : Type 0} (xs : List A) {r : Read (List A)} {number p : ℕ} → r ≡ Refused number p → onto xs r ≡ Refused number p
unfolding onto
onto-refused xs e = bind_refused _ _ _ _ e

pub onto_none : {A : Type 0} (r : Read (List A)) → r ≡ onto [] r
unfolding onto ◌>>=◌
onto_none (Done x) = refl
onto_none (Refused number p) = refl

-- one more
pub onto-more : {A : Type 0} (xs : List A) (x : A) (r : Read (List A)) → onto xs (r >>= λ (ys, us). Done (x ∷ ys, us)) ≡ onto (xs ++ (x ∷ [])) r
unfolding onto ◌>>=◌
onto-more xs x (Done y) = ap (λ l. Done (l, y.1)) (sym (append_assoc xs (x ∷ []) y.0))
onto-more xs x (Refused number p) = refl

module _ {A : Type 0} (line : Tokens → Read A) (f : ℕ) (ts : Tokens) where
  pub lines_end : next "}" ts ≡ true → lines_of (suc f) line ts ≡ Done ([], rest ts)
  lines_end e = pick (next "}" ts) _ _ e

  module _ (unclosed : next "}" ts ≡ false) where
    pub lines-refused : {number p : ℕ} → line ts ≡ Refused number p → lines_of (suc f) line ts ≡ Refused number p
    lines-refused e = leave (next "}" ts) _ _ unclosed ∙ bind_refused _ _ _ _ e

    module _ (x : A) (us : Tokens) (read : line ts ≡ Done (x, us)) where
      pub lines_more : next ";" us ≡ true → lines_of (suc f) line ts ≡ (lines_of f line (rest us) >>= λ (xs, vs). Done (x ∷ xs, vs))
      lines_more e = leave (next "}" ts) _ _ unclosed ∙ bind_to _ _ _ read ∙ pick (next ";" us) _ _ e

      pub lines-last : next ";" us ≡ false → lines_of (suc f) line ts ≡ (expect "}" us >>= λ (c, vs). Done (x ∷ [], vs))
      lines-last e = leave (next "}" ts) _ _ unclosed ∙ bind_to _ _ _ read ∙ leave (next ";" us) _ _ e

module _ (f : ℕ) (ts : Tokens) where
  pub words-refused : {number p : ℕ} → expect_of Marks ts ≡ Refused number p → words_of (suc f) ts ≡ Refused number p
  words-refused e = bind_refused _ _ _ _ e

  pub tags_refused : {number p : ℕ} → tag_of ts ≡ Refused number p → tags_of (suc f) ts ≡ Refused number p
  tags_refused e = bind_refused _ _ _ _ e

  module _ (x : Token) (us : Tokens) where
    pub words_more : expect_of Marks ts ≡ Done (x, us) → next "," us ≡ true → words_of (suc f) ts ≡ (words_of f (rest us) >>= λ (xs, vs). Done (x ∷ xs, vs))
    words_more r e = bind_to _ _ _ r ∙ pick (next "," us) _ _ e

    pub words_last : expect_of Marks ts ≡ Done (x, us) → next "," us ≡ false → words_of (suc f) ts ≡ Done (x ∷ [], us)
    words_last r e = bind_to _ _ _ r ∙ leave (next "," us) _ _ e

    pub tags-more : tag_of ts ≡ Done (x, us) → next "," us ≡ true → tags_of (suc f) ts ≡ tags_of f (rest us)
    tags-more r e = bind_to _ _ _ r ∙ pick (next "," us) _ _ e

    pub tags-last : tag_of ts ≡ Done (x, us) → next "," us ≡ false → tags_of (suc f) ts ≡ Done (x, us)
    tags-last r e = bind_to _ _ _ r ∙ leave (next "," us) _ _ e

-- The token that the grammar refuses in a text is the first that no accepted text continues: its tokens stand at places apart, so that only one of them is
-- the refused one.
use Rattle.std.specs.Prelude.{ℕ, List, [], ◌∷◌, ◌++◌, ◌≡◌, refl, length}
use Rattle.std.proofs.Common.{append_assoc, sym, ap, ◌∙◌, arith}
use Rattle.node.specs.Result.{Done}
use Rattle.node.proofs.ResultLaws.{not_done}
use Rattle.language.specs.Tokens.{tokens}
use Rattle.language.specs.Tree.{Spec}
use Rattle.language.specs.Grammar.{Tokens, front, rest}
use Rattle.language.specs.Sections.{spec_of}
use Rattle.language.proofs.Laws.Grammar.TokenLaws.{tokens_apart}
use Rattle.language.proofs.Laws.Grammar.RefusedToken.{Refusal, First, first, decided}

-- tokens that go on to an accepted list do not begin with a refused one
not-refused : (ts : Tokens) (p : ℕ) → Refusal ts p → (us : Tokens) (x : Spec) → spec_of (ts ++ us) ≡ Done x → ⊥
not-refused ts p r us x e =
    let same : ts ++ us ≡ r.before ++ (r.token ∷ (r.behind ++ us)) = ap (λ vs. vs ++ us) r.whole ∙ append_assoc r.before (r.token ∷ r.behind) us in
    not_done (sym (ap spec_of same ∙ r.always (r.behind ++ us)) ∙ e)

-- where the grammar refuses a token, it refuses the first that no accepted list of tokens continues
pub refusal_first : (ts : Tokens) (p : ℕ) → Refusal ts p → First ts p
refusal_first ts p r =
    let s = (decided ts 4 p (ap spec_of r.whole ∙ r.always r.behind)).1 in
    first ts p s (λ z. not-refused ts p r s.ending s.tree (ap (λ us. spec_of (us ++ s.ending)) z ∙ s.begins))

-- the tokens of a text stand at places apart, so that only one of them can be the refused one
prefix_same : (us us' vs vs' : Tokens) → us ++ vs ≡ us' ++ vs' → length us ≡ length us' → us ≡ us'
prefix_same [] [] vs vs' e l = refl
prefix_same [] (u' ∷ us') vs vs' e l = absurd (omega arith)
prefix_same (u ∷ us) [] vs vs' e l = absurd (omega arith)
prefix_same (u ∷ us) (u' ∷ us') vs vs' e l = ap (λ t. t ∷ us) (ap front e) ∙ ap (λ ts. u' ∷ ts) (prefix_same us us' vs vs' (ap rest e) (omega arith))

-- a text's tokens before a refused one begin an accepted list of tokens
pub refused-is-first : (text : List ℕ) (p : ℕ) (r : Refusal (tokens text) p) → (us : Tokens) × (x : Spec) × (spec_of (r.before ++ us) ≡ Done x)
refused-is-first text p r =
    let f = refusal_first (tokens text) p r in
    let s = f.refusal in
    let l = tokens_apart text s.before r.before s.token r.token s.behind r.behind s.whole r.whole (s.place ∙ sym r.place) in
    (f.ending, f.tree, ap (λ us. spec_of (us ++ f.ending)) (sym (prefix_same s.before r.before (s.token ∷ s.behind) (r.token ∷ r.behind) (sym s.whole ∙ r.whole) l)) ∙ f.begins)

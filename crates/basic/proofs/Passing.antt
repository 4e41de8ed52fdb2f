-- A text in which 1 to 10 find no place is parsed; what 2 and 3 look at.
use Rattle.std.specs.Prelude.{ℕ, suc, ◌≤◌, ◌≡◌, refl, Bool, true, false, List, [], ◌∷◌, ◌++◌, leb, length, drop}
use Rattle.std.proofs.Common.{ap₂, ◌∙◌, length-drop, arith, le-leb, leb-true}
use Rattle.std.proofs.Math.Option.{Option, none, some}
use Rattle.node.specs.Result.{Done, ◌>>=◌}
use Rattle.node.proofs.ResultLaws.{bind_to, guard-pass}
use Rattle.language.specs.Limits.{max_bytes}
use Rattle.language.specs.Bytes.{if◌then◌otherwise◌}
use Rattle.language.specs.Tokens.{Wrong, Token, is_of, tokens}
use Rattle.language.specs.Tree.{Spec}
use Rattle.language.specs.Grammar.{Tokens}
use Rattle.language.specs.Sections.{spec_of}
use Rattle.language.specs.Places.{refuse_at}
use Rattle.language.specs.Names.{place_of_first}
use Rattle.language.specs.Parsing.{no_token, too_many_tokens, well_formed, parsed}
use Rattle.language.proofs.Laws.Basics.Tests.{pick, leave, some_none}
use Rattle.language.proofs.Laws.Grammar.TokenLaws.{Ends}
use Rattle.language.proofs.Laws.Grammar.Parses.{WellFormed}
use Rattle.basic.proofs.WellFormed.{formed}

-- no token is wrong where the last one is the text's end
pub no_wrong : (n : ℕ) (us : Tokens) (t : Token) → Ends n (us ++ (t ∷ [])) → is_of Wrong t ≡ false → no_token (us ++ (t ∷ [])) ≡ none
no_wrong n [] t h w = leave (is_of Wrong t) (some t.at) none w
no_wrong n (u ∷ []) t h w = leave (is_of Wrong u) (some u.at) (no_token (t ∷ [])) h.0 ∙ leave (is_of Wrong t) (some t.at) none w
no_wrong n (u ∷ v ∷ us) t h w = leave (is_of Wrong u) (some u.at) (no_token (v ∷ (us ++ (t ∷ [])))) h.0 ∙ no_wrong n (v ∷ us) t h.2 w

-- what refusal 3 lets pass is at most so many tokens
no_place_lem : (ts : List Token) → place_of_first ts ≡ none → length ts ≡ 0
no_place_lem [] e = refl
no_place_lem (t ∷ ts) e = absurd (some_none e)

pub count-at-most : (n : ℕ) (ts : List Token) → (if leb (length ts) (suc n) then none otherwise place_of_first (drop n ts)) ≡ none → length ts ≤ suc n
count-at-most n ts e = go (leb (length ts) (suc n)) (leb-true (length ts) (suc n)) e
  where
    go : (b : Bool) → (b ≡ true → length ts ≤ suc n) → (if b then none otherwise place_of_first (drop n ts)) ≡ none → length ts ≤ suc n
    go true h g = h refl
    go false h g = omega (arith, no_place_lem (drop n ts) g, length-drop n ts)

pub few_tokens : (n : ℕ) (ts : List Token) → length ts ≤ suc n → (if leb (length ts) (suc n) then none otherwise place_of_first (drop n ts)) ≡ none
few_tokens n ts h = pick (leb (length ts) (suc n)) none (place_of_first (drop n ts)) (le-leb (length ts) (suc n) h)

-- refusals 1 to 10 in a row
well_formed_by : (x : Spec) → WellFormed x → well_formed x ≡ Done x
unfolding refuse_at
well_formed_by x w = rw (w.shallow, w.visible, w.distinct, w.few, w.typed, w.words)

pub parsed_by : (s : List ℕ) (x : Spec) → length s ≤ max_bytes → no_token (tokens s) ≡ none → too_many_tokens (tokens s) ≡ none → spec_of (tokens s) ≡ Done x → WellFormed x → parsed s ≡ Done x
unfolding parsed refuse_at
parsed_by s x short lexed counted read formed =
    guard-pass 1 max_bytes _ (le-leb (length s) max_bytes short)
    ∙ ap₂ (λ (p q : Option ℕ). refuse_at 2 p (refuse_at 3 q (spec_of (tokens s) >>= well_formed))) lexed counted
    ∙ bind_to (spec_of (tokens s)) x well_formed read ∙ well_formed_by x formed

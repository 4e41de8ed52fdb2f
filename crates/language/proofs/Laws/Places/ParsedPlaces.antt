-- Every place that refusals 1 to 10 give is at most the text's length.
use Rattle.std.specs.Prelude.{ℕ, suc, ◌≤◌, List, [], ◌∷◌, ◌≡◌, leb, length}
use Rattle.std.proofs.Common.{subst, arith, leb-false}
use Rattle.node.specs.Result.{Result, Refused}
use Rattle.language.specs.Limits.{max_bytes, max_tokens}
use Rattle.language.specs.Tokens.{Wrong, is_of, tokens}
use Rattle.language.specs.Tree.{Spec}
use Rattle.language.specs.Grammar.{Tokens, front}
use Rattle.language.specs.Sections.{spec_of}
use Rattle.language.specs.Places.{too_deep}
use Rattle.language.specs.Names.{not_visible, declared_again, too_many}
use Rattle.language.specs.Types.{wrong_type}
use Rattle.language.specs.Words.{wrong_words}
use Rattle.language.specs.Parsing.{no_token, too_many_tokens, well_formed, parsed}
use Rattle.language.proofs.Laws.Basics.Lists.{All, all_more, all_right}
use Rattle.language.proofs.Laws.Basics.Tests.{split}
use Rattle.language.proofs.Laws.Basics.Results.{done, guarded, bind, weaken, refusal_of}
use Rattle.language.proofs.Laws.Grammar.TokenLaws.{tokens_stand}
use Rattle.language.proofs.Laws.Grammar.TreeTokens.{InSpec}
use Rattle.language.proofs.Laws.Grammar.SpecReads.{Decides, spec_of_decides}
use Rattle.language.proofs.Laws.Places.PlaceBounds.{Low, At, nowhere-low, here-low, low-too_deep, Held, held_refuse_at}
use Rattle.language.proofs.Laws.Places.NamePlaces.{low-place_of_first, low-notVisible, low-declaredAgain, low-tooMany}
use Rattle.language.proofs.Laws.Places.TypePlaces.{low-wrong_type, low-wrong_words}

-- the tokens of a text
pub tokens-at : (text : List ℕ) → All (At (length text)) (tokens text)
tokens-at text = all_more (λ t h. let fits = h.inside in omega arith) (tokens text) (tokens_stand text)

module _ (n : ℕ) where
  low-no_token : (ts : Tokens) → All (At n) ts → Low n (no_token ts)
  low-no_token [] h = nowhere-low n
  low-no_token (t ∷ ts) h = split (Low n) (is_of Wrong t) (λ _. here-low n h.0) (λ _. low-no_token ts h.1)

  low-too_many_tokens : (ts : Tokens) → All (At n) ts → Low n (too_many_tokens ts)
  low-too_many_tokens ts h = split (Low n) (leb (length ts) (suc max_tokens)) (λ _. nowhere-low n) (λ _. low-place_of_first n max_tokens ts h)

  front_at : (ts : Tokens) → All (At n) ts → (front ts).at ≤ n
  front_at [] h = omega arith
  front_at (t ∷ ts) h = h.0

  -- refusal 4
  grammar_held : (ts : Tokens) (r : Result Spec) → All (At n) ts → Decides (At n) ts r → Held n (InSpec (At n)) r
  grammar_held ts r h d =
      weaken r
      (λ q p e.
      let s = e.1 in
      let place = s.place in
      let at = front_at s.left (all_right (At n) s.before s.left (subst (All (At n)) s.whole h)) in
      omega arith)
      (λ x v. v)
      d

  well_formed_held : (x : Spec) → InSpec (At n) x → Held n (InSpec (At n)) (well_formed x)
  well_formed_held x h =
      held_refuse_at 5 (too_deep x) (low-too_deep n x h) (held_refuse_at 6 (not_visible x) (low-notVisible n x h) (held_refuse_at 7 (declared_again x) (low-declaredAgain n x h)
      (held_refuse_at 8 (too_many x) (low-tooMany n x h) (held_refuse_at 9 (wrong_type x) (low-wrong_type n x h) (held_refuse_at 10 (wrong_words x) (low-wrong_words n x h) (done h))))))

-- the tree of an accepted text has only tokens of the text, and a refused place is at most the text's length
pub parsed_held : (text : List ℕ) → Held (length text) (InSpec (At (length text))) (parsed text)
unfolding parsed
parsed_held text =
    let n = length text in
    let ts = tokens text in
    let at = tokens-at text in
    guarded (leb n max_bytes) 1 _ (λ e. let over = leb-false n max_bytes e in omega arith)
    (λ _. held_refuse_at 2 (no_token ts) (low-no_token n ts at) (held_refuse_at 3 (too_many_tokens ts) (low-too_many_tokens n ts at)
    (bind (spec_of ts) well_formed (grammar_held n ts (spec_of ts) at (spec_of_decides (At n) ts at)) (well_formed_held n))))

pub parsed-place : (text : List ℕ) (number p : ℕ) → parsed text ≡ Refused number p → p ≤ length text
parsed-place text number p e = refusal_of e (parsed_held text)

-- How the loop's end answers: each refusal, and the tokens.
use Prim.Native.Nat.{ℕ, suc, ◌+◌, ◌≤◌, ◌<◌}
use mathlib.Core.List.{List, [], ◌∷◌, ◌++◌}
use mathlib.Core.Bool.{Bool, true, false}
use mathlib.Core.Option.{Option, none, some}
use Rattle.std.specs.Prelude.{Ok, Err}
use mathlib.Core.Path.{◌≡◌, refl, sym, ap, ◌∙◌, subst}
use lib.Dec.{leb}
use lib.ListN.{length, drop, length-append, drop_of_length-le}
use native.Mathlib.Numerals.{add-one}
use native.Mathlib.Omega.{arith}
use borrow.Author.Tests.{le-leb, lt-leb}
use Rattle.node.specs.Result.{Result, Done, Refused as RefusedAt}
use Rattle.node.specs.Returned.{refusal}
use Rattle.node.proofs.ResultLaws.{guard-pass, guard-stop}
use Rattle.words.specs.Words.{word_at}
use Rattle.language.specs.Limits.{max_bytes, max_tokens}
use Rattle.language.specs.Tokens.{End, Wrong, Token, is_of, lex, tokens}
use Rattle.language.specs.Grammar.{front}
use Rattle.language.specs.Names.{place_of_first}
use Rattle.language.specs.Places.{refuse_at}
use Rattle.language.specs.Parsing.{no_token, too_many_tokens}
use Rattle.language.proofs.Laws.Basics.Tests.{pick, leave}
use Rattle.lexer.specs.Stored.{token_word, TokensStored}
use Rattle.lexer.specs.Lexing.{lexing}
use Rattle.lexer.specs.Answer.{Lexes}
use Rattle.lexer.specs.Scanning.{Scans}
use Rattle.lexer.specs.declared.piece.Scanned.{Scanned}
use Rattle.lexer.proofs.StepLaws.{token_of, piece-wrong, step-wrong}
use Rattle.lexer.proofs.RunLaws.{front-left, right-left, token_at, place-first, Run}

place_none : {A : Type 0} (number : ℕ) (o : Option ℕ) (r : Result A) → o ≡ none → refuse_at number o r ≡ r
unfolding refuse_at
place_none number o r e = rw e

place_some : {A : Type 0} (number : ℕ) (o : Option ℕ) (p : ℕ) (r : Result A) → o ≡ some p → refuse_at number o r ≡ RefusedAt number p
unfolding refuse_at
place_some number o p r e = rw e

-- refusal 1
pub answer_long : (text w : List ℕ) → max_bytes < length text → Lexes text w w (Err (refusal 1 max_bytes))
unfolding lexing
answer_long text w h = record { answer = guard-stop 1 max_bytes _ (lt-leb (length text) max_bytes h); kept = refl; size = refl }

module _ (text w v : List ℕ) (at n : ℕ) (e : Bool) (over : ℕ) (c : Run text w v at n e over) (short : length text ≤ max_bytes) where
  passed : lexing text ≡ refuse_at 2 (no_token (tokens text)) (refuse_at 3 (too_many_tokens (tokens text)) (Done (tokens text)))
  unfolding lexing
  passed = guard-pass 1 max_bytes _ (le-leb (length text) max_bytes short)

  -- refusal 2
  pub answer-wrong : at < length text → (r : Scanned) → Scans e (drop at text) r → r.size ≡ 0 → Lexes text w v (Err (refusal 2 at))
  answer-wrong inside r q z =
      let t = token_of e at (drop at text) in
      let f : no_token (tokens text) ≡ some at =
      ap no_token (c.whole ∙ ap (λ ts. c.done ++ ts) (step-wrong e text at inside r.size q.size z)) ∙ right-left c.done (t ∷ []) c.right
      ∙ pick (is_of Wrong t) (some at) none (piece-wrong e text at inside r.size q.size z) in
      record { answer = passed ∙ place_some 2 (no_token (tokens text)) at _ f; kept = c.kept; size = c.size }

  -- at the text's end
  module _ (end : length text ≤ at) where
    abbrev last : Token
    last = record { class = End; at = at; text = [] }

    all : tokens text ≡ c.done ++ (last ∷ [])
    all = c.whole ∙ ap (λ s. c.done ++ lex e at 0 s) (drop_of_length-le text end)

    all-length : length (tokens text) ≡ n + 1
    all-length = let k = c.count in ap length all ∙ length-append c.done (last ∷ []) ∙ omega arith

    no_wrong : no_token (tokens text) ≡ none
    no_wrong = ap no_token all ∙ right-left c.done (last ∷ []) c.right

    counted : lexing text ≡ refuse_at 3 (too_many_tokens (tokens text)) (Done (tokens text))
    counted = passed ∙ place_none 2 (no_token (tokens text)) _ no_wrong

    pub answer-many : max_tokens < n → Lexes text w v (Err (refusal 3 over))
    answer-many h =
        let l : suc max_tokens < length (tokens text) = subst (λ m. suc max_tokens < m) (sym all-length) (omega arith) in
        let f : too_many_tokens (tokens text) ≡ some over = many max_tokens l (subst (λ m. max_tokens < m) c.count h) ∙ ap some (sym (c.limit h)) in
        record { answer = counted ∙ place_some 3 (too_many_tokens (tokens text)) over _ f; kept = c.kept; size = c.size }
      where
        many : (m : ℕ) → suc m < length (tokens text) → m < length c.done
            → ◌≡◌ {A = Option ℕ} (elim (leb (length (tokens text)) (suc m)) [ true ↦ none | false ↦ place_of_first (drop m (tokens text)) ]) (some (token_at m c.done).at)
        many m l k = leave (leb (length (tokens text)) (suc m)) none _ (lt-leb (length (tokens text)) (suc m) l) ∙ ap (λ ts. place_of_first (drop m ts)) all ∙ place-first m c.done (last ∷ []) k

    pub answer-tokens : n ≤ max_tokens → Lexes text w v (Ok n)
    answer-tokens h =
        let l : length (tokens text) ≤ suc max_tokens = subst (λ m. m ≤ suc max_tokens) (sym all-length) (omega arith) in
        record {
          answer = record {
            read = counted ∙ place_none 3 (too_many_tokens (tokens text)) _ (pick (leb (length (tokens text)) (suc max_tokens)) none _ (le-leb (length (tokens text)) (suc max_tokens) l));
            count = sym (all-length ∙ add-one n);
            stored = subst (TokensStored v) (sym all) (record { words = λ i k. words i (subst (λ m. suc i < m) (sym (ap length all) ∙ all-length) k) });
          };
          kept = c.kept;
          size = c.size;
        }
      where
        words : (i : ℕ) → suc i < n + 1 → word_at v i ≡ token_word (front (drop i (c.done ++ (last ∷ []))))
        words i k = c.stored i (omega arith) (omega arith) ∙ ap token_word (sym (front-left i c.done (last ∷ []) (subst (λ m. i < m) c.count (omega arith))))

-- The tokens of a text that the lexer has stored are what the parser asks for.
use Rattle.std.specs.Prelude.{ℕ, zero, suc, ◌≤◌, ◌<◌, List, [], ◌∷◌, true, false, ◌≡◌, refl, Ok, Err, length, drop}
use Rattle.std.proofs.Common.{arith, sym, ◌∙◌, subst}
use Rattle.std.proofs.Math.Path.{ap}
use Rattle.node.specs.declared.Refusal.{Refusal}
use Rattle.node.specs.Returned.{Returned, refusal}
use Rattle.node.specs.Result.{Result, Done, Refused, ◌>>=◌}
use Rattle.words.specs.Words.{past}
use Rattle.words.specs.ClearingLaws.{past-later}
use Rattle.language.specs.Limits.{work_bytes}
use Rattle.language.specs.Tokens.{End, Wrong, is_of, tokens}
use Rattle.language.specs.Grammar.{Tokens, front}
use Rattle.language.specs.Tree.{Spec}
use Rattle.language.specs.Sections.{spec_of}
use Rattle.language.proofs.Laws.Grammar.TokenLaws.{Ends, tokens-end}
use Rattle.lexer.specs.Lexing.{lexing, Lexical}
use Rattle.lexer.specs.LexingLaws.{lexical, token-stands, token-right}
use Rattle.lexer.specs.Answer.{Answers, Tokenized, Lexes, token_bytes}
use Rattle.entries.specs.Cursors.{Tells}
use Rattle.entries.specs.Reads.{Kept}
use Rattle.parser.specs.declared.Outline.{Outline}
use Rattle.parser.specs.Outlines.{Lexed, Outlined, Answer}
use Rattle.outline.specs.declared.TextOutline.{TextOutline}
use Rattle.outline.specs.Outlining.{Says, Outlining}

-- the last token is the text's end
last-token : (n : ℕ) (ts : Tokens) → Ends n ts → ((i : ℕ) → i < length ts → is_of Wrong (front (drop i ts)) ≡ false) → (k : ℕ) → suc k ≡ length ts
    → (is_of End (front (drop k ts)) ≡ true) × ((front (drop k ts)).at ≡ n)
last-token n [] e right k l = absurd e
last-token n (t ∷ []) e right zero l = e (right 0 (omega arith))
last-token n (t ∷ []) e right (suc k) l = absurd (omega arith)
last-token n (t ∷ u ∷ us) e right zero l = absurd (omega arith)
last-token n (t ∷ u ∷ us) e right (suc k) l = last-token n (u ∷ us) e.2 (λ i b. right (suc i) (omega arith)) k (omega arith)

-- no token lies behind the text
place-most : (n : ℕ) (ts : Tokens) → ((i : ℕ) → i < length ts → (front (drop i ts)).at ≤ n) → (i : ℕ) → (front (drop i ts)).at ≤ n
place-most n [] h zero = omega arith
place-most n [] h (suc i) = omega arith
place-most n (t ∷ ts) h zero = h 0 (omega arith)
place-most n (t ∷ ts) h (suc i) = place-most n ts (λ j l. h (suc j) (omega arith)) i

-- the parser's answer, with the number of tokens
abbrev counted : ℕ → Returned Outline → Returned TextOutline
counted n (Ok o) = Ok (record { tokens = n; entries = o.entries; facts = o.facts })
counted n (Err r) = Err r

module _ {text v : List ℕ} {n : ℕ} (h : Tokenized text v n) where
  texts : Lexical text (tokens text)
  texts = lexical text (tokens text) h.read

  tells : Tells (tokens text) v n (length text)
  tells =
      let last = last-token (length text) (tokens text) (tokens-end text) (token-right texts) n h.count in
      record {
        total = omega (arith, h.count);
        stored = h.stored;
        places = place-most (length text) (tokens text) (λ i l. let s = (token-stands texts i l).inside in omega arith);
        last = last.0;
        last-place = last.1;
      }

  pub lexed : work_bytes ≤ length v → Lexed v n (length text)
  lexed room =
      record {
        tokens = tokens text;
        fits = record { room = room; few = omega (arith, h.count, texts.few); short = texts.short; inside = omega arith };
        tells = tells;
      }

  then_done : lexing text >>= spec_of ≡ spec_of (tokens text)
  unfolding ◌>>=◌
  then_done = ap (λ r. r >>= spec_of) h.read

  -- the parser leaves the tokens' words
  still : {z : List ℕ} → Kept v z 0 → Tokenized text z n
  still k =
      record {
        read = h.read;
        count = h.count;
        stored = record { words = λ i l. k.words i (omega (arith, texts.few)) ∙ h.stored.words i l };
      }

  -- the parser's answer by the cases of the definition's
  says : {z : List ℕ} (x : Result Spec) (o : Returned Outline) → spec_of (tokens text) ≡ x → Kept v z 0 → Answer (tokens text) z x o → Says text z (counted n o)
  says {z} (Done x) o e k d =
      subst (λ o. Says text z (counted n o)) (sym d.accepted)
      (record { tree = x; lexed = still k; read = e; total = refl; few = d.few; stored = d.entries; facts = refl })
  says {z} (Refused number place) o e k d = subst (λ o. Says text z (counted n o)) (sym d) (then_done ∙ e)

  module _ {w z : List ℕ} {o : Returned Outline} (size : length v ≡ length w) (kept : past token_bytes v ≡ past token_bytes w) (f : (ts : Tokens) → Tells ts v n (length text) → Outlined ts v z o) where
    answered : {r : Returned TextOutline} → r ≡ counted n o → Outlining text w z r
    answered e =
        let told = f (tokens text) tells in
        record {
          says = subst (Says text z) (sym e) (says (spec_of (tokens text)) o refl told.kept told.says);
          size = told.kept.len ∙ size;
          beyond = told.kept.beyond ∙ past-later token_bytes work_bytes v w (omega arith) kept;
        }

    pub outlined : {d : Outline} → o ≡ Ok d → Outlining text w z (Ok (record { tokens = n; entries = d.entries; facts = d.facts }))
    outlined e = answered (sym (ap (counted n) e))

    -- a refusal of the parser, handed up
    pub not_outlined : {r : Returned TextOutline} {e : Refusal} → o ≡ Err e → r ≡ Err e → Outlining text w z r
    not_outlined e u = answered (u ∙ sym (ap (counted n) e))

-- the lexer's answer by its cases
module _ {text w v : List ℕ} {r : Returned ℕ} (l : Lexes text w v r) where
  pub tokenized : {n : ℕ} → r ≡ Ok n → Tokenized text v n
  tokenized e = subst (Answers text v) e l.answer

  refused : {e : Refusal} → r ≡ Err e → lexing text ≡ Refused e.number e.place
  refused e = subst (Answers text v) e l.answer

not-lexed : {text w v : List ℕ} {n p : ℕ} → lexing text ≡ Refused n p → length v ≡ length w → past token_bytes v ≡ past token_bytes w → Outlining text w v (Err (refusal n p))
unfolding ◌>>=◌
not-lexed {text} {w} {v} {n} {p} e size kept = record { says = ap (λ r. r >>= spec_of) e; size = size; beyond = past-later token_bytes work_bytes v w (omega arith) kept }

-- a refusal of the lexer, handed up
pub handed_up : {text w v : List ℕ} {l : Returned ℕ} → Lexes text w v l → {r : Returned TextOutline} {e : Refusal} → l ≡ Err e → r ≡ Err e → Outlining text w v r
handed_up {text} {w} {v} h e u = subst (Outlining text w v) (sym u) (not-lexed (refused h e) h.size h.kept)

-- The words of tokens as the lexer stores them spell them.
use Rattle.std.specs.Prelude.{ℕ, zero, suc, ◌+◌, ◌≤◌, ◌<◌, ◌^◌, List, [], ◌∷◌, ◌++◌, ◌≡◌, refl, length, take, drop}
use Rattle.std.proofs.Common.{sym, ap, ap₂, ◌∙◌, length-drop, take-suc, get_or-drop, arith}
use Rattle.language.specs.Tokens.{Token}
use Rattle.language.specs.Grammar.{Tokens, front}
use Rattle.language.proofs.Laws.Grammar.TokenLaws.{Stands}
use Rattle.lexer.specs.Stored.{offset_bits, offset_in, length_in, token_word, TokensStored}
use Rattle.lexer.specs.StoredLaws.{offset_word, length-word}
use Rattle.lexer.specs.Lexing.{Lexical}
use Rattle.lexer.specs.LexingLaws.{token-stands, token_near}
use Rattle.traversal.specs.Cells.{TokensTell}
use Rattle.enumerations.specs.Pass.{bytes_at}
use Rattle.enumerations.specs.Given.{Spelled, Spells}

bytes-text : (text : List ℕ) (at n : ℕ) → at + n ≤ length text → bytes_at text at n ≡ take n (drop at text)
unfolding bytes_at
bytes-text text at zero h = refl
bytes-text text at (suc n) h =
    let inside : n < length (drop at text) = omega (arith, length-drop at text) in
    ap₂ (λ l b. l ++ (b ∷ [])) (bytes-text text at n (omega arith)) (sym (get_or-drop at text n 0)) ∙ sym (take-suc (drop at text) n 0 inside)

pub spelled : (text : List ℕ) (x : ℕ) (t : Token) → Stands text t → t.at < 2 ^ offset_bits → x ≡ token_word t → Spelled text x t
spelled text x t s near e =
    record {
      place = ap offset_in e ∙ offset_word t near;
      size = ap length_in e ∙ length-word t near;
      bytes = bytes-text text t.at (length t.text) s.inside ∙ sym s.bytes;
    }

pub spells_tell : {text w : List ℕ} {ts : Tokens} → Lexical text ts → TokensStored w ts → TokensTell (Spells text) w ts
spells_tell {text} {w} {ts} l s j h _ =
    spelled text _ (front (drop j ts)) (token-stands l j (omega arith)) (token_near l j (omega arith)) (s.words j h)

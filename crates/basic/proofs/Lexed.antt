-- Tokens with a blank behind each are read as these tokens: the lexing half of reading back. A token is written here with its class.
use Rattle.std.specs.Prelude.{ℕ, suc, ◌≡◌, refl, false, List, [], ◌∷◌, ◌++◌, map, length}
use Prim.Native.String.{String}
use Rattle.std.proofs.Common.{ap, ◌∙◌, sym, append_assoc}
use Rattle.std.proofs.lemmas.List.{map-append}
use Rattle.language.specs.Bytes.{ascii}
use Rattle.language.specs.Tokens.{Class, Fixed, Token, lex}
use Rattle.language.proofs.Laws.Basics.Lists.{All}
use Rattle.basic.specs.Basic.{parted}

-- a token's class and its bytes
abbrev pub Lexeme : Type 0
Lexeme = Class × List ℕ

abbrev pub sign : String → Lexeme
sign s = (Fixed, ascii s)

abbrev pub bytes : List Lexeme → List (List ℕ)
bytes xs = map (λ x. x.1) xs

-- the offset behind some bytes that stand at an offset, and the one behind a token and its blank
abbrev pub later : List ℕ → ℕ → ℕ
later [] at = at
later (b ∷ s) at = later s (suc at)

abbrev pub past : Lexeme → ℕ → ℕ
past x at = suc (later x.1 at)

-- the tokens from an offset on, a blank behind each; the offset behind them all; and their bytes
abbrev pub token_at : ℕ → Lexeme → Token
token_at at x = record { class = x.0; at = at; text = x.1 }

abbrev pub laid : ℕ → List Lexeme → List Token
laid at [] = []
laid at (x ∷ xs) = token_at at x ∷ laid (past x at) xs

abbrev pub ending : ℕ → List Lexeme → ℕ
ending at [] = at
ending at (x ∷ xs) = ending (past x at) xs

abbrev pub each : List Lexeme → List ℕ
each [] = []
each (x ∷ xs) = x.1 ++ (32 ∷ each xs)

-- a token that is read as itself before a blank, whatever stands behind it
pub record Alone (x : Lexeme) : Type 0 where
  pub reads : (at : ℕ) (r : List ℕ) → lex false at 0 (x.1 ++ (32 ∷ r)) ≡ token_at at x ∷ lex false (past x at) 0 r

-- the lexing law
pub lexed : (xs : List Lexeme) → All Alone xs → (at : ℕ) (r : List ℕ) → lex false at 0 (each xs ++ r) ≡ laid at xs ++ lex false (ending at xs) 0 r
lexed [] h at r = refl
lexed (x ∷ xs) h at r =
    ap (lex false at 0) (append_assoc x.1 (32 ∷ each xs) r) ∙ h.0.reads at (each xs ++ r)
    ∙ ap (token_at at x ∷◌) (lexed xs h.1 (past x at) r)

-- tokens parted by one blank have a blank behind each but the last
parted-more : (t : List ℕ) (ts : List (List ℕ)) (u : List ℕ) → parted (t ∷ (ts ++ (u ∷ []))) ≡ t ++ (32 ∷ parted (ts ++ (u ∷ [])))
unfolding parted
parted-more t [] u = refl
parted-more t (v ∷ ts) u = refl

pub parted-each : (xs : List Lexeme) (u : List ℕ) → parted (bytes xs ++ (u ∷ [])) ≡ each xs ++ u
unfolding parted
parted-each [] u = refl
parted-each (x ∷ xs) u =
    parted-more x.1 (bytes xs) u ∙ ap (λ s. x.1 ++ (32 ∷ s)) (parted-each xs u) ∙ sym (append_assoc x.1 (32 ∷ each xs) u)

-- in parts
pub bytes-append : (xs ys : List Lexeme) (us : List (List ℕ)) → bytes (xs ++ ys) ++ us ≡ bytes xs ++ (bytes ys ++ us)
bytes-append xs ys us = ap (◌++ us) (map-append (λ (x : Lexeme). x.1) xs ys) ∙ append_assoc (bytes xs) (bytes ys) us

pub laid-append : (at : ℕ) (xs ys : List Lexeme) (ts : List Token) → laid at (xs ++ ys) ++ ts ≡ laid at xs ++ (laid (ending at xs) ys ++ ts)
laid-append at [] ys ts = refl
laid-append at (x ∷ xs) ys ts = ap (token_at at x ∷◌) (laid-append (past x at) xs ys ts)

pub laid-length : (at : ℕ) (xs : List Lexeme) → length (laid at xs) ≡ length xs
laid-length at [] = refl
laid-length at (x ∷ xs) = ap suc (laid-length (past x at) xs)

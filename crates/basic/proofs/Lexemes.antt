-- The written tokens with their classes.
use Rattle.std.specs.Prelude.{ℕ, zero, suc, ◌+◌, ◌*◌, ◌<◌, ◌≡◌, length, get_or}
use Rattle.std.proofs.Math.Path.{refl, ap, ap₂}
use Rattle.std.proofs.Common.{◌∙◌, sym, length-append, arith}
use mathlib.Core.List.{List, [], ◌∷◌, ◌++◌, map, map-append}
use Rattle.node.specs.Operators.{Unary, Not, X, G, F, Binary, And, Or, Implies, Iff, U, R, W}
use Rattle.node.specs.Ltl.{Formula, True, False, Signal, One, Two}
use Rattle.node.specs.Postorder.{size, SignalsBelow}
use Rattle.language.specs.Bytes.{ascii}
use Rattle.language.specs.Tokens.{Name, Quoted}
use Rattle.language.specs.Tree.{Model, Mealy, Moore}
use Rattle.language.proofs.Laws.Basics.Lists.{All, all_append}
use Rattle.writing.specs.OperandLaws.{size_true, size_false, size-signal, size-one, size-two}
use Rattle.basic.specs.Basic.{unary_sign, binary_sign, model_word, formula_tokens, info_tokens, line_tokens, basic_tokens, parted}
use Rattle.basic.proofs.Lexed.{Lexeme, sign, bytes, each, Alone, parted-each, bytes-append}

pub all_get_d : {A : Type 0} (P : A → Type 0) (l : List A) (i : ℕ) (d : A) → All P l → i < length l → P (get_or l i d)
all_get_d P [] i d h l = absurd (omega arith)
all_get_d P (a ∷ m) zero d h l = h.0
all_get_d P (a ∷ m) (suc i) d h l = all_get_d P m i d h.1 (omega arith)

-- a formula's tokens behind its first parenthesis
abbrev pub body_lexemes : List (List ℕ) → Formula → List Lexeme
body_lexemes names True = sign "true" ∷ sign ")" ∷ []
body_lexemes names False = sign "false" ∷ sign ")" ∷ []
body_lexemes names (Signal k) = (Name, get_or names k []) ∷ sign ")" ∷ []
body_lexemes names (One o a) = sign (unary_sign o) ∷ sign "(" ∷ (body_lexemes names a ++ (sign ")" ∷ []))
body_lexemes names (Two o a b) = sign "(" ∷ (body_lexemes names a ++ (sign (binary_sign o) ∷ sign "(" ∷ (body_lexemes names b ++ (sign ")" ∷ []))))

abbrev pub line_lexemes : List (List ℕ) → List Lexeme
line_lexemes [] = []
line_lexemes (n ∷ ns) = (Name, n) ∷ sign ";" ∷ line_lexemes ns

abbrev pub quoted : Lexeme
quoted = (Quoted, ascii "\"converted\"")

abbrev pub info_lexemes : Model → List Lexeme
info_lexemes m =
    sign "INFO" ∷ sign "{" ∷ sign "TITLE" ∷ sign ":" ∷ quoted ∷ sign "DESCRIPTION" ∷ sign ":" ∷ quoted ∷
    sign "SEMANTICS" ∷ sign ":" ∷ sign (model_word m) ∷ sign "TARGET" ∷ sign ":" ∷ sign (model_word m) ∷ sign "}" ∷ []

-- from a list on, the tokens as far as the last one, which has no blank behind it
abbrev pub guarantee_lexemes : List (List ℕ) → Formula → List Lexeme
guarantee_lexemes names f = sign "}" ∷ sign "GUARANTEE" ∷ sign "{" ∷ sign "(" ∷ (body_lexemes names f ++ (sign ";" ∷ sign "}" ∷ []))

abbrev pub output_lexemes : (outputs names : List (List ℕ)) → Formula → List Lexeme
output_lexemes outputs names f = sign "}" ∷ sign "OUTPUTS" ∷ sign "{" ∷ (line_lexemes outputs ++ guarantee_lexemes names f)

abbrev pub main_lexemes : (inputs outputs names : List (List ℕ)) → Formula → List Lexeme
main_lexemes inputs outputs names f =
    sign "MAIN" ∷ sign "{" ∷ sign "INPUTS" ∷ sign "{" ∷ (line_lexemes inputs ++ output_lexemes outputs names f)

abbrev pub basic_lexemes : Model → (inputs outputs names : List (List ℕ)) → Formula → List Lexeme
basic_lexemes m inputs outputs names f = info_lexemes m ++ main_lexemes inputs outputs names f

-- their bytes are the tokens of the definition
body_bytes : (names : List (List ℕ)) (f : Formula) → ascii "(" ∷ bytes (body_lexemes names f) ≡ formula_tokens names f
unfolding formula_tokens
body_bytes names True = refl
body_bytes names False = refl
body_bytes names (Signal k) = refl
body_bytes names (One o a) =
    ap (λ us. ascii "(" ∷ ascii (unary_sign o) ∷ ascii "(" ∷ us) (map-append (λ (x : Lexeme). x.1) (body_lexemes names a) (sign ")" ∷ []))
    ∙ ap (λ us. ascii "(" ∷ ascii (unary_sign o) ∷ (us ++ (ascii ")" ∷ []))) (body_bytes names a)
body_bytes names (Two o a b) =
    let second = sign (binary_sign o) ∷ sign "(" ∷ (body_lexemes names b ++ (sign ")" ∷ [])) in
    let close = ascii ")" ∷ [] in
    ap (λ us. ascii "(" ∷ ascii "(" ∷ us) (map-append (λ (x : Lexeme). x.1) (body_lexemes names a) second)
    ∙ ap (λ us. ascii "(" ∷ (us ++ bytes second)) (body_bytes names a)
    ∙ ap (λ us. ascii "(" ∷ (formula_tokens names a ++ (ascii (binary_sign o) ∷ ascii "(" ∷ us))) (map-append (λ (x : Lexeme). x.1) (body_lexemes names b) (sign ")" ∷ []))
    ∙ ap (λ us. ascii "(" ∷ (formula_tokens names a ++ (ascii (binary_sign o) ∷ (us ++ close)))) (body_bytes names b)

line-bytes : (ns : List (List ℕ)) → bytes (line_lexemes ns) ≡ line_tokens ns
unfolding line_tokens
line-bytes [] = refl
line-bytes (n ∷ ns) = ap (λ us. n ∷ ascii ";" ∷ us) (line-bytes ns)

module _ (m : Model) (inputs outputs names : List (List ℕ)) (f : Formula) where
  abbrev last : List (List ℕ)
  last = ascii "}" ∷ []

  guarantee_bytes : bytes (guarantee_lexemes names f) ++ last ≡ map ascii ("}" ∷ "GUARANTEE" ∷ "{" ∷ []) ++ (formula_tokens names f ++ map ascii (";" ∷ "}" ∷ "}" ∷ []))
  guarantee_bytes =
      ap (λ us. map ascii ("}" ∷ "GUARANTEE" ∷ "{" ∷ "(" ∷ []) ++ us) (bytes-append (body_lexemes names f) (sign ";" ∷ sign "}" ∷ []) last)
      ∙ ap (λ us. map ascii ("}" ∷ "GUARANTEE" ∷ "{" ∷ []) ++ (us ++ map ascii (";" ∷ "}" ∷ "}" ∷ []))) (body_bytes names f)

  pub basic_bytes : bytes (basic_lexemes m inputs outputs names f) ++ last ≡ basic_tokens m inputs outputs names f
  unfolding basic_tokens info_tokens
  basic_bytes =
      let head = map ascii ("MAIN" ∷ "{" ∷ "INPUTS" ∷ "{" ∷ []) in
      let between = map ascii ("}" ∷ "OUTPUTS" ∷ "{" ∷ []) in
      ap (λ us. info_tokens m ++ (head ++ us)) (bytes-append (line_lexemes inputs) (output_lexemes outputs names f) last)
      ∙ ap₂ (λ us vs. info_tokens m ++ (head ++ (us ++ (between ++ vs)))) (line-bytes inputs) (bytes-append (line_lexemes outputs) (guarantee_lexemes names f) last)
      ∙ ap₂ (λ us vs. info_tokens m ++ (head ++ (line_tokens inputs ++ (between ++ (us ++ vs))))) (line-bytes outputs) guarantee_bytes

  -- so the written text is these tokens with a blank behind each, and `}`
  pub basic_each : parted (basic_tokens m inputs outputs names f) ≡ each (basic_lexemes m inputs outputs names f) ++ ascii "}"
  basic_each = ap parted (sym basic_bytes) ∙ parted-each (basic_lexemes m inputs outputs names f) (ascii "}")

-- each is read as itself before a blank, the signals' names given
abbrev pub NamesAlone : List (List ℕ) → Type 0
NamesAlone ns = All (λ n. Alone (Name, n)) ns

unary-alone : (o : Unary) → Alone (sign (unary_sign o))
unary-alone Not = record { reads = λ at r. refl }
unary-alone X = record { reads = λ at r. refl }
unary-alone G = record { reads = λ at r. refl }
unary-alone F = record { reads = λ at r. refl }

binary-alone : (o : Binary) → Alone (sign (binary_sign o))
binary-alone And = record { reads = λ at r. refl }
binary-alone Or = record { reads = λ at r. refl }
binary-alone Implies = record { reads = λ at r. refl }
binary-alone Iff = record { reads = λ at r. refl }
binary-alone U = record { reads = λ at r. refl }
binary-alone R = record { reads = λ at r. refl }
binary-alone W = record { reads = λ at r. refl }

open_alone : Alone (sign "(")
open_alone = record { reads = λ at r. refl }

close-alone : Alone (sign ")")
close-alone = record { reads = λ at r. refl }

ends-alone : Alone (sign ";")
ends-alone = record { reads = λ at r. refl }

module _ (names : List (List ℕ)) (h : NamesAlone names) where
  body-alone : (f : Formula) → SignalsBelow (length names) f → All Alone (body_lexemes names f)
  unfolding SignalsBelow
  body-alone True s = (record { reads = λ at r. refl }, (close-alone, tt))
  body-alone False s = (record { reads = λ at r. refl }, (close-alone, tt))
  body-alone (Signal k) s = (all_get_d (λ n. Alone (Name, n)) names k [] h s, (close-alone, tt))
  body-alone (One o a) s = (unary-alone o, (open_alone, all_append Alone (body_lexemes names a) (sign ")" ∷ []) (body-alone a s) (close-alone, tt)))
  body-alone (Two o a b) s =
      let close = sign ")" ∷ [] in
      let second = all_append Alone (body_lexemes names b) close (body-alone b s.1) (close-alone, tt) in
      (open_alone, all_append Alone (body_lexemes names a) (sign (binary_sign o) ∷ sign "(" ∷ (body_lexemes names b ++ close)) (body-alone a s.0) (binary-alone o, (open_alone, second)))

line-alone : (ns : List (List ℕ)) → NamesAlone ns → All Alone (line_lexemes ns)
line-alone [] h = tt
line-alone (n ∷ ns) h = (h.0, (ends-alone, line-alone ns h.1))

colon_alone : Alone (sign ":")
colon_alone = record { reads = λ at r. refl }

brace_alone : Alone (sign "{")
brace_alone = record { reads = λ at r. refl }

shut-alone : Alone (sign "}")
shut-alone = record { reads = λ at r. refl }

quoted-alone : Alone quoted
quoted-alone = record { reads = λ at r. refl }

model_alone : (m : Model) → Alone (sign (model_word m))
model_alone Mealy = record { reads = λ at r. refl }
model_alone Moore = record { reads = λ at r. refl }

info-alone : (m : Model) → All Alone (info_lexemes m)
info-alone m =
    let word : Alone (sign "INFO") × Alone (sign "TITLE") × Alone (sign "DESCRIPTION") × Alone (sign "SEMANTICS") × Alone (sign "TARGET") =
    (record { reads = λ at r. refl }, record { reads = λ at r. refl }, record { reads = λ at r. refl }, record { reads = λ at r. refl }, record { reads = λ at r. refl }) in (
      word.0,
      (
        brace_alone,
        (
          word.1,
          (
            colon_alone,
            (
              quoted-alone,
              (
                word.2,
                (
                  colon_alone,
                  (
                    quoted-alone,
                    (word.3, (colon_alone, (model_alone m, (word.4, (colon_alone, (model_alone m, (shut-alone, tt))))))),
                  ),
                ),
              ),
            ),
          ),
        ),
      ),
    )

pub basic_alone : (m : Model) (inputs outputs names : List (List ℕ)) (f : Formula) → NamesAlone inputs → NamesAlone outputs → NamesAlone names → SignalsBelow (length names) f
    → All Alone (basic_lexemes m inputs outputs names f)
basic_alone m inputs outputs names f hi ho hn s =
    let word : Alone (sign "MAIN") × Alone (sign "INPUTS") × Alone (sign "OUTPUTS") × Alone (sign "GUARANTEE") =
    (record { reads = λ at r. refl }, record { reads = λ at r. refl }, record { reads = λ at r. refl }, record { reads = λ at r. refl }) in
    let lines = all_append Alone (body_lexemes names f) (sign ";" ∷ sign "}" ∷ []) (body-alone names hn f s) (ends-alone, (shut-alone, tt)) in
    let outs = all_append Alone (line_lexemes outputs) (guarantee_lexemes names f) (line-alone outputs ho) (shut-alone, (word.3, (brace_alone, (open_alone, lines)))) in
    let ins = all_append Alone (line_lexemes inputs) (output_lexemes outputs names f) (line-alone inputs hi) (shut-alone, (word.2, (brace_alone, outs))) in
    all_append Alone (info_lexemes m) (main_lexemes inputs outputs names f) (info-alone m) (word.0, (brace_alone, (word.1, (brace_alone, ins))))

-- how many they are: 3 for a node, 2 for a signal, and 28 with the last one
body-length : (names : List (List ℕ)) (f : Formula) → length (body_lexemes names f) + 1 ≡ 3 * size f
body-length names True = ap (λ (n : ℕ). 3 * n) (sym size_true)
body-length names False = ap (λ (n : ℕ). 3 * n) (sym size_false)
body-length names (Signal k) = ap (λ (n : ℕ). 3 * n) (sym (size-signal k))
body-length names (One o a) = omega (arith, size-one o a, body-length names a, length-append (body_lexemes names a) (sign ")" ∷ []))
body-length names (Two o a b) =
    let second = sign (binary_sign o) ∷ sign "(" ∷ (body_lexemes names b ++ (sign ")" ∷ [])) in
    omega (arith, size-two o a b, body-length names a, body-length names b, length-append (body_lexemes names a) second, length-append (body_lexemes names b) (sign ")" ∷ []))

pub line-length : (ns : List (List ℕ)) → length (line_lexemes ns) ≡ 2 * length ns
line-length [] = refl
line-length (n ∷ ns) = omega (arith, line-length ns)

pub basic_length : (m : Model) (inputs outputs names : List (List ℕ)) (f : Formula) → length (basic_lexemes m inputs outputs names f) ≡ 27 + 2 * length inputs + 2 * length outputs + 3 * size f
basic_length m inputs outputs names f =
    omega (
      arith,
      body-length names f,
      length-append (body_lexemes names f) (sign ";" ∷ sign "}" ∷ []),
      line-length outputs,
      line-length inputs,
      length-append (line_lexemes outputs) (guarantee_lexemes names f),
      length-append (line_lexemes inputs) (output_lexemes outputs names f),
    )

-- The written text: first its tokens, then its bytes (document 02, F-1; document 001, 2 and Table 1).
use Rattle.std.specs.Prelude.{ℕ, true, false, List, [], ◌∷◌, ◌++◌, map, get_or}
use Prim.Native.String.{String}
use Rattle.node.specs.Operators.{Unary, Not, X, G, F, Binary, And, Or, Implies, Iff, U, R, W}
use Rattle.node.specs.Ltl.{Formula, True, False, Signal, One, Two}
use Rattle.language.specs.Bytes.{ascii}
use Rattle.language.specs.Tree.{Model, Mealy, Moore}
use Rattle.language.specs.Reading.{NumberedFormula}
use Rattle.basic.specs.Spelling.{names_of, side_of}

abbrev pub unary_sign : Unary → String
unary_sign Not = "!"
unary_sign X = "X"
unary_sign G = "G"
unary_sign F = "F"

abbrev pub binary_sign : Binary → String
binary_sign And = "&&"
binary_sign Or = "||"
binary_sign Implies = "->"
binary_sign Iff = "<->"
binary_sign U = "U"
binary_sign R = "R"
binary_sign W = "W"

-- 'each node in its own parentheses', leaves and the root too; `names` are the signals' names by number
unfoldable pub formula_tokens : (names : List (List ℕ)) → Formula → List (List ℕ)
formula_tokens names True = ascii "(" ∷ ascii "true" ∷ ascii ")" ∷ []
formula_tokens names False = ascii "(" ∷ ascii "false" ∷ ascii ")" ∷ []
formula_tokens names (Signal k) = ascii "(" ∷ get_or names k [] ∷ ascii ")" ∷ []
formula_tokens names (One o a) = ascii "(" ∷ ascii (unary_sign o) ∷ (formula_tokens names a ++ (ascii ")" ∷ []))
formula_tokens names (Two o a b) = ascii "(" ∷ (formula_tokens names a ++ (ascii (binary_sign o) ∷ (formula_tokens names b ++ (ascii ")" ∷ []))))

-- 'semantics and target the plain model'
abbrev pub model_word : Model → String
model_word Mealy = "Mealy"
model_word Moore = "Moore"

-- 'no TAGS'
unfoldable pub info_tokens : Model → List (List ℕ)
info_tokens m =
    map ascii
    ("INFO" ∷ "{" ∷ "TITLE" ∷ ":" ∷ "\"converted\"" ∷ "DESCRIPTION" ∷ ":" ∷ "\"converted\"" ∷ "SEMANTICS" ∷ ":" ∷ model_word m ∷ "TARGET" ∷ ":" ∷ model_word m ∷ "}" ∷ [])

-- 'every `;` set'
unfoldable pub line_tokens : List (List ℕ) → List (List ℕ)
line_tokens [] = []
line_tokens (n ∷ ns) = n ∷ ascii ";" ∷ line_tokens ns

-- 'in document 001's order .. everything in one GUARANTEE'
unfoldable pub basic_tokens : Model → (inputs outputs names : List (List ℕ)) → Formula → List (List ℕ)
basic_tokens m inputs outputs names f =
    info_tokens m ++
    (map ascii ("MAIN" ∷ "{" ∷ "INPUTS" ∷ "{" ∷ []) ++ (line_tokens inputs ++
    (map ascii ("}" ∷ "OUTPUTS" ∷ "{" ∷ []) ++ (line_tokens outputs ++
    (map ascii ("}" ∷ "GUARANTEE" ∷ "{" ∷ []) ++ (formula_tokens names f ++
    map ascii (";" ∷ "}" ∷ "}" ∷ [])))))))

-- 'tokens parted by one blank'
unfoldable pub parted : List (List ℕ) → List ℕ
parted [] = []
parted (t ∷ []) = t
parted (t ∷ u ∷ us) = t ++ (32 ∷ parted (u ∷ us))

-- the tokens of what a text gives, with the target's model
abbrev pub tokens_of : Model → (text : List ℕ) → NumberedFormula → List (List ℕ)
tokens_of m text c =
    let list = c.signals in
    basic_tokens m (side_of false text list) (side_of true text list) (names_of text list) c.formula

abbrev pub basic_text : Model → (text : List ℕ) → NumberedFormula → List ℕ
basic_text m text c = parted (tokens_of m text c)

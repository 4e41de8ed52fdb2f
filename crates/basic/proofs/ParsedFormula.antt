-- A formula's tokens are read as the formula: the grammar half of reading back, by induction on the formula.
use Rattle.std.specs.Prelude.{ℕ, zero, suc, ◌≤◌, ◌≡◌, true, false, List, [], ◌∷◌, ◌++◌, length, get_or}
use Rattle.std.proofs.Math.Path.{refl, ap}
use Rattle.std.proofs.Common.{◌∙◌, arith}
use Rattle.std.proofs.Math.Option.{none, some}
use Rattle.std.proofs.Math.ListN.{length-append}
use Rattle.node.specs.Operators.{Unary, Not, X, G, F, Binary, And, Or, Implies, Iff, U, R, W}
use Rattle.node.specs.Ltl.{Formula, True, False, Signal, One, Two}
use Rattle.node.specs.Result.{Done, ◌>>=◌}
use Rattle.node.proofs.ResultLaws.{bind_to}
use Rattle.language.specs.Tokens.{Name}
use Rattle.language.specs.Operators.{infixes, Applies, Connects, loosest}
use Rattle.language.specs.Tree.{Expr, Named, Truth, Paren, Prefixed, Joined}
use Rattle.language.specs.Grammar.{Tokens, front, rest, expect, infix_of, closed_by, operand_of, allowed, right_level, climb}
use Rattle.language.proofs.Laws.Grammar.GrammarLaws.{up_to, up_to-step}
use Rattle.basic.specs.Basic.{unary_sign, binary_sign}
use Rattle.basic.proofs.Lexed.{Lexeme, sign, past, token_at, laid, ending, laid-append}
use Rattle.basic.proofs.Lexemes.{body_lexemes}

-- the expression that a formula's tokens behind the first parenthesis are read as, where they stand at an offset
abbrev pub inside_of : List (List ℕ) → ℕ → Formula → Expr
inside_of names at True = Truth (token_at at (sign "true")) true
inside_of names at False = Truth (token_at at (sign "false")) false
inside_of names at (Signal k) = Named (token_at at (Name, get_or names k []))
inside_of names at (One o a) =
    let start = past (sign (unary_sign o)) at in
    Prefixed (token_at at (sign (unary_sign o))) (Applies o) (Paren (token_at start (sign "(")) (inside_of names (past (sign "(") start) a))
inside_of names at (Two o a b) =
    let first = past (sign "(") at in
    let middle = ending first (body_lexemes names a) in
    let start = past (sign (binary_sign o)) middle in
    Joined (token_at middle (sign (binary_sign o))) (Connects o) (Paren (token_at at (sign "(")) (inside_of names first a)) (Paren (token_at start (sign "(")) (inside_of names (past (sign "(") start) b))

-- with its parentheses
abbrev pub tree_of : List (List ℕ) → ℕ → Formula → Expr
tree_of names at f = Paren (token_at at (sign "(")) (inside_of names (past (sign "(") at) f)

-- its tokens, and what follows them
abbrev pub body_then : List (List ℕ) → ℕ → Formula → Tokens → Tokens
body_then names at f ts = laid at (body_lexemes names f) ++ ts

abbrev pub tree_then : List (List ℕ) → ℕ → Formula → Tokens → Tokens
tree_then names at f ts = token_at at (sign "(") ∷ body_then names (past (sign "(") at) f ts

-- an operand in parentheses whose inside is read
operand_by_lem : (n max at : ℕ) (ts us : Tokens) (e : Expr) → closed_by up_to ")" ts ≡ Done (e, us) → operand_of n up_to max (token_at at (sign "(") ∷ ts) ≡ Done (Paren (token_at at (sign "(")) e, us)
operand_by_lem n max at ts us e h = bind_to (closed_by up_to ")" ts) (e, us) (λ (e, ts). Done (Paren (token_at at (sign "(")) e, ts)) h

-- behind an operand nothing goes on, or the operator t of a row does
climb_none : (n max : ℕ) (e : Expr) (ts : Tokens) → 1 ≤ n → allowed max (infix_of infixes (front ts)) ≡ none → climb n up_to max e ts ≡ Done (e, ts)
climb_none zero max e ts h w = absurd (omega arith)
climb_none (suc n) max e ts h w = ap (λ o. elim o [ none ↦ Done (e, ts) | some r ↦ up_to (right_level r) (rest ts) >>= λ (b, us). climb n up_to max (Joined (front ts) r.operator e b) us ]) w

-- an expression in parentheses, where nothing of its level goes on behind it
tree_by : (max at : ℕ) (ts us : Tokens) (e : Expr) → closed_by up_to ")" ts ≡ Done (e, us) → allowed max (infix_of infixes (front us)) ≡ none
    → up_to max (token_at at (sign "(") ∷ ts) ≡ Done (Paren (token_at at (sign "(")) e, us)
tree_by max at ts us e h w =
    let all = token_at at (sign "(") ∷ ts in
    up_to-step max all ∙ bind_to (operand_of (length all) up_to max all) (Paren (token_at at (sign "(")) e, us) (λ (e, us). climb (length all) up_to max e us) (operand_by_lem (length all) max at ts us e h)
    ∙ climb_none (length all) max (Paren (token_at at (sign "(")) e) us (omega arith) w

-- an inside that is read as far as its `)`
closed_by_lem : (at : ℕ) (ts us : Tokens) (e : Expr) → up_to loosest ts ≡ Done (e, token_at at (sign ")") ∷ us) → closed_by up_to ")" ts ≡ Done (e, us)
unfolding ◌>>=◌
closed_by_lem at ts us e h = ap (λ r. r >>= λ (e, ts). expect ")" ts >>= λ (c, ts). Done (e, ts)) h

-- an operator before its operand
unary_by : (o : Unary) (at start : ℕ) (ts us : Tokens) (e : Expr) → ((max : ℕ) → allowed max (infix_of infixes (front us)) ≡ none → up_to max (token_at start (sign "(") ∷ ts) ≡ Done (e, us))
    → infix_of infixes (front us) ≡ none → up_to loosest (token_at at (sign (unary_sign o)) ∷ token_at start (sign "(") ∷ ts) ≡ Done (Prefixed (token_at at (sign (unary_sign o))) (Applies o) e, us)
unary_by o at start ts us e h w =
    let all = token_at at (sign (unary_sign o)) ∷ token_at start (sign "(") ∷ ts in
    let tree = Prefixed (token_at at (sign (unary_sign o))) (Applies o) e in
    up_to-step loosest all ∙ bind_to (operand_of (length all) up_to loosest all) (tree, us) (λ (e, us). climb (length all) up_to loosest e us) (operand o)
    ∙ climb_none (length all) loosest tree us (omega arith) (ap (allowed loosest) w)
  where
    operand : (o : Unary) → operand_of (suc (suc (length ts))) up_to loosest (token_at at (sign (unary_sign o)) ∷ token_at start (sign "(") ∷ ts) ≡ Done
        (Prefixed (token_at at (sign (unary_sign o))) (Applies o) e, us)
    operand Not = bind_to (up_to 11 (token_at start (sign "(") ∷ ts)) (e, us) _ (h 11 (ap (allowed 11) w))
    operand X = bind_to (up_to 11 (token_at start (sign "(") ∷ ts)) (e, us) _ (h 11 (ap (allowed 11) w))
    operand G = bind_to (up_to 11 (token_at start (sign "(") ∷ ts)) (e, us) _ (h 11 (ap (allowed 11) w))
    operand F = bind_to (up_to 11 (token_at start (sign "(") ∷ ts)) (e, us) _ (h 11 (ap (allowed 11) w))

-- an operator behind its first operand, and its second
binary_by : (o : Binary) (n middle start : ℕ) (ts us : Tokens) (e b : Expr) → 2 ≤ n
    → ((max : ℕ) → allowed max (infix_of infixes (front us)) ≡ none → up_to max (token_at start (sign "(") ∷ ts) ≡ Done (b, us))
    → infix_of infixes (front us) ≡ none → climb n up_to loosest e (token_at middle (sign (binary_sign o)) ∷ token_at start (sign "(") ∷ ts) ≡ Done
    (Joined (token_at middle (sign (binary_sign o))) (Connects o) e b, us)
binary_by o zero middle start ts us e b l h w = absurd (omega arith)
binary_by o (suc n) middle start ts us e b l h w = go o
  where
    second : (o : Binary) (max : ℕ) →
        (up_to max (token_at start (sign "(") ∷ ts) >>= λ (b, us). climb n up_to loosest (Joined (token_at middle (sign (binary_sign o))) (Connects o) e b) us)
        ≡ Done (Joined (token_at middle (sign (binary_sign o))) (Connects o) e b, us)
    second o max =
        bind_to (up_to max (token_at start (sign "(") ∷ ts)) (b, us) (λ (b, us). climb n up_to loosest (Joined (token_at middle (sign (binary_sign o))) (Connects o) e b) us) (h max (ap (allowed max) w))
        ∙ climb_none n loosest (Joined (token_at middle (sign (binary_sign o))) (Connects o) e b) us (omega arith) (ap (allowed loosest) w)

    go : (o : Binary) → climb (suc n) up_to loosest e (token_at middle (sign (binary_sign o)) ∷ token_at start (sign "(") ∷ ts) ≡ Done (Joined (token_at middle (sign (binary_sign o))) (Connects o) e b, us)
    go And = second And 11
    go Or = second Or 12
    go Implies = second Implies 14
    go Iff = second Iff 14
    go W = second W 15
    go U = second U 16
    go R = second R 16

module _ (names : List (List ℕ)) where
  -- what follows a formula in its place
  abbrev close : ℕ → Tokens → Tokens
  close at ts = token_at at (sign ")") ∷ ts

  -- the tokens of an operand, and what stands between it and the next
  body_then_lem : (at : ℕ) (f : Formula) (xs : List Lexeme) (ts : Tokens) → laid at (body_lexemes names f ++ xs) ++ ts ≡ body_then names at f (laid (ending at (body_lexemes names f)) xs ++ ts)
  body_then_lem at f xs ts = laid-append at (body_lexemes names f) xs ts

  -- the grammar law: a formula's tokens behind the first parenthesis are read, with the last, as the formula, whatever stands behind them
  pub body-read : (f : Formula) (at : ℕ) (ts : Tokens) → closed_by up_to ")" (body_then names at f ts) ≡ Done (inside_of names at f, ts)
  unfolding ◌>>=◌
  body-read True at ts = refl
  body-read False at ts = refl
  body-read (Signal k) at ts = refl
  body-read (One o a) at ts =
      let start = past (sign (unary_sign o)) at in
      let inner = past (sign "(") start in
      let end = ending inner (body_lexemes names a) in
      let more = close end ts in
      ap (λ us. closed_by up_to ")" (token_at at (sign (unary_sign o)) ∷ token_at start (sign "(") ∷ us)) (body_then_lem inner a (sign ")" ∷ []) ts)
      ∙ closed_by_lem end (token_at at (sign (unary_sign o)) ∷ tree_then names start a more) ts (inside_of names at (One o a))
      (unary_by o at start (body_then names inner a more) more (tree_of names start a)
      (λ max w. tree_by max start (body_then names inner a more) more (inside_of names inner a) (body-read a inner more) w) refl)
  body-read (Two o a b) at ts =
      let first = past (sign "(") at in
      let middle = ending first (body_lexemes names a) in
      let start = past (sign (binary_sign o)) middle in
      let inner = past (sign "(") start in
      let end = ending inner (body_lexemes names b) in
      let more = close end ts in
      let second = token_at middle (sign (binary_sign o)) ∷ tree_then names start b more in
      let all = tree_then names at a second in
      ap (λ us. closed_by up_to ")" (token_at at (sign "(") ∷ us)) (body_then_lem first a (sign (binary_sign o) ∷ sign "(" ∷ (body_lexemes names b ++ (sign ")" ∷ []))) ts)
      ∙ ap (λ us. closed_by up_to ")" (tree_then names at a (token_at middle (sign (binary_sign o)) ∷ token_at start (sign "(") ∷ us))) (body_then_lem inner b (sign ")" ∷ []) ts)
      ∙ closed_by_lem end all ts (inside_of names at (Two o a b))
      (up_to-step loosest all
      ∙ bind_to (operand_of (length all) up_to loosest all) (tree_of names at a, second) (λ (e, us). climb (length all) up_to loosest e us)
      (operand_by_lem (length all) loosest at (body_then names first a second) second (inside_of names first a) (body-read a first second))
      ∙ binary_by o (length all) middle start (body_then names inner b more) more (tree_of names at a) (tree_of names start b) (omega (arith, length-append (laid first (body_lexemes names a)) second))
      (λ max w. tree_by max start (body_then names inner b more) more (inside_of names inner b) (body-read b inner more) w) refl)

  -- with its parentheses, where no operator follows
  pub tree-read : (f : Formula) (max at : ℕ) (ts : Tokens) → infix_of infixes (front ts) ≡ none → up_to max (tree_then names at f ts) ≡ Done (tree_of names at f, ts)
  tree-read f max at ts w = tree_by max at (body_then names (past (sign "(") at) f ts) ts (inside_of names (past (sign "(") at) f) (body-read f (past (sign "(") at) ts) (ap (allowed max) w)

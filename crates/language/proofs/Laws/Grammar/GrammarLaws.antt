-- Laws of the expression reader: it goes about its tokens as ReaderLaws says; more fuel than tokens changes nothing; an accepted expression takes at least one token.
use Rattle.std.specs.Prelude.{ℕ, zero, suc, ◌-◌, ◌≤◌, ◌<◌, [], ◌∷◌, ◌++◌, Bool, true, false, ◌≡◌, refl, eqb, leb, length}
use Rattle.std.proofs.Math.Option.{Option, none, some}
use Rattle.std.proofs.Common.{sym, ap, ◌∙◌, subst, length-append, arith, eqb-true, leb-true}
use Rattle.node.specs.Result.{Done, ◌>>=◌}
use Rattle.node.proofs.ResultLaws.{bind_refused, bind_to}
use Rattle.language.specs.Tokens.{Fixed, Name, Token, code, is_of}
use Rattle.language.specs.Operators.{LeftToRight, RightToLeft, Associativity, InfixRow, infixes, prefixes, bound_level}
use Rattle.language.specs.Tree.{Expr, Truth, Joined}
use Rattle.language.specs.Grammar.{Tokens, Read, front, rest, stop, infix_of, Reader, name_of, operand_by, operand_of, right_level, allowed, climb, expr}
use Rattle.language.proofs.Laws.Basics.Lists.{Any}
use Rattle.language.proofs.Laws.Basics.Tests.{pick, leave, some_none}
use Rattle.language.proofs.Laws.Grammar.TreeTokens.{InExpr}
use Rattle.language.proofs.Laws.Grammar.Lookahead.{alike-front, Begins, Near, alike, opened, more, more-is, more_comm}
use Rattle.language.proofs.Laws.Grammar.ReaderLaws.{Reads, prefixed, transfer, rephrase, weaken, same_answer, free, takes, done}
use Rattle.language.proofs.Laws.Grammar.ReadersInRow.{bind_less, bind_before, bind, none_reads}
use Rattle.language.proofs.Laws.Grammar.TokenReads.{Is, Follows, tighter}
use Rattle.language.proofs.Laws.Grammar.ExprReads.{prefix_none, infix_none, row-inner, truth, nameOf-reads, operandOf-reads}

-- what follows an operand e: nothing, or the operator t of a row
abbrev climbed : ℕ → Reader → ℕ → Expr → Token → Tokens → Option InfixRow → Read Expr
climbed f rec max e t ts o = elim o [ none ↦ Done (e, ts) | some r ↦ rec (right_level r) (rest ts) >>= λ (b, us). climb f rec max (Joined t r.operator e b) us ]

climb-step : (f : ℕ) (rec : Reader) (max : ℕ) (e : Expr) (t : Token) (o : Option InfixRow) (ts : Tokens) → front ts ≡ t → allowed max (infix_of infixes t) ≡ o
    → climb (suc f) rec max e ts ≡ climbed f rec max e t ts o
climb-step f rec max e t o ts z w = ap (λ u. climbed f rec max e u ts (allowed max (infix_of infixes u))) z ∙ ap (climbed f rec max e t ts) w

near_none : (max : ℕ) (ts us : Tokens) → allowed max (infix_of infixes (front ts)) ≡ none → Near (Follows max) ts us → allowed max (infix_of infixes (front us)) ≡ none
near_none max ts us e (alike h) = ap (λ t. allowed max (infix_of infixes t)) (alike-front ts us h) ∙ e
near_none max ts [] e (opened v) = absurd v
near_none max ts (u ∷ us) e (opened v) = v.operator

-- an operator that stands here has a level that may
allowed_level : (max : ℕ) (o : Option InfixRow) (r : InfixRow) → allowed max o ≡ some r → r.level ≤ max
allowed_level max none r e = absurd (some_none (sym e))
allowed_level max (some q) r e = go (leb q.level max) refl
  where
    level : Option InfixRow → ℕ
    level none = 0
    level (some x) = x.level

    go : (c : Bool) → leb q.level max ≡ c → r.level ≤ max
    go true z = let l = leb-true q.level max z in subst (λ m. m ≤ max) (ap level (sym (pick (leb q.level max) (some q) none z) ∙ e)) l
    go false z = absurd (some_none (sym e ∙ leave (leb q.level max) (some q) none z))

right-tighter : (r : InfixRow) → right_level r ≤ r.level
right-tighter r = go r.associativity
  where
    go : (a : Associativity) → (elim a [ LeftToRight ↦ r.level - 1 | RightToLeft ↦ r.level ]) ≤ r.level
    go LeftToRight = omega arith
    go RightToLeft = omega arith

module _
    (P : Token → Type 0)
    (rec : Reader)
    (rec' : ℕ → Reader)
    (n : ℕ)
    (reads : (m b : ℕ) (ts : Tokens) → length ts < n → b ≤ n → Reads Expr P (InExpr P) (Is truth) (Follows m) b 1 ts (rec m ts) (λ k. rec' k m))
  where
    climb-reads : (f max : ℕ) (e : Expr) (ts : Tokens) → f ≤ n → length ts < f
        → Reads Expr P (λ x. InExpr P e → InExpr P x) (Follows max) (Follows max) f 0 ts (climb f rec max e ts) (λ k us. climb (more f k) (rec' k) max e us)
    climb-reads zero max e ts g h = absurd (omega arith)
    climb-reads (suc f) max e ts g h = go ts h (allowed max (infix_of infixes (front ts))) refl (λ b rs. climb-reads f max b rs)
      where
        go : (ts : Tokens) → length ts < suc f → (o : Option InfixRow) → allowed max (infix_of infixes (front ts)) ≡ o →
            ((b : Expr) (rs : Tokens) → f ≤ n → length rs < f → Reads Expr P (λ x. InExpr P b → InExpr P x) (Follows max) (Follows max) f 0 rs (climb f rec max b rs)
            (λ k us. climb (more f k) (rec' k) max b us)) →
            Reads Expr P (λ x. InExpr P e → InExpr P x) (Follows max) (Follows max) (suc f) 0 ts (climb (suc f) rec max e ts) (λ k us. climb (more (suc f) k) (rec' k) max e us)
        go ts h none z later =
            subst (λ r. Reads Expr P (λ x. InExpr P e → InExpr P x) (Follows max) (Follows max) (suc f) 0 ts r (λ k us. climb (more (suc f) k) (rec' k) max e us))
            (sym (climb-step f rec max e (front ts) none ts refl z))
            (transfer (Done (e, ts)) (λ t v. v) (done e (λ v. v)) (λ k us w l. climb-step (more f k) (rec' k) max e (front us) none us refl (near_none max ts us z w)))
        go [] h (some r) z later = absurd (some_none (sym z))
        go (t ∷ ts) h (some r) z later =
            prefixed (λ k us. climb (more (suc f) k) (rec' k) max e us) t _ (row-inner t (allowed max (infix_of infixes t)) r (λ c. ap (allowed max) (infix_none infixes t c)) z) (omega arith)
            (omega arith)
            (rephrase _ (climb-step f rec max e t (some r) (t ∷ ts) refl z) (λ k us. climb-step (more f k) (rec' k) max e t (some r) (t ∷ us) refl z)
            (bind_before (rec (right_level r) ts) (tighter (right_level r) max (omega (arith, right-tighter r, allowed_level max (infix_of infixes t) r z))) _ _
            (reads (right_level r) f ts (omega arith) (omega arith)) λ b rs l.
            weaken _ (omega arith) (omega arith) (λ x q vb vt v. q (vt, v, vb)) (later (Joined t r.operator e b) rs (omega arith) (omega arith))))

-- a name begins an operand
named : (j : ℕ) (r : Reader) (t : Token) (us : Tokens) → is_of Name t ≡ true → operand_of j r bound_level (t ∷ us) ≡ name_of r t us
named j r t us e =
    let not-fixed : is_of Fixed t ≡ false = ap (eqb (code Fixed)) (sym (eqb-true (code Name) (code t.class) e)) in
    ap (λ o. operand_by j r bound_level t o us) (prefix_none prefixes t not-fixed) ∙ pick (is_of Name t) (name_of r t us) _ e

-- of no tokens no expression is read; `true` is one
expr_none : (f max : ℕ) → expr f max [] ≡ stop []
expr_none zero max = refl
expr_none (suc f) max = bind_refused (operand_of f (λ m us. expr f m us) max []) 4 0 _ refl

expr-truth : (f max : ℕ) (us : Tokens) → Begins (Follows max) us → suc (length us) < f → expr f max (truth ∷ us) ≡ Done (Truth truth true, us)
expr-truth zero max us w l = absurd (omega arith)
expr-truth (suc zero) max us w l = absurd (omega arith)
expr-truth (suc (suc f)) max [] w l = absurd w
expr-truth (suc (suc f)) max (u ∷ us) w l =
    let rec : Reader = λ m us. expr (suc f) m us in
    bind_to (operand_of (suc f) rec max (truth ∷ u ∷ us)) (Truth truth true, u ∷ us) (λ (e, vs). climb (suc f) rec max e vs) refl ∙ climb-step f rec max (Truth truth true) u none (u ∷ us) refl
    w.operator

-- the law of expressions with a fuel, and of those that begin with a name, seen from behind it
record ExprLaw (P : Token → Type 0) (f : ℕ) : Type 0 where
  main : (max b : ℕ) (ts : Tokens) → length ts < f → b ≤ f → Reads Expr P (InExpr P) (Is truth) (Follows max) b 1 ts (expr f max ts) (λ k. expr (more f k) max)
  names : (t : Token) → is_of Name t ≡ true → (b : ℕ) (ts : Tokens) → suc (length ts) < f → suc b ≤ f
      → Reads Expr P (λ e. P t → InExpr P e) (Follows bound_level) (Follows bound_level) b 0 ts (expr f bound_level (t ∷ ts)) (λ k us. expr (more f k) bound_level (t ∷ us))

expr-reads : (P : Token → Type 0) (f : ℕ) → ExprLaw P f
expr-reads P zero = record { main = λ max b ts h g. absurd (omega arith); names = λ t i b ts h g. absurd (omega arith) }
expr-reads P (suc f) = go (expr-reads P f)
  where
    rec : Reader
    rec m us = expr f m us

    rec' : ℕ → Reader
    rec' k m us = expr (more f k) m us

    go : ExprLaw P f → ExprLaw P (suc f)
    go ih = record { main = main; names = names }
      where
        main : (max b : ℕ) (ts : Tokens) → length ts < suc f → b ≤ suc f → Reads Expr P (InExpr P) (Is truth) (Follows max) b 1 ts (expr (suc f) max ts) (λ k. expr (more (suc f) k) max)
        main max b [] h g =
            subst (λ r. Reads Expr P (InExpr P) (Is truth) (Follows max) b 1 [] r (λ k. expr (more (suc f) k) max)) (sym (expr_none (suc f) max))
            (none_reads [] (omega arith) (λ k l. expr_none (more (suc f) k) max)
            (record {
              ending = truth ∷ [];
              value = Truth truth true;
              enough = omega arith;
              accepted = λ k us w l. expr-truth (more (suc f) k) max us w (omega (arith, more-is f k));
              opens = λ us w.
                  opened refl;
            }))
        main max b (t ∷ ts) h g =
            weaken _ g (omega arith) (λ a q. q)
            (bind_less {b' = f} (operand_of f rec max (t ∷ ts)) (omega arith) (λ t v. v) _ _ (operandOf-reads P rec rec' f ih.main ih.names f max (t ∷ ts) (omega arith) (omega arith)) λ e rs l.
            climb-reads P rec rec' f ih.main f max e rs (omega arith) (omega arith))

        names : (t : Token) → is_of Name t ≡ true → (b : ℕ) (ts : Tokens) → suc (length ts) < suc f → suc b ≤ suc f
            → Reads Expr P (λ e. P t → InExpr P e) (Follows bound_level) (Follows bound_level) b 0 ts (expr (suc f) bound_level (t ∷ ts)) (λ k us. expr (more (suc f) k) bound_level (t ∷ us))
        names t i b ts h g =
            rephrase _ (ap (λ r. r >>= λ (e, us). climb f rec bound_level e us) (named f rec t ts i)) (λ k us. ap (λ r. r >>= λ (e, vs). climb (more f k) (rec' k) bound_level e vs) (named (more f k) (rec' k) t us i))
            (bind (name_of rec t ts) _ _ (nameOf-reads P rec rec' f ih.main ih.names bound_level b t ts (omega arith) (omega arith)) λ e rs l.
            weaken _ (omega arith) (omega arith) (λ x q v w. q (v w)) (climb-reads P rec rec' f ih.main f bound_level e rs (omega arith) (omega arith)))

-- any two fuels above the number of tokens give the same answer
pub expr_fuel : (f g max : ℕ) (ts : Tokens) → length ts < f → length ts < g → expr f max ts ≡ expr g max ts
expr_fuel f g max ts h l =
    sym (same_answer (expr f max ts) ((expr-reads Any f).main max f ts h (omega arith)) g (omega arith)) ∙ ap (λ j. expr j max ts) (more_comm f g)
    ∙ same_answer (expr g max ts) ((expr-reads Any g).main max g ts l (omega arith)) f (omega arith)

-- an expression whose operators have levels up to `max`, with fuel that is enough
abbrev pub up_to : Reader
up_to max ts = expr (suc (length ts)) max ts

pub up_to-reads : (P : Token → Type 0) (f max b : ℕ) (ts : Tokens) → length ts < f → Reads Expr P (InExpr P) (Is truth) (Follows max) b 1 ts (expr f max ts) (λ k us. up_to max us)
up_to-reads P f max b ts h =
    free (up_to max) (expr f max ts) ((expr-reads P f).main max f ts h (omega arith)) (λ k us l. expr_fuel (suc (length us)) (more f k) max us (omega arith) (omega (arith, more-is f k)))

up_to-names : (P : Token → Type 0) (f : ℕ) (t : Token) → is_of Name t ≡ true → (b : ℕ) (ts : Tokens) → suc (length ts) < f
    → Reads Expr P (λ e. P t → InExpr P e) (Follows bound_level) (Follows bound_level) b 0 ts (expr f bound_level (t ∷ ts)) (λ k us. up_to bound_level (t ∷ us))
up_to-names P f t i b ts h =
    free (λ us. up_to bound_level (t ∷ us)) (expr f bound_level (t ∷ ts)) ((expr-reads P f).names t i (f - 1) ts h (omega arith))
    (λ k us l. expr_fuel (suc (suc (length us))) (more f k) bound_level (t ∷ us) (omega arith) (omega (arith, more-is f k)))

-- an accepted expression takes at least one token, and those it takes stand at the front
pub up_to-takes : (max : ℕ) (ts : Tokens) (e : Expr) (rs : Tokens) → up_to max ts ≡ Done (e, rs) → (t : Token) × (us : Tokens) × (ts ≡ t ∷ (us ++ rs))
up_to-takes max ts e rs z = let s = takes (up_to max ts) e rs z (up_to-reads Any (suc (length ts)) max 0 ts (omega arith)) in go s.0 s.1 s.2
  where
    go : (us : Tokens) → ts ≡ us ++ rs → 1 ≤ length us → (t : Token) × (vs : Tokens) × (ts ≡ t ∷ (vs ++ rs))
    go [] w l = absurd (omega arith)
    go (u ∷ us) w l = (u, us, w)

-- so does an accepted operand
pub up_to-operand : (max : ℕ) (ts : Tokens) (e : Expr) (us : Tokens) → operand_of (length ts) up_to max ts ≡ Done (e, us) → length us < length ts
up_to-operand max ts e us z =
    let n = length ts in
    let s =
    takes (operand_of n up_to max ts) e us z
    (operandOf-reads Any up_to (λ k. up_to) n (λ m b vs l g. up_to-reads Any (suc (length vs)) m b vs (omega arith)) (λ t i b vs l g. up_to-names Any (suc (suc (length vs))) t i b vs (omega arith)) n max
    ts (omega arith) (omega arith)) in
    let l = s.2 in
    omega (arith, ap length s.1, length-append s.0 us)

-- the grammar's equation, with no fuel but the number of tokens
pub up_to-step : (max : ℕ) (ts : Tokens) → up_to max ts ≡ (operand_of (length ts) up_to max ts >>= λ (e, us). climb (length ts) up_to max e us)
up_to-step max [] = expr_none 1 max ∙ sym (bind_refused (operand_of 0 up_to max []) 4 0 _ refl)
up_to-step max (t ∷ ts) =
    let n = suc (length ts) in
    let rec : Reader = λ m us. expr n m us in
    let reads : (m b : ℕ) (us : Tokens) → length us < n → b ≤ n → Reads Expr Any (InExpr Any) (Is truth) (Follows m) b 1 us (rec m us) (λ k. up_to m) = λ m b us h _. up_to-reads Any n m b us h in
    let h =
    bind_less {b' = n} {Q' = InExpr Any} (operand_of n rec max (t ∷ ts)) (omega arith) (λ t v. v) (λ (e, us). climb n rec max e us) (λ k (e, us). climb (more n k) up_to max e us)
    (operandOf-reads Any rec (λ k. up_to) n reads (λ t i b us h _. up_to-names Any n t i b us h) n max (t ∷ ts) (omega arith) (omega arith))
    (λ e rs l. climb-reads Any rec (λ k. up_to) n reads n max e rs (omega arith) (omega arith)) in
    let same : more n 0 ≡ n = omega (arith, more-is n 0) in
    sym (same_answer (up_to max (t ∷ ts)) h 0 (omega arith)) ∙ ap (λ j. operand_of j up_to max (t ∷ ts) >>= λ (e, us). climb j up_to max e us) same

-- The equations of the reader of expressions: one operand, then operators. No fuel shows.
use Rattle.std.specs.Prelude.{ℕ, zero, suc, ◌≤◌, ◌<◌, List, [], ◌∷◌, Bool, true, ◌&&◌, ◌≡◌, refl, leb, ltb, length}
use Rattle.std.proofs.Common.{arith, sym, ap, ◌∙◌, ltb-true, length-append}
use Rattle.std.proofs.Math.Option.{Option, none, some}
use Rattle.std.proofs.lemmas.Bool.{lt-leb}
use Rattle.node.specs.Result.{Done, ◌>>=◌}
use Rattle.node.proofs.ResultLaws.{bind_where}
use Rattle.language.specs.Tokens.{Token}
use Rattle.language.specs.Operators.{InfixRow, infixes}
use Rattle.language.specs.Tree.{Expr, Joined}
use Rattle.language.specs.Grammar.{Tokens, Read, front, rest, named, infix_of, right_level, allowed, operand_of, climb}
use Rattle.language.proofs.Laws.Basics.Tests.{split, leave, and_left, and_right}
use Rattle.language.proofs.Laws.Grammar.GrammarLaws.{up_to, up_to-takes, up_to-operand, up_to-step}
use Rattle.operators.specs.Readers.{reads, climbs, infix_row, operator_at, operator_in}

-- an accepted expression takes a token
pub reads-takes : (max : ℕ) (ts : Tokens) (e : Expr) (us : Tokens) → reads max ts ≡ Done (e, us) → length us < length ts
unfolding reads
reads-takes max ts e us h =
    let k = up_to-takes max ts e us h in
    omega (arith, ap length k.2, length-append k.1 us)

pub rest-fits : (ts : Tokens) → length (rest ts) ≤ length ts
rest-fits [] = omega arith
rest-fits (t ∷ ts) = omega arith

-- what follows an operand e
abbrev climb_by : ℕ → ℕ → Expr → Token → Option InfixRow → Tokens → Read Expr
climb_by f max e t none ts = Done (e, ts)
climb_by f max e t (some r) ts = reads (right_level r) (rest ts) >>= λ (b, us). climb f reads max (Joined t r.operator e b) us

climb_by_lem : (f max : ℕ) (e : Expr) (t : Token) (ts : Tokens) (o : Option InfixRow)
    → ◌≡◌ {A = Read Expr} (elim o [ none ↦ Done (e, ts) | some r ↦ reads (right_level r) (rest ts) >>= λ (b, us). climb f reads max (Joined t r.operator e b) us ]) (climb_by f max e t o ts)
climb_by_lem f max e t ts none = refl
climb_by_lem f max e t ts (some r) = refl

climb-step : (f max : ℕ) (e : Expr) (ts : Tokens) → climb (suc f) reads max e ts ≡ climb_by f max e (front ts) (allowed max (infix_of infixes (front ts))) ts
climb-step f max e ts = climb_by_lem f max e (front ts) ts (allowed max (infix_of infixes (front ts)))

climb_fuel : (f g max : ℕ) (e : Expr) (ts : Tokens) → length ts < f → length ts < g → climb f reads max e ts ≡ climb g reads max e ts
climb_fuel zero g max e ts h l = absurd (omega arith)
climb_fuel (suc f) zero max e ts h l = absurd (omega arith)
climb_fuel (suc f) (suc g) max e ts h l =
    climb-step f max e ts
    ∙ go (allowed max (infix_of infixes (front ts))) (λ a us k. let m = rest-fits ts in climb_fuel f g max a us (omega arith) (omega arith)) ∙ sym (climb-step g max e ts)
  where
    go : (o : Option InfixRow) → ((a : Expr) (us : Tokens) → length us < length (rest ts) → climb f reads max a us ≡ climb g reads max a us)
        → climb_by f max e (front ts) o ts ≡ climb_by g max e (front ts) o ts
    go none later = refl
    go (some r) later =
        bind_where (reads (right_level r) (rest ts)) _ _ (λ (b, us) z. later (Joined (front ts) r.operator e b) us (reads-takes (right_level r) (rest ts) b us z))

climbs_by : (max : ℕ) (e : Expr) (ts : Tokens) (o : Option InfixRow) → allowed max (infix_row (front ts)) ≡ o → climbs max e ts ≡ climb_by (length ts) max e (front ts) o ts
unfolding climbs infix_row
climbs_by max e ts o h = climb-step (length ts) max e ts ∙ ap (λ p. climb_by (length ts) max e (front ts) p ts) h

-- no operator follows
pub climbs-stop : (max : ℕ) (e : Expr) (ts : Tokens) → allowed max (infix_row (front ts)) ≡ none → climbs max e ts ≡ Done (e, ts)
climbs-stop max e ts h = climbs_by max e ts none h

-- at level 0 none does: Table 1 begins at level 1, with operators before their operand
positive : List InfixRow → Bool
positive [] = true
positive (r ∷ rs) = ltb 0 r.level && positive rs

none_at_zero : (rs : List InfixRow) (t : Token) → positive rs ≡ true → allowed 0 (infix_of rs t) ≡ none
unfolding positive
none_at_zero [] t h = refl
none_at_zero (r ∷ rs) t h =
    split (λ o. allowed 0 o ≡ none) (named r.names t)
    (λ _. leave (leb r.level 0) (some r) none (lt-leb r.level 0 (ltb-true 0 r.level (and_left (ltb 0 r.level) (positive rs) h))))
    (λ _. none_at_zero rs t (and_right (ltb 0 r.level) (positive rs) h))

pub climbs-zero : (e : Expr) (ts : Tokens) → climbs 0 e ts ≡ Done (e, ts)
unfolding infix_row positive
climbs-zero e ts = climbs-stop 0 e ts (none_at_zero infixes (front ts) refl)

-- an operator follows
pub climbs_on : (max : ℕ) (e : Expr) (ts : Tokens) (r : InfixRow) → allowed max (infix_row (front ts)) ≡ some r → infix_row (front ts) ≡ some r
    → climbs max e ts ≡ (reads (right_level r) (rest ts) >>= λ (b, us). climbs max (Joined (front ts) (operator_at (front ts)) e b) us)
unfolding climbs operator_at
climbs_on max e ts r h i =
    climbs_by max e ts (some r) h
    ∙ bind_where (reads (right_level r) (rest ts)) _ _
    (λ (b, us) z.
    let k = reads-takes (right_level r) (rest ts) b us z in
    let m = rest-fits ts in
    climb_fuel (length ts) (suc (length us)) max (Joined (front ts) r.operator e b) us (omega arith) (omega arith)
    ∙ ap (λ o. climb (suc (length us)) reads max (Joined (front ts) (operator_in o) e b) us) (sym i))

-- an operand, then the operators
operand-takes : (max : ℕ) (ts : Tokens) (e : Expr) (us : Tokens) → operand_of (length ts) reads max ts ≡ Done (e, us) → length us < length ts
unfolding reads
operand-takes max ts e us z = up_to-operand max ts e us z

pub reads-step : (max : ℕ) (ts : Tokens) → reads max ts ≡ (operand_of (length ts) reads max ts >>= λ (e, us). climbs max e us)
unfolding reads climbs
reads-step max ts =
    up_to-step max ts
    ∙ bind_where (operand_of (length ts) up_to max ts) _ _ (λ (e, us) z. climb_fuel (length ts) (suc (length us)) max e us (operand-takes max ts e us z) (omega arith))

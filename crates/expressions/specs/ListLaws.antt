-- The equations of a set's elements and of a big operator's names. No fuel shows.
use Rattle.std.specs.Prelude.{ℕ, zero, suc, ◌<◌, Bool, true, false, ◌≡◌, refl, length}
use Rattle.std.proofs.Common.{arith, sym, ap, ◌∙◌}
use Rattle.node.specs.Result.{Result, Done, ◌>>=◌}
use Rattle.node.proofs.ResultLaws.{bind_again, bind_at, bind_where}
use Rattle.language.specs.Operators.{loosest}
use Rattle.language.specs.Tree.{Expr, Empty, Element}
use Rattle.language.specs.Grammar.{Tokens, Read, rest, next, expect, elements}
use Rattle.language.proofs.Laws.Basics.Tests.{pick, leave}
use Rattle.operators.specs.Readers.{reads, elements_from, listed}
use Rattle.expressions.specs.ReaderLaws.{reads-takes, rest-fits}

-- the elements of a set from y on, and `}` behind them
pub elements-listed : {B : Type 0} (f g : ℕ) (y : Expr) (H : Expr → Tokens → Result B) (ts : Tokens) → length ts < f → length ts < g
    → (elements f reads ts >>= λ (es, us). H (Element y es) us) ≡ (elements_from g y ts >>= λ (l, us). expect "}" us >>= λ (c, vs). H l vs)
elements-listed zero g y H ts h l = absurd (omega arith)
elements-listed (suc f) zero y H ts h l = absurd (omega arith)
elements-listed (suc f) (suc g) y H ts h l =
    go (next "," ts) (λ x us k. let m = rest-fits ts in elements-listed f g x (λ t vs. H (Element y t) vs) us (omega arith) (omega arith))
  where
    go : (b : Bool) → ((x : Expr) (us : Tokens) → length us < length (rest ts)
        → (elements f reads us >>= λ (es, vs). H (Element y (Element x es)) vs) ≡ (elements_from g x us >>= λ (t, vs). expect "}" vs >>= λ (c, xs). H (Element y t) xs))
        → (elim b [ true ↦ reads loosest (rest ts) >>= λ (x, us). elements f reads us >>= λ (es, vs). Done (Element x es, vs) | false ↦ expect "}" ts >>= λ (c, us). Done (Empty, us) ] >>= λ (es, us).
        H (Element y es) us)
        ≡ (elim b [ true ↦ reads loosest (rest ts) >>= λ (x, us). elements_from g x us >>= λ (es, vs). Done (Element y es, vs) | false ↦ Done (Element y Empty, ts) ] >>= λ (t, us). expect "}" us >>= λ
        (c, vs). H t vs)
    go true later =
        bind_again (reads loosest (rest ts)) _ _
        ∙ bind_where (reads loosest (rest ts)) _ _
        (λ (x, us) z.
        bind_again (elements f reads us) _ _ ∙ bind_where (elements f reads us) _ _ (λ (es, vs) _. bind_at (Element x es, vs) _)
        ∙ later x us (reads-takes loosest (rest ts) x us z)
        ∙ bind_where (elements_from g x us) _ _ (λ (es, vs) _. sym (bind_at (Element y es, vs) _)) ∙ sym (bind_again (elements_from g x us) _ _))
        ∙ sym (bind_again (reads loosest (rest ts)) _ _)
    go false later = bind_again (expect "}" ts) _ _ ∙ bind_where (expect "}" ts) _ _ (λ (c, us) _. bind_at (Empty, us) _) ∙ sym (bind_at (Element y Empty, ts) _)

elements_fuel : (f g : ℕ) (e : Expr) (ts : Tokens) → length ts < f → length ts < g → elements_from f e ts ≡ elements_from g e ts
elements_fuel zero g e ts h l = absurd (omega arith)
elements_fuel (suc f) zero e ts h l = absurd (omega arith)
elements_fuel (suc f) (suc g) e ts h l = go (next "," ts) (λ x us k. let m = rest-fits ts in elements_fuel f g x us (omega arith) (omega arith))
  where
    go : (b : Bool) → ((x : Expr) (us : Tokens) → length us < length (rest ts) → elements_from f x us ≡ elements_from g x us)
        → ◌≡◌ {A = Read Expr} (elim b [ true ↦ reads loosest (rest ts) >>= λ (x, us). elements_from f x us >>= λ (es, vs). Done (Element e es, vs) | false ↦ Done (Element e Empty, ts) ])
        (elim b [ true ↦ reads loosest (rest ts) >>= λ (x, us). elements_from g x us >>= λ (es, vs). Done (Element e es, vs) | false ↦ Done (Element e Empty, ts) ])
    go true later =
        bind_where (reads loosest (rest ts)) _ _ (λ (x, us) z. ap (λ (r : Read Expr). r >>= λ (es, vs). Done (Element e es, vs)) (later x us (reads-takes loosest (rest ts) x us z)))
    go false later = refl

pub listed_more : (e : Expr) (ts : Tokens) → next "," ts ≡ true → listed e ts ≡ (reads loosest (rest ts) >>= λ (x, us). listed x us >>= λ (es, vs). Done (Element e es, vs))
unfolding listed
listed_more e ts h =
    pick (next "," ts) _ _ h
    ∙ bind_where (reads loosest (rest ts)) _ _
    (λ (x, us) z.
    let k = reads-takes loosest (rest ts) x us z in
    let m = rest-fits ts in
    ap (λ (r : Read Expr). r >>= λ (es, vs). Done (Element e es, vs)) (elements_fuel (length ts) (suc (length us)) x us (omega arith) (omega arith)))

pub listed-end : (e : Expr) (ts : Tokens) → next "," ts ≡ false → listed e ts ≡ Done (Element e Empty, ts)
unfolding listed
listed-end e ts h = leave (next "," ts) _ _ h

-- The equations of a big operator's names: one name, then further ones or the operand. No fuel shows.
use Rattle.std.specs.Prelude.{ℕ, zero, suc, ◌≤◌, ◌<◌, List, [], ◌∷◌, Bool, true, false, ◌&&◌, ◌≡◌, refl, eqb, length}
use Rattle.std.proofs.Common.{arith, sym, ap, ◌∙◌}
use Rattle.node.specs.Result.{Done, ◌>>=◌}
use Rattle.node.proofs.ResultLaws.{not_done, bind_again, bind_at, bind_where}
use Rattle.node.proofs.ResultLaws as Results
use Rattle.language.specs.Tokens.{Class, Name, Token, is_of}
use Rattle.language.specs.Operators.{loosest, bound_level}
use Rattle.language.specs.Tree.{Expr, Each}
use Rattle.language.specs.Grammar.{Tokens, Read, front, rest, stop, next, named, expect, expect_of, Binder, sign_of, binder_of, binders_of, over}
use Rattle.language.proofs.Laws.Basics.Tests.{split}
use Rattle.operators.specs.Readers.{reads, climbs, big_of, role_at, level_at, folds}
use Rattle.expressions.specs.ReaderLaws.{reads-takes, rest-fits, climbs-zero}
use Rattle.expressions.specs.Frames.{after_binder}

-- what is left of an accepted answer is no longer than ts
abbrev Shortens : {A : Type 0} → ℕ → Read A → Type 0
Shortens {A} n r = (a : A) (us : Tokens) → r ≡ Done (a, us) → length us ≤ n

then_shorter : {A B : Type 0} {m n : ℕ} (r : Read A) (K : A × Tokens → Read B) → Shortens m r → ((a : A) (us : Tokens) → length us ≤ m → Shortens n (K (a, us))) → Shortens n (r >>= K)
then_shorter r K h g b vs e =
    let d = Results.bind_done r K e in
    g d.0.0 d.0.1 (h d.0.0 d.0.1 d.1) b vs d.2

done_shorter : {A : Type 0} {n : ℕ} (a : A) (us : Tokens) → length us ≤ n → Shortens n (Done (a, us))
done_shorter {A = A} a us l b vs e = let same : ◌≡◌ {A = A × Tokens} (a, us) (b, vs) = cc in omega (arith, ap (λ (p : A × Tokens). length p.1) same)

stop_shorter : {A : Type 0} {n : ℕ} (ts : Tokens) → Shortens {A = A} n (stop ts)
stop_shorter ts b vs e = absurd (not_done e)

expect_shorter : (k : Class) (ts : Tokens) → Shortens (length ts) (expect_of k ts)
expect_shorter k ts = split (Shortens (length ts)) (is_of k (front ts)) (λ _. done_shorter (front ts) (rest ts) (rest-fits ts)) (λ _. stop_shorter ts)

sign_shorter : (ts : Tokens) → Shortens (length ts) (sign_of ts)
sign_shorter ts =
    split (Shortens (length ts)) (named ("<" ∷ "LE" ∷ []) (front ts)) (λ _. done_shorter _ (rest ts) (rest-fits ts))
    (λ _. split (Shortens (length ts)) (named ("<=" ∷ "LEQ" ∷ []) (front ts)) (λ _. done_shorter _ (rest ts) (rest-fits ts)) (λ _. stop_shorter ts))

reads_shorter : (max n : ℕ) (ts : Tokens) → length ts ≤ suc n → Shortens n (reads max ts)
reads_shorter max n ts l e us z = let k = reads-takes max ts e us z in omega arith

binder_shorter : (n : ℕ) (ts : Tokens) → length ts ≤ suc n → Shortens n (binder_of reads ts)
binder_shorter n ts l =
    split (Shortens n) (is_of Name (front ts) && named ("IN" ∷ "ELEM" ∷ "<-" ∷ []) (front (rest ts)))
    (λ _. then_shorter (expect_of Name ts) _ (expect_shorter Name ts) λ i us a.
    let r = rest-fits us in
    then_shorter (reads loosest (rest us)) _ (reads_shorter loosest n (rest us) (omega arith)) λ s vs b. done_shorter _ vs b)
    (λ _. then_shorter (reads bound_level ts) _ (reads_shorter bound_level n ts l) λ a us h.
    then_shorter (sign_of us) _ (sign_shorter us) λ low vs j.
    then_shorter (expect_of Name vs) _ (expect_shorter Name vs) λ i xs k.
    then_shorter (sign_of xs) _ (sign_shorter xs) λ high ys m.
    then_shorter (reads bound_level ys) _ (reads_shorter bound_level n ys (omega arith)) λ b zs o. done_shorter _ zs o)

binder-takes : (ts : Tokens) (b : Binder) (us : Tokens) → binder_of reads ts ≡ Done (b, us) → length us < length ts
binder-takes [] b us z = let d = Results.bind_done (reads bound_level []) _ z in let k = reads-takes bound_level [] d.0.0 d.0.1 d.1 in absurd (omega arith)
binder-takes (t ∷ ts) b us z = let k = binder_shorter (length ts) (t ∷ ts) (omega arith) b us z in omega arith

pub binders_fuel : (f g : ℕ) (ts : Tokens) → length ts < f → length ts < g → binders_of f reads ts ≡ binders_of g reads ts
binders_fuel zero g ts h l = absurd (omega arith)
binders_fuel (suc f) zero ts h l = absurd (omega arith)
binders_fuel (suc f) (suc g) ts h l =
    bind_where (binder_of reads ts) _ _
    (λ (b, us) z.
    let k = binder-takes ts b us z in
    let m = rest-fits us in
    go b us (next "," us) (binders_fuel f g (rest us) (omega arith) (omega arith)))
  where
    go : (b : Binder) (us : Tokens) (c : Bool) → binders_of f reads (rest us) ≡ binders_of g reads (rest us)
        → ◌≡◌ {A = Read (List Binder)} (elim c [ true ↦ binders_of f reads (rest us) >>= λ (bs, vs). Done (b ∷ bs, vs) | false ↦ expect "]" us >>= λ (d, vs). Done (b ∷ [], vs) ])
        (elim c [ true ↦ binders_of g reads (rest us) >>= λ (bs, vs). Done (b ∷ bs, vs) | false ↦ expect "]" us >>= λ (d, vs). Done (b ∷ [], vs) ])
    go b us true e = ap (λ (r : Read (List Binder)). r >>= λ (bs, vs). Done (b ∷ bs, vs)) e
    go b us false e = refl

pub folds-step : (max : ℕ) (t : Token) (ts : Tokens) → folds max t ts ≡ (binder_of reads ts >>= λ (b, us). after_binder max t b us)
unfolding folds
folds-step max t ts =
    bind_again (binder_of reads ts) _ _
    ∙ bind_where (binder_of reads ts) _ _
    (λ (b, us) z.
    let k = binder-takes ts b us z in
    let m = rest-fits us in
    go b us (next "," us) (binders_fuel (length ts) (suc (length (rest us))) (rest us) (omega arith) (omega arith)))
  where
    go : (b : Binder) (us : Tokens) (c : Bool) → binders_of (length ts) reads (rest us) ≡ binders_of (suc (length (rest us))) reads (rest us)
        → (elim c [ true ↦ binders_of (length ts) reads (rest us) >>= λ (bs, vs). Done (b ∷ bs, vs) | false ↦ expect "]" us >>= λ (d, vs). Done (b ∷ [], vs) ] >>= λ (bs, vs). reads (level_at t) vs >>=
        λ (e, xs). climbs max (over t (big_of (role_at t)) (eqb max 0) bs e) xs)
        ≡ elim c [
          | true ↦ (binders_of (suc (length (rest us))) reads (rest us) >>= λ (bs, vs). reads (level_at t) vs >>= λ (e, xs). climbs 0 (over t (big_of (role_at t)) true bs e) xs) >>= λ (e, vs). climbs max
              (Each t (big_of (role_at t)) (eqb max 0) b.name b.range e) vs
          | false ↦ expect "]" us >>= λ (d, vs). reads (level_at t) vs >>= λ (e, xs). climbs max (Each t (big_of (role_at t)) (eqb max 0) b.name b.range e) xs
        ]
    go b us true e =
        bind_again (binders_of (length ts) reads (rest us)) _ _
        ∙ bind_where (binders_of (length ts) reads (rest us)) _ _
        (λ (bs, vs) _.
        bind_at (b ∷ bs, vs) _
        ∙ bind_where (reads (level_at t) vs) _ _ (λ (x, xs) _. sym (bind_at (over t (big_of (role_at t)) true bs x, xs) _) ∙ ap
        (λ (r : Read Expr). r >>= λ (y, ys). climbs max (Each t (big_of (role_at t)) (eqb max 0) b.name b.range y) ys) (sym (climbs-zero (over t (big_of (role_at t)) true bs x) xs)))
        ∙ sym (bind_again (reads (level_at t) vs) _ _))
        ∙ ap (λ (r : Read (List Binder)). r >>= λ (bs, vs). (reads (level_at t) vs >>= λ (x, xs). climbs 0 (over t (big_of (role_at t)) true bs x) xs) >>= λ (y, ys). climbs max
        (Each t (big_of (role_at t)) (eqb max 0) b.name b.range y) ys) e
        ∙ sym (bind_again (binders_of (suc (length (rest us))) reads (rest us)) _ _)
    go b us false e = bind_again (expect "]" us) _ _ ∙ bind_where (expect "]" us) _ _ (λ (c, vs) _. bind_at (b ∷ [], vs) _)

-- The levels of an expression are the most that operands nested in it make with it; so 5 is refused where there are too many, at the first such expression.
use Rattle.std.specs.Prelude.{ℕ, zero, suc, ◌+◌, max, ◌≤◌, ◌≡◌, refl, Bool, true, false, List, [], ◌∷◌, leb}
use Rattle.std.proofs.Common.{sym, ◌∙◌, subst, inl, inr, ⊎_elim, arith, leb-true, leb-false}
use Rattle.language.specs.Limits.{max_levels}
use Rattle.language.specs.Tree.{
  Expr,
  Named,
  Numeral,
  Truth,
  Index,
  Paren,
  Prefixed,
  Joined,
  Nexts,
  InWindow,
  Each,
  Between,
  Listed,
  Empty,
  Element,
  Range,
  Defined,
  Enumerated,
  OneSignal,
  OfWidth,
  OfType,
}
use Rattle.language.specs.Places.{start, levels, TextLine, ParameterLine, DefinitionLine, DeclarationLine, FormulaLine, deep, deep_line}
use Rattle.language.proofs.Laws.Basics.Lists.{All}
use Rattle.refusal_laws.specs.Refusals.{Among, FirstPlace, expressions, operands, own_level, Nested, Deep}
use Rattle.refusal_laws.proofs.Places.{nowhere, same-places, unless-place}

abbrev highest : List Expr → ℕ
highest [] = 0
highest (e ∷ es) = max (levels e) (highest es)

levels-own : (e : Expr) → levels e ≡ own_level e + highest (operands e)
levels-own (Named t) = refl
levels-own (Numeral t) = refl
levels-own (Truth t b) = refl
levels-own (Index t e) = omega arith
levels-own (Paren t e) = omega arith
levels-own (Prefixed t o e) = omega arith
levels-own (Joined t o a b) = omega arith
levels-own (Nexts t n e) = omega arith
levels-own (InWindow t o n m e) = omega arith
levels-own (Each t o false i s e) = omega arith
levels-own (Each t o true i s e) = omega arith
levels-own (Between t l h a b) = omega arith
levels-own (Listed t es) = omega arith
levels-own Empty = refl
levels-own (Element e es) = omega arith
levels-own (Range t x y z) = omega arith

-- no nest makes more
inner_below : (m : ℕ) (P : Expr → Type 0) → ((f : Expr) → P f → m ≤ levels f) → (es : List Expr) → Among P es → m ≤ highest es
inner_below m P below [] s = absurd s
inner_below m P below (f ∷ es) s = ⊎_elim (λ g. let b = below f g in omega arith) (λ s. let b = inner_below m P below es s in omega arith) s

nested-below : (k : ℕ) (e : Expr) (n : ℕ) → Nested k e n → n ≤ levels e
nested-below zero e n h = let l = levels-own e in omega (arith, h)
nested-below (suc k) e n h =
    let l = levels-own e in
    let m = inner_below h.0 (λ f. Nested k f h.0) (λ f g. nested-below k f h.0 g) (operands e) h.1 in
    omega (arith, h.2)

-- and one makes as many
record Reached (e : Expr) : Type 0 where
  steps : ℕ
  nested : Nested steps e (levels e)

record Deepest (es : List Expr) : Type 0 where
  steps : ℕ
  one : Among (λ f. Nested steps f (highest es)) es

deeper : (f : Expr) (es : List Expr) → Reached f → Deepest es → Deepest (f ∷ es)
deeper f es r d = go (leb (highest es) (levels f)) refl
  where
    go : (b : Bool) → leb (highest es) (levels f) ≡ b → Deepest (f ∷ es)
    go true e = let l = leb-true (highest es) (levels f) e in record { steps = r.steps; one = inl (subst (Nested r.steps f) (omega arith) r.nested) }
    go false e =
        let l = leb-false (highest es) (levels f) e in
        record { steps = d.steps; one = inr (subst (λ n. Among (λ g. Nested d.steps g n) es) (omega arith) d.one) }

deepest : (f : Expr) (es : List Expr) → All Reached (f ∷ es) → Deepest (f ∷ es)
deepest f [] h = record { steps = h.0.steps; one = inl (subst (Nested h.0.steps f) (omega arith) h.0.nested) }
deepest f (g ∷ es) h = deeper f (g ∷ es) h.0 (deepest g es h.1)

attained : (e : Expr) → All Reached (operands e) → Reached e
attained e h = go (operands e) refl h
  where
    go : (es : List Expr) → operands e ≡ es → All Reached es → Reached e
    go [] same h = record { steps = zero; nested = levels-own e ∙ subst (λ (l : List Expr). own_level e + highest l ≡ own_level e) (sym same) (omega arith) }
    go (f ∷ es) same h =
        let d = subst Deepest (sym same) (deepest f es h) in
        record { steps = suc d.steps; nested = (highest (operands e), d.one, levels-own e) }

reached : (e : Expr) → Reached e
reached (Named t) = attained (Named t) tt
reached (Numeral t) = attained (Numeral t) tt
reached (Truth t b) = attained (Truth t b) tt
reached (Index t e) = attained (Index t e) (reached e, tt)
reached (Paren t e) = attained (Paren t e) (reached e, tt)
reached (Prefixed t o e) = attained (Prefixed t o e) (reached e, tt)
reached (Joined t o a b) = attained (Joined t o a b) (reached a, (reached b, tt))
reached (Nexts t n e) = attained (Nexts t n e) (reached n, (reached e, tt))
reached (InWindow t o n m e) = attained (InWindow t o n m e) (reached n, (reached m, (reached e, tt)))
reached (Each t o further i s e) = attained (Each t o further i s e) (reached s, (reached e, tt))
reached (Between t l h a b) = attained (Between t l h a b) (reached a, (reached b, tt))
reached (Listed t es) = attained (Listed t es) (reached es, tt)
reached Empty = attained Empty tt
reached (Element e es) = attained (Element e es) (reached e, (reached es, tt))
reached (Range t x y z) = attained (Range t x y z) (reached x, (reached y, (reached z, tt)))

-- the levels of an expression are the most that a nest in it makes
pub levels-most : (e : Expr) → ((k : ℕ) × Nested k e (levels e)) × ((k n : ℕ) → Nested k e n → n ≤ levels e)
levels-most e = (((reached e).steps, (reached e).nested), λ k n h. nested-below k e n h)

deep-first : (e : Expr) → FirstPlace (λ p. Deep e × (p ≡ start e)) (deep e)
deep-first e =
    unless-place (leb (levels e) max_levels) (start e)
    (λ b d. let l = leb-true (levels e) max_levels b in let h = nested-below d.steps e d.levels d.nested in let m = d.more in omega arith)
    (λ b. record { steps = (reached e).steps; levels = levels e; nested = (reached e).nested; more = leb-false (levels e) max_levels b })

one : (e : Expr) → FirstPlace (λ p. Among (λ f. Deep f × (p ≡ start f)) (e ∷ [])) (deep e)
one e = same-places (deep e) (λ p. (inl, λ s. ⊎_elim (λ h. h) (λ n. absurd n) s)) (deep-first e)

-- 5 in a line
pub deep_line_lem : (l : TextLine) → FirstPlace (λ p. Among (λ e. Deep e × (p ≡ start e)) (expressions l)) (deep_line l)
deep_line_lem (ParameterLine x e) = one e
deep_line_lem (DefinitionLine (Defined x e)) = one e
deep_line_lem (DefinitionLine (Enumerated x is)) = nowhere (λ p h. h)
deep_line_lem (DeclarationLine (OneSignal x)) = nowhere (λ p h. h)
deep_line_lem (DeclarationLine (OfWidth x e)) = one e
deep_line_lem (DeclarationLine (OfType u x)) = nowhere (λ p h. h)
deep_line_lem (FormulaLine e) = one e

-- What a reader sees of the tokens: whether they begin alike, or with a token of a class; which tokens are not the text's end; and more fuel.
use Rattle.std.specs.Prelude.{ℕ, zero, suc, ◌+◌, [], ◌∷◌, ◌++◌, Bool, false, true, ◌≡◌, refl, eqb}
use Rattle.std.proofs.Common.{sym, ap, ◌∙◌, subst, arith, eqb-true}
use Rattle.language.specs.Tokens.{Class, End, code, Token, is_of}
use Rattle.language.specs.Grammar.{Tokens, front}
use Rattle.language.proofs.Laws.Basics.Lists.{Any}

-- two lists that begin with the same token, or are both empty
abbrev pub Alike : Tokens → Tokens → Type 0
Alike [] [] = Unit {0}
Alike [] (u ∷ us) = ⊥
Alike (t ∷ ts) [] = ⊥
Alike (t ∷ ts) (u ∷ us) = t ≡ u

pub alike-front : (ts us : Tokens) → Alike ts us → front us ≡ front ts
alike-front [] [] h = refl
alike-front [] (u ∷ us) h = absurd h
alike-front (t ∷ ts) [] h = absurd h
alike-front (t ∷ ts) (u ∷ us) h = sym h

pub alike_refl : (ts : Tokens) → Alike ts ts
alike_refl [] = tt
alike_refl (t ∷ ts) = refl

pub alike-after : (vs ts us : Tokens) → Alike ts us → Alike (vs ++ ts) (vs ++ us)
alike-after [] ts us h = h
alike-after (v ∷ vs) ts us h = refl

-- a token that is not the text's end
abbrev pub Inner : Token → Type 0
Inner t = is_of End t ≡ false

pub inner_of : (c : Class) (t : Token) → eqb (code End) (code c) ≡ false → is_of c t ≡ true → Inner t
inner_of c t h e = ap (eqb (code End)) (sym (eqb-true (code c) (code t.class) e)) ∙ h

-- f, and k more
abbrev pub more : ℕ → ℕ → ℕ
more zero k = k
more (suc f) k = suc (more f k)

pub more-is : (f k : ℕ) → more f k ≡ f + k
more-is zero k = omega arith
more-is (suc f) k = let ih = more-is f k in omega arith

pub more_comm : (f k : ℕ) → more f k ≡ more k f
more_comm f k = omega (arith, more-is f k, more-is k f)

-- a list that begins with a token of the class
abbrev pub Begins : (Token → Type 0) → Tokens → Type 0
Begins S [] = ⊥
Begins S (u ∷ us) = S u

-- us begins as ts does, or with a token of the class
pub data Near (S : Token → Type 0) (ts us : Tokens) : Type 0 where
  alike : Alike ts us → Near S ts us
  opened : Begins S us → Near S ts us

pub begins-more : {S W : Token → Type 0} → ((t : Token) → S t → W t) → (us : Tokens) → Begins S us → Begins W us
begins-more f [] v = v
begins-more f (u ∷ us) v = f u v

pub begins_any : (W : Token → Type 0) (vs us : Tokens) → Begins W us → Begins Any (vs ++ us)
begins_any W [] [] w = absurd w
begins_any W [] (u ∷ us) w = tt
begins_any W (v ∷ vs) us w = tt

pub near_more : {S W : Token → Type 0} {ts us : Tokens} → ((t : Token) → S t → W t) → Near S ts us → Near W ts us
near_more f (alike h) = alike h
near_more {us = us} f (opened v) = opened (begins-more f us v)

pub near_left : {S : Token → Type 0} (vs : Tokens) {ts : Tokens} (us left : Tokens) → ts ≡ vs ++ left → Alike left us → Near S ts (vs ++ us)
near_left vs us left e h = alike (subst (λ xs. Alike xs (vs ++ us)) (sym e) (alike-after vs left us h))

-- a test of the front token
pub near_test : {S : Token → Type 0} (test : Token → Bool) (c : Bool) (ts us : Tokens) → test (front ts) ≡ c → ((t : Token) → S t → test t ≡ c) → Near S ts us → test (front us) ≡ c
near_test test c ts us e f (alike h) = ap test (alike-front ts us h) ∙ e
near_test test c ts [] e f (opened v) = absurd v
near_test test c ts (u ∷ us) e f (opened v) = f u v

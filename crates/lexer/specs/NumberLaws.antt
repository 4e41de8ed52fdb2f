-- The numbers tell tokens apart as the definition's tests do: a sign or word, one of several, a class.
use Rattle.std.specs.Prelude.{ℕ, suc, ◌+◌, ◌≤◌, ◌<◌, List, [], ◌∷◌, Bool, true, false, ◌&&◌, ◌||◌, ◌≡◌, refl, eqb, leb, length, get_or}
use Prim.Native.String.{String}
use Rattle.std.proofs.lemmas.Bool.{false≢true, eqb-false}
use Rattle.std.proofs.Math.Bool.{and-false}
use Rattle.std.proofs.Common.{sym, ap, ap₂, ◌∙◌, subst, arith, eq-eqb, ne_eqb, eqb-true, leb-true}
use Rattle.language.specs.Bytes.{ascii, same, is_one_of}
use Rattle.language.specs.Tokens.{Class, Fixed, Name, Numeral, Quoted, Marks, End, Wrong, Blank, code, Token, is_of, is}
use Rattle.language.specs.Grammar.{named}
use Rattle.language.proofs.Laws.Basics.Tests.{split, pick, leave, and_left, and_right, same_equal, same_refl}
use Rattle.lexer.specs.Numbers.{spellings, position, no_number, class_number, first_fixed, number, fixed, numbered}

pub position-fits : (ws : List String) (s : List ℕ) → position ws s ≤ length ws
position-fits [] s = omega arith
position-fits (w ∷ ws) s =
    let ih = position-fits ws s in
    split (λ n. n ≤ length (w ∷ ws)) (same (ascii w) s) (λ _. omega arith) (λ _. omega arith)

-- bytes at the place of bytes that are in the list are the same
position-same : (ws : List String) (a b : List ℕ) → is_one_of ws a ≡ true → position ws b ≡ position ws a → a ≡ b
position-same [] a b h e = absurd (false≢true h)
position-same (w ∷ ws) a b h e = go (same (ascii w) a) (same (ascii w) b) refl refl h e (position-same ws a b)
  where
    go : (p q : Bool) → same (ascii w) a ≡ p → same (ascii w) b ≡ q → (p || is_one_of ws a) ≡ true
        → ◌≡◌ {A = ℕ} (elim q [ true ↦ 0 | false ↦ suc (position ws b) ]) (elim p [ true ↦ 0 | false ↦ suc (position ws a) ])
        → (is_one_of ws a ≡ true → position ws b ≡ position ws a → a ≡ b) → a ≡ b
    go true true x y i f ih = sym (same_equal (ascii w) a x) ∙ same_equal (ascii w) b y
    go true false x y i f ih = absurd (omega arith)
    go false true x y i f ih = absurd (omega arith)
    go false false x y i f ih = ih i (omega arith)

pub same-position : (ws : List String) (a b : List ℕ) → is_one_of ws a ≡ true → same a b ≡ eqb (position ws b) (position ws a)
same-position ws a b h = go (same a b) refl
  where
    go : (p : Bool) → same a b ≡ p → p ≡ eqb (position ws b) (position ws a)
    go true e = sym (eq-eqb (position ws b) (position ws a) (ap (position ws) (sym (same_equal a b e))))
    go false e =
        sym (ne_eqb (position ws b) (position ws a) (λ f. false≢true (sym e ∙ subst (λ x. same a x ≡ true) (position-same ws a b h f) (same_refl a))))

eqb-add : (k a b : ℕ) → eqb (k + a) (k + b) ≡ eqb a b
eqb-add k a b = go (eqb a b) refl
  where
    go : (p : Bool) → eqb a b ≡ p → eqb (k + a) (k + b) ≡ p
    go true e = let h = eqb-true a b e in eq-eqb (k + a) (k + b) (omega arith)
    go false e = ne_eqb (k + a) (k + b) (λ f. eqb-false a b e (omega arith))

-- the number of a sign or word, and of any other token
pub number-fixed : (t : Token) → is_of Fixed t ≡ true → number t ≡ first_fixed + position spellings t.text
unfolding number
number-fixed t e = pick (is_of Fixed t) _ _ e

pub number-class : (t : Token) → is_of Fixed t ≡ false → number t ≡ class_number t.class
unfolding number
number-class t e = leave (is_of Fixed t) _ _ e

fixed-small : (s : List ℕ) → first_fixed + position spellings s < 128
fixed-small s = let h : position spellings s ≤ length spellings = position-fits spellings s in omega arith

-- classes that have a number of their own
abbrev pub is_plain : Class → Bool
is_plain c = leb (class_number c) 4

plain-or_none : (c : Class) → is_plain c ≡ false → class_number c ≡ no_number
plain-or_none Fixed e = refl
plain-or_none Wrong e = refl
plain-or_none Blank e = refl
plain-or_none Name e = absurd (false≢true (sym e))
plain-or_none Numeral e = absurd (false≢true (sym e))
plain-or_none Quoted e = absurd (false≢true (sym e))
plain-or_none Marks e = absurd (false≢true (sym e))
plain-or_none End e = absurd (false≢true (sym e))

-- no class has the number of a sign or word
class_apart : (c : Class) (s : List ℕ) → class_number c ≡ first_fixed + position spellings s → ⊥
class_apart c s e = go (is_plain c) refl
  where
    go : (p : Bool) → is_plain c ≡ p → ⊥
    go true h = let l = leb-true (class_number c) 4 h in omega arith
    go false h = let l = plain-or_none c h in let m = fixed-small s in omega arith

-- every token of a text, which is neither wrong nor blank, has a small number
pub number_small : (t : Token) → is_of Wrong t ≡ false → is_of Blank t ≡ false → number t < 128
number_small t w b = go (is_of Fixed t) refl
  where
    plain : (c : Class) → eqb (code Fixed) (code c) ≡ false → eqb (code Wrong) (code c) ≡ false → eqb (code Blank) (code c) ≡ false → class_number c < 128
    plain Fixed f w b = absurd (false≢true (sym f))
    plain Wrong f w b = absurd (false≢true (sym w))
    plain Blank f w b = absurd (false≢true (sym b))
    plain Name f w b = omega arith
    plain Numeral f w b = omega arith
    plain Quoted f w b = omega arith
    plain Marks f w b = omega arith
    plain End f w b = omega arith

    go : (f : Bool) → is_of Fixed t ≡ f → number t < 128
    go true e = subst (λ n. n < 128) (sym (number-fixed t e)) (fixed-small t.text)
    go false e = subst (λ n. n < 128) (sym (number-class t e)) (plain t.class e w b)

-- a sign or word
pub is_number : (s : String) (t : Token) → is_one_of spellings (ascii s) ≡ true → is s t ≡ eqb (number t) (fixed s)
is_number s t h = go (is_of Fixed t) refl
  where
    go : (f : Bool) → is_of Fixed t ≡ f → (f && same (ascii s) t.text) ≡ eqb (number t) (fixed s)
    go true e =
        same-position spellings (ascii s) t.text h ∙ sym (eqb-add first_fixed (position spellings t.text) (position spellings (ascii s)))
        ∙ ap (λ n. eqb n (fixed s)) (sym (number-fixed t e))
    go false e = sym (ne_eqb (number t) (fixed s) (λ f. class_apart t.class (ascii s) (sym (number-class t e) ∙ f)))

-- one of several signs and words
abbrev pub known : List String → Bool
known [] = true
known (s ∷ ss) = is_one_of spellings (ascii s) && known ss

pub named-number : (ss : List String) (t : Token) → known ss ≡ true → named ss t ≡ numbered ss (number t)
named-number [] t h = and-false (is_of Fixed t)
named-number (s ∷ ss) t h =
    shared (is_of Fixed t) (same (ascii s) t.text) (is_one_of ss t.text)
    ∙ ap₂ ◌||◌ (is_number s t (and_left (is_one_of spellings (ascii s)) (known ss) h)) (named-number ss t (and_right (is_one_of spellings (ascii s)) (known ss) h))
  where
    shared : (f a b : Bool) → (f && (a || b)) ≡ ((f && a) || (f && b))
    shared true a b = refl
    shared false a b = refl

-- a class
decode : ℕ → Class
decode n = get_or (Fixed ∷ Name ∷ Numeral ∷ Quoted ∷ Marks ∷ End ∷ Wrong ∷ Blank ∷ []) n Fixed

decode-code : (c : Class) → decode (code c) ≡ c
unfolding decode
decode-code Fixed = refl
decode-code Name = refl
decode-code Numeral = refl
decode-code Quoted = refl
decode-code Marks = refl
decode-code End = refl
decode-code Wrong = refl
decode-code Blank = refl

denumber : ℕ → Class
denumber n = get_or (End ∷ Name ∷ Numeral ∷ Quoted ∷ Marks ∷ []) n Fixed

denumber-number : (c : Class) → is_plain c ≡ true → denumber (class_number c) ≡ c
unfolding denumber
denumber-number Fixed e = absurd (false≢true e)
denumber-number Wrong e = absurd (false≢true e)
denumber-number Blank e = absurd (false≢true e)
denumber-number Name e = refl
denumber-number Numeral e = refl
denumber-number Quoted e = refl
denumber-number Marks e = refl
denumber-number End e = refl

pub class_number_lem : (c : Class) (t : Token) → is_plain c ≡ true → is_of c t ≡ eqb (number t) (class_number c)
class_number_lem c t h = go (is_of c t) refl
  where
    plain : is_of Fixed t ≡ true → number t ≡ class_number c → ⊥
    plain f e = class_apart c t.text (sym e ∙ number-fixed t f)

    here : c ≡ t.class → (f : Bool) → is_of Fixed t ≡ f → number t ≡ class_number c
    here e true f =
        absurd (false≢true (subst (λ d. is_plain d ≡ true) (e ∙ sym (decode-code t.class) ∙ ap decode (sym (eqb-true (code Fixed) (code t.class) f)) ∙ decode-code Fixed) h))
    here e false f = number-class t f ∙ ap class_number (sym e)

    other : (eqb (code c) (code t.class) ≡ false) → (f : Bool) → is_of Fixed t ≡ f → number t ≡ class_number c → ⊥
    other n true f e = plain f e
    other n false f e =
        let k : class_number t.class ≡ class_number c = sym (number-class t f) ∙ e in
        let d : t.class ≡ c = sym (denumber-number t.class (subst (λ m. leb m 4 ≡ true) (sym k) h)) ∙ ap denumber k ∙ denumber-number c h in
        eqb-false (code c) (code t.class) n (ap code (sym d))

    go : (p : Bool) → is_of c t ≡ p → p ≡ eqb (number t) (class_number c)
    go true e = sym (eq-eqb _ _ (here (sym (decode-code c) ∙ ap decode (eqb-true (code c) (code t.class) e) ∙ decode-code t.class) (is_of Fixed t) refl))
    go false e = sym (ne_eqb _ _ (other e (is_of Fixed t) refl))

-- what is blank has no number
pub number-blank : (t : Token) → is_of Blank t ≡ true → number t ≡ no_number
number-blank t e =
    let k : t.class ≡ Blank = sym (decode-code t.class) ∙ ap decode (sym (eqb-true (code Blank) (code t.class) e)) ∙ decode-code Blank in
    number-class t (ap (λ c. eqb (code Fixed) (code c)) k) ∙ ap class_number k

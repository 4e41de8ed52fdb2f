-- Expressions by precedence climbing (document 01: 'An operand looser than its operator needs parentheses .. Otherwise an expression reads on from the
-- token after the last one as far as it can'). A token that nothing continues is refused with 4.
use Rattle.std.specs.Prelude.{ℕ, zero, suc, ◌-◌, List, [], ◌∷◌, Bool, true, false, ◌&&◌, ◌||◌, leb}
use Prim.Native.String.{String}
use Rattle.std.proofs.Math.Option.{Option, none, some}
use Rattle.node.specs.Operators.{X, F, G}
use Rattle.node.specs.Result.{Result, Done, Refused, ◌>>=◌}
use Rattle.language.specs.Bytes.{if◌then◌otherwise◌, is_one_of}
use Rattle.language.specs.Tokens.{Class, Fixed, Name, Numeral as Digits, End, Token, is_of, is}
use Rattle.language.specs.Operators.{
  Size,
  FinallyIn,
  GloballyIn,
  Measures,
  Applies,
  Role,
  Plain,
  Counted,
  Windowed,
  Folding,
  Big,
  LeftToRight,
  RightToLeft,
  InfixRow,
  infixes,
  PrefixRow,
  prefixes,
  loosest,
  bound_level,
}
use Rattle.language.specs.Tree.{Expr, Named, Numeral, Truth, Index, Paren, Prefixed, Joined, Nexts, InWindow, Each, Between, Listed, Empty, Element, Range}

abbrev pub Tokens : Type 0
Tokens = List Token

-- what is read, and the tokens after it
abbrev pub Read : Type 0 → Type 0
Read A = Result (A × Tokens)

abbrev pub front : Tokens → Token
front [] = record { class = End; at = 0; text = [] }
front (t ∷ ts) = t

abbrev pub rest : Tokens → Tokens
rest [] = []
rest (t ∷ ts) = ts

-- 'first token that no accepted grammar continues'
abbrev pub stop : {A : Type 0} → Tokens → Read A
stop ts = Refused 4 (front ts).at

abbrev pub next : String → Tokens → Bool
next s ts = is s (front ts)

abbrev pub expect : String → Tokens → Read Token
expect s ts = if next s ts then Done (front ts, rest ts) otherwise stop ts

abbrev pub expect_of : Class → Tokens → Read Token
expect_of c ts = if is_of c (front ts) then Done (front ts, rest ts) otherwise stop ts

-- is the token one of an operator's names?
abbrev pub named : List String → Token → Bool
named names t = is_of Fixed t && is_one_of names t.text

abbrev pub infix_of : List InfixRow → Token → Option InfixRow
infix_of [] t = none
infix_of (r ∷ rs) t = elim (named r.names t) [ true ↦ some r | false ↦ infix_of rs t ]

abbrev pub prefix_of : List PrefixRow → Token → Option PrefixRow
prefix_of [] t = none
prefix_of (r ∷ rs) t = elim (named r.names t) [ true ↦ some r | false ↦ prefix_of rs t ]

-- how an expression whose operators have levels up to a given one is read
abbrev pub Reader : Type 0
Reader = ℕ → Tokens → Read Expr

-- any expression, then a sign
abbrev pub closed_by : Reader → String → Tokens → Read Expr
closed_by rec s ts = do
  (e, ts) ← rec loosest ts
  (c, ts) ← expect s ts
  Done (e, ts)

-- the elements of a set after the first, up to and with `}`; f bounds their number
abbrev pub elements : ℕ → Reader → Tokens → Read Expr
elements zero rec ts = stop ts
elements (suc f) rec ts =
    elim (next "," ts) [
      | true ↦ rec loosest (rest ts) >>= λ (e, ts). elements f rec ts >>= λ (es, ts). Done (Element e es, ts)
      | false ↦ expect "}" ts >>= λ (c, ts). Done (Empty, ts)
    ]

-- after `{ x , y`: a range, or more elements
abbrev pub after_two : ℕ → Reader → Token → Expr → Expr → Tokens → Read Expr
after_two f rec t x y ts =
    elim (next ".." ts) [
      | true ↦ closed_by rec "}" (rest ts) >>= λ (z, ts). Done (Range t x y z, ts)
      | false ↦ elements f rec ts >>= λ (es, ts). Done (Listed t (Element x (Element y es)), ts)
    ]

abbrev pub after_one : ℕ → Reader → Token → Expr → Tokens → Read Expr
after_one f rec t x ts =
    elim (next "," ts) [
      | true ↦ rec loosest (rest ts) >>= λ (y, ts). after_two f rec t x y ts
      | false ↦ expect "}" ts >>= λ (c, ts). Done (Listed t (Element x Empty), ts)
    ]

-- a set, after its `{`
abbrev pub set_of : ℕ → Reader → Token → Tokens → Read Expr
set_of f rec t ts =
    elim (next "}" ts) [
      | true ↦ Done (Listed t Empty, rest ts)
      | false ↦ rec loosest ts >>= λ (x, ts). after_one f rec t x ts
    ]

-- a name of a big operator with its set
pub record Binder : Type 0 where
  pub name : Token
  pub range : Expr

-- the sign of a bound: `<`, which leaves the bound out, or `<=`
abbrev pub sign_of : Tokens → Read (Token × Bool)
sign_of ts =
    if named ("<" ∷ "LE" ∷ []) (front ts) then Done ((front ts, true), rest ts) otherwise (
    if named ("<=" ∷ "LEQ" ∷ []) (front ts) then Done ((front ts, false), rest ts) otherwise stop ts)

-- `n <= i < m`: 'The bounds .. bind tighter than a comparison'
abbrev pub bounds_of : Reader → Tokens → Read Binder
bounds_of rec ts = do
  (a, ts) ← rec bound_level ts
  (low, ts) ← sign_of ts
  (i, ts) ← expect_of Name ts
  (high, ts) ← sign_of ts
  (b, ts) ← rec bound_level ts
  Done (record { name = i; range = Between low.0 low.1 high.1 a b }, ts)

abbrev pub membership_of : Reader → Tokens → Read Binder
membership_of rec ts = do
  (i, ts) ← expect_of Name ts
  (s, ts) ← rec loosest (rest ts)
  Done (record { name = i; range = s }, ts)

abbrev pub binder_of : Reader → Tokens → Read Binder
binder_of rec ts =
    elim (is_of Name (front ts) && named ("IN" ∷ "ELEM" ∷ "<-" ∷ []) (front (rest ts))) [ true ↦ membership_of rec ts | false ↦ bounds_of rec ts ]

-- binders with commas between them, up to and with `]`
abbrev pub binders_of : ℕ → Reader → Tokens → Read (List Binder)
binders_of zero rec ts = stop ts
binders_of (suc f) rec ts =
    binder_of rec ts >>= λ (b, ts).
    elim (next "," ts) [
      | true ↦ binders_of f rec (rest ts) >>= λ (bs, ts). Done (b ∷ bs, ts)
      | false ↦ expect "]" ts >>= λ (c, ts). Done (b ∷ [], ts)
    ]

-- the operator over its names, the first outermost
abbrev pub over : Token → Big → Bool → List Binder → Expr → Expr
over t o further [] e = e
over t o further (b ∷ bs) e = Each t o further b.name b.range (over t o true bs e)

-- an operator before its operand, after its token t
abbrev pub role_of : ℕ → Reader → Token → ℕ → Role → Tokens → Read Expr
role_of f rec t level (Plain p) ts = rec level ts >>= λ (e, ts). Done (Prefixed t p e, ts)
role_of f rec t level Counted ts =
    elim (next "[" ts) [
      | true ↦ closed_by rec "]" (rest ts) >>= λ (n, ts). rec level ts >>= λ (e, ts). Done (Nexts t n e, ts)
      | false ↦ rec level ts >>= λ (e, ts). Done (Prefixed t (Applies X) e, ts)
    ]
role_of f rec t level (Windowed o) ts =
    elim (next "[" ts) [
      | true ↦ closed_by rec ":" (rest ts) >>= λ (n, ts). closed_by rec "]" ts >>= λ (m, ts). rec level ts >>= λ (e, ts). Done (InWindow t o n m e, ts)
      | false ↦ rec level ts >>= λ (e, ts). Done (Prefixed t (Applies (elim o [ FinallyIn ↦ F | GloballyIn ↦ G ])) e, ts)
    ]
role_of f rec t level (Folding o) ts =
    expect "[" ts >>= λ (c, ts). binders_of f rec ts >>= λ (bs, ts). rec level ts >>= λ (e, ts). Done (over t o false bs e, ts)

-- a name, perhaps with an index
abbrev pub name_of : Reader → Token → Tokens → Read Expr
name_of rec t ts =
    elim (next "[" ts) [
      | true ↦ closed_by rec "]" (rest ts) >>= λ (e, ts). Done (Index t e, ts)
      | false ↦ Done (Named t, ts)
    ]

-- an operand that begins with the token t, which is no operator; if none can, it is refused
abbrev pub atom_of : ℕ → Reader → Token → Tokens → Read Expr
atom_of f rec t ts =
    elim (is_of Name t) [
      | true ↦ name_of rec t ts
      | false ↦ elim (is_of Digits t) [
        | true ↦ Done (Numeral t, ts)
        | false ↦ elim (is "true" t || is "false" t) [
          | true ↦ Done (Truth t (is "true" t), ts)
          | false ↦ elim (is "(" t) [
            | true ↦ closed_by rec ")" ts >>= λ (e, ts). Done (Paren t e, ts)
            | false ↦ elim (is "|" t) [
              | true ↦ closed_by rec "|" ts >>= λ (e, ts). Done (Prefixed t (Measures Size) e, ts)
              | false ↦ elim (is "{" t) [ true ↦ set_of f rec t ts | false ↦ Refused 4 t.at ]
            ]
          ]
        ]
      ]
    ]

-- an operator before its operand stands only where its level is allowed
abbrev pub operand_by : ℕ → Reader → ℕ → Token → Option PrefixRow → Tokens → Read Expr
operand_by f rec max t none ts = atom_of f rec t ts
operand_by f rec max t (some r) ts = elim (leb r.level max) [ true ↦ role_of f rec t r.level r.role ts | false ↦ Refused 4 t.at ]

abbrev pub operand_of : ℕ → Reader → ℕ → Tokens → Read Expr
operand_of f rec max ts = operand_by f rec max (front ts) (prefix_of prefixes (front ts)) (rest ts)

-- the loosest level of the right operand
abbrev pub right_level : InfixRow → ℕ
right_level r = elim r.associativity [ LeftToRight ↦ r.level - 1 | RightToLeft ↦ r.level ]

-- may the operator stand here?
abbrev pub allowed : ℕ → Option InfixRow → Option InfixRow
allowed max none = none
allowed max (some r) = if leb r.level max then some r otherwise none

-- e, and the operators of levels up to `max` after it; f bounds their number
abbrev pub climb : ℕ → Reader → ℕ → Expr → Tokens → Read Expr
climb zero rec max e ts = stop ts
climb (suc f) rec max e ts =
    elim (allowed max (infix_of infixes (front ts))) [
      | none ↦ Done (e, ts)
      | some r ↦ rec (right_level r) (rest ts) >>= λ (b, us). climb f rec max (Joined (front ts) r.operator e b) us
    ]

-- an expression whose operators have levels up to `max`; f bounds its depth, and is enough if it exceeds the number of tokens
abbrev pub expr : ℕ → ℕ → Tokens → Read Expr
expr zero max ts = stop ts
expr (suc f) max ts = operand_of f (λ m us. expr f m us) max ts >>= λ (e, us). climb f (λ m vs. expr f m vs) max e us

-- Frames: what is still to be made of an expression that is being read inside another one. Together they are the stack of the parser.
use Rattle.std.specs.Prelude.{ℕ, List, [], ◌∷◌, Bool, true, false, eqb}
use Prim.Native.String.{String}
use Rattle.node.specs.Result.{◌>>=◌}
use Rattle.language.specs.Tokens.{Name, Token}
use Rattle.language.specs.Operators.{Size, Measures, loosest, bound_level}
use Rattle.language.specs.Tree.{Expr, Index, Paren, Prefixed, Joined, Nexts, InWindow, Each, Between, Listed, Empty, Element, Range}
use Rattle.language.specs.Grammar.{Tokens, Read, rest, next, named, expect, expect_of, sign_of, Binder}
use Rattle.operators.specs.Readers.{reads, climbs, operator_at, level_at, role_at, sole_of, window_of, big_of, listed, folds}
use Rattle.expressions.specs.Classes.{Class, Right, Sole, Stepped, Within, Cons, Over, Round, Bars, Square, Last, All, Count, Low, High, One, Two, More, Bound, Upper, Member}

-- after the name b of the operator t: further names, or the operand
abbrev pub after_binder : ℕ → Token → Binder → Tokens → Read Expr
after_binder max t b ts =
    elim (next "," ts) [
      | true ↦ folds 0 t (rest ts) >>= λ (e, us). climbs max (Each t (big_of (role_at t)) (eqb max 0) b.name b.range e) us
      | false ↦ expect "]" ts >>= λ (c, us). reads (level_at t) us >>= λ (e, vs). climbs max (Each t (big_of (role_at t)) (eqb max 0) b.name b.range e) vs
    ]

-- The expression around it reads on at `level`. Its operator or bracket is `token`; `first` and `second` are what was read of it before. A name of a big
-- operator is `name`, with the signs `low` and `high` of its bounds.
pub record Frame : Type 0 where
  pub class : Class
  pub level : ℕ
  pub token : Token
  pub first : Expr
  pub second : Expr
  pub name : Token
  pub low : Token
  pub high : Token

abbrev pub frame : Class → ℕ → Token → Frame
frame c max t = record { class = c; level = max; token = t; first = Empty; second = Empty; name = t; low = t; high = t }

-- the frame as another class; with what was read
abbrev pub turned : Class → Frame → Frame
turned c F = record { class = c; level = F.level; token = F.token; first = F.first; second = F.second; name = F.name; low = F.low; high = F.high }

abbrev pub with_first : Class → Frame → Expr → Frame
with_first c F x = record { class = c; level = F.level; token = F.token; first = x; second = Empty; name = F.name; low = F.low; high = F.high }

abbrev pub with_second : Class → Frame → Expr → Frame
with_second c F x = record { class = c; level = F.level; token = F.token; first = F.first; second = x; name = F.name; low = F.low; high = F.high }

-- a frame that waits for the operand of a big operator, with the name that it binds
abbrev pub bound : Frame → Binder → Frame
bound F b = record { class = Over; level = F.level; token = F.token; first = b.range; second = Empty; name = b.name; low = F.low; high = F.high }

-- the tree that x makes whole
abbrev pub built_by : Class → Frame → Expr → Expr
built_by Right F x = Joined F.token (operator_at F.token) F.first x
built_by Sole F x = Prefixed F.token (sole_of (role_at F.token)) x
built_by Stepped F x = Nexts F.token F.first x
built_by Within F x = InWindow F.token (window_of (role_at F.token)) F.first F.second x
built_by Cons F x = Element F.first x
built_by Over F x = Each F.token (big_of (role_at F.token)) (eqb F.level 0) F.name F.first x
built_by Round F x = Paren F.token x
built_by Bars F x = Prefixed F.token (Measures Size) x
built_by Square F x = Index F.token x
built_by Last F x = Range F.token F.first F.second x
built_by All F x = Listed F.token (Element F.first x)
built_by Count F x = x
built_by Low F x = x
built_by High F x = x
built_by One F x = Listed F.token (Element x Empty)
built_by Two F x = x
built_by More F x = x
built_by Bound F x = x
built_by Upper F x = x
built_by Member F x = x

-- the sign that must follow, if one must
abbrev pub sign_after : Class → String
sign_after Round = ")"
sign_after Bars = "|"
sign_after Square = "]"
sign_after Last = "}"
sign_after All = "}"
sign_after One = "}"
sign_after Count = "]"
sign_after Low = ":"
sign_after High = "]"
sign_after Right = ""
sign_after Sole = ""
sign_after Stepped = ""
sign_after Within = ""
sign_after Cons = ""
sign_after Over = ""
sign_after Two = ""
sign_after More = ""
sign_after Bound = ""
sign_after Upper = ""
sign_after Member = ""

-- the tree is whole; or it is, behind the sign
abbrev pub whole : Class → Frame → Expr → Tokens → Read Expr
whole c F x ts = climbs F.level (built_by c F x) ts

abbrev pub closed : Class → Frame → Expr → Tokens → Read Expr
closed c F x ts = expect (sign_after c) ts >>= λ (s, us). whole c F x us

-- behind the sign, one operand more
abbrev pub opened : Class → ℕ → (Expr → Tokens → Read Expr) → Tokens → Read Expr
opened c max K ts = expect (sign_after c) ts >>= λ (s, us). reads max us >>= λ (e, vs). K e vs

abbrev pub high : Frame → Expr → Tokens → Read Expr
high F x ts = opened High (level_at F.token) (λ e us. whole Within (with_second Within F x) e us) ts

-- `{ x , y`: a range, or more elements
abbrev pub two : Frame → Expr → Tokens → Read Expr
two F y ts =
    elim (next ".." ts) [
      | true ↦ reads loosest (rest ts) >>= λ (z, us). closed Last (with_second Last F y) z us
      | false ↦ listed y ts >>= λ (l, us). closed All (turned All F) l us
    ]

abbrev pub one : Frame → Expr → Tokens → Read Expr
one F x ts = elim (next "," ts) [ true ↦ reads loosest (rest ts) >>= λ (y, us). two (with_first Two F x) y us | false ↦ closed One F x ts ]

-- is the sign `<`, which leaves the bound out?
abbrev pub is_strict : Token → Bool
is_strict t = named ("<" ∷ "LE" ∷ []) t

abbrev pub upper : Frame → Expr → Tokens → Read Expr
upper F x ts = after_binder F.level F.token (record { name = F.name; range = Between F.low (is_strict F.low) (is_strict F.high) F.first x }) ts

-- `i <= m` after the bound x
abbrev pub lower : Frame → Expr → Tokens → Read Expr
lower F x ts =
    sign_of ts >>= λ (low, us). expect_of Name us >>= λ (i, vs). sign_of vs >>= λ (high, ws). reads bound_level ws >>= λ (y, xs).
    after_binder F.level F.token (record { name = i; range = Between low.0 low.1 high.1 x y }) xs

-- what becomes of x, read up to ts
abbrev pub resume_by : Class → Frame → Expr → Tokens → Read Expr
resume_by Right F x ts = whole Right F x ts
resume_by Sole F x ts = whole Sole F x ts
resume_by Stepped F x ts = whole Stepped F x ts
resume_by Within F x ts = whole Within F x ts
resume_by Cons F x ts = whole Cons F x ts
resume_by Over F x ts = whole Over F x ts
resume_by Round F x ts = closed Round F x ts
resume_by Bars F x ts = closed Bars F x ts
resume_by Square F x ts = closed Square F x ts
resume_by Last F x ts = closed Last F x ts
resume_by All F x ts = closed All F x ts
resume_by Count F x ts = opened Count (level_at F.token) (λ e us. whole Stepped (with_first Stepped F x) e us) ts
resume_by Low F x ts = opened Low loosest (λ e us. high (with_first High F x) e us) ts
resume_by High F x ts = high F x ts
resume_by One F x ts = one F x ts
resume_by Two F x ts = two F x ts
resume_by More F x ts = listed x ts
resume_by Bound F x ts = lower F x ts
resume_by Upper F x ts = upper F x ts
resume_by Member F x ts = after_binder F.level F.token (record { name = F.name; range = x }) ts

abbrev pub resume : Frame → Expr → Tokens → Read Expr
resume F x ts = resume_by F.class F x ts

-- what all frames, the last pushed first, make of an answer
unfoldable pub plug : List Frame → Read Expr → Read Expr
plug [] r = r
plug (F ∷ Fs) r = plug Fs (r >>= λ (x, ts). resume F x ts)

-- Levels and start of every part of a tree, from those of its operands.
use Rattle.std.specs.Prelude.{ℕ, suc, max, List, [], ◌∷◌, map, Bool, true, false, ◌≡◌, refl, ltb, get_or}
use Rattle.std.proofs.lemmas.Simd.{map-map}
use Rattle.std.proofs.Math.Option.{Option, none, some}
use Rattle.std.proofs.lemmas.Bool.{false≢true}
use Rattle.std.proofs.Math.Path.{ap, ap₂}
use Rattle.std.proofs.Common.{◌∙◌, arith}
use Rattle.language.specs.Tokens.{Token}
use Rattle.language.specs.Operators.{Equal, Unequal, Less, AtMost, Greater, AtLeast, Big, BigSum, BigProduct, BigCap, BigCup, BigAnd, BigOr, Infix, Calculates, Combines, Compares, Membership, Connects, Prefix, Measures, WidthOf, Applies}
use Rattle.language.specs.Tree.{Expr, Named, Numeral, Truth, Index, Paren, Prefixed, Joined, Nexts, InWindow, Each, Between, Listed, Empty, Element, Range}
use Rattle.language.specs.Places.{levels}
use Rattle.lexer.specs.Stored.{offset_in}
use Rattle.entries.specs.Kinds as Kind
use Rattle.traversal.specs.declared.Cell.{Cell}
use Rattle.traversal.specs.Cells.{Told, Sees, OfToken, Offset}
use Rattle.traversal.specs.Starts.{start_of, first_of, start_part, AtPlace}
use Rattle.traversal.specs.StartLaws.{starts}
use Rattle.traversal.specs.Arity.{first_line}
use Rattle.traversal.specs.Parts.{Part, Whole, Binder, unless_empty, operands_of, kind_of, token_of}
use Rattle.traversal.specs.PartLaws.{unless-cases}
use Rattle.traversal.specs.PassLaws.{own_entry}
use Rattle.depth.specs.LevelLaws.{own_level_lem, no_level, first_level, further_level}
use Rattle.depth.specs.Depth.{Operand, capped, own_levels, highest, level_of, node}

-- a kind with this use of levels
abbrev Own : ℕ → ℕ → Type 0
Own k l = get_or own_levels k 0 ≡ l

truth_level : Own Kind.truth 1
truth_level = refl

before_level : (o : Prefix) → Own (Kind.before o) 1
before_level (Measures m) = refl
before_level WidthOf = refl
before_level (Applies o) = refl

joining_level : (o : Infix) → Own (Kind.joining o) 1
joining_level (Calculates o) = refl
joining_level (Combines o) = refl
joining_level (Compares Equal) = refl
joining_level (Compares Unequal) = refl
joining_level (Compares Less) = refl
joining_level (Compares AtMost) = refl
joining_level (Compares Greater) = refl
joining_level (Compares AtLeast) = refl
joining_level Membership = refl
joining_level (Connects o) = refl

window_level : Own Kind.window 1
window_level = refl

big_level : (o : Big) → Own (Kind.big o) 2
big_level BigSum = refl
big_level BigProduct = refl
big_level BigCap = refl
big_level BigCup = refl
big_level BigAnd = refl
big_level BigOr = refl

binder_level : (further : Bool) → Own (Kind.binder further) 0
binder_level true = refl
binder_level false = refl

between_level : (h : Bool) → Own (Kind.between h) 0
between_level true = refl
between_level false = refl

-- counting up to a limit
cap_max : (a b : ℕ) → max (capped a) (capped b) ≡ capped (max a b)
cap_max a b = omega arith

cap_none : (a : ℕ) → max (capped a) 0 ≡ capped a
cap_none a = omega arith

cap_two : (a b : ℕ) → max (capped a) (max (capped b) 0) ≡ capped (max a b)
cap_two a b = ap (max (capped a)) (cap_none b) ∙ cap_max a b

cap_three : (a b c : ℕ) → max (capped a) (max (capped b) (max (capped c) 0)) ≡ capped (max a (max b c))
cap_three a b c = ap (max (capped a)) (cap_two b c) ∙ cap_max a (max b c)

cap_suc : (a : ℕ) → capped (suc (capped a)) ≡ capped (suc a)
cap_suc a = omega arith

-- of an expression its levels and its start; a big operator's name by its kind
abbrev pub level_part : {N : Type 0} → Part N → ℕ
level_part (Whole y e) = levels e
level_part (Binder y further i s) = levels s

abbrev pub value : {N : Type 0} → Part N → Operand
value q = record { level = capped (level_part q); start = start_part q }

module _ {N : Type 0} (bind : Token → N → N) where
  abbrev highest_of : List (Part N) → ℕ
  highest_of qs = highest (map (λ q. capped (level_part q)) qs)

  rest-levels : (y : N) (e : Expr) → highest_of (unless_empty e (Whole y e)) ≡ capped (levels e)
  rest-levels y e = unless-cases (Whole y) (λ e qs. highest_of qs ≡ capped (levels e)) refl (λ e. cap_none (levels e)) e

  -- an entry that is a level
  raised : (k n s : ℕ) (qs : List (Part N)) → Own k 1 → highest_of qs ≡ capped n → level_of k (highest_of qs) s ≡ capped (suc n)
  raised k n s qs t h = own_level_lem k (highest_of qs) s t ∙ ap (λ m. capped (suc m)) h ∙ cap_suc n

  -- a big operator
  each_level : (t : Token) (o : Big) (further : Bool) (i : Token) (a b : Expr)
      → level_of (Kind.big o) (max (capped (levels a)) (max (capped (levels b)) 0)) (Kind.binder further) ≡ capped (levels (Each t o further i a b))
  each_level t o false i a b = first_level (Kind.big o) _ _ (big_level o) refl ∙ ap (λ m. capped (suc m)) (cap_two (levels a) (levels b)) ∙ cap_suc _
  each_level t o true i a b = further_level (Kind.big o) _ _ (big_level o) (λ z. omega arith) ∙ cap_two (levels a) (levels b)

  part_level : (q : Part N) → ltb (kind_of q) first_line ≡ true → level_of (kind_of q) (highest_of (operands_of bind q)) (first_of (map start_part (operands_of bind q))) ≡ capped (level_part q)
  part_level (Whole y (Named t)) i = raised Kind.named 0 _ [] refl refl
  part_level (Whole y (Numeral t)) i = raised Kind.numeral 0 _ [] refl refl
  part_level (Whole y (Truth t b)) i = raised Kind.truth 0 _ [] truth_level refl
  part_level (Whole y (Index t e)) i = raised Kind.index (levels e) _ (Whole y e ∷ []) refl (cap_none (levels e))
  part_level (Whole y (Paren t e)) i = raised Kind.paren (levels e) _ (Whole y e ∷ []) refl (cap_none (levels e))
  part_level (Whole y (Prefixed t o e)) i = raised (Kind.before o) (levels e) _ (Whole y e ∷ []) (before_level o) (cap_none (levels e))
  part_level (Whole y (Joined t o a b)) i = raised (Kind.joining o) _ _ (Whole y a ∷ Whole y b ∷ []) (joining_level o) (cap_two (levels a) (levels b))
  part_level (Whole y (Nexts t n e)) i = raised Kind.nexts _ _ (Whole y n ∷ Whole y e ∷ []) refl (cap_two (levels n) (levels e))
  part_level (Whole y (InWindow t o n m e)) i = raised Kind.window _ _ (Whole y n ∷ Whole y m ∷ Whole y e ∷ []) window_level (cap_three (levels n) (levels m) (levels e))
  part_level (Whole y (Each t o further j s e)) i = each_level t o further j s e
  part_level (Whole y (Between t l u a b)) i = no_level (Kind.between u) _ _ (λ z. omega (arith, between_level u)) (λ z. omega (arith, between_level u)) ∙ cap_two (levels a) (levels b)
  part_level (Whole y (Listed t es)) i = raised Kind.listed (levels es) _ (unless_empty es (Whole y es)) refl (rest-levels y es)
  part_level (Whole y Empty) i = absurd (false≢true i)
  part_level (Whole y (Element e es)) i = no_level Kind.element _ _ (λ z. omega arith) (λ z. omega arith) ∙ ap (max (capped (levels e))) (rest-levels y es) ∙ cap_max (levels e) (levels es)
  part_level (Whole y (Range t a b d)) i = raised Kind.range _ _ (Whole y a ∷ Whole y b ∷ Whole y d ∷ []) refl (cap_three (levels a) (levels b) (levels d))
  part_level (Binder y further j s) i = no_level (Kind.binder further) _ _ (λ z. omega (arith, binder_level further)) (λ z. omega (arith, binder_level further)) ∙ cap_none (levels s)

  told : (x : ℕ) (t : Option Token) → Told Offset x t → Told AtPlace (offset_in x) t
  told x none h = tt
  told x (some t) h = h

  pub values : (q : Part N) (c : Cell) → Sees (OfToken Offset tt) c (own_entry bind q) → ltb (kind_of q) first_line ≡ true → node c (map value (operands_of bind q)) ≡ value q
  unfolding node
  values q c z i =
      let qs = operands_of bind q in
      ap₂ (λ (l s : ℕ). record { level = l; start = s })
      (ap₂ (λ ls ss. level_of c.kind (highest ls) (first_of ss)) (map-map (λ (x : Operand). x.level) value qs) (map-map (λ (x : Operand). x.start) value qs) ∙ ap
      (λ k. level_of k (highest_of qs) (first_of (map start_part qs))) z.kind ∙ part_level q i)
      (ap (λ ss. start_of c.kind (offset_in c.token) (first_of ss)) (map-map (λ (x : Operand). x.start) value qs) ∙ ap (λ k. start_of k (offset_in c.token) (first_of (map start_part qs)))
      z.kind ∙ starts bind q (offset_in c.token) (told c.token (token_of q) z.token) i)

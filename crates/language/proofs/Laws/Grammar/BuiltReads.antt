-- What holds of every expression that the grammar reads: P of expressions and E of the elements of sets, wherever they hold of what is built of parts of which they hold.
use Rattle.std.specs.Prelude.{ℕ, zero, suc, ◌≡◌, refl, Bool, true, false, ◌&&◌, ◌||◌, List, [], ◌∷◌, leb, length}
use Prim.Native.String.{String}
use Rattle.std.proofs.Common.{sym, ap, ◌∙◌}
use Rattle.std.proofs.Math.Option.{Option, none, some}
use Rattle.node.specs.Result.{Done, ◌>>=◌}
use Rattle.language.specs.Tokens.{Name, Numeral as Digits, Token, is_of, is}
use Rattle.node.specs.Operators.{F, G}
use Rattle.language.specs.Operators.{Prefix, Infix, Window, FinallyIn, GloballyIn, Size, Measures, Applies, Role, Plain, Counted, Windowed, Folding, Big, InfixRow, infixes, PrefixRow, prefixes, loosest, bound_level}
use Rattle.language.specs.Tree.{Expr, Named, Numeral, Truth, Index, Paren, Prefixed, Joined, Nexts, InWindow, Each, Between, Listed, Empty, Element, Range}
use Rattle.language.specs.Grammar.{
  Tokens,
  Read,
  front,
  rest,
  next,
  expect,
  expect_of,
  named,
  infix_of,
  prefix_of,
  closed_by,
  elements,
  after_two,
  after_one,
  set_of,
  Binder,
  sign_of,
  binder_of,
  binders_of,
  over,
  role_of,
  name_of,
  atom_of,
  operand_by,
  operand_of,
  right_level,
  allowed,
  climb,
  expr,
  Reader,
}
use Rattle.language.specs.Sections.{expression}
use Rattle.language.specs.Spelling.{infix_in, SpellsInfix, prefix_in, prefix_by, SpellsPrefix, window_in, window_by, SpellsWindow, big_in, big_by, SpellsBig, SpellsTruth, SpellsSign}
use Rattle.language.proofs.Laws.Basics.Lists.{All}
use Rattle.language.proofs.Laws.Basics.Tests.{split, some_none}
use Rattle.language.proofs.Laws.Basics.Results.{done, refused, bind, Within, bind_any}
use Rattle.language.proofs.Laws.Grammar.TokenReads.{among}

-- P of what is read, if something is
abbrev pub Gives : {A : Type 0} → (A → Type 0) → Read A → Type 0
Gives P r = Within (λ x. P x.0) r

abbrev pub IsName : Token → Type 0
IsName t = is_of Name t ≡ true

-- the parts of which an expression is built have P, the elements of a set E
pub record Built (P E : Expr → Type 0) : Type 0 where
  pub of_name : (t : Token) → IsName t → P (Named t)
  pub of_numeral : (t : Token) → is_of Digits t ≡ true → P (Numeral t)
  pub of_truth : (t : Token) (b : Bool) → SpellsTruth t b → P (Truth t b)
  pub of_index : (t : Token) (e : Expr) → IsName t → P e → P (Index t e)
  pub of_paren : (t : Token) (e : Expr) → P e → P (Paren t e)
  pub of_prefix : (t : Token) (o : Prefix) (e : Expr) → SpellsPrefix t o → P e → P (Prefixed t o e)
  pub of_infix : (t : Token) (o : Infix) (a b : Expr) → SpellsInfix t o → P a → P b → P (Joined t o a b)
  pub of_nexts : (t : Token) (n e : Expr) → P n → P e → P (Nexts t n e)
  pub of_window : (t : Token) (o : Window) (n m e : Expr) → SpellsWindow t o → P n → P m → P e → P (InWindow t o n m e)
  pub of_big : (t : Token) (o : Big) (further : Bool) (i : Token) (s e : Expr) → SpellsBig t o → IsName i → P s → P e → P (Each t o further i s e)
  pub of_bounds : (t : Token) (low high : Bool) (a b : Expr) → SpellsSign t low → P a → P b → P (Between t low high a b)
  pub of_listed : (t : Token) (es : Expr) → E es → P (Listed t es)
  pub of_none : E Empty
  pub of_element : (e es : Expr) → P e → E es → E (Element e es)
  pub of_range : (t : Token) (x y z : Expr) → P x → P y → P z → P (Range t x y z)

-- one reader after another, and a choice between two
module _ {A : Type 0} (Q : A → Type 0) where
  pub after : {B : Type 0} (r : Read B) (k : B × Tokens → Read A) → ((b : B) (ts : Tokens) → Gives Q (k (b, ts))) → Gives Q (r >>= k)
  after r k f = bind_any r k (λ x. f x.0 x.1)

  pub with : {B : Type 0} (S : B → Type 0) (r : Read B) (k : B × Tokens → Read A) → Gives S r → ((b : B) (ts : Tokens) → S b → Gives Q (k (b, ts))) → Gives Q (r >>= k)
  with S r k h f = bind r k h (λ x p. f x.0 x.1 p)

  pub chosen : (b : Bool) (r s : Read A) → Gives Q r → Gives Q s → Gives Q (elim b [ true ↦ r | false ↦ s ])
  chosen b r s h k = split (Gives Q) b (λ _. h) (λ _. k)

-- a token of a name
pub expect-name : (ts : Tokens) → Gives IsName (expect_of Name ts)
expect-name ts = split (Gives IsName) (is_of Name (front ts)) (λ e. done e) (λ _. refused tt)

-- the sign of a bound
abbrev IsSign : Token × Bool → Type 0
IsSign s = SpellsSign s.0 s.1

sign_read : (ts : Tokens) → Gives IsSign (sign_of ts)
sign_read ts =
    split (Gives IsSign) (named ("<" ∷ "LE" ∷ []) (front ts)) (λ e. done (sym e))
    (λ e. split (Gives IsSign) (named ("<=" ∷ "LEQ" ∷ []) (front ts)) (λ _. done (sym e)) (λ _. refused tt))

-- an operator that may stand here is Table 1's
allowed_spells : (max : ℕ) (o : Option InfixRow) {r : InfixRow} → allowed max o ≡ some r → infix_in o ≡ some r.operator
allowed_spells max none e = absurd (some_none (sym e))
allowed_spells max (some q) {r} e = go (leb q.level max) e
  where
    go : (b : Bool) → elim b [ true ↦ some q | false ↦ none ] ≡ some r → some q.operator ≡ some r.operator
    go true h = ap infix_in h
    go false h = absurd (some_none (sym h))

-- a window's operator without its brackets
alone : (o : Window) → prefix_in (Windowed o) ≡ some (Applies (elim o [ FinallyIn ↦ F | GloballyIn ↦ G ]))
alone FinallyIn = refl
alone GloballyIn = refl

-- a bar is no row of the table
bars : (t : Token) → prefix_of prefixes t ≡ none → is "|" t ≡ true → SpellsPrefix t (Measures Size)
bars t e b = ap (λ (y : Option PrefixRow). prefix_by y t) e ∙ ap (λ (y : Bool). elim y [ true ↦ some (Measures Size) | false ↦ none ]) b

-- every reader of an expression
module _ (P E : Expr → Type 0) (K : Built P E) where
  abbrev Bound : Binder → Type 0
  Bound b = IsName b.name × P b.range

  -- the parts of an expression, if `rec` gives expressions that have P
  module _ (rec : Reader) (good : (n : ℕ) (ts : Tokens) → Gives P (rec n ts)) where
    closedBy-read : (s : String) (ts : Tokens) → Gives P (closed_by rec s ts)
    closedBy-read s ts = with P P (rec loosest ts) _ (good loosest ts) (λ e us h. after P (expect s us) _ (λ c vs. done h))

    elements-read : (f : ℕ) (ts : Tokens) → Gives E (elements f rec ts)
    elements-read zero ts = refused tt
    elements-read (suc f) ts =
        chosen E (next "," ts) _ _
        (with E P (rec loosest (rest ts)) _ (good loosest (rest ts)) (λ e us h.
        with E E (elements f rec us) _ (elements-read f us) (λ es vs k. done (K.of_element e es h k))))
        (after E (expect "}" ts) _ (λ c us. done K.of_none))

    afterTwo-read : (f : ℕ) (t : Token) (x y : Expr) → P x → P y → (ts : Tokens) → Gives P (after_two f rec t x y ts)
    afterTwo-read f t x y hx hy ts =
        chosen P (next ".." ts) _ _
        (with P P (closed_by rec "}" (rest ts)) _ (closedBy-read "}" (rest ts)) (λ z us hz. done (K.of_range t x y z hx hy hz)))
        (with P E (elements f rec ts) _ (elements-read f ts) (λ es us k. done (K.of_listed t _ (K.of_element x _ hx (K.of_element y es hy k)))))

    afterOne-read : (f : ℕ) (t : Token) (x : Expr) → P x → (ts : Tokens) → Gives P (after_one f rec t x ts)
    afterOne-read f t x hx ts =
        chosen P (next "," ts) _ _
        (with P P (rec loosest (rest ts)) _ (good loosest (rest ts)) (λ y us hy. afterTwo-read f t x y hx hy us))
        (after P (expect "}" ts) _ (λ c us. done (K.of_listed t _ (K.of_element x Empty hx K.of_none))))

    setOf-read : (f : ℕ) (t : Token) (ts : Tokens) → Gives P (set_of f rec t ts)
    setOf-read f t ts =
        chosen P (next "}" ts) _ _ (done (K.of_listed t Empty K.of_none)) (with P P (rec loosest ts) _ (good loosest ts) (λ x us h. afterOne-read f t x h us))

    binderOf-read : (ts : Tokens) → Gives Bound (binder_of rec ts)
    binderOf-read ts =
        chosen Bound (is_of Name (front ts) && named among (front (rest ts))) _ _
        (with Bound IsName (expect_of Name ts) _ (expect-name ts) (λ i us y. with Bound P (rec loosest (rest us)) _ (good loosest (rest us)) (λ s vs h. done (y, h))))
        (with Bound P (rec bound_level ts) _ (good bound_level ts) (λ a us ha. with Bound IsSign (sign_of us) _ (sign_read us) (λ low vs sl. with Bound IsName (expect_of Name vs) _ (expect-name vs) (λ i ws y.
        after Bound (sign_of ws) _ (λ high xs.
        with Bound P (rec bound_level xs) _ (good bound_level xs) (λ b ys hb. done (y, K.of_bounds _ _ _ a b sl ha hb)))))))

    bindersOf-read : (f : ℕ) (ts : Tokens) → Gives (All Bound) (binders_of f rec ts)
    bindersOf-read zero ts = refused tt
    bindersOf-read (suc f) ts =
        with (All Bound) Bound (binder_of rec ts) _ (binderOf-read ts) (λ b us h.
        chosen (All Bound) (next "," us) _ _
        (with (All Bound) (All Bound) (binders_of f rec (rest us)) _ (bindersOf-read f (rest us)) (λ bs vs k. done (h, k)))
        (after (All Bound) (expect "]" us) _ (λ c vs. done (h, tt))))

    over-read : (t : Token) (o : Big) (further : Bool) (bs : List Binder) (e : Expr) → SpellsBig t o → All Bound bs → P e → P (over t o further bs e)
    over-read t o further [] e s h k = k
    over-read t o further (b ∷ bs) e s h k = K.of_big t o further b.name b.range _ s h.0.0 h.0.1 (over-read t o true bs e s h.1 k)

    -- by the role of the token's row
    module _ (f : ℕ) (t : Token) {q : PrefixRow} (at : prefix_of prefixes t ≡ some q) where
      role-prefix : {o : Prefix} → prefix_by (some q) t ≡ some o → SpellsPrefix t o
      role-prefix e = ap (λ (y : Option PrefixRow). prefix_by y t) at ∙ e

      role-window : {o : Window} → window_by (some q) ≡ some o → SpellsWindow t o
      role-window e = ap window_by at ∙ e

      role-big : {o : Big} → big_by (some q) ≡ some o → SpellsBig t o
      role-big e = ap big_by at ∙ e

      roleOf-read : (level : ℕ) (r : Role) → q.role ≡ r → (ts : Tokens) → Gives P (role_of f rec t level r ts)
      roleOf-read level (Plain p) e ts = with P P (rec level ts) _ (good level ts) (λ a us h. done (K.of_prefix t p a (role-prefix (ap prefix_in e)) h))
      roleOf-read level Counted e ts =
          chosen P (next "[" ts) _ _
          (with P P (closed_by rec "]" (rest ts)) _ (closedBy-read "]" (rest ts)) (λ n us h. with P P (rec level us) _ (good level us) (λ a vs k. done (K.of_nexts t n a h k))))
          (with P P (rec level ts) _ (good level ts) (λ a us h. done (K.of_prefix t _ a (role-prefix (ap prefix_in e)) h)))
      roleOf-read level (Windowed o) e ts =
          chosen P (next "[" ts) _ _
          (with P P (closed_by rec ":" (rest ts)) _ (closedBy-read ":" (rest ts)) (λ n us h. with P P (closed_by rec "]" us) _ (closedBy-read "]" us) (λ m vs k.
          with P P (rec level vs) _ (good level vs) (λ a ws l. done (K.of_window t o n m a (role-window (ap window_in e)) h k l)))))
          (with P P (rec level ts) _ (good level ts) (λ a us h. done (K.of_prefix t _ a (role-prefix (ap prefix_in e ∙ alone o)) h)))
      roleOf-read level (Folding o) e ts =
          after P (expect "[" ts) _ (λ c us. with P (All Bound) (binders_of f rec us) _ (bindersOf-read f us) (λ bs vs h.
          with P P (rec level vs) _ (good level vs) (λ a ws k. done (over-read t o false bs a (role-big (ap big_in e)) h k))))

    nameOf-read : (t : Token) → IsName t → (ts : Tokens) → Gives P (name_of rec t ts)
    nameOf-read t n ts =
        chosen P (next "[" ts) _ _ (with P P (closed_by rec "]" (rest ts)) _ (closedBy-read "]" (rest ts)) (λ e us h. done (K.of_index t e n h))) (done (K.of_name t n))

    atomOf-read : (f : ℕ) (t : Token) → prefix_of prefixes t ≡ none → (ts : Tokens) → Gives P (atom_of f rec t ts)
    atomOf-read f t no_row ts =
        split (Gives P) (is_of Name t) (λ n. nameOf-read t n ts)
        (λ _. split (Gives P) (is_of Digits t) (λ n. done (K.of_numeral t n))
        (λ _. chosen P (is "true" t || is "false" t) _ _ (done (K.of_truth t _ refl))
        (chosen P (is "(" t) _ _ (with P P (closed_by rec ")" ts) _ (closedBy-read ")" ts) (λ e us h. done (K.of_paren t e h)))
        (split (Gives P) (is "|" t) (λ bar. with P P (closed_by rec "|" ts) _ (closedBy-read "|" ts) (λ e us h. done (K.of_prefix t _ e (bars t no_row bar) h)))
        (λ _. chosen P (is "{" t) _ _ (setOf-read f t ts) (refused tt))))))

    operandBy-read : (f max : ℕ) (t : Token) (o : Option PrefixRow) → prefix_of prefixes t ≡ o → (ts : Tokens) → Gives P (operand_by f rec max t o ts)
    operandBy-read f max t none e ts = atomOf-read f t e ts
    operandBy-read f max t (some r) e ts = chosen P (leb r.level max) _ _ (roleOf-read f t e r.level r.role refl ts) (refused tt)

    climb-read : (f max : ℕ) (e : Expr) → P e → (ts : Tokens) → Gives P (climb f rec max e ts)
    climb-read zero max e h ts = refused tt
    climb-read (suc f) max e h ts = go (λ a k us. climb-read f max a k us) (allowed max (infix_of infixes (front ts))) refl
      where
        go : ((a : Expr) → P a → (us : Tokens) → Gives P (climb f rec max a us)) → (o : Option InfixRow) → allowed max (infix_of infixes (front ts)) ≡ o
            → Gives P (elim o [ none ↦ Done (e, ts) | some r ↦ rec (right_level r) (rest ts) >>= λ x. climb f rec max (Joined (front ts) r.operator e x.0) x.1 ])
        go on none q = done h
        go on (some r) q = with P P (rec (right_level r) (rest ts)) _ (good (right_level r) (rest ts))
            (λ b us k. on (Joined (front ts) r.operator e b) (K.of_infix (front ts) r.operator e b (allowed_spells max (infix_of infixes (front ts)) q) h k) us)

  expr-read : (f max : ℕ) (ts : Tokens) → Gives P (expr f max ts)
  expr-read zero max ts = refused tt
  expr-read (suc f) max ts =
      with P P (operand_of f (λ m us. expr f m us) max ts) _ (operandBy-read (λ m us. expr f m us) (expr-read f) f max (front ts) (prefix_of prefixes (front ts)) refl (rest ts))
      (λ e us h. climb-read (λ m vs. expr f m vs) (expr-read f) f max e h us)

  pub expression-read : (ts : Tokens) → Gives P (expression ts)
  expression-read ts = expr-read (suc (length ts)) loosest ts

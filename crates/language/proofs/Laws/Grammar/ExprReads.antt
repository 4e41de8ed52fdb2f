-- Every reader of an expression's parts goes about its tokens as ReaderLaws says: an operand that is missing is completed by `true`.
use Rattle.std.specs.Prelude.{ℕ, zero, suc, ◌-◌, ◌≤◌, ◌<◌, List, [], ◌∷◌, Bool, true, false, ◌||◌, ◌≡◌, refl, leb, length}
use Prim.Native.String.{String}
use Rattle.std.proofs.lemmas.Bool.{false≢true}
use Rattle.std.proofs.Math.Option.{Option, none, some}
use Rattle.std.proofs.Common.{sym, ap, ◌∙◌, subst, arith, leb-true}
use Rattle.node.specs.Operators.{X, F, G}
use Rattle.node.specs.Result.{Done, Refused, ◌>>=◌}
use Rattle.node.proofs.ResultLaws.{bind_to}
use Rattle.language.specs.Bytes.{is_one_of}
use Rattle.language.specs.Tokens.{Fixed, Name, Numeral as Digits, Token, is_of, is}
use Rattle.language.specs.Operators.{Size, FinallyIn, GloballyIn, Measures, Applies, Role, Plain, Counted, Windowed, Folding, InfixRow, PrefixRow, prefixes, loosest, bound_level}
use Rattle.language.specs.Tree.{Expr, Named, Numeral, Truth, Index, Paren, Prefixed, Nexts, InWindow, Between, Listed, Empty, Element, Range}
use Rattle.language.specs.Grammar.{
  Tokens,
  Read,
  front,
  rest,
  stop,
  expect,
  expect_of,
  named,
  infix_of,
  prefix_of,
  Reader,
  closed_by,
  elements,
  after_two,
  after_one,
  set_of,
  Binder,
  sign_of,
  bounds_of,
  membership_of,
  binder_of,
  binders_of,
  over,
  role_of,
  name_of,
  atom_of,
  operand_by,
  operand_of,
}
use Rattle.language.proofs.Laws.Basics.Lists.{All, Any}
use Rattle.language.proofs.Laws.Basics.Tests.{pick, leave, both, and_false, or_cases, some_none}
use Rattle.language.proofs.Laws.Grammar.TreeTokens.{InExpr, InBinder, in_over}
use Rattle.language.proofs.Laws.Grammar.Lookahead.{Alike, alike-front, Inner, inner_of, more, opened}
use Rattle.language.proofs.Laws.Grammar.ReaderLaws.{Reads, prefixed, rephrase, weaken, some_taken, wider, narrow, done}
use Rattle.language.proofs.Laws.Grammar.ReadersInRow.{rest_less, rest-inner, bind_before, bind, choose, take, one}
use Rattle.language.proofs.Laws.Grammar.TokenReads.{among, is-inner, named-inner, sign, Is, Follows, follows_at, brace, bracket, tighter, expect-reads, expect_of-reads, sign_of_reads}

-- the rows of Table 1 name signs and words
pub prefix_none : (rs : List PrefixRow) (t : Token) → is_of Fixed t ≡ false → prefix_of rs t ≡ none
prefix_none [] t e = refl
prefix_none (r ∷ rs) t e = leave (named r.names t) (some r) (prefix_of rs t) (and_false (is_of Fixed t) (is_one_of r.names t.text) e) ∙ prefix_none rs t e

pub infix_none : (rs : List InfixRow) (t : Token) → is_of Fixed t ≡ false → infix_of rs t ≡ none
infix_none [] t e = refl
infix_none (r ∷ rs) t e = leave (named r.names t) (some r) (infix_of rs t) (and_false (is_of Fixed t) (is_one_of r.names t.text) e) ∙ infix_none rs t e

-- so a token with a row is not the end
pub row-inner : {A : Type 0} (t : Token) (o : Option A) (r : A) → (is_of Fixed t ≡ false → o ≡ none) → o ≡ some r → Inner t
row-inner {A} t o r f e = go (is_of Fixed t) refl
  where
    go : (c : Bool) → is_of Fixed t ≡ c → Inner t
    go true z = inner_of Fixed t refl z
    go false z = absurd (some_none (sym e ∙ f z))

-- the expression that completes another
abbrev pub truth : Token
truth = sign "true"

-- what comes of a token t at the front: an operand begins, or it is refused
data Operand (P W : Token → Type 0) (b : ℕ) (t : Token) (ts : Tokens) (r : Read Expr) (Z : ℕ → Tokens → Read Expr) : Type 0 where
  begun : Inner t → Reads Expr P (λ e. P t → InExpr P e) Any W b 0 ts r Z → Operand P W b t ts r Z
  refused : r ≡ Refused 4 t.at → ((k : ℕ) (us : Tokens) → Z k us ≡ Refused 4 t.at) → Operand P W b t ts r Z

by_test : {P W : Token → Type 0} {b : ℕ} {t : Token} {ts : Tokens} (c : Bool) {x y : Read Expr} {X Y : ℕ → Tokens → Read Expr} → (c ≡ true → Operand P W b t ts x X)
    → (c ≡ false → Operand P W b t ts y Y) → Operand P W b t ts (elim c [ true ↦ x | false ↦ y ]) (λ k us. elim c [ true ↦ X k us | false ↦ Y k us ])
by_test true f g = f refl
by_test false f g = g refl

begins : {P S W : Token → Type 0} {b d : ℕ} {t : Token} {ts : Tokens} {Z : ℕ → Tokens → Read Expr} (r : Read Expr) → Inner t → Reads Expr P (λ e. P t → InExpr P e) S W b d ts r Z
    → Operand P W b t ts r Z
begins r i h = begun i (wider r (λ t v. tt) (weaken r (omega arith) (omega arith) (λ a q. q) h))

module _
    (P : Token → Type 0)
    (rec : Reader)
    (rec' : ℕ → Reader)
    (n : ℕ)
    (reads : (m b : ℕ) (ts : Tokens) → length ts < n → b ≤ n → Reads Expr P (InExpr P) (Is truth) (Follows m) b 1 ts (rec m ts) (λ k. rec' k m))
    (names : (t : Token) → is_of Name t ≡ true → (b : ℕ) (ts : Tokens) → suc (length ts) < n → suc b ≤ n
    → Reads Expr P (λ e. P t → InExpr P e) (Follows bound_level) (Follows bound_level) b 0 ts (rec bound_level (t ∷ ts)) (λ k us. rec' k bound_level (t ∷ us)))
  where
    closedBy-reads : {W : Token → Type 0} (s : String) → Follows loosest (sign s) → (b : ℕ) (ts : Tokens) → length ts < n → b ≤ n
        → Reads Expr P (InExpr P) (Is truth) W b 1 ts (closed_by rec s ts) (λ k us. closed_by (rec' k) s us)
    closedBy-reads s e b ts h g =
        bind_before (rec loosest ts) (follows_at e) _ _ (reads loosest b ts h g) λ e rs l.
        weaken _ (omega arith) (omega arith) (λ a q. q)
        (bind (expect s rs) _ _ (expect-reads b rs s) λ c us l'.
        done e (λ _ v. v))

    elements-reads : {W : Token → Type 0} (f : ℕ) (ts : Tokens) → f ≤ n → length ts < f → Reads Expr P (InExpr P) (Is (sign "}")) W f 1 ts (elements f rec ts) (λ k us. elements (more f k) (rec' k) us)
    elements-reads zero ts g h = absurd (omega arith)
    elements-reads (suc f) ts g h =
        choose (is ",") (λ t e. ap (is ",") e)
        (λ i. take ts _ (is-inner "," (front ts) i) (omega arith) (omega arith)
        (bind_before (rec loosest (rest ts)) (follows_at brace) _ _ (reads loosest f (rest ts) (omega (arith, rest_less ts)) (omega arith)) λ e rs l.
        weaken _ (omega arith) (omega arith) (λ a q. q)
        (bind (elements f rec rs) _ _ (elements-reads f rs (omega arith) (omega (arith, rest-inner ts (is-inner "," (front ts) i)))) λ es us l'.
        done (Element e es) (λ v' v _. (v, v')))))
        (λ _. bind (expect "}" ts) _ _ (expect-reads (suc f) ts "}") λ c us l. done Empty (λ _. tt))

    -- from here on a token t was taken before
    afterTwo-reads : {W : Token → Type 0} (f : ℕ) (t : Token) (x y : Expr) (ts : Tokens) → f ≤ n → length ts < f
        → Reads Expr P (λ e. InExpr P y → InExpr P x → P t → InExpr P e) (Is (sign "}")) W f 1 ts (after_two f rec t x y ts) (λ k us. after_two (more f k) (rec' k) t x y us)
    afterTwo-reads f t x y ts g h =
        choose (is "..") (λ t e. ap (is "..") e)
        (λ i. take ts _ (is-inner ".." (front ts) i) (omega arith) (omega arith)
        (bind (closed_by rec "}" (rest ts)) _ _ (closedBy-reads "}" brace f (rest ts) (omega (arith, rest_less ts)) g) λ z rs l. done (Range t x y z) (λ vz _ vy vx v. (v, vx, vy, vz))))
        (λ _. bind (elements f rec ts) _ _ (elements-reads f ts g h) λ es rs l. done (Listed t (Element x (Element y es))) (λ vs vy vx v. (v, (vx, (vy, vs)))))

    afterOne-reads : {W : Token → Type 0} (f : ℕ) (t : Token) (x : Expr) (ts : Tokens) → f ≤ n → length ts < f
        → Reads Expr P (λ e. InExpr P x → P t → InExpr P e) (Is (sign "}")) W f 1 ts (after_one f rec t x ts) (λ k us. after_one (more f k) (rec' k) t x us)
    afterOne-reads f t x ts g h =
        choose (is ",") (λ t e. ap (is ",") e)
        (λ i. take ts _ (is-inner "," (front ts) i) (omega arith) (omega arith)
        (bind_before (rec loosest (rest ts)) (follows_at brace) _ _ (reads loosest f (rest ts) (omega (arith, rest_less ts)) g) λ y rs l.
        weaken _ (omega arith) (omega arith) (λ a q vy _. q vy) (afterTwo-reads f t x y rs g (omega (arith, rest_less ts)))))
        (λ _. bind (expect "}" ts) _ _ (expect-reads f ts "}") λ c rs l. done (Listed t (Element x Empty)) (λ _ vx v. (v, (vx, tt))))

    setOf-reads : {W : Token → Type 0} (f : ℕ) (t : Token) (ts : Tokens) → f ≤ n → length ts < f
        → Reads Expr P (λ e. P t → InExpr P e) (Is truth) W f 1 ts (set_of f rec t ts) (λ k us. set_of (more f k) (rec' k) t us)
    setOf-reads f t ts g h =
        choose (is "}") (λ t e. ap (is "}") e)
        (λ i. one ts (λ _. Listed t Empty) (is-inner "}" (front ts) i) (λ _ _ v. (v, tt)))
        (λ _. bind_before (rec loosest ts) (follows_at brace) _ _ (reads loosest f ts (omega arith) g) λ x rs l. weaken _ (omega arith) (omega arith) (λ a q. q)
        (afterOne-reads f t x rs g (omega arith)))

    pub nameOf-reads : (m b : ℕ) (t : Token) (ts : Tokens) → b ≤ n → length ts < n
        → Reads Expr P (λ e. P t → InExpr P e) (Follows m) (Follows m) b 0 ts (name_of rec t ts) (λ k us. name_of (rec' k) t us)
    nameOf-reads m b t ts g h =
        choose (is "[") (λ t e. e.index)
        (λ i. take ts _ (is-inner "[" (front ts) i) (omega arith) (omega arith)
        (bind (closed_by rec "]" (rest ts)) _ _ (closedBy-reads "]" bracket b (rest ts) (omega (arith, rest_less ts)) g) λ e rs l. done (Index t e) (λ ve _ v. (v, ve))))
        (λ _. done (Named t) (λ v. v))

    boundsAfter-reads : (b : ℕ) (a : Expr) (ts : Tokens) → b ≤ n → length ts < n →
        Reads Binder P (λ x. InExpr P a → InBinder P x) (Is (sign "<=")) (Follows bound_level) b 1 ts
        (sign_of ts >>= λ (low, ts). expect_of Name ts >>= λ (i, ts). sign_of ts >>= λ (high, ts). rec bound_level ts >>= λ (b, ts). Done (record { name = i; range = Between low.0 low.1 high.1 a b }, ts))
        (λ k us. sign_of us >>= λ (low, ts). expect_of Name ts >>= λ (i, ts). sign_of ts >>= λ (high, ts). rec' k bound_level ts >>= λ (b, ts). Done
        (record { name = i; range = Between low.0 low.1 high.1 a b }, ts))
    boundsAfter-reads b a ts g h =
        bind (sign_of ts) _ _ (sign_of_reads b ts) λ low rs₂ l₂. some_taken
        (bind (expect_of Name rs₂) _ _ (expect_of-reads b rs₂ Name refl refl) λ i rs₃ l₃. some_taken
        (bind (sign_of rs₃) _ _ (sign_of_reads b rs₃) λ high rs₄ l₄. some_taken
        (bind (rec bound_level rs₄) _ _ (reads bound_level b rs₄ (omega arith) g) λ c rs₅ l₅.
        done (record { name = i; range = Between low.0 low.1 high.1 a c }) (λ vc _ vi vl va. (vi, (vl, va, vc))))))

    at_most : Follows bound_level (sign "<=")
    at_most = record { operator = refl; index = refl; member = refl }

    boundsOf-reads : (b : ℕ) (ts : Tokens) → b ≤ n → length ts < n → Reads Binder P (InBinder P) (Is truth) (Follows bound_level) b 1 ts (bounds_of rec ts) (λ k us. bounds_of (rec' k) us)
    boundsOf-reads b ts g h = bind_before (rec bound_level ts) (follows_at at_most) _ _ (reads bound_level b ts h g) λ a rs l. some_taken (boundsAfter-reads b a rs g (omega arith))

    inside : (t : Token) → Follows loosest t → Follows bound_level t
    inside = tighter bound_level loosest (omega arith)

    -- with a name at the front, two tokens are looked at: here the second is the front
    afterName-reads : (b : ℕ) (t : Token) (ts : Tokens) → suc b ≤ n → suc (length ts) < n → is_of Name t ≡ true →
        Reads Binder P (λ x. P t → InBinder P x) (Follows bound_level) (Follows loosest) b 0 ts
        (elim (named among (front ts)) [ true ↦ membership_of rec (t ∷ ts) | false ↦ bounds_of rec (t ∷ ts) ])
        (λ k us. elim (named among (front us)) [ true ↦ membership_of (rec' k) (t ∷ us) | false ↦ bounds_of (rec' k) (t ∷ us) ])
    afterName-reads b t ts g h i =
        let is_member : (r : Reader) (us : Tokens) → membership_of r (t ∷ us) ≡ (r loosest (rest us) >>= λ (s, vs). Done (record { name = t; range = s }, vs)) =
        λ r us. bind_to (expect_of Name (t ∷ us)) (t, us) _ (pick (is_of Name t) (Done (t, us)) (stop (t ∷ us)) i) in
        choose (named among) (λ t e. e.member)
        (λ e. rephrase _ (is_member rec ts) (λ k us. is_member (rec' k) us)
        (take ts _ (named-inner among (front ts) e) (omega arith) (omega arith)
        (bind (rec loosest (rest ts)) _ _ (reads loosest b (rest ts) (omega (arith, rest_less ts)) (omega arith)) λ s rs l. done (record { name = t; range = s }) (λ v _ w. (w, v)))))
        (λ _. narrow _ inside (bind_before (rec bound_level (t ∷ ts)) (follows_at at_most) _ _ (names t i b ts h g) λ a rs l. weaken _ (omega arith) (omega arith) (λ x q f v. q (f v))
        (boundsAfter-reads b a rs (omega arith) (omega arith))))

    nameFirst-reads : (b : ℕ) (ts : Tokens) → b ≤ n → length ts < n → is_of Name (front ts) ≡ true →
        Reads Binder P (InBinder P) (λ t. ⊥) (Follows loosest) b 1 ts
        (elim (named among (front (rest ts))) [ true ↦ membership_of rec ts | false ↦ bounds_of rec ts ])
        (λ k us. elim (named among (front (rest us))) [ true ↦ membership_of (rec' k) us | false ↦ bounds_of (rec' k) us ])
    nameFirst-reads b [] g h i = absurd (false≢true i)
    nameFirst-reads b (t ∷ ts) g h i =
        prefixed (λ k us. elim (named among (front (rest us))) [ true ↦ membership_of (rec' k) us | false ↦ bounds_of (rec' k) us ]) t _
        (inner_of Name t refl i) (omega arith) (omega arith) (afterName-reads (n - 1) t ts (omega arith) h i)

    binderOf-reads : (b : ℕ) (ts : Tokens) → b ≤ n → length ts < n → Reads Binder P (InBinder P) (Is truth) (Follows loosest) b 1 ts (binder_of rec ts) (λ k us. binder_of (rec' k) us)
    binderOf-reads b ts g h =
        let nested : (r : Reader) (us : Tokens) → binder_of r us ≡ elim (is_of Name (front us))
        [ true ↦ elim (named among (front (rest us))) [ true ↦ membership_of r us | false ↦ bounds_of r us ] | false ↦ bounds_of r us ] =
        λ r us. both (is_of Name (front us)) (named among (front (rest us))) (membership_of r us) (bounds_of r us) in
        rephrase _ (nested rec ts) (λ k us. nested (rec' k) us)
        (choose (is_of Name) (λ t e. ap (is_of Name) e) (λ i. nameFirst-reads b ts g h i) (λ _. narrow _ inside (boundsOf-reads b ts g h)))

    bindersOf-reads : {W : Token → Type 0} (f : ℕ) (ts : Tokens) → f ≤ n → length ts < f
        → Reads (List Binder) P (All (InBinder P)) (Is truth) W f 1 ts (binders_of f rec ts) (λ k us. binders_of (more f k) (rec' k) us)
    bindersOf-reads zero ts g h = absurd (omega arith)
    bindersOf-reads (suc f) ts g h =
        bind_before (binder_of rec ts) (follows_at bracket) _ _ (binderOf-reads (suc f) ts g (omega arith)) λ b rs l. some_taken
        (choose (is ",") (λ t e. ap (is ",") e)
        (λ i. take rs _ (is-inner "," (front rs) i) (omega arith) (omega arith)
        (bind (binders_of f rec (rest rs)) _ _ (bindersOf-reads f (rest rs) (omega arith) (omega (arith, rest-inner rs (is-inner "," (front rs) i)))) λ bs us l'. done (b ∷ bs) (λ v' _ v. (v, v'))))
        (λ _. bind (expect "]" rs) _ _ (expect-reads (suc f) rs "]") λ c us l'. done (b ∷ []) (λ _ v. (v, tt))))

    operand-reads : {Q : Expr → Type 0} (b max level : ℕ) (ts : Tokens) (f : Expr → Expr) → b ≤ n → level ≤ max → length ts < n → ((e : Expr) → InExpr P e → Q (f e))
        → Reads Expr P Q (Is truth) (Follows max) b 1 ts (rec level ts >>= λ (e, us). Done (f e, us)) (λ k us. rec' k level us >>= λ (e, vs). Done (f e, vs))
    operand-reads b max level ts f g m h q = bind_before (rec level ts) (tighter level max m) _ _ (reads level b ts h g) λ e rs z. done (f e) (q e)

    roleOf-reads : (f max : ℕ) (t : Token) (level : ℕ) (o : Role) (ts : Tokens) → f ≤ n → level ≤ max → length ts < f → Inner t
        → Operand P (Follows max) f t ts (role_of f rec t level o ts) (λ k us. role_of (more f k) (rec' k) t level o us)
    roleOf-reads f max t level (Plain o) ts g m h i = begins _ i (operand-reads f max level ts (λ e. Prefixed t o e) g m (omega arith) (λ e w v. (v, w)))
    roleOf-reads f max t level Counted ts g m h i =
        begins _ i
        (choose (is "[") (λ t e. ap (is "[") e)
        (λ j. take ts _ (is-inner "[" (front ts) j) (omega arith) (omega arith)
        (bind (closed_by rec "]" (rest ts)) _ _ (closedBy-reads "]" bracket f (rest ts) (omega (arith, rest_less ts)) g) λ a rs l. some_taken
        (operand-reads f max level rs (λ e. Nexts t a e) g m (omega (arith, rest_less ts)) (λ e w va _ v. (v, va, w)))))
        (λ _. operand-reads f max level ts (λ e. Prefixed t (Applies X) e) g m (omega arith) (λ e w v. (v, w))))
    roleOf-reads f max t level (Windowed o) ts g m h i =
        begins _ i
        (choose (is "[") (λ t e. ap (is "[") e)
        (λ j. take ts _ (is-inner "[" (front ts) j) (omega arith) (omega arith)
        (bind (closed_by rec ":" (rest ts)) _ _ (closedBy-reads ":" (record { operator = refl; index = refl; member = refl }) f (rest ts) (omega (arith, rest_less ts)) g) λ a rs l. some_taken
        (bind (closed_by rec "]" rs) _ _ (closedBy-reads "]" bracket f rs (omega (arith, rest_less ts)) g) λ c us l'. some_taken
        (operand-reads f max level us (λ e. InWindow t o a c e) g m (omega (arith, rest_less ts)) (λ e w vc va _ v. (v, va, vc, w))))))
        (λ _. operand-reads f max level ts (λ e. Prefixed t (Applies (elim o [ FinallyIn ↦ F | GloballyIn ↦ G ])) e) g m (omega arith) (λ e w v. (v, w))))
    roleOf-reads f max t level (Folding o) ts g m h i =
        begins _ i
        (bind (expect "[" ts) _ _ (expect-reads f ts "[") λ c rs l. some_taken
        (bind (binders_of f rec rs) _ _ (bindersOf-reads f rs g (omega arith)) λ bs us l'. some_taken
        (operand-reads f max level us (λ e. over t o false bs e) g m (omega arith) (λ e w vs _ v. in_over P t o false bs e v vs w))))

    atomOf-reads : (f max : ℕ) (t : Token) (ts : Tokens) → f ≤ n → length ts < f → Operand P (Follows max) f t ts (atom_of f rec t ts) (λ k us. atom_of (more f k) (rec' k) t us)
    atomOf-reads f max t ts g h =
        by_test (is_of Name t) (λ i. begins _ (inner_of Name t refl i) (nameOf-reads max f t ts g (omega arith)))
        (λ _. by_test (is_of Digits t) (λ i. begins _ (inner_of Digits t refl i) (done (Numeral t) (λ v. v)))
        (λ _. by_test (is "true" t || is "false" t) (λ i. begins _ (or_cases (is "true" t) (is "false" t) (is-inner "true" t) (is-inner "false" t) i) (done (Truth t (is "true" t)) (λ v. v)))
        (λ _. by_test (is "(" t) (λ i. closed-reads ")" (record { operator = refl; index = refl; member = refl }) (λ e. Paren t e) (is-inner "(" t i) (λ e w v. (v, w)))
        (λ _. by_test (is "|" t) (λ i. closed-reads "|" (record { operator = refl; index = refl; member = refl }) (λ e. Prefixed t (Measures Size) e) (is-inner "|" t i) (λ e w v. (v, w)))
        (λ _. by_test (is "{" t) (λ i. begins _ (is-inner "{" t i) (setOf-reads f t ts g h)) (λ _. refused refl (λ k us. refl)))))))
      where
        closed-reads : (s : String) → Follows loosest (sign s) → (w : Expr → Expr) → Inner t → ((e : Expr) → InExpr P e → P t → InExpr P (w e))
            → Operand P (Follows max) f t ts (closed_by rec s ts >>= λ (e, us). Done (w e, us)) (λ k us. closed_by (rec' k) s us >>= λ (e, vs). Done (w e, vs))
        closed-reads s z w i q = begins _ i (bind (closed_by rec s ts) _ _ (closedBy-reads s z f ts (omega arith) g) λ e rs l. done (w e) (q e))

    operandBy-reads : (f max : ℕ) (t : Token) (o : Option PrefixRow) (ts : Tokens) → f ≤ n → length ts < f → ((r : PrefixRow) → o ≡ some r → Inner t)
        → Operand P (Follows max) f t ts (operand_by f rec max t o ts) (λ k us. operand_by (more f k) (rec' k) max t o us)
    operandBy-reads f max t none ts g h i = atomOf-reads f max t ts g h
    operandBy-reads f max t (some r) ts g h i = by_test (leb r.level max) (λ e. roleOf-reads f max t r.level r.role ts g (leb-true r.level max e) h (i r refl))
        (λ _. refused refl (λ k us. refl))

    operand-stops : (f max : ℕ) (ts : Tokens) → operand_of f rec max ts ≡ Refused 4 (front ts).at
        → ((k : ℕ) (us : Tokens) → Alike ts us → operand_of (more f k) (rec' k) max us ≡ Refused 4 (front ts).at) →
        Reads Expr P (InExpr P) (Is truth) (Follows max) (suc f) 1 ts (operand_of f rec max ts) (λ k us. operand_of (more f k) (rec' k) max us)
    operand-stops f max ts e z =
        subst (λ r. Reads Expr P (InExpr P) (Is truth) (Follows max) (suc f) 1 ts r (λ k us. operand_of (more f k) (rec' k) max us)) (sym e)
        (record {
          says = (
            refl,
            record {
              taken = [];
              left = ts;
              whole = refl;
              inner = tt;
              place = refl;
              again = λ k us w l. z k us w;
              completes = record { ending = truth ∷ []; value = Truth truth true; enough = omega arith; accepted = λ k us w l. refl; opens = λ us w. opened refl };
            },
          );
        })

    pub operandOf-reads : (f max : ℕ) (ts : Tokens) → f ≤ n → length ts ≤ f
        → Reads Expr P (InExpr P) (Is truth) (Follows max) (suc f) 1 ts (operand_of f rec max ts) (λ k us. operand_of (more f k) (rec' k) max us)
    operandOf-reads f max [] g h = operand-stops f max [] refl empty
      where
        empty : (k : ℕ) (us : Tokens) → Alike [] us → operand_of (more f k) (rec' k) max us ≡ Refused 4 0
        empty k [] w = refl
        empty k (u ∷ us) w = absurd w
    operandOf-reads f max (t ∷ ts) g h = go (operandBy-reads f max t (prefix_of prefixes t) ts g (omega arith) (λ r e. row-inner t (prefix_of prefixes t) r (prefix_none prefixes t) e))
      where
        go : Operand P (Follows max) f t ts (operand_of f rec max (t ∷ ts)) (λ k us. operand_of (more f k) (rec' k) max (t ∷ us))
            → Reads Expr P (InExpr P) (Is truth) (Follows max) (suc f) 1 (t ∷ ts) (operand_of f rec max (t ∷ ts)) (λ k us. operand_of (more f k) (rec' k) max us)
        go (begun i z) = prefixed (λ k us. operand_of (more f k) (rec' k) max us) t _ i (omega arith) (omega arith) z
        go (refused e z) = operand-stops f max (t ∷ ts) e (λ k us w. ap (λ u. operand_by (more f k) (rec' k) max u (prefix_of prefixes u) (rest us)) (alike-front (t ∷ ts) us w) ∙ z k (rest us))

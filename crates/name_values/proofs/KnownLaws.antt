-- What is known of an expression is known of its operands; of a big operator's operand for every element of its set.
use Rattle.std.specs.Prelude.{ℕ, suc, ◌+◌, ◌-◌, ◌≤◌, Bool, true, false, List, [], ◌∷◌, ◌++◌, ◌≡◌, length, get_or}
use Rattle.std.proofs.Common.{append_assoc, sym, subst, arith, length-append}
use Rattle.std.proofs.Math.Option.{Option, none, some}
use Rattle.language.specs.Limits.{max_names}
use Rattle.language.specs.Tokens.{Token}
use Rattle.language.specs.Operators.{Infix, Prefix, Window, Big}
use Rattle.language.specs.Tree.{Expr, Index, Paren, Prefixed, Joined, Nexts, InWindow, Each, Between, Listed, Element, Range}
use Rattle.language.specs.Grammar.{Tokens}
use Rattle.language.specs.Expansion.{Context, at}
use Rattle.language.specs.Braces.{Proper}
use Rattle.entries.specs.Kinds as Kind
use Rattle.entries.specs.Flat.{Entry, under, flat}
pub use Rattle.entries.specs.FlatLaws.{own-more}
use Rattle.entries.specs.Stored.{EndsAt}
use Rattle.entries.specs.StoredLaws.{ends-below, ends_last, ends-before}
use Rattle.name_values.specs.World.{World}
use Rattle.name_values.specs.Agrees.{Agrees}
use Rattle.name_values.specs.Known.{Known}

module _ {w : List ℕ} {ts : Tokens} where
  -- nothing stands everywhere
  ends_none : (k : ℕ) → EndsAt w ts k []
  ends_none k = record { start = suc k; size = omega arith; entries = tt }

  below : {k : ℕ} (n : ℕ) (t : Option Token) (es : List Entry) → EndsAt w ts k (under n t es) → EndsAt w ts (k - 1) es
  below {k} n t [] h = ends_none (k - 1)
  below n t (e ∷ es) h = ends-below n t (e ∷ es) h (omega arith)

  before : {k : ℕ} (xs ys : List Entry) → EndsAt w ts k (xs ++ ys) → EndsAt w ts (k - length ys) xs
  before {k} [] ys h = ends_none (k - length ys)
  before (x ∷ xs) ys h = ends-before (x ∷ xs) ys h (omega arith)

-- the entries of three operands
three : (xs ys zs : List Entry) → length (xs ++ (ys ++ zs)) ≡ length xs + length ys + length zs
three xs ys zs = let a = length-append xs (ys ++ zs) in let b = length-append ys zs in omega arith

module _ {ts : Tokens} {w refs : List ℕ} {W : World} {env : List ℕ} {c : Context} {k : ℕ} where
  -- the operands of an entry, by how many there are
  one : (p : Bool) (limit n : ℕ) (t : Option Token) (a : Expr) → EndsAt w ts k (under n t (flat a)) → limit + length (under n t (flat a)) ≤ suc k → Agrees W refs limit env c (k - 1) a → Proper p a
      → Known ts w refs W env c p (k - 1) a
  one p limit n t a h b g f = let l = own-more n t (flat a) in record { at = below n t (flat a) h; limit = limit; within = omega arith; agrees = g; proper = f }

  two : (p q : Bool) (limit n : ℕ) (t : Option Token) (x y : Expr) → EndsAt w ts k (under n t (flat x ++ flat y)) → limit + length (under n t (flat x ++ flat y)) ≤ suc k
      → Agrees W refs limit env c (k - 1 - length (flat y)) x × Agrees W refs limit env c (k - 1) y → Proper p x × Proper q y
      → Known ts w refs W env c p (k - 1 - length (flat y)) x × Known ts w refs W env c q (k - 1) y
  two p q limit n t x y h b g f =
      let l = own-more n t (flat x ++ flat y) in
      let m = length-append (flat x) (flat y) in
      let o = below n t (flat x ++ flat y) h in (
        record { at = before (flat x) (flat y) o; limit = limit; within = omega arith; agrees = g.0; proper = f.0 },
        record { at = ends_last (flat x) (flat y) o; limit = limit; within = omega arith; agrees = g.1; proper = f.1 },
      )

  all_three : (limit n : ℕ) (t : Option Token) (x y z : Expr) → EndsAt w ts k (under n t (flat x ++ (flat y ++ flat z))) → limit + length (under n t (flat x ++ (flat y ++ flat z))) ≤ suc k
      → Agrees W refs limit env c (k - 1 - length (flat z) - length (flat y)) x × Agrees W refs limit env c (k - 1 - length (flat z)) y × Agrees W refs limit env c (k - 1) z
      → Proper false x × Proper false y × Proper false z → Known ts w refs W env c false (k - 1 - length (flat z) - length (flat y)) x × Known ts w refs W env c false (k - 1 - length (flat z)) y ×
      Known ts w refs W env c false (k - 1) z
  all_three limit n t x y z h b g f =
      let l = own-more n t (flat x ++ (flat y ++ flat z)) in
      let m = three (flat x) (flat y) (flat z) in
      let o = below n t (flat x ++ (flat y ++ flat z)) h in
      let p = subst (EndsAt w ts (k - 1)) (sym (append_assoc (flat x) (flat y) (flat z))) o in
      let q = before (flat x ++ flat y) (flat z) p in (
        record { at = before (flat x) (flat y) q; limit = limit; within = omega arith; agrees = g.0; proper = f.0 },
        record { at = ends_last (flat x) (flat y) q; limit = limit; within = omega arith; agrees = g.1; proper = f.1 },
        record { at = ends_last (flat x ++ flat y) (flat z) p; limit = limit; within = omega arith; agrees = g.2; proper = f.2 },
      )

  -- by constructor; elements stand in braces only
  module _ {braces : Bool} where
    pub known-index : (t : Token) (e : Expr) → Known ts w refs W env c braces k (Index t e) → Known ts w refs W env c false (k - 1) e
    known-index t e h = one false h.limit Kind.index (some t) e h.at h.within h.agrees.1 h.proper.1

    pub known-paren : (t : Token) (e : Expr) → Known ts w refs W env c braces k (Paren t e) → Known ts w refs W env c false (k - 1) e
    known-paren t e h = one false h.limit Kind.paren (some t) e h.at h.within h.agrees h.proper.1

    pub known-prefixed : (t : Token) (o : Prefix) (e : Expr) → Known ts w refs W env c braces k (Prefixed t o e) → Known ts w refs W env c false (k - 1) e
    known-prefixed t o e h = one false h.limit (Kind.before o) (some t) e h.at h.within h.agrees h.proper.1

    pub known-listed : (t : Token) (e : Expr) → Known ts w refs W env c braces k (Listed t e) → Known ts w refs W env c true (k - 1) e
    known-listed t e h = one true h.limit Kind.listed (some t) e h.at h.within h.agrees h.proper.1

    pub known_joined : (t : Token) (o : Infix) (x y : Expr) → Known ts w refs W env c braces k (Joined t o x y)
        → Known ts w refs W env c false (k - 1 - length (flat y)) x × Known ts w refs W env c false (k - 1) y
    known_joined t o x y h = two false false h.limit (Kind.joining o) (some t) x y h.at h.within h.agrees (h.proper.1, h.proper.2)

    pub known-nexts : (t : Token) (x y : Expr) → Known ts w refs W env c braces k (Nexts t x y) → Known ts w refs W env c false (k - 1 - length (flat y)) x × Known ts w refs W env c false (k - 1) y
    known-nexts t x y h = two false false h.limit Kind.nexts (some t) x y h.at h.within h.agrees (h.proper.1, h.proper.2)

    pub known-between : (t : Token) (l m : Bool) (x y : Expr) → Known ts w refs W env c braces k (Between t l m x y)
        → Known ts w refs W env c false (k - 1 - length (flat y)) x × Known ts w refs W env c false (k - 1) y
    known-between t l m x y h = two false false h.limit (Kind.between m) (some t) x y h.at h.within h.agrees (h.proper.1, h.proper.2)

    pub known-element : (x y : Expr) → Known ts w refs W env c braces k (Element x y) → Known ts w refs W env c false (k - 1 - length (flat y)) x × Known ts w refs W env c true (k - 1) y
    known-element x y h = two false true h.limit Kind.element none x y h.at h.within h.agrees (h.proper.1, h.proper.2)

    pub known-window : (t : Token) (o : Window) (x y z : Expr) → Known ts w refs W env c braces k (InWindow t o x y z)
        → Known ts w refs W env c false (k - 1 - length (flat z) - length (flat y)) x × Known ts w refs W env c false (k - 1 - length (flat z)) y × Known ts w refs W env c false (k - 1) z
    known-window t o x y z h = all_three h.limit Kind.window (some t) x y z h.at h.within h.agrees (h.proper.1, h.proper.2, h.proper.3)

    pub known-range : (t : Token) (x y z : Expr) → Known ts w refs W env c braces k (Range t x y z)
        → Known ts w refs W env c false (k - 1 - length (flat z) - length (flat y)) x × Known ts w refs W env c false (k - 1 - length (flat z)) y × Known ts w refs W env c false (k - 1) z
    known-range t x y z h = all_three h.limit Kind.range (some t) x y z h.at h.within h.agrees (h.proper.1, h.proper.2, h.proper.3)

    -- the set outside the operator's name, which has the next slot; the operand under it
    pub known-each : (t : Token) (o : Big) (further : Bool) (i : Token) (s e : Expr) → Known ts w refs W env c braces k (Each t o further i s e)
        → Known ts w refs W env c false (k - 1 - length (flat e) - 1) s × (get_or refs (k - 1 - length (flat e)) 0 ≡ max_names + length env) ×
        ((v : ℕ) → Known ts w refs W (v ∷ env) (at c i v) false (k - 1) e)
    known-each t o further i s e h =
        let b = under (Kind.binder further) (some i) (flat s) in
        let l = own-more (Kind.big o) (some t) (b ++ flat e) in
        let m = length-append b (flat e) in
        let n = own-more (Kind.binder further) (some i) (flat s) in
        let f = h.within in
        let p = below (Kind.big o) (some t) (b ++ flat e) h.at in (
          record { at = below (Kind.binder further) (some i) (flat s) (before b (flat e) p); limit = h.limit; within = omega arith; agrees = h.agrees.0; proper = h.proper.1 },
          h.agrees.1,
          λ v. record { at = ends_last b (flat e) p; limit = h.limit; within = omega arith; agrees = h.agrees.2 v; proper = h.proper.2 },
        )

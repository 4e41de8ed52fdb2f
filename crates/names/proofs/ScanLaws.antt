-- The entries of an expression give the place that the walk over its tree gives, and leave the visible names as they were.
use Rattle.std.specs.Prelude.{ℕ, suc, List, [], ◌∷◌, ◌++◌, Bool, ◌||◌, ◌≡◌, length}
use Rattle.std.proofs.Common.{append_assoc, ◌∙◌}
use Rattle.std.proofs.Math.Bool.{true, false}
use Rattle.std.proofs.Math.Option.{Option, none, some}
use Rattle.std.proofs.Math.Path.{refl, sym, ap, ap₂}
use Rattle.language.specs.Tokens.{Token}
use Rattle.language.specs.Operators.{Big}
use Rattle.language.specs.Tree.{Expr, Named, Numeral, Truth, Index, Paren, Prefixed, Joined, Nexts, InWindow, Each, Between, Listed, Empty, Element, Range}
use Rattle.language.specs.Places.{first}
use Rattle.language.specs.Names.{Names, walk}
use Rattle.language.proofs.Laws.Basics.Tests.{pick, leave}
use Rattle.language.proofs.Laws.Basics.NoPlace.{first_assoc, first_comm}
use Rattle.entries.specs.Kinds as Kind
use Rattle.entries.specs.Flat.{Entry, under, flat}
use Rattle.names.specs.Roles.{uses, binds, ends, declares, Quiet, Ending}
use Rattle.names.specs.QuietLaws.{quiet_truth, quiet_before, quiet_joining, quiet_window, quiet_between, ending-big, quiet}
use Rattle.names.specs.Scan.{outer, after, here, scan}

turned : (s b e r : Option ℕ) → first s (first b (first e r)) ≡ first (first b (first s e)) r
turned s b e r =
    sym (first_assoc s b (first e r)) ∙ ap (λ p. first p (first e r)) (first_comm s b) ∙ first_assoc b s (first e r)
    ∙ ap (first b) (sym (first_assoc s e r)) ∙ sym (first_assoc b (first s e) r)

pub neither : (a b : Bool) → a ≡ false → b ≡ false → (a || b) ≡ false
neither true b e f = e
neither false b e f = f

module _ (used bound : Names → Token → Option ℕ) where
  abbrev places : Names → List Entry → Option ℕ
  places = scan used bound

  -- an entry that does nothing to names
  pub scan_quiet : (ns : Names) (n : Entry) (es : List Entry) → Quiet n.kind → places ns (n ∷ es) ≡ places ns es
  unfolding scan here after
  scan_quiet ns n es q =
      ap₂ first (leave (uses n.kind) _ _ q.no_use ∙ leave (binds n.kind) _ _ q.no_binder)
      (ap (λ m. scan used bound m es)
      (leave (binds n.kind || declares Kind.parameter n.kind) _ _ (neither (binds n.kind) (declares Kind.parameter n.kind) q.no_binder q.no_declared)
      ∙ leave (ends n.kind) _ _ q.no_end))

  pub scan-end : (ns : Names) (n : Entry) (es : List Entry) → Ending n.kind → places ns (n ∷ es) ≡ places (outer ns) es
  unfolding scan here after
  scan-end ns n es q =
      ap₂ first (leave (uses n.kind) _ _ q.no_use ∙ leave (binds n.kind) _ _ q.no_binder)
      (ap (λ m. scan used bound m es)
      (leave (binds n.kind || declares Kind.parameter n.kind) _ _ (neither (binds n.kind) (declares Kind.parameter n.kind) q.no_binder q.no_declared)
      ∙ pick (ends n.kind) _ _ q.is-end))

  -- the name of a big operator
  scan_bind : (ns : Names) (further : Bool) (i : Token) (size : ℕ) (es : List Entry)
      → places ns (record { kind = Kind.binder further; token = some i; size = size } ∷ es) ≡ first (bound ns i) (places (i ∷ ns) es)
  unfolding scan here after
  scan_bind ns false i size es = refl
  scan_bind ns true i size es = refl

  -- an expression, then other entries
  abbrev Follows : Names → Expr → Type 0
  Follows ns e = (es : List Entry) → places ns (flat e ++ es) ≡ first (walk used bound ns e) (places ns es)

  -- one operand behind the other
  then : (ns : Names) (a b : Expr) → Follows ns a → Follows ns b → (es : List Entry) → places ns ((flat a ++ flat b) ++ es) ≡ first (first (walk used bound ns a) (walk used bound ns b)) (places ns es)
  then ns a b f g es =
      ap (places ns) (append_assoc (flat a) (flat b) es) ∙ f (flat b ++ es) ∙ ap (first (walk used bound ns a)) (g es)
      ∙ sym (first_assoc (walk used bound ns a) (walk used bound ns b) (places ns es))

  three : (ns : Names) (a b c : Expr) → Follows ns a → Follows ns b → Follows ns c → (es : List Entry)
      → places ns ((flat a ++ (flat b ++ flat c)) ++ es) ≡ first (first (walk used bound ns a) (first (walk used bound ns b) (walk used bound ns c))) (places ns es)
  three ns a b c f g h es =
      ap (places ns) (append_assoc (flat a) (flat b ++ flat c) es) ∙ f ((flat b ++ flat c) ++ es) ∙ ap (first (walk used bound ns a)) (then ns b c g h es)
      ∙ sym (first_assoc (walk used bound ns a) (first (walk used bound ns b) (walk used bound ns c)) (places ns es))

  -- a quiet entry behind its operands
  wrapped : (ns : Names) (e : Expr) (k : ℕ) (t : Option Token) (ops : List Entry) → Quiet k → ((es : List Entry) → places ns (ops ++ es) ≡ first (walk used bound ns e) (places ns es))
      → (es : List Entry) → places ns (under k t ops ++ es) ≡ first (walk used bound ns e) (places ns es)
  wrapped ns e k t ops q f es =
      let own : Entry = record { kind = k; token = t; size = suc (length ops) } in
      ap (places ns) (append_assoc ops (own ∷ []) es) ∙ f (own ∷ es) ∙ ap (first (walk used bound ns e)) (scan_quiet ns own es q)

  -- a big operator: its set, its name, its operand under the name, its end
  each : (ns : Names) (t : Token) (o : Big) (further : Bool) (i : Token) (s e : Expr) → Follows ns s → Follows (i ∷ ns) e → Follows ns (Each t o further i s e)
  each ns t o further i s e f g es =
      let binder = under (Kind.binder further) (some i) (flat s) in
      let end : Entry = record { kind = Kind.big o; token = some t; size = suc (length (binder ++ flat e)) } in
      ap (places ns) (append_assoc (binder ++ flat e) (end ∷ []) es ∙ append_assoc binder (flat e) (end ∷ es) ∙ append_assoc (flat s) _ (flat e ++ end ∷ es))
      ∙ f _
      ∙ ap (first (walk used bound ns s)) (scan_bind ns further i _ _ ∙ ap (first (bound ns i)) (g (end ∷ es) ∙ ap (first (walk used bound (i ∷ ns) e)) (scan-end (i ∷ ns) end es (ending-big o))))
      ∙ turned (walk used bound ns s) (bound ns i) (walk used bound (i ∷ ns) e) (places ns es)

  pub walk-flat : (ns : Names) (e : Expr) → Follows ns e
  unfolding scan here after
  walk-flat ns (Named t) es = refl
  walk-flat ns (Numeral t) es = refl
  walk-flat ns (Truth t b) es = scan_quiet ns (record { kind = Kind.truth; token = some t; size = 1 }) es quiet_truth
  walk-flat ns (Index t e) es =
      ap (places ns) (append_assoc (flat e) _ es) ∙ walk-flat ns e _
      ∙ sym (first_assoc (walk used bound ns e) (used ns t) (places ns es))
      ∙ ap (λ p. first p (places ns es)) (first_comm (walk used bound ns e) (used ns t))
  walk-flat ns (Paren t e) es = wrapped ns (Paren t e) Kind.paren (some t) (flat e) (quiet refl refl refl refl) (walk-flat ns e) es
  walk-flat ns (Prefixed t o e) es = wrapped ns (Prefixed t o e) (Kind.before o) (some t) (flat e) (quiet_before o) (walk-flat ns e) es
  walk-flat ns (Joined t o a b) es = wrapped ns (Joined t o a b) (Kind.joining o) (some t) (flat a ++ flat b) (quiet_joining o) (then ns a b (walk-flat ns a) (walk-flat ns b)) es
  walk-flat ns (Nexts t n e) es = wrapped ns (Nexts t n e) Kind.nexts (some t) (flat n ++ flat e) (quiet refl refl refl refl) (then ns n e (walk-flat ns n) (walk-flat ns e)) es
  walk-flat ns (InWindow t o n m e) es = wrapped ns (InWindow t o n m e) Kind.window (some t) (flat n ++ (flat m ++ flat e)) quiet_window
      (three ns n m e (walk-flat ns n) (walk-flat ns m) (walk-flat ns e)) es
  walk-flat ns (Each t o further i s e) es = each ns t o further i s e (walk-flat ns s) (walk-flat (i ∷ ns) e) es
  walk-flat ns (Between t l h a b) es = wrapped ns (Between t l h a b) (Kind.between h) (some t) (flat a ++ flat b) (quiet_between h) (then ns a b (walk-flat ns a) (walk-flat ns b)) es
  walk-flat ns (Listed t e) es = wrapped ns (Listed t e) Kind.listed (some t) (flat e) (quiet refl refl refl refl) (walk-flat ns e) es
  walk-flat ns Empty es = refl
  walk-flat ns (Element e d) es = wrapped ns (Element e d) Kind.element none (flat e ++ flat d) (quiet refl refl refl refl) (then ns e d (walk-flat ns e) (walk-flat ns d)) es
  walk-flat ns (Range t x y z) es = wrapped ns (Range t x y z) Kind.range (some t) (flat x ++ (flat y ++ flat z)) (quiet refl refl refl refl)
      (three ns x y z (walk-flat ns x) (walk-flat ns y) (walk-flat ns z)) es

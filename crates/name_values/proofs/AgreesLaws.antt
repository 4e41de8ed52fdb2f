-- A context that gives every visible name what its reference denotes agrees with each stored expression whose names are visible and resolved.
use Rattle.std.specs.Prelude.{ℕ, suc, ◌+◌, ◌-◌, ◌≤◌, ◌<◌, Bool, true, false, ◌||◌, List, ◌∷◌, ◌≡◌, refl, eqb, ltb, length, get_or}
use Rattle.std.proofs.Math.Option.{none}
use Rattle.std.proofs.Common.{sym, ap, ◌∙◌, subst, arith, eq-eqb, ne_eqb, ltb-true, ltb-false, lt-ltb, le-ltb}
use Rattle.node.specs.Result.{Done}
use Rattle.language.specs.Bytes.{same}
use Rattle.language.specs.Limits.{max_names}
use Rattle.language.specs.Tokens.{Token}
use Rattle.language.specs.Tree.{Expr, Named, Numeral, Truth, Index, Paren, Prefixed, Joined, Nexts, InWindow, Each, Between, Listed, Empty, Element, Range}
use Rattle.language.specs.Places.{first}
use Rattle.language.specs.Names.{Names, visible, hidden, nowhere, walk}
use Rattle.language.specs.Values.{Number, misfit}
use Rattle.language.specs.DeclaredNames.{Port}
use Rattle.language.specs.Expansion.{Context, at}
use Rattle.language.proofs.Laws.Basics.Tests.{pick, leave}
use Rattle.language.proofs.Laws.Basics.NoPlace.{first-left, first-right, unless_none}
use Rattle.entries.specs.Flat.{flat}
use Rattle.names.specs.References.{reference}
use Rattle.names.proofs.WalkBinders.{reference-same, reference_other}
use Rattle.names.specs.Refers.{Refers}
use Rattle.name_values.specs.World.{name_value, formed, numbered, World, meaning_at, denote, denote_formula}
use Rattle.name_values.specs.Agrees.{Uses, Agrees}

pub numbered-last : {A : Type 0} (other a : A) (l : List A) (r : ℕ) → r ≡ length l → numbered other (a ∷ l) r ≡ a
unfolding numbered
numbered-last other a l r e = pick (eqb r (length l)) _ _ (eq-eqb r (length l) e)

pub numbered-before : {A : Type 0} (other a : A) (l : List A) (r : ℕ) → r < length l → numbered other (a ∷ l) r ≡ numbered other l r
unfolding numbered
numbered-before other a l r h = leave (eqb r (length l)) _ _ (ne_eqb r (length l) (λ e. omega arith))

-- a declared name, and a big operator's
pub denote-declared : (W : World) (env : List ℕ) (r : ℕ) (t : Token) → r < max_names → denote W env r t ≡ name_value (meaning_at W r) t
unfolding denote
denote-declared W env r t h = pick (ltb r max_names) _ _ (lt-ltb r max_names h)

pub denote-bound : (W : World) (env : List ℕ) (d r : ℕ) (t : Token) → r ≡ max_names + d → denote W env r t ≡ Done (Number (numbered 0 env d))
unfolding denote
denote-bound W env d r t e =
    let less : r - max_names ≡ d = omega arith in
    leave (ltb r max_names) _ _ (le-ltb r max_names (omega arith)) ∙ ap (λ m. Done (Number (numbered 0 env m))) less

pub formula-declared : (ps : List Port) (W : World) (r : ℕ) (t : Token) → r < max_names → denote_formula ps W r t ≡ formed ps (meaning_at W r) t
unfolding denote_formula
formula-declared ps W r t h = pick (ltb r max_names) _ _ (lt-ltb r max_names h)

pub formula-bound : (ps : List Port) (W : World) (r : ℕ) (t : Token) → max_names ≤ r → denote_formula ps W r t ≡ misfit
unfolding denote_formula
formula-bound ps W r t h = leave (ltb r max_names) _ _ (le-ltb r max_names h)

-- one more big operator outside says nothing of the references before it
denote-before : (W : World) (env : List ℕ) (v r : ℕ) (t : Token) → r < max_names + length env → denote W (v ∷ env) r t ≡ denote W env r t
denote-before W env v r t h = go (ltb r max_names) refl
  where
    go : (b : Bool) → ltb r max_names ≡ b → denote W (v ∷ env) r t ≡ denote W env r t
    go true e = let l = ltb-true r max_names e in denote-declared W (v ∷ env) r t l ∙ sym (denote-declared W env r t l)
    go false e =
        let l = ltb-false r max_names e in
        let d : r ≡ max_names + (r - max_names) = omega arith in
        denote-bound W (v ∷ env) (r - max_names) r t d ∙ ap (λ m. Done (Number m)) (numbered-before 0 v env (r - max_names) (omega arith)) ∙ sym (denote-bound W env (r - max_names) r t d)

-- every visible name is used by its reference, and stands for what that denotes
pub record Fits (W : World) (limit : ℕ) (declared bs : Names) (env : List ℕ) (ns : Names) (c : Context) : Type 0 where
  pub deep : length env ≡ length bs
  pub uses : (t : Token) → visible ns t ≡ true → Uses W limit env (reference declared bs t) t c

module _ (W : World) (limit : ℕ) (declared : Names) where
  -- a big operator's name, which has come to v
  pub fits_bound : (bs : Names) (env : List ℕ) (ns : Names) (c : Context) (i : Token) (v : ℕ) → Fits W limit declared bs env ns c → Fits W limit declared (i ∷ bs) (v ∷ env) (i ∷ ns) (at c i v)
  fits_bound bs env ns c i v h = record { deep = ap suc h.deep; uses = λ t y. go t (same i.text t.text) refl y }
    where
      go : (t : Token) (b : Bool) → same i.text t.text ≡ b → (b || visible ns t) ≡ true → Uses W limit (v ∷ env) (reference declared (i ∷ bs) t) t (at c i v)
      go t true e y =
          let d = h.deep in
          let r = reference-same declared i bs t e in
          record {
            inside = omega arith;
            stands = pick (same i.text t.text) _ _ e ∙ ap (λ m. Done (Number m)) (sym (numbered-last 0 v env (length bs) (sym d))) ∙ sym (denote-bound W (v ∷ env) (length bs) _ t r);
            forms = pick (same i.text t.text) _ _ e ∙ sym (formula-bound c.ports W _ t (omega arith));
            spelt = λ l. absurd (omega arith);
            earlier = λ l. absurd (omega arith);
          }
      go t false e y =
          let u = h.uses t y in
          let l = u.inside in
          subst (λ r. Uses W limit (v ∷ env) r t (at c i v)) (sym (reference_other declared i bs t e))
          (record {
            inside = omega arith;
            stands = leave (same i.text t.text) _ _ e ∙ u.stands ∙ sym (denote-before W env v (reference declared bs t) t l);
            forms = leave (same i.text t.text) _ _ e ∙ u.forms;
            spelt = u.spelt;
            earlier = u.earlier;
          })

  -- a name that is used
  fits-name : (refs : List ℕ) (bs : Names) (env : List ℕ) (ns : Names) (c : Context) → Fits W limit declared bs env ns c → (k : ℕ) (t : Token) → get_or refs k 0 ≡ reference declared bs t
      → hidden ns t ≡ none → Uses W limit env (get_or refs k 0) t c
  fits-name refs bs env ns c h k t r y = subst (λ m. Uses W limit env m t c) (sym r) (h.uses t (unless_none (visible ns t) t.at y))

  module _ (refs : List ℕ) where
    pub agrees : (bs : Names) (env : List ℕ) (ns : Names) (c : Context) → Fits W limit declared bs env ns c → (k : ℕ) (e : Expr) → Refers refs declared bs k e → walk hidden nowhere ns e ≡ none
        → Agrees W refs limit env c k e
    agrees bs env ns c h k (Named t) r y = fits-name refs bs env ns c h k t r y
    agrees bs env ns c h k (Numeral t) r y = tt
    agrees bs env ns c h k (Truth t b) r y = tt
    agrees bs env ns c h k (Index t e) r y =
        (fits-name refs bs env ns c h k t r.0 (first-left _ (walk hidden nowhere ns e) y), agrees bs env ns c h (k - 1) e r.1 (first-right (hidden ns t) _ y))
    agrees bs env ns c h k (Paren t e) r y = agrees bs env ns c h (k - 1) e r y
    agrees bs env ns c h k (Prefixed t o e) r y = agrees bs env ns c h (k - 1) e r y
    agrees bs env ns c h k (Joined t o a b) r y =
        (agrees bs env ns c h (k - 1 - length (flat b)) a r.0 (first-left _ (walk hidden nowhere ns b) y), agrees bs env ns c h (k - 1) b r.1 (first-right (walk hidden nowhere ns a) _ y))
    agrees bs env ns c h k (Nexts t n e) r y =
        (agrees bs env ns c h (k - 1 - length (flat e)) n r.0 (first-left _ (walk hidden nowhere ns e) y), agrees bs env ns c h (k - 1) e r.1 (first-right (walk hidden nowhere ns n) _ y))
    agrees bs env ns c h k (InWindow t o n m e) r y =
        let z = first-right (walk hidden nowhere ns n) (first (walk hidden nowhere ns m) (walk hidden nowhere ns e)) y in (
          agrees bs env ns c h (k - 1 - length (flat e) - length (flat m)) n r.0 (first-left _ (first (walk hidden nowhere ns m) (walk hidden nowhere ns e)) y),
          agrees bs env ns c h (k - 1 - length (flat e)) m r.1 (first-left _ (walk hidden nowhere ns e) z),
          agrees bs env ns c h (k - 1) e r.2 (first-right (walk hidden nowhere ns m) _ z),
        )
    agrees bs env ns c h k (Each t o further i s e) r y = (
      agrees bs env ns c h (k - 1 - length (flat e) - 1) s r.0 (first-left _ (walk hidden nowhere (i ∷ ns) e) y),
      r.1 ∙ ap (λ m. max_names + m) (sym h.deep),
      λ v. agrees (i ∷ bs) (v ∷ env) (i ∷ ns) (at c i v) (fits_bound bs env ns c i v h) (k - 1) e r.2 (first-right (walk hidden nowhere ns s) _ y),
    )
    agrees bs env ns c h k (Between t l g a b) r y =
        (agrees bs env ns c h (k - 1 - length (flat b)) a r.0 (first-left _ (walk hidden nowhere ns b) y), agrees bs env ns c h (k - 1) b r.1 (first-right (walk hidden nowhere ns a) _ y))
    agrees bs env ns c h k (Listed t es) r y = agrees bs env ns c h (k - 1) es r y
    agrees bs env ns c h k Empty r y = tt
    agrees bs env ns c h k (Element e es) r y =
        (agrees bs env ns c h (k - 1 - length (flat es)) e r.0 (first-left _ (walk hidden nowhere ns es) y), agrees bs env ns c h (k - 1) es r.1 (first-right (walk hidden nowhere ns e) _ y))
    agrees bs env ns c h k (Range t x y z) r q =
        let p = first-right (walk hidden nowhere ns x) (first (walk hidden nowhere ns y) (walk hidden nowhere ns z)) q in (
          agrees bs env ns c h (k - 1 - length (flat z) - length (flat y)) x r.0 (first-left _ (first (walk hidden nowhere ns y) (walk hidden nowhere ns z)) q),
          agrees bs env ns c h (k - 1 - length (flat z)) y r.1 (first-left _ (walk hidden nowhere ns z) p),
          agrees bs env ns c h (k - 1) z r.2 (first-right (walk hidden nowhere ns y) _ p),
        )

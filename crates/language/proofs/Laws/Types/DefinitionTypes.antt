-- Definitions in step with their types: what a definition brings is of its type, and an enumeration's identifiers stand for words.
use Rattle.std.specs.Prelude.{ℕ, ◌≡◌, refl, Bool, true, false, ◌||◌, List, [], ◌∷◌, ◌++◌}
use Rattle.std.proofs.Common.{sym, subst, arith}
use Rattle.std.proofs.lemmas.Bool.{false≢true}
use Rattle.std.proofs.Math.Option.{none}
use Rattle.node.specs.Result.{Result, Refused}
use Rattle.node.specs.Ltl.{Formula}
use Rattle.language.specs.Bytes.{same}
use Rattle.language.specs.Tokens.{Token}
use Rattle.language.specs.Tree.{Expr, Identifier, Definition, Defined, Enumerated}
use Rattle.language.specs.Places.{start, unless, TextLine, DefinitionLine, definition_lines}
use Rattle.language.specs.Types.{ExprType, AFormula, AValue, AType, Typings, type_in, type_of, mistyped, definable, mistyped_line, mistyped_lines, typed_values, typed_after}
use Rattle.language.specs.Values.{Value, Scope, naming, value}
use Rattle.language.specs.DeclaredNames.{Table, identified, identifiers, defining}
use Rattle.language.specs.Expansion.{Context, expansion, define, define_all}
use Rattle.language.specs.Braces.{Proper, ProperDefinition}
use Rattle.language.proofs.Laws.Basics.Lists.{All, Any}
use Rattle.language.proofs.Laws.Basics.Tests.{split, or_left, or_right, or_cases}
use Rattle.language.proofs.Laws.Basics.NoPlace.{first-left, first-right}
use Rattle.language.proofs.Laws.Basics.Results.{refused}
use Rattle.language.proofs.Laws.Values.ValueTypes.{apart}
use Rattle.language.proofs.Laws.Values.NameLaws.{defined_values}
use Rattle.language.proofs.Laws.Types.Reaching.{Reaches}
use Rattle.language.proofs.Laws.Types.TypeLaws.{Evaluates}
use Rattle.language.proofs.Laws.Types.TypeSoundness.{Agree, agree-naming, value_evaluates}
use Rattle.language.proofs.Laws.Types.ExpansionTypes.{Serves, not_first, expansion_reaches}
use Rattle.language.proofs.Laws.Types.KnownTypes.{typings, Knows}

-- is the name in the table?
abbrev pub found : Table → List ℕ → Bool
found [] x = false
found (d ∷ ds) x = same d.0 x || found ds x

pub found_left : (a b : Table) (x : List ℕ) → found a x ≡ true → found (a ++ b) x ≡ true
found_left [] b x e = absurd (false≢true e)
found_left (d ∷ a) b x e =
    let here = same d.0 x in
    or_cases here (found a x) (or_left here (found (a ++ b) x)) (λ f. or_right here (found (a ++ b) x) (found_left a b x f)) e

pub found_right : (a b : Table) (x : List ℕ) → found b x ≡ true → found (a ++ b) x ≡ true
found_right [] b x e = e
found_right (d ∷ a) b x e = or_right (same d.0 x) (found (a ++ b) x) (found_right a b x e)

-- the names of F stand for values of their types by g
abbrev pub Covers : (Token → ExprType) → (Token → Bool) → Scope → Type 0
Covers g F sc = (t : Token) → F t ≡ true → Evaluates (g t) (sc t)

module _ (g : Token → ExprType) (F : Token → Bool) where
  covers_naming : (sc : Scope) (x : Token) (k : ExprType) (v : Result Value) → Knows g (record { name = x; type = k }) → Evaluates k v → Covers g F sc → Covers g F (naming x v sc)
  covers_naming sc x k v e h c t f = split (Evaluates (g t)) (same x.text t.text) (λ z. subst (λ (l : ExprType). Evaluates l v) (sym (e t z)) h) (λ _. c t f)

-- a definition
expands_entry : (b : Bool) (k l : ExprType) (r q : Result Formula) → (k ≡ AFormula → Reaches Any r) → (l ≡ AFormula → Reaches Any q)
    → elim b [ true ↦ k | false ↦ l ] ≡ AFormula → Reaches {A = Formula} Any (elim b [ true ↦ r | false ↦ q ])
expands_entry true k l r q h i e = h e
expands_entry false k l r q h i e = i e

serves_define : (ys : Typings) (c : Context) (x : Token) (e : Expr) → Serves ys c → Proper false e → mistyped ys e ≡ none
    → Serves (record { name = x; type = type_of ys e } ∷ ys) (define c x e)
serves_define ys c x e h s m =
    record {
      values = agree-naming ys c.values x (type_of ys e) (value c.values e) h.values (value_evaluates ys c.values h.values e false s m);
      formulas = λ t. expands_entry (same x.text t.text) (type_of ys e) (type_in ys t) (expansion c e) (c.formulas t)
          (expansion_reaches ys c h e s m) (h.formulas t);
    }

-- an enumeration
agree_values : (ys : Typings) (sc : Scope) → Agree ys sc → (is : List Identifier) → ((t : Token) → found (identified is) t.text ≡ true → Evaluates AValue (sc t))
    → Agree (typed_values is ys) sc
agree_values ys sc a [] h t = a t
agree_values ys sc a (i ∷ is) h t =
    split (λ (k : ExprType). Evaluates k (sc t)) (same i.name.text t.text)
    (λ e. h t (or_left (same i.name.text t.text) (found (identified is) t.text) e))
    (λ _. agree_values ys sc a is (λ u f. h u (or_right (same i.name.text u.text) (found (identified is) u.text) f)) t)

expands_values : (ys : Typings) (is : List Identifier) (t : Token) → type_in (typed_values is ys) t ≡ AFormula → type_in ys t ≡ AFormula
expands_values ys [] t e = e
expands_values ys (i ∷ is) t e =
    expands_values ys is t (not_first (same i.name.text t.text) AValue (type_in (typed_values is ys) t) (apart AValue AFormula refl) e)

serves_enumerated : (ys : Typings) (c : Context) (x : Token) (is : List Identifier) → Serves ys c
    → ((t : Token) → found (identified is) t.text ≡ true → Evaluates AValue (c.values t)) → Serves (record { name = x; type = AType } ∷ typed_values is ys) c
serves_enumerated ys c x is h v =
    record {
      values = λ t. split (λ (k : ExprType). Evaluates k (c.values t)) (same x.text t.text) (λ e. tt)
          (λ _. agree_values ys c.values h.values is v t);
      formulas = λ t e. h.formulas t (expands_values ys is t
          (not_first (same x.text t.text) AType (type_in (typed_values is ys) t) (apart AType AFormula refl) e));
    }

pub values_left : (g : Token → ExprType) (is : List Identifier) (ys : Typings) → All (Knows g) (typed_values is ys) → (t : Token) → found (identified is) t.text ≡ true → g t ≡ AValue
values_left g [] ys k t f = absurd (false≢true f)
values_left g (i ∷ is) ys k t f = or_cases (same i.name.text t.text) (found (identified is) t.text) (k.0 t) (values_left g is ys k.1 t) f

pub values_right : (g : Token → ExprType) (is : List Identifier) (ys : Typings) → All (Knows g) (typed_values is ys) → All (Knows g) ys
values_right g [] ys k = k
values_right g (i ∷ is) ys k = values_right g is ys k.1

-- what is visible after some definitions
abbrev pub typed_through : Typings → List Definition → Typings
typed_through ys [] = ys
typed_through ys (d ∷ ds) = typed_through (typed_after ys (DefinitionLine d)) ds

module _ (g : Token → ExprType) (F : Token → Bool) (rest : List TextLine) where
  pub serves_definitions : (ds : List Definition) (ys : Typings) (c : Context) → Serves ys c → Covers g F c.values
      → ((t : Token) → found (identifiers ds) t.text ≡ true → F t ≡ true) → All ProperDefinition ds → All (Knows g) (typings ys (definition_lines ds rest))
      → mistyped_lines ys (definition_lines ds rest) ≡ none → Serves (typed_through ys ds) (define_all c ds)
  serves_definitions [] ys c h v f s k m = h
  serves_definitions (Defined x e ∷ ds) ys c h v f s k m =
      let p = mistyped_line ys (DefinitionLine (Defined x e)) in
      let zs = typed_after ys (DefinitionLine (Defined x e)) in
      let q = mistyped_lines zs (definition_lines ds rest) in
      let o = first-right (unless (definable (type_of ys e)) (start e)) (mistyped ys e) (first-left p q m) in
      serves_definitions ds zs (define c x e) (serves_define ys c x e h s.0 o)
      (covers_naming g F c.values x (type_of ys e) _ k.0 (value_evaluates ys c.values h.values e false s.0 o) v) f s.1 k.1 (first-right p q m)
  serves_definitions (Enumerated x is ∷ ds) ys c h v f s k m =
      let zs = typed_after ys (DefinitionLine (Enumerated x is)) in
      let ws = typings zs (definition_lines ds rest) in
      serves_definitions ds zs c (serves_enumerated ys c x is h (λ t e.
      subst (λ (l : ExprType). Evaluates l (c.values t)) (values_left g is ws k.1 t e) (v t (f t (found_left (identified is) (identifiers ds) t.text e)))))
      v (λ t e. f t (found_right (identified is) (identifiers ds) t.text e)) s.1 (values_right g is ws k.1) m

-- values alone: the same with formulas that are all refused
pub agree_definitions : (g : Token → ExprType) (F : Token → Bool) (rest : List TextLine) (ds : List Definition) (ys : Typings) (sc : Scope) → Agree ys sc → Covers g F sc
    → ((t : Token) → found (identifiers ds) t.text ≡ true → F t ≡ true) → All ProperDefinition ds → All (Knows g) (typings ys (definition_lines ds rest))
    → mistyped_lines ys (definition_lines ds rest) ≡ none → Agree (typed_through ys ds) (defining sc ds)
agree_definitions g F rest ds ys sc a v f s k m =
    let c : Context = record { ports = []; values = sc; formulas = λ t. Refused 11 0 } in
    subst (Agree (typed_through ys ds)) (defined_values ds c)
    (serves_definitions g F rest ds ys c (record { values = a; formulas = λ t e. refused (omega arith) }) v f s k m).values

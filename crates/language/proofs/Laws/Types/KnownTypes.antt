-- Where no name is declared again (refusal 7), one function gives every declared name's type, whatever the order of the declarations.
use Rattle.std.specs.Prelude.{ℕ, ◌≡◌, refl, true, false, List, [], ◌∷◌, ◌++◌}
use Rattle.std.proofs.Common.{sym, ◌∙◌, ap, subst}
use Rattle.std.proofs.Math.Option.{none}
use Rattle.language.specs.Bytes.{same}
use Rattle.language.specs.Tokens.{Token}
use Rattle.language.specs.Tree.{Identifier, Defined, Enumerated, OneSignal, OfWidth, OfType}
use Rattle.language.specs.Places.{TextLine, ParameterLine, DefinitionLine, DeclarationLine, FormulaLine}
use Rattle.language.specs.Names.{Names, doubled, identifier_names, declares, over}
use Rattle.language.specs.Types.{ExprType, ANumber, AFormula, ABus, AType, Typing, Typings, type_in, type_of, typed_values, typed_after}
use Rattle.language.proofs.Laws.Basics.Lists.{All}
use Rattle.language.proofs.Laws.Basics.Tests.{pick, leave, same_equal}
use Rattle.language.proofs.Laws.Values.DistinctNames.{Apart, Distinct, distinct}

-- the declared names of some lines with their types, in the text's order
abbrev pub typings : Typings → List TextLine → Typings
typings ys [] = []
typings ys (ParameterLine x e ∷ ls) = record { name = x; type = ANumber } ∷ typings (typed_after ys (ParameterLine x e)) ls
typings ys (DefinitionLine (Defined x e) ∷ ls) =
    record { name = x; type = type_of ys e } ∷ typings (typed_after ys (DefinitionLine (Defined x e))) ls
typings ys (DefinitionLine (Enumerated x is) ∷ ls) =
    record { name = x; type = AType } ∷ typed_values is (typings (typed_after ys (DefinitionLine (Enumerated x is))) ls)
typings ys (DeclarationLine (OneSignal x) ∷ ls) = record { name = x; type = AFormula } ∷ typings ys ls
typings ys (DeclarationLine (OfWidth x e) ∷ ls) = record { name = x; type = ABus } ∷ typings ys ls
typings ys (DeclarationLine (OfType u x) ∷ ls) = record { name = x; type = ABus } ∷ typings ys ls
typings ys (FormulaLine e ∷ ls) = typings ys ls

names_of : Typings → Names
names_of [] = []
names_of (y ∷ ys) = y.name ∷ names_of ys

names_of_values : (is : List Identifier) (ys : Typings) → names_of (typed_values is ys) ≡ identifier_names is ++ names_of ys
unfolding names_of
names_of_values [] ys = refl
names_of_values (i ∷ is) ys = ap (i.name ∷◌) (names_of_values is ys)

names-declared : (ys : Typings) (ls : List TextLine) → names_of (typings ys ls) ≡ over declares ls
unfolding names_of
names-declared ys [] = refl
names-declared ys (ParameterLine x e ∷ ls) = ap (x ∷◌) (names-declared (typed_after ys (ParameterLine x e)) ls)
names-declared ys (DefinitionLine (Defined x e) ∷ ls) = ap (x ∷◌) (names-declared (typed_after ys (DefinitionLine (Defined x e))) ls)
names-declared ys (DefinitionLine (Enumerated x is) ∷ ls) =
    let zs = typed_after ys (DefinitionLine (Enumerated x is)) in
    ap (x ∷◌) (names_of_values is (typings zs ls) ∙ ap (identifier_names is ++◌) (names-declared zs ls))
names-declared ys (DeclarationLine (OneSignal x) ∷ ls) = ap (x ∷◌) (names-declared ys ls)
names-declared ys (DeclarationLine (OfWidth x e) ∷ ls) = ap (x ∷◌) (names-declared ys ls)
names-declared ys (DeclarationLine (OfType u x) ∷ ls) = ap (x ∷◌) (names-declared ys ls)
names-declared ys (FormulaLine e ∷ ls) = names-declared ys ls

-- g gives the type of every name with these bytes
abbrev pub Knows : (Token → ExprType) → Typing → Type 0
Knows g y = (t : Token) → same y.name.text t.text ≡ true → g t ≡ y.type

-- a name that is another's is not a third that is apart from it
third : (a b c : List ℕ) → same a b ≡ false → same b c ≡ true → same a c ≡ false
third a b c d e = subst (λ (s : List ℕ). same a s ≡ false) (same_equal b c e) d

known : (ys : Typings) → Distinct (names_of ys) → All (Knows (type_in ys)) ys
unfolding names_of
known [] d = tt
known (y ∷ ys) d =
    (λ t e. pick (same y.name.text t.text) y.type (type_in ys t) e, later ys d.0 (known ys d.1))
  where
    later : (zs : Typings) → All (Apart y.name) (names_of zs) → All (Knows (type_in ys)) zs → All (Knows (type_in (y ∷ ys))) zs
    later [] a k = tt
    later (z ∷ zs) a k = (
      λ t e. leave (same y.name.text t.text) y.type (type_in ys t) (third y.name.text z.name.text t.text a.0 e) ∙ k.0 t e,
      later zs a.1 k.1,
    )

-- without refusal 7 the declared types are known
pub declared_known : (ys : Typings) (ls : List TextLine) → doubled (over declares ls) ≡ none → All (Knows (type_in (typings ys ls))) (typings ys ls)
declared_known ys ls e = known (typings ys ls) (distinct (names_of (typings ys ls)) (subst (λ (ns : Names). doubled ns ≡ none) (sym (names-declared ys ls)) e))

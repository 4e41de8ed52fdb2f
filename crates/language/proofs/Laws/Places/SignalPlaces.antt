-- What the declared names stand for is refused at places of the text's tokens, at most n (refusals 11 to 13).
use Rattle.std.specs.Prelude.{ℕ, Bool, true, false, List, [], ◌∷◌}
use Rattle.std.proofs.Common.{arith}
use Rattle.language.specs.Bytes.{same}
use Rattle.language.specs.Tokens.{Token}
use Rattle.language.specs.Tree.{Definition, Parameter, Declaration, OneSignal, OfWidth, OfType, Spec}
use Rattle.language.specs.Values.{Scope, value}
use Rattle.language.specs.DeclaredNames.{
  Declared,
  Constant,
  Single,
  BusOf,
  Identifies,
  WaitingBus,
  Table,
  find,
  value_at,
  declared,
  defining,
  words_of_type,
  word_width,
  Port,
  sized,
  port_of,
  as_declared,
  turns,
  constants,
  inputs,
  outputs,
  Declarations,
  declarations,
}
use Rattle.language.proofs.Laws.Basics.Lists.{All, Any}
use Rattle.language.proofs.Laws.Basics.Tests.{split}
use Rattle.language.proofs.Laws.Basics.Results.{done, refused, bind}
use Rattle.language.proofs.Laws.Grammar.TreeTokens.{InParameter, InDefinition, InDeclaration, InSubsection, InSpec}
use Rattle.language.proofs.Laws.Values.NameLaws.{defining-keeps, inputs-all, outputs-all, sized_as}
use Rattle.language.proofs.Laws.Places.PlaceBounds.{At, Held}
use Rattle.language.proofs.Laws.Places.ValuePlaces.{InValue, InScope, a_number_lem, naming_held, value_held}

-- a port keeps its name's place
abbrev pub PortAt : ℕ → Port → Type 0
PortAt n p = At n p.name

-- what holds of all ports
pub record PortsAt (n : ℕ) (d : Declarations) : Type 0 where
  pub inputs : All (PortAt n) d.inputs
  pub outputs : All (PortAt n) d.outputs

module _ (n : ℕ) where
  pub find_held : (d : Table) (x : List ℕ) → Held n Any (find d x)
  find_held [] x = refused (omega arith)
  find_held (e ∷ d) x = split (Held n Any) (same e.0 x) (λ _. done tt) (λ _. find_held d x)

  in-valueAt : (t : Token) (d : Declared) → At n t → InValue n (value_at t d)
  in-valueAt t (Constant m) h = tt
  in-valueAt t Single h = tt
  in-valueAt t (BusOf w) h = h
  in-valueAt t (Identifies v) h = tt
  in-valueAt t WaitingBus h = h

  pub in_declared : (d : Table) → InScope n (declared d)
  in_declared d t a = bind (find d t.text) _ (find_held d t.text) λ x _. done (in-valueAt t x a)

  in-defining : (ds : List Definition) → All (InDefinition (At n)) ds → (sc : Scope) → InScope n sc → InScope n (defining sc ds)
  in-defining = defining-keeps (InScope n) (InDefinition (At n)) (λ sc x e h g. naming_held n x (value sc e) sc (value_held n sc e g h.1) g)

  constants_held : (ps : List Parameter) (d : Table) → All (InParameter (At n)) ps → Held n Any (constants ps d)
  constants_held [] d h = done tt
  constants_held (p ∷ ps) d h = bind _ _ (a_number_lem n (value (declared d) p.value) (value_held n (declared d) p.value (in_declared d) h.0.1)) λ m _. constants_held ps _ h.1

  sized_held : (x : Token) (m : ℕ) → At n x → Held n Any (sized x m)
  sized_held x m a = sized_as x m a (λ _ _. tt)

  port_of_held : (defs : List Definition) (output : Bool) (d : Table) (x : Declaration) → All (InDefinition (At n)) defs → InDeclaration (At n) x → Held n (PortAt n) (port_of defs output d x)
  port_of_held defs output d (OneSignal x) g h = done h
  port_of_held defs output d (OfWidth x e) g h =
      let sc = defining (declared d) defs in
      bind _ _ (bind _ _ (a_number_lem n (value sc e) (value_held n sc e (in-defining defs g (declared d) (in_declared d)) h.1)) λ m _. sized_held x m h.0) λ m _. done h.0
  port_of_held defs output d (OfType u x) g h = bind _ _ (sized_held x (word_width (words_of_type defs u)) h.1) λ m _. done h.1

  turns_held : (defs : List Definition) (output : Bool) (ds : List Declaration) (d : Table) → All (InDefinition (At n)) defs → All (InDeclaration (At n)) ds
      → Held n (λ s. All (PortAt n) s.ports) (turns defs output ds d)
  turns_held defs output [] d g h = done tt
  turns_held defs output (x ∷ ds) d g h =
      bind _ _ (port_of_held defs output d x g h.0) λ p a. bind _ _ (turns_held defs output ds ((p.name.text, as_declared p.width) ∷ d) g h.1) λ s l. done (a, l)

  pub declarations_held : (x : Spec) → InSpec (At n) x → Held n (PortsAt n) (declarations x)
  declarations_held x h =
      bind _ _ (constants_held x.parameters _ h.parameters) λ d _.
      bind _ _ (turns_held x.definitions false (inputs x.main) d h.definitions (inputs-all (InSubsection (At n)) (InDeclaration (At n)) (λ ds g. g) x.main h.main)) λ i v.
      bind _ _ (turns_held x.definitions true (outputs x.main) i.table h.definitions (outputs-all (InSubsection (At n)) (InDeclaration (At n)) (λ ds g. g) x.main h.main)) λ o w.
      done (record { inputs = v; outputs = w })

-- Declarations in step with their types: parameters in order, then every signal and bus at its turn.
use Rattle.std.specs.Prelude.{ℕ, Bool, false, List, [], ◌∷◌}
use Rattle.std.proofs.Common.{sym, subst, arith}
use Rattle.language.specs.Tokens.{Token}
use Rattle.language.specs.Tree.{Definition, Parameter, Declaration, OneSignal, OfWidth, OfType}
use Rattle.language.specs.Places.{TextLine, ParameterLine, parameter_lines, definition_lines}
use Rattle.language.specs.Types.{ExprType, ANumber, ABus, Typings, typed_after}
use Rattle.language.specs.Values.{value}
use Rattle.language.specs.DeclaredNames.{Constant, Table, declared, defining, identifiers, words_of_type, word_width, Port, sized, port_of, as_declared, turns, constants}
use Rattle.language.specs.Braces.{ProperParameter, ProperDefinition}
use Rattle.language.proofs.Laws.Basics.Lists.{All}
use Rattle.language.proofs.Laws.Basics.Results.{done, bind}
use Rattle.language.proofs.Laws.Values.NameLaws.{sized_as}
use Rattle.language.proofs.Laws.Types.Reaching.{Reaches, next}
use Rattle.language.proofs.Laws.Types.TypeLaws.{number_of}
use Rattle.language.proofs.Laws.Types.KnownTypes.{Knows}
use Rattle.language.proofs.Laws.Types.TypeSoundness.{Agree, operand, value_evaluates}
use Rattle.language.proofs.Laws.Types.DefinitionTypes.{found, typed_through, agree_definitions}
use Rattle.language.proofs.Laws.Types.TableTypes.{declared_type, bus_type, Standing, standing_typed, standing_turn, covers_table, standing_agree}
use Rattle.language.proofs.Laws.Types.LineTypes.{Passed, typed_parameters, passed-parameter, parameter-taken, DeclarationFits}

pub constants_reach : (g : Token → ExprType) (I : Table) (ls : List TextLine) (ps : List Parameter) (ys : Typings) (d : Table)
    → All ProperParameter ps → Passed g ys (parameter_lines ps ls) → Standing g I ys d → Reaches (Standing g I (typed_parameters ys ps)) (constants ps d)
constants_reach g I ls [] ys d s h k = done k
constants_reach g I ls (p ∷ ps) ys d s h k =
    next _ _ (number_of (value (declared d) p.value) (operand ANumber ys p.value _ (parameter-taken g ys p (parameter_lines ps ls) h)
    (value_evaluates ys (declared d) (standing_agree g I ys d k) p.value false s.0))) (λ n.
    constants_reach g I ls ps (typed_after ys (ParameterLine p.name p.value)) ((p.name.text, Constant n) ∷ d) s.1
    (passed-parameter g ys p (parameter_lines ps ls) h) (standing_typed g I ys d p.name (Constant n) h.known.0 k))

-- a port's name is known as what it stands for after its turn
abbrev PortKnown : (Token → ExprType) → Port → Type 0
PortKnown g p = Knows g (record { name = p.name; type = declared_type (as_declared p.width) })

-- a width is at least 1
sized_reaches : (g : Token → ExprType) (x : Token) (n : ℕ) → Knows g (record { name = x; type = ABus }) →
    Reaches (λ m. Knows g (record { name = x; type = declared_type (as_declared m) })) (sized x n)
sized_reaches g x n k = sized_as x n (omega arith) (λ some _. subst (λ (l : ExprType). Knows g (record { name = x; type = l })) (sym (bus_type n some)) k)

module _ (g : Token → ExprType) (defs : List Definition) (ls : List TextLine) (ys : Typings) (proper : All ProperDefinition defs) (passed : Passed g ys (definition_lines defs ls)) where
  definitions_agree : (d : Table) → Standing g (identifiers defs) ys d → Agree (typed_through ys defs) (defining (declared d) defs)
  definitions_agree d k =
      agree_definitions g (λ t. found d t.text) ls defs ys (declared d) (standing_agree g (identifiers defs) ys d k) (covers_table g d k.sound)
      k.kept proper passed.known passed.fitting

  port_of_reaches : (output : Bool) (d : Table) (x : Declaration) → DeclarationFits g (typed_through ys defs) x → Standing g (identifiers defs) ys d → Reaches (PortKnown g) (port_of defs output d x)
  port_of_reaches output d (OneSignal x) f k = done f
  port_of_reaches output d (OfWidth x e) f k =
      let zs = typed_through ys defs in
      bind _ _ (next _ _ (number_of _ (operand ANumber zs e _ f.1
      (value_evaluates zs (defining (declared d) defs) (definitions_agree d k) e false f.2)))
      (λ n. sized_reaches g x n f.0))
      (λ n h. done h)
  port_of_reaches output d (OfType u x) f k = bind _ _ (sized_reaches g x (word_width (words_of_type defs u)) f) (λ n h. done h)

  pub turns_reach : (output : Bool) (ds : List Declaration) (d : Table) → All (DeclarationFits g (typed_through ys defs)) ds → Standing g (identifiers defs) ys d
      → Reaches (λ s. Standing g (identifiers defs) ys s.table) (turns defs output ds d)
  turns_reach output [] d f k = done k
  turns_reach output (x ∷ ds) d f k =
      bind _ _ (port_of_reaches output d x f.0 k) (λ p h.
      bind _ _ (turns_reach output ds ((p.name.text, as_declared p.width) ∷ d) f.1 (standing_turn g (identifiers defs) ys d p.name (as_declared p.width) h k)) (λ s l. done l))

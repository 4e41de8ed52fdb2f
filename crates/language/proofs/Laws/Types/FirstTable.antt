-- The table before any turn: signals and buses wait in it, identifiers stand for their words, and what the text declares is known.
use Rattle.std.specs.Prelude.{ℕ, ◌≡◌, refl, Bool, true, false, ◌||◌, List, [], ◌∷◌, ◌++◌}
use Rattle.std.proofs.Common.{◌∙◌, subst}
use Rattle.std.proofs.lemmas.Bool.{false≢true}
use Rattle.language.specs.Bytes.{same}
use Rattle.language.specs.Tokens.{Token}
use Rattle.language.specs.Tree.{Expr, Identifier, Definition, Defined, Enumerated, Parameter, Declaration, OneSignal, OfWidth, OfType, Subsection, Inputs, Outputs, Lines, Spec}
use Rattle.language.specs.Places.{TextLine, ParameterLine, DefinitionLine, DeclarationLine, FormulaLine, parameter_lines, definition_lines, declaration_lines, formula_lines, main_lines, all_lines}
use Rattle.language.specs.Types.{ExprType, AFormula, ABus, Typings, type_in, typed_values, typed_after, typed_signals}
use Rattle.language.specs.DeclaredNames.{Table, identified, identifiers, waiting, inputs, outputs}
use Rattle.language.proofs.Laws.Basics.Lists.{All}
use Rattle.language.proofs.Laws.Basics.Tests.{or_left, or_right, or_cases}
use Rattle.language.specs.Listed.{declared_name}
use Rattle.language.proofs.Laws.Types.KnownTypes.{typings, Knows}
use Rattle.language.proofs.Laws.Types.DefinitionTypes.{found, values_right}
use Rattle.language.proofs.Laws.Types.TableTypes.{listed, seen, EntryKnown, Respects, Standing, respects_add}
use Rattle.language.proofs.Laws.Types.LineTypes.{DeclarationFits}

-- the identifiers
identified-sound : (g : Token → ExprType) (is : List Identifier) (ys : Typings) (d : Table) → All (Knows g) (typed_values is ys) → All (EntryKnown g) d
    → All (EntryKnown g) (identified is ++ d)
identified-sound g [] ys d k s = s
identified-sound g (i ∷ is) ys d k s = (k.0, identified-sound g is ys d k.1 s)

identifiers-sound : (g : Token → ExprType) (ls : List TextLine) (ds : List Definition) (ys : Typings) → All (Knows g) (typings ys (definition_lines ds ls))
    → All (EntryKnown g) (identifiers ds)
identifiers-sound g ls [] ys k = tt
identifiers-sound g ls (Defined x e ∷ ds) ys k = identifiers-sound g ls ds (typed_after ys (DefinitionLine (Defined x e))) k.1
identifiers-sound g ls (Enumerated x is ∷ ds) ys k =
    let zs = typed_after ys (DefinitionLine (Enumerated x is)) in
    let ws = typings zs (definition_lines ds ls) in
    identified-sound g is ws (identifiers ds) k.1 (identifiers-sound g ls ds zs (values_right g is ws k.1))

-- signals and buses that wait
waiting-sound : (g : Token → ExprType) (ys : Typings) (ds : List Declaration) (d : Table) → All (DeclarationFits g ys) ds → All (EntryKnown g) d → All (EntryKnown g) (waiting ds d)
waiting-sound g ys [] d f s = s
waiting-sound g ys (OneSignal x ∷ ds) d f s = (f.0, waiting-sound g ys ds d f.1 s)
waiting-sound g ys (OfWidth x e ∷ ds) d f s = (f.0.0, waiting-sound g ys ds d f.1 s)
waiting-sound g ys (OfType u x ∷ ds) d f s = (f.0, waiting-sound g ys ds d f.1 s)

or_swap : (p q : Bool) → (p || q) ≡ true → (q || p) ≡ true
or_swap p q = or_cases p q (or_right q p) (or_left q p)

or_else : (p a b : Bool) → (a ≡ true → b ≡ true) → (p || a) ≡ true → (p || b) ≡ true
or_else p a b h = or_cases p a (or_left p b) (λ e. or_right p b (h e))

step : (p a f w : Bool) → ((a || f) ≡ true → w ≡ true) → ((p || a) || f) ≡ true → (p || w) ≡ true
step true a f w h e = refl
step false a f w h e = h e

waiting-listed : (ds : List Declaration) (d : Table) (x : List ℕ) → (listed ds x || found d x) ≡ true → found (waiting ds d) x ≡ true
waiting-listed [] d x e = e
waiting-listed (OneSignal y ∷ ds) d x e = step (same y.text x) (listed ds x) (found d x) (found (waiting ds d) x) (waiting-listed ds d x) e
waiting-listed (OfWidth y w ∷ ds) d x e = step (same y.text x) (listed ds x) (found d x) (found (waiting ds d) x) (waiting-listed ds d x) e
waiting-listed (OfType u y ∷ ds) d x e = step (same y.text x) (listed ds x) (found d x) (found (waiting ds d) x) (waiting-listed ds d x) e

-- the types of signals and buses
signals_respect : (g : Token → ExprType) (ls : List TextLine) (ys : Typings) → All (Knows g) (typings ys ls) → Respects g (typed_signals ls)
signals_respect g [] ys k = λ t e. absurd (false≢true e)
signals_respect g (ParameterLine x e ∷ ls) ys k = signals_respect g ls (typed_after ys (ParameterLine x e)) k.1
signals_respect g (DefinitionLine (Defined x e) ∷ ls) ys k = signals_respect g ls (typed_after ys (DefinitionLine (Defined x e))) k.1
signals_respect g (DefinitionLine (Enumerated x is) ∷ ls) ys k =
    let zs = typed_after ys (DefinitionLine (Enumerated x is)) in
    signals_respect g ls zs (values_right g is (typings zs ls) k.1)
signals_respect g (DeclarationLine (OneSignal x) ∷ ls) ys k =
    respects_add g (typed_signals ls) (record { name = x; type = AFormula }) k.0 (signals_respect g ls ys k.1)
signals_respect g (DeclarationLine (OfWidth x e) ∷ ls) ys k =
    respects_add g (typed_signals ls) (record { name = x; type = ABus }) k.0 (signals_respect g ls ys k.1)
signals_respect g (DeclarationLine (OfType u x) ∷ ls) ys k =
    respects_add g (typed_signals ls) (record { name = x; type = ABus }) k.0 (signals_respect g ls ys k.1)
signals_respect g (FormulaLine e ∷ ls) ys k = signals_respect g ls ys k

signals_after_parameters : (ps : List Parameter) (ls : List TextLine) → typed_signals (parameter_lines ps ls) ≡ typed_signals ls
signals_after_parameters [] ls = refl
signals_after_parameters (p ∷ ps) ls = signals_after_parameters ps ls

signals_after_definitions : (ds : List Definition) (ls : List TextLine) → typed_signals (definition_lines ds ls) ≡ typed_signals ls
signals_after_definitions [] ls = refl
signals_after_definitions (d ∷ ds) ls = signals_after_definitions ds ls

signals_after-formulas : (es : List Expr) (ls : List TextLine) → typed_signals (formula_lines es ls) ≡ typed_signals ls
signals_after-formulas [] ls = refl
signals_after-formulas (e ∷ es) ls = signals_after-formulas es ls

seen_entry : (b : Bool) (k l : ExprType) (p r : Bool) → (seen l ≡ true → (p || r) ≡ true) → seen (elim b [ true ↦ k | false ↦ l ]) ≡ true → ((b || p) || r) ≡ true
seen_entry true k l p r h e = refl
seen_entry false k l p r h e = h e

-- a visible signal is one of these declarations, or of the lines after them
module _ (t : Token) where
  among-declarations : (ds : List Declaration) (ls : List TextLine) → seen (type_in (typed_signals (declaration_lines ds ls)) t) ≡ true
      → (listed ds t.text || seen (type_in (typed_signals ls) t)) ≡ true
  among-declarations [] ls e = e
  among-declarations (OneSignal x ∷ ds) ls e =
      seen_entry (same x.text t.text) AFormula (type_in (typed_signals (declaration_lines ds ls)) t) _ _ (among-declarations ds ls) e
  among-declarations (OfWidth x w ∷ ds) ls e =
      seen_entry (same x.text t.text) ABus (type_in (typed_signals (declaration_lines ds ls)) t) _ _ (among-declarations ds ls) e
  among-declarations (OfType u x ∷ ds) ls e =
      seen_entry (same x.text t.text) ABus (type_in (typed_signals (declaration_lines ds ls)) t) _ _ (among-declarations ds ls) e

  listed-entry : (p a f w q : Bool) → ((a || f) ≡ true → (w || q) ≡ true) → ((p || a) || f) ≡ true → ((p || w) || q) ≡ true
  listed-entry true a f w q h e = refl
  listed-entry false a f w q h e = h e

  listed-append : (ds ms : List Declaration) (q : Bool) → (listed ds t.text || (listed ms t.text || q)) ≡ true → (listed (ds ++ ms) t.text || q) ≡ true
  listed-append [] ms q e = e
  listed-append (d ∷ ds) ms q e = listed-entry (same (declared_name d).text t.text) (listed ds t.text) _ _ q (listed-append ds ms q) e

  among-main : (ss : List Subsection) → seen (type_in (typed_signals (main_lines ss)) t) ≡ true → (listed (inputs ss) t.text || listed (outputs ss) t.text) ≡ true
  among-main [] e = absurd (false≢true e)
  among-main (Inputs ds ∷ ss) e =
      listed-append ds (inputs ss) (listed (outputs ss) t.text)
      (or_else (listed ds t.text) (seen (type_in (typed_signals (main_lines ss)) t)) _ (among-main ss) (among-declarations ds (main_lines ss) e))
  among-main (Outputs ds ∷ ss) e =
      or_swap (listed (ds ++ outputs ss) t.text) (listed (inputs ss) t.text) (listed-append ds (outputs ss) (listed (inputs ss) t.text)
      (or_else (listed ds t.text) (seen (type_in (typed_signals (main_lines ss)) t)) _
      (λ h. or_swap (listed (inputs ss) t.text) (listed (outputs ss) t.text) (among-main ss h)) (among-declarations ds (main_lines ss) e)))
  among-main (Lines p es ∷ ss) e = among-main ss (subst (λ (ys : Typings). seen (type_in ys t) ≡ true) (signals_after-formulas es (main_lines ss)) e)

signals_of-main : (x : Spec) → typed_signals (all_lines x) ≡ typed_signals (main_lines x.main)
signals_of-main x =
    signals_after_parameters x.parameters (definition_lines x.definitions (main_lines x.main)) ∙ signals_after_definitions x.definitions (main_lines x.main)

-- ys and zs: what is visible before the definitions, and in MAIN
pub first_standing : (g : Token → ExprType) (x : Spec) (ys zs : Typings) → All (Knows g) (typings (typed_signals (all_lines x)) (all_lines x))
    → All (Knows g) (typings ys (definition_lines x.definitions (main_lines x.main)))
    → All (DeclarationFits g zs) (inputs x.main) → All (DeclarationFits g zs) (outputs x.main)
    → Standing g (identifiers x.definitions) (typed_signals (all_lines x))
    (waiting (inputs x.main) (waiting (outputs x.main) (identifiers x.definitions)))
first_standing g x ys zs k l i o =
    let ins = inputs x.main in
    let outs = outputs x.main in
    let d = identifiers x.definitions in
    record {
      sound = waiting-sound g zs ins (waiting outs d) i (waiting-sound g zs outs d o (identifiers-sound g (main_lines x.main) x.definitions ys l));
      respects = signals_respect g (all_lines x) (typed_signals (all_lines x)) k;
      present = λ t e.
          waiting-listed ins (waiting outs d) t.text (or_else (listed ins t.text) (listed outs t.text) (found (waiting outs d) t.text)
          (λ h. waiting-listed outs d t.text (or_left (listed outs t.text) (found d t.text) h))
          (among-main t x.main (subst (λ (us : Typings). seen (type_in us t) ≡ true) (signals_of-main x) e)));
      kept = λ t e.
          waiting-listed ins (waiting outs d) t.text (or_right (listed ins t.text) (found (waiting outs d) t.text)
          (waiting-listed outs d t.text (or_right (listed outs t.text) (found d t.text) e)));
    }

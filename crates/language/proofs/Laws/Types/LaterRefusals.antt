-- No text that passes refusals 1 to 10 comes to a value of a wrong type or to an unknown name: afterwards it is refused by 11, 12, 13, 15 and 16 only.
use Rattle.std.specs.Prelude.{ℕ, ◌≤◌, ◌≡◌, refl, List, leb}
use Rattle.std.proofs.Math.Bool.{true, false}
use Rattle.std.proofs.Math.Option.{none}
use Rattle.std.proofs.Common.{arith}
use Rattle.node.specs.Limits.{max_nodes}
use Rattle.node.specs.Result.{Result, Done, Refused, ◌>>=◌}
use Rattle.node.specs.Written.{count}
use Rattle.language.specs.Tokens.{Token}
use Rattle.language.specs.Tree.{Part, Spec}
use Rattle.language.specs.Places.{definition_lines, main_lines, all_lines}
use Rattle.language.specs.Names.{doubled, declares, declares_signal, over, again, nowhere, walk_lines, declared_again}
use Rattle.language.specs.Types.{ExprType, Typings, type_in, typed_signals, wrong_type}
use Rattle.language.specs.Parsing.{parsed}
use Rattle.language.specs.DeclaredNames.{identifiers, waiting, Port, inputs, outputs, Declarations, declarations}
use Rattle.language.specs.Numbering.{in_order, signal_list}
use Rattle.language.specs.Lines.{Line, Written, Implied, implied, lines}
use Rattle.language.specs.Expansion.{Context, at_signals, define_all, expand_line, expand_section, expand}
use Rattle.language.specs.Shifting.{adapted}
use Rattle.language.specs.Reading.{spec_expansion, text_expansion}
use Rattle.language.specs.Braces.{ProperSpec}
use Rattle.language.proofs.Laws.Basics.Lists.{All, Any, all_any}
use Rattle.language.proofs.Laws.Basics.NoPlace.{first-left}
use Rattle.language.proofs.Laws.Basics.Results.{Answers, done, guarded, placed, bind, weaken, refusal_of, gathered}
use Rattle.language.proofs.Laws.Grammar.Parses.{parses, parsed-proper}
use Rattle.language.proofs.Laws.Values.LineLaws.{implied-all}
use Rattle.language.proofs.Laws.Types.Reaching.{Reaches}
use Rattle.language.proofs.Laws.Types.ExpansionTypes.{Serves, formula-operand, expansion_reaches}
use Rattle.language.proofs.Laws.Types.KnownTypes.{typings, declared_known}
use Rattle.language.proofs.Laws.Types.DefinitionTypes.{found, typed_through, serves_definitions}
use Rattle.language.proofs.Laws.Types.TableTypes.{Standing, covers_table, standing_agree, standing_expands}
use Rattle.language.proofs.Laws.Types.LineTypes.{Passed, typed_parameters, LineFits, SectionFits, passed_parameters, passed_definitions, MainFits, main-fits}
use Rattle.language.proofs.Laws.Types.FirstTable.{first_standing}
use Rattle.language.proofs.Laws.Types.DeclarationTypes.{constants_reach, turns_reach}

-- an accepted text's lines
line_reaches : (ys : Typings) (c : Context) → Serves ys c → (l : Line) → LineFits ys l → Reaches Any (expand_line c l)
line_reaches ys c v (Written e) f = formula-operand ys e _ f.0 (expansion_reaches ys c v e f.1)
line_reaches ys c v (Implied p) f = done tt

section_reaches : (ys : Typings) (c : Context) → Serves ys c → (s : Part × List Line) → SectionFits ys s → Reaches Any (expand_section c s)
section_reaches ys c v s f = bind _ _ (gathered (LineFits ys) (expand_line c) (line_reaches ys c v) s.1 f) (λ fs _. done tt)

implied-fits : (ys : Typings) (ps : List Port) → All (LineFits ys) (implied ps)
implied-fits ys ps = implied-all (LineFits ys) Any (λ p _. tt) ps (all_any ps)

module _ (x : Spec) (proper : ProperSpec x) (once : declared_again x ≡ none) (typed : wrong_type x ≡ none) where
  before : Typings
  before = typed_signals (all_lines x)

  types : Token → ExprType
  types = type_in (typings (typed_signals (all_lines x)) (all_lines x))

  constantly : Typings
  constantly = typed_parameters (typed_signals (all_lines x)) x.parameters

  finally : Typings
  finally = typed_through (typed_parameters (typed_signals (all_lines x)) x.parameters) x.definitions

  all-passed : Passed types before (all_lines x)
  unfolding types before
  all-passed =
      record {
        known = declared_known before (all_lines x) (first-left (doubled (over declares (all_lines x))) (walk_lines nowhere again (over declares_signal (all_lines x)) (all_lines x)) once);
        fitting = typed;
      }

  definitions_passed : Passed types constantly (definition_lines x.definitions (main_lines x.main))
  unfolding before constantly
  definitions_passed = passed_parameters types x.parameters before (definition_lines x.definitions (main_lines x.main)) all-passed

  main_fit : MainFits types finally x.main
  unfolding constantly finally
  main_fit = main-fits types x.main finally proper.main (passed_definitions types x.definitions constantly (main_lines x.main) definitions_passed)

  -- every declared name stands for what it is declared to be
  abbrev Worked : Declarations → Type 0
  Worked d = Standing types (identifiers x.definitions) constantly d.table

  declarations_reach : Reaches Worked (declarations x)
  unfolding before constantly finally
  declarations_reach =
      let I = identifiers x.definitions in
      let ins = inputs x.main in
      let outs = outputs x.main in
      let ls = main_lines x.main in
      bind _ _
      (constants_reach types I (definition_lines x.definitions ls) x.parameters before (waiting ins (waiting outs I)) proper.parameters
      all-passed (first_standing types x constantly finally all-passed.known definitions_passed.known main_fit.ins main_fit.outs))
      (λ d k. bind _ _ (turns_reach types x.definitions ls constantly proper.definitions definitions_passed false ins d main_fit.ins k)
      (λ i u. bind _ _ (turns_reach types x.definitions ls constantly proper.definitions definitions_passed true outs i.table main_fit.outs u)
      (λ o w. done w)))

  serves_text : (d : Declarations) → Worked d → Serves finally (define_all (at_signals d) x.definitions)
  unfolding constantly finally
  serves_text d k =
      let I = identifiers x.definitions in
      let t = d.table in
      serves_definitions types (λ n. found t n.text) (main_lines x.main) x.definitions constantly (at_signals d)
      (record { values = standing_agree types I constantly t k; formulas = standing_expands (in_order d) types I constantly t k })
      (covers_table types t k.sound) k.kept proper.definitions definitions_passed.known definitions_passed.fitting

  expand_reaches : (d : Declarations) → Worked d → Reaches Any (expand x d (lines x d))
  expand_reaches d w =
      bind _ _ (gathered (SectionFits finally) _ (section_reaches finally _ (serves_text d w)) (lines x d)
      (main_fit.written _ (implied-fits finally d.inputs, (implied-fits finally d.outputs, tt))))
      (λ fs _. done tt)

-- refusals from 11 to 16 without 14: '14 no longer occurs'
abbrev pub Later : ℕ → Type 0
Later n = (11 ≤ n) × (n ≤ 16) × (n ≡ 14 → ⊥)

later : {A : Type 0} {Q : A → Type 0} (r : Result A) → Reaches Q r → Answers (λ n p. Later n) Q r
later r h = weaken r (λ n p l. omega arith) (λ a q. q) h

expansion-later : (x : Spec) → ProperSpec x → declared_again x ≡ none → wrong_type x ≡ none → Answers (λ n p. Later n) Any (spec_expansion x)
unfolding spec_expansion
expansion-later x s o w =
    bind (declarations x) _ (later _ (declarations_reach x s o w)) (λ d k. bind (expand x d (lines x d)) _ (later _ (expand_reaches x s o w d k)) (λ f u.
    placed 15 _ (λ p e. omega arith)
    (guarded (leb (count (adapted x.semantics x.target (signal_list (in_order d)) f)) max_nodes) 16 0 (λ _. omega arith) (λ _. done tt))))

pub expansion-refused : (x : Spec) → ProperSpec x → declared_again x ≡ none → wrong_type x ≡ none → (n p : ℕ) → spec_expansion x ≡ Refused n p → Later n
expansion-refused x s o w n p e = refusal_of e (expansion-later x s o w)

-- a parsed text is refused by 11 to 16 only, and never by 14
pub parsed-refused : (text : List ℕ) (x : Spec) → parsed text ≡ Done x → (n p : ℕ) → spec_expansion x ≡ Refused n p → Later n
parsed-refused text x e = let w = (parses e).formed in expansion-refused x (parsed-proper text e) w.distinct w.typed

refused-first : (n p : ℕ) → n ≤ 10 → (r : Result Spec) → ((x : Spec) → r ≡ Done x → spec_expansion x ≡ Refused n p → Later n) → r >>= spec_expansion ≡ Refused n p
    → r ≡ Refused n p
unfolding ◌>>=◌
refused-first n p l (Done x) f h = let late = f x refl h in absurd (omega arith)
refused-first n p l (Refused m q) f h = cc

-- so a refusal by 1 to 10 is one of the text's form, never met while working it out
pub refused_while_parsing : (text : List ℕ) (n p : ℕ) → text_expansion text ≡ Refused n p → n ≤ 10 → parsed text ≡ Refused n p
unfolding text_expansion
refused_while_parsing text n p e l = refused-first n p l (parsed text) (λ x h. parsed-refused text x h n p) e

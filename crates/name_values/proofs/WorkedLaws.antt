-- A resolved tree is worked whole: its lines are passed one after the other, with the names visible at each, and all its expressions are proper.
use Rattle.std.specs.Prelude.{ℕ, suc, ◌+◌, ◌≤◌, false, List, [], ◌∷◌, ◌++◌, ◌≡◌, refl, length}
use Rattle.std.proofs.Common.{append_assoc, append-nil, sym, ap, ◌∙◌, subst, arith, length-append}
use Rattle.std.proofs.Math.Option.{none, some}
use Rattle.language.specs.Limits.{max_names}
use Rattle.language.specs.Tokens.{Token, tokens}
use Rattle.language.specs.Tree.{Expr, Named, Parameter, Definition, Defined, Enumerated, Declaration, OneSignal, OfWidth, OfType, Subsection, Inputs, Outputs, Lines, Spec}
use Rattle.language.specs.Places.{ParameterLine, DefinitionLine, DeclarationLine, FormulaLine, parameter_lines, definition_lines, declaration_lines, formula_lines, main_lines, all_lines}
use Rattle.language.specs.Places as Places
use Rattle.language.specs.DeclaredNames.{Table, find, Port}
use Rattle.language.specs.Expansion.{context_of, define_all}
use Rattle.language.specs.Names.{Names, hidden, nowhere, walk, walk_line, walk_lines, declares, declares_signal, over}
use Rattle.language.specs.Braces.{Proper, ProperParameter, ProperDefinition, ProperDeclaration, ProperSubsection, ProperSpec}
use Rattle.language.proofs.Laws.Basics.Lists.{All, all_more, all_left, all_right, all_append, all_any}
use Rattle.language.proofs.Laws.Basics.NoPlace.{first-left, first-right}
use Rattle.language.proofs.Laws.Basics.Results.{value_of}
use Rattle.language.proofs.Laws.Grammar.BracesReads.{spec_proper}
use Rattle.language.proofs.Laws.Values.DistinctNames.{Apart, Distinct, Across, across, distinct_right, distinct_names, distinct_definitions}
use Rattle.entries.specs.Kinds as Kind
use Rattle.entries.specs.Flat.{Entry, flat, each, flat_parameter, flat_definition, flat_declaration, flat_line, flat_subsection}
use Rattle.names.specs.Resolved.{Stored, declared_names, Resolved}
use Rattle.name_values.proofs.AgreesLaws.{Fits, agrees}
use Rattle.name_values.specs.World.{Before}
use Rattle.name_values.specs.Worlds.{meaning, world_of}
use Rattle.name_values.proofs.WorldsLaws.{table_before, behind-before, fits-between}
use Rattle.name_values.specs.Passing.{Left, Here}
use Rattle.name_values.proofs.PassingLaws.{plain-identifiers, left-same, left_at, left-all, pass-entry, pass-plain, pass-line}
use Rattle.names.proofs.VisibleLaws.{In, Among, in_declared, among-more, among-all, of_signals}
use Rattle.name_values.proofs.ElsewhereLaws.{own_names, visible_elsewhere, behind_parameters, of_definitions, signals_apart}
use Rattle.name_values.specs.Worked.{world_in, Worked, EachFrom, Parameterwise, Definitionwise, Linewise, Declarationwise, Subsectionwise, definitions_start, main_start, TreeWorked}

-- at the lines ls, after others, with the definitions `later` still to come: the names visible there
pub record Seen (x : Spec) (ls : List Places.TextLine) (later : List Definition) (ns : Names) : Type 0 where
  pub shown : walk_lines hidden nowhere ns ls ≡ none
  pub distinct : Distinct (over declares ls)
  pub own : All (In (declared_names x)) (over declares ls)
  pub among : Among ns (declared_names x)
  pub apart : Across ns (own_names later)

each_more : {A : Type 0} (f : A → List Entry) (l : List A) (a : A) → length (each f (l ++ a ∷ [])) ≡ length (each f l) + length (f a)
each_more f [] a = ap length (append-nil (f a)) ∙ omega arith
each_more f (b ∷ l) a = let h = each_more f l a in let y = length-append (f b) (each f (l ++ a ∷ [])) in let z = length-append (f b) (each f l) in omega arith

-- one more definition before
pub starts-next : (x : Spec) (before : List Definition) (d : Definition) (start : ℕ) → definitions_start x + length (each flat_definition before) ≡ start
    → definitions_start x + length (each flat_definition (before ++ d ∷ [])) ≡ start + length (flat_definition d)
starts-next x before d start a = let z = each_more flat_definition before d in omega arith

across_none : (ns : Names) → Across ns []
across_none ns = all_more (λ n _. tt) ns (all_any ns)

seen_next : {x : Spec} (l : Places.TextLine) (ls : List Places.TextLine) (later next : List Definition) (ns : Names) → Seen x (l ∷ ls) later ns → Across (declares l ++ ns) (own_names next)
    → Seen x ls next (declares l ++ ns)
seen_next {x} l ls later next ns v a =
    record {
      shown = first-right (walk_line hidden nowhere ns l) _ v.shown;
      distinct = distinct_right (declares l) (over declares ls) v.distinct;
      own = all_right (In (declared_names x)) (declares l) (over declares ls) v.own;
      among = among-more (declares l) ns (declared_names x) (all_left (In (declared_names x)) (declares l) (over declares ls) v.own) v.among;
      apart = a;
    }

-- some lines are passed: Q of them, and what is left
record Passed (x : Spec) (text w : List ℕ) (Q : Type 0) (start : ℕ) (es : List Entry) (ls : List Places.TextLine) (later : List Definition) : Type 0 where
  pub done : Q
  pub names : Names
  pub left : Left x text w start es
  pub seen : Seen x ls later names

later-definition : {x : Spec} (d : Definition) (ds : List Definition) (ls : List Places.TextLine) (ns : Names) → Seen x (DefinitionLine d ∷ definition_lines ds ls) (d ∷ ds) ns
    → Seen x (definition_lines ds ls) ds (declares (DefinitionLine d) ++ ns)
later-definition d ds ls ns v =
    let own = declares (DefinitionLine d) in
    seen_next (DefinitionLine d) (definition_lines ds ls) (d ∷ ds) ds ns v
    (all_append (λ m. All (Apart m) (own_names ds)) own ns
    (all_more (λ m a. of_definitions (Apart m) ds ls a) own (across own (over declares (definition_lines ds ls)) v.distinct))
    (all_more (λ m a. all_right (Apart m) own (own_names ds) a) ns v.apart))

module _ {x : Spec} {text w refs found : List ℕ} {count entries n : ℕ} (s : Stored text w count entries x) (r : Resolved x refs found n) where
  few : length (declared_names x) ≤ max_names
  few = let a = r.count in let b = r.few in omega arith

  -- an expression that is passed, with the names visible there
  worked : (before later : List Definition) → x.definitions ≡ before ++ later → (limit : ℕ) → ((ps : List Port) (d : Table) (m : Token) → Before limit (meaning ps d (definitions_start x) before m))
      → (ns : Names) → Among ns (declared_names x) → Across ns (own_names later) → (k : ℕ) (e : Expr) → limit + length (flat e) ≤ suc k → Proper false e → walk hidden nowhere ns e ≡ none
      → Here x text w refs k e → Worked x text w refs before k e
  worked before later q limit early ns among apart k e within proper y h =
      record {
        here = h;
        known = λ ps d. record {
          at = h.at;
          limit = limit;
          within = within;
          agrees = agrees (world_in x ps d) limit (declared_names x) refs [] [] ns (define_all (context_of ps d) before)
              (subst (λ ds. Fits (world_of ps d (definitions_start x) ds (declared_names x)) limit (declared_names x) [] [] ns (define_all (context_of ps d) before)) (sym q)
              (fits-between ps d (definitions_start x) before later (declared_names x) ns limit few among (visible_elsewhere ns later apart) (early ps d))) k e h.refers y;
          proper = proper;
        };
      }

  -- lines of one sort
  module _ {A : Type 0} (flatten : A → List Entry) (line : A → Places.TextLine) (lines : List A → List Places.TextLine → List Places.TextLine) (none_left : (ls : List Places.TextLine) → lines [] ls ≡ ls)
      (one_more : (a : A) (l : List A) (ls : List Places.TextLine) → lines (a ∷ l) ls ≡ line a ∷ lines l ls)
      (Q : A → Type 0) (P : ℕ → A → Type 0) (low : ℕ) (later : List Definition) (es : List Entry) (ls : List Places.TextLine)
      (step : (a : A) (l : List A) (start : ℕ) (rest : List Entry) (ns : Names) → Q a → low ≤ start → Left x text w start (flatten a ++ rest) → Seen x (line a ∷ lines l ls) later ns
      → P start a × Left x text w (start + length (flatten a)) rest × Across (declares (line a)) (own_names later)) where
    pass-lines : (l : List A) (start : ℕ) (ns : Names) → All Q l → low ≤ start → Left x text w start (each flatten l ++ es) → Seen x (lines l ls) later ns
        → Passed x text w (EachFrom flatten P start l) (start + length (each flatten l)) es ls later
    pass-lines [] start ns f b h v = record { done = tt; names = ns; left = left_at (omega arith) h; seen = subst (λ m. Seen x m later ns) (none_left ls) v }
    pass-lines (a ∷ l) start ns f b h v =
        let u = subst (λ m. Seen x m later ns) (one_more a l ls) v in
        let p = step a l start (each flatten l ++ es) ns f.0 b (left-same (append_assoc (flatten a) (each flatten l) es) h) u in
        let c : Across (declares (line a) ++ ns) (own_names later) = all_append (λ m. All (Apart m) (own_names later)) (declares (line a)) ns p.2 u.apart in
        let q = pass-lines l (start + length (flatten a)) (declares (line a) ++ ns) f.1 (omega arith) p.1 (seen_next (line a) (lines l ls) later later ns u c) in
        let z = length-append (flatten a) (each flatten l) in
        record { done = (p.0, q.done); names = q.names; left = left_at (omega arith) q.left; seen = q.seen }

  -- the sections, each after the one before
  parameters_worked : (ds : List Definition) → x.definitions ≡ ds → (es : List Entry) (ls : List Places.TextLine) (ps : List Parameter) (start : ℕ) (ns : Names) → All ProperParameter ps
      → Left x text w start (each flat_parameter ps ++ es) → Seen x (parameter_lines ps (definition_lines ds ls)) ds ns →
      Passed x text w (EachFrom flat_parameter (Parameterwise x text w refs) start ps) (start + length (each flat_parameter ps)) es (definition_lines ds ls) ds
  parameters_worked ds q es ls ps start ns f h v =
      pass-lines flat_parameter (λ p. ParameterLine p.name p.value) parameter_lines (λ m. refl) (λ p l m. refl) ProperParameter (Parameterwise x text w refs) 0 ds es (definition_lines ds ls)
      (λ p l at rest ms g b k u.
      let y = first-left (walk hidden nowhere ms p.value) _ u.shown in
      let z = pass-line s r Kind.parameter (some p.name) p.value refl refl at rest k in (
        worked [] ds q 0 (λ _ d m. table_before 0 (find d m.text)) ms u.among u.apart _ p.value (omega arith) g y z.0,
        z.1,
        (of_definitions (Apart p.name) ds ls (behind_parameters (Apart p.name) l (definition_lines ds ls) u.distinct.0), tt),
      ))
      ps start ns f (omega arith) h v

  definitions_worked : (es : List Entry) (ls : List Places.TextLine) (before ds : List Definition) → x.definitions ≡ before ++ ds → (start : ℕ)
      → definitions_start x + length (each flat_definition before) ≡ start → (ns : Names) → All ProperDefinition ds → Left x text w start (each flat_definition ds ++ es)
      → Seen x (definition_lines ds ls) ds ns →
      Passed x text w (Definitionwise x text w refs before start ds) (start + length (each flat_definition ds)) es ls []
  definitions_worked es ls before [] q start a ns f h v = record { done = tt; names = ns; left = left_at (omega arith) h; seen = v }
  definitions_worked es ls before (Defined m e ∷ ds) q start a ns f h v =
      let d = Defined m e in
      let y = first-left (walk hidden nowhere ns e) _ v.shown in
      let g = pass-line s r Kind.definition (some m) e refl refl start (each flat_definition ds ++ es) (left-same (append_assoc (flat_definition d) (each flat_definition ds) es) h) in
      let p = definitions_worked es ls (before ++ d ∷ []) ds (q ∙ sym (append_assoc before (d ∷ []) ds)) (start + length (flat_definition d)) (starts-next x before d start a) (m ∷ ns) f.1 g.1
      (later-definition d ds ls ns v) in
      let z = length-append (flat_definition d) (each flat_definition ds) in
      record {
        done = (
          worked before (d ∷ ds) q start (λ ps t k. subst (λ b. Before b (meaning ps t (definitions_start x) before k)) a
              (behind-before before (context_of ps t) (definitions_start x) k _ (table_before (definitions_start x) (find t k.text)))) ns v.among v.apart _ e (omega arith) f.0 y g.0,
          p.done,
        );
        names = p.names;
        left = left_at (omega arith) p.left;
        seen = p.seen;
      }
  definitions_worked es ls before (Enumerated m is ∷ ds) q start a ns f h v =
      let d = Enumerated m is in
      let g = pass-plain s r (flat_definition d) ((refl, refl), plain-identifiers is) start (each flat_definition ds ++ es) (left-same (append_assoc (flat_definition d) (each flat_definition ds) es) h) in
      let p = definitions_worked es ls (before ++ d ∷ []) ds (q ∙ sym (append_assoc before (d ∷ []) ds)) (start + length (flat_definition d)) (starts-next x before d start a)
      (declares (DefinitionLine d) ++ ns) f.1 g (later-definition d ds ls ns v) in
      let z = length-append (flat_definition d) (each flat_definition ds) in
      record { done = p.done; names = p.names; left = left_at (omega arith) p.left; seen = p.seen }

  -- a line of MAIN
  main_worked : (ns : Names) (ls : List Places.TextLine) → Seen x ls [] ns → (k : ℕ) (e : Expr) → main_start x + length (flat e) ≤ suc k → Proper false e → walk hidden nowhere ns e ≡ none
      → Here x text w refs k e → Worked x text w refs x.definitions k e
  main_worked ns ls v k e b f y h =
      worked x.definitions [] (sym (append-nil x.definitions)) (main_start x)
      (λ ps d m. behind-before x.definitions (context_of ps d) (definitions_start x) m _ (table_before (definitions_start x) (find d m.text)))
      ns v.among v.apart k e b f y h

  declarations_worked : (es : List Entry) (ls : List Places.TextLine) (ds : List Declaration) (start : ℕ) (ns : Names) → All ProperDeclaration ds → main_start x ≤ start
      → Left x text w start (each flat_declaration ds ++ es) → Seen x (declaration_lines ds ls) [] ns →
      Passed x text w (EachFrom flat_declaration (Declarationwise x text w refs) start ds) (start + length (each flat_declaration ds)) es ls []
  declarations_worked es ls ds start ns f b h v =
      pass-lines flat_declaration DeclarationLine declaration_lines (λ m. refl) (λ d l m. refl) ProperDeclaration (Declarationwise x text w refs) (main_start x) [] es ls step ds start ns f b h v
    where
      step : (d : Declaration) (l : List Declaration) (at : ℕ) (rest : List Entry) (ms : Names) → ProperDeclaration d → main_start x ≤ at → Left x text w at (flat_declaration d ++ rest)
          → Seen x (DeclarationLine d ∷ declaration_lines l ls) [] ms → Declarationwise x text w refs at d × Left x text w (at + length (flat_declaration d)) rest × Across
          (declares (DeclarationLine d)) []
      step (OneSignal m) l at rest ms f b k u = (tt, pass-plain s r (flat_declaration (OneSignal m)) ((refl, refl), tt) at rest k, across_none (m ∷ []))
      step (OfWidth m e) l at rest ms f b k u =
          let g = pass-line s r Kind.bus (some m) e refl refl at rest k in
          (main_worked ms _ u _ e (omega arith) f.1 (first-left (walk hidden nowhere ms e) _ u.shown) g.0, g.1, across_none (m ∷ []))
      step (OfType t m) l at rest ms f b k u =
          let g = pass-line s r Kind.typed (some m) (Named t) refl refl at rest k in
          (main_worked ms _ u _ (Named t) (omega arith) (refl, f.0) (first-left (hidden ms t) _ u.shown) g.0, g.1, across_none (m ∷ []))

  formulas_worked : (es : List Entry) (ls : List Places.TextLine) (fs : List Expr) (start : ℕ) (ns : Names) → All (Proper false) fs → main_start x ≤ start → Left x text w start (each flat_line fs ++ es)
      → Seen x (formula_lines fs ls) [] ns →
      Passed x text w (EachFrom flat_line (Linewise x text w refs) start fs) (start + length (each flat_line fs)) es ls []
  formulas_worked es ls fs start ns f b h v =
      pass-lines flat_line FormulaLine formula_lines (λ m. refl) (λ e l m. refl) (Proper false) (Linewise x text w refs) (main_start x) [] es ls
      (λ e l at rest ms p c k u.
      let g = pass-line s r Kind.line none e refl refl at rest k in
      (main_worked ms _ u _ e (omega arith) p (first-left (walk hidden nowhere ms e) _ u.shown) g.0, g.1, tt))
      fs start ns f b h v

  subsections_worked : (ss : List Subsection) (start : ℕ) (ns : Names) → All ProperSubsection ss → main_start x ≤ start → Left x text w start (each flat_subsection ss) → Seen x (main_lines ss) [] ns
      → EachFrom flat_subsection (Subsectionwise x text w refs) start ss
  subsections_worked [] start ns f b h v = tt
  subsections_worked (Inputs ds ∷ ss) start ns f b h v =
      let p = declarations_worked (each flat_subsection ss) (main_lines ss) ds (suc start) ns f.0 (omega arith)
      (pass-entry s r _ refl refl start (each flat_declaration ds ++ each flat_subsection ss) h) v in
      (p.done, subsections_worked ss _ p.names f.1 (omega arith) (left_at (omega arith) p.left) p.seen)
  subsections_worked (Outputs ds ∷ ss) start ns f b h v =
      let p = declarations_worked (each flat_subsection ss) (main_lines ss) ds (suc start) ns f.0 (omega arith)
      (pass-entry s r _ refl refl start (each flat_declaration ds ++ each flat_subsection ss) h) v in
      (p.done, subsections_worked ss _ p.names f.1 (omega arith) (left_at (omega arith) p.left) p.seen)
  subsections_worked (Lines part fs ∷ ss) start ns f b h v =
      let p = formulas_worked (each flat_subsection ss) (main_lines ss) fs (suc start) ns f.0 (omega arith) (pass-entry s r _ refl refl start (each flat_line fs ++ each flat_subsection ss) h) v in
      (p.done, subsections_worked ss _ p.names f.1 (omega arith) (left_at (omega arith) p.left) p.seen)

  -- the whole tree
  pub tree_worked : TreeWorked x text w refs
  tree_worked =
      let names = declared_names x in
      let signals = over declares_signal (all_lines x) in
      let seen : Seen x (all_lines x) x.definitions signals = record {
        shown = r.visible;
        distinct = distinct_names x r.distinct;
        own = in_declared x;
        among = among-all signals names (of_signals (In names) (all_lines x) (in_declared x));
        apart = signals_apart x (distinct_definitions x r.distinct);
      } in
      let f : ProperSpec x = value_of s.read (spec_proper (tokens text)) in
      let p = parameters_worked x.definitions refl (each flat_definition x.definitions ++ each flat_subsection x.main) (main_lines x.main) x.parameters 0 signals f.parameters
      (left-all s r) seen in
      let q = definitions_worked (each flat_subsection x.main) (main_lines x.main) [] x.definitions refl (definitions_start x) (omega arith) p.names f.definitions
      (left_at (omega arith) p.left) p.seen in
      record { parameters = p.done; definitions = q.done; main = subsections_worked x.main (main_start x) q.names f.main (omega arith) q.left q.seen }

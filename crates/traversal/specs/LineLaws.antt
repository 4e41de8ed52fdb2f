-- From a text's entries to its lines: a pass that does right by each line does right by the text.
use Rattle.std.specs.Prelude.{ℕ, suc, ◌+◌, List, [], ◌∷◌, ◌++◌, ◌≡◌, refl}
use Rattle.std.proofs.Common.{append_assoc, sym, ap, ◌∙◌, subst}
use Rattle.std.proofs.Math.Option.{Option, none, some}
use Rattle.language.specs.Tokens.{Token}
use Rattle.language.specs.Tree.{Identifier, part_code, Subsection, Inputs, Outputs, Lines, Spec}
use Rattle.language.specs.Places.{
  first,
  TextLine as Line,
  ParameterLine,
  DefinitionLine,
  DeclarationLine,
  FormulaLine,
  parameter_lines,
  definition_lines,
  declaration_lines,
  formula_lines,
  main_lines,
  all_lines,
}
use Rattle.language.proofs.Laws.Basics.Lists.{All, all_append}
use Rattle.language.proofs.Laws.Basics.NoPlace.{first_none, first_assoc}
use Rattle.entries.specs.Kinds as Kind
use Rattle.entries.specs.Flat.{Entry, flat, under, each, leaf, flat_identifier, flat_definition, flat_declaration, flat_line, head, flat_subsection, outline}
use Rattle.traversal.specs.declared.Cell.{Cell}
use Rattle.traversal.specs.Cells.{SeenAlong}
use Rattle.traversal.specs.PassLaws.{run, Comes}

-- the entries of a line
abbrev pub entries_of : Line → List Entry
entries_of (ParameterLine x e) = under Kind.parameter (some x) (flat e)
entries_of (DefinitionLine d) = flat_definition d
entries_of (DeclarationLine d) = flat_declaration d
entries_of (FormulaLine e) = flat_line e

-- what is known of lines, when what is known before a line changes by it
abbrev pub Each : {K : Type 0} → (K → Line → K) → (K → Line → Type 0) → K → List Line → Type 0
Each after Q k [] = Unit {0}
Each after Q k (l ∷ ls) = Q k l × Each after Q (after k l) ls

-- the first place of lines
abbrev pub first_bad : {K : Type 0} → (K → Line → K) → (K → Line → Option ℕ) → K → List Line → Option ℕ
first_bad after bad k [] = none
first_bad after bad k (l ∷ ls) = first (bad k l) (first_bad after bad (after k l) ls)

-- what is known behind lines
abbrev pub lastly : {K : Type 0} → (K → Line → K) → K → List Line → K
lastly after k [] = k
lastly after k (l ∷ ls) = lastly after (after k l) ls

-- between lines what is carried along the entries is always b
module _ {K B State : Type 0} (along : B → Entry → B) (T : B → ℕ → Entry → Type 0) (b : B) (cell : ℕ → Cell) (step : Cell → State → State)
    (idle : K → ℕ → Option ℕ → State) (after : K → Line → K) (bad : K → Line → Option ℕ) (Good : K → Line → Type 0) where
  abbrev Sight : ℕ → List Entry → Type 0
  Sight i es = SeenAlong along T cell b i es

  -- from the entries es on, and from a state between lines, the pass comes to such a state at the entries rs
  pub record Lined (es : List Entry) (i : ℕ) (s : State) (rs : List Entry) (k : K) (f : Option ℕ) : Type 0 where
    pub before : ℕ
    pub comes : Comes along T step cell es i s b rs (idle k before f)

  abbrev pub LineDone : Type 0
  LineDone = (k : K) (l : Line) → Good k l → (es : List Entry) (i before : ℕ) (f : Option ℕ) → Sight i (entries_of l ++ es) →
      Lined (entries_of l ++ es) i (idle k before f) es (after k l) (first f (bad k l))

  -- entries of these kinds stand alone: the pass goes by
  pub record Alone (j : ℕ) : Type 0 where
    pub steps : (c : Cell) (k : K) (before : ℕ) (f : Option ℕ) → c.kind ≡ j → step c (idle k before f) ≡ idle k c.kind f
    pub stays : (e : Entry) → e.kind ≡ j → along b e ≡ b

  next-seen : (e : Entry) (i : ℕ) (es : List Entry) → Alone e.kind → SeenAlong along T cell (along b e) i es → Sight i es
  next-seen e i es a h = subst (λ d. SeenAlong along T cell d i es) (a.stays e refl) h

  abbrev AllAlone : List Entry → Type 0
  AllAlone es = All (λ e. Alone e.kind) es

  pub alone-done : (us es : List Entry) → All (λ e. Alone e.kind) us → (k : K) (i before : ℕ) (f : Option ℕ) → Sight i (us ++ es) → Lined (us ++ es) i (idle k before f) es k f
  alone-done [] es a k i before f h = record { before = before; comes = record { place = i; seen = h; runs = refl } }
  alone-done (e ∷ us) es a k i before f h =
      let more = alone-done us es a.1 k (suc i) (cell i).kind f (next-seen e (suc i) (us ++ es) a.0 h.1) in
      record {
        before = more.before;
        comes = record { place = more.comes.place; seen = more.comes.seen; runs = ap (run step cell (us ++ es) (suc i)) (a.0.steps (cell i) k before f h.0.kind) ∙ more.comes.runs };
      }

  words-alone : Alone Kind.word → (ws : List Token) → AllAlone (each (leaf Kind.word) ws)
  words-alone a [] = tt
  words-alone a (w ∷ ws) = (a, words-alone a ws)

  pub identifiers-alone : Alone Kind.identifier → Alone Kind.word → (is : List Identifier) → AllAlone (each flat_identifier is)
  identifiers-alone a b [] = tt
  identifiers-alone a b (i ∷ is) = (a, all_append (λ e. Alone e.kind) (each (leaf Kind.word) i.words) (each flat_identifier is) (words-alone b i.words) (identifiers-alone a b is))

  -- entries that are the last of the text, and the lines that they hold
  pub record Finished (es : List Entry) (i : ℕ) (s : State) (k : K) (f : Option ℕ) : Type 0 where
    pub before : ℕ
    pub runs : run step cell es i s ≡ idle k before f

  abbrev Holds : List Entry → List Line → Type 0
  Holds es ls = (k : K) (i before : ℕ) (f : Option ℕ) → Each after Good k ls → Sight i es → Finished es i (idle k before f) (lastly after k ls) (first f (first_bad after bad k ls))

  module _ (line : LineDone) (heading : Alone Kind.heading) where
    none-hold : Holds [] []
    none-hold k i before f g h = record { before = before; runs = ap (idle k before) (sym (first_none f)) }

    one_holds : (l : Line) (es : List Entry) (ls : List Line) → Holds es ls → Holds (entries_of l ++ es) (l ∷ ls)
    one_holds l es ls more k i before f g h =
        let one = line k l g.0 es i before f h in
        let rest = more (after k l) one.comes.place one.before (first f (bad k l)) g.1 one.comes.seen in
        record { before = rest.before; runs = one.comes.runs ∙ rest.runs ∙ ap (idle (lastly after k (l ∷ ls)) rest.before) (first_assoc f (bad k l) (first_bad after bad (after k l) ls)) }

    head-holds : (n : ℕ) (es : List Entry) (ls : List Line) → Holds es ls → Holds (head n ++ es) ls
    head-holds n es ls more k i before f g h =
        let rest = more k (suc i) (cell i).kind f g (next-seen _ (suc i) es heading h.1) in
        record { before = rest.before; runs = ap (run step cell es (suc i)) (heading.steps (cell i) k before f h.0.kind) ∙ rest.runs }

    -- lines of one sort
    listed-hold : {A : Type 0} (form : A → Line) (lines : List A → List Line → List Line)
        → ((ls : List Line) → lines [] ls ≡ ls) → ((a : A) (xs : List A) (ls : List Line) → lines (a ∷ xs) ls ≡ form a ∷ lines xs ls)
        → (xs : List A) (es : List Entry) (ls : List Line) → Holds es ls → Holds (each (λ a. entries_of (form a)) xs ++ es) (lines xs ls)
    listed-hold form lines nil cons [] es ls more = subst (Holds es) (sym (nil ls)) more
    listed-hold form lines nil cons (a ∷ xs) es ls more =
        let rest = listed-hold form lines nil cons xs es ls more in
        let one = one_holds (form a) (each (λ b. entries_of (form b)) xs ++ es) (lines xs ls) rest in
        subst (λ r. Holds r (lines (a ∷ xs) ls)) (sym (append_assoc (entries_of (form a)) (each (λ b. entries_of (form b)) xs) es)) (subst (Holds _) (sym (cons a xs ls)) one)

    main-holds : (ss : List Subsection) → Holds (each flat_subsection ss) (main_lines ss)
    main-holds [] = none-hold
    main-holds (Inputs ds ∷ ss) = head-holds 0 _ (declaration_lines ds (main_lines ss))
        (listed-hold DeclarationLine declaration_lines (λ ls. refl) (λ a xs ls. refl) ds (each flat_subsection ss) (main_lines ss) (main-holds ss))
    main-holds (Outputs ds ∷ ss) = head-holds 1 _ (declaration_lines ds (main_lines ss))
        (listed-hold DeclarationLine declaration_lines (λ ls. refl) (λ a xs ls. refl) ds (each flat_subsection ss) (main_lines ss) (main-holds ss))
    main-holds (Lines p es ∷ ss) = head-holds (2 + part_code p) _ (formula_lines es (main_lines ss))
        (listed-hold FormulaLine formula_lines (λ ls. refl) (λ a xs ls. refl) es (each flat_subsection ss) (main_lines ss) (main-holds ss))

    pub text-holds : (x : Spec) → Holds (outline x) (all_lines x)
    text-holds x =
        listed-hold (λ p. ParameterLine p.name p.value) parameter_lines (λ ls. refl) (λ a xs ls. refl) x.parameters (each flat_definition x.definitions ++ each flat_subsection x.main)
        (definition_lines x.definitions (main_lines x.main))
        (listed-hold DefinitionLine definition_lines (λ ls. refl) (λ a xs ls. refl) x.definitions (each flat_subsection x.main) (main_lines x.main) (main-holds x.main))

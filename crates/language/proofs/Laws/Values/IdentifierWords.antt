-- An enumeration's identifier stands for its own words: no parameter, signal or other identifier has its name.
use Rattle.std.specs.Prelude.{ℕ, ◌≡◌, refl, Bool, List, [], ◌∷◌, ◌++◌}
use Rattle.std.proofs.Common.{sym, ◌∙◌, ap, subst}
use Rattle.std.proofs.Math.Bool.{true, false}
use Rattle.std.proofs.Math.Option.{none}
use Rattle.node.specs.Result.{Done}
use Rattle.language.specs.Bytes.{same}
use Rattle.language.specs.Tokens.{Token}
use Rattle.language.specs.Tree.{Identifier, Definition, Defined, Enumerated, Parameter, Declaration, OneSignal, OfWidth, OfType, Spec}
use Rattle.language.specs.Places.{TextLine, parameter_lines, definition_lines, main_lines}
use Rattle.language.specs.Names.{declared_again, identifier_names, declares, over}
use Rattle.language.specs.DeclaredNames.{Constant, Identifies, Table, find, identified, identifiers, as_declared, turns, waiting, constants, inputs, outputs, Declarations, declarations}
use Rattle.language.proofs.Laws.Basics.Lists.{All, all_more, all_append, all_left, all_right, all_both, all_swap}
use Rattle.language.proofs.Laws.Basics.Tests.{pick, leave, same_refl}
use Rattle.language.proofs.Laws.Basics.Results.{done, bind, bind_any, weaken, value_of, Within}
use Rattle.language.proofs.Laws.Values.DistinctNames.{
  Apart,
  Distinct,
  apart_sym,
  distinct_right,
  distinct_left,
  Across,
  across,
  distinct_before,
  declared_names,
  signals-among,
  distinct_names,
  distinct_definitions,
}
use Rattle.language.proofs.Laws.Values.PortLaws.{port_of_for}

-- names that are not x are passed over
module _ (x : List ℕ) where
  abbrev Other : Token → Type 0
  Other n = same n.text x ≡ false

  waiting-find : (ds : List Declaration) (d : Table) → All Other (declared_names ds) → find (waiting ds d) x ≡ find d x
  waiting-find [] d h = refl
  waiting-find (OneSignal y ∷ ds) d h = leave (same y.text x) _ _ h.0 ∙ waiting-find ds d h.1
  waiting-find (OfWidth y e ∷ ds) d h = leave (same y.text x) _ _ h.0 ∙ waiting-find ds d h.1
  waiting-find (OfType u y ∷ ds) d h = leave (same y.text x) _ _ h.0 ∙ waiting-find ds d h.1

  constants-find : (ps : List Parameter) (d : Table) → All (λ p. Other p.name) ps → Within (λ t. find t x ≡ find d x) (constants ps d)
  constants-find [] d h = done refl
  constants-find (p ∷ ps) d h =
      bind_any _ _ (λ n. weaken _ (λ _ _ u. u) (λ t e. e ∙ leave (same p.name.text x) _ _ h.0) (constants-find ps ((p.name.text, Constant n) ∷ d) h.1))

  turns-find : (defs : List Definition) (output : Bool) (ds : List Declaration) (d : Table) → All Other (declared_names ds) → Within (λ s. find s.table x ≡ find d x) (turns defs output ds d)
  turns-find defs output [] d h = done refl
  turns-find defs output (m ∷ ds) d h =
      bind _ _ (port_of_for defs output d m) (λ p f.
      bind _ _ (turns-find defs output ds ((p.name.text, as_declared p.width) ∷ d) h.1) (λ s e.
      done (e ∙ leave (same p.name.text x) _ _ (subst Other (sym f.named) h.0))))

-- all identifiers of the text, and their names
abbrev pub all_identifiers : List Definition → List Identifier
all_identifiers [] = []
all_identifiers (Defined x e ∷ ds) = all_identifiers ds
all_identifiers (Enumerated x is ∷ ds) = is ++ all_identifiers ds

identified-append : (is js : List Identifier) → identified (is ++ js) ≡ identified is ++ identified js
identified-append [] js = refl
identified-append (i ∷ is) js = ap ((i.name.text, Identifies i.words) ∷◌) (identified-append is js)

identifiers_are : (ds : List Definition) → identifiers ds ≡ identified (all_identifiers ds)
identifiers_are [] = refl
identifiers_are (Defined x e ∷ ds) = identifiers_are ds
identifiers_are (Enumerated x is ∷ ds) = ap (identified is ++◌) (identifiers_are ds) ∙ sym (identified-append is (all_identifiers ds))

names-append : (is js : List Identifier) → identifier_names (is ++ js) ≡ identifier_names is ++ identifier_names js
names-append [] js = refl
names-append (i ∷ is) js = ap (i.name ∷◌) (names-append is js)

-- an identifier among others
Stands : Table → Identifier → Type 0
Stands d i = find d i.name.text ≡ Done (Identifies i.words)

identified_stand : (is : List Identifier) → Distinct (identifier_names is) → All (Stands (identified is)) is
unfolding Stands
identified_stand [] d = tt
identified_stand (i ∷ is) d = (pick (same i.name.text i.name.text) _ _ (same_refl i.name.text), later is d.0 (identified_stand is d.1))
  where
    later : (js : List Identifier) → All (Apart i.name) (identifier_names js) → All (Stands (identified is)) js → All (Stands (identified (i ∷ is))) js
    later [] a h = tt
    later (j ∷ js) a h = (leave (same i.name.text j.name.text) _ _ a.0 ∙ h.0, later js a.1 h.1)

-- the names of definitions: the identifiers' are among them
module _ (P : Token → Type 0) where
  identifiers-among : (ds : List Definition) (ls : List TextLine) → All P (over declares (definition_lines ds ls)) → All P (identifier_names (all_identifiers ds)) × All P (over declares ls)
  identifiers-among [] ls h = (tt, h)
  identifiers-among (Defined x e ∷ ds) ls h = identifiers-among ds ls h.1
  identifiers-among (Enumerated x is ∷ ds) ls h =
      let I = identifier_names is in
      let r = identifiers-among ds ls (all_right P I _ h.1) in
      (subst (All P) (sym (names-append is (all_identifiers ds))) (all_append P I _ (all_left P I _ h.1) r.0), r.1)

distinct_identifiers : (ds : List Definition) (ls : List TextLine) → Distinct (over declares (definition_lines ds ls)) →
    Distinct (identifier_names (all_identifiers ds)) × Across (identifier_names (all_identifiers ds)) (over declares ls)
distinct_identifiers [] ls d = (tt, tt)
distinct_identifiers (Defined x e ∷ ds) ls d = distinct_identifiers ds ls d.1
distinct_identifiers (Enumerated x is ∷ ds) ls d =
    let I = identifier_names is in
    let J = identifier_names (all_identifiers ds) in
    let rest = over declares (definition_lines ds ls) in
    let r = distinct_identifiers ds ls (distinct_right I rest d.1) in
    let apart = across I rest d.1 in
    let names = sym (names-append is (all_identifiers ds)) in (
      subst Distinct names (distinct_before I J (distinct_left I rest d.1) r.0 (all_more (λ n f. (identifiers-among (Apart n) ds ls f).0) I apart)),
      subst (All (λ n. All (Apart n) (over declares ls))) names (all_append _ I J (all_more (λ n f. (identifiers-among (Apart n) ds ls f).1) I apart) r.1),
    )

-- parameters are apart from all names after them
parameters_apart : (ps : List Parameter) (ls : List TextLine) → Distinct (over declares (parameter_lines ps ls)) → All (λ p. All (Apart p.name) (over declares ls)) ps
parameters_apart [] ls d = tt
parameters_apart (p ∷ ps) ls d = (passed (Apart p.name) ps d.0, parameters_apart ps ls d.1)
  where
    passed : (P : Token → Type 0) (qs : List Parameter) → All P (over declares (parameter_lines qs ls)) → All P (over declares ls)
    passed P [] h = h
    passed P (q ∷ qs) h = passed P qs h.1

-- what an identifier's name is apart from
record Alone (x : Spec) (i : Identifier) : Type 0 where
  parameters : All (λ p. Apart p.name i.name) x.parameters
  ins : All (Other i.name.text) (declared_names (inputs x.main))
  outs : All (Other i.name.text) (declared_names (outputs x.main))

by_identifier : (P : Token → Type 0) (is : List Identifier) → All P (identifier_names is) → All (λ i. P i.name) is
by_identifier P [] h = tt
by_identifier P (i ∷ is) h = (h.0, by_identifier P is h.1)

module _ (x : Spec) (once : declared_again x ≡ none) where
  abbrev ids : List Identifier
  ids = all_identifiers x.definitions

  alone : All (Alone x) ids
  alone =
      let ls = main_lines x.main in
      let ds = definition_lines x.definitions ls in
      let before = all_more (λ p h. by_identifier (Apart p.name) ids (identifiers-among (Apart p.name) x.definitions ls h).0) x.parameters
      (parameters_apart x.parameters ds (distinct_names x once)) in
      let after = by_identifier (λ n. All (Apart n) (over declares ls)) ids (distinct_identifiers x.definitions ls (distinct_definitions x once)).1 in
      let turned : (i : Identifier) (ns : List Token) → All (Apart i.name) ns → All (Other i.name.text) ns = λ i ns h. all_more (λ n a. apart_sym i.name n a) ns h in
      all_both (λ i p m.
      let s = signals-among (Apart i.name) x.main m in
      record { parameters = p; ins = turned i (declared_names (inputs x.main)) s.0; outs = turned i (declared_names (outputs x.main)) s.1 }) ids
      (all_swap (λ p i. Apart p.name i.name) x.parameters ids before) after

  -- an identifier stands for its own words
  pub identifiers_stand : (d : Declarations) → declarations x ≡ Done d → All (λ i. find d.table i.name.text ≡ Done (Identifies i.words)) ids
  unfolding Stands
  identifiers_stand d e =
      all_both (λ i a h. value_of e (within i a) ∙ h) ids alone
      (subst (λ t. All (Stands t) ids) (sym (identifiers_are x.definitions)) (identified_stand ids (distinct_identifiers x.definitions (main_lines x.main) (distinct_definitions x once)).0))
    where
      within : (i : Identifier) → Alone x i → Within (λ d. find d.table i.name.text ≡ find (identifiers x.definitions) i.name.text) (declarations x)
      within i a =
          let n = i.name.text in
          let ins = inputs x.main in
          let outs = outputs x.main in
          let first = identifiers x.definitions in
          bind _ _ (constants-find n x.parameters (waiting ins (waiting outs first)) a.parameters) (λ t p.
          bind _ _ (turns-find n x.definitions false ins t a.ins) (λ s q.
          bind _ _ (turns-find n x.definitions true outs s.table a.outs) (λ o r.
          done (r ∙ q ∙ p ∙ waiting-find n ins (waiting outs first) a.ins ∙ waiting-find n outs first a.outs))))

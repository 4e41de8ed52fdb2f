-- What the names of a text are in the first table, and which of them name no enumeration: by the entries that declare them.
use Rattle.std.specs.Prelude.{ℕ, suc, ◌+◌, ◌<◌, true, List, [], ◌∷◌, ◌++◌, ◌≡◌, refl, length}
use Rattle.std.proofs.Math.Option.{none, some}
use Rattle.std.proofs.Common.{◌∙◌, subst, arith}
use Rattle.node.specs.Result.{Done, Refused}
use Rattle.language.specs.Bytes.{same}
use Rattle.language.specs.Tokens.{Token}
use Rattle.language.specs.Tree.{Named, Identifier, Parameter, Definition, Defined, Enumerated, Declaration, OneSignal, OfWidth, OfType, Spec}
use Rattle.language.specs.Places.{parameter_lines, definition_lines, main_lines}
use Rattle.language.specs.Names.{identifier_names, declares as declaresLine, over, declared_again}
use Rattle.language.specs.DeclaredNames.{Declared, Single, WaitingBus, Table, find, identified, identifiers, words_of_type, waiting, inputs, outputs}
use Rattle.language.proofs.Laws.Basics.Lists.{All, all_any, all_more, all_left, all_right, all_both}
use Rattle.language.proofs.Laws.Basics.Tests.{pick, leave, same_refl}
use Rattle.language.specs.Listed.{declared_name}
use Rattle.language.proofs.Laws.Values.DistinctNames.{Apart, Distinct, Across, apart_sym, across, distinct_left, distinct_right, declared_names, signals-among, distinct_names, distinct_definitions, distinct_signals, across_sym}
use Rattle.entries.specs.Kinds as Kind
use Rattle.entries.specs.Flat.{Entry, each, flat_parameter, flat_identifier, flat_definition, flat_declaration, outline}
use Rattle.names.specs.Roles.{declares}
use Rattle.names.specs.Scan.{token_of}
use Rattle.names.specs.Walkable.{entry_of}
use Rattle.name_values.proofs.ElsewhereLaws.{own_names, by_identifier, by_declaration, behind_parameters, over_definitions, main_apart}
use Rattle.name_values.proofs.Entrywise.{Every, every_append, every-each, every-at}
use Rattle.name_values.proofs.ToldLaws.{Told, words-told, line-told, main-told}
use Rattle.notes.specs.FirstTable.{first_table}

-- a signal or a bus before its turn
abbrev waits : Declaration → Declared
waits (OneSignal n) = Single
waits (OfWidth n e) = WaitingBus
waits (OfType u n) = WaitingBus

-- names that the tables do not have
identified_out : (is : List Identifier) (d : Table) (t : Token) → All (Apart t) (identifier_names is) → find (identified is ++ d) t.text ≡ find d t.text
identified_out [] d t h = refl
identified_out (i ∷ is) d t h = leave (same i.name.text t.text) _ _ (apart_sym t i.name h.0) ∙ identified_out is d t h.1

waiting_out : (ds : List Declaration) (d : Table) (t : Token) → All (Apart t) (declared_names ds) → find (waiting ds d) t.text ≡ find d t.text
waiting_out [] d t h = refl
waiting_out (OneSignal n ∷ ds) d t h = leave (same n.text t.text) _ _ (apart_sym t n h.0) ∙ waiting_out ds d t h.1
waiting_out (OfWidth n e ∷ ds) d t h = leave (same n.text t.text) _ _ (apart_sym t n h.0) ∙ waiting_out ds d t h.1
waiting_out (OfType u n ∷ ds) d t h = leave (same n.text t.text) _ _ (apart_sym t n h.0) ∙ waiting_out ds d t h.1

abbrev NoFind : List Definition → Token → Type 0
NoFind ds t = find (identifiers ds) t.text ≡ Refused 6 0

abbrev NoWords : List Definition → Token → Type 0
NoWords ds t = words_of_type ds t ≡ []

not_found : (ds : List Definition) (t : Token) → All (Apart t) (own_names ds) → NoFind ds t
not_found [] t h = refl
not_found (Defined n e ∷ ds) t h = not_found ds t h.1
not_found (Enumerated n is ∷ ds) t h = identified_out is (identifiers ds) t (all_left (Apart t) (identifier_names is) (own_names ds) h.1) ∙ not_found ds t
    (all_right (Apart t) (identifier_names is) (own_names ds) h.1)

no_words : (ds : List Definition) (t : Token) → All (Apart t) (own_names ds) → NoWords ds t
no_words [] t h = refl
no_words (Defined n e ∷ ds) t h = no_words ds t h.1
no_words (Enumerated n is ∷ ds) t h = leave (same n.text t.text) _ _ (apart_sym t n h.0) ∙ no_words ds t (all_right (Apart t) (identifier_names is) (own_names ds) h.1)

-- signals and buses in the table of those that wait
waiting-own : (ds : List Declaration) (d : Table) → Distinct (declared_names ds) → All (λ m. find (waiting ds d) (declared_name m).text ≡ Done (waits m)) ds
waiting-own [] d h = tt
waiting-own (m ∷ ds) d h = (own m, later m ds h.0 (waiting-own ds d h.1))
  where
    own : (m : Declaration) → find (waiting (m ∷ ds) d) (declared_name m).text ≡ Done (waits m)
    own (OneSignal n) = pick (same n.text n.text) _ _ (same_refl n.text)
    own (OfWidth n e) = pick (same n.text n.text) _ _ (same_refl n.text)
    own (OfType u n) = pick (same n.text n.text) _ _ (same_refl n.text)

    skip : (m k : Declaration) → Apart (declared_name m) (declared_name k) → find (waiting (m ∷ ds) d) (declared_name k).text ≡ find (waiting ds d) (declared_name k).text
    skip (OneSignal n) k a = leave (same n.text (declared_name k).text) _ _ a
    skip (OfWidth n e) k a = leave (same n.text (declared_name k).text) _ _ a
    skip (OfType u n) k a = leave (same n.text (declared_name k).text) _ _ a

    later : (m : Declaration) (ks : List Declaration) → All (Apart (declared_name m)) (declared_names ks) → All (λ k. find (waiting ds d) (declared_name k).text ≡ Done (waits k)) ks
        → All (λ k. find (waiting (m ∷ ds) d) (declared_name k).text ≡ Done (waits k)) ks
    later m [] a h = tt
    later m (k ∷ ks) a h = (skip m k a.0 ∙ h.0, later m ks a.1 h.1)

-- what the first table has for the name of an entry of a kind, and that only an enumeration's name names one
pub record First (x : Spec) (kind : ℕ) (t : Token) : Type 0 where
  pub parameter : kind ≡ Kind.parameter → find (first_table x) t.text ≡ Refused 6 0
  pub enumeration : kind ≡ Kind.enumeration → find (first_table x) t.text ≡ Refused 6 0
  pub identifier : kind ≡ Kind.identifier → find (first_table x) t.text ≡ find (identifiers x.definitions) t.text
  pub signal : kind ≡ Kind.signal → find (first_table x) t.text ≡ Done Single
  pub bus : kind ≡ Kind.bus → find (first_table x) t.text ≡ Done WaitingBus
  pub typed : kind ≡ Kind.typed → find (first_table x) t.text ≡ Done WaitingBus
  pub wordless : (kind ≡ Kind.enumeration → ⊥) → words_of_type x.definitions t ≡ []

module _ (x : Spec) (once : declared_again x ≡ none) where
  abbrev defs : List Definition
  defs = x.definitions

  abbrev F : List Token
  F = own_names defs

  abbrev M : List Token
  M = over declaresLine (main_lines x.main)

  abbrev By : ℕ → Entry → Type 0
  By k n = First x n.kind (token_of n)

  both-names : Distinct (F ++ M)
  both-names = subst Distinct (over_definitions defs (main_lines x.main)) (distinct_definitions x once)

  -- apart from all signals: the first table is as the identifiers' is
  main_out : (t : Token) → All (Apart t) M → find (first_table x) t.text ≡ find (identifiers defs) t.text
  main_out t h =
      let s = signals-among (Apart t) x.main h in
      waiting_out (inputs x.main) (waiting (outputs x.main) (identifiers defs)) t s.0 ∙ waiting_out (outputs x.main) (identifiers defs) t s.1

  -- a name that no definition has
  outside : (kind : ℕ) (t : Token) → All (Apart t) F → (kind ≡ Kind.enumeration → ⊥) → (kind ≡ Kind.identifier → ⊥) → (kind ≡ Kind.parameter → find (first_table x) t.text ≡ Refused 6 0)
      → (kind ≡ Kind.signal → find (first_table x) t.text ≡ Done Single) → (kind ≡ Kind.bus → find (first_table x) t.text ≡ Done WaitingBus)
      → (kind ≡ Kind.typed → find (first_table x) t.text ≡ Done WaitingBus) → First x kind t
  outside kind t a e i p s b u = record { parameter = p; enumeration = λ q. absurd (e q); identifier = λ q. absurd (i q); signal = s; bus = b; typed = u; wordless = λ _. no_words defs t a }

  parameter-told : (p : Parameter) → All (Apart p.name) F × All (Apart p.name) M → (start : ℕ) → Every (Told By) start (flat_parameter p)
  parameter-told p h start =
      line-told By Kind.parameter (some p.name) p.value start (λ y. outside Kind.parameter p.name h.0 (λ e. omega arith) (λ e. omega arith)
      (λ _. main_out p.name h.1 ∙ not_found defs p.name h.0) (λ e. absurd (omega arith)) (λ e. absurd (omega arith)) (λ e. absurd (omega arith)))

  parameters_apart : (ps : List Parameter) → Distinct (over declaresLine (parameter_lines ps (definition_lines defs (main_lines x.main))))
      → All (λ p. All (Apart p.name) F × All (Apart p.name) M) ps
  parameters_apart [] h = tt
  parameters_apart (p ∷ ps) h =
      let a = subst (All (Apart p.name)) (over_definitions defs (main_lines x.main)) (behind_parameters (Apart p.name) ps (definition_lines defs (main_lines x.main)) h.0) in
      ((all_left (Apart p.name) F M a, all_right (Apart p.name) F M a), parameters_apart ps h.1)

  declaration_told : (m : Declaration) → (find (first_table x) (declared_name m).text ≡ Done (waits m)) × All (Apart (declared_name m)) F → (start : ℕ) → Every (Told By) start (flat_declaration m)
  declaration_told (OneSignal n) h start =
      ((λ y. outside Kind.signal n h.1 (λ e. omega arith) (λ e. omega arith) (λ e. absurd (omega arith)) (λ _. h.0) (λ e. absurd (omega arith)) (λ e. absurd (omega arith))), tt)
  declaration_told (OfWidth n e) h start =
      line-told By Kind.bus (some n) e start (λ y. outside Kind.bus n h.1 (λ e. omega arith) (λ e. omega arith) (λ e. absurd (omega arith)) (λ e. absurd (omega arith)) (λ _. h.0)
      (λ e. absurd (omega arith)))
  declaration_told (OfType u n) h start =
      line-told By Kind.typed (some n) (Named u) start (λ y. outside Kind.typed n h.1 (λ e. omega arith) (λ e. omega arith) (λ e. absurd (omega arith)) (λ e. absurd (omega arith))
      (λ e. absurd (omega arith)) (λ _. h.0))

  abbrev Q : Declaration → Type 0
  Q m = (find (first_table x) (declared_name m).text ≡ Done (waits m)) × All (Apart (declared_name m)) F

  -- the names of the definitions ds, which stand last
  abbrev Typed : List Definition → Token → Type 0
  Typed ds n = words_of_type defs n ≡ words_of_type ds n

  abbrev Found : Table → Token → Type 0
  Found T n = find (identifiers defs) n.text ≡ find T n.text

  identifiers-told : (is : List Identifier) → All (λ i. NoWords defs i.name × All (Apart i.name) M) is → (start : ℕ) → Every (Told By) start (each flat_identifier is)
  identifiers-told is h start =
      every-each (Told By) flat_identifier (λ i. NoWords defs i.name × All (Apart i.name) M)
      (λ i a at. (
        (λ y. record {
          parameter = λ e. absurd (omega arith);
          enumeration = λ e. absurd (omega arith);
          identifier = λ _. main_out i.name a.1;
          signal = λ e. absurd (omega arith);
          bus =
              λ e. absurd (omega arith);
          typed = λ e. absurd (omega arith);
          wordless = λ _. a.0;
        }),
        words-told By i.words (suc at),
      )) is h start

  -- an identifier is apart from the definitions behind its enumeration, and from the enumeration
  identifiers_wordless : (n : Token) (is : List Identifier) (ds : List Definition) (ns : List Token) → All (Apart n) ns → Across ns (own_names ds) → All (Typed (Enumerated n is ∷ ds)) ns
      → All (NoWords defs) ns
  identifiers_wordless n is ds [] a b c = tt
  identifiers_wordless n is ds (t ∷ ns) a b c = (c.0 ∙ leave (same n.text t.text) _ _ a.0 ∙ no_words ds t b.0, identifiers_wordless n is ds ns a.1 b.1 c.1)

  definitions_told : (ds : List Definition) → Distinct (own_names ds) → Across (own_names ds) M → All (Typed ds) (own_names ds) → All (Found (identifiers ds)) (own_names ds) → (start : ℕ)
      → Every (Told By) start (each flat_definition ds)
  definitions_told [] d a t f start = tt
  definitions_told (Defined n e ∷ ds) d a t f start =
      every_append (Told By) start (start + length (flat_definition (Defined n e))) (flat_definition (Defined n e)) (each flat_definition ds) refl
      (line-told By Kind.definition (some n) e start (λ y. record {
        parameter = λ e. absurd (omega arith);
        enumeration = λ e. absurd (omega arith);
        identifier = λ e. absurd (omega arith);
        signal = λ e.
            absurd (omega arith);
        bus = λ e. absurd (omega arith);
        typed = λ e. absurd (omega arith);
        wordless = λ _. t.0 ∙ no_words ds n d.0;
      }))
      (definitions_told ds d.1 a.1 t.1 f.1 _)
  definitions_told (Enumerated n is ∷ ds) d a t f start =
      let I = identifier_names is in
      let N = own_names ds in
      let apart = across I N d.1 in
      let none_found : find (identifiers defs) n.text ≡ Refused 6 0 = f.0 ∙ identified_out is (identifiers ds) n (all_left (Apart n) I N d.0) ∙ not_found ds n (all_right (Apart n) I N d.0)
      in
      let own : (Told By) start (record { kind = Kind.enumeration; token = some n; size = 1 }) =
      (λ y. record {
        parameter = λ e. absurd (omega arith);
        enumeration = λ _. main_out n a.0 ∙ none_found;
        identifier = λ e. absurd (omega arith);
        signal = λ e. absurd (omega arith);
        bus = λ
            e. absurd (omega arith);
        typed = λ e. absurd (omega arith);
        wordless = λ k. absurd (k refl);
      }) in
      let w = identifiers_wordless n is ds I (all_left (Apart n) I N d.0) apart (all_left (Typed (Enumerated n is ∷ ds)) I N t.1) in
      let ids : All (λ i. NoWords defs i.name × All (Apart i.name) M) is = all_both (λ i p q. (p, q)) is (by_identifier (NoWords defs) is w)
      (by_identifier (λ m. All (Apart m) M) is (all_left (λ m. All (Apart m) M) I N a.1)) in
      let typed : All (Typed ds) N = all_both (λ m p q. q ∙ leave (same n.text m.text) _ _ p) N (all_right (Apart n) I N d.0) (all_right (Typed (Enumerated n is ∷ ds)) I N t.1) in
      let found : All (Found (identifiers ds)) N = all_both (λ m p q. q ∙ identified_out is (identifiers ds) m p) N (across_sym I N apart)
      (all_right (Found (identifiers (Enumerated n is ∷ ds))) I N f.1) in
      every_append (Told By) start (start + length (flat_definition (Enumerated n is))) (flat_definition (Enumerated n is)) (each flat_definition ds) refl (own, identifiers-told is ids (suc start))
      (definitions_told ds (distinct_right I N d.1) (all_right (λ m. All (Apart m) M) I N a.1) typed found _)

  all_told : Every (Told By) 0 (outline x)
  all_told =
      let P = each flat_parameter x.parameters in
      let D = each flat_definition defs in
      let s = distinct_signals x once in
      let I = declared_names (inputs x.main) in
      let O = declared_names (outputs x.main) in
      let free = main_apart x (distinct_definitions x once) in
      let among = signals-among (λ n. All (Apart n) F) x.main free in
      let ins = waiting-own (inputs x.main) (waiting (outputs x.main) (identifiers defs)) (distinct_left I O s) in
      let outs : All (λ m. find (first_table x) (declared_name m).text ≡ Done (waits m)) (outputs x.main) = all_both
      (λ m p q. waiting_out (inputs x.main) (waiting (outputs x.main) (identifiers defs)) (declared_name m) p ∙ q) (outputs x.main)
      (by_declaration (λ n. All (Apart n) I) (outputs x.main) (across_sym I O (across I O s))) (waiting-own (outputs x.main) (identifiers defs) (distinct_right I O s)) in
      every_append (Told By) 0 _ P _ refl (every-each (Told By) flat_parameter (λ p. All (Apart p.name) F × All (Apart p.name) M) parameter-told x.parameters
      (parameters_apart x.parameters (distinct_names x once)) 0)
      (every_append (Told By) _ _ D _ refl (definitions_told defs (distinct_left F M both-names) (across F M both-names) (all_more (λ n _. refl) F (all_any F)) (all_more (λ n _. refl) F (all_any F)) _)
      (main-told By Q declaration_told x.main (all_both (λ m p q. (p, q)) (inputs x.main) ins (by_declaration (λ n. All (Apart n) F) (inputs x.main) among.0))
      (all_both (λ m p q. (p, q)) (outputs x.main) outs (by_declaration (λ n. All (Apart n) F) (outputs x.main) among.1)) _))

  pub first-at : (k : ℕ) → k < length (outline x) → declares Kind.parameter (entry_of (outline x) k).kind ≡ true → First x (entry_of (outline x) k).kind (token_of (entry_of (outline x) k))
  first-at k l = every-at (Told By) 0 (outline x) all_told k l

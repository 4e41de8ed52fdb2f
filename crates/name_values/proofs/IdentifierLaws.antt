-- The enumerations and identifiers of a stored tree: what is after the entry of each, and that an entry of another kind follows.
use Rattle.std.specs.Prelude.{ℕ, suc, ◌+◌, ◌≤◌, ◌<◌, List, [], ◌∷◌, ◌++◌, ◌≡◌, refl, length}
use Rattle.std.proofs.lemmas.Bool.{false≢true}
use Rattle.std.proofs.Common.{append_assoc, sym, ap, ◌∙◌, subst, arith, length-append}
use Rattle.std.proofs.Math.Option.{Option, none, some}
use Rattle.words.specs.Words.{word_at}
use Rattle.language.specs.Bytes.{same}
use Rattle.language.specs.Limits.{max_tokens}
use Rattle.language.specs.Tokens.{Token, tokens}
use Rattle.language.specs.Tree.{Expr, Named, Identifier, Definition, Defined, Enumerated, Declaration, OneSignal, OfWidth, OfType, Subsection, Inputs, Outputs, Lines, Spec}
use Rattle.language.specs.Places.{main_lines}
use Rattle.language.specs.Names.{Names, identifier_names, declared_again}
use Rattle.language.specs.DeclaredNames.{Identifies, Table, find, identified, identifiers, words_of_type}
use Rattle.language.specs.Braces.{ProperDefinition, ProperSpec}
use Rattle.language.proofs.Laws.Basics.Lists.{All, all_any, all_more, all_append, all_right, all_both}
use Rattle.language.proofs.Laws.Basics.Tests.{pick, leave, same_refl}
use Rattle.language.proofs.Laws.Basics.Results.{value_of}
use Rattle.language.proofs.Laws.Values.DistinctNames.{Distinct, distinct_left, distinct_right, distinct_definitions}
use Rattle.language.proofs.Laws.Grammar.BracesReads.{spec_proper}
use Rattle.entries.specs.Kinds as Kind
use Rattle.entries.specs.Flat.{Entry, under, leaf, flat, each, flat_parameter, flat_identifier, flat_definition, flat_declaration, flat_line, flat_subsection, outline}
use Rattle.entries.specs.FlatLaws.{all-each}
use Rattle.entries.specs.Stored.{first_entry, kind_of, EntriesFrom}
use Rattle.entries.specs.StoredLaws.{entry-kind, entries-left, entries-right}
use Rattle.names.specs.Roles.{declares}
use Rattle.names.specs.Scan.{token_of}
use Rattle.names.specs.Walkable.{entry_of}
use Rattle.names.specs.Declaring.{Inner, inner-flat}
use Rattle.names.specs.Resolved.{Stored, Resolved}
use Rattle.name_values.proofs.ElsewhereLaws.{own_names, over_definitions}
use Rattle.name_values.proofs.Entrywise.{Every, every_append, every-all, every-at}
use Rattle.name_values.specs.Declaring.{IdentifierAt, EnumerationAt}
use Rattle.name_values.proofs.ToldLaws.{words-inner}
use Rattle.name_values.proofs.LeadLaws.{Some, spec_some, Outside, Leads, NoWord, leads_identifiers, leads_definitions, leads_main}

-- entries that declare neither an enumeration nor an identifier
abbrev OtherKind : ℕ → Type 0
OtherKind k = (k ≡ Kind.identifier → ⊥) × (k ≡ Kind.enumeration → ⊥)

abbrev Other : Entry → Type 0
Other n = OtherKind n.kind

inner_other : (es : List Entry) → All Inner es → All Other es
inner_other es h = all_more (λ n f. ((λ e. false≢true (sym f ∙ ap (declares Kind.parameter) e)), (λ e. false≢true (sym f ∙ ap (declares Kind.parameter) e)))) es h

line_other : (k : ℕ) (t : Option Token) (e : Expr) → OtherKind k → All Other (under k t (flat e))
line_other k t e h = all_append Other (flat e) _ (inner_other (flat e) (inner-flat e)) (h, tt)

declaration_other : (d : Declaration) → All Other (flat_declaration d)
declaration_other (OneSignal n) = (((λ e. omega arith), (λ e. omega arith)), tt)
declaration_other (OfWidth n e) = line_other Kind.bus (some n) e ((λ q. omega arith), (λ q. omega arith))
declaration_other (OfType u n) = line_other Kind.typed (some n) (Named u) ((λ e. omega arith), (λ e. omega arith))

subsection_other : (s : Subsection) → All Other (flat_subsection s)
subsection_other (Inputs ds) = (((λ e. omega arith), (λ e. omega arith)), all-each Other flat_declaration declaration_other ds)
subsection_other (Outputs ds) = (((λ e. omega arith), (λ e. omega arith)), all-each Other flat_declaration declaration_other ds)
subsection_other (Lines p es) = (((λ e. omega arith), (λ e. omega arith)), all-each Other flat_line (λ a. line_other Kind.line none a ((λ e. omega arith), (λ e. omega arith))) es)

words-length : (ws : List Token) → length (each (leaf Kind.word) ws) ≡ length ws
words-length [] = refl
words-length (v ∷ ws) = ap suc (words-length ws)

module _ (x : Spec) (text w : List ℕ) where
  abbrev Told : ℕ → Entry → Type 0
  Told k n = (n.kind ≡ Kind.identifier → IdentifierAt x text w k (token_of n)) × (n.kind ≡ Kind.enumeration → EnumerationAt (tokens text) w k (words_of_type x.definitions (token_of n)))

  -- the name n is found in the part T of the enumerations
  abbrev Found : Table → Token → Type 0
  Found T n = find (identifiers x.definitions) n.text ≡ find T n.text

  -- the words of the enumeration n are those in the part ds of the definitions
  abbrev Typed : List Definition → Token → Type 0
  Typed ds n = words_of_type x.definitions n ≡ words_of_type ds n

  abbrev From : ℕ → List Entry → Type 0
  From = EntriesFrom w (tokens text)

  other_told : (es : List Entry) → All Other es → (start : ℕ) → Every Told start es
  other_told es h start = every-all Told es (all_more (λ n f k. ((λ e. absurd (f.0 e)), (λ e. absurd (f.1 e)))) es h) start

  no_word-kind : (es : List Entry) → NoWord es → (i : ℕ) → From i es → kind_of (word_at w (first_entry + i)) ≡ Kind.word → ⊥
  no_word-kind [] l i h e = l
  no_word-kind (n ∷ es) l i h e = l (sym (entry-kind h.0) ∙ e)

  outside-kind : (es : List Entry) → Leads es → (i : ℕ) → From i es → Outside (kind_of (word_at w (first_entry + i)))
  outside-kind [] l i h = absurd l
  outside-kind (n ∷ es) l i h = ((λ e. l.0 (sym (entry-kind h.0) ∙ e)), (λ e. l.1 (sym (entry-kind h.0) ∙ e)))

  identifier_stored : (i : Identifier) (T : Table) → Found ((i.name.text, Identifies i.words) ∷ T) i.name → (start : ℕ) (more : List Entry)
      → start + length (flat_identifier i ++ more) ≤ max_tokens → NoWord more → From start (flat_identifier i ++ more) → IdentifierAt x text w start i.name
  identifier_stored i T f start more b l h =
      let ws = each (leaf Kind.word) i.words in
      record {
        words = i.words;
        listed = f ∙ pick (same i.name.text i.name.text) _ _ (same_refl i.name.text);
        stored = entries-left w (tokens text) (suc start) ws more h.1;
        fits = omega (arith, words-length i.words, length-append ws more);
        ends = no_word-kind more l (suc start + length i.words) (subst (λ m. From (suc start + m) more) (words-length i.words) (entries-right w (tokens text) (suc start) ws more h.1));
      }

  identifiers-told : (is : List Identifier) (T : Table) (names : Names) (start : ℕ) (more : List Entry) → start + length (each flat_identifier is ++ more) ≤ max_tokens → Leads more
      → From start (each flat_identifier is ++ more) → Distinct (identifier_names is ++ names) → All (Found (identified is ++ T)) (identifier_names is ++ names)
      → Every Told start (each flat_identifier is) × All (Found T) names
  identifiers-told [] T names start more b l h d f = (tt, f)
  identifiers-told (i ∷ is) T names start more b l h d f =
      let next = each flat_identifier is in
      let ws = each (leaf Kind.word) i.words in
      let g = subst (From start) (append_assoc (flat_identifier i) next more) h in
      let z = ap length (append_assoc (flat_identifier i) next more) in
      let y = length-append (flat_identifier i) (next ++ more) in
      let own = identifier_stored i (identified is ++ T) f.0 start (next ++ more) (omega arith) (leads_identifiers is more l) g in
      let later = all_both (λ n a b. b ∙ leave (same i.name.text n.text) _ _ a) (identifier_names is ++ names) d.0 f.1 in
      let r = identifiers-told is T names (start + length (flat_identifier i)) more (omega arith) l (entries-right w (tokens text) start (flat_identifier i) (next ++ more) g) d.1 later in (
        every_append Told start (start + length (flat_identifier i)) (flat_identifier i) next refl
            (((λ _. own), (λ e. absurd (omega arith))), other_told ws (inner_other ws (words-inner i.words)) (suc start)) r.0,
        r.1,
      )

  definitions_told : (ds : List Definition) (start : ℕ) (more : List Entry) → start + length (each flat_definition ds ++ more) ≤ max_tokens → Leads more → All ProperDefinition ds
      → From start (each flat_definition ds ++ more) → Distinct (own_names ds) → All (Found (identifiers ds)) (own_names ds) → All (Typed ds) (own_names ds) → Every Told start (each flat_definition ds)
  definitions_told [] start more b l p h d f t = tt
  definitions_told (Defined n e ∷ ds) start more b l p h d f t =
      let own = flat_definition (Defined n e) in
      let g = entries-right w (tokens text) start own (each flat_definition ds ++ more) (subst (From start) (append_assoc own (each flat_definition ds) more) h) in
      every_append Told start (start + length own) own (each flat_definition ds) refl (other_told own (line_other Kind.definition (some n) e ((λ q. omega arith), (λ q. omega arith))) start)
      (definitions_told ds (start + length own) more (let z = ap length (append_assoc own (each flat_definition ds) more) in let y = length-append own (each flat_definition ds ++ more) in
      omega arith) l p.1 g d.1 f.1 t.1)
  definitions_told (Enumerated n is ∷ ds) start more b l p h d f t =
      let own = each flat_identifier is in
      let next = each flat_definition ds in
      let g = subst (From (suc start)) (append_assoc own next more) h.1 in
      let z = ap length (append_assoc own next more) in
      let y = length-append own (next ++ more) in
      let leads = leads_definitions ds more p.1 l in
      let r = identifiers-told is (identifiers ds) (own_names ds) (suc start) (next ++ more) (omega arith) leads g d.1 f.1 in
      let after = entries-right w (tokens text) (suc start) own (next ++ more) g in
      let o = outside-kind (next ++ more) leads (suc start + length own) after in
      let words : EnumerationAt (tokens text) w start (words_of_type x.definitions n) = record {
        identifiers = is;
        all = sym (t.0 ∙ pick (same n.text n.text) _ _ (same_refl n.text));
        stored = entries-left w (tokens text) (suc start) own (next ++ more) g;
        few = omega arith;
        no_identifier = o.0;
        no_word = o.1;
      } in
      let later = all_both (λ m a b. b ∙ leave (same n.text m.text) _ _ a) (identifier_names is ++ own_names ds) d.0 t.1 in (
        ((λ e. absurd (omega arith)), (λ _. words)),
        every_append Told (suc start) (suc start + length own) own next refl r.0
            (definitions_told ds (suc start + length own) more (omega arith) l p.1 after (distinct_right (identifier_names is) (own_names ds) d.1) r.1
            (all_right (Typed ds) (identifier_names is) (own_names ds) later)),
      )

  all_told : {count entries : ℕ} → Stored text w count entries x → declared_again x ≡ none → Every Told 0 (outline x)
  all_told s h =
      let P = each flat_parameter x.parameters in
      let D = each flat_definition x.definitions in
      let M = each flat_subsection x.main in
      let p : ProperSpec x = value_of s.read (spec_proper (tokens text)) in
      let m : Some x.main = value_of s.read (spec_some (tokens text)) in
      let g = entries-right w (tokens text) 0 P (D ++ M) s.stored in
      let names = own_names x.definitions in
      let d = distinct_left names _ (subst Distinct (over_definitions x.definitions (main_lines x.main)) (distinct_definitions x h)) in
      every_append Told 0 _ P (D ++ M) refl (other_told P (all-each Other flat_parameter (λ a. line_other Kind.parameter (some a.name) a.value ((λ e. omega arith), (λ e. omega arith)))
      x.parameters) 0)
      (every_append Told _ _ D M refl (definitions_told x.definitions (0 + length P) M (let u = s.total in let v = s.few in let y = length-append P (D ++ M) in omega arith)
      (leads_main x.main m) p.definitions g d (all_more (λ n _. refl) names (all_any names)) (all_more (λ n _. refl) names (all_any names)))
      (other_told M (all-each Other flat_subsection subsection_other x.main) _))

module _ {x : Spec} {text w refs found : List ℕ} {count entries n : ℕ} (s : Stored text w count entries x) (r : Resolved x refs found n) (k : ℕ) (l : k < length (outline x)) where
  told_at : Told x text w k (entry_of (outline x) k)
  told_at = subst (λ m. Told x text w m (entry_of (outline x) k)) (omega arith) (every-at (Told x text w) 0 (outline x) (all_told x text w s r.distinct) k l)

  pub identifier-at : (entry_of (outline x) k).kind ≡ Kind.identifier → IdentifierAt x text w k (token_of (entry_of (outline x) k))
  identifier-at e = told_at.0 e

  pub enumeration-at : (entry_of (outline x) k).kind ≡ Kind.enumeration → EnumerationAt (tokens text) w k (words_of_type x.definitions (token_of (entry_of (outline x) k)))
  enumeration-at e = told_at.1 e

-- Every declared name of a resolved tree means what the entry says that declares it: line by line, over the whole outline.
use Rattle.std.specs.Prelude.{ℕ, suc, ◌+◌, ◌-◌, ◌≤◌, ◌<◌, Bool, true, false, List, [], ◌∷◌, ◌++◌, map, ◌≡◌, refl, eqb, length, get_or}
use Rattle.std.proofs.Common.{append_assoc, sym, ap, ◌∙◌, subst, arith, length-append, eqb-true, ne_eqb}
use Rattle.std.proofs.Math.Option.{none, some}
use Rattle.std.proofs.lemmas.List.{length-map}
use Rattle.std.proofs.lemmas.Bool.{eqb-false}
use Rattle.language.specs.Bytes.{same}
use Rattle.language.specs.Limits.{max_names}
use Rattle.language.specs.Tokens.{Token}
use Rattle.language.specs.Tree.{Expr, Named, Identifier, Parameter, Definition, Defined, Enumerated, Declaration, OneSignal, OfWidth, OfType, Spec}
use Rattle.language.specs.Places.{main_lines}
use Rattle.language.specs.Names.{Names, identifier_names, declares as declaresLine, over, declared_again}
use Rattle.language.specs.DeclaredNames.{Table, find, Port, inputs, outputs}
use Rattle.language.specs.Expansion.{Context, context_of, define, define_all}
use Rattle.language.proofs.Laws.Basics.Lists.{All, all_more}
use Rattle.language.proofs.Laws.Basics.Tests.{pick, leave, same_refl}
use Rattle.language.specs.Listed.{declared_name}
use Rattle.language.proofs.Laws.Values.DistinctNames.{Distinct, distinct_left, signals-among, distinct_names, distinct_definitions}
use Rattle.entries.specs.Kinds as Kind
use Rattle.entries.specs.Flat.{Entry, flat, each, flat_parameter, flat_identifier, flat_definition, flat_declaration, outline}
use Rattle.names.specs.Scan.{token_of}
use Rattle.names.specs.Walkable.{entry_of}
use Rattle.names.specs.References.{DeclaresAt, Where}
use Rattle.names.specs.Resolved.{declared_names, Resolved}
use Rattle.name_values.specs.World.{Meaning, Defines, NoValue, numbered, meaning_at}
use Rattle.name_values.proofs.AgreesLaws.{numbered-last, numbered-before}
use Rattle.name_values.specs.Worlds.{in_table, behind, meaning, Elsewhere}
use Rattle.name_values.proofs.WorldsLaws.{behind_elsewhere}
use Rattle.name_values.proofs.ElsewhereLaws.{own_names, apart_elsewhere, by_identifier, by_declaration, parameters_elsewhere, over_definitions, main_apart, defined_later, enumerated_elsewhere}
use Rattle.name_values.specs.Worked.{definitions_start, world_in}
use Rattle.name_values.proofs.WorkedLaws.{starts-next}
use Rattle.name_values.proofs.Entrywise.{Every, every_append, every-each, every-at}
use Rattle.name_values.proofs.ToldLaws.{Told, words-told, line-told, main-told}
use Rattle.name_values.specs.Declaring.{MeansBy, DeclaredBy}

-- a name after its definition, and later ones that define others
behind-here : (x : Token) (e : Expr) (later : List Definition) → All (Elsewhere x) later → (before : List Definition) (c : Context) (start at : ℕ) (m : Meaning)
    → start + length (each flat_definition before) ≡ at → behind c start (before ++ Defined x e ∷ later) x m ≡ Defines (at + length (flat e) - 1) (define_all c before) e
behind-here x e later h [] c start at m q =
    behind_elsewhere later (define c x e) (start + length (flat_definition (Defined x e))) x _ h
    ∙ pick (same x.text x.text) _ _ (same_refl x.text)
    ∙ ap (λ i. Defines (i + length (flat e) - 1) c e) (omega arith)
behind-here x e later h (Defined y b ∷ before) c start at m q =
    let l = length-append (flat_definition (Defined y b)) (each flat_definition before) in
    behind-here x e later h before (define c y b) (start + length (flat_definition (Defined y b))) at _ (omega arith)
behind-here x e later h (Enumerated y is ∷ before) c start at m q =
    let l = length-append (flat_definition (Enumerated y is)) (each flat_definition before) in
    behind-here x e later h before c (start + length (flat_definition (Enumerated y is))) at m (omega arith)

module _ (x : Spec) (ps : List Port) (d : Table) where
  abbrev means_here : Token → Meaning
  means_here n = meaning ps d (definitions_start x) x.definitions n

  abbrev By : ℕ → Entry → Type 0
  By k n = MeansBy d k n (means_here (token_of n))

  -- no definition defines it
  abbrev Free : Token → Type 0
  Free n = All (Elsewhere n) x.definitions

  free_told : (at kind size : ℕ) (n : Token) → (kind ≡ Kind.definition → ⊥) → Free n → (Told By) at (record { kind = kind; token = some n; size = size })
  free_told at kind size n k f y = record { body = λ e. absurd (k e); other = λ _. behind_elsewhere x.definitions (context_of ps d) (definitions_start x) n _ f }

  parameter-told : (p : Parameter) → Free p.name → (start : ℕ) → Every (Told By) start (flat_parameter p)
  parameter-told p f start = line-told By Kind.parameter (some p.name) p.value start (free_told _ Kind.parameter _ p.name (λ e. omega arith) f)

  identifier-told : (i : Identifier) → Free i.name → (start : ℕ) → Every (Told By) start (flat_identifier i)
  identifier-told i f start = (free_told start Kind.identifier _ i.name (λ e. omega arith) f, words-told By i.words (suc start))

  definitions_told : (before ds : List Definition) → x.definitions ≡ before ++ ds → Distinct (own_names x.definitions) → (start : ℕ)
      → definitions_start x + length (each flat_definition before) ≡ start → Every (Told By) start (each flat_definition ds)
  definitions_told before [] q h start a = tt
  definitions_told before (Defined n e ∷ ds) q h start a =
      let g = definitions_told (before ++ Defined n e ∷ []) ds (q ∙ sym (append_assoc before (Defined n e ∷ []) ds)) h _ (starts-next x before (Defined n e) start a) in
      every_append (Told By) start (start + length (flat_definition (Defined n e))) (flat_definition (Defined n e)) (each flat_definition ds) refl
      (line-told By Kind.definition (some n) e start (λ y. record {
        body = λ _. record {
          context = define_all (context_of ps d) before;
          expr = e;
          defines = ap (λ l. behind (context_of ps d) (definitions_start x) l n (in_table (find d n.text))) q ∙ behind-here n e ds
              (defined_later before ds n e (subst (λ l. Distinct (own_names l)) q h)) before (context_of ps d) (definitions_start x) start _ a;
        };
        other = λ k. absurd (k refl);
      })) g
  definitions_told before (Enumerated n is ∷ ds) q h start a =
      let f = subst (λ l. All (λ m. All (Elsewhere m) l) (n ∷ identifier_names is)) (sym q) (enumerated_elsewhere before ds n is (subst (λ l. Distinct (own_names l)) q h)) in
      let g = definitions_told (before ++ Enumerated n is ∷ []) ds (q ∙ sym (append_assoc before (Enumerated n is ∷ []) ds)) h _ (starts-next x before (Enumerated n is) start a) in
      every_append (Told By) start (start + length (flat_definition (Enumerated n is))) (flat_definition (Enumerated n is)) (each flat_definition ds) refl
      (free_told start Kind.enumeration _ n (λ e. omega arith) f.0, every-each (Told By) flat_identifier (λ i. Free i.name) identifier-told is (by_identifier Free is f.1) (suc start)) g

  declaration_told : (m : Declaration) → Free (declared_name m) → (start : ℕ) → Every (Told By) start (flat_declaration m)
  declaration_told (OneSignal n) f start = (free_told start Kind.signal _ n (λ e. omega arith) f, tt)
  declaration_told (OfWidth n e) f start = line-told By Kind.bus (some n) e start (free_told _ Kind.bus _ n (λ e. omega arith) f)
  declaration_told (OfType u n) f start = line-told By Kind.typed (some n) (Named u) start (free_told _ Kind.typed _ n (λ e. omega arith) f)

  all_told : declared_again x ≡ none → Every (Told By) 0 (outline x)
  all_told h =
      let D = distinct_definitions x h in
      let F = own_names x.definitions in
      let M = over declaresLine (main_lines x.main) in
      let s = signals-among Free x.main (all_more (λ n a. apart_elsewhere x.definitions n a) M (main_apart x D)) in
      every_append (Told By) 0 (definitions_start x) (each flat_parameter x.parameters) _ (omega arith)
      (every-each (Told By) flat_parameter (λ p. Free p.name) parameter-told x.parameters (parameters_elsewhere x.definitions x.parameters (main_lines x.main) (distinct_names x h)) 0)
      (every_append (Told By) (definitions_start x) _ (each flat_definition x.definitions) _ refl
      (definitions_told [] x.definitions refl (distinct_left F M (subst Distinct (over_definitions x.definitions (main_lines x.main)) D)) (definitions_start x) (omega arith))
      (main-told By (λ m. Free (declared_name m)) declaration_told x.main (by_declaration Free (inputs x.main) s.0) (by_declaration Free (outputs x.main) s.1) _))

-- the name of number r, by the entry that declares it
record NameAt {A : Type 0} (other : A) (f : Token → A) (ns : Names) (es : List Entry) (r k : ℕ) : Type 0 where
  at : DeclaresAt es k (token_of (entry_of es k))
  is : numbered other (map f ns) r ≡ f (token_of (entry_of es k))

where-named : {A : Type 0} (other : A) (f : Token → A) (es : List Entry) (found : List ℕ) (ns : Names) → Where es found ns → (r : ℕ) → r < length ns → r < max_names
    → NameAt other f ns es r (get_or found r 0)
where-named other f es found [] h r l m = absurd (omega arith)
where-named other f es found (n ∷ ns) h r l m = go (eqb r (length ns)) refl (where-named other f es found ns h.1 r)
  where
    go : (b : Bool) → eqb r (length ns) ≡ b → (r < length ns → r < max_names → NameAt other f ns es r (get_or found r 0)) → NameAt other f (n ∷ ns) es r (get_or found r 0)
    go true e ih =
        let q = eqb-true r (length ns) e in
        let a : DeclaresAt es (get_or found r 0) n = subst (λ i. DeclaresAt es (get_or found i 0) n) (sym q) (h.0 (omega arith)) in
        record { at = subst (DeclaresAt es (get_or found r 0)) (sym a.name) a; is = numbered-last other (f n) (map f ns) r (q ∙ sym (length-map ns f)) ∙ ap f (sym a.name) }
    go false e ih =
        let q = eqb-false r (length ns) e in
        let s = length-map ns f in
        let i : r < length ns = omega arith in
        let g = ih i m in
        record { at = g.at; is = numbered-before other (f n) (map f ns) r (omega arith) ∙ g.is }

pub declared_by : {x : Spec} {refs found : List ℕ} {n : ℕ} → Resolved x refs found n → (ps : List Port) (d : Table) (r : ℕ) → r < n → DeclaredBy x ps d r (get_or found r 0)
declared_by {x} {found = found} h ps d r l =
    let k = get_or found r 0 in
    let c = h.count in
    let s = h.few in
    let f : Token → List ℕ × Meaning = λ m. (m.text, meaning ps d (definitions_start x) x.definitions m) in
    let a = where-named ([], NoValue) f (outline x) found (declared_names x) h.entries r (omega arith) (omega arith) in
    let i = a.at.inside in
    let t : Told (By x ps d) k (entry_of (outline x) k) = subst (λ m. Told (By x ps d) m (entry_of (outline x) k)) (omega arith) (every-at (Told (By x ps d)) 0 (outline x) (all_told x ps d h.distinct) k i) in
    record {
      inside = i;
      declaring = a.at.declaring;
      spelt = ap (λ m. m.0) a.is;
      means = subst (MeansBy d k (entry_of (outline x) k)) (sym (ap (λ m. m.1) a.is)) (t a.at.declaring);
    }

-- numbers past the last name's
numbered_beyond : {A : Type 0} (other : A) (l : List A) (r : ℕ) → length l ≤ r → numbered other l r ≡ other
unfolding numbered
numbered_beyond other [] r h = refl
numbered_beyond other (a ∷ l) r h = leave (eqb r (length l)) _ _ (ne_eqb r (length l) (λ e. omega arith)) ∙ numbered_beyond other l r (omega arith)

pub undeclared : {x : Spec} {refs found : List ℕ} {n : ℕ} → Resolved x refs found n → (ps : List Port) (d : Table) (r : ℕ) → n ≤ r → meaning_at (world_in x ps d) r ≡ NoValue
undeclared {x} h ps d r l =
    let c = h.count in
    let f : Token → List ℕ × Meaning = λ m. (m.text, meaning ps d (definitions_start x) x.definitions m) in
    let s = length-map (declared_names x) f in
    ap (λ m. m.1) (numbered_beyond ([], NoValue) (world_in x ps d) r (omega arith))

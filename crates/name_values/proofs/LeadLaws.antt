-- No expression, definition or subsection starts with an identifier's or a word's entry: there the words of an enumeration end.
use Rattle.std.specs.Prelude.{ℕ, zero, suc, ◌<◌, Bool, true, false, List, [], ◌∷◌, ◌++◌, ◌≡◌, length}
use Rattle.std.proofs.lemmas.Bool.{false≢true}
use Rattle.std.proofs.Common.{append_assoc, sym, subst, arith}
use Rattle.std.proofs.Math.Option.{Option, none, some}
use Rattle.language.specs.Tokens.{Token, End}
use Rattle.language.specs.Tree.{
  Expr,
  Named,
  Numeral,
  Truth,
  Index,
  Paren,
  Prefixed,
  Joined,
  Nexts,
  InWindow,
  Each,
  Between,
  Listed,
  Empty,
  Element,
  Range,
  Identifier,
  Definition,
  Defined,
  Enumerated,
  Subsection,
  Inputs,
  Outputs,
  Lines,
}
use Rattle.language.specs.Grammar.{Tokens, front, rest, expect, expect_of}
use Rattle.language.specs.Sections.{HeadingRow, headings, heading_of, subsection_of, info_of, global_of, subsections_of, spec_of}
use Rattle.language.specs.Braces.{Proper, ProperDefinition}
use Rattle.language.proofs.Laws.Basics.Lists.{All}
use Rattle.language.proofs.Laws.Basics.Results.{done, refused, bind, Within, bind_any}
use Rattle.language.proofs.Laws.Grammar.MainReads.{subsections_by}
use Rattle.entries.specs.Kinds as Kind
use Rattle.entries.specs.Flat.{Entry, under, flat, each, flat_identifier, flat_definition, flat_subsection}

-- a text has subsections
abbrev pub Some : List Subsection → Type 0
Some ss = 0 < length ss

subsections_some : (f : ℕ) (ts : Tokens) → Within (λ z. Some z.0) (subsections_of f [] ts)
subsections_some zero ts = refused tt
subsections_some (suc f) ts = go (heading_of headings [] (front ts))
  where
    go : (o : Option HeadingRow) → Within (λ z. Some z.0) (subsections_by f [] ts o)
    go (some r) = bind_any (subsection_of r.heading (rest ts)) _ (λ s. bind_any (subsections_of f (r.number ∷ []) s.1) _ (λ z. done (omega arith)))
    go none = refused tt

pub spec_some : (ts : Tokens) → Within (λ x. Some x.main) (spec_of ts)
spec_some ts =
    bind_any (info_of ts) _ (λ x. bind_any (global_of x.0 x.1) _ (λ y. bind_any (expect "MAIN" y.1) _ (λ a. bind_any (expect "{" a.1) _ (λ b.
    bind (subsections_of 9 [] b.1) _ (subsections_some 9 b.1) (λ z h. bind_any (expect_of End z.1) _ (λ c. done h))))))

-- there is a first one of some entries, and it is neither an identifier nor a word
abbrev pub Outside : ℕ → Type 0
Outside k = (k ≡ Kind.identifier → ⊥) × (k ≡ Kind.word → ⊥)

abbrev pub Leads : List Entry → Type 0
Leads [] = ⊥
Leads (n ∷ es) = Outside n.kind

-- it is no word
abbrev pub NoWord : List Entry → Type 0
NoWord [] = ⊥
NoWord (n ∷ es) = n.kind ≡ Kind.word → ⊥

leads_under : (k : ℕ) (t : Option Token) (es more : List Entry) → ((m : List Entry) → Leads (es ++ m)) → Leads (under k t es ++ more)
leads_under k t es more f = subst Leads (sym (append_assoc es (record { kind = k; token = t; size = suc (length es) } ∷ []) more)) (f _)

leads_first : (a b : List Entry) → ((m : List Entry) → Leads (a ++ m)) → (m : List Entry) → Leads ((a ++ b) ++ m)
leads_first a b f m = subst Leads (sym (append_assoc a b m)) (f (b ++ m))

never : {A : Type 0} → false ≡ true → A
never q = absurd (false≢true q)

-- an expression starts with a name, a numeral, a truth value or an empty set
lead : (braces : Bool) (e : Expr) → Proper braces e → (more : List Entry) → (braces ≡ true → Leads more) → Leads (flat e ++ more)
lead b (Named t) p more h = ((λ q. omega arith), (λ q. omega arith))
lead b (Numeral t) p more h = ((λ q. omega arith), (λ q. omega arith))
lead b (Truth t false) p more h = ((λ q. omega arith), (λ q. omega arith))
lead b (Truth t true) p more h = ((λ q. omega arith), (λ q. omega arith))
lead b (Index t e) p more h = leads_under Kind.index (some t) (flat e) more (λ m. lead false e p.1 m never)
lead b (Paren t e) p more h = leads_under Kind.paren (some t) (flat e) more (λ m. lead false e p.1 m never)
lead b (Prefixed t o e) p more h = leads_under (Kind.before o) (some t) (flat e) more (λ m. lead false e p.1 m never)
lead b (Joined t o x y) p more h = leads_under (Kind.joining o) (some t) (flat x ++ flat y) more (leads_first (flat x) (flat y) (λ m. lead false x p.1 m never))
lead b (Nexts t x y) p more h = leads_under Kind.nexts (some t) (flat x ++ flat y) more (leads_first (flat x) (flat y) (λ m. lead false x p.1 m never))
lead b (InWindow t o x y z) p more h = leads_under Kind.window (some t) (flat x ++ (flat y ++ flat z)) more (leads_first (flat x) (flat y ++ flat z) (λ m. lead false x p.1 m never))
lead b (Each t o further i s e) p more h =
    let f = under (Kind.binder further) (some i) (flat s) in
    leads_under (Kind.big o) (some t) (f ++ flat e) more (leads_first f (flat e) (λ l. leads_under (Kind.binder further) (some i) (flat s) l (λ m. lead false s p.1 m never)))
lead b (Between t l g x y) p more h = leads_under (Kind.between g) (some t) (flat x ++ flat y) more (leads_first (flat x) (flat y) (λ m. lead false x p.1 m never))
lead b (Listed t es) p more h = subst Leads (sym (append_assoc (flat es) _ more)) (lead true es p.1 _ (λ _. ((λ q. omega arith), (λ q. omega arith))))
lead b Empty p more h = h p
lead b (Element e es) p more h = leads_under Kind.element none (flat e ++ flat es) more (leads_first (flat e) (flat es) (λ m. lead false e p.1 m never))
lead b (Range t x y z) p more h = leads_under Kind.range (some t) (flat x ++ (flat y ++ flat z)) more (leads_first (flat x) (flat y ++ flat z) (λ m. lead false x p.1 m never))

pub leads_identifiers : (is : List Identifier) (more : List Entry) → Leads more → NoWord (each flat_identifier is ++ more)
leads_identifiers [] [] h = h
leads_identifiers [] (n ∷ more) h = h.1
leads_identifiers (i ∷ is) more h = λ q. omega arith

pub leads_definitions : (ds : List Definition) (more : List Entry) → All ProperDefinition ds → Leads more → Leads (each flat_definition ds ++ more)
leads_definitions [] more p h = h
leads_definitions (Defined n e ∷ ds) more p h = leads_first (flat_definition (Defined n e)) (each flat_definition ds)
    (λ m. leads_under Kind.definition (some n) (flat e) m (λ l. lead false e p.0 l never)) more
leads_definitions (Enumerated n is ∷ ds) more p h = ((λ q. omega arith), (λ q. omega arith))

pub leads_main : (ss : List Subsection) → Some ss → Leads (each flat_subsection ss)
leads_main [] h = omega arith
leads_main (Inputs ds ∷ ss) h = ((λ q. omega arith), (λ q. omega arith))
leads_main (Outputs ds ∷ ss) h = ((λ q. omega arith), (λ q. omega arith))
leads_main (Lines p es ∷ ss) h = ((λ q. omega arith), (λ q. omega arith))

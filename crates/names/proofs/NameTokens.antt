-- Trees whose names are tokens of names: the grammar gives no others (NameReads). Every entry of such a tree that has a name keeps a token of one.
use Rattle.std.specs.Prelude.{ℕ, List, [], ◌∷◌, ◌++◌, false, ◌||◌, ◌≡◌, refl}
use Rattle.std.proofs.lemmas.Bool.{false≢true}
use Rattle.std.proofs.Math.Option.{Option, none, some}
use Rattle.std.proofs.Common.{sym, ◌∙◌}
use Rattle.language.specs.Tokens.{Token}
use Rattle.language.specs.Tree.{
  Expr,
  Named,
  Numeral,
  Truth,
  Index,
  Paren,
  Prefixed,
  Joined,
  Nexts,
  InWindow,
  Each,
  Between,
  Listed,
  Empty,
  Element,
  Range,
  Identifier,
  Definition,
  Defined,
  Enumerated,
  Declaration,
  OneSignal,
  OfWidth,
  OfType,
  Subsection,
  Inputs,
  Outputs,
  Lines,
  Spec,
}
use Rattle.language.proofs.Laws.Basics.Lists.{All, all_append}
use Rattle.language.proofs.Laws.Grammar.BuiltReads.{IsName}
use Rattle.language.proofs.Laws.Grammar.TreeReads.{ReadIdentifier, ReadDefinition, ReadDeclaration, ReadSubsection, ReadSpec}
use Rattle.entries.specs.Kinds as Kind
use Rattle.entries.specs.Flat.{Entry, under, leaf, flat, each, flat_parameter, flat_identifier, flat_definition, flat_declaration, flat_line, flat_subsection, outline}
use Rattle.entries.specs.FlatLaws.{all-each, all-each_where}
use Rattle.names.specs.Roles.{uses, binds, declares, Quiet}
use Rattle.names.specs.QuietLaws.{quiet_truth, quiet_before, quiet_joining, quiet_window, quiet_between, ending-big}
use Rattle.names.proofs.ScanLaws.{neither}
use Rattle.names.specs.Walkable.{NamesName}

abbrev pub NameExpr : Expr → Type 0
NameExpr (Named t) = IsName t
NameExpr (Numeral t) = Unit {0}
NameExpr (Truth t b) = Unit {0}
NameExpr (Index t e) = IsName t × NameExpr e
NameExpr (Paren t e) = NameExpr e
NameExpr (Prefixed t o e) = NameExpr e
NameExpr (Joined t o a b) = NameExpr a × NameExpr b
NameExpr (Nexts t n e) = NameExpr n × NameExpr e
NameExpr (InWindow t o n m e) = NameExpr n × NameExpr m × NameExpr e
NameExpr (Each t o further i s e) = IsName i × NameExpr s × NameExpr e
NameExpr (Between t l h a b) = NameExpr a × NameExpr b
NameExpr (Listed t es) = NameExpr es
NameExpr Empty = Unit {0}
NameExpr (Element e es) = NameExpr e × NameExpr es
NameExpr (Range t x y z) = NameExpr x × NameExpr y × NameExpr z

-- an entry with a name; one without
own : (k : ℕ) (t : Token) (size : ℕ) → IsName t → NamesName (record { kind = k; token = some t; size = size })
own k t size y _ = record { token = t; kept = refl; name = y }

nameless : (n : Entry) → uses n.kind ≡ false → binds n.kind ≡ false → declares Kind.parameter n.kind ≡ false → NamesName n
nameless n a b c y =
    absurd (false≢true (sym (neither (uses n.kind || binds n.kind) (declares Kind.parameter n.kind) (neither (uses n.kind) (binds n.kind) a b) c) ∙ y))

with-name : (k : ℕ) (t : Token) (ops : List Entry) → IsName t → All NamesName ops → All NamesName (under k (some t) ops)
with-name k t ops y h = all_append NamesName ops _ h (own k t _ y, tt)

without : (k : ℕ) (t : Option Token) (ops : List Entry) → uses k ≡ false → binds k ≡ false → declares Kind.parameter k ≡ false → All NamesName ops → All NamesName (under k t ops)
without k t ops a b c h = all_append NamesName ops _ h (nameless _ a b c, tt)

quietly : (k : ℕ) (t : Option Token) (ops : List Entry) → Quiet k → All NamesName ops → All NamesName (under k t ops)
quietly k t ops q h = without k t ops q.no_use q.no_binder q.no_declared h

two : (a b : List Entry) → All NamesName a → All NamesName b → All NamesName (a ++ b)
two a b h k = all_append NamesName a b h k

names-flat : (e : Expr) → NameExpr e → All NamesName (flat e)
names-flat (Named t) y = with-name Kind.named t [] y tt
names-flat (Numeral t) y = without Kind.numeral (some t) [] refl refl refl tt
names-flat (Truth t b) y = quietly Kind.truth (some t) [] quiet_truth tt
names-flat (Index t e) y = with-name Kind.index t (flat e) y.0 (names-flat e y.1)
names-flat (Paren t e) y = without Kind.paren (some t) (flat e) refl refl refl (names-flat e y)
names-flat (Prefixed t o e) y = quietly (Kind.before o) (some t) (flat e) (quiet_before o) (names-flat e y)
names-flat (Joined t o a b) y = quietly (Kind.joining o) (some t) (flat a ++ flat b) (quiet_joining o) (two (flat a) (flat b) (names-flat a y.0) (names-flat b y.1))
names-flat (Nexts t n e) y = without Kind.nexts (some t) (flat n ++ flat e) refl refl refl (two (flat n) (flat e) (names-flat n y.0) (names-flat e y.1))
names-flat (InWindow t o n m e) y =
    quietly Kind.window (some t) (flat n ++ (flat m ++ flat e)) quiet_window
    (two (flat n) (flat m ++ flat e) (names-flat n y.0) (two (flat m) (flat e) (names-flat m y.1) (names-flat e y.2)))
names-flat (Each t o further i s e) y =
    without (Kind.big o) (some t) (under (Kind.binder further) (some i) (flat s) ++ flat e) (ending-big o).no_use (ending-big o).no_binder (ending-big o).no_declared
    (two (under (Kind.binder further) (some i) (flat s)) (flat e) (with-name (Kind.binder further) i (flat s) y.0 (names-flat s y.1)) (names-flat e y.2))
names-flat (Between t l h a b) y = quietly (Kind.between h) (some t) (flat a ++ flat b) (quiet_between h) (two (flat a) (flat b) (names-flat a y.0) (names-flat b y.1))
names-flat (Listed t es) y = without Kind.listed (some t) (flat es) refl refl refl (names-flat es y)
names-flat Empty y = tt
names-flat (Element e es) y = without Kind.element none (flat e ++ flat es) refl refl refl (two (flat e) (flat es) (names-flat e y.0) (names-flat es y.1))
names-flat (Range t a b c) y =
    without Kind.range (some t) (flat a ++ (flat b ++ flat c)) refl refl refl
    (two (flat a) (flat b ++ flat c) (names-flat a y.0) (two (flat b) (flat c) (names-flat b y.1) (names-flat c y.2)))

names-word : (w : Token) → All NamesName (leaf Kind.word w)
names-word w = without Kind.word (some w) [] refl refl refl tt

names-words : (ws : List Token) → All NamesName (each (leaf Kind.word) ws)
names-words ws = all-each NamesName (leaf Kind.word) names-word ws

names-identifier : (i : Identifier) → ReadIdentifier i → All NamesName (flat_identifier i)
names-identifier i y = two (leaf Kind.identifier i.name) (each (leaf Kind.word) i.words) (with-name Kind.identifier i.name [] y tt) (names-words i.words)

names-definition : (d : Definition) → ReadDefinition NameExpr d → All NamesName (flat_definition d)
names-definition (Defined x e) y = with-name Kind.definition x (flat e) y.0 (names-flat e y.1)
names-definition (Enumerated x is) y = two (leaf Kind.enumeration x) (each flat_identifier is) (with-name Kind.enumeration x [] y.0 tt)
    (all-each_where NamesName flat_identifier names-identifier is y.1)

names_declaration : (d : Declaration) → ReadDeclaration NameExpr d → All NamesName (flat_declaration d)
names_declaration (OneSignal x) y = with-name Kind.signal x [] y tt
names_declaration (OfWidth x e) y = with-name Kind.bus x (flat e) y.0 (names-flat e y.1)
names_declaration (OfType u x) y = with-name Kind.typed x (leaf Kind.named u) y.1 (with-name Kind.named u [] y.0 tt)

names-line : (e : Expr) → NameExpr e → All NamesName (flat_line e)
names-line e y = without Kind.line none (flat e) refl refl refl (names-flat e y)

names-heading : (n : ℕ) (es : List Entry) → All NamesName es → All NamesName (record { kind = Kind.heading; token = none; size = n } ∷ es)
names-heading n es h = (nameless _ refl refl refl, h)

names_subsection : (s : Subsection) → ReadSubsection NameExpr s → All NamesName (flat_subsection s)
names_subsection (Inputs ds) y = names-heading _ (each flat_declaration ds) (all-each_where NamesName flat_declaration names_declaration ds y)
names_subsection (Outputs ds) y = names-heading _ (each flat_declaration ds) (all-each_where NamesName flat_declaration names_declaration ds y)
names_subsection (Lines p es) y = names-heading _ (each flat_line es) (all-each_where NamesName flat_line names-line es y)

pub names-outline : (x : Spec) → ReadSpec NameExpr x → All NamesName (outline x)
names-outline x y =
    two (each flat_parameter x.parameters) _ (all-each_where NamesName flat_parameter (λ p h. with-name Kind.parameter p.name (flat p.value) h.0 (names-flat p.value h.1))
    x.parameters y.parameters)
    (two (each flat_definition x.definitions) (each flat_subsection x.main) (all-each_where NamesName flat_definition names-definition x.definitions y.definitions)
    (all-each_where NamesName flat_subsection names_subsection x.main y.main))

-- The entries that the walk passes by are of other kinds than headings and lines.
use Rattle.std.specs.Prelude.{ℕ, ◌<◌, List, [], ◌∷◌, ◌++◌, map}
use Rattle.std.proofs.Math.Option.{Option, some}
use Rattle.std.proofs.Common.{arith}
use Rattle.language.specs.Tokens.{Token}
use Rattle.language.specs.Tree.{
  Expr,
  Identifier,
  Definition,
  Defined,
  Enumerated,
  Parameter,
  Declaration,
  OneSignal,
  OfWidth,
  OfType,
  Part,
  Subsection,
  Inputs,
  Outputs,
  Lines,
  Spec,
}
use Rattle.language.proofs.Laws.Basics.Lists.{All, all_more, all_append}
use Rattle.entries.specs.Kinds as Kind
use Rattle.entries.specs.Flat.{Entry, under, leaf, flat, each, flat_parameter, flat_identifier, flat_definition, flat_declaration}
use Rattle.entries.specs.FlatLaws.{all-each, flat-inside}
use Rattle.lines.specs.Items.{Item, Passed, Heads, Line, items_each, line_items, subsection_items, items}

abbrev pub Other : Entry → Type 0
Other e = e.kind < Kind.line

join : (es fs : List Entry) → All Other es → All Other fs → All Other (es ++ fs)
join es fs h g = all_append Other es fs h g

other_under : (k : ℕ) (t : Option Token) (es : List Entry) → k < Kind.line → All Other es → All Other (under k t es)
other_under k t es q h = join es _ h (q, tt)

other_flat : (e : Expr) → All Other (flat e)
other_flat e = all_more (λ n l. omega arith) (flat e) (flat-inside e)

other_parameter : (p : Parameter) → All Other (flat_parameter p)
other_parameter p = other_under Kind.parameter (some p.name) (flat p.value) (omega arith) (other_flat p.value)

other_identifier : (i : Identifier) → All Other (flat_identifier i)
other_identifier i = (omega arith, all-each Other (leaf Kind.word) (λ w. (omega arith, tt)) i.words)

other_definition : (d : Definition) → All Other (flat_definition d)
other_definition (Defined x e) = other_under Kind.definition (some x) (flat e) (omega arith) (other_flat e)
other_definition (Enumerated x is) = (omega arith, all-each Other flat_identifier other_identifier is)

other_declaration : (d : Declaration) → All Other (flat_declaration d)
other_declaration (OneSignal x) = (omega arith, tt)
other_declaration (OfWidth x e) = other_under Kind.bus (some x) (flat e) (omega arith) (other_flat e)
other_declaration (OfType u x) = other_under Kind.typed (some x) (leaf Kind.named u) (omega arith) (omega arith, tt)

-- of the items: what is passed by is other
abbrev pub PassesOther : Item → Type 0
PassesOther (Passed e) = Other e
PassesOther (Heads n) = Unit {0}
PassesOther (Line p e) = Unit {0}

other_passed : (es : List Entry) → All Other es → All PassesOther (map Passed es)
other_passed [] h = tt
other_passed (e ∷ es) h = (h.0, other_passed es h.1)

other_items : {A : Type 0} (f : A → List Item) → ((a : A) → All PassesOther (f a)) → (l : List A) → All PassesOther (items_each f l)
other_items f h [] = tt
other_items f h (a ∷ l) = all_append PassesOther (f a) (items_each f l) (h a) (other_items f h l)

other_line : (p : Part) (e : Expr) → All PassesOther (line_items p e)
other_line p e = all_append PassesOther (map Passed (flat e)) (Line p e ∷ []) (other_passed (flat e) (other_flat e)) (tt, tt)

other_subsection : (s : Subsection) → All PassesOther (subsection_items s)
other_subsection (Inputs ds) = (tt, other_passed (each flat_declaration ds) (all-each Other flat_declaration other_declaration ds))
other_subsection (Outputs ds) = (tt, other_passed (each flat_declaration ds) (all-each Other flat_declaration other_declaration ds))
other_subsection (Lines p es) = (tt, other_items (line_items p) (other_line p) es)

pub items_other : (x : Spec) → All PassesOther (items x)
items_other x =
    let ps = each flat_parameter x.parameters in
    let ds = each flat_definition x.definitions in
    all_append PassesOther (map Passed (ps ++ ds)) (items_each subsection_items x.main)
    (other_passed (ps ++ ds) (join ps ds (all-each Other flat_parameter other_parameter x.parameters) (all-each Other flat_definition other_definition x.definitions)))
    (other_items subsection_items other_subsection x.main)

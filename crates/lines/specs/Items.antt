-- The entries of a text as a walk over them meets them: those it passes by, the headings of MAIN's subsections, and the lines, whose own entries stand behind those
-- of their expressions.
use Rattle.std.specs.Prelude.{ℕ, suc, ◌+◌, List, [], ◌∷◌, ◌++◌, map, ◌≡◌, length}
use Rattle.std.proofs.Math.Option.{none}
use Rattle.node.specs.Ltl.{Formula}
use Rattle.node.specs.Result.{Result, Done, ◌>>=◌}
use Rattle.language.specs.Tree.{Expr, Part, part_code, Subsection, Inputs, Outputs, Lines, Spec}
use Rattle.language.specs.Expansion.{Context, expansion}
use Rattle.entries.specs.Kinds as Kind
use Rattle.entries.specs.Flat.{Entry, flat, each, flat_parameter, flat_definition, flat_declaration}

pub data Item : Type 0 where
  Passed : Entry → Item
  Heads : (number : ℕ) → Item
  Line : Part → Expr → Item

abbrev pub entry_of : Item → Entry
entry_of (Passed e) = e
entry_of (Heads n) = record { kind = Kind.heading; token = none; size = n }
entry_of (Line p e) = record { kind = Kind.line; token = none; size = suc (length (flat e)) }

abbrev pub items_each : {A : Type 0} → (A → List Item) → List A → List Item
items_each f [] = []
items_each f (a ∷ l) = f a ++ items_each f l

abbrev pub line_items : Part → Expr → List Item
line_items p e = map Passed (flat e) ++ (Line p e ∷ [])

abbrev pub subsection_items : Subsection → List Item
subsection_items (Inputs ds) = Heads 0 ∷ map Passed (each flat_declaration ds)
subsection_items (Outputs ds) = Heads 1 ∷ map Passed (each flat_declaration ds)
subsection_items (Lines p es) = Heads (2 + part_code p) ∷ items_each (line_items p) es

abbrev pub items : Spec → List Item
items x = map Passed (each flat_parameter x.parameters ++ each flat_definition x.definitions) ++ items_each subsection_items x.main

-- the heading's number stands for the part of every line up to the next heading
abbrev pub Headed : ℕ → List Item → Type 0
Headed n [] = Unit {0}
Headed n (Passed e ∷ is) = Headed n is
Headed n (Heads m ∷ is) = Headed m is
Headed n (Line p e ∷ is) = (n ≡ 2 + part_code p) × Headed n is

-- the formulas of the lines, each with its part
abbrev pub worked : Context → List Item → Result (List (Part × Formula))
worked c [] = Done []
worked c (Passed e ∷ is) = worked c is
worked c (Heads n ∷ is) = worked c is
worked c (Line p e ∷ is) = expansion c e >>= λ f. worked c is >>= λ fs. Done ((p, f) ∷ fs)

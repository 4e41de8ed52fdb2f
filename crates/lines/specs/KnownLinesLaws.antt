-- Every line's expression is known at the entry before the line's own.
use Rattle.std.specs.Prelude.{ℕ, suc, ◌+◌, List, [], ◌∷◌, ◌++◌, map, ◌≡◌, length}
use Rattle.std.proofs.Common.{append_assoc, append-nil, sym, subst, arith, length-append}
use Rattle.std.proofs.Math.Option.{none}
use Rattle.language.specs.Tree.{Expr, Part, Subsection, Inputs, Outputs, Lines, Spec}
use Rattle.entries.specs.Kinds as Kind
use Rattle.entries.specs.Flat.{Entry, flat, each, flat_parameter, flat_definition, flat_declaration, flat_line, flat_subsection}
use Rattle.name_values.specs.Worked.{EachFrom, Linewise, Subsectionwise, main_start, TreeWorked}
use Rattle.lines.specs.Items.{Item, Passed, Line, items_each, line_items, subsection_items, items}
use Rattle.lines.specs.KnownLines.{EachLine, LineKnown}

module _ (Q : ℕ → Expr → Type 0) where
  passed_by : (i : ℕ) (es : List Entry) (is : List Item) → EachLine Q (i + length es) is → EachLine Q i (map Passed es ++ is)
  passed_by i [] is h = subst (λ n. EachLine Q n is) (omega arith) h
  passed_by i (e ∷ es) is h = passed_by (suc i) es is (subst (λ n. EachLine Q n is) (omega arith) h)

  -- of the things of a list, one after the other
  each_by : {A : Type 0} (f : A → List Item) (g : A → List Entry) (P : ℕ → A → Type 0)
      → ((start : ℕ) (a : A) (is : List Item) → P start a → EachLine Q (start + length (g a)) is → EachLine Q start (f a ++ is))
      → (start : ℕ) (l : List A) (is : List Item) → EachFrom g P start l → EachLine Q (start + length (each g l)) is → EachLine Q start (items_each f l ++ is)
  each_by f g P one start [] is h rest = subst (λ n. EachLine Q n is) (omega arith) rest
  each_by f g P one start (a ∷ l) is h rest =
      let m = length-append (g a) (each g l) in
      subst (EachLine Q start) (sym (append_assoc (f a) (items_each f l) is))
      (one start a (items_each f l ++ is) h.0 (each_by f g P one (start + length (g a)) l is h.1 (subst (λ n. EachLine Q n is) (omega arith) rest)))

module _ (x : Spec) (text w refs : List ℕ) where
  abbrev Known : ℕ → Expr → Type 0
  Known = LineKnown x text w refs

  line_by : (p : Part) (start : ℕ) (e : Expr) (is : List Item) → Linewise x text w refs start e → EachLine Known (start + length (flat_line e)) is → EachLine Known start (line_items p e ++ is)
  line_by p start e is h rest =
      let m : length (flat_line e) ≡ length (flat e) + 1 = length-append (flat e) (record { kind = Kind.line; token = none; size = suc (length (flat e)) } ∷ []) in
      subst (EachLine Known start) (sym (append_assoc (map Passed (flat e)) (Line p e ∷ []) is))
      (passed_by Known start (flat e) (Line p e ∷ is) (h, subst (λ n. EachLine Known n is) (omega arith) rest))

  subsection_by : (start : ℕ) (s : Subsection) (is : List Item) → Subsectionwise x text w refs start s → EachLine Known (start + length (flat_subsection s)) is
      → EachLine Known start (subsection_items s ++ is)
  subsection_by start (Inputs ds) is h rest = passed_by Known (suc start) (each flat_declaration ds) is (subst (λ n. EachLine Known n is) (omega arith) rest)
  subsection_by start (Outputs ds) is h rest = passed_by Known (suc start) (each flat_declaration ds) is (subst (λ n. EachLine Known n is) (omega arith) rest)
  subsection_by start (Lines p es) is h rest =
      each_by Known (line_items p) flat_line (Linewise x text w refs) (line_by p) (suc start) es is h (subst (λ n. EachLine Known n is) (omega arith) rest)

  pub lines-known : TreeWorked x text w refs → EachLine Known 0 (items x)
  lines-known t =
      let ps = each flat_parameter x.parameters in
      let ds = each flat_definition x.definitions in
      let m = length-append ps ds in
      let end : EachLine Known (main_start x + length (each flat_subsection x.main)) [] = tt in
      let main : EachLine Known (main_start x) (items_each subsection_items x.main) =
      subst (EachLine Known (main_start x)) (append-nil (items_each subsection_items x.main))
      (each_by Known subsection_items flat_subsection (Subsectionwise x text w refs) subsection_by (main_start x) x.main [] t.main end) in
      passed_by Known 0 (ps ++ ds) (items_each subsection_items x.main) (subst (λ n. EachLine Known n (items_each subsection_items x.main)) (omega arith) main)

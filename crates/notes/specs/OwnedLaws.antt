-- The entries that declare are there, as the tree has them.
use Rattle.std.specs.Prelude.{ℕ, suc, ◌+◌, ◌-◌, true, false, List, [], ◌∷◌, ◌++◌, ◌≡◌, refl, length}
use Rattle.std.proofs.Common.{append_assoc, append-nil, sym, ◌∙◌, subst, arith, length-append}
use Rattle.std.proofs.Math.Option.{none, some}
use Rattle.language.specs.Tokens.{Token, tokens}
use Rattle.language.specs.Tree.{Expr, Named, Parameter, Definition, Defined, Enumerated, Declaration, OneSignal, OfWidth, OfType, Subsection, Inputs, Outputs, Lines, Spec}
use Rattle.language.specs.Listed.{declared_name}
use Rattle.entries.specs.Kinds as Kind
use Rattle.entries.specs.Flat.{Entry, under, flat, each, flat_parameter, flat_definition, flat_declaration, flat_line, flat_subsection, outline}
use Rattle.entries.specs.StoredLaws.{entries-right}
use Rattle.names.specs.Roles.{binds, ends}
use Rattle.names.specs.Walkable.{names}
use Rattle.names.proofs.WalkBinders.{reference-outside}
use Rattle.names.specs.Refers.{run-one}
use Rattle.names.specs.Resolved.{Stored, declared_names, Resolved}
use Rattle.names.proofs.ResolvedLaws.{resolved_expr, resolved_entry}
use Rattle.name_values.specs.Passing.{Left}
use Rattle.name_values.proofs.PassingLaws.{plain-identifiers, left-same, left_at, left-all, pass-entry, pass-plain, pass-line}
use Rattle.name_values.specs.Worked.{definitions_start, main_start, Worked, EachFrom, Parameterwise, Declarationwise, Subsectionwise, TreeWorked}
use Rattle.notes.specs.ChosenLaws.{InSubsection}
use Rattle.notes.specs.Owned.{OwnAt, ParameterAt, kind_of, DeclarationAt}

each_both : {A : Type 0} (flatten : A → List Entry) {P Q R : ℕ → A → Type 0} → ((start : ℕ) (a : A) → P start a → Q start a → R start a) → (l : List A) (start : ℕ) → EachFrom flatten P start l
    → EachFrom flatten Q start l → EachFrom flatten R start l
each_both flatten f [] start h g = tt
each_both flatten f (a ∷ l) start h g = (f start a h.0 g.0, each_both flatten f l (start + length (flatten a)) h.1 g.1)

module _ {x : Spec} {text w refs found : List ℕ} {count entries n : ℕ} (s : Stored text w count entries x) (r : Resolved x refs found n) where
  abbrev Rest : ℕ → List Entry → Type 0
  Rest start es = Left x text w start es

  abbrev Own : ℕ → ℕ → Token → ℕ → Type 0
  Own k kind t size = OwnAt x text w refs k kind t size

  own-here : (kind size : ℕ) (t : Token) → binds kind ≡ false → ends kind ≡ false → names kind ≡ true → (start : ℕ) (es : List Entry)
      → Rest start (record { kind = kind; token = some t; size = size } ∷ es) → Own start kind t size × Rest (suc start) es
  own-here kind size t a b y start es h =
      let m : Entry = record { kind = kind; token = some t; size = size } in
      let g = resolved_entry r m a b start [] es h.run in
      let o = run-one (outline x) start [] m es (record { here = h.run.here; opened = h.run.opened }) in
      (record { entry = h.stored.0; number = g.1 y ∙ reference-outside (declared_names x) t; inside = o.0 }, pass-entry s r m a b start es h)

  own_line : (kind : ℕ) (t : Token) (e : Expr) → binds kind ≡ false → ends kind ≡ false → names kind ≡ true → (start : ℕ) (es : List Entry) → Rest start (under kind (some t) (flat e) ++ es) →
      Own (start + length (under kind (some t) (flat e)) - 1) kind t (length (under kind (some t) (flat e))) × Rest (start + length (under kind (some t) (flat e))) es
  own_line kind t e a b y start es h =
      let size = suc (length (flat e)) in
      let m : Entry = record { kind = kind; token = some t; size = size } in
      let k : Rest start (flat e ++ m ∷ es) = left-same (append_assoc (flat e) (m ∷ []) es) h in
      let g = resolved_expr r e start [] (m ∷ es) (record { here = k.run.here; opened = k.run.opened }) in
      let l = length-append (flat e) (m ∷ []) in
      let o = own-here kind size t a b y (start + length (flat e)) es (record { run = g.after; stored = entries-right w (tokens text) start (flat e) (m ∷ es) k.stored }) in
      let i : start + length (flat e) ≡ start + length (under kind (some t) (flat e)) - 1 = omega arith in
      let j : size ≡ length (under kind (some t) (flat e)) = omega arith in
      (subst (λ q. Own q kind t (length (under kind (some t) (flat e)))) i (subst (Own (start + length (flat e)) kind t) j o.0), left_at (omega arith) o.1)

  -- things of one sort, one behind the other
  pass-each : {A : Type 0} (flatten : A → List Entry) (P : ℕ → A → Type 0) → ((a : A) (start : ℕ) (es : List Entry) → Rest start (flatten a ++ es) → P start a × Rest (start + length (flatten a)) es)
      → (l : List A) (start : ℕ) (es : List Entry) → Rest start (each flatten l ++ es) → EachFrom flatten P start l × Rest (start + length (each flatten l)) es
  pass-each flatten P f [] start es h = (tt, left_at (omega arith) h)
  pass-each flatten P f (a ∷ l) start es h =
      let one = f a start (each flatten l ++ es) (left-same (append_assoc (flatten a) (each flatten l) es) h) in
      let more = pass-each flatten P f l (start + length (flatten a)) es one.1 in
      let z = length-append (flatten a) (each flatten l) in
      ((one.0, more.0), left_at (omega arith) more.1)

  abbrev Any : {A : Type 0} → ℕ → A → Type 0
  Any start a = Unit {0}

  definition-passed : (d : Definition) (start : ℕ) (es : List Entry) → Rest start (flat_definition d ++ es) → Unit {0} × Rest (start + length (flat_definition d)) es
  definition-passed (Defined m e) start es h = (tt, (pass-line s r Kind.definition (some m) e refl refl start es h).1)
  definition-passed (Enumerated m is) start es h = (tt, pass-plain s r (flat_definition (Enumerated m is)) ((refl, refl), plain-identifiers is) start es h)

  abbrev OwnDeclaration : ℕ → Declaration → Type 0
  OwnDeclaration start m = Own (start + length (flat_declaration m) - 1) (kind_of m) (declared_name m) (length (flat_declaration m))

  declaration_passed : (m : Declaration) (start : ℕ) (es : List Entry) → Rest start (flat_declaration m ++ es) → OwnDeclaration start m × Rest (start + length (flat_declaration m)) es
  declaration_passed (OneSignal m) start es h =
      let o = own-here Kind.signal 1 m refl refl refl start es h in
      (subst (λ q. Own q Kind.signal m 1) (omega arith) o.0, left_at (omega arith) o.1)
  declaration_passed (OfWidth m e) start es h = own_line Kind.bus m e refl refl refl start es h
  declaration_passed (OfType u m) start es h = own_line Kind.typed m (Named u) refl refl refl start es h

  abbrev OwnSubsection : ℕ → Subsection → Type 0
  OwnSubsection start (Inputs ds) = EachFrom flat_declaration OwnDeclaration (suc start) ds
  OwnSubsection start (Outputs ds) = EachFrom flat_declaration OwnDeclaration (suc start) ds
  OwnSubsection start (Lines p es) = Unit {0}

  subsection_passed : (a : Subsection) (start : ℕ) (es : List Entry) → Rest start (flat_subsection a ++ es) → OwnSubsection start a × Rest (start + length (flat_subsection a)) es
  subsection_passed (Inputs ds) start es h =
      let g = pass-each flat_declaration OwnDeclaration declaration_passed ds (suc start) es (pass-entry s r _ refl refl start (each flat_declaration ds ++ es) h) in
      (g.0, left_at (omega arith) g.1)
  subsection_passed (Outputs ds) start es h =
      let g = pass-each flat_declaration OwnDeclaration declaration_passed ds (suc start) es (pass-entry s r _ refl refl start (each flat_declaration ds ++ es) h) in
      (g.0, left_at (omega arith) g.1)
  subsection_passed (Lines p fs) start es h =
      let g = pass-each flat_line Any (λ e at rest k. (tt, (pass-line s r Kind.line none e refl refl at rest k).1)) fs (suc start) es (pass-entry s r _ refl refl start (each flat_line fs ++ es) h) in
      (tt, left_at (omega arith) g.1)

  parameter-at : (start : ℕ) (p : Parameter) → Own (start + length (flat_parameter p) - 1) Kind.parameter p.name (length (flat_parameter p)) → Parameterwise x text w refs start p
      → ParameterAt x text w refs p (start + length (flat_parameter p) - 1)
  parameter-at start p o h =
      let l = length-append (flat p.value) (record { kind = Kind.parameter; token = some p.name; size = suc (length (flat p.value)) } ∷ []) in
      record { own = o; worked = subst (λ k. Worked x text w refs [] k p.value) (omega arith) h }

  declaration_at : (start : ℕ) (m : Declaration) → OwnDeclaration start m → Declarationwise x text w refs start m → DeclarationAt x text w refs m (start + length (flat_declaration m) - 1)
  declaration_at start (OneSignal m) o h = record { own = o; width = tt }
  declaration_at start (OfWidth m e) o h =
      let l = length-append (flat e) (record { kind = Kind.bus; token = some m; size = suc (length (flat e)) } ∷ []) in
      record { own = o; width = subst (λ k. Worked x text w refs x.definitions k e) (omega arith) h }
  declaration_at start (OfType u m) o h = record { own = o; width = subst (λ k. Worked x text w refs x.definitions k (Named u)) (omega arith) h }

  subsection_at : (start : ℕ) (a : Subsection) → OwnSubsection start a → Subsectionwise x text w refs start a → InSubsection (DeclarationAt x text w refs) start a
  subsection_at start (Inputs ds) o h = each_both flat_declaration declaration_at ds (suc start) o h
  subsection_at start (Outputs ds) o h = each_both flat_declaration declaration_at ds (suc start) o h
  subsection_at start (Lines p es) o h = tt

  passed : EachFrom flat_parameter (λ start p. Own (start + length (flat_parameter p) - 1) Kind.parameter p.name (length (flat_parameter p))) 0 x.parameters × EachFrom flat_subsection OwnSubsection
      (main_start x) x.main
  passed =
      let ms = each flat_subsection x.main in
      let p = pass-each flat_parameter (λ start p. Own (start + length (flat_parameter p) - 1) Kind.parameter p.name (length (flat_parameter p)))
      (λ p start es h. own_line Kind.parameter p.name p.value refl refl refl start es h) x.parameters 0 _ (left-all s r) in
      let d = pass-each flat_definition Any definition-passed x.definitions (definitions_start x) ms (left_at (omega arith) p.1) in
      let m = pass-each flat_subsection OwnSubsection subsection_passed x.main (main_start x) [] (left-same (sym (append-nil ms)) d.1) in
      (p.0, m.0)

  pub parameters_at : TreeWorked x text w refs → EachFrom flat_parameter (λ start p. ParameterAt x text w refs p (start + length (flat_parameter p) - 1)) 0 x.parameters
  parameters_at t = each_both flat_parameter parameter-at x.parameters 0 passed.0 t.parameters

  pub declarations-at : TreeWorked x text w refs → EachFrom flat_subsection (InSubsection (DeclarationAt x text w refs)) (main_start x) x.main
  declarations-at t = each_both flat_subsection subsection_at x.main (main_start x) passed.1 t.main

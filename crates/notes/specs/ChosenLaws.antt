-- The entries chosen in a text's outline are those of its parameters, of its inputs, of its outputs, one for each in order.
use Rattle.std.specs.Prelude.{ℕ, suc, ◌+◌, ◌-◌, ◌≤◌, ◌<◌, Bool, true, false, ◌&&◌, List, [], ◌∷◌, ◌++◌, ◌≡◌, refl, eqb, leb, length}
use Rattle.std.proofs.Common.{append_assoc, append-nil, sym, ap, ap₂, ◌∙◌, subst, arith, length-append, eq-eqb, ne_eqb, eqb-true}
use Rattle.std.proofs.Math.Option.{Option, some}
use Rattle.std.proofs.lemmas.Bool.{eqb-false, lt-leb}
use Rattle.language.specs.Tokens.{Token}
use Rattle.language.specs.Tree.{
  Expr,
  Named,
  Identifier,
  Parameter,
  Definition,
  Defined,
  Enumerated,
  Declaration,
  OneSignal,
  OfWidth,
  OfType,
  Part,
  Initially,
  Preset,
  Require,
  Assert,
  Assume,
  Guarantee,
  part_code,
  Subsection,
  Inputs,
  Outputs,
  Lines,
  Spec,
}
use Rattle.language.specs.DeclaredNames.{inputs, outputs}
use Rattle.language.proofs.Laws.Basics.Lists.{All, all_append, all_more}
use Rattle.language.proofs.Laws.Basics.Tests.{pick, leave}
use Rattle.language.proofs.Laws.Values.PortLaws.{Pairs}
use Rattle.entries.specs.Headings.{no_heading}
use Rattle.entries.specs.Kinds as Kind
use Rattle.entries.specs.Flat.{Entry, under, leaf, flat, each, flat_parameter, flat_identifier, flat_definition, flat_declaration, flat_line, head, flat_subsection, outline}
use Rattle.entries.specs.FlatLaws.{all-each, flat-inside}
use Rattle.name_values.specs.Worked.{EachFrom, main_start}
use Rattle.notes.specs.Chosen.{Choice, choice, takes, chosen}

module _ (c : Choice) (heading : ℕ) where
  -- an entry that is passed over
  abbrev Over : ℕ → Type 0
  Over k = (k < Kind.heading) × (takes c heading k ≡ false)

  abbrev pub Passed : Entry → Type 0
  Passed n = Over n.kind

  pub chosen_skip : (es fs : List Entry) (i : ℕ) → All Passed es → chosen c heading i (es ++ fs) ≡ chosen c heading (i + length es) fs
  chosen_skip [] fs i h = ap (λ k. chosen c heading k fs) (omega arith)
  chosen_skip (n ∷ es) fs i h =
      leave (eqb n.kind Kind.heading) _ _ (ne_eqb n.kind Kind.heading (λ e. let l = h.0.0 in omega arith))
      ∙ leave (takes c heading n.kind) _ _ h.0.1
      ∙ chosen_skip es fs (suc i) h.1
      ∙ ap (λ k. chosen c heading k fs) (omega arith)

  -- one that is taken
  pub chosen-take : (n : Entry) (fs : List Entry) (i : ℕ) → n.kind < Kind.heading → takes c heading n.kind ≡ true → chosen c heading i (n ∷ fs) ≡ i ∷ chosen c heading (suc i) fs
  chosen-take n fs i l e =
      leave (eqb n.kind Kind.heading) _ _ (ne_eqb n.kind Kind.heading (λ e. omega arith)) ∙ pick (takes c heading n.kind) _ _ e

  -- of a kind before those that are looked for, or after them
  low-passed : (n : ℕ) → n < c.low → n < Kind.heading → Over n
  low-passed n l k = (k, no-and (eqb heading c.wanted) (leb c.low n) (leb n c.high) (lt-leb c.low n l))
    where
      no-and : (a b d : Bool) → b ≡ false → (a && (b && d)) ≡ false
      no-and true b d e = ap (λ s. s && d) e
      no-and false b d e = refl

  high-passed : (n : ℕ) → c.high < n → n < Kind.heading → Over n
  high-passed n l k = (k, no-and (eqb heading c.wanted) (leb c.low n) (leb n c.high) (lt-leb n c.high l))
    where
      no-and : (a b d : Bool) → d ≡ false → (a && (b && d)) ≡ false
      no-and true true d e = e
      no-and true false d e = refl
      no-and false b d e = refl

  -- under another heading
  away_passed : (n : ℕ) → (heading ≡ c.wanted → ⊥) → n < Kind.heading → Over n
  away_passed n h k = (k, ap (λ s. s && (leb c.low n && leb n c.high)) (ne_eqb heading c.wanted h))

  inside-passed : (e : Expr) → Kind.parameter ≤ c.low → All Passed (flat e)
  inside-passed e l = all_more (λ n h. low-passed n.kind (omega arith) (omega arith)) (flat e) (flat-inside e)

-- a heading
pub chosen-head : (c : Choice) (heading n i : ℕ) (es : List Entry) → chosen c heading i (head n ++ es) ≡ chosen c n (suc i) es
chosen-head c heading n i es = refl

-- lines of one sort, each with its own entry as its last
module _ {A : Type 0} (c : Choice) (flatten : A → List Entry) (P : A → ℕ → Type 0) (heading : ℕ) (rest : List Entry)
    (one : (a : A) (fs : List Entry) (i : ℕ) → chosen c heading i (flatten a ++ fs) ≡ (i + length (flatten a) - 1) ∷ chosen c heading (i + length (flatten a)) fs) where
  pub lines-chosen : (l : List A) (i : ℕ) (more : List A) → EachFrom flatten (λ start a. P a (start + length (flatten a) - 1)) i l → Pairs P more (chosen c heading (i + length (each flatten l)) rest)
      → Pairs P (l ++ more) (chosen c heading i (each flatten l ++ rest))
  lines-chosen [] i more h g = subst (λ k. Pairs P more (chosen c heading k rest)) (omega arith) g
  lines-chosen (a ∷ l) i more h g =
      let s = length-append (flatten a) (each flatten l) in
      subst (Pairs P (a ∷ (l ++ more))) (sym (ap (chosen c heading i) (append_assoc (flatten a) (each flatten l) rest) ∙ one a (each flatten l ++ rest) i))
      (h.0, lines-chosen l (i + length (flatten a)) more h.1 (subst (λ k. Pairs P more (chosen c heading k rest)) (omega arith) g))

-- a line's own entry behind its expression
own-chosen : (c : Choice) (heading k : ℕ) (t : Option Token) (e : Expr) → Kind.parameter ≤ c.low → k < Kind.heading → takes c heading k ≡ true → (fs : List Entry) (i : ℕ) →
    chosen c heading i (under k t (flat e) ++ fs) ≡ (i + length (under k t (flat e)) - 1) ∷ chosen c heading (i + length (under k t (flat e))) fs
own-chosen c heading k t e l b y fs i =
    let own : Entry = record { kind = k; token = t; size = suc (length (flat e)) } in
    let s = length-append (flat e) (own ∷ []) in
    let p : i + length (flat e) ≡ i + length (under k t (flat e)) - 1 = omega arith in
    let q : suc (i + length (flat e)) ≡ i + length (under k t (flat e)) = omega arith in
    ap (chosen c heading i) (append_assoc (flat e) (own ∷ []) fs) ∙ chosen_skip c heading (flat e) (own ∷ fs) i (inside-passed c heading e l) ∙ chosen-take c heading own fs (i + length (flat e)) b y
    ∙ ap₂ (λ m n. m ∷ chosen c heading n fs) p q

line-passed : (c : Choice) (heading k : ℕ) (t : Option Token) (e : Expr) → Kind.parameter ≤ c.low → ((n : Entry) → n.kind ≡ k → Passed c heading n) → All (Passed c heading) (under k t (flat e))
line-passed c heading k t e l h =
    let own : Entry = record { kind = k; token = t; size = suc (length (flat e)) } in
    all_append (Passed c heading) (flat e) (own ∷ []) (inside-passed c heading e l) (h own refl, tt)

-- parameters
abbrev pub parameter_choice : Choice
parameter_choice = choice no_heading Kind.parameter Kind.parameter

-- signals and buses under a heading
abbrev pub port_choice : ℕ → Choice
port_choice wanted = choice wanted Kind.signal Kind.typed

-- the entries of a definition
words-below : (ws : List Token) → All (λ n. (Kind.parameter < n.kind) × (n.kind < Kind.signal)) (each (leaf Kind.word) ws)
words-below [] = tt
words-below (v ∷ ws) = ((omega arith, omega arith), words-below ws)

identifiers-below : (is : List Identifier) → All (λ n. (Kind.parameter < n.kind) × (n.kind < Kind.signal)) (each flat_identifier is)
identifiers-below [] = tt
identifiers-below (i ∷ is) = (
  (omega arith, omega arith),
  all_append (λ n. (Kind.parameter < n.kind) × (n.kind < Kind.signal)) (each (leaf Kind.word) i.words) (each flat_identifier is)
      (words-below i.words) (identifiers-below is),
)

definition_skipped : (d : Definition) → All (Passed parameter_choice no_heading) (flat_definition d)
definition_skipped (Defined n e) = line-passed parameter_choice no_heading Kind.definition (some n) e (omega arith) (λ m q. high-passed parameter_choice no_heading m.kind (omega arith) (omega arith))
definition_skipped (Enumerated n is) = (
  high-passed parameter_choice no_heading Kind.enumeration (omega arith) (omega arith),
  all_more (λ m h. high-passed parameter_choice no_heading m.kind h.0 (omega (arith, h.1)))
      (each flat_identifier is) (identifiers-below is),
)

-- the entries of a declaration, of a line of formulas
declaration_away : (c : Choice) (heading : ℕ) → (heading ≡ c.wanted → ⊥) → (m : Declaration) → All (Passed c heading) (flat_declaration m)
declaration_away c heading h (OneSignal n) = (away_passed c heading Kind.signal h (omega arith), tt)
declaration_away c heading h (OfWidth n e) =
    all_append (Passed c heading) (flat e) _ (all_more (λ m l. away_passed c heading m.kind h (omega arith)) (flat e) (flat-inside e)) (away_passed c heading Kind.bus h (omega arith), tt)
declaration_away c heading h (OfType u n) = (away_passed c heading Kind.named h (omega arith), (away_passed c heading Kind.typed h (omega arith), tt))

formula_away : (c : Choice) (heading : ℕ) → (heading ≡ c.wanted → ⊥) → (e : Expr) → All (Passed c heading) (flat_line e)
formula_away c heading h e =
    all_append (Passed c heading) (flat e) _ (all_more (λ m l. away_passed c heading m.kind h (omega arith)) (flat e) (flat-inside e)) (away_passed c heading Kind.line h (omega arith), tt)

-- a whole subsection is passed over
section_away : {A : Type 0} (c : Choice) (before heading i : ℕ) (flatten : A → List Entry) → ((a : A) → All (Passed c heading) (flatten a)) → (l : List A) (rest : List Entry) →
    chosen c before i ((head heading ++ each flatten l) ++ rest) ≡ chosen c heading (i + length (head heading ++ each flatten l)) rest
section_away c before heading i flatten h l rest =
    chosen_skip c heading (each flatten l) rest (suc i) (all-each (Passed c heading) flatten h l) ∙ ap (λ k. chosen c heading k rest) (omega arith)

-- no parameter stands in MAIN
main_none : (ss : List Subsection) (heading i : ℕ) → chosen parameter_choice heading i (each flat_subsection ss) ≡ []
main_none [] heading i = refl
main_none (Inputs ds ∷ ss) heading i =
    section_away parameter_choice heading 0 i flat_declaration (declaration_away parameter_choice 0 (λ e. omega arith)) ds (each flat_subsection ss) ∙ main_none ss 0
    (i + length (flat_subsection (Inputs ds)))
main_none (Outputs ds ∷ ss) heading i =
    section_away parameter_choice heading 1 i flat_declaration (declaration_away parameter_choice 1 (λ e. omega arith)) ds (each flat_subsection ss) ∙ main_none ss 1
    (i + length (flat_subsection (Outputs ds)))
main_none (Lines p es ∷ ss) heading i =
    section_away parameter_choice heading (2 + part_code p) i flat_line (formula_away parameter_choice (2 + part_code p) (part-differs p)) es (each flat_subsection ss) ∙ main_none ss (2 + part_code p)
    (i + length (flat_subsection (Lines p es)))
  where
    part-differs : (q : Part) → 2 + part_code q ≡ no_heading → ⊥
    part-differs Initially e = omega arith
    part-differs Preset e = omega arith
    part-differs Require e = omega arith
    part-differs Assert e = omega arith
    part-differs Assume e = omega arith
    part-differs Guarantee e = omega arith

pub parameters_chosen : (P : Parameter → ℕ → Type 0) (x : Spec) → EachFrom flat_parameter (λ start p. P p (start + length (flat_parameter p) - 1)) 0 x.parameters
    → Pairs P x.parameters (chosen parameter_choice no_heading 0 (outline x))
parameters_chosen P x h =
    let ds = each flat_definition x.definitions in
    let ms = each flat_subsection x.main in
    let k = length (each flat_parameter x.parameters) in
    let none_left : chosen parameter_choice no_heading (0 + k) (ds ++ ms) ≡ [] =
    chosen_skip parameter_choice no_heading ds ms (0 + k) (all-each (Passed parameter_choice no_heading) flat_definition definition_skipped x.definitions) ∙ main_none x.main no_heading (0 + k + length ds) in
    subst (λ l. Pairs P l (chosen parameter_choice no_heading 0 (outline x))) (append-nil x.parameters)
    (lines-chosen parameter_choice flat_parameter P no_heading (ds ++ ms)
    (λ p fs i. own-chosen parameter_choice no_heading Kind.parameter (some p.name) p.value (omega arith) (omega arith) refl fs i) x.parameters 0 [] h
    (subst (Pairs P []) (sym none_left) tt))

-- the declarations under a heading
abbrev under-heading : ℕ → List Subsection → List Declaration
under-heading wanted [] = []
under-heading wanted (Inputs ds ∷ ss) = elim (eqb 0 wanted) [ true ↦ ds ++ under-heading wanted ss | false ↦ under-heading wanted ss ]
under-heading wanted (Outputs ds ∷ ss) = elim (eqb 1 wanted) [ true ↦ ds ++ under-heading wanted ss | false ↦ under-heading wanted ss ]
under-heading wanted (Lines p es ∷ ss) = under-heading wanted ss

inputs-under : (ss : List Subsection) → under-heading 0 ss ≡ inputs ss
inputs-under [] = refl
inputs-under (Inputs ds ∷ ss) = ap (ds ++◌) (inputs-under ss)
inputs-under (Outputs ds ∷ ss) = inputs-under ss
inputs-under (Lines p es ∷ ss) = inputs-under ss

outputs-under : (ss : List Subsection) → under-heading 1 ss ≡ outputs ss
outputs-under [] = refl
outputs-under (Inputs ds ∷ ss) = outputs-under ss
outputs-under (Outputs ds ∷ ss) = ap (ds ++◌) (outputs-under ss)
outputs-under (Lines p es ∷ ss) = outputs-under ss

-- P of the declarations of MAIN and of their own entries
abbrev pub InSubsection : (Declaration → ℕ → Type 0) → ℕ → Subsection → Type 0
InSubsection P start (Inputs ds) = EachFrom flat_declaration (λ i m. P m (i + length (flat_declaration m) - 1)) (suc start) ds
InSubsection P start (Outputs ds) = EachFrom flat_declaration (λ i m. P m (i + length (flat_declaration m) - 1)) (suc start) ds
InSubsection P start (Lines p es) = Unit {0}

module _ (P : Declaration → ℕ → Type 0) (wanted : ℕ) (main-heading : wanted < 2) where
  abbrev c : Choice
  c = port_choice wanted

  declaration_chosen : (heading : ℕ) → heading ≡ wanted → (m : Declaration) (fs : List Entry) (i : ℕ)
      → chosen c heading i (flat_declaration m ++ fs) ≡ (i + length (flat_declaration m) - 1) ∷ chosen c heading (i + length (flat_declaration m)) fs
  declaration_chosen heading q (OneSignal n) fs i =
      let p : i ≡ i + 1 - 1 = omega arith in
      let s : suc i ≡ i + 1 = omega arith in
      chosen-take c heading (record { kind = Kind.signal; token = some n; size = 1 }) fs i (omega arith)
      (ap (λ b. b && (leb Kind.signal Kind.signal && leb Kind.signal Kind.typed)) (eq-eqb heading wanted q)) ∙ ap₂ (λ m k. m ∷ chosen c heading k fs) p s
  declaration_chosen heading q (OfWidth n e) fs i =
      own-chosen c heading Kind.bus (some n) e (omega arith) (omega arith) (ap (λ b. b && (leb Kind.signal Kind.bus && leb Kind.bus Kind.typed)) (eq-eqb heading wanted q)) fs i
  declaration_chosen heading q (OfType u n) fs i =
      own-chosen c heading Kind.typed (some n) (Named u) (omega arith) (omega arith) (ap (λ b. b && (leb Kind.signal Kind.typed && leb Kind.typed Kind.typed)) (eq-eqb heading wanted q)) fs i

  section-chosen : (before heading : ℕ) (ds more : List Declaration) (i : ℕ) (rest : List Entry) → EachFrom flat_declaration (λ i m. P m (i + length (flat_declaration m) - 1)) (suc i) ds
      → Pairs P more (chosen c heading (i + length (head heading ++ each flat_declaration ds)) rest) →
      Pairs P (elim (eqb heading wanted) [ true ↦ ds ++ more | false ↦ more ]) (chosen c before i ((head heading ++ each flat_declaration ds) ++ rest))
  section-chosen before heading ds more i rest h g = go (eqb heading wanted) refl
    where
      go : (b : Bool) → eqb heading wanted ≡ b → Pairs P (elim b [ true ↦ ds ++ more | false ↦ more ]) (chosen c before i ((head heading ++ each flat_declaration ds) ++ rest))
      go true e =
          lines-chosen c flat_declaration P heading rest (declaration_chosen heading (eqb-true heading wanted e)) ds (suc i) more h
          (subst (λ k. Pairs P more (chosen c heading k rest)) (omega arith) g)
      go false e =
          subst (Pairs P more) (sym (section_away c before heading i flat_declaration (declaration_away c heading (eqb-false heading wanted e)) ds rest)) g

  main-chosen : (ss : List Subsection) (heading i : ℕ) → EachFrom flat_subsection (InSubsection P) i ss → Pairs P (under-heading wanted ss) (chosen c heading i (each flat_subsection ss))
  main-chosen [] heading i h = tt
  main-chosen (Inputs ds ∷ ss) heading i h = section-chosen heading 0 ds (under-heading wanted ss) i (each flat_subsection ss) h.0 (main-chosen ss 0 (i + length (flat_subsection (Inputs ds))) h.1)
  main-chosen (Outputs ds ∷ ss) heading i h = section-chosen heading 1 ds (under-heading wanted ss) i (each flat_subsection ss) h.0
      (main-chosen ss 1 (i + length (flat_subsection (Outputs ds))) h.1)
  main-chosen (Lines p es ∷ ss) heading i h =
      subst (Pairs P (under-heading wanted ss)) (sym (section_away c heading (2 + part_code p) i flat_line (formula_away c (2 + part_code p) (λ e. omega arith)) es (each flat_subsection ss)))
      (main-chosen ss (2 + part_code p) (i + length (flat_subsection (Lines p es))) h.1)

  parameter-below : (p : Parameter) → All (Passed c no_heading) (flat_parameter p)
  parameter-below p = line-passed c no_heading Kind.parameter (some p.name) p.value (omega arith) (λ m q. low-passed c no_heading m.kind (omega arith) (omega arith))

  definition-below : (d : Definition) → All (Passed c no_heading) (flat_definition d)
  definition-below (Defined n e) = line-passed c no_heading Kind.definition (some n) e (omega arith) (λ m q. low-passed c no_heading m.kind (omega arith) (omega arith))
  definition-below (Enumerated n is) = (
    low-passed c no_heading Kind.enumeration (omega arith) (omega arith),
    all_more (λ m h. low-passed c no_heading m.kind h.1 (omega (arith, h.1)))
        (each flat_identifier is) (identifiers-below is),
  )

  outline-chosen : (x : Spec) → EachFrom flat_subsection (InSubsection P) (main_start x) x.main → Pairs P (under-heading wanted x.main) (chosen c no_heading 0 (outline x))
  outline-chosen x h =
      let qs = each flat_parameter x.parameters in
      let ds = each flat_definition x.definitions in
      let ms = each flat_subsection x.main in
      subst (Pairs P (under-heading wanted x.main))
      (sym (chosen_skip c no_heading qs (ds ++ ms) 0 (all-each (Passed c no_heading) flat_parameter parameter-below x.parameters) ∙ chosen_skip c no_heading ds ms (0 + length qs)
      (all-each (Passed c no_heading) flat_definition definition-below x.definitions) ∙ ap (λ k. chosen c no_heading k ms) (omega arith)))
      (main-chosen x.main no_heading (main_start x) h)

pub inputs-chosen : (P : Declaration → ℕ → Type 0) (x : Spec) → EachFrom flat_subsection (InSubsection P) (main_start x) x.main
    → Pairs P (inputs x.main) (chosen (port_choice 0) no_heading 0 (outline x))
inputs-chosen P x h = subst (λ l. Pairs P l (chosen (port_choice 0) no_heading 0 (outline x))) (inputs-under x.main) (outline-chosen P 0 (omega arith) x h)

pub outputs-chosen : (P : Declaration → ℕ → Type 0) (x : Spec) → EachFrom flat_subsection (InSubsection P) (main_start x) x.main
    → Pairs P (outputs x.main) (chosen (port_choice 1) no_heading 0 (outline x))
outputs-chosen P x h = subst (λ l. Pairs P l (chosen (port_choice 1) no_heading 0 (outline x))) (outputs-under x.main) (outline-chosen P 1 (omega arith) x h)

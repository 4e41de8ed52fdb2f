-- What refusal 7 leaves: no two declared names are the same, in whatever order they are taken.
use Rattle.std.specs.Prelude.{ℕ, max, ◌≡◌, refl, Bool, true, false, List, [], ◌∷◌, ◌++◌, map}
use Rattle.std.proofs.Common.{sym, ◌∙◌, ap, subst, append_assoc}
use Rattle.std.proofs.lemmas.Bool.{false≢true}
use Rattle.std.proofs.lemmas.List.{map-append}
use Rattle.std.proofs.Math.Option.{Option, none, some}
use Rattle.language.specs.Bytes.{same}
use Rattle.language.specs.Tokens.{Token}
use Rattle.language.specs.Tree.{Expr, Definition, Parameter, Declaration, OneSignal, OfWidth, OfType, Subsection, Inputs, Outputs, Lines, Spec}
use Rattle.language.specs.Places.{TextLine, DefinitionLine, parameter_lines, definition_lines, declaration_lines, formula_lines, main_lines, all_lines}
use Rattle.language.specs.Names.{again, doubled, declares, declares_signal, over, nowhere, walk_lines, declared_again}
use Rattle.language.specs.DeclaredNames.{inputs, outputs}
use Rattle.language.specs.Listed.{declared_name}
use Rattle.language.proofs.Laws.Basics.Lists.{All, all_more, all_append, all_left, all_right, all_both, all_swap}
use Rattle.language.proofs.Laws.Basics.Tests.{some_none, same_equal, same_refl}
use Rattle.language.proofs.Laws.Basics.NoPlace.{first-left, first-right, first_in_none}

abbrev pub Apart : Token → Token → Type 0
Apart a b = same a.text b.text ≡ false

abbrev pub Distinct : List Token → Type 0
Distinct [] = Unit {0}
Distinct (n ∷ ns) = All (Apart n) ns × Distinct ns

pub apart_sym : (a b : Token) → Apart a b → Apart b a
apart_sym a b d = other (same b.text a.text) refl
  where
    other : (c : Bool) → same b.text a.text ≡ c → same b.text a.text ≡ false
    other true e = absurd (false≢true (sym d ∙ ap (same a.text) (same_equal b.text a.text e) ∙ same_refl a.text))
    other false e = e

unlike : (b : Bool) (p : ℕ) → ◌≡◌ {A = Option ℕ} (elim b [ true ↦ some p | false ↦ none ]) none → b ≡ false
unlike true p e = absurd (some_none e)
unlike false p e = refl

pub distinct : (ns : List Token) → doubled ns ≡ none → Distinct ns
distinct [] e = tt
distinct (n ∷ ns) e = (
  all_more (λ m h. apart_sym m n (unlike (same m.text n.text) (max m.at n.at) h)) ns (first_in_none _ ns (first-left (again ns n) (doubled ns) e)),
  distinct ns (first-right (again ns n) (doubled ns) e),
)

pub distinct_right : (l m : List Token) → Distinct (l ++ m) → Distinct m
distinct_right [] m h = h
distinct_right (n ∷ l) m h = distinct_right l m h.1

pub distinct_left : (l m : List Token) → Distinct (l ++ m) → Distinct l
distinct_left [] m h = tt
distinct_left (n ∷ l) m h = (all_left (Apart n) l m h.0, distinct_left l m h.1)

-- all of one list are apart from all of the other
abbrev pub Across : List Token → List Token → Type 0
Across l m = All (λ n. All (Apart n) m) l

pub across : (l m : List Token) → Distinct (l ++ m) → Across l m
across [] m h = tt
across (n ∷ l) m h = (all_right (Apart n) l m h.0, across l m h.1)

pub across_sym : (l m : List Token) → Across l m → Across m l
across_sym l m f = all_more (λ n h. all_more (λ k a. apart_sym k n a) l h) m (all_swap Apart l m f)

-- names put in before others from which they are apart
pub distinct_before : (l m : List Token) → Distinct l → Distinct m → Across l m → Distinct (l ++ m)
distinct_before [] m h k f = k
distinct_before (n ∷ l) m h k f = (all_append (Apart n) l m h.0 f.0, distinct_before l m h.1 k f.1)

abbrev pub declared_names : List Declaration → List Token
declared_names ds = map declared_name ds

over-declarations : (ds : List Declaration) (ls : List TextLine) → over declares (declaration_lines ds ls) ≡ declared_names ds ++ over declares ls
over-declarations [] ls = refl
over-declarations (OneSignal x ∷ ds) ls = ap (x ∷◌) (over-declarations ds ls)
over-declarations (OfWidth x e ∷ ds) ls = ap (x ∷◌) (over-declarations ds ls)
over-declarations (OfType u x ∷ ds) ls = ap (x ∷◌) (over-declarations ds ls)

over-formulas : (es : List Expr) (ls : List TextLine) → over declares (formula_lines es ls) ≡ over declares ls
over-formulas [] ls = refl
over-formulas (e ∷ es) ls = over-formulas es ls

-- the names of signals among those that MAIN declares
module _ (P : Token → Type 0) where
  pub signals-among : (ss : List Subsection) → All P (over declares (main_lines ss)) → All P (declared_names (inputs ss)) × All P (declared_names (outputs ss))
  signals-among [] h = (tt, tt)
  signals-among (Inputs ds ∷ ss) h =
      let k = subst (All P) (over-declarations ds (main_lines ss)) h in
      let r = signals-among ss (all_right P (declared_names ds) _ k) in
      (subst (All P) (sym (map-append declared_name ds (inputs ss))) (all_append P (declared_names ds) _ (all_left P (declared_names ds) _ k) r.0), r.1)
  signals-among (Outputs ds ∷ ss) h =
      let k = subst (All P) (over-declarations ds (main_lines ss)) h in
      let r = signals-among ss (all_right P (declared_names ds) _ k) in
      (r.0, subst (All P) (sym (map-append declared_name ds (outputs ss))) (all_append P (declared_names ds) _ (all_left P (declared_names ds) _ k) r.1))
  signals-among (Lines p es ∷ ss) h = signals-among ss (subst (All P) (over-formulas es (main_lines ss)) h)

-- inputs, then outputs
distinct_main : (ss : List Subsection) → Distinct (over declares (main_lines ss)) → Distinct (declared_names (inputs ss) ++ declared_names (outputs ss))
distinct_main [] h = tt
distinct_main (Inputs ds ∷ ss) h =
    let D = declared_names ds in
    let A = declared_names (inputs ss) in
    let B = declared_names (outputs ss) in
    let k = subst Distinct (over-declarations ds (main_lines ss)) h in
    let both : Distinct (A ++ B) = distinct_main ss (distinct_right D _ k) in
    let apart : Across D (A ++ B) = all_more (λ n f. let r = signals-among (Apart n) ss f in all_append (Apart n) A B r.0 r.1) D (across D _ k) in
    subst (λ l. Distinct (l ++ B)) (sym (map-append declared_name ds (inputs ss)))
    (subst Distinct (sym (append_assoc D A B)) (distinct_before D (A ++ B) (distinct_left D _ k) both apart))
distinct_main (Outputs ds ∷ ss) h =
    let D = declared_names ds in
    let A = declared_names (inputs ss) in
    let B = declared_names (outputs ss) in
    let k = subst Distinct (over-declarations ds (main_lines ss)) h in
    let both : Distinct (A ++ B) = distinct_main ss (distinct_right D _ k) in
    let left : Across D A = all_more (λ n f. (signals-among (Apart n) ss f).0) D (across D _ k) in
    let right : Across D B = all_more (λ n f. (signals-among (Apart n) ss f).1) D (across D _ k) in
    subst (λ l. Distinct (A ++ l)) (sym (map-append declared_name ds (outputs ss)))
    (distinct_before A (D ++ B) (distinct_left A B both) (distinct_before D B (distinct_left D _ k) (distinct_right A B both) right)
    (all_both (λ n f g. all_append (Apart n) D B f g) A (across_sym D A left) (across A B both)))
distinct_main (Lines p es ∷ ss) h = distinct_main ss (subst Distinct (over-formulas es (main_lines ss)) h)

-- the lines before MAIN
after_parameters : (ps : List Parameter) (ls : List TextLine) → Distinct (over declares (parameter_lines ps ls)) → Distinct (over declares ls)
after_parameters [] ls h = h
after_parameters (p ∷ ps) ls h = after_parameters ps ls h.1

after_definitions : (ds : List Definition) (ls : List TextLine) → Distinct (over declares (definition_lines ds ls)) → Distinct (over declares ls)
after_definitions [] ls h = h
after_definitions (d ∷ ds) ls h = after_definitions ds ls (distinct_right (declares (DefinitionLine d)) (over declares (definition_lines ds ls)) h)

-- all names of a text that refusal 7 lets pass; those from the definitions on; and its signals
pub distinct_names : (x : Spec) → declared_again x ≡ none → Distinct (over declares (all_lines x))
distinct_names x e = distinct (over declares (all_lines x)) (first-left (doubled (over declares (all_lines x))) (walk_lines nowhere again (over declares_signal (all_lines x)) (all_lines x)) e)

pub distinct_definitions : (x : Spec) → declared_again x ≡ none → Distinct (over declares (definition_lines x.definitions (main_lines x.main)))
distinct_definitions x e = after_parameters x.parameters (definition_lines x.definitions (main_lines x.main)) (distinct_names x e)

pub distinct_signals : (x : Spec) → declared_again x ≡ none → Distinct (declared_names (inputs x.main) ++ declared_names (outputs x.main))
distinct_signals x e = distinct_main x.main (after_definitions x.definitions (main_lines x.main) (distinct_definitions x e))

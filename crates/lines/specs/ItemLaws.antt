-- The items are the entries of the outline; their lines' formulas are those of the sections.
use Rattle.std.specs.Prelude.{ℕ, ◌+◌, List, [], ◌∷◌, ◌++◌, map, ◌≡◌, refl}
use Rattle.std.proofs.Common.{append_assoc, ap, ◌∙◌}
use Rattle.language.specs.Tree.{Expr, Part, part_code, Subsection, Inputs, Outputs, Lines, Spec}
use Rattle.entries.specs.Flat.{Entry, flat, each, flat_parameter, flat_definition, flat_declaration, flat_line, flat_subsection, outline}
use Rattle.lines.specs.Items.{Item, Passed, Heads, Line, entry_of, items_each, line_items, subsection_items, items, Headed}

map-append : {A B : Type 0} (f : A → B) (l m : List A) → map f (l ++ m) ≡ map f l ++ map f m
map-append f [] m = refl
map-append f (a ∷ l) m = ap (λ r. f a ∷ r) (map-append f l m)

passed-entries : (es : List Entry) → map entry_of (map Passed es) ≡ es
passed-entries [] = refl
passed-entries (e ∷ es) = ap (λ r. e ∷ r) (passed-entries es)

each-entries : {A : Type 0} (f : A → List Item) (g : A → List Entry) → ((a : A) → map entry_of (f a) ≡ g a) → (l : List A) → map entry_of (items_each f l) ≡ each g l
each-entries f g h [] = refl
each-entries f g h (a ∷ l) = map-append entry_of (f a) (items_each f l) ∙ cong2 (h a) (each-entries f g h l)
  where
    cong2 : {xs xs' ys ys' : List Entry} → xs ≡ xs' → ys ≡ ys' → xs ++ ys ≡ xs' ++ ys'
    cong2 {xs} {xs'} {ys} {ys'} p q = ap (λ r. r ++ ys) p ∙ ap (λ r. xs' ++ r) q

line-entries : (p : Part) (e : Expr) → map entry_of (line_items p e) ≡ flat_line e
line-entries p e = map-append entry_of (map Passed (flat e)) (Line p e ∷ []) ∙ ap (λ r. r ++ (entry_of (Line p e) ∷ [])) (passed-entries (flat e))

subsection_entries : (s : Subsection) → map entry_of (subsection_items s) ≡ flat_subsection s
subsection_entries (Inputs ds) = ap (λ r. entry_of (Heads 0) ∷ r) (passed-entries (each flat_declaration ds))
subsection_entries (Outputs ds) = ap (λ r. entry_of (Heads 1) ∷ r) (passed-entries (each flat_declaration ds))
subsection_entries (Lines p es) = ap (λ r. entry_of (Heads (2 + part_code p)) ∷ r) (each-entries (line_items p) flat_line (line-entries p) es)

pub items-entries : (x : Spec) → map entry_of (items x) ≡ outline x
items-entries x =
    let ps = each flat_parameter x.parameters in
    let ds = each flat_definition x.definitions in
    map-append entry_of (map Passed (ps ++ ds)) (items_each subsection_items x.main)
    ∙ ap (λ r. r ++ map entry_of (items_each subsection_items x.main)) (passed-entries (ps ++ ds))
    ∙ ap (λ r. (ps ++ ds) ++ r) (each-entries subsection_items flat_subsection subsection_entries x.main)
    ∙ append_assoc ps ds (each flat_subsection x.main)

-- headings
headed_passed : (n : ℕ) (es : List Entry) (is : List Item) → Headed n is → Headed n (map Passed es ++ is)
headed_passed n [] is h = h
headed_passed n (e ∷ es) is h = headed_passed n es is h

-- whatever stands before a heading
abbrev Anew : List Item → Type 0
Anew is = (n : ℕ) → Headed n is

headed_lines : (p : Part) (es : List Expr) (is : List Item) → Anew is → Headed (2 + part_code p) (items_each (line_items p) es ++ is)
headed_lines p [] is h = h (2 + part_code p)
headed_lines p (e ∷ es) is h =
    rw (append_assoc (line_items p e) (items_each (line_items p) es) is) (rw (append_assoc (map Passed (flat e)) (Line p e ∷ []) (items_each (line_items p) es ++ is))
    (headed_passed (2 + part_code p) (flat e) (Line p e ∷ (items_each (line_items p) es ++ is)) (refl, headed_lines p es is h)))

headed_subsection : (s : Subsection) (is : List Item) → Anew is → Anew (subsection_items s ++ is)
headed_subsection (Inputs ds) is h n = headed_passed 0 (each flat_declaration ds) is (h 0)
headed_subsection (Outputs ds) is h n = headed_passed 1 (each flat_declaration ds) is (h 1)
headed_subsection (Lines p es) is h n = headed_lines p es is h

headed_main : (ss : List Subsection) → Anew (items_each subsection_items ss)
headed_main [] n = tt
headed_main (s ∷ ss) n = headed_subsection s (items_each subsection_items ss) (headed_main ss) n

pub items_headed : (x : Spec) (n : ℕ) → Headed n (items x)
items_headed x n = headed_passed n (each flat_parameter x.parameters ++ each flat_definition x.definitions) (items_each subsection_items x.main) (headed_main x.main n)

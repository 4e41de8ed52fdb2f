-- The context that ports, a table and the definitions make fits their world; so does, for the names visible there, the context before some of the definitions.
use Rattle.std.specs.Prelude.{ℕ, suc, ◌+◌, ◌-◌, ◌≤◌, ◌<◌, Bool, true, false, ◌||◌, List, [], ◌∷◌, ◌++◌, map, ◌≡◌, refl, length}
use Rattle.std.proofs.lemmas.Bool.{false≢true}
use Rattle.std.proofs.Math.Option.{some}
use Rattle.std.proofs.Common.{sym, ap, ◌∙◌, subst, arith, length-append}
use Rattle.std.proofs.lemmas.List.{length-map}
use Rattle.node.specs.Result.{Result, Done, Refused, ◌>>=◌}
use Rattle.language.specs.Bytes.{same}
use Rattle.language.specs.Limits.{max_names}
use Rattle.language.specs.Tokens.{Token}
use Rattle.language.specs.Tree.{Expr, Definition, Defined, Enumerated}
use Rattle.language.specs.Names.{Names, visible}
use Rattle.language.specs.Values.{value}
use Rattle.language.specs.DeclaredNames.{Declared, Table, find, Port, value_at}
use Rattle.language.specs.Expansion.{Context, expansion, signal_of, context_of, define, define_all}
use Rattle.language.proofs.Laws.Basics.Lists.{All, all_more}
use Rattle.language.proofs.Laws.Basics.Tests.{split, leave, same_equal}
use Rattle.entries.specs.Kinds as Kind
use Rattle.entries.specs.Flat.{flat, each, flat_definition}
use Rattle.names.specs.References.{number_in, reference}
use Rattle.names.proofs.NumberingLaws.{number_same, number_other}
use Rattle.names.proofs.WalkBinders.{reference-outside}
use Rattle.names.proofs.VisibleLaws.{Among}
use Rattle.name_values.specs.World.{Meaning, Stands, Defines, NoValue, name_value, formed, numbered, World, meaning_at, Before}
use Rattle.name_values.proofs.AgreesLaws.{numbered-last, numbered-before, denote-declared, formula-declared, Fits}
use Rattle.name_values.specs.Worlds.{in_table, behind, meaning, world_of, Elsewhere}
use Rattle.names.proofs.ResolvedLaws.{number-below}

-- the name t stands in the context c for what m means
record Stood (c : Context) (t : Token) (m : Meaning) : Type 0 where
  value : c.values t ≡ name_value m t
  formula : c.formulas t ≡ formed c.ports m t

find_meant : (d : Table) (x : List ℕ) (t : Token) → (find d x >>= λ v. Done (value_at t v)) ≡ name_value (in_table (find d x)) t
unfolding ◌>>=◌
find_meant [] x t = refl
find_meant (e ∷ d) x t = split (λ r. (r >>= λ v. Done (value_at t v)) ≡ name_value (in_table r) t) (same e.0 x) (λ _. refl) (λ _. find_meant d x t)

find-formed : (ps : List Port) (d : Table) (x : List ℕ) (t : Token) → (find d x >>= signal_of ps t) ≡ formed ps (in_table (find d x)) t
unfolding ◌>>=◌
find-formed ps [] x t = refl
find-formed ps (e ∷ d) x t = split (λ r. (r >>= signal_of ps t) ≡ formed ps (in_table r) t) (same e.0 x) (λ _. refl) (λ _. find-formed ps d x t)

-- after a definition
defined_meant : (b : Bool) (c : Context) (k : ℕ) (e : Expr) (t : Token) (m : Meaning) → c.values t ≡ name_value m t
    → elim b [ true ↦ value c.values e | false ↦ c.values t ] ≡ name_value (elim b [ true ↦ Defines k c e | false ↦ m ]) t
defined_meant true c k e t m h = refl
defined_meant false c k e t m h = h

defined_formed : (b : Bool) (c : Context) (k : ℕ) (e : Expr) (t : Token) (m : Meaning) → c.formulas t ≡ formed c.ports m t
    → elim b [ true ↦ expansion c e | false ↦ c.formulas t ] ≡ formed c.ports (elim b [ true ↦ Defines k c e | false ↦ m ]) t
defined_formed true c k e t m h = refl
defined_formed false c k e t m h = h

-- a use t of the name n
define_stood : (c : Context) (x : Token) (e : Expr) (k : ℕ) (n t : Token) (m : Meaning) → n.text ≡ t.text → Stood c t m
    → Stood (define c x e) t (elim (same x.text n.text) [ true ↦ Defines k c e | false ↦ m ])
define_stood c x e k n t m q h =
    subst (λ u. Stood (define c x e) t (elim (same x.text u) [ true ↦ Defines k c e | false ↦ m ])) (sym q)
    (record { value = defined_meant (same x.text t.text) c k e t m h.value; formula = defined_formed (same x.text t.text) c k e t m h.formula })

behind_stood : (ds : List Definition) (c : Context) (start : ℕ) (n t : Token) (m : Meaning) → n.text ≡ t.text → Stood c t m → Stood (define_all c ds) t (behind c start ds n m)
behind_stood [] c start n t m q h = h
behind_stood (Defined x e ∷ ds) c start n t m q h = behind_stood ds (define c x e) (start + length (flat_definition (Defined x e))) n t _ q (define_stood c x e _ n t m q h)
behind_stood (Enumerated x is ∷ ds) c start n t m q h = behind_stood ds c (start + length (flat_definition (Enumerated x is))) n t m q h

meaning_stood : (ps : List Port) (d : Table) (start : ℕ) (defs : List Definition) (n t : Token) → same n.text t.text ≡ true
    → Stood (define_all (context_of ps d) defs) t (meaning ps d start defs n)
meaning_stood ps d start defs n t s =
    let q = same_equal n.text t.text s in
    behind_stood defs (context_of ps d) start n t (in_table (find d n.text)) q
    (subst (λ u. Stood (context_of ps d) t (in_table (find d u))) (sym q) (record { value = find_meant d t.text t; formula = find-formed ps d t.text t }))

-- bodies stand in the definitions' order
before_more : (a b : ℕ) (m : Meaning) → a ≤ b → Before a m → Before b m
before_more a b (Stands v) l h = tt
before_more a b (Defines k c e) l h = omega arith
before_more a b NoValue l h = tt

pub table_before : (limit : ℕ) (r : Result Declared) → Before limit (in_table r)
table_before limit (Done v) = tt
table_before limit (Refused n p) = tt

pub behind-before : (ds : List Definition) (c : Context) (start : ℕ) (n : Token) (m : Meaning) → Before start m → Before (start + length (each flat_definition ds)) (behind c start ds n m)
behind-before [] c start n m h = before_more start (start + 0) m (omega arith) h
behind-before (Defined x e ∷ ds) c start n m h =
    let f = flat_definition (Defined x e) in
    let l = length-append f (each flat_definition ds) in
    let o = length-append (flat e) (record { kind = Kind.definition; token = some x; size = suc (length (flat e)) } ∷ []) in
    let own : Before (start + length f) (elim (same x.text n.text) [ true ↦ Defines (start + length (flat e) - 1) c e | false ↦ m ]) =
    split (Before (start + length f)) (same x.text n.text) (λ _. omega arith) (λ _. before_more start (start + length f) m (omega arith) h) in
    before_more (start + length f + length (each flat_definition ds)) _ (behind c start (Defined x e ∷ ds) n m) (omega arith) (behind-before ds (define c x e) (start + length f) n _ own)
behind-before (Enumerated x is ∷ ds) c start n m h =
    let f = flat_definition (Enumerated x is) in
    let l = length-append f (each flat_definition ds) in
    before_more (start + length f + length (each flat_definition ds)) _ (behind c start (Enumerated x is ∷ ds) n m) (omega arith)
    (behind-before ds c (start + length f) n m (before_more start (start + length f) m (omega arith) h))

-- what holds of all names of a spelling holds of the one that has its number
pub number_held : {A : Type 0} (P : A → Type 0) (other : A) (f : Token → A) (ns : Names) (t : Token) → ((n : Token) → same n.text t.text ≡ true → P (f n)) → visible ns t ≡ true
    → P (numbered other (map f ns) (number_in ns t))
number_held P other f [] t h y = absurd (false≢true y)
number_held P other f (n ∷ ns) t h y = go (same n.text t.text) refl y (number_held P other f ns t h)
  where
    go : (b : Bool) → same n.text t.text ≡ b → (b || visible ns t) ≡ true → (visible ns t ≡ true → P (numbered other (map f ns) (number_in ns t)))
        → P (numbered other (map f (n ∷ ns)) (number_in (n ∷ ns) t))
    go true e y ih = subst P (sym (numbered-last other (f n) (map f ns) _ (number_same n ns t e ∙ sym (length-map ns f)))) (h n e)
    go false e y ih =
        let z = number_other n ns t e in
        let m = length-map ns f in
        let l = number-below ns t y in
        subst P (sym (numbered-before other (f n) (map f ns) _ (omega arith) ∙ ap (numbered other (map f ns)) z)) (ih y)

stood_elsewhere : (ds : List Definition) (c : Context) (t : Token) (m : Meaning) → All (Elsewhere t) ds → Stood (define_all c ds) t m → Stood c t m
stood_elsewhere [] c t m h g = g
stood_elsewhere (Defined x e ∷ ds) c t m h g =
    let f = stood_elsewhere ds (define c x e) t m h.1 g in
    record { value = sym (leave (same x.text t.text) _ _ h.0) ∙ f.value; formula = sym (leave (same x.text t.text) _ _ h.0) ∙ f.formula }
stood_elsewhere (Enumerated x is ∷ ds) c t m h g = stood_elsewhere ds c t m h.1 g

pub defined_then : (c : Context) (ds later : List Definition) → define_all c (ds ++ later) ≡ define_all (define_all c ds) later
defined_then c [] later = refl
defined_then c (Defined x e ∷ ds) later = defined_then (define c x e) ds later
defined_then c (Enumerated x is ∷ ds) later = defined_then c ds later

pub elsewhere_text : (t n : Token) → n.text ≡ t.text → (d : Definition) → Elsewhere t d → Elsewhere n d
elsewhere_text t n q (Defined x e) h = ap (same x.text) q ∙ h
elsewhere_text t n q (Enumerated x is) h = tt

pub behind_elsewhere : (ds : List Definition) (c : Context) (start : ℕ) (n : Token) (m : Meaning) → All (Elsewhere n) ds → behind c start ds n m ≡ m
behind_elsewhere [] c start n m h = refl
behind_elsewhere (Defined x e ∷ ds) c start n m h =
    behind_elsewhere ds (define c x e) (start + length (flat_definition (Defined x e))) n _ h.1 ∙ leave (same x.text n.text) _ _ h.0
behind_elsewhere (Enumerated x is ∷ ds) c start n m h = behind_elsewhere ds c (start + length (flat_definition (Enumerated x is))) n m h.1

-- definitions that define another name, after some
behind_then : (ds later : List Definition) (c : Context) (start : ℕ) (n : Token) (m : Meaning) → All (Elsewhere n) later → behind c start (ds ++ later) n m ≡ behind c start ds n m
behind_then [] later c start n m h = behind_elsewhere later c start n m h
behind_then (Defined x e ∷ ds) later c start n m h = behind_then ds later (define c x e) (start + length (flat_definition (Defined x e))) n _ h
behind_then (Enumerated x is ∷ ds) later c start n m h = behind_then ds later c (start + length (flat_definition (Enumerated x is))) n m h

-- the context after some of the definitions, where the names that the later ones define are not visible; before the first of them too, as parameters are
module _ (ps : List Port) (d : Table) (start : ℕ) (before later : List Definition) (names ns : Names) (limit : ℕ) (few : length names ≤ max_names) (among : Among ns names)
    (apart : (t : Token) → visible ns t ≡ true → All (Elsewhere t) later) (early : (n : Token) → Before limit (meaning ps d start before n)) where
  abbrev W : World
  W = world_of ps d start (before ++ later) names

  below : (t : Token) → visible ns t ≡ true → reference names [] t < max_names
  below t y = let l = number-below names t (among t y) in let z = reference-outside names t in omega arith

  name_at_lem : (P : List ℕ × Meaning → Type 0) (t : Token) → visible ns t ≡ true → ((n : Token) → same n.text t.text ≡ true → P (n.text, meaning ps d start (before ++ later) n))
      → P (numbered ([], NoValue) W (reference names [] t))
  name_at_lem P t y h =
      subst (λ r. P (numbered ([], NoValue) W r)) (sym (reference-outside names t))
      (number_held P ([], NoValue) (λ n. (n.text, meaning ps d start (before ++ later) n)) names t h (among t y))

  stood_at : (t : Token) → visible ns t ≡ true → Stood (define_all (context_of ps d) before) t (meaning_at W (reference names [] t))
  stood_at t y =
      stood_elsewhere later (define_all (context_of ps d) before) t _ (apart t y)
      (subst (λ c. Stood c t (meaning_at W (reference names [] t))) (defined_then (context_of ps d) before later)
      (name_at_lem (λ m. Stood (define_all (context_of ps d) (before ++ later)) t m.1) t y (λ n s. meaning_stood ps d start (before ++ later) n t s)))

  pub fits-between : Fits W limit names [] [] ns (define_all (context_of ps d) before)
  fits-between =
      record {
        deep = refl;
        uses = λ t y. record {
          inside = let l = below t y in omega arith;
          stands = (stood_at t y).value ∙ sym (denote-declared W [] (reference names [] t) t (below t y));
          forms = (stood_at t y).formula ∙ sym (formula-declared (define_all (context_of ps d) before).ports W (reference names [] t) t (below t y));
          spelt = λ l. name_at_lem (λ m. m.0 ≡ t.text) t y (λ n s. same_equal n.text t.text s);
          earlier = λ l.
              name_at_lem (λ m. Before limit m.1) t y
              (λ n s. subst (Before limit) (sym (behind_then before later (context_of ps d) start n _ (all_more (elsewhere_text t n (same_equal n.text t.text s)) later (apart t y)))) (early n));
        };
      }

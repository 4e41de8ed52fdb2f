-- A name that gets its value or its width changes its own note and no other: definitions mean other contexts then, but their notes are the same.
use Rattle.std.specs.Prelude.{ℕ, ◌+◌, ◌-◌, ◌<◌, Bool, true, false, List, [], ◌∷◌, ◌≡◌, refl, eqb, length, get_or, set}
use Rattle.std.proofs.Math.Option.{none}
use Rattle.std.proofs.Common.{sym, ap, ◌∙◌, subst, get_or-set_same, get_or-set_other, eqb-true}
use Rattle.std.proofs.lemmas.Bool.{eqb-false}
use Rattle.language.specs.Bytes.{same}
use Rattle.language.specs.Limits.{max_names}
use Rattle.language.specs.Tokens.{Token}
use Rattle.language.specs.Grammar.{Tokens}
use Rattle.language.specs.Tree.{Expr, Definition, Defined, Enumerated, Spec}
use Rattle.language.specs.Names.{visible, declares, over, declared_again}
use Rattle.language.specs.Places.{all_lines}
use Rattle.language.specs.DeclaredNames.{Declared, Table, Port}
use Rattle.language.specs.Expansion.{Context, context_of, define}
use Rattle.language.proofs.Laws.Basics.Lists.{All, all_more, all_any}
use Rattle.language.proofs.Laws.Basics.Tests.{pick, leave, same_refl, same_equal}
use Rattle.language.proofs.Laws.Values.DistinctNames.{Apart, Distinct, apart_sym, distinct_names}
use Rattle.entries.specs.Flat.{flat, flat_definition}
use Rattle.names.specs.References.{number_in}
use Rattle.names.specs.Resolved.{declared_names}
use Rattle.name_values.specs.World.{Meaning, Stands, Defines, NoValue, meaning_at}
use Rattle.name_values.specs.Worlds.{in_table, behind, meaning, Elsewhere}
use Rattle.name_values.proofs.WorldsLaws.{number_held, elsewhere_text, behind_elsewhere}
use Rattle.name_values.specs.Worked.{definitions_start, world_in}
use Rattle.notes.specs.Notes.{Note, Notes}
use Rattle.notes.specs.NumberedLaws.{numbered-moved, numbered_other, distinct_pushed}

pub names_distinct : (x : Spec) → declared_again x ≡ none → Distinct (declared_names x)
names_distinct x e = distinct_pushed (over declares (all_lines x)) [] (distinct_names x e) tt (all_more (λ n _. tt) (over declares (all_lines x)) (all_any (over declares (all_lines x))))

-- behind definitions, in other contexts
module _ (ts : Tokens) (w : List ℕ) (sort n : ℕ) where
  defined_note : (b : Bool) (k : ℕ) (c c' : Context) (e : Expr) (m m' : Meaning) → (Note ts w sort n m → Note ts w sort n m') → Note ts w sort n (elim b [ true ↦ Defines k c e | false ↦ m ])
      → Note ts w sort n (elim b [ true ↦ Defines k c' e | false ↦ m' ])
  defined_note true k c c' e m m' f h = h
  defined_note false k c c' e m m' f h = f h

  behind_note : (ds : List Definition) (c c' : Context) (start : ℕ) (t : Token) (m m' : Meaning) → (Note ts w sort n m → Note ts w sort n m') → Note ts w sort n (behind c start ds t m)
      → Note ts w sort n (behind c' start ds t m')
  behind_note [] c c' start t m m' f h = f h
  behind_note (Defined x e ∷ ds) c c' start t m m' f h =
      behind_note ds (define c x e) (define c' x e) (start + length (flat_definition (Defined x e))) t _ _
      (defined_note (same x.text t.text) (start + length (flat e) - 1) c c' e m m' f) h
  behind_note (Enumerated x is ∷ ds) c c' start t m m' f h = behind_note ds c c' (start + length (flat_definition (Enumerated x is))) t m m' f h

module _ (x : Spec) (ts : Tokens) (w : List ℕ) where
  abbrev start : ℕ
  start = definitions_start x

  -- other ports change no note
  pub notes_ported : (d : Table) (ps qs : List Port) {sorts numbers : List ℕ} → Notes ts w (world_in x ps d) sorts numbers → Notes ts w (world_in x qs d) sorts numbers
  notes_ported d ps qs {sorts} {numbers} h = record {
    noted = λ r l.
        numbered-moved {A = List ℕ × Meaning} ([], NoValue) (λ a. Note ts w (get_or sorts r 0) (get_or numbers r 0) a.1) (λ n. (n.text, meaning ps d start x.definitions n))
        (λ n. (n.text, meaning qs d start x.definitions n)) r (declared_names x)
        (all_more (λ n _. behind_note ts w _ _ x.definitions (context_of ps d) (context_of qs d) start n _ _ (λ k. k)) (declared_names x) (all_any (declared_names x))) (h.noted r l);
  }

  -- the name t now stands for v
  module _ (t : Token) (once : Distinct (declared_names x)) (here : visible (declared_names x) t ≡ true) (undefined : All (Elsewhere t) x.definitions) (ps : List Port) (d : Table) (v : Declared)
    where
      abbrev d' : Table
      d' = (t.text, v) ∷ d

      abbrev q : ℕ
      q = number_in (declared_names x) t

      other_note : (sort n : ℕ) (m : Token) → Apart m t → Note ts w sort n (meaning ps d start x.definitions m) → Note ts w sort n (meaning ps d' start x.definitions m)
      other_note sort n m a =
          behind_note ts w sort n x.definitions (context_of ps d) (context_of ps d') start m _ _
          (λ h. subst (λ r. Note ts w sort n (in_table r)) (sym (leave (same t.text m.text) _ _ (apart_sym m t a))) h)

      own-meaning : (m : Token) → m.text ≡ t.text → meaning ps d' start x.definitions m ≡ Stands v
      own-meaning m e =
          behind_elsewhere x.definitions (context_of ps d') start m _ (all_more (elsewhere_text t m e) x.definitions undefined)
          ∙ ap in_table (pick (same t.text m.text) _ _ (ap (same t.text) e ∙ same_refl t.text))

      pub notes-turn : (sorts numbers : List ℕ) (sort n : ℕ) → q < length sorts → q < length numbers → Note ts w sort n (Stands v) → Notes ts w (world_in x ps d) sorts numbers
          → Notes ts w (world_in x ps d') (set sorts q sort) (set numbers q n)
      notes-turn sorts numbers sort n a b new h = record { noted = λ r l. go r l (eqb r q) refl }
        where
          go : (r : ℕ) → r < max_names → (c : Bool) → eqb r q ≡ c → Note ts w (get_or (set sorts q sort) r 0) (get_or (set numbers q n) r 0) (meaning_at (world_in x ps d') r)
          go r l true e =
              subst (λ i. Note ts w (get_or (set sorts q sort) i 0) (get_or (set numbers q n) i 0) (meaning_at (world_in x ps d') i)) (sym (eqb-true r q e))
              (subst (λ s. Note ts w s (get_or (set numbers q n) q 0) (meaning_at (world_in x ps d') q)) (sym (get_or-set_same sorts q sort 0 a))
              (subst (λ k. Note ts w sort k (meaning_at (world_in x ps d') q)) (sym (get_or-set_same numbers q n 0 b))
              (number_held {A = List ℕ × Meaning} (λ p. Note ts w sort n p.1) ([], NoValue) (λ m. (m.text, meaning ps d' start x.definitions m)) (declared_names x) t
              (λ m s. subst (Note ts w sort n) (sym (own-meaning m (same_equal m.text t.text s))) new) here)))
          go r l false e =
              let c = eqb-false r q e in
              subst (λ s. Note ts w s (get_or (set numbers q n) r 0) (meaning_at (world_in x ps d') r)) (sym (get_or-set_other sorts q r sort 0 c))
              (subst (λ k. Note ts w (get_or sorts r 0) k (meaning_at (world_in x ps d') r)) (sym (get_or-set_other numbers q r n 0 c))
              (numbered_other {A = List ℕ × Meaning} ([], NoValue) (λ p. Note ts w (get_or sorts r 0) (get_or numbers r 0) p.1) (λ m. (m.text, meaning ps d start x.definitions m))
              (λ m. (m.text, meaning ps d' start x.definitions m)) r (declared_names x) t once here c
              (λ m f. other_note (get_or sorts r 0) (get_or numbers r 0) m f) (h.noted r l)))

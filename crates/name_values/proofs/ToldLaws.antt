-- What is told of every entry that declares a name: of the other entries of a line there is nothing to tell, and those of MAIN are its inputs, its outputs and formulas.
use Rattle.std.specs.Prelude.{ℕ, suc, ◌+◌, true, List, [], ◌∷◌, ◌≡◌, refl, length}
use Rattle.std.proofs.lemmas.Bool.{false≢true}
use Rattle.std.proofs.Math.Option.{Option, none}
use Rattle.std.proofs.Common.{sym, ◌∙◌}
use Rattle.language.specs.Tokens.{Token}
use Rattle.language.specs.Tree.{Expr, Declaration, Subsection, Inputs, Outputs, Lines}
use Rattle.language.specs.DeclaredNames.{inputs, outputs}
use Rattle.language.proofs.Laws.Basics.Lists.{All, Any, all_any, all_more, all_left, all_right}
use Rattle.entries.specs.Kinds as Kind
use Rattle.entries.specs.Flat.{Entry, under, leaf, flat, each, flat_declaration, flat_line, flat_subsection}
use Rattle.names.specs.Roles.{declares}
use Rattle.names.specs.Declaring.{Inner, inner-flat}
use Rattle.name_values.proofs.Entrywise.{Every, every_append, every-each, every-all}

pub words-inner : (ws : List Token) → All Inner (each (leaf Kind.word) ws)
words-inner [] = tt
words-inner (v ∷ ws) = (refl, words-inner ws)

module _ (P : ℕ → Entry → Type 0) where
  abbrev pub Told : ℕ → Entry → Type 0
  Told k n = declares Kind.parameter n.kind ≡ true → P k n

  inner-told : (es : List Entry) → All Inner es → (start : ℕ) → Every Told start es
  inner-told es h start = every-all Told es (all_more (λ n f k y. absurd (false≢true (sym f ∙ y))) es h) start

  pub words-told : (ws : List Token) (start : ℕ) → Every Told start (each (leaf Kind.word) ws)
  words-told ws start = inner-told (each (leaf Kind.word) ws) (words-inner ws) start

  -- a line's entry after its expression
  pub line-told : (k : ℕ) (t : Option Token) (e : Expr) (start : ℕ) → Told (start + length (flat e)) (record { kind = k; token = t; size = suc (length (flat e)) }) → Every Told start (under k t (flat e))
  line-told k t e start h = every_append Told start (start + length (flat e)) (flat e) _ refl (inner-told (flat e) (inner-flat e) start) (h, tt)

  line-inner : (e : Expr) (start : ℕ) → Every Told start (flat_line e)
  line-inner e start = line-told Kind.line none e start (λ y. absurd (false≢true y))

  -- MAIN, where Q is what the declarations ask for
  module _ (Q : Declaration → Type 0) (declaration_told : (m : Declaration) → Q m → (start : ℕ) → Every Told start (flat_declaration m)) where
    pub main-told : (ss : List Subsection) → All Q (inputs ss) → All Q (outputs ss) → (start : ℕ) → Every Told start (each flat_subsection ss)
    main-told [] i o start = tt
    main-told (Inputs ds ∷ ss) i o start = (
      (λ y. absurd (false≢true y)),
      every_append Told (suc start) _ (each flat_declaration ds) (each flat_subsection ss) refl
          (every-each Told flat_declaration Q declaration_told ds (all_left Q ds (inputs ss) i) (suc start)) (main-told ss (all_right Q ds (inputs ss) i) o _),
    )
    main-told (Outputs ds ∷ ss) i o start = (
      (λ y. absurd (false≢true y)),
      every_append Told (suc start) _ (each flat_declaration ds) (each flat_subsection ss) refl
          (every-each Told flat_declaration Q declaration_told ds (all_left Q ds (outputs ss) o) (suc start)) (main-told ss i (all_right Q ds (outputs ss) o) _),
    )
    main-told (Lines p es ∷ ss) i o start = (
      (λ y. absurd (false≢true y)),
      every_append Told (suc start) _ (each flat_line es) (each flat_subsection ss) refl (every-each Told flat_line Any (λ e _. line-inner e) es (all_any es) (suc start)) (main-told ss i o _),
    )

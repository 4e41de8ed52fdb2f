-- The lines gathered are those of the definition: the implied lines' formulas, and the expansion of a text where its lines are put together.
use Rattle.std.specs.Prelude.{ℕ, Bool, true, false, ◌≡◌, refl, List, [], ◌∷◌, ◌++◌, map}
use Rattle.std.proofs.Common.{sym, ap, ◌∙◌, subst, append_assoc, append-nil}
use Rattle.node.specs.Ltl.{Formula}
use Rattle.node.specs.Result.{Result, Done, Refused, ◌>>=◌}
use Rattle.node.proofs.ResultLaws.{not_done}
use Rattle.language.specs.Tree.{Part, Require, Assert, Spec}
use Rattle.language.specs.DeclaredNames.{Port, Declarations}
use Rattle.language.specs.Lines.{Line, leaves_unnamed, implied}
use Rattle.language.specs.Expansion.{Context, Sections, gather, one_of, at_signals, define_all, expand_line, expand_section, section, whole, expand}
use Rattle.writing.specs.Writing.{Wrote}
use Rattle.assembly.specs.Gathered.{in_turn, lines_in_turn, Gathered}
use Rattle.assembly.specs.Implied.{implied_formulas}
use Rattle.assembly.specs.Layout.{Assembles}

gather-implied : (c : Context) (ps : List Port) → gather (expand_line c) (implied ps) ≡ Done (implied_formulas c.ports ps)
unfolding ◌>>=◌
gather-implied c [] = refl
gather-implied c (p ∷ ps) = go (leaves_unnamed p.words) (gather-implied c ps)
  where
    go : (b : Bool) → gather (expand_line c) (implied ps) ≡ Done (implied_formulas c.ports ps)
        → gather (expand_line c) (elim b [ true ↦ Line.Implied p ∷ implied ps | false ↦ implied ps ])
        ≡ Done (elim b [ true ↦ one_of c.ports p.name.text p.words ∷ implied_formulas c.ports ps | false ↦ implied_formulas c.ports ps ])
    go true e = rw e
    go false e = e

-- the sections behind the written ones are never refused
pub implied-sections : (c : Context) (inputs outputs : List Port)
    → gather (expand_section c) ((Require, implied inputs) ∷ (Assert, implied outputs) ∷ [])
    ≡ Done ((Require, implied_formulas c.ports inputs) ∷ (Assert, implied_formulas c.ports outputs) ∷ [])
unfolding ◌>>=◌
implied-sections c inputs outputs = rw (gather-implied c inputs, gather-implied c outputs)

-- and their lines go behind the written ones
pub implied-behind : (c : Context) (ls : List (Part × Formula)) (inputs outputs : List Port)
    → (gather (expand_section c) ((Require, implied inputs) ∷ (Assert, implied outputs) ∷ []) >>= λ ss. Done (ls ++ in_turn ss))
    ≡ Done ((ls ++ map (λ f. (Require, f)) (implied_formulas c.ports inputs)) ++ map (λ f. (Assert, f)) (implied_formulas c.ports outputs))
unfolding ◌>>=◌
implied-behind c ls inputs outputs =
    let fs : List (Part × Formula) = map (λ f. (Require, f)) (implied_formulas c.ports inputs) in
    let gs : List (Part × Formula) = map (λ f. (Assert, f)) (implied_formulas c.ports outputs) in
    ap (λ (r : Result Sections). r >>= λ ss. Done (ls ++ in_turn ss)) (implied-sections c inputs outputs)
    ∙ ap (λ (ms : List (Part × Formula)). Done (ls ++ (fs ++ ms))) (append-nil gs)
    ∙ ap Done (sym (append_assoc ls fs gs))

-- an expansion is a formula, and its nodes are written from the table's start up to n
pub record Expands (r : Result Formula) (out out' : List ℕ) (n : ℕ) : Type 0 where
  pub formula : Formula
  pub is : r ≡ Done formula
  pub wrote : Wrote formula out out' 0 n

module _ (x : Spec) (d : Declarations) (lines : List (Part × List Line)) where
  -- lines put together are the expansion
  pub expands : {ls : List (Part × Formula)} {words table out out' : List ℕ} {count m r : ℕ} → lines_in_turn x d lines ≡ Done ls → Gathered ls words count table m
      → Assembles x.strict words count table m out out' r → Expands (expand x d lines) out out' r
  unfolding ◌>>=◌
  expands {ls} {words} {table} {out} {out'} {count} {m} {r} e g a = go (gather (expand_section (define_all (at_signals d) x.definitions)) lines) e
    where
      go : (s : Result Sections) → (s >>= λ ss. Done (in_turn ss)) ≡ Done ls → Expands (s >>= λ ss. Done (whole x.strict (section ss))) out out' r
      go (Done ss) e = let same : ls ≡ in_turn ss = cc in record { formula = whole x.strict (section ss); is = refl; wrote = a ss (subst (λ l. Gathered l words count table m) same g) }
      go (Refused n p) e = absurd (not_done e)

  -- and a line that is refused refuses the expansion
  pub expand-refused : {n p : ℕ} → lines_in_turn x d lines ≡ Refused n p → expand x d lines ≡ Refused n p
  unfolding ◌>>=◌
  expand-refused {n} {p} e = go (gather (expand_section (define_all (at_signals d) x.definitions)) lines) e
    where
      go : (s : Result Sections) → (s >>= λ ss. Done (in_turn ss)) ≡ Refused n p → (s >>= λ ss. Done (whole x.strict (section ss))) ≡ Refused n p
      go (Done ss) e = absurd (not_done (sym e))
      go (Refused n p) e = cc

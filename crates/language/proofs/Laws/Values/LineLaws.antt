-- What holds of every line of a text's sections: of the written ones, and of those that ports imply.
use Rattle.std.specs.Prelude.{List, [], ◌∷◌}
use Rattle.language.specs.Tree.{Expr, Part, Subsection, Inputs, Outputs, Lines}
use Rattle.language.specs.DeclaredNames.{Port}
use Rattle.language.specs.Lines.{Line, Written, Implied, leaves_unnamed, implied, written_lines}
use Rattle.language.proofs.Laws.Basics.Lists.{All, all_map}
use Rattle.language.proofs.Laws.Basics.Tests.{split}

module _ (Q : Line → Type 0) where
  abbrev pub SectionAll : Part × List Line → Type 0
  SectionAll s = All Q s.1

  pub implied-all : (R : Port → Type 0) → ((p : Port) → R p → Q (Implied p)) → (ps : List Port) → All R ps → All Q (implied ps)
  implied-all R f [] h = tt
  implied-all R f (p ∷ ps) h =
      let rest = implied-all R f ps h.1 in
      split (All Q) (leaves_unnamed p.words) (λ _. (f p h.0, rest)) (λ _. rest)

  pub written_all : (S : Subsection → Type 0) → ((p : Part) (es : List Expr) → S (Lines p es) → All (λ e. Q (Written e)) es) →
      (ss : List Subsection) (rest : List (Part × List Line)) → All S ss → All SectionAll rest → All SectionAll (written_lines ss rest)
  written_all S f [] rest h k = k
  written_all S f (Inputs ds ∷ ss) rest h k = written_all S f ss rest h.1 k
  written_all S f (Outputs ds ∷ ss) rest h k = written_all S f ss rest h.1 k
  written_all S f (Lines p es ∷ ss) rest h k = (all_map (λ e. Q (Written e)) Q Written (λ e q. q) es (f p es h.0), written_all S f ss rest h.1 k)

-- What all lines gathered say of the text's expansion.
use Rattle.std.specs.Prelude.{ℕ, List, ◌≡◌, Ok, Err}
use Rattle.std.proofs.Common.{subst}
use Rattle.node.specs.Ltl.{Formula}
use Rattle.node.specs.Result.{Done, Refused}
use Rattle.node.proofs.ResultLaws.{bind_done, bind_to}
use Rattle.node.specs.Returned.{Returned}
use Rattle.node.specs.declared.Refusal.{Refusal}
use Rattle.assembly.specs.declared.implied.Ends.{Ends}
use Rattle.language.specs.Tree.{Part, Spec}
use Rattle.language.specs.DeclaredNames.{Declarations}
use Rattle.language.specs.Lines.{Line, lines}
use Rattle.language.specs.Expansion.{gather, define_all, at_signals, expand_section, section, whole, expand}
use Rattle.operands.specs.Working.{Source}
use Rattle.assembly.specs.Gathered.{in_turn, GatheredFrom, SomeGathered, lines_in_turn}
use Rattle.assembly.specs.Layout.{Assembles}
use Rattle.assembly.specs.ExpandLaws.{Expands, expands, expand-refused}
use Rattle.assembly.specs.declared.implied.Ports.{Ports}
use Rattle.lines.specs.Gathering.{Buffers, Answered}
use Rattle.lines.specs.Whole.{Given, SomeGiven, Gathers}
use Rattle.lines.specs.declared.Plan.{Plan}

-- lines that have formulas make an expansion
expansion_of : (x : Spec) (d : Declarations) (ls : List (Part × List Line)) {fs : List (Part × Formula)} → lines_in_turn x d ls ≡ Done fs → (f : Formula) × (expand x d ls ≡ Done f)
expansion_of x d ls e =
    let b = bind_done (gather (expand_section (define_all (at_signals d) x.definitions)) ls) (λ ss. Done (in_turn ss)) e in
    (whole x.strict (section b.0), bind_to _ _ (λ ss. Done (whole x.strict (section ss))) b.1)

module _ {s : Source} {b : Buffers} {table' words' : List ℕ} {ports : Ports} {plan : Plan} {r : Returned Ends} (g : Gathers s b table' words' ports plan r) where
  answer-is : {a : Returned Ends} → r ≡ a → {x : Spec} {d : Declarations} → Given s b ports plan x d → Answered (λ n m all. GatheredFrom plan.start all words' n table' m) a (lines_in_turn x d (lines x d))
  answer-is e {x} {d} h = subst (λ a. Answered (λ n m all. GatheredFrom plan.start all words' n table' m) a (lines_in_turn x d (lines x d))) e (g.says h)

  -- a refusal is that of the expansion
  pub expansion-refused : {f : Refusal} → r ≡ Err f → {x : Spec} {d : Declarations} → Given s b ports plan x d → expand x d (lines x d) ≡ Refused f.number f.place
  expansion-refused e {x} {d} h = expand-refused x d (lines x d) (answer-is e h).says

  module _ {n m : ℕ} (e : r ≡ Ok (record { at = m; count = n })) where
    -- otherwise there is an expansion
    pub expansion-is : {x : Spec} {d : Declarations} → Given s b ports plan x d → (f : Formula) × (expand x d (lines x d) ≡ Done f)
    expansion-is {x} {d} h = expansion_of x d (lines x d) (answer-is e h).says.are

    -- and where the lines stand from the table's start, they may be put together to it
    module _ (start : plan.start ≡ 0) where
      pub some-gathered : SomeGiven s b ports plan → SomeGathered words' n table' m
      some-gathered t = let f = (answer-is e t.given).says in record { some = f.all; gathered = subst (λ k. GatheredFrom k f.all words' n table' m) start f.told }

      pub expansion-assembled : {x : Spec} {d : Declarations} → Given s b ports plan x d → {out out' : List ℕ} {k : ℕ} → Assembles x.strict words' n table' m out out' k
          → Expands (expand x d (lines x d)) out out' k
      expansion-assembled {x} {d} h a =
          let f = (answer-is e h).says in
          expands x d (lines x d) f.are (subst (λ k. GatheredFrom k f.all words' n table' m) start f.told) a

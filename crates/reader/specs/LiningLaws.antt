-- The lines of a text whose names are worked out: gathered they are complete, or refused as the definition refuses them.
use Rattle.std.specs.Prelude.{ℕ, ◌≤◌, List, ◌≡◌, length, Err, Ok}
use Rattle.std.proofs.Common.{sym, subst}
use Rattle.node.specs.Limits.{max_nodes}
use Rattle.node.specs.Returned.{Returned}
use Rattle.node.specs.declared.Refusal.{Refusal}
use Rattle.assembly.specs.declared.implied.Ends.{Ends}
use Rattle.language.specs.Tree.{Spec}
use Rattle.language.specs.DeclaredNames.{Declarations}
use Rattle.language.specs.Lines.{lines}
use Rattle.language.specs.Reading.{delivered}
use Rattle.operands.specs.Working.{source}
use Rattle.assembly.specs.Gathered.{GatheredFrom, lines_in_turn}
use Rattle.assembly.specs.ExpandLaws.{expand-refused}
use Rattle.lines.specs.Gathering as Walk
use Rattle.lines.specs.Gathering.{buffers, Sizes, Formulas}
use Rattle.lines.specs.Whole.{Given, SomeGiven, Gathers}
use Rattle.ending.proofs.EndingsLaws.{line_refused}
use Rattle.ending.proofs.HandsLaws.{hands_refused}
use Rattle.ending.specs.Listing.{start_of}
use Rattle.ending.specs.Finishing.{Complete, SomeComplete}
use Rattle.reader.specs.declared.expansion.Named.{Named}
use Rattle.reader.specs.declared.expansion.Counted.{Counted}
use Rattle.reader.specs.Counting.{Finishes}
use Rattle.reader.specs.CountingLaws.{finishes_refused}
use Rattle.reader.specs.Lining.{plan_at, Ready, SomeReady, Sized}

pub sizes : {text w refs memory words : List ℕ} {a : Named} → Sized w refs memory a → max_nodes ≤ length words → Sizes (source text w refs) memory words a.entries
sizes z l = record { work = z.work_room; refs = z.refs_room; room = z.room; most = z.most; lines = l }

-- the lines, from `at` on
module _ {text w refs memory table : List ℕ} {a : Named} {words : List ℕ} {at : ℕ} (starts : at ≡ start_of a.listed) where
  given-at : {x : Spec} {d : Declarations} → Ready text w refs memory table a x d → Given (source text w refs) (buffers memory table words) a.ports (plan_at a at) x d
  given-at {x} {d} h = subst (λ (i : ℕ). Given (source text w refs) (buffers memory table words) a.ports (plan_at a i) x d) (sym starts) (h.given words)

  pub some_given : SomeReady text w refs memory table a → SomeGiven (source text w refs) (buffers memory table words) a.ports (plan_at a at)
  some_given h = record { x = h.x; d = h.d; given = given-at h.ready }

  module _ {table' words' : List ℕ} {r : Returned Ends} (g : Gathers (source text w refs) (buffers memory table words) table' words' a.ports (plan_at a at) r) where
    module _ {x : Spec} {d : Declarations} (h : Ready text w refs memory table a x d) where
      told : Walk.Says (λ n m all. GatheredFrom at all words' n table' m) r (lines_in_turn x d (lines x d))
      told = (g.says (given-at h)).says

      pub lines-complete : {count end : ℕ} → r ≡ Ok (record { at = end; count = count }) → Complete a.facts a.listed words' count table' end a.list x d
      lines-complete {count} {end} e =
          let t : Formulas (λ all. GatheredFrom at all words' count table' end) (lines_in_turn x d (lines x d)) =
          subst (λ i. Walk.Says (λ n m all. GatheredFrom at all words' n table' m) i (lines_in_turn x d (lines x d))) e told in
          record { facts = h.facts; listing = h.listing; all = t.all; turned = t.are; gathered = subst (λ i. GatheredFrom i t.all words' count table' end) starts t.told }

      pub lines-refused : {u : Refusal} {t : Counted} (nodes signals : List ℕ) → r ≡ Err u → t.answer ≡ Err u → Finishes x d nodes signals nodes signals t
      lines-refused nodes signals e q =
          finishes_refused q (hands_refused nodes signals (line_refused (delivered (length nodes) (length signals)) x d (expand-refused x d (lines x d)
          (subst (λ i. Walk.Says (λ n m all. GatheredFrom at all words' n table' m) i (lines_in_turn x d (lines x d))) e told))))

    pub some-complete : {count end : ℕ} → SomeReady text w refs memory table a → r ≡ Ok (record { at = end; count = count }) → SomeComplete a.facts a.listed words' count table' end a.list
    some-complete h e = record { x = h.x; d = h.d; gathers = lines-complete h.ready e }

-- 15 behind all lines, then what is handed over: the formula, or the formula converted where the models differ.
use Rattle.std.specs.Prelude.{ℕ, List, ◌≡◌, length}
use Rattle.node.specs.Ltl.{Formula}
use Rattle.node.specs.Result.{Done, ◌>>=◌}
use Rattle.node.specs.Answer.{Answer}
use Rattle.language.specs.Tree.{Part, Spec}
use Rattle.language.specs.DeclaredNames.{Declarations}
use Rattle.language.specs.Lines.{lines}
use Rattle.language.specs.Expansion.{expand}
use Rattle.language.specs.Reading.{delivered}
use Rattle.parser.specs.declared.Facts.{Facts}
use Rattle.parser.specs.Outlines.{facts_of}
use Rattle.ports.specs.Signals.{Signals}
use Rattle.assembly.specs.Gathered.{GatheredFrom, lines_in_turn}
use Rattle.ending.specs.Endings.{ended}
use Rattle.ending.specs.Listing.{start_of, Listing}
use Rattle.ending.specs.Hands.{Hands}

-- all lines of the text x are worked out and gathered, by what it declares
pub record Complete (f : Facts) (s : Signals) (words : List ℕ) (count : ℕ) (table : List ℕ) (at : ℕ) (list : List ℕ) (x : Spec) (d : Declarations) : Type 0 where
  pub facts : f ≡ facts_of x
  pub listing : Listing s d list
  pub all : List (Part × Formula)
  pub turned : lines_in_turn x d (lines x d) ≡ Done all
  pub gathered : GatheredFrom (start_of s) all words count table at

pub record SomeComplete (f : Facts) (s : Signals) (words : List ℕ) (count : ℕ) (table : List ℕ) (at : ℕ) (list : List ℕ) : Type 0 where
  pub x : Spec
  pub d : Declarations
  pub gathers : Complete f s words count table at list x d

-- the answer on a text, its declarations given
abbrev pub Finishes : Spec → Declarations → (nodes signals nodes' signals' : List ℕ) → Answer → Type 0
Finishes x d nodes signals nodes' signals' r = Hands ((expand x d (lines x d) >>= ended x d) >>= delivered (length nodes) (length signals)) nodes signals nodes' signals' r

-- What INFO says, handed back beside the answer: of every text that 1 to 10 do not refuse, also where a later refusal stands. And how many lines the sections have that
-- promise something: of every text that is accepted.
use Rattle.std.specs.Prelude.{ℕ, ◌≤◌, List, ◌≡◌, length, Ok}
use Rattle.node.specs.Result.{Done}
use Rattle.language.specs.Limits.{work_bytes}
use Rattle.language.specs.Tree.{Spec}
use Rattle.language.specs.Parsing.{parsed}
use Rattle.language.specs.DeclaredNames.{Declarations, declarations}
use Rattle.claim.specs.Reads.{Reads}
use Rattle.parser.specs.declared.Facts.{Facts}
use Rattle.parser.specs.Outlines.{facts_of}
use Rattle.line_counts.specs.declared.LineCounts.{LineCounts}
use Rattle.line_counts.specs.Promise.{CountsOf}
use Rattle.reader.specs.declared.Told.{Told}

-- what INFO says, if the text has a tree
abbrev pub Informed : List ℕ → Facts → Type 0
Informed text f = (x : Spec) → parsed text ≡ Done x → f ≡ facts_of x

-- how many lines its sections have that promise something
abbrev pub TextCounts : List ℕ → LineCounts → Type 0
TextCounts text k = (x : Spec) (d : Declarations) → parsed text ≡ Done x → declarations x ≡ Done d → CountsOf x d k

-- the reader's answer, with what INFO says unless 17 stands, and how many lines the sections of an accepted text have
pub record ReadsTold (text work nodes signals work' nodes' signals' : List ℕ) (r : Told) : Type 0 where
  pub reads : Reads text work nodes signals work' nodes' signals' r.answer
  pub facts : work_bytes ≤ length work → Informed text r.facts
  pub lines : (n s : ℕ) → r.answer ≡ Ok (n, s) → TextCounts text r.lines

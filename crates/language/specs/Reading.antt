-- The reader's whole answer on a text and its buffers' lengths, in the paper's order of refusals (document 01, 'Reader order').
use Rattle.std.specs.Prelude.{ℕ, List, ◌++◌, ◌&&◌, leb, length, drop}
use Rattle.basics.specs.Clearing.{cleared}
use Rattle.node.specs.Limits.{max_nodes}
use Rattle.node.specs.Ltl.{Formula}
use Rattle.node.specs.Result.{Result, Done, Refused, ◌>>=◌, guard, Counts}
use Rattle.node.specs.Written.{nodes_of, count}
use Rattle.language.specs.Limits.{work_bytes}
use Rattle.language.specs.Bytes.{if◌then◌otherwise◌}
use Rattle.language.specs.Tree.{Spec}
use Rattle.language.specs.Places.{refuse_at}
use Rattle.language.specs.Parsing.{parsed}
use Rattle.language.specs.DeclaredNames.{declarations}
use Rattle.language.specs.Numbering.{in_order, signal_list, too_many_signals}
use Rattle.language.specs.Lines.{lines}
use Rattle.language.specs.Expansion.{expand}
use Rattle.language.specs.Shifting.{adapted}

-- what an accepted text gives: its formula and its signal list
pub record NumberedFormula : Type 0 where
  pub formula : Formula
  pub signals : List ℕ

-- refusals 11 to 13 as evaluation meets them; then 15, and 16 by the converted formula's nodes
unfoldable pub spec_expansion : Spec → Result NumberedFormula
spec_expansion x =
    declarations x >>= λ d. expand x d (lines x d) >>= λ f.
    let list = signal_list (in_order d) in
    let g = adapted x.semantics x.target list f in
    refuse_at 15 (too_many_signals 0 (in_order d)) (guard (leb (count g) max_nodes) 16 0 (Done (record { formula = g; signals = list })))

-- what the text alone decides
unfoldable pub text_expansion : List ℕ → Result NumberedFormula
text_expansion text = parsed text >>= spec_expansion

-- 18: 'result buffer short', either of them; the numbers are the buffers' lengths
abbrev pub delivered : (nodes signals : ℕ) → NumberedFormula → Result NumberedFormula
delivered nodes signals c = guard (leb (count c.formula) nodes && leb (length c.signals) signals) 18 0 (Done c)

-- 'Reader order: 17, then 1 to 10 .. 16, 18'; the buffers' lengths are those of work, nodes and signals
unfoldable pub reading : List ℕ → ℕ → ℕ → ℕ → Result NumberedFormula
reading text work nodes signals = guard (leb work_bytes work) 17 0 (text_expansion text >>= delivered nodes signals)

-- 'accepted with its counts'
abbrev pub counts : NumberedFormula → Counts
counts c = record { nodes = count c.formula; signals = length c.signals }

-- the result buffers: 'entries past an accepted result are unchanged', and a refused call changes none
abbrev pub nodes_after : Result NumberedFormula → List ℕ → List ℕ
nodes_after (Done c) nodes = nodes_of c.formula ++ drop (count c.formula) nodes
nodes_after (Refused n p) nodes = nodes

abbrev pub signals_after : Result NumberedFormula → List ℕ → List ℕ
signals_after (Done c) signals = c.signals ++ drop (length c.signals) signals
signals_after (Refused n p) signals = signals

-- the work buffer: 'its first 65,536 bytes are zero after every answer, untouched by 17, and bytes beyond are never touched'
unfoldable pub work_after : List ℕ → List ℕ
work_after work = if leb work_bytes (length work) then cleared work_bytes work otherwise work

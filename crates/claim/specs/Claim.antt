-- Demand 3, one claim from a text's bytes to the nodes left in the lent buffers: the text's own meaning in a word over its declared signals, and the root of the
-- nodes in that word numbered by the lent signal list, hold at exactly the same positions, for the reader's nodes and for each form that fits; no node that the
-- form forbids occurs; and no numbered word is left out. Laws in ClaimLaws.
use Rattle.std.specs.Prelude.{ℕ, ◌-◌, ◌≤◌, ◌<◌, ◌≡◌, ◌↔◌, List, ◌++◌, leb, length, take}
use Rattle.node.specs.Limits.{max_nodes}
use Rattle.node.specs.Ltl.{Word as NodeWord}
use Rattle.node.specs.Result.{Done, guard, Counts}
use Rattle.node.specs.Table.{tree_at, NodeHolds}
use Rattle.node.specs.Postorder.{SignalsBelow}
use Rattle.node.specs.Written.{nodes_of, count}
use Rattle.forms.specs.Forms.{form}
use Rattle.forms.specs.Forbidden.{forbidden}
use Rattle.rewriter.specs.Rewriting.{rewriting, rewritten}
use Rattle.language.specs.Tree.{Spec}
use Rattle.language.specs.Parsing.{parsed}
use Rattle.language.specs.Meaning.{Word, TextMeans}
use Rattle.language.specs.Numbered.{numbered}
use Rattle.language.specs.Listed.{Once, ListedAs}
use Rattle.language.specs.Reading.{NumberedFormula, counts}

-- the nodes that stand in a buffer, n of them: their root, the last, holds where the text does, signal k being what entry k of the signal list names
abbrev pub Says : List ℕ → List ℕ → List ℕ → ℕ → Type 0
Says text list nodes n = (w : Word) (t : ℕ) → TextMeans text w t ↔ NodeHolds nodes (n - 1) (numbered text list w) t

-- a word over the declared signals that gives a numbered word, as far as the list goes
pub record Gives (text list : List ℕ) (u : NodeWord) : Type 0 where
  pub word : Word
  pub same : (t k : ℕ) → k < length list → numbered text list word t k ≡ u t k

-- 'Demand 3 compares, at every t, the text's meaning with the root left in the lent buffer': what stands in the two lent buffers, of a text and a form, n nodes and
-- s signals being told
pub record Demand3 (text : List ℕ) (number : ℕ) (nodes signals : List ℕ) (n s : ℕ) : Type 0 where
  -- in every word over the declared signals, at every position, the root holds exactly where the text does
  pub means : Says text (take s signals) nodes n
  -- no node that the form forbids
  pub clean : forbidden number (take n nodes) ≡ 0
  -- every number in the nodes is that of an entry, and every word over these numbers comes from one over the declared signals
  pub below : SignalsBelow s (tree_at nodes (n - 1))
  pub words : (u : NodeWord) → Gives text (take s signals) u
  -- two entries name the same signal only if they are one; the entries of the declared names follow each other from 0 on, inputs first, and there are no others
  pub once : Once text (take s signals)
  pub listed : (x : Spec) → parsed text ≡ Done x → ListedAs x (take s signals)

-- demand 3 of an accepted text
pub record Claim (text : List ℕ) (c : NumberedFormula) : Type 0 where
  -- what the reader leaves, whatever stands after it
  pub reader : (rest others : List ℕ) → Demand3 text 0 (nodes_of c.formula ++ rest) (c.signals ++ others) (count c.formula) (length c.signals)
  -- what the rewriter leaves, given the reader's nodes and a form
  pub rewriter : (number : ℕ) (out others : List ℕ) (k : Counts) → rewriting number (nodes_of c.formula) (length out) ≡ Done k
      → Demand3 text number (rewritten number (nodes_of c.formula) out) (c.signals ++ others) k.nodes (length c.signals)
  -- 'A form fits if its definition gives at most 8,192 nodes; then only 18 refuses it'
  pub fits : (number : ℕ) → number ≤ 2 → (room : ℕ) → count (form number c.formula) ≤ max_nodes
      → rewriting number (nodes_of c.formula) room ≡ guard (leb (count (form number c.formula)) room) 18 0 (Done (record { nodes = count (form number c.formula); signals = 0 }))

-- what the reader's whole answer leaves in buffers of any length: the claim on what stands there, and the nodes and the signal list to hand on
pub record Leaves (text nodes signals : List ℕ) (c : NumberedFormula) : Type 0 where
  pub claim : Claim text c
  pub demand : Demand3 text 0 nodes signals (counts c).nodes (counts c).signals
  pub handed : take (counts c).nodes nodes ≡ nodes_of c.formula
  pub list : take (counts c).signals signals ≡ c.signals

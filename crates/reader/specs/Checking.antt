-- The tree of a text: refused by 1 to 10, or checked.
use Rattle.std.specs.Prelude.{ℕ, ◌≤◌, List, ◌≡◌, length, Ok, Err}
use Rattle.std.proofs.Common.{subst, arith}
use Rattle.node.specs.Result.{Done}
use Rattle.node.specs.Returned.{Returned}
use Rattle.node.specs.declared.Refusal.{Refusal}
use Rattle.language.specs.Limits.{max_tokens, max_names, work_bytes}
use Rattle.language.specs.Tree.{Spec}
use Rattle.language.specs.DeclaredNames.{Declarations, declarations}
use Rattle.language.specs.Parsing.{parsed}
use Rattle.language.specs.Reading.{delivered}
use Rattle.language.proofs.Laws.Grammar.Parses.{parses}
use Rattle.language.proofs.Laws.Values.RegularWords.{regular-words}
use Rattle.parser.specs.declared.Facts.{Facts}
use Rattle.checked.specs.declared.Counts.{Counts}
use Rattle.checked.specs.declared.Checked.{Checked as Passed}
use Rattle.checked.specs.Checking.{Tree, Checks}
use Rattle.ending.proofs.EndingsLaws.{text-refused, text-parsed}
use Rattle.ending.proofs.HandsLaws.{hands_as, hands_refused}
use Rattle.reader.specs.Answers.{Answers}
use Rattle.checked.specs.AnswerLaws.{accepted, refused, tree-parsed as only-tree}
use Rattle.line_counts.specs.Promise.{CountsOf}
use Rattle.reader.specs.declared.expansion.CheckedTree.{CheckedTree}
use Rattle.reader.specs.declared.expansion.Counted.{Counted}
use Rattle.reader.specs.Naming.{Parsed, SomeParsed, Expands}

-- the text
module _ {text work used refs found : List ℕ} {r : Returned Passed} (c : Checks text work used refs found r) where
  pub tree-refused : {u : Refusal} (nodes signals : List ℕ) → r ≡ Err u → Answers text work nodes signals used nodes signals (Err u)
  tree-refused nodes signals e =
      record { hands = hands_refused nodes signals (text-refused (delivered (length nodes) (length signals)) text (refused c e)); size = c.size; beyond = c.beyond }

  module _ {a : Passed} (e : r ≡ Ok a) where
    abbrev k : Counts
    k = a.counts

    abbrev f : Facts
    f = a.facts

    abbrev counted : CheckedTree
    counted = record { entries = k.entries; names = k.names; facts = f }

    tree : Tree text used refs found k f
    tree = accepted c e

    tree-parsed : Parsed text used refs found counted tree.tree
    tree-parsed = record {
      checked = record {
        tree = record { count = k.tokens; stored = tree.stored; resolved = tree.resolved };
        regular = regular-words tree.tree
            (parses tree.read).formed.words;
      };
      facts = tree.facts;
    }

    pub some-parsed : work_bytes ≤ length work → max_tokens ≤ length refs → max_names ≤ length found → SomeParsed text used refs found counted
    some-parsed a b d = let z = c.size in record { x = tree.tree; parsed = tree-parsed; work_room = omega arith; refs_room = b; found-room = d }

    module _ {nodes signals nodes' signals' : List ℕ} {b : Counted} (g : Expands text used refs found counted nodes signals nodes' signals' b) where
      pub tree-answers : Answers text work nodes signals used nodes' signals' b.answer
      tree-answers =
          record { hands = hands_as (text-parsed (delivered (length nodes) (length signals)) text tree.read) (g.converts tree.tree tree-parsed).hands; size = c.size; beyond = c.beyond }

      pub tree-counts : (n s : ℕ) → b.answer ≡ Ok (n, s) → (x : Spec) (d : Declarations) → parsed text ≡ Done x → declarations x ≡ Done d → CountsOf x d b.lines
      tree-counts n s e x d p =
          subst (λ y. declarations y ≡ Done d → CountsOf y d b.lines) (only-tree tree p) ((g.converts tree.tree tree-parsed).lines n s e d)

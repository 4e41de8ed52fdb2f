-- What INFO says and the counts of lines, by the answer: of a refused text, of a tree, with a work buffer that is too short or long enough.
use Rattle.std.specs.Prelude.{ℕ, ◌≤◌, ◌<◌, List, ◌≡◌, length, Err, Ok}
use Rattle.std.proofs.Common.{sym, ap, ◌∙◌, subst, arith}
use Rattle.node.specs.Result.{Refused}
use Rattle.node.specs.Returned.{Returned, refusal}
use Rattle.node.specs.declared.Refusal.{Refusal}
use Rattle.basics.specs.Clearing.{cleared}
use Rattle.language.specs.Limits.{work_bytes}
use Rattle.language.specs.Parsing.{parsed}
use Rattle.claim.specs.Reads.{Reads}
use Rattle.parser.specs.declared.Facts.{Facts}
use Rattle.parser.specs.Outlines.{facts_of}
use Rattle.checked.specs.declared.Checked.{Checked}
use Rattle.checked.specs.Checking.{Checks}
use Rattle.checked.specs.AnswerLaws.{accepted, refused, tree-parsed}
use Rattle.reader.specs.declared.expansion.Counted.{Counted}
use Rattle.reader.specs.declared.Told.{Told}
use Rattle.reader.specs.CountingLaws.{not_accepted_lem}
use Rattle.reader.specs.Answers.{Answers}
use Rattle.reader.specs.AnswersLaws.{reads_short, reads_long}
use Rattle.reader.specs.Checking.{tree-refused, tree-answers, tree-counts}
use Rattle.reader.specs.Naming.{Expands}
use Rattle.reader.specs.Promise.{Informed, ReadsTold}
use Rattle.reader.specs.Telling.{Tells}

-- a refused text has no tree
refused_untold : (text : List ℕ) {n p : ℕ} (f : Facts) → parsed text ≡ Refused n p → Informed text f
refused_untold text f e x d = let z : ◌≡◌ {A = ℕ} 0 1 = cc in absurd (omega arith)

module _ {text work used refs found : List ℕ} {r : Returned Checked} (c : Checks text work used refs found r) where
  pub refused-tells : {u : Refusal} {t : Told} (nodes signals : List ℕ) → r ≡ Err u → t.answer ≡ Err u → Tells text work nodes signals used nodes signals t
  refused-tells {t = t} nodes signals e a =
      record {
        answers = subst (Answers text work nodes signals used nodes signals) (sym a) (tree-refused c nodes signals e);
        facts = refused_untold text t.facts (refused c e);
        lines = λ n s q. absurd (not_accepted_lem a q);
      }

  pub tree-tells : {k : Checked} {nodes signals nodes' signals' : List ℕ} {a : Counted} → r ≡ Ok k
      → Expands text used refs found (record { entries = k.counts.entries; names = k.counts.names; facts = k.facts }) nodes signals nodes' signals' a
      → Tells text work nodes signals used nodes' signals' (record { answer = a.answer; facts = k.facts; lines = a.lines })
  tree-tells e g = let t = accepted c e in record { answers = tree-answers c e g; facts = λ x d. t.facts ∙ ap facts_of (tree-parsed t d); lines = tree-counts c e g }

module _ (text : List ℕ) {work nodes signals : List ℕ} {t : Told} where
  pub told_short : length work < work_bytes → t.answer ≡ Err (refusal 17 0) → ReadsTold text work nodes signals work nodes signals t
  told_short h a = record {
    reads = subst (Reads text work nodes signals work nodes signals) (sym a) (reads_short text h);
    facts = λ l. absurd (omega arith);
    lines = λ n s e. absurd (not_accepted_lem a e);
  }

  pub told_long : {used nodes' signals' work' : List ℕ} → work_bytes ≤ length work → Tells text work nodes signals used nodes' signals' t → work' ≡ cleared work_bytes used
      → ReadsTold text work nodes signals work' nodes' signals' t
  told_long h a e = record { reads = reads_long text h a.answers e; facts = λ l. a.facts; lines = a.lines }

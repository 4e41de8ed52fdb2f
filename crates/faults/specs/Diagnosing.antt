-- Which line of a text failed on a recording: the answer to every text and recording, and what a named line is (document 02, F-7). Laws in TextLaws.
use Rattle.std.specs.Prelude.{ℕ, suc, ◌≤◌, ◌<◌, ◌≡◌, Bool, true, false, List, [], ◌∷◌, ◌++◌, map, leb, length}
use Rattle.node.specs.Ltl.{Formula}
use Rattle.node.specs.Result.{Result, Done, Refused, ◌>>=◌, guard}
use Rattle.node.specs.Written.{nodes_of}
use Rattle.node.specs.Temporal.{Property, Always}
use Rattle.bits.specs.Bits.{Values}
use Rattle.recordings.specs.Recording.{lasso_of, letter_of}
use Rattle.rows.specs.Row.{row}
use Rattle.evaluator.specs.Evaluation.{evaluation, left, verdict_of}
use Rattle.language.specs.Limits.{work_bytes}
use Rattle.language.specs.Tree.{Part, Initially, Preset, Require, Assert, Assume, Guarantee, Spec}
use Rattle.language.specs.Parsing.{parsed}
use Rattle.language.specs.DeclaredNames.{Declarations, declarations}
use Rattle.language.specs.Numbering.{in_order, signal_list}
use Rattle.language.specs.Lines.{lines}
use Rattle.language.specs.Expansion.{gather, at_signals, define_all, expand_section, Sections, lines_of}
use Rattle.language.specs.Shifting.{adapted}
use Rattle.language.specs.Meaning.{Word, Sense, present, meaning_all, names_of, read_as, SectionMeans}
use Rattle.language.specs.LineMeaning.{LineMeans, part_lines}
use Rattle.language.specs.Reading.{NumberedFormula, text_expansion}
use Rattle.faults.specs.Naming.{Finding, NoFault, line_named}

-- a text's lines as formulas, section by section: those of its nodes, so a converted file's with their X
pub record Lined : Type 0 where
  pub strict : Bool
  pub formulas : Part → List Formula

-- the expansion of the lines before they are folded: 'implied ones after the written'
abbrev pub sections_of : Spec → Declarations → Result Sections
sections_of x d = gather (expand_section (define_all (at_signals d) x.definitions)) (lines x d)

abbrev pub lined_by : Spec → Declarations → Sections → Lined
lined_by x d ss =
    record { strict = x.strict; formulas = λ q. map (adapted x.semantics x.target (signal_list (in_order d))) (lines_of q ss) }

unfoldable pub lined : List ℕ → Result Lined
lined text = parsed text >>= λ x. declarations x >>= λ d. sections_of x d >>= λ ss. Done (lined_by x d ss)

-- their rows over a recording
abbrev pub line_rows : List ℕ → List Formula → List Values
line_rows bs fs = let w = lasso_of bs in map (row w.n w.l (letter_of bs w.k)) fs

-- 'For a recording that fails, name a line'
abbrev pub finding : (text recording : List ℕ) → Bool → Result Finding
finding text bs true = Done NoFault
finding text bs false = lined text >>= λ m. Done (line_named m.strict (λ q. line_rows bs (m.formulas q)) (lasso_of bs).n)

-- 'Errors: those of reading and evaluating': 17, then 1 to 16, then the evaluator's on the text's nodes
unfoldable pub diagnosing : (text recording : List ℕ) (work rows : ℕ) → Result Finding
diagnosing text recording work rows =
    guard (leb work_bytes work) 17 0
    (text_expansion text >>= λ c. verdict_of (nodes_of c.formula) (length c.signals) recording rows >>= finding text recording)

-- the rows after an answer: the evaluator's on the text's nodes; a refusal changes nothing
abbrev pub rows_left : List ℕ → List ℕ → Result NumberedFormula → List ℕ
rows_left bs rows (Done c) = left (nodes_of c.formula) bs rows (evaluation (nodes_of c.formula) (length c.signals) bs (length rows))
rows_left bs rows (Refused number place) = rows

abbrev pub rows_after : (text recording : List ℕ) (work : ℕ) → List ℕ → List ℕ
rows_after text bs work rows = rows_left bs rows (guard (leb work_bytes work) 17 0 (text_expansion text))

-- 'the assumptions that the semantics put before it hold': P says of each section where it holds; the line is one of q's, false at p
abbrev pub Assumed : Bool → (Part → Property) → Part → ℕ → Type 0
Assumed strict P Preset p = P Initially 0
Assumed false P Assert p = P Initially 0 × P Preset 0 × Always (P Require) 0 × P Assume 0
Assumed true P Assert p = P Initially 0 × P Preset 0 × ((j : ℕ) → j ≤ p → P Require j)
Assumed strict P Guarantee p = P Initially 0 × P Preset 0 × Always (P Require) 0 × P Assume 0
Assumed strict P Initially p = ⊥
Assumed strict P Require p = ⊥
Assumed strict P Assume p = ⊥

-- 'the smallest position where ASSERT is broken'; lines of the other sections are looked at in position 0
abbrev pub Placed : (Part → Property) → Part → ℕ → Type 0
Placed P Preset p = p ≡ 0
Placed P Assert p = (j : ℕ) → j < p → P Assert j
Placed P Guarantee p = p ≡ 0
Placed P Initially p = ⊥
Placed P Require p = ⊥
Placed P Assume p = ⊥

-- what holds where all of a section's lines do
abbrev pub Every : {A : Type 0} → (A → Property) → List A → Property
Every M [] p = Unit {0}
Every M (a ∷ us) p = M a p × Every M us p

-- 'Lines count from 1 in their section': line k is false at p, and those before it are true there
pub record FirstFails {A : Type 0} (M : A → Property) (ls : List A) (k p : ℕ) : Type 0 where
  pub before : List A
  pub line : A
  pub behind : List A
  pub there : ls ≡ before ++ (line ∷ behind)
  pub number : k ≡ suc (length before)
  pub earlier : Every M before p
  pub fails : ¬ M line p

-- line k of section q is at fault, at p: P says where each section holds, M where a line of q does
pub record FaultAt {A : Type 0} (strict : Bool) (P : Part → Property) (M : A → Property) (ls : List A) (q : Part) (k : ℕ) : Type 0 where
  pub p : ℕ
  pub placed : Placed P q p
  pub first : FirstFails M ls k p
  pub assumed : Assumed strict P q p

-- the names of a text's lines, and where its sections hold: the source's own meaning
abbrev pub sense_of : Spec → Sense
sense_of x = meaning_all (present (names_of x)) x.definitions

abbrev pub SectionOf : Spec → Word → Part → Property
SectionOf x w q = SectionMeans (sense_of x) x.definitions x.main q w

-- the word that a text is read on: a converted file reads the shifted signals one position later
abbrev pub read_on : Spec → Word → Word
read_on x w = read_as x.semantics x.target x.main w

-- line k of section q of a text is at fault in a word
pub record Fault (text : List ℕ) (w : Word) (q : Part) (k : ℕ) : Type 0 where
  pub spec : Spec
  pub declared : Declarations
  pub parsing : parsed text ≡ Done spec
  pub declaring : declarations spec ≡ Done declared
  pub fault : FaultAt spec.strict (SectionOf spec (read_on spec w)) (λ l. LineMeans (sense_of spec) l (read_on spec w)) (part_lines q (lines spec declared)) q k

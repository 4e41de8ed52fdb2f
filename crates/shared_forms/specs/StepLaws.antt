-- A recipe's node as the code reads it, by the row and the number, is the one that is defined.
use Rattle.std.specs.Prelude.{ℕ, ◌+◌, ◌≤◌, ◌<◌, ◌≡◌, List, Bool, true, false, ◌&&◌, eqb, ltb, length, get_or, set}
use Rattle.std.proofs.Common.{ap, ap₂, ◌∙◌, sym, subst, arith, eqb-true, ltb-true, eq-eqb, lt-ltb}
use Rattle.std.proofs.lemmas.Bool.{false≢true}
use Rattle.std.proofs.Math.Decide.{dec_lt, ℕ_discrete}
use Rattle.node.specs.Tests.{and_left, and_right}
use Rattle.node.specs.Limits.{field_limit}
use Rattle.node.specs.Fields.{kind_of, first_of, second_of}
use Rattle.node.specs.Kinds.{signal_kind}
use Rattle.shared_forms.specs.Templates.{recipe, recipes}
use Rattle.shared_forms.specs.Forming.{Row, Step, StepIs, word_at, recipe_at, part_word, SourceIs, operand_place, asked_at, Place, Operand, Notable, Notes, Marking, Asking, AskingBy}
use Rattle.shared_forms.specs.PartLaws.{row_below, recipe_few}
use Rattle.shared_forms.specs.MarkLaws.{asking_place, asking_pass, asked-inside, asking-one, asking_end}

module _ {form x row a b : ℕ} {ws : List ℕ} (q : SourceIs form ws x row a b) where
  pub source_row : {table : List ℕ} → table ≡ recipes → Place form ws x → Row table row
  source_row e p = let h = row_below p in let r = q.row_is in record { whole = e; inside = omega arith }

  pub source-length : length (recipe row) ≡ length (recipe_at form ws x)
  source-length = ap (λ (r : ℕ). length (recipe r)) q.row_is

  pub source-step : {table : List ℕ} {j : ℕ} → table ≡ recipes → Place form ws x → j < length (recipe row) → Step table row j
  source-step e p h = let f = recipe_few p in let l = source-length in record { of = source_row e p; here = h; few = omega arith }

  pub first_fits : a < field_limit
  first_fits = let e = q.first-is in omega arith

  pub second_fits : b < field_limit
  second_fits = let e = q.second_is in omega arith

  module _ {j k f s : ℕ} (t : StepIs row j k f s) where
    pub kind-here : k ≡ kind_of (part_word form ws x j)
    kind-here = t.kind-is ∙ ap (λ (r : ℕ). kind_of (get_or (recipe r) j 0)) q.row_is

    pub first-here : f ≡ first_of (part_word form ws x j)
    first-here = t.first-is ∙ ap (λ (r : ℕ). first_of (get_or (recipe r) j 0)) q.row_is

    pub second-here : s ≡ second_of (part_word form ws x j)
    second-here = t.second_is ∙ ap (λ (r : ℕ). second_of (get_or (recipe r) j 0)) q.row_is

    pub operand-here : Operand k f → Operand (kind_of (part_word form ws x j)) (first_of (part_word form ws x j))
    operand-here o = record { signal = sym kind-here ∙ o.signal; operand = subst (λ (n : ℕ). n < 4) first-here o.operand }

    pub operand_read : Operand (kind_of (part_word form ws x j)) (first_of (part_word form ws x j)) → Operand k f
    operand_read o = record { signal = kind-here ∙ o.signal; operand = subst (λ (n : ℕ). n < 4) (sym first-here) o.operand }

    pub place_here : operand_place a b f ≡ asked_at form ws x j
    place_here =
        ap₂ (λ (m n : ℕ). operand_place m n f) q.first-is q.second_is
        ∙ ap (operand_place (first_of (word_at ws x)) (second_of (word_at ws x))) first-here

-- is it an operand's? By the test that the code makes
module _ {k f : ℕ} {b : Bool} (e : b ≡ (eqb k signal_kind && ltb f 4)) where
  pub operand_true : b ≡ true → Operand k f
  operand_true h = let t = sym e ∙ h in record { signal = eqb-true k signal_kind (and_left (eqb k signal_kind) (ltb f 4) t); operand = ltb-true f 4 (and_right (eqb k signal_kind) (ltb f 4) t) }

  pub operand_false : b ≡ false → ¬ Operand k f
  operand_false h o = false≢true (sym h ∙ e ∙ ap₂ ◌&&◌ (eq-eqb k signal_kind o.signal) (lt-ltb f 4 o.operand))

pub operand-test : (k f : ℕ) → Dec (Operand k f)
operand-test k f = go (ℕ_discrete k signal_kind) (dec_lt f 4)
  where
    go : Dec (k ≡ signal_kind) → Dec (f < 4) → Dec (Operand k f)
    go (yes e) (yes l) = yes (record { signal = e; operand = l })
    go (yes e) (no l) = no (λ o. l o.operand)
    go (no e) d = no (λ o. e o.signal)

-- a note of an operand's form: there is room, and it is what is to be made
pub operand-inside : {k f a b p : ℕ} {notes : List ℕ} → Notable k f a b notes → Operand k f → p ≡ operand_place a b f → p < length notes
operand-inside n o q = rw q (n.room o)

pub notes_made : {k f a b p : ℕ} {notes : List ℕ} → Operand k f → p ≡ operand_place a b f → Notes k f a b notes (set notes p 1)
notes_made {notes = notes} o q = record { made = λ p. ap (λ (i : ℕ). set notes i 1) q; left = λ d. absurd (d o) }

-- the loop that marks what a recipe stands for
pub ask_start : {form x row a b count : ℕ} {ws notes : List ℕ} → SourceIs form ws x row a b → count ≡ length (recipe row) → Asking form ws x 0 notes
    → AskingBy form ws x row a b count 0 notes
ask_start q c s = record { source = q; counted = c; asking = s }

module _ {form x row a b count j : ℕ} {ws notes : List ℕ} (l : AskingBy form ws x row a b count j notes) where
  inside : j < count → j < length (recipe_at form ws x)
  inside h = let c = l.counted in let e = source-length l.source in omega arith

  pub ask_step : {table : List ℕ} → table ≡ recipes → j < count → Step table row j
  ask_step e h = source-step l.source e (asking_place l.asking) (let c = l.counted in omega arith)

  module _ {k f s : ℕ} (h : j < count) (t : StepIs row j k f s) where
    pub ask-notable : Notable k f a b notes
    ask-notable =
        record {
          first_fits = first_fits l.source;
          second_fits = second_fits l.source;
          room = λ o. rw (place_here l.source t) (asked-inside l.asking (inside h) (operand-here l.source t o));
        }

    pub ask-again : {notes' : List ℕ} → Notes k f a b notes notes' → AskingBy form ws x row a b count (j + 1) notes'
    ask-again {notes'} n = record { source = l.source; counted = l.counted; asking = go (operand-test k f) }
      where
        go : Dec (Operand k f) → Asking form ws x (j + 1) notes'
        go (yes o) =
            rw (n.made o, place_here l.source t) (asking-one l.asking (inside h) (operand-here l.source t o))
        go (no d) = rw (n.left d) (asking_pass l.asking (λ o. d (operand_read l.source t o)))

  pub ask_end : count ≤ j → Marking form ws x notes
  ask_end h = asking_end l.asking (let c = l.counted in let e = source-length l.source in omega arith)

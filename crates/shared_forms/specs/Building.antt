-- What has been put into the shared table while the needed forms are put together, and what is promised of the whole.
use Rattle.std.specs.Prelude.{ℕ, ◌+◌, ◌-◌, ◌*◌, ◌≤◌, ◌<◌, ◌≡◌, ◌≢◌, List, [], cond, ltb, length, get_or}
use Rattle.node.specs.Limits.{max_nodes, field_limit}
use Rattle.node.specs.Fields.{pack, kind_of, first_of, second_of}
use Rattle.node.specs.Ltl.{Not}
use Rattle.node.specs.Kinds.{kind_count, signal_kind, unary_kind, has_two}
use Rattle.node.specs.Formed.{Formed}
use Rattle.node.specs.Table.{root}
use Rattle.forms.specs.Forms.{form as form_of}
use Rattle.sharing.specs.Sharing.{distinct_count}
use Rattle.sharing.proofs.StandsLaws.{Found}
use Rattle.sharing.proofs.SoundLaws.{Sound}
use Rattle.shared_table.specs.Shared.{capacity, Shares, Shared, Puts}
use Rattle.shared_forms.specs.Templates.{recipe}
use Rattle.shared_forms.specs.Forming.{form_at, word_at, part_word, SourceIs, operand_place, part_at, Within, Operand, Marking}

-- the fields of a node that is put: nothing, the signal's own number, one operand's, two
abbrev pub first_field : ℕ → ℕ → ℕ → ℕ
first_field kind own m = cond (ltb kind signal_kind) 0 (cond (ltb kind (unary_kind Not)) own m)

abbrev pub second_field : ℕ → ℕ → ℕ
second_field kind n = cond (has_two kind) n 0

-- the word over operands whose numbers plus 1 are m and n
abbrev pub word_over : ℕ → ℕ → ℕ → ℕ → ℕ
word_over kind own m n = pack kind (first_field kind own (m - 1)) (second_field kind (n - 1))

-- that of node j of the recipe for x, over its earlier parts
abbrev pub over_at : ℕ → List ℕ → ℕ → ℕ → List ℕ → ℕ
over_at form ws x j numbers =
    word_over (kind_of (part_word form ws x j)) (first_of (word_at ws x)) (get_or numbers (first_of (part_word form ws x j)) 0) (get_or numbers (second_of (part_word form ws x j)) 0)

-- the numbers plus 1 of a recipe's parts: sixteen, each of a node that a table can have
pub record Numbers (numbers : List ℕ) : Type 0 where
  pub slots : length numbers ≡ 16
  pub some : (l : ℕ) → l < 16 → 1 ≤ get_or numbers l 0
  pub few : (l : ℕ) → l < 16 → get_or numbers l 0 ≤ max_nodes

-- a recipe's node can be put together: its fields tell earlier parts or an operand's form
pub record Steppable (kind f s a b : ℕ) (numbers notes out : List ℕ) : Type 0 where
  pub known : kind < kind_count
  pub first_slot : f < 16
  pub second-slot : s < 16
  pub first_fits : a < field_limit
  pub second_fits : b < field_limit
  pub numbered : Numbers numbers
  pub noted : Operand kind f → operand_place a b f < length notes
  pub shared : Shared out

-- it is the operand's form that is noted, or its word is put
pub record Steps (kind f s a b : ℕ) (numbers notes out out' : List ℕ) (r : ℕ) : Type 0 where
  pub loaded : Operand kind f → (r ≡ get_or notes (operand_place a b f) 0) × (out' ≡ out)
  pub put : ¬ Operand kind f → Puts out out' (word_over kind a (get_or numbers f 0) (get_or numbers s 0)) r

-- The table that the array holds has subformulas of the root's form alone, and each needed form that is noted below k.
pub record Building (form : ℕ) (ws : List ℕ) (k : ℕ) (notes out : List ℕ) : Type 0 where
  pub marking : Marking form ws 0 notes
  pub table : List ℕ
  pub shares : Shares out table
  pub sound : Sound (Within form ws) table
  pub stands : (x : ℕ) → x < k → get_or notes x 0 ≢ 0 → Found table (form_at form ws x) (get_or notes x 0 - 1)

-- the form at x is needed, and those below are noted
pub record Composable (form : ℕ) (ws : List ℕ) (x : ℕ) (notes out : List ℕ) : Type 0 where
  pub inside : x < 2 * length ws
  pub needed : get_or notes x 0 ≢ 0
  pub building : Building form ws x notes out

-- the same in the midst of the recipe for x, which is needed: its first j parts stand too
pub record Composing (form : ℕ) (ws : List ℕ) (x j : ℕ) (notes numbers out : List ℕ) : Type 0 where
  pub inside : x < 2 * length ws
  pub needed : get_or notes x 0 ≢ 0
  pub building : Building form ws x notes out
  pub numbered : Numbers numbers
  pub parts : (l : ℕ) → l < j → Found building.table (part_at form ws x l) (get_or numbers l 0 - 1)

-- and as the code has it
pub record ComposingBy (form : ℕ) (ws : List ℕ) (x row first second count j : ℕ) (notes numbers out : List ℕ) : Type 0 where
  pub source : SourceIs form ws x row first second
  pub counted : count ≡ length (recipe row)
  pub within : j ≤ count
  pub composing : Composing form ws x j notes numbers out

-- the form at x stands with number r - 1
pub record Standing (form : ℕ) (ws : List ℕ) (x : ℕ) (notes out : List ℕ) (r : ℕ) : Type 0 where
  pub building : Building form ws x notes out
  pub some : 1 ≤ r
  pub found : Found building.table (form_at form ws x) (r - 1)

-- there is no room for the distinct subformulas of the root's form
abbrev pub TooMany : ℕ → List ℕ → List ℕ → Type 0
TooMany form ws out = capacity (length out) < distinct_count (form_of form (root ws))

-- what becomes of the array as the form at x is put together; r past the last node's number plus 1 stands for no room
pub record Composes (form : ℕ) (ws : List ℕ) (x : ℕ) (notes out out' : List ℕ) (r : ℕ) : Type 0 where
  pub done : r ≤ max_nodes → Standing form ws x notes out' r
  pub refused : max_nodes < r → TooMany form ws out

-- and as it is noted, if it is needed
pub record NotesForm (form : ℕ) (ws : List ℕ) (x : ℕ) (notes' out out' : List ℕ) (r : ℕ) : Type 0 where
  pub done : r ≤ max_nodes → Building form ws (x + 1) notes' out'
  pub refused : max_nodes < r → TooMany form ws out

-- the most nodes of a small table, whose notes take less time to clear
abbrev pub small_table : ℕ
small_table = 256

-- n notes, and no form is needed
pub record Blank (n : ℕ) (notes : List ℕ) : Type 0 where
  pub long : length notes ≡ n
  pub zeros : (x : ℕ) → get_or notes x 0 ≡ 0

-- before the first form: a note for each form of each node, and no node in the array
pub record Begun (ws notes out : List ℕ) : Type 0 where
  pub formed : Formed field_limit ws
  pub long : 2 * length ws ≤ length notes
  pub zeros : (x : ℕ) → get_or notes x 0 ≡ 0
  pub none : Shares out []

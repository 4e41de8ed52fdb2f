-- What is noted of a table's nodes while the form of its root is worked out: which node's form is needed, and where it stands. A node's own form is noted at twice its number, the
-- negated half of form 1 behind it; a note is 0 for a form that is not needed, and otherwise, once the form has been put together, its number plus 1.
use Rattle.std.specs.Prelude.{ℕ, ◌+◌, ◌-◌, ◌*◌, ◌/◌, ◌%◌, ◌≤◌, ◌<◌, ◌≡◌, ◌≢◌, cond, ltb, length, get_or, set}
use mathlib.Core.List.{List, [], ◌∷◌, Memᴰ}
use Rattle.node.specs.Limits.{field_limit}
use Rattle.node.specs.Ltl.{Formula, Signal}
use Rattle.node.specs.Fields.{kind_of, first_of, second_of}
use Rattle.node.specs.Kinds.{kind_count, signal_kind}
use Rattle.node.specs.Table.{tree_at, root}
use Rattle.node.specs.Formed.{Formed}
use Rattle.forms.specs.Forms.{form as form_of}
use Rattle.sharing.specs.Subformulas.{postorder, Everywhere}
use Rattle.shared_forms.specs.Templates.{list_of, by_list, recipe, recipes, substitute}

-- how many rows of recipes there are: one for each kind in four lists
abbrev pub row_count : ℕ
row_count = 4 * kind_count

-- a row of the table of recipes, and a node of its recipe
pub record Row (table : List ℕ) (row : ℕ) : Type 0 where
  pub whole : table ≡ recipes
  pub inside : row < row_count

pub record Step (table : List ℕ) (row j : ℕ) : Type 0 where
  pub of : Row table row
  pub here : j < length (recipe row)
  pub few : length (recipe row) ≤ 10

-- the fields of a recipe's node
pub record StepIs (row j kind first second : ℕ) : Type 0 where
  pub kind-is : kind ≡ kind_of (get_or (recipe row) j 0)
  pub first-is : first ≡ first_of (get_or (recipe row) j 0)
  pub second_is : second ≡ second_of (get_or (recipe row) j 0)

-- the form that is noted at x
abbrev pub form_at : ℕ → List ℕ → ℕ → Formula
form_at form ws x = by_list (list_of form (x % 2)) (tree_at ws (x / 2))

-- the word of its node, and the row of its recipe
abbrev pub word_at : List ℕ → ℕ → ℕ
word_at ws x = get_or ws (x / 2) 0

abbrev pub row_at : ℕ → List ℕ → ℕ → ℕ
row_at form ws x = kind_count * list_of form (x % 2) + kind_of (word_at ws x)

abbrev pub recipe_at : ℕ → List ℕ → ℕ → List ℕ
recipe_at form ws x = recipe (row_at form ws x)

-- that row, and the fields of the node
pub record SourceIs (form : ℕ) (ws : List ℕ) (x row first second : ℕ) : Type 0 where
  pub row_is : row ≡ row_at form ws x
  pub first-is : first ≡ first_of (word_at ws x)
  pub second_is : second ≡ second_of (word_at ws x)

-- node j of that recipe
abbrev pub part_word : ℕ → List ℕ → ℕ → ℕ → ℕ
part_word form ws x j = get_or (recipe_at form ws x) j 0

-- where the form is noted that signal r of a template stands for, below a node with operands a and b
abbrev pub operand_place : ℕ → ℕ → ℕ → ℕ
operand_place a b r = 2 * cond (ltb r 2) a b + r % 2

-- what the signals of a template stand for
unfoldable pub stands_for : ℕ → (ℕ → Formula) → ℕ → ℕ → ℕ → Formula
stands_for form tree a b r =
    get_or (by_list (list_of form 0) (tree a) ∷ by_list (list_of form 1) (tree a) ∷ by_list (list_of form 0) (tree b) ∷ by_list (list_of form 1) (tree b) ∷ []) r (Signal a)

-- a form is noted at x: the table is one of the format, and x lies within twice its nodes
pub record Place (form : ℕ) (ws : List ℕ) (x : ℕ) : Type 0 where
  pub formed : Formed field_limit ws
  pub inside : x < 2 * length ws

-- the formula of node j of the recipe for the form at x
unfoldable pub part_at : ℕ → List ℕ → ℕ → ℕ → Formula
part_at form ws x j = substitute (stands_for form (tree_at ws) (first_of (word_at ws x)) (second_of (word_at ws x))) (tree_at (recipe_at form ws x) j)

-- a subformula of the root's form
abbrev pub Within : ℕ → List ℕ → Formula → Type 0
Within form ws g = Memᴰ g (postorder (form_of form (root ws)))

-- a recipe's node that stands for an operand's form
pub record Operand (kind first : ℕ) : Type 0 where
  pub signal : kind ≡ signal_kind
  pub operand : first < 4

-- there is room for a note of that form
pub record Notable (kind first a b : ℕ) (notes : List ℕ) : Type 0 where
  pub first_fits : a < field_limit
  pub second_fits : b < field_limit
  pub room : Operand kind first → operand_place a b first < length notes

-- a node of a recipe with these fields has its operand's form noted as needed, if it stands for one
pub record Notes (kind first a b : ℕ) (notes notes' : List ℕ) : Type 0 where
  pub made : Operand kind first → notes' ≡ set notes (operand_place a b first) 1
  pub left : ¬ Operand kind first → notes' ≡ notes

-- where the form is noted that node j of the recipe for x stands for
abbrev pub asked_at : ℕ → List ℕ → ℕ → ℕ → ℕ
asked_at form ws x j = operand_place (first_of (word_at ws x)) (second_of (word_at ws x)) (first_of (part_word form ws x j))

-- the operands' forms that the first n nodes of the recipe for x stand for are needed
abbrev pub Asked : ℕ → List ℕ → List ℕ → ℕ → ℕ → Type 0
Asked form ws notes x n =
    (j : ℕ) → j < n → Operand (kind_of (part_word form ws x j)) (first_of (part_word form ws x j)) → get_or notes (asked_at form ws x j) 0 ≢ 0

-- The forms that are needed are subformulas of the root's form; from k on, what their recipes stand for is needed too.
pub record Marking (form : ℕ) (ws : List ℕ) (k : ℕ) (notes : List ℕ) : Type 0 where
  pub formed : Formed field_limit ws
  pub long : 2 * length ws ≤ length notes
  pub top : get_or notes (2 * (length ws - 1)) 0 ≢ 0
  pub such : (x : ℕ) → x < 2 * length ws → get_or notes x 0 ≢ 0 → Everywhere (Within form ws) (form_at form ws x)
  pub asked : (x : ℕ) → k ≤ x → x < 2 * length ws → get_or notes x 0 ≢ 0 → Asked form ws notes x (length (recipe_at form ws x))

-- the same in the midst of the recipe for x, which is needed
pub record Asking (form : ℕ) (ws : List ℕ) (x n : ℕ) (notes : List ℕ) : Type 0 where
  pub inside : x < 2 * length ws
  pub marking : Marking form ws (x + 1) notes
  pub needed : get_or notes x 0 ≢ 0
  pub so_far : Asked form ws notes x n

-- and as the code has it: the row, the node's fields, the count and the number of the recipe's node
pub record AskingBy (form : ℕ) (ws : List ℕ) (x row first second count j : ℕ) (notes : List ℕ) : Type 0 where
  pub source : SourceIs form ws x row first second
  pub counted : count ≡ length (recipe row)
  pub asking : Asking form ws x j notes

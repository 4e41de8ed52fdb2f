-- The forms by templates: for each kind of node a formula whose signals stand for the forms of the node's operands. The nodes of a template are the recipe by which the
-- form of such a node is put together. Laws in TemplateLaws.
use Rattle.std.specs.Prelude.{ℕ, zero, suc, List, [], ◌∷◌, ◌++◌, length, get_or, take, replicate}
use Rattle.node.specs.Ltl.{Not, X, G, F, And, Or, Implies, Iff, U, R, W, Formula, True, False, Signal, One, Two}
use Rattle.node.specs.Fields.{kind_of, first_of, second_of}
use Rattle.forms.specs.Forms.{plain, negated, core, both_of, implies_of, finally_of, globally_of, release_of}
use Rattle.sharing.specs.Sharing.{distinct_nodes}

-- what a template's signals stand for: the forms of the first operand, plain and negated, those of the second, and the node itself where it is a signal
abbrev pub left : Formula
left = Signal 0

abbrev pub left_negated : Formula
left_negated = Signal 1

abbrev pub right : Formula
right = Signal 2

abbrev pub right_negated : Formula
right_negated = Signal 3

abbrev pub itself : Formula
itself = Signal 4

-- form 0 of the fourteen kinds in their order
abbrev pub copies : List Formula
copies =
    True
    ∷ False
    ∷ itself
    ∷ One Not left
    ∷ Two And left right
    ∷ Two Or left right
    ∷ Two Implies left right
    ∷ Two Iff left right
    ∷ One X left
    ∷ One G left
    ∷ One F left
    ∷ Two U left right
    ∷ Two R left right
    ∷ Two W left right
    ∷ []

-- form 1: a node's formula in negation form
abbrev pub plains : List Formula
plains =
    True
    ∷ False
    ∷ itself
    ∷ left_negated
    ∷ Two And left right
    ∷ Two Or left right
    ∷ Two Or left_negated right
    ∷ Two Or (Two And left right) (Two And left_negated right_negated)
    ∷ One X left
    ∷ One G left
    ∷ One F left
    ∷ Two U left right
    ∷ Two R left right
    ∷ Two W left right
    ∷ []

-- form 2, core form
abbrev pub cores : List Formula
cores =
    True
    ∷ One Not True
    ∷ itself
    ∷ One Not left
    ∷ both_of left right
    ∷ Two Or left right
    ∷ implies_of left right
    ∷ both_of (implies_of left right) (implies_of right left)
    ∷ One X left
    ∷ globally_of left
    ∷ finally_of left
    ∷ Two U left right
    ∷ release_of left right
    ∷ Two Or (Two U left right) (globally_of left)
    ∷ []

-- the negation of a node's formula in negation form
abbrev pub negateds : List Formula
negateds =
    False
    ∷ True
    ∷ One Not itself
    ∷ left
    ∷ Two Or left_negated right_negated
    ∷ Two And left_negated right_negated
    ∷ Two And left right_negated
    ∷ Two Or (Two And left right_negated) (Two And left_negated right)
    ∷ One X left_negated
    ∷ One F left_negated
    ∷ One G left_negated
    ∷ Two R left_negated right_negated
    ∷ Two U left_negated right_negated
    ∷ Two U right_negated (Two And left_negated right_negated)
    ∷ []

-- the four lists one behind the other: kind k of list l is template 14 * l + k
unfoldable pub templates : List Formula
templates = copies ++ (plains ++ (cores ++ negateds))

abbrev pub template : ℕ → Formula
template row = get_or templates row True

-- the list for a form, and for the negated half of form 1
abbrev pub list_of : ℕ → ℕ → ℕ
list_of zero half = 0
list_of (suc zero) zero = 1
list_of (suc zero) (suc half) = 3
list_of (suc (suc form)) half = 2

-- what the templates of a list make of a formula
abbrev pub by_list : ℕ → Formula → Formula
by_list zero f = f
by_list (suc zero) f = plain f
by_list (suc (suc zero)) f = core f
by_list (suc (suc (suc n))) f = negated f

-- a template with formulas for its signals
unfoldable pub substitute : (ℕ → Formula) → Formula → Formula
substitute e True = True
substitute e False = False
substitute e (Signal k) = e k
substitute e (One o a) = One o (substitute e a)
substitute e (Two o a b) = Two o (substitute e a) (substitute e b)

-- the nodes of a template
unfoldable pub recipe : ℕ → List ℕ
recipe row = distinct_nodes (template row)

-- as bytes: how many nodes, then for each its kind and fields, in a row of 32
unfoldable pub threes : List ℕ → List ℕ
threes [] = []
threes (w ∷ ws) = kind_of w ∷ first_of w ∷ second_of w ∷ threes ws

abbrev pub row_bytes : ℕ
row_bytes = 32

unfoldable pub row_of : Formula → List ℕ
row_of f = take row_bytes (length (distinct_nodes f) ∷ (threes (distinct_nodes f) ++ replicate row_bytes 0))

unfoldable pub rows : List Formula → List ℕ
rows [] = []
rows (f ∷ fs) = row_of f ++ rows fs

unfoldable pub recipes : List ℕ
recipes = rows templates

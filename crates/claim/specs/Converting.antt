-- The converter's whole answer on a text, a form and its buffers' lengths: the reader's refusals, then the rewriter's, then 18 for either result buffer (document 01,
-- 'Refusals with their places').
use Rattle.std.specs.Prelude.{ℕ, List, leb, length}
use Rattle.node.specs.Limits.{max_nodes}
use Rattle.node.specs.Result.{Result, ◌>>=◌, guard}
use Rattle.node.specs.Written.{count}
use Rattle.forms.specs.Forms.{last_form, form}
use Rattle.language.specs.Limits.{work_bytes}
use Rattle.language.specs.Reading.{NumberedFormula, text_expansion, delivered}

-- the text's formula in a form, and the text's signals
abbrev pub in_form : (number : ℕ) → NumberedFormula → NumberedFormula
in_form number c = record { formula = form number c.formula; signals = c.signals }

-- 'Rewriter: 21, 19, 16, 18': 21: 'form not 0, 1, 2'; 19 is never due, the reader's nodes being a table of the format; 16: 'more than 8,192 nodes by the definition'
unfoldable pub formed : (number nodes signals : ℕ) → NumberedFormula → Result NumberedFormula
formed number nodes signals c =
    guard (leb number last_form) 21 0 (guard (leb (count (form number c.formula)) max_nodes) 16 0 (delivered nodes signals (in_form number c)))

-- the reader's 17, then 1 to 16, then the rewriter's
unfoldable pub converting : (text : List ℕ) (number work nodes signals : ℕ) → Result NumberedFormula
converting text number work nodes signals = guard (leb work_bytes work) 17 0 (text_expansion text >>= formed number nodes signals)

-- on the buffers themselves
abbrev pub conversion : (text : List ℕ) (number : ℕ) (work nodes signals : List ℕ) → Result NumberedFormula
conversion text number work nodes signals = converting text number (length work) (length nodes) (length signals)

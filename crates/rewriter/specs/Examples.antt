-- The rewriter's definition, worked out on document 01's 'One file in full'.
use Rattle.std.specs.Prelude.{ℕ, ◌≡◌, refl, List, [], ◌∷◌}
use Rattle.node.specs.Fields.{pack}
use Rattle.node.specs.Result.{Done, Refused, ◌>>=◌, guard}
use Rattle.node.specs.Table.{formulas, tree_at, scanned, checked}
use Rattle.node.specs.Postorder.{size, nodes_from}
use Rattle.node.specs.Written.{nodes_of, count}
use Rattle.forms.specs.Forms.{plain, negated, core}
use Rattle.rewriter.specs.Rewriting.{fitting, rewriting, rewritten}

-- document 01, 'One file in full': 17 nodes as expanded, 18 in negation form, 39 in core form
file : List ℕ
file =
    pack 0 0 0 ∷ pack 0 0 0 ∷ pack 0 0 0 ∷ pack 9 2 0 ∷ pack 0 0 0 ∷ pack 4 3 4 ∷ pack 0 0 0 ∷ pack 9 6 0 ∷ pack 2 0 0 ∷ pack 2 1 0 ∷ pack 10 9 0 ∷ pack 6 8 10 ∷ pack 9 11 0 ∷ pack 4 7 12 ∷ pack 6 5
    13 ∷ pack 4 1 14 ∷ pack 6 0 15 ∷ []

file_negation : rewriting 1 file 18 ≡ Done (record { nodes = 18; signals = 0 })
unfolding file rewriting fitting ◌>>=◌ guard checked scanned tree_at formulas count size plain negated
file_negation = refl

file-core : rewriting 2 file 39 ≡ Done (record { nodes = 39; signals = 0 })
unfolding file rewriting fitting ◌>>=◌ guard checked scanned tree_at formulas count size core
file-core = refl

-- 'result buffer short'; 'form not 0, 1, 2'
file_short : rewriting 0 file 16 ≡ Refused 18 0
unfolding file rewriting fitting ◌>>=◌ guard checked scanned tree_at formulas count size
file_short = refl

no_form : rewriting 3 file 16 ≡ Refused 21 0
unfolding rewriting guard
no_form = refl

-- as expanded, the file's nodes are written as they are; the entry after them stays
file_copied : rewritten 0 (pack 2 5 0 ∷ pack 8 0 0 ∷ []) (1 ∷ 2 ∷ 3 ∷ []) ≡ pack 2 5 0 ∷ pack 8 0 0 ∷ 3 ∷ []
unfolding rewriting fitting ◌>>=◌ guard checked scanned tree_at formulas count size nodes_of nodes_from
file_copied = refl

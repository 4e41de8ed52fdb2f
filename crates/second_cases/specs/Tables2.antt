-- Written by the second converter: cases with its answers, each computed from the definitions.
use Rattle.std.specs.Prelude.{true, List, [], ◌∷◌, ◌≡◌, refl}
use Rattle.node.specs.Postorder.{size, nodes_from}
use Rattle.node.specs.Written.{nodes_of, count}
use Rattle.node.specs.Result.{◌>>=◌, guard}
use Rattle.node.specs.Table.{formulas, tree_at, scanned, checked}
use Rattle.forms.specs.Forms.{plain, negated, core}
use Rattle.rewriter.specs.Rewriting.{fitting, rewriting}
use Rattle.second_cases.specs.Held.{Accepted, Rejected, Table, tables_held}

cases_0 : List Table
cases_0 =
    record { nodes = (536870912 ∷ 805306368 ∷ 805322752 ∷ []); form = 1; room = 2; expected = Accepted (536870912 ∷ []) (1 ∷ 0 ∷ []) } ∷
    record { nodes = (536920064 ∷ 3489660929 ∷ 0 ∷ 2684370944 ∷ 1610645505 ∷ 1879097348 ∷ 3489710084 ∷ 1342275588 ∷ 3221307397 ∷ 2952888326 ∷ 1610743808 ∷ 1879113732 ∷ 0 ∷ 536870912 ∷ []); form = 1; room = 0; expected = Rejected 19 1 } ∷
    record { nodes = (536920064 ∷ 1342177280 ∷ 3489660928 ∷ 2952806400 ∷ 0 ∷ 268435456 ∷ 805421056 ∷ 1342242821 ∷ []); form = 2; room = 1; expected = Rejected 19 6 } ∷
    record { nodes = (536870912 ∷ 1610612736 ∷ 0 ∷ 2684387328 ∷ 1073741825 ∷ 1879113731 ∷ 2684420096 ∷ 805371904 ∷ 805404672 ∷ 1342275591 ∷ 536870912 ∷ []); form = 1; room = 2; expected = Accepted (536870912 ∷ []) (1 ∷ 0 ∷ []) } ∷
    []

held_0 : tables_held cases_0 ≡ true
unfolding cases_0 rewriting fitting checked scanned ◌>>=◌ guard tree_at formulas plain negated core count size nodes_of nodes_from
held_0 = refl

cases_1 : List Table
cases_1 =
    record { nodes = ([]); form = 0; room = 2; expected = Rejected 19 0 } ∷
    record { nodes = (0 ∷ 3221225472 ∷ 3489677312 ∷ 2952806402 ∷ 0 ∷ []); form = 1; room = 3; expected = Accepted (0 ∷ []) (1 ∷ 0 ∷ []) } ∷
    record { nodes = (0 ∷ 0 ∷ 2415919104 ∷ 0 ∷ 1073758210 ∷ 2415968256 ∷ 2416001024 ∷ 536870912 ∷ 3489759233 ∷ 2684436480 ∷ 2416033792 ∷ 2416066560 ∷ []); form = 1; room = 5; expected = Accepted (0 ∷ 2415919104 ∷ 2684370944 ∷ 2415951872 ∷ []) (4 ∷ 0 ∷ []) } ∷
    record { nodes = (536870912 ∷ 2147483648 ∷ 1610612737 ∷ []); form = 1; room = 6; expected = Accepted (536870912 ∷ 805306368 ∷ 536870912 ∷ 2147516416 ∷ 1342193667 ∷ []) (5 ∷ 0 ∷ []) } ∷
    []

held_1 : tables_held cases_1 ≡ true
unfolding cases_1 rewriting fitting checked scanned ◌>>=◌ guard tree_at formulas plain negated core count size nodes_of nodes_from
held_1 = refl

cases_2 : List Table
cases_2 =
    record { nodes = (0 ∷ 2147483648 ∷ 0 ∷ []); form = 0; room = 1; expected = Accepted (0 ∷ []) (1 ∷ 0 ∷ []) } ∷
    record { nodes = (0 ∷ 2684354560 ∷ 2147500032 ∷ 2415919104 ∷ 3489693699 ∷ 536887296 ∷ 1610678273 ∷ 3221291014 ∷ 3221340163 ∷ 2684452864 ∷ 1879179273 ∷ 2416082944 ∷ []); form = 0; room = 30; expected = Rejected 18 0 } ∷
    record { nodes = (536870912 ∷ 3489660928 ∷ 2415919104 ∷ 2415951872 ∷ []); form = 1; room = 3; expected = Accepted (536870912 ∷ 2415919104 ∷ 2415935488 ∷ []) (3 ∷ 0 ∷ []) } ∷
    record { nodes = (536887297 ∷ 0 ∷ 1073758208 ∷ 3489660929 ∷ []); form = 2; room = 2; expected = Rejected 19 0 } ∷
    []

held_2 : tables_held cases_2 ≡ true
unfolding cases_2 rewriting fitting checked scanned ◌>>=◌ guard tree_at formulas plain negated core count size nodes_of nodes_from
held_2 = refl

cases_3 : List Table
cases_3 =
    record { nodes = (268435456 ∷ 3221225472 ∷ 3221225472 ∷ 1879080960 ∷ 2147532800 ∷ 2147516416 ∷ 2952871940 ∷ []); form = 3; room = 0; expected = Rejected 21 0 } ∷
    record { nodes = (268435456 ∷ 1342177280 ∷ 3489660928 ∷ 536870912 ∷ 805355520 ∷ 3489710082 ∷ 536870912 ∷ 536870912 ∷ 2952904710 ∷ 3489775617 ∷ 0 ∷ 1610743818 ∷ 268435456 ∷ 2952970251 ∷ []); form = 1; room = 17; expected = Accepted (536870912 ∷ 805306368 ∷ 536870912 ∷ 805339136 ∷ 3221241859 ∷ 0 ∷ 1342242821 ∷ 536870912 ∷ 805421056 ∷ 536870912 ∷ 805453824 ∷ 3221356554 ∷ 0 ∷ 1342357516 ∷ 2952888333 ∷ []) (15 ∷ 0 ∷ []) } ∷
    record { nodes = (268435456 ∷ 2952790016 ∷ 1879048192 ∷ 1610629120 ∷ 0 ∷ 268435456 ∷ 1073823747 ∷ []); form = 1; room = 8; expected = Accepted (268435456 ∷ 0 ∷ 0 ∷ 3221241858 ∷ 268435456 ∷ 1342226436 ∷ 1073741829 ∷ []) (7 ∷ 0 ∷ []) } ∷
    record { nodes = (0 ∷ 0 ∷ 3221225472 ∷ 3489677313 ∷ 2684387328 ∷ 1879080960 ∷ 1879130118 ∷ 3221291013 ∷ []); form = 1; room = 0; expected = Rejected 19 6 } ∷
    []

held_3 : tables_held cases_3 ≡ true
unfolding cases_3 rewriting fitting checked scanned ◌>>=◌ guard tree_at formulas plain negated core count size nodes_of nodes_from
held_3 = refl

cases_4 : List Table
cases_4 =
    record { nodes = (268435456 ∷ 2415919104 ∷ 1879048192 ∷ 268435456 ∷ 268435456 ∷ 268435456 ∷ 1073823745 ∷ 536870912 ∷ 268435456 ∷ 1342291973 ∷ 536887296 ∷ 536870912 ∷ 1342226443 ∷ 3221422083 ∷ []); form = 2; room = 10; expected = Accepted (0 ∷ 805306368 ∷ 536870912 ∷ 1342193666 ∷ 805355520 ∷ 0 ∷ 805388288 ∷ 805404672 ∷ 2952855559 ∷ 805437440 ∷ []) (10 ∷ 0 ∷ []) } ∷
    record { nodes = (536870912 ∷ 805306368 ∷ 3221225473 ∷ 2684370944 ∷ 805355520 ∷ 536870912 ∷ 2415984640 ∷ 268435456 ∷ 0 ∷ 268435456 ∷ 1610727431 ∷ 1342324745 ∷ 2416082944 ∷ 2147663872 ∷ []); form = 3; room = 2; expected = Rejected 21 0 } ∷
    record { nodes = (0 ∷ 2952790016 ∷ 3489660928 ∷ 268435456 ∷ 3489677314 ∷ 536870912 ∷ 1342259203 ∷ []); form = 1; room = 2; expected = Rejected 18 0 } ∷
    record { nodes = (268435456 ∷ 268435456 ∷ 268435456 ∷ 2147516416 ∷ 2952806402 ∷ 1342226435 ∷ 805388288 ∷ 2416017408 ∷ 536870912 ∷ []); form = 3; room = 1; expected = Rejected 21 0 } ∷
    []

held_4 : tables_held cases_4 ≡ true
unfolding cases_4 rewriting fitting checked scanned ◌>>=◌ guard tree_at formulas plain negated core count size nodes_of nodes_from
held_4 = refl

cases_5 : List Table
cases_5 =
    record { nodes = (0 ∷ 1610612736 ∷ 2684370944 ∷ 0 ∷ 2415951872 ∷ 268435456 ∷ 1073823749 ∷ 2416001024 ∷ 536870912 ∷ 1610727431 ∷ []); form = 2; room = 14; expected = Accepted (0 ∷ 0 ∷ 805322752 ∷ 805339136 ∷ 2952790019 ∷ 805371904 ∷ 805388288 ∷ 0 ∷ 0 ∷ 805437440 ∷ 805453824 ∷ 2952904714 ∷ 805486592 ∷ 1342275596 ∷ []) (14 ∷ 0 ∷ []) } ∷
    record { nodes = (536870912 ∷ []); form = 1; room = 3; expected = Accepted (536870912 ∷ []) (1 ∷ 0 ∷ []) } ∷
    record { nodes = (268435456 ∷ 0 ∷ 3489660928 ∷ []); form = 2; room = 12; expected = Accepted (0 ∷ 805306368 ∷ 0 ∷ 805339136 ∷ 2952806403 ∷ 0 ∷ 0 ∷ 805404672 ∷ 805421056 ∷ 2952871944 ∷ 805453824 ∷ 1342242826 ∷ []) (12 ∷ 0 ∷ []) } ∷
    record { nodes = (1 ∷ []); form = 2; room = 0; expected = Rejected 19 0 } ∷
    []

held_5 : tables_held cases_5 ≡ true
unfolding cases_5 rewriting fitting checked scanned ◌>>=◌ guard tree_at formulas plain negated core count size nodes_of nodes_from
held_5 = refl

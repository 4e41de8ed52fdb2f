-- Written by the second converter: cases with its answers, each computed from the definitions.
use Rattle.std.specs.Prelude.{true, List, [], ◌∷◌, ◌≡◌, refl}
use Rattle.node.specs.Postorder.{size, nodes_from}
use Rattle.node.specs.Written.{nodes_of, count}
use Rattle.node.specs.Result.{◌>>=◌, guard}
use Rattle.node.specs.Table.{formulas, tree_at, scanned, checked}
use Rattle.forms.specs.Forms.{plain, negated, core}
use Rattle.rewriter.specs.Rewriting.{fitting, rewriting}
use Rattle.second_cases.specs.Held.{Accepted, Rejected, Table, tables_held}

cases_0 : List Table
cases_0 =
    record { nodes = (0 ∷ 805306368 ∷ 3221241856 ∷ 3221241858 ∷ 2415968256 ∷ 1342226434 ∷ 1879097347 ∷ 1879146501 ∷ 0 ∷ []); form = 1; room = 3; expected = Accepted (0 ∷ []) (1 ∷ 0 ∷ []) } ∷
    record { nodes = (536870912 ∷ 3489660928 ∷ 3758096384 ∷ 805322752 ∷ 1879048194 ∷ []); form = 3; room = 0; expected = Rejected 21 0 } ∷
    record { nodes = (536870912 ∷ 3221225472 ∷ 536870912 ∷ 805322752 ∷ 1610645506 ∷ []); form = 1; room = 6; expected = Accepted (536870912 ∷ 805306368 ∷ 536870912 ∷ 1342193666 ∷ []) (4 ∷ 0 ∷ []) } ∷
    record { nodes = (0 ∷ 2415919104 ∷ 2147500032 ∷ 536870912 ∷ 1879080962 ∷ 536870917 ∷ 3489726467 ∷ 2952871940 ∷ []); form = 0; room = 1; expected = Rejected 19 5 } ∷
    []

held_0 : tables_held cases_0 ≡ true
unfolding cases_0 rewriting fitting checked scanned ◌>>=◌ guard tree_at formulas plain negated core count size nodes_of nodes_from
held_0 = refl

cases_1 : List Table
cases_1 =
    record { nodes = (268435456 ∷ 2684354560 ∷ 2147483648 ∷ 1342210048 ∷ 536903680 ∷ []); form = 2; room = 3; expected = Accepted (536903680 ∷ []) (1 ∷ 0 ∷ []) } ∷
    record { nodes = (268435456 ∷ 1342177280 ∷ 536870912 ∷ 0 ∷ 0 ∷ 805355520 ∷ 2147532800 ∷ []); form = 2; room = 2; expected = Accepted (0 ∷ 2147483648 ∷ []) (2 ∷ 0 ∷ []) } ∷
    record { nodes = (536887296 ∷ 2952790016 ∷ 3221225473 ∷ 536887296 ∷ 3489710082 ∷ 1073790976 ∷ 536887296 ∷ 1073823748 ∷ 0 ∷ 1073774594 ∷ 3221340168 ∷ 2147647488 ∷ []); form = 0; room = 14; expected = Accepted (536887296 ∷ 536887296 ∷ 1073741825 ∷ 536887296 ∷ 536887296 ∷ 536887296 ∷ 536887296 ∷ 2952871942 ∷ 3221291015 ∷ 3489710088 ∷ 1073774601 ∷ 0 ∷ 3221389323 ∷ 2147680256 ∷ []) (14 ∷ 0 ∷ []) } ∷
    record { nodes = (536870912 ∷ 1610612736 ∷ 3221225472 ∷ 2415951872 ∷ 1879097347 ∷ 2147549184 ∷ 1073807363 ∷ 2147565568 ∷ 1073823744 ∷ 2415984640 ∷ []); form = 1; room = 24; expected = Accepted (536870912 ∷ 536870912 ∷ 3221225473 ∷ 2415951872 ∷ 536870912 ∷ 536870912 ∷ 3221291013 ∷ 2416017408 ∷ 1073790983 ∷ 536870912 ∷ 805453824 ∷ 536870912 ∷ 805486592 ∷ 2952953868 ∷ 2684567552 ∷ 536870912 ∷ 805552128 ∷ 536870912 ∷ 805584896 ∷ 2953052178 ∷ 2684665856 ∷ 1073971220 ∷ 1342308373 ∷ 2416279552 ∷ []) (24 ∷ 0 ∷ []) } ∷
    []

held_1 : tables_held cases_1 ≡ true
unfolding cases_1 rewriting fitting checked scanned ◌>>=◌ guard tree_at formulas plain negated core count size nodes_of nodes_from
held_1 = refl

cases_2 : List Table
cases_2 =
    record { nodes = (268435456 ∷ 268435456 ∷ 805306368 ∷ 2147483648 ∷ 1610661889 ∷ 1879080963 ∷ 2952839171 ∷ 2684420096 ∷ []); form = 2; room = 9; expected = Accepted (0 ∷ 0 ∷ 805322752 ∷ 2147516416 ∷ 805355520 ∷ 0 ∷ 805388288 ∷ 1342242822 ∷ 2952790023 ∷ []) (9 ∷ 0 ∷ []) } ∷
    record { nodes = (536870912 ∷ 536870912 ∷ 2415919104 ∷ 1342177281 ∷ 1610629122 ∷ 536870912 ∷ 3758161924 ∷ 536870912 ∷ 3221340167 ∷ 2416033792 ∷ 2952921096 ∷ []); form = 1; room = 0; expected = Rejected 19 6 } ∷
    record { nodes = ([]); form = 1; room = 0; expected = Rejected 19 0 } ∷
    record { nodes = (0 ∷ 2415919104 ∷ 1073741825 ∷ 268435456 ∷ 1342177283 ∷ 536870912 ∷ 0 ∷ 3489759238 ∷ 3221340165 ∷ 536887296 ∷ 0 ∷ 2147614720 ∷ 1073889289 ∷ 1610792970 ∷ []); form = 2; room = 20; expected = Accepted (0 ∷ 0 ∷ 2952790017 ∷ 0 ∷ 0 ∷ 805371904 ∷ 2952839173 ∷ 805404672 ∷ 1342210055 ∷ 805437440 ∷ 536870912 ∷ 805470208 ∷ 2952937483 ∷ 805502976 ∷ 2147696640 ∷ 805535744 ∷ 0 ∷ 1342423056 ∷ []) (18 ∷ 0 ∷ []) } ∷
    []

held_2 : tables_held cases_2 ≡ true
unfolding cases_2 rewriting fitting checked scanned ◌>>=◌ guard tree_at formulas plain negated core count size nodes_of nodes_from
held_2 = refl

cases_3 : List Table
cases_3 =
    record { nodes = (536870912 ∷ 2952790016 ∷ 1073758208 ∷ 2415951872 ∷ 1610629123 ∷ 536870912 ∷ 268435456 ∷ []); form = 1; room = 2; expected = Accepted (268435456 ∷ []) (1 ∷ 0 ∷ []) } ∷
    record { nodes = (268435456 ∷ 536870912 ∷ 1342193664 ∷ 536870912 ∷ 805339136 ∷ 2952839172 ∷ 536870912 ∷ 2147581952 ∷ 2952871936 ∷ []); form = 1; room = 10; expected = Accepted (536870912 ∷ 536870912 ∷ 805322752 ∷ 0 ∷ 1073774595 ∷ 2952790020 ∷ 268435456 ∷ 2952871942 ∷ []) (8 ∷ 0 ∷ []) } ∷
    record { nodes = (0 ∷ 1073741824 ∷ 3221225473 ∷ 3489660929 ∷ 536870912 ∷ 2684387328 ∷ 536887296 ∷ 1342275589 ∷ []); form = 1; room = 8; expected = Accepted (536887296 ∷ 0 ∷ 0 ∷ 0 ∷ 1073774595 ∷ 3221241860 ∷ 2684436480 ∷ 1342177286 ∷ []) (8 ∷ 0 ∷ []) } ∷
    record { nodes = (0 ∷ 3489660928 ∷ 1342193664 ∷ 3221225474 ∷ 536920064 ∷ 268435456 ∷ 268435456 ∷ []); form = 2; room = 3; expected = Accepted (0 ∷ 805306368 ∷ []) (2 ∷ 0 ∷ []) } ∷
    []

held_3 : tables_held cases_3 ≡ true
unfolding cases_3 rewriting fitting checked scanned ◌>>=◌ guard tree_at formulas plain negated core count size nodes_of nodes_from
held_3 = refl

cases_4 : List Table
cases_4 =
    record { nodes = (536887296 ∷ 1879048192 ∷ 1342193664 ∷ 1342210049 ∷ 2147532800 ∷ 1879097348 ∷ 2684420096 ∷ 2147581952 ∷ 1610711046 ∷ 3221340168 ∷ 2684452864 ∷ 536887296 ∷ 3221389321 ∷ 2416082944 ∷ []); form = 1; room = 25; expected = Accepted (536887296 ∷ 536887296 ∷ 1073741825 ∷ 536887296 ∷ 805355520 ∷ 536887296 ∷ 805388288 ∷ 1073807366 ∷ 1342210055 ∷ 536887296 ∷ 1342308361 ∷ 536887296 ∷ 536887296 ∷ 1073922060 ∷ 536887296 ∷ 805535744 ∷ 536887296 ∷ 805568512 ∷ 1073987601 ∷ 1342390290 ∷ 1342341139 ∷ 2147811328 ∷ 2684698624 ∷ 2684715008 ∷ 2416295936 ∷ []) (25 ∷ 0 ∷ []) } ∷
    record { nodes = (536870912 ∷ 1610612736 ∷ []); form = 0; room = 3; expected = Accepted (536870912 ∷ 536870912 ∷ 1610612737 ∷ []) (3 ∷ 0 ∷ []) } ∷
    record { nodes = (268435456 ∷ 2684354560 ∷ 1073741826 ∷ 1342210049 ∷ 3489677313 ∷ 2147516416 ∷ 536887296 ∷ 536887296 ∷ 3221340165 ∷ 3221307393 ∷ 1342324743 ∷ 3489759240 ∷ 1610629129 ∷ 0 ∷ []); form = 2; room = 2; expected = Rejected 19 2 } ∷
    record { nodes = (268435456 ∷ 268435456 ∷ 536887296 ∷ 1610645504 ∷ 1073758209 ∷ 1342210051 ∷ 1879113733 ∷ 1342259204 ∷ 805306368 ∷ []); form = 1; room = 2; expected = Accepted (0 ∷ []) (1 ∷ 0 ∷ []) } ∷
    []

held_4 : tables_held cases_4 ≡ true
unfolding cases_4 rewriting fitting checked scanned ◌>>=◌ guard tree_at formulas plain negated core count size nodes_of nodes_from
held_4 = refl

cases_5 : List Table
cases_5 =
    record { nodes = (536870912 ∷ 2684354560 ∷ 2684354560 ∷ 805322752 ∷ 1342210050 ∷ 2684403712 ∷ 3221307397 ∷ 1342259205 ∷ 536870912 ∷ []); form = 3; room = 0; expected = Rejected 21 0 } ∷
    record { nodes = (268435456 ∷ 268435456 ∷ []); form = 0; room = 2; expected = Accepted (268435456 ∷ []) (1 ∷ 0 ∷ []) } ∷
    record { nodes = (0 ∷ 2415919104 ∷ 3489677312 ∷ []); form = 1; room = 5; expected = Accepted (0 ∷ 2415919104 ∷ 0 ∷ 3489677314 ∷ []) (4 ∷ 0 ∷ []) } ∷
    record { nodes = (536887296 ∷ 536903680 ∷ 536903680 ∷ 1342177281 ∷ 1073774594 ∷ 805339136 ∷ 0 ∷ 536870912 ∷ 1342275591 ∷ 268435456 ∷ 805421056 ∷ []); form = 0; room = 1; expected = Rejected 18 0 } ∷
    []

held_5 : tables_held cases_5 ≡ true
unfolding cases_5 rewriting fitting checked scanned ◌>>=◌ guard tree_at formulas plain negated core count size nodes_of nodes_from
held_5 = refl

cases_6 : List Table
cases_6 =
    record { nodes = ([]); form = 2; room = 2; expected = Rejected 19 0 } ∷
    record { nodes = (268435456 ∷ 1879048192 ∷ 2415935488 ∷ 3221225472 ∷ 2415951872 ∷ 2684403712 ∷ 805388288 ∷ 3221291011 ∷ 1879130116 ∷ 1879179272 ∷ 0 ∷ 3221389322 ∷ []); form = 2; room = 6; expected = Accepted (0 ∷ 805306368 ∷ 0 ∷ 805339136 ∷ 2952806403 ∷ 805371904 ∷ []) (6 ∷ 0 ∷ []) } ∷
    record { nodes = (536920064 ∷ 536920064 ∷ 0 ∷ 536903680 ∷ 1342226433 ∷ 2952839170 ∷ 805355520 ∷ 536903680 ∷ 1610645511 ∷ 1073840134 ∷ []); form = 0; room = 6; expected = Accepted (536903680 ∷ 805306368 ∷ 536903680 ∷ 805339136 ∷ 1073758211 ∷ []) (5 ∷ 0 ∷ []) } ∷
    record { nodes = (268435456 ∷ 1342177280 ∷ 3489660928 ∷ 1879080960 ∷ 2952822786 ∷ 2147532800 ∷ 2416001024 ∷ 2952888324 ∷ 2147565568 ∷ 2684469248 ∷ 2684502016 ∷ 0 ∷ []); form = 3; room = 2; expected = Rejected 21 0 } ∷
    []

held_6 : tables_held cases_6 ≡ true
unfolding cases_6 rewriting fitting checked scanned ◌>>=◌ guard tree_at formulas plain negated core count size nodes_of nodes_from
held_6 = refl

cases_7 : List Table
cases_7 =
    record { nodes = (0 ∷ 2684354560 ∷ 268435456 ∷ 3489693697 ∷ 2415919104 ∷ 805339136 ∷ 1879097348 ∷ 3221291012 ∷ 2684452864 ∷ 0 ∷ 536920064 ∷ 3221372938 ∷ 536870912 ∷ []); form = 0; room = 1; expected = Accepted (536870912 ∷ []) (1 ∷ 0 ∷ []) } ∷
    record { nodes = (536887296 ∷ 1342177280 ∷ 2952806400 ∷ []); form = 2; room = 7; expected = Accepted (536887296 ∷ 536887296 ∷ 1342177281 ∷ 536887296 ∷ 2952822787 ∷ []) (5 ∷ 0 ∷ []) } ∷
    record { nodes = (536887296 ∷ 2147483648 ∷ 1610629121 ∷ 536870912 ∷ 0 ∷ 1073774594 ∷ 3489710084 ∷ 0 ∷ 536870912 ∷ 2952855558 ∷ 2684403712 ∷ []); form = 1; room = 3; expected = Accepted (536870912 ∷ 2684354560 ∷ []) (2 ∷ 0 ∷ []) } ∷
    record { nodes = (268435457 ∷ 2684354560 ∷ 2684354560 ∷ 1610645506 ∷ 2147532800 ∷ 1073807361 ∷ 2415919104 ∷ 1610694661 ∷ 2952904709 ∷ 536870912 ∷ 3221340167 ∷ 2684485632 ∷ 2684518400 ∷ []); form = 0; room = 2; expected = Rejected 19 0 } ∷
    []

held_7 : tables_held cases_7 ≡ true
unfolding cases_7 rewriting fitting checked scanned ◌>>=◌ guard tree_at formulas plain negated core count size nodes_of nodes_from
held_7 = refl

cases_8 : List Table
cases_8 =
    record { nodes = (0 ∷ 3221225472 ∷ 1879048193 ∷ 805306368 ∷ 1073774595 ∷ 2952822787 ∷ []); form = 2; room = 25; expected = Accepted (0 ∷ 805306368 ∷ 0 ∷ 805339136 ∷ 0 ∷ 805371904 ∷ 2952839173 ∷ 805404672 ∷ 1342193671 ∷ 805437440 ∷ 0 ∷ 805470208 ∷ 0 ∷ 805502976 ∷ 2952970253 ∷ 805535744 ∷ 805552128 ∷ 0 ∷ 1342439441 ∷ 805601280 ∷ 1342324755 ∷ 805634048 ∷ 0 ∷ 805666816 ∷ 2953134103 ∷ []) (25 ∷ 0 ∷ []) } ∷
    record { nodes = (4026531840 ∷ 0 ∷ 1342177281 ∷ 1610629121 ∷ 2684387328 ∷ 1073807363 ∷ 2147532800 ∷ 2684387328 ∷ 1073856514 ∷ 2952888327 ∷ 2147598336 ∷ 536887296 ∷ []); form = 2; room = 1; expected = Rejected 19 0 } ∷
    record { nodes = (0 ∷ 1610612736 ∷ 268435456 ∷ 536887296 ∷ 1610629121 ∷ 536870912 ∷ 2952855555 ∷ 3489742850 ∷ 2952888326 ∷ 536887296 ∷ 3489726466 ∷ []); form = 1; room = 9; expected = Accepted (0 ∷ 268435456 ∷ 1073741825 ∷ 268435456 ∷ 0 ∷ 1342226436 ∷ 1342210053 ∷ 268435456 ∷ 3489759239 ∷ []) (9 ∷ 0 ∷ []) } ∷
    record { nodes = (536903680 ∷ 2952790016 ∷ 1610629121 ∷ 4026548224 ∷ 536903680 ∷ 0 ∷ []); form = 1; room = 2; expected = Rejected 19 3 } ∷
    []

held_8 : tables_held cases_8 ≡ true
unfolding cases_8 rewriting fitting checked scanned ◌>>=◌ guard tree_at formulas plain negated core count size nodes_of nodes_from
held_8 = refl

cases_9 : List Table
cases_9 =
    record { nodes = (0 ∷ []); form = 0; room = 3; expected = Accepted (0 ∷ []) (1 ∷ 0 ∷ []) } ∷
    record { nodes = (536870912 ∷ 805306368 ∷ 268435456 ∷ 1879080960 ∷ 268435456 ∷ 536870912 ∷ 2415968256 ∷ []); form = 2; room = 18; expected = Accepted (0 ∷ 0 ∷ 805322752 ∷ 805339136 ∷ 536870912 ∷ 1342226436 ∷ 805388288 ∷ 536870912 ∷ 805421056 ∷ 0 ∷ 805453824 ∷ 1342308362 ∷ 805486592 ∷ 1342275596 ∷ 805519360 ∷ 805535744 ∷ 2952790031 ∷ 805568512 ∷ []) (18 ∷ 0 ∷ []) } ∷
    record { nodes = (536870912 ∷ 2952790016 ∷ 1342177281 ∷ 2952790018 ∷ 3489710082 ∷ 536870912 ∷ []); form = 2; room = 1; expected = Accepted (536870912 ∷ []) (1 ∷ 0 ∷ []) } ∷
    record { nodes = (0 ∷ 805306368 ∷ 3221241857 ∷ []); form = 2; room = 8; expected = Accepted (0 ∷ 805306368 ∷ 805322752 ∷ 0 ∷ 805355520 ∷ 805371904 ∷ 2952822789 ∷ 805404672 ∷ []) (8 ∷ 0 ∷ []) } ∷
    []

held_9 : tables_held cases_9 ≡ true
unfolding cases_9 rewriting fitting checked scanned ◌>>=◌ guard tree_at formulas plain negated core count size nodes_of nodes_from
held_9 = refl

cases_10 : List Table
cases_10 =
    record { nodes = (536870912 ∷ 536870912 ∷ 2147483648 ∷ 2684370944 ∷ 2684387328 ∷ 1073774594 ∷ 536887296 ∷ 805404672 ∷ 1342275589 ∷ 4026531840 ∷ 2684469248 ∷ []); form = 1; room = 2; expected = Rejected 19 9 } ∷
    record { nodes = (536870912 ∷ 1342177280 ∷ 2684370944 ∷ 2952822786 ∷ 3489693698 ∷ []); form = 0; room = 10; expected = Accepted (536870912 ∷ 536870912 ∷ 1342177281 ∷ 2684387328 ∷ 536870912 ∷ 536870912 ∷ 1342242821 ∷ 2684452864 ∷ 3489710087 ∷ []) (9 ∷ 0 ∷ []) } ∷
    record { nodes = (268435456 ∷ 1073741824 ∷ 1610612737 ∷ 1342210048 ∷ 0 ∷ 2415919104 ∷ 2952839171 ∷ 3489677316 ∷ 268435456 ∷ 1342291976 ∷ 805437440 ∷ 407815771 ∷ []); form = 0; room = 0; expected = Rejected 19 11 } ∷
    record { nodes = (268435456 ∷ 268435456 ∷ 536920064 ∷ 2147516416 ∷ 1610612738 ∷ 3489693698 ∷ 2952839172 ∷ 3221274628 ∷ 268435456 ∷ 536870912 ∷ []); form = 2; room = 2; expected = Accepted (536870912 ∷ []) (1 ∷ 0 ∷ []) } ∷
    []

held_10 : tables_held cases_10 ≡ true
unfolding cases_10 rewriting fitting checked scanned ◌>>=◌ guard tree_at formulas plain negated core count size nodes_of nodes_from
held_10 = refl

cases_11 : List Table
cases_11 =
    record { nodes = (268435456 ∷ 1073741824 ∷ 0 ∷ 2952806402 ∷ 1342226435 ∷ 2952839172 ∷ 2415968256 ∷ 1879130119 ∷ 805404672 ∷ 2147549184 ∷ 1610760201 ∷ 1879212040 ∷ 536887296 ∷ 2416099328 ∷ []); form = 1; room = 2; expected = Rejected 19 7 } ∷
    record { nodes = (536903680 ∷ []); form = 1; room = 3; expected = Accepted (536903680 ∷ []) (1 ∷ 0 ∷ []) } ∷
    record { nodes = (536887296 ∷ 1879048192 ∷ 0 ∷ 536870912 ∷ []); form = 0; room = 2; expected = Accepted (536870912 ∷ []) (1 ∷ 0 ∷ []) } ∷
    record { nodes = (268435456 ∷ 3221225472 ∷ 1342193665 ∷ 2952806402 ∷ 0 ∷ 1879080964 ∷ 805388288 ∷ 1610694660 ∷ 3489759239 ∷ 268435456 ∷ []); form = 0; room = 3; expected = Accepted (268435456 ∷ []) (1 ∷ 0 ∷ []) } ∷
    []

held_11 : tables_held cases_11 ≡ true
unfolding cases_11 rewriting fitting checked scanned ◌>>=◌ guard tree_at formulas plain negated core count size nodes_of nodes_from
held_11 = refl

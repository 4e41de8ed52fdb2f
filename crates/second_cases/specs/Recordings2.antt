-- Written by the second converter: cases with its answers, each computed from the definitions.
use Rattle.std.specs.Prelude.{true, List, [], ◌∷◌, ◌≡◌, refl}
use Rattle.node.specs.Result.{◌>>=◌, guard}
use Rattle.node.specs.Table.{formulas, tree_at, scanned, checked}
use Rattle.recordings.specs.Limits.{told}
use Rattle.bits.specs.Bits.{bit_at, number}
use Rattle.recordings.specs.Recording.{blank, filled, readable}
use Rattle.recordings.specs.Lasso.{next}
use Rattle.rows.specs.Row.{sweep_from, around, row, tabulate, joined}
use Rattle.evaluator.specs.Evaluation.{evaluation}
use Rattle.second_cases.specs.Held.{Accepted, Rejected, Recording, recordings_held}

cases_0 : List Recording
cases_0 =
    record { nodes = ([]); signals = 2; bytes = (0 ∷ 16 ∷ 0 ∷ 2 ∷ 192 ∷ []); room = 2; expected = Rejected 19 0 } ∷
    record { nodes = (4026564608 ∷ 1073741824 ∷ 0 ∷ 2147500032 ∷ []); signals = 3; bytes = (0 ∷ 176 ∷ 0 ∷ 3 ∷ 217 ∷ 117 ∷ 228 ∷ 193 ∷ 128 ∷ []); room = 0; expected = Rejected 19 0 } ∷
    record { nodes = (536870912 ∷ 536870912 ∷ 3221225473 ∷ 268435456 ∷ 2684403712 ∷ 1610678276 ∷ 0 ∷ 536870912 ∷ 3489775621 ∷ 1879113736 ∷ []); signals = 1; bytes = (0 ∷ 192 ∷ 5 ∷ 1 ∷ 185 ∷ 160 ∷ []); room = 19; expected = Rejected 18 0 } ∷
    record { nodes = (536887296 ∷ 1073741824 ∷ 536903680 ∷ 2147516416 ∷ []); signals = 3; bytes = (0 ∷ 48 ∷ 1 ∷ 3 ∷ 253 ∷ 0 ∷ []); room = 6; expected = Accepted (224 ∷ 224 ∷ 192 ∷ 160 ∷ []) (4 ∷ 3 ∷ []) } ∷
    []

held_0 : recordings_held cases_0 ≡ true
unfolding cases_0 evaluation ◌>>=◌ guard checked scanned readable filled blank told tree_at formulas number bit_at next sweep_from around row tabulate joined
held_0 = refl

cases_1 : List Recording
cases_1 =
    record { nodes = (536903680 ∷ 268435456 ∷ 536920064 ∷ 805306368 ∷ 536887296 ∷ 3221241859 ∷ 1610661892 ∷ 536903680 ∷ 2952871943 ∷ 1610727431 ∷ 1342324744 ∷ []); signals = 4; bytes = (0 ∷ 48 ∷ 0 ∷ 4 ∷ 24 ∷ 208 ∷ []); room = 10; expected = Rejected 18 0 } ∷
    record { nodes = (536870912 ∷ 268435456 ∷ 3489660928 ∷ 0 ∷ 1879080961 ∷ 2952855554 ∷ 536870912 ∷ 1610711046 ∷ 2416017408 ∷ []); signals = 1; bytes = (0 ∷ 64 ∷ 3 ∷ 0 ∷ []); room = 2; expected = Rejected 23 0 } ∷
    record { nodes = (268435456 ∷ 0 ∷ 2415919104 ∷ 1879064577 ∷ []); signals = 3; bytes = (0 ∷ 16 ∷ 0 ∷ 3 ∷ []); room = 0; expected = Rejected 20 4 } ∷
    record { nodes = (0 ∷ 1342177280 ∷ 536870912 ∷ 2147516416 ∷ 1610645505 ∷ 268435456 ∷ 1342226436 ∷ []); signals = 3; bytes = (0 ∷ 16 ∷ 0 ∷ 3 ∷ 0 ∷ []); room = 9; expected = Accepted (128 ∷ 128 ∷ 0 ∷ 0 ∷ 128 ∷ 0 ∷ 128 ∷ []) (7 ∷ 3 ∷ []) } ∷
    []

held_1 : recordings_held cases_1 ≡ true
unfolding cases_1 evaluation ◌>>=◌ guard checked scanned readable filled blank told tree_at formulas number bit_at next sweep_from around row tabulate joined
held_1 = refl

cases_2 : List Recording
cases_2 =
    record { nodes = (536870912 ∷ 1879048192 ∷ 536887296 ∷ 805322752 ∷ 2415968256 ∷ 1342210050 ∷ 805371904 ∷ 1342242820 ∷ 1879162882 ∷ 805404672 ∷ 1342324743 ∷ 3489808392 ∷ []); signals = 2; bytes = (0 ∷ 128 ∷ 6 ∷ 2 ∷ 166 ∷ 10 ∷ []); room = 12; expected = Accepted (211 ∷ 255 ∷ 32 ∷ 0 ∷ 0 ∷ 32 ∷ 255 ∷ 0 ∷ 223 ∷ 0 ∷ 0 ∷ 223 ∷ []) (12 ∷ 2 ∷ []) } ∷
    record { nodes = (536870912 ∷ 1879048192 ∷ 1879064576 ∷ 2147516416 ∷ 2415935488 ∷ 3489726468 ∷ 805322752 ∷ 1073840132 ∷ 3221307399 ∷ 1073872902 ∷ 805371904 ∷ 1610760201 ∷ 2416066560 ∷ []); signals = 3; bytes = (0 ∷ 48 ∷ 1 ∷ 3 ∷ 126 ∷ 4 ∷ []); room = 0; expected = Rejected 20 5 } ∷
    record { nodes = (536887296 ∷ 1879048192 ∷ 268435456 ∷ 2684387328 ∷ 536887296 ∷ 1879097346 ∷ 2684420096 ∷ 2952855555 ∷ 2684436480 ∷ []); signals = 3; bytes = (0 ∷ 32 ∷ 1 ∷ 3 ∷ 68 ∷ []); room = 11; expected = Accepted (128 ∷ 192 ∷ 0 ∷ 0 ∷ 128 ∷ 192 ∷ 128 ∷ 0 ∷ 192 ∷ []) (9 ∷ 3 ∷ []) } ∷
    record { nodes = (536870912 ∷ 2147483648 ∷ 3221225472 ∷ []); signals = 4; bytes = (0 ∷ 32 ∷ 0 ∷ 4 ∷ 219 ∷ []); room = 5; expected = Accepted (192 ∷ 192 ∷ 192 ∷ []) (3 ∷ 4 ∷ []) } ∷
    []

held_2 : recordings_held cases_2 ≡ true
unfolding cases_2 evaluation ◌>>=◌ guard checked scanned readable filled blank told tree_at formulas number bit_at next sweep_from around row tabulate joined
held_2 = refl

cases_3 : List Recording
cases_3 =
    record { nodes = (0 ∷ []); signals = 4; bytes = (0 ∷ 96 ∷ 5 ∷ 1 ∷ []); room = 0; expected = Rejected 20 4 } ∷
    record { nodes = (268435456 ∷ 2952790016 ∷ 1879048192 ∷ 2952806400 ∷ 0 ∷ 268435456 ∷ 805388288 ∷ 1342242821 ∷ 0 ∷ 805322752 ∷ 268435456 ∷ 536870912 ∷ []); signals = 0; bytes = (0 ∷ 176 ∷ 4 ∷ 0 ∷ []); room = 2; expected = Rejected 19 11 } ∷
    record { nodes = (0 ∷ 1073741824 ∷ 1879064576 ∷ 2684370944 ∷ 805322752 ∷ 805355520 ∷ []); signals = 4; bytes = (128 ∷ 112 ∷ 1 ∷ 4 ∷ 77 ∷ 149 ∷ 225 ∷ []); room = 2; expected = Rejected 20 0 } ∷
    record { nodes = (536870912 ∷ 805306368 ∷ 536870912 ∷ 2147483648 ∷ 268435456 ∷ []); signals = 1; bytes = (0 ∷ 48 ∷ 0 ∷ 1 ∷ 64 ∷ []); room = 5; expected = Accepted (64 ∷ 160 ∷ 64 ∷ 128 ∷ 0 ∷ []) (5 ∷ 1 ∷ []) } ∷
    []

held_3 : recordings_held cases_3 ≡ true
unfolding cases_3 evaluation ◌>>=◌ guard checked scanned readable filled blank told tree_at formulas number bit_at next sweep_from around row tabulate joined
held_3 = refl

cases_4 : List Recording
cases_4 =
    record { nodes = (536870912 ∷ 268435456 ∷ 2952806400 ∷ 3489677312 ∷ 1879097346 ∷ 3489677315 ∷ 1879113732 ∷ 3221291014 ∷ 536903680 ∷ []); signals = 4; bytes = (0 ∷ 64 ∷ 1 ∷ 4 ∷ 144 ∷ 98 ∷ []); room = 10; expected = Accepted (128 ∷ 0 ∷ 128 ∷ 128 ∷ 240 ∷ 128 ∷ 240 ∷ 240 ∷ 48 ∷ []) (9 ∷ 4 ∷ []) } ∷
    record { nodes = (4026548224 ∷ 1342177280 ∷ []); signals = 2; bytes = (0 ∷ 64 ∷ 2 ∷ 2 ∷ 182 ∷ []); room = 1; expected = Rejected 19 0 } ∷
    record { nodes = (0 ∷ []); signals = 2; bytes = (0 ∷ 144 ∷ 2 ∷ 2 ∷ 184 ∷ 183 ∷ 128 ∷ []); room = 4; expected = Accepted (255 ∷ 128 ∷ []) (1 ∷ 2 ∷ []) } ∷
    record { nodes = (0 ∷ 1610612736 ∷ []); signals = 0; bytes = (0 ∷ 0 ∷ 5 ∷ 0 ∷ []); room = 2; expected = Rejected 20 0 } ∷
    []

held_4 : recordings_held cases_4 ≡ true
unfolding cases_4 evaluation ◌>>=◌ guard checked scanned readable filled blank told tree_at formulas number bit_at next sweep_from around row tabulate joined
held_4 = refl

cases_5 : List Recording
cases_5 =
    record { nodes = (0 ∷ 1073741824 ∷ 536903680 ∷ 0 ∷ 536903680 ∷ 268435456 ∷ 268435456 ∷ 1610678272 ∷ 2416033792 ∷ []); signals = 3; bytes = (0 ∷ 16 ∷ 0 ∷ 3 ∷ 0 ∷ []); room = 9; expected = Accepted (128 ∷ 128 ∷ 0 ∷ 128 ∷ 0 ∷ 0 ∷ 0 ∷ 128 ∷ 128 ∷ []) (9 ∷ 3 ∷ []) } ∷
    record { nodes = (0 ∷ 1073741824 ∷ 805306368 ∷ []); signals = 4; bytes = (0 ∷ 96 ∷ 0 ∷ 4 ∷ 200 ∷ 51 ∷ 102 ∷ 0 ∷ []); room = 1; expected = Rejected 20 8 } ∷
    record { nodes = (268435456 ∷ []); signals = 1; bytes = (0 ∷ 176 ∷ 6 ∷ 1 ∷ 46 ∷ 64 ∷ []); room = 1; expected = Rejected 18 0 } ∷
    record { nodes = (536870912 ∷ 1342177280 ∷ 1610629121 ∷ 1610645506 ∷ 1073790979 ∷ 1342242820 ∷ 1342259205 ∷ 1610711046 ∷ 1342291975 ∷ 1610743816 ∷ 1879195657 ∷ 1879212042 ∷ 1879228427 ∷ 1342373900 ∷ []); signals = 4; bytes = (0 ∷ 80 ∷ 0 ∷ 4 ∷ 18 ∷ 34 ∷ 82 ∷ []); room = 0; expected = Rejected 20 6 } ∷
    []

held_5 : recordings_held cases_5 ≡ true
unfolding cases_5 evaluation ◌>>=◌ guard checked scanned readable filled blank told tree_at formulas number bit_at next sweep_from around row tabulate joined
held_5 = refl

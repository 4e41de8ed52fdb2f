-- Written by the second converter: cases with its answers, each computed from the definitions.
use Rattle.std.specs.Prelude.{true, List, [], ◌∷◌, ◌≡◌, refl}
use Rattle.node.specs.Result.{◌>>=◌, guard}
use Rattle.node.specs.Table.{formulas, tree_at, scanned, checked}
use Rattle.recordings.specs.Limits.{told}
use Rattle.bits.specs.Bits.{bit_at, number}
use Rattle.recordings.specs.Recording.{blank, filled, readable}
use Rattle.recordings.specs.Lasso.{next}
use Rattle.rows.specs.Row.{sweep_from, around, row, tabulate, joined}
use Rattle.evaluator.specs.Evaluation.{evaluation}
use Rattle.second_cases.specs.Held.{Accepted, Rejected, Recording, recordings_held}

cases_0 : List Recording
cases_0 =
    record { nodes = (536870912 ∷ 2684354560 ∷ 2147483648 ∷ 268435456 ∷ 3489693697 ∷ []); signals = 1; bytes = (0 ∷ 64 ∷ 1 ∷ 1 ∷ 0 ∷ []); room = 5; expected = Accepted (0 ∷ 0 ∷ 0 ∷ 0 ∷ 0 ∷ []) (5 ∷ 1 ∷ []) } ∷
    record { nodes = (268435456 ∷ 1073741824 ∷ 1610629120 ∷ 2415951872 ∷ 1342226434 ∷ 3221274627 ∷ 3221274628 ∷ 805371904 ∷ 0 ∷ 3221291014 ∷ 1879162889 ∷ 2147614720 ∷ 1879228421 ∷ 1073922058 ∷ []); signals = 3; bytes = (0 ∷ 128 ∷ 3 ∷ 3 ∷ 222 ∷ 65 ∷ 229 ∷ []); room = 15; expected = Accepted (0 ∷ 0 ∷ 255 ∷ 255 ∷ 255 ∷ 255 ∷ 255 ∷ 0 ∷ 255 ∷ 255 ∷ 0 ∷ 255 ∷ 255 ∷ 0 ∷ []) (14 ∷ 3 ∷ []) } ∷
    record { nodes = (536903680 ∷ 536870912 ∷ 536870912 ∷ 3489677312 ∷ 268435456 ∷ 2147532800 ∷ 1342259200 ∷ 536920064 ∷ 1879146503 ∷ 268435456 ∷ 1342324745 ∷ 536903680 ∷ 0 ∷ 0 ∷ []); signals = 4; bytes = (0 ∷ 144 ∷ 4 ∷ 4 ∷ 34 ∷ 136 ∷ 18 ∷ 33 ∷ 144 ∷ []); room = 30; expected = Accepted (198 ∷ 0 ∷ 48 ∷ 128 ∷ 48 ∷ 128 ∷ 198 ∷ 0 ∷ 0 ∷ 0 ∷ 140 ∷ 0 ∷ 206 ∷ 0 ∷ 9 ∷ 128 ∷ 56 ∷ 0 ∷ 0 ∷ 0 ∷ 0 ∷ 0 ∷ 198 ∷ 0 ∷ 255 ∷ 128 ∷ 255 ∷ 128 ∷ []) (14 ∷ 4 ∷ []) } ∷
    record { nodes = (536870912 ∷ 1073741824 ∷ 0 ∷ 1073774594 ∷ 3221241858 ∷ 2147549184 ∷ 805371904 ∷ 268435456 ∷ 1610727429 ∷ 536870912 ∷ 1879195656 ∷ 2952953865 ∷ 1879228427 ∷ []); signals = 0; bytes = (0 ∷ 144 ∷ 0 ∷ 0 ∷ []); room = 1; expected = Rejected 19 0 } ∷
    []

held_0 : recordings_held cases_0 ≡ true
unfolding cases_0 evaluation ◌>>=◌ guard checked scanned readable filled blank told tree_at formulas number bit_at next sweep_from around row tabulate joined
held_0 = refl

cases_1 : List Recording
cases_1 =
    record { nodes = (536887296 ∷ 536870912 ∷ []); signals = 2; bytes = (0 ∷ 128 ∷ 1 ∷ 2 ∷ 169 ∷ 34 ∷ []); room = 2; expected = Accepted (16 ∷ 229 ∷ []) (2 ∷ 2 ∷ []) } ∷
    record { nodes = (268435456 ∷ 3489660928 ∷ 805306368 ∷ 3489660930 ∷ 3489710081 ∷ 2952839172 ∷ 2416001024 ∷ 536887296 ∷ 2416017408 ∷ 1342275585 ∷ 1610727432 ∷ 536887296 ∷ []); signals = 4; bytes = (0 ∷ 160 ∷ 3 ∷ 4 ∷ 107 ∷ 154 ∷ 143 ∷ 202 ∷ 231 ∷ []); room = 24; expected = Accepted (0 ∷ 0 ∷ 0 ∷ 0 ∷ 255 ∷ 192 ∷ 255 ∷ 192 ∷ 255 ∷ 192 ∷ 255 ∷ 192 ∷ 255 ∷ 192 ∷ 134 ∷ 192 ∷ 255 ∷ 192 ∷ 255 ∷ 192 ∷ 255 ∷ 192 ∷ 134 ∷ 192 ∷ []) (12 ∷ 4 ∷ []) } ∷
    record { nodes = ([]); signals = 2; bytes = (0 ∷ 80 ∷ 3 ∷ 2 ∷ 28 ∷ 192 ∷ []); room = 2; expected = Rejected 19 0 } ∷
    record { nodes = (268435456 ∷ 536870912 ∷ 2684354560 ∷ 2684387328 ∷ 0 ∷ 2147516416 ∷ 1073790982 ∷ 1610694660 ∷ 1073823751 ∷ 536870912 ∷ 2952904710 ∷ 1073905672 ∷ 2416099328 ∷ 1610776580 ∷ []); signals = 1; bytes = (0 ∷ 32 ∷ 0 ∷ 1 ∷ 0 ∷ []); room = 0; expected = Rejected 19 6 } ∷
    []

held_1 : recordings_held cases_1 ≡ true
unfolding cases_1 evaluation ◌>>=◌ guard checked scanned readable filled blank told tree_at formulas number bit_at next sweep_from around row tabulate joined
held_1 = refl

cases_2 : List Recording
cases_2 =
    record { nodes = (0 ∷ 0 ∷ 536887296 ∷ 805306368 ∷ 805339136 ∷ 2952839172 ∷ 536887296 ∷ 2147581952 ∷ 2952871936 ∷ 3221356552 ∷ []); signals = 2; bytes = (0 ∷ 160 ∷ 8 ∷ 2 ∷ 105 ∷ 147 ∷ 96 ∷ []); room = 22; expected = Accepted (255 ∷ 192 ∷ 255 ∷ 192 ∷ 149 ∷ 128 ∷ 0 ∷ 0 ∷ 106 ∷ 64 ∷ 106 ∷ 64 ∷ 149 ∷ 128 ∷ 43 ∷ 64 ∷ 255 ∷ 192 ∷ 255 ∷ 192 ∷ []) (10 ∷ 2 ∷ []) } ∷
    record { nodes = (268435456 ∷ 3221225472 ∷ 536870912 ∷ 3221225473 ∷ 3489726466 ∷ 536870912 ∷ 2684403712 ∷ 536870912 ∷ 1342291974 ∷ 805404672 ∷ 2147631104 ∷ 3489792009 ∷ 1342357514 ∷ 3221389319 ∷ []); signals = 0; bytes = (0 ∷ 144 ∷ 8 ∷ 1 ∷ []); room = 1; expected = Rejected 19 2 } ∷
    record { nodes = (536870912 ∷ 1879048192 ∷ 1342193664 ∷ 3221258241 ∷ 268435456 ∷ 268435456 ∷ 2415968256 ∷ 536870912 ∷ 0 ∷ 2684469248 ∷ 1342324743 ∷ 805453824 ∷ 536870912 ∷ 536870912 ∷ []); signals = 1; bytes = (0 ∷ 144 ∷ 6 ∷ 2 ∷ []); room = 2; expected = Rejected 20 0 } ∷
    record { nodes = (536870912 ∷ 805306368 ∷ 3489677312 ∷ 3489693696 ∷ 1342193667 ∷ 2415935489 ∷ 805388288 ∷ 536870912 ∷ 536870912 ∷ 2952904712 ∷ 0 ∷ 2147631104 ∷ 536870912 ∷ []); signals = 1; bytes = (0 ∷ 112 ∷ 5 ∷ 1 ∷ 238 ∷ []); room = 2; expected = Rejected 19 5 } ∷
    []

held_2 : recordings_held cases_2 ≡ true
unfolding cases_2 evaluation ◌>>=◌ guard checked scanned readable filled blank told tree_at formulas number bit_at next sweep_from around row tabulate joined
held_2 = refl

cases_3 : List Recording
cases_3 =
    record { nodes = (268435456 ∷ 3221225472 ∷ 805306368 ∷ 1073758208 ∷ 1342193665 ∷ 536870912 ∷ 536870912 ∷ 1073774596 ∷ 0 ∷ []); signals = 1; bytes = (0 ∷ 112 ∷ 5 ∷ 1 ∷ 142 ∷ 0 ∷ []); room = 0; expected = Rejected 20 6 } ∷
    record { nodes = ([]); signals = 4; bytes = (0 ∷ 192 ∷ 7 ∷ 4 ∷ 134 ∷ 229 ∷ 252 ∷ 200 ∷ 112 ∷ 107 ∷ []); room = 1; expected = Rejected 19 0 } ∷
    record { nodes = (268435456 ∷ 2415919104 ∷ []); signals = 2; bytes = (0 ∷ 32 ∷ 0 ∷ 2 ∷ 128 ∷ []); room = 1; expected = Rejected 18 0 } ∷
    record { nodes = (0 ∷ 805306368 ∷ 2147483648 ∷ 2952806400 ∷ 3221274624 ∷ 536870912 ∷ 1610678276 ∷ 805404672 ∷ 268435456 ∷ 2684469248 ∷ 1879146505 ∷ []); signals = 4; bytes = (0 ∷ 32 ∷ 0 ∷ 4 ∷ 172 ∷ []); room = 11; expected = Accepted (192 ∷ 0 ∷ 192 ∷ 192 ∷ 192 ∷ 192 ∷ 192 ∷ 0 ∷ 0 ∷ 0 ∷ 0 ∷ []) (11 ∷ 4 ∷ []) } ∷
    []

held_3 : recordings_held cases_3 ≡ true
unfolding cases_3 evaluation ◌>>=◌ guard checked scanned readable filled blank told tree_at formulas number bit_at next sweep_from around row tabulate joined
held_3 = refl

cases_4 : List Recording
cases_4 =
    record { nodes = (536870912 ∷ 2147483648 ∷ 805322752 ∷ 536870912 ∷ 2415968256 ∷ []); signals = 1; bytes = (0 ∷ 96 ∷ 2 ∷ 1 ∷ 68 ∷ []); room = 4; expected = Rejected 18 0 } ∷
    record { nodes = (268435456 ∷ 2952790016 ∷ 1342193664 ∷ 2684354560 ∷ 1879064579 ∷ 2147516416 ∷ 1610694661 ∷ 1073807361 ∷ 1610645512 ∷ 268435456 ∷ 1342324737 ∷ 2684354560 ∷ []); signals = 1; bytes = (0 ∷ 112 ∷ 4 ∷ 1 ∷ 170 ∷ []); room = 2; expected = Rejected 19 8 } ∷
    record { nodes = (0 ∷ []); signals = 3; bytes = (0 ∷ 192 ∷ 4 ∷ 3 ∷ 14 ∷ 89 ∷ 132 ∷ 128 ∷ 240 ∷ []); room = 1; expected = Rejected 18 0 } ∷
    record { nodes = (0 ∷ 0 ∷ 536870912 ∷ 1610645505 ∷ []); signals = 0; bytes = (0 ∷ 128 ∷ 5 ∷ 0 ∷ []); room = 1; expected = Rejected 19 2 } ∷
    []

held_4 : recordings_held cases_4 ≡ true
unfolding cases_4 evaluation ◌>>=◌ guard checked scanned readable filled blank told tree_at formulas number bit_at next sweep_from around row tabulate joined
held_4 = refl

cases_5 : List Recording
cases_5 =
    record { nodes = (536870912 ∷ 805306368 ∷ 2684354560 ∷ 3489660928 ∷ 2415935488 ∷ 536870912 ∷ 805388288 ∷ 1610678276 ∷ 1073856517 ∷ 1879179272 ∷ 268435456 ∷ 536870912 ∷ 1342357514 ∷ []); signals = 1; bytes = (0 ∷ 48 ∷ 0 ∷ 0 ∷ []); room = 2; expected = Rejected 23 0 } ∷
    record { nodes = ([]); signals = 2; bytes = (0 ∷ 0 ∷ 10 ∷ 2 ∷ 133 ∷ 222 ∷ 118 ∷ []); room = 1; expected = Rejected 19 0 } ∷
    record { nodes = (536870912 ∷ 2415919104 ∷ 1610612736 ∷ 3221241856 ∷ 805322752 ∷ 1073807362 ∷ 53390752 ∷ 1610694660 ∷ 1879097350 ∷ 2415919104 ∷ 2147631104 ∷ 2147549184 ∷ 2416001024 ∷ 2952953866 ∷ []); signals = 2; bytes = (0 ∷ 96 ∷ 3 ∷ 2 ∷ 99 ∷ 176 ∷ []); room = 1; expected = Rejected 19 6 } ∷
    record { nodes = (0 ∷ 1610612736 ∷ 3221241857 ∷ 1342193666 ∷ 1073774595 ∷ 3221291011 ∷ 1610678276 ∷ 536870912 ∷ []); signals = 4; bytes = (0 ∷ 96 ∷ 1 ∷ 4 ∷ 53 ∷ 140 ∷ 70 ∷ []); room = 9; expected = Accepted (252 ∷ 252 ∷ 252 ∷ 252 ∷ 252 ∷ 252 ∷ 252 ∷ 48 ∷ []) (8 ∷ 4 ∷ []) } ∷
    []

held_5 : recordings_held cases_5 ≡ true
unfolding cases_5 evaluation ◌>>=◌ guard checked scanned readable filled blank told tree_at formulas number bit_at next sweep_from around row tabulate joined
held_5 = refl

cases_6 : List Recording
cases_6 =
    record { nodes = (536903680 ∷ 805306369 ∷ []); signals = 3; bytes = (0 ∷ 192 ∷ 9 ∷ 3 ∷ 48 ∷ 85 ∷ []); room = 0; expected = Rejected 19 1 } ∷
    record { nodes = (0 ∷ 1610612736 ∷ 2415919104 ∷ 1342177281 ∷ 2952839170 ∷ 2684370944 ∷ 2147532800 ∷ 536870912 ∷ []); signals = 3; bytes = (0 ∷ 80 ∷ 4 ∷ 3 ∷ 31 ∷ 130 ∷ []); room = 8; expected = Accepted (248 ∷ 248 ∷ 248 ∷ 248 ∷ 248 ∷ 248 ∷ 248 ∷ 96 ∷ []) (8 ∷ 3 ∷ []) } ∷
    record { nodes = (536870912 ∷ 2415919104 ∷ 2684354560 ∷ 3489660930 ∷ 805339136 ∷ 1342242818 ∷ 2416001024 ∷ 2684452864 ∷ 805388288 ∷ 3489710088 ∷ 3489808392 ∷ 1073889289 ∷ 2147631104 ∷ 2147663872 ∷ []); signals = 0; bytes = (0 ∷ 48 ∷ 2 ∷ 0 ∷ []); room = 2; expected = Rejected 19 0 } ∷
    record { nodes = (268435456 ∷ 3489660928 ∷ 2952806400 ∷ 268435456 ∷ 2415968256 ∷ []); signals = 4; bytes = (0 ∷ 32 ∷ 1 ∷ 4 ∷ 213 ∷ []); room = 4; expected = Rejected 18 0 } ∷
    []

held_6 : recordings_held cases_6 ≡ true
unfolding cases_6 evaluation ◌>>=◌ guard checked scanned readable filled blank told tree_at formulas number bit_at next sweep_from around row tabulate joined
held_6 = refl

cases_7 : List Recording
cases_7 =
    record { nodes = (268435456 ∷ 1610612736 ∷ 2147483648 ∷ 1342177281 ∷ 1073790979 ∷ 2684420096 ∷ []); signals = 3; bytes = (0 ∷ 80 ∷ 4 ∷ 3 ∷ 121 ∷ 126 ∷ []); room = 8; expected = Accepted (0 ∷ 248 ∷ 0 ∷ 248 ∷ 248 ∷ 248 ∷ []) (6 ∷ 3 ∷ []) } ∷
    record { nodes = (536870912 ∷ 3221225472 ∷ 1879048192 ∷ 536870912 ∷ 1610629123 ∷ 1342210051 ∷ 1342226434 ∷ 536870912 ∷ 3489775623 ∷ 1610727432 ∷ 2416050176 ∷ []); signals = 0; bytes = (0 ∷ 0 ∷ 4 ∷ 0 ∷ []); room = 0; expected = Rejected 19 0 } ∷
    record { nodes = (268435456 ∷ 1879048192 ∷ 1610612737 ∷ 1073758208 ∷ 268435456 ∷ 2147532800 ∷ 1610678276 ∷ 3489759238 ∷ 1610694661 ∷ 805421056 ∷ 2416050176 ∷ 268435456 ∷ 2684485632 ∷ []); signals = 2; bytes = (0 ∷ 0 ∷ 3 ∷ 2 ∷ 241 ∷ 250 ∷ 44 ∷ []); room = 2; expected = Rejected 20 0 } ∷
    record { nodes = (536870912 ∷ 2952790016 ∷ 3489660928 ∷ 3489677312 ∷ 1073807362 ∷ 1879080960 ∷ 268435456 ∷ 268435456 ∷ 3221323782 ∷ 2147598336 ∷ 1879162888 ∷ 1879179273 ∷ 2416082944 ∷ []); signals = 1; bytes = (0 ∷ 48 ∷ 1 ∷ 0 ∷ []); room = 2; expected = Rejected 19 4 } ∷
    []

held_7 : recordings_held cases_7 ≡ true
unfolding cases_7 evaluation ◌>>=◌ guard checked scanned readable filled blank told tree_at formulas number bit_at next sweep_from around row tabulate joined
held_7 = refl

cases_8 : List Recording
cases_8 =
    record { nodes = ([]); signals = 2; bytes = (0 ∷ []); room = 1; expected = Rejected 19 0 } ∷
    record { nodes = (268435456 ∷ 268435456 ∷ 805306368 ∷ 2415919104 ∷ 1073774592 ∷ 2952855552 ∷ 0 ∷ 1610694660 ∷ 2952871942 ∷ []); signals = 4; bytes = (0 ∷ 64 ∷ 3 ∷ 4 ∷ 213 ∷ 64 ∷ []); room = 11; expected = Accepted (0 ∷ 0 ∷ 240 ∷ 0 ∷ 0 ∷ 0 ∷ 240 ∷ 240 ∷ 240 ∷ []) (9 ∷ 4 ∷ []) } ∷
    record { nodes = (536870912 ∷ []); signals = 2; bytes = (0 ∷ 96 ∷ 2 ∷ 2 ∷ 13 ∷ 16 ∷ []); room = 2; expected = Accepted (32 ∷ []) (1 ∷ 2 ∷ []) } ∷
    record { nodes = (0 ∷ 1073741824 ∷ 0 ∷ 4026531840 ∷ 1610645506 ∷ 536870912 ∷ 536870912 ∷ 1342275588 ∷ 1610694663 ∷ 3489742854 ∷ []); signals = 1; bytes = (0 ∷ 64 ∷ 0 ∷ 1 ∷ 80 ∷ []); room = 2; expected = Rejected 19 3 } ∷
    []

held_8 : recordings_held cases_8 ≡ true
unfolding cases_8 evaluation ◌>>=◌ guard checked scanned readable filled blank told tree_at formulas number bit_at next sweep_from around row tabulate joined
held_8 = refl

cases_9 : List Recording
cases_9 =
    record { nodes = (536887296 ∷ 2415919104 ∷ 536903680 ∷ 2952806400 ∷ 1073774595 ∷ 536870912 ∷ 2684403712 ∷ 2952855558 ∷ []); signals = 3; bytes = (0 ∷ 144 ∷ 1 ∷ 3 ∷ 254 ∷ 225 ∷ 183 ∷ 96 ∷ []); room = 18; expected = Accepted (215 ∷ 128 ∷ 0 ∷ 0 ∷ 225 ∷ 128 ∷ 215 ∷ 128 ∷ 193 ∷ 128 ∷ 247 ∷ 0 ∷ 255 ∷ 128 ∷ 255 ∷ 128 ∷ []) (8 ∷ 3 ∷ []) } ∷
    record { nodes = (268435456 ∷ 1610612736 ∷ 1879064577 ∷ 2684370944 ∷ 3489693699 ∷ 1879097346 ∷ []); signals = 0; bytes = (0 ∷ 96 ∷ 2 ∷ 0 ∷ []); room = 8; expected = Accepted (0 ∷ 252 ∷ 252 ∷ 252 ∷ 252 ∷ 252 ∷ []) (6 ∷ 0 ∷ []) } ∷
    record { nodes = (536870912 ∷ 809666574 ∷ 536887296 ∷ 2684370944 ∷ 2415968256 ∷ 805371904 ∷ []); signals = 3; bytes = (0 ∷ 192 ∷ 7 ∷ 3 ∷ 14 ∷ 183 ∷ 135 ∷ 148 ∷ 208 ∷ []); room = 1; expected = Rejected 19 1 } ∷
    record { nodes = (0 ∷ 3489660928 ∷ 2147483648 ∷ 1342177282 ∷ 536870912 ∷ 2952855555 ∷ 1610694659 ∷ []); signals = 2; bytes = (0 ∷ 80 ∷ 127 ∷ 2 ∷ 179 ∷ 0 ∷ []); room = 2; expected = Rejected 20 0 } ∷
    []

held_9 : recordings_held cases_9 ≡ true
unfolding cases_9 evaluation ◌>>=◌ guard checked scanned readable filled blank told tree_at formulas number bit_at next sweep_from around row tabulate joined
held_9 = refl

cases_10 : List Recording
cases_10 =
    record { nodes = ([]); signals = 1; bytes = (0 ∷ 192 ∷ 4 ∷ 1 ∷ 234 ∷ 193 ∷ []); room = 1; expected = Rejected 19 0 } ∷
    record { nodes = (536870912 ∷ 1342177280 ∷ 1610612737 ∷ 0 ∷ 1073758209 ∷ 2684420096 ∷ 1342242819 ∷ 2416017408 ∷ 1879130118 ∷ 1073856519 ∷ 2952921089 ∷ 1879179274 ∷ []); signals = 1; bytes = (0 ∷ 32 ∷ 0 ∷ 1 ∷ 0 ∷ []); room = 13; expected = Accepted (0 ∷ 0 ∷ 192 ∷ 192 ∷ 0 ∷ 0 ∷ 192 ∷ 192 ∷ 0 ∷ 192 ∷ 0 ∷ 192 ∷ []) (12 ∷ 1 ∷ []) } ∷
    record { nodes = (268435456 ∷ 2684354560 ∷ 1879048192 ∷ 3221258240 ∷ []); signals = 1; bytes = (0 ∷ 80 ∷ 3 ∷ 2 ∷ 56 ∷ []); room = 2; expected = Rejected 20 0 } ∷
    record { nodes = (268435456 ∷ []); signals = 0; bytes = (0 ∷ 144 ∷ 8 ∷ 2 ∷ []); room = 2; expected = Rejected 20 0 } ∷
    []

held_10 : recordings_held cases_10 ≡ true
unfolding cases_10 evaluation ◌>>=◌ guard checked scanned readable filled blank told tree_at formulas number bit_at next sweep_from around row tabulate joined
held_10 = refl

cases_11 : List Recording
cases_11 =
    record { nodes = (0 ∷ 1879048192 ∷ 1342193664 ∷ 3221225474 ∷ []); signals = 3; bytes = (0 ∷ 112 ∷ 6 ∷ 3 ∷ 27 ∷ 108 ∷ 56 ∷ []); room = 5; expected = Accepted (254 ∷ 254 ∷ 254 ∷ 254 ∷ []) (4 ∷ 3 ∷ []) } ∷
    record { nodes = (536870912 ∷ 1879048192 ∷ 3758096384 ∷ 2147500032 ∷ 536887296 ∷ 0 ∷ []); signals = 2; bytes = (0 ∷ []); room = 2; expected = Rejected 19 2 } ∷
    record { nodes = (536887296 ∷ 2952790016 ∷ 2684370944 ∷ 536870912 ∷ 2684387328 ∷ 2415935488 ∷ 2684436480 ∷ 536903680 ∷ 536887296 ∷ []); signals = 3; bytes = (0 ∷ 48 ∷ 0 ∷ 3 ∷ 245 ∷ 128 ∷ []); room = 10; expected = Accepted (160 ∷ 160 ∷ 224 ∷ 192 ∷ 224 ∷ 0 ∷ 0 ∷ 224 ∷ 160 ∷ []) (9 ∷ 3 ∷ []) } ∷
    record { nodes = (536903680 ∷ 536887296 ∷ []); signals = 4; bytes = (0 ∷ 32 ∷ 1 ∷ 4 ∷ 76 ∷ []); room = 4; expected = Accepted (0 ∷ 192 ∷ []) (2 ∷ 4 ∷ []) } ∷
    []

held_11 : recordings_held cases_11 ≡ true
unfolding cases_11 evaluation ◌>>=◌ guard checked scanned readable filled blank told tree_at formulas number bit_at next sweep_from around row tabulate joined
held_11 = refl

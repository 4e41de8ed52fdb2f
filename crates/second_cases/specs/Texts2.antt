-- Written by the second converter: cases with its answers, each computed from the definitions.
use Rattle.std.specs.Prelude.{true, List, [], ◌∷◌, ◌≡◌, refl}
use Rattle.node.specs.Postorder.{size, nodes_from}
use Rattle.node.specs.Written.{nodes_of, count}
use Rattle.node.specs.Result.{◌>>=◌, guard}
use Rattle.language.specs.Bytes.{ascii}
use Rattle.language.specs.Places.{refuse_at}
use Rattle.language.specs.Parsing.{parsed}
use Rattle.language.specs.Reading.{text_expansion, spec_expansion}
use Rattle.second_cases.specs.Held.{Accepted, Rejected, Text, texts_held}

cases_0 : List Text
cases_0 =
    record { bytes = (ascii "INFO{TITLE:\"\"DESCRIPTION:\"\"SEMANTICS:Mealy TARGET:Mealy}MAIN{INPUTS{a}OUTPUTS{}ASSERT{7-7==1}}"); expected = Accepted (0 ∷ 0 ∷ 0 ∷ 2415951872 ∷ 0 ∷ 1073790980 ∷ 268435456 ∷ 2416017408 ∷ 0 ∷ 1073856520 ∷ 1610694665 ∷ 1073758218 ∷ 1610612747 ∷ []) (4456448 ∷ []) } ∷
    record { bytes = (ascii "INFO{TITLE:\"\"DESCRIPTION:\"\"SEMANTICS:Mealy TARGET:Mealy}GLOBAL{DEFINITIONS{enum j=y:1*1;}}MAIN{OUTPUTS{A;}INPUTS{j j;}ASSUME{A&&j[1];SIZEOF j IN{0,1..256}}}"); expected = Rejected 7 115 } ∷
    record { bytes = (ascii "INFO{TITLE:\"\"DESCRIPTION:\"\"SEMANTICS:Mealy,Strict TARGET:Mealy}GLOBAL{DEFINITIONS{v={0,1}(\\){0,1};}}MAIN{OUTPUTS{}ASSERT{AND[_ IN v]a1;(true);}INPUTS{a1;@;In}}"); expected = Accepted (0 ∷ 0 ∷ 0 ∷ 0 ∷ 1073774595 ∷ 0 ∷ 805388288 ∷ 3489726470 ∷ 1073758215 ∷ 0 ∷ 2416066560 ∷ 0 ∷ 1073905675 ∷ 0 ∷ 1610809357 ∷ 1073872910 ∷ 1610612751 ∷ []) (9830400 ∷ 10027008 ∷ 10158080 ∷ []) } ∷
    record { bytes = (ascii "INFO{TITLE:\"t\"DESCRIPTION:\"\"SEMANTICS:Moore*,Strict TARGET:Mealy}GLOBAL{DEFINITIONS{u={1};}}MAIN{OUTPUTS{n}ASSERT{false;F[01:2]n;}INPUTS{}}"); expected = Rejected 4 43 } ∷
    []

held_0 : texts_held cases_0 ≡ true
unfolding cases_0 text_expansion parsed spec_expansion ◌>>=◌ guard refuse_at nodes_of nodes_from count size
held_0 = refl

cases_1 : List Text
cases_1 =
    record { bytes = (ascii "INFO{TITLE:\"\"DESCRIPTION:\"\"SEMANTICS:Mealy TARGET:Mealy}GLOBAL{DEFINITIONS{enum k=l:01,01;v=00*1;}}MAIN{INPUTS{b}OUTPUTS{}ASSERT{b}}"); expected = Accepted (0 ∷ 0 ∷ 0 ∷ 2415951872 ∷ 0 ∷ 1073790980 ∷ 536870912 ∷ 2416017408 ∷ 0 ∷ 1073856520 ∷ 1610694665 ∷ 1073758218 ∷ 1610612747 ∷ []) (7274496 ∷ []) } ∷
    record { bytes = (ascii "INFO{TITLE:\"t\"DESCRIPTION:\"\"SEMANTICS:Mealy TARGET:Moore}GLOBAL{DEFINITIONS{u=a;}}MAIN{INPUTS{a;}OUTPUTS{}REQUIRE{}}"); expected = Accepted (0 ∷ 0 ∷ 0 ∷ 2415951872 ∷ 0 ∷ 1073790980 ∷ 0 ∷ 2416017408 ∷ 0 ∷ 1073856520 ∷ 1610694665 ∷ 1073758218 ∷ 1610612747 ∷ []) (6160384 ∷ []) } ∷
    record { bytes = (ascii "INFO{TITLE:\"\"DESCRIPTION:\"\"SEMANTICS:Moore TARGET:Moore TAGS:a}GLOBAL{DEFINITIONS{enum d=i:01,10j:00,00;}}MAIN{PRESET{&&[w IN{01}]@}OUTPUTS{}INPUTS{d a1;@;}}"); expected = Accepted (0 ∷ 536903680 ∷ 536870912 ∷ 805339136 ∷ 536887296 ∷ 1073790980 ∷ 536870912 ∷ 536887296 ∷ 805421056 ∷ 1073840136 ∷ 1342259209 ∷ 536870912 ∷ 805486592 ∷ 536887296 ∷ 805519360 ∷ 1073938446 ∷ 1342341135 ∷ 536870912 ∷ 805584896 ∷ 536887296 ∷ 805617664 ∷ 1074036756 ∷ 1342439445 ∷ 2416279552 ∷ 0 ∷ 1074118680 ∷ 0 ∷ 2416345088 ∷ 0 ∷ 1074184220 ∷ 1611022365 ∷ 1073758238 ∷ 1610612767 ∷ []) (9830402 ∷ 9830658 ∷ 10027008 ∷ []) } ∷
    record { bytes = (32 ∷ 32 ∷ 73 ∷ 78 ∷ 70 ∷ 79 ∷ 123 ∷ 32 ∷ 47 ∷ 42 ∷ 42 ∷ 47 ∷ 84 ∷ 73 ∷ 84 ∷ 76 ∷ 69 ∷ 32 ∷ 58 ∷ 34 ∷ 34 ∷ 68 ∷ 69 ∷ 83 ∷ 67 ∷ 82 ∷ 73 ∷ 80 ∷ 84 ∷ 73 ∷ 79 ∷ 78 ∷ 58 ∷ 9 ∷ 34 ∷ 34 ∷ 83 ∷ 69 ∷ 77 ∷ 65 ∷ 78 ∷ 84 ∷ 73 ∷ 67 ∷ 83 ∷ 39 ∷ 10 ∷ 10 ∷ 32 ∷ 58 ∷ 77 ∷ 101 ∷ 97 ∷ 108 ∷ 121 ∷ 32 ∷ 47 ∷ 47 ∷ 32 ∷ 99 ∷ 10 ∷ 84 ∷ 65 ∷ 82 ∷ 71 ∷ 69 ∷ 84 ∷ 58 ∷ 32 ∷ 32 ∷ 77 ∷ 101 ∷ 97 ∷ 108 ∷ 121 ∷ 125 ∷ 71 ∷ 76 ∷ 79 ∷ 66 ∷ 65 ∷ 76 ∷ 123 ∷ 125 ∷ 9 ∷ 10 ∷ 77 ∷ 65 ∷ 73 ∷ 78 ∷ 123 ∷ 79 ∷ 85 ∷ 84 ∷ 80 ∷ 85 ∷ 84 ∷ 83 ∷ 32 ∷ 47 ∷ 42 ∷ 42 ∷ 47 ∷ 123 ∷ 125 ∷ 65 ∷ 83 ∷ 83 ∷ 85 ∷ 77 ∷ 69 ∷ 123 ∷ 9 ∷ 13 ∷ 111 ∷ 13 ∷ 10 ∷ 38 ∷ 38 ∷ 32 ∷ 32 ∷ 111 ∷ 9 ∷ 125 ∷ 32 ∷ 32 ∷ 32 ∷ 32 ∷ 47 ∷ 47 ∷ 125 ∷ 13 ∷ 59 ∷ 10 ∷ 73 ∷ 78 ∷ 80 ∷ 85 ∷ 84 ∷ 83 ∷ 32 ∷ 47 ∷ 42 ∷ 0 ∷ 11 ∷ 42 ∷ 47 ∷ 123 ∷ 32 ∷ 13 ∷ 111 ∷ 10 ∷ 125 ∷ 32 ∷ 125 ∷ []); expected = Rejected 4 36 } ∷
    []

held_1 : texts_held cases_1 ≡ true
unfolding cases_1 text_expansion parsed spec_expansion ◌>>=◌ guard refuse_at nodes_of nodes_from count size
held_1 = refl

cases_2 : List Text
cases_2 =
    record { bytes = (73 ∷ 78 ∷ 70 ∷ 79 ∷ 32 ∷ 123 ∷ 9 ∷ 84 ∷ 73 ∷ 84 ∷ 76 ∷ 69 ∷ 9 ∷ 58 ∷ 34 ∷ 34 ∷ 68 ∷ 69 ∷ 83 ∷ 67 ∷ 82 ∷ 73 ∷ 80 ∷ 84 ∷ 73 ∷ 79 ∷ 78 ∷ 58 ∷ 34 ∷ 34 ∷ 83 ∷ 69 ∷ 77 ∷ 65 ∷ 78 ∷ 84 ∷ 73 ∷ 67 ∷ 83 ∷ 58 ∷ 77 ∷ 101 ∷ 97 ∷ 108 ∷ 121 ∷ 32 ∷ 47 ∷ 42 ∷ 32 ∷ 34 ∷ 32 ∷ 42 ∷ 47 ∷ 84 ∷ 65 ∷ 82 ∷ 71 ∷ 69 ∷ 84 ∷ 32 ∷ 58 ∷ 10 ∷ 77 ∷ 101 ∷ 97 ∷ 108 ∷ 121 ∷ 125 ∷ 10 ∷ 71 ∷ 76 ∷ 79 ∷ 66 ∷ 65 ∷ 76 ∷ 123 ∷ 32 ∷ 32 ∷ 13 ∷ 10 ∷ 125 ∷ 77 ∷ 65 ∷ 73 ∷ 78 ∷ 32 ∷ 32 ∷ 123 ∷ 73 ∷ 78 ∷ 80 ∷ 85 ∷ 84 ∷ 83 ∷ 123 ∷ 73 ∷ 110 ∷ 32 ∷ 32 ∷ 32 ∷ 91 ∷ 10 ∷ 13 ∷ 50 ∷ 13 ∷ 93 ∷ 10 ∷ 59 ∷ 125 ∷ 79 ∷ 85 ∷ 84 ∷ 80 ∷ 85 ∷ 84 ∷ 83 ∷ 13 ∷ 13 ∷ 123 ∷ 125 ∷ 71 ∷ 85 ∷ 65 ∷ 82 ∷ 65 ∷ 78 ∷ 84 ∷ 69 ∷ 69 ∷ 123 ∷ 125 ∷ 32 ∷ 125 ∷ []); expected = Accepted (0 ∷ 0 ∷ 0 ∷ 2415951872 ∷ 0 ∷ 1073790980 ∷ 0 ∷ 2416017408 ∷ 0 ∷ 1073856520 ∷ 1610694665 ∷ 1073758218 ∷ 1610612747 ∷ []) (6225922 ∷ 6226178 ∷ []) } ∷
    record { bytes = (13 ∷ 73 ∷ 78 ∷ 70 ∷ 79 ∷ 123 ∷ 84 ∷ 73 ∷ 84 ∷ 76 ∷ 69 ∷ 58 ∷ 34 ∷ 34 ∷ 68 ∷ 69 ∷ 83 ∷ 67 ∷ 82 ∷ 73 ∷ 80 ∷ 84 ∷ 73 ∷ 79 ∷ 78 ∷ 58 ∷ 34 ∷ 34 ∷ 83 ∷ 69 ∷ 77 ∷ 65 ∷ 78 ∷ 84 ∷ 73 ∷ 67 ∷ 83 ∷ 58 ∷ 13 ∷ 77 ∷ 111 ∷ 111 ∷ 114 ∷ 101 ∷ 32 ∷ 84 ∷ 65 ∷ 82 ∷ 71 ∷ 69 ∷ 84 ∷ 58 ∷ 32 ∷ 32 ∷ 77 ∷ 101 ∷ 97 ∷ 108 ∷ 121 ∷ 125 ∷ 71 ∷ 76 ∷ 79 ∷ 66 ∷ 65 ∷ 76 ∷ 123 ∷ 68 ∷ 69 ∷ 70 ∷ 73 ∷ 78 ∷ 73 ∷ 84 ∷ 73 ∷ 79 ∷ 78 ∷ 83 ∷ 32 ∷ 123 ∷ 98 ∷ 10 ∷ 61 ∷ 123 ∷ 32 ∷ 47 ∷ 42 ∷ 32 ∷ 59 ∷ 32 ∷ 125 ∷ 32 ∷ 42 ∷ 47 ∷ 125 ∷ 125 ∷ 125 ∷ 32 ∷ 32 ∷ 77 ∷ 65 ∷ 73 ∷ 78 ∷ 10 ∷ 123 ∷ 73 ∷ 78 ∷ 80 ∷ 85 ∷ 84 ∷ 83 ∷ 123 ∷ 13 ∷ 101 ∷ 59 ∷ 125 ∷ 79 ∷ 85 ∷ 84 ∷ 80 ∷ 85 ∷ 84 ∷ 83 ∷ 123 ∷ 32 ∷ 32 ∷ 125 ∷ 65 ∷ 83 ∷ 83 ∷ 85 ∷ 77 ∷ 69 ∷ 123 ∷ 9 ∷ 32 ∷ 32 ∷ 32 ∷ 32 ∷ 40 ∷ 116 ∷ 114 ∷ 117 ∷ 101 ∷ 41 ∷ 59 ∷ 9 ∷ 78 ∷ 79 ∷ 84 ∷ 32 ∷ 47 ∷ 42 ∷ 0 ∷ 11 ∷ 42 ∷ 47 ∷ 101 ∷ 45 ∷ 62 ∷ 13 ∷ 101 ∷ 125 ∷ 125 ∷ []); expected = Accepted (0 ∷ 0 ∷ 0 ∷ 2415951872 ∷ 0 ∷ 536870912 ∷ 2147565568 ∷ 805404672 ∷ 536870912 ∷ 2147614720 ∷ 1610727433 ∷ 1073807370 ∷ 1073790987 ∷ 0 ∷ 2416132096 ∷ 0 ∷ 1073971215 ∷ 1610809360 ∷ 1073758225 ∷ 1610612754 ∷ []) (7405568 ∷ []) } ∷
    record { bytes = (ascii "INFO{TITLE:\"\"DESCRIPTION:\"\"SEMANTICS:Mealy TARGET:Moore}MAIN{REQIRE{c W false;||[k IN{4}]false&&v}INPUTS{v;}OUTPUTS{y;c;}PRESET{c->true R false;}}"); expected = Rejected 4 61 } ∷
    record { bytes = (ascii "INFO{TITLE:\"t\"DESCRIPTION:\"\"SEMANTICS:Moore TARGET:Mealy}GLOBAL{PARAMETERS{_=2;}DEFINITIONS{k=_/_}}MAIN{OUTPUTS{b;}GUARANTEES{}REQUIRE{!!!!!!X NOT X!!!!!!!NOT X NOT!!!!!!!!!X!!X NOT!!NOT!!!NOT!NOT X NOT NOT!NOT!!X NOT!!!!NOT!NOT!X NOT!!!!!NOT!!X NOT NOT NOT!!!!X!NOT!!NOT!X!X X X X X!!!!!X!!!!!NOT!!!!!NOT NOT X NOT!!X X X!NOT!NOT X!NOT!!X!!!NOT!X!!!X NOT NOT X NOT NOT!!X X!NOT X!!!!!!X NOT!!!NOT X!!X X X NOT!!!NOT X!!!!!NOT NOT X!X NOT NOT!!NOT!NOT X!!X!!NOT X NOT NOT!!!!!X!!!X!!!NOT!!NOT NOT NOT!!NOT!NOT!NOT NOT!!!NOT!NOT!!!!X!X X NOT!!!NOT!!NOT!!!NOT X!!(a[0]);}INPUTS{a[1];}}"); expected = Rejected 5 135 } ∷
    []

held_2 : texts_held cases_2 ≡ true
unfolding cases_2 text_expansion parsed spec_expansion ◌>>=◌ guard refuse_at nodes_of nodes_from count size
held_2 = refl

cases_3 : List Text
cases_3 =
    record { bytes = (ascii "INFO{TITLE:\"\"DESCRIPTION:\"\"SEMANTICS:Mealy TARGET:Mealy}MAIN{INPUTS{a;b[2]}OUTPUTS{}ASSERT{{}<F[0:1](a)(+)}}"); expected = Rejected 4 94 } ∷
    record { bytes = (ascii "INFO{TITLE:\"\"DESCRIPTION:\"\"SEMANTICS:Moore TARGET:Mealy}MAIN{INPUTS{a;b[2]}OUTPUTS{}ASSERT{b{}F[0:1]}}"); expected = Rejected 4 92 } ∷
    record { bytes = (ascii "INFO{TITLE:\"\"DESCRIPTION:\"\"SEMANTICS:Moore,Strict TARGET:Moore}GLOBAL{}MAIN{OUTPUTS{p}ASSUME{G[+[9-01<s<=00]1:00]x;1GE 00}INPUTS{x;c;}}"); expected = Accepted (0 ∷ 0 ∷ 0 ∷ 0 ∷ 805355520 ∷ 3489693700 ∷ 1073758213 ∷ 0 ∷ 2416033792 ∷ 536870912 ∷ 0 ∷ 1073889290 ∷ 1073872907 ∷ 0 ∷ 1610809357 ∷ 1073840142 ∷ 1610612751 ∷ []) (8454144 ∷ 8585216 ∷ 2152988672 ∷ []) } ∷
    record { bytes = (ascii "INFO{TITLE:\"\"DESCRIPTION:\"\"SEMANTICS:Mealy TARGET:Mealy},{}MAIN{OUTPUTS{}PRESET{}REQUIRE{&&[2%1<c<=2]x'}INPUTS{x';a1;}INITIALLY{(1IN{0GLOBAL 1}||x'->x')<->true;}}"); expected = Rejected 4 56 } ∷
    []

held_3 : texts_held cases_3 ≡ true
unfolding cases_3 text_expansion parsed spec_expansion ◌>>=◌ guard refuse_at nodes_of nodes_from count size
held_3 = refl

cases_4 : List Text
cases_4 =
    record { bytes = (ascii "INFO{TITLE:\"\"DESCRIPTION:\"\"SEMANTICS:Moore,Strict TARGET:Mealy}GLOBAL{DEFINITIONS{e=false R h;enum n=l:11*x:00*,*01;}}MAIN{INPUTS{}OUTPUTS{_[4];n a;h}ASSUME{}}"); expected = Accepted (0 ∷ 0 ∷ 536936448 ∷ 536952832 ∷ 1073774595 ∷ 536936448 ∷ 805388288 ∷ 536952832 ∷ 805421056 ∷ 1073840136 ∷ 1342242825 ∷ 536952832 ∷ 805486592 ∷ 536969216 ∷ 1073938445 ∷ 1342341134 ∷ 0 ∷ 805568512 ∷ 3489906705 ∷ 1073758226 ∷ 0 ∷ 2416246784 ∷ 0 ∷ 1074085910 ∷ 0 ∷ 1610989592 ∷ 1074053145 ∷ 1610612762 ∷ []) (2156593156 ∷ 2156593412 ∷ 2156593668 ∷ 2156593924 ∷ 2157051907 ∷ 2157052163 ∷ 2157052419 ∷ 2157182976 ∷ []) } ∷
    record { bytes = (ascii "INFO{TITLE:\"\"DESCRIPTION:\"t\"SEMANTICS:Moore,Strict TARGET:Moore}MAIN{OUTPUTS{INVARIANTS{(G!o[1])||u;}INPUTS{u;o[2];}}"); expected = Rejected 4 77 } ∷
    record { bytes = (ascii "INFO{TITLE:\"\"DESCRIPTION:\"\"SEMANTICS:Moore,Strict TARGET:Mealy}GLOBAL{DEFINITIONS{_={0,1}}}MAIN{INPUTS{f[c];c;A[3];}OUTPUTS{}GUARANTEE{c||X X[1]false<->c;1W f W c;}}"); expected = Rejected 9 105 } ∷
    record { bytes = (ascii "INFO{TITLE:\"t\"DESCRIPTION:=\"\"SEMANTICS:Mealy TARGET:Moore}MAIN{INPUTS{m[2];}OUTPUTS{a1}REQUIRE{}}"); expected = Rejected 4 26 } ∷
    []

held_4 : texts_held cases_4 ≡ true
unfolding cases_4 text_expansion parsed spec_expansion ◌>>=◌ guard refuse_at nodes_of nodes_from count size
held_4 = refl

cases_5 : List Text
cases_5 =
    record { bytes = (ascii "INFO{TITLE:\"\"DESCRIPTION:\"\"SEMANTICS:Mealy TARGET:Mealy}MAIN{INPUTS{a;b[2]}OUTPUTS{}ASSERT{G<F[0:1]U{}MIN F[0:1]}}"); expected = Rejected 4 92 } ∷
    record { bytes = (ascii "INFO{TITLE:\"\"DESCRIPTION:\"\"SEMANTICS:Moore TARGET:Mealy TAGS:_}GLOBAL{PARAMETERS{A=2;}DEFINITIONS{v={1*2,A}(\\){0,1}}}MAIN{INPUTS{a;}OUTPUTS{}ASSERT{G[(00)%A:2]a;}}"); expected = Accepted (0 ∷ 0 ∷ 0 ∷ 2415951872 ∷ 0 ∷ 1073790980 ∷ 536870912 ∷ 2147581952 ∷ 536870912 ∷ 2147614720 ∷ 536870912 ∷ 2147647488 ∷ 2147663872 ∷ 1073889292 ∷ 2147696640 ∷ 1073856526 ∷ 2416164864 ∷ 0 ∷ 1074003985 ∷ 1610694674 ∷ 1073758227 ∷ 1610612756 ∷ []) (8454144 ∷ []) } ∷
    record { bytes = (ascii "INFO{TITLE:\"\"DESCRIPTION:\"\"SEMANTICS:Moore,Strict TARGET:Moore}MAIN{INPUTS{}OUTPUTS{w}GUARANTEE{9-2<2}}"); expected = Accepted (0 ∷ 0 ∷ 0 ∷ 0 ∷ 805355520 ∷ 3489693700 ∷ 1073758213 ∷ 0 ∷ 2416033792 ∷ 0 ∷ 1073872905 ∷ 268435456 ∷ 1610776587 ∷ 1073840140 ∷ 1610612749 ∷ []) (2152988672 ∷ []) } ∷
    record { bytes = (ascii "INFO{TITLE:\"\"DESCRIPTION:\"\"SEMANTICS:Mealy TARGET:Mealy}MAIN{INPUTS{a;b[2]}OUTPUTS{}ASSERT{SIZEOF IN}}"); expected = Rejected 4 98 } ∷
    []

held_5 : texts_held cases_5 ≡ true
unfolding cases_5 text_expansion parsed spec_expansion ◌>>=◌ guard refuse_at nodes_of nodes_from count size
held_5 = refl

cases_6 : List Text
cases_6 =
    record { bytes = (ascii "INFO{TITLE:\"\"DESCRIPTION:\"\"SEMANTICS:Moore,Strict TARGET:Moore}GLOBAL{DEFINITIONS{enum v=m:1*e:01,00;}}MAIN{INPUTS{v b;j}OUTPUTS{}ASSUME{}}"); expected = Accepted (0 ∷ 0 ∷ 0 ∷ 0 ∷ 805355520 ∷ 3489693700 ∷ 1073758213 ∷ 0 ∷ 2416033792 ∷ 0 ∷ 1073872905 ∷ 0 ∷ 1610776587 ∷ 1073840140 ∷ 1610612749 ∷ []) (7667714 ∷ 7667970 ∷ 7798784 ∷ []) } ∷
    record { bytes = (ascii "INFO{TITLE:\"\"DESCRIPTION:\"\"SEMANTICS:Mooore TARGET:Moore}GLOBAL{PARAMETERS{}}MAIN{INPUTS{k;}OUTPUTS{m}ASSUME{(NOT true);m;}}"); expected = Rejected 4 37 } ∷
    record { bytes = (ascii "INFO{TITLE:\"t\"DESCRIPTION:\"\"SEMANTICS:Moore TARGET:Moore}GLOBAL{DEFINITIONS{{a1=i:000,10w: *10 l:100, **0 }}MAIN{OUTPUTS enum h[1]}GUARANTEE{(i)!=r}INPUTS{r[2]}}"); expected = Rejected 4 76 } ∷
    record { bytes = (ascii "INFO{TITLE:\"\"DESCRIPTION:\"\"SEMANTICS:Moore TARGET:Mealy}MAIN{INPUTS{a;b[2]}OUTPUTS{}ASSERT{SIZEOF b}}"); expected = Rejected 9 91 } ∷
    []

held_6 : texts_held cases_6 ≡ true
unfolding cases_6 text_expansion parsed spec_expansion ◌>>=◌ guard refuse_at nodes_of nodes_from count size
held_6 = refl

cases_7 : List Text
cases_7 =
    record { bytes = (ascii "INFO{TITLE:\"\"DESCRIPTION:\"\"SEMANTICS:Mealy,Strict TARGET:Mealy}GLOBAL{DEFINITIONS{B_0=2%01}}MAIN{INPUTS{b[2];@[4];q;}OUTPUTS{}ASSUME{}}"); expected = Accepted (0 ∷ 0 ∷ 0 ∷ 0 ∷ 805355520 ∷ 3489693700 ∷ 1073758213 ∷ 0 ∷ 2416033792 ∷ 0 ∷ 1073872905 ∷ 0 ∷ 1610776587 ∷ 1073840140 ∷ 1610612749 ∷ []) (6815746 ∷ 6816002 ∷ 7143428 ∷ 7143684 ∷ 7143940 ∷ 7144196 ∷ 7471104 ∷ []) } ∷
    record { bytes = (ascii "INFO{TITLE:\"\"DESCRIPTION:\"\"SEMANTICS:Moore,Strict TARGET:Mealy}GLOBAL{}MAIN{OUTPUTS{z}GUARANTEES{}INPUTS{}INVARIANTS{1>1}}"); expected = Accepted (0 ∷ 0 ∷ 268435456 ∷ 0 ∷ 805355520 ∷ 3489693700 ∷ 1073758213 ∷ 0 ∷ 2416033792 ∷ 0 ∷ 1073872905 ∷ 0 ∷ 1610776587 ∷ 1073840140 ∷ 1610612749 ∷ []) (2152988672 ∷ []) } ∷
    record { bytes = (ascii "INFO{TITLE:\"\"DESCRIPTION:\"\"SEMANTICS:Mealy TARGET:Mealy}MAIN GUARANTEE INPUTS{o;}OUTPUTS\"\"{}{{}}"); expected = Rejected 4 61 } ∷
    record { bytes = (ascii "INFO{TITLE:\"\"DESCRIPTION:\"\"SEMANTICS:Moore TARGET:Moore}MAIN{INPUTS{}ASSUME{}OUTPUTS{a1;}REQUIRE{}}"); expected = Accepted (0 ∷ 0 ∷ 0 ∷ 2415951872 ∷ 0 ∷ 1073790980 ∷ 0 ∷ 2416017408 ∷ 0 ∷ 1073856520 ∷ 1610694665 ∷ 1073758218 ∷ 1610612747 ∷ []) (2153054208 ∷ []) } ∷
    []

held_7 : texts_held cases_7 ≡ true
unfolding cases_7 text_expansion parsed spec_expansion ◌>>=◌ guard refuse_at nodes_of nodes_from count size
held_7 = refl

cases_8 : List Text
cases_8 =
    record { bytes = (ascii "INFO{TITLE:\"\"DESCRIPTION:\"\"SEMANTICS:Moore,Strict TARGET:Moore}GLOBAL{DEFINITIONS{enum q=a1:1,*;enum s=i:*0}{MAIN}OUTPUTS{}INPUTS{m;_;q j;}}ASSUMPTIONS{(m);1IN{0,1..2};}}"); expected = Rejected 4 108 } ∷
    record { bytes = (ascii "INFO{TITLE:\"\"DESCRIPTION:\"\"SEMANTICS:Mealy TARGET:Mealy TAGS:_,\"t\"}GLOBAL{DEFINITIONS{j={2,4..1+00}}}MAIN{INPUTS{s;}OUTPUTS{}ASSERT{G X[2+2]s;&&[(1)<=w<01]s}}"); expected = Accepted (0 ∷ 0 ∷ 0 ∷ 2415951872 ∷ 0 ∷ 1073790980 ∷ 536870912 ∷ 2147581952 ∷ 2147598336 ∷ 2147614720 ∷ 2147631104 ∷ 2416082944 ∷ 0 ∷ 1073922060 ∷ 2416132096 ∷ 0 ∷ 1073971215 ∷ 1610694672 ∷ 1073758225 ∷ 1610612754 ∷ []) (7405568 ∷ []) } ∷
    record { bytes = (ascii "INFO{TITLE:\"\"DESCRIPTION:\"\"SEMANTICS:Moore TARGET:Moore}GLOBAL{DEFINITIONS{enum s=a:011,*0*i:111,*10}}MAIN{INPUTS{s f;c[1]}GUARANTEE{}OUTPUTS{}}"); expected = Accepted (0 ∷ 0 ∷ 0 ∷ 2415951872 ∷ 0 ∷ 1073790980 ∷ 0 ∷ 2416017408 ∷ 0 ∷ 1073856520 ∷ 1610694665 ∷ 1073758218 ∷ 1610612747 ∷ []) (7602179 ∷ 7602435 ∷ 7602691 ∷ 7733249 ∷ []) } ∷
    record { bytes = (ascii "INFO{TITLE:\"t\"DESCRIPTION:\"\"SEMANTICS:Moore,Strict TARGET:Mealy}GLOBAL{DEFINITIONS{g=2*0+1IN{};}}MAIN{ASSERT{2MOD 1IN{2,1..0};01IN{1,2..1+01}->p}OUTPUTS{}INPUTS{p;}}"); expected = Rejected 12 117 } ∷
    []

held_8 : texts_held cases_8 ≡ true
unfolding cases_8 text_expansion parsed spec_expansion ◌>>=◌ guard refuse_at nodes_of nodes_from count size
held_8 = refl

cases_9 : List Text
cases_9 =
    record { bytes = (ascii "INFO{TITLE:\"\"DESCRIPTION:\"\"SEMANTICS:Mealy TARGET:Mealy}MAIN{INPUTS{a[200];b[55]}OUTPUTS{}}"); expected = Accepted (0 ∷ 0 ∷ 0 ∷ 2415951872 ∷ 0 ∷ 1073790980 ∷ 0 ∷ 2416017408 ∷ 0 ∷ 1073856520 ∷ 1610694665 ∷ 1073758218 ∷ 1610612747 ∷ []) (4456648 ∷ 4456904 ∷ 4457160 ∷ 4457416 ∷ 4457672 ∷ 4457928 ∷ 4458184 ∷ 4458440 ∷ 4458696 ∷ 4458952 ∷ 4459208 ∷ 4459464 ∷ 4459720 ∷ 4459976 ∷ 4460232 ∷ 4460488 ∷ 4460744 ∷ 4461000 ∷ 4461256 ∷ 4461512 ∷ 4461768 ∷ 4462024 ∷ 4462280 ∷ 4462536 ∷ 4462792 ∷ 4463048 ∷ 4463304 ∷ 4463560 ∷ 4463816 ∷ 4464072 ∷ 4464328 ∷ 4464584 ∷ 4464840 ∷ 4465096 ∷ 4465352 ∷ 4465608 ∷ 4465864 ∷ 4466120 ∷ 4466376 ∷ 4466632 ∷ 4466888 ∷ 4467144 ∷ 4467400 ∷ 4467656 ∷ 4467912 ∷ 4468168 ∷ 4468424 ∷ 4468680 ∷ 4468936 ∷ 4469192 ∷ 4469448 ∷ 4469704 ∷ 4469960 ∷ 4470216 ∷ 4470472 ∷ 4470728 ∷ 4470984 ∷ 4471240 ∷ 4471496 ∷ 4471752 ∷ 4472008 ∷ 4472264 ∷ 4472520 ∷ 4472776 ∷ 4473032 ∷ 4473288 ∷ 4473544 ∷ 4473800 ∷ 4474056 ∷ 4474312 ∷ 4474568 ∷ 4474824 ∷ 4475080 ∷ 4475336 ∷ 4475592 ∷ 4475848 ∷ 4476104 ∷ 4476360 ∷ 4476616 ∷ 4476872 ∷ 4477128 ∷ 4477384 ∷ 4477640 ∷ 4477896 ∷ 4478152 ∷ 4478408 ∷ 4478664 ∷ 4478920 ∷ 4479176 ∷ 4479432 ∷ 4479688 ∷ 4479944 ∷ 4480200 ∷ 4480456 ∷ 4480712 ∷ 4480968 ∷ 4481224 ∷ 4481480 ∷ 4481736 ∷ 4481992 ∷ 4482248 ∷ 4482504 ∷ 4482760 ∷ 4483016 ∷ 4483272 ∷ 4483528 ∷ 4483784 ∷ 4484040 ∷ 4484296 ∷ 4484552 ∷ 4484808 ∷ 4485064 ∷ 4485320 ∷ 4485576 ∷ 4485832 ∷ 4486088 ∷ 4486344 ∷ 4486600 ∷ 4486856 ∷ 4487112 ∷ 4487368 ∷ 4487624 ∷ 4487880 ∷ 4488136 ∷ 4488392 ∷ 4488648 ∷ 4488904 ∷ 4489160 ∷ 4489416 ∷ 4489672 ∷ 4489928 ∷ 4490184 ∷ 4490440 ∷ 4490696 ∷ 4490952 ∷ 4491208 ∷ 4491464 ∷ 4491720 ∷ 4491976 ∷ 4492232 ∷ 4492488 ∷ 4492744 ∷ 4493000 ∷ 4493256 ∷ 4493512 ∷ 4493768 ∷ 4494024 ∷ 4494280 ∷ 4494536 ∷ 4494792 ∷ 4495048 ∷ 4495304 ∷ 4495560 ∷ 4495816 ∷ 4496072 ∷ 4496328 ∷ 4496584 ∷ 4496840 ∷ 4497096 ∷ 4497352 ∷ 4497608 ∷ 4497864 ∷ 4498120 ∷ 4498376 ∷ 4498632 ∷ 4498888 ∷ 4499144 ∷ 4499400 ∷ 4499656 ∷ 4499912 ∷ 4500168 ∷ 4500424 ∷ 4500680 ∷ 4500936 ∷ 4501192 ∷ 4501448 ∷ 4501704 ∷ 4501960 ∷ 4502216 ∷ 4502472 ∷ 4502728 ∷ 4502984 ∷ 4503240 ∷ 4503496 ∷ 4503752 ∷ 4504008 ∷ 4504264 ∷ 4504520 ∷ 4504776 ∷ 4505032 ∷ 4505288 ∷ 4505544 ∷ 4505800 ∷ 4506056 ∷ 4506312 ∷ 4506568 ∷ 4506824 ∷ 4507080 ∷ 4507336 ∷ 4507592 ∷ 4915255 ∷ 4915511 ∷ 4915767 ∷ 4916023 ∷ 4916279 ∷ 4916535 ∷ 4916791 ∷ 4917047 ∷ 4917303 ∷ 4917559 ∷ 4917815 ∷ 4918071 ∷ 4918327 ∷ 4918583 ∷ 4918839 ∷ 4919095 ∷ 4919351 ∷ 4919607 ∷ 4919863 ∷ 4920119 ∷ 4920375 ∷ 4920631 ∷ 4920887 ∷ 4921143 ∷ 4921399 ∷ 4921655 ∷ 4921911 ∷ 4922167 ∷ 4922423 ∷ 4922679 ∷ 4922935 ∷ 4923191 ∷ 4923447 ∷ 4923703 ∷ 4923959 ∷ 4924215 ∷ 4924471 ∷ 4924727 ∷ 4924983 ∷ 4925239 ∷ 4925495 ∷ 4925751 ∷ 4926007 ∷ 4926263 ∷ 4926519 ∷ 4926775 ∷ 4927031 ∷ 4927287 ∷ 4927543 ∷ 4927799 ∷ 4928055 ∷ 4928311 ∷ 4928567 ∷ 4928823 ∷ 4929079 ∷ []) } ∷
    record { bytes = (ascii "INFO{TITLE:\"t\"DESCRIPTION:\"\"SEMANTICS:Moore,Strict TARGET:Mealy}GLOBAL{DEFINITIONS{enum Xa=g:010k:110,011;B_0=true}}MAIN{INPUTS{y}PRESET{}OUTPUTS{}}"); expected = Accepted (0 ∷ 0 ∷ 0 ∷ 0 ∷ 805355520 ∷ 3489693700 ∷ 1073758213 ∷ 0 ∷ 2416033792 ∷ 0 ∷ 1073872905 ∷ 0 ∷ 1610776587 ∷ 1073840140 ∷ 1610612749 ∷ []) (8388608 ∷ []) } ∷
    record { bytes = (ascii "INFO{TITLE:\"\"DESCRIPTION:\"\"SEMANTICS:Mealy TARGET:Mealy}MAIN{INPUTS{v;w[4];u;c[250];}OUTPUTS{}ASSUME{(u);(1)%3PLUS 1<01;}}"); expected = Rejected 15 77 } ∷
    record { bytes = (ascii "INFO{TITLE:\"\"DESCRIPTION:\"\"SEMANTICS:Moore TARGET:Moore}GLOBAL{DEFINITIONS{enum y=d:0*1p:1*1,1*0;o=c R r[2];}}MAIN{INPUTS{c;y r;}OOUTPUTS{}ASSUME{X[4]c&&o EQUIV c;}}"); expected = Rejected 4 129 } ∷
    []

held_9 : texts_held cases_9 ≡ true
unfolding cases_9 text_expansion parsed spec_expansion ◌>>=◌ guard refuse_at nodes_of nodes_from count size
held_9 = refl

cases_10 : List Text
cases_10 =
    record { bytes = (ascii "INFO{TITLE:\"\"DESCRIPTION:\"\"SEMANTICS:Moore,Strict TARGET:Mealy}MAIN{INPUTS{}OUTPUTS{z[];}ASSUME{}}"); expected = Rejected 4 86 } ∷
    record { bytes = (ascii "INFO{TITLE:\"\"DESCRIPTION:\"\"SEMANTICS:Mealy TARGET:Mealy}MAIN{INPUTS{b[9]}OUTPUTS{}ASSERT{b[9]}}"); expected = Rejected 13 89 } ∷
    record { bytes = (ascii "INFO{TITLE:\"\"DESCRIPTION:\"\"SEMANTICS:Mealy TARGET:Mealy}GLOBAL{}MAIN{REQUIRE{d W d;}INPUTS{}OUTPUTS{d}}"); expected = Accepted (0 ∷ 0 ∷ 536870912 ∷ 536870912 ∷ 3489693699 ∷ 2415984640 ∷ 0 ∷ 1073823750 ∷ 0 ∷ 2416050176 ∷ 0 ∷ 1073889290 ∷ 1610727435 ∷ 1073758220 ∷ 1610612749 ∷ []) (2154037248 ∷ []) } ∷
    record { bytes = (ascii "INFO{TITLE:\"\"DESCRIPTION:\"\"SEMANTICS:Moore TARGET:Mo\\oore}GLOBAL{DEFINITIONS{enum n=l:111,011In:110;B_0={0,1..2};}}MAIN{INPUTS{}OUTPUTS{h[3];n f;s[1];}REQUIRE{}}"); expected = Rejected 2 52 } ∷
    []

held_10 : texts_held cases_10 ≡ true
unfolding cases_10 text_expansion parsed spec_expansion ◌>>=◌ guard refuse_at nodes_of nodes_from count size
held_10 = refl

cases_11 : List Text
cases_11 =
    record { bytes = (ascii "INFO{TITLE:\"\"DESCRIPTION:\"\"SEMANTICS:Mealy TARGET:Mealy}MAIN{INPUTS{a;b[2]}OUTPUTS{}ASSERT{U F(a)<->+[0<=i<2]/}}"); expected = Rejected 4 91 } ∷
    record { bytes = (ascii "INFO{{TITLE:\"\"DESCRIPTION:\"\"SEMANTICS:Mealy,Strict TARGET:Mealy}MAIN{INPUTS{q[2];}OUTPUTS{s;}INITIALLY{}REQUIRE{}}"); expected = Rejected 4 5 } ∷
    record { bytes = (ascii "INFO{TITLE:\"\"DESCRIPTION:\"\"SEMANTICS:Moore TARGET:Mealy TAGS:a}MAIN{INPUTS{o[2];c;v[2]}OUTPUTS{i[215];}ASSUME{}GUARANTEES{X!!!!!NOT!X!X!X!NOT!X!X NOT!X!X!NOT!!NOT!X!!!NOT X!NOT!NOT!X NOT X!NOT!!!NOT!X NOT NOT!X!NOT X!X X NOT X!!!!!!!!!NOT NOT X!!!!!!NOT!!X NOT!!!NOT!NOT NOT!!NOT NOT!NOT NOT NOT X!!!X NOT!NOT!!NOT!!X!!X!!!X!!NOT!!!!!NOT!!!X!!NOT X X!!NOT!!!NOT!!!X!!X!!!!!!!NOT!!NOT!!!X!X!NOT X NOT!NOT X X NOT!!NOT NOT NOT!NOT!!!X X!!NOT!!X!!!!!!!!X X!!!NOT!!X!!X!X!!!!!!X!!NOT X!!!!!!!!!!X!!!!!NOT X!!!!!!1IN{|({0,1..2})|}}}"); expected = Rejected 5 122 } ∷
    record { bytes = (ascii "INFO{TITLE0:\"\"DESCRIPTION:\"\"SEMANT"); expected = Rejected 4 5 } ∷
    []

held_11 : texts_held cases_11 ≡ true
unfolding cases_11 text_expansion parsed spec_expansion ◌>>=◌ guard refuse_at nodes_of nodes_from count size
held_11 = refl

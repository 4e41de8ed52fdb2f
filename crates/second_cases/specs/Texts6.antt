-- Written by the second converter: cases with its answers, each computed from the definitions.
use Rattle.std.specs.Prelude.{true, List, [], ◌∷◌, ◌≡◌, refl}
use Rattle.node.specs.Postorder.{size, nodes_from}
use Rattle.node.specs.Written.{nodes_of, count}
use Rattle.node.specs.Result.{◌>>=◌, guard}
use Rattle.language.specs.Bytes.{ascii}
use Rattle.language.specs.Places.{refuse_at}
use Rattle.language.specs.Parsing.{parsed}
use Rattle.language.specs.Reading.{text_expansion, spec_expansion}
use Rattle.second_cases.specs.Held.{Accepted, Rejected, Text, texts_held}

cases_0 : List Text
cases_0 =
    record { bytes = (ascii "INFO{TITLE:\"\"DESCRIPTION:\"\"SEMANTICS:Moore TARGET:Moore}GLOBAL{DEFINITIONS{enum j=y:0;}}MAIN{INPUTS{}OUTPUTS{j t;}INITIALLY{}}"); expected = Accepted (0 ∷ 0 ∷ 0 ∷ 2415951872 ∷ 0 ∷ 1073790980 ∷ 536870912 ∷ 805404672 ∷ 2416033792 ∷ 0 ∷ 1073872905 ∷ 1610694666 ∷ 1073758219 ∷ 1610612748 ∷ []) (2154758145 ∷ []) } ∷
    record { bytes = (ascii "INFO{TITLE:\"\"DESCRIPTION:\"\"SEMANTICS:Mealy TARGET:Mealy}GLOBAL{DEFINITIONS{enum z=In:1*0j:010;v=a[0]->false;}}MAIN{INPUTS{a[1]}OUTPUTS{k;z i;}INITIALLY{}ASSERT{k;a[0];}}"); expected = Accepted (0 ∷ 0 ∷ 0 ∷ 2415951872 ∷ 0 ∷ 1073790980 ∷ 536887296 ∷ 536870912 ∷ 1073840135 ∷ 536903680 ∷ 536936448 ∷ 805470208 ∷ 1073889291 ∷ 536903680 ∷ 805519360 ∷ 536920064 ∷ 1073971215 ∷ 536936448 ∷ 805584896 ∷ 1074003986 ∷ 1342373907 ∷ 1073872916 ∷ 2416263168 ∷ 0 ∷ 1074102295 ∷ 1610694680 ∷ 1073758233 ∷ 1610612762 ∷ []) (7995393 ∷ 2156331008 ∷ 2156593155 ∷ 2156593411 ∷ 2156593667 ∷ []) } ∷
    record { bytes = (ascii "INFO{TITLE:\"\"DESCRIPTION:\"\"SEMANTICS:Mealy TARGET:Mealy}MAIN{INPUTS{m;y;}OUTPUTS{}INITIALL/*Y{1*+[p IN{1}]00==00;}}"); expected = Rejected 2 90 } ∷
    record { bytes = (ascii "INFO{TITLE:\"\"DESCRIPTION:\"\"SEMANTICS:Mealy TARGET:Mealy}MAIN{INPUTS{b[256]}OUTPUTS{}}"); expected = Rejected 13 68 } ∷
    []

held_0 : texts_held cases_0 ≡ true
unfolding cases_0 text_expansion parsed spec_expansion ◌>>=◌ guard refuse_at nodes_of nodes_from count size
held_0 = refl

cases_1 : List Text
cases_1 =
    record { bytes = (ascii "INFO{TITLE:\"t\"DESCRIPTION:\"\"SEMANTICS:Moore,Strict TARGET:Moore}GLOBAL{}MAIN{INPUTS{}OUTPUTS{u;}GUARANTEE{}}"); expected = Accepted (0 ∷ 0 ∷ 0 ∷ 0 ∷ 805355520 ∷ 3489693700 ∷ 1073758213 ∷ 0 ∷ 2416033792 ∷ 0 ∷ 1073872905 ∷ 0 ∷ 1610776587 ∷ 1073840140 ∷ 1610612749 ∷ []) (2153578496 ∷ []) } ∷
    record { bytes = (ascii "INFO{TITLE:\"\"DESCRIPTION:\"\"SEMANTICS:Moore,Strict TARGET:Mealy}MAIN{INPUTS{w;@;}OUTPUTS{}ASSUME{w R false}}"); expected = Accepted (0 ∷ 0 ∷ 0 ∷ 0 ∷ 805355520 ∷ 3489693700 ∷ 1073758213 ∷ 0 ∷ 2416033792 ∷ 536870912 ∷ 2147631104 ∷ 268435456 ∷ 3221389323 ∷ 1073872908 ∷ 0 ∷ 1610825742 ∷ 1073840143 ∷ 1610612752 ∷ []) (4915200 ∷ 5046272 ∷ []) } ∷
    record { bytes = (ascii "INFO{TITLE:\"\"DESCRIPTION:\"\"SEMANTICS:Moore,Strict TARGET:Moore TAGS:_,a}MAIN{OUTPUTS{}INPUTS{i}ASSUMPTIONS{(G[MIN({0,1}):6]false);||[e IN{0,1}(*){1}]i;}}"); expected = Accepted (0 ∷ 0 ∷ 0 ∷ 0 ∷ 805355520 ∷ 3489693700 ∷ 1073758213 ∷ 0 ∷ 2416033792 ∷ 268435456 ∷ 268435456 ∷ 268435456 ∷ 268435456 ∷ 268435456 ∷ 268435456 ∷ 268435456 ∷ 2147729408 ∷ 1073971216 ∷ 2147762176 ∷ 1073954834 ∷ 2147794944 ∷ 1073938452 ∷ 2147827712 ∷ 1073922070 ∷ 2147860480 ∷ 1073905688 ∷ 2147893248 ∷ 1073889306 ∷ 536870912 ∷ 1074184220 ∷ 1073872925 ∷ 0 ∷ 1611104287 ∷ 1073840160 ∷ 1610612769 ∷ []) (6094848 ∷ []) } ∷
    record { bytes = (32 ∷ 73 ∷ 78 ∷ 70 ∷ 79 ∷ 123 ∷ 32 ∷ 84 ∷ 73 ∷ 84 ∷ 76 ∷ 69 ∷ 58 ∷ 34 ∷ 34 ∷ 32 ∷ 32 ∷ 68 ∷ 69 ∷ 83 ∷ 67 ∷ 82 ∷ 73 ∷ 80 ∷ 84 ∷ 73 ∷ 79 ∷ 78 ∷ 9 ∷ 92 ∷ 58 ∷ 34 ∷ 34 ∷ 83 ∷ 69 ∷ 77 ∷ 65 ∷ 78 ∷ 84 ∷ 73 ∷ 67 ∷ 83 ∷ 58 ∷ 77 ∷ 101 ∷ 97 ∷ 108 ∷ 121 ∷ 9 ∷ 84 ∷ 65 ∷ 82 ∷ 71 ∷ 69 ∷ 84 ∷ 32 ∷ 58 ∷ 13 ∷ 77 ∷ 111 ∷ 111 ∷ 114 ∷ 9 ∷ 9 ∷ 125 ∷ 77 ∷ 65 ∷ 73 ∷ 78 ∷ 32 ∷ 47 ∷ 42 ∷ 47 ∷ 42 ∷ 42 ∷ 47 ∷ 42 ∷ 47 ∷ 123 ∷ 73 ∷ 78 ∷ 80 ∷ 85 ∷ 84 ∷ 83 ∷ 32 ∷ 123 ∷ 109 ∷ 32 ∷ 47 ∷ 42 ∷ 42 ∷ 47 ∷ 59 ∷ 103 ∷ 10 ∷ 59 ∷ 115 ∷ 13 ∷ 47 ∷ 47 ∷ 125 ∷ 13 ∷ 59 ∷ 10 ∷ 59 ∷ 32 ∷ 32 ∷ 10 ∷ 125 ∷ 73 ∷ 78 ∷ 86 ∷ 65 ∷ 82 ∷ 73 ∷ 65 ∷ 78 ∷ 84 ∷ 83 ∷ 123 ∷ 9 ∷ 47 ∷ 42 ∷ 32 ∷ 34 ∷ 32 ∷ 42 ∷ 47 ∷ 50 ∷ 60 ∷ 32 ∷ 48 ∷ 49 ∷ 32 ∷ 32 ∷ 59 ∷ 32 ∷ 32 ∷ 102 ∷ 97 ∷ 108 ∷ 115 ∷ 101 ∷ 59 ∷ 9 ∷ 47 ∷ 47 ∷ 32 ∷ 99 ∷ 10 ∷ 125 ∷ 79 ∷ 85 ∷ 84 ∷ 80 ∷ 85 ∷ 84 ∷ 83 ∷ 123 ∷ 125 ∷ 32 ∷ 32 ∷ 10 ∷ 13 ∷ 125 ∷ []); expected = Rejected 2 29 } ∷
    []

held_1 : texts_held cases_1 ≡ true
unfolding cases_1 text_expansion parsed spec_expansion ◌>>=◌ guard refuse_at nodes_of nodes_from count size
held_1 = refl

cases_2 : List Text
cases_2 =
    record { bytes = (ascii "INFO{TITLE:\"\"DESCRIPTION:\"\"SEMANTICS:Mealy,Strict TARGET:Mealy}MAIN{ASSUME{In&&X In}INPUTS{In;}OUTPUTS{}}"); expected = Accepted (0 ∷ 0 ∷ 0 ∷ 0 ∷ 805355520 ∷ 3489693700 ∷ 1073758213 ∷ 0 ∷ 2416033792 ∷ 536870912 ∷ 536870912 ∷ 2147647488 ∷ 1073889291 ∷ 1073872908 ∷ 0 ∷ 1610825742 ∷ 1073840143 ∷ 1610612752 ∷ []) (5963776 ∷ []) } ∷
    record { bytes = (73 ∷ 78 ∷ 70 ∷ 79 ∷ 123 ∷ 84 ∷ 73 ∷ 84 ∷ 76 ∷ 69 ∷ 58 ∷ 34 ∷ 34 ∷ 68 ∷ 69 ∷ 83 ∷ 67 ∷ 82 ∷ 73 ∷ 80 ∷ 84 ∷ 73 ∷ 79 ∷ 78 ∷ 58 ∷ 34 ∷ 34 ∷ 83 ∷ 69 ∷ 77 ∷ 65 ∷ 78 ∷ 84 ∷ 73 ∷ 67 ∷ 83 ∷ 58 ∷ 77 ∷ 111 ∷ 111 ∷ 114 ∷ 101 ∷ 32 ∷ 84 ∷ 65 ∷ 82 ∷ 71 ∷ 69 ∷ 84 ∷ 58 ∷ 77 ∷ 111 ∷ 111 ∷ 114 ∷ 101 ∷ 125 ∷ 77 ∷ 65 ∷ 73 ∷ 78 ∷ 123 ∷ 73 ∷ 78 ∷ 80 ∷ 85 ∷ 84 ∷ 83 ∷ 123 ∷ 125 ∷ 79 ∷ 85 ∷ 84 ∷ 80 ∷ 85 ∷ 84 ∷ 83 ∷ 123 ∷ 110 ∷ 59 ∷ 116 ∷ 59 ∷ 111 ∷ 91 ∷ 51 ∷ 93 ∷ 59 ∷ 125 ∷ 82 ∷ 69 ∷ 81 ∷ 85 ∷ 73 ∷ 82 ∷ 69 ∷ 202 ∷ 71 ∷ 91 ∷ 40 ∷ 50 ∷ 41 ∷ 58 ∷ 43 ∷ 91 ∷ 120 ∷ 32 ∷ 73 ∷ 78 ∷ 123 ∷ 48 ∷ 44 ∷ 49 ∷ 46 ∷ 46 ∷ 50 ∷ 125 ∷ 93 ∷ 120 ∷ 93 ∷ 111 ∷ 91 ∷ 49 ∷ 93 ∷ 59 ∷ 116 ∷ 32 ∷ 85 ∷ 32 ∷ 110 ∷ 32 ∷ 87 ∷ 32 ∷ 111 ∷ 91 ∷ 48 ∷ 93 ∷ 125 ∷ 125 ∷ []); expected = Rejected 2 94 } ∷
    record { bytes = (ascii "INFO{TITLE:\"t\"DESCRIPTION:\"\"SEMANTICS:Mealy TARGET:Moore}MAIN{INPUTS{}PRESET{&&[g IN{0,1}]m;AND[2%2<=e<2,q IN{0,1}]m EQUIV true;}REQUIRE{}OUTPUTS{m;}}"); expected = Accepted (0 ∷ 536870912 ∷ 2147500032 ∷ 536870912 ∷ 2147532800 ∷ 1073774596 ∷ 536870912 ∷ 2147581952 ∷ 536870912 ∷ 2147614720 ∷ 1073856521 ∷ 536870912 ∷ 2147663872 ∷ 536870912 ∷ 2147696640 ∷ 1073938446 ∷ 1073905679 ∷ 0 ∷ 1879310353 ∷ 1073823762 ∷ 0 ∷ 2416246784 ∷ 0 ∷ 1074085910 ∷ 0 ∷ 2416312320 ∷ 0 ∷ 1074151450 ∷ 1610989595 ∷ 1074053148 ∷ 1610612765 ∷ []) (2157051904 ∷ []) } ∷
    record { bytes = (ascii "INFO{TITLE:\"t\"DESCRIPTION:\"\"SEMANTICS:Moore TARGET:Moore}GLOBAL{DEFINITIONS{enum n=x:0*,*0;}}MAIN{OUTPUTS{l}INPUTS{}ASSUME{F l;X l;}}"); expected = Accepted (0 ∷ 0 ∷ 0 ∷ 2415951872 ∷ 536870912 ∷ 2684420096 ∷ 536870912 ∷ 2147581952 ∷ 1073823751 ∷ 1073790984 ∷ 0 ∷ 2416082944 ∷ 0 ∷ 1073922060 ∷ 1610760205 ∷ 1073758222 ∷ 1610612751 ∷ []) (2154430464 ∷ []) } ∷
    []

held_2 : texts_held cases_2 ≡ true
unfolding cases_2 text_expansion parsed spec_expansion ◌>>=◌ guard refuse_at nodes_of nodes_from count size
held_2 = refl

cases_3 : List Text
cases_3 =
    record { bytes = (ascii "INFO{TITLE:\"\"DESCRIPTION:\"\"SEMANTICS:Moore,Strict TARGET:Moore}MAIN{INPUTS{q;B_0[SIZEOF B_0];h[4];}OUTPUTS{}GUARANTEE{X[9-1]1==00W q;}}"); expected = Rejected 13 88 } ∷
    record { bytes = (ascii "INFO{TITLE:\"\"DESCRIPTION:\"\"SEMANTICS:Mealy TARGET:Mealy}GLOBAL{DEFINITIONS{enum m=i:0}}MAIN{INPUTS{q;m h;}OUTPUTS{}GUARANTEE{}}"); expected = Accepted (0 ∷ 0 ∷ 536887296 ∷ 805339136 ∷ 2415968256 ∷ 0 ∷ 1073807365 ∷ 0 ∷ 2416033792 ∷ 0 ∷ 1073872905 ∷ 1610711050 ∷ 1073758219 ∷ 1610612748 ∷ []) (6488064 ∷ 6750209 ∷ []) } ∷
    record { bytes = (ascii "INFO{TITLE:\"\"DESCRIPTION:\"t\"SEMANTICS:Moore TARGET:Mealy}GLOBAL{DEFINITIONS{enum u=Xa:10,10k:00,01}}MAIN{OUTPUTS{@;}INPUTS{a1;}ASSERT{}}"); expected = Accepted (0 ∷ 0 ∷ 0 ∷ 2415951872 ∷ 0 ∷ 1073790980 ∷ 0 ∷ 2416017408 ∷ 0 ∷ 1073856520 ∷ 1610694665 ∷ 1073758218 ∷ 1610612747 ∷ []) (8060928 ∷ 2154889216 ∷ []) } ∷
    record { bytes = (ascii "INFO{TITLE:\"\"DESCRIPTION:\"\"SEMANTICS:Moore TARGET:Moore}MAIN{REQUIRE{}OUTPUTS{}INPUTS{w;}}"); expected = Accepted (0 ∷ 0 ∷ 0 ∷ 2415951872 ∷ 0 ∷ 1073790980 ∷ 0 ∷ 2416017408 ∷ 0 ∷ 1073856520 ∷ 1610694665 ∷ 1073758218 ∷ 1610612747 ∷ []) (5636096 ∷ []) } ∷
    []

held_3 : texts_held cases_3 ≡ true
unfolding cases_3 text_expansion parsed spec_expansion ◌>>=◌ guard refuse_at nodes_of nodes_from count size
held_3 = refl

cases_4 : List Text
cases_4 =
    record { bytes = (ascii "INFO{TITLE:\"\"DESCRIPTION:\"\"SEMANTICS:Mealy TARGET:Mealy}MAIN{INPUTS{n[3];}OUTPUTS{k[1];d;}ASSERT{n[1];X EXISTS[01<=o<0]k[o]}}"); expected = Accepted (0 ∷ 0 ∷ 0 ∷ 2415951872 ∷ 0 ∷ 1073790980 ∷ 536887296 ∷ 268435456 ∷ 2147598336 ∷ 1073840136 ∷ 2416066560 ∷ 0 ∷ 1073905675 ∷ 1610694668 ∷ 1073758221 ∷ 1610612750 ∷ []) (4456451 ∷ 4456707 ∷ 4456963 ∷ 2152857601 ∷ 2153185280 ∷ []) } ∷
    record { bytes = (73 ∷ 78 ∷ 70 ∷ 79 ∷ 123 ∷ 84 ∷ 73 ∷ 84 ∷ 76 ∷ 69 ∷ 58 ∷ 34 ∷ 34 ∷ 68 ∷ 69 ∷ 83 ∷ 67 ∷ 82 ∷ 73 ∷ 80 ∷ 84 ∷ 73 ∷ 79 ∷ 78 ∷ 58 ∷ 34 ∷ 34 ∷ 83 ∷ 69 ∷ 77 ∷ 65 ∷ 78 ∷ 84 ∷ 73 ∷ 67 ∷ 83 ∷ 58 ∷ 77 ∷ 101 ∷ 97 ∷ 108 ∷ 121 ∷ 32 ∷ 84 ∷ 65 ∷ 82 ∷ 71 ∷ 69 ∷ 84 ∷ 58 ∷ 77 ∷ 111 ∷ 111 ∷ 114 ∷ 101 ∷ 125 ∷ 71 ∷ 76 ∷ 79 ∷ 66 ∷ 65 ∷ 76 ∷ 123 ∷ 68 ∷ 69 ∷ 70 ∷ 73 ∷ 78 ∷ 73 ∷ 84 ∷ 73 ∷ 79 ∷ 78 ∷ 83 ∷ 123 ∷ 101 ∷ 110 ∷ 117 ∷ 109 ∷ 32 ∷ 98 ∷ 61 ∷ 73 ∷ 110 ∷ 58 ∷ 49 ∷ 44 ∷ 48 ∷ 59 ∷ 64 ∷ 61 ∷ 40 ∷ 42 ∷ 41 ∷ 91 ∷ 118 ∷ 13 ∷ 32 ∷ 73 ∷ 78 ∷ 123 ∷ 48 ∷ 49 ∷ 44 ∷ 50 ∷ 44 ∷ 52 ∷ 125 ∷ 93 ∷ 123 ∷ 125 ∷ 125 ∷ 125 ∷ 77 ∷ 65 ∷ 73 ∷ 78 ∷ 123 ∷ 225 ∷ 78 ∷ 80 ∷ 85 ∷ 84 ∷ 83 ∷ 123 ∷ 125 ∷ 79 ∷ 85 ∷ 84 ∷ 80 ∷ 85 ∷ 84 ∷ 83 ∷ 123 ∷ 98 ∷ 32 ∷ 106 ∷ 125 ∷ 80 ∷ 82 ∷ 69 ∷ 83 ∷ 69 ∷ 84 ∷ 123 ∷ 125 ∷ 125 ∷ []); expected = Rejected 2 118 } ∷
    record { bytes = (73 ∷ 78 ∷ 70 ∷ 79 ∷ 123 ∷ 84 ∷ 73 ∷ 84 ∷ 76 ∷ 69 ∷ 58 ∷ 13 ∷ 13 ∷ 34 ∷ 34 ∷ 68 ∷ 69 ∷ 83 ∷ 67 ∷ 82 ∷ 73 ∷ 80 ∷ 84 ∷ 73 ∷ 79 ∷ 78 ∷ 58 ∷ 34 ∷ 34 ∷ 83 ∷ 69 ∷ 77 ∷ 65 ∷ 78 ∷ 84 ∷ 73 ∷ 67 ∷ 83 ∷ 9 ∷ 58 ∷ 77 ∷ 101 ∷ 97 ∷ 108 ∷ 121 ∷ 32 ∷ 84 ∷ 65 ∷ 82 ∷ 71 ∷ 69 ∷ 84 ∷ 13 ∷ 13 ∷ 58 ∷ 10 ∷ 9 ∷ 77 ∷ 101 ∷ 97 ∷ 108 ∷ 121 ∷ 125 ∷ 71 ∷ 76 ∷ 79 ∷ 66 ∷ 65 ∷ 76 ∷ 123 ∷ 125 ∷ 9 ∷ 10 ∷ 77 ∷ 65 ∷ 73 ∷ 78 ∷ 32 ∷ 47 ∷ 47 ∷ 32 ∷ 99 ∷ 10 ∷ 123 ∷ 73 ∷ 78 ∷ 80 ∷ 85 ∷ 84 ∷ 83 ∷ 13 ∷ 32 ∷ 123 ∷ 32 ∷ 47 ∷ 42 ∷ 32 ∷ 34 ∷ 32 ∷ 42 ∷ 47 ∷ 115 ∷ 91 ∷ 83 ∷ 73 ∷ 90 ∷ 69 ∷ 79 ∷ 70 ∷ 32 ∷ 115 ∷ 32 ∷ 32 ∷ 93 ∷ 59 ∷ 125 ∷ 79 ∷ 85 ∷ 84 ∷ 80 ∷ 85 ∷ 84 ∷ 83 ∷ 123 ∷ 32 ∷ 125 ∷ 71 ∷ 85 ∷ 65 ∷ 82 ∷ 65 ∷ 78 ∷ 84 ∷ 69 ∷ 69 ∷ 83 ∷ 123 ∷ 125 ∷ 125 ∷ []); expected = Rejected 13 110 } ∷
    record { bytes = (ascii "INFO{TITLE:\"\"DESCRIPTION:\"\"SEMANTICS:Mealy TARGET:Mealy}GLOBAL{DEFINITIONS{j=2;}}MAIN{INPUTS{}OUTPUTS{n[4];}INITIALLY{}GUARANTEES{n[9-4]<->n[0];}}"); expected = Rejected 13 130 } ∷
    []

held_4 : texts_held cases_4 ≡ true
unfolding cases_4 text_expansion parsed spec_expansion ◌>>=◌ guard refuse_at nodes_of nodes_from count size
held_4 = refl

cases_5 : List Text
cases_5 =
    record { bytes = (ascii "INFO{TITLE:\"\"DESCRIPTION:\"\"SEMANTICS:Mealy TARGET:Mealy}GLOBAL{DEFINITIONS{enum c=In:*;}}MAIN{INPUTS{}OUTPUTS{j;y;}GUARANTEE{1<-{0,1..2}}}"); expected = Accepted (0 ∷ 0 ∷ 0 ∷ 2415951872 ∷ 0 ∷ 1073790980 ∷ 0 ∷ 2416017408 ∷ 0 ∷ 1073856520 ∷ 1610694665 ∷ 1073758218 ∷ 1610612747 ∷ []) (2154692608 ∷ 2154823680 ∷ []) } ∷
    record { bytes = (ascii "INFO{TITLE:\"\"DESCRIPTION:\"\"SEMANTICS:Mealy TARGET:Mealy}MAIN{INPUTS{a}OUTPUTS{}ASSERT{!!!!!!!!!!!!!!!!!!!!!!!!!!!!!!!!!!!!!!!!!!!!!!!!!!!!!!!!!!!!!!!!!!!!!!!!!!!!!!!!!!!!!!!!!!!!!!!!!!!!!!!!!!!!!!!!!!!!!!!!!!!!!!!!!!!!!!!!!!!!!!!!!!!!!!!!!!!!!!!!!!!!!!!!!!!!!!!!!!!!!!!!!!!!!!!!!!!!!!!!!!!!!!!!!!!!!!!!!!!!!!!!!!!!!!!!!!!!!!!!!!!!!!!!!!!!!!1 IN{1}}}"); expected = Rejected 5 86 } ∷
    record { bytes = (ascii "INFO{TITLE:\"\"DESCRIPTION:\"\"SEMANTICS:Mealy TARGET:Mealy}MAIN{INPUTS{a}OUTPUTS{}ASSERT{!!!!!!!!!!!!!!!!!!!!!!!!!!!!!!!!!!!!!!!!!!!!!!!!!!!!!!!!!!!!!!!!!!!!!!!!!!!!!!!!!!!!!!!!!!!!!!!!!!!!!!!!!!!!!!!!!!!!!!!!!!!!!!!!!!!!!!!!!!!!!!!!!!!!!!!!!!!!!!!!!!!!!!!!!!!!!!!!!!!!!!!!!!!!!!!!!!!!!!!!!!!!!!!!!!!!!!!!!!!!!!!!!!!!!!!!!!!!!!!!!!!!!!!!!!!!!!1 IN{1}}}"); expected = Rejected 5 86 } ∷
    record { bytes = (ascii "INFO{TITLE:\"\"DESCRIPTION:\"t\"SEMANTICS:Mealy TARGET:Moore}MAIN{INPUTS{}OUTPUTS{f;}INVARIANTS{(0!=1)}}"); expected = Accepted (0 ∷ 0 ∷ 0 ∷ 2415951872 ∷ 0 ∷ 1073790980 ∷ 0 ∷ 2416017408 ∷ 0 ∷ 1073856520 ∷ 1610694665 ∷ 1073758218 ∷ 1610612747 ∷ []) (2152595456 ∷ []) } ∷
    []

held_5 : texts_held cases_5 ≡ true
unfolding cases_5 text_expansion parsed spec_expansion ◌>>=◌ guard refuse_at nodes_of nodes_from count size
held_5 = refl

cases_6 : List Text
cases_6 =
    record { bytes = (ascii "INFO{TITLE:\"\"DESCRIPTION:\"\"SEMANTICS:Mealy,Strict TARGET:Mealy}GLOBAL{DEFINITIONS{r=0;}}MAIN{OUTPUTS{o;}INPUTS{}REQUIRE{X true R o;}}"); expected = Accepted (0 ∷ 0 ∷ 0 ∷ 0 ∷ 2147532800 ∷ 536870912 ∷ 3221291013 ∷ 805404672 ∷ 3489693703 ∷ 1073758216 ∷ 0 ∷ 2147647488 ∷ 536870912 ∷ 3221405708 ∷ 2416132096 ∷ 0 ∷ 1073971215 ∷ 0 ∷ 1610874897 ∷ 1073889298 ∷ 1610612755 ∷ []) (2154102784 ∷ []) } ∷
    record { bytes = (ascii "INFO{TITLE:\"\"DESCRIPTION:\"\"SEMANTICS:Mealy,Strict TARGET:Moore}GLOBAL{}MAIN{INPUTS{w;y[4]}OUTPUTS{a;}ASSUME{9-2PLUS 1IN{0,1..2};1*1IN{};}}"); expected = Accepted (0 ∷ 0 ∷ 0 ∷ 0 ∷ 805355520 ∷ 3489693700 ∷ 1073758213 ∷ 0 ∷ 2416033792 ∷ 268435456 ∷ 268435456 ∷ 1073889290 ∷ 1073872907 ∷ 0 ∷ 1610809357 ∷ 1073840142 ∷ 1610612751 ∷ []) (5439488 ∷ 5570564 ∷ 5570820 ∷ 5571076 ∷ 5571332 ∷ 2153906176 ∷ []) } ∷
    record { bytes = (ascii "INFO{TITLE:\"\"DESCRIPTION:\"\"SEMANTICS:Moore TARGET:Mealy}GLOBAL{DEFINITIONS{r=x'}}MAIN{INPUTS{x';}OUTPUTS{}REQUIRE{x'<->x';r;}ASSERT{}}"); expected = Accepted (0 ∷ 0 ∷ 536870912 ∷ 2147516416 ∷ 536870912 ∷ 2147549184 ∷ 1879097349 ∷ 536870912 ∷ 2147598336 ∷ 1073840136 ∷ 2416066560 ∷ 0 ∷ 1073905675 ∷ 0 ∷ 2416132096 ∷ 0 ∷ 1073971215 ∷ 1610809360 ∷ 1073758225 ∷ 1610612754 ∷ []) (6094848 ∷ []) } ∷
    record { bytes = (ascii "INFO{TITLE:\"\"DESCRIPTION:\"\"SEMANTICS:Mealy TARGET:Mealy}MAIN{INPUTS{a}OUTPUTS{}ASSERT{1 IN{0,1..255}(+){1,300}}}"); expected = Rejected 12 100 } ∷
    []

held_6 : texts_held cases_6 ≡ true
unfolding cases_6 text_expansion parsed spec_expansion ◌>>=◌ guard refuse_at nodes_of nodes_from count size
held_6 = refl

cases_7 : List Text
cases_7 =
    record { bytes = (ascii "INFO{TITLE:\"\"DESCRIPTION:\"\"SEMANTICS:Moore TARGET:Moore}GLOBAL{DEFINITIONS{a=w;enum c=s:10i:00,0*t:11,11;}}MAIN{PRESET{true}INVARIANTS{}OUTPUTS{}INPUTS{w;o[3];c B_0}}"); expected = Accepted (0 ∷ 0 ∷ 0 ∷ 2415951872 ∷ 0 ∷ 1073790980 ∷ 0 ∷ 2416017408 ∷ 0 ∷ 1073856520 ∷ 1610694665 ∷ 1073758218 ∷ 1610612747 ∷ []) (9961472 ∷ 10092547 ∷ 10092803 ∷ 10093059 ∷ 10551298 ∷ 10551554 ∷ []) } ∷
    record { bytes = (ascii "INFO{TITLE:\"\"DESCRIPTION:\"\"SEMANTICS:Mealy TARGET:Mealy}GLOBAL{PARAMETERS{}}MAIN{INPUTS{i;}OUTPUTS{f;}INITIALLY{}}"); expected = Accepted (0 ∷ 0 ∷ 0 ∷ 2415951872 ∷ 0 ∷ 1073790980 ∷ 0 ∷ 2416017408 ∷ 0 ∷ 1073856520 ∷ 1610694665 ∷ 1073758218 ∷ 1610612747 ∷ []) (5767168 ∷ 2153971712 ∷ []) } ∷
    record { bytes = (ascii "INFO{TITLE:\"\"DESCRIPTION:\"\"SEMANTICS:Mealy TARGET:Mealy}GLOBAL{PARAMETERS{}DEFINITIONS{@={0,1};}}MAIN{OUTPUTS{p;x;}INPUTS{}REQUIRE{p R p;}}"); expected = Accepted (0 ∷ 0 ∷ 536870912 ∷ 536870912 ∷ 3221258243 ∷ 2415984640 ∷ 0 ∷ 1073823750 ∷ 0 ∷ 2416050176 ∷ 0 ∷ 1073889290 ∷ 1610727435 ∷ 1073758220 ∷ 1610612749 ∷ []) (2154692608 ∷ 2154823680 ∷ []) } ∷
    record { bytes = (ascii "INFO{TITLE:\"\"DESCRIPTION:\"t\"SEMANTICS:Moore,Strict TARGET:Moore}GLOBAL{DEFINITIONS{s=2}}MAIN{INPUTS{k;r;}OUTPUTS{}ASSUMPTIONS{(false);1;}}"); expected = Rejected 9 134 } ∷
    []

held_7 : texts_held cases_7 ≡ true
unfolding cases_7 text_expansion parsed spec_expansion ◌>>=◌ guard refuse_at nodes_of nodes_from count size
held_7 = refl

cases_8 : List Text
cases_8 =
    record { bytes = (ascii " INFO { TITLE : \"\" DESCRIPTION : \"\" SEMANTICS : Moore TARGET : Mealy } MAIN { INPUTS { q } OUTPUTS { b ; } REQUIRE { b ; 0 == 0 } }"); expected = Accepted (0 ∷ 0 ∷ 536887296 ∷ 0 ∷ 1073774595 ∷ 2415984640 ∷ 0 ∷ 1073823750 ∷ 0 ∷ 2416050176 ∷ 0 ∷ 1073889290 ∷ 1610727435 ∷ 1073758220 ∷ 1610612749 ∷ []) (5701632 ∷ 2154102784 ∷ []) } ∷
    record { bytes = (ascii "INFO{TITLE:\"\"DESCRIPTION:\"\"SEMANTICS:Moore TARGET:Moore}GLOBAL{DEFINITIONS{_=!G[(0):5]@;}}MAIN{INPUTS{}OUTPUTS{@}REQUIRE{0+3/3$IN{0,1..22}}}"); expected = Rejected 2 126 } ∷
    record { bytes = (ascii "INFO{TITLE:\"\"DESCRIPTION:\"\"SEMANTICS:Mealy,Strict TARGET:Mealy}GLOBAL{PARAMETERS{r=01;}DEFINITIONS{enum b=n:1**,101y:000;}}MAIN{INPUTS{b A;x;}OUTPUTS{}INITIALLY{}}"); expected = Accepted (0 ∷ 0 ∷ 0 ∷ 536870912 ∷ 536870912 ∷ 536887296 ∷ 805388288 ∷ 1073807366 ∷ 536903680 ∷ 1073856520 ∷ 1342226441 ∷ 536870912 ∷ 805486592 ∷ 536887296 ∷ 805519360 ∷ 1073938446 ∷ 536903680 ∷ 805568512 ∷ 1073987601 ∷ 1342341138 ∷ 805617664 ∷ 3489693716 ∷ 1073758229 ∷ 536870912 ∷ 536870912 ∷ 536887296 ∷ 805715968 ∷ 1074135066 ∷ 536903680 ∷ 1074184220 ∷ 1342554141 ∷ 536870912 ∷ 805814272 ∷ 536887296 ∷ 805847040 ∷ 1074266146 ∷ 536903680 ∷ 805896192 ∷ 1074315301 ∷ 1342668838 ∷ 2416558080 ∷ 0 ∷ 1074397225 ∷ 0 ∷ 1611300907 ∷ 1074102316 ∷ 1610612781 ∷ []) (8978435 ∷ 8978691 ∷ 8978947 ∷ 9109504 ∷ []) } ∷
    record { bytes = (ascii "INFO{TITLE:\"\"DESCRIPTION:\"\"SEMANTICS:Moore TARGET:Mealy}GLOBAL{DEFINITIONS{enum Xa=h:*;i={2,1..0}}}MAIN{INPUTS{}OUTPUTS{A}PRESET{}}"); expected = Accepted (0 ∷ 0 ∷ 0 ∷ 2415951872 ∷ 0 ∷ 1073790980 ∷ 0 ∷ 2416017408 ∷ 0 ∷ 1073856520 ∷ 1610694665 ∷ 1073758218 ∷ 1610612747 ∷ []) (2155347968 ∷ []) } ∷
    []

held_8 : texts_held cases_8 ≡ true
unfolding cases_8 text_expansion parsed spec_expansion ◌>>=◌ guard refuse_at nodes_of nodes_from count size
held_8 = refl

cases_9 : List Text
cases_9 =
    record { bytes = (ascii "INFO{TITLE:\"\"DESCRIPTION:\"\"SEMANTICS:Mealy TARGET:Moore TAGS:_,safety}GLOBAL{DEFINITIONS{}}MAIN{INPUTS{}INITIALLY{}OUTPUTS{y[3];}}"); expected = Accepted (0 ∷ 0 ∷ 0 ∷ 2415951872 ∷ 0 ∷ 1073790980 ∷ 0 ∷ 2416017408 ∷ 0 ∷ 1073856520 ∷ 1610694665 ∷ 1073758218 ∷ 1610612747 ∷ []) (2155544579 ∷ 2155544835 ∷ 2155545091 ∷ []) } ∷
    record { bytes = (ascii "INFO{TITLE:\"\"DESCRIPTION:\"t\"SEMANTICS:Mealy TARGET:Mealy}GLOBAL{DEFINITIONS{enum B_0=y:0,0i:001*01*01,1}}MAIN{ASSUME{(s);}INPUTS{A;m;}OUTPUTS{s}}"); expected = Rejected 10 92 } ∷
    record { bytes = (ascii "INFO{TITLE:\"t\"DESCRIPTION:\"\"SEMANTICS:Moore TARGET:Moore}MAIN{INPUTS{d;}OUTPUTS{h;l}ASSUME{}}"); expected = Accepted (0 ∷ 0 ∷ 0 ∷ 2415951872 ∷ 0 ∷ 1073790980 ∷ 0 ∷ 2416017408 ∷ 0 ∷ 1073856520 ∷ 1610694665 ∷ 1073758218 ∷ 1610612747 ∷ []) (4521984 ∷ 2152726528 ∷ 2152857600 ∷ []) } ∷
    record { bytes = (ascii "INFO{TITLE:\"\"DESCRIPTION:\"\"SEMANTICS:Mealy TARGET:Moore}GLOBAL{}MAIN{I&PUTS{o;}OUTPUTS{t[3];n}PRESET{(((o))&&o<->n);}}"); expected = Rejected 2 70 } ∷
    []

held_9 : texts_held cases_9 ≡ true
unfolding cases_9 text_expansion parsed spec_expansion ◌>>=◌ guard refuse_at nodes_of nodes_from count size
held_9 = refl

cases_10 : List Text
cases_10 =
    record { bytes = (ascii "INFO{TITLE:\"\"DESCRIPTION:\"\"SEMANTICS:Mealy TARGET:Mealy}GLOBAL{DEFINITIONS{enum n=q:10p:01r:11;}}MAIN{INPUTS{n m;a[3];}OUTPUTS{_}REQUIRE{}}"); expected = Accepted (0 ∷ 0 ∷ 536870912 ∷ 536887296 ∷ 805355520 ∷ 1073774596 ∷ 536870912 ∷ 805404672 ∷ 536887296 ∷ 1073856520 ∷ 1342259209 ∷ 536870912 ∷ 536887296 ∷ 1073922060 ∷ 1342341133 ∷ 2416148480 ∷ 0 ∷ 1073987600 ∷ 0 ∷ 2416214016 ∷ 0 ∷ 1074053140 ∷ 1610891285 ∷ 1073758230 ∷ 1610612759 ∷ []) (7274498 ∷ 7274754 ∷ 7405571 ∷ 7405827 ∷ 7406083 ∷ 2155806720 ∷ []) } ∷
    record { bytes = (ascii "INFO{TITLE:\"\"DESCRIPTION:\"\"SEMANTICS:Mealy TARGET:Moore}MAIN{PRESET{}GUARANTEES{}OUTPUTS{}INPUTS{q;}}"); expected = Accepted (0 ∷ 0 ∷ 0 ∷ 2415951872 ∷ 0 ∷ 1073790980 ∷ 0 ∷ 2416017408 ∷ 0 ∷ 1073856520 ∷ 1610694665 ∷ 1073758218 ∷ 1610612747 ∷ []) (6356992 ∷ []) } ∷
    record { bytes = (ascii "INFO{TITLE:\"t\"DESCRIPTION:\"\"SEMANTICS:Mealy TARGET:Mealy TAGS:_,safety}GLOBAL{PARAMETERS{w=1;}DEFINITIONS{enum i=v:0e:1;B_0={}}}MAIN{OUTPUTS{}PRESET{}INPUTS{i j;q;}}"); expected = Accepted (0 ∷ 0 ∷ 0 ∷ 2415951872 ∷ 0 ∷ 1073790980 ∷ 0 ∷ 2416017408 ∷ 0 ∷ 1073856520 ∷ 1610694665 ∷ 1073758218 ∷ 1610612747 ∷ []) (10420225 ∷ 10551296 ∷ []) } ∷
    record { bytes = (ascii "INFO{TITLE:\"\"DESCRIPTION:\"\"SEMANTICS:Moore TARGET:Moore}MAIN{INPUTS{z[4];}OUTPUTS{y;r[4];}ASSUMPTIONS{9-1!=(3)}}"); expected = Accepted (0 ∷ 0 ∷ 0 ∷ 2415951872 ∷ 0 ∷ 1073790980 ∷ 0 ∷ 2416017408 ∷ 0 ∷ 1073856520 ∷ 1610694665 ∷ 1073758218 ∷ 1610612747 ∷ []) (4456452 ∷ 4456708 ∷ 4456964 ∷ 4457220 ∷ 2152857600 ∷ 2152988676 ∷ 2152988932 ∷ 2152989188 ∷ 2152989444 ∷ []) } ∷
    []

held_10 : texts_held cases_10 ≡ true
unfolding cases_10 text_expansion parsed spec_expansion ◌>>=◌ guard refuse_at nodes_of nodes_from count size
held_10 = refl

cases_11 : List Text
cases_11 =
    record { bytes = (ascii "INFO{TITLE:\"\"DESCRIPTION:\"\"SEMANTICS:Mealy TARGET:Mealy}MAIN{INPUTS{}OUTPUTS{B_0[1];}REQUIRE{}}"); expected = Accepted (0 ∷ 0 ∷ 0 ∷ 2415951872 ∷ 0 ∷ 1073790980 ∷ 0 ∷ 2416017408 ∷ 0 ∷ 1073856520 ∷ 1610694665 ∷ 1073758218 ∷ 1610612747 ∷ []) (2152529921 ∷ []) } ∷
    record { bytes = (ascii "INFO{TITLE:\"\"DESCRIPTION:\"\"SEMANTICS:Moore TARGET:Moore}MAIN{INPUTS{}OUTPUTS{o}REQUIRE{(F s);true||o;}INVARIANTS{2==2;}ASSUMPTIONS{o||l}}"); expected = Rejected 6 90 } ∷
    record { bytes = (ascii "INFO{TITLE:\"\"DESCRIPTION:\"\"SEMANTICS:Mealy,Strict TARGET:Mealy}MAIN{OUTPUTS{A[2];t;y;}INPUTS{}GUARANTEES{y;}}"); expected = Accepted (0 ∷ 0 ∷ 0 ∷ 0 ∷ 805355520 ∷ 3489693700 ∷ 1073758213 ∷ 0 ∷ 2416033792 ∷ 0 ∷ 1073872905 ∷ 536920064 ∷ 1610776587 ∷ 1073840140 ∷ 1610612749 ∷ []) (2152464386 ∷ 2152464642 ∷ 2152792064 ∷ 2152923136 ∷ []) } ∷
    record { bytes = (ascii "INFO{TITLE:\"\"DESCRIPTION:\"\"SEMANTICS:Mealy TARGET:Mealy}MAIN{INPUTS{a}OUTPUTS{}ASSERT{+[0<=i<256]i==1}}"); expected = Accepted (0 ∷ 0 ∷ 0 ∷ 2415951872 ∷ 0 ∷ 1073790980 ∷ 268435456 ∷ 2416017408 ∷ 0 ∷ 1073856520 ∷ 1610694665 ∷ 1073758218 ∷ 1610612747 ∷ []) (4456448 ∷ []) } ∷
    []

held_11 : texts_held cases_11 ≡ true
unfolding cases_11 text_expansion parsed spec_expansion ◌>>=◌ guard refuse_at nodes_of nodes_from count size
held_11 = refl

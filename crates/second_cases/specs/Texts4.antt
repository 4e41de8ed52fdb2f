-- Written by the second converter: cases with its answers, each computed from the definitions.
use Rattle.std.specs.Prelude.{true, List, [], ◌∷◌, ◌≡◌, refl}
use Rattle.node.specs.Postorder.{size, nodes_from}
use Rattle.node.specs.Written.{nodes_of, count}
use Rattle.node.specs.Result.{◌>>=◌, guard}
use Rattle.language.specs.Bytes.{ascii}
use Rattle.language.specs.Places.{refuse_at}
use Rattle.language.specs.Parsing.{parsed}
use Rattle.language.specs.Reading.{text_expansion, spec_expansion}
use Rattle.second_cases.specs.Held.{Accepted, Rejected, Text, texts_held}

cases_0 : List Text
cases_0 =
    record { bytes = (ascii "INFO{TITLE:\"\"DESCRIPTION:\"t\"SEMANTICS:Mealy TARGET:Mealy}GLOBAL{PARAMETERS{v=2}DEFINITIONS{enum A=f:1,1u:0;Xa={0,1}(\\){0,1}}}MAIN{INITIALLY{}OUTPUTS{a1[256]}INPUTS{A y;}}"); expected = Rejected 13 149 } ∷
    record { bytes = (ascii "INFO{TITLE:\"\"DESCRIPTION:\"\"SEMANTICS:Moore TARGET:Mealy}GLOBAL{}MAIN{OUTPUTS{f[3];s;}ASSERT{s;s&&G((f[1]))}INPUTS{}}"); expected = Accepted (0 ∷ 0 ∷ 0 ∷ 2415951872 ∷ 0 ∷ 1073790980 ∷ 536920064 ∷ 536920064 ∷ 536887296 ∷ 2416050176 ∷ 1073856521 ∷ 1073840138 ∷ 2416099328 ∷ 0 ∷ 1073938445 ∷ 1610694670 ∷ 1073758223 ∷ 1610612752 ∷ []) (2152529923 ∷ 2152530179 ∷ 2152530435 ∷ 2152857600 ∷ []) } ∷
    record { bytes = (73 ∷ 47 ∷ 42 ∷ 78 ∷ 70 ∷ 79 ∷ 123 ∷ 32 ∷ 47 ∷ 42 ∷ 42 ∷ 47 ∷ 84 ∷ 73 ∷ 84 ∷ 76 ∷ 69 ∷ 32 ∷ 32 ∷ 58 ∷ 34 ∷ 34 ∷ 68 ∷ 69 ∷ 83 ∷ 67 ∷ 82 ∷ 73 ∷ 80 ∷ 84 ∷ 73 ∷ 79 ∷ 78 ∷ 32 ∷ 32 ∷ 58 ∷ 13 ∷ 10 ∷ 34 ∷ 34 ∷ 83 ∷ 69 ∷ 77 ∷ 65 ∷ 78 ∷ 84 ∷ 73 ∷ 67 ∷ 83 ∷ 58 ∷ 77 ∷ 111 ∷ 111 ∷ 114 ∷ 101 ∷ 32 ∷ 84 ∷ 65 ∷ 82 ∷ 71 ∷ 69 ∷ 84 ∷ 58 ∷ 77 ∷ 101 ∷ 97 ∷ 108 ∷ 121 ∷ 125 ∷ 77 ∷ 65 ∷ 73 ∷ 78 ∷ 123 ∷ 10 ∷ 73 ∷ 78 ∷ 80 ∷ 85 ∷ 84 ∷ 83 ∷ 123 ∷ 32 ∷ 47 ∷ 42 ∷ 42 ∷ 47 ∷ 125 ∷ 79 ∷ 85 ∷ 84 ∷ 80 ∷ 85 ∷ 84 ∷ 83 ∷ 123 ∷ 32 ∷ 32 ∷ 108 ∷ 91 ∷ 50 ∷ 93 ∷ 59 ∷ 103 ∷ 59 ∷ 125 ∷ 65 ∷ 83 ∷ 83 ∷ 69 ∷ 82 ∷ 84 ∷ 32 ∷ 9 ∷ 32 ∷ 32 ∷ 10 ∷ 9 ∷ 123 ∷ 13 ∷ 125 ∷ 32 ∷ 32 ∷ 32 ∷ 32 ∷ 125 ∷ []); expected = Rejected 2 1 } ∷
    record { bytes = (ascii "INFO{TITLE:\"\"DESCRIPTION:\"\"SEMANTICS:Mealy TARGET:Mealy}MAIN{INPUTS{a}OUTPUTS{}ASSERT{7-8==1}}"); expected = Rejected 11 87 } ∷
    []

held_0 : texts_held cases_0 ≡ true
unfolding cases_0 text_expansion parsed spec_expansion ◌>>=◌ guard refuse_at nodes_of nodes_from count size
held_0 = refl

cases_1 : List Text
cases_1 =
    record { bytes = (ascii "INFO{TITLE:\"\"DESCRIPTION:\"\"SEMANTICS:Mealy TARGET:Mealy}MAIN{INPUTS{}OUTPUTS{a1;}PRESET{F[(2%1+o):6]w;}REQUIRE{a1 R 1IN y;&&[SIZE{1,3..1}<m<=1]a1;}}"); expected = Rejected 6 95 } ∷
    record { bytes = (73 ∷ 78 ∷ 70 ∷ 79 ∷ 123 ∷ 84 ∷ 73 ∷ 84 ∷ 76 ∷ 69 ∷ 58 ∷ 34 ∷ 34 ∷ 68 ∷ 69 ∷ 83 ∷ 67 ∷ 82 ∷ 73 ∷ 80 ∷ 84 ∷ 73 ∷ 79 ∷ 78 ∷ 58 ∷ 34 ∷ 116 ∷ 34 ∷ 83 ∷ 69 ∷ 77 ∷ 65 ∷ 78 ∷ 84 ∷ 73 ∷ 67 ∷ 83 ∷ 58 ∷ 77 ∷ 111 ∷ 111 ∷ 114 ∷ 101 ∷ 32 ∷ 84 ∷ 65 ∷ 82 ∷ 71 ∷ 69 ∷ 84 ∷ 58 ∷ 77 ∷ 111 ∷ 111 ∷ 114 ∷ 101 ∷ 125 ∷ 71 ∷ 76 ∷ 79 ∷ 66 ∷ 65 ∷ 76 ∷ 123 ∷ 125 ∷ 77 ∷ 65 ∷ 73 ∷ 78 ∷ 123 ∷ 73 ∷ 78 ∷ 80 ∷ 85 ∷ 84 ∷ 83 ∷ 123 ∷ 125 ∷ 79 ∷ 85 ∷ 84 ∷ 80 ∷ 85 ∷ 84 ∷ 83 ∷ 123 ∷ 73 ∷ 110 ∷ 125 ∷ 65 ∷ 83 ∷ 83 ∷ 85 ∷ 77 ∷ 69 ∷ 123 ∷ 38 ∷ 38 ∷ 91 ∷ 66 ∷ 95 ∷ 48 ∷ 32 ∷ 73 ∷ 78 ∷ 123 ∷ 48 ∷ 44 ∷ 49 ∷ 46 ∷ 46 ∷ 50 ∷ 125 ∷ 93 ∷ 73 ∷ 110 ∷ 59 ∷ 38 ∷ 38 ∷ 91 ∷ 51 ∷ 60 ∷ 61 ∷ 106 ∷ 32 ∷ 76 ∷ 69 ∷ 32 ∷ 50 ∷ 93 ∷ 116 ∷ 235 ∷ 117 ∷ 101 ∷ 125 ∷ 125 ∷ []); expected = Rejected 2 131 } ∷
    record { bytes = (ascii "INFO{TITLE:\"t\"DESCRIPTION:\"\"SEMANTICS:Mealy TARGET:Moore}GLOBAL{DEFINITIONS{enum x=d:0m:1;}}MAIN{INPUTS{}OUTPUTS{x Xa;z;}ASSERT{X Xa[0];1==(*[01<=b<=00]b)}}"); expected = Accepted (0 ∷ 0 ∷ 0 ∷ 2415951872 ∷ 0 ∷ 1073790980 ∷ 536870912 ∷ 2147581952 ∷ 2147598336 ∷ 0 ∷ 1073872905 ∷ 2416082944 ∷ 0 ∷ 1073922060 ∷ 1610694669 ∷ 1073758222 ∷ 1610612751 ∷ []) (2155020289 ∷ 2155216896 ∷ []) } ∷
    record { bytes = (ascii "INFO{TITLE:\"t\"DESCRIPTION:\"\"SEMANTICS:Moore TARGET:Moore}GLOBAL{PARAMETERS{}DEFINITIONS{enum j=B_0:010}}MAIN{INPUTS{a1}OUTPUTS{m;g;}INITIALLY{2==0;}PRESET{}REQUIRE{}}"); expected = Accepted (268435456 ∷ 0 ∷ 0 ∷ 2415951872 ∷ 0 ∷ 1073790980 ∷ 0 ∷ 2416017408 ∷ 0 ∷ 1073856520 ∷ 1610694665 ∷ 1073758218 ∷ 1610612747 ∷ []) (7602176 ∷ 2155806720 ∷ 2155937792 ∷ []) } ∷
    []

held_1 : texts_held cases_1 ≡ true
unfolding cases_1 text_expansion parsed spec_expansion ◌>>=◌ guard refuse_at nodes_of nodes_from count size
held_1 = refl

cases_2 : List Text
cases_2 =
    record { bytes = (ascii "INFO{TITLE:\"\"DESCRIPTION:\"\"SEMANTICS:Mealy TARGET:Mealy}GLOBAL{DEFINITIONS{enum c=b:*11,001_:1*0;a=1;}}MAIN{INPUTS{}OUTPUTS{c In;d;p;}ASSUME{}}"); expected = Accepted (0 ∷ 0 ∷ 0 ∷ 2415951872 ∷ 0 ∷ 1073790980 ∷ 536887296 ∷ 536903680 ∷ 1073840135 ∷ 536870912 ∷ 805453824 ∷ 536887296 ∷ 805486592 ∷ 1073905676 ∷ 536903680 ∷ 1073954830 ∷ 1342308367 ∷ 536870912 ∷ 536903680 ∷ 805601280 ∷ 1074020371 ∷ 1342439444 ∷ 2416263168 ∷ 0 ∷ 1074102295 ∷ 1610694680 ∷ 1073758233 ∷ 1610612762 ∷ []) (2155741187 ∷ 2155741443 ∷ 2155741699 ∷ 2155937792 ∷ 2156068864 ∷ []) } ∷
    record { bytes = (ascii "INFO{TITLE:\"\"DESCRIPTION:\"\"SEMANTICS:Moore TARGET:Mealy}GLOBAL{PARAMETERS{n=2}}MAIN{INITIALLY{}ASSUME{a W a;}OUTPUTS{a}INPUTS{}}"); expected = Accepted (0 ∷ 0 ∷ 0 ∷ 2415951872 ∷ 536870912 ∷ 536870912 ∷ 3489726469 ∷ 1073790982 ∷ 0 ∷ 2416050176 ∷ 0 ∷ 1073889290 ∷ 1610727435 ∷ 1073758220 ∷ 1610612749 ∷ []) (2155151360 ∷ []) } ∷
    record { bytes = (ascii "INFO{TITLE:\"\"DESCRIPTION:\"\"SEMANTICS:Mealy TARGET:Mealy}MAIN{INPUTS{b[256]}OUTPUTS{}}"); expected = Rejected 13 68 } ∷
    record { bytes = (ascii "INFO{TITLE:\"\"DESCRIPTION:\"\"SEMANTICS:Mealy TARGET:Mealy}MAIN{INPUTS{a}OUTPUTS{}ASSERT{!!!!!!!!!!!!!!!!!!!!!!!!!!!!!!!!!!!!!!!!!!!!!!!!!!!!!!!!!!!!!!!!!!!!!!!!!!!!!!!!!!!!!!!!!!!!!!!!!!!!!!!!!!!!!!!!!!!!!!!!!!!!!!!!!!!!!!!!!!!!!!!!!!!!!!!!!!!!!!!!!!!!!!!!!!!!!!!!!!!!!!!!!!!!!!!!!!!!!!!!!!!!!!!!!!!!!!!!!!!!!!!!!!!!!!!!!!!!!!!!!!!!!!!!!!!!!!!!a}}"); expected = Rejected 5 86 } ∷
    []

held_2 : texts_held cases_2 ≡ true
unfolding cases_2 text_expansion parsed spec_expansion ◌>>=◌ guard refuse_at nodes_of nodes_from count size
held_2 = refl

cases_3 : List Text
cases_3 =
    record { bytes = (ascii "INFO{TITLE:\"\"DESCRIPTION:\"\"SEMANTICS:Mealy TARGET:Mealy}GLOBAL{DEFINITIONS{m={0,1..2}}}MAIN{INPUTS{A;y}OUTPUTS{}GUARANTEE{X[4]y R y;X[1]4!=4;}}"); expected = Accepted (0 ∷ 0 ∷ 0 ∷ 2415951872 ∷ 0 ∷ 1073790980 ∷ 0 ∷ 2416017408 ∷ 536887296 ∷ 2147614720 ∷ 2147631104 ∷ 2147647488 ∷ 2147663872 ∷ 536887296 ∷ 3221422093 ∷ 268435456 ∷ 2147729408 ∷ 1073971216 ∷ 1073856529 ∷ 1610694674 ∷ 1073758227 ∷ 1610612756 ∷ []) (6488064 ∷ 6619136 ∷ []) } ∷
    record { bytes = (73 ∷ 78 ∷ 70 ∷ 79 ∷ 123 ∷ 84 ∷ 73 ∷ 84 ∷ 76 ∷ 69 ∷ 58 ∷ 34 ∷ 34 ∷ 68 ∷ 69 ∷ 83 ∷ 67 ∷ 82 ∷ 73 ∷ 80 ∷ 84 ∷ 73 ∷ 79 ∷ 78 ∷ 58 ∷ 34 ∷ 47 ∷ 47 ∷ 32 ∷ 59 ∷ 32 ∷ 125 ∷ 32 ∷ 195 ∷ 169 ∷ 34 ∷ 83 ∷ 69 ∷ 77 ∷ 65 ∷ 78 ∷ 84 ∷ 73 ∷ 67 ∷ 83 ∷ 58 ∷ 77 ∷ 101 ∷ 97 ∷ 108 ∷ 121 ∷ 32 ∷ 84 ∷ 65 ∷ 82 ∷ 71 ∷ 69 ∷ 84 ∷ 58 ∷ 77 ∷ 101 ∷ 97 ∷ 108 ∷ 121 ∷ 125 ∷ 71 ∷ 76 ∷ 79 ∷ 66 ∷ 65 ∷ 76 ∷ 123 ∷ 68 ∷ 69 ∷ 70 ∷ 73 ∷ 78 ∷ 73 ∷ 84 ∷ 73 ∷ 79 ∷ 78 ∷ 83 ∷ 123 ∷ 116 ∷ 61 ∷ 49 ∷ 42 ∷ 51 ∷ 39 ∷ 125 ∷ 125 ∷ 77 ∷ 65 ∷ 73 ∷ 78 ∷ 123 ∷ 79 ∷ 85 ∷ 84 ∷ 80 ∷ 85 ∷ 84 ∷ 83 ∷ 123 ∷ 118 ∷ 59 ∷ 104 ∷ 59 ∷ 97 ∷ 49 ∷ 125 ∷ 73 ∷ 78 ∷ 86 ∷ 65 ∷ 82 ∷ 73 ∷ 65 ∷ 78 ∷ 84 ∷ 83 ∷ 123 ∷ 118 ∷ 38 ∷ 38 ∷ 118 ∷ 59 ∷ 102 ∷ 97 ∷ 108 ∷ 115 ∷ 101 ∷ 59 ∷ 125 ∷ 73 ∷ 78 ∷ 80 ∷ 85 ∷ []); expected = Rejected 2 89 } ∷
    record { bytes = (ascii "INFO{TITLE:\"\"DESCRIPTION:\"\"SEMANTICS:Moore,Strict TARGET:Moore}MAIN{INPUTS{}OUTPUTS{s;}ASSUME{false&&true||s;F[o*4:6]s}}"); expected = Rejected 6 111 } ∷
    record { bytes = (ascii "INFO{TITLE:\"\"DESCRIPTION:\"\"SEMANTICS:Mealy TARGET:Mealy}GLOBAL{DEFINITIONS{enum k=w:00,*0f:11,*1;B_0={0,1};}}MAIN{INPUTS{i;}OUTPUTS{Xa m;}GUARANTEES{m;m}ASSERT{i;}}"); expected = Rejected 6 132 } ∷
    []

held_3 : texts_held cases_3 ≡ true
unfolding cases_3 text_expansion parsed spec_expansion ◌>>=◌ guard refuse_at nodes_of nodes_from count size
held_3 = refl

cases_4 : List Text
cases_4 =
    record { bytes = (73 ∷ 78 ∷ 70 ∷ 79 ∷ 123 ∷ 84 ∷ 73 ∷ 84 ∷ 76 ∷ 69 ∷ 32 ∷ 58 ∷ 34 ∷ 34 ∷ 32 ∷ 32 ∷ 68 ∷ 69 ∷ 83 ∷ 67 ∷ 82 ∷ 73 ∷ 80 ∷ 84 ∷ 73 ∷ 79 ∷ 78 ∷ 58 ∷ 34 ∷ 34 ∷ 32 ∷ 83 ∷ 69 ∷ 77 ∷ 65 ∷ 78 ∷ 84 ∷ 73 ∷ 67 ∷ 83 ∷ 58 ∷ 77 ∷ 111 ∷ 111 ∷ 114 ∷ 101 ∷ 13 ∷ 84 ∷ 65 ∷ 82 ∷ 71 ∷ 69 ∷ 84 ∷ 13 ∷ 58 ∷ 13 ∷ 32 ∷ 77 ∷ 101 ∷ 97 ∷ 108 ∷ 121 ∷ 32 ∷ 47 ∷ 42 ∷ 32 ∷ 34 ∷ 32 ∷ 42 ∷ 47 ∷ 125 ∷ 13 ∷ 13 ∷ 9 ∷ 71 ∷ 76 ∷ 79 ∷ 66 ∷ 65 ∷ 76 ∷ 123 ∷ 125 ∷ 77 ∷ 65 ∷ 73 ∷ 78 ∷ 9 ∷ 123 ∷ 32 ∷ 73 ∷ 78 ∷ 80 ∷ 85 ∷ 84 ∷ 83 ∷ 123 ∷ 125 ∷ 79 ∷ 85 ∷ 84 ∷ 80 ∷ 85 ∷ 84 ∷ 83 ∷ 32 ∷ 32 ∷ 123 ∷ 114 ∷ 125 ∷ 13 ∷ 80 ∷ 82 ∷ 69 ∷ 83 ∷ 69 ∷ 84 ∷ 123 ∷ 125 ∷ 9 ∷ 125 ∷ []); expected = Accepted (0 ∷ 0 ∷ 0 ∷ 2415951872 ∷ 0 ∷ 1073790980 ∷ 0 ∷ 2416017408 ∷ 0 ∷ 1073856520 ∷ 1610694665 ∷ 1073758218 ∷ 1610612747 ∷ []) (2154496000 ∷ []) } ∷
    record { bytes = (13 ∷ 73 ∷ 78 ∷ 70 ∷ 79 ∷ 32 ∷ 47 ∷ 42 ∷ 42 ∷ 123 ∷ 13 ∷ 84 ∷ 73 ∷ 84 ∷ 76 ∷ 69 ∷ 58 ∷ 34 ∷ 116 ∷ 34 ∷ 68 ∷ 69 ∷ 83 ∷ 67 ∷ 82 ∷ 73 ∷ 80 ∷ 84 ∷ 73 ∷ 79 ∷ 78 ∷ 58 ∷ 34 ∷ 34 ∷ 83 ∷ 69 ∷ 77 ∷ 65 ∷ 78 ∷ 84 ∷ 73 ∷ 67 ∷ 83 ∷ 10 ∷ 13 ∷ 13 ∷ 58 ∷ 77 ∷ 111 ∷ 111 ∷ 114 ∷ 101 ∷ 13 ∷ 10 ∷ 9 ∷ 44 ∷ 83 ∷ 116 ∷ 114 ∷ 105 ∷ 99 ∷ 116 ∷ 32 ∷ 84 ∷ 65 ∷ 82 ∷ 71 ∷ 69 ∷ 84 ∷ 58 ∷ 77 ∷ 111 ∷ 111 ∷ 114 ∷ 101 ∷ 125 ∷ 13 ∷ 77 ∷ 65 ∷ 73 ∷ 78 ∷ 10 ∷ 123 ∷ 73 ∷ 78 ∷ 80 ∷ 85 ∷ 84 ∷ 83 ∷ 123 ∷ 109 ∷ 59 ∷ 32 ∷ 121 ∷ 59 ∷ 125 ∷ 79 ∷ 85 ∷ 84 ∷ 80 ∷ 85 ∷ 84 ∷ 83 ∷ 10 ∷ 123 ∷ 125 ∷ 32 ∷ 47 ∷ 47 ∷ 125 ∷ 13 ∷ 59 ∷ 10 ∷ 65 ∷ 83 ∷ 83 ∷ 69 ∷ 82 ∷ 84 ∷ 123 ∷ 10 ∷ 125 ∷ 13 ∷ 125 ∷ []); expected = Rejected 2 6 } ∷
    record { bytes = (ascii "INFO{TITLE:\"\"DESCRIPTION:\"\"SEMANTICS:Moore TARGET:Moore}MAIN{INPUTS{p;h[4];}OUTPUTS{}REQUIRE{}}"); expected = Accepted (0 ∷ 0 ∷ 0 ∷ 2415951872 ∷ 0 ∷ 1073790980 ∷ 0 ∷ 2416017408 ∷ 0 ∷ 1073856520 ∷ 1610694665 ∷ 1073758218 ∷ 1610612747 ∷ []) (4456448 ∷ 4587524 ∷ 4587780 ∷ 4588036 ∷ 4588292 ∷ []) } ∷
    record { bytes = (ascii "INFO{TITLE:\"\"DESCRIPTION:\"\"SEMANTICS:Moore,Strict TARGET:Moore}MAIN{INPUTS{i;}OUTPUTS{}PRESET{}}"); expected = Accepted (0 ∷ 0 ∷ 0 ∷ 0 ∷ 805355520 ∷ 3489693700 ∷ 1073758213 ∷ 0 ∷ 2416033792 ∷ 0 ∷ 1073872905 ∷ 0 ∷ 1610776587 ∷ 1073840140 ∷ 1610612749 ∷ []) (4915200 ∷ []) } ∷
    []

held_4 : texts_held cases_4 ≡ true
unfolding cases_4 text_expansion parsed spec_expansion ◌>>=◌ guard refuse_at nodes_of nodes_from count size
held_4 = refl

cases_5 : List Text
cases_5 =
    record { bytes = (73 ∷ 78 ∷ 70 ∷ 79 ∷ 32 ∷ 32 ∷ 32 ∷ 13 ∷ 32 ∷ 32 ∷ 10 ∷ 123 ∷ 84 ∷ 73 ∷ 84 ∷ 76 ∷ 69 ∷ 58 ∷ 13 ∷ 34 ∷ 34 ∷ 13 ∷ 68 ∷ 69 ∷ 83 ∷ 67 ∷ 82 ∷ 73 ∷ 80 ∷ 84 ∷ 73 ∷ 79 ∷ 78 ∷ 58 ∷ 32 ∷ 32 ∷ 10 ∷ 9 ∷ 34 ∷ 34 ∷ 83 ∷ 69 ∷ 77 ∷ 65 ∷ 78 ∷ 84 ∷ 73 ∷ 67 ∷ 83 ∷ 58 ∷ 9 ∷ 13 ∷ 77 ∷ 101 ∷ 97 ∷ 108 ∷ 121 ∷ 32 ∷ 84 ∷ 65 ∷ 82 ∷ 71 ∷ 69 ∷ 84 ∷ 58 ∷ 77 ∷ 101 ∷ 97 ∷ 108 ∷ 121 ∷ 125 ∷ 32 ∷ 209 ∷ 32 ∷ 32 ∷ 32 ∷ 32 ∷ 47 ∷ 42 ∷ 32 ∷ 34 ∷ 32 ∷ 42 ∷ 47 ∷ 77 ∷ 65 ∷ 73 ∷ 78 ∷ 123 ∷ 10 ∷ 13 ∷ 13 ∷ 73 ∷ 78 ∷ 80 ∷ 85 ∷ 84 ∷ 83 ∷ 32 ∷ 32 ∷ 123 ∷ 10 ∷ 10 ∷ 125 ∷ 79 ∷ 85 ∷ 84 ∷ 80 ∷ 85 ∷ 84 ∷ 83 ∷ 32 ∷ 32 ∷ 10 ∷ 123 ∷ 32 ∷ 100 ∷ 32 ∷ 32 ∷ 9 ∷ 59 ∷ 125 ∷ 65 ∷ 83 ∷ 83 ∷ 85 ∷ 77 ∷ 69 ∷ 123 ∷ 125 ∷ 125 ∷ []); expected = Rejected 2 72 } ∷
    record { bytes = (ascii "INFO{TITLE:\"\"DESCRIPTION:\"\"SEMANTICS:Moore TARGET:Mealy}GLOBAL{DEFINITIONS{enum w=u:1,0x:001*01*01,00@:1;o=c<->c;}}MAIN{INPUTS{c}OUTPUTS{}PRESET{(F c);true->c||1!=00;}}"); expected = Rejected 10 89 } ∷
    record { bytes = (ascii "INFO{TITLE:\"\"DESCRIPTION:\"\"SEMANTICS:Mealy,Strict TARGET:Mealy}GLOBAL{}MAIN{GUARANTEE{i->X[0]d;d AND w;}OUTPUTS{}INPUTS{i;w;d}}"); expected = Accepted (0 ∷ 0 ∷ 0 ∷ 0 ∷ 805355520 ∷ 3489693700 ∷ 1073758213 ∷ 0 ∷ 2416033792 ∷ 0 ∷ 1073872905 ∷ 536870912 ∷ 536903680 ∷ 1610792972 ∷ 536903680 ∷ 536887296 ∷ 1073971215 ∷ 1073954832 ∷ 1610776593 ∷ 1073840146 ∷ 1610612755 ∷ []) (7864320 ∷ 7995392 ∷ 8126464 ∷ []) } ∷
    record { bytes = (ascii "INFO{TITLE:\"\"DESCRIPTION:\"\"SEMANTICS:Moore TARGET:Moore TAGS:a,safety,\"t\"}GLOBAL{DEFINITIONS{enum q=v:0,1;a=2}}MAIN{OUTPUTS{d;z[3];q z;}INPUTS{}REQUIRE{}}"); expected = Rejected 7 133 } ∷
    []

held_5 : texts_held cases_5 ≡ true
unfolding cases_5 text_expansion parsed spec_expansion ◌>>=◌ guard refuse_at nodes_of nodes_from count size
held_5 = refl

cases_6 : List Text
cases_6 =
    record { bytes = (ascii "INFO{TITLE:\"t\"DESCRIPTION:\"\"SEMANTICS:Moore TARGET:Moore}GLOBAL{DEFINITIONS{enum l=a:*11,000a:010@:100,110;a=c;}}MAIN{OUTPUTS{l _;}REQUIRE{}INPUTS{c;}ASSERT{}}"); expected = Rejected 7 92 } ∷
    record { bytes = (ascii "INFO{TITLE:\"\"DESCRIPTION:\"\"SEMANTICS:Moore TARGET:Moore TAGS:\"t\"}GLOBAL{DEFINITIONS{s=||[A IN{9MINUS 01}]true}}MAIN{INPUTS{B_0;u;}ASSUME{}OUTPUTS{z}}"); expected = Accepted (0 ∷ 0 ∷ 0 ∷ 2415951872 ∷ 0 ∷ 1073790980 ∷ 0 ∷ 2416017408 ∷ 0 ∷ 1073856520 ∷ 1610694665 ∷ 1073758218 ∷ 1610612747 ∷ []) (8060928 ∷ 8323072 ∷ 2157051904 ∷ []) } ∷
    record { bytes = (ascii "INFO{TITLE:\"\"DESCRIPTION:\"\"SEMANTICS:Mealy TARGET:Mealy}MAIN{INPUTS{a}OUTPUTS{}ASSERT{7-7==1}}"); expected = Accepted (0 ∷ 0 ∷ 0 ∷ 2415951872 ∷ 0 ∷ 1073790980 ∷ 268435456 ∷ 2416017408 ∷ 0 ∷ 1073856520 ∷ 1610694665 ∷ 1073758218 ∷ 1610612747 ∷ []) (4456448 ∷ []) } ∷
    record { bytes = (ascii "INFO{TITLE:\"\"DESCRIPTION:\"\"SEMANTICS:Mealy,Strict TARGET:Mealy}MAIN{INPUTS{}OUTPUTS{d;}ASSERT{}}"); expected = Accepted (0 ∷ 0 ∷ 0 ∷ 0 ∷ 805355520 ∷ 3489693700 ∷ 1073758213 ∷ 0 ∷ 2416033792 ∷ 0 ∷ 1073872905 ∷ 0 ∷ 1610776587 ∷ 1073840140 ∷ 1610612749 ∷ []) (2152988672 ∷ []) } ∷
    []

held_6 : texts_held cases_6 ≡ true
unfolding cases_6 text_expansion parsed spec_expansion ◌>>=◌ guard refuse_at nodes_of nodes_from count size
held_6 = refl

cases_7 : List Text
cases_7 =
    record { bytes = (ascii "INFO{TITLE:\"\"DESCRIPTION:\"\"SEMANTICS:Mealy TARGET:Moore}GLOBAL{PARAMETERS{c=3;}}MAIN{ASSUME{}INPUTS{f;}PRESET{true}REQUIRE{f}OUTPUTS{}}"); expected = Accepted (0 ∷ 0 ∷ 536870912 ∷ 2415951872 ∷ 0 ∷ 1073790980 ∷ 0 ∷ 2416017408 ∷ 0 ∷ 1073856520 ∷ 1610694665 ∷ 1073758218 ∷ 1610612747 ∷ []) (6553600 ∷ []) } ∷
    record { bytes = (ascii "INFO{TITLE:\"\"DESCRIPTION:\"\"SEMANTICS:Mealy TARGET:Moore TAGS:_,\"t\"}GLOBAL{DEFINITIONS{enum j=o:1In:0,0;m=2}}MAIN{INPUTS{j x'}OUTPUTS{s;}PRESET{}}"); expected = Accepted (0 ∷ 0 ∷ 0 ∷ 2415951872 ∷ 0 ∷ 1073790980 ∷ 0 ∷ 2416017408 ∷ 0 ∷ 1073856520 ∷ 1610694665 ∷ 1073758218 ∷ 1610612747 ∷ []) (7995393 ∷ 2156199936 ∷ []) } ∷
    record { bytes = (ascii "INFO{TITLE:\"\"DESCRIPTION:\"\"SEMANTICS:Moore TARGET:Moore TAGS:\"t\",_}MAIN{INPUTS{}OUTPUTS{o[1];}ASSUME{(2PLUS 00)==2;}}"); expected = Accepted (0 ∷ 0 ∷ 0 ∷ 2415951872 ∷ 0 ∷ 1073790980 ∷ 0 ∷ 2416017408 ∷ 0 ∷ 1073856520 ∷ 1610694665 ∷ 1073758218 ∷ 1610612747 ∷ []) (2153250817 ∷ []) } ∷
    record { bytes = (ascii "INFO{TITLE:\"\"DESCRIPTION:\"\"SEMANTICS:Mealy,Strict TARGET:Mealy}GLOBAL{PARAMETERS{n=(3+2);}DEFINITIONS{enum w=c:1*b:01,00;}}MAIN{INPUTS{_;}OUTPUTS{p;w r;}PRESET{1}}"); expected = Rejected 9 160 } ∷
    []

held_7 : texts_held cases_7 ≡ true
unfolding cases_7 text_expansion parsed spec_expansion ◌>>=◌ guard refuse_at nodes_of nodes_from count size
held_7 = refl

cases_8 : List Text
cases_8 =
    record { bytes = (ascii "INFO{TITLE:\"\"DESCRIPTION:\"t\"SEMANTICS:Moore TARGET:Mealy}GLOBAL{PARAMETERS{}DEFINITIONS{enum h=z:*01,1*0;}}MAIN{INPUTS{x';e;k;}GUARANTEE{}OUTPUTS{}}"); expected = Accepted (0 ∷ 0 ∷ 0 ∷ 2415951872 ∷ 0 ∷ 1073790980 ∷ 0 ∷ 2416017408 ∷ 0 ∷ 1073856520 ∷ 1610694665 ∷ 1073758218 ∷ 1610612747 ∷ []) (7798784 ∷ 7995392 ∷ 8126464 ∷ []) } ∷
    record { bytes = (ascii "INFO{TITLE:\"\"DESCRIPTION:\"t\"SEMANTICS:Mealy TARGET:Mealy}MAIN{INPUTS{@}OUTPUTS{}ASSERT{}INITIALLY{@ W @;@;}}"); expected = Accepted (536870912 ∷ 536870912 ∷ 3489660929 ∷ 536870912 ∷ 1073774595 ∷ 0 ∷ 0 ∷ 2416017408 ∷ 0 ∷ 1073856520 ∷ 0 ∷ 2416082944 ∷ 0 ∷ 1073922060 ∷ 1610760205 ∷ 1073823758 ∷ 1610678287 ∷ []) (4521984 ∷ []) } ∷
    record { bytes = (ascii "INFO{TITLE:\"\"DESCRIPTION:\"\"SEMANTICS:Mealy TARGET:Mealy TAGS:_}MAIN{OUTPUTS{}INVARIANTS{0<=0;(1MOD 1)>2;}REQUIRE{1<=01;}INPUTS{A;}}"); expected = Accepted (0 ∷ 0 ∷ 0 ∷ 2415951872 ∷ 0 ∷ 1073790980 ∷ 0 ∷ 268435456 ∷ 1073840135 ∷ 2416050176 ∷ 0 ∷ 1073889290 ∷ 1610694667 ∷ 1073758220 ∷ 1610612749 ∷ []) (8323072 ∷ []) } ∷
    record { bytes = (ascii "INFO{TITLE:\"t\"DESCRIPTION:\"\"SEMANTICS:Moore,Strict TARGET:Moore}MAIN{OUTPUTS{i;}REQUIRE{F h;}PRESET{o->i W o}INPUTS{h;o}}"); expected = Accepted (0 ∷ 536887296 ∷ 536903680 ∷ 1610629122 ∷ 536887296 ∷ 3489710084 ∷ 0 ∷ 536870912 ∷ 2684469248 ∷ 805437440 ∷ 3489759241 ∷ 1073823754 ∷ 536870912 ∷ 2684551168 ∷ 2416132096 ∷ 0 ∷ 1073971215 ∷ 0 ∷ 1610874897 ∷ 1073922066 ∷ 1610612755 ∷ []) (7602176 ∷ 7733248 ∷ 2152529920 ∷ []) } ∷
    []

held_8 : texts_held cases_8 ≡ true
unfolding cases_8 text_expansion parsed spec_expansion ◌>>=◌ guard refuse_at nodes_of nodes_from count size
held_8 = refl

cases_9 : List Text
cases_9 =
    record { bytes = (ascii "INFO{TITLE:\"\"DESCRIPTION:\"\"SEMANTICS:Mealy TARGET:Moore}MAIN{INPUTS{v[2];n;}OUTPUTS{}GUARANTEES{b;X[(1/0)](n);}}"); expected = Rejected 6 96 } ∷
    record { bytes = (ascii "INFO{TITLE:\"\"DESCRIPTION:\"\"SEMANTICS:Mealy TARGET:Mealy}GLOBAL{DEFINITIONS{enum y=v:1,*x:0q:101*01*01,00;}}MAIN{INPUTS{l;}OUTPUTS{A;}REQUIRE{&&[t ELEM{1}]A;}}"); expected = Rejected 10 89 } ∷
    record { bytes = (73 ∷ 78 ∷ 70 ∷ 79 ∷ 123 ∷ 84 ∷ 73 ∷ 84 ∷ 76 ∷ 69 ∷ 58 ∷ 32 ∷ 32 ∷ 32 ∷ 9 ∷ 10 ∷ 34 ∷ 34 ∷ 13 ∷ 68 ∷ 69 ∷ 83 ∷ 67 ∷ 82 ∷ 73 ∷ 80 ∷ 84 ∷ 73 ∷ 79 ∷ 78 ∷ 58 ∷ 34 ∷ 34 ∷ 32 ∷ 32 ∷ 13 ∷ 10 ∷ 83 ∷ 69 ∷ 77 ∷ 65 ∷ 78 ∷ 84 ∷ 73 ∷ 67 ∷ 83 ∷ 32 ∷ 58 ∷ 77 ∷ 101 ∷ 97 ∷ 108 ∷ 121 ∷ 32 ∷ 84 ∷ 65 ∷ 82 ∷ 71 ∷ 69 ∷ 84 ∷ 58 ∷ 9 ∷ 77 ∷ 111 ∷ 111 ∷ 114 ∷ 101 ∷ 125 ∷ 32 ∷ 71 ∷ 76 ∷ 79 ∷ 66 ∷ 65 ∷ 76 ∷ 123 ∷ 32 ∷ 32 ∷ 125 ∷ 77 ∷ 65 ∷ 73 ∷ 78 ∷ 123 ∷ 13 ∷ 13 ∷ 79 ∷ 85 ∷ 84 ∷ 80 ∷ 85 ∷ 84 ∷ 83 ∷ 123 ∷ 32 ∷ 47 ∷ 42 ∷ 0 ∷ 11 ∷ 42 ∷ 47 ∷ 88 ∷ 97 ∷ 59 ∷ 9 ∷ 13 ∷ 95 ∷ 91 ∷ 51 ∷ 13 ∷ 93 ∷ 59 ∷ 112 ∷ 59 ∷ 125 ∷ 73 ∷ 78 ∷ 86 ∷ 65 ∷ 82 ∷ 73 ∷ 65 ∷ 78 ∷ 84 ∷ 83 ∷ 123 ∷ 10 ∷ 32 ∷ 125 ∷ 73 ∷ 78 ∷ 80 ∷ 85 ∷ 84 ∷ 83 ∷ 123 ∷ 125 ∷ 10 ∷ 125 ∷ []); expected = Accepted (0 ∷ 0 ∷ 0 ∷ 2415951872 ∷ 0 ∷ 1073790980 ∷ 0 ∷ 2416017408 ∷ 0 ∷ 1073856520 ∷ 1610694665 ∷ 1073758218 ∷ 1610612747 ∷ []) (2154102784 ∷ 2154430467 ∷ 2154430723 ∷ 2154430979 ∷ 2154823680 ∷ []) } ∷
    record { bytes = (ascii "INFO{TITLE:\"t\"DESCRIPTION:\"\"SEMANTICS:Moore,Strict TARGET:Mealy}MAIN{OUTPUTS{In;h}PRESET{}GUARANTEE{(2-00)LE 0;}INPUTS{}}"); expected = Accepted (0 ∷ 0 ∷ 0 ∷ 0 ∷ 805355520 ∷ 3489693700 ∷ 1073758213 ∷ 0 ∷ 2416033792 ∷ 0 ∷ 1073872905 ∷ 268435456 ∷ 1610776587 ∷ 1073840140 ∷ 1610612749 ∷ []) (2152529920 ∷ 2152726528 ∷ []) } ∷
    []

held_9 : texts_held cases_9 ≡ true
unfolding cases_9 text_expansion parsed spec_expansion ◌>>=◌ guard refuse_at nodes_of nodes_from count size
held_9 = refl

cases_10 : List Text
cases_10 =
    record { bytes = (73 ∷ 78 ∷ 70 ∷ 79 ∷ 123 ∷ 84 ∷ 73 ∷ 84 ∷ 76 ∷ 69 ∷ 58 ∷ 34 ∷ 34 ∷ 68 ∷ 69 ∷ 83 ∷ 67 ∷ 82 ∷ 73 ∷ 80 ∷ 84 ∷ 73 ∷ 79 ∷ 78 ∷ 58 ∷ 34 ∷ 34 ∷ 83 ∷ 255 ∷ 69 ∷ 77 ∷ 65 ∷ 78 ∷ 84 ∷ 73 ∷ 67 ∷ 83 ∷ 58 ∷ 77 ∷ 111 ∷ 111 ∷ 114 ∷ 101 ∷ 32 ∷ 84 ∷ 65 ∷ 82 ∷ 71 ∷ 69 ∷ 84 ∷ 58 ∷ 77 ∷ 111 ∷ 111 ∷ 114 ∷ 101 ∷ 125 ∷ 71 ∷ 76 ∷ 79 ∷ 66 ∷ 65 ∷ 76 ∷ 123 ∷ 125 ∷ 77 ∷ 65 ∷ 73 ∷ 78 ∷ 123 ∷ 73 ∷ 78 ∷ 80 ∷ 85 ∷ 84 ∷ 83 ∷ 123 ∷ 125 ∷ 79 ∷ 85 ∷ 84 ∷ 80 ∷ 85 ∷ 84 ∷ 83 ∷ 123 ∷ 97 ∷ 49 ∷ 59 ∷ 125 ∷ 80 ∷ 82 ∷ 69 ∷ 83 ∷ 69 ∷ 84 ∷ 123 ∷ 125 ∷ 125 ∷ []); expected = Rejected 2 28 } ∷
    record { bytes = (ascii "INFO{TITLE:\"t\"DESCRIPTION:\"\"SEMANTICS:Mealy,Strict TARGET:Moore}MAIN{INPUTS{}OUTPUTS{e;y;m}REQUIRE{!false||false<->e;4IN{1,4}}}"); expected = Accepted (0 ∷ 0 ∷ 0 ∷ 268435456 ∷ 805355520 ∷ 268435456 ∷ 1342242821 ∷ 536870912 ∷ 2147598336 ∷ 1879146504 ∷ 0 ∷ 1073889290 ∷ 805486592 ∷ 3489693708 ∷ 1073758221 ∷ 268435456 ∷ 805552128 ∷ 268435456 ∷ 1342439441 ∷ 536870912 ∷ 2147794944 ∷ 1879343124 ∷ 0 ∷ 1074085910 ∷ 2416295936 ∷ 0 ∷ 1074135065 ∷ 0 ∷ 1611038747 ∷ 1073971228 ∷ 1610612765 ∷ []) (2153054208 ∷ 2153185280 ∷ 2153316352 ∷ []) } ∷
    record { bytes = (ascii "INFO{TITLE:\"\"DESCRIPTION:\"\"SEMANTICS:Moore TARGET:Mealy}GLOBAL{DEFINITIONS{enum b=A:**,11l:1*0;}}MAIN{INPUTS{}OUTPUTS{w;u;q;i[217];}ASSUMPTIONS{}}"); expected = Rejected 10 91 } ∷
    record { bytes = (ascii "INFO{TITLE:\"\"DESCRIPTION:\"\"SEMANTICS:Moore,Strict TARGET:Moore}MAIN{OUTPUTS{p[3]}INPUTS{_;}PRESET{&&[g IN{}(*){0,1}]p[1];true W G[1:6]false;}}"); expected = Accepted (0 ∷ 0 ∷ 0 ∷ 268435456 ∷ 268435456 ∷ 268435456 ∷ 268435456 ∷ 268435456 ∷ 268435456 ∷ 2147614720 ∷ 1073856521 ∷ 2147647488 ∷ 1073840139 ∷ 2147680256 ∷ 1073823757 ∷ 2147713024 ∷ 1073807375 ∷ 2147745792 ∷ 1073790993 ∷ 2147778560 ∷ 3489693715 ∷ 1073758228 ∷ 0 ∷ 0 ∷ 805683200 ∷ 3490021400 ∷ 1074085913 ∷ 0 ∷ 2416361472 ∷ 0 ∷ 1074200605 ∷ 0 ∷ 1611104287 ∷ 1074167840 ∷ 1610612769 ∷ []) (5767168 ∷ 2152464387 ∷ 2152464643 ∷ 2152464899 ∷ []) } ∷
    []

held_10 : texts_held cases_10 ≡ true
unfolding cases_10 text_expansion parsed spec_expansion ◌>>=◌ guard refuse_at nodes_of nodes_from count size
held_10 = refl

cases_11 : List Text
cases_11 =
    record { bytes = (ascii "INFO{TITLE:\"\"DESCRIPTION:\"\"SEMANTICS:Moore TARGET:Mealy}GLOBAL{DEFINITIONS{enum x=i:*;enum p=o:10,10}}MAIN{INPUTS{}INITIALLY{2<-{0,1}&&w[1];w[1]R w[0];}OUTPUTS{p w}}"); expected = Accepted (268435456 ∷ 536887296 ∷ 1073741825 ∷ 536887296 ∷ 536870912 ∷ 3221274628 ∷ 1073774597 ∷ 0 ∷ 0 ∷ 2416050176 ∷ 0 ∷ 1073889290 ∷ 536870912 ∷ 536887296 ∷ 805519360 ∷ 1073938446 ∷ 536870912 ∷ 536887296 ∷ 805584896 ∷ 1074003986 ∷ 1342423059 ∷ 2416246784 ∷ 0 ∷ 1074085910 ∷ 1610792983 ∷ 1073856536 ∷ 1610711065 ∷ []) (2158100482 ∷ 2158100738 ∷ []) } ∷
    record { bytes = (ascii "INFO{TITLE:\"\"DESCRIPTION:\"\"SEMANTICS:Mealy,Strict TARGET:Mealy}GLOBAL{PARAMETERS{}DEFINITIONS{t=(({1}))(+){0,1};}}MAIN{INVARIANTS{k IMPLIES k;}OUTPUTS{k;}INPUTS{}}"); expected = Accepted (0 ∷ 0 ∷ 536870912 ∷ 536870912 ∷ 1610645507 ∷ 0 ∷ 805388288 ∷ 3489726470 ∷ 1073758215 ∷ 0 ∷ 2416066560 ∷ 0 ∷ 1073905675 ∷ 0 ∷ 1610809357 ∷ 1073872910 ∷ 1610612751 ∷ []) (2157379584 ∷ []) } ∷
    record { bytes = (ascii "INFO{TITLE:\"\"DESCRIPTION:\"\"SEMANTICS:Mealy TARGET:Mealy}MAIN{INPUTS{b[2]}OUTPUTS{}ASSERT{b[2]}}"); expected = Rejected 13 89 } ∷
    record { bytes = (ascii "INFO{TITLE:\"\"DESCRIPTION:\"\"SEMANTICS:Moore TARGET:Mealy}GLOBAL{}MAIN{INPUTS{y;f[130];e[175];}OUTPUTS{}GUARANTEE{}}"); expected = Rejected 15 85 } ∷
    []

held_11 : texts_held cases_11 ≡ true
unfolding cases_11 text_expansion parsed spec_expansion ◌>>=◌ guard refuse_at nodes_of nodes_from count size
held_11 = refl

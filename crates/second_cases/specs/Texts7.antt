-- Written by the second converter: cases with its answers, each computed from the definitions.
use Rattle.std.specs.Prelude.{true, List, [], ◌∷◌, ◌≡◌, refl}
use Rattle.node.specs.Postorder.{size, nodes_from}
use Rattle.node.specs.Written.{nodes_of, count}
use Rattle.node.specs.Result.{◌>>=◌, guard}
use Rattle.language.specs.Bytes.{ascii}
use Rattle.language.specs.Places.{refuse_at}
use Rattle.language.specs.Parsing.{parsed}
use Rattle.language.specs.Reading.{text_expansion, spec_expansion}
use Rattle.second_cases.specs.Held.{Accepted, Rejected, Text, texts_held}

cases_0 : List Text
cases_0 =
    record { bytes = (ascii "INFO{TITLE:\"\"DESCRIPTION:\"\"SEMANTICS:Moore TARGET:Mealy}GLOBAL{DEFINITIONS{enum d=y:*,0}}MAIN{INPUTS{d A;h[1];c[3];}OUTPUTS{}INITIALLY{SIZE{}==1;A[0];}}"); expected = Accepted (268435456 ∷ 536870912 ∷ 2147500032 ∷ 1073741826 ∷ 0 ∷ 0 ∷ 2416001024 ∷ 0 ∷ 1073840135 ∷ 0 ∷ 2416066560 ∷ 0 ∷ 1073905675 ∷ 1610743820 ∷ 1073807373 ∷ 1610661902 ∷ []) (6750209 ∷ 6881281 ∷ 7208963 ∷ 7209219 ∷ 7209475 ∷ []) } ∷
    record { bytes = (ascii "INFO{TITLE:\"\"DESCRIPTION:\"\"SEMANTICS:Mealy TARGET:Moore}GLOBAL{DEFINITIONS{enum f=j:*1,01;}}MAIN{INPUTS{Xa[256]}OUTPUTS{}REQUIRE{}GUARANTEE{1/1IN{1};01>4W Xa[0];}}"); expected = Rejected 13 104 } ∷
    record { bytes = (ascii "INFO{TITLE:\"t\"DESCRIPTION:\"\"SEMANTICS:Mealy TARGET:Mealy}GLOBAL{}MAIN{OUTPUTS{Xa;}REQUIRE{}INPUTS{}}"); expected = Accepted (0 ∷ 0 ∷ 0 ∷ 2415951872 ∷ 0 ∷ 1073790980 ∷ 0 ∷ 2416017408 ∷ 0 ∷ 1073856520 ∷ 1610694665 ∷ 1073758218 ∷ 1610612747 ∷ []) (2152595456 ∷ []) } ∷
    record { bytes = (ascii "INFO{TITLE:\"\"DESCRIPTION:\"\"SEMANTICS:Moore TARGET:Mealy TAGS:a}MAIN{INPUTS{d;l;}OUTPUTS{f[1];}ASSUME{d<->d U false;(MAX{2})ELEM{0,1}||f[01];}}"); expected = Rejected 13 134 } ∷
    []

held_0 : texts_held cases_0 ≡ true
unfolding cases_0 text_expansion parsed spec_expansion ◌>>=◌ guard refuse_at nodes_of nodes_from count size
held_0 = refl

cases_1 : List Text
cases_1 =
    record { bytes = (ascii "INFO{TITLE:\"\"DESCRIPTION:\"\"SEMANTICS:Moore TARGET:Moore}GLOBAL{DEFINITIONS{enum p=n:0*,1*;r={1};}}MAIN{REQUIRE{}INPUTS{j}OUTPUTS{p f;u;}}"); expected = Accepted (0 ∷ 0 ∷ 0 ∷ 2415951872 ∷ 0 ∷ 1073790980 ∷ 0 ∷ 2416017408 ∷ 0 ∷ 1073856520 ∷ 1610694665 ∷ 1073758218 ∷ 1610612747 ∷ []) (7798784 ∷ 2156068866 ∷ 2156069122 ∷ 2156199936 ∷ []) } ∷
    record { bytes = (ascii "INFO{TITLE:\"t\"DESCRIPTION:\"\"SEMANTICS:Moore,Strict TARGET:Mealy}GLOBAL{PARAMETERS{}DEFINITIONS{enum a=g:11,0*f:10;}}MAIN{PRESET{v R v;}GUARANTEES{}INPUTS{}OUTPUTS{v;}}"); expected = Accepted (0 ∷ 536870912 ∷ 536870912 ∷ 3221241858 ∷ 0 ∷ 0 ∷ 805388288 ∷ 3489726470 ∷ 1073790983 ∷ 0 ∷ 2416066560 ∷ 0 ∷ 1073905675 ∷ 0 ∷ 1610809357 ∷ 1073872910 ∷ 1610612751 ∷ []) (2158166016 ∷ []) } ∷
    record { bytes = (ascii "INFO{TITLE:\"\"DESCRIPTION:\"\"SEMANTICS:Mealy TARGET:Moore}GLOBAL{DEFINITIONS{o=9-1000000;enum f=e:111i:000,0*0;}}MAIN{ASSERT{!!!!!X!!X NOT!NOT NOT!X!X NOT NOT X!!X!NOT X!NOT NOT X!!!!!X!!NOT NOT X!!!!!!NOT!!X!!!!X!!!!NOT!!X NOT!!!X!NOT X X!NOT!X!!!!!!!NOT NOT!!!X NOT!NOT X!X!!!!X NOT X!NOT X!NOT NOT!!!X X!!X!!!!!!!NOT NOT!!!NOT!!!X NOT!X!!NOT!!!!NOT!NOT!X X NOT!X NOT!!!!NOT NOT NOT!!!!!NOT!!X NOT!NOT X X X!!X X NOT NOT X!!!!X!NOT!NOT X X NOT X!!!!!X!X NOT!!!!!!!!!!!NOT!!NOT NOT NOT X!NOT NOT!!!!X NOT X X!X!!!!!X X!X!!!NOT!!NOT!X EXISTS[MAX{o}MOD(1/0)<A<o,_ IN{1}]w;}INPUTS{w;m}OUTPUTS{f k;}}"); expected = Rejected 5 123 } ∷
    record { bytes = (ascii "INFO{TITLE:\"\"DESCRIPTION:\"\"SEMANTICS:Mealy TARGET:Mealy}MAIN{INPUTS{}OUTPUTS{b;}ASSUMPTIONS{}}"); expected = Accepted (0 ∷ 0 ∷ 0 ∷ 2415951872 ∷ 0 ∷ 1073790980 ∷ 0 ∷ 2416017408 ∷ 0 ∷ 1073856520 ∷ 1610694665 ∷ 1073758218 ∷ 1610612747 ∷ []) (2152529920 ∷ []) } ∷
    []

held_1 : texts_held cases_1 ≡ true
unfolding cases_1 text_expansion parsed spec_expansion ◌>>=◌ guard refuse_at nodes_of nodes_from count size
held_1 = refl

cases_2 : List Text
cases_2 =
    record { bytes = (ascii "INFO{TITLE:\"\"DESCRIPTION:\"\"SEMANTICS:Moore TARGET:Moore}GLOBAL{DEFINITIONS{enum y=x:0*;e=X[2PLUS 00]true;}}MAIN{OUTPUTS{r;}GUARANTEES{}INPUTS{h;}}"); expected = Accepted (0 ∷ 0 ∷ 0 ∷ 2415951872 ∷ 0 ∷ 1073790980 ∷ 0 ∷ 2416017408 ∷ 0 ∷ 1073856520 ∷ 1610694665 ∷ 1073758218 ∷ 1610612747 ∷ []) (9306112 ∷ 2155347968 ∷ []) } ∷
    record { bytes = (ascii "INFO{TITLE:\"\"DESCRIPTION:\"\"SEMANTICS:Mealy,Strict TARGET:Mealy}GLOBAL{DEFINITIONS{enum Xa=a:1,1;enum y=b:0}}MAIN{PRESET{0IN{0,2..41}CAP{0,1};}INPUTS{}OUTPUTS{e;y r;}}"); expected = Accepted (0 ∷ 0 ∷ 536887296 ∷ 805339136 ∷ 0 ∷ 805371904 ∷ 3489710085 ∷ 1073758214 ∷ 0 ∷ 2416050176 ∷ 0 ∷ 1073889290 ∷ 0 ∷ 1610792972 ∷ 1073856525 ∷ 1610612750 ∷ []) (2157838336 ∷ 2158100481 ∷ []) } ∷
    record { bytes = (ascii "INFO{TITLE:\"\"DESCRIPTION:\"\"SEMANTICS:Moore TARGET:Moore}GLOBAL{PARAMETERS{y=01+00;}DEFINITIONS{a={y,y,y}CUP{0,1..2}}}MAIN{OUTPUTS{m[SIZEOF m];j;}GUARANTEE{}INPUTS{}}"); expected = Rejected 13 139 } ∷
    record { bytes = (ascii "INFO{TITLE:\"\"DESCRIPTION:\"\"SEMANTICS:Mealy TARGET:Mealy}MAIN{INPUTS{a}OUTPUTS{}ASSERT{+[0<=i<=256]i==1}}"); expected = Rejected 12 89 } ∷
    []

held_2 : texts_held cases_2 ≡ true
unfolding cases_2 text_expansion parsed spec_expansion ◌>>=◌ guard refuse_at nodes_of nodes_from count size
held_2 = refl

cases_3 : List Text
cases_3 =
    record { bytes = (ascii "INFO{TITLE:\"\"DESCRIPTION:\"\"SEMANTICS:Mealy TARGET:Mealy}GLOBAL{DEFINITIONS{enum y=n:0f:10;Xa=&&[0<=B_0<1]j R q}}MAIN{INPUTS{}OUTPUTS{q;j;m[2]}INITIALLY{}}"); expected = Rejected 10 87 } ∷
    record { bytes = (ascii "INFO{TITLE:\"\"DESCRIPTION:\"\"SEMANTICS:Mealy TARGET:Mealy}MAIN{INPUTS{}OUTPUTS{a;}ASSUME{(2)%0!=3;G[(2):5]a}}"); expected = Rejected 11 90 } ∷
    record { bytes = (ascii "INFO{TITLE:\"\"DESCRIPTION:\"\"SEMANTICS:Mealy TARGET:Mealy}GLOBAL{DEFINITIONS{enum T=A:0,0,0,0,0,0,0,0,0,0,0,0,0,0,0,0,0}}MAIN{INPUTS{}OUTPUTS{}}"); expected = Rejected 10 116 } ∷
    record { bytes = (73 ∷ 78 ∷ 70 ∷ 79 ∷ 123 ∷ 84 ∷ 73 ∷ 84 ∷ 76 ∷ 69 ∷ 32 ∷ 47 ∷ 42 ∷ 47 ∷ 42 ∷ 42 ∷ 47 ∷ 42 ∷ 47 ∷ 58 ∷ 34 ∷ 34 ∷ 9 ∷ 68 ∷ 69 ∷ 83 ∷ 67 ∷ 82 ∷ 73 ∷ 80 ∷ 84 ∷ 73 ∷ 79 ∷ 78 ∷ 58 ∷ 32 ∷ 32 ∷ 47 ∷ 47 ∷ 125 ∷ 13 ∷ 59 ∷ 10 ∷ 34 ∷ 34 ∷ 83 ∷ 69 ∷ 77 ∷ 65 ∷ 78 ∷ 84 ∷ 73 ∷ 67 ∷ 83 ∷ 32 ∷ 47 ∷ 47 ∷ 32 ∷ 99 ∷ 10 ∷ 58 ∷ 77 ∷ 101 ∷ 97 ∷ 108 ∷ 121 ∷ 9 ∷ 13 ∷ 44 ∷ 9 ∷ 47 ∷ 42 ∷ 32 ∷ 34 ∷ 32 ∷ 42 ∷ 47 ∷ 83 ∷ 116 ∷ 114 ∷ 105 ∷ 99 ∷ 116 ∷ 32 ∷ 84 ∷ 65 ∷ 82 ∷ 71 ∷ 69 ∷ 84 ∷ 58 ∷ 77 ∷ 111 ∷ 111 ∷ 114 ∷ 101 ∷ 125 ∷ 32 ∷ 47 ∷ 42 ∷ 32 ∷ 59 ∷ 32 ∷ 125 ∷ 32 ∷ 42 ∷ 47 ∷ 77 ∷ 65 ∷ 73 ∷ 78 ∷ 123 ∷ 9 ∷ 9 ∷ 73 ∷ 78 ∷ 80 ∷ 85 ∷ 84 ∷ 83 ∷ 123 ∷ 32 ∷ 47 ∷ 47 ∷ 125 ∷ 13 ∷ 59 ∷ 10 ∷ 125 ∷ 79 ∷ 85 ∷ 84 ∷ 80 ∷ 85 ∷ 84 ∷ 83 ∷ 123 ∷ 10 ∷ 102 ∷ 59 ∷ 10 ∷ 47 ∷ 42 ∷ 0 ∷ 11 ∷ 42 ∷ 47 ∷ 125 ∷ 65 ∷ 83 ∷ 83 ∷ 69 ∷ 82 ∷ 84 ∷ 32 ∷ 47 ∷ 42 ∷ 47 ∷ 42 ∷ 42 ∷ 47 ∷ 42 ∷ 47 ∷ 123 ∷ 125 ∷ 32 ∷ 32 ∷ 125 ∷ []); expected = Accepted (0 ∷ 0 ∷ 0 ∷ 0 ∷ 805355520 ∷ 3489693700 ∷ 1073758213 ∷ 0 ∷ 2416033792 ∷ 0 ∷ 1073872905 ∷ 0 ∷ 1610776587 ∷ 1073840140 ∷ 1610612749 ∷ []) (2156527616 ∷ []) } ∷
    []

held_3 : texts_held cases_3 ≡ true
unfolding cases_3 text_expansion parsed spec_expansion ◌>>=◌ guard refuse_at nodes_of nodes_from count size
held_3 = refl

cases_4 : List Text
cases_4 =
    record { bytes = (ascii "INFO{TITLE:\"\"DESCRIPTION:\"\"SEMANTICS:Mealy,Strict TARGET:Mealy TAGS:\"t\",_}GLOBAL{}MAIN{INPUTS{n;}OUTPUTS{s;}ASSERT{}}"); expected = Accepted (0 ∷ 0 ∷ 0 ∷ 0 ∷ 805355520 ∷ 3489693700 ∷ 1073758213 ∷ 0 ∷ 2416033792 ∷ 0 ∷ 1073872905 ∷ 0 ∷ 1610776587 ∷ 1073840140 ∷ 1610612749 ∷ []) (6160384 ∷ 2154364928 ∷ []) } ∷
    record { bytes = (ascii "INFO{TITLE:\"\"DESCRIPTION:\"\"SEMANTICS:Mealy TARGET:Mealy}MAIN{INPUTS{a}OUTPUTS{}ASSERT{7-7==1}}"); expected = Accepted (0 ∷ 0 ∷ 0 ∷ 2415951872 ∷ 0 ∷ 1073790980 ∷ 268435456 ∷ 2416017408 ∷ 0 ∷ 1073856520 ∷ 1610694665 ∷ 1073758218 ∷ 1610612747 ∷ []) (4456448 ∷ []) } ∷
    record { bytes = (73 ∷ 78 ∷ 70 ∷ 79 ∷ 123 ∷ 84 ∷ 73 ∷ 84 ∷ 76 ∷ 69 ∷ 58 ∷ 13 ∷ 34 ∷ 34 ∷ 9 ∷ 68 ∷ 69 ∷ 83 ∷ 67 ∷ 82 ∷ 73 ∷ 80 ∷ 84 ∷ 73 ∷ 79 ∷ 78 ∷ 58 ∷ 32 ∷ 47 ∷ 42 ∷ 0 ∷ 11 ∷ 42 ∷ 47 ∷ 34 ∷ 34 ∷ 83 ∷ 69 ∷ 77 ∷ 65 ∷ 78 ∷ 84 ∷ 73 ∷ 67 ∷ 83 ∷ 10 ∷ 58 ∷ 77 ∷ 101 ∷ 97 ∷ 108 ∷ 121 ∷ 32 ∷ 84 ∷ 65 ∷ 82 ∷ 71 ∷ 69 ∷ 84 ∷ 58 ∷ 9 ∷ 32 ∷ 10 ∷ 77 ∷ 101 ∷ 97 ∷ 108 ∷ 121 ∷ 125 ∷ 71 ∷ 76 ∷ 79 ∷ 66 ∷ 65 ∷ 76 ∷ 32 ∷ 123 ∷ 125 ∷ 32 ∷ 47 ∷ 42 ∷ 32 ∷ 59 ∷ 32 ∷ 125 ∷ 32 ∷ 42 ∷ 47 ∷ 77 ∷ 65 ∷ 73 ∷ 78 ∷ 123 ∷ 79 ∷ 85 ∷ 84 ∷ 80 ∷ 85 ∷ 84 ∷ 83 ∷ 32 ∷ 9 ∷ 32 ∷ 123 ∷ 13 ∷ 112 ∷ 9 ∷ 91 ∷ 52 ∷ 93 ∷ 59 ∷ 32 ∷ 104 ∷ 32 ∷ 32 ∷ 32 ∷ 32 ∷ 32 ∷ 32 ∷ 125 ∷ 73 ∷ 78 ∷ 73 ∷ 84 ∷ 73 ∷ 65 ∷ 76 ∷ 76 ∷ 89 ∷ 123 ∷ 125 ∷ 13 ∷ 73 ∷ 78 ∷ 80 ∷ 85 ∷ 84 ∷ 83 ∷ 123 ∷ 119 ∷ 9 ∷ 59 ∷ 13 ∷ 125 ∷ 125 ∷ []); expected = Accepted (0 ∷ 0 ∷ 0 ∷ 2415951872 ∷ 0 ∷ 1073790980 ∷ 0 ∷ 2416017408 ∷ 0 ∷ 1073856520 ∷ 1610694665 ∷ 1073758218 ∷ 1610612747 ∷ []) (9109504 ∷ 2154364932 ∷ 2154365188 ∷ 2154365444 ∷ 2154365700 ∷ 2154823680 ∷ []) } ∷
    record { bytes = (ascii "INFO{TITLE:\"\"DESCRIPTION:\"\"SEMANTICS:Moore TARGET:Moore}MAIN{INPUTS{}OUTPUTS{o;B_0[204];q[120]}GUARANTEE{X o;X[|(+)[4<=f<2]{0,1}(+){0,1..2}|]o}}"); expected = Rejected 15 88 } ∷
    []

held_4 : texts_held cases_4 ≡ true
unfolding cases_4 text_expansion parsed spec_expansion ◌>>=◌ guard refuse_at nodes_of nodes_from count size
held_4 = refl

cases_5 : List Text
cases_5 =
    record { bytes = (73 ∷ 78 ∷ 70 ∷ 79 ∷ 123 ∷ 84 ∷ 73 ∷ 84 ∷ 76 ∷ 69 ∷ 58 ∷ 34 ∷ 47 ∷ 42 ∷ 32 ∷ 101 ∷ 110 ∷ 117 ∷ 109 ∷ 32 ∷ 10 ∷ 34 ∷ 68 ∷ 69 ∷ 83 ∷ 67 ∷ 82 ∷ 73 ∷ 80 ∷ 84 ∷ 73 ∷ 79 ∷ 78 ∷ 58 ∷ 34 ∷ 34 ∷ 83 ∷ 69 ∷ 77 ∷ 65 ∷ 78 ∷ 84 ∷ 73 ∷ 67 ∷ 83 ∷ 58 ∷ 77 ∷ 111 ∷ 111 ∷ 114 ∷ 101 ∷ 32 ∷ 84 ∷ 65 ∷ 82 ∷ 71 ∷ 69 ∷ 84 ∷ 58 ∷ 77 ∷ 111 ∷ 111 ∷ 114 ∷ 101 ∷ 125 ∷ 77 ∷ 65 ∷ 73 ∷ 78 ∷ 123 ∷ 79 ∷ 85 ∷ 84 ∷ 80 ∷ 85 ∷ 84 ∷ 83 ∷ 123 ∷ 125 ∷ 73 ∷ 78 ∷ 86 ∷ 65 ∷ 82 ∷ 73 ∷ 65 ∷ 78 ∷ 84 ∷ 83 ∷ 123 ∷ 125 ∷ 65 ∷ 83 ∷ 83 ∷ 85 ∷ 77 ∷ 80 ∷ 84 ∷ 73 ∷ 79 ∷ 78 ∷ 83 ∷ 123 ∷ 125 ∷ 73 ∷ 78 ∷ 80 ∷ 85 ∷ 84 ∷ 83 ∷ 123 ∷ 99 ∷ 91 ∷ 51 ∷ 93 ∷ 59 ∷ 66 ∷ 95 ∷ 48 ∷ 59 ∷ 118 ∷ 59 ∷ 99 ∷ 125 ∷ 125 ∷ []); expected = Rejected 7 122 } ∷
    record { bytes = (ascii "INFO{TITLE:\"\"DESCRIPTION:\"\"SEMANTICS:Mealy TARGET:Mealy}GLOBAL{PARAMETERS{b=1+1}DEFINITIONS{enum n=q:010,011;}}MAIN{INPUTS{n l;}OUTPUTS{}ASSUME{}}"); expected = Accepted (0 ∷ 0 ∷ 536870912 ∷ 805339136 ∷ 536887296 ∷ 1073790980 ∷ 536903680 ∷ 805404672 ∷ 1073823751 ∷ 536870912 ∷ 805453824 ∷ 536887296 ∷ 1073905675 ∷ 536903680 ∷ 1073938445 ∷ 1342308366 ∷ 2416164864 ∷ 0 ∷ 1074003985 ∷ 0 ∷ 2416230400 ∷ 0 ∷ 1074069525 ∷ 1610907670 ∷ 1073758231 ∷ 1610612760 ∷ []) (8192003 ∷ 8192259 ∷ 8192515 ∷ []) } ∷
    record { bytes = (ascii "INFO{TITLE:\"\"DESCRIPTION:\"\"SEMANTICS:Moore TARGET:Moore}GLOBAL{DEFINITIONS{enum A=x':*0;enum u=v:00;}}MAIN{ASSUME{}GUARANTEES{}OUTPUTS{In;u m;u B_0;}INPUTS{}}"); expected = Accepted (0 ∷ 0 ∷ 0 ∷ 2415951872 ∷ 0 ∷ 1073790980 ∷ 536887296 ∷ 805404672 ∷ 536903680 ∷ 805437440 ∷ 1073856521 ∷ 536920064 ∷ 805486592 ∷ 536936448 ∷ 805519360 ∷ 1073938446 ∷ 1073905679 ∷ 2416181248 ∷ 0 ∷ 1074020370 ∷ 1610694675 ∷ 1073758228 ∷ 1610612757 ∷ []) (2156331008 ∷ 2156658690 ∷ 2156658946 ∷ 2156920834 ∷ 2156921090 ∷ []) } ∷
    record { bytes = (ascii "INFO{TITLE:\"\"DESCRIPTION:\"\"SEMANTICS:Mealy,Strict TARGET:Mealy}MAIN{INPUTS{w[false];p;}PRESET{}OUTPUTS{x';}}"); expected = Rejected 9 77 } ∷
    []

held_5 : texts_held cases_5 ≡ true
unfolding cases_5 text_expansion parsed spec_expansion ◌>>=◌ guard refuse_at nodes_of nodes_from count size
held_5 = refl

cases_6 : List Text
cases_6 =
    record { bytes = (ascii "INFO{TITLE:\"\"DESCRIPTION:\"\"SEMANTICS:Mealy TARGET:Mealy}GLOBAL{}MAIN{ASSERT{}INPUTS{f}OUTPUTS{x;}}"); expected = Accepted (0 ∷ 0 ∷ 0 ∷ 2415951872 ∷ 0 ∷ 1073790980 ∷ 0 ∷ 2416017408 ∷ 0 ∷ 1073856520 ∷ 1610694665 ∷ 1073758218 ∷ 1610612747 ∷ []) (5505024 ∷ 2153644032 ∷ []) } ∷
    record { bytes = (ascii "INFO{TITLE:\"\"DESCRIPTION:\"\"SEMANTICS:Moore TARGET:Moore}GLOBAL{PARAMETERS{}DEFINITIONS{j={1}(\\){0,1};enum a1=r:00,1*}}MAIN{INPUTS{y;}OUTPUTS{}REQUIRE{}}"); expected = Accepted (0 ∷ 0 ∷ 0 ∷ 2415951872 ∷ 0 ∷ 1073790980 ∷ 0 ∷ 2416017408 ∷ 0 ∷ 1073856520 ∷ 1610694665 ∷ 1073758218 ∷ 1610612747 ∷ []) (8519680 ∷ []) } ∷
    record { bytes = (ascii "INFO{TITLE:\"\"DESCRIPTION:\"\"SEMANTICS:Moore TARGET:Moore}MAIN{INPUTS{o}OUTPUTS{j;o;}ASSERT{*[|{3,4}|<=w<00]1+0!=0;F j;}}"); expected = Rejected 7 80 } ∷
    record { bytes = (ascii "INFO{TITLE:\"\"DESCRIPTION:\"\"SEMANTICS:Mealy TARGET:Mealy}GLOBAL{PARAMETERS{k=0}DEFINITIONS{enum p=x:*1,10u:00;}}MAIN{REQUIRE{}INPUTS{}PRESET{}OUTPUTS{f;B_0;a;}}"); expected = Accepted (0 ∷ 0 ∷ 0 ∷ 2415951872 ∷ 0 ∷ 1073790980 ∷ 0 ∷ 2416017408 ∷ 0 ∷ 1073856520 ∷ 1610694665 ∷ 1073758218 ∷ 1610612747 ∷ []) (2157248512 ∷ 2157379584 ∷ 2157641728 ∷ []) } ∷
    []

held_6 : texts_held cases_6 ≡ true
unfolding cases_6 text_expansion parsed spec_expansion ◌>>=◌ guard refuse_at nodes_of nodes_from count size
held_6 = refl

cases_7 : List Text
cases_7 =
    record { bytes = (ascii "INFO{TITLE:\"\"DESCRIPTION:\"\"SEMANTICS:Moore TARGET:Moore}MAIN{OUTPUTS{n;}ASSUME{9-01PLUS 2GEQ 2;X[01]EXISTS[0LEQ w<MIN{}]n R false;}INPUTS{}}"); expected = Rejected 11 114 } ∷
    record { bytes = (ascii "INFO{TITLE:\"\"DESCRIPTION:\"t\"SEMANTICS:Moore TARGET:Mealy}GLOBAL{}MAIN{INPUTS{q}OUTPUTS{k;}GUARANTEE{F[(4)-4:4]true;}}"); expected = Accepted (0 ∷ 0 ∷ 0 ∷ 2415951872 ∷ 0 ∷ 1073790980 ∷ 0 ∷ 2416017408 ∷ 0 ∷ 0 ∷ 0 ∷ 0 ∷ 0 ∷ 2147680256 ∷ 1342357517 ∷ 2147713024 ∷ 1342341135 ∷ 2147745792 ∷ 1342324753 ∷ 2147778560 ∷ 1342308371 ∷ 1073856532 ∷ 1610694677 ∷ 1073758230 ∷ 1610612759 ∷ []) (5046272 ∷ 2153185280 ∷ []) } ∷
    record { bytes = (ascii "INFO{TITLE:\"\"DESCRIPTION:\"\"SEMANTICS:Mealy TARGET:Mealy}MAIN{INPUTS{b[256]}OUTPUTS{}}"); expected = Rejected 13 68 } ∷
    record { bytes = (ascii "INFO{TITLE:\"t\"DESCRIPTION:\"\"SEMANTICS:Mealy,Strict TARGET:Moore}GLOBAL{DEFINITIONS{A=1;}}MAIN{INPUTS{@;}OUTPUTS{q[150];}ASSERT{(F @)->@}}"); expected = Accepted (0 ∷ 0 ∷ 536870912 ∷ 2684387328 ∷ 536870912 ∷ 1610661892 ∷ 0 ∷ 805404672 ∷ 3489742855 ∷ 1073758216 ∷ 0 ∷ 2416082944 ∷ 0 ∷ 1073922060 ∷ 0 ∷ 1610825742 ∷ 1073889295 ∷ 1610612752 ∷ []) (6619136 ∷ 2154823830 ∷ 2154824086 ∷ 2154824342 ∷ 2154824598 ∷ 2154824854 ∷ 2154825110 ∷ 2154825366 ∷ 2154825622 ∷ 2154825878 ∷ 2154826134 ∷ 2154826390 ∷ 2154826646 ∷ 2154826902 ∷ 2154827158 ∷ 2154827414 ∷ 2154827670 ∷ 2154827926 ∷ 2154828182 ∷ 2154828438 ∷ 2154828694 ∷ 2154828950 ∷ 2154829206 ∷ 2154829462 ∷ 2154829718 ∷ 2154829974 ∷ 2154830230 ∷ 2154830486 ∷ 2154830742 ∷ 2154830998 ∷ 2154831254 ∷ 2154831510 ∷ 2154831766 ∷ 2154832022 ∷ 2154832278 ∷ 2154832534 ∷ 2154832790 ∷ 2154833046 ∷ 2154833302 ∷ 2154833558 ∷ 2154833814 ∷ 2154834070 ∷ 2154834326 ∷ 2154834582 ∷ 2154834838 ∷ 2154835094 ∷ 2154835350 ∷ 2154835606 ∷ 2154835862 ∷ 2154836118 ∷ 2154836374 ∷ 2154836630 ∷ 2154836886 ∷ 2154837142 ∷ 2154837398 ∷ 2154837654 ∷ 2154837910 ∷ 2154838166 ∷ 2154838422 ∷ 2154838678 ∷ 2154838934 ∷ 2154839190 ∷ 2154839446 ∷ 2154839702 ∷ 2154839958 ∷ 2154840214 ∷ 2154840470 ∷ 2154840726 ∷ 2154840982 ∷ 2154841238 ∷ 2154841494 ∷ 2154841750 ∷ 2154842006 ∷ 2154842262 ∷ 2154842518 ∷ 2154842774 ∷ 2154843030 ∷ 2154843286 ∷ 2154843542 ∷ 2154843798 ∷ 2154844054 ∷ 2154844310 ∷ 2154844566 ∷ 2154844822 ∷ 2154845078 ∷ 2154845334 ∷ 2154845590 ∷ 2154845846 ∷ 2154846102 ∷ 2154846358 ∷ 2154846614 ∷ 2154846870 ∷ 2154847126 ∷ 2154847382 ∷ 2154847638 ∷ 2154847894 ∷ 2154848150 ∷ 2154848406 ∷ 2154848662 ∷ 2154848918 ∷ 2154849174 ∷ 2154849430 ∷ 2154849686 ∷ 2154849942 ∷ 2154850198 ∷ 2154850454 ∷ 2154850710 ∷ 2154850966 ∷ 2154851222 ∷ 2154851478 ∷ 2154851734 ∷ 2154851990 ∷ 2154852246 ∷ 2154852502 ∷ 2154852758 ∷ 2154853014 ∷ 2154853270 ∷ 2154853526 ∷ 2154853782 ∷ 2154854038 ∷ 2154854294 ∷ 2154854550 ∷ 2154854806 ∷ 2154855062 ∷ 2154855318 ∷ 2154855574 ∷ 2154855830 ∷ 2154856086 ∷ 2154856342 ∷ 2154856598 ∷ 2154856854 ∷ 2154857110 ∷ 2154857366 ∷ 2154857622 ∷ 2154857878 ∷ 2154858134 ∷ 2154858390 ∷ 2154858646 ∷ 2154858902 ∷ 2154859158 ∷ 2154859414 ∷ 2154859670 ∷ 2154859926 ∷ 2154860182 ∷ 2154860438 ∷ 2154860694 ∷ 2154860950 ∷ 2154861206 ∷ 2154861462 ∷ 2154861718 ∷ 2154861974 ∷ []) } ∷
    []

held_7 : texts_held cases_7 ≡ true
unfolding cases_7 text_expansion parsed spec_expansion ◌>>=◌ guard refuse_at nodes_of nodes_from count size
held_7 = refl

cases_8 : List Text
cases_8 =
    record { bytes = (ascii "INFO{TITLE:\"\"DESCRIPTION:\"\"SEMANTICS:Mealy TARGET:Mealy}GLOBAL{DEFINITIONS{enum w=t:00v:1,1j:0,0;}}MAIN{ASSUMPTIONS{}OUTPUTS{Xa}INPUTS{x;}}"); expected = Rejected 10 88 } ∷
    record { bytes = (ascii "INFO{TITLE:\"\"DESCRIPTION:\"\"SEMANTICS:Moore TARGET:Mealy TAGS:a}MAIN{REQUIRE{EXISTS[0DIV 1<e<4]false;}OUTPUTS{}INPUTS{x;j;r;}}"); expected = Accepted (0 ∷ 0 ∷ 268435456 ∷ 268435456 ∷ 1342210051 ∷ 268435456 ∷ 1342242821 ∷ 2416017408 ∷ 0 ∷ 1073856520 ∷ 0 ∷ 2416082944 ∷ 0 ∷ 1073922060 ∷ 1610760205 ∷ 1073758222 ∷ 1610612751 ∷ []) (7667712 ∷ 7798784 ∷ 7929856 ∷ []) } ∷
    record { bytes = (ascii "INFO{TITLE:\"\"DESCRIPTION:\"t\"SEMANTICS:Mealy TARGET:Moore}GLOBAL{DEFINITIONS{enum x=s:100,*11i:000,110z:101;p=|{0,1..2}|}}MAIN{INPUTS{r;}OUTPUTS{m[1];x c;}REQUIRE{!!!!!!!NOT NOT!!!!NOT X!!NOT!!!!!X!!NOT X!!!X!!!!NOT X!!!!!X!NOT X!X NOT!!!!NOT X X!!!NOT NOT!!!X!X X!!X X!X!NOT!NOT!!X!!!NOT NOT!!NOT X!!!!X!X X!!!NOT X!!X NOT!NOT X!!X!!!NOT!!!NOT!!!NOT NOT!NOT NOT!!NOT X NOT NOT X NOT X X X X X!!!!!!!!!NOT NOT X X!NOT!NOT!X X!X!X!!!NOT!!!!X!!!!NOT!NOT NOT!X X!!!!X!!X!!!NOT NOT X!!!!!NOT!NOT NOT!NOT!!!!!NOT NOT X!NOT NOT!!!!!!X!!X X!NOT!!!X!!!NOT!X NOT!!!!NOT(G!X(c)!=s OR r);}ASSUMPTIONS{}}"); expected = Rejected 5 162 } ∷
    record { bytes = (73 ∷ 78 ∷ 70 ∷ 79 ∷ 123 ∷ 84 ∷ 73 ∷ 84 ∷ 76 ∷ 69 ∷ 58 ∷ 9 ∷ 13 ∷ 32 ∷ 34 ∷ 34 ∷ 68 ∷ 69 ∷ 83 ∷ 67 ∷ 82 ∷ 73 ∷ 80 ∷ 84 ∷ 73 ∷ 79 ∷ 78 ∷ 32 ∷ 32 ∷ 9 ∷ 32 ∷ 32 ∷ 58 ∷ 34 ∷ 34 ∷ 83 ∷ 69 ∷ 77 ∷ 65 ∷ 78 ∷ 84 ∷ 73 ∷ 67 ∷ 83 ∷ 58 ∷ 77 ∷ 111 ∷ 111 ∷ 114 ∷ 101 ∷ 13 ∷ 44 ∷ 83 ∷ 116 ∷ 114 ∷ 105 ∷ 99 ∷ 116 ∷ 32 ∷ 32 ∷ 84 ∷ 65 ∷ 82 ∷ 71 ∷ 69 ∷ 84 ∷ 58 ∷ 9 ∷ 32 ∷ 77 ∷ 111 ∷ 111 ∷ 114 ∷ 101 ∷ 125 ∷ 77 ∷ 65 ∷ 73 ∷ 78 ∷ 123 ∷ 32 ∷ 10 ∷ 73 ∷ 78 ∷ 80 ∷ 85 ∷ 84 ∷ 83 ∷ 123 ∷ 13 ∷ 103 ∷ 59 ∷ 13 ∷ 32 ∷ 32 ∷ 32 ∷ 32 ∷ 125 ∷ 13 ∷ 13 ∷ 79 ∷ 85 ∷ 84 ∷ 80 ∷ 85 ∷ 84 ∷ 83 ∷ 123 ∷ 32 ∷ 47 ∷ 47 ∷ 32 ∷ 99 ∷ 10 ∷ 111 ∷ 59 ∷ 125 ∷ 32 ∷ 47 ∷ 42 ∷ 47 ∷ 42 ∷ 42 ∷ 47 ∷ 42 ∷ 47 ∷ 65 ∷ 83 ∷ 83 ∷ 85 ∷ 77 ∷ 69 ∷ 32 ∷ 32 ∷ 123 ∷ 103 ∷ 32 ∷ 32 ∷ 60 ∷ 45 ∷ 62 ∷ 9 ∷ 49 ∷ 32 ∷ 47 ∷ 47 ∷ 32 ∷ 99 ∷ 10 ∷ 59 ∷ 13 ∷ 49 ∷ 125 ∷ 125 ∷ []); expected = Rejected 9 142 } ∷
    []

held_8 : texts_held cases_8 ≡ true
unfolding cases_8 text_expansion parsed spec_expansion ◌>>=◌ guard refuse_at nodes_of nodes_from count size
held_8 = refl

cases_9 : List Text
cases_9 =
    record { bytes = (ascii "INFO{TITLE:\"\"DESCRIPTION:\"t\"SEMANTICS:Moore TARGET:Moore}GLOBAL{DEFINITIONS{enum o=v:11,10;m=X p<->false;}}MAIN{GUARANTEE{1==0;}INPUTS{p;z}OUTPUTS{o n}}"); expected = Accepted (0 ∷ 0 ∷ 0 ∷ 2415951872 ∷ 0 ∷ 1073790980 ∷ 536903680 ∷ 536920064 ∷ 1073840135 ∷ 536903680 ∷ 536920064 ∷ 805470208 ∷ 1073889291 ∷ 1342308364 ∷ 2416132096 ∷ 268435456 ∷ 1073971215 ∷ 1610694672 ∷ 1073758225 ∷ 1610612754 ∷ []) (8847360 ∷ 8978432 ∷ 2157248514 ∷ 2157248770 ∷ []) } ∷
    record { bytes = (73 ∷ 78 ∷ 70 ∷ 79 ∷ 123 ∷ 9 ∷ 10 ∷ 32 ∷ 32 ∷ 84 ∷ 73 ∷ 84 ∷ 76 ∷ 69 ∷ 58 ∷ 32 ∷ 34 ∷ 34 ∷ 13 ∷ 68 ∷ 69 ∷ 83 ∷ 67 ∷ 82 ∷ 73 ∷ 80 ∷ 84 ∷ 73 ∷ 79 ∷ 78 ∷ 9 ∷ 58 ∷ 34 ∷ 34 ∷ 10 ∷ 83 ∷ 69 ∷ 77 ∷ 65 ∷ 78 ∷ 84 ∷ 73 ∷ 67 ∷ 83 ∷ 58 ∷ 77 ∷ 111 ∷ 111 ∷ 114 ∷ 101 ∷ 32 ∷ 47 ∷ 42 ∷ 0 ∷ 11 ∷ 42 ∷ 47 ∷ 84 ∷ 65 ∷ 82 ∷ 71 ∷ 69 ∷ 84 ∷ 32 ∷ 47 ∷ 42 ∷ 32 ∷ 59 ∷ 32 ∷ 125 ∷ 32 ∷ 42 ∷ 47 ∷ 58 ∷ 77 ∷ 111 ∷ 111 ∷ 114 ∷ 101 ∷ 32 ∷ 32 ∷ 125 ∷ 77 ∷ 65 ∷ 73 ∷ 78 ∷ 123 ∷ 79 ∷ 85 ∷ 84 ∷ 80 ∷ 85 ∷ 84 ∷ 83 ∷ 123 ∷ 125 ∷ 65 ∷ 83 ∷ 83 ∷ 85 ∷ 77 ∷ 69 ∷ 123 ∷ 125 ∷ 32 ∷ 32 ∷ 13 ∷ 73 ∷ 78 ∷ 80 ∷ 85 ∷ 84 ∷ 83 ∷ 123 ∷ 113 ∷ 59 ∷ 125 ∷ 125 ∷ []); expected = Accepted (0 ∷ 0 ∷ 0 ∷ 2415951872 ∷ 0 ∷ 1073790980 ∷ 0 ∷ 2416017408 ∷ 0 ∷ 1073856520 ∷ 1610694665 ∷ 1073758218 ∷ 1610612747 ∷ []) (7471104 ∷ []) } ∷
    record { bytes = (ascii "INFO{TITLE:\"\"DESCRIPTION:\"\"SEMANTICS:Mealy TARGET:Moore TAGS:_}MAIN{INPUTS{f[2]}OUTPUTS{}REQUIRE{f[0]U f[01];f[0]U f[0];}}"); expected = Accepted (0 ∷ 0 ∷ 536870912 ∷ 536887296 ∷ 2952822787 ∷ 536870912 ∷ 536870912 ∷ 2952871942 ∷ 1073807367 ∷ 2416050176 ∷ 0 ∷ 1073889290 ∷ 0 ∷ 2416115712 ∷ 0 ∷ 1073954830 ∷ 1610792975 ∷ 1073758224 ∷ 1610612753 ∷ []) (4915202 ∷ 4915458 ∷ []) } ∷
    record { bytes = (ascii "INFO{TITLE:\"\"DESCRIPTION:\"\"SEMANTICS:Moore,Strict TARGET:Moore}MAIN{INPUTS{s;v[2]}OUTPUTS{i[2];}INITIALLY{}}"); expected = Accepted (0 ∷ 0 ∷ 0 ∷ 0 ∷ 805355520 ∷ 3489693700 ∷ 1073758213 ∷ 0 ∷ 2416033792 ∷ 0 ∷ 1073872905 ∷ 0 ∷ 1610776587 ∷ 1073840140 ∷ 1610612749 ∷ []) (4915200 ∷ 5046274 ∷ 5046530 ∷ 2153381890 ∷ 2153382146 ∷ []) } ∷
    []

held_9 : texts_held cases_9 ≡ true
unfolding cases_9 text_expansion parsed spec_expansion ◌>>=◌ guard refuse_at nodes_of nodes_from count size
held_9 = refl

cases_10 : List Text
cases_10 =
    record { bytes = (ascii "INFO{TITLE:\"\"DESCRIPTION:\"\"SEMANTICS:Moore,Strict TARGET:Moore}GLOBAL{DEFINITIONS{enum z=Xa:1x:0;}}MAIN{INPUTS{z a1;}OUTPUTS{}ASSERT{01+i IN m}}"); expected = Rejected 6 136 } ∷
    record { bytes = (ascii "INFO{TITLE:\"t\"DESCRIPTION:\"t\"SEMANTICS:Moore TARGET:Moore}GLOBAL{PARAMETERS{}}MAIN{OUTPUTS{o;}GUARANTEE{01>2;1IN(*)[w<-{}]{0,1..2};}INPUTS{}REQUIRE{(o);&&[r IN{00}]o||o}}"); expected = Rejected 11 112 } ∷
    record { bytes = (ascii "INFO{TITLE:\"\"DESCRIPTION:\"\"SEMANTICS:Mealy,Strict TARGET:Mealy}GLOBAL{DEFINITIONS{A=00*{1};}}MAIN{OUTPUTS{a;t[1];t;}INPUTS{}REQUIRE{a;}}"); expected = Rejected 7 113 } ∷
    record { bytes = (ascii "INFO{TITLE:\"\"DESCRIPTION:\"\"SEMANTICS:Mealy,Strict TARGET:Moore}MAIN{INPUTS{_;}OUTPUTS{g[true];}REQUIRE{((true U _))U g[0];}}"); expected = Rejected 9 88 } ∷
    []

held_10 : texts_held cases_10 ≡ true
unfolding cases_10 text_expansion parsed spec_expansion ◌>>=◌ guard refuse_at nodes_of nodes_from count size
held_10 = refl

cases_11 : List Text
cases_11 =
    record { bytes = (ascii "INFO{TITLE:\"\"DESCRIPTION:\"\"SEMANTICS:Mealy TARGET:Mealy}MAIN{INPUTS{b[2]}OUTPUTS{}ASSERT{b[2]}}"); expected = Rejected 13 89 } ∷
    record { bytes = (ascii "INFO{TITLE:\"\"DESCRIPTION:\"\"SEMANTICS:Mealy TARGET:Moore}GLOBAL{PARAMETERS{v=|{3,3..5}|;}DEFINITIONS{n=&&[k IN{v PLUS 0,2,1,v}]v;}}MAIN{INPUTS{v;}OUTPUTS{v;i;}ASSERT{}}"); expected = Rejected 7 142 } ∷
    record { bytes = (ascii "INFO{TITLE:\"\"DESCRIPTION:\"\"SEMANTICS:Mealy TARGET:Mealy}MAIN{INPUTS{b[256]}OUTPUTS{}}"); expected = Rejected 13 68 } ∷
    record { bytes = (ascii "INFO{TITLE:\"\"DESCRIPTION:\"\"SEMANTICS:Moore TARGET:Mealy}MAIN{REQUIRE{9-2>01;&&[3*2+1<a1 LEQ 1,a1<=x'<=a1]e;}OUTPUTS{e}INPUTS{e}INVARIANTS{&&[_<-{},_ ELEM{}]false;}}"); expected = Rejected 7 125 } ∷
    []

held_11 : texts_held cases_11 ≡ true
unfolding cases_11 text_expansion parsed spec_expansion ◌>>=◌ guard refuse_at nodes_of nodes_from count size
held_11 = refl

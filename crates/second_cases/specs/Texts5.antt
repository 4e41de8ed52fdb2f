-- Written by the second converter: cases with its answers, each computed from the definitions.
use Rattle.std.specs.Prelude.{true, List, [], ◌∷◌, ◌≡◌, refl}
use Rattle.node.specs.Postorder.{size, nodes_from}
use Rattle.node.specs.Written.{nodes_of, count}
use Rattle.node.specs.Result.{◌>>=◌, guard}
use Rattle.language.specs.Bytes.{ascii}
use Rattle.language.specs.Places.{refuse_at}
use Rattle.language.specs.Parsing.{parsed}
use Rattle.language.specs.Reading.{text_expansion, spec_expansion}
use Rattle.second_cases.specs.Held.{Accepted, Rejected, Text, texts_held}

cases_0 : List Text
cases_0 =
    record { bytes = (ascii "INFO{TITLE:\"t\"DESCRIPTION:\"t\"SEMANTICS:Mealy TARGET:Moore}MAIN{OUTPUTS{}ASSERT{}INPUTS{s;A;}}"); expected = Accepted (0 ∷ 0 ∷ 0 ∷ 2415951872 ∷ 0 ∷ 1073790980 ∷ 0 ∷ 2416017408 ∷ 0 ∷ 1073856520 ∷ 1610694665 ∷ 1073758218 ∷ 1610612747 ∷ []) (5701632 ∷ 5832704 ∷ []) } ∷
    record { bytes = (ascii "INFO{TITLE:\"\"DESCRIPTION:\"\"SEMANTICS:Mealy,Strict TARGET:Moore}MAIN{INPUTS{}OUTPUTS{e;n;z}REQUIRE{{1};}ASSUME{(false);n W(false)}}"); expected = Rejected 9 98 } ∷
    record { bytes = (ascii "INFO{TITLE:\"\"DESCRIPTION:\"t\"SEMANTICS:Mealy,Strict TARGET:Moore}GLOBAL{DEFINITIONS{enum c=h:11,10a:01A:1001*01*01;Xa=1MOD 3;}}MAIN{INPUTS{}OUTPUTS{y}REQUIRE{}}"); expected = Rejected 10 103 } ∷
    record { bytes = (ascii "INFO{TITLE:\"\"DESCRIPTION:\"\"SEMANTICS:Moore TARGET:Moore}MAIN{INPUTS{In;a;m}ASSUME{}OUTPUTS{}}"); expected = Accepted (0 ∷ 0 ∷ 0 ∷ 2415951872 ∷ 0 ∷ 1073790980 ∷ 0 ∷ 2416017408 ∷ 0 ∷ 1073856520 ∷ 1610694665 ∷ 1073758218 ∷ 1610612747 ∷ []) (4456448 ∷ 4653056 ∷ 4784128 ∷ []) } ∷
    []

held_0 : texts_held cases_0 ≡ true
unfolding cases_0 text_expansion parsed spec_expansion ◌>>=◌ guard refuse_at nodes_of nodes_from count size
held_0 = refl

cases_1 : List Text
cases_1 =
    record { bytes = (ascii "INFO{TITLE:\"\"DESCRIPTION:\"\"SEMANTICS:Moore TARGET:Moore}GLOBAL{DEFINITIONS{enum l=h:10*;enum z=e:1n:0,0;}}MAIN{INVARIANTS{(x[2]);}INPUTS{}OUTPUTS{l x;}}"); expected = Accepted (0 ∷ 0 ∷ 0 ∷ 2415951872 ∷ 0 ∷ 1073790980 ∷ 536903680 ∷ 536870912 ∷ 536887296 ∷ 805437440 ∷ 1073856521 ∷ 1073840138 ∷ 2416099328 ∷ 0 ∷ 1073938445 ∷ 1610694670 ∷ 1073758223 ∷ 1610612752 ∷ []) (2157182979 ∷ 2157183235 ∷ 2157183491 ∷ []) } ∷
    record { bytes = (ascii "INFO{TITLE:\"\"DESCRIPTION:\"\"SEMANTICS:Moore TARGET:Moore TAGS:a,safety,\"t\",\"t\",_}GLOBAL{}MAIN{INPUTS{u;}REQUIRE{false->false}OUTPUTS{}}"); expected = Accepted (0 ∷ 0 ∷ 268435456 ∷ 268435456 ∷ 1610645507 ∷ 2415984640 ∷ 0 ∷ 1073823750 ∷ 0 ∷ 2416050176 ∷ 0 ∷ 1073889290 ∷ 1610727435 ∷ 1073758220 ∷ 1610612749 ∷ []) (6553600 ∷ []) } ∷
    record { bytes = (ascii "INFO{TITLE:\"\"DESCRIPTION:\"\"SEMANTICS:Mealy TARGET:Mealy}MAIN{INPUTS{a}OUTPUTS{}ASSERT{+[0<i<258]i==1}}"); expected = Rejected 12 89 } ∷
    record { bytes = (ascii "INFO{TITLE:\"\"DESCRIPTION:\"\"SEMANTICS:Mealy TARGET:Mealy}GLOBAL{PARAMETERS{a=1}DEFINITIONS{h=3;}}MAIN{OUTPUTS{}ASSUME{(|{0,1}|+01GE h);G[h-h:3]x;}INPUTS{d[3];}}"); expected = Rejected 6 142 } ∷
    []

held_1 : texts_held cases_1 ≡ true
unfolding cases_1 text_expansion parsed spec_expansion ◌>>=◌ guard refuse_at nodes_of nodes_from count size
held_1 = refl

cases_2 : List Text
cases_2 =
    record { bytes = (73 ∷ 78 ∷ 70 ∷ 79 ∷ 123 ∷ 84 ∷ 73 ∷ 84 ∷ 76 ∷ 69 ∷ 58 ∷ 34 ∷ 116 ∷ 34 ∷ 68 ∷ 69 ∷ 83 ∷ 67 ∷ 82 ∷ 73 ∷ 80 ∷ 84 ∷ 73 ∷ 79 ∷ 78 ∷ 58 ∷ 34 ∷ 34 ∷ 83 ∷ 69 ∷ 77 ∷ 65 ∷ 78 ∷ 84 ∷ 73 ∷ 67 ∷ 83 ∷ 13 ∷ 13 ∷ 58 ∷ 77 ∷ 101 ∷ 97 ∷ 108 ∷ 121 ∷ 32 ∷ 84 ∷ 65 ∷ 82 ∷ 71 ∷ 69 ∷ 84 ∷ 58 ∷ 13 ∷ 77 ∷ 101 ∷ 97 ∷ 108 ∷ 121 ∷ 125 ∷ 10 ∷ 32 ∷ 32 ∷ 77 ∷ 65 ∷ 73 ∷ 78 ∷ 32 ∷ 32 ∷ 10 ∷ 47 ∷ 42 ∷ 32 ∷ 59 ∷ 32 ∷ 125 ∷ 32 ∷ 42 ∷ 47 ∷ 123 ∷ 73 ∷ 78 ∷ 80 ∷ 85 ∷ 84 ∷ 83 ∷ 123 ∷ 102 ∷ 91 ∷ 52 ∷ 93 ∷ 59 ∷ 125 ∷ 79 ∷ 85 ∷ 84 ∷ 80 ∷ 85 ∷ 84 ∷ 83 ∷ 123 ∷ 97 ∷ 49 ∷ 59 ∷ 9 ∷ 125 ∷ 71 ∷ 85 ∷ 65 ∷ 82 ∷ 65 ∷ 78 ∷ 84 ∷ 69 ∷ 69 ∷ 9 ∷ 32 ∷ 32 ∷ 123 ∷ 125 ∷ 13 ∷ 125 ∷ []); expected = Accepted (0 ∷ 0 ∷ 0 ∷ 2415951872 ∷ 0 ∷ 1073790980 ∷ 0 ∷ 2416017408 ∷ 0 ∷ 1073856520 ∷ 1610694665 ∷ 1073758218 ∷ 1610612747 ∷ []) (5701636 ∷ 5701892 ∷ 5702148 ∷ 5702404 ∷ 2154102784 ∷ []) } ∷
    record { bytes = (ascii "INFO{TITLE:\"\"DESCRIPTION:\"\"SEMANTICS:Mealy TARGET:Mealy}MAIN{INPUTS{a}OUTPUTS{}ASSERT{1 IN{0,1..254}(+){1,300}}}"); expected = Accepted (0 ∷ 0 ∷ 0 ∷ 2415951872 ∷ 0 ∷ 1073790980 ∷ 0 ∷ 2416017408 ∷ 0 ∷ 1073856520 ∷ 1610694665 ∷ 1073758218 ∷ 1610612747 ∷ []) (4456448 ∷ []) } ∷
    record { bytes = (ascii "INFO{TITLE:\"\"DESCRIPTION:\"\"SEMANTICS:Moore TARGET:Mealy}MAIN{INPUTS{m;@}OUTPUTS{x;}ASSUME{}GUARANTEE{}}"); expected = Accepted (0 ∷ 0 ∷ 0 ∷ 2415951872 ∷ 0 ∷ 1073790980 ∷ 0 ∷ 2416017408 ∷ 0 ∷ 1073856520 ∷ 1610694665 ∷ 1073758218 ∷ 1610612747 ∷ []) (4456448 ∷ 4587520 ∷ 2152726528 ∷ []) } ∷
    record { bytes = (ascii "INFO{TITLE:\"\"DESCRIPTION:\"\"SEMANTICS:Mealy,Strict TARGET:Mealy}MAIN{INPUTS{}OUTPUTS{c c;}INITIALLY{c W c;}}"); expected = Rejected 9 84 } ∷
    []

held_2 : texts_held cases_2 ≡ true
unfolding cases_2 text_expansion parsed spec_expansion ◌>>=◌ guard refuse_at nodes_of nodes_from count size
held_2 = refl

cases_3 : List Text
cases_3 =
    record { bytes = (ascii "INFO{TITLE:\"\"DESCRIPTION:\"\"SEMANTICS:Mealy TARGET:Moore}GLOBAL{DEFINITIONS{enum e=w:*;p=X false;}}MAIN{INPUTS{c;}OUTPUTS{}ASSUME{}}"); expected = Accepted (0 ∷ 0 ∷ 0 ∷ 2415951872 ∷ 0 ∷ 1073790980 ∷ 0 ∷ 2416017408 ∷ 0 ∷ 1073856520 ∷ 1610694665 ∷ 1073758218 ∷ 1610612747 ∷ []) (7208960 ∷ []) } ∷
    record { bytes = (73 ∷ 78 ∷ 70 ∷ 79 ∷ 123 ∷ 84 ∷ 73 ∷ 84 ∷ 76 ∷ 69 ∷ 58 ∷ 32 ∷ 47 ∷ 42 ∷ 0 ∷ 11 ∷ 42 ∷ 47 ∷ 34 ∷ 34 ∷ 9 ∷ 32 ∷ 9 ∷ 13 ∷ 68 ∷ 69 ∷ 83 ∷ 67 ∷ 82 ∷ 73 ∷ 80 ∷ 84 ∷ 73 ∷ 79 ∷ 78 ∷ 9 ∷ 58 ∷ 34 ∷ 34 ∷ 83 ∷ 69 ∷ 77 ∷ 65 ∷ 78 ∷ 84 ∷ 73 ∷ 67 ∷ 83 ∷ 58 ∷ 77 ∷ 111 ∷ 111 ∷ 114 ∷ 101 ∷ 9 ∷ 13 ∷ 84 ∷ 65 ∷ 82 ∷ 71 ∷ 69 ∷ 84 ∷ 58 ∷ 32 ∷ 32 ∷ 77 ∷ 111 ∷ 111 ∷ 114 ∷ 101 ∷ 9 ∷ 84 ∷ 65 ∷ 71 ∷ 83 ∷ 32 ∷ 58 ∷ 97 ∷ 44 ∷ 9 ∷ 115 ∷ 97 ∷ 102 ∷ 101 ∷ 116 ∷ 121 ∷ 9 ∷ 32 ∷ 125 ∷ 71 ∷ 76 ∷ 79 ∷ 66 ∷ 65 ∷ 76 ∷ 123 ∷ 13 ∷ 13 ∷ 125 ∷ 32 ∷ 32 ∷ 47 ∷ 42 ∷ 32 ∷ 59 ∷ 32 ∷ 125 ∷ 32 ∷ 42 ∷ 47 ∷ 77 ∷ 65 ∷ 73 ∷ 78 ∷ 123 ∷ 32 ∷ 32 ∷ 79 ∷ 85 ∷ 84 ∷ 80 ∷ 85 ∷ 84 ∷ 83 ∷ 123 ∷ 10 ∷ 114 ∷ 32 ∷ 10 ∷ 59 ∷ 109 ∷ 59 ∷ 125 ∷ 32 ∷ 9 ∷ 73 ∷ 78 ∷ 80 ∷ 85 ∷ 84 ∷ 83 ∷ 123 ∷ 125 ∷ 71 ∷ 85 ∷ 65 ∷ 82 ∷ 65 ∷ 78 ∷ 84 ∷ 69 ∷ 69 ∷ 32 ∷ 47 ∷ 42 ∷ 0 ∷ 11 ∷ 42 ∷ 47 ∷ 123 ∷ 125 ∷ 125 ∷ []); expected = Accepted (0 ∷ 0 ∷ 0 ∷ 2415951872 ∷ 0 ∷ 1073790980 ∷ 0 ∷ 2416017408 ∷ 0 ∷ 1073856520 ∷ 1610694665 ∷ 1073758218 ∷ 1610612747 ∷ []) (2155741184 ∷ 2156003328 ∷ []) } ∷
    record { bytes = (ascii "INFO{TITLE:\"\"DESCRIPTION:\"\"SEMANTICS:Moore TARGET:Moore}GLOBAL{DEFINITIONS{enum q=o:10e:01In:11;@=SIZE{01}}}MAIN{OUTPUTS{}INPUTS{t}ASSERT{((false));t<->true;}}"); expected = Accepted (0 ∷ 0 ∷ 0 ∷ 2415951872 ∷ 0 ∷ 1073790980 ∷ 268435456 ∷ 536870912 ∷ 0 ∷ 1879162888 ∷ 1073840137 ∷ 2416082944 ∷ 0 ∷ 1073922060 ∷ 1610694669 ∷ 1073758222 ∷ 1610612751 ∷ []) (8454144 ∷ []) } ∷
    record { bytes = (ascii "INFO{TITLE:\"\"DESCRIPTION:\"\"SEMANTICS:Mealy TARGET:Moore}GLOBAL{DEFINITIONS{l=00;}}MAIN{INPUTS{x[4];t[3];}OUTPUTS{z}REQUIRE{}}"); expected = Accepted (0 ∷ 0 ∷ 0 ∷ 2415951872 ∷ 0 ∷ 1073790980 ∷ 0 ∷ 2416017408 ∷ 0 ∷ 1073856520 ∷ 1610694665 ∷ 1073758218 ∷ 1610612747 ∷ []) (6160388 ∷ 6160644 ∷ 6160900 ∷ 6161156 ∷ 6488067 ∷ 6488323 ∷ 6488579 ∷ 2154889216 ∷ []) } ∷
    []

held_3 : texts_held cases_3 ≡ true
unfolding cases_3 text_expansion parsed spec_expansion ◌>>=◌ guard refuse_at nodes_of nodes_from count size
held_3 = refl

cases_4 : List Text
cases_4 =
    record { bytes = (ascii "INFO{TITLE:\"\"DESCRIPTION:\"\"SEMANTICS:Moore TARGET:Moore}GLOBAL{DEFINITIONS{enum g=@:011,10*;}}MAIN{INPUTS{g f;}OUTPUTS{u[4]}ASSUME{||[p%00LEQ j<=01]s;}}"); expected = Rejected 6 134 } ∷
    record { bytes = (ascii "INFO{TITLE:\"\"DESCRIPTION:\"\"SEMANTICS:Moore TARGET:Moore}GLOBAL{}MAIN{OUTPUTS{}PRESET{!2IN{0,1..2};F[4:4]true;}REQUIRE{@&&&&[A IN{2,3..0}]@}INPUTS{@;}}"); expected = Accepted (0 ∷ 0 ∷ 805322752 ∷ 0 ∷ 2147532800 ∷ 2147549184 ∷ 2147565568 ∷ 2147581952 ∷ 1073774599 ∷ 536870912 ∷ 0 ∷ 1073889290 ∷ 2416099328 ∷ 0 ∷ 1073938445 ∷ 0 ∷ 2416164864 ∷ 0 ∷ 1074003985 ∷ 1610842130 ∷ 1073872915 ∷ 1610612756 ∷ []) (9568256 ∷ []) } ∷
    record { bytes = (ascii "INFO{TITLE:\"\"DESCRIPTION:\"\"SEMANTICS:Mealy,Strict TARGET:Moore}MAIN{INPUTS{}OUTPUTS{x[1]}ASSERT{}}"); expected = Accepted (0 ∷ 0 ∷ 0 ∷ 0 ∷ 805355520 ∷ 3489693700 ∷ 1073758213 ∷ 0 ∷ 2416033792 ∷ 0 ∷ 1073872905 ∷ 0 ∷ 1610776587 ∷ 1073840140 ∷ 1610612749 ∷ []) (2152988673 ∷ []) } ∷
    record { bytes = (ascii "INFO{TITLE:\"t\"DESCRIPTION:\"\"SEMANTICS:Moore,Strict TARGET:Moore}GLOBAL{DEFINITIONS{enum B_0=In:**0;enum v=z:0j:1;}}MAIN{INPUTS{q;f[1];}OUTPUTS{B_0 r;}ASSUME{G true;}}"); expected = Accepted (0 ∷ 0 ∷ 536936448 ∷ 805339136 ∷ 0 ∷ 805371904 ∷ 3489710085 ∷ 1073758214 ∷ 0 ∷ 2416050176 ∷ 0 ∷ 2416082944 ∷ 1073889291 ∷ 0 ∷ 1610809357 ∷ 1073856526 ∷ 1610612751 ∷ []) (8323072 ∷ 8454145 ∷ 2157117443 ∷ 2157117699 ∷ 2157117955 ∷ []) } ∷
    []

held_4 : texts_held cases_4 ≡ true
unfolding cases_4 text_expansion parsed spec_expansion ◌>>=◌ guard refuse_at nodes_of nodes_from count size
held_4 = refl

cases_5 : List Text
cases_5 =
    record { bytes = (73 ∷ 78 ∷ 70 ∷ 79 ∷ 123 ∷ 84 ∷ 73 ∷ 84 ∷ 76 ∷ 69 ∷ 58 ∷ 34 ∷ 34 ∷ 68 ∷ 69 ∷ 83 ∷ 67 ∷ 82 ∷ 73 ∷ 80 ∷ 84 ∷ 73 ∷ 79 ∷ 78 ∷ 58 ∷ 34 ∷ 34 ∷ 83 ∷ 69 ∷ 77 ∷ 65 ∷ 78 ∷ 84 ∷ 34 ∷ 73 ∷ 67 ∷ 83 ∷ 58 ∷ 77 ∷ 101 ∷ 97 ∷ 108 ∷ 121 ∷ 44 ∷ 83 ∷ 116 ∷ 114 ∷ 105 ∷ 99 ∷ 116 ∷ 32 ∷ 84 ∷ 65 ∷ 82 ∷ 71 ∷ 69 ∷ 84 ∷ 58 ∷ 77 ∷ 101 ∷ 97 ∷ 108 ∷ 121 ∷ 125 ∷ 77 ∷ 65 ∷ 73 ∷ 78 ∷ 123 ∷ 80 ∷ 82 ∷ 69 ∷ 83 ∷ 69 ∷ 84 ∷ 123 ∷ 100 ∷ 59 ∷ 125 ∷ 79 ∷ 85 ∷ 132 ∷ 80 ∷ 85 ∷ 84 ∷ 83 ∷ 123 ∷ 100 ∷ 125 ∷ 73 ∷ 78 ∷ 80 ∷ 85 ∷ 84 ∷ 83 ∷ 123 ∷ 125 ∷ 125 ∷ []); expected = Rejected 2 33 } ∷
    record { bytes = (ascii "INFO{TITLE:\"\"DESCRIPTION:\"\"SEMANTICS:Mealy TARGET:Mealy}GLOBAL{DEFINITIONS{enum T=A:0,0,0,0,0,0,0,0,0,0,0,0,0,0,0,0}}MAIN{INPUTS{}OUTPUTS{}}"); expected = Accepted (0 ∷ 0 ∷ 0 ∷ 2415951872 ∷ 0 ∷ 1073790980 ∷ 0 ∷ 2416017408 ∷ 0 ∷ 1073856520 ∷ 1610694665 ∷ 1073758218 ∷ 1610612747 ∷ []) ([]) } ∷
    record { bytes = (ascii "INFO{TITLE:\"\"DESCRIPTION:\"t\"SEMANTICS:Mealy TARGET:Mealy}GLOBAL{}MAIN{ASSUME{c W X[(3)]c;}OUTPUTS{c;x[4]}INPUTS{}}"); expected = Accepted (0 ∷ 0 ∷ 0 ∷ 2415951872 ∷ 536870912 ∷ 536870912 ∷ 2147565568 ∷ 2147581952 ∷ 2147598336 ∷ 3489726472 ∷ 1073790985 ∷ 0 ∷ 2416099328 ∷ 0 ∷ 1073938445 ∷ 1610776590 ∷ 1073758223 ∷ 1610612752 ∷ []) (2153906176 ∷ 2154037252 ∷ 2154037508 ∷ 2154037764 ∷ 2154038020 ∷ []) } ∷
    record { bytes = (ascii "INFO{TITLE:\"\"DESCRIPTION:\"\"SEMANTICS:Moore,Strict TARGET:Moore}GLOBAL{PARAMETERS{w=SIZEOF p;}}MAIN{INPUTS{p[1];}GUARANTEE{}OUTPUTS{}}"); expected = Rejected 13 90 } ∷
    []

held_5 : texts_held cases_5 ≡ true
unfolding cases_5 text_expansion parsed spec_expansion ◌>>=◌ guard refuse_at nodes_of nodes_from count size
held_5 = refl

cases_6 : List Text
cases_6 =
    record { bytes = (ascii "INFO{TITLE:\"\"DESCRIPTION:\"\"SEMANTICS:Moore TARGET:Moore TAGS:\"t\",a}GLOBAL{DEFINITIONS{enum @=u:1,1g:0,0;}}MAIN{OUTPUTS{}INITIALLY{}INPUTS{@ a1}}"); expected = Accepted (0 ∷ 0 ∷ 0 ∷ 2415951872 ∷ 0 ∷ 1073790980 ∷ 0 ∷ 2416017408 ∷ 0 ∷ 1073856520 ∷ 1610694665 ∷ 1073758218 ∷ 1610612747 ∷ []) (9175041 ∷ []) } ∷
    record { bytes = (ascii "INFO{TITLE:\"\"DESCRIPTION:\"\"SEMANTICS:Mealy TARGET:Moore}GLOBAL{DEFINITIONS{}}MAIN{INPUTS{A[3];}OUTPUTS{m[4];In[1];}ASSUME{F[9-(SIZEOF A):01]m[2];}}"); expected = Rejected 11 122 } ∷
    record { bytes = (ascii "INFO{TITLE:\"\"DESCRIPTION:\"\"SEMANTICS:Mealy TARGET:Mealy}MAIN{INPUTS{nnnnnnnnnnnnnnnnnnnnnnnnnnnnnnnnnnnnnnnnnnnnnnnnnnnnnnnnnnnnnnnnn}OUTPUTS{}}"); expected = Rejected 2 68 } ∷
    record { bytes = (ascii "INFO{TITLE:\"\"DESCRIPTION:\"\"SEMANTICS:Mealy,Strict TARGET:Moore TAGS:safety,\"t\"}MAIN{INPUTS{f}OUTPUTS{}REQUIRE{MIN({0,1..255}(+){300})IN{4};}}"); expected = Rejected 12 124 } ∷
    []

held_6 : texts_held cases_6 ≡ true
unfolding cases_6 text_expansion parsed spec_expansion ◌>>=◌ guard refuse_at nodes_of nodes_from count size
held_6 = refl

cases_7 : List Text
cases_7 =
    record { bytes = (ascii "INFO{TITLE:\"\"DESCRIPTION:\"\"SEMANTICS:Moore TARGET:Moore}GLOBAL{PARAMETERS{B_0=2;}DEFINITIONS{enum p=u:0u:1,1}}MAIN{INPUTS{}OUTPUTS{u[2];p h;_;}ASSUME{_ U false;}}"); expected = Rejected 7 103 } ∷
    record { bytes = (ascii "INFO{TITLE:\"\"DESCRIPTION:\"t\"SEMANTICS:Moore,Strict TARGET:Mealy}MAIN{INPUTS{h;}OUTPUTS{v[2];o;_[149]}ASSERT{}}"); expected = Accepted (0 ∷ 0 ∷ 0 ∷ 0 ∷ 805355520 ∷ 3489693700 ∷ 1073758213 ∷ 0 ∷ 2416033792 ∷ 0 ∷ 1073872905 ∷ 0 ∷ 1610776587 ∷ 1073840140 ∷ 1610612749 ∷ []) (4980736 ∷ 2153185282 ∷ 2153185538 ∷ 2153512960 ∷ 2153644181 ∷ 2153644437 ∷ 2153644693 ∷ 2153644949 ∷ 2153645205 ∷ 2153645461 ∷ 2153645717 ∷ 2153645973 ∷ 2153646229 ∷ 2153646485 ∷ 2153646741 ∷ 2153646997 ∷ 2153647253 ∷ 2153647509 ∷ 2153647765 ∷ 2153648021 ∷ 2153648277 ∷ 2153648533 ∷ 2153648789 ∷ 2153649045 ∷ 2153649301 ∷ 2153649557 ∷ 2153649813 ∷ 2153650069 ∷ 2153650325 ∷ 2153650581 ∷ 2153650837 ∷ 2153651093 ∷ 2153651349 ∷ 2153651605 ∷ 2153651861 ∷ 2153652117 ∷ 2153652373 ∷ 2153652629 ∷ 2153652885 ∷ 2153653141 ∷ 2153653397 ∷ 2153653653 ∷ 2153653909 ∷ 2153654165 ∷ 2153654421 ∷ 2153654677 ∷ 2153654933 ∷ 2153655189 ∷ 2153655445 ∷ 2153655701 ∷ 2153655957 ∷ 2153656213 ∷ 2153656469 ∷ 2153656725 ∷ 2153656981 ∷ 2153657237 ∷ 2153657493 ∷ 2153657749 ∷ 2153658005 ∷ 2153658261 ∷ 2153658517 ∷ 2153658773 ∷ 2153659029 ∷ 2153659285 ∷ 2153659541 ∷ 2153659797 ∷ 2153660053 ∷ 2153660309 ∷ 2153660565 ∷ 2153660821 ∷ 2153661077 ∷ 2153661333 ∷ 2153661589 ∷ 2153661845 ∷ 2153662101 ∷ 2153662357 ∷ 2153662613 ∷ 2153662869 ∷ 2153663125 ∷ 2153663381 ∷ 2153663637 ∷ 2153663893 ∷ 2153664149 ∷ 2153664405 ∷ 2153664661 ∷ 2153664917 ∷ 2153665173 ∷ 2153665429 ∷ 2153665685 ∷ 2153665941 ∷ 2153666197 ∷ 2153666453 ∷ 2153666709 ∷ 2153666965 ∷ 2153667221 ∷ 2153667477 ∷ 2153667733 ∷ 2153667989 ∷ 2153668245 ∷ 2153668501 ∷ 2153668757 ∷ 2153669013 ∷ 2153669269 ∷ 2153669525 ∷ 2153669781 ∷ 2153670037 ∷ 2153670293 ∷ 2153670549 ∷ 2153670805 ∷ 2153671061 ∷ 2153671317 ∷ 2153671573 ∷ 2153671829 ∷ 2153672085 ∷ 2153672341 ∷ 2153672597 ∷ 2153672853 ∷ 2153673109 ∷ 2153673365 ∷ 2153673621 ∷ 2153673877 ∷ 2153674133 ∷ 2153674389 ∷ 2153674645 ∷ 2153674901 ∷ 2153675157 ∷ 2153675413 ∷ 2153675669 ∷ 2153675925 ∷ 2153676181 ∷ 2153676437 ∷ 2153676693 ∷ 2153676949 ∷ 2153677205 ∷ 2153677461 ∷ 2153677717 ∷ 2153677973 ∷ 2153678229 ∷ 2153678485 ∷ 2153678741 ∷ 2153678997 ∷ 2153679253 ∷ 2153679509 ∷ 2153679765 ∷ 2153680021 ∷ 2153680277 ∷ 2153680533 ∷ 2153680789 ∷ 2153681045 ∷ 2153681301 ∷ 2153681557 ∷ 2153681813 ∷ 2153682069 ∷ []) } ∷
    record { bytes = (ascii "INFO{TITLE:\"\"DESCRIPTION:\"\"SEMANTICS:Moore,Strict TARGET:Mealy}MAIN{OUTPUTS{u;}INVARIANTS{}INPUTS{k;a1[3]}}"); expected = Accepted (0 ∷ 0 ∷ 0 ∷ 0 ∷ 805355520 ∷ 3489693700 ∷ 1073758213 ∷ 0 ∷ 2416033792 ∷ 0 ∷ 1073872905 ∷ 0 ∷ 1610776587 ∷ 1073840140 ∷ 1610612749 ∷ []) (6422528 ∷ 6553603 ∷ 6553859 ∷ 6554115 ∷ 2152464384 ∷ []) } ∷
    record { bytes = (73 ∷ 78 ∷ 70 ∷ 79 ∷ 123 ∷ 84 ∷ 73 ∷ 84 ∷ 76 ∷ 69 ∷ 58 ∷ 34 ∷ 47 ∷ 42 ∷ 32 ∷ 101 ∷ 110 ∷ 117 ∷ 109 ∷ 32 ∷ 10 ∷ 34 ∷ 68 ∷ 69 ∷ 83 ∷ 67 ∷ 82 ∷ 73 ∷ 80 ∷ 84 ∷ 73 ∷ 79 ∷ 78 ∷ 58 ∷ 34 ∷ 34 ∷ 83 ∷ 69 ∷ 77 ∷ 65 ∷ 78 ∷ 84 ∷ 73 ∷ 67 ∷ 83 ∷ 58 ∷ 77 ∷ 101 ∷ 97 ∷ 108 ∷ 121 ∷ 32 ∷ 84 ∷ 65 ∷ 82 ∷ 71 ∷ 69 ∷ 84 ∷ 58 ∷ 77 ∷ 101 ∷ 97 ∷ 108 ∷ 121 ∷ 125 ∷ 77 ∷ 65 ∷ 73 ∷ 78 ∷ 123 ∷ 79 ∷ 85 ∷ 84 ∷ 80 ∷ 85 ∷ 84 ∷ 83 ∷ 123 ∷ 125 ∷ 65 ∷ 83 ∷ 83 ∷ 85 ∷ 77 ∷ 69 ∷ 123 ∷ 71 ∷ 91 ∷ 48 ∷ 49 ∷ 58 ∷ 52 ∷ 93 ∷ 38 ∷ 38 ∷ 91 ∷ 48 ∷ 60 ∷ 61 ∷ 97 ∷ 60 ∷ 61 ∷ 122 ∷ 37 ∷ 50 ∷ 93 ∷ 110 ∷ 59 ∷ 102 ∷ 97 ∷ 108 ∷ 115 ∷ 101 ∷ 45 ∷ 62 ∷ 110 ∷ 125 ∷ 73 ∷ 78 ∷ 80 ∷ 85 ∷ 84 ∷ 83 ∷ 123 ∷ 110 ∷ 59 ∷ 125 ∷ 80 ∷ 82 ∷ 69 ∷ 83 ∷ 69 ∷ 84 ∷ 123 ∷ 125 ∷ 125 ∷ []); expected = Rejected 6 102 } ∷
    []

held_7 : texts_held cases_7 ≡ true
unfolding cases_7 text_expansion parsed spec_expansion ◌>>=◌ guard refuse_at nodes_of nodes_from count size
held_7 = refl

cases_8 : List Text
cases_8 =
    record { bytes = (ascii "INFO{TITLE:\"\"DESCRIPTION:\"\"SEMANTICS:Mealy TARGET:Mealy}MAIN{INPUTS{b[255]}OUTPUTS{}}"); expected = Accepted (0 ∷ 0 ∷ 0 ∷ 2415951872 ∷ 0 ∷ 1073790980 ∷ 0 ∷ 2416017408 ∷ 0 ∷ 1073856520 ∷ 1610694665 ∷ 1073758218 ∷ 1610612747 ∷ []) (4456703 ∷ 4456959 ∷ 4457215 ∷ 4457471 ∷ 4457727 ∷ 4457983 ∷ 4458239 ∷ 4458495 ∷ 4458751 ∷ 4459007 ∷ 4459263 ∷ 4459519 ∷ 4459775 ∷ 4460031 ∷ 4460287 ∷ 4460543 ∷ 4460799 ∷ 4461055 ∷ 4461311 ∷ 4461567 ∷ 4461823 ∷ 4462079 ∷ 4462335 ∷ 4462591 ∷ 4462847 ∷ 4463103 ∷ 4463359 ∷ 4463615 ∷ 4463871 ∷ 4464127 ∷ 4464383 ∷ 4464639 ∷ 4464895 ∷ 4465151 ∷ 4465407 ∷ 4465663 ∷ 4465919 ∷ 4466175 ∷ 4466431 ∷ 4466687 ∷ 4466943 ∷ 4467199 ∷ 4467455 ∷ 4467711 ∷ 4467967 ∷ 4468223 ∷ 4468479 ∷ 4468735 ∷ 4468991 ∷ 4469247 ∷ 4469503 ∷ 4469759 ∷ 4470015 ∷ 4470271 ∷ 4470527 ∷ 4470783 ∷ 4471039 ∷ 4471295 ∷ 4471551 ∷ 4471807 ∷ 4472063 ∷ 4472319 ∷ 4472575 ∷ 4472831 ∷ 4473087 ∷ 4473343 ∷ 4473599 ∷ 4473855 ∷ 4474111 ∷ 4474367 ∷ 4474623 ∷ 4474879 ∷ 4475135 ∷ 4475391 ∷ 4475647 ∷ 4475903 ∷ 4476159 ∷ 4476415 ∷ 4476671 ∷ 4476927 ∷ 4477183 ∷ 4477439 ∷ 4477695 ∷ 4477951 ∷ 4478207 ∷ 4478463 ∷ 4478719 ∷ 4478975 ∷ 4479231 ∷ 4479487 ∷ 4479743 ∷ 4479999 ∷ 4480255 ∷ 4480511 ∷ 4480767 ∷ 4481023 ∷ 4481279 ∷ 4481535 ∷ 4481791 ∷ 4482047 ∷ 4482303 ∷ 4482559 ∷ 4482815 ∷ 4483071 ∷ 4483327 ∷ 4483583 ∷ 4483839 ∷ 4484095 ∷ 4484351 ∷ 4484607 ∷ 4484863 ∷ 4485119 ∷ 4485375 ∷ 4485631 ∷ 4485887 ∷ 4486143 ∷ 4486399 ∷ 4486655 ∷ 4486911 ∷ 4487167 ∷ 4487423 ∷ 4487679 ∷ 4487935 ∷ 4488191 ∷ 4488447 ∷ 4488703 ∷ 4488959 ∷ 4489215 ∷ 4489471 ∷ 4489727 ∷ 4489983 ∷ 4490239 ∷ 4490495 ∷ 4490751 ∷ 4491007 ∷ 4491263 ∷ 4491519 ∷ 4491775 ∷ 4492031 ∷ 4492287 ∷ 4492543 ∷ 4492799 ∷ 4493055 ∷ 4493311 ∷ 4493567 ∷ 4493823 ∷ 4494079 ∷ 4494335 ∷ 4494591 ∷ 4494847 ∷ 4495103 ∷ 4495359 ∷ 4495615 ∷ 4495871 ∷ 4496127 ∷ 4496383 ∷ 4496639 ∷ 4496895 ∷ 4497151 ∷ 4497407 ∷ 4497663 ∷ 4497919 ∷ 4498175 ∷ 4498431 ∷ 4498687 ∷ 4498943 ∷ 4499199 ∷ 4499455 ∷ 4499711 ∷ 4499967 ∷ 4500223 ∷ 4500479 ∷ 4500735 ∷ 4500991 ∷ 4501247 ∷ 4501503 ∷ 4501759 ∷ 4502015 ∷ 4502271 ∷ 4502527 ∷ 4502783 ∷ 4503039 ∷ 4503295 ∷ 4503551 ∷ 4503807 ∷ 4504063 ∷ 4504319 ∷ 4504575 ∷ 4504831 ∷ 4505087 ∷ 4505343 ∷ 4505599 ∷ 4505855 ∷ 4506111 ∷ 4506367 ∷ 4506623 ∷ 4506879 ∷ 4507135 ∷ 4507391 ∷ 4507647 ∷ 4507903 ∷ 4508159 ∷ 4508415 ∷ 4508671 ∷ 4508927 ∷ 4509183 ∷ 4509439 ∷ 4509695 ∷ 4509951 ∷ 4510207 ∷ 4510463 ∷ 4510719 ∷ 4510975 ∷ 4511231 ∷ 4511487 ∷ 4511743 ∷ 4511999 ∷ 4512255 ∷ 4512511 ∷ 4512767 ∷ 4513023 ∷ 4513279 ∷ 4513535 ∷ 4513791 ∷ 4514047 ∷ 4514303 ∷ 4514559 ∷ 4514815 ∷ 4515071 ∷ 4515327 ∷ 4515583 ∷ 4515839 ∷ 4516095 ∷ 4516351 ∷ 4516607 ∷ 4516863 ∷ 4517119 ∷ 4517375 ∷ 4517631 ∷ 4517887 ∷ 4518143 ∷ 4518399 ∷ 4518655 ∷ 4518911 ∷ 4519167 ∷ 4519423 ∷ 4519679 ∷ 4519935 ∷ 4520191 ∷ 4520447 ∷ 4520703 ∷ 4520959 ∷ 4521215 ∷ 4521471 ∷ 4521727 ∷ []) } ∷
    record { bytes = (ascii "INFO{TITLE:\"\"DESCRIPTION:\"\"SEMANTICS:Mealy TARGET:Mealy}GLOBAL{DEFINITIONS{enum T=A:*********}}MAIN{INPUTS{}OUTPUTS{}}"); expected = Rejected 10 84 } ∷
    record { bytes = (ascii "INFO{TITLE:\"\"DESCRIPTION:\"\"SEMANTICS:Mealy,Strict TARGET:Mealy}GLOBAL{DEFINITIONS{enum x=w:00,10;y=(w[0])W s[1]}}MAIN{INPUTS{x s;f[3];w[1];}OUTPUTS{}GUARANTEE{}}"); expected = Rejected 7 134 } ∷
    record { bytes = (ascii "INFO{TITLE:\"\"DESCRIPTION:\"\"SEMANTICS:Mealy,Strict TARGET:Mealy}GLOBAL{DEFINITIONS{}}MAIN{INPUTS{B_0[1];}GUARANTEE{}OUTPUTS{}}"); expected = Accepted (0 ∷ 0 ∷ 0 ∷ 0 ∷ 805355520 ∷ 3489693700 ∷ 1073758213 ∷ 0 ∷ 2416033792 ∷ 0 ∷ 1073872905 ∷ 0 ∷ 1610776587 ∷ 1073840140 ∷ 1610612749 ∷ []) (6291457 ∷ []) } ∷
    []

held_8 : texts_held cases_8 ≡ true
unfolding cases_8 text_expansion parsed spec_expansion ◌>>=◌ guard refuse_at nodes_of nodes_from count size
held_8 = refl

cases_9 : List Text
cases_9 =
    record { bytes = (ascii "INFO{TITLE:\"\"DESCRIPTION:\"t\"SEMANTICS:Moore,Strict TARGET:Moore}MAIN{ASSUMPTIONS{X[2]n;(G 2==2);}OUTPUTS{}INPUTS{n;}PRESET{(1MUL 3>=2);n W(n);}}"); expected = Accepted (0 ∷ 0 ∷ 536870912 ∷ 536870912 ∷ 3489693699 ∷ 1073758212 ∷ 0 ∷ 0 ∷ 805421056 ∷ 3489759240 ∷ 1073823753 ∷ 0 ∷ 2416099328 ∷ 536870912 ∷ 2147696640 ∷ 2147713024 ∷ 0 ∷ 2416181248 ∷ 1073987601 ∷ 1073938450 ∷ 0 ∷ 1610924052 ∷ 1073905685 ∷ 1610612758 ∷ []) (7405568 ∷ []) } ∷
    record { bytes = (ascii "INFO{TITLE:\"\"DESCRIPTION:\"\"SEMANTICS:Mealy,Strict TARGET:Mealy}MAIN{INPUTS{}ASSERT{}OUTPUTS{y[3];s[131]}}"); expected = Accepted (0 ∷ 0 ∷ 0 ∷ 0 ∷ 805355520 ∷ 3489693700 ∷ 1073758213 ∷ 0 ∷ 2416033792 ∷ 0 ∷ 1073872905 ∷ 0 ∷ 1610776587 ∷ 1073840140 ∷ 1610612749 ∷ []) (2153512963 ∷ 2153513219 ∷ 2153513475 ∷ 2153840771 ∷ 2153841027 ∷ 2153841283 ∷ 2153841539 ∷ 2153841795 ∷ 2153842051 ∷ 2153842307 ∷ 2153842563 ∷ 2153842819 ∷ 2153843075 ∷ 2153843331 ∷ 2153843587 ∷ 2153843843 ∷ 2153844099 ∷ 2153844355 ∷ 2153844611 ∷ 2153844867 ∷ 2153845123 ∷ 2153845379 ∷ 2153845635 ∷ 2153845891 ∷ 2153846147 ∷ 2153846403 ∷ 2153846659 ∷ 2153846915 ∷ 2153847171 ∷ 2153847427 ∷ 2153847683 ∷ 2153847939 ∷ 2153848195 ∷ 2153848451 ∷ 2153848707 ∷ 2153848963 ∷ 2153849219 ∷ 2153849475 ∷ 2153849731 ∷ 2153849987 ∷ 2153850243 ∷ 2153850499 ∷ 2153850755 ∷ 2153851011 ∷ 2153851267 ∷ 2153851523 ∷ 2153851779 ∷ 2153852035 ∷ 2153852291 ∷ 2153852547 ∷ 2153852803 ∷ 2153853059 ∷ 2153853315 ∷ 2153853571 ∷ 2153853827 ∷ 2153854083 ∷ 2153854339 ∷ 2153854595 ∷ 2153854851 ∷ 2153855107 ∷ 2153855363 ∷ 2153855619 ∷ 2153855875 ∷ 2153856131 ∷ 2153856387 ∷ 2153856643 ∷ 2153856899 ∷ 2153857155 ∷ 2153857411 ∷ 2153857667 ∷ 2153857923 ∷ 2153858179 ∷ 2153858435 ∷ 2153858691 ∷ 2153858947 ∷ 2153859203 ∷ 2153859459 ∷ 2153859715 ∷ 2153859971 ∷ 2153860227 ∷ 2153860483 ∷ 2153860739 ∷ 2153860995 ∷ 2153861251 ∷ 2153861507 ∷ 2153861763 ∷ 2153862019 ∷ 2153862275 ∷ 2153862531 ∷ 2153862787 ∷ 2153863043 ∷ 2153863299 ∷ 2153863555 ∷ 2153863811 ∷ 2153864067 ∷ 2153864323 ∷ 2153864579 ∷ 2153864835 ∷ 2153865091 ∷ 2153865347 ∷ 2153865603 ∷ 2153865859 ∷ 2153866115 ∷ 2153866371 ∷ 2153866627 ∷ 2153866883 ∷ 2153867139 ∷ 2153867395 ∷ 2153867651 ∷ 2153867907 ∷ 2153868163 ∷ 2153868419 ∷ 2153868675 ∷ 2153868931 ∷ 2153869187 ∷ 2153869443 ∷ 2153869699 ∷ 2153869955 ∷ 2153870211 ∷ 2153870467 ∷ 2153870723 ∷ 2153870979 ∷ 2153871235 ∷ 2153871491 ∷ 2153871747 ∷ 2153872003 ∷ 2153872259 ∷ 2153872515 ∷ 2153872771 ∷ 2153873027 ∷ 2153873283 ∷ 2153873539 ∷ 2153873795 ∷ 2153874051 ∷ []) } ∷
    record { bytes = (73 ∷ 78 ∷ 70 ∷ 79 ∷ 32 ∷ 32 ∷ 123 ∷ 84 ∷ 73 ∷ 84 ∷ 76 ∷ 69 ∷ 58 ∷ 34 ∷ 34 ∷ 68 ∷ 69 ∷ 83 ∷ 67 ∷ 82 ∷ 73 ∷ 80 ∷ 84 ∷ 73 ∷ 79 ∷ 78 ∷ 58 ∷ 34 ∷ 34 ∷ 83 ∷ 69 ∷ 77 ∷ 65 ∷ 78 ∷ 84 ∷ 73 ∷ 67 ∷ 83 ∷ 58 ∷ 9 ∷ 77 ∷ 101 ∷ 97 ∷ 108 ∷ 121 ∷ 32 ∷ 47 ∷ 47 ∷ 32 ∷ 99 ∷ 10 ∷ 84 ∷ 65 ∷ 82 ∷ 71 ∷ 69 ∷ 84 ∷ 10 ∷ 58 ∷ 77 ∷ 101 ∷ 97 ∷ 108 ∷ 121 ∷ 9 ∷ 10 ∷ 32 ∷ 32 ∷ 13 ∷ 13 ∷ 125 ∷ 32 ∷ 77 ∷ 65 ∷ 73 ∷ 78 ∷ 123 ∷ 73 ∷ 78 ∷ 80 ∷ 85 ∷ 84 ∷ 83 ∷ 123 ∷ 110 ∷ 59 ∷ 125 ∷ 10 ∷ 47 ∷ 42 ∷ 32 ∷ 34 ∷ 32 ∷ 42 ∷ 47 ∷ 79 ∷ 85 ∷ 84 ∷ 80 ∷ 85 ∷ 84 ∷ 83 ∷ 32 ∷ 32 ∷ 123 ∷ 125 ∷ 80 ∷ 82 ∷ 69 ∷ 83 ∷ 69 ∷ 84 ∷ 123 ∷ 33 ∷ 13 ∷ 50 ∷ 73 ∷ 78 ∷ 9 ∷ 9 ∷ 32 ∷ 32 ∷ 123 ∷ 32 ∷ 47 ∷ 42 ∷ 32 ∷ 59 ∷ 32 ∷ 125 ∷ 32 ∷ 42 ∷ 47 ∷ 48 ∷ 44 ∷ 32 ∷ 47 ∷ 42 ∷ 47 ∷ 42 ∷ 42 ∷ 47 ∷ 42 ∷ 47 ∷ 49 ∷ 32 ∷ 10 ∷ 9 ∷ 32 ∷ 46 ∷ 46 ∷ 32 ∷ 47 ∷ 42 ∷ 42 ∷ 47 ∷ 50 ∷ 9 ∷ 125 ∷ 10 ∷ 13 ∷ 32 ∷ 32 ∷ 125 ∷ 125 ∷ []); expected = Accepted (0 ∷ 0 ∷ 805322752 ∷ 0 ∷ 2415968256 ∷ 0 ∷ 1073807365 ∷ 0 ∷ 2416033792 ∷ 0 ∷ 1073872905 ∷ 1610711050 ∷ 1073774603 ∷ 1610612748 ∷ []) (5505024 ∷ []) } ∷
    record { bytes = (ascii "INFO{TITLE:\"\"DESCRIPTION:\"\"SEMANTICS:Mealy TARGET:Mealy}GLOBAL{DEFINITIONS{n0=0;n1=0;n2=0;n3=0;n4=0;n5=0;n6=0;n7=0;n8=0;n9=0;n10=0;n11=0;n12=0;n13=0;n14=0;n15=0;n16=0;n17=0;n18=0;n19=0;n20=0;n21=0;n22=0;n23=0;n24=0;n25=0;n26=0;n27=0;n28=0;n29=0;n30=0;n31=0;n32=0;n33=0;n34=0;n35=0;n36=0;n37=0;n38=0;n39=0;n40=0;n41=0;n42=0;n43=0;n44=0;n45=0;n46=0;n47=0;n48=0;n49=0;n50=0;n51=0;n52=0;n53=0;n54=0;n55=0;n56=0;n57=0;n58=0;n59=0;n60=0;n61=0;n62=0;n63=0;n64=0;n65=0;n66=0;n67=0;n68=0;n69=0;n70=0;n71=0;n72=0;n73=0;n74=0;n75=0;n76=0;n77=0;n78=0;n79=0;n80=0;n81=0;n82=0;n83=0;n84=0;n85=0;n86=0;n87=0;n88=0;n89=0;n90=0;n91=0;n92=0;n93=0;n94=0;n95=0;n96=0;n97=0;n98=0;n99=0;n100=0;n101=0;n102=0;n103=0;n104=0;n105=0;n106=0;n107=0;n108=0;n109=0;n110=0;n111=0;n112=0;n113=0;n114=0;n115=0;n116=0;n117=0;n118=0;n119=0;n120=0;n121=0;n122=0;n123=0;n124=0;n125=0;n126=0;n127=0;n128=0;n129=0;n130=0;n131=0;n132=0;n133=0;n134=0;n135=0;n136=0;n137=0;n138=0;n139=0;n140=0;n141=0;n142=0;n143=0;n144=0;n145=0;n146=0;n147=0;n148=0;n149=0;n150=0;n151=0;n152=0;n153=0;n154=0;n155=0;n156=0;n157=0;n158=0;n159=0;n160=0;n161=0;n162=0;n163=0;n164=0;n165=0;n166=0;n167=0;n168=0;n169=0;n170=0;n171=0;n172=0;n173=0;n174=0;n175=0;n176=0;n177=0;n178=0;n179=0;n180=0;n181=0;n182=0;n183=0;n184=0;n185=0;n186=0;n187=0;n188=0;n189=0;n190=0;n191=0;n192=0;n193=0;n194=0;n195=0;n196=0;n197=0;n198=0;n199=0;n200=0;n201=0;n202=0;n203=0;n204=0;n205=0;n206=0;n207=0;n208=0;n209=0;n210=0;n211=0;n212=0;n213=0;n214=0;n215=0;n216=0;n217=0;n218=0;n219=0;n220=0;n221=0;n222=0;n223=0;n224=0;n225=0;n226=0;n227=0;n228=0;n229=0;n230=0;n231=0;n232=0;n233=0;n234=0;n235=0;n236=0;n237=0;n238=0;n239=0;n240=0;n241=0;n242=0;n243=0;n244=0;n245=0;n246=0;n247=0;n248=0;n249=0;n250=0;n251=0;n252=0;n253=0;n254=0;n255=0;n256=0;}}MAIN{INPUTS{}OUTPUTS{}}"); expected = Rejected 8 1757 } ∷
    []

held_9 : texts_held cases_9 ≡ true
unfolding cases_9 text_expansion parsed spec_expansion ◌>>=◌ guard refuse_at nodes_of nodes_from count size
held_9 = refl

cases_10 : List Text
cases_10 =
    record { bytes = (9 ∷ 73 ∷ 78 ∷ 70 ∷ 79 ∷ 123 ∷ 84 ∷ 73 ∷ 84 ∷ 76 ∷ 69 ∷ 9 ∷ 58 ∷ 34 ∷ 34 ∷ 32 ∷ 32 ∷ 68 ∷ 69 ∷ 83 ∷ 67 ∷ 82 ∷ 73 ∷ 80 ∷ 84 ∷ 73 ∷ 79 ∷ 78 ∷ 58 ∷ 34 ∷ 34 ∷ 83 ∷ 69 ∷ 77 ∷ 65 ∷ 78 ∷ 84 ∷ 73 ∷ 67 ∷ 83 ∷ 58 ∷ 77 ∷ 101 ∷ 97 ∷ 108 ∷ 121 ∷ 32 ∷ 84 ∷ 65 ∷ 82 ∷ 71 ∷ 69 ∷ 84 ∷ 58 ∷ 32 ∷ 9 ∷ 77 ∷ 111 ∷ 111 ∷ 114 ∷ 101 ∷ 125 ∷ 77 ∷ 65 ∷ 73 ∷ 78 ∷ 123 ∷ 82 ∷ 69 ∷ 81 ∷ 85 ∷ 73 ∷ 82 ∷ 69 ∷ 10 ∷ 13 ∷ 13 ∷ 123 ∷ 125 ∷ 73 ∷ 78 ∷ 80 ∷ 85 ∷ 84 ∷ 83 ∷ 123 ∷ 115 ∷ 125 ∷ 79 ∷ 85 ∷ 84 ∷ 80 ∷ 85 ∷ 84 ∷ 83 ∷ 32 ∷ 32 ∷ 9 ∷ 9 ∷ 123 ∷ 125 ∷ 125 ∷ []); expected = Accepted (0 ∷ 0 ∷ 0 ∷ 2415951872 ∷ 0 ∷ 1073790980 ∷ 0 ∷ 2416017408 ∷ 0 ∷ 1073856520 ∷ 1610694665 ∷ 1073758218 ∷ 1610612747 ∷ []) (5636096 ∷ []) } ∷
    record { bytes = (ascii "INFO{TITLE:\"\"DESCRIPTION:\"\"SEMANTICS:Moore TARGET:Mealy TAGS:\"t\",a,safety,a,safety,\"t\"}GLOBAL{}MAIN{INPUTS{}OUTPUTS{_;p;}REQUIRE{2%0IN{0,1};}}"); expected = Rejected 11 130 } ∷
    record { bytes = (ascii "INFO{TITLE:\"\"DESCRIPTION:\"\"SEMANTICS:Moore TARGET:Mealy}MAIN{INPUTS{b;}OUTPUTS{}INITIALLY{(0)%0<3;}INVARIANTS{SIZE{+[z IN{}]0}!=00;X(false)}GUARANTEE{G b;}}"); expected = Rejected 11 93 } ∷
    record { bytes = (ascii "INFO{TITLE:\"\"DESCRIPTION:\"\"SEMANTICS:Mealy TARGET:Mealy}MAIN{INPUTS{e;p;d;}OUTPUTS{}PRESET{|({0,1})|==1;(X e)}}"); expected = Accepted (0 ∷ 268435456 ∷ 536870912 ∷ 2147516416 ∷ 1073758211 ∷ 0 ∷ 2416001024 ∷ 0 ∷ 1073840135 ∷ 0 ∷ 2416066560 ∷ 0 ∷ 1073905675 ∷ 1610743820 ∷ 1073807373 ∷ 1610612750 ∷ []) (4456448 ∷ 4587520 ∷ 4718592 ∷ []) } ∷
    []

held_10 : texts_held cases_10 ≡ true
unfolding cases_10 text_expansion parsed spec_expansion ◌>>=◌ guard refuse_at nodes_of nodes_from count size
held_10 = refl

cases_11 : List Text
cases_11 =
    record { bytes = (ascii "INFO{TITLE:\"\"DESCRIPTION:\"\"SEMANTICS:Mealy TARGET:Mealy}MAIN{INPUTS{nnnnnnnnnnnnnnnnnnnnnnnnnnnnnnnnnnnnnnnnnnnnnnnnnnnnnnnnnnnnnnnn}OUTPUTS{}}"); expected = Accepted (0 ∷ 0 ∷ 0 ∷ 2415951872 ∷ 0 ∷ 1073790980 ∷ 0 ∷ 2416017408 ∷ 0 ∷ 1073856520 ∷ 1610694665 ∷ 1073758218 ∷ 1610612747 ∷ []) (4456448 ∷ []) } ∷
    record { bytes = (ascii "INFO{TITLE:\"\"DESCRIPTION:\"t\"SEMANTICS:Moore,Strict TARGET:Mealy}GLOBAL{DEFINITIONS{m=9MINUS 00;}}MAIN{INPUTS{s}PRESET{}OUTPUTS{}GUARANTEES{}}"); expected = Accepted (0 ∷ 0 ∷ 0 ∷ 0 ∷ 805355520 ∷ 3489693700 ∷ 1073758213 ∷ 0 ∷ 2416033792 ∷ 0 ∷ 1073872905 ∷ 0 ∷ 1610776587 ∷ 1073840140 ∷ 1610612749 ∷ []) (7143424 ∷ []) } ∷
    record { bytes = (ascii "INFO{TITLE:\"\"DESCRIPTION:\"\"SEMANTICS:Mealy,Strict TARGET:Mealy}GLOBAL{DEFINITIONS{c=i[1];enum _=f:100Xa:110;enum B_0=A:111,101}}MAIN{INPUTS{B_0 i}OUTPUTS{}ASSERT{}}"); expected = Accepted (0 ∷ 0 ∷ 0 ∷ 536870912 ∷ 536887296 ∷ 1073790980 ∷ 536903680 ∷ 1073823750 ∷ 536870912 ∷ 536887296 ∷ 805453824 ∷ 1073872906 ∷ 536903680 ∷ 1073922060 ∷ 1342291981 ∷ 805535744 ∷ 3489693711 ∷ 1073758224 ∷ 536870912 ∷ 536887296 ∷ 1074036755 ∷ 536903680 ∷ 1074069525 ∷ 536870912 ∷ 536887296 ∷ 805699584 ∷ 1074118681 ∷ 536903680 ∷ 1074167835 ∷ 1342537756 ∷ 2416394240 ∷ 0 ∷ 1074233375 ∷ 0 ∷ 1611137057 ∷ 1074020386 ∷ 1610612771 ∷ []) (9437187 ∷ 9437443 ∷ 9437699 ∷ []) } ∷
    record { bytes = (ascii "INFO{TITLE:\"\"DESCRIPTION:\"\"SEMANTICS:Moore TARGET:Moore}MAIN{INPUTS{n}OUTPUTS{}REQUIRE{}}"); expected = Accepted (0 ∷ 0 ∷ 0 ∷ 2415951872 ∷ 0 ∷ 1073790980 ∷ 0 ∷ 2416017408 ∷ 0 ∷ 1073856520 ∷ 1610694665 ∷ 1073758218 ∷ 1610612747 ∷ []) (4456448 ∷ []) } ∷
    []

held_11 : texts_held cases_11 ≡ true
unfolding cases_11 text_expansion parsed spec_expansion ◌>>=◌ guard refuse_at nodes_of nodes_from count size
held_11 = refl

-- Written by the second converter: cases with its answers, each computed from the definitions.
use Rattle.std.specs.Prelude.{true, List, [], ◌∷◌, ◌≡◌, refl}
use Rattle.node.specs.Postorder.{size, nodes_from}
use Rattle.node.specs.Written.{nodes_of, count}
use Rattle.node.specs.Result.{◌>>=◌, guard}
use Rattle.language.specs.Bytes.{ascii}
use Rattle.language.specs.Places.{refuse_at}
use Rattle.language.specs.Parsing.{parsed}
use Rattle.language.specs.Reading.{text_expansion, spec_expansion}
use Rattle.second_cases.specs.Held.{Accepted, Rejected, Text, texts_held}

cases_0 : List Text
cases_0 =
    record { bytes = (ascii "INFO{TITLE:\"\"DESCRIPTION:\"\"SEMANTICS:Mealy TARGET:Mealy}MAIN{INPUTS{a}OUTPUTS{}ASSERT{1 IN{0,1..256}}}"); expected = Rejected 12 90 } ∷
    record { bytes = (ascii "INFO{TITLE:\"\"DESCRIPTION:\"\"SEMANTICS:Mealy TARGET:Mealy}MAIN{INPUTS{a}OUTPUTS{}ASSERT{!!!!!!!!!!!!!!!!!!!!!!!!!!!!!!!!!!!!!!!!!!!!!!!!!!!!!!!!!!!!!!!!!!!!!!!!!!!!!!!!!!!!!!!!!!!!!!!!!!!!!!!!!!!!!!!!!!!!!!!!!!!!!!!!!!!!!!!!!!!!!!!!!!!!!!!!!!!!!!!!!!!!!!!!!!!!!!!!!!!!!!!!!!!!!!!!!!!!!!!!!!!!!!!!!!!!!!!!!!!!!!!!!!!!!!!!!!!!!!!!!!!!!!!!!!!!!!!!a}}"); expected = Rejected 5 86 } ∷
    record { bytes = (ascii "INFO{TITLE:\"\"DESCRIPTION:\"\"SEMANTICS:Mealy TARGET:Mealy}GLOBAL{DEFINITIONS{n0=0;n1=0;n2=0;n3=0;n4=0;n5=0;n6=0;n7=0;n8=0;n9=0;n10=0;n11=0;n12=0;n13=0;n14=0;n15=0;n16=0;n17=0;n18=0;n19=0;n20=0;n21=0;n22=0;n23=0;n24=0;n25=0;n26=0;n27=0;n28=0;n29=0;n30=0;n31=0;n32=0;n33=0;n34=0;n35=0;n36=0;n37=0;n38=0;n39=0;n40=0;n41=0;n42=0;n43=0;n44=0;n45=0;n46=0;n47=0;n48=0;n49=0;n50=0;n51=0;n52=0;n53=0;n54=0;n55=0;n56=0;n57=0;n58=0;n59=0;n60=0;n61=0;n62=0;n63=0;n64=0;n65=0;n66=0;n67=0;n68=0;n69=0;n70=0;n71=0;n72=0;n73=0;n74=0;n75=0;n76=0;n77=0;n78=0;n79=0;n80=0;n81=0;n82=0;n83=0;n84=0;n85=0;n86=0;n87=0;n88=0;n89=0;n90=0;n91=0;n92=0;n93=0;n94=0;n95=0;n96=0;n97=0;n98=0;n99=0;n100=0;n101=0;n102=0;n103=0;n104=0;n105=0;n106=0;n107=0;n108=0;n109=0;n110=0;n111=0;n112=0;n113=0;n114=0;n115=0;n116=0;n117=0;n118=0;n119=0;n120=0;n121=0;n122=0;n123=0;n124=0;n125=0;n126=0;n127=0;n128=0;n129=0;n130=0;n131=0;n132=0;n133=0;n134=0;n135=0;n136=0;n137=0;n138=0;n139=0;n140=0;n141=0;n142=0;n143=0;n144=0;n145=0;n146=0;n147=0;n148=0;n149=0;n150=0;n151=0;n152=0;n153=0;n154=0;n155=0;n156=0;n157=0;n158=0;n159=0;n160=0;n161=0;n162=0;n163=0;n164=0;n165=0;n166=0;n167=0;n168=0;n169=0;n170=0;n171=0;n172=0;n173=0;n174=0;n175=0;n176=0;n177=0;n178=0;n179=0;n180=0;n181=0;n182=0;n183=0;n184=0;n185=0;n186=0;n187=0;n188=0;n189=0;n190=0;n191=0;n192=0;n193=0;n194=0;n195=0;n196=0;n197=0;n198=0;n199=0;n200=0;n201=0;n202=0;n203=0;n204=0;n205=0;n206=0;n207=0;n208=0;n209=0;n210=0;n211=0;n212=0;n213=0;n214=0;n215=0;n216=0;n217=0;n218=0;n219=0;n220=0;n221=0;n222=0;n223=0;n224=0;n225=0;n226=0;n227=0;n228=0;n229=0;n230=0;n231=0;n232=0;n233=0;n234=0;n235=0;n236=0;n237=0;n238=0;n239=0;n240=0;n241=0;n242=0;n243=0;n244=0;n245=0;n246=0;n247=0;n248=0;n249=0;n250=0;n251=0;n252=0;n253=0;n254=0;n255=0;n256=0;}}MAIN{INPUTS{}OUTPUTS{}}"); expected = Rejected 8 1757 } ∷
    record { bytes = (ascii "INFO{TITLE:\"\"DESCRIPTION:\"t\"SEMANTICS:Moore TARGET:Moore}GLOBAL{DEFINITIONS{enum o=m:*,*;t={4+p};}}MAIN{REQUIRE{}INPUTS{_;}OUTPUTS{f a1}}"); expected = Rejected 6 94 } ∷
    []

held_0 : texts_held cases_0 ≡ true
unfolding cases_0 text_expansion parsed spec_expansion ◌>>=◌ guard refuse_at nodes_of nodes_from count size
held_0 = refl

cases_1 : List Text
cases_1 =
    record { bytes = (ascii "INFO{TITLE:\"\"DESCRIPTION:\"\"SEMANTICS:Mealy TARGET:Mealy}MAIN{INPUTS{a;b[2]}OUTPUTS{}ASSERT{i U a}}"); expected = Rejected 6 91 } ∷
    record { bytes = (ascii "INFO{TITLE:\"\"DESCRIPTION:\"\"SEMANTICS:Mealy TARGET:Mealy}MAIN{INPUTS{a}OUTPUTS{}ASSERT{!!!!!!!!!!!!!!!!!!!!!!!!!!!!!!!!!!!!!!!!!!!!!!!!!!!!!!!!!!!!!!!!!!!!!!!!!!!!!!!!!!!!!!!!!!!!!!!!!!!!!!!!!!!!!!!!!!!!!!!!!!!!!!!!!!!!!!!!!!!!!!!!!!!!!!!!!!!!!!!!!!!!!!!!!!!!!!!!!!!!!!!!!!!!!!!!!!!!!!!!!!!!!!!!!!!!!!!!!!!!!!!!!!!!!!!!!!!!!!!!!!!!!!!!!!!!!!!!a}}"); expected = Rejected 5 86 } ∷
    record { bytes = (ascii "INFO{TITLE:\"\"DESCRIPTION:\"t\"SEMANTICS:Mealy,Strict TARGET:Moore}GLOBAL{PARAMETERS{b=1MUL 3}DEFINITIONS{enum y=d:01g:*10;}}MAIN{REQUIRE{}INPUTS{B_0;}OUTPUTS{}}"); expected = Rejected 10 116 } ∷
    record { bytes = (ascii "INFO{TITLE:\"\"DESCRIPTION:\"\"SEMANTICS:Moore,Strict TARGET:Moore}MAIN{OUTPUTS{}INPUTS{l;z;}PRESET{X[(3)*1MINUS 0]l;G[9MINUS(MAX{1})+1:3]z;}}"); expected = Rejected 11 113 } ∷
    []

held_1 : texts_held cases_1 ≡ true
unfolding cases_1 text_expansion parsed spec_expansion ◌>>=◌ guard refuse_at nodes_of nodes_from count size
held_1 = refl

cases_2 : List Text
cases_2 =
    record { bytes = (ascii "INFO{TITLE:\"\"DESCRIPTION:\"\"SEMANTICS:Mealy,Strict TARGET:Mealy}MAIN{OUTPUTS{}INPUTS{a;t;}REQUIRE{||[l IN{3,3},1<c<=999]true;&&[+[2<=@<00]@<=c<01,d IN{0,1..2}]t;}}"); expected = Rejected 12 111 } ∷
    record { bytes = (ascii "INFO{TITLE:\"\"DESCRIPTION:\"\"SEMANTICS:Moore,Strict TARGET:Mealy}MAIN{OUTPUTS{}INITIALLY{OR[9-0<k<=0]@[k]R false R @;}INPUTS{@[4];@;}}"); expected = Rejected 7 128 } ∷
    record { bytes = (ascii "INFO{TITLE:\"\"DESCRIPTION:\"\"SEMANTICS:Moore TARGET:Moore}MAIN{INPUTS{}OUTPUTS{o;}ASSUME{|{3,3..5}|IN{3,3..5};&&[0LE f LEQ MAX{2,1..0}-2]o}}"); expected = Rejected 12 88 } ∷
    record { bytes = (ascii "INFO{TITLE:\"\"DESCRIPTION:\"\"SEMANTICS:Moore TARGET:Moore}MAIN{INPUTS{g;p[4];}OUTPUTS{w[4];}INITIALLY{X[3*2]01!=0;}REQUIRE{SIZE{1-3,00,00,00}<1;F[01:5]2==2}}"); expected = Rejected 11 127 } ∷
    []

held_2 : texts_held cases_2 ≡ true
unfolding cases_2 text_expansion parsed spec_expansion ◌>>=◌ guard refuse_at nodes_of nodes_from count size
held_2 = refl

cases_3 : List Text
cases_3 =
    record { bytes = (ascii "INFO{TITLE:\"\"DESCRIPTION:\"\"SEMANTICS:Moore TARGET:Mealy}GLOBAL{DEFINITIONS{B_0=4;}}MAIN{INPUTS{g;k;}OUTPUTS{e;}PRESET{1*b!=B_0;}REQUIRE{}INVARIANTS{0LE B_0;(Xa);}}"); expected = Rejected 6 120 } ∷
    record { bytes = (ascii "INFO{TITLE:\"t\"DESCRIPTION:\"t\"SEMANTICS:Moore TARGET:Moore}MAIN{INPUTS{g}OUTPUTS{}INITIALLY{F[4%MAX{0,1}+3:1]g;}ASSERT{01*(0)IN{};9-(2+1+2)IN{0,1..2};}}"); expected = Rejected 11 91 } ∷
    record { bytes = (ascii "INFO{TITLE:\"\"DESCRIPTION:\"\"SEMANTICS:Mealy TARGET:Mealy}MAIN{INPUTS{b[3]}OUTPUTS{}ASSERT{b[3]}}"); expected = Rejected 13 89 } ∷
    record { bytes = (ascii "INFO{TITLE:\"\"DESCRIPTION:\"\"SEMANTICS:Mealy TARGET:Moore}MAIN{INPUTS{}OUTPUTS{y}ASSERT{1;G[9-1:0]y;}}"); expected = Rejected 9 86 } ∷
    []

held_3 : texts_held cases_3 ≡ true
unfolding cases_3 text_expansion parsed spec_expansion ◌>>=◌ guard refuse_at nodes_of nodes_from count size
held_3 = refl

cases_4 : List Text
cases_4 =
    record { bytes = (ascii "INFO{TITLE:\"\"DESCRIPTION:\"\"SEMANTICS:Mealy TARGET:Mealy}MAIN{INPUTS{a[200];b[56]}OUTPUTS{}}"); expected = Rejected 15 75 } ∷
    record { bytes = (ascii "INFO{TITLE:\"\"DESCRIPTION:\"\"SEMANTICS:Moore TARGET:Moore}GLOBAL{DEFINITIONS{j={0,1..2};}}MAIN{INPUTS{}OUTPUTS{h;}INVARIANTS{h->q;F[0:1000000]F[0:1000000]A U G[0:4000]!h;}}"); expected = Rejected 6 126 } ∷
    record { bytes = (ascii "INFO{TITLE:\"\"DESCRIPTION:\"\"SEMANTICS:Mealy TARGET:Mealy}MAIN{INPUTS{}OUTPUTS{s;e[2];}REQUIRE{FORALL[q IN{2,1..0}]s;e[0];}}"); expected = Rejected 12 104 } ∷
    record { bytes = (ascii "INFO{TITLE:\"\"DESCRIPTION:\"\"SEMANTICS:Moore TARGET:Mealy}MAIN{INPUTS{a;b[2]}OUTPUTS{}ASSERT{a U&&[i IN{1}]X 1}}"); expected = Rejected 9 107 } ∷
    []

held_4 : texts_held cases_4 ≡ true
unfolding cases_4 text_expansion parsed spec_expansion ◌>>=◌ guard refuse_at nodes_of nodes_from count size
held_4 = refl

cases_5 : List Text
cases_5 =
    record { bytes = (ascii "INFO{TITLE:\"\"DESCRIPTION:\"\"SEMANTICS:Mealy TARGET:Mealy}GLOBAL{DEFINITIONS{enum T=A:111111111}}MAIN{INPUTS{}OUTPUTS{}}"); expected = Rejected 10 84 } ∷
    record { bytes = (ascii "INFO{TITLE:\"\"DESCRIPTION:\"\"SEMANTICS:Moore TARGET:Moore}GLOBAL{DEFINITIONS{l=j;}}MAIN{REQUIRE{k;}INPUTS{j[1];k;}OUTPUTS{}}"); expected = Rejected 9 77 } ∷
    record { bytes = (ascii "INFO{TITLE:\"\"DESCRIPTION:\"\"SEMANTICS:Mealy TARGET:Mealy}GLOBAL{PARAMETERS{e=0;}}MAIN{GUARANTEE{X(G[e:5]m[0])}OUTPUTS{}INPUTS{m[e];}}"); expected = Rejected 13 125 } ∷
    record { bytes = (ascii "INFO{TITLE:\"\"DESCRIPTION:\"t\"SEMANTICS:Moore TARGET:Moore}MAIN{INPUTS{o[0];}OUTPUTS{_}INVARIANTS{}}"); expected = Rejected 13 69 } ∷
    []

held_5 : texts_held cases_5 ≡ true
unfolding cases_5 text_expansion parsed spec_expansion ◌>>=◌ guard refuse_at nodes_of nodes_from count size
held_5 = refl

cases_6 : List Text
cases_6 =
    record { bytes = (ascii "INFO{TITLE:\"\"DESCRIPTION:\"\"SEMANTICS:Mealy TARGET:Mealy}GLOBAL{DEFINITIONS{enum T=A:0,0,0,0,0,0,0,0,0,0,0,0,0,0,0,0,0}}MAIN{INPUTS{}OUTPUTS{}}"); expected = Rejected 10 116 } ∷
    record { bytes = (ascii "INFO{TITLE:\"\"DESCRIPTION:\"\"SEMANTICS:Moore TARGET:Moore}GLOBAL{DEFINITIONS{enum r=z:1,0;}}MAIN{INITIALLY{_[1];}INPUTS{r _;}OUTPUTS{d;}}"); expected = Rejected 13 105 } ∷
    record { bytes = (ascii "INFO{TITLE:\"t\"DESCRIPTION:\"\"SEMANTICS:Mealy,Strict TARGET:Mealy}GLOBAL{}MAIN{INPUTS{}INITIALLY{t;(1/0)+00>1}OUTPUTS{B_0;In;t;}REQUIRE{F[01:1]t;G[4:0]B_0;}}"); expected = Rejected 11 99 } ∷
    record { bytes = (ascii "INFO{TITLE:\"\"DESCRIPTION:\"\"SEMANTICS:Mealy TARGET:Mealy}GLOBAL{DEFINITIONS{enum T=A:0,0,0,0,0,0,0,0,0,0,0,0,0,0,0,0,0}}MAIN{INPUTS{}OUTPUTS{}}"); expected = Rejected 10 116 } ∷
    []

held_6 : texts_held cases_6 ≡ true
unfolding cases_6 text_expansion parsed spec_expansion ◌>>=◌ guard refuse_at nodes_of nodes_from count size
held_6 = refl

cases_7 : List Text
cases_7 =
    record { bytes = (ascii "INFO{TITLE:\"t\"DESCRIPTION:\"\"SEMANTICS:Mealy TARGET:Moore}MAIN{ASSERT{}INPUTS{}OUTPUTS{g;t;_[181];u[185]}}"); expected = Rejected 15 97 } ∷
    record { bytes = (ascii "INFO{TITLE:\"\"DESCRIPTION:\"\"SEMANTICS:Moore,Strict TARGET:Moore}GLOBAL{DEFINITIONS{c=r[1]->_}}MAIN{INPUTS{A;r[3]}OUTPUTS{_;}INVARIANTS{true||_;0%0IN{0,1}}}"); expected = Rejected 11 143 } ∷
    record { bytes = (ascii "INFO{TITLE:\"\"DESCRIPTION:\"\"SEMANTICS:Moore TARGET:Mealy}MAIN{INPUTS{r}OUTPUTS{a1;c[248];y[r];}INVARIANTS{1;}}"); expected = Rejected 9 90 } ∷
    record { bytes = (ascii "INFO{TITLE:\"t\"DESCRIPTION:\"\"SEMANTICS:Moore,Strict TARGET:Mealy}MAIN{ASSUME{G[2MINUS 3:4]b[1]W b[0];}INPUTS{B_0;b[2];q;}OUTPUTS{}}"); expected = Rejected 11 79 } ∷
    []

held_7 : texts_held cases_7 ≡ true
unfolding cases_7 text_expansion parsed spec_expansion ◌>>=◌ guard refuse_at nodes_of nodes_from count size
held_7 = refl

cases_8 : List Text
cases_8 =
    record { bytes = (ascii "INFO{TITLE:\"\"DESCRIPTION:\"\"SEMANTICS:Moore TARGET:Moore}MAIN{INPUTS{B_0;B_0;a1;}OUTPUTS{}PRESET{!*[a1 IN{0,1..2}]a1>4;0+2>=1;}}"); expected = Rejected 7 72 } ∷
    record { bytes = (ascii "INFO{TITLE:\"\"DESCRIPTION:\"\"SEMANTICS:Mealy TARGET:Mealy}MAIN{INPUTS{a}OUTPUTS{}ASSERT{+[0<=i<257]i==1}}"); expected = Rejected 12 89 } ∷
    record { bytes = (ascii "INFO{TITLE:\"\"DESCRIPTION:\"\"SEMANTICS:Mealy TARGET:Mealy}GLOBAL{DEFINITIONS{enum t=z:0100,010i:00*,*01;enum B_0=n:1u:1w:00;g={};}}MAIN{INPUTS{}OUTPUTS{d;t o;}INVARIANTS{}}"); expected = Rejected 10 89 } ∷
    record { bytes = (ascii "INFO{TITLE:\"t\"DESCRIPTION:\"\"SEMANTICS:Moore TARGET:Moore}GLOBAL{}MAIN{OUTPUTS{}ASSUME{(x'[0]);}ASSERT{&&[2%x' LE c<1]x'[0]<->{1};}INPUTS{x'[x'[2]];}}"); expected = Rejected 9 107 } ∷
    []

held_8 : texts_held cases_8 ≡ true
unfolding cases_8 text_expansion parsed spec_expansion ◌>>=◌ guard refuse_at nodes_of nodes_from count size
held_8 = refl

cases_9 : List Text
cases_9 =
    record { bytes = (ascii "INFO{TITLE:\"\"DESCRIPTION:\"\"SEMANTICS:Mealy TARGET:Mealy}GLOBAL{DEFINITIONS{enum T=A:0,0,0,0,0,0,0,0,0,0,0,0,0,0,0,0,0}}MAIN{INPUTS{}OUTPUTS{}}"); expected = Rejected 10 116 } ∷
    record { bytes = (ascii "INFO{TITLE:\"\"DESCRIPTION:\"\"SEMANTICS:Moore TARGET:Moore}GLOBAL{DEFINITIONS{enum l=Xa:11,00q:10,10z:01;}}MAIN{OUTPUTS{l p;m;u;}INPUTS{}PRESET{p;}}"); expected = Rejected 9 141 } ∷
    record { bytes = (ascii "INFO{TITLE:\"\"DESCRIPTION:\"t\"SEMANTICS:Moore TARGET:Moore}MAIN{INPUTS{}OUTPUTS{u;j[181];x[138];}ASSUMPTIONS{u&&u;}}"); expected = Rejected 15 87 } ∷
    record { bytes = (ascii "INFO{TITLE:\"t\"DESCRIPTION:\"t\"SEMANTICS:Mealy,Strict TARGET:Mealy}GLOBAL{PARAMETERS{}DEFINITIONS{enum a=o:001}}MAIN{INPUTS{t}REQUIRE{q[3];}OUTPUTS{a q;}INITIALLY{}}"); expected = Rejected 13 132 } ∷
    []

held_9 : texts_held cases_9 ≡ true
unfolding cases_9 text_expansion parsed spec_expansion ◌>>=◌ guard refuse_at nodes_of nodes_from count size
held_9 = refl

cases_10 : List Text
cases_10 =
    record { bytes = (ascii "INFO{TITLE:\"t\"DESCRIPTION:\"\"SEMANTICS:Moore,Strict TARGET:Mealy}MAIN{OUTPUTS{}ASSERT{F[SUM[Xa IN{2}]Xa:1]p;false OR p;}INPUTS{p;}}"); expected = Rejected 11 85 } ∷
    record { bytes = (ascii "INFO{TITLE:\"\"DESCRIPTION:\"\"SEMANTICS:Mealy TARGET:Moore}GLOBAL{PARAMETERS{n=2}DEFINITIONS{enum s=@:1f:0,0}}MAIN{OUTPUTS{}INPUTS{@;c;}ASSUME{}}"); expected = Rejected 7 128 } ∷
    record { bytes = (ascii "INFO{TITLE:\"\"DESCRIPTION:\"\"SEMANTICS:Mealy TARGET:Moore}MAIN{INPUTS{}OUTPUTS{w[1000];e}REQUIRE{}INVARIANTS{w;+[SIZEOF w<=a<w,{1}<A<{1}]A/true<=w;}ASSUMPTIONS{G[w:6]1;}}"); expected = Rejected 9 107 } ∷
    record { bytes = (ascii "INFO{TITLE:\"\"DESCRIPTION:\"\"SEMANTICS:Mealy TARGET:Mealy TAGS:safety}GLOBAL{PARAMETERS{}DEFINITIONS{g={0,1};}}MAIN{OUTPUTS{f;}INPUTS{z;}INITIALLY{(false)%(false)<1}}"); expected = Rejected 9 145 } ∷
    []

held_10 : texts_held cases_10 ≡ true
unfolding cases_10 text_expansion parsed spec_expansion ◌>>=◌ guard refuse_at nodes_of nodes_from count size
held_10 = refl

cases_11 : List Text
cases_11 =
    record { bytes = (73 ∷ 78 ∷ 70 ∷ 79 ∷ 13 ∷ 123 ∷ 84 ∷ 73 ∷ 84 ∷ 76 ∷ 69 ∷ 58 ∷ 32 ∷ 34 ∷ 34 ∷ 32 ∷ 32 ∷ 32 ∷ 68 ∷ 69 ∷ 83 ∷ 67 ∷ 82 ∷ 73 ∷ 80 ∷ 84 ∷ 73 ∷ 79 ∷ 78 ∷ 32 ∷ 47 ∷ 42 ∷ 42 ∷ 47 ∷ 58 ∷ 34 ∷ 34 ∷ 83 ∷ 69 ∷ 77 ∷ 65 ∷ 78 ∷ 84 ∷ 73 ∷ 67 ∷ 83 ∷ 58 ∷ 77 ∷ 101 ∷ 97 ∷ 108 ∷ 121 ∷ 13 ∷ 13 ∷ 84 ∷ 65 ∷ 82 ∷ 71 ∷ 69 ∷ 84 ∷ 58 ∷ 77 ∷ 101 ∷ 97 ∷ 108 ∷ 121 ∷ 125 ∷ 77 ∷ 65 ∷ 73 ∷ 78 ∷ 123 ∷ 32 ∷ 32 ∷ 73 ∷ 78 ∷ 80 ∷ 85 ∷ 84 ∷ 83 ∷ 123 ∷ 65 ∷ 32 ∷ 10 ∷ 9 ∷ 47 ∷ 47 ∷ 32 ∷ 99 ∷ 10 ∷ 59 ∷ 32 ∷ 32 ∷ 9 ∷ 66 ∷ 95 ∷ 48 ∷ 91 ∷ 50 ∷ 93 ∷ 125 ∷ 79 ∷ 85 ∷ 84 ∷ 80 ∷ 85 ∷ 84 ∷ 83 ∷ 32 ∷ 47 ∷ 47 ∷ 32 ∷ 99 ∷ 10 ∷ 123 ∷ 110 ∷ 32 ∷ 32 ∷ 32 ∷ 59 ∷ 125 ∷ 65 ∷ 83 ∷ 83 ∷ 85 ∷ 77 ∷ 69 ∷ 123 ∷ 83 ∷ 73 ∷ 90 ∷ 69 ∷ 123 ∷ 125 ∷ 32 ∷ 47 ∷ 42 ∷ 42 ∷ 47 ∷ 60 ∷ 61 ∷ 32 ∷ 49 ∷ 59 ∷ 123 ∷ 49 ∷ 125 ∷ 125 ∷ 125 ∷ []); expected = Rejected 9 144 } ∷
    record { bytes = (ascii " INFO { TITLE : \"\" DESCRIPTION : \"t\" SEMANTICS : Mealy TARGET : Mealy } MAIN { INPUTS { y ; } OUTPUTS { j [ y ] ; } REQUIRE { j [ 4 ] ; } ASSUME { 1 ; } GUARANTEE { } }"); expected = Rejected 9 108 } ∷
    record { bytes = (ascii "INFO{TITLE:\"\"DESCRIPTION:\"\"SEMANTICS:Mealy TARGET:Moore}GLOBAL{DEFINITIONS{w=1}}MAIN{INPUTS{y}ASSUMPTIONS{(0-1)<-{0,1..2};}OUTPUTS{m;}REQUIRE{}}"); expected = Rejected 11 108 } ∷
    record { bytes = (ascii "INFO{TITLE:\"\"DESCRIPTION:\"t\"SEMANTICS:Moore,Strict TARGET:Moore}GLOBAL{PARAMETERS{}}MAIN{INPUTS{l[3];t;}OUTPUTS{}REQUIRE{SIZEOF l/1>00MUL 4;4DIV 1EQ 2/00;}}"); expected = Rejected 11 150 } ∷
    []

held_11 : texts_held cases_11 ≡ true
unfolding cases_11 text_expansion parsed spec_expansion ◌>>=◌ guard refuse_at nodes_of nodes_from count size
held_11 = refl

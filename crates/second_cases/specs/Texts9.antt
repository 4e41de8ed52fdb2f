-- Written by the second converter: cases with its answers, each computed from the definitions.
use Rattle.std.specs.Prelude.{true, List, [], ◌∷◌, ◌≡◌, refl}
use Rattle.node.specs.Postorder.{size, nodes_from}
use Rattle.node.specs.Written.{nodes_of, count}
use Rattle.node.specs.Result.{◌>>=◌, guard}
use Rattle.language.specs.Bytes.{ascii}
use Rattle.language.specs.Places.{refuse_at}
use Rattle.language.specs.Parsing.{parsed}
use Rattle.language.specs.Reading.{text_expansion, spec_expansion}
use Rattle.second_cases.specs.Held.{Accepted, Rejected, Text, texts_held}

cases_0 : List Text
cases_0 =
    record { bytes = (ascii "INFO{TITLE:\"\"DESCRIPTION:\"\"SEMANTICS:Mealy TARGET:Moore}GLOBAL{PARAMETERS{}DEFINITIONS{enum b=p:*10,0*0t:10*;}}MAIN{INPUTS{v;A;b In}OUTPUTS{}ASSERT{(00)ELEM 1;}}"); expected = Rejected 9 157 } ∷
    record { bytes = (ascii "INFO{TITLE:\"\"DESCRIPTION:\"\"SEMANTICS:Mealy TARGET:Mealy}GLOBAL{PARAMETERS{@=*[1<=n<=3]01;}}MAIN{INPUTS{@;}OUTPUTS{}ASSUME{@->9MINUS @!=@;F[3:@]@<->false U @}}"); expected = Rejected 7 103 } ∷
    record { bytes = (ascii "INFO{TITLE:\"\"DESCRIPTION:\"\"SEMANTICS:Mealy TARGET:Mealy TAGS:safety}MAIN{OUTPUTS{g;}GUARANTEE{G g;F[4:00]g;}INPUTS{}}"); expected = Rejected 11 98 } ∷
    record { bytes = (ascii "INFO{TITLE:\"\"DESCRIPTION:\"\"SEMANTICS:Mealy TARGET:Moore TAGS:_,\"t\"}GLOBAL{DEFINITIONS{enum v=r:*j:1,10d:1,1;enum k=l:1;}}MAIN{INPUTS{o[4];k w;}ASSUMPTIONS{}OUTPUTS{h}}"); expected = Rejected 10 98 } ∷
    []

held_0 : texts_held cases_0 ≡ true
unfolding cases_0 text_expansion parsed spec_expansion ◌>>=◌ guard refuse_at nodes_of nodes_from count size
held_0 = refl

cases_1 : List Text
cases_1 =
    record { bytes = (ascii "INFO{TITLE:\"\"DESCRIPTION:\"\"SEMANTICS:Moore TARGET:Moore}GLOBAL{PARAMETERS{}DEFINITIONS{f=v;}}MAIN{INPUTS{e;d;}OUTPUTS{j;}GUARANTEE{F!3IN{2,3..1};}}"); expected = Rejected 6 89 } ∷
    record { bytes = (ascii "INFO{TITLE:\"\"DESCRIPTION:\"\"SEMANTICS:Mealy TARGET:Mealy}GLOBAL{DEFINITIONS{enum u=h:011,*10a1:00*,001r:111,111;}}MAIN{INPUTS{h;}OUTPUTS{u u;_}INITIALLY{}}"); expected = Rejected 7 125 } ∷
    record { bytes = (ascii "INFO{TITLE:\"\"DESCRIPTION:\"t\"SEMANTICS:Moore TARGET:Moore}GLOBAL{DEFINITIONS{enum a1=b:0,0e:*01*01*01;h={2,3..3}}}MAIN{INPUTS{}ASSERT{a;{1}==(false);}OUTPUTS{c;a;}}"); expected = Rejected 9 135 } ∷
    record { bytes = (ascii "INFO{TITLE:\"\"DESCRIPTION:\"\"SEMANTICS:Mealy TARGET:Mealy}MAIN{INPUTS{a}OUTPUTS{}ASSERT{1 IN{0,1..256}}}"); expected = Rejected 12 90 } ∷
    []

held_1 : texts_held cases_1 ≡ true
unfolding cases_1 text_expansion parsed spec_expansion ◌>>=◌ guard refuse_at nodes_of nodes_from count size
held_1 = refl

cases_2 : List Text
cases_2 =
    record { bytes = (ascii "INFO{TITLE:\"\"DESCRIPTION:\"\"SEMANTICS:Mealy TARGET:Mealy TAGS:a,\"t\",a}MAIN{GUARANTEES{00/0GEG 2&&y&&t;2+0<-{}W j}INPUTS{y;}OUTPUTS{t;j;}}"); expected = Rejected 11 87 } ∷
    record { bytes = (ascii "INFO{TITLE:\"\"DESCRIPTION:\"\"SEMANTICS:Mealy TARGET:Moore}GLOBAL{DEFINITIONS{enum k=d:*p:101*01*01;Xa=0/0}}MAIN{INVARIANTS{}INPUTS{}OUTPUTS{e[Xa];}}"); expected = Rejected 10 87 } ∷
    record { bytes = (ascii "INFO{TITLE:\"\"DESCRIPTION:\"\"SEMANTICS:Mealy TARGET:Moore}GLOBAL{DEFINITIONS{enum a=b:0,00B_0:1u:*0,00}}MAIN{INPUTS{o;}OUTPUTS{}ASSUME{(F[01:9-1]o);1/=2;}}"); expected = Rejected 10 86 } ∷
    record { bytes = (ascii "INFO{TITLE:\"\"DESCRIPTION:\"t\"SEMANTICS:Mealy TARGET:Mealy}GLOBAL{DEFINITIONS{enum @=g:00,01g:1*;x=4;}}MAIN{INPUTS{@[2]}OUTPUTS{@ @;}ASSUMPTIONS{}GUARANTEE{X[1]@[x]}}"); expected = Rejected 7 90 } ∷
    []

held_2 : texts_held cases_2 ≡ true
unfolding cases_2 text_expansion parsed spec_expansion ◌>>=◌ guard refuse_at nodes_of nodes_from count size
held_2 = refl

cases_3 : List Text
cases_3 =
    record { bytes = (ascii "INFO{TITLE:\"\"DESCRIPTION:\"\"SEMANTICS:Moore TARGET:Moore}MAIN{INPUTS{e;}OUTPUTS{}REQUIRE{2IN{3,3..5};}PRESET{G[9MINUS 4:5]true;}}"); expected = Rejected 12 91 } ∷
    record { bytes = (ascii "INFO{TITLE:\"\"DESCRIPTION:\"\"SEMANTICS:Mealy,Strict TARGET:Mealy}MAIN{ASSUME{(4)<01<->oo;}INPUTS{j[1];o;}OUTPUTS{y;}}"); expected = Rejected 6 84 } ∷
    record { bytes = (ascii "INFO{TITLE:\"\"DESCRIPTION:\"\"SEMANTICS:Mealy TARGET:Moore}GLOBAL{DEFINITIONS{enum k=y:00,**A:1*0,*001*01*01n:100;m=_}}MAIN{REQUIRE{}INPUTS{d}OUTPUTS{_;h}}"); expected = Rejected 10 91 } ∷
    record { bytes = (ascii "INFO{TITLE:\"\"DESCRIPTION:\"\"SEMANTICS:Mealy TARGET:Mealy}MAIN{INPUTS{}OUTPUTS{In[4];f[3];}ASSUME{&&[0LE y<MIN{0,1..2}*2%s]b}}"); expected = Rejected 6 119 } ∷
    []

held_3 : texts_held cases_3 ≡ true
unfolding cases_3 text_expansion parsed spec_expansion ◌>>=◌ guard refuse_at nodes_of nodes_from count size
held_3 = refl

cases_4 : List Text
cases_4 =
    record { bytes = (ascii "INFO{TITLE:\"\"DESCRIPTION:\"\"SEMANTICS:Moore TARGET:Moore}GLOBAL{DEFINITIONS{enum b=t:00,10w:01;}}MAIN{ASSERT{&&[(false)<a1<(0*{1})]false;}OUTPUTS{u;i}INPUTS{}}"); expected = Rejected 9 111 } ∷
    record { bytes = (ascii "INFO{TITLE:\"\"DESCRIPTION:\"\"SEMANTICS:Mealy TARGET:Mealy}MAIN{INPUTS{a}OUTPUTS{}ASSERT{+[0<=i<=256]i==1}}"); expected = Rejected 12 89 } ∷
    record { bytes = (ascii "INFO{TITLE:\"\"DESCRIPTION:\"\"SEMANTICS:Mealy,Strict TARGET:Moore}GLOBAL{PARAMETERS{u=2*1-(false)}}MAIN{ASSERT{X 9-u<4;||[a IN true]{1}}OUTPUTS{}INPUTS{k}}"); expected = Rejected 9 87 } ∷
    record { bytes = (ascii "INFO{TITLE:\"\"DESCRIPTION:\"\"SEMANTICS:Moore TARGET:Moore}GLOBAL{DEFINITIONS{enum x=y:*,0}}MAIN{INPUTS{d B_0;}INVARIANTS{((e[1]))W B_0}OUTPUTS{x e;B_0;}}"); expected = Rejected 6 101 } ∷
    []

held_4 : texts_held cases_4 ≡ true
unfolding cases_4 text_expansion parsed spec_expansion ◌>>=◌ guard refuse_at nodes_of nodes_from count size
held_4 = refl

cases_5 : List Text
cases_5 =
    record { bytes = (ascii "INFO{TITLE:\"\"DESCRIPTION:\"\"SEMANTICS:Moore TARGET:Moore}GLOBAL{DEFINITIONS{enum v=v:010}}MAIN{INVARIANTS{}OUTPUTS{a1;v A;}INPUTS{}}"); expected = Rejected 7 82 } ∷
    record { bytes = (ascii "INFO{TITLE:\"\"DESCRIPTION:\"\"SEMANTICS:Moore,Strict TARGET:Mealy}MAIN{INPUTS{}OUTPUTS{B_0;}REQUIRE{||[1<=B_0 LEQ 0,00<=In<1]B_0;G[4:4]B_0;}}"); expected = Rejected 7 103 } ∷
    record { bytes = (ascii "INFO{TITLE:\"\"DESCRIPTION:\"\"SEMANTICS:Mealy TARGET:Moore}GLOBAL{DEFINITIONS{enum m=y:**1;enum z=q:0r:1;}}MAIN{INPUTS{h;m a;In[175]}OUTPUTS{v[159];}REQUIRE{X[0]v[00];F h;}}"); expected = Rejected 15 138 } ∷
    record { bytes = (ascii "INFO{TITLE:\"\"DESCRIPTION:\"\"SEMANTICS:Mealy TARGET:Mealy}GLOBAL{DEFINITIONS{enum x'=j:1,*;enum a1=o:100,010w:011,**1;h=t R t;}}MAIN{INPUTS{t;g[1];}OUTPUTS{n z;}REQUIRE{}}"); expected = Rejected 6 154 } ∷
    []

held_5 : texts_held cases_5 ≡ true
unfolding cases_5 text_expansion parsed spec_expansion ◌>>=◌ guard refuse_at nodes_of nodes_from count size
held_5 = refl

cases_6 : List Text
cases_6 =
    record { bytes = (ascii "INFO{TITLE:\"\"DESCRIPTION:\"\"SEMANTICS:Mealy TARGET:Mealy}GLOBAL{DEFINITIONS{enum T=A:0,0,0,0,0,0,0,0,0,0,0,0,0,0,0,0,0}}MAIN{INPUTS{}OUTPUTS{}}"); expected = Rejected 10 116 } ∷
    record { bytes = (ascii "INFO{TITLE:\"\"DESCRIPTION:\"\"SEMANTICS:Mealy TARGET:Moore}MAIN{INPUTS{o;m;v;}OUTPUTS{}REQUIRE{FORALL[n IN f]a1;false}}"); expected = Rejected 6 104 } ∷
    record { bytes = (ascii "INFO{TITLE:\"\"DESCRIPTION:\"\"SEMANTICS:Mealy TARGET:Mealy}MAIN{INPUTS{a}OUTPUTS{}ASSERT{+[0<=i<=256]i==1}}"); expected = Rejected 12 89 } ∷
    record { bytes = (ascii "INFO{TITLE:\"\"DESCRIPTION:\"\"SEMANTICS:Mealy TARGET:Mealy}MAIN{INPUTS{a}OUTPUTS{}ASSERT{1 IN{0,1..255}(+){1,300}}}"); expected = Rejected 12 100 } ∷
    []

held_6 : texts_held cases_6 ≡ true
unfolding cases_6 text_expansion parsed spec_expansion ◌>>=◌ guard refuse_at nodes_of nodes_from count size
held_6 = refl

cases_7 : List Text
cases_7 =
    record { bytes = (ascii "INFO{TITLE:\"\"DESCRIPTION:\"\"SEMANTICS:Moore TARGET:Moore}GLOBAL{DEFINITIONS{enum a1=A:01,0*01*01*01;}}MAIN{INPUTS{k[2];}OUTPUTS{}GUARANTEE{}}"); expected = Rejected 10 88 } ∷
    record { bytes = (ascii "INFO{TITLE:\"\"DESCRIPTION:\"\"SEMANTICS:Mealy,Strict TARGET:Mealy TAGS:_,_}MAIN{INPUTS{q[3];}OUTPUTS{}ASSUME{q[2]U x;}}"); expected = Rejected 6 112 } ∷
    record { bytes = (ascii "INFO{TITLE:\"\"DESCRIPTION:\"\"SEMANTICS:Mealy TARGET:Mealy}MAIN{INPUTS{a}OUTPUTS{}ASSERT{1 IN{0,1..256}}}"); expected = Rejected 12 90 } ∷
    record { bytes = (ascii "INFO{TITLE:\"t\"DESCRIPTION:\"\"SEMANTICS:Mealy,Strict TARGET:Mealy}GLOBAL{PARAMETERS{}}MAIN{INPUTS{}OUTPUTS{v[2];}GUARANTEE{(v[0]->o<->false);v[3]&&false&&v[0];}}"); expected = Rejected 6 128 } ∷
    []

held_7 : texts_held cases_7 ≡ true
unfolding cases_7 text_expansion parsed spec_expansion ◌>>=◌ guard refuse_at nodes_of nodes_from count size
held_7 = refl

cases_8 : List Text
cases_8 =
    record { bytes = (ascii "INFO{TITLE:\"\"DESCRIPTION:\"t\"SEMANTICS:Mealy TARGET:Mealy}GLOBAL{DEFINITIONS{enum v=r:100,0**;}}MAIN{GUARANTEES{}PRESET{r==m;G[3:6]y->m[0]}INPUTS{}OUTPUTS{c m;}}"); expected = Rejected 6 130 } ∷
    record { bytes = (ascii "INFO{TITLE:\"\"DESCRIPTION:\"\"SEMANTICS:Moore TARGET:Moore}MAIN{INPUTS{x'}OUTPUTS{b[229];h[188];}REQUIRE{(01>=1);1IN{0,1}->x';}}"); expected = Rejected 15 86 } ∷
    record { bytes = (ascii "INFO{TITLE:\"\"DESCRIPTION:\"t\"SEMANTICS:Moore TARGET:Mealy TAGS:a,\"t\"}GLOBAL{}MAIN{INPUTS{k}OUTPUTS{}ASSUMPTIONS{}INITIALLY{}REQUIRE{AND[k IN{1},f IN{1}]k OR k<->k;}}"); expected = Rejected 7 135 } ∷
    record { bytes = (ascii "INFO{TITLE:\"\"DESCRIPTION:\"\"SEMANTICS:Mealy TARGET:Mealy}GLOBAL{DEFINITIONS{n0=0;n1=0;n2=0;n3=0;n4=0;n5=0;n6=0;n7=0;n8=0;n9=0;n10=0;n11=0;n12=0;n13=0;n14=0;n15=0;n16=0;n17=0;n18=0;n19=0;n20=0;n21=0;n22=0;n23=0;n24=0;n25=0;n26=0;n27=0;n28=0;n29=0;n30=0;n31=0;n32=0;n33=0;n34=0;n35=0;n36=0;n37=0;n38=0;n39=0;n40=0;n41=0;n42=0;n43=0;n44=0;n45=0;n46=0;n47=0;n48=0;n49=0;n50=0;n51=0;n52=0;n53=0;n54=0;n55=0;n56=0;n57=0;n58=0;n59=0;n60=0;n61=0;n62=0;n63=0;n64=0;n65=0;n66=0;n67=0;n68=0;n69=0;n70=0;n71=0;n72=0;n73=0;n74=0;n75=0;n76=0;n77=0;n78=0;n79=0;n80=0;n81=0;n82=0;n83=0;n84=0;n85=0;n86=0;n87=0;n88=0;n89=0;n90=0;n91=0;n92=0;n93=0;n94=0;n95=0;n96=0;n97=0;n98=0;n99=0;n100=0;n101=0;n102=0;n103=0;n104=0;n105=0;n106=0;n107=0;n108=0;n109=0;n110=0;n111=0;n112=0;n113=0;n114=0;n115=0;n116=0;n117=0;n118=0;n119=0;n120=0;n121=0;n122=0;n123=0;n124=0;n125=0;n126=0;n127=0;n128=0;n129=0;n130=0;n131=0;n132=0;n133=0;n134=0;n135=0;n136=0;n137=0;n138=0;n139=0;n140=0;n141=0;n142=0;n143=0;n144=0;n145=0;n146=0;n147=0;n148=0;n149=0;n150=0;n151=0;n152=0;n153=0;n154=0;n155=0;n156=0;n157=0;n158=0;n159=0;n160=0;n161=0;n162=0;n163=0;n164=0;n165=0;n166=0;n167=0;n168=0;n169=0;n170=0;n171=0;n172=0;n173=0;n174=0;n175=0;n176=0;n177=0;n178=0;n179=0;n180=0;n181=0;n182=0;n183=0;n184=0;n185=0;n186=0;n187=0;n188=0;n189=0;n190=0;n191=0;n192=0;n193=0;n194=0;n195=0;n196=0;n197=0;n198=0;n199=0;n200=0;n201=0;n202=0;n203=0;n204=0;n205=0;n206=0;n207=0;n208=0;n209=0;n210=0;n211=0;n212=0;n213=0;n214=0;n215=0;n216=0;n217=0;n218=0;n219=0;n220=0;n221=0;n222=0;n223=0;n224=0;n225=0;n226=0;n227=0;n228=0;n229=0;n230=0;n231=0;n232=0;n233=0;n234=0;n235=0;n236=0;n237=0;n238=0;n239=0;n240=0;n241=0;n242=0;n243=0;n244=0;n245=0;n246=0;n247=0;n248=0;n249=0;n250=0;n251=0;n252=0;n253=0;n254=0;n255=0;n256=0;}}MAIN{INPUTS{}OUTPUTS{}}"); expected = Rejected 8 1757 } ∷
    []

held_8 : texts_held cases_8 ≡ true
unfolding cases_8 text_expansion parsed spec_expansion ◌>>=◌ guard refuse_at nodes_of nodes_from count size
held_8 = refl

cases_9 : List Text
cases_9 =
    record { bytes = (ascii "INFO{TITLE:\"\"DESCRIPTION:\"\"SEMANTICS:Mealy TARGET:Mealy}MAIN{INPUTS{a}OUTPUTS{}ASSERT{1 IN{0,1..256}}}"); expected = Rejected 12 90 } ∷
    record { bytes = (73 ∷ 78 ∷ 70 ∷ 79 ∷ 123 ∷ 84 ∷ 73 ∷ 84 ∷ 76 ∷ 69 ∷ 58 ∷ 32 ∷ 34 ∷ 34 ∷ 68 ∷ 69 ∷ 83 ∷ 67 ∷ 82 ∷ 73 ∷ 80 ∷ 84 ∷ 73 ∷ 79 ∷ 78 ∷ 13 ∷ 58 ∷ 9 ∷ 34 ∷ 34 ∷ 83 ∷ 69 ∷ 77 ∷ 65 ∷ 78 ∷ 84 ∷ 73 ∷ 67 ∷ 83 ∷ 58 ∷ 32 ∷ 47 ∷ 47 ∷ 32 ∷ 99 ∷ 10 ∷ 77 ∷ 101 ∷ 97 ∷ 108 ∷ 121 ∷ 32 ∷ 84 ∷ 65 ∷ 82 ∷ 71 ∷ 69 ∷ 84 ∷ 58 ∷ 77 ∷ 101 ∷ 97 ∷ 108 ∷ 121 ∷ 9 ∷ 10 ∷ 10 ∷ 9 ∷ 13 ∷ 125 ∷ 13 ∷ 77 ∷ 65 ∷ 73 ∷ 78 ∷ 123 ∷ 32 ∷ 73 ∷ 78 ∷ 73 ∷ 84 ∷ 73 ∷ 65 ∷ 76 ∷ 76 ∷ 89 ∷ 123 ∷ 95 ∷ 32 ∷ 85 ∷ 32 ∷ 95 ∷ 13 ∷ 59 ∷ 125 ∷ 73 ∷ 78 ∷ 86 ∷ 65 ∷ 82 ∷ 73 ∷ 65 ∷ 78 ∷ 84 ∷ 83 ∷ 9 ∷ 123 ∷ 125 ∷ 79 ∷ 85 ∷ 84 ∷ 80 ∷ 85 ∷ 84 ∷ 83 ∷ 32 ∷ 123 ∷ 122 ∷ 59 ∷ 32 ∷ 47 ∷ 42 ∷ 42 ∷ 47 ∷ 95 ∷ 59 ∷ 122 ∷ 91 ∷ 51 ∷ 93 ∷ 59 ∷ 32 ∷ 32 ∷ 125 ∷ 73 ∷ 78 ∷ 80 ∷ 85 ∷ 84 ∷ 83 ∷ 32 ∷ 32 ∷ 123 ∷ 125 ∷ 32 ∷ 125 ∷ []); expected = Rejected 7 126 } ∷
    record { bytes = (ascii "INFO{TITLE:\"\"DESCRIPTION:\"\"SEMANTICS:Moore TARGET:Moore}GLOBAL{DEFINITIONS{enum e=b:1,0;}}MAIN{OUTPUTS{b[3]}INPUTS{}REQUIRE{SIZEOF b/2IN{0,1..2};X[MIN{2}]b[2];}}"); expected = Rejected 7 103 } ∷
    record { bytes = (ascii "INFO{TITLE:\"\"DESCRIPTION:\"\"SEMANTICS:Moore,Strict TARGET:Moore TAGS:\"t\"}MAIN{OUTPUTS{In;w;}GUARANTEE{9-1-0IN{3,3..5};4<-{0,1}->w}INPUTS{}}"); expected = Rejected 12 108 } ∷
    []

held_9 : texts_held cases_9 ≡ true
unfolding cases_9 text_expansion parsed spec_expansion ◌>>=◌ guard refuse_at nodes_of nodes_from count size
held_9 = refl

cases_10 : List Text
cases_10 =
    record { bytes = (ascii "INFO{TITLE:\"\"DESCRIPTION:\"\"SEMANTICS:Mealy TARGET:Mealy}MAIN{INPUTS{a}OUTPUTS{}ASSERT{1 IN{0,1..255}(+){1,300}}}"); expected = Rejected 12 100 } ∷
    record { bytes = (ascii "INFO{TITLE:\"\"DESCRIPTION:\"\"SEMANTICS:Mealy TARGET:Mealy}MAIN{INPUTS{a}OUTPUTS{}ASSERT{+[0<=i<257]i==1}}"); expected = Rejected 12 89 } ∷
    record { bytes = (ascii "INFO{TITLE:\"\"DESCRIPTION:\"\"SEMANTICS:Mealy TARGET:Mealy}GLOBAL{DEFINITIONS{n0=0;n1=0;n2=0;n3=0;n4=0;n5=0;n6=0;n7=0;n8=0;n9=0;n10=0;n11=0;n12=0;n13=0;n14=0;n15=0;n16=0;n17=0;n18=0;n19=0;n20=0;n21=0;n22=0;n23=0;n24=0;n25=0;n26=0;n27=0;n28=0;n29=0;n30=0;n31=0;n32=0;n33=0;n34=0;n35=0;n36=0;n37=0;n38=0;n39=0;n40=0;n41=0;n42=0;n43=0;n44=0;n45=0;n46=0;n47=0;n48=0;n49=0;n50=0;n51=0;n52=0;n53=0;n54=0;n55=0;n56=0;n57=0;n58=0;n59=0;n60=0;n61=0;n62=0;n63=0;n64=0;n65=0;n66=0;n67=0;n68=0;n69=0;n70=0;n71=0;n72=0;n73=0;n74=0;n75=0;n76=0;n77=0;n78=0;n79=0;n80=0;n81=0;n82=0;n83=0;n84=0;n85=0;n86=0;n87=0;n88=0;n89=0;n90=0;n91=0;n92=0;n93=0;n94=0;n95=0;n96=0;n97=0;n98=0;n99=0;n100=0;n101=0;n102=0;n103=0;n104=0;n105=0;n106=0;n107=0;n108=0;n109=0;n110=0;n111=0;n112=0;n113=0;n114=0;n115=0;n116=0;n117=0;n118=0;n119=0;n120=0;n121=0;n122=0;n123=0;n124=0;n125=0;n126=0;n127=0;n128=0;n129=0;n130=0;n131=0;n132=0;n133=0;n134=0;n135=0;n136=0;n137=0;n138=0;n139=0;n140=0;n141=0;n142=0;n143=0;n144=0;n145=0;n146=0;n147=0;n148=0;n149=0;n150=0;n151=0;n152=0;n153=0;n154=0;n155=0;n156=0;n157=0;n158=0;n159=0;n160=0;n161=0;n162=0;n163=0;n164=0;n165=0;n166=0;n167=0;n168=0;n169=0;n170=0;n171=0;n172=0;n173=0;n174=0;n175=0;n176=0;n177=0;n178=0;n179=0;n180=0;n181=0;n182=0;n183=0;n184=0;n185=0;n186=0;n187=0;n188=0;n189=0;n190=0;n191=0;n192=0;n193=0;n194=0;n195=0;n196=0;n197=0;n198=0;n199=0;n200=0;n201=0;n202=0;n203=0;n204=0;n205=0;n206=0;n207=0;n208=0;n209=0;n210=0;n211=0;n212=0;n213=0;n214=0;n215=0;n216=0;n217=0;n218=0;n219=0;n220=0;n221=0;n222=0;n223=0;n224=0;n225=0;n226=0;n227=0;n228=0;n229=0;n230=0;n231=0;n232=0;n233=0;n234=0;n235=0;n236=0;n237=0;n238=0;n239=0;n240=0;n241=0;n242=0;n243=0;n244=0;n245=0;n246=0;n247=0;n248=0;n249=0;n250=0;n251=0;n252=0;n253=0;n254=0;n255=0;n256=0;}}MAIN{INPUTS{}OUTPUTS{}}"); expected = Rejected 8 1757 } ∷
    record { bytes = (ascii "INFO{TITLE:\"\"DESCRIPTION:\"\"SEMANTICS:Moore,Strict TARGET:Mealy}MAIN{INPUTS{p[3];}OUTPUTS{}GUARANTEE{4IN{0,1..2}(+)({0,1..255}(+){300});}}"); expected = Rejected 12 125 } ∷
    []

held_10 : texts_held cases_10 ≡ true
unfolding cases_10 text_expansion parsed spec_expansion ◌>>=◌ guard refuse_at nodes_of nodes_from count size
held_10 = refl

cases_11 : List Text
cases_11 =
    record { bytes = (ascii "INFO{TITLE:\"\"DESCRIPTION:\"\"SEMANTICS:Mealy TARGET:Mealy}MAIN{INPUTS{a}OUTPUTS{}ASSERT{1 IN{0,1..255}(+){1,300}}}"); expected = Rejected 12 100 } ∷
    record { bytes = (ascii "INFO{TITLE:\"\"DESCRIPTION:\"\"SEMANTICS:Mealy TARGET:Mealy}GLOBAL{DEFINITIONS{n0=0;n1=0;n2=0;n3=0;n4=0;n5=0;n6=0;n7=0;n8=0;n9=0;n10=0;n11=0;n12=0;n13=0;n14=0;n15=0;n16=0;n17=0;n18=0;n19=0;n20=0;n21=0;n22=0;n23=0;n24=0;n25=0;n26=0;n27=0;n28=0;n29=0;n30=0;n31=0;n32=0;n33=0;n34=0;n35=0;n36=0;n37=0;n38=0;n39=0;n40=0;n41=0;n42=0;n43=0;n44=0;n45=0;n46=0;n47=0;n48=0;n49=0;n50=0;n51=0;n52=0;n53=0;n54=0;n55=0;n56=0;n57=0;n58=0;n59=0;n60=0;n61=0;n62=0;n63=0;n64=0;n65=0;n66=0;n67=0;n68=0;n69=0;n70=0;n71=0;n72=0;n73=0;n74=0;n75=0;n76=0;n77=0;n78=0;n79=0;n80=0;n81=0;n82=0;n83=0;n84=0;n85=0;n86=0;n87=0;n88=0;n89=0;n90=0;n91=0;n92=0;n93=0;n94=0;n95=0;n96=0;n97=0;n98=0;n99=0;n100=0;n101=0;n102=0;n103=0;n104=0;n105=0;n106=0;n107=0;n108=0;n109=0;n110=0;n111=0;n112=0;n113=0;n114=0;n115=0;n116=0;n117=0;n118=0;n119=0;n120=0;n121=0;n122=0;n123=0;n124=0;n125=0;n126=0;n127=0;n128=0;n129=0;n130=0;n131=0;n132=0;n133=0;n134=0;n135=0;n136=0;n137=0;n138=0;n139=0;n140=0;n141=0;n142=0;n143=0;n144=0;n145=0;n146=0;n147=0;n148=0;n149=0;n150=0;n151=0;n152=0;n153=0;n154=0;n155=0;n156=0;n157=0;n158=0;n159=0;n160=0;n161=0;n162=0;n163=0;n164=0;n165=0;n166=0;n167=0;n168=0;n169=0;n170=0;n171=0;n172=0;n173=0;n174=0;n175=0;n176=0;n177=0;n178=0;n179=0;n180=0;n181=0;n182=0;n183=0;n184=0;n185=0;n186=0;n187=0;n188=0;n189=0;n190=0;n191=0;n192=0;n193=0;n194=0;n195=0;n196=0;n197=0;n198=0;n199=0;n200=0;n201=0;n202=0;n203=0;n204=0;n205=0;n206=0;n207=0;n208=0;n209=0;n210=0;n211=0;n212=0;n213=0;n214=0;n215=0;n216=0;n217=0;n218=0;n219=0;n220=0;n221=0;n222=0;n223=0;n224=0;n225=0;n226=0;n227=0;n228=0;n229=0;n230=0;n231=0;n232=0;n233=0;n234=0;n235=0;n236=0;n237=0;n238=0;n239=0;n240=0;n241=0;n242=0;n243=0;n244=0;n245=0;n246=0;n247=0;n248=0;n249=0;n250=0;n251=0;n252=0;n253=0;n254=0;n255=0;n256=0;}}MAIN{INPUTS{}OUTPUTS{}}"); expected = Rejected 8 1757 } ∷
    record { bytes = (ascii "INFO{TITLE:\"\"DESCRIPTION:\"\"SEMANTICS:Mealy TARGET:Mealy}GLOBAL{DEFINITIONS{n0=0;n1=0;n2=0;n3=0;n4=0;n5=0;n6=0;n7=0;n8=0;n9=0;n10=0;n11=0;n12=0;n13=0;n14=0;n15=0;n16=0;n17=0;n18=0;n19=0;n20=0;n21=0;n22=0;n23=0;n24=0;n25=0;n26=0;n27=0;n28=0;n29=0;n30=0;n31=0;n32=0;n33=0;n34=0;n35=0;n36=0;n37=0;n38=0;n39=0;n40=0;n41=0;n42=0;n43=0;n44=0;n45=0;n46=0;n47=0;n48=0;n49=0;n50=0;n51=0;n52=0;n53=0;n54=0;n55=0;n56=0;n57=0;n58=0;n59=0;n60=0;n61=0;n62=0;n63=0;n64=0;n65=0;n66=0;n67=0;n68=0;n69=0;n70=0;n71=0;n72=0;n73=0;n74=0;n75=0;n76=0;n77=0;n78=0;n79=0;n80=0;n81=0;n82=0;n83=0;n84=0;n85=0;n86=0;n87=0;n88=0;n89=0;n90=0;n91=0;n92=0;n93=0;n94=0;n95=0;n96=0;n97=0;n98=0;n99=0;n100=0;n101=0;n102=0;n103=0;n104=0;n105=0;n106=0;n107=0;n108=0;n109=0;n110=0;n111=0;n112=0;n113=0;n114=0;n115=0;n116=0;n117=0;n118=0;n119=0;n120=0;n121=0;n122=0;n123=0;n124=0;n125=0;n126=0;n127=0;n128=0;n129=0;n130=0;n131=0;n132=0;n133=0;n134=0;n135=0;n136=0;n137=0;n138=0;n139=0;n140=0;n141=0;n142=0;n143=0;n144=0;n145=0;n146=0;n147=0;n148=0;n149=0;n150=0;n151=0;n152=0;n153=0;n154=0;n155=0;n156=0;n157=0;n158=0;n159=0;n160=0;n161=0;n162=0;n163=0;n164=0;n165=0;n166=0;n167=0;n168=0;n169=0;n170=0;n171=0;n172=0;n173=0;n174=0;n175=0;n176=0;n177=0;n178=0;n179=0;n180=0;n181=0;n182=0;n183=0;n184=0;n185=0;n186=0;n187=0;n188=0;n189=0;n190=0;n191=0;n192=0;n193=0;n194=0;n195=0;n196=0;n197=0;n198=0;n199=0;n200=0;n201=0;n202=0;n203=0;n204=0;n205=0;n206=0;n207=0;n208=0;n209=0;n210=0;n211=0;n212=0;n213=0;n214=0;n215=0;n216=0;n217=0;n218=0;n219=0;n220=0;n221=0;n222=0;n223=0;n224=0;n225=0;n226=0;n227=0;n228=0;n229=0;n230=0;n231=0;n232=0;n233=0;n234=0;n235=0;n236=0;n237=0;n238=0;n239=0;n240=0;n241=0;n242=0;n243=0;n244=0;n245=0;n246=0;n247=0;n248=0;n249=0;n250=0;n251=0;n252=0;n253=0;n254=0;n255=0;n256=0;}}MAIN{INPUTS{}OUTPUTS{}}"); expected = Rejected 8 1757 } ∷
    record { bytes = (ascii "INFO{TITLE:\"\"DESCRIPTION:\"\"SEMANTICS:Mealy TARGET:Mealy}GLOBAL{DEFINITIONS{n0=0;n1=0;n2=0;n3=0;n4=0;n5=0;n6=0;n7=0;n8=0;n9=0;n10=0;n11=0;n12=0;n13=0;n14=0;n15=0;n16=0;n17=0;n18=0;n19=0;n20=0;n21=0;n22=0;n23=0;n24=0;n25=0;n26=0;n27=0;n28=0;n29=0;n30=0;n31=0;n32=0;n33=0;n34=0;n35=0;n36=0;n37=0;n38=0;n39=0;n40=0;n41=0;n42=0;n43=0;n44=0;n45=0;n46=0;n47=0;n48=0;n49=0;n50=0;n51=0;n52=0;n53=0;n54=0;n55=0;n56=0;n57=0;n58=0;n59=0;n60=0;n61=0;n62=0;n63=0;n64=0;n65=0;n66=0;n67=0;n68=0;n69=0;n70=0;n71=0;n72=0;n73=0;n74=0;n75=0;n76=0;n77=0;n78=0;n79=0;n80=0;n81=0;n82=0;n83=0;n84=0;n85=0;n86=0;n87=0;n88=0;n89=0;n90=0;n91=0;n92=0;n93=0;n94=0;n95=0;n96=0;n97=0;n98=0;n99=0;n100=0;n101=0;n102=0;n103=0;n104=0;n105=0;n106=0;n107=0;n108=0;n109=0;n110=0;n111=0;n112=0;n113=0;n114=0;n115=0;n116=0;n117=0;n118=0;n119=0;n120=0;n121=0;n122=0;n123=0;n124=0;n125=0;n126=0;n127=0;n128=0;n129=0;n130=0;n131=0;n132=0;n133=0;n134=0;n135=0;n136=0;n137=0;n138=0;n139=0;n140=0;n141=0;n142=0;n143=0;n144=0;n145=0;n146=0;n147=0;n148=0;n149=0;n150=0;n151=0;n152=0;n153=0;n154=0;n155=0;n156=0;n157=0;n158=0;n159=0;n160=0;n161=0;n162=0;n163=0;n164=0;n165=0;n166=0;n167=0;n168=0;n169=0;n170=0;n171=0;n172=0;n173=0;n174=0;n175=0;n176=0;n177=0;n178=0;n179=0;n180=0;n181=0;n182=0;n183=0;n184=0;n185=0;n186=0;n187=0;n188=0;n189=0;n190=0;n191=0;n192=0;n193=0;n194=0;n195=0;n196=0;n197=0;n198=0;n199=0;n200=0;n201=0;n202=0;n203=0;n204=0;n205=0;n206=0;n207=0;n208=0;n209=0;n210=0;n211=0;n212=0;n213=0;n214=0;n215=0;n216=0;n217=0;n218=0;n219=0;n220=0;n221=0;n222=0;n223=0;n224=0;n225=0;n226=0;n227=0;n228=0;n229=0;n230=0;n231=0;n232=0;n233=0;n234=0;n235=0;n236=0;n237=0;n238=0;n239=0;n240=0;n241=0;n242=0;n243=0;n244=0;n245=0;n246=0;n247=0;n248=0;n249=0;n250=0;n251=0;n252=0;n253=0;n254=0;n255=0;n256=0;}}MAIN{INPUTS{}OUTPUTS{}}"); expected = Rejected 8 1757 } ∷
    []

held_11 : texts_held cases_11 ≡ true
unfolding cases_11 text_expansion parsed spec_expansion ◌>>=◌ guard refuse_at nodes_of nodes_from count size
held_11 = refl

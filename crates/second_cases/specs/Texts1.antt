-- Written by the second converter: cases with its answers, each computed from the definitions.
use Rattle.std.specs.Prelude.{true, List, [], ◌∷◌, ◌≡◌, refl}
use Rattle.node.specs.Postorder.{size, nodes_from}
use Rattle.node.specs.Written.{nodes_of, count}
use Rattle.node.specs.Result.{◌>>=◌, guard}
use Rattle.language.specs.Bytes.{ascii}
use Rattle.language.specs.Places.{refuse_at}
use Rattle.language.specs.Parsing.{parsed}
use Rattle.language.specs.Reading.{text_expansion, spec_expansion}
use Rattle.second_cases.specs.Held.{Accepted, Rejected, Text, texts_held}

cases_0 : List Text
cases_0 =
    record { bytes = (ascii "INFO{TITLE:\"\"DESCRIPTION:\"\"SEMANTICS:Mealy,Strict TARGET:Moore}GLOBAL{DEFINITIONS{enum f=@:0*,*1;}}MAIN{INPUTS{n;e[4];}OUTPUTS{f i}GUARANTEES{(01)IN{};}}"); expected = Accepted (0 ∷ 0 ∷ 536952832 ∷ 2147516416 ∷ 805355520 ∷ 536969216 ∷ 2147565568 ∷ 1342242822 ∷ 0 ∷ 805437440 ∷ 3489775625 ∷ 1073758218 ∷ 0 ∷ 2416115712 ∷ 0 ∷ 1073954830 ∷ 268435456 ∷ 1610858512 ∷ 1073922065 ∷ 1610612754 ∷ []) (7274496 ∷ 7405572 ∷ 7405828 ∷ 7406084 ∷ 7406340 ∷ 2155937794 ∷ 2155938050 ∷ []) } ∷
    record { bytes = (ascii "INFO{TITLE:\"\"DESCRIPTION:\"\"SEMANTICS:Mealy TARGET:Mealy}GLOBAL{}MAIN{INPUTS{}OUTPUTS{m;@[3];x'[232];}INVARIANTS{(&&[z IN({0,1})]m)U m;0<2}}"); expected = Accepted (0 ∷ 0 ∷ 0 ∷ 2415951872 ∷ 0 ∷ 1073790980 ∷ 536870912 ∷ 536870912 ∷ 1073840135 ∷ 536870912 ∷ 2952921097 ∷ 0 ∷ 1073905675 ∷ 2416115712 ∷ 0 ∷ 1073954830 ∷ 1610694671 ∷ 1073758224 ∷ 1610612753 ∷ []) (2153054208 ∷ 2153185283 ∷ 2153185539 ∷ 2153185795 ∷ 2153513192 ∷ 2153513448 ∷ 2153513704 ∷ 2153513960 ∷ 2153514216 ∷ 2153514472 ∷ 2153514728 ∷ 2153514984 ∷ 2153515240 ∷ 2153515496 ∷ 2153515752 ∷ 2153516008 ∷ 2153516264 ∷ 2153516520 ∷ 2153516776 ∷ 2153517032 ∷ 2153517288 ∷ 2153517544 ∷ 2153517800 ∷ 2153518056 ∷ 2153518312 ∷ 2153518568 ∷ 2153518824 ∷ 2153519080 ∷ 2153519336 ∷ 2153519592 ∷ 2153519848 ∷ 2153520104 ∷ 2153520360 ∷ 2153520616 ∷ 2153520872 ∷ 2153521128 ∷ 2153521384 ∷ 2153521640 ∷ 2153521896 ∷ 2153522152 ∷ 2153522408 ∷ 2153522664 ∷ 2153522920 ∷ 2153523176 ∷ 2153523432 ∷ 2153523688 ∷ 2153523944 ∷ 2153524200 ∷ 2153524456 ∷ 2153524712 ∷ 2153524968 ∷ 2153525224 ∷ 2153525480 ∷ 2153525736 ∷ 2153525992 ∷ 2153526248 ∷ 2153526504 ∷ 2153526760 ∷ 2153527016 ∷ 2153527272 ∷ 2153527528 ∷ 2153527784 ∷ 2153528040 ∷ 2153528296 ∷ 2153528552 ∷ 2153528808 ∷ 2153529064 ∷ 2153529320 ∷ 2153529576 ∷ 2153529832 ∷ 2153530088 ∷ 2153530344 ∷ 2153530600 ∷ 2153530856 ∷ 2153531112 ∷ 2153531368 ∷ 2153531624 ∷ 2153531880 ∷ 2153532136 ∷ 2153532392 ∷ 2153532648 ∷ 2153532904 ∷ 2153533160 ∷ 2153533416 ∷ 2153533672 ∷ 2153533928 ∷ 2153534184 ∷ 2153534440 ∷ 2153534696 ∷ 2153534952 ∷ 2153535208 ∷ 2153535464 ∷ 2153535720 ∷ 2153535976 ∷ 2153536232 ∷ 2153536488 ∷ 2153536744 ∷ 2153537000 ∷ 2153537256 ∷ 2153537512 ∷ 2153537768 ∷ 2153538024 ∷ 2153538280 ∷ 2153538536 ∷ 2153538792 ∷ 2153539048 ∷ 2153539304 ∷ 2153539560 ∷ 2153539816 ∷ 2153540072 ∷ 2153540328 ∷ 2153540584 ∷ 2153540840 ∷ 2153541096 ∷ 2153541352 ∷ 2153541608 ∷ 2153541864 ∷ 2153542120 ∷ 2153542376 ∷ 2153542632 ∷ 2153542888 ∷ 2153543144 ∷ 2153543400 ∷ 2153543656 ∷ 2153543912 ∷ 2153544168 ∷ 2153544424 ∷ 2153544680 ∷ 2153544936 ∷ 2153545192 ∷ 2153545448 ∷ 2153545704 ∷ 2153545960 ∷ 2153546216 ∷ 2153546472 ∷ 2153546728 ∷ 2153546984 ∷ 2153547240 ∷ 2153547496 ∷ 2153547752 ∷ 2153548008 ∷ 2153548264 ∷ 2153548520 ∷ 2153548776 ∷ 2153549032 ∷ 2153549288 ∷ 2153549544 ∷ 2153549800 ∷ 2153550056 ∷ 2153550312 ∷ 2153550568 ∷ 2153550824 ∷ 2153551080 ∷ 2153551336 ∷ 2153551592 ∷ 2153551848 ∷ 2153552104 ∷ 2153552360 ∷ 2153552616 ∷ 2153552872 ∷ 2153553128 ∷ 2153553384 ∷ 2153553640 ∷ 2153553896 ∷ 2153554152 ∷ 2153554408 ∷ 2153554664 ∷ 2153554920 ∷ 2153555176 ∷ 2153555432 ∷ 2153555688 ∷ 2153555944 ∷ 2153556200 ∷ 2153556456 ∷ 2153556712 ∷ 2153556968 ∷ 2153557224 ∷ 2153557480 ∷ 2153557736 ∷ 2153557992 ∷ 2153558248 ∷ 2153558504 ∷ 2153558760 ∷ 2153559016 ∷ 2153559272 ∷ 2153559528 ∷ 2153559784 ∷ 2153560040 ∷ 2153560296 ∷ 2153560552 ∷ 2153560808 ∷ 2153561064 ∷ 2153561320 ∷ 2153561576 ∷ 2153561832 ∷ 2153562088 ∷ 2153562344 ∷ 2153562600 ∷ 2153562856 ∷ 2153563112 ∷ 2153563368 ∷ 2153563624 ∷ 2153563880 ∷ 2153564136 ∷ 2153564392 ∷ 2153564648 ∷ 2153564904 ∷ 2153565160 ∷ 2153565416 ∷ 2153565672 ∷ 2153565928 ∷ 2153566184 ∷ 2153566440 ∷ 2153566696 ∷ 2153566952 ∷ 2153567208 ∷ 2153567464 ∷ 2153567720 ∷ 2153567976 ∷ 2153568232 ∷ 2153568488 ∷ 2153568744 ∷ 2153569000 ∷ 2153569256 ∷ 2153569512 ∷ 2153569768 ∷ 2153570024 ∷ 2153570280 ∷ 2153570536 ∷ 2153570792 ∷ 2153571048 ∷ 2153571304 ∷ 2153571560 ∷ 2153571816 ∷ 2153572072 ∷ 2153572328 ∷ []) } ∷
    record { bytes = (ascii "INFO{TITLE:\"\"DESCRIPTION:\"\"SEMANTICS:Moore,Strict TARGET:Moore}MAIN{INPUTS{}OUTPUTS{r}INVARIANTS{(r r);}}"); expected = Rejected 4 100 } ∷
    record { bytes = (ascii "INFO{TITLE:\"\"DESCRIPTION:\"\"SEMANTICS:Mealy TARGET:Mealy}MAIN{INPUTS{b[8]}OUTPUTS{}ASSERT{b[8]}}"); expected = Rejected 13 89 } ∷
    []

held_0 : texts_held cases_0 ≡ true
unfolding cases_0 text_expansion parsed spec_expansion ◌>>=◌ guard refuse_at nodes_of nodes_from count size
held_0 = refl

cases_1 : List Text
cases_1 =
    record { bytes = (ascii "INFO{TITLE:\"\"DESCRIPTION:\"\"SEMANTICS:Mealy TARGET:Moore}GLOBAL{PARAMETERS{x'=0;}DEFINITIONS{t={1}}}MAIN{ASSERT{}OUTPUTS{c}INPUTS{}}"); expected = Accepted (0 ∷ 0 ∷ 0 ∷ 2415951872 ∷ 0 ∷ 1073790980 ∷ 0 ∷ 2416017408 ∷ 0 ∷ 1073856520 ∷ 1610694665 ∷ 1073758218 ∷ 1610612747 ∷ []) (2155347968 ∷ []) } ∷
    record { bytes = (ascii "INFO{TITLE:\"\"DESCRIPTION:\"t\"SEMANTICS:Mealy TARGET:Mealy TAGS:_,\"t\",\"t\"}MAIN{INPUTS{p;j[4];}OUTPUTS{}REQUIRE{(j[0]);p;}INVARIANTS{}ASSUME{}}"); expected = Accepted (0 ∷ 0 ∷ 536887296 ∷ 536870912 ∷ 1073774595 ∷ 2415984640 ∷ 0 ∷ 1073823750 ∷ 0 ∷ 2416050176 ∷ 0 ∷ 1073889290 ∷ 1610727435 ∷ 1073758220 ∷ 1610612749 ∷ []) (5505024 ∷ 5636100 ∷ 5636356 ∷ 5636612 ∷ 5636868 ∷ []) } ∷
    record { bytes = (73 ∷ 78 ∷ 70 ∷ 79 ∷ 32 ∷ 32 ∷ 123 ∷ 84 ∷ 73 ∷ 84 ∷ 76 ∷ 69 ∷ 58 ∷ 34 ∷ 34 ∷ 68 ∷ 69 ∷ 83 ∷ 67 ∷ 82 ∷ 73 ∷ 80 ∷ 84 ∷ 73 ∷ 79 ∷ 78 ∷ 58 ∷ 34 ∷ 34 ∷ 83 ∷ 69 ∷ 77 ∷ 65 ∷ 78 ∷ 84 ∷ 73 ∷ 67 ∷ 83 ∷ 58 ∷ 77 ∷ 101 ∷ 97 ∷ 108 ∷ 121 ∷ 44 ∷ 83 ∷ 116 ∷ 114 ∷ 105 ∷ 99 ∷ 116 ∷ 32 ∷ 84 ∷ 65 ∷ 82 ∷ 71 ∷ 69 ∷ 84 ∷ 9 ∷ 58 ∷ 77 ∷ 101 ∷ 97 ∷ 108 ∷ 121 ∷ 125 ∷ 32 ∷ 77 ∷ 65 ∷ 73 ∷ 78 ∷ 13 ∷ 32 ∷ 47 ∷ 47 ∷ 125 ∷ 13 ∷ 59 ∷ 10 ∷ 123 ∷ 73 ∷ 78 ∷ 80 ∷ 85 ∷ 84 ∷ 83 ∷ 123 ∷ 125 ∷ 66 ∷ 85 ∷ 11 ∷ 84 ∷ 80 ∷ 85 ∷ 84 ∷ 83 ∷ 9 ∷ 32 ∷ 123 ∷ 112 ∷ 59 ∷ 125 ∷ 82 ∷ 69 ∷ 81 ∷ 85 ∷ 73 ∷ 82 ∷ 69 ∷ 123 ∷ 9 ∷ 10 ∷ 125 ∷ 65 ∷ 83 ∷ 83 ∷ 69 ∷ 82 ∷ 84 ∷ 32 ∷ 32 ∷ 123 ∷ 32 ∷ 47 ∷ 47 ∷ 32 ∷ 99 ∷ 10 ∷ 125 ∷ 71 ∷ 85 ∷ 65 ∷ 82 ∷ 65 ∷ 78 ∷ 84 ∷ 69 ∷ 69 ∷ 123 ∷ 10 ∷ 13 ∷ 71 ∷ 32 ∷ 112 ∷ 59 ∷ 102 ∷ 97 ∷ 108 ∷ 115 ∷ 101 ∷ 10 ∷ 124 ∷ 124 ∷ 88 ∷ 32 ∷ 112 ∷ 32 ∷ 82 ∷ 32 ∷ 112 ∷ 59 ∷ 125 ∷ 125 ∷ []); expected = Rejected 2 90 } ∷
    record { bytes = (ascii "INFO{TITLE:\"t\"DESCRIPTION:\"\"SEMANTICS:Mea//ly,Strict TARGET:Mealy}MAIN{OUTPUTS{}INPUTS{B_0;u;}ASSERT{F B_0}}"); expected = Rejected 4 38 } ∷
    []

held_1 : texts_held cases_1 ≡ true
unfolding cases_1 text_expansion parsed spec_expansion ◌>>=◌ guard refuse_at nodes_of nodes_from count size
held_1 = refl

cases_2 : List Text
cases_2 =
    record { bytes = (ascii "INFO{TITLE:\"\"DESCRIPTION:\"\"SEMANTICS:Moore,Strict TARGET:Moore}GLOBAL{PARAMETERS{}}MAIN{INPUTS{}OUTPUTS{s[4]}PRESET{s[3]->true;s[0]&&s[0]}}"); expected = Accepted (0 ∷ 536920064 ∷ 0 ∷ 1610629122 ∷ 536870912 ∷ 536870912 ∷ 1073807365 ∷ 1073790982 ∷ 0 ∷ 0 ∷ 805453824 ∷ 3489792010 ∷ 1073856523 ∷ 0 ∷ 2416132096 ∷ 0 ∷ 1073971215 ∷ 0 ∷ 1610874897 ∷ 1073938450 ∷ 1610612755 ∷ []) (2154299396 ∷ 2154299652 ∷ 2154299908 ∷ 2154300164 ∷ []) } ∷
    record { bytes = (ascii "INFO{TITLE:\"\"DESCRIPTION:\"\"SEMANTICS:Moore TARGET:Moore}MAIN{INPUTS{@;m;}OUTPUTS{}GUARANTEE{m W X[1-2]@;}}"); expected = Rejected 11 99 } ∷
    record { bytes = (ascii "INFO{TITLE:\"\"DESCRIPTION:\"\"SEMANTICS:Mealy TARGET:Mealy}GLOBAL{PARAMETERS{}DEFINITIONS{In=0*2;}}MAIN{GUARANTEE{(true);X u EQUIV _[0]W _[1];}OUTPUTS{}MAIN{_[In];u;}}"); expected = Rejected 4 149 } ∷
    record { bytes = (ascii "INFO{TITLE:\"\"DESCRIPTION:\"\"SEMANTICS:Mealy TARGET:Mealy}GLOBAL{DEFINITIONS{enum j=t:1,0;s=x'->x';0}}MAIN{INPUTS{j u;x';}OUTPUTS{}PRESET{u[0];&&[a1 IN{0,1..2},x<-{1}]s}}"); expected = Rejected 4 97 } ∷
    []

held_2 : texts_held cases_2 ≡ true
unfolding cases_2 text_expansion parsed spec_expansion ◌>>=◌ guard refuse_at nodes_of nodes_from count size
held_2 = refl

cases_3 : List Text
cases_3 =
    record { bytes = (ascii "INFO{TITLE:\"\"DESCRIPTION:\"\"SEMANTICS:Moore,Strict TARGET:Moore}MAIN{INPUTS{a;}OUTPUTS{}INITIALLY{SUM[q ELEM{}(*){0,1..2},z<-{}]z IN{}}}"); expected = Accepted (268435456 ∷ 0 ∷ 0 ∷ 0 ∷ 805355520 ∷ 3489693700 ∷ 1073758213 ∷ 0 ∷ 2416033792 ∷ 0 ∷ 1073872905 ∷ 0 ∷ 1610776587 ∷ 1073840140 ∷ 1610612749 ∷ []) (4915200 ∷ []) } ∷
    record { bytes = (ascii "INFO{TITLE:\"\"DESCRIPTION:\"\"SEMANTICS:Mealy TARGET:Mealy}MAIN{INPUTS{a;b[2]}OUTPUTS{}ASSERT{(*)b<->i}}"); expected = Rejected 4 94 } ∷
    record { bytes = (ascii "INFO{TITLE:\"\"DESCRIPTION:\"\"SEMANTICS:Mealy TARGET:Mealy}GLOBAL{}MAIN{INPUTS{A;r;}OUTPUTS{s[1]}ASSERT{G s[2]W A;!(0-1)IN{};}}"); expected = Rejected 13 103 } ∷
    record { bytes = (ascii "INFO{TITLE:\"\"DESCRIPTION:\"t\"SEMANTICS:Mealy TARGET:Mealy}GLOBAL{}MAIN{INITIALLY{2<=3;(q EQUIV q W false);}OUTPUTS{}GUARANTEES{}INPUTS{q;}ASSERT{F[(2MUL 2)*01:1]q;q->q;}}"); expected = Rejected 11 144 } ∷
    []

held_3 : texts_held cases_3 ≡ true
unfolding cases_3 text_expansion parsed spec_expansion ◌>>=◌ guard refuse_at nodes_of nodes_from count size
held_3 = refl

cases_4 : List Text
cases_4 =
    record { bytes = (ascii "EXISTS{TITLE:\"\"DESCRIPTION:\"\"SEMANTICS:Mealy,Strict TARGET:Moore}MAIN{INPUTS{t[3];}OUTPUTS{h[2];v;}ASSERT{F SEMANTICS v;}}"); expected = Rejected 4 0 } ∷
    record { bytes = (ascii "!=INFO{TITLE:\"\"DESCRIPTION:\"\"SEMANTICS:Moore TARGET:Moore}MAIN{ASSUME{}OUTPUTS{y;}INPUTS{}}"); expected = Rejected 4 0 } ∷
    record { bytes = (ascii "INFO{TITLE:\"\"DESCRIPTION:\"\"SEMANTICS:Moore TARGET:Mealy}MAIN{INPUTS{In;}ASSUME{}UTPUTS{}}"); expected = Rejected 4 80 } ∷
    record { bytes = (ascii "INFO{TITLE:\"\"DESCRIPTION:\"\"SEMANTICS:Mealy TARGET:Mealy}MAIN{INPUTS{a;b[2]}OUTPUTS{}ASSERT{||true{}*}}"); expected = Rejected 4 93 } ∷
    []

held_4 : texts_held cases_4 ≡ true
unfolding cases_4 text_expansion parsed spec_expansion ◌>>=◌ guard refuse_at nodes_of nodes_from count size
held_4 = refl

cases_5 : List Text
cases_5 =
    record { bytes = (ascii "INFO{TITLE:\"t\"DESCRIPTION:\"t\"SEMANTICS:Mealy TARGET:Mealy}GLOBAL{DEFINITIONS{enum n=p:01*;}}MAIN{INPUTS{o;f;}OUTPUTS{n z;}ASSUME{}}"); expected = Accepted (0 ∷ 0 ∷ 0 ∷ 2415951872 ∷ 0 ∷ 1073790980 ∷ 536903680 ∷ 805404672 ∷ 536920064 ∷ 1073856520 ∷ 2416066560 ∷ 0 ∷ 1073905675 ∷ 1610694668 ∷ 1073758221 ∷ 1610612750 ∷ []) (6815744 ∷ 6946816 ∷ 2155282435 ∷ 2155282691 ∷ 2155282947 ∷ []) } ∷
    record { bytes = (ascii "INFO{TITLE:\"\"DESCRIPTION:\"\"SEMANTICS:Moore TARGET:Mealy}GLOBAL{}MAIN{OUTPUTS{_;}INPUTS{k}ASSUME{G true;3<-{};}}"); expected = Accepted (0 ∷ 0 ∷ 0 ∷ 2415951872 ∷ 0 ∷ 2415984640 ∷ 268435456 ∷ 1073823750 ∷ 1073790983 ∷ 0 ∷ 2416066560 ∷ 0 ∷ 1073905675 ∷ 1610743820 ∷ 1073758221 ∷ 1610612750 ∷ []) (5701632 ∷ 2152529920 ∷ []) } ∷
    record { bytes = (ascii "INFO{TIT*/LE:\"\"DESCRIPTION:\"\"SEMANTICS:Mealy TARGET:Mealy TAGS:_}GLOBAL{DEFINITIONS{enum i=x':010,0**;}}MAIN{INPUTS{A[4]}OUTPUTS{}ASSERT"); expected = Rejected 4 5 } ∷
    record { bytes = (ascii "INFO{TITLE:\"\"DESCRIPTION:\"\"SEMANTICS:Mealy TARGET:Mealy}MAIN{INPUTS{a;b[2]}OUTPUTS{}ASSERT{+[0<=i<2]}}"); expected = Rejected 4 100 } ∷
    []

held_5 : texts_held cases_5 ≡ true
unfolding cases_5 text_expansion parsed spec_expansion ◌>>=◌ guard refuse_at nodes_of nodes_from count size
held_5 = refl

cases_6 : List Text
cases_6 =
    record { bytes = (ascii "INFO{TITLE:\"\"DESCRIPTION:\"\"SEMANTICS:Mealy TARGET:Mealy}GLOBAL{DEFINITIONS{n0=0;n1=0;n2=0;n3=0;n4=0;n5=0;n6=0;n7=0;n8=0;n9=0;n10=0;n11=0;n12=0;n13=0;n14=0;n15=0;n16=0;n17=0;n18=0;n19=0;n20=0;n21=0;n22=0;n23=0;n24=0;n25=0;n26=0;n27=0;n28=0;n29=0;n30=0;n31=0;n32=0;n33=0;n34=0;n35=0;n36=0;n37=0;n38=0;n39=0;n40=0;n41=0;n42=0;n43=0;n44=0;n45=0;n46=0;n47=0;n48=0;n49=0;n50=0;n51=0;n52=0;n53=0;n54=0;n55=0;n56=0;n57=0;n58=0;n59=0;n60=0;n61=0;n62=0;n63=0;n64=0;n65=0;n66=0;n67=0;n68=0;n69=0;n70=0;n71=0;n72=0;n73=0;n74=0;n75=0;n76=0;n77=0;n78=0;n79=0;n80=0;n81=0;n82=0;n83=0;n84=0;n85=0;n86=0;n87=0;n88=0;n89=0;n90=0;n91=0;n92=0;n93=0;n94=0;n95=0;n96=0;n97=0;n98=0;n99=0;n100=0;n101=0;n102=0;n103=0;n104=0;n105=0;n106=0;n107=0;n108=0;n109=0;n110=0;n111=0;n112=0;n113=0;n114=0;n115=0;n116=0;n117=0;n118=0;n119=0;n120=0;n121=0;n122=0;n123=0;n124=0;n125=0;n126=0;n127=0;n128=0;n129=0;n130=0;n131=0;n132=0;n133=0;n134=0;n135=0;n136=0;n137=0;n138=0;n139=0;n140=0;n141=0;n142=0;n143=0;n144=0;n145=0;n146=0;n147=0;n148=0;n149=0;n150=0;n151=0;n152=0;n153=0;n154=0;n155=0;n156=0;n157=0;n158=0;n159=0;n160=0;n161=0;n162=0;n163=0;n164=0;n165=0;n166=0;n167=0;n168=0;n169=0;n170=0;n171=0;n172=0;n173=0;n174=0;n175=0;n176=0;n177=0;n178=0;n179=0;n180=0;n181=0;n182=0;n183=0;n184=0;n185=0;n186=0;n187=0;n188=0;n189=0;n190=0;n191=0;n192=0;n193=0;n194=0;n195=0;n196=0;n197=0;n198=0;n199=0;n200=0;n201=0;n202=0;n203=0;n204=0;n205=0;n206=0;n207=0;n208=0;n209=0;n210=0;n211=0;n212=0;n213=0;n214=0;n215=0;n216=0;n217=0;n218=0;n219=0;n220=0;n221=0;n222=0;n223=0;n224=0;n225=0;n226=0;n227=0;n228=0;n229=0;n230=0;n231=0;n232=0;n233=0;n234=0;n235=0;n236=0;n237=0;n238=0;n239=0;n240=0;n241=0;n242=0;n243=0;n244=0;n245=0;n246=0;n247=0;n248=0;n249=0;n250=0;n251=0;n252=0;n253=0;n254=0;n255=0;n256=0;}}MAIN{INPUTS{}OUTPUTS{}}"); expected = Rejected 8 1757 } ∷
    record { bytes = (ascii "INFO{TITLE:\"\"DESCRIPTION:\"\"SEMANTICS:Moore TARGET:Moore}GLOBAL{PARAMETERS{z=1;}DEFINITIONS{w=2;}}MAIN{INITIALLY{}GUARANTEES{(w LEQ z);x' x'}OUTPUTS{SUM x';}INPUTS{}}"); expected = Rejected 4 137 } ∷
    record { bytes = (ascii "INFO{TITLE:\"\"DESCRIPTION:\"\"SEMANTICS:Mealy TARGET:Moore}GLOBAL{}MAIN{INPUTS{r[1];r[1]}OUTPUTS{}REQUIRE{}}"); expected = Rejected 7 81 } ∷
    record { bytes = (ascii "INFO{TITLE:\"\"DESCRIPTION DESCRIPTION:\"\"SEMANTICS:Mealy TARGET:Mealy}MAIN{INPUTS{n}OUTPUTS{}PRESET{}ASSUMPTIONS{n W n W n}}"); expected = Rejected 4 25 } ∷
    []

held_6 : texts_held cases_6 ≡ true
unfolding cases_6 text_expansion parsed spec_expansion ◌>>=◌ guard refuse_at nodes_of nodes_from count size
held_6 = refl

cases_7 : List Text
cases_7 =
    record { bytes = (ascii "INFO{TITLE:\"\"DESCRIPTION:\"\"SEMANTICS:Moore TARGET:Moore}GLOBAL{}MAIN{INPUTS{}OUTPUTS{m;t;}PRESET{}INVARIANTS{}}"); expected = Accepted (0 ∷ 0 ∷ 0 ∷ 2415951872 ∷ 0 ∷ 1073790980 ∷ 0 ∷ 2416017408 ∷ 0 ∷ 1073856520 ∷ 1610694665 ∷ 1073758218 ∷ 1610612747 ∷ []) (2153054208 ∷ 2153185280 ∷ []) } ∷
    record { bytes = (ascii "INFO{TITLE:\"\"DESCRIPTION:\"\"SEMANTICS:Moore TARGET:Mealy}MAIN{INPUTS{a;b[2]}OUTPUTS{}ASSERT{1 1IN true b}}"); expected = Rejected 4 93 } ∷
    record { bytes = (ascii "INFO{TITLE:\"\"DESCRIPTION:\"\"SEMANTICS:Moore TARGET:Moore}MAIN{INPUTS{}OUTPUTS{t}6NVARIANTS{F[4:4]true;}}"); expected = Rejected 4 79 } ∷
    record { bytes = (ascii "INFO{TITLE:\"\"DESCRIPTION:\"\"SEMANTICS:Moore TARGET:Moore}GLOBAL{PARAMETERS{}DEFINITIONS{enum Xa=j:0**j:1*1,101;}}MAIN{INPUTS{Xa Xa;}ASSUMPTIONS{}OUTPUTS{}}"); expected = Rejected 7 100 } ∷
    []

held_7 : texts_held cases_7 ≡ true
unfolding cases_7 text_expansion parsed spec_expansion ◌>>=◌ guard refuse_at nodes_of nodes_from count size
held_7 = refl

cases_8 : List Text
cases_8 =
    record { bytes = (ascii "INFO{TITLE:\"\"DESCRIPTION:\"\"SEMANTICS:Mealy TARGET:Mealy}MAIN{INPUTS{a}OUTPUTS{}ASSERT{!!!!!!!!!!!!!!!!!!!!!!!!!!!!!!!!!!!!!!!!!!!!!!!!!!!!!!!!!!!!!!!!!!!!!!!!!!!!!!!!!!!!!!!!!!!!!!!!!!!!!!!!!!!!!!!!!!!!!!!!!!!!!!!!!!!!!!!!!!!!!!!!!!!!!!!!!!!!!!!!!!!!!!!!!!!!!!!!!!!!!!!!!!!!!!!!!!!!!!!!!!!!!!!!!!!!!!!!!!!!!!!!!!!!!!!!!!!!!!!!!!!!!!!!!!!!!!!!a}}"); expected = Rejected 5 86 } ∷
    record { bytes = (ascii "INFO{TITLE:\"\"DESCRIPTION:\"\"SEMANTICS:Moore TARGET:Moore}GLOBAL{PARAMETERS{c=3/2;}DEFINITIONS{enum e=v:0z:1,1;j=OR[2<h<c]true}}MAIN{OUTPUTS{e l;}INITIALLY{}INPUTS{}}"); expected = Accepted (0 ∷ 0 ∷ 0 ∷ 2415951872 ∷ 0 ∷ 1073790980 ∷ 0 ∷ 2416017408 ∷ 0 ∷ 1073856520 ∷ 1610694665 ∷ 1073758218 ∷ 1610612747 ∷ []) (2156724225 ∷ []) } ∷
    record { bytes = (ascii "INFO{TITLE:\"\"DESCRIPTION:\"\"SEMANTICS:Mealy TARGET:Mealy}MAIN{INPUTS{a}OUTPUTS{}ASSERT{7-7==1}}"); expected = Accepted (0 ∷ 0 ∷ 0 ∷ 2415951872 ∷ 0 ∷ 1073790980 ∷ 268435456 ∷ 2416017408 ∷ 0 ∷ 1073856520 ∷ 1610694665 ∷ 1073758218 ∷ 1610612747 ∷ []) (4456448 ∷ []) } ∷
    record { bytes = (ascii "INFO{TITLE:\"\"DESCRIPTION:\"\"SEMANTICS:Moore TARGET:Moore}GLOBAL{PARAMETERS{v=MIN{0,1};}DEFINITIONS{enum w=m:0;}}MAIN{INPUTS{x'[4];@;}OUTPUTS{}ASSERT{m;_>=3;}}"); expected = Rejected 6 150 } ∷
    []

held_8 : texts_held cases_8 ≡ true
unfolding cases_8 text_expansion parsed spec_expansion ◌>>=◌ guard refuse_at nodes_of nodes_from count size
held_8 = refl

cases_9 : List Text
cases_9 =
    record { bytes = (ascii "INFO{TITLE:\"\"DESCRIPTION:\"\"SEMANTICS:Mealy TARGET:Mealy}MAIN{INPUTS{a;b[2]}OUTPUTS{}ASSERT{1 1<X<X}}"); expected = Rejected 4 93 } ∷
    record { bytes = (ascii "INFO{TITLE:\"\"DESCRIPTION:\"\"SEMANTICS:Mealy TARGET:Mealy}MAIN{INPUTS{nnnnnnnnnnnnnnnnnnnnnnnnnnnnnnnnnnnnnnnnnnnnnnnnnnnnnnnnnnnnnnnn}OUTPUTS{}}"); expected = Accepted (0 ∷ 0 ∷ 0 ∷ 2415951872 ∷ 0 ∷ 1073790980 ∷ 0 ∷ 2416017408 ∷ 0 ∷ 1073856520 ∷ 1610694665 ∷ 1073758218 ∷ 1610612747 ∷ []) (4456448 ∷ []) } ∷
    record { bytes = (ascii "INFO{TITLE:\"\"DESCRIPTION:\"\"SEMANTICS:Moore TARGET:Moore}GLOBAL{PARAMETERS{}DEFINITIONS{enum v=a1:010,00s:000;}}MAIN{INPUTS{k[2]}OUTPUTS{n;}INITIALLY{(n);X a1!=k}}"); expected = Rejected 10 101 } ∷
    record { bytes = (ascii "INFO{TITLE:\"\"DESCRIPTION:\"\"SEMANTICS:Moore TARGET:Mealy}MAIN{INPUTS{a;b[2]}OUTPUTS{}ASSERT{MIN!}}"); expected = Rejected 4 94 } ∷
    []

held_9 : texts_held cases_9 ≡ true
unfolding cases_9 text_expansion parsed spec_expansion ◌>>=◌ guard refuse_at nodes_of nodes_from count size
held_9 = refl

cases_10 : List Text
cases_10 =
    record { bytes = (ascii "INFO{TITLE:\"t\"DESCRIP"); expected = Rejected 4 14 } ∷
    record { bytes = (ascii "INFO{TITLE:\"\"DESCRIPTION:\"\"SEMANTICS:Mealy TARGET:Mealy}MAIN{INPUTS{a;b[2]}OUTPUTS{}ASSERT{X[1]&&&&[i IN{1}](\\)<->a a}}"); expected = Rejected 4 97 } ∷
    record { bytes = (ascii "INFO{TITLE:\"\"DESCRIPTION:\"\"SEMANTICS:Mealy TARGET:Mealy}MAIN{INPUTS{a;b[2]}OUTPUTS{}ASSERT{1(*)(\\)}}"); expected = Rejected 4 95 } ∷
    record { bytes = (ascii "INFO{TITLE:\"\"DESCRIPTION:\"\"SEMANTICS:Moore TARGET:Moore TAGS:\"t\",\"t\"}GLOBAL{DEFINITIONS{enum u=B_0:*00;t={4};}}MAIN{INPUTS{u f;}OUTPUTS{d}INITIALLY{F[MAX({}):5]d}}"); expected = Rejected 11 150 } ∷
    []

held_10 : texts_held cases_10 ≡ true
unfolding cases_10 text_expansion parsed spec_expansion ◌>>=◌ guard refuse_at nodes_of nodes_from count size
held_10 = refl

cases_11 : List Text
cases_11 =
    record { bytes = (ascii "INFO{TITLE:\"\"DESCRIPTION:\"\"SEMANTICS:Mealy TARGET:Mealy}MAIN{INPUTS{b[255]}OUTPUTS{}}"); expected = Accepted (0 ∷ 0 ∷ 0 ∷ 2415951872 ∷ 0 ∷ 1073790980 ∷ 0 ∷ 2416017408 ∷ 0 ∷ 1073856520 ∷ 1610694665 ∷ 1073758218 ∷ 1610612747 ∷ []) (4456703 ∷ 4456959 ∷ 4457215 ∷ 4457471 ∷ 4457727 ∷ 4457983 ∷ 4458239 ∷ 4458495 ∷ 4458751 ∷ 4459007 ∷ 4459263 ∷ 4459519 ∷ 4459775 ∷ 4460031 ∷ 4460287 ∷ 4460543 ∷ 4460799 ∷ 4461055 ∷ 4461311 ∷ 4461567 ∷ 4461823 ∷ 4462079 ∷ 4462335 ∷ 4462591 ∷ 4462847 ∷ 4463103 ∷ 4463359 ∷ 4463615 ∷ 4463871 ∷ 4464127 ∷ 4464383 ∷ 4464639 ∷ 4464895 ∷ 4465151 ∷ 4465407 ∷ 4465663 ∷ 4465919 ∷ 4466175 ∷ 4466431 ∷ 4466687 ∷ 4466943 ∷ 4467199 ∷ 4467455 ∷ 4467711 ∷ 4467967 ∷ 4468223 ∷ 4468479 ∷ 4468735 ∷ 4468991 ∷ 4469247 ∷ 4469503 ∷ 4469759 ∷ 4470015 ∷ 4470271 ∷ 4470527 ∷ 4470783 ∷ 4471039 ∷ 4471295 ∷ 4471551 ∷ 4471807 ∷ 4472063 ∷ 4472319 ∷ 4472575 ∷ 4472831 ∷ 4473087 ∷ 4473343 ∷ 4473599 ∷ 4473855 ∷ 4474111 ∷ 4474367 ∷ 4474623 ∷ 4474879 ∷ 4475135 ∷ 4475391 ∷ 4475647 ∷ 4475903 ∷ 4476159 ∷ 4476415 ∷ 4476671 ∷ 4476927 ∷ 4477183 ∷ 4477439 ∷ 4477695 ∷ 4477951 ∷ 4478207 ∷ 4478463 ∷ 4478719 ∷ 4478975 ∷ 4479231 ∷ 4479487 ∷ 4479743 ∷ 4479999 ∷ 4480255 ∷ 4480511 ∷ 4480767 ∷ 4481023 ∷ 4481279 ∷ 4481535 ∷ 4481791 ∷ 4482047 ∷ 4482303 ∷ 4482559 ∷ 4482815 ∷ 4483071 ∷ 4483327 ∷ 4483583 ∷ 4483839 ∷ 4484095 ∷ 4484351 ∷ 4484607 ∷ 4484863 ∷ 4485119 ∷ 4485375 ∷ 4485631 ∷ 4485887 ∷ 4486143 ∷ 4486399 ∷ 4486655 ∷ 4486911 ∷ 4487167 ∷ 4487423 ∷ 4487679 ∷ 4487935 ∷ 4488191 ∷ 4488447 ∷ 4488703 ∷ 4488959 ∷ 4489215 ∷ 4489471 ∷ 4489727 ∷ 4489983 ∷ 4490239 ∷ 4490495 ∷ 4490751 ∷ 4491007 ∷ 4491263 ∷ 4491519 ∷ 4491775 ∷ 4492031 ∷ 4492287 ∷ 4492543 ∷ 4492799 ∷ 4493055 ∷ 4493311 ∷ 4493567 ∷ 4493823 ∷ 4494079 ∷ 4494335 ∷ 4494591 ∷ 4494847 ∷ 4495103 ∷ 4495359 ∷ 4495615 ∷ 4495871 ∷ 4496127 ∷ 4496383 ∷ 4496639 ∷ 4496895 ∷ 4497151 ∷ 4497407 ∷ 4497663 ∷ 4497919 ∷ 4498175 ∷ 4498431 ∷ 4498687 ∷ 4498943 ∷ 4499199 ∷ 4499455 ∷ 4499711 ∷ 4499967 ∷ 4500223 ∷ 4500479 ∷ 4500735 ∷ 4500991 ∷ 4501247 ∷ 4501503 ∷ 4501759 ∷ 4502015 ∷ 4502271 ∷ 4502527 ∷ 4502783 ∷ 4503039 ∷ 4503295 ∷ 4503551 ∷ 4503807 ∷ 4504063 ∷ 4504319 ∷ 4504575 ∷ 4504831 ∷ 4505087 ∷ 4505343 ∷ 4505599 ∷ 4505855 ∷ 4506111 ∷ 4506367 ∷ 4506623 ∷ 4506879 ∷ 4507135 ∷ 4507391 ∷ 4507647 ∷ 4507903 ∷ 4508159 ∷ 4508415 ∷ 4508671 ∷ 4508927 ∷ 4509183 ∷ 4509439 ∷ 4509695 ∷ 4509951 ∷ 4510207 ∷ 4510463 ∷ 4510719 ∷ 4510975 ∷ 4511231 ∷ 4511487 ∷ 4511743 ∷ 4511999 ∷ 4512255 ∷ 4512511 ∷ 4512767 ∷ 4513023 ∷ 4513279 ∷ 4513535 ∷ 4513791 ∷ 4514047 ∷ 4514303 ∷ 4514559 ∷ 4514815 ∷ 4515071 ∷ 4515327 ∷ 4515583 ∷ 4515839 ∷ 4516095 ∷ 4516351 ∷ 4516607 ∷ 4516863 ∷ 4517119 ∷ 4517375 ∷ 4517631 ∷ 4517887 ∷ 4518143 ∷ 4518399 ∷ 4518655 ∷ 4518911 ∷ 4519167 ∷ 4519423 ∷ 4519679 ∷ 4519935 ∷ 4520191 ∷ 4520447 ∷ 4520703 ∷ 4520959 ∷ 4521215 ∷ 4521471 ∷ 4521727 ∷ []) } ∷
    record { bytes = (ascii "INFO{TITLE TITLE:\"\"DESCRIPTION:\"\"SEMANTICS:Mealy,Strict TARGET:Moore}GLOBAL{}MAIN{OUTPUTS{s;}INPUTS{}REQUIRE{}}"); expected = Rejected 4 11 } ∷
    record { bytes = (ascii "INFO{TITLE:\"\"DESCRIPTION:\"\"SEMANTICS:Mealy,Strict TARGET:Moore}MAIN{ASSUMPTIONS{}INPUTS{m;y;}INVARIANTS{}OUTPUTS{Xa[4];}}"); expected = Accepted (0 ∷ 0 ∷ 0 ∷ 0 ∷ 805355520 ∷ 3489693700 ∷ 1073758213 ∷ 0 ∷ 2416033792 ∷ 0 ∷ 1073872905 ∷ 0 ∷ 1610776587 ∷ 1073840140 ∷ 1610612749 ∷ []) (5767168 ∷ 5898240 ∷ 2154889220 ∷ 2154889476 ∷ 2154889732 ∷ 2154889988 ∷ []) } ∷
    record { bytes = (ascii "INFO{TITLE:\"\"DESCRIPTION:\"\"SEMANTICS:Mealy,Strict TARGET:Mealy}GLOBAL{DEFINITIONS{In={00}(*){};}}MAIN{ASSERT{MAX In>4||m[33];}INPUTS{}OUTPUTS{x[4];i;p;m[205];}}"); expected = Rejected 11 109 } ∷
    []

held_11 : texts_held cases_11 ≡ true
unfolding cases_11 text_expansion parsed spec_expansion ◌>>=◌ guard refuse_at nodes_of nodes_from count size
held_11 = refl

-- Written by the second converter: cases with its answers, each computed from the definitions.
use Rattle.std.specs.Prelude.{true, List, [], ◌∷◌, ◌≡◌, refl}
use Rattle.node.specs.Postorder.{size, nodes_from}
use Rattle.node.specs.Written.{nodes_of, count}
use Rattle.node.specs.Result.{◌>>=◌, guard}
use Rattle.language.specs.Bytes.{ascii}
use Rattle.language.specs.Places.{refuse_at}
use Rattle.language.specs.Parsing.{parsed}
use Rattle.language.specs.Reading.{text_expansion, spec_expansion}
use Rattle.second_cases.specs.Held.{Accepted, Rejected, Text, texts_held}

cases_0 : List Text
cases_0 =
    record { bytes = (ascii "INFO{TITLE:\"\"DESCRIPTION:\"\"SEMANTICS:Mealy TARGET:Moore}MAIN{REQUIRE{B_0 R a[2];a[0+4+1];X[01]a[(0)+2]<->a[1]}INPUTS{B_0;a[3];m;r;}OUTPUTS{}}"); expected = Rejected 13 80 } ∷
    record { bytes = (ascii "INFO{TITLE:\"\"DESCRIPTION:\"\"SEMANTICS:Mealy,Strict TARGET:Mealy}MAIN{INPUTS{r;}OUTPUTS{_;}ASSERT{}}"); expected = Accepted (0 ∷ 0 ∷ 0 ∷ 0 ∷ 805355520 ∷ 3489693700 ∷ 1073758213 ∷ 0 ∷ 2416033792 ∷ 0 ∷ 1073872905 ∷ 0 ∷ 1610776587 ∷ 1073840140 ∷ 1610612749 ∷ []) (4915200 ∷ 2153119744 ∷ []) } ∷
    record { bytes = (ascii "INFO{TITLE:\"\"DESCRIPTION:\"\"SEMANTICS:Moore TARGET:Moore}MAIN{INPUTS{m;}OUTPUTS{}ASSERT{F m R m;}}"); expected = Accepted (0 ∷ 0 ∷ 0 ∷ 2415951872 ∷ 0 ∷ 1073790980 ∷ 536870912 ∷ 2684452864 ∷ 536870912 ∷ 3221340168 ∷ 2416066560 ∷ 0 ∷ 1073905675 ∷ 1610694668 ∷ 1073758221 ∷ 1610612750 ∷ []) (4456448 ∷ []) } ∷
    record { bytes = (ascii "INFO{TITLE:\"\"DESCRIPTION:\"\"SEMANTICS:Mealy TARGET:Moore}MAIN{INPUTS{x;p;}OUTPUTS{a;}PRESET{&&[1<r<=1]false;}INVARIANTS{&&[2<o<=2]x}}"); expected = Accepted (0 ∷ 0 ∷ 0 ∷ 2415951872 ∷ 0 ∷ 1073790980 ∷ 0 ∷ 2416017408 ∷ 0 ∷ 1073856520 ∷ 1610694665 ∷ 1073758218 ∷ 1610612747 ∷ []) (4456448 ∷ 4587520 ∷ 2152792064 ∷ []) } ∷
    []

held_0 : texts_held cases_0 ≡ true
unfolding cases_0 text_expansion parsed spec_expansion ◌>>=◌ guard refuse_at nodes_of nodes_from count size
held_0 = refl

cases_1 : List Text
cases_1 =
    record { bytes = (ascii "INFO{TITLE:\"\"DESCRIPTION:\"\"SEMANTICS:Moore,Strict TARGET:Moore}MAIN{INPUTS{}INITIALLY{@;false;}OUTPUTS{@;}}"); expected = Accepted (536870912 ∷ 268435456 ∷ 1073741825 ∷ 0 ∷ 0 ∷ 0 ∷ 805388288 ∷ 3489726470 ∷ 1073790983 ∷ 0 ∷ 2416066560 ∷ 0 ∷ 1073905675 ∷ 0 ∷ 1610809357 ∷ 1073872910 ∷ 1610645519 ∷ []) (2154233856 ∷ []) } ∷
    record { bytes = (ascii "INFO{TITLE:\"\"DESCRIPTION:\"\"SEMANTICS:Mealy TARGET:Moore}GLOBAL{PARAMETERS{}DEFINITIONS{enum k=Xa:*;enum p=In:*0*d:011,111;}}MAIN{OUTPUTS{}ASSERT{}INPUTS{k g;}}"); expected = Accepted (0 ∷ 0 ∷ 0 ∷ 2415951872 ∷ 0 ∷ 1073790980 ∷ 0 ∷ 2416017408 ∷ 0 ∷ 1073856520 ∷ 1610694665 ∷ 1073758218 ∷ 1610612747 ∷ []) (10158081 ∷ []) } ∷
    record { bytes = (ascii "INFO{TITLE:\"\"DESCRIPTION:\"\"SEMANTICS:Mealy,Strict TARGET:Mealy}GLOBAL{DEFINITIONS{enum a1=g:1,1;}}MAIN{INPUTS{e[2];}REQUIRE{4<01-0EQUIV e[1]}OUTPUTS{}}"); expected = Accepted (0 ∷ 0 ∷ 0 ∷ 268435456 ∷ 536887296 ∷ 1879097348 ∷ 805388288 ∷ 3489693702 ∷ 1073758215 ∷ 268435456 ∷ 536887296 ∷ 1879195658 ∷ 2416099328 ∷ 0 ∷ 1073938445 ∷ 0 ∷ 1610842127 ∷ 1073872912 ∷ 1610612753 ∷ []) (7208962 ∷ 7209218 ∷ []) } ∷
    record { bytes = (ascii "INFO{TITLE:\"\"DESCRIPTION:\"\"SEMANTICS:Mealy,Strict TARGET:Mealy}MAIN{INPUTS{e;}OUTPUTS{}PRESET{}}"); expected = Accepted (0 ∷ 0 ∷ 0 ∷ 0 ∷ 805355520 ∷ 3489693700 ∷ 1073758213 ∷ 0 ∷ 2416033792 ∷ 0 ∷ 1073872905 ∷ 0 ∷ 1610776587 ∷ 1073840140 ∷ 1610612749 ∷ []) (4915200 ∷ []) } ∷
    []

held_1 : texts_held cases_1 ≡ true
unfolding cases_1 text_expansion parsed spec_expansion ◌>>=◌ guard refuse_at nodes_of nodes_from count size
held_1 = refl

cases_2 : List Text
cases_2 =
    record { bytes = (ascii "INFO{TITLE:\"\"DESCRIPTION:\"\"SEMANTICS:Moore TARGET:Moore}GLOBAL{DEFINITIONS{enum v=b:100;enum w=i:1*0,*00p:011}}MAIN{INPUTS{}OUTPUTS{v @;e;f;}INITIALLY{}PRESET{}}"); expected = Accepted (0 ∷ 0 ∷ 0 ∷ 2415951872 ∷ 0 ∷ 1073790980 ∷ 536870912 ∷ 536887296 ∷ 805421056 ∷ 1073840136 ∷ 536903680 ∷ 805470208 ∷ 1073889291 ∷ 2416115712 ∷ 0 ∷ 1073954830 ∷ 1610694671 ∷ 1073758224 ∷ 1610612753 ∷ []) (2156265475 ∷ 2156265731 ∷ 2156265987 ∷ 2156396544 ∷ 2156527616 ∷ []) } ∷
    record { bytes = (ascii "INFO{TITLE:\"\"DESCRIPTION:\"\"SEMANTICS:Mealy TARGET:Mealy}MAIN{INPUTS{a;b[2]}OUTPUTS{}ASSERT{i}}"); expected = Rejected 6 91 } ∷
    record { bytes = (ascii "INFO{TITLE:\"\"DESCRIPTION:\"\"SEMANTICS:Mealy,Strict TARGET:Mealy}GLOBAL{PARAMETERS{}DEFINITIONS{enum e=a:1*0,*0;h=4MUL 1}}MAIN{GUARANTEE{||[9-1<f<1]k}OUTPUTS{}INPUTS{k;}}"); expected = Rejected 10 107 } ∷
    record { bytes = (ascii "INFO{TITLE:\"\"DESCRIPTION:\"\"SEMANTICS:Mealy TARGET:Mealy}MAIN{INPUTS{a[200];b[56]}OUTPUTS{}}"); expected = Rejected 15 75 } ∷
    []

held_2 : texts_held cases_2 ≡ true
unfolding cases_2 text_expansion parsed spec_expansion ◌>>=◌ guard refuse_at nodes_of nodes_from count size
held_2 = refl

cases_3 : List Text
cases_3 =
    record { bytes = (ascii "INFO{TITLE:\"t\"DESCRIPTION:\"\"SEMANTICS:Moore,Strict TARGET:Mealy}GLOBAL{DEFINITIONS{h={0,1};}}MAIN{OUTPUTS{}INPUTS{A;}REQUIRE{}}"); expected = Accepted (0 ∷ 0 ∷ 0 ∷ 0 ∷ 805355520 ∷ 3489693700 ∷ 1073758213 ∷ 0 ∷ 2416033792 ∷ 0 ∷ 1073872905 ∷ 0 ∷ 1610776587 ∷ 1073840140 ∷ 1610612749 ∷ []) (7471104 ∷ []) } ∷
    record { bytes = (ascii "INFO{TITLE:\"\"DESCRIPTION:\"\"SEMANTICS:Mealy TARGET:Mealy}GLOBAL{DEFINITIONS{enum T=A:********}}MAIN{INPUTS{}OUTPUTS{}}"); expected = Accepted (0 ∷ 0 ∷ 0 ∷ 2415951872 ∷ 0 ∷ 1073790980 ∷ 0 ∷ 2416017408 ∷ 0 ∷ 1073856520 ∷ 1610694665 ∷ 1073758218 ∷ 1610612747 ∷ []) ([]) } ∷
    record { bytes = (ascii "INFO{TITLE:\"\"DESCRIPTION:\"\"SEMANTICS:Mealy TARGET:Mealy}MAIN{INPUTS{a}OUTPUTS{}ASSERT{+[0<=i<=256]i==1}}"); expected = Rejected 12 89 } ∷
    record { bytes = (10 ∷ 73 ∷ 78 ∷ 70 ∷ 79 ∷ 32 ∷ 32 ∷ 123 ∷ 84 ∷ 73 ∷ 84 ∷ 76 ∷ 69 ∷ 58 ∷ 34 ∷ 34 ∷ 68 ∷ 69 ∷ 83 ∷ 67 ∷ 82 ∷ 73 ∷ 80 ∷ 84 ∷ 73 ∷ 79 ∷ 78 ∷ 58 ∷ 32 ∷ 34 ∷ 34 ∷ 83 ∷ 69 ∷ 77 ∷ 65 ∷ 78 ∷ 84 ∷ 73 ∷ 67 ∷ 83 ∷ 10 ∷ 9 ∷ 58 ∷ 77 ∷ 111 ∷ 111 ∷ 114 ∷ 101 ∷ 44 ∷ 9 ∷ 10 ∷ 83 ∷ 116 ∷ 114 ∷ 105 ∷ 99 ∷ 116 ∷ 10 ∷ 13 ∷ 10 ∷ 10 ∷ 84 ∷ 65 ∷ 82 ∷ 71 ∷ 69 ∷ 84 ∷ 13 ∷ 58 ∷ 9 ∷ 32 ∷ 77 ∷ 111 ∷ 111 ∷ 114 ∷ 101 ∷ 125 ∷ 71 ∷ 76 ∷ 79 ∷ 66 ∷ 65 ∷ 76 ∷ 123 ∷ 68 ∷ 69 ∷ 70 ∷ 73 ∷ 78 ∷ 73 ∷ 84 ∷ 73 ∷ 79 ∷ 78 ∷ 83 ∷ 123 ∷ 114 ∷ 61 ∷ 13 ∷ 13 ∷ 10 ∷ 40 ∷ 102 ∷ 97 ∷ 108 ∷ 115 ∷ 101 ∷ 41 ∷ 125 ∷ 125 ∷ 77 ∷ 65 ∷ 73 ∷ 78 ∷ 123 ∷ 73 ∷ 78 ∷ 80 ∷ 85 ∷ 84 ∷ 83 ∷ 32 ∷ 32 ∷ 123 ∷ 9 ∷ 125 ∷ 79 ∷ 85 ∷ 84 ∷ 80 ∷ 85 ∷ 84 ∷ 83 ∷ 123 ∷ 13 ∷ 111 ∷ 59 ∷ 125 ∷ 71 ∷ 85 ∷ 65 ∷ 82 ∷ 65 ∷ 78 ∷ 84 ∷ 69 ∷ 69 ∷ 83 ∷ 9 ∷ 47 ∷ 42 ∷ 32 ∷ 34 ∷ 32 ∷ 42 ∷ 47 ∷ 123 ∷ 125 ∷ 125 ∷ []); expected = Accepted (0 ∷ 0 ∷ 0 ∷ 0 ∷ 805355520 ∷ 3489693700 ∷ 1073758213 ∷ 0 ∷ 2416033792 ∷ 0 ∷ 1073872905 ∷ 0 ∷ 1610776587 ∷ 1073840140 ∷ 1610612749 ∷ []) (2156331008 ∷ []) } ∷
    []

held_3 : texts_held cases_3 ≡ true
unfolding cases_3 text_expansion parsed spec_expansion ◌>>=◌ guard refuse_at nodes_of nodes_from count size
held_3 = refl

cases_4 : List Text
cases_4 =
    record { bytes = (ascii "INFO{TITLE:\"\"DESCRIPTION:\"\"SEMANTICS:Mealy TARGET:Moore}MAIN{INPUTS{w;u;}OUTPUTS{In[246];t[237]}REQUIRE{u->u U false;}}"); expected = Rejected 15 89 } ∷
    record { bytes = (73 ∷ 78 ∷ 24 ∷ 79 ∷ 123 ∷ 84 ∷ 73 ∷ 84 ∷ 76 ∷ 69 ∷ 58 ∷ 34 ∷ 34 ∷ 68 ∷ 69 ∷ 83 ∷ 67 ∷ 82 ∷ 73 ∷ 80 ∷ 84 ∷ 73 ∷ 79 ∷ 78 ∷ 58 ∷ 34 ∷ 34 ∷ 83 ∷ 69 ∷ 77 ∷ 65 ∷ 78 ∷ 84 ∷ 73 ∷ 67 ∷ 83 ∷ 58 ∷ 77 ∷ 101 ∷ 97 ∷ 108 ∷ 121 ∷ 44 ∷ 83 ∷ 116 ∷ 114 ∷ 105 ∷ 99 ∷ 116 ∷ 32 ∷ 84 ∷ 65 ∷ 82 ∷ 71 ∷ 69 ∷ 84 ∷ 58 ∷ 77 ∷ 101 ∷ 97 ∷ 108 ∷ 121 ∷ 125 ∷ 71 ∷ 76 ∷ 79 ∷ 66 ∷ 65 ∷ 76 ∷ 123 ∷ 68 ∷ 69 ∷ 70 ∷ 73 ∷ 78 ∷ 73 ∷ 84 ∷ 73 ∷ 79 ∷ 78 ∷ 83 ∷ 123 ∷ 122 ∷ 61 ∷ 48 ∷ 49 ∷ 47 ∷ 48 ∷ 49 ∷ 59 ∷ 125 ∷ 125 ∷ 77 ∷ 65 ∷ 73 ∷ 78 ∷ 123 ∷ 73 ∷ 78 ∷ 80 ∷ 85 ∷ 84 ∷ 83 ∷ 123 ∷ 121 ∷ 59 ∷ 125 ∷ 79 ∷ 85 ∷ 84 ∷ 80 ∷ 85 ∷ 84 ∷ 36 ∷ 83 ∷ 123 ∷ 125 ∷ 65 ∷ 83 ∷ 83 ∷ 69 ∷ 82 ∷ 84 ∷ 123 ∷ 88 ∷ 43 ∷ 91 ∷ 115 ∷ 60 ∷ 45 ∷ 123 ∷ 48 ∷ 44 ∷ 50 ∷ 46 ∷ 46 ∷ 42 ∷ 91 ∷ 100 ∷ 32 ∷ 73 ∷ 78 ∷ 123 ∷ 48 ∷ 44 ∷ 49 ∷ 125 ∷ 93 ∷ 100 ∷ 125 ∷ 93 ∷ 48 ∷ 61 ∷ 61 ∷ 122 ∷ 59 ∷ 70 ∷ 32 ∷ 116 ∷ 114 ∷ 117 ∷ 101 ∷ 60 ∷ 45 ∷ 62 ∷ 121 ∷ 125 ∷ 125 ∷ []); expected = Rejected 2 2 } ∷
    record { bytes = (ascii "INFO{TITLE:\"\"DESCRIPTION:\"\"SEMANTICS:Mealy TARGET:Mealy}MAIN{INPUTS{n;y;u[221];}OUTPUTS{}INITIALLY{X y;true->false;}REQUIRE{n;}}"); expected = Accepted (536887296 ∷ 2147483648 ∷ 0 ∷ 268435456 ∷ 1610645507 ∷ 1073758212 ∷ 0 ∷ 536870912 ∷ 2416033792 ∷ 0 ∷ 1073872905 ∷ 0 ∷ 2416099328 ∷ 0 ∷ 1073938445 ∷ 1610776590 ∷ 1073840143 ∷ 1610694672 ∷ []) (4456448 ∷ 4587520 ∷ 4718813 ∷ 4719069 ∷ 4719325 ∷ 4719581 ∷ 4719837 ∷ 4720093 ∷ 4720349 ∷ 4720605 ∷ 4720861 ∷ 4721117 ∷ 4721373 ∷ 4721629 ∷ 4721885 ∷ 4722141 ∷ 4722397 ∷ 4722653 ∷ 4722909 ∷ 4723165 ∷ 4723421 ∷ 4723677 ∷ 4723933 ∷ 4724189 ∷ 4724445 ∷ 4724701 ∷ 4724957 ∷ 4725213 ∷ 4725469 ∷ 4725725 ∷ 4725981 ∷ 4726237 ∷ 4726493 ∷ 4726749 ∷ 4727005 ∷ 4727261 ∷ 4727517 ∷ 4727773 ∷ 4728029 ∷ 4728285 ∷ 4728541 ∷ 4728797 ∷ 4729053 ∷ 4729309 ∷ 4729565 ∷ 4729821 ∷ 4730077 ∷ 4730333 ∷ 4730589 ∷ 4730845 ∷ 4731101 ∷ 4731357 ∷ 4731613 ∷ 4731869 ∷ 4732125 ∷ 4732381 ∷ 4732637 ∷ 4732893 ∷ 4733149 ∷ 4733405 ∷ 4733661 ∷ 4733917 ∷ 4734173 ∷ 4734429 ∷ 4734685 ∷ 4734941 ∷ 4735197 ∷ 4735453 ∷ 4735709 ∷ 4735965 ∷ 4736221 ∷ 4736477 ∷ 4736733 ∷ 4736989 ∷ 4737245 ∷ 4737501 ∷ 4737757 ∷ 4738013 ∷ 4738269 ∷ 4738525 ∷ 4738781 ∷ 4739037 ∷ 4739293 ∷ 4739549 ∷ 4739805 ∷ 4740061 ∷ 4740317 ∷ 4740573 ∷ 4740829 ∷ 4741085 ∷ 4741341 ∷ 4741597 ∷ 4741853 ∷ 4742109 ∷ 4742365 ∷ 4742621 ∷ 4742877 ∷ 4743133 ∷ 4743389 ∷ 4743645 ∷ 4743901 ∷ 4744157 ∷ 4744413 ∷ 4744669 ∷ 4744925 ∷ 4745181 ∷ 4745437 ∷ 4745693 ∷ 4745949 ∷ 4746205 ∷ 4746461 ∷ 4746717 ∷ 4746973 ∷ 4747229 ∷ 4747485 ∷ 4747741 ∷ 4747997 ∷ 4748253 ∷ 4748509 ∷ 4748765 ∷ 4749021 ∷ 4749277 ∷ 4749533 ∷ 4749789 ∷ 4750045 ∷ 4750301 ∷ 4750557 ∷ 4750813 ∷ 4751069 ∷ 4751325 ∷ 4751581 ∷ 4751837 ∷ 4752093 ∷ 4752349 ∷ 4752605 ∷ 4752861 ∷ 4753117 ∷ 4753373 ∷ 4753629 ∷ 4753885 ∷ 4754141 ∷ 4754397 ∷ 4754653 ∷ 4754909 ∷ 4755165 ∷ 4755421 ∷ 4755677 ∷ 4755933 ∷ 4756189 ∷ 4756445 ∷ 4756701 ∷ 4756957 ∷ 4757213 ∷ 4757469 ∷ 4757725 ∷ 4757981 ∷ 4758237 ∷ 4758493 ∷ 4758749 ∷ 4759005 ∷ 4759261 ∷ 4759517 ∷ 4759773 ∷ 4760029 ∷ 4760285 ∷ 4760541 ∷ 4760797 ∷ 4761053 ∷ 4761309 ∷ 4761565 ∷ 4761821 ∷ 4762077 ∷ 4762333 ∷ 4762589 ∷ 4762845 ∷ 4763101 ∷ 4763357 ∷ 4763613 ∷ 4763869 ∷ 4764125 ∷ 4764381 ∷ 4764637 ∷ 4764893 ∷ 4765149 ∷ 4765405 ∷ 4765661 ∷ 4765917 ∷ 4766173 ∷ 4766429 ∷ 4766685 ∷ 4766941 ∷ 4767197 ∷ 4767453 ∷ 4767709 ∷ 4767965 ∷ 4768221 ∷ 4768477 ∷ 4768733 ∷ 4768989 ∷ 4769245 ∷ 4769501 ∷ 4769757 ∷ 4770013 ∷ 4770269 ∷ 4770525 ∷ 4770781 ∷ 4771037 ∷ 4771293 ∷ 4771549 ∷ 4771805 ∷ 4772061 ∷ 4772317 ∷ 4772573 ∷ 4772829 ∷ 4773085 ∷ 4773341 ∷ 4773597 ∷ 4773853 ∷ 4774109 ∷ 4774365 ∷ 4774621 ∷ 4774877 ∷ 4775133 ∷ []) } ∷
    record { bytes = (ascii "INFO{TITLE:\"\"DESCRIPTION:\"\"SEMANTICS:Mealy TARGET:Mealy TAGS:\"t\"}MAIN{INPUTS{}GUARANTEES{(F[01:0]false R v);(G+[c IN({1})](1/0)!=0)}OUTPUTS{v;}}"); expected = Rejected 11 90 } ∷
    []

held_4 : texts_held cases_4 ≡ true
unfolding cases_4 text_expansion parsed spec_expansion ◌>>=◌ guard refuse_at nodes_of nodes_from count size
held_4 = refl

cases_5 : List Text
cases_5 =
    record { bytes = (ascii "INFO{TITLE:\"\"DESCRIPTION:\"\"SEMANTICS:Moore TARGET:Moore}MAIN{INPUTS{A;}OUTPUTS{h;b;}INITIALLY{F(2)%01IN{0,1};F[2:4]b;}}"); expected = Accepted (0 ∷ 2684354560 ∷ 536903680 ∷ 536903680 ∷ 536903680 ∷ 2147549184 ∷ 1342226437 ∷ 2147581952 ∷ 1342210055 ∷ 2147614720 ∷ 2147631104 ∷ 1073758218 ∷ 0 ∷ 0 ∷ 2416132096 ∷ 0 ∷ 1073971215 ∷ 0 ∷ 2416197632 ∷ 0 ∷ 1074036755 ∷ 1610874900 ∷ 1073938453 ∷ 1610792982 ∷ []) (4456448 ∷ 2152660992 ∷ 2152792064 ∷ []) } ∷
    record { bytes = (ascii "INFO{TITLE:\"\"DESCRIPTION:\"\"SEMANTICS:Moore TARGET:Mealy}GLOBAL{DEFINITIONS{enum A=a1:01,1001*01*01n:10,10;}}MAIN{INPUTS{}OUTPUTS{f}ASSUMPTIONS{f;}}"); expected = Rejected 10 88 } ∷
    record { bytes = (ascii "INFO{TITLE:\"t\"DESCRIPTION:\"\"SEMANTICS:Moore TARGET:Moore}MAIN{INPUTS{v[3];l[1];}OUTPUTS{t;}ASSERT{}}"); expected = Accepted (0 ∷ 0 ∷ 0 ∷ 2415951872 ∷ 0 ∷ 1073790980 ∷ 0 ∷ 2416017408 ∷ 0 ∷ 1073856520 ∷ 1610694665 ∷ 1073758218 ∷ 1610612747 ∷ []) (4521987 ∷ 4522243 ∷ 4522499 ∷ 4849665 ∷ 2153250816 ∷ []) } ∷
    record { bytes = (73 ∷ 78 ∷ 70 ∷ 79 ∷ 123 ∷ 84 ∷ 73 ∷ 84 ∷ 76 ∷ 69 ∷ 58 ∷ 34 ∷ 34 ∷ 68 ∷ 69 ∷ 83 ∷ 67 ∷ 82 ∷ 73 ∷ 80 ∷ 84 ∷ 73 ∷ 79 ∷ 78 ∷ 58 ∷ 34 ∷ 116 ∷ 34 ∷ 83 ∷ 69 ∷ 77 ∷ 65 ∷ 173 ∷ 84 ∷ 73 ∷ 67 ∷ 83 ∷ 58 ∷ 77 ∷ 101 ∷ 97 ∷ 108 ∷ 121 ∷ 44 ∷ 83 ∷ 116 ∷ 114 ∷ 105 ∷ 99 ∷ 116 ∷ 32 ∷ 84 ∷ 65 ∷ 82 ∷ 71 ∷ 69 ∷ 84 ∷ 84 ∷ 58 ∷ 77 ∷ 101 ∷ 97 ∷ 108 ∷ 121 ∷ 125 ∷ 77 ∷ 65 ∷ 73 ∷ 78 ∷ 123 ∷ 73 ∷ 78 ∷ 80 ∷ 85 ∷ 84 ∷ 83 ∷ 123 ∷ 110 ∷ 59 ∷ 117 ∷ 125 ∷ 79 ∷ 85 ∷ 84 ∷ 80 ∷ 85 ∷ 84 ∷ 83 ∷ 123 ∷ 125 ∷ 73 ∷ 78 ∷ 86 ∷ 65 ∷ 82 ∷ 73 ∷ 65 ∷ 78 ∷ 84 ∷ 83 ∷ 123 ∷ 77 ∷ 73 ∷ 78 ∷ 123 ∷ 49 ∷ 125 ∷ 43 ∷ 48 ∷ 73 ∷ 78 ∷ 123 ∷ 48 ∷ 44 ∷ 49 ∷ 125 ∷ 59 ∷ 125 ∷ 125 ∷ []); expected = Rejected 2 32 } ∷
    []

held_5 : texts_held cases_5 ≡ true
unfolding cases_5 text_expansion parsed spec_expansion ◌>>=◌ guard refuse_at nodes_of nodes_from count size
held_5 = refl

cases_6 : List Text
cases_6 =
    record { bytes = (ascii "INFO{TITLE:\"\"DESCRIPTION:\"\"SEMANTICS:Moore TARGET:Moore}GLOBAL{DEFINITIONS{z={(1PLUS 00),00,3}}}MAIN{OUTPUTS{}INPUTS{n;}ASSUME{(n&&n<->n)W n;(n);}}"); expected = Accepted (0 ∷ 0 ∷ 0 ∷ 2415951872 ∷ 536870912 ∷ 536870912 ∷ 1073807365 ∷ 536870912 ∷ 1879146503 ∷ 536870912 ∷ 3489792009 ∷ 536870912 ∷ 1073905675 ∷ 1073790988 ∷ 0 ∷ 2416148480 ∷ 0 ∷ 1073987600 ∷ 1610825745 ∷ 1073758226 ∷ 1610612755 ∷ []) (7667712 ∷ []) } ∷
    record { bytes = (ascii "INFO{TITLE:\"\"DESCRIPTION:\"\"SEMANTICS:Mealy TARGET:Moore}GLOBAL{PARAMETERS{}DEFINITIONS{enum h=B_0:1*1g:011,0*0q:110}}MAIN{OUTPUTS{w}ASSUMPTIONS{9-1*2IN{1}}INPUTS{h y}}"); expected = Accepted (0 ∷ 0 ∷ 536870912 ∷ 536903680 ∷ 1073774595 ∷ 536870912 ∷ 805388288 ∷ 536887296 ∷ 1073840135 ∷ 536903680 ∷ 1073872905 ∷ 1342242826 ∷ 536870912 ∷ 805502976 ∷ 536903680 ∷ 805535744 ∷ 1073954831 ∷ 1342357520 ∷ 536870912 ∷ 536887296 ∷ 1074036755 ∷ 536903680 ∷ 805650432 ∷ 1074069526 ∷ 1342455831 ∷ 2416312320 ∷ 268435456 ∷ 1074151450 ∷ 0 ∷ 2416377856 ∷ 0 ∷ 1074216990 ∷ 1611055135 ∷ 1073758240 ∷ 1610612769 ∷ []) (10747907 ∷ 10748163 ∷ 10748419 ∷ 2156003328 ∷ []) } ∷
    record { bytes = (ascii "INFO{TITLE:\"\"DESCRIPTION:\"\"SEMANTICS:Mealy TARGET:Mealy}MAIN{GUARANTEE{||[y<-{1}]z EQUIV true}INPUTS{}OUTPUTS{z;}}"); expected = Accepted (0 ∷ 0 ∷ 0 ∷ 2415951872 ∷ 0 ∷ 1073790980 ∷ 0 ∷ 2416017408 ∷ 536870912 ∷ 0 ∷ 1879179273 ∷ 1073856522 ∷ 1610694667 ∷ 1073758220 ∷ 1610612749 ∷ []) (2154692608 ∷ []) } ∷
    record { bytes = (ascii "INFO{TITLE:\"\"DESCRIPTION:\"\"SEMANTICS:Mealy TARGET:Mealy TAGS:_}GLOBAL{DEFINITIONS{enum a1=In:110,110;z=+[Xa<-{2,4..01}]Xa;}}MAIN{INPUTS{}OUTPUTS{e;s;}REQUIRE{}}"); expected = Accepted (0 ∷ 0 ∷ 0 ∷ 2415951872 ∷ 0 ∷ 1073790980 ∷ 0 ∷ 2416017408 ∷ 0 ∷ 1073856520 ∷ 1610694665 ∷ 1073758218 ∷ 1610612747 ∷ []) (2156986368 ∷ 2157117440 ∷ []) } ∷
    []

held_6 : texts_held cases_6 ≡ true
unfolding cases_6 text_expansion parsed spec_expansion ◌>>=◌ guard refuse_at nodes_of nodes_from count size
held_6 = refl

cases_7 : List Text
cases_7 =
    record { bytes = (ascii "INFO{TITLE:\"\"DESCRIPTION:\"\"SEMANTICS:Moore TARGET:Moore}MAIN{INPUTS{x;j[2]}OUTPUTS{B_0;a;h}PRESET{}}"); expected = Accepted (0 ∷ 0 ∷ 0 ∷ 2415951872 ∷ 0 ∷ 1073790980 ∷ 0 ∷ 2416017408 ∷ 0 ∷ 1073856520 ∷ 1610694665 ∷ 1073758218 ∷ 1610612747 ∷ []) (4456448 ∷ 4587522 ∷ 4587778 ∷ 2152923136 ∷ 2153185280 ∷ 2153316352 ∷ []) } ∷
    record { bytes = (ascii "INFO{TITLE:\"\"DESCRIPTION:\"\"SEMANTICS:Moore,Strict TARGET:Mealy}MAIN{OUTPUTS{Xa[1];}ASSUME{Xa[0DIV 2];F[01*0:3]Xa[0]}PRESET{}INPUTS{}}"); expected = Accepted (0 ∷ 0 ∷ 0 ∷ 0 ∷ 805355520 ∷ 3489693700 ∷ 1073758213 ∷ 0 ∷ 2416033792 ∷ 536870912 ∷ 536870912 ∷ 536870912 ∷ 536870912 ∷ 536870912 ∷ 2147696640 ∷ 1342373902 ∷ 2147729408 ∷ 1342357520 ∷ 2147762176 ∷ 1342341138 ∷ 1073889299 ∷ 1073872916 ∷ 0 ∷ 1610956822 ∷ 1073840151 ∷ 1610612760 ∷ []) (2152464385 ∷ []) } ∷
    record { bytes = (ascii "INFO{TITLE:\"\"DESCRIPTION:\"\"SEMANTICS:Mealy TARGET:Mealy}MAIN{INPUTS{a}OUTPUTS{}ASSERT{+[0<=i<256]i==1}}"); expected = Accepted (0 ∷ 0 ∷ 0 ∷ 2415951872 ∷ 0 ∷ 1073790980 ∷ 268435456 ∷ 2416017408 ∷ 0 ∷ 1073856520 ∷ 1610694665 ∷ 1073758218 ∷ 1610612747 ∷ []) (4456448 ∷ []) } ∷
    record { bytes = (ascii "INFO{TITLE:\"\"DESCRIPTION:\"t\"SEMANTICS:Moore,Strict TARGET:Mealy}MAIN{INPUTS{}OUTPUTS{n;w[2];d;}INITIALLY{(n);n;}}"); expected = Accepted (536870912 ∷ 536870912 ∷ 1073741825 ∷ 0 ∷ 0 ∷ 0 ∷ 805388288 ∷ 3489726470 ∷ 1073790983 ∷ 0 ∷ 2416066560 ∷ 0 ∷ 1073905675 ∷ 0 ∷ 1610809357 ∷ 1073872910 ∷ 1610645519 ∷ []) (2153054208 ∷ 2153185282 ∷ 2153185538 ∷ 2153512960 ∷ []) } ∷
    []

held_7 : texts_held cases_7 ≡ true
unfolding cases_7 text_expansion parsed spec_expansion ◌>>=◌ guard refuse_at nodes_of nodes_from count size
held_7 = refl

cases_8 : List Text
cases_8 =
    record { bytes = (ascii "INFO{TITLE:\"t\"DESCRIPTION:\"\"SEMANTICS:Moore TARGET:Mealy}GLOBAL{PARAMETERS{p=01;}DEFINITIONS{In=3;}}MAIN{INPUTS{B_0[3];}OUTPUTS{}PRESET{}REQUIRE{1IN{1,1%00,2};}}"); expected = Rejected 11 152 } ∷
    record { bytes = (ascii "INFO{TITLE:\"t\"DESCRIPTION:\"\"SEMANTICS:Mealy TARGET:Mealy}GLOBAL{DEFINITIONS{enum k=A:1*,10y:00;_=true}}MAIN{INPUTS{f;x'[4];r}OUTPUTS{}ASSERT{}}"); expected = Accepted (0 ∷ 0 ∷ 0 ∷ 2415951872 ∷ 0 ∷ 1073790980 ∷ 0 ∷ 2416017408 ∷ 0 ∷ 1073856520 ∷ 1610694665 ∷ 1073758218 ∷ 1610612747 ∷ []) (7536640 ∷ 7667716 ∷ 7667972 ∷ 7668228 ∷ 7668484 ∷ 8060928 ∷ []) } ∷
    record { bytes = (ascii "INFO{TITLE:\"\"DESCRIPTION:\"\"SEMANTICS:Moore TARGET:Mealy}MAIN{INPUTS{}OUTPUTS{r[3];d}ASSERT{}}"); expected = Accepted (0 ∷ 0 ∷ 0 ∷ 2415951872 ∷ 0 ∷ 1073790980 ∷ 0 ∷ 2416017408 ∷ 0 ∷ 1073856520 ∷ 1610694665 ∷ 1073758218 ∷ 1610612747 ∷ []) (2152529923 ∷ 2152530179 ∷ 2152530435 ∷ 2152857600 ∷ []) } ∷
    record { bytes = (ascii "INFO{TITLE:\"\"DESCRIPTION:\"\"SEMANTICS:Moore,Strict TARGET:Mealy}GLOBAL{DEFINITIONS{x'=({0,1..0}(+){0,1});}}MAIN{INPUTS{}OUTPUTS{v;}REQUIRE{}INVARIANTS{}}"); expected = Accepted (0 ∷ 0 ∷ 0 ∷ 0 ∷ 805355520 ∷ 3489693700 ∷ 1073758213 ∷ 0 ∷ 2416033792 ∷ 0 ∷ 1073872905 ∷ 0 ∷ 1610776587 ∷ 1073840140 ∷ 1610612749 ∷ []) (2155806720 ∷ []) } ∷
    []

held_8 : texts_held cases_8 ≡ true
unfolding cases_8 text_expansion parsed spec_expansion ◌>>=◌ guard refuse_at nodes_of nodes_from count size
held_8 = refl

cases_9 : List Text
cases_9 =
    record { bytes = (ascii "INFO{TITLE:\"\"DESCRIPTION:\"\"SEMANTICS:Mealy TARGET:Mealy}MAIN{OUTPUTS{q;}INPUTS{@;}ASSUME{&&[_ IN{3}]@||q}GUARANTEE{}INVARIANTS{q||@ W q;}}"); expected = Accepted (0 ∷ 0 ∷ 0 ∷ 2415951872 ∷ 536870912 ∷ 536887296 ∷ 1342242821 ∷ 1073790982 ∷ 536887296 ∷ 536870912 ∷ 1342308361 ∷ 536887296 ∷ 3489824779 ∷ 2416115712 ∷ 0 ∷ 1073954830 ∷ 1610727439 ∷ 1073758224 ∷ 1610612753 ∷ []) (5177344 ∷ 2152005632 ∷ []) } ∷
    record { bytes = (ascii "INFO{TITLE:\"\"DESCRIPTION:\"\"SEMANTICS:Mealy TARGET:Mealy}GLOBAL{DEFINITIONS{j={2,1..0}}}MAIN{OUTPUTS{}INPUTS{i;}INITIALLY{G i;||[y<-{3,3..5}]i}}"); expected = Rejected 12 131 } ∷
    record { bytes = (ascii "INFO{TITLE:\"t\"DESCRIPTION:\"\"SEMANTICS:Mealy TARGET:Mealy}GLOBAL{DEFINITIONS{c={}}}MAIN{REQUIRE{}OUTPUTS{B_0;}INPUTS{y;}}"); expected = Accepted (0 ∷ 0 ∷ 0 ∷ 2415951872 ∷ 0 ∷ 1073790980 ∷ 0 ∷ 2416017408 ∷ 0 ∷ 1073856520 ∷ 1610694665 ∷ 1073758218 ∷ 1610612747 ∷ []) (7602176 ∷ 2154299392 ∷ []) } ∷
    record { bytes = (ascii "INFO{TITLE:\"\"DESCRIPTION:\"\"SEMANTICS:Mealy TARGET:Mealy}MAIN{INPUTS{b[256]}OUTPUTS{}}"); expected = Rejected 13 68 } ∷
    []

held_9 : texts_held cases_9 ≡ true
unfolding cases_9 text_expansion parsed spec_expansion ◌>>=◌ guard refuse_at nodes_of nodes_from count size
held_9 = refl

cases_10 : List Text
cases_10 =
    record { bytes = (ascii "INFO{TITLE:\"\"DESCRIPTION:\"\"SEMANTICS:Mealy TARGET:Moore TAGS:\"t\"}GLOBAL{DEFINITIONS{t=l;}}MAIN{INPUTS{u[4]}OUTPUTS{l;}GUARANTEE{4<=4;&&[z IN{0,2..0},00PLUS z<a<=0]l;}}"); expected = Accepted (0 ∷ 0 ∷ 0 ∷ 2415951872 ∷ 0 ∷ 1073790980 ∷ 0 ∷ 2416017408 ∷ 0 ∷ 0 ∷ 1073872905 ∷ 1073856522 ∷ 1610694667 ∷ 1073758220 ∷ 1610612749 ∷ []) (6684676 ∷ 6684932 ∷ 6685188 ∷ 6685444 ∷ 2155020288 ∷ []) } ∷
    record { bytes = (73 ∷ 78 ∷ 70 ∷ 79 ∷ 123 ∷ 84 ∷ 73 ∷ 84 ∷ 76 ∷ 0 ∷ 69 ∷ 58 ∷ 34 ∷ 34 ∷ 68 ∷ 69 ∷ 83 ∷ 67 ∷ 82 ∷ 73 ∷ 80 ∷ 84 ∷ 73 ∷ 79 ∷ 78 ∷ 58 ∷ 34 ∷ 34 ∷ 83 ∷ 69 ∷ 77 ∷ 65 ∷ 78 ∷ 84 ∷ 73 ∷ 67 ∷ 83 ∷ 58 ∷ 77 ∷ 111 ∷ 111 ∷ 114 ∷ 101 ∷ 32 ∷ 84 ∷ 65 ∷ 82 ∷ 71 ∷ 69 ∷ 84 ∷ 58 ∷ 77 ∷ 111 ∷ 111 ∷ 114 ∷ 101 ∷ 125 ∷ 71 ∷ 76 ∷ 79 ∷ 66 ∷ 65 ∷ 76 ∷ 123 ∷ 68 ∷ 69 ∷ 70 ∷ 73 ∷ 78 ∷ 73 ∷ 84 ∷ 73 ∷ 79 ∷ 78 ∷ 83 ∷ 123 ∷ 101 ∷ 110 ∷ 117 ∷ 109 ∷ 32 ∷ 106 ∷ 61 ∷ 95 ∷ 58 ∷ 48 ∷ 44 ∷ 49 ∷ 125 ∷ 125 ∷ 77 ∷ 65 ∷ 73 ∷ 78 ∷ 123 ∷ 73 ∷ 78 ∷ 80 ∷ 85 ∷ 228 ∷ 83 ∷ 123 ∷ 106 ∷ 32 ∷ 109 ∷ 125 ∷ 79 ∷ 85 ∷ 84 ∷ 80 ∷ 85 ∷ 84 ∷ 83 ∷ 123 ∷ 125 ∷ 82 ∷ 69 ∷ 81 ∷ 85 ∷ 73 ∷ 82 ∷ 69 ∷ 123 ∷ 109 ∷ 91 ∷ 48 ∷ 93 ∷ 125 ∷ 125 ∷ []); expected = Rejected 2 9 } ∷
    record { bytes = (ascii "INFO{TITLE:\"\"DESCRIPTION:\"t\"SEMANTICS:Mealy TARGET:Mealy TAGS:_,a}MAIN{OUTPUTS{z[1];}GUARANTEE{FORALL[9-1MOD 1<=g<0]z[0];}INPUTS{}}"); expected = Accepted (0 ∷ 0 ∷ 0 ∷ 2415951872 ∷ 0 ∷ 1073790980 ∷ 0 ∷ 2416017408 ∷ 0 ∷ 1073856520 ∷ 1610694665 ∷ 1073758218 ∷ 1610612747 ∷ []) (2152660993 ∷ []) } ∷
    record { bytes = (ascii "INFO{TITLE:\"\"DESCRIPTION:\"\"SEMANTICS:Moore TARGET:Moore}GLOBAL{DEFINITIONS{In=({0,1}CUP{0,1});}}MAIN{INPUTS{y}OUTPUTS{}ASSUME{true;}}"); expected = Accepted (0 ∷ 0 ∷ 0 ∷ 2415951872 ∷ 0 ∷ 1073790980 ∷ 0 ∷ 2416017408 ∷ 0 ∷ 1073856520 ∷ 1610694665 ∷ 1073758218 ∷ 1610612747 ∷ []) (7077888 ∷ []) } ∷
    []

held_10 : texts_held cases_10 ≡ true
unfolding cases_10 text_expansion parsed spec_expansion ◌>>=◌ guard refuse_at nodes_of nodes_from count size
held_10 = refl

cases_11 : List Text
cases_11 =
    record { bytes = (ascii "INFO{TITLE:\"\"DESCRIPTION:\"\"SEMANTICS:Mealy TARGET:Moore}MAIN{OUTPUTS{y[3]}INPUTS{}REQUIRE{}}"); expected = Accepted (0 ∷ 0 ∷ 0 ∷ 2415951872 ∷ 0 ∷ 1073790980 ∷ 0 ∷ 2416017408 ∷ 0 ∷ 1073856520 ∷ 1610694665 ∷ 1073758218 ∷ 1610612747 ∷ []) (2152005635 ∷ 2152005891 ∷ 2152006147 ∷ []) } ∷
    record { bytes = (ascii "INFO{TITLE:\"\"DESCRIPTION:\"\"SEMANTICS:Mealy,Strict TARGET:Mealy}GLOBAL{PARAMETERS{}}MAIN{OUTPUTS{o[o]}INITIALLY{1}INPUTS{}}"); expected = Rejected 9 98 } ∷
    record { bytes = (ascii "INFO{TITLE:\"\"DESCRIPTI\\ON:\"\"SEMANTICS:Moore,Strict TARGET:Moore}GLOBAL{DEFIN"); expected = Rejected 2 22 } ∷
    record { bytes = (ascii "INFO{TITLE:\"\"DESCRIPTION:\"\"SEMANTICS:Moore,Strict TARGET:Moore}MAIN{INPUTS{x';x'[2];x'}OUTPUTS{}REQUIRE{00<=2/2;}}"); expected = Rejected 7 78 } ∷
    []

held_11 : texts_held cases_11 ≡ true
unfolding cases_11 text_expansion parsed spec_expansion ◌>>=◌ guard refuse_at nodes_of nodes_from count size
held_11 = refl

-- Each line of an accepted text has a formula of its own among the text's nodes, which holds where the line does; and a section holds where all its lines do.
use Rattle.std.specs.Prelude.{ℕ, ◌≡◌, refl, Bool, true, false, ◌↔◌, eqb}
use Rattle.std.proofs.Common.{sym}
use Rattle.std.proofs.Math.Path.{subst}
use Rattle.std.proofs.Math.Bool.{So}
use Rattle.std.proofs.lemmas.Bool.{false≢true}
use mathlib.Core.List.{List, [], ◌∷◌, ◌++◌, map}
use Rattle.std.proofs.Math.Logic.Iff as Equiv
use Rattle.node.proofs.TemporalLaws.{Same}
use Rattle.node.specs.Ltl.{Formula, Holds, Word as NodeWord}
use Rattle.node.specs.Result.{Result, Done}
use Rattle.node.proofs.ResultLaws.{bind_done}
use Rattle.language.specs.Tree.{Part, part_code, Spec}
use Rattle.language.specs.Parsing.{parsed}
use Rattle.language.specs.Values.{Scope}
use Rattle.language.specs.DeclaredNames.{Port, Declarations, declarations}
use Rattle.language.specs.Numbering.{in_order, signal_list}
use Rattle.language.specs.Lines.{Line, lines}
use Rattle.language.specs.Expansion.{gather, Context, at_signals, define_all, expand_line, Sections, expand_section, lines_of}
use Rattle.language.specs.Meaning.{Word, Sense, present, meaning_all, SectionMeans, names_of}
use Rattle.language.specs.LineMeaning.{LineMeans, part_lines}
use Rattle.language.specs.Numbered.{numbered}
use Rattle.language.proofs.Laws.Basics.Lists.{All}
use Rattle.language.proofs.Laws.Values.NameLaws.{defined_ports}
use Rattle.language.proofs.Laws.Values.PortLaws.{Pairs}
use Rattle.language.proofs.Laws.Meaning.Agreement.{Agrees}
use Rattle.language.proofs.Laws.Meaning.ExpressionAgreement.{Matched}
use Rattle.language.proofs.Laws.Meaning.TextAgreement.{LinesHold, ListedMeans, LineAgrees, AllAgree, signals_matched, definitions_matched, line-agrees}
use Rattle.language.proofs.Laws.Meaning.SpecAgreement.{names_are, word, met}

-- lists in pairs that are alike
pub pairs-append : {A B : Type 0} (R : A → B → Type 0) (us xs : List A) (bs ys : List B) → Pairs R us bs → Pairs R xs ys → Pairs R (us ++ xs) (bs ++ ys)
pairs-append R [] xs [] ys h k = k
pairs-append {A = A} {B = B} R [] xs (b ∷ bs) ys h k = elim h [ ]
pairs-append {A = A} {B = B} R (a ∷ us) xs [] ys h k = elim h [ ]
pairs-append R (a ∷ us) xs (b ∷ bs) ys h k = (h.0, pairs-append R us xs bs ys h.1 k)

pub pairs-more : {A B C : Type 0} (R : A → B → Type 0) (S : A → C → Type 0) (f : B → C) → ((a : A) (b : B) → R a b → S a (f b)) → (us : List A) (bs : List B) → Pairs R us bs → Pairs S us (map f bs)
pairs-more R S f g [] [] h = tt
pairs-more {A = A} {B = B} {C = C} R S f g [] (b ∷ bs) h = elim h [ ]
pairs-more {A = A} {B = B} {C = C} R S f g (a ∷ us) [] h = elim h [ ]
pairs-more R S f g (a ∷ us) (b ∷ bs) h = (g a b h.0, pairs-more R S f g us bs h.1)

-- a section holds where all its lines do
module _ (s : Sense) (w : Word) (t : ℕ) where
  hold_both : (us bs : List Line) → (LinesHold s us w t × LinesHold s bs w t) ↔ LinesHold s (us ++ bs) w t
  hold_both [] bs = (λ p. p.1, λ h. (tt, h))
  hold_both (a ∷ us) bs = Equiv.trans (λ p. (p.0.0, (p.0.1, p.1)), λ p. ((p.0, p.1.0), p.1.1)) (Equiv.and Equiv.rfl (hold_both us bs))

  pub listed-lines : (q : Part) (ls : List (Part × List Line)) → ListedMeans s ls q w t ↔ LinesHold s (part_lines q ls) w t
  listed-lines q [] = Equiv.rfl
  listed-lines q (l ∷ ls) = go (eqb (part_code q) (part_code l.0)) (listed-lines q ls)
    where
      go : (b : Bool) → ListedMeans s ls q w t ↔ LinesHold s (part_lines q ls) w t →
          ((So b → LinesHold s l.1 w t) × ListedMeans s ls q w t) ↔ LinesHold s (elim b [ true ↦ l.1 ++ part_lines q ls | false ↦ part_lines q ls ]) w t
      go true rest = Equiv.trans (Equiv.and (λ f. f refl, λ a e. a) rest) (hold_both l.1 (part_lines q ls))
      go false rest = (λ p. rest.0 p.1, λ h. (λ e. absurd (false≢true e), rest.1 h))

-- lines and their formulas
module _ (w : Word) (v : NodeWord) (c : Context) (s : Sense) (h : Matched w v c s) where
  abbrev pub Alike : Line → Formula → Type 0
  Alike l f = Same (LineMeans s l w) (Holds f v)

  lines-alike : (ls : List Line) → All (LineAgrees c.ports w v) ls → {fs : List Formula} → gather (expand_line c) ls ≡ Done fs → Pairs Alike ls fs
  unfolding Agrees
  lines-alike [] g e = subst (Pairs Alike []) (same e) tt
    where
      same : {a b : List Formula} → Done a ≡ Done b → a ≡ b
      same q = cc
  lines-alike (l ∷ ls) g {fs} e =
      let a = bind_done (expand_line c l) _ e in
      let b = bind_done (gather (expand_line c) ls) _ a.2 in
      let head : Same (LineMeans s l w) (Holds a.0 v) = subst (λ (r : Result Formula). Agrees r v (LineMeans s l w)) a.1 (line-agrees w v h l g.0) in
      subst (Pairs Alike (l ∷ ls)) (same b.2) (head, lines-alike ls g.1 b.1)
    where
      same : {x y : List Formula} → Done x ≡ Done y → x ≡ y
      same q = cc

  pub sections-alike : (q : Part) (ls : List (Part × List Line)) → AllAgree w v c.ports ls → {ss : Sections} → gather (expand_section c) ls ≡ Done ss → Pairs Alike (part_lines q ls) (lines_of q ss)
  sections-alike q [] g e = subst (λ (x : Sections). Pairs Alike [] (lines_of q x)) (same e) tt
    where
      same : {x y : Sections} → Done x ≡ Done y → x ≡ y
      same r = cc
  sections-alike q (l ∷ ls) g {ss} e =
      let a = bind_done (expand_section c l) _ e in
      let b = bind_done (gather (expand_section c) ls) _ a.2 in
      let f = bind_done (gather (expand_line c) l.1) _ a.1 in
      subst (λ (x : Sections). Pairs Alike (part_lines q (l ∷ ls)) (lines_of q x)) (same b.2)
      (subst (λ (y : Part × List Formula). Pairs Alike (part_lines q (l ∷ ls)) (lines_of q (y ∷ b.0))) (one f.2)
      (go (eqb (part_code q) (part_code l.0)) f.0 b.0 (lines-alike l.1 g.0 f.1) (sections-alike q ls g.1 b.1)))
    where
      same : {x y : Sections} → Done x ≡ Done y → x ≡ y
      same r = cc

      one : {x y : Part × List Formula} → Done x ≡ Done y → x ≡ y
      one r = cc

      go : (b : Bool) (fs : List Formula) (rest : Sections) → Pairs Alike l.1 fs → Pairs Alike (part_lines q ls) (lines_of q rest) →
          Pairs Alike (elim b [ true ↦ l.1 ++ part_lines q ls | false ↦ part_lines q ls ]) (elim b [ true ↦ fs ++ lines_of q rest | false ↦ lines_of q rest ])
      go true fs rest h k = pairs-append Alike l.1 (part_lines q ls) fs (lines_of q rest) h k
      go false fs rest h k = k

-- those of a text
module _ (text : List ℕ) (x : Spec) (d : Declarations) (hx : parsed text ≡ Done x) (hd : declarations x ≡ Done d) (w : Word) where
  abbrev sense : Sense
  sense = meaning_all (present (names_of x)) x.definitions

  abbrev context : Context
  context = define_all (at_signals d) x.definitions

  pub section-lines : (q : Part) → Same (SectionMeans sense x.definitions x.main q w) (LinesHold sense (part_lines q (lines x d)) w)
  section-lines q t = Equiv.trans ((met text x d hx hd w).listed sense q t) (listed-lines sense w t q (lines x d))

  pub lines-told : {ss : Sections} → gather (expand_section context) (lines x d) ≡ Done ss → (q : Part) →
      Pairs (λ l f. Same (LineMeans sense l w) (Holds f (numbered text (signal_list (in_order d)) w))) (part_lines q (lines x d)) (lines_of q ss)
  lines-told e q =
      let m = met text x d hx hd w in
      let v = word text x d hx hd w in
      let matched : Matched w v context sense =
      subst (λ (sc : Scope). Matched w v context (meaning_all (present sc) x.definitions)) (sym (names_are x d hd))
      (definitions_matched w v x.definitions (signals_matched w v d m.table)) in
      let ports : context.ports ≡ in_order d = defined_ports x.definitions (at_signals d) in
      sections-alike w v context sense matched q (lines x d) (subst (λ (ps : List Port). AllAgree w v ps (lines x d)) (sym ports) m.lined) e

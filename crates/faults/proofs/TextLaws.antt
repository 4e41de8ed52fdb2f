-- The line that is named for a text and a recording is at fault, in every word over the declared signals that has the recording's letters.
use Rattle.std.specs.Prelude.{ℕ, ◌<◌, ◌≡◌, Bool, List, [], ◌∷◌, map, ◌↔◌, leb, length}
use Rattle.std.proofs.Common.{sym, ◌∙◌}
use Rattle.std.proofs.Math.Path.{ap, subst}
use Rattle.std.proofs.Math.Bool.{true, false, So, false≢true}
use Rattle.std.proofs.Math.Logic.Iff as Equiv
use Rattle.node.specs.Ltl.{Formula, True, False, Signal, One, Two, Word as NodeWord, Holds}
use Rattle.node.proofs.LtlLaws.{unary-same, binary-same}
use Rattle.node.specs.Postorder.{SignalsBelow}
use Rattle.node.specs.Result.{Done}
use Rattle.node.proofs.ResultLaws.{guard-done, bind_done, bind_to}
use Rattle.node.specs.Written.{nodes_of}
use Rattle.node.proofs.WrittenLaws.{table-root}
use Rattle.node.specs.Temporal.{Property}
use Rattle.node.proofs.TemporalLaws.{Same}
use Rattle.bits.specs.Bits.{Values}
use Rattle.recordings.specs.declared.Lasso.{Lasso}
use Rattle.recordings.specs.Recording.{lasso_of, letter_of}
use Rattle.recordings.specs.Lasso.{place, recorded}
use Rattle.rows.specs.Row.{row}
use Rattle.rows.specs.Agreement.{row-tells}
use Rattle.evaluator.specs.Evaluation.{evaluation, verdict_of}
use Rattle.evaluator.proofs.EvaluationLaws.{opens, verdict_means}
use Rattle.language.specs.Limits.{work_bytes}
use Rattle.language.specs.Tree.{Part, Initially, Preset, Require, Assert, Assume, Guarantee, Spec}
use Rattle.language.specs.Parsing.{parsed}
use Rattle.language.specs.DeclaredNames.{Declarations, declarations}
use Rattle.language.specs.Numbering.{in_order, signal_list}
use Rattle.language.specs.Lines.{Line, lines}
use Rattle.language.specs.Expansion.{Sections, lines_of, section, conjunction, whole}
use Rattle.language.specs.Shifting.{adapted}
use Rattle.language.specs.Meaning.{Word, WholeMeans, OfSpec, TextMeans}
use Rattle.language.specs.LineMeaning.{LineMeans, part_lines}
use Rattle.language.specs.Numbered.{numbered}
use Rattle.language.specs.Reading.{NumberedFormula, text_expansion}
use Rattle.language.proofs.Laws.Basics.Lists.{All}
use Rattle.language.proofs.Laws.Values.PortLaws.{Pairs}
use Rattle.language.proofs.Laws.Meaning.TextAgreement.{LinesHold}
use Rattle.language.proofs.Laws.Meaning.ShiftedWords.{adapted-holds}
use Rattle.language.proofs.Laws.Meaning.Acceptance.{accepts, text-agrees, text-signals}
use Rattle.language.proofs.Laws.Meaning.LineAgreement.{section-lines, lines-told}
use Rattle.claim.specs.Claim.{Gives}
use Rattle.claim.proofs.ClaimLaws.{text_few, text-small}
use Rattle.faults.specs.Naming.{Finding, NoFault, FaultIn, line_named}
use Rattle.faults.specs.Diagnosing.{sections_of, lined_by, lined, line_rows, finding, diagnosing, Assumed, Placed, Every, sense_of, SectionOf, read_on, Fault}
use Rattle.faults.proofs.NamingLaws.{Right}
use Rattle.faults.proofs.FaultLaws.{Blames, named-fault}
use Rattle.faults.proofs.WholeLaws.{adapted_rebuilds, rebuilt_conjunction, rebuilt_whole, whole_below, conjunction-below, whole_same}

-- words that agree on the signals below n are one to a formula of these
pub holds_below : (n : ℕ) (u v : NodeWord) → ((t k : ℕ) → k < n → u t k ≡ v t k) → (f : Formula) → SignalsBelow n f → Same (Holds f u) (Holds f v)
unfolding Holds SignalsBelow
holds_below n u v e True b t = Equiv.rfl
holds_below n u v e False b t = Equiv.rfl
holds_below n u v e (Signal k) b t = subst (λ (x : Bool). So (u t k) ↔ So x) (e t k b) Equiv.rfl
holds_below n u v e (One o a) b t = unary-same o (holds_below n u v e a b) t
holds_below n u v e (Two o a c) b t = binary-same o (holds_below n u v e a b.0) (holds_below n u v e c b.1) t

done-same : {A : Type 0} {x y : A} → Done x ≡ Done y → x ≡ y
done-same q = cc

-- sections that hold where others do
module _ {P Q : Part → Property} (h : (q : Part) (t : ℕ) → P q t → Q q t) where
  placed_to : (q : Part) (p : ℕ) → Placed P q p → Placed Q q p
  placed_to Initially p e = elim e [ ]
  placed_to Require p e = elim e [ ]
  placed_to Assume p e = elim e [ ]
  placed_to Preset p e = e
  placed_to Assert p f = λ j l. h Assert j (f j l)
  placed_to Guarantee p e = e

  assumed_to : (strict : Bool) (q : Part) (p : ℕ) → Assumed strict P q p → Assumed strict Q q p
  assumed_to strict Initially p a = elim a [ ]
  assumed_to strict Require p a = elim a [ ]
  assumed_to strict Assume p a = elim a [ ]
  assumed_to strict Preset p a = h Initially 0 a
  assumed_to false Assert p a = (h Initially 0 a.0, h Preset 0 a.1, λ n l. h Require n (a.2 n l), h Assume 0 a.3)
  assumed_to true Assert p a = (h Initially 0 a.0, h Preset 0 a.1, λ j l. h Require j (a.2 j l))
  assumed_to strict Guarantee p a = (h Initially 0 a.0, h Preset 0 a.1, λ n l. h Require n (a.2 n l), h Assume 0 a.3)

module _ (text : List ℕ) (c : NumberedFormula) (e : text_expansion text ≡ Done c) where
  abbrev x : Spec
  x = (accepts e).spec

  abbrev d : Declarations
  d = (accepts e).declared

  abbrev list : List ℕ
  list = signal_list (in_order d)

  abbrev adapt : Formula → Formula
  adapt = adapted x.semantics x.target list

  -- its lines, whose formulas are parts of the text's own
  pub record LinesOf : Type 0 where
    pub sections : Sections
    pub sectioning : sections_of x d ≡ Done sections
    pub lining : lined text ≡ Done (lined_by x d sections)
    pub formula : c.formula ≡ whole x.strict (λ q. conjunction (map adapt (lines_of q sections)))

  pub lines_of_lem : LinesOf
  unfolding lined
  lines_of_lem =
      let a = accepts e in
      let s = bind_done (sections_of x d) _ a.expanding in
      record {
        sections = s.0;
        sectioning = s.1;
        lining = bind_to (parsed text) x _ a.parsing ∙ bind_to (declarations x) d _ a.declaring ∙ bind_to (sections_of x d) s.0 _ s.1;
        formula =
            a.adapting
            ∙ ap adapt (sym (done-same s.2))
            ∙ rebuilt_whole adapt (adapted_rebuilds x.semantics x.target list) x.strict (section s.0) _
            (λ q. rebuilt_conjunction adapt (adapted_rebuilds x.semantics x.target list) (lines_of q s.0));
      }

  -- their signals are listed
  lines-below : (q : Part) → All (SignalsBelow (length c.signals)) (map adapt (lines_of q lines_of_lem.sections))
  lines-below q =
      let n = length c.signals in
      let fs : Part → List Formula = λ r. map adapt (lines_of r lines_of_lem.sections) in
      conjunction-below n (fs q) (whole_below n x.strict (λ r. conjunction (fs r)) (subst (SignalsBelow n) lines_of_lem.formula (text-signals text c e)) q)

  module _ (bs : List ℕ) (inside : (lasso_of bs).l < (lasso_of bs).n) (g : Gives text c.signals (recorded bs)) where
    abbrev read : Word
    read = read_on x g.word

    abbrev M : Line → Property
    M l = LineMeans (sense_of x) l read

    abbrev Alike : Line → Formula → Type 0
    Alike l f = Same (M l) (Holds f (numbered text list read))

    line-right : (l : Line) (f : Formula) → Alike l f → SignalsBelow (length c.signals) (adapt f) → (t : ℕ)
        → M l t ↔ So (row (lasso_of bs).n (lasso_of bs).l (letter_of bs (lasso_of bs).k) (adapt f) (place (lasso_of bs).n (lasso_of bs).l t))
    line-right l f h b t =
        let a = accepts e in
        let w : Lasso = lasso_of bs in
        let shifts = adapted-holds text x d a.parsing a.declaring g.word x.semantics x.target f t in
        let named = subst (λ (s : List ℕ). Same (Holds (adapt f) (numbered text s g.word)) (Holds (adapt f) (recorded bs))) a.listing
        (holds_below (length c.signals) (numbered text c.signals g.word) (recorded bs) g.same (adapt f) b) in
        Equiv.trans (h t) (Equiv.trans shifts (Equiv.trans (named t) (row-tells w.n w.l (letter_of bs w.k) inside (adapt f) t)))

    lines-right : (t : ℕ) (ls : List Line) (fs : List Formula) → Pairs Alike ls fs → All (SignalsBelow (length c.signals)) (map adapt fs)
        → Right M ls (line_rows bs (map adapt fs)) t (place (lasso_of bs).n (lasso_of bs).l t)
    lines-right t [] (f ∷ fs) h b = elim h [ ]
    lines-right t (l ∷ ls) [] h b = elim h [ ]
    lines-right t [] [] h b = tt
    lines-right t (l ∷ ls) (f ∷ fs) h b = (line-right l f h.0 b.0 t, lines-right t ls fs h.1 b.1)

    every-line : (ls : List Line) (t : ℕ) → LinesHold (sense_of x) ls read t ↔ Every M ls t
    every-line [] t = Equiv.rfl
    every-line (l ∷ ls) t = Equiv.and Equiv.rfl (every-line ls t)

    sections-every : (q : Part) → Same (SectionOf x read q) (Every M (part_lines q (lines x d)))
    sections-every q t =
        let a = accepts e in
        Equiv.trans (section-lines text x d a.parsing a.declaring read q t) (every-line (part_lines q (lines x d)) t)

    -- a text that fails
    module _ (fails : ¬ TextMeans text g.word 0) where
      whole-fails : ¬ WholeMeans x.strict (λ q. Every M (part_lines q (lines x d))) 0
      whole-fails h =
          fails (subst (λ r. OfSpec r g.word 0) (sym (accepts e).parsing) ((whole_same x.strict _ _ sections-every 0).1 h))

      abbrev rows_of : Part → List Values
      rows_of q = line_rows bs (map adapt (lines_of q lines_of_lem.sections))

      all_right : (q : Part) (t : ℕ) → Right M (part_lines q (lines x d)) (rows_of q) t (place (lasso_of bs).n (lasso_of bs).l t)
      all_right q t =
          let a = accepts e in
          let l = lines_of_lem in
          lines-right t (part_lines q (lines x d)) (lines_of q l.sections) (lines-told text x d a.parsing a.declaring read l.sectioning q) (lines-below q)

      blamed : Blames M (λ q. part_lines q (lines x d)) rows_of (lasso_of bs).n (lasso_of bs).l inside all_right x.strict (line_named x.strict rows_of (lasso_of bs).n)
      blamed = named-fault M (λ q. part_lines q (lines x d)) rows_of (lasso_of bs).n (lasso_of bs).l inside all_right x.strict whole-fails

      -- the line that is named, and that one is
      pub found : (f : Finding) → finding text bs false ≡ Done f → (q : Part) × (k : ℕ) × (f ≡ FaultIn q k) × Fault text g.word q k
      found f h = go (line_named x.strict rows_of (lasso_of bs).n) (done-same (sym h ∙ bind_to (lined text) (lined_by x d lines_of_lem.sections) _ lines_of_lem.lining)) blamed
        where
          go : (y : Finding) → f ≡ y → Blames M (λ q. part_lines q (lines x d)) rows_of (lasso_of bs).n (lasso_of bs).l inside all_right x.strict y
              → (q : Part) × (k : ℕ) × (f ≡ FaultIn q k) × Fault text g.word q k
          go NoFault r b = absurd b
          go (FaultIn q k) r b =
              let a = accepts e in
              let h : (q : Part) (t : ℕ) → Every M (part_lines q (lines x d)) t → SectionOf x read q t = λ q t. (sections-every q t).1 in (
                q,
                k,
                r,
                record {
                  spec = x;
                  declared = d;
                  parsing = a.parsing;
                  declaring = a.declaring;
                  fault = record { p = b.p; placed = placed_to h q b.p b.placed; first = b.first; assumed = assumed_to h x.strict q b.p b.assumed };
                },
              )

  -- the verdict on the text's own nodes, with room for the rows, is its own meaning
  module _ (bs : List ℕ) (room : ℕ) (g : Gives text c.signals (recorded bs)) where
    pub verdict-of-text : {b : Bool} → verdict_of (nodes_of c.formula) (length c.signals) bs room ≡ Done b → So b ↔ TextMeans text g.word 0
    verdict-of-text {b} h =
        let root : So b ↔ Holds c.formula (recorded bs) 0 =
        subst (λ (f : Formula). So b ↔ Holds f (recorded bs) 0) (table-root c.formula (text-small text c e) (text_few text c e))
        (verdict_means (nodes_of c.formula) (length c.signals) bs room h) in
        let letters = holds_below (length c.signals) (numbered text c.signals g.word) (recorded bs) g.same c.formula (text-signals text c e) 0 in
        Equiv.trans root (Equiv.trans (Equiv.symm letters) (Equiv.symm (text-agrees text c e g.word 0)))

    -- what is found by a verdict
    abbrev Finds : Finding → Type 0
    Finds NoFault = TextMeans text g.word 0
    Finds (FaultIn q k) = Fault text g.word q k

    verdict-finds : (b : Bool) → verdict_of (nodes_of c.formula) (length c.signals) bs room ≡ Done b → (f : Finding) → finding text bs b ≡ Done f → Finds f
    unfolding verdict_of
    verdict-finds true h f r = subst Finds (done-same r) ((verdict-of-text h).0 (λ i. true))
    verdict-finds false h f r =
        let p = bind_done (evaluation (nodes_of c.formula) (length c.signals) bs room) _ h in
        let inside = (opens (nodes_of c.formula) (length c.signals) bs room p.1).reads.header.loop in
        let k = found bs inside g (λ m. false≢true ((verdict-of-text h).1 m)) f r in
        subst Finds (sym k.2) k.3

    pub diagnosing-finds : (work : ℕ) (f : Finding) → diagnosing text bs work room ≡ Done f → Finds f
    unfolding diagnosing
    diagnosing-finds work f h =
        let a = guard-done (leb work_bytes work) 17 0 _ h in
        let m = bind_done (text_expansion text) _ a.1 in
        let same : m.0 ≡ c = done-same (sym m.1 ∙ e) in
        let v = bind_done (verdict_of (nodes_of m.0.formula) (length m.0.signals) bs room) (finding text bs) m.2 in
        verdict-finds v.0 (ap (λ (y : NumberedFormula). verdict_of (nodes_of y.formula) (length y.signals) bs room) (sym same) ∙ v.1) f v.2

-- a recording on which no fault is found holds, and a line that is named is at fault
module _ (text : List ℕ) (c : NumberedFormula) (e : text_expansion text ≡ Done c) (bs : List ℕ) (g : Gives text c.signals (recorded bs)) where
  pub diagnosed_holds : (work room : ℕ) → diagnosing text bs work room ≡ Done NoFault → TextMeans text g.word 0
  diagnosed_holds work room h = diagnosing-finds text c e bs room g work NoFault h

  pub diagnosed_fault : (work room : ℕ) (q : Part) (k : ℕ) → diagnosing text bs work room ≡ Done (FaultIn q k) → Fault text g.word q k
  diagnosed_fault work room q k h = diagnosing-finds text c e bs room g work (FaultIn q k) h

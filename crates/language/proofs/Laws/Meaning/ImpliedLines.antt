-- The sections of a text's tree hold where the lines do that the expansion lists: an implied line that is left out, because its enumeration names every
-- word, always holds.
use Rattle.std.specs.Prelude.{ℕ, ◌≤◌, ◌≡◌, refl, Bool, true, false, not, List, [], ◌∷◌, ◌++◌, map, ◌↔◌, eqb, length}
use Rattle.std.proofs.Common.{sym, ◌∙◌, ap, subst, arith, eqb-true, eq-eqb}
use Rattle.std.proofs.Math.Bool.{So}
use Rattle.std.proofs.Math.Logic.Iff as Equiv
use Rattle.node.specs.Logic.{Either, Stable}
use Rattle.node.proofs.LogicLaws.{or_right, or_cases, stable-not, or_same, to_same}
use Rattle.node.proofs.TemporalLaws.{Same}
use Rattle.language.specs.Bytes.{if◌then◌otherwise◌, same}
use Rattle.language.specs.Tokens.{Token}
use Rattle.language.specs.Tree.{
  Expr,
  Identifier,
  Definition,
  Defined,
  Enumerated,
  Declaration,
  OneSignal,
  OfWidth,
  OfType,
  Part,
  Initially,
  Preset,
  Require,
  Assert,
  Assume,
  Guarantee,
  part_code,
  Subsection,
  Inputs,
  Outputs,
  Lines,
  Spec,
}
use Rattle.language.specs.Words.{words_in}
use Rattle.language.specs.DeclaredNames.{words_of_type, word_width, Port, inputs, outputs, Declarations}
use Rattle.language.specs.Numbering.{marks_of, covered}
use Rattle.language.specs.Lines.{Line, Written, Implied, leaves_unnamed, implied, written_lines, lines}
use Rattle.language.specs.Meaning.{Word, MatchesOne, Sense, MatchesIdentifier, ImpliedMeans, DeclarationsMean, LinesMean, IsPart, SectionMeans}
use Rattle.language.proofs.Laws.Basics.Lists.{All, all_more}
use Rattle.language.proofs.Laws.Basics.Tests.{pick, leave}
use Rattle.language.proofs.Laws.Values.RegularWords.{PortRegular}
use Rattle.language.proofs.Laws.Values.PortLaws.{PortFor, Pairs, PortsFor}
use Rattle.language.proofs.Laws.Meaning.ExpansionLaws.{or_assoc}
use Rattle.language.proofs.Laws.Meaning.Coverage.{covered_matches}
use Rattle.language.proofs.Laws.Meaning.TextAgreement.{LinesHold, ListedMeans}

-- the words of an enumeration, by identifier and in one list
module _ (x : List ℕ) (w : Word) (t : ℕ) where
  stable-one : (vs : List Token) → Stable (MatchesOne x vs w t)
  stable-one [] = λ n. n (λ e. e)
  stable-one (v ∷ vs) = stable-not

  append_matches : (us vs : List Token) → Either (MatchesOne x us w t) (MatchesOne x vs w t) ↔ MatchesOne x (us ++ vs) w t
  append_matches [] vs = (or_cases (stable-one vs) (λ e. absurd e) (λ m. m), or_right)
  append_matches (u ∷ us) vs = Equiv.trans (Equiv.symm or_assoc) (or_same Equiv.rfl (append_matches us vs))

  identifiers_match : (is : List Identifier) → MatchesIdentifier x is w t ↔ MatchesOne x (words_in is) w t
  identifiers_match [] = Equiv.rfl
  identifiers_match (i ∷ is) = Equiv.trans (or_same Equiv.rfl (identifiers_match is)) (append_matches i.words (words_in is))

implied_matches : (defs : List Definition) (u x : Token) (w : Word) (t : ℕ) → ImpliedMeans defs u x w t ↔ MatchesOne x.text (words_of_type defs u) w t
implied_matches [] u x w t = Equiv.rfl
implied_matches (Defined y e ∷ ds) u x w t = implied_matches ds u x w t
implied_matches (Enumerated y is ∷ ds) u x w t = chosen (same y.text u.text) (implied_matches ds u x w t)
  where
    chosen : (b : Bool) → ImpliedMeans ds u x w t ↔ MatchesOne x.text (words_of_type ds u) w t →
        ◌↔◌ {0, 0} (elim b [ true ↦ MatchesIdentifier x.text is w t | false ↦ ImpliedMeans ds u x w t ]) (MatchesOne x.text (elim b [ true ↦ words_in is | false ↦ words_of_type ds u ]) w t)
    chosen true h = identifiers_match x.text w t is
    chosen false h = h

-- words that name every valuation
always : (vs : List Token) → 1 ≤ word_width vs → All (λ v. length v.text ≡ word_width vs) vs → leaves_unnamed vs ≡ false → (x : List ℕ) (w : Word) (t : ℕ) → MatchesOne x vs w t
always [] some h e = absurd (omega arith)
always (v ∷ vs) some h e = (covered_matches (word_width (v ∷ vs)) (v ∷ vs) h).0 (named (covered (word_width (v ∷ vs)) (map marks_of (v ∷ vs))) e)
  where
    named : (b : Bool) → not b ≡ false → b ≡ true
    named true e = refl
    named false e = sym e

-- INPUTS or OUTPUTS, and the lines that their ports imply
module _ (defs : List Definition) (output : Bool) (s : Sense) (w : Word) (t : ℕ) where
  -- a port that implies nothing, and one that implies a line
  no_line : (D : Type 0) (p : Port) (ps : List Port) → leaves_unnamed p.words ≡ false → D ↔ LinesHold s (implied ps) w t → D ↔ LinesHold s (implied (p ∷ ps)) w t
  no_line D p ps e h = subst (λ (ls : List Line). D ↔ LinesHold s ls w t) (sym (leave (leaves_unnamed p.words) (Implied p ∷ implied ps) (implied ps) e)) h

  a-line : (D : Type 0) (p : Port) (ps : List Port) → leaves_unnamed p.words ≡ true → D ↔ (MatchesOne p.name.text p.words w t × LinesHold s (implied ps) w t)
      → D ↔ LinesHold s (implied (p ∷ ps)) w t
  a-line D p ps e h = subst (λ (ls : List Line). D ↔ LinesHold s ls w t) (sym (pick (leaves_unnamed p.words) (Implied p ∷ implied ps) (implied ps) e)) h

  typed-same : (u x : Token) (D : Type 0) (p : Port) (ps : List Port) → PortFor defs output (OfType u x) p → PortRegular p → D ↔ LinesHold s (implied ps) w t →
      (ImpliedMeans defs u x w t × D) ↔ LinesHold s (implied (p ∷ ps)) w t
  typed-same u x D p ps f r h = go (leaves_unnamed p.words) refl
    where
      words : p.words ≡ words_of_type defs u
      words = f.shaped.1

      here : ImpliedMeans defs u x w t ↔ MatchesOne p.name.text p.words w t
      here = subst (λ (n : Token). ImpliedMeans defs u x w t ↔ MatchesOne n.text p.words w t) (sym f.named)
          (subst (λ (vs : List Token). ImpliedMeans defs u x w t ↔ MatchesOne x.text vs w t) (sym words) (implied_matches defs u x w t))

      width : p.width ≡ word_width p.words
      width = f.shaped.2 ∙ ap word_width (sym words)

      go : (b : Bool) → leaves_unnamed p.words ≡ b → (ImpliedMeans defs u x w t × D) ↔ LinesHold s (implied (p ∷ ps)) w t
      go true e = a-line (ImpliedMeans defs u x w t × D) p ps e (Equiv.and here h)
      go false e =
          let holds : ImpliedMeans defs u x w t = here.1 (always p.words (subst (λ n. 1 ≤ n) width f.shaped.0) (all_more (λ v k. k ∙ width) p.words r) e p.name.text w t) in
          no_line (ImpliedMeans defs u x w t × D) p ps e (Equiv.trans (λ c. c.1, λ d. (holds, d)) h)

  declared_same : (ds : List Declaration) (ps : List Port) → Pairs (PortFor defs output) ds ps → All PortRegular ps → DeclarationsMean defs ds w t ↔ LinesHold s (implied ps) w t
  declared_same [] [] h r = Equiv.rfl
  declared_same [] (p ∷ ps) h r = absurd h
  declared_same (m ∷ ds) [] h r = absurd h
  declared_same (OneSignal x ∷ ds) (p ∷ ps) h r = no_line (DeclarationsMean defs ds w t) p ps (ap leaves_unnamed h.0.shaped.1) (declared_same ds ps h.1 r.1)
  declared_same (OfWidth x e ∷ ds) (p ∷ ps) h r = no_line (DeclarationsMean defs ds w t) p ps (ap leaves_unnamed h.0.shaped.1) (declared_same ds ps h.1 r.1)
  declared_same (OfType u x ∷ ds) (p ∷ ps) h r = typed-same u x (DeclarationsMean defs ds w t) p ps h.0 r.0 (declared_same ds ps h.1 r.1)

-- parts are told apart by their codes
part_from : ℕ → Part
part_from n =
    if eqb n 0 then Initially otherwise (if eqb n 1 then Preset otherwise (if eqb n 2 then Require otherwise (if eqb n 3 then Assert otherwise (if eqb n 4 then Assume otherwise Guarantee))))

part_from-code : (q : Part) → part_from (part_code q) ≡ q
unfolding part_from
part_from-code Initially = refl
part_from-code Preset = refl
part_from-code Require = refl
part_from-code Assert = refl
part_from-code Assume = refl
part_from-code Guarantee = refl

part_same : (q r : Part) → IsPart q r ↔ So (eqb (part_code q) (part_code r))
part_same q r = (
  λ e. eq-eqb (part_code q) (part_code r) (ap part_code e),
  λ e. sym (part_from-code q) ∙ ap part_from (eqb-true (part_code q) (part_code r) e) ∙ part_from-code r,
)

-- the parts of a section: its written lines, and the implied ones of inputs and of outputs
module _ (s : Sense) (defs : List Definition) (q : Part) (w : Word) (t : ℕ) where
  abbrev WrittenMeans : List Subsection → Type 0
  WrittenMeans [] = Unit {0}
  WrittenMeans (Inputs ds ∷ ss) = WrittenMeans ss
  WrittenMeans (Outputs ds ∷ ss) = WrittenMeans ss
  WrittenMeans (Lines r es ∷ ss) = (IsPart q r → LinesMean s es w t) × WrittenMeans ss

  lines_same : (es : List Expr) → LinesMean s es w t ↔ LinesHold s (map Written es) w t
  lines_same [] = Equiv.rfl
  lines_same (e ∷ es) = Equiv.and Equiv.rfl (lines_same es)

  written_same : (ss : List Subsection) (rest : List (Part × List Line)) → (WrittenMeans ss × ListedMeans s rest q w t) ↔ ListedMeans s (written_lines ss rest) q w t
  written_same [] rest = (λ p. p.1, λ h. (tt, h))
  written_same (Inputs ds ∷ ss) rest = written_same ss rest
  written_same (Outputs ds ∷ ss) rest = written_same ss rest
  written_same (Lines r es ∷ ss) rest =
      Equiv.trans (λ p. (p.0.0, (p.0.1, p.1)), λ p. ((p.0, p.1.0), p.1.1)) (Equiv.and (to_same (part_same q r) (lines_same es)) (written_same ss rest))

  -- implied lines of a part r
  abbrev Owns : Part → List Declaration → Type 0
  Owns r ds = IsPart q r → DeclarationsMean defs ds w t

  declared-append : (ds es : List Declaration) → (DeclarationsMean defs ds w t × DeclarationsMean defs es w t) ↔ DeclarationsMean defs (ds ++ es) w t
  declared-append [] es = (λ p. p.1, λ h. (tt, h))
  declared-append (OneSignal x ∷ ds) es = declared-append ds es
  declared-append (OfWidth x e ∷ ds) es = declared-append ds es
  declared-append (OfType u x ∷ ds) es = Equiv.trans (λ p. (p.0.0, (p.0.1, p.1)), λ p. ((p.0, p.1.0), p.1.1)) (Equiv.and Equiv.rfl (declared-append ds es))

  owns-append : (r : Part) (ds es : List Declaration) → (Owns r ds × Owns r es) ↔ Owns r (ds ++ es)
  owns-append r ds es = Equiv.trans (λ p i. (p.0 i, p.1 i), λ f. (λ i. (f i).0, λ i. (f i).1)) (to_same Equiv.rfl (declared-append ds es))

  tree-parts : (ss : List Subsection) → SectionMeans s defs ss q w t ↔ (WrittenMeans ss × (Owns Require (inputs ss) × Owns Assert (outputs ss)))
  tree-parts [] = (λ u. (tt, (λ i. tt, λ i. tt)), λ u. tt)
  tree-parts (Inputs ds ∷ ss) =
      Equiv.trans (Equiv.and Equiv.rfl (tree-parts ss)) (Equiv.trans (λ p. (p.1.0, ((p.0, p.1.1.0), p.1.1.1)), λ p. (p.1.0.0, (p.0, (p.1.0.1, p.1.1))))
      (Equiv.and Equiv.rfl (Equiv.and (owns-append Require ds (inputs ss)) Equiv.rfl)))
  tree-parts (Outputs ds ∷ ss) =
      Equiv.trans (Equiv.and Equiv.rfl (tree-parts ss)) (Equiv.trans (λ p. (p.1.0, (p.1.1.0, (p.0, p.1.1.1))), λ p. (p.1.1.0, (p.0, (p.1.0, p.1.1.1))))
      (Equiv.and Equiv.rfl (Equiv.and Equiv.rfl (owns-append Assert ds (outputs ss)))))
  tree-parts (Lines r es ∷ ss) = Equiv.trans (Equiv.and Equiv.rfl (tree-parts ss)) (λ p. ((p.0, p.1.0), p.1.1), λ p. (p.0.0, (p.0.1, p.1)))

-- a section of the tree, and its lines as the expansion lists them
pub sections-same : (x : Spec) (d : Declarations) (s : Sense) (q : Part) (w : Word) → PortsFor x d → All PortRegular d.inputs → All PortRegular d.outputs →
    Same (SectionMeans s x.definitions x.main q w) (ListedMeans s (lines x d) q w)
sections-same x d s q w f i o t =
    let defs = x.definitions in
    Equiv.trans (tree-parts s defs q w t x.main)
    (Equiv.trans (Equiv.and Equiv.rfl (Equiv.trans
    (Equiv.and (to_same (part_same q Require) (declared_same defs false s w t (inputs x.main) d.inputs f.ins i))
    (to_same (part_same q Assert) (declared_same defs true s w t (outputs x.main) d.outputs f.outs o)))
    (λ p. (p.0, (p.1, tt)), λ p. (p.0, p.1.0))))
    (written_same s defs q w t x.main _))

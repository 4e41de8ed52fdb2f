-- What the grammar reads has the elements of sets in braces only, and names where names are to stand.
use Rattle.std.specs.Prelude.{refl, true, false}
use Rattle.language.specs.Tree.{Definition, Defined, Enumerated, Declaration, OneSignal, OfWidth, OfType, Subsection, Inputs, Outputs, Lines, Spec}
use Rattle.language.specs.Grammar.{Tokens}
use Rattle.language.specs.Sections.{spec_of}
use Rattle.language.specs.Braces.{Proper, ProperParameter, ProperDefinition, ProperDeclaration, ProperSubsection, ProperSpec}
use Rattle.language.proofs.Laws.Basics.Lists.{all_more}
use Rattle.language.proofs.Laws.Basics.Results.{weaken, Within}
use Rattle.language.proofs.Laws.Grammar.BuiltReads.{Built}
use Rattle.language.proofs.Laws.Grammar.TreeReads.{ReadParameter, ReadDefinition, ReadDeclaration, ReadSubsection, ReadSpec, spec_read}

proper_built : Built (Proper false) (Proper true)
proper_built = record {
  of_name = λ t n. (refl, n);
  of_numeral = λ t n. (refl, n);
  of_truth = λ t b s. (refl, s);
  of_index = λ t e n h. (refl, h);
  of_paren = λ t e h. (refl, h);
  of_prefix = λ t o e s h. ((refl, s), h);
  of_infix = λ t o a b s h k. ((refl, s), h, k);
  of_nexts = λ t n e h k. (refl, h, k);
  of_window = λ t o n m e s h k l. ((refl, s), h, k, l);
  of_big = λ t o further i s e z n h k. ((refl, z), h, k);
  of_bounds = λ t low high a b s h k. ((refl, s), h, k);
  of_listed = λ t es h. (refl, h);
  of_none = refl;
  of_element = λ e es h k. (refl, h, k);
  of_range = λ t x y z h k l. (refl, h, k, l);
}

definition-proper : (d : Definition) → ReadDefinition (Proper false) d → ProperDefinition d
definition-proper (Defined x e) h = h.1
definition-proper (Enumerated x is) h = tt

declaration_proper : (d : Declaration) → ReadDeclaration (Proper false) d → ProperDeclaration d
declaration_proper (OneSignal x) h = h
declaration_proper (OfWidth x e) h = h
declaration_proper (OfType u x) h = h

subsection_proper : (s : Subsection) → ReadSubsection (Proper false) s → ProperSubsection s
subsection_proper (Inputs ds) h = all_more {P = ReadDeclaration (Proper false)} {Q = ProperDeclaration} declaration_proper ds h
subsection_proper (Outputs ds) h = all_more {P = ReadDeclaration (Proper false)} {Q = ProperDeclaration} declaration_proper ds h
subsection_proper (Lines p es) h = h

proper : (x : Spec) → ReadSpec (Proper false) x → ProperSpec x
proper x h =
    record {
      parameters = all_more {P = ReadParameter (Proper false)} {Q = ProperParameter} (λ p k. k.1) x.parameters h.parameters;
      definitions = all_more {P = ReadDefinition (Proper false)} {Q = ProperDefinition} definition-proper x.definitions h.definitions;
      main = all_more {P = ReadSubsection (Proper false)} {Q = ProperSubsection} subsection_proper x.main h.main;
    }

-- the tree of a text has the elements of sets in braces only
pub spec_proper : (ts : Tokens) → Within ProperSpec (spec_of ts)
spec_proper ts = weaken (spec_of ts) (λ n p r. r) proper (spec_read (Proper false) (Proper true) proper_built ts)

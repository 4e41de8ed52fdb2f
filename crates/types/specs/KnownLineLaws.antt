-- From line to line: the table has the type of every name that is visible there, so that all names of a text are known.
use Rattle.std.specs.Prelude.{ℕ, ◌≤◌, List, [], ◌∷◌, ◌++◌, ◌≡◌, length, set, replicate}
use Rattle.std.proofs.Math.Option.{none}
use Rattle.std.proofs.Common.{ap, ◌∙◌, length-set, arith}
use Rattle.std.proofs.lemmas.List.{length-replicate}
use Rattle.language.specs.Limits.{max_names}
use Rattle.language.specs.Tree.{Defined, Enumerated, OneSignal, OfWidth, OfType, Spec}
use Rattle.language.specs.Places.{TextLine as Line, ParameterLine, DefinitionLine, DeclarationLine, FormulaLine, all_lines}
use Rattle.language.specs.Names.{Names, visible, hidden, nowhere, walk_line, walk_lines, identifier_names, declares, declares_signal, over}
use Rattle.language.specs.Types.{ANumber, AType, type_code, type_of, typed_values, typed_signals}
use Rattle.language.proofs.Laws.Basics.Lists.{All, all_more, all_left, all_right, all_append, all_both}
use Rattle.language.proofs.Laws.Basics.NoPlace.{first-left, first-right, unless_none}
use Rattle.language.proofs.Laws.Values.DistinctNames.{Apart, Distinct, distinct_right, Across, across, distinct_names}
use Rattle.names.specs.References.{reference}
use Rattle.names.specs.Resolved.{declared_names, Resolved}
use Rattle.names.proofs.VisibleLaws.{In, Among, visible-right, visible_apart, in_own, in_declared, among-more, among-all, of_signals}
use Rattle.traversal.specs.LineLaws.{Each}
use Rattle.types.specs.Lines.{Context, next, KnownLine, TypesKnown}
use Rattle.types.specs.TableLaws.{all_fixed, put}
use Rattle.types.specs.PutLaws.{Has, type_other, put-length, Beside, others, apart_references, has_kept, fixed-names, has_set, fixed-put}
use Rattle.types.specs.KnownLaws.{defines, of_defined, signals_apart, Fits, known, fits_one, fits_values, behind_values, fits-signals, fits-again}

module _ (declared : Names) (few : length declared ≤ max_names) where
  -- before the lines ls, where the names ns are visible
  record Before (k : Context) (ls : List Line) (ns : Names) : Type 0 where
    pub shown : walk_lines hidden nowhere ns ls ≡ none
    pub distinct : Distinct (over declares ls)
    pub own : All (In declared) (over declares ls)
    pub among : Among ns declared
    pub apart : Across ns (over defines ls)
    pub signals : All (In ns) (over declares_signal ls)
    pub size : length k.table ≡ max_names
    pub fits : Fits declared k.table [] ns k.names
    pub fixed : All (Has declared k.table) (all_fixed ls)

  line_known : (k : Context) (l : Line) (ls : List Line) (ns : Names) → Before k (l ∷ ls) ns → KnownLine declared k l
  line_known k (ParameterLine x e) ls ns b = known declared k.table [] ns k.names b.fits e (first-left _ (walk_lines hidden nowhere (x ∷ ns) ls) b.shown)
  line_known k (DefinitionLine (Defined x e)) ls ns b = known declared k.table [] ns k.names b.fits e (first-left _ (walk_lines hidden nowhere (x ∷ ns) ls) b.shown)
  line_known k (DefinitionLine (Enumerated x is)) ls ns b = tt
  line_known k (DeclarationLine (OneSignal x)) ls ns b = tt
  line_known k (DeclarationLine (OfWidth x e)) ls ns b = known declared k.table [] ns k.names b.fits e (first-left _ (walk_lines hidden nowhere (x ∷ ns) ls) b.shown)
  line_known k (DeclarationLine (OfType u x)) ls ns b = b.fits u (unless_none (visible ns u) u.at (first-left (hidden ns u) (walk_lines hidden nowhere (x ∷ ns) ls) b.shown))
  line_known k (FormulaLine e) ls ns b = known declared k.table [] ns k.names b.fits e (first-left _ (walk_lines hidden nowhere ns ls) b.shown)

  -- behind a line
  onward : {k : Context} (j : Context) (l : Line) (ls : List Line) (ns : Names) → Before k (l ∷ ls) ns → length j.table ≡ max_names → Fits declared j.table [] (declares l ++ ns) j.names
      → All (Has declared j.table) (all_fixed ls) → Before j ls (declares l ++ ns)
  onward j l ls ns b size fits fixed =
      let D = over defines ls in
      record {
        shown = first-right (walk_line hidden nowhere ns l) _ b.shown;
        distinct = distinct_right (declares l) (over declares ls) b.distinct;
        own = all_right (In declared) (declares l) (over declares ls) b.own;
        among = among-more (declares l) ns declared (all_left (In declared) (declares l) (over declares ls) b.own) b.among;
        apart = all_append (λ n. All (Apart n) D) (declares l) ns (all_more (λ n a. of_defined (Apart n) ls a) (declares l) (across (declares l) (over declares ls) b.distinct))
            (all_more (λ n a. all_right (Apart n) (defines l) D a) ns b.apart);
        signals = all_more (λ n i. visible-right (declares l) ns n i) (over declares_signal ls) (all_right (In ns) (declares_signal l) (over declares_signal ls) b.signals);
        size = size;
        fits = fits;
        fixed = fixed;
      }

  before-next : (k : Context) (l : Line) (ls : List Line) (ns : Names) → Before k (l ∷ ls) ns → Before (next declared k l) ls (declares l ++ ns)
  before-next k (ParameterLine x e) ls ns b = onward _ (ParameterLine x e) ls ns b b.size (fits_one declared k.table ns k.names x ANumber b.fixed.0 b.fits) b.fixed.1
  before-next k (DefinitionLine (Defined x e)) ls ns b =
      let type = type_of k.names e in
      let r = reference declared [] x in
      let table = set k.table r (type_code type) in
      let seen : Fits declared table [] ns k.names = λ t v. type_other k.table r (type_code type) (reference declared [] t)
      (apart_references declared t x (b.among t v) b.own.0 (visible_apart ns (over defines (DefinitionLine (Defined x e) ∷ ls)) b.apart t v).0) ∙ b.fits t v in
      onward _ (DefinitionLine (Defined x e)) ls ns b (length-set k.table r (type_code type) ∙ b.size)
      (fits_one declared table ns k.names x type (has_set declared few k.table x type b.own.0 b.size) seen)
      (all_both (λ y o h. has_kept declared k.table x (type_code type) y b.own.0 o h) (all_fixed ls)
      (fixed-names (Beside declared x) ls (others declared x (over declares ls) b.distinct.0 b.own.1)) b.fixed)
  before-next k (DefinitionLine (Enumerated x is)) ls ns b =
      onward _ (DefinitionLine (Enumerated x is)) ls ns b b.size
      (fits_one declared k.table (identifier_names is ++ ns) (typed_values is k.names) x AType b.fixed.0
      (fits_values declared k.table is ns k.names (all_fixed ls) b.fixed.1 b.fits))
      (behind_values declared k.table is (all_fixed ls) b.fixed.1)
  before-next k (DeclarationLine (OneSignal x)) ls ns b = onward k (DeclarationLine (OneSignal x)) ls ns b b.size (fits-again declared k.table ns k.names x b.signals.0 b.fits)
      b.fixed.1
  before-next k (DeclarationLine (OfWidth x e)) ls ns b = onward k (DeclarationLine (OfWidth x e)) ls ns b b.size (fits-again declared k.table ns k.names x b.signals.0 b.fits)
      b.fixed.1
  before-next k (DeclarationLine (OfType u x)) ls ns b = onward k (DeclarationLine (OfType u x)) ls ns b b.size (fits-again declared k.table ns k.names x b.signals.0 b.fits)
      b.fixed.1
  before-next k (FormulaLine e) ls ns b = onward k (FormulaLine e) ls ns b b.size b.fits b.fixed

  lines-known : (k : Context) (ls : List Line) (ns : Names) → Before k ls ns → Each (next declared) (KnownLine declared) k ls
  lines-known k [] ns b = tt
  lines-known k (l ∷ ls) ns b = (line_known k l ls ns b, lines-known (next declared k l) ls (declares l ++ ns) (before-next k l ls ns b))

-- all names of a text
pub types-known : {x : Spec} {refs found : List ℕ} {n : ℕ} → Resolved x refs found n → (table : List ℕ) → table ≡ put (declared_names x) (replicate max_names 0) (all_fixed (all_lines x))
    → TypesKnown (declared_names x) table x
types-known {x} r table e =
    let declared = declared_names x in
    let ls = all_lines x in
    let signals = over declares_signal ls in
    let few : length declared ≤ max_names = (let a = r.count in let b = r.few in omega arith) in
    let d = distinct_names x r.distinct in
    let empty : length {A = ℕ} (replicate max_names 0) ≡ max_names = length-replicate {A = ℕ} max_names 0 in
    let has : All (Has declared table) (all_fixed ls) = rw e (fixed-put declared few ls (replicate max_names 0) empty d (in_declared x)) in
    record {
      lines = lines-known declared few (record { table = table; names = typed_signals ls }) ls signals (record {
        shown = r.visible;
        distinct = d;
        own = in_declared x;
        among = among-all signals declared (of_signals (In declared) ls (in_declared x));
        apart = signals_apart ls d;
        signals = in_own signals;
        size = ap length e ∙ put-length declared (all_fixed ls) (replicate max_names 0) ∙ empty;
        fits = fits-signals declared table ls has;
        fixed = has;
      });
    }

-- A written text's tree is expanded to the source's formula as the GUARANTEE of a specification without other lines.
use Rattle.std.specs.Prelude.{ℕ, zero, suc, ◌+◌, ◌≤◌, ◌<◌, ◌≡◌, refl, Bool, leb, length, get_or}
use Rattle.std.proofs.Math.Path.{ap, ap₂}
use Rattle.std.proofs.Common.{◌∙◌, sym, subst, arith, le-leb}
use Rattle.std.proofs.Math.Bool.{true, false}
use mathlib.Core.List.{List, [], ◌∷◌, ◌++◌, map, map-append, append-nil}
use Rattle.std.proofs.Math.Option.{Option, none, some}
use Rattle.std.proofs.lemmas.List.{length-map}
use Rattle.node.specs.Limits.{max_nodes}
use Rattle.node.specs.Ltl.{Formula, True, False, Signal, One, Two}
use Rattle.node.specs.Postorder.{SignalsBelow}
use Rattle.node.specs.Result.{Result, Done, ◌>>=◌, guard}
use Rattle.node.proofs.ResultLaws.{bind_to, guard-pass}
use Rattle.node.specs.Written.{count}
use Rattle.language.specs.Limits.{max_signals}
use Rattle.language.specs.Bytes.{same}
use Rattle.language.specs.Tokens.{Name, Token}
use Rattle.language.specs.Tree.{Expr, Definition, Declaration, Part, Require, Assert, Guarantee, Model, Mealy, Moore, Spec}
use Rattle.language.specs.Places.{refuse_at}
use Rattle.language.specs.DeclaredNames.{Single, Table, find, Port, Turns, turns, waiting, Declarations, declarations}
use Rattle.language.specs.Numbering.{in_order, signals_of, first_of, signal_list, too_many_signals}
use Rattle.language.specs.Lines.{Line, Written, implied, lines}
use Rattle.language.specs.Expansion.{gather, Context, expansion, signal_of, at_signals, define_all, expand_line, expand_section, section as sectionOf, whole, expand}
use Rattle.language.specs.Numbered.{flag_of}
use Rattle.language.specs.Shifting.{adapted}
use Rattle.language.specs.Reading.{spec_expansion}
use Rattle.language.proofs.Laws.Basics.Lists.{All, all_append}
use Rattle.language.proofs.Laws.Basics.Tests.{split, pick, leave, same_refl}
use Rattle.language.specs.Listed.{flag}
use Rattle.language.proofs.Laws.Values.EntryLaws.{entry-flag}
use Rattle.language.proofs.Laws.Meaning.NumberedLaws.{PortPlaced, entry-names}
use Rattle.basic.specs.Spelling.{spelling, names_of}
use Rattle.basic.specs.Statements.{guaranteeing}
use Rattle.basic.proofs.Lexed.{sign, past, token_at}
use Rattle.basic.proofs.Lexemes.{all_get_d}
use Rattle.basic.proofs.ParsedFormula.{inside_of, tree_of}
use Rattle.basic.proofs.ParsedText.{singles, main_for, plain_spec}
use Rattle.basic.proofs.Source.{Unlike, AllUnlike}

-- the ports of names that are declared from an offset on
abbrev pub ports_for : Bool → ℕ → List (List ℕ) → List Port
ports_for output at [] = []
ports_for output at (n ∷ ns) =
    record { name = token_at at (Name, n); output = output; width = 0; words = [] } ∷ ports_for output (past (sign ";") (past (Name, n) at)) ns

-- the names that are known behind their turns
abbrev tabled : List (List ℕ) → Table → Table
tabled [] d = d
tabled (n ∷ ns) d = tabled ns ((n, Single) ∷ d)

turns-singles : (output : Bool) (at : ℕ) (ns : List (List ℕ)) (d : Table) → turns [] output (singles at ns) d ≡ Done (record { table = tabled ns d; ports = ports_for output at ns })
unfolding ◌>>=◌
turns-singles output at [] d = refl
turns-singles output at (n ∷ ns) d =
    let next = past (sign ";") (past (Name, n) at) in
    let p : Port = record { name = token_at at (Name, n); output = output; width = 0; words = [] } in
    ap (λ (r : Result Turns). r >>= λ s. Done (record { table = s.table; ports = p ∷ s.ports })) (turns-singles output next ns ((n, Single) ∷ d))

-- each stands for a single signal
keep_single : (n x : List ℕ) (d : Table) → find d x ≡ Done Single → find ((n, Single) ∷ d) x ≡ Done Single
keep_single n x d h = split (λ r. r ≡ Done Single) (same n x) (λ _. refl) (λ _. h)

keep-tabled : (ns : List (List ℕ)) (x : List ℕ) (d : Table) → find d x ≡ Done Single → find (tabled ns d) x ≡ Done Single
keep-tabled [] x d h = h
keep-tabled (n ∷ ns) x d h = keep-tabled ns x ((n, Single) ∷ d) (keep_single n x d h)

find-tabled : (ns : List (List ℕ)) (k : ℕ) (d : Table) → k < length ns → find (tabled ns d) (get_or ns k []) ≡ Done Single
find-tabled [] k d h = absurd (omega arith)
find-tabled (n ∷ ns) zero d h = keep-tabled ns n ((n, Single) ∷ d) (pick (same n n) (Done Single) (find d n) (same_refl n))
find-tabled (n ∷ ns) (suc k) d h = find-tabled ns k ((n, Single) ∷ d) (omega arith)

tabled-append : (ms ns : List (List ℕ)) (d : Table) → tabled ns (tabled ms d) ≡ tabled (ms ++ ns) d
tabled-append [] ns d = refl
tabled-append (m ∷ ms) ns d = tabled-append ms ns ((m, Single) ∷ d)

-- each has one signal, whose number is its own
abbrev Narrow : Port → Type 0
Narrow p = signals_of p ≡ 1

abbrev port_texts : List Port → List (List ℕ)
port_texts ps = map (λ p. p.name.text) ps

ports_texts : (output : Bool) (at : ℕ) (ns : List (List ℕ)) → port_texts (ports_for output at ns) ≡ ns
ports_texts output at [] = refl
ports_texts output at (n ∷ ns) = ap (n ∷◌) (ports_texts output (past (sign ";") (past (Name, n) at)) ns)

ports_narrow : (output : Bool) (at : ℕ) (ns : List (List ℕ)) → All Narrow (ports_for output at ns)
ports_narrow output at [] = tt
ports_narrow output at (n ∷ ns) = (refl, ports_narrow output (past (sign ";") (past (Name, n) at)) ns)

first-at : (ps : List Port) → All Narrow ps → AllUnlike (port_texts ps) → (k : ℕ) → k < length (port_texts ps) → first_of ps (get_or (port_texts ps) k []) ≡ k
first-at [] w u k h = absurd (omega arith)
first-at (p ∷ ps) w u zero h = pick (same p.name.text p.name.text) 0 _ (same_refl p.name.text)
first-at (p ∷ ps) w u (suc k) h =
    let x = get_or (port_texts ps) k [] in
    let one = w.0 in
    let ih = first-at ps w.1 u.1 k (omega arith) in
    leave (same p.name.text x) 0 (signals_of p + first_of ps x) (all_get_d (Unlike p.name.text) (port_texts ps) k [] u.0 (omega arith)) ∙ omega arith

few_signals_lem : (n : ℕ) (ps : List Port) → All Narrow ps → n + length ps ≤ max_signals → too_many_signals n ps ≡ none
few_signals_lem n [] w h = refl
few_signals_lem n (p ∷ ps) w h =
    let one = w.0 in
    pick (leb (n + signals_of p) max_signals) (too_many_signals (n + signals_of p) ps) (some p.name.at) (le-leb (n + signals_of p) max_signals (omega arith))
    ∙ few_signals_lem (n + signals_of p) ps w.1 (omega arith)

no_implied : (output : Bool) (at : ℕ) (ns : List (List ℕ)) → implied (ports_for output at ns) ≡ []
no_implied output at [] = refl
no_implied output at (n ∷ ns) = no_implied output (past (sign ";") (past (Name, n) at)) ns

-- a formula's tree is expanded to the formula
expansion-inside : (c : Context) (names : List (List ℕ)) → ((k : ℕ) (t : Token) → k < length names → t.text ≡ get_or names k [] → c.formulas t ≡ Done (Signal k)) →
    (f : Formula) → SignalsBelow (length names) f → (at : ℕ) → expansion c (inside_of names at f) ≡ Done f
unfolding SignalsBelow
expansion-inside c names h True s at = refl
expansion-inside c names h False s at = refl
expansion-inside c names h (Signal k) s at = h k (token_at at (Name, get_or names k [])) s refl
expansion-inside c names h (One o a) s at = bind_to (expansion c (inside_of names _ a)) a (λ f. Done (One o f)) (expansion-inside c names h a s _)
expansion-inside c names h (Two o a b) s at =
    bind_to (expansion c (inside_of names _ a)) a _ (expansion-inside c names h a s.0 _) ∙ bind_to (expansion c (inside_of names _ b)) b (λ g. Done (Two o a g))
    (expansion-inside c names h b s.1 _)

-- one line of GUARANTEE and no other line
expand_line_lem : (x : Spec) (d : Declarations) (tree : Expr) (f : Formula) → x.definitions ≡ [] → x.strict ≡ false → expansion (at_signals d) tree ≡ Done f →
    expand x d ((Guarantee, Written tree ∷ []) ∷ (Require, []) ∷ (Assert, []) ∷ []) ≡ Done (guaranteeing f)
unfolding ◌>>=◌
expand_line_lem x d tree f undefined plain h =
    let c = at_signals d in
    let section : Part × List Line = (Guarantee, Written tree ∷ []) in
    let others : List (Part × List Line) = (Require, []) ∷ (Assert, []) ∷ [] in
    let line : gather (expand_line c) (Written tree ∷ []) ≡ Done (f ∷ []) = bind_to (expansion c tree) f (λ b. gather (expand_line c) [] >>= λ bs. Done (b ∷ bs)) h in
    let first : expand_section c section ≡ Done (Guarantee, f ∷ []) = bind_to (gather (expand_line c) (Written tree ∷ [])) (f ∷ []) (λ fs. Done (Guarantee, fs)) line in
    let all : gather (expand_section c) (section ∷ others) ≡ Done ((Guarantee, f ∷ []) ∷ (Require, []) ∷ (Assert, []) ∷ []) =
    bind_to (expand_section c section) (Guarantee, f ∷ []) (λ b. gather (expand_section c) others >>= λ bs. Done (b ∷ bs)) first in
    ap₂ (λ (ds : List Definition) (strict : Bool). gather (expand_section (define_all c ds)) (section ∷ others) >>= λ ss. Done (whole strict (sectionOf ss))) undefined plain
    ∙ bind_to (gather (expand_section c) (section ∷ others)) _ (λ ss. Done (whole false (sectionOf ss))) all

-- what a tree of one model gives, where refusals 15 and 16 find nothing: the one place that opens `spec_expansion`
expansion_by : (x : Spec) (d : Declarations) (f : Formula) (m : Model) → x.semantics ≡ m → x.target ≡ m → declarations x ≡ Done d → expand x d (lines x d) ≡ Done f
    → too_many_signals 0 (in_order d) ≡ none → count f ≤ max_nodes →
    spec_expansion x ≡ Done (record { formula = f; signals = signal_list (in_order d) })
unfolding spec_expansion refuse_at
expansion_by x d f m semantics target hd hf few small =
    let signals = signal_list (in_order d) in
    let unshifted : adapted x.semantics x.target signals f ≡ f = ap₂ (λ (semantics target : Model). adapted semantics target signals f) semantics target ∙ one-model m in
    let counted : leb (count f) max_nodes ≡ true = le-leb (count f) max_nodes small in
    bind_to (declarations x) d _ hd ∙ bind_to (expand x d (lines x d)) f _ hf
    ∙ ap (λ (g : Formula). refuse_at 15 (too_many_signals 0 (in_order d)) (guard (leb (count g) max_nodes) 16 0 (Done (record { formula = g; signals = signals })))) unshifted
    ∙ ap (λ (o : Option ℕ). refuse_at 15 o (guard (leb (count f) max_nodes) 16 0 (Done (record { formula = f; signals = signals })))) few
    ∙ guard-pass 16 0 _ counted
  where
    one-model : (m : Model) → adapted m m (signal_list (in_order d)) f ≡ f
    one-model Mealy = refl
    one-model Moore = refl

-- a written text's tree
module _
    (m : Model)
    (inputs outputs names : List (List ℕ))
    (f : Formula)
    (word : Token)
    (at : ℕ × ℕ × ℕ)
    (sides : inputs ++ outputs ≡ names)
    (below : SignalsBelow (length names) f)
    (unlike : AllUnlike names)
  where
    abbrev spec : Spec
    spec = plain_spec m word (main_for inputs outputs names f at)

    abbrev before : Table
    before = waiting (singles at.0 inputs) (waiting (singles at.1 outputs) [])

    abbrev pub declaredFor : Declarations
    declaredFor = record { table = tabled outputs (tabled inputs before); inputs = ports_for false at.0 inputs; outputs = ports_for true at.1 outputs }

    pub declared-for : declarations spec ≡ Done declaredFor
    unfolding ◌>>=◌
    declared-for =
        let declare : List Declaration → List Declaration → Result Declarations =
        λ ins outs. turns [] false ins (waiting ins (waiting outs [])) >>= λ i. turns [] true outs i.table >>= λ o. Done (record { table = o.table; inputs = i.ports; outputs = o.ports }) in
        let ins = singles at.0 inputs in
        let outs = singles at.1 outputs in
        ap₂ declare (append-nil ins) (append-nil outs)
        ∙ ap (λ (r : Result Turns). r >>= λ i. turns [] true outs i.table >>= λ o. Done (record { table = o.table; inputs = i.ports; outputs = o.ports }))
        (turns-singles false at.0 inputs before)
        ∙ ap (λ (r : Result Turns). r >>= λ o. Done (record { table = o.table; inputs = ports_for false at.0 inputs; outputs = o.ports }))
        (turns-singles true at.1 outputs (tabled inputs before))

    abbrev ports : List Port
    ports = in_order declaredFor

    texts-for : port_texts ports ≡ names
    texts-for = map-append (λ (p : Port). p.name.text) (ports_for false at.0 inputs) (ports_for true at.1 outputs) ∙ ap₂ ◌++◌ (ports_texts false at.0 inputs)
        (ports_texts true at.1 outputs) ∙ sides

    narrow : All Narrow ports
    narrow = all_append Narrow (ports_for false at.0 inputs) (ports_for true at.1 outputs) (ports_narrow false at.0 inputs) (ports_narrow true at.1 outputs)

    -- a signal's name stands for the signal
    name-stands : (k : ℕ) (t : Token) → k < length names → t.text ≡ get_or names k [] → (at_signals declaredFor).formulas t ≡ Done (Signal k)
    name-stands k t l e =
        let found : find (tabled outputs (tabled inputs before)) (get_or names k []) ≡ Done Single =
        ap (λ (d : Table). find d (get_or names k [])) (tabled-append inputs outputs before ∙ ap (λ (ns : List (List ℕ)). tabled ns before) sides) ∙ find-tabled names k before l in
        let number : first_of ports t.text ≡ k =
        ap (first_of ports) e ∙ subst (λ (ns : List (List ℕ)). k < length ns → first_of ports (get_or ns k []) ≡ k) texts-for (first-at ports narrow (subst AllUnlike (sym texts-for) unlike) k) l in
        bind_to (find declaredFor.table t.text) Single (signal_of ports t) (ap (find declaredFor.table) e ∙ found) ∙ ap (λ (n : ℕ). Done (Signal n)) (omega arith)

    expanded-for : expand spec declaredFor (lines spec declaredFor) ≡ Done (guaranteeing f)
    expanded-for =
        let tree = tree_of names at.2 f in
        ap₂ (λ (a b : List Line). expand spec declaredFor ((Guarantee, Written tree ∷ []) ∷ (Require, a) ∷ (Assert, b) ∷ [])) (no_implied false at.0 inputs) (no_implied true at.1 outputs)
        ∙ expand_line_lem spec declaredFor tree f refl refl (expansion-inside (at_signals declaredFor) names name-stands f below _)

    -- what the tree gives
    pub expansion-for : length names ≤ max_signals → count (guaranteeing f) ≤ max_nodes → spec_expansion spec ≡ Done (record { formula = guaranteeing f; signals = signal_list ports })
    expansion-for few small =
        let told : length ports ≡ length names = sym (length-map ports (λ p. p.name.text)) ∙ ap length texts-for in
        expansion_by spec declaredFor (guaranteeing f) m refl refl declared-for expanded-for (few_signals_lem 0 ports narrow (omega arith)) small

-- the signal list of such ports: their names as the text has them, and their side
module _ (text : List ℕ) (output : Bool) where
  pub names-back : (at : ℕ) (ns : List (List ℕ)) → All (PortPlaced text) (ports_for output at ns) → names_of text (signal_list (ports_for output at ns)) ≡ ns
  names-back at [] h = refl
  names-back at (n ∷ ns) h =
      let p : Port = record { name = token_at at (Name, n); output = output; width = 0; words = [] } in
      ap₂ ◌∷◌ (ap spelling (entry-names text p h.0 0 (omega arith))) (names-back (past (sign ";") (past (Name, n) at)) ns h.1)

  pub flags_back : (at : ℕ) (ns : List (List ℕ)) → All (PortPlaced text) (ports_for output at ns) → map flag_of (signal_list (ports_for output at ns)) ≡ map (λ _. flag output) ns
  flags_back at [] h = refl
  flags_back at (n ∷ ns) h = ap₂ ◌∷◌ (entry-flag output h.0.offset (omega arith) (omega arith)) (flags_back (past (sign ";") (past (Name, n) at)) ns h.1)

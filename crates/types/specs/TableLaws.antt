-- The table before the pass, line by line: the types of the declared names that need no expression.
use Rattle.std.specs.Prelude.{ℕ, suc, ◌<◌, List, [], ◌∷◌, ◌++◌, true, false, ◌≡◌, refl, ltb, length, get_or, drop, set, replicate}
use Rattle.std.proofs.Common.{append_assoc, sym, ap, ◌∙◌, subst, arith, ltb-true}
use Rattle.std.proofs.Math.Option.{Option, none, some}
use Rattle.std.proofs.lemmas.List.{get_or-replicate, length-replicate}
use Rattle.std.proofs.Math.ListN.{get_or-append}
use Rattle.language.specs.Tokens.{Token}
use Rattle.language.specs.Tree.{Expr, Named, Identifier, Defined, Enumerated, OneSignal, OfWidth, OfType, Spec}
use Rattle.language.specs.Grammar.{Tokens}
use Rattle.language.specs.Places.{TextLine as Line, ParameterLine, DefinitionLine, DeclarationLine, FormulaLine, all_lines}
use Rattle.language.specs.Names.{Names}
use Rattle.language.specs.Types.{ANumber, AFormula, ABus, AValue, AType, type_code, Typings, typed_values}
use Rattle.language.specs.Braces.{Proper}
use Rattle.language.proofs.Laws.Basics.Lists.{All}
use Rattle.language.specs.Limits.{max_names}
use Rattle.language.proofs.Laws.Basics.NoPlace.{first_none}
use Rattle.entries.specs.Kinds as EntryKind
use Rattle.entries.specs.Flat.{Entry, flat, under, leaf, each, flat_identifier, outline}
use Rattle.names.specs.Walkable.{names}
use Rattle.names.specs.References.{reference}
use Rattle.names.specs.Walking.{open_after}
use Rattle.traversal.specs.declared.Cell.{Cell}
use Rattle.traversal.specs.Cells.{Sees, SeenAlong}
use Rattle.traversal.specs.Arity.{first_line}
use Rattle.traversal.specs.Parts.{Part, operands_of}
use Rattle.traversal.specs.PlaceLaws.{first_in-nowhere}
use Rattle.traversal.specs.PassLaws.{run, Comes, Pass, Along, Works, expression-done}
use Rattle.traversal.specs.LineLaws.{entries_of, Each, lastly, text-holds}
use Rattle.traversal.specs.PassedLaws.{passed-all}
use Rattle.traversal.specs.TreeStored.{TreeStored, ProperLine}
use Rattle.traversal.specs.ProperLaws.{proper-lines}
use Rattle.types.specs.Codes.{undeclared}
use Rattle.types.specs.Known.{Resolved}
use Rattle.types.specs.Opened.{Shut, shut_stays, open_past, carries}
use Rattle.types.specs.Cells.{named_cell}
use Rattle.types.specs.Declaring.{declaring, declare, declared_table}
use Rattle.types.specs.DeclaringLaws.{declares_none, declares-set}

-- a line's names and their types, before those of the lines behind it; a definition's is not among them
abbrev pub fixed : Line → Typings → Typings
fixed (ParameterLine x e) ys = record { name = x; type = ANumber } ∷ ys
fixed (DefinitionLine (Defined x e)) ys = ys
fixed (DefinitionLine (Enumerated x is)) ys = record { name = x; type = AType } ∷ typed_values is ys
fixed (DeclarationLine (OneSignal x)) ys = record { name = x; type = AFormula } ∷ ys
fixed (DeclarationLine (OfWidth x e)) ys = record { name = x; type = ABus } ∷ ys
fixed (DeclarationLine (OfType u x)) ys = record { name = x; type = ABus } ∷ ys
fixed (FormulaLine e) ys = ys

abbrev pub all_fixed : List Line → Typings
all_fixed [] = []
all_fixed (l ∷ ls) = fixed l (all_fixed ls)

-- types put into a table
abbrev pub put : Names → List ℕ → Typings → List ℕ
put declared table [] = table
put declared table (y ∷ ys) = put declared (set table (reference declared [] y.name) (type_code y.type)) ys

-- no entry of an expression declares a name
inner_none : (k : ℕ) → ltb k first_line ≡ true → get_or declaring k 0 ≡ undeclared
inner_none k i =
    let low : k < first_line = ltb-true k first_line i in
    get_or-append (replicate first_line undeclared) (drop first_line declaring) 0 k (omega (arith, length-replicate {A = ℕ} first_line undeclared)) ∙ get_or-replicate first_line k undeclared 0 low

abbrev kept : Token → Unit {0} → Unit {0}
kept t y = y

nothing_asked : (bs : Names) (qs : List (Part (Unit {0}))) → Along open_past (λ _ _. Unit {0}) bs qs
nothing_asked bs [] = tt
nothing_asked bs (q ∷ qs) = (tt, nothing_asked (open_past bs q) qs)

module _ (declared : Names) (table : List ℕ) where
  abbrev pass : Pass (Unit {0}) Names (Unit {0}) (List ℕ) (Resolved declared)
  pass = record {
    bind = kept;
    along = open_after;
    leaves = open_past;
    step = declare;
    state = λ _ _ _. table;
    value = λ _. tt;
    bad = λ _. none;
    node = λ _ _. tt;
    fault = λ _ _. none;
    Good = λ _ _.
        Unit {0};
  }

  works : Works pass
  works =
      record {
        steps = λ c before s xs f i n. sym (declares_none c table (inner_none c.kind i));
        inherits = λ bs q _. nothing_asked bs (operands_of kept q);
        carries = carries kept;
        values = λ _ _ _ _ _ _. refl;
        faults = λ _ q _ _ _ _. first_none _ ∙ first_in-nowhere (operands_of kept q);
      }

module _ (declared : Names) (cell : ℕ → Cell) where
  abbrev Sight : ℕ → List Entry → Type 0
  Sight i es = SeenAlong open_after (Resolved declared) cell [] i es

  abbrev To : List Entry → ℕ → List ℕ → List Entry → List ℕ → Type 0
  To es i table rs table' = Comes open_after (Resolved declared) declare cell es i table [] rs table'

  -- what an entry with this kind puts down
  sets : {c : Cell} {k n : ℕ} {t : Token} (v : ℕ) (table : List ℕ) → get_or declaring k 0 ≡ v → (v ≡ undeclared → ⊥) → names k ≡ true
      → Sees (Resolved declared []) c (record { kind = k; token = some t; size = n }) → declare c table ≡ set table (reference declared [] t) v
  sets {c} v table q u n z =
      let e : get_or declaring c.kind 0 ≡ v = ap (λ j. get_or declaring j 0) z.kind ∙ q in
      sym (declares-set c table v (λ w. u (sym e ∙ w)) (sym e)) ∙ ap (λ r. set table r v) (z.token.refers n)

  skips : {c : Cell} {e : Entry} (table : List ℕ) → get_or declaring e.kind 0 ≡ undeclared → Sees (Resolved declared []) c e → declare c table ≡ table
  skips {c} table q z = sym (declares_none c table (ap (λ j. get_or declaring j 0) z.kind ∙ q))

  abbrev Puts : Entry → List ℕ → List ℕ → Type 0
  Puts e table table' = (c : Cell) → Sees (Resolved declared []) c e → declare c table ≡ table'

  -- over one entry
  over-one : (e : Entry) → Shut e.kind → (table table' : List ℕ) → Puts e table table' → (es : List Entry) (i : ℕ) → Sight i (e ∷ es) → To (e ∷ es) i table es table'
  over-one e s table table' p es i h =
      let stays = shut_stays s e refl in
      record {
        place = suc i;
        seen = subst (λ bs. SeenAlong open_after (Resolved declared) cell bs (suc i) es) stays h.1;
        runs = ap (run declare cell es (suc i)) (p (cell i) (subst (λ bs. Sees (Resolved declared bs) (cell i) e) stays h.0));
      }

  further : {es rs qs : List Entry} {i : ℕ} {s t u : List ℕ} (a : To es i s rs t) → To rs a.place t qs u → To es i s qs u
  further a b = record { place = b.place; seen = b.seen; runs = a.runs ∙ b.runs }

  over-words : (ws : List Token) (table : List ℕ) (es : List Entry) (i : ℕ) → Sight i (each (leaf EntryKind.word) ws ++ es) → To (each (leaf EntryKind.word) ws ++ es) i table es table
  over-words [] table es i h = record { place = i; seen = h; runs = refl }
  over-words (w ∷ ws) table es i h =
      let a = over-one _ (refl, refl) table table (λ c z. skips table refl z) (each (leaf EntryKind.word) ws ++ es) i h in
      further a (over-words ws table es a.place a.seen)

  over-identifiers : (is : List Identifier) (table : List ℕ) (es : List Entry) (i : ℕ) → Sight i (each flat_identifier is ++ es)
      → To (each flat_identifier is ++ es) i table es (put declared table (typed_values is []))
  over-identifiers [] table es i h = record { place = i; seen = h; runs = refl }
  over-identifiers (d ∷ is) table es i h =
      let W = each (leaf EntryKind.word) d.words in
      let E = each flat_identifier is in
      let named = set table (reference declared [] d.name) (type_code AValue) in
      let a = over-one _ (refl, refl) table named (λ c z. sets (type_code AValue) table refl (λ q. omega arith) refl z) ((W ++ E) ++ es) i h in
      let b = over-words d.words named (E ++ es) a.place (subst (Sight a.place) (append_assoc W E es) a.seen) in
      let c = over-identifiers is named es b.place b.seen in
      record { place = c.place; seen = c.seen; runs = a.runs ∙ ap (λ us. run declare cell us a.place named) (append_assoc W E es) ∙ b.runs ∙ c.runs }

  -- over a line with an expression
  over-line : (k : ℕ) (t : Option Token) (e : Expr) → Shut k → Proper false e → (table table' : List ℕ) → Puts (record { kind = k; token = t; size = suc (length (flat e)) }) table table' →
      (es : List Entry) (i : ℕ) → Sight i (under k t (flat e) ++ es) → To (under k t (flat e) ++ es) i table es table'
  over-line k t e s p table table' puts es i h =
      let own : Entry = record { kind = k; token = t; size = suc (length (flat e)) } in
      let split = append_assoc (flat e) (own ∷ []) es in
      let a = expression-done cell (pass declared table) (works declared table) [] tt e p tt (own ∷ es) i 0 [] none (subst (Sight i) split h) in
      let b = over-one own s table table' puts es a.place a.seen in
      record { place = b.place; seen = b.seen; runs = ap (λ us. run declare cell us i table) split ∙ a.runs ∙ b.runs }

  abbrev behind : List ℕ → Line → List ℕ
  behind table l = put declared table (fixed l [])

  abbrev LineTo : List ℕ → Line → Type 0
  LineTo table l = (es : List Entry) (i : ℕ) → Sight i (entries_of l ++ es) → To (entries_of l ++ es) i table es (behind table l)

  line_to : (table : List ℕ) (l : Line) → ProperLine l → LineTo table l
  line_to table (ParameterLine x e) p = over-line EntryKind.parameter (some x) e (refl, refl) p table _ (λ c z. sets (type_code ANumber) table refl (λ q. omega arith) refl z)
  line_to table (DefinitionLine (Defined x e)) p = over-line EntryKind.definition (some x) e (refl, refl) p table table (λ c z. skips table refl z)
  line_to table (DefinitionLine (Enumerated x is)) p =
      λ es i h.
      let a = over-one _ (refl, refl) table (set table (reference declared [] x) (type_code AType)) (λ c z. sets (type_code AType) table refl (λ q. omega arith) refl z) (each flat_identifier is ++ es) i
      h in
      further a (over-identifiers is _ es a.place a.seen)
  line_to table (DeclarationLine (OneSignal x)) p = over-one _ (refl, refl) table _ (λ c z. sets (type_code AFormula) table refl (λ q. omega arith) refl z)
  line_to table (DeclarationLine (OfWidth x e)) p = over-line EntryKind.bus (some x) e (refl, refl) p.1 table _ (λ c z. sets (type_code ABus) table refl (λ q. omega arith) refl z)
  line_to table (DeclarationLine (OfType u x)) p = over-line EntryKind.typed (some x) (Named u) (refl, refl) (refl, p.0) table _ (λ c z. sets (type_code ABus) table refl (λ q. omega arith) refl z)
  line_to table (FormulaLine e) p = over-line EntryKind.line none e (refl, refl) p table table (λ c z. skips table refl z)

  abbrev idle : List ℕ → ℕ → Option ℕ → List ℕ
  idle table before f = table

  abbrev nowhere : List ℕ → Line → Option ℕ
  nowhere table l = none

  abbrev ProperOne : List ℕ → Line → Type 0
  ProperOne table l = ProperLine l

  each-proper : (table : List ℕ) (ls : List Line) → All ProperLine ls → Each behind ProperOne table ls
  each-proper table [] h = tt
  each-proper table (l ∷ ls) h = (h.0, each-proper (behind table l) ls h.1)

  lines_to : (x : Spec) (table : List ℕ) → All ProperLine (all_lines x) → Sight 0 (outline x) → run declare cell (outline x) 0 table ≡ lastly behind table (all_lines x)
  lines_to x table p h =
      (text-holds open_after (Resolved declared) [] cell declare idle behind nowhere ProperOne
      (λ t l g es i before f s. record { before = 0; comes = line_to t l g es i s })
      (record { steps = λ c t before f q. sym (declares_none c t (ap (λ j. get_or declaring j 0) q)); stays = shut_stays (refl, refl) })
      x table 0 0 none (each-proper table (all_lines x) p) h).runs

-- the lines' types one after the other
module _ (declared : Names) where
  put_values : (is : List Identifier) (table : List ℕ) (ys : Typings) → put declared (put declared table (typed_values is [])) ys ≡ put declared table (typed_values is ys)
  put_values [] table ys = refl
  put_values (i ∷ is) table ys = put_values is (set table (reference declared [] i.name) (type_code AValue)) ys

  put-line : (l : Line) (table : List ℕ) (ys : Typings) → put declared (put declared table (fixed l [])) ys ≡ put declared table (fixed l ys)
  put-line (ParameterLine x e) table ys = refl
  put-line (DefinitionLine (Defined x e)) table ys = refl
  put-line (DefinitionLine (Enumerated x is)) table ys = put_values is (set table (reference declared [] x) (type_code AType)) ys
  put-line (DeclarationLine (OneSignal x)) table ys = refl
  put-line (DeclarationLine (OfWidth x e)) table ys = refl
  put-line (DeclarationLine (OfType u x)) table ys = refl
  put-line (FormulaLine e) table ys = refl

  put-lines : (ls : List Line) (table : List ℕ) → lastly (λ t l. put declared t (fixed l [])) table ls ≡ put declared table (all_fixed ls)
  put-lines [] table = refl
  put-lines (l ∷ ls) table = put-lines ls (put declared table (fixed l [])) ∙ put-line l table (all_fixed ls)

  -- the table that the code makes first
  pub table-first : (refs w : List ℕ) (ts : Tokens) (n : ℕ) (x : Spec) → SeenAlong open_after (Resolved declared) (named_cell refs w) [] 0 (outline x) → TreeStored w ts n x
      → declared_table refs w n ≡ put declared (replicate max_names 0) (all_fixed (all_lines x))
  table-first refs w ts n x seen t =
      passed-all declare (named_cell refs w) (replicate max_names 0) (outline x) n t.count ∙ lines_to declared (named_cell refs w) x (replicate max_names 0) (proper-lines x t.proper) seen ∙
      put-lines (all_lines x) (replicate max_names 0)

-- The pass finds the first wrong type of a text whose names are resolved.
use Rattle.std.specs.Prelude.{ℕ, suc, ◌-◌, ◌<◌, List, [], ◌∷◌, ◌++◌, true, false, ◌≡◌, refl, eqb, ltb, length, get_or}
use Rattle.std.proofs.Common.{append_assoc, sym, ap₂, ◌∙◌, subst, length-append, arith, ltb-true, eq-eqb, ne_eqb}
use Rattle.std.proofs.Math.Option.{Option, none, some}
use Rattle.std.proofs.Math.Path.{ap}
use Rattle.std.proofs.Math.ListN.{set}
use Rattle.std.proofs.Math.Seq.{take-append_seam, drop-append_seam}
use Rattle.std.proofs.lemmas.Bool.{eqb-false}
use Rattle.language.specs.Tokens.{Token}
use Rattle.language.specs.Tree.{Expr, Named, Identifier, Defined, Enumerated, OneSignal, OfWidth, OfType, Spec}
use Rattle.language.specs.Grammar.{Tokens}
use Rattle.language.specs.Places.{start, first, unless, TextLine as Line, ParameterLine, DefinitionLine, DeclarationLine, FormulaLine, all_lines}
use Rattle.language.specs.Names.{Names}
use Rattle.language.specs.Types.{
  ExprType,
  ANumber,
  ASet,
  AFormula,
  ABus,
  AValue,
  AType,
  Unknown,
  type_code,
  Typings,
  with_number,
  type_of,
  wrong,
  mistyped,
  demanded,
  definable,
  mistyped_line,
  typed_signals,
  mistyped_lines,
  wrong_type,
}
use Rattle.language.specs.Braces.{Proper}
use Rattle.language.proofs.Laws.Basics.Lists.{All}
use Rattle.language.proofs.Laws.Basics.Tests.{pick, leave}
use Rattle.language.proofs.Laws.Basics.NoPlace.{first_none, first_assoc, first_comm}
use Rattle.entries.specs.Kinds as EntryKind
use Rattle.entries.specs.Flat.{Entry, flat, under, leaf, each, flat_identifier, outline}
use Rattle.names.specs.References.{reference}
use Rattle.names.specs.Walking.{open_after}
use Rattle.traversal.specs.declared.Cell.{Cell}
use Rattle.traversal.specs.Cells.{Sees, SeenAlong}
use Rattle.traversal.specs.Arity.{arities, operands, first_line}
use Rattle.traversal.specs.ArityLaws.{fixed-operands}
use Rattle.traversal.specs.Parts.{Whole, kind_of}
use Rattle.traversal.specs.PassLaws.{run, Pass, Works, expression-done}
use Rattle.traversal.specs.LineLaws.{entries_of, Each, first_bad, Lined, Alone, alone-done, identifiers-alone, text-holds}
use Rattle.traversal.specs.Passed.{passed}
use Rattle.traversal.specs.PassedLaws.{passed-all}
use Rattle.traversal.specs.TreeStored.{TreeStored, ProperLine}
use Rattle.traversal.specs.ProperLaws.{proper-lines}
use Rattle.types.specs.Codes.{takes_any, takes_definable}
use Rattle.types.specs.Kinds.{other_takes, fits, misfits, indexed, place_of, reference_of, type_at}
use Rattle.types.specs.Pass.{Operand, State, types_of, starts_of, node, wrong_at, fault, table_of, table_after, stepped, step, state}
use Rattle.types.specs.Known.{Resolved, Known}
use Rattle.types.specs.Opened.{Shut, shut_stays, open_past, carries}
use Rattle.types.specs.Lines.{Context, next, KnownLine, TypesKnown}
use Rattle.types.specs.TakeLaws.{Takes, none_wrong, one-wrong, by_misfits, last_takes_lem, unindexed}
use Rattle.types.specs.NodeLaws.{value, bad, Good, inherits, values}
use Rattle.types.specs.FaultLaws.{faults, free}

-- with the operands xs on the stack
steps : (table : List ℕ) (c : Cell) (before : ℕ) (s xs : List Operand) (f : Option ℕ) → operands before c ≡ length xs
    → step c (state table before (s ++ xs) f) ≡ stepped c (state table before (s ++ xs) f) (length s)
unfolding step
steps table c before s xs f n =
    let m : length (s ++ xs) - operands before c ≡ length s = omega (arith, length-append s xs) in
    ap (stepped c (state table before (s ++ xs) f)) m

same-table : (table : List ℕ) (c : Cell) (xs : List Operand) → (c.kind ≡ EntryKind.definition → ⊥) → table_after table c xs ≡ table
unfolding table_of
same-table table c xs h = leave (eqb c.kind EntryKind.definition) _ _ (ne_eqb _ _ h)

-- an entry of an expression
part-steps : (table : List ℕ) (c : Cell) (before : ℕ) (s xs : List Operand) (f : Option ℕ) → ltb c.kind first_line ≡ true → operands before c ≡ length xs →
    step c (state table before (s ++ xs) f) ≡ state table c.kind (s ++ (node table c xs ∷ [])) (first f (fault table c xs))
part-steps table c before s xs f i n =
    let low : c.kind < first_line = ltb-true _ _ i in
    steps table c before s xs f n
    ∙ ap₂ (λ u v. record { before = c.kind; stack = u; found = first f (fault table c v); table = table_after table c v })
    (pick (ltb c.kind first_line) _ _ i ∙ ap₂ (λ u v. u ++ (node table c v ∷ [])) (take-append_seam s xs) (drop-append_seam s xs))
    (drop-append_seam s xs)
    ∙ ap (λ t. state t c.kind (s ++ (node table c xs ∷ [])) (first f (fault table c xs))) (same-table table c xs (λ e. omega arith))

-- an entry of a line
line-steps : (table : List ℕ) (c : Cell) (before : ℕ) (xs : List Operand) (f : Option ℕ) → ltb c.kind first_line ≡ false → operands before c ≡ length xs →
    step c (state table before xs f) ≡ state (table_after table c xs) c.kind [] (first f (fault table c xs))
line-steps table c before xs f i n =
    steps table c before [] xs f n
    ∙ ap (λ u. record { before = c.kind; stack = u; found = first f (fault table c xs); table = table_after table c xs }) (leave (ltb c.kind first_line) _ _ i)

module _ (declared : Names) (table : List ℕ) where
  abbrev pass : Pass Typings Names Operand State (Resolved declared)
  pass = record {
    bind = with_number;
    along = open_after;
    leaves = open_past;
    step = step;
    state = state table;
    value = value;
    bad = bad;
    node = node table;
    fault = fault table;
    Good = Good declared
        table;
  }

  works : Works pass
  works = record { steps = part-steps table; inherits = inherits declared table; carries = carries with_number; values = values declared table; faults = faults declared table }

-- a definition 'is a number, a set or a formula'
definable-fits : (k : ExprType) → fits takes_definable (type_code k) ≡ definable k
unfolding fits
definable-fits ANumber = refl
definable-fits ASet = refl
definable-fits AFormula = refl
definable-fits ABus = refl
definable-fits AValue = refl
definable-fits AType = refl
definable-fits Unknown = refl

definition-takes : Takes EntryKind.definition takes_any takes_definable
definition-takes = record { others = refl; final = refl; plain = refl }

definition-wrong : (k : ExprType) (s : ℕ) → wrong_at EntryKind.definition (type_code k ∷ []) (s ∷ []) ≡ unless (definable k) s
definition-wrong k s =
    by_misfits EntryKind.definition takes_any (type_code k ∷ []) (s ∷ []) refl (λ e. omega arith) ∙ ap (λ l. misfits takes_any l (type_code k ∷ []) (s ∷ [])) (last_takes_lem definition-takes 1)
    ∙ ap (λ b. first (unless b s) none) (definable-fits k) ∙ first_none (unless (definable k) s)

module _ (declared : Names) (cell : ℕ → Cell) where
  abbrev idle : Context → ℕ → Option ℕ → State
  idle k before f = state k.table before [] f

  abbrev GoodLine : Context → Line → Type 0
  GoodLine k l = ProperLine l × KnownLine declared k l

  abbrev bad_line : Context → Line → Option ℕ
  bad_line k l = mistyped_line k.names l

  abbrev Comes : List Entry → ℕ → State → List Entry → Context → Option ℕ → Type 0
  Comes es i s rs k f = Lined open_after (Resolved declared) [] cell step idle (next declared) bad_line GoodLine es i s rs k f

  abbrev Sight : ℕ → List Entry → Type 0
  Sight i es = SeenAlong open_after (Resolved declared) cell [] i es

  -- an entry that is no index
  quiet : (table : List ℕ) (c : Cell) (k : ℕ) (xs : List Operand) → c.kind ≡ k → get_or other_takes k 0 ≡ takes_any → fault table c xs ≡ wrong_at k (types_of xs) (starts_of xs)
  quiet table c k xs e o =
      ap (λ j. first (indexed j (type_at table (reference_of c.token)) (place_of c.token)) (wrong_at j (types_of xs) (starts_of xs))) e
      ∙ ap (λ m. first m (wrong_at k (types_of xs) (starts_of xs))) (unindexed k (type_at table (reference_of c.token)) (place_of c.token) (λ z. omega (arith, o)))

  -- a line with an expression
  held : (k : ℕ) (t : Option Token) (x y : Context) (e : Expr) (w : Option ℕ) → Shut k → ltb k first_line ≡ false → eqb k EntryKind.element ≡ false → eqb k EntryKind.listed ≡ false
      → get_or arities k 0 ≡ 1 → get_or other_takes k 0 ≡ takes_any
      → wrong_at k (type_code (type_of x.names e) ∷ []) (start e ∷ []) ≡ w
      → ((c : Cell) → Sees (Resolved declared []) c (record { kind = k; token = t; size = suc (length (flat e)) }) → table_after x.table c (value (Whole x.names e) ∷ []) ≡ y.table)
      → Proper false e → Known declared [] x.table x.names e
      → (es : List Entry) (i before : ℕ) (f : Option ℕ) → Sight i (under k t (flat e) ++ es) → Comes (under k t (flat e) ++ es) i (idle x before f) es y (first f (first w (mistyped x.names e)))
  held k t x y e w shut out other unlisted arity free hw ht p g es i before f h =
      let own : Entry = record { kind = k; token = t; size = suc (length (flat e)) } in
      let split = append_assoc (flat e) (own ∷ []) es in
      let inside = expression-done cell (pass declared x.table) (works declared x.table) [] x.names e p g (own ∷ es) i before [] f (subst (Sight i) split h) in
      let c = cell inside.place in
      let stays = shut_stays shut own refl in
      let ends = at-line c (subst (λ bs. Sees (Resolved declared bs) c own) stays inside.seen.0) in
      record {
        before = c.kind;
        comes = record {
          place = suc inside.place;
          seen = subst (λ bs. SeenAlong open_after (Resolved declared) cell bs (suc inside.place) es) stays inside.seen.1;
          runs = ap (λ us. run step cell us i (idle x before f)) split ∙ inside.runs ∙ ap (run step cell es (suc inside.place)) ends;
        };
      }
    where
      at-line : (c : Cell) → Sees (Resolved declared []) c (record { kind = k; token = t; size = suc (length (flat e)) }) →
          step c (state x.table (kind_of (Whole x.names e)) (value (Whole x.names e) ∷ []) (first f (mistyped x.names e))) ≡ idle y c.kind (first f (first w (mistyped x.names e)))
      at-line c z =
          let v = value (Whole x.names e) ∷ [] in
          line-steps x.table c (kind_of (Whole x.names e)) v (first f (mistyped x.names e)) (ap (λ j. ltb j first_line) z.kind ∙ out)
          (fixed-operands k (kind_of (Whole x.names e)) c z.kind other unlisted arity)
          ∙ ap₂ (λ u g. state u c.kind [] (first (first f (mistyped x.names e)) g)) (ht c z) (quiet x.table c k v z.kind free ∙ hw)
          ∙ ap (state y.table c.kind []) (first_assoc f (mistyped x.names e) w ∙ ap (first f) (first_comm (mistyped x.names e) w))

  -- an entry that stands alone
  abbrev Lonely : ℕ → Type 0
  Lonely j = Alone open_after (Resolved declared) [] cell step idle (next declared) bad_line GoodLine j

  alone : (j : ℕ) → Shut j → ltb j first_line ≡ false → eqb j EntryKind.element ≡ false → eqb j EntryKind.listed ≡ false → get_or arities j 0 ≡ 0 → Takes j takes_any takes_any → eqb j EntryKind.definition ≡ false
      → Lonely j
  alone j shut out other unlisted arity free plain = record { steps = steps'; stays = shut_stays shut }
    where
      steps' : (c : Cell) (k : Context) (before : ℕ) (f : Option ℕ) → c.kind ≡ j → step c (idle k before f) ≡ idle k c.kind f
      steps' c k before f e =
          line-steps k.table c before [] f (ap (λ n. ltb n first_line) e ∙ out) (fixed-operands j before c e other unlisted arity)
          ∙ ap₂ (λ t g. state t c.kind [] (first f g)) (same-table k.table c [] (λ z. eqb-false j _ plain (sym e ∙ z)))
          (quiet k.table c j [] e free.others ∙ none_wrong free (λ z. omega arith))
          ∙ ap (state k.table c.kind []) (first_none f)

  same_after : (k : ℕ) (t : Option Token) (n : ℕ) (table : List ℕ) (xs : List Operand) → eqb k EntryKind.definition ≡ false → (c : Cell)
      → Sees (Resolved declared []) c (record { kind = k; token = t; size = n }) → table_after table c xs ≡ table
  same_after k t n table xs h c z = same-table table c xs (λ e. eqb-false k _ h (sym z.kind ∙ e))

  -- a definition's type is put down
  defined_after : (x : Token) (n v s : ℕ) (table : List ℕ) → (c : Cell) → Sees (Resolved declared []) c (record { kind = EntryKind.definition; token = some x; size = n }) →
      table_after table c (record { type = v; start = s } ∷ []) ≡ set table (reference declared [] x) v
  unfolding table_of
  defined_after x n v s table c z = pick (eqb c.kind EntryKind.definition) _ _ (eq-eqb _ _ z.kind) ∙ ap (λ r. set table r v) (z.token.refers refl)

  by : (k : Context) (us es : List Entry) → All (λ e. Lonely e.kind) us →
      (i before : ℕ) (f : Option ℕ) → Sight i (us ++ es) → Comes (us ++ es) i (idle k before f) es k (first f none)
  by k us es a i before f h = subst (Comes (us ++ es) i (idle k before f) es k) (sym (first_none f))
      (alone-done open_after (Resolved declared) [] cell step idle (next declared) bad_line GoodLine us es a k i before f h)

  names-alone : (is : List Identifier) → All (λ e. Lonely e.kind) (each flat_identifier is)
  names-alone is =
      identifiers-alone open_after (Resolved declared) [] cell step idle (next declared) bad_line GoodLine (alone EntryKind.identifier (refl, refl) refl refl refl refl (free _ refl refl refl) refl)
      (alone EntryKind.word (refl, refl) refl refl refl refl (free _ refl refl refl) refl) is

  -- a line whose expression must have the type K
  demands : (k : ℕ) (t : Option Token) (x y : Context) (e : Expr) (K : ExprType) → Shut k → ltb k first_line ≡ false → eqb k EntryKind.element ≡ false → eqb k EntryKind.listed ≡ false
      → get_or arities k 0 ≡ 1 → Takes k takes_any (type_code K)
      → eqb k EntryKind.definition ≡ false → x.table ≡ y.table → Proper false e → Known declared [] x.table x.names e
      → (es : List Entry) (i before : ℕ) (f : Option ℕ) → Sight i (under k t (flat e) ++ es) → Comes (under k t (flat e) ++ es) i (idle x before f) es y (first f (demanded K x.names e))
  demands k t x y e K shut out other unlisted arity takes plain same p g =
      held k t x y e (wrong K x.names e) shut out other unlisted arity takes.others (one-wrong K _ _ takes (λ z. omega arith))
      (λ c z. same_after k t _ x.table (value (Whole x.names e) ∷ []) plain c z ∙ same) p g

  line-done : (k : Context) (l : Line) → GoodLine k l → (es : List Entry) (i before : ℕ) (f : Option ℕ) → Sight i (entries_of l ++ es) →
      Comes (entries_of l ++ es) i (idle k before f) es (next declared k l) (first f (mistyped_line k.names l))
  line-done k (ParameterLine x e) g = demands EntryKind.parameter (some x) k _ e ANumber (refl, refl) refl refl refl refl (record { others = refl; final = refl; plain = refl }) refl refl g.0 g.1
  line-done k (DefinitionLine (Defined x e)) g =
      held EntryKind.definition (some x) k _ e (unless (definable (type_of k.names e)) (start e)) (refl, refl) refl refl refl refl refl (definition-wrong (type_of k.names e) (start e))
      (λ c z. defined_after x _ _ (start e) k.table c z) g.0 g.1
  line-done k (DefinitionLine (Enumerated x is)) g =
      λ es i before f h.
      let past = by k (leaf EntryKind.enumeration x ++ each flat_identifier is) es (alone EntryKind.enumeration (refl, refl) refl refl refl refl (free _ refl refl refl) refl, names-alone is) i before
      f h in
      record { before = past.before; comes = past.comes }
  line-done k (DeclarationLine (OneSignal x)) g = λ es. by k (leaf EntryKind.signal x) es (alone EntryKind.signal (refl, refl) refl refl refl refl (free _ refl refl refl) refl, tt)
  line-done k (DeclarationLine (OfWidth x e)) g = demands EntryKind.bus (some x) k _ e ANumber (refl, refl) refl refl refl refl (record { others = refl; final = refl; plain = refl }) refl refl
      g.0.1 g.1
  line-done k (DeclarationLine (OfType u x)) g =
      λ es i before f h. subst (Comes (entries_of (DeclarationLine (OfType u x)) ++ es) i (idle k before f) es k) (ap (first f) (first_none (wrong AType k.names (Named u))))
      (demands EntryKind.typed (some x) k k (Named u) AType (refl, refl) refl refl refl refl (record { others = refl; final = refl; plain = refl }) refl refl (refl, g.0.0) g.1 es i before f h)
  line-done k (FormulaLine e) g = demands EntryKind.line none k _ e AFormula (refl, refl) refl refl refl refl (record { others = refl; final = refl; plain = refl }) refl refl g.0 g.1

-- the lines' places
good-lines : (declared : Names) (k : Context) (ls : List Line) → All ProperLine ls → Each (next declared) (KnownLine declared) k ls
    → Each (next declared) (λ k l. ProperLine l × KnownLine declared k l) k ls
good-lines declared k [] p g = tt
good-lines declared k (l ∷ ls) p g = ((p.0, g.0), good-lines declared (next declared k l) ls p.1 g.1)

first-wrong : (declared : Names) (k : Context) (ls : List Line) → first_bad (next declared) (λ k l. mistyped_line k.names l) k ls ≡ mistyped_lines k.names ls
first-wrong declared k [] = refl
first-wrong declared k (l ∷ ls) = ap (first (mistyped_line k.names l)) (first-wrong declared (next declared k l) ls)

-- refusal 9
pub finds-wrong : (declared : Names) (cell : ℕ → Cell) (w : List ℕ) (ts : Tokens) (n : ℕ) (x : Spec) (table : List ℕ) → SeenAlong open_after (Resolved declared) cell [] 0 (outline x)
    → TreeStored w ts n x → TypesKnown declared table x →
    (passed step cell (state table 0 [] none) n).found ≡ wrong_type x
finds-wrong declared cell w ts n x table seen t known =
    let k : Context = record { table = table; names = typed_signals (all_lines x) } in
    let ends = text-holds open_after (Resolved declared) [] cell step (λ k before f. state k.table before [] f) (next declared) (λ k l. mistyped_line k.names l)
    (λ k l. ProperLine l × KnownLine declared k l) (line-done declared cell) (alone declared cell EntryKind.heading (refl, refl) refl refl refl refl (free _ refl refl refl) refl) x
    k 0 0 none (good-lines declared k (all_lines x) (proper-lines x t.proper) known.lines) seen in
    ap (λ (s : State). s.found) (passed-all step cell (state table 0 [] none) (outline x) n t.count ∙ ends.runs) ∙ first-wrong declared k (all_lines x)

-- The pass finds the first expression that is too deep, whatever tree the entries hold.
use Rattle.std.specs.Prelude.{ℕ, suc, ◌-◌, List, [], ◌∷◌, ◌++◌, Bool, true, false, ◌≡◌, refl, eqb, leb, ltb, length, get_or}
use Rattle.std.proofs.Common.{append_assoc, sym, ap, ap₂, ◌∙◌, subst, length-append, arith, leb-true, leb-false, le-leb}
use Rattle.std.proofs.Math.Option.{Option, none, some}
use Rattle.std.proofs.Math.Seq.{take-append_seam, drop-append_seam}
use Rattle.std.proofs.lemmas.Bool.{lt-leb}
use Rattle.language.specs.Limits.{max_levels}
use Rattle.language.specs.Tokens.{Token}
use Rattle.language.specs.Tree.{Expr, Named, Defined, Enumerated, OneSignal, OfWidth, OfType, Spec}
use Rattle.language.specs.Grammar.{Tokens}
use Rattle.language.specs.Places.{start, levels, first, first_in, unless, TextLine as Line, ParameterLine, DefinitionLine, DeclarationLine, FormulaLine, all_lines, deep, deep_line, too_deep}
use Rattle.language.specs.Braces.{Proper}
use Rattle.language.proofs.Laws.Basics.Lists.{All}
use Rattle.language.proofs.Laws.Basics.Tests.{pick, leave}
use Rattle.language.proofs.Laws.Basics.NoPlace.{first_none}
use Rattle.entries.specs.Kinds as Kind
use Rattle.entries.specs.Flat.{Entry, flat, under, leaf, each, flat_identifier, outline}
use Rattle.traversal.specs.declared.Cell.{Cell}
use Rattle.traversal.specs.Cells.{nothing, OfToken, Seen, cell_at, TokensTell, Offset}
use Rattle.traversal.specs.CellLaws.{entries-seen}
use Rattle.traversal.specs.Arity.{arities, operands, first_line}
use Rattle.traversal.specs.ArityLaws.{fixed-operands}
use Rattle.traversal.specs.Parts.{Part, Whole, operands_of, kind_of}
use Rattle.traversal.specs.PlaceLaws.{first_in-nowhere}
use Rattle.traversal.specs.PassLaws.{run, Pass, Along, Works, expression-done}
use Rattle.traversal.specs.LineLaws.{entries_of, Each, first_bad, Lined, Alone, alone-done, identifiers-alone, text-holds}
use Rattle.traversal.specs.Passed.{passed}
use Rattle.traversal.specs.PassedLaws.{passed-all}
use Rattle.traversal.specs.TreeStored.{TreeStored, ProperLine}
use Rattle.traversal.specs.ProperLaws.{proper-lines}
use Rattle.traversal.specs.Starts.{first_of}
use Rattle.depth.specs.Depth.{Operand, State, capped, levels_of, starts_of, node, fault_of, fault, stepped, step, state}
use Rattle.depth.specs.NodeLaws.{value, values}

-- with the operands xs on the stack
steps : (c : Cell) (before : ℕ) (s xs : List Operand) (f : Option ℕ) → operands before c ≡ length xs → step c (state before (s ++ xs) f) ≡ stepped c (state before (s ++ xs) f) (length s)
unfolding step
steps c before s xs f n = let m : length (s ++ xs) - operands before c ≡ length s = omega (arith, length-append s xs) in ap (stepped c (state before (s ++ xs) f)) m

-- an entry of an expression
part-steps : (c : Cell) (before : ℕ) (s xs : List Operand) (f : Option ℕ) → ltb c.kind first_line ≡ true → operands before c ≡ length xs →
    step c (state before (s ++ xs) f) ≡ state c.kind (s ++ (node c xs ∷ [])) (first f (fault c xs))
part-steps c before s xs f i n =
    steps c before s xs f n
    ∙ ap₂ (state c.kind)
    (pick (ltb c.kind first_line) _ _ i ∙ ap₂ (λ u v. u ++ (node c v ∷ [])) (take-append_seam s xs) (drop-append_seam s xs))
    (ap (λ v. first f (fault c v)) (drop-append_seam s xs))

-- an entry of a line
line-steps : (c : Cell) (before : ℕ) (xs : List Operand) (f : Option ℕ) → ltb c.kind first_line ≡ false → operands before c ≡ length xs →
    step c (state before xs f) ≡ state c.kind [] (first f (unless (leb (first_of (levels_of xs)) max_levels) (first_of (starts_of xs))))
unfolding fault_of
line-steps c before xs f i n =
    steps c before [] xs f n
    ∙ ap₂ (state c.kind) (leave (ltb c.kind first_line) _ _ i) (ap (first f) (leave (ltb c.kind first_line) _ _ i))

-- nothing is asked of the names
abbrev Any : Unit {0} → Part (Unit {0}) → Type 0
Any b q = Unit {0}

abbrev nothing-past : Unit {0} → Part (Unit {0}) → Unit {0}
nothing-past b q = tt

any_all : (qs : List (Part (Unit {0}))) → Along nothing-past Any tt qs
any_all [] = tt
any_all (q ∷ qs) = (tt, any_all qs)

abbrev whole : Expr → Part (Unit {0})
whole e = Whole tt e

abbrev same : Token → Unit {0} → Unit {0}
same t y = y

abbrev pass : Pass (Unit {0}) (Unit {0}) Operand State (OfToken Offset)
pass = record { bind = same; along = nothing; leaves = nothing-past; step = step; state = state; value = value; bad = λ _. none; node = node; fault = fault; Good = Any }

works : Works pass
unfolding fault_of
works =
    record {
      steps = part-steps;
      inherits = λ _ q _. any_all (operands_of same q);
      carries = λ _ _. refl;
      values = λ _ q c _ z i. values same q c z i;
      faults = λ _ q c _ z i. ap₂ first (first_in-nowhere (operands_of same q)) (pick (ltb c.kind first_line) _ _ (ap (λ k. ltb k first_line) z.kind ∙ i));
    }

-- the first operand of a line, counted up to the limit, is deep where the expression is
capped-test : (n : ℕ) → leb (capped n) max_levels ≡ leb n max_levels
capped-test n = go (leb n max_levels) refl
  where
    go : (b : Bool) → leb n max_levels ≡ b → leb (capped n) max_levels ≡ b
    go true e = let h = leb-true n max_levels e in le-leb (capped n) max_levels (omega arith)
    go false e = let h = leb-false n max_levels e in lt-leb (capped n) max_levels (omega arith)

deep-capped : (e : Expr) → unless (leb (capped (levels e)) max_levels) (start e) ≡ deep e
deep-capped e = ap (λ b. unless b (start e)) (capped-test (levels e))

module _ (cell : ℕ → Cell) where
  abbrev idle : Unit {0} → ℕ → Option ℕ → State
  idle k before f = state before [] f

  abbrev Lines : List Entry → ℕ → State → List Entry → Option ℕ → Type 0
  Lines es i s rs f = Lined nothing (OfToken Offset) tt cell step idle (λ k _. k) (λ _ l. deep_line l) (λ _ l. ProperLine l) es i s rs tt f

  -- a line with an expression
  held : (k : ℕ) (t : Option Token) (e : Expr) → ltb k first_line ≡ false → eqb k Kind.element ≡ false → eqb k Kind.listed ≡ false → get_or arities k 0 ≡ 1 → Proper false e →
      (es : List Entry) (i before : ℕ) (f : Option ℕ) → Seen Offset cell i (under k t (flat e) ++ es) → Lines (under k t (flat e) ++ es) i (state before [] f) es (first f (deep e))
  held k t e out other unlisted arity p es i before f h =
      let own : Entry = record { kind = k; token = t; size = suc (length (flat e)) } in
      let split = append_assoc (flat e) (own ∷ []) es in
      let inside = expression-done cell pass works tt tt e p tt (own ∷ es) i before [] f (subst (Seen Offset cell i) split h) in
      let c = cell inside.place in
      let sees = inside.seen.0 in
      let ends = line-steps c (kind_of (whole e)) (value (whole e) ∷ []) (first f none) (ap (λ j. ltb j first_line) sees.kind ∙ out) (fixed-operands k _ c sees.kind other unlisted arity) in
      record {
        before = c.kind;
        comes = record {
          place = suc inside.place;
          seen = inside.seen.1;
          runs = ap (λ us. run step cell us i (state before [] f)) split ∙ inside.runs ∙ ap (run step cell es (suc inside.place))
              (ends ∙ ap₂ (λ g d. state c.kind [] (first g d)) (first_none f) (deep-capped e));
        };
      }

  -- an entry that stands alone
  abbrev Lonely : ℕ → Type 0
  Lonely j = Alone nothing (OfToken Offset) tt cell step idle (λ k _. k) (λ _ l. deep_line l) (λ _ l. ProperLine l) j

  alone : (j : ℕ) → ltb j first_line ≡ false → eqb j Kind.element ≡ false → eqb j Kind.listed ≡ false → get_or arities j 0 ≡ 0 → Lonely j
  alone j out other unlisted arity =
      record {
        steps = λ c k before f e. line-steps c before [] f (ap (λ j. ltb j first_line) e ∙ out) (fixed-operands j before c e other unlisted arity) ∙ ap (state c.kind []) (first_none f);
        stays = λ _ _. refl;
      }

  by : (us es : List Entry) → All (λ e. Lonely e.kind) us →
      (i before : ℕ) (f : Option ℕ) → Seen Offset cell i (us ++ es) → Lines (us ++ es) i (state before [] f) es (first f none)
  by us es a i before f h = subst (Lines (us ++ es) i (state before [] f) es) (sym (first_none f))
      (alone-done nothing (OfToken Offset) tt cell step idle (λ k _. k) (λ _ l. deep_line l) (λ _ l. ProperLine l) us es a tt i before f h)

  line-done : (k : Unit {0}) (l : Line) → ProperLine l → (es : List Entry) (i before : ℕ) (f : Option ℕ) → Seen Offset cell i (entries_of l ++ es) →
      Lines (entries_of l ++ es) i (state before [] f) es (first f (deep_line l))
  line-done k (ParameterLine x e) p = held Kind.parameter (some x) e refl refl refl refl p
  line-done k (DefinitionLine (Defined x e)) p = held Kind.definition (some x) e refl refl refl refl p
  line-done k (DefinitionLine (Enumerated x is)) p =
      λ es. by (leaf Kind.enumeration x ++ each flat_identifier is) es (
        alone Kind.enumeration refl refl refl refl,
        identifiers-alone nothing (OfToken Offset) tt cell step idle (λ k _. k) (λ _ l. deep_line l) (λ _ l. ProperLine l)
            (alone Kind.identifier refl refl refl refl) (alone Kind.word refl refl refl refl) is,
      )
  line-done k (DeclarationLine (OneSignal x)) p = λ es. by (leaf Kind.signal x) es (alone Kind.signal refl refl refl refl, tt)
  line-done k (DeclarationLine (OfWidth x e)) p = held Kind.bus (some x) e refl refl refl refl p.1
  line-done k (DeclarationLine (OfType u x)) p = held Kind.typed (some x) (Named u) refl refl refl refl (refl, p.0)
  line-done k (FormulaLine e) p = held Kind.line none e refl refl refl refl p

-- what is known of lines does not change
each-proper : (ls : List Line) → All ProperLine ls → Each (λ (k : Unit {0}) _. k) (λ _ l. ProperLine l) tt ls
each-proper [] h = tt
each-proper (l ∷ ls) h = (h.0, each-proper ls h.1)

first-deep : (ls : List Line) → first_bad (λ (k : Unit {0}) _. k) (λ _ l. deep_line l) tt ls ≡ first_in deep_line ls
first-deep [] = refl
first-deep (l ∷ ls) = ap (first (deep_line l)) (first-deep ls)

-- refusal 5
pub finds-deep : (w : List ℕ) (ts : Tokens) (n : ℕ) (x : Spec) → TokensTell Offset w ts → TreeStored w ts n x → (passed step (cell_at w) (state 0 [] none) n).found ≡ too_deep x
finds-deep w ts n x told t =
    let cell = cell_at w in
    let ends = text-holds nothing (OfToken Offset) tt cell step (λ _ before f. state before [] f) (λ k _. k) (λ _ l. deep_line l) (λ _ l. ProperLine l) (line-done cell)
    (alone cell Kind.heading refl refl refl refl) x tt 0 0 none (each-proper (all_lines x) (proper-lines x t.proper)) (entries-seen Offset w ts told 0 (outline x) t.entries) in
    ap (λ (s : State). s.found) (passed-all step cell (state 0 [] none) (outline x) n t.count ∙ ends.runs) ∙ first-deep (all_lines x)

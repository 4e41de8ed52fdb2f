-- The signal numbers of an expression's expansion lie below any limit that those of the visible names do.
use Prim.Native.Nat.{ℕ, zero, suc, ◌+◌, ◌-◌, ◌≤◌}
use Rattle.std.specs.Prelude.{◌≡◌, Bool, eqb, leb, ltb, length}
use Rattle.std.proofs.Math.Bool.{true, false, So}
use mathlib.Core.List.{List, [], ◌∷◌, map}
use Rattle.std.proofs.lemmas.List.{length-map}
use native.Mathlib.Omega.{arith}
use Rattle.node.specs.Ltl.{Binary, And, Or, Formula, Two}
use Rattle.node.specs.Result.{Result}
use Rattle.node.specs.Postorder.{SignalsBelow}
use Rattle.language.specs.Tokens.{Token}
use Rattle.language.specs.Operators.{
  Comparison,
  Equal,
  Unequal,
  Less,
  AtMost,
  Greater,
  AtLeast,
  Big,
  BigSum,
  BigProduct,
  BigCap,
  BigCup,
  BigAnd,
  BigOr,
  Calculates,
  Combines,
  Compares,
  Membership,
  Connects,
  Measures,
  WidthOf,
  Applies,
}
use Rattle.language.specs.Tree.{Expr, Named, Numeral, Truth, Index, Paren, Prefixed, Joined, Nexts, InWindow, Each, Between, Listed, Empty, Element, Range}
use Rattle.language.specs.Sets.{member_of}
use Rattle.language.specs.Values.{Value, Number, Set, Logic, Bus, Unsized, Choice, number, bus, choice, Sized}
use Rattle.language.specs.DeclaredNames.{Port}
use Rattle.language.specs.Numbering.{first_of, Mark, Absent, Present, Star, mark_of, marks_of}
use Rattle.language.specs.Expansion.{
  joined,
  conjunction,
  disjunction,
  truth,
  nexts,
  chain,
  window_operator,
  literals,
  one_of,
  width_is,
  against,
  test,
  compared,
  gather,
  big_formula,
  Context,
  bit_at,
  at,
  expansion,
}
use Rattle.language.proofs.Laws.Basics.Lists.{All, Any, all_any, all_more, all_map}
use Rattle.language.proofs.Laws.Basics.Tests.{and_left, and_right, so_eqb, so_ltb}
use Rattle.language.proofs.Laws.Basics.Results.{done, refused, guarded, bind, gathered, Within, bind_any}
use Rattle.language.proofs.Laws.Values.NameLaws.{Visible, naming-within}
use Rattle.language.proofs.Laws.Values.BusValues.{OfBus, value-buses, bus-within}

-- words that pass the test of widths
pub width_is_lem : (n : ℕ) (vs : List Token) → So (width_is n vs) → All (λ v. length v.text ≡ n) vs
width_is_lem n [] e = tt
width_is_lem n (v ∷ vs) e =
    let head = eqb (length v.text) n in
    ((so_eqb (length v.text) n).0 (and_left head (width_is n vs) e), width_is_lem n vs (and_right head (width_is n vs) e))

module _ (N : ℕ) where
  -- formulas
  truth-below : (b : Bool) → SignalsBelow N (truth b)
  unfolding SignalsBelow
  truth-below true = tt
  truth-below false = tt

  joined-below : (o : Binary) (a : Formula) (fs : List Formula) → SignalsBelow N a → All (SignalsBelow N) fs → SignalsBelow N (joined o a fs)
  unfolding SignalsBelow
  joined-below o a [] h k = h
  joined-below o a (f ∷ fs) h k = joined-below o (Two o a f) fs (h, k.0) k.1

  pub conjunction-below : (fs : List Formula) → All (SignalsBelow N) fs → SignalsBelow N (conjunction fs)
  unfolding SignalsBelow
  conjunction-below [] h = tt
  conjunction-below (f ∷ fs) h = joined-below And f fs h.0 h.1

  disjunction-below : (fs : List Formula) → All (SignalsBelow N) fs → SignalsBelow N (disjunction fs)
  unfolding SignalsBelow
  disjunction-below [] h = tt
  disjunction-below (f ∷ fs) h = joined-below Or f fs h.0 h.1

  nexts-below : (n : ℕ) (f : Formula) → SignalsBelow N f → SignalsBelow N (nexts n f)
  unfolding SignalsBelow
  nexts-below zero f h = h
  nexts-below (suc n) f h = nexts-below n f h

  chain-below : (o : Binary) (n : ℕ) (f : Formula) → SignalsBelow N f → SignalsBelow N (chain o n f)
  unfolding SignalsBelow
  chain-below o zero f h = h
  chain-below o (suc n) f h = (h, chain-below o n f h)

  -- words that lie on signals below N, those of the name x
  abbrev pub WordsBelow : List Port → List ℕ → List Token → Type 0
  WordsBelow ps x vs = All (λ v. first_of ps x + length v.text ≤ N) vs

  literals-below : (ps : List Port) (x : List ℕ) (i : ℕ) (v : List Mark) → first_of ps x + i + length v ≤ N → All (SignalsBelow N) (literals ps x i v)
  unfolding SignalsBelow
  literals-below ps x i [] h = tt
  literals-below ps x i (Absent ∷ v) h = (omega arith, literals-below ps x (suc i) v (omega arith))
  literals-below ps x i (Present ∷ v) h = (omega arith, literals-below ps x (suc i) v (omega arith))
  literals-below ps x i (Star ∷ v) h = literals-below ps x (suc i) v (omega arith)

  pub one_of-below : (ps : List Port) (x : List ℕ) (vs : List Token) → WordsBelow ps x vs → SignalsBelow N (one_of ps x vs)
  one_of-below ps x vs h =
      disjunction-below (map (λ v. conjunction (literals ps x 0 (marks_of v))) vs)
      (all_map _ (SignalsBelow N) _ (λ v l. conjunction-below (literals ps x 0 (marks_of v)) (literals-below ps x 0 (marks_of v) (omega (arith, l, length-map v.text mark_of)))) vs h)

  -- a bus whose signals lie below N
  abbrev pub BusBelow : List Port → List ℕ → ℕ → Type 0
  BusBelow ps x n = first_of ps x + n ≤ N

  bit_at-below : (ps : List Port) (i : ℕ) (b : Sized) → BusBelow ps b.name b.width → Within (SignalsBelow N) (bit_at ps i b)
  unfolding SignalsBelow
  bit_at-below ps i b h = guarded (ltb i b.width) 13 b.place (λ _. tt) (λ e. done (omega (arith, (so_ltb i b.width).0 e)))

  width-below : (ps : List Port) (x : List ℕ) (n : ℕ) (vs : List Token) → first_of ps x + n ≤ N → So (width_is n vs) → WordsBelow ps x vs
  width-below ps x n vs h e = all_more (λ v l. omega arith) vs (width_is_lem n vs e)

  against-below : (ps : List Port) (o : Comparison) (b : Sized) (v : List Token) → BusBelow ps b.name b.width → Within (SignalsBelow N) (against ps o b v)
  unfolding SignalsBelow
  against-below ps Equal b v h = guarded _ 13 b.place (λ _. tt) (λ e. done (one_of-below ps b.name v (width-below ps b.name b.width v h e)))
  against-below ps Unequal b v h = guarded _ 13 b.place (λ _. tt) (λ e. done (one_of-below ps b.name v (width-below ps b.name b.width v h e)))
  against-below ps Less b v h = refused tt
  against-below ps AtMost b v h = refused tt
  against-below ps Greater b v h = refused tt
  against-below ps AtLeast b v h = refused tt

  compared-below : (ps : List Port) (o : Comparison) (x y : Value) → OfBus (BusBelow ps) x → OfBus (BusBelow ps) y → Within (SignalsBelow N) (compared ps o x y)
  compared-below ps o (Number m) y h k = bind_any (number y) _ (λ n. done (truth-below (test o m n)))
  compared-below ps o (Set s) y h k = refused tt
  compared-below ps o Logic y h k = refused tt
  compared-below ps o (Bus p x n) y h k = bind_any (choice y) _ (λ v. against-below ps o _ v h)
  compared-below ps o (Unsized p) y h k = refused tt
  compared-below ps o (Choice v) y h k = bind (bus y) _ (bus-within (BusBelow ps) y k) (λ b l. against-below ps o b v l)

  gathered-below : (F : ℕ → Result Formula) → ((k : ℕ) → Within (SignalsBelow N) (F k)) → (s : List ℕ) → Within (All (SignalsBelow N)) (gather F s)
  gathered-below F h s = gathered Any F (λ k u. h k) s (all_any s)

  big_formula-below : (o : Big) (F : ℕ → Result Formula) → ((k : ℕ) → Within (SignalsBelow N) (F k)) → (s : List ℕ) → Within (SignalsBelow N) (big_formula o F s)
  big_formula-below BigSum F h s = refused tt
  big_formula-below BigProduct F h s = refused tt
  big_formula-below BigCap F h s = refused tt
  big_formula-below BigCup F h s = refused tt
  big_formula-below BigAnd F h s =
      bind (gather F s) _ (gathered-below F h s) (λ fs k. done (conjunction-below fs k))
  big_formula-below BigOr F h s =
      bind (gather F s) _ (gathered-below F h s) (λ fs k. done (disjunction-below fs k))

  pub record ContextBelow (c : Context) : Type 0 where
    pub values : Visible (OfBus (BusBelow c.ports)) c.values
    pub formulas : Visible (SignalsBelow N) c.formulas

  at-below : (c : Context) (i : Token) (k : ℕ) → ContextBelow c → ContextBelow (at c i k)
  at-below c i k g =
      record {
        values = naming-within (OfBus (BusBelow c.ports)) i _ c.values (done tt) g.values;
        formulas = naming-within (SignalsBelow N) i _ c.formulas (refused tt) g.formulas;
      }

  pub expansion-below : (e : Expr) (c : Context) → ContextBelow c → Within (SignalsBelow N) (expansion c e)
  unfolding SignalsBelow
  expansion-below (Named t) c g = g.formulas t
  expansion-below (Numeral t) c g = refused tt
  expansion-below (Truth t b) c g = done (truth-below b)
  expansion-below (Index t e) c g =
      bind_any _ _ (λ i. bind _ _ (bind (c.values t) bus (g.values t) (bus-within (BusBelow c.ports))) (bit_at-below c.ports i))
  expansion-below (Paren t e) c g = expansion-below e c g
  expansion-below (Prefixed t (Measures m) e) c g = refused tt
  expansion-below (Prefixed t WidthOf e) c g = refused tt
  expansion-below (Prefixed t (Applies o) e) c g = bind _ _ (expansion-below e c g) (λ f h. done h)
  expansion-below (Joined t (Calculates o) a b) c g = refused tt
  expansion-below (Joined t (Combines o) a b) c g = refused tt
  expansion-below (Joined t (Compares o) a b) c g =
      bind _ _ (value-buses (BusBelow c.ports) a c.values g.values) (λ x h.
      bind _ _ (value-buses (BusBelow c.ports) b c.values g.values) (λ y k. compared-below c.ports o x y h k))
  expansion-below (Joined t Membership a b) c g =
      bind_any _ _ (λ n. bind_any _ _ (λ m. done (truth-below (member_of m n))))
  expansion-below (Joined t (Connects o) a b) c g =
      bind _ _ (expansion-below a c g) (λ f h.
      bind _ _ (expansion-below b c g) (λ k l. done (h, l)))
  expansion-below (Nexts t n e) c g =
      bind_any _ _ (λ k.
      bind _ _ (expansion-below e c g) (λ f h. done (nexts-below k f h)))
  expansion-below (InWindow t o n m e) c g =
      bind_any _ _ (λ j. bind_any _ _ (λ k. guarded (leb j k) 11 t.at (λ _. tt) (λ l.
      bind _ _ (expansion-below e c g) (λ f h. done (nexts-below j _ (chain-below (window_operator o) (k - j) f h))))))
  expansion-below (Each t o further i s e) c g =
      bind_any _ _ (big_formula-below o (λ k. expansion (at c i k) e) (λ k. expansion-below e (at c i k) (at-below c i k g)))
  expansion-below (Between t l h a b) c g = refused tt
  expansion-below (Listed t es) c g = refused tt
  expansion-below Empty c g = refused tt
  expansion-below (Element e es) c g = refused tt
  expansion-below (Range t x y z) c g = refused tt

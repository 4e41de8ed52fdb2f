-- The one law of all passes: a pass that works out of each part an attribute, from those of its operands, and a place where it is wrong, if it is, leaves of an
-- expression's entries that attribute on the stack, and has found the first of the places.
use Rattle.std.specs.Prelude.{ℕ, suc, List, [], ◌∷◌, ◌++◌, map, Bool, true, false, ◌≡◌, ltb, length}
use Rattle.std.proofs.Common.{append-nil, append_assoc, sym, ap, ap₂, ◌∙◌, subst}
use Rattle.std.proofs.Math.Option.{Option}
use Rattle.std.proofs.lemmas.List.{length-map}
use Rattle.language.specs.Tokens.{Token}
use Rattle.language.specs.Tree.{Expr, Named, Numeral, Truth, Index, Paren, Prefixed, Joined, Nexts, InWindow, Each, Between, Listed, Empty, Element, Range}
use Rattle.language.specs.Places.{first, first_in}
use Rattle.language.specs.Braces.{Proper}
use Rattle.language.proofs.Laws.Basics.Lists.{All}
use Rattle.language.proofs.Laws.Basics.NoPlace.{first_none, first_assoc}
use Rattle.entries.specs.Flat.{Entry, flat, each}
use Rattle.traversal.specs.declared.Cell.{Cell}
use Rattle.traversal.specs.Cells.{Sees, SeenAlong}
use Rattle.traversal.specs.Arity.{operands, first_line}
use Rattle.traversal.specs.Parts.{Part, Whole, Binder, flat_part, unless_empty, operands_of, kind_of, token_of}
use Rattle.traversal.specs.PartLaws.{unless-cases, outside, kind_after, Regular, regular, regular-binder}

-- the states of a pass over the cells of some entries
abbrev pub run : {State : Type 0} → (Cell → State → State) → (ℕ → Cell) → List Entry → ℕ → State → State
run step cell [] i s = s
run step cell (e ∷ es) i s = run step cell es (suc i) (step (cell i) s)

-- from the entries es on, at i and in state s, the pass comes to the entries rs in state r, with b carried there
pub record Comes {B State : Type 0} (along : B → Entry → B) (T : B → ℕ → Entry → Type 0) (step : Cell → State → State) (cell : ℕ → Cell) (es : List Entry) (i : ℕ) (s : State) (b : B)
    (rs : List Entry) (r : State) : Type 0 where
  pub place : ℕ
  pub seen : SeenAlong along T cell b place rs
  pub runs : run step cell es i s ≡ run step cell rs place r

-- What a pass works out. `state` has the kind of the entry before, the stack and the place found so far; `Good` is what is known of a part, and so of its operands.
-- `along` says what is carried past an entry, `leaves` what is carried past a part.
pub record Pass (N B A State : Type 0) (T : B → ℕ → Entry → Type 0) : Type 1 where
  pub bind : Token → N → N
  pub along : B → Entry → B
  pub leaves : B → Part N → B
  pub step : Cell → State → State
  pub state : ℕ → List A → Option ℕ → State
  pub value : Part N → A
  pub bad : Part N → Option ℕ
  pub node : Cell → List A → A
  pub fault : Cell → List A → Option ℕ
  pub Good : B → Part N → Type 0

-- a part's own entry
abbrev pub own_entry : {N : Type 0} → (Token → N → N) → Part N → Entry
own_entry bind q = record { kind = kind_of q; token = token_of q; size = suc (length (each flat_part (operands_of bind q))) }

-- what is carried past some parts, and Q of each with what is carried to it
module _ {N B : Type 0} (leaves : B → Part N → B) where
  abbrev pub past : B → List (Part N) → B
  past b [] = b
  past b (q ∷ qs) = past (leaves b q) qs

  abbrev pub Along : (B → Part N → Type 0) → B → List (Part N) → Type 0
  Along Q b [] = Unit {0}
  Along Q b (q ∷ qs) = Q b q × Along Q (leaves b q) qs

  pub unless_along : (Q : B → Part N → Type 0) (b : B) (e : Expr) (q : Part N) → Q b q → Along Q b (unless_empty e q)
  unless_along Q b e q h = unless-cases (λ _. q) (λ _ qs. Along Q b qs) tt (λ _. (h, tt)) e

  outside_along : (Q : B → Part N → Type 0) (b : B) (e : Expr) (q : Part N) → Proper false e → Along Q b (unless_empty e q) → Q b q
  outside_along Q b e q p h = outside (Q b) e q p (unless-cases (λ _. q) (λ _ qs. Along Q b qs → All (Q b) qs) (λ _. tt) (λ _ g. (g.0, tt)) e h)

pub record Works {N B A State : Type 0} {T : B → ℕ → Entry → Type 0} (P : Pass N B A State T) : Type 0 where
  pub steps : (c : Cell) (before : ℕ) (s xs : List A) (f : Option ℕ) → ltb c.kind first_line ≡ true → operands before c ≡ length xs →
      P.step c (P.state before (s ++ xs) f) ≡ P.state c.kind (s ++ (P.node c xs ∷ [])) (first f (P.fault c xs))
  pub inherits : (b : B) (q : Part N) → P.Good b q → Along P.leaves P.Good b (operands_of P.bind q)
  pub carries : (b : B) (q : Part N) → P.along (past P.leaves b (operands_of P.bind q)) (own_entry P.bind q) ≡ P.leaves b q
  pub values : (b : B) (q : Part N) (c : Cell) → P.Good b q → Sees (T (P.leaves b q)) c (own_entry P.bind q) → ltb (kind_of q) first_line ≡ true →
      P.node c (map P.value (operands_of P.bind q)) ≡ P.value q
  pub faults : (b : B) (q : Part N) (c : Cell) → P.Good b q → Sees (T (P.leaves b q)) c (own_entry P.bind q) → ltb (kind_of q) first_line ≡ true →
      first (first_in P.bad (operands_of P.bind q)) (P.fault c (map P.value (operands_of P.bind q))) ≡ P.bad q

module _ {N B A State : Type 0} {T : B → ℕ → Entry → Type 0} (cell : ℕ → Cell) (P : Pass N B A State T) (W : Works P) where
  abbrev Sight : B → ℕ → List Entry → Type 0
  Sight b i es = SeenAlong P.along T cell b i es

  abbrev Passes : List Entry → ℕ → State → B → List Entry → State → Type 0
  Passes es i s b rs r = Comes P.along T P.step cell es i s b rs r

  -- one part's entries
  abbrev Done : B → Part N → Type 0
  Done b q = (es : List Entry) (i before : ℕ) (s : List A) (f : Option ℕ) → Sight b i (flat_part q ++ es) →
      Passes (flat_part q ++ es) i (P.state before s f) (P.leaves b q) es (P.state (kind_of q) (s ++ (P.value q ∷ [])) (first f (P.bad q)))

  abbrev AllDone : B → List (Part N) → Type 0
  AllDone b qs = Along P.leaves Done b qs

  -- those of several
  all_done : (b : B) (qs : List (Part N)) → AllDone b qs → (es : List Entry) (i before : ℕ) (s : List A) (f : Option ℕ) → Sight b i (each flat_part qs ++ es) →
      Passes (each flat_part qs ++ es) i (P.state before s f) (past P.leaves b qs) es (P.state (kind_after before qs) (s ++ map P.value qs) (first f (first_in P.bad qs)))
  all_done b [] d es i before s f h = record { place = i; seen = h; runs = ap (run P.step cell es i) (ap₂ (P.state before) (sym (append-nil s)) (sym (first_none f))) }
  all_done b (q ∷ qs) d es i before s f h =
      let assoc = append_assoc (flat_part q) (each flat_part qs) es in
      let one = d.0 (each flat_part qs ++ es) i before s f (subst (Sight b i) assoc h) in
      let more = all_done (P.leaves b q) qs d.1 es one.place (kind_of q) (s ++ (P.value q ∷ [])) (first f (P.bad q)) one.seen in
      let same = ap₂ (P.state (kind_after (kind_of q) qs)) (append_assoc s (P.value q ∷ []) (map P.value qs)) (first_assoc f (P.bad q) (first_in P.bad qs)) in
      record { place = more.place; seen = more.seen; runs = ap (λ us. run P.step cell us i (P.state before s f)) assoc ∙ one.runs ∙ more.runs ∙ ap (run P.step cell es more.place) same }

  settled : (j k : ℕ) (s : List A) (v u : A) (f g h b : Option ℕ) → j ≡ k → v ≡ u → first g h ≡ b → P.state j (s ++ (v ∷ [])) (first (first f g) h) ≡ P.state k (s ++ (u ∷ [])) (first f b)
  settled j k s v u f g h b e d r =
      ap₂ (λ l w. P.state l (s ++ (w ∷ [])) (first (first f g) h)) e d ∙ ap (P.state k (s ++ (u ∷ []))) (first_assoc f g h ∙ ap (first f) r)

  -- a part's own entry, after those of its operands
  own-done : (b : B) (q : Part N) → Regular P.bind q → P.Good b q → AllDone b (operands_of P.bind q) → Done b q
  own-done b q R g d es i before s f h =
      let qs = operands_of P.bind q in
      let e = own_entry P.bind q in
      let whole : flat_part q ++ es ≡ each flat_part qs ++ (e ∷ es) = ap (λ l. l ++ es) R.entries ∙ append_assoc (each flat_part qs) (e ∷ []) es in
      let below = all_done b qs d (e ∷ es) i before s f (subst (Sight b i) whole h) in
      let own = at_own (cell below.place) (subst (λ a. Sees (T a) (cell below.place) e) (W.carries b q) below.seen.0) in
      record {
        place = suc below.place;
        seen = subst (λ a. Sight a (suc below.place) es) (W.carries b q) below.seen.1;
        runs = ap (λ us. run P.step cell us i (P.state before s f)) whole ∙ below.runs ∙ ap (run P.step cell es (suc below.place)) own;
      }
    where
      at_own : (c : Cell) → Sees (T (P.leaves b q)) c (own_entry P.bind q) →
          P.step c (P.state (kind_after before (operands_of P.bind q)) (s ++ map P.value (operands_of P.bind q)) (first f (first_in P.bad (operands_of P.bind q))))
          ≡ P.state (kind_of q) (s ++ (P.value q ∷ [])) (first f (P.bad q))
      at_own c z =
          let qs = operands_of P.bind q in
          W.steps c (kind_after before qs) s (map P.value qs) (first f (first_in P.bad qs)) (ap (λ k. ltb k first_line) z.kind ∙ R.inner)
          (R.count before c z.kind z.size ∙ sym (length-map qs P.value))
          ∙ settled c.kind (kind_of q) s (P.node c (map P.value qs)) (P.value q) f (first_in P.bad qs) (P.fault c (map P.value qs)) (P.bad q) z.kind (W.values b q c g z R.inner)
          (W.faults b q c g z R.inner)

  operand : (b : B) (y : N) (e : Expr) → Proper false e → P.Good b (Whole y e) → (Along P.leaves P.Good b (unless_empty e (Whole y e)) → AllDone b (unless_empty e (Whole y e)))
      → Done b (Whole y e)
  operand b y e p g d = outside_along P.leaves Done b e (Whole y e) p (d (unless_along P.leaves P.Good b e (Whole y e) g))

  -- an expression, with all that stands in it
  part-done : (within : Bool) (y : N) (e : Expr) (b : B) → Proper within e → Along P.leaves P.Good b (unless_empty e (Whole y e)) → AllDone b (unless_empty e (Whole y e))
  part-done within y (Named t) b p g = (own-done b _ (regular P.bind within y (Named t) p).0 g.0 tt, tt)
  part-done within y (Numeral t) b p g = (own-done b _ (regular P.bind within y (Numeral t) p).0 g.0 tt, tt)
  part-done within y (Truth t v) b p g = (own-done b _ (regular P.bind within y (Truth t v) p).0 g.0 tt, tt)
  part-done within y (Index t e) b p g = let h = W.inherits b (Whole y (Index t e)) g.0 in
      (own-done b _ (regular P.bind within y (Index t e) p).0 g.0 (operand _ y e p.1 h.0 (part-done false y e _ p.1), tt), tt)
  part-done within y (Paren t e) b p g = let h = W.inherits b (Whole y (Paren t e)) g.0 in
      (own-done b _ (regular P.bind within y (Paren t e) p).0 g.0 (operand _ y e p.1 h.0 (part-done false y e _ p.1), tt), tt)
  part-done within y (Prefixed t o e) b p g = let h = W.inherits b (Whole y (Prefixed t o e)) g.0 in
      (own-done b _ (regular P.bind within y (Prefixed t o e) p).0 g.0 (operand _ y e p.1 h.0 (part-done false y e _ p.1), tt), tt)
  part-done within y (Joined t o a e) b p g = let h = W.inherits b (Whole y (Joined t o a e)) g.0 in (
    own-done b _ (regular P.bind within y (Joined t o a e) p).0 g.0
        (operand _ y a p.1 h.0 (part-done false y a _ p.1), (operand _ y e p.2 h.1.0 (part-done false y e _ p.2), tt)),
    tt,
  )
  part-done within y (Nexts t n e) b p g = let h = W.inherits b (Whole y (Nexts t n e)) g.0 in (
    own-done b _ (regular P.bind within y (Nexts t n e) p).0 g.0
        (operand _ y n p.1 h.0 (part-done false y n _ p.1), (operand _ y e p.2 h.1.0 (part-done false y e _ p.2), tt)),
    tt,
  )
  part-done within y (InWindow t o n m e) b p g = let h = W.inherits b (Whole y (InWindow t o n m e)) g.0 in (
    own-done b _ (regular P.bind within y (InWindow t o n m e) p).0 g.0 (
      operand _ y n p.1 h.0 (part-done false y n _ p.1),
      (
        operand _ y m p.2 h.1.0 (part-done false y m _ p.2),
        (operand _ y e p.3 h.1.1.0 (part-done false y e _ p.3), tt),
      ),
    ),
    tt,
  )
  part-done within y (Each t o further i s e) b p g =
      let h = W.inherits b (Whole y (Each t o further i s e)) g.0 in
      let k = W.inherits b (Binder y further i s) h.0 in
      let set = own-done b (Binder y further i s) (regular-binder P.bind y further i s) h.0 (operand _ y s p.1 k.0 (part-done false y s _ p.1), tt) in
      (own-done b _ (regular P.bind within y (Each t o further i s e) p).0 g.0 (set, (operand _ (P.bind i y) e p.2 h.1.0 (part-done false (P.bind i y) e _ p.2), tt)), tt)
  part-done within y (Between t l u a e) b p g = let h = W.inherits b (Whole y (Between t l u a e)) g.0 in (
    own-done b _ (regular P.bind within y (Between t l u a e) p).0 g.0
        (operand _ y a p.1 h.0 (part-done false y a _ p.1), (operand _ y e p.2 h.1.0 (part-done false y e _ p.2), tt)),
    tt,
  )
  part-done within y (Listed t es) b p g = (own-done b _ (regular P.bind within y (Listed t es) p).0 g.0 (part-done true y es _ p.1 (W.inherits b (Whole y (Listed t es)) g.0)), tt)
  part-done within y Empty b p g = tt
  part-done within y (Element e es) b p g =
      let h = W.inherits b (Whole y (Element e es)) g.0 in
      (own-done b _ (regular P.bind within y (Element e es) p).0 g.0 (operand _ y e p.1 h.0 (part-done false y e _ p.1), part-done true y es _ p.2 h.1), tt)
  part-done within y (Range t a e d) b p g = let h = W.inherits b (Whole y (Range t a e d)) g.0 in (
    own-done b _ (regular P.bind within y (Range t a e d) p).0 g.0 (
      operand _ y a p.1 h.0 (part-done false y a _ p.1),
      (
        operand _ y e p.2 h.1.0 (part-done false y e _ p.2),
        (operand _ y d p.3 h.1.1.0 (part-done false y d _ p.3), tt),
      ),
    ),
    tt,
  )

  pub expression-done : (b : B) (y : N) (e : Expr) → Proper false e → P.Good b (Whole y e) → (es : List Entry) (i before : ℕ) (s : List A) (f : Option ℕ) → Sight b i (flat e ++ es) →
      Passes (flat e ++ es) i (P.state before s f) (P.leaves b (Whole y e)) es (P.state (kind_of (Whole y e)) (s ++ (P.value (Whole y e) ∷ [])) (first f (P.bad (Whole y e))))
  expression-done b y e p g = operand b y e p g (part-done false y e b p)

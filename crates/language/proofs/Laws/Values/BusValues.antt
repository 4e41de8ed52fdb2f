-- Every bus that an expression comes to is one that a visible name stands for: what holds of these buses' names and widths holds of it.
use Rattle.std.specs.Prelude.{ℕ, ◌≡◌, List}
use Rattle.std.proofs.Common.{subst}
use Rattle.node.specs.Result.{Result, Done, ◌>>=◌}
use Rattle.language.specs.Operators.{Big, BigSum, BigProduct, BigCap, BigCup, BigAnd, BigOr, Calculates, Combines, Compares, Membership, Connects, Measures, WidthOf, Applies}
use Rattle.language.specs.Tokens.{Token}
use Rattle.language.specs.Tree.{Expr, Named, Numeral, Truth, Index, Paren, Prefixed, Joined, Nexts, InWindow, Each, Between, Listed, Empty, Element, Range}
use Rattle.language.specs.Values.{Value, Number, Set, Logic, Bus, Unsized, Choice, bus, big, Scope, value}
use Rattle.language.specs.DeclaredNames.{Declared, Constant, Single, BusOf, Identifies, WaitingBus, Table, value_at, declared, Port}
use Rattle.language.proofs.Laws.Basics.Lists.{All, all_more}
use Rattle.language.proofs.Laws.Basics.Results.{done, bind, Within, bind_any}
use Rattle.language.proofs.Laws.Values.ValueTypes.{bus_as}
use Rattle.language.proofs.Laws.Values.NameLaws.{Visible, find-named}
use Rattle.language.proofs.Laws.Values.PortLaws.{EntryPorted}

module _ (B : List ℕ → ℕ → Type 0) where
  abbrev pub OfBus : Value → Type 0
  OfBus (Number n) = Unit {0}
  OfBus (Set s) = Unit {0}
  OfBus Logic = Unit {0}
  OfBus (Bus p x n) = B x n
  OfBus (Unsized p) = Unit {0}
  OfBus (Choice v) = Unit {0}

  number-buses : (r : Result ℕ) → Within OfBus (r >>= λ n. Done (Number n))
  number-buses r = bind_any r _ (λ n. done tt)

  set-buses : (r : Result (List ℕ)) → Within OfBus (r >>= λ s. Done (Set s))
  set-buses r = bind_any r _ (λ s. done tt)

  logic-buses : Within OfBus (Done Logic)
  logic-buses = done tt

  big-buses : (p : ℕ) (o : Big) (f : ℕ → Result Value) (s : List ℕ) → Within OfBus (big p o f s)
  big-buses p BigSum f s = number-buses _
  big-buses p BigProduct f s = number-buses _
  big-buses p BigCap f s = set-buses _
  big-buses p BigCup f s = set-buses _
  big-buses p BigAnd f s = logic-buses
  big-buses p BigOr f s = logic-buses

  pub value-buses : (e : Expr) (sc : Scope) → Visible OfBus sc → Within OfBus (value sc e)
  value-buses (Named t) sc g = g t
  value-buses (Numeral t) sc g = number-buses _
  value-buses (Truth t b) sc g = logic-buses
  value-buses (Index t e) sc g = logic-buses
  value-buses (Paren t e) sc g = value-buses e sc g
  value-buses (Prefixed t (Measures m) e) sc g = number-buses _
  value-buses (Prefixed t WidthOf e) sc g = bind_any _ _ (λ b. done tt)
  value-buses (Prefixed t (Applies o) e) sc g = logic-buses
  value-buses (Joined t (Calculates o) a b) sc g = bind_any _ _ (λ m. number-buses _)
  value-buses (Joined t (Combines o) a b) sc g = bind_any _ _ (λ m. bind_any _ _ (λ n. set-buses _))
  value-buses (Joined t (Compares o) a b) sc g = logic-buses
  value-buses (Joined t Membership a b) sc g = logic-buses
  value-buses (Joined t (Connects o) a b) sc g = logic-buses
  value-buses (Nexts t n e) sc g = logic-buses
  value-buses (InWindow t o n m e) sc g = logic-buses
  value-buses (Each t o further i s e) sc g = bind_any _ _ (λ m. big-buses _ o _ m)
  value-buses (Between t l h a b) sc g = bind_any _ _ (λ m. set-buses _)
  value-buses (Listed t es) sc g = set-buses _
  value-buses Empty sc g = done tt
  value-buses (Element e es) sc g = bind_any _ _ (λ n. bind_any _ _ (λ s. done tt))
  value-buses (Range t x y z) sc g = bind_any _ _ (λ a. bind_any _ _ (λ b. set-buses _))

  pub bus-within : (v : Value) → OfBus v → Within (λ b. B b.name b.width) (bus v)
  bus-within = bus_as OfBus (λ p x n h. h) (λ p h. tt) (λ _ _ _. tt)

-- declared names: S of those of single signals, B of those of buses
abbrev pub EntryOf : (List ℕ → Type 0) → (List ℕ → ℕ → Type 0) → List ℕ × Declared → Type 0
EntryOf S B (x, Constant n) = Unit {0}
EntryOf S B (x, Single) = S x
EntryOf S B (x, BusOf n) = B x n
EntryOf S B (x, Identifies v) = Unit {0}
EntryOf S B (x, WaitingBus) = Unit {0}

module _ (S : List ℕ → Type 0) (B : List ℕ → ℕ → Type 0) where
  value_at-bus : (t : Token) (y : Declared) → EntryOf S B (t.text, y) → OfBus B (value_at t y)
  value_at-bus t (Constant n) h = tt
  value_at-bus t Single h = tt
  value_at-bus t (BusOf n) h = h
  value_at-bus t (Identifies v) h = tt
  value_at-bus t WaitingBus h = tt

  pub declared-buses : (d : Table) → All (EntryOf S B) d → Visible (OfBus B) (declared d)
  declared-buses d h t = bind _ _ (find-named (EntryOf S B) d h t.text) (λ y k. done (value_at-bus t y k))

  -- what holds of the names of ports holds of the names that are theirs
  module _ (L : Port → Type 0) (single : (p : Port) → L p → p.width ≡ 0 → S p.name.text) (wide : (p : Port) → L p → B p.name.text p.width) where
    entry_of : (e : List ℕ × Declared) → EntryPorted L e → EntryOf S B e
    entry_of (x, Constant n) h = tt
    entry_of (x, Single) h = subst S h.named (single h.port h.holds h.wide)
    entry_of (x, BusOf n) h = subst (λ (z : List ℕ). B z n) h.named (subst (B h.port.name.text) h.wide (wide h.port h.holds))
    entry_of (x, Identifies v) h = tt
    entry_of (x, WaitingBus) h = tt

    pub entries-of : (d : Table) → All (EntryPorted L) d → All (EntryOf S B) d
    entries-of d h = all_more entry_of d h

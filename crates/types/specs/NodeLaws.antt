-- Type and first wrong place of every part of a tree, from those of its operands.
use Rattle.std.specs.Prelude.{ℕ, ◌≤◌, List, map, true, ◌≡◌, refl, eqb, ltb, get_or}
use Rattle.std.proofs.lemmas.Simd.{map-map}
use Rattle.std.proofs.lemmas.Bool.{false≢true}
use Rattle.std.proofs.Math.Option.{Option, none}
use Rattle.std.proofs.Common.{sym, ◌∙◌, arith, ne_eqb}
use Rattle.std.proofs.Math.Path.{ap, ap₂}
use Rattle.language.specs.Operators.{Infix, Calculates, Combines, Compares, Membership, Connects, Prefix, Measures, WidthOf, Applies, Big, BigSum, BigProduct, BigCap, BigCup, BigAnd, BigOr}
use Rattle.language.specs.Tree.{Named, Numeral, Truth, Index, Paren, Prefixed, Joined, Nexts, InWindow, Each, Between, Listed, Empty, Element, Range}
use Rattle.language.specs.Places.{start, first}
use Rattle.language.specs.Types.{ASet, type_code, Typings, type_in, prefix_gives, infix_gives, big_gives, with_number, type_of, wrong, mistyped, ANumber, AFormula, AType}
use Rattle.language.specs.Names.{Names}
use Rattle.language.proofs.Laws.Basics.Tests.{leave}
use Rattle.language.proofs.Laws.Basics.NoPlace.{first_none, first_assoc, first_comm}
use Rattle.entries.specs.Kinds as EntryKind
use Rattle.entries.specs.Flat.{Entry}
use Rattle.names.specs.Scan.{token_of as name_of}
use Rattle.names.specs.Walkable.{names}
use Rattle.traversal.specs.declared.Cell.{Cell}
use Rattle.traversal.specs.Arity.{first_line}
use Rattle.traversal.specs.Cells.{Sees}
use Rattle.traversal.specs.Parts.{Part, Whole, Binder, operands_of, kind_of}
use Rattle.traversal.specs.PassLaws.{own_entry, Along, unless_along}
use Rattle.traversal.specs.Starts.{start_of, first_of, start_part}
use Rattle.traversal.specs.StartLaws.{starts}
use Rattle.types.specs.Codes.{gives_name, gives_operand}
use Rattle.types.specs.Kinds.{giving, gives_of, place_of, reference_of, type_at}
use Rattle.types.specs.Pass.{Operand, node}
use Rattle.types.specs.Known.{Resolved, KnownName, Known}
use Rattle.types.specs.Opened.{open_past}
use Rattle.types.specs.OperatorLaws.{truth_gives, before_gives, joining_gives, window_gives, big_gives_lem, binder_gives, between_gives}

abbrev pub type_part : Part Typings → ℕ
type_part (Whole ys e) = type_code (type_of ys e)
type_part (Binder ys further i s) = type_code ASet

abbrev pub value : Part Typings → Operand
value q = record { type = type_part q; start = start_part q }

-- a big operator's name asks for a set
abbrev pub bad : Part Typings → Option ℕ
bad (Whole ys e) = mistyped ys e
bad (Binder ys further i s) = first (wrong ASet ys s) (mistyped ys s)

-- what an entry gives
given : (k name operand n : ℕ) → get_or giving k 0 ≡ n → n ≤ type_code AType → gives_of k name operand ≡ n
unfolding gives_of
given k name operand n e h =
    leave (eqb (get_or giving k 0) gives_name) _ _ (ne_eqb (get_or giving k 0) gives_name (λ z. omega arith)) ∙ leave (eqb (get_or giving k 0) gives_operand) _ _ (ne_eqb (get_or giving k 0) gives_operand (λ z. omega arith)) ∙ e

prefix_small : (o : Prefix) → type_code (prefix_gives o) ≤ type_code AType
prefix_small (Measures m) = omega arith
prefix_small WidthOf = omega arith
prefix_small (Applies o) = omega arith

infix_small : (o : Infix) → type_code (infix_gives o) ≤ type_code AType
infix_small (Calculates o) = omega arith
infix_small (Combines o) = omega arith
infix_small (Compares o) = omega arith
infix_small Membership = omega arith
infix_small (Connects o) = omega arith

big-small : (o : Big) → type_code (big_gives o) ≤ type_code AType
big-small BigSum = omega arith
big-small BigProduct = omega arith
big-small BigCap = omega arith
big-small BigCup = omega arith
big-small BigAnd = omega arith
big-small BigOr = omega arith

by_name : (name operand : ℕ) → gives_of EntryKind.named name operand ≡ name
unfolding gives_of
by_name name operand = refl

by_operand : (name operand : ℕ) → gives_of EntryKind.paren name operand ≡ operand
unfolding gives_of
by_operand name operand = refl

-- places in another order
swap : (a b c d : Option ℕ) → first (first a b) (first c d) ≡ first (first a c) (first b d)
swap a b c d =
    first_assoc a b (first c d) ∙ ap (first a) (sym (first_assoc b c d) ∙ ap (λ x. first x d) (first_comm b c) ∙ first_assoc c b d) ∙ sym (first_assoc a c (first b d))

pub one_place : (m w : Option ℕ) → first (first m none) w ≡ first w m
one_place m w = ap (λ x. first x w) (first_none m) ∙ first_comm m w

pub two-places : (m n w v : Option ℕ) → first (first m (first n none)) (first w v) ≡ first (first w m) (first v n)
two-places m n w v = ap (λ x. first (first m x) (first w v)) (first_none n) ∙ swap m n w v ∙ ap₂ first (first_comm m w) (first_comm n v)

pub three-places : (l m n u v w : Option ℕ) → first (first l (first m (first n none))) (first u (first v w)) ≡ first (first u l) (first (first v m) (first w n))
three-places l m n u v w = swap l (first m (first n none)) u (first v w) ∙ ap₂ first (first_comm l u) (two-places m n v w)

module _ (declared : Names) (table : List ℕ) where
  abbrev pub Good : Names → Part Typings → Type 0
  Good bs (Whole ys e) = Known declared bs table ys e
  Good bs (Binder ys further i s) = Known declared bs table ys s

  pub inherits : (bs : Names) (q : Part Typings) → Good bs q → Along open_past Good bs (operands_of with_number q)
  inherits bs (Whole ys (Named t)) g = tt
  inherits bs (Whole ys (Numeral t)) g = tt
  inherits bs (Whole ys (Truth t b)) g = tt
  inherits bs (Whole ys (Index t e)) g = (g.1, tt)
  inherits bs (Whole ys (Paren t e)) g = (g, tt)
  inherits bs (Whole ys (Prefixed t o e)) g = (g, tt)
  inherits bs (Whole ys (Joined t o a b)) g = (g.0, (g.1, tt))
  inherits bs (Whole ys (Nexts t n e)) g = (g.0, (g.1, tt))
  inherits bs (Whole ys (InWindow t o n m e)) g = (g.0, (g.1, (g.2, tt)))
  inherits bs (Whole ys (Each t o further i s e)) g = (g.0, (g.1, tt))
  inherits bs (Whole ys (Between t l h a b)) g = (g.0, (g.1, tt))
  inherits bs (Whole ys (Listed t es)) g = unless_along open_past Good bs es (Whole ys es) g
  inherits bs (Whole ys Empty) g = tt
  inherits bs (Whole ys (Element e es)) g = (g.0, unless_along open_past Good bs es (Whole ys es) g.1)
  inherits bs (Whole ys (Range t a b c)) g = (g.0, (g.1, (g.2, tt)))
  inherits bs (Binder ys further i s) g = (g, tt)

  abbrev name_type : ℕ → ℕ
  name_type x = type_at table (reference_of x)

  pub name-known : {bs : Names} {x : ℕ} {e : Entry} (ys : Typings) → Resolved declared bs x e → names e.kind ≡ true → KnownName declared bs table ys (name_of e)
      → name_type x ≡ type_code (type_in ys (name_of e))
  name-known ys r n g = ap (type_at table) (r.refers n) ∙ g

  abbrev type_parts : List (Part Typings) → List ℕ
  type_parts qs = map type_part qs

  abbrev start_parts : List (Part Typings) → List ℕ
  start_parts qs = map start_part qs

  part_type : (bs : Names) (q : Part Typings) (x : ℕ) → Good bs q → Resolved declared (open_past bs q) x (own_entry with_number q) → ltb (kind_of q) first_line ≡ true
      → gives_of (kind_of q) (name_type x) (first_of (type_parts (operands_of with_number q))) ≡ type_part q
  part_type bs (Whole ys (Named t)) x g h i = by_name _ _ ∙ name-known ys h refl g
  part_type bs (Whole ys (Numeral t)) x g h i = given EntryKind.numeral _ _ (type_code ANumber) refl (omega arith)
  part_type bs (Whole ys (Truth t b)) x g h i = given EntryKind.truth _ _ (type_code AFormula) truth_gives (omega arith)
  part_type bs (Whole ys (Index t e)) x g h i = given EntryKind.index _ _ (type_code AFormula) refl (omega arith)
  part_type bs (Whole ys (Paren t e)) x g h i = by_operand _ _
  part_type bs (Whole ys (Prefixed t o e)) x g h i = given (EntryKind.before o) _ _ _ (before_gives o) (prefix_small o)
  part_type bs (Whole ys (Joined t o a b)) x g h i = given (EntryKind.joining o) _ _ _ (joining_gives o) (infix_small o)
  part_type bs (Whole ys (Nexts t n e)) x g h i = given EntryKind.nexts _ _ (type_code AFormula) refl (omega arith)
  part_type bs (Whole ys (InWindow t o n m e)) x g h i = given EntryKind.window _ _ (type_code AFormula) window_gives (omega arith)
  part_type bs (Whole ys (Each t o further j s e)) x g h i = given (EntryKind.big o) _ _ _ (big_gives_lem o) (big-small o)
  part_type bs (Whole ys (Between t l u a b)) x g h i = given (EntryKind.between u) _ _ (type_code ASet) (between_gives u) (omega arith)
  part_type bs (Whole ys (Listed t es)) x g h i = given EntryKind.listed _ _ (type_code ASet) refl (omega arith)
  part_type bs (Whole ys Empty) x g h i = absurd (false≢true i)
  part_type bs (Whole ys (Element e es)) x g h i = given EntryKind.element _ _ (type_code ASet) refl (omega arith)
  part_type bs (Whole ys (Range t a b c)) x g h i = given EntryKind.range _ _ (type_code ASet) refl (omega arith)
  part_type bs (Binder ys further j s) x g h i = given (EntryKind.binder further) _ _ (type_code ASet) (binder_gives further) (omega arith)

  pub values : (bs : Names) (q : Part Typings) (c : Cell) → Good bs q → Sees (Resolved declared (open_past bs q)) c (own_entry with_number q) → ltb (kind_of q) first_line ≡ true
      → node table c (map value (operands_of with_number q)) ≡ value q
  unfolding node
  values bs q c g z i =
      let qs = operands_of with_number q in
      ap₂ (λ (k s : ℕ). record { type = k; start = s })
      (ap (λ ks. gives_of c.kind (name_type c.token) (first_of ks)) (map-map (λ (x : Operand). x.type) value qs) ∙ ap (λ k. gives_of k (name_type c.token) (first_of (type_parts qs))) z.kind ∙
      part_type bs q c.token g z.token i)
      (ap (λ ss. start_of c.kind (place_of c.token) (first_of ss)) (map-map (λ (x : Operand). x.start) value qs) ∙ ap (λ k. start_of k (place_of c.token) (first_of (start_parts qs))) z.kind ∙
      starts with_number q (place_of c.token) z.token.place i)

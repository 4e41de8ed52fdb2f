-- What the pass takes for granted of names: each entry's name has its reference, and the table has the name's type there.
use Rattle.std.specs.Prelude.{ℕ, List, ◌∷◌, true, ◌≡◌}
use Rattle.language.specs.Tokens.{Token}
use Rattle.language.specs.Tree.{Expr, Named, Numeral, Truth, Index, Paren, Prefixed, Joined, Nexts, InWindow, Each, Between, Listed, Empty, Element, Range}
use Rattle.language.specs.Names.{Names}
use Rattle.language.specs.Types.{type_code, Typings, type_in, with_number}
use Rattle.entries.specs.Flat.{Entry}
use Rattle.names.specs.Scan.{token_of}
use Rattle.names.specs.Walkable.{names}
use Rattle.names.specs.References.{reference}
use Rattle.traversal.specs.Cells.{Told}
use Rattle.traversal.specs.Starts.{AtPlace}
use Rattle.types.specs.Kinds.{place_of, reference_of, type_at}

-- the word of an entry, behind which the big operators' names bs are open
pub record Resolved (declared bs : Names) (x : ℕ) (e : Entry) : Type 0 where
  pub place : Told AtPlace (place_of x) e.token
  pub refers : names e.kind ≡ true → reference_of x ≡ reference declared bs (token_of e)

abbrev pub KnownName : Names → Names → List ℕ → Typings → Token → Type 0
KnownName declared bs table ys t = type_at table (reference declared bs t) ≡ type_code (type_in ys t)

-- 'a big operator's name in the rest of its operator'
abbrev pub Known : Names → Names → List ℕ → Typings → Expr → Type 0
Known declared bs table ys (Named t) = KnownName declared bs table ys t
Known declared bs table ys (Numeral t) = Unit {0}
Known declared bs table ys (Truth t b) = Unit {0}
Known declared bs table ys (Index t e) = KnownName declared bs table ys t × Known declared bs table ys e
Known declared bs table ys (Paren t e) = Known declared bs table ys e
Known declared bs table ys (Prefixed t o e) = Known declared bs table ys e
Known declared bs table ys (Joined t o a b) = Known declared bs table ys a × Known declared bs table ys b
Known declared bs table ys (Nexts t n e) = Known declared bs table ys n × Known declared bs table ys e
Known declared bs table ys (InWindow t o n m e) = Known declared bs table ys n × Known declared bs table ys m × Known declared bs table ys e
Known declared bs table ys (Each t o further i s e) = Known declared bs table ys s × Known declared (i ∷ bs) table (with_number i ys) e
Known declared bs table ys (Between t l h a b) = Known declared bs table ys a × Known declared bs table ys b
Known declared bs table ys (Listed t es) = Known declared bs table ys es
Known declared bs table ys Empty = Unit {0}
Known declared bs table ys (Element e es) = Known declared bs table ys e × Known declared bs table ys es
Known declared bs table ys (Range t x y z) = Known declared bs table ys x × Known declared bs table ys y × Known declared bs table ys z

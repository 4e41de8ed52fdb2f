-- A walk over a text's entries: what is visible before each, which names of big operators are open, and what the walk has found so far (refusals 6 and 7, and what
-- each name refers to).
use Rattle.std.specs.Prelude.{ℕ, zero, suc, ◌+◌, ◌*◌, ◌≤◌, ◌<◌, List, [], ◌∷◌, true, false, ◌≡◌, length, get_or, drop}
use Rattle.language.specs.Limits.{max_tokens}
use Rattle.language.specs.Tokens.{Token, tokens}
use Rattle.language.specs.Places.{first}
use Rattle.language.specs.Names.{Names, hidden, again, nowhere}
use Rattle.language.specs.Lists.{All}
use Rattle.entries.specs.Kinds as Kind
use Rattle.entries.specs.Flat.{Entry}
use Rattle.names.specs.Roles.{binds, ends}
use Rattle.names.specs.Scan.{token_of, outer, after, scan}
use Rattle.names.specs.Balanced.{Balanced}
use Rattle.names.specs.Tables.{place_of, least, Placed}
use Rattle.names.specs.Walkable.{names, Walkable, Table, entry_of, NameAt}
use Rattle.names.specs.Meeting.{declared_from}
use Rattle.names.specs.References.{reference}

-- the visible names before entry i, where ns are visible before the first
unfoldable pub visible_before : Names → List Entry → ℕ → Names
visible_before ns es zero = ns
visible_before ns es (suc i) = after (visible_before ns es i) (entry_of es i)

-- the open names of big operators behind an entry, and before entry i
unfoldable pub open_after : Names → Entry → Names
open_after bs n = elim (binds n.kind) [ true ↦ token_of n ∷ bs | false ↦ elim (ends n.kind) [ true ↦ outer bs | false ↦ bs ] ]

unfoldable pub open_before : List Entry → ℕ → Names
open_before es zero = []
open_before es (suc i) = open_after (open_before es i) (entry_of es i)

-- what entry i's name refers to, among declared names of which the last stands first
abbrev pub refers_to : Names → List Entry → ℕ → ℕ
refers_to declared es i = reference declared (open_before es (suc i)) (token_of (entry_of es i))

module _ {w ids : List ℕ} {entries : ℕ} (h : Walkable w ids entries) (declared : Names) where
  -- three numbers at depth d of the stack: an open name's own, and what the tables held for its spelling before it
  pub record Held (stack : List ℕ) (d : ℕ) (b : Token) (ns bs : Names) : Type 0 where
    pub index : ℕ
    pub name : NameAt (tokens h.text) h.count index b
    pub own : get_or stack (3 * d) 0 ≡ get_or ids index 0
    pub place : get_or stack (3 * d + 1) 0 ≡ least ns b
    pub refers : get_or stack (3 * d + 2) 0 ≡ reference declared bs b

  -- every open name is visible, and held
  abbrev pub Open : List ℕ → Names → Names → Type 0
  Open stack ns [] = Unit {0}
  Open stack [] (b ∷ bs) = ⊥
  Open stack (n ∷ ns) (b ∷ bs) = (n ≡ b) × Held stack (length bs) b ns bs × Open stack ns bs

  abbrev pub visible_at : ℕ → Names
  visible_at k = visible_before (declared_from h Kind.signal 0) h.es k

  -- before entry k
  pub record Walking (k : ℕ) (seen table stack refs : List ℕ) (depth hiddenAt againAt : ℕ) : Type 0 where
    pub placed : All Placed (visible_at k)
    pub shown : Table h seen (least (visible_at k))
    pub points : Table h table (reference declared (open_before h.es k))
    pub opened : Open stack (visible_at k) (open_before h.es k)
    pub deep : depth ≡ length (open_before h.es k)
    pub small : depth ≤ k
    pub balanced : Balanced depth (drop k h.es)
    pub hides : scan hidden nowhere (visible_at 0) h.es ≡ first (place_of hiddenAt) (scan hidden nowhere (visible_at k) (drop k h.es))
    pub meets : scan nowhere again (visible_at 0) h.es ≡ first (place_of againAt) (scan nowhere again (visible_at k) (drop k h.es))
    pub refers : (i : ℕ) → i < k → names (entry_of h.es i).kind ≡ true → get_or refs i 0 ≡ refers_to declared h.es i
    pub stack_room : 3 * entries ≤ length stack
    pub refs_room : max_tokens ≤ length refs

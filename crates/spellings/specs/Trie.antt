-- A tree of spellings in two arrays: node 0 is the empty spelling, and every other node is its parent's spelling with one byte more, which `byte` holds. The children
-- of a node stand in a search tree: of a node's three links in `links` the last leads to its first child, and the other two to further children of its parent, chosen by
-- the bits of the byte that is sought, lowest first; 0 stands for no node.
use Rattle.std.specs.Prelude.{ℕ, suc, ◌+◌, ◌*◌, ◌/◌, ◌%◌, ◌≤◌, ◌<◌, max, List, [], ◌∷◌, ◌++◌, true, false, ◌≢◌, ◌≡◌, eqb, length, get_or, take, drop}
use Rattle.language.specs.Limits.{max_bytes}

-- node 0, and one for each byte of the longest text
abbrev pub max_trie_nodes : ℕ
max_trie_nodes = max_bytes + 1

-- a spelling with one byte more
abbrev pub more : List ℕ → ℕ → List ℕ
more s b = s ++ (b ∷ [])

-- the link to a node's first child
abbrev pub child_link : ℕ → ℕ
child_link p = 3 * p + 2

-- the link to a further child of a node's parent, by the lowest of the bits that are left
abbrev pub sibling_link : ℕ → ℕ → ℕ
sibling_link k bits = 3 * k + bits % 2

-- the node whose children a link leads to
unfoldable pub owner : (ℕ → ℕ) → ℕ → ℕ
owner parent l = elim (eqb (l % 3) 2) [ true ↦ l / 3 | false ↦ parent (l / 3) ]

-- a search for byte b that is at link l, with these bits left, comes to node k
pub data Leads (links byte : List ℕ) (b k : ℕ) : ℕ → ℕ → Type 0 where
  here : {l bits : ℕ} → get_or links l 0 ≡ k → Leads links byte b k l bits
  further : {l bits : ℕ} → get_or links l 0 ≢ 0 → get_or byte (get_or links l 0) 0 ≢ b → Leads links byte b k (sibling_link (get_or links l 0) bits) (bits / 2) → Leads links byte b k l bits

-- a search for the child of node p by byte b comes to link l, with these bits left, after d nodes with another byte
pub data Passed (links byte : List ℕ) (p b : ℕ) : ℕ → ℕ → ℕ → Type 0 where
  start : Passed links byte p b 0 (child_link p) b
  another : {d l bits : ℕ} → Passed links byte p b d l bits → get_or links l 0 ≢ 0 → get_or byte (get_or links l 0) 0 ≢ b → Passed links byte p b (suc d) (sibling_link (get_or links l 0) bits) (bits / 2)

-- the n nodes of two arrays, and their spellings; there is room for as many as there are bytes. A link leads to a node behind it, a child of the link's owner, and no other
-- link leads there; a search for a child's byte comes to that child.
pub record Trie (links byte : List ℕ) (n : ℕ) : Type 0 where
  pub str : ℕ → List ℕ
  pub parent : ℕ → ℕ
  pub links_room : 3 * length byte ≤ length links
  pub byte-room : n ≤ length byte
  pub rooted : 0 < n
  pub root : str 0 ≡ []
  pub distinct : (i k : ℕ) → i < n → k < n → str i ≡ str k → i ≡ k
  pub child : (k : ℕ) → 0 < k → k < n → (parent k < n) × (str k ≡ more (str (parent k)) (get_or byte k 0))
  pub small : (k : ℕ) → k < n → get_or byte k 0 < 256
  pub inside : (l : ℕ) → get_or links l 0 < n
  pub rising : (l : ℕ) → get_or links l 0 ≢ 0 → l < 3 * get_or links l 0
  pub once : (l m : ℕ) → get_or links l 0 ≢ 0 → get_or links l 0 ≡ get_or links m 0 → l ≡ m
  pub owned : (l : ℕ) → get_or links l 0 ≢ 0 → parent (get_or links l 0) ≡ owner parent l
  pub found : (k : ℕ) → 0 < k → k < n → Leads links byte (get_or byte k 0) k (child_link (parent k)) (get_or byte k 0)

-- the answer of a search for the child by byte b: the link to that node, or the one where it is to stand if there is none; at most eight nodes have been passed
pub record Sought {links byte : List ℕ} {n : ℕ} (t : Trie links byte n) (p b r : ℕ) : Type 0 where
  pub inside : r < 3 * n
  pub owned : owner t.parent r ≡ p
  pub count : ℕ
  pub bits : ℕ
  pub passed : Passed links byte p b count r bits
  pub few : count ≤ 8
  pub found : get_or links r 0 ≢ 0 → t.str (get_or links r 0) ≡ more (t.str p) b
  pub missing : get_or links r 0 ≡ 0 → (k : ℕ) → k < n → t.str k ≢ more (t.str p) b

-- node r of m nodes in other arrays, the first n as they were, is the child of p by byte b
pub record Reached {links byte : List ℕ} {n : ℕ} (t : Trie links byte n) (p b : ℕ) (links' byte' : List ℕ) (m r : ℕ) : Type 0 where
  pub trie : Trie links' byte' m
  pub kept : (k : ℕ) → k < n → trie.str k ≡ t.str k
  pub inside : r < m
  pub spells : trie.str r ≡ more (t.str p) b

-- how many nodes there are if node r is reached from n of them
abbrev pub nodes_with : ℕ → ℕ → ℕ
nodes_with n r = max n (r + 1)

abbrev pub Steps : {links byte : List ℕ} {n : ℕ} → Trie links byte n → ℕ → ℕ → List ℕ → List ℕ → ℕ → Type 0
Steps {n = n} t p b links' byte' r = (r ≤ n) × Reached t p b links' byte' (nodes_with n r) r

-- node r of m nodes in other arrays, the first n as they were, has the spelling s
pub record Spells {links byte : List ℕ} {n : ℕ} (t : Trie links byte n) (links' byte' : List ℕ) (s : List ℕ) (m r : ℕ) : Type 0 where
  pub trie : Trie links' byte' m
  pub kept : (k : ℕ) → k < n → trie.str k ≡ t.str k
  pub inside : r < m
  pub spells : trie.str r ≡ s
  pub less : n ≤ m
  pub few : m ≤ n + length s

-- the bytes of a token in a text
unfoldable pub part : ℕ → ℕ → List ℕ → List ℕ
part at n text = take n (drop at text)

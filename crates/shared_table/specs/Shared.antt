-- A table of nodes in one array, together with an index by which an equal node is found: the count; a head for each remainder of the words' hash; and three words for each
-- node, which are the node and two links. Heads and links lead to a node, and hold its number plus 1; 0 stands for no node. A search for a word starts at the head of its hash
-- and goes on, from a node that is not the word, by the link that the next bit of the word chooses, lowest first.
use Rattle.std.specs.Prelude.{ℕ, suc, ◌+◌, ◌-◌, ◌*◌, ◌/◌, ◌%◌, ◌^◌, ◌≤◌, ◌<◌, min, List, ◌≢◌, ◌≡◌, length, get_or}
use Rattle.node.specs.Limits.{max_nodes}
use Rattle.sharing.specs.Sharing.{position, having}

-- how many heads there are: they stand behind the count
abbrev pub heads : ℕ
heads = 2_048

-- the place of node 0: the nodes stand behind the heads
abbrev pub nodes_start : ℕ
nodes_start = heads + 1

-- a node whose number plus 1 is v stands 3 * v behind this place
abbrev pub before : ℕ
before = heads - 2

-- the place of the node whose number plus 1 is v
abbrev pub slot : ℕ → ℕ
slot v = before + 3 * v

-- that node's word
abbrev pub word_at : List ℕ → ℕ → ℕ
word_at out v = get_or out (slot v) 0

-- that node's link by the lowest of the bits that are left
abbrev pub next_link : ℕ → ℕ → ℕ
next_link v bits = slot v + 1 + bits % 2

-- the place of the head for a word: by the upper eleven of the lower 32 bits of a product, to which every bit of the word contributes
unfoldable pub head_of : ℕ → ℕ
head_of w = w * 2_654_435_769 / 2 ^ 21 % heads + 1

-- for how many nodes an array of n words has room
unfoldable pub capacity : ℕ → ℕ
capacity n = min max_nodes ((n - nodes_start) / 3)

-- the place of a head, or of a link of one of n nodes: behind the count, before the end of the nodes, and no node's own
pub record Link (n l : ℕ) : Type 0 where
  pub low : 1 ≤ l
  pub high : l < slot (n + 1)
  pub apart : (v : ℕ) → 1 ≤ v → l ≢ slot v

-- a search for word w that is at link l, with these bits left, comes to node v (its number plus 1)
pub data Leads (out : List ℕ) (w v : ℕ) : ℕ → ℕ → Type 0 where
  here : {l bits : ℕ} → get_or out l 0 ≡ v → Leads out w v l bits
  further : {l bits : ℕ} → get_or out l 0 ≢ 0 → word_at out (get_or out l 0) ≢ w → Leads out w v (next_link (get_or out l 0) bits) (bits / 2) → Leads out w v l bits

-- a search for word w comes to link l, with these bits left, after d nodes that are other words
pub data Passed (out : List ℕ) (w : ℕ) : ℕ → ℕ → ℕ → Type 0 where
  start : Passed out w 0 (head_of w) w
  another : {d l bits : ℕ} → Passed out w d l bits → get_or out l 0 ≢ 0 → word_at out (get_or out l 0) ≢ w → Passed out w (suc d) (next_link (get_or out l 0) bits) (bits / 2)

-- The index of n nodes: a link leads to one of them that stands behind it, and no other link leads there; a search for a node's word comes to that node.
pub record Index (out : List ℕ) (n : ℕ) : Type 0 where
  pub inside : (l : ℕ) → Link n l → get_or out l 0 ≤ n
  pub rising : (l : ℕ) → Link n l → get_or out l 0 ≢ 0 → l < slot (get_or out l 0)
  pub once : (l m : ℕ) → Link n l → Link n m → get_or out l 0 ≢ 0 → get_or out l 0 ≡ get_or out m 0 → l ≡ m
  pub found : (v : ℕ) → 1 ≤ v → v ≤ n → Leads out (word_at out v) v (head_of (word_at out v)) (word_at out v)
  pub small : (v : ℕ) → 1 ≤ v → v ≤ n → word_at out v < 2 ^ 32

-- the array holds table t
pub record Shares (out t : List ℕ) : Type 0 where
  pub long : nodes_start ≤ length out
  pub room : length t ≤ capacity (length out)
  pub count : get_or out 0 0 ≡ length t
  pub words : (k : ℕ) → k < length t → word_at out (k + 1) ≡ get_or t k 0
  pub index : Index out (length t)

-- the array holds some table
pub record Shared (out : List ℕ) : Type 0 where
  pub table : List ℕ
  pub shares : Shares out table

-- how many nodes an array says it holds
abbrev pub counted : List ℕ → ℕ
counted out = get_or out 0 0

-- the table with the word is held, and the node that is the word has number r - 1
pub record Put (out' t : List ℕ) (word r : ℕ) : Type 0 where
  pub shares : Shares out' (having t word)
  pub number : r ≡ suc (position t word)

-- the word is not in the table, and there is no room for one node more; the array is as it was
pub record Full (out out' t : List ℕ) (word : ℕ) : Type 0 where
  pub absent : position t word ≡ length t
  pub full : length t ≡ capacity (length out)
  pub kept : out' ≡ out

-- what has become of an array into which a word was put, whichever table it held; r past the last node's number plus 1 stands for no room
pub record Puts (out out' : List ℕ) (word r : ℕ) : Type 0 where
  pub most : r ≤ suc max_nodes
  pub done : r ≤ max_nodes → (t : List ℕ) → Shares out t → Put out' t word r
  pub refused : max_nodes < r → (t : List ℕ) → Shares out t → Full out out' t word

-- A search is at link l, with these bits left, after at most 32 nodes that are other words: a node that is the word lies ahead.
pub record Seeking (out : List ℕ) (n w l bits : ℕ) : Type 0 where
  pub link : Link n l
  pub passed-count : ℕ
  pub passed : Passed out w passed-count l bits
  pub few : passed-count ≤ 32
  pub ahead : (v : ℕ) → 1 ≤ v → v ≤ n → word_at out v ≡ w → Leads out w v l bits

-- the search for a word has ended at a link that leads to no node
pub record Sought (out : List ℕ) (w l : ℕ) : Type 0 where
  pub shared : Shared out
  pub small : w < 2 ^ 32
  pub empty : get_or out l 0 ≡ 0
  pub seeking : (t : List ℕ) → Shares out t → (bits : ℕ) × Seeking out (length t) w l bits

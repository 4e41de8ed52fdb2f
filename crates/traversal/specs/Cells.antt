-- What a pass sees of the entries: the code's view of each, and when it is the view of an entry of the tree.
use Rattle.std.specs.Prelude.{ℕ, suc, ◌+◌, ◌<◌, List, [], ◌∷◌, ◌≡◌, length, drop}
use Rattle.std.proofs.Math.Option.{Option, none, some}
use Rattle.words.specs.Words.{word_at}
use Rattle.language.specs.Tokens.{Token}
use Rattle.language.specs.Grammar.{Tokens, front}
use Rattle.lexer.specs.Stored.{offset_in}
use Rattle.entries.specs.Flat.{Entry}
use Rattle.entries.specs.Stored.{first_entry, kind_of, index_of, size_of}
use Rattle.traversal.specs.declared.Cell.{Cell}

-- what the word of a token says of it, if the entry keeps one
abbrev pub Told : (ℕ → Token → Type 0) → ℕ → Option Token → Type 0
Told T x none = Unit {0}
Told T x (some t) = T x t

pub record Sees (T : ℕ → Entry → Type 0) (c : Cell) (e : Entry) : Type 0 where
  pub kind : c.kind ≡ e.kind
  pub size : c.size ≡ e.size
  pub token : T c.token e

-- the cells from i on are those of the entries; b is carried along them, as the names of big operators are that are open before an entry
abbrev pub SeenAlong : {B : Type 0} → (B → Entry → B) → (B → ℕ → Entry → Type 0) → (ℕ → Cell) → B → ℕ → List Entry → Type 0
SeenAlong along T cell b i [] = Unit {0}
SeenAlong along T cell b i (e ∷ es) = Sees (T (along b e)) (cell i) e × SeenAlong along T cell (along b e) (suc i) es

-- nothing is carried, and an entry's word speaks of its token alone
abbrev pub nothing : Unit {0} → Entry → Unit {0}
nothing b e = tt

abbrev pub OfToken : (ℕ → Token → Type 0) → Unit {0} → ℕ → Entry → Type 0
OfToken T b x e = Told T x e.token

abbrev pub Seen : (ℕ → Token → Type 0) → (ℕ → Cell) → ℕ → List Entry → Type 0
Seen T cell i es = SeenAlong nothing (OfToken T) cell tt i es

-- the cell of entry i of the buffer
unfoldable pub cell_at : List ℕ → ℕ → Cell
cell_at w i = let x = word_at w (first_entry + i) in record { kind = kind_of x; token = word_at w (index_of x); size = size_of x }

-- the words of the tokens say T of them
abbrev pub TokensTell : (ℕ → Token → Type 0) → List ℕ → Tokens → Type 0
TokensTell T w ts = (j : ℕ) → suc j < length ts → T (word_at w j) (front (drop j ts))

-- the words of tokens as the lexer stores them tell their places
abbrev pub Offset : ℕ → Token → Type 0
Offset x t = offset_in x ≡ t.at

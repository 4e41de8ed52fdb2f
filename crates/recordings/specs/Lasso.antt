-- The infinite word that a recording denotes (document 01, 'Recordings'). Laws in LassoLaws.
use Rattle.std.specs.Prelude.{ℕ, zero, suc, ◌+◌, Bool, cond, List, ltb}
use Rattle.node.specs.Ltl.{Word}
use Rattle.recordings.specs.Recording.{lasso_of, letter_of}
use Rattle.recordings.specs.declared.Lasso.{Lasso}

-- 'After position N-1 comes L': the position after p
unfoldable pub next : ℕ → ℕ → ℕ → ℕ
next n l p = cond (ltb (p + 1) n) (p + 1) l

-- the position that stands at time t
unfoldable pub place : ℕ → ℕ → ℕ → ℕ
place n l zero = 0
place n l (suc t) = next n l (place n l t)

-- the infinite word of a lasso: the letters in the order of its positions
abbrev pub word_of : ℕ → ℕ → (ℕ → ℕ → Bool) → Word
word_of n l letter t signal = letter (place n l t) signal

abbrev pub lasso_word : List ℕ → Lasso → Word
lasso_word bs w = word_of w.n w.l (letter_of bs w.k)

-- the infinite word of a recording
abbrev pub recorded : List ℕ → Word
recorded bs = lasso_word bs (lasso_of bs)

-- The reach of small tables, worked out: each rule of document 02's sentence, the first rule over the others, nothing simplified, and 19 with its places.
use Rattle.std.specs.Prelude.{ℕ, ◌≡◌, refl, [], ◌∷◌}
use Rattle.node.specs.Fields.{pack}
use Rattle.node.specs.Result.{Done, Refused, ◌>>=◌, guard}
use Rattle.node.specs.Table.{formulas, tree_at, scanned, checked}
use Rattle.lookahead.specs.Span.{span}
use Rattle.lookahead.specs.Reaching.{Letters, Unbounded, reaching}

-- true, false and signal 0
abbrev t : ℕ
t = pack 0 0 0

abbrev f : ℕ
f = pack 1 0 0

abbrev a : ℕ
a = pack 2 0 0

-- a signal, and what has no signal below it
signal : reaching (a ∷ []) ≡ Done (Letters 0)
unfolding reaching ◌>>=◌ guard checked scanned tree_at formulas span
signal = refl

constant : reaching (t ∷ []) ≡ Done (Letters 0)
unfolding reaching ◌>>=◌ guard checked scanned tree_at formulas span
constant = refl

-- '1 more than its operand for X'
next : reaching (a ∷ pack 8 0 0 ∷ []) ≡ Done (Letters 1)
unfolding reaching ◌>>=◌ guard checked scanned tree_at formulas span
next = refl

next-next : reaching (a ∷ pack 8 0 0 ∷ pack 8 1 0 ∷ []) ≡ Done (Letters 2)
unfolding reaching ◌>>=◌ guard checked scanned tree_at formulas span
next-next = refl

-- the rule on a node without signals goes first: `X true`, `G true`, `true U false`, `X X false`
next_true : reaching (t ∷ pack 8 0 0 ∷ []) ≡ Done (Letters 0)
unfolding reaching ◌>>=◌ guard checked scanned tree_at formulas span
next_true = refl

always_true : reaching (t ∷ pack 9 0 0 ∷ []) ≡ Done (Letters 0)
unfolding reaching ◌>>=◌ guard checked scanned tree_at formulas span
always_true = refl

until_constants : reaching (t ∷ f ∷ pack 11 0 1 ∷ []) ≡ Done (Letters 0)
unfolding reaching ◌>>=◌ guard checked scanned tree_at formulas span
until_constants = refl

next-next_false : reaching (f ∷ pack 8 0 0 ∷ pack 8 1 0 ∷ []) ≡ Done (Letters 0)
unfolding reaching ◌>>=◌ guard checked scanned tree_at formulas span
next-next_false = refl

-- `X (true && a)`, `a && X true`
next_both : reaching (t ∷ a ∷ pack 4 0 1 ∷ pack 8 2 0 ∷ []) ≡ Done (Letters 1)
unfolding reaching ◌>>=◌ guard checked scanned tree_at formulas span
next_both = refl

both-next_true : reaching (a ∷ t ∷ pack 8 1 0 ∷ pack 4 0 2 ∷ []) ≡ Done (Letters 0)
unfolding reaching ◌>>=◌ guard checked scanned tree_at formulas span
both-next_true = refl

-- 'the greater operand for the Boolean kinds', on either side: `!`, `&&`, `||`, `->`, `<->` over `X a` and `X X a`
not-next : reaching (a ∷ pack 8 0 0 ∷ pack 3 1 0 ∷ []) ≡ Done (Letters 1)
unfolding reaching ◌>>=◌ guard checked scanned tree_at formulas span
not-next = refl

and_greater : reaching (a ∷ pack 8 0 0 ∷ pack 8 1 0 ∷ pack 4 1 2 ∷ []) ≡ Done (Letters 2)
unfolding reaching ◌>>=◌ guard checked scanned tree_at formulas span
and_greater = refl

or_greater : reaching (a ∷ pack 8 0 0 ∷ pack 8 1 0 ∷ pack 5 2 1 ∷ []) ≡ Done (Letters 2)
unfolding reaching ◌>>=◌ guard checked scanned tree_at formulas span
or_greater = refl

implies_greater : reaching (a ∷ pack 8 0 0 ∷ pack 8 1 0 ∷ pack 6 1 2 ∷ []) ≡ Done (Letters 2)
unfolding reaching ◌>>=◌ guard checked scanned tree_at formulas span
implies_greater = refl

iff_greater : reaching (a ∷ pack 8 0 0 ∷ pack 8 1 0 ∷ pack 7 2 1 ∷ []) ≡ Done (Letters 2)
unfolding reaching ◌>>=◌ guard checked scanned tree_at formulas span
iff_greater = refl

-- 'unbounded for G, F, U, R or W above a signal', on either side
always : reaching (a ∷ pack 9 0 0 ∷ []) ≡ Done Unbounded
unfolding reaching ◌>>=◌ guard checked scanned tree_at formulas span
always = refl

eventually : reaching (a ∷ pack 10 0 0 ∷ []) ≡ Done Unbounded
unfolding reaching ◌>>=◌ guard checked scanned tree_at formulas span
eventually = refl

true_until : reaching (t ∷ a ∷ pack 11 0 1 ∷ []) ≡ Done Unbounded
unfolding reaching ◌>>=◌ guard checked scanned tree_at formulas span
true_until = refl

release_true : reaching (t ∷ a ∷ pack 12 1 0 ∷ []) ≡ Done Unbounded
unfolding reaching ◌>>=◌ guard checked scanned tree_at formulas span
release_true = refl

weak_true : reaching (t ∷ a ∷ pack 13 1 0 ∷ []) ≡ Done Unbounded
unfolding reaching ◌>>=◌ guard checked scanned tree_at formulas span
weak_true = refl

-- nothing is simplified: `false && G a`; X and the Boolean kinds over it
false_and_always : reaching (a ∷ pack 9 0 0 ∷ f ∷ pack 4 2 1 ∷ []) ≡ Done Unbounded
unfolding reaching ◌>>=◌ guard checked scanned tree_at formulas span
false_and_always = refl

next_always : reaching (a ∷ pack 9 0 0 ∷ pack 8 1 0 ∷ []) ≡ Done Unbounded
unfolding reaching ◌>>=◌ guard checked scanned tree_at formulas span
next_always = refl

always_or-next : reaching (a ∷ pack 9 0 0 ∷ pack 8 0 0 ∷ pack 5 1 2 ∷ []) ≡ Done Unbounded
unfolding reaching ◌>>=◌ guard checked scanned tree_at formulas span
always_or-next = refl

-- only nodes below the root count
unreached : reaching (a ∷ pack 9 0 0 ∷ pack 8 0 0 ∷ []) ≡ Done (Letters 1)
unfolding reaching ◌>>=◌ guard checked scanned tree_at formulas span
unreached = refl

-- any 14-bit signal number passes
last-signal : reaching (pack 2 16_383 0 ∷ []) ≡ Done (Letters 0)
unfolding reaching ◌>>=◌ guard checked scanned tree_at formulas span
last-signal = refl

-- 'Errors: 19 as before': no nodes; a node against the format, below the root or not
empty : reaching [] ≡ Refused 19 0
unfolding reaching ◌>>=◌ guard checked scanned tree_at formulas span
empty = refl

own-operand : reaching (pack 8 0 0 ∷ []) ≡ Refused 19 0
unfolding reaching ◌>>=◌ guard checked scanned tree_at formulas span
own-operand = refl

unreached_bad : reaching (a ∷ pack 3 5 0 ∷ a ∷ []) ≡ Refused 19 1
unfolding reaching ◌>>=◌ guard checked scanned tree_at formulas span
unreached_bad = refl

no_kind : reaching (a ∷ pack 14 0 0 ∷ []) ≡ Refused 19 1
unfolding reaching ◌>>=◌ guard checked scanned tree_at formulas span
no_kind = refl

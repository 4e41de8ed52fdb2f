-- The converter's refusals in their order, and what it tells of document 01's file in each form, by computing.
use Rattle.std.specs.Prelude.{ℕ, ◌≡◌, refl, List}
use Rattle.node.specs.Postorder.{size}
use Rattle.node.specs.Result.{Result, Done, Refused, ◌>>=◌, guard}
use Rattle.node.specs.Written.{count}
use Rattle.forms.specs.Forms.{plain, negated, core}
use Rattle.language.specs.Bytes.{ascii}
use Rattle.language.specs.Places.{refuse_at}
use Rattle.language.specs.Parsing.{parsed}
use Rattle.language.specs.Reading.{text_expansion, spec_expansion}
use Rattle.language.proofs.Cases.{text, line, repeated, counted}
use Rattle.claim.specs.Converting.{formed, converting}

-- 'One file in full'
abbrev file : List ℕ
file = text (ascii "MAIN { INPUTS { r; } OUTPUTS { g; } GUARANTEE { G (r -> F g); } }")

-- how many nodes and signals a form has, with room for that many
abbrev lent : List ℕ → ℕ → ℕ → ℕ → ℕ → Result (ℕ × ℕ)
lent s number work nodes signals = counted (converting s number work nodes signals)

expanded : lent file 0 65536 17 2 ≡ Done (17, 2)
unfolding converting formed text_expansion parsed spec_expansion ◌>>=◌ guard refuse_at count size
expanded = refl

negation : lent file 1 65536 18 2 ≡ Done (18, 2)
unfolding converting formed text_expansion parsed spec_expansion ◌>>=◌ guard refuse_at count size plain negated
negation = refl

core_form_lem : lent file 2 65537 39 3 ≡ Done (39, 2)
unfolding converting formed text_expansion parsed spec_expansion ◌>>=◌ guard refuse_at count size core
core_form_lem = refl

-- 17 before 1, 1 before 21, 21 before 18
work_first : lent (repeated 32769 " ") 3 65535 0 0 ≡ Refused 17 0
unfolding converting formed text_expansion parsed spec_expansion ◌>>=◌ guard refuse_at count size
work_first = refl

text-before-form : lent (repeated 32769 " ") 3 65536 0 0 ≡ Refused 1 32768
unfolding converting formed text_expansion parsed spec_expansion ◌>>=◌ guard refuse_at count size
text-before-form = refl

form-before-room : lent file 3 65536 0 0 ≡ Refused 21 0
unfolding converting formed text_expansion parsed spec_expansion ◌>>=◌ guard refuse_at count size core
form-before-room = refl

-- 16 before 18: a text of fewer than 8,192 nodes whose core form has more
nodes-before-room : lent (line (ascii "G[0:2000] a")) 2 65536 0 0 ≡ Refused 16 0
unfolding converting formed text_expansion parsed spec_expansion ◌>>=◌ guard refuse_at count size core
nodes-before-room = refl

-- 18 for either result buffer, by the form's nodes
nodes_short : lent file 1 65536 17 2 ≡ Refused 18 0
unfolding converting formed text_expansion parsed spec_expansion ◌>>=◌ guard refuse_at count size plain negated
nodes_short = refl

signals_short : lent file 0 65536 17 1 ≡ Refused 18 0
unfolding converting formed text_expansion parsed spec_expansion ◌>>=◌ guard refuse_at count size
signals_short = refl

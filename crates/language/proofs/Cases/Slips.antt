-- 'Slips to shut out' (document 01), as far as only texts show them: each case fails where the definitions slip. A star read as 0 and strict read as G A are refused
-- by the agreement of meaning and expansion.
use Rattle.std.specs.Prelude.{◌≡◌, refl}
use Rattle.node.specs.Ltl.{True, False, Two, Or}
use Rattle.node.specs.Postorder.{size}
use Rattle.node.specs.Result.{Done, ◌>>=◌, guard}
use Rattle.node.specs.Written.{count}
use Rattle.language.specs.Bytes.{ascii}
use Rattle.language.specs.Places.{refuse_at}
use Rattle.language.specs.Parsing.{parsed}
use Rattle.language.specs.Reading.{text_expansion, spec_expansion}
use Rattle.language.proofs.Cases.{line, guaranteed}

-- 'LE read as "at most" (it is "smaller"; LEQ is "at most")'
smaller : guaranteed (line (ascii "1 LE 1 || 1 LEQ 1")) ≡ Done (Two Or False True)
unfolding text_expansion parsed spec_expansion ◌>>=◌ guard refuse_at count size
smaller = refl

-- bounds are not worked out by n - 1: 'none if n is 0'
bounds : guaranteed (line (ascii "&&[0 <= i < 0] false")) ≡ Done True
unfolding text_expansion parsed spec_expansion ◌>>=◌ guard refuse_at count size
bounds = refl

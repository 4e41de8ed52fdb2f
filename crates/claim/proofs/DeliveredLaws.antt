-- The reader's answer into the largest buffers: no accepted text is too large for them, and as many words as were taken are there.
use Rattle.std.specs.Prelude.{ℕ, ◌≤◌, min, ◌≡◌, refl, ◌&&◌, List, length, take}
use Rattle.std.proofs.Common.{ap₂, length-take, arith, le-leb}
use Rattle.node.specs.Limits.{max_nodes}
use Rattle.node.specs.Result.{Result, Done, Refused, ◌>>=◌}
use Rattle.node.proofs.ResultLaws.{guard-pass}
use Rattle.node.specs.Written.{count}
use Rattle.language.specs.Limits.{max_signals}
use Rattle.language.specs.Reading.{NumberedFormula, text_expansion, delivered}
use Rattle.language.proofs.Laws.Meaning.Acceptance.{accepts, list-limited}

pub all-delivered : (text : List ℕ) → text_expansion text >>= delivered max_nodes max_signals ≡ text_expansion text
unfolding ◌>>=◌
all-delivered text = go (text_expansion text) refl
  where
    go : (r : Result NumberedFormula) → text_expansion text ≡ r → r >>= delivered max_nodes max_signals ≡ r
    go (Done c) e = guard-pass 18 0 _ (ap₂ ◌&&◌ (le-leb (count c.formula) max_nodes (accepts e).few_nodes) (le-leb (length c.signals) max_signals (list-limited text c e)))
    go (Refused n p) e = refl

pub taken-room : (n : ℕ) (l : List ℕ) → length (take n l) ≡ n → n ≤ length l
taken-room n l e = let cut : length (take n l) ≡ min n (length l) = length-take n l in omega arith

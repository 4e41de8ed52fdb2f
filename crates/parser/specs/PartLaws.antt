-- The parts that the code reads one by one are together the grammar.
use Rattle.std.specs.Prelude.{ℕ, suc, [], ◌∷◌, true, false, ◌≡◌, length}
use Rattle.std.proofs.Common.{sym, ◌∙◌}
use Rattle.node.specs.Result.{Done, ◌>>=◌}
use Rattle.node.proofs.ResultLaws.{bind_again, bind_at, bind_same}
use Rattle.language.specs.Tokens.{Name, is_of}
use Rattle.language.specs.Grammar.{Tokens, front, expect, expect_of}
use Rattle.language.specs.Sections.{words_of, identifiers_of}
use Rattle.parser.specs.Parts.{identifier_of}

-- an identifier, and further ones as long as a name follows
pub identifiers-parts : (f : ℕ) (ts : Tokens) →
    identifiers_of (suc f) ts ≡
    (identifier_of ts >>= λ (i, us).
    elim (is_of Name (front us)) [ true ↦ identifiers_of f us >>= λ (is, vs). Done (i ∷ is, vs) | false ↦ Done (i ∷ [], us) ])
identifiers-parts f ts =
    sym
    (bind_again (expect_of Name ts) _ _ ∙ bind_same (expect_of Name ts) _ _ (λ (x, us).
    bind_again (expect ":" us) _ _ ∙ bind_same (expect ":" us) _ _ (λ (c, vs).
    bind_again (words_of (length vs) vs) _ _ ∙ bind_same (words_of (length vs) vs) _ _ (λ z. bind_at _ _))))

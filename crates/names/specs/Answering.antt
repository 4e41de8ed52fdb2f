-- The answer, from what the walks have found.
use Rattle.std.specs.Prelude.{ℕ, true, false, ltb, Ok, Err}
use Rattle.node.specs.Returned.{Returned, refusal}
use Rattle.language.specs.Limits.{max_names}
use Rattle.names.specs.Tables.{no_place}

-- 6 before 7 before 8
unfoldable pub answer_of : ℕ → ℕ → ℕ → ℕ → Returned ℕ
answer_of hidden again count place =
    elim (ltb hidden no_place) [
      | true ↦ Err (refusal 6 hidden)
      | false ↦ elim (ltb again no_place) [
        | true ↦ Err (refusal 7 again)
        | false ↦ elim (ltb max_names count) [ true ↦ Err (refusal 8 place) | false ↦ Ok count ]
      ]
    ]

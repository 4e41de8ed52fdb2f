-- The models of INFO by number, as the code hands them on.
use Rattle.std.specs.Prelude.{ℕ, List, [], ◌∷◌}
use Rattle.language.specs.Tree.{Model, Mealy, Moore}

abbrev pub model_code : Model → ℕ
model_code Mealy = 0
model_code Moore = 1

abbrev pub model_codes : List ℕ
model_codes = model_code Mealy ∷ model_code Moore ∷ []

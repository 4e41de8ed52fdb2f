-- Copying word by word.
use Rattle.std.specs.Prelude.{ℕ, ◌+◌, ◌<◌, ◌≡◌, List, length, get_or, set}
use Rattle.std.proofs.Common.{ap, ◌∙◌, sym, zero-add, add-one, arith}
use Rattle.std.proofs.Math.Seq.{paste, paste-suc}

-- a word more of a copy
pub copied_more : (d s : List ℕ) (j : ℕ) → j < length d → j < length s → set (paste d 0 s j) j (get_or s j 0) ≡ paste d 0 s (j + 1)
copied_more d s j hd hs =
    let z : 0 + j ≡ j = zero-add j in
    ap (λ (k : ℕ). set (paste d 0 s j) k (get_or s j 0)) (sym z) ∙ paste-suc d 0 s j 0 (omega arith) hs ∙ ap (paste d 0 s) (sym (add-one j))

-- F[n:m] and G[n:m] by the code of F and G (crate operators).
use Rattle.std.specs.Prelude.{ℕ, true, false, eqb}
use Rattle.node.specs.Operators.{F}
use Rattle.node.specs.Kinds.{unary_kind}
use Rattle.language.specs.Operators.{Window, FinallyIn, GloballyIn}

abbrev pub window_by : ℕ → Window
window_by code = elim (eqb code (unary_kind F)) [ true ↦ FinallyIn | false ↦ GloballyIn ]

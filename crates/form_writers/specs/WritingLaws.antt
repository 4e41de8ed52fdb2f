-- Laws of what the functions ask: a node with a lower number. The laws of what is written are crate storing's StoringLaws.
use Rattle.std.specs.Prelude.{ℕ, ◌<◌, ◌≤◌, max, List}
use Rattle.std.proofs.Common.{arith}
use Rattle.form_writers.specs.Writing.{Room, Ready}

-- a node with a lower number; a node's operand, its two operands
pub lower : {nodes out out' : List ℕ} {i at at' : ℕ} (j : ℕ) → Ready nodes i out at → j ≤ i → Room out' at' → Ready nodes j out' at'
lower j r h l = let q = r.inside in record { formed = r.formed; inside = omega arith; room = l }

pub operand : {nodes out : List ℕ} {i at a : ℕ} → Ready nodes i out at → a < i → Ready nodes a out at
operand {a = a} r h = lower a r (omega arith) r.room

pub operands : {nodes out : List ℕ} {i at a b : ℕ} → Ready nodes i out at → (a < i) × (b < i) → Ready nodes (max a b) out at
operands {a = a} {b = b} r h = lower (max a b) r (omega arith) r.room

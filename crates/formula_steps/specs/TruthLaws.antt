-- true and false.
use Rattle.std.specs.Prelude.{ℕ, suc, ◌≤◌, ◌<◌, min, Bool, List, [], ◌≡◌, eqb, length, Ok}
use Rattle.std.proofs.Common.{sym, ap, ◌∙◌, subst, arith}
use Rattle.node.specs.Limits.{max_nodes}
use Rattle.node.specs.Ltl.{Formula}
use Rattle.node.specs.Result.{◌>>=◌}
use Rattle.node.proofs.ResultLaws.{bind_at}
use Rattle.machine.specs.declared.Move.TheVariants.{Next}
use Rattle.writing.specs.Writing.{Wrote}
use Rattle.language.specs.Limits.{max_tokens, work_bytes}
use Rattle.language.specs.Tree.{Expr}
use Rattle.language.specs.Expansion.{expansion}
use Rattle.language.specs.Expansion as Expansion
use Rattle.lexer.specs.Numbers.{fixed}
use Rattle.entries.specs.Kinds as Kind
use Rattle.operands.specs.Entries.{kind_at, number_at}
use Rattle.operands.specs.SpellingLaws.{truth-is}
use Rattle.operands.specs.MakingLaws.{truth_making}
use Rattle.operands.specs.Working.{Source}
use Rattle.machine.specs.Came.{Expand, nodes}
use Rattle.machine.specs.TableLaws.{wrote-capped}
use Rattle.machine.specs.States.{mode_of, ReadyToWrite, Writes}
use Rattle.machine.specs.StateLaws.{entered}
use Rattle.machine.specs.EnterLaws.{writes, entry_few}
use Rattle.machine.specs.Moves.{wrote}
use Rattle.machine.specs.OperandLaws.{operand_as}
use Rattle.machine.specs.declared.Machine.{Machine}
use Rattle.machine.specs.Entering.{Expands}
use Rattle.machine.specs.EnteringLaws.{works-formula, operand_making}

-- the entry's words can be read
pub written_entry : {s : Source} {mem out : List ℕ} {m : Machine} → ReadyToWrite s mem out m → m.mode ≤ mode_of Expand → (m.value < max_tokens) × (work_bytes ≤ length s.work)
written_entry h l = (entry_few (entered h.state l), h.lent.work)

pub truth-steps : {s : Source} {mem out out' : List ℕ} {m : Machine} {number r n : ℕ} {b : Bool} → Expands s.work m Kind.truth Kind.index → number ≡ number_at s.work m.value
    → b ≡ eqb number (fixed "true") → Wrote (Expansion.truth b) out out' m.nodes r → n ≡ min r (suc max_nodes) → Writes s mem mem out out' m (Ok (Next (wrote m n)))
truth-steps {s} {out = out} {out'} {m} {number} {r} {n} {b} k ek eb w en = record {
  turns = λ R x o h.
      let e = k.mode in
      let q = entered h (omega arith) in
      let v = operand_making q.at.operand (truth_making (kind_at s.work m.value) k.from k.until) in
      let p = operand_as q.at.operand v.2 in
      let same : b ≡ v.1 = eb ∙ ap (λ (i : ℕ). eqb i (fixed "true")) ek ∙ sym (truth-is R.lexed Kind.truth v.0 [] p.known.at p.known.proper.1) in
      writes q (Expansion.truth v.1) (works-formula q e ∙ ap (λ (d : Expr). expansion q.context d >>= nodes) v.2 ∙ bind_at (Expansion.truth v.1) nodes)
      (subst (λ (f : Formula). Wrote f out out' m.nodes n) (ap Expansion.truth same) (wrote-capped en w)) (omega arith);
}

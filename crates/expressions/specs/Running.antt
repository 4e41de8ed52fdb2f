-- The loop over steps: its state goes on from step to step, and its end is the definition's answer.
use Rattle.std.specs.Prelude.{ℕ, List, false, drop}
use Rattle.std.proofs.Common.{arith}
use Rattle.language.specs.Operators.{loosest}
use Rattle.language.specs.Grammar.{Tokens}
use Rattle.language.specs.Sections.{expression}
use Rattle.entries.specs.Flat.{flat}
use Rattle.entries.specs.declared.Cursor.{Cursor}
use Rattle.entries.specs.Parse.{Parse}
use Rattle.entries.specs.Cursors.{Ready, Readied}
use Rattle.entries.specs.Reads.{Kept, Reads}
use Rattle.entries.specs.ReadsLaws.{kept_same, kept_then}
use Rattle.expressions.specs.declared.stack.Machine.{Machine}
use Rattle.expressions.specs.declared.stack.Turn.TheVariants.{Next, Ended}
use Rattle.expressions.specs.States.{State, Standing, Turned}
use Rattle.expressions.specs.Climbs.{begins}

-- from the buffer u and the cursor s on
pub record Runs (ts : Tokens) (u : List ℕ) (s : Cursor) (w : List ℕ) (m : Machine) : Type 0 where
  pub state : State m.complete ts s (expression (drop s.at ts)) w m
  pub kept : Kept u w s.out

-- whatever the tokens are
abbrev pub Running : List ℕ → Cursor → List ℕ → Machine → Type 0
Running u s w m = (ts : Tokens) → Ready ts u s → Runs ts u s w m

pub runs_start : (w : List ℕ) (c : Cursor) → Running w c w (record { c = c; depth = 0; level = loosest; complete = false })
runs_start w c ts r = record { state = begins r; kept = kept_same w c.out }

pub runs_stands : {u w : List ℕ} {s : Cursor} {m : Machine} → Readied u s → Running u s w m → Standing m.complete w m
runs_stands {s = s} r g = record { tokens = r.tokens; start = s; answer = expression (drop s.at r.tokens); state = (g r.tokens r.ready).state }

pub runs_on : {ts : Tokens} {u w v : List ℕ} {s : Cursor} {m n : Machine} → Runs ts u s w m → Turned ts s (expression (drop s.at ts)) w v m (Next n) → Runs ts u s v n
runs_on g t = record { state = t.after.state; kept = kept_then (omega arith) g.kept t.kept }

pub runs_end : {ts : Tokens} {u w v : List ℕ} {s : Cursor} {m : Machine} {p : Parse} → Runs ts u s w m → Turned ts s (expression (drop s.at ts)) w v m (Ended p)
    → Reads ts u v s flat (expression (drop s.at ts)) p
runs_end g t = record { kept = kept_then (omega arith) g.kept t.kept; says = t.after }

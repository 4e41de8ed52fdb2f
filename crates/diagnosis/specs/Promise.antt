-- What `diagnose` answers and promises (document 02, F-7).
use Rattle.std.specs.Prelude.{ℕ, ◌≡◌, List, length, Ok, Err}
use Rattle.node.specs.Result.{Result, Done, Refused}
use Rattle.node.specs.Returned.{Returned}
use Rattle.recordings.specs.Lasso.{recorded}
use Rattle.language.specs.Tree.{Part, Preset, Assert, Guarantee}
use Rattle.language.specs.Meaning.{TextMeans}
use Rattle.language.specs.Reading.{NumberedFormula, text_expansion, work_after}
use Rattle.claim.specs.Claim.{Gives}
use Rattle.faults.specs.Naming.{Finding, NoFault, FaultIn}
use Rattle.faults.specs.Diagnosing.{diagnosing, rows_after, Fault}
use Rattle.diagnosis.specs.declared.Diagnosis.{Diagnosis}

-- what is answered: a `Diagnosis`, or a refusal
abbrev pub tells : Returned Diagnosis → Result Finding
tells (Ok Diagnosis.Holds) = Done NoFault
tells (Ok (Diagnosis.Preset line)) = Done (FaultIn Preset line)
tells (Ok (Diagnosis.Assert line)) = Done (FaultIn Assert line)
tells (Ok (Diagnosis.Guarantee line)) = Done (FaultIn Guarantee line)
tells (Err r) = Refused r.number r.place

-- its two values: section and line
abbrev pub valued : Returned Diagnosis → Result (ℕ × ℕ)
valued (Ok Diagnosis.Holds) = Done (0, 0)
valued (Ok (Diagnosis.Preset line)) = Done (1, line)
valued (Ok (Diagnosis.Assert line)) = Done (2, line)
valued (Ok (Diagnosis.Guarantee line)) = Done (3, line)
valued (Err r) = Refused r.number r.place

-- what `diagnose` promises
pub record Diagnoses (text recording work rows work' rows' : List ℕ) (r : Returned Diagnosis) : Type 0 where
  -- the definition's finding or refusal
  pub answer : tells r ≡ diagnosing text recording (length work) (length rows)
  -- the rows as the evaluator leaves them, the work buffer as the reader does
  pub rows_left : rows' ≡ rows_after text recording (length work) rows
  pub work_left : work' ≡ work_after work
  -- in every word over the declared signals that has the recording's letters: no fault is found where the text holds, and one that is found is one
  pub holds : (c : NumberedFormula) → text_expansion text ≡ Done c → tells r ≡ Done NoFault → (g : Gives text c.signals (recorded recording)) → TextMeans text g.word 0
  pub fault : (c : NumberedFormula) → text_expansion text ≡ Done c → (q : Part) (k : ℕ) → tells r ≡ Done (FaultIn q k) → (g : Gives text c.signals (recorded recording)) → Fault text g.word q k

-- The signal list of ports and the numbers of their first signals, or the place of 15.
use Rattle.std.specs.Prelude.{ℕ, List, ◌≡◌, length, Ok, Err}
use Rattle.std.proofs.Math.Option.{none, some}
use Rattle.std.proofs.lemmas.List.Edits.{sets}
use Rattle.language.specs.Tokens.{Token}
use Rattle.language.specs.DeclaredNames.{Port}
use Rattle.language.specs.Numbering.{signal_list, too_many_signals}
use Rattle.ports.specs.Firsts.{numbered_from}
use Rattle.ports.specs.Signals.{Signals}

-- how many signals there are, their entries and first numbers stored; or the place of the name with which there are too many
abbrev pub Says : (Token → ℕ) → List Port → Signals → (firsts list firsts' list' : List ℕ) → Type 0
Says R ps (Ok n) firsts list firsts' list' =
    (too_many_signals 0 ps ≡ none) × ((n ≡ length (signal_list ps)) × ((list' ≡ sets list 0 (signal_list ps)) × (firsts' ≡ numbered_from R 0 ps firsts)))
Says R ps (Err e) firsts list firsts' list' = too_many_signals 0 ps ≡ some e.place

pub record Lists (R : Token → ℕ) (ps : List Port) (r : Signals) (firsts list firsts' list' : List ℕ) : Type 0 where
  pub says : Says R ps r firsts list firsts' list'

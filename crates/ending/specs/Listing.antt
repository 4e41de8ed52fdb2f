-- The signal list that the declarations leave, or that there are too many signals.
use Rattle.std.specs.Prelude.{ℕ, suc, ◌≤◌, List, ◌≡◌, length, take, Ok, Err}
use Rattle.std.proofs.Math.Option.{none, some}
use Rattle.node.specs.Limits.{max_nodes}
use Rattle.language.specs.DeclaredNames.{Declarations}
use Rattle.language.specs.Numbering.{in_order, signal_list, too_many_signals}
use Rattle.ports.specs.Signals.{Signals}

-- where the lines' nodes start: with too many signals behind the last node, so that none is written
abbrev pub start_of : Signals → ℕ
start_of (Ok n) = 0
start_of (Err e) = suc max_nodes

-- the signal list, or the place of 15
abbrev pub Listing : Signals → Declarations → List ℕ → Type 0
Listing (Ok n) d list = (too_many_signals 0 (in_order d) ≡ none) × ((n ≡ length (signal_list (in_order d))) × ((take n list ≡ signal_list (in_order d)) × (n ≤ length list)))
Listing (Err e) d list = too_many_signals 0 (in_order d) ≡ some e.place

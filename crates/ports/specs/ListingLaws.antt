-- The listing from port to port.
use Rattle.std.specs.Prelude.{ℕ, ◌+◌, ◌≤◌, ◌<◌, max, List, [], ◌∷◌, ◌≡◌, refl, leb, length, get_or, set, Ok, Err}
use Rattle.std.proofs.Math.Option.{some}
use Rattle.std.proofs.Common.{sym, ap, ap₂, ◌∙◌, subst, add-one, arith, le-leb}
use Rattle.std.proofs.lemmas.List.Edits.{sets}
use Rattle.std.proofs.lemmas.Bool.{lt-leb}
use Rattle.language.specs.Limits.{max_signals}
use Rattle.language.specs.Tokens.{Token}
use Rattle.language.specs.DeclaredNames.{Port}
use Rattle.language.specs.Numbering.{signals_of, entries, signal_list, too_many_signals}
use Rattle.language.proofs.Laws.Basics.Tests.{pick, leave}
use Rattle.language.specs.Listed.{flag}
use Rattle.language.proofs.Laws.Values.SignalLaws.{list_length, length-entries}
use Rattle.ports.specs.Ports.{PortsFrom, Ported}
use Rattle.ports.specs.Firsts.{numbered_from}
use Rattle.ports.specs.EntryRuns.{run}
use Rattle.ports.specs.EntryRunLaws.{entries-run}
use Rattle.ports.specs.Listing.{Lists}
use Rattle.ports.specs.Signals.{too_many}
use Rattle.basics.specs.Lists.{sets-append}

module _ (R : Token → ℕ) (numbers offsets widths : List ℕ) (ins count : ℕ) (ps : List Port) (firsts₀ list₀ : List ℕ) where
  -- the ports from position j on are still to be listed, from signal number n on
  pub record Going (j n : ℕ) (firsts list : List ℕ) : Type 0 where
    pub left : List Port
    pub ports : PortsFrom R numbers offsets widths ins j left
    pub total : j + length left ≡ count
    pub many : too_many_signals 0 ps ≡ too_many_signals n left
    pub size : length (signal_list ps) ≡ n + length (signal_list left)
    pub stored : sets list₀ 0 (signal_list ps) ≡ sets list n (signal_list left)
    pub numbered : numbered_from R 0 ps firsts₀ ≡ numbered_from R n left firsts

  pub going_starts : Ported R numbers offsets widths ins count ps → Going 0 0 firsts₀ list₀
  going_starts h = record { left = ps; ports = h.ports; total = (let t = h.total in omega arith); many = refl; size = omega arith; stored = refl; numbered = refl }

  -- one port: its number r, its offset and width, its signals m
  module _ (j n m r offset width top : ℕ) (firsts list : List ℕ) (hr : r ≡ get_or numbers j 0) (ho : offset ≡ get_or offsets j 0) (hw : width ≡ get_or widths j 0) (hm : m ≡ max 1 width)
      (inside : j < count) where
    too_many_lem : (left : List Port) → PortsFrom R numbers offsets widths ins j left → j + length left ≡ count → max_signals < n + m → too_many_signals n left ≡ some offset
    too_many_lem [] p t l = absurd (omega arith)
    too_many_lem (q ∷ qs) p t l =
        let w = p.0.width in
        let g : n + signals_of q ≡ n + m = ap (λ i. n + max 1 i) (sym w ∙ sym hw) ∙ ap (λ i. n + i) (sym hm) in
        leave (leb (n + signals_of q) max_signals) _ _ (ap (λ i. leb i max_signals) g ∙ lt-leb (n + m) max_signals l) ∙ ap some (sym p.0.offset ∙ sym ho)

    pub going-over : Going j n firsts list → max_signals < n + m → Lists R ps (Err (too_many offset)) firsts₀ list₀ firsts list
    going-over g l = record { says = g.many ∙ too_many_lem g.left g.ports g.total l }

    pub going_more : top ≡ flag (leb ins j) → n + m ≤ max_signals → Going j n firsts list → Going (j + 1) (n + m) (set firsts r n) (sets list n (run top offset width m 0))
    going_more ht few g = next g.left g.ports g.total g.many g.size g.stored g.numbered
      where
        next : (left : List Port) → PortsFrom R numbers offsets widths ins j left → j + length left ≡ count → too_many_signals 0 ps ≡ too_many_signals n left
            → length (signal_list ps) ≡ n + length (signal_list left) → sets list₀ 0 (signal_list ps) ≡ sets list n (signal_list left) → numbered_from R 0 ps firsts₀ ≡ numbered_from R n left firsts
            → Going (j + 1) (n + m) (set firsts r n) (sets list n (run top offset width m 0))
        next [] p t a b c d = absurd (omega arith)
        next (q ∷ qs) p t a b c d =
            let same : signals_of q ≡ m = ap (max 1) (sym p.0.width ∙ sym hw) ∙ sym hm in
            let e : entries q (signals_of q) 0 ≡ run top offset width m 0 =
            entries-run q (signals_of q) 0 ∙ ap₂ (λ f o. run f o q.width (signals_of q) 0) (ap flag p.0.output ∙ sym ht) (sym p.0.offset ∙ sym ho)
            ∙ ap₂ (λ w k. run top offset w k 0) (sym p.0.width ∙ sym hw) same in
            let k : n + length (entries q (signals_of q) 0) ≡ n + m = omega (arith, length-entries q (signals_of q) 0) in
            record {
              left = qs;
              ports = subst (λ i. PortsFrom R numbers offsets widths ins i qs) (sym (add-one j)) p.1;
              total = omega arith;
              many = a ∙ pick (leb (n + signals_of q) max_signals) _ _ (le-leb (n + signals_of q) max_signals (omega arith)) ∙ ap (λ i. too_many_signals (n + i) qs) same;
              size = omega (arith, list_length q qs);
              stored = c ∙ sets-append list n (entries q (signals_of q) 0) (signal_list qs) ∙ ap₂ (λ l i. sets (sets list n l) i (signal_list qs)) e k;
              numbered = d ∙ ap₂ (λ i s. numbered_from R (n + i) qs (set firsts s n)) same (sym p.0.number ∙ sym hr);
            }

  pub going_all : (j n : ℕ) (firsts list : List ℕ) → count ≤ j → Going j n firsts list → Lists R ps (Ok n) firsts₀ list₀ firsts list
  going_all j n firsts list l g = end g.left g.total g.many g.size g.stored g.numbered
    where
      end : (left : List Port) → j + length left ≡ count → too_many_signals 0 ps ≡ too_many_signals n left → length (signal_list ps) ≡ n + length (signal_list left)
          → sets list₀ 0 (signal_list ps) ≡ sets list n (signal_list left) → numbered_from R 0 ps firsts₀ ≡ numbered_from R n left firsts → Lists R ps (Ok n) firsts₀ list₀ firsts list
      end [] t a b c d = record { says = (a, (omega arith, (sym c, sym d))) }
      end (q ∷ qs) t a b c d = absurd (omega arith)

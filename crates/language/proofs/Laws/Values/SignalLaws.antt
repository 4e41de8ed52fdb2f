-- How signals are numbered: a name's signals stand in the list, entry by entry, from the number on that `first_of` gives; there are at most 255 unless 15 refuses.
use Rattle.std.specs.Prelude.{ℕ, zero, suc, ◌+◌, ◌≤◌, ◌<◌, ◌≡◌, refl, Bool, true, false, List, [], ◌∷◌, leb, length, get_or}
use Rattle.std.proofs.Common.{ap, sym, ◌∙◌, length-append, get_or-append-add, arith, leb-true}
use Rattle.std.proofs.Math.Option.{Option, none, some}
use Rattle.std.proofs.Math.ListN.{get_or-append}
use Rattle.language.specs.Limits.{max_signals}
use Rattle.language.specs.Bytes.{same}
use Rattle.language.specs.DeclaredNames.{Port}
use Rattle.language.specs.Numbering.{signals_of, first_of, entry, entries, signal_list, too_many_signals}
use Rattle.language.proofs.Laws.Basics.Lists.{All}
use Rattle.language.proofs.Laws.Basics.Tests.{pick, leave, same_refl, some_none}
use Rattle.language.proofs.Laws.Values.DistinctNames.{Apart, Distinct}
use Rattle.language.proofs.Laws.Values.PortLaws.{port_names}

-- n entries, the j-th with index i + j
pub length-entries : (p : Port) (n i : ℕ) → length (entries p n i) ≡ n
length-entries p zero i = refl
length-entries p (suc n) i = ap suc (length-entries p n (suc i))

abbrev pub entry_of : Port → ℕ → ℕ
entry_of p i = entry p.output p.name.at i p.width

entries-read : (p : Port) (n i j k : ℕ) → j < n → i + j ≡ k → get_or (entries p n i) j 0 ≡ entry_of p k
entries-read p zero i j k h e = absurd (omega arith)
entries-read p (suc n) i zero k h e = ap (entry_of p) (omega arith)
entries-read p (suc n) i (suc j) k h e = entries-read p n (suc i) j k (omega arith) (omega arith)

-- the signals of a port in the list
pub record PortListed (ps : List Port) (p : Port) : Type 0 where
  pub inside : first_of ps p.name.text + signals_of p ≤ length (signal_list ps)
  pub reads : (i : ℕ) → i < signals_of p → get_or (signal_list ps) (first_of ps p.name.text + i) 0 ≡ entry_of p i

module _ (p : Port) (ps : List Port) where
  abbrev own : List ℕ
  own = entries p (signals_of p) 0

  pub list_length : length (signal_list (p ∷ ps)) ≡ signals_of p + length (signal_list ps)
  list_length = omega (arith, length-append own (signal_list ps), length-entries p (signals_of p) 0)

  pub first_reads : (i : ℕ) → i < signals_of p → get_or (signal_list (p ∷ ps)) i 0 ≡ entry_of p i
  first_reads i h = get_or-append own (signal_list ps) 0 i (omega (arith, length-entries p (signals_of p) 0)) ∙ entries-read p (signals_of p) 0 i i h (omega arith)

  pub later-reads : (i : ℕ) → get_or (signal_list (p ∷ ps)) (signals_of p + i) 0 ≡ get_or (signal_list ps) i 0
  later-reads i = ap (λ (m : ℕ). get_or (signal_list (p ∷ ps)) (m + i) 0) (sym (length-entries p (signals_of p) 0)) ∙ get_or-append-add own (signal_list ps) i 0

  first-listed : PortListed (p ∷ ps) p
  first-listed =
      let zero-first : first_of (p ∷ ps) p.name.text ≡ 0 = pick (same p.name.text p.name.text) _ _ (same_refl p.name.text) in
      record {
        inside = omega (arith, zero-first, list_length);
        reads = λ i h. ap (λ (k : ℕ). get_or (signal_list (p ∷ ps)) k 0) (omega (arith, zero-first)) ∙ first_reads i h;
      }

  later-listed : (q : Port) → Apart p.name q.name → PortListed ps q → PortListed (p ∷ ps) q
  later-listed q a l =
      let k = first_of ps q.name.text in
      let after : first_of (p ∷ ps) q.name.text ≡ signals_of p + k = leave (same p.name.text q.name.text) 0 (signals_of p + k) a in
      record {
        inside = let h = l.inside in omega (arith, after, list_length);
        reads = λ i h. ap (λ (m : ℕ). get_or (signal_list (p ∷ ps)) m 0) (omega (arith, after)) ∙ later-reads (k + i) ∙ l.reads i h;
      }

pub ports_listed : (ps : List Port) → Distinct (port_names ps) → All (PortListed ps) ps
ports_listed [] d = tt
ports_listed (p ∷ ps) d = (first-listed p ps, later ps d.0 (ports_listed ps d.1))
  where
    later : (qs : List Port) → All (Apart p.name) (port_names qs) → All (PortListed ps) qs → All (PortListed (p ∷ ps)) qs
    later [] a l = tt
    later (q ∷ qs) a l = (later-listed p ps q a.0 l.0, later qs a.1 l.1)

-- 15 leaves at most 255 signals
pub signals_few : (m : ℕ) (ps : List Port) → m ≤ max_signals → too_many_signals m ps ≡ none → m + length (signal_list ps) ≤ max_signals
signals_few m [] h e = omega arith
signals_few m (p ∷ ps) h e = go (leb (m + signals_of p) max_signals) (leb-true (m + signals_of p) max_signals) (signals_few (m + signals_of p) ps) e
  where
    go : (b : Bool) → (b ≡ true → m + signals_of p ≤ max_signals) →
        (m + signals_of p ≤ max_signals → too_many_signals (m + signals_of p) ps ≡ none → (m + signals_of p) + length (signal_list ps) ≤ max_signals) →
        ◌≡◌ {A = Option ℕ} (elim b [ true ↦ too_many_signals (m + signals_of p) ps | false ↦ some p.name.at ]) none → m + length (signal_list (p ∷ ps)) ≤ max_signals
    go true l f e = omega (arith, list_length p ps, f (l refl) e)
    go false l f e = absurd (some_none e)

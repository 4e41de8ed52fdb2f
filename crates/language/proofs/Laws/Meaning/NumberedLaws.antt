-- The numbered word at the signals of a name: signal k is present where the declared signal is that entry k of the list names.
use Rattle.std.specs.Prelude.{ℕ, zero, suc, ◌+◌, ◌^◌, ◌≤◌, ◌<◌, ◌≡◌, refl, Bool, List, [], ◌∷◌, eqb, length, get_or}
use Rattle.std.proofs.Common.{ap, ◌∙◌, arith, eq-eqb, ne_eqb}
use Rattle.language.specs.Limits.{max_width, offset_bits, index_bits, width_bits}
use Rattle.language.specs.Bytes.{if◌then◌otherwise◌}
use Rattle.language.specs.DeclaredNames.{Port}
use Rattle.language.specs.Numbering.{signals_of, first_of, signal_list}
use Rattle.language.specs.Meaning.{Atom, SignalOf, BitOf, Word}
use Rattle.language.specs.Numbered.{index_of, offset_of, name_at, atom_of, numbered}
use Rattle.language.proofs.Laws.Basics.Tests.{pick, leave}
use Rattle.language.proofs.Laws.Values.SignalLaws.{entry_of, PortListed}
use Rattle.language.proofs.Laws.Values.EntryLaws.{entry-width, entry-index, entry_offset}
use Rattle.language.proofs.Laws.Meaning.BusPatterns.{SingleAgrees, BusAgrees}

pub numbered-at : (text list : List ℕ) (w : Word) (t k : ℕ) → k < length list → numbered text list w t k ≡ w t (atom_of text (get_or list k 0))
numbered-at text [] w t k h = absurd (omega arith)
numbered-at text (e ∷ es) w t zero h = refl
numbered-at text (e ∷ es) w t (suc k) h = numbered-at text es w t k (omega arith)

-- the signal of a name of this width at an index
abbrev pub atom_at : List ℕ → ℕ → ℕ → Atom
atom_at x width i = if eqb width 0 then SignalOf x otherwise BitOf x i

-- a port whose name stands in the text, and whose fields fit an entry
pub record PortPlaced (text : List ℕ) (p : Port) : Type 0 where
  pub named : name_at text p.name.at ≡ p.name.text
  pub offset : p.name.at < 2 ^ offset_bits
  pub narrow : p.width ≤ max_width

-- a port in the list of all
pub record PortNumbered (text : List ℕ) (ps : List Port) (p : Port) : Type 0 where
  pub listed : PortListed ps p
  pub placed : PortPlaced text p

module _ (text : List ℕ) (p : Port) (h : PortPlaced text p) where
  -- an entry names the signal that it is made for
  pub entry-names : (i : ℕ) → i < signals_of p → atom_of text (entry_of p i) ≡ atom_at p.name.text p.width i
  entry-names i l =
      let offset = h.offset in
      let narrow = h.narrow in
      let index : i < 2 ^ index_bits = omega arith in
      let width : p.width < 2 ^ width_bits = omega arith in
      ap (λ (k : ℕ). atom_at (name_at text (offset_of (entry_of p i))) k (index_of (entry_of p i))) (entry-width p.output offset index width)
      ∙ ap (λ (k : ℕ). atom_at (name_at text (offset_of (entry_of p i))) p.width k) (entry-index p.output offset index width)
      ∙ ap (λ (k : ℕ). atom_at (name_at text k) p.width i) (entry_offset p.output offset index width)
      ∙ ap (λ (x : List ℕ). atom_at x p.width i) h.named

module _ (text : List ℕ) (ps : List Port) (w : Word) where
  abbrev v : ℕ → ℕ → Bool
  v = numbered text (signal_list ps) w

  port_names_lem : (p : Port) → PortNumbered text ps p → (t i : ℕ) → i < signals_of p → v t (first_of ps p.name.text + i) ≡ w t (atom_at p.name.text p.width i)
  port_names_lem p h t i l =
      let inside = h.listed.inside in
      numbered-at text (signal_list ps) w t (first_of ps p.name.text + i) (omega arith)
      ∙ ap (λ (e : ℕ). w t (atom_of text e)) (h.listed.reads i l) ∙ ap (w t) (entry-names text p h.placed i l)

  pub single_numbered : (p : Port) → PortNumbered text ps p → p.width ≡ 0 → SingleAgrees ps w v p.name.text
  single_numbered p h e t = port_names_lem p h t 0 (omega arith) ∙ ap (w t) (pick (eqb p.width 0) (SignalOf p.name.text) (BitOf p.name.text 0) (eq-eqb p.width 0 e))

  pub bus-numbered : (p : Port) → PortNumbered text ps p → BusAgrees ps w v p.name.text p.width
  bus-numbered p h t i l = port_names_lem p h t i (omega arith) ∙ ap (w t) (leave (eqb p.width 0) (SignalOf p.name.text) (BitOf p.name.text i) (ne_eqb p.width 0 (λ e. omega arith)))

-- A node's piece, and a signal's whole text.
use Rattle.std.specs.Prelude.{ℕ, ◌+◌, ◌*◌, ◌-◌, ◌≤◌, ◌≡◌, refl, Bool, true, false, List, ◌++◌, length, get_or, eqb}
use Rattle.std.proofs.Common.{ap, ap₂, ◌∙◌, sym, length-append, arith, eqb-true}
use Rattle.std.proofs.lemmas.Bool.{eqb-false}
use Rattle.node.specs.Kinds.{shape_of, signal_kind}
use Rattle.node.proofs.KindLaws.{by_kind, no_shape}
use Rattle.language.specs.Bytes.{ascii}
use Rattle.signal_names.specs.Runs.{part_length, puts_after}
use Rattle.signal_names.specs.Promise.{slot_bytes, slot, part, Puts}
use Rattle.layout.specs.Layout.{piece, piece_of}
use Rattle.layout.specs.Table.{Writable}

-- of every other kind it is the table's
other_piece : (name : ℕ → List ℕ) (k done a : ℕ) → (k ≡ signal_kind → ⊥) → piece_of name (shape_of k) done a ≡ piece (shape_of k) done
other_piece name k done a =
    by_kind (λ k. (k ≡ signal_kind → ⊥) → piece_of name (shape_of k) done a ≡ piece (shape_of k) done)
    ((((((((((((((tt, λ _. refl), λ _. refl), λ h. absurd (h refl)), λ _. refl), λ _. refl), λ _. refl), λ _. refl), λ _. refl), λ _. refl), λ _. refl), λ _. refl), λ _. refl), λ _. refl), λ _. refl)
    (λ k h _. rw (no_shape h)) k

module _ {names sizes : List ℕ} {kind first done : ℕ} (w : Writable names sizes kind first done) where
  abbrev whole : List ℕ
  whole = piece_of (slot names sizes) (shape_of kind) done first

  module _ (e : kind ≡ signal_kind) where
    lead : length (piece (shape_of kind) done) ≡ 2
    lead = ap₂ (λ (k d : ℕ). length (piece (shape_of k) d)) e (w.start e)

    close : length (piece (shape_of kind) 1) ≡ 3
    close = ap (λ (k : ℕ). length (piece (shape_of k) 1)) e

    pub name-room : get_or sizes first 0 ≤ length names - slot_bytes * first
    name-room = omega (arith, w.small e, w.room e)

    signal-is : whole ≡ ascii "( " ++ (slot names sizes first ++ ascii " ) ")
    signal-is = ap (λ (k : ℕ). piece_of (slot names sizes) (shape_of k) done first) e

    signal-size : length whole ≡ 2 + (get_or sizes first 0 + 3)
    signal-size =
        ap length signal-is ∙ length-append (ascii "( ") (slot names sizes first ++ ascii " ) ")
        ∙ ap (λ (n : ℕ). 2 + n) (length-append (slot names sizes first) (ascii " ) ") ∙ ap (λ (n : ℕ). n + 3) (part_length names (slot_bytes * first) (get_or sizes first 0) name-room))

    -- room after the first piece, and after the name
    module _ (at room : ℕ) {m : ℕ} (fits : at + length whole ≤ room) (next : m ≡ at + length (piece (shape_of kind) done)) where
      pub name-fits : m + get_or sizes first 0 ≤ room
      name-fits = omega (arith, signal-size, lead)

      pub close-fits : {n : ℕ} → n ≡ m + length (part names (slot_bytes * first) (get_or sizes first 0)) → n + length (piece (shape_of kind) 1) ≤ room
      close-fits h = omega (arith, h, signal-size, lead, close, part_length names (slot_bytes * first) (get_or sizes first 0) name-room)

    pub name-puts : {out o1 o2 o3 : List ℕ} {at m n r : ℕ} → Puts (piece (shape_of kind) done) out o1 at m → Puts (part names (slot_bytes * first) (get_or sizes first 0)) o1 o2 m n
        → Puts (piece (shape_of kind) 1) o2 o3 n r → Puts whole out o3 at r
    name-puts p q s =
        let x = slot names sizes first in
        let same : piece (shape_of kind) done ++ (x ++ piece (shape_of kind) 1) ≡ whole =
        ap₂ (λ (k d : ℕ). piece (shape_of k) d ++ (x ++ piece (shape_of k) 1)) e (w.start e) ∙ sym signal-is in
        rw same at (puts_after p (puts_after q s))

  pub piece-fits : (at room : ℕ) → at + length whole ≤ room → at + length (piece (shape_of kind) done) ≤ room
  piece-fits at room h = go (eqb kind signal_kind) refl
    where
      go : (b : Bool) → eqb kind signal_kind ≡ b → at + length (piece (shape_of kind) done) ≤ room
      go true e = let k = eqb-true kind 2 e in omega (arith, lead k, signal-size k)
      go false e = omega (arith, ap length (other_piece (slot names sizes) kind done first (eqb-false kind 2 e)))

  pub piece_puts : {out o1 : List ℕ} {at m : ℕ} → (kind ≡ signal_kind → ⊥) → Puts (piece (shape_of kind) done) out o1 at m → Puts whole out o1 at m
  piece_puts e p = rw (other_piece (slot names sizes) kind done first e) p

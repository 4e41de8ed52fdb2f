-- No two entries of a signal list name the same signal; so every numbered word comes from a word over the declared signals.
use Rattle.std.specs.Prelude.{ℕ, zero, suc, ◌+◌, ◌-◌, max, ◌≤◌, ◌<◌, ◌≡◌, refl, Bool, true, false, ◌&&◌, List, [], ◌∷◌, eqb, ltb, length, get_or}
use Rattle.std.proofs.Common.{ap, ap₂, sym, ◌∙◌, arith, eqb-true, eq-eqb, ltb-true, ltb-false}
use Rattle.std.proofs.lemmas.Bool.{false≢true}
use Rattle.node.specs.Operators.{Word as NodeWord}
use Rattle.language.specs.Bytes.{if◌then◌otherwise◌, same}
use Rattle.language.specs.DeclaredNames.{Port}
use Rattle.language.specs.Numbering.{signals_of, first_of, signal_list}
use Rattle.language.specs.Meaning.{Atom, SignalOf, BitOf, Word}
use Rattle.language.specs.Numbered.{atom_of, numbered}
use Rattle.language.specs.Listed.{Once}
use Rattle.language.proofs.Laws.Basics.Lists.{All}
use Rattle.language.proofs.Laws.Basics.Tests.{pick, leave, and_left, and_right, same_equal, same_refl}
use Rattle.language.proofs.Laws.Values.DistinctNames.{Apart, Distinct}
use Rattle.language.proofs.Laws.Values.PortLaws.{port_names}
use Rattle.language.proofs.Laws.Values.SignalLaws.{list_length}
use Rattle.language.proofs.Laws.Meaning.NumberedLaws.{numbered-at, atom_at, PortNumbered, entry-names}

-- signal k is one of a port of which L holds
pub record Located (L : Port → Type 0) (ps : List Port) (k : ℕ) : Type 0 where
  pub port : Port
  pub holds : L port
  pub index : ℕ
  pub small : index < signals_of port
  pub place : k ≡ first_of ps port.name.text + index

pub locate : (ps : List Port) (L : Port → Type 0) → Distinct (port_names ps) → All L ps → (k : ℕ) → k < length (signal_list ps) → Located L ps k
locate [] L d h k l = absurd (omega arith)
locate (p ∷ ps) L d h k l = go (ltb k (signals_of p)) (ltb-true k (signals_of p)) (ltb-false k (signals_of p))
    (λ m. locate ps (λ q. L q × Apart p.name q.name) d.1 (both ps d.0 h.1) (k - signals_of p) m)
  where
    both : (qs : List Port) → All (Apart p.name) (port_names qs) → All L qs → All (λ q. L q × Apart p.name q.name) qs
    both [] a h = tt
    both (q ∷ qs) a h = ((h.0, a.0), both qs a.1 h.1)

    go : (b : Bool) → (b ≡ true → k < signals_of p) → (b ≡ false → signals_of p ≤ k) → (k - signals_of p < length (signal_list ps) → Located (λ q. L q × Apart p.name q.name) ps (k - signals_of p))
        → Located L (p ∷ ps) k
    go true f g r =
        let first : first_of (p ∷ ps) p.name.text ≡ 0 = pick (same p.name.text p.name.text) 0 _ (same_refl p.name.text) in
        record { port = p; holds = h.0; index = k; small = f refl; place = omega (arith, first) }
    go false f g r =
        let past = g refl in
        let q = r (omega (arith, list_length p ps)) in
        let at = q.place in
        let after : first_of (p ∷ ps) q.port.name.text ≡ signals_of p + first_of ps q.port.name.text = leave (same p.name.text q.port.name.text) 0 _ q.holds.1 in
        record { port = q.port; holds = q.holds.0; index = q.index; small = q.small; place = omega arith }

-- the signal that an entry names tells name and index
signal-bit : {x y : List ℕ} {j : ℕ} → SignalOf x ≡ BitOf y j → ⊥
signal-bit e = let z : ◌≡◌ {A = ℕ} 0 1 = cc in omega arith

record Alike (x y : List ℕ) (i j : ℕ) : Type 0 where
  name : x ≡ y
  index : i ≡ j

atoms_alike : (x y : List ℕ) (a b i j : ℕ) → i < max 1 a → j < max 1 b → atom_at x a i ≡ atom_at y b j → Alike x y i j
atoms_alike x y a b i j hi hj = go (eqb a 0) (eqb b 0) (eqb-true a 0) (eqb-true b 0)
  where
    go : (p q : Bool) → (p ≡ true → a ≡ 0) → (q ≡ true → b ≡ 0) → (if p then SignalOf x otherwise BitOf x i) ≡ (if q then SignalOf y otherwise BitOf y j) → Alike x y i j
    go true true f g e = record { name = cc; index = let za = f refl in let zb = g refl in omega arith }
    go true false f g e = absurd (signal-bit e)
    go false true f g e = absurd (signal-bit (sym e))
    go false false f g e = record { name = cc; index = cc }

module _ (text : List ℕ) (ps : List Port) (d : Distinct (port_names ps)) (h : All (PortNumbered text ps) ps) where
  abbrev Here : ℕ → Type 0
  Here k = Located (PortNumbered text ps) ps k

  named-at : (k : ℕ) (l : Here k) → atom_of text (get_or (signal_list ps) k 0) ≡ atom_at l.port.name.text l.port.width l.index
  named-at k l =
      ap (λ (n : ℕ). atom_of text (get_or (signal_list ps) n 0)) l.place ∙ ap (atom_of text) (l.holds.listed.reads l.index l.small) ∙ entry-names text l.port l.holds.placed l.index
      l.small

  pub names-once : Once text (signal_list ps)
  names-once k j hk hj e =
      let a = locate ps (PortNumbered text ps) d h k hk in
      let b = locate ps (PortNumbered text ps) d h j hj in
      let same = atoms_alike a.port.name.text b.port.name.text a.port.width b.port.width a.index b.index a.small b.small (sym (named-at k a) ∙ e ∙ named-at j b) in
      let first : first_of ps a.port.name.text ≡ first_of ps b.port.name.text = ap (first_of ps) same.name in
      omega (arith, a.place, b.place, same.index)

-- are two signals the same?
abbrev same_atom : Atom → Atom → Bool
same_atom (SignalOf x) (SignalOf y) = same x y
same_atom (SignalOf x) (BitOf y j) = false
same_atom (BitOf x i) (SignalOf y) = false
same_atom (BitOf x i) (BitOf y j) = same x y && eqb i j

atom_refl : (a : Atom) → same_atom a a ≡ true
atom_refl (SignalOf x) = same_refl x
atom_refl (BitOf x i) = ap₂ ◌&&◌ (same_refl x) (eq-eqb i i refl)

atom_equal : (a b : Atom) → same_atom a b ≡ true → a ≡ b
atom_equal (SignalOf x) (SignalOf y) e = ap SignalOf (same_equal x y e)
atom_equal (SignalOf x) (BitOf y j) e = absurd (false≢true e)
atom_equal (BitOf x i) (SignalOf y) e = absurd (false≢true e)
atom_equal (BitOf x i) (BitOf y j) e = ap₂ BitOf (same_equal x y (and_left (same x y) (eqb i j) e)) (eqb-true i j (and_right (same x y) (eqb i j) e))

-- the word over the declared signals that a numbered word comes from: a signal is present where the number is whose entry names it
abbrev pub unnumbered : List ℕ → List ℕ → NodeWord → Word
unnumbered text [] u t a = false
unnumbered text (e ∷ es) u t a = elim (same_atom (atom_of text e) a) [ true ↦ u t 0 | false ↦ unnumbered text es (λ s k. u s (suc k)) t a ]

back_at : (text list : List ℕ) → Once text list → (u : NodeWord) (t k : ℕ) → k < length list → unnumbered text list u t (atom_of text (get_or list k 0)) ≡ u t k
back_at text [] o u t k h = absurd (omega arith)
back_at text (e ∷ es) o u t zero h = pick (same_atom (atom_of text e) (atom_of text e)) _ _ (atom_refl (atom_of text e))
back_at text (e ∷ es) o u t (suc k) h =
    let a = atom_of text (get_or es k 0) in
    leave (same_atom (atom_of text e) a) _ _ (other (same_atom (atom_of text e) a) refl)
    ∙ back_at text es (λ i j hi hj q. let s = o (suc i) (suc j) (omega arith) (omega arith) q in omega arith) (λ s n. u s (suc n)) t k (omega arith)
  where
    other : (b : Bool) → same_atom (atom_of text e) (atom_of text (get_or es k 0)) ≡ b → b ≡ false
    other true q = absurd (let z = o 0 (suc k) (omega arith) h (atom_equal _ _ q) in omega arith)
    other false q = refl

-- every numbered word over the list's numbers comes from a word over the declared signals
pub numbered-back : (text list : List ℕ) → Once text list → (u : NodeWord) (t k : ℕ) → k < length list → numbered text list (unnumbered text list u) t k ≡ u t k
numbered-back text list o u t k h = numbered-at text list (unnumbered text list u) t k h ∙ back_at text list o u t k h

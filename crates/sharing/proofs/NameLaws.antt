-- Each node of a table that was written is a subformula's: the formula that is found there.
use Rattle.std.specs.Prelude.{ℕ, ◌<◌, ◌≡◌, List, [], ◌∷◌, ◌++◌, length}
use Rattle.std.proofs.Common.{subst, length-append, arith}
use Rattle.std.proofs.Math.Decide.{dec_lt}
use Rattle.node.specs.Ltl.{Formula, True, False, Signal, One, Two}
use Rattle.node.specs.Fields.{pack}
use Rattle.node.specs.Kinds.{unary_kind, binary_kind, true_kind, false_kind, signal_kind}
use Rattle.sharing.specs.Sharing.{position, having, write}
use Rattle.sharing.proofs.PlaceLaws.{Placing, stood, added, placing}
use Rattle.sharing.proofs.WriteLaws.{Grows, having-grows, write-grows}
use Rattle.sharing.proofs.StandsLaws.{Found, found-grows, found-written}
use Rattle.sharing.specs.Subformulas.{Everywhere}
use Rattle.sharing.proofs.SubformulaLaws.{everywhere_map}

-- a formula of the kind P is node i
pub record Name (P : Formula → Type 0) (t : List ℕ) (i : ℕ) : Type 0 where
  pub formula : Formula
  pub such : P formula
  pub found : Found t formula i

-- each node is such a formula's
abbrev pub Named : (Formula → Type 0) → List ℕ → Type 0
Named P t = (i : ℕ) → i < length t → Name P t i

pub named_none : (P : Formula → Type 0) → Named P []
named_none P i h = absurd (omega arith)

module _ (P : Formula → Type 0) where
  name-grows : {t u : List ℕ} {i : ℕ} → Grows t u → Name P t i → Name P u i
  name-grows {t} {u} {i} g n = record { formula = n.formula; such = n.such; found = found-grows n.formula i g n.found }

  named-having : (t : List ℕ) (w : ℕ) (g : Formula) → P g → Found (having t w) g (position t w) → Named P t → Named P (having t w)
  named-having t w g p f n i h = go (placing t w) (dec_lt i (length t))
    where
      go : Placing t w → Dec (i < length t) → Name P (having t w) i
      go s (yes l) = name-grows (having-grows t w) (n i l)
      go (stood a e) (no l) = absurd (l (subst (λ (x : List ℕ). i < length x) e h))
      go (added a e) (no l) =
          let k : i < length (t ++ (w ∷ [])) = subst (λ (x : List ℕ). i < length x) e h in
          let q = length-append t (w ∷ []) in
          let at : position t w ≡ i = omega arith in
          record { formula = g; such = p; found = subst (λ (v : ℕ). Found (having t w) g v) at f }

  pub named-write : (t : List ℕ) (f : Formula) → Everywhere P f → Named P t → Named P (write t f).table
  unfolding Everywhere write
  named-write t True h n = named-having t (pack true_kind 0 0) True h (found-written t True) n
  named-write t False h n = named-having t (pack false_kind 0 0) False h (found-written t False) n
  named-write t (Signal k) h n = named-having t (pack signal_kind k 0) (Signal k) h (found-written t (Signal k)) n
  named-write t (One o a) h n =
      let x = write t a in
      named-having x.table (pack (unary_kind o) x.number 0) (One o a) h.1 (found-written t (One o a)) (named-write t a h.0 n)
  named-write t (Two o a b) h n =
      let x = write t a in
      let y = write x.table b in
      named-having y.table (pack (binary_kind o) x.number y.number) (Two o a b) h.2 (found-written t (Two o a b))
      (named-write x.table b h.1 (named-write t a h.0 n))

-- the other way round: each subformula is found in what was written
abbrev pub Somewhere : List ℕ → Formula → Type 0
Somewhere t g = (v : ℕ) × Found t g v

somewhere_grows : {t u : List ℕ} → Grows t u → (f : Formula) → Everywhere (Somewhere t) f → Everywhere (Somewhere u) f
somewhere_grows {t} {u} g f h = everywhere_map (Somewhere t) (Somewhere u) (λ x s. (s.0, found-grows x s.0 g s.1)) f h

pub written_somewhere : (t : List ℕ) (f : Formula) → Everywhere (Somewhere (write t f).table) f
unfolding Everywhere write
written_somewhere t True = (position t (pack true_kind 0 0), found-written t True)
written_somewhere t False = (position t (pack false_kind 0 0), found-written t False)
written_somewhere t (Signal k) = (position t (pack signal_kind k 0), found-written t (Signal k))
written_somewhere t (One o a) =
    let x = write t a in
    let w : ℕ = pack (unary_kind o) x.number 0 in
    (somewhere_grows (having-grows x.table w) a (written_somewhere t a), (position x.table w, found-written t (One o a)))
written_somewhere t (Two o a b) =
    let x = write t a in
    let y = write x.table b in
    let w : ℕ = pack (binary_kind o) x.number y.number in
    let g = having-grows y.table w in (
      somewhere_grows g a (somewhere_grows (write-grows x.table b) a (written_somewhere t a)),
      somewhere_grows g b (written_somewhere x.table b),
      (position y.table w, found-written t (Two o a b)),
    )

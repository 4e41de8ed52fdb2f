-- The trees of a formula's nodes are its subformulas, 'each .. once, at its first place in postorder' (document 02, F-10).
use Rattle.std.specs.Prelude.{ℕ, ◌<◌, ◌≤◌, ◌≡◌, refl, Bool, length}
use Rattle.std.proofs.Common.{ap, ◌∙◌, sym, subst, arith}
use mathlib.Core.List.{List, [], ◌∷◌, ◌++◌}
use Rattle.std.proofs.Math.Bool.{true, false}
use Rattle.std.proofs.lemmas.List.{get_or_at}
use Rattle.node.specs.Limits.{field_limit}
use Rattle.node.specs.Ltl.{Formula, True, False, Signal, One, Two}
use Rattle.node.specs.Fields.{pack}
use Rattle.node.specs.Kinds.{unary_kind, binary_kind, true_kind, false_kind, signal_kind}
use Rattle.node.specs.Table.{among, formula_of, formulas, tree_at}
use Rattle.node.specs.Postorder.{SignalsBelow}
use Rattle.sharing.specs.Sharing.{position, having, write, distinct_nodes, distinct_count}
use Rattle.sharing.proofs.PlaceLaws.{Placing, stood, added, placing}
use Rattle.sharing.proofs.WriteLaws.{having-grows, write-grows, grows-length}
use Rattle.sharing.proofs.StandsLaws.{Found, found-grows, found-same, found-written}
use Rattle.sharing.specs.Subformulas.{postorder}
use Rattle.sharing.proofs.SubformulaLaws.{everywhere_all}
use Rattle.sharing.proofs.TreeLaws.{found-tree}
use Rattle.sharing.proofs.SoundLaws.{Sound, sound_none, sound-write, sound-found}
use Rattle.sharing.proofs.FormulasLaws.{formulas-append, formulas-length}
use Rattle.sharing.proofs.Once.{occurs, further, once}
use Rattle.sharing.proofs.SameLaws.{occurs-at, at-occurs}

-- one formula more: nothing if it has come before, else it goes behind
further_stood : (gs : List Formula) (f : Formula) → occurs gs f ≡ true → further gs (f ∷ []) ≡ gs
unfolding further
further_stood gs f e = ap (λ (b : Bool). elim b [ true ↦ gs | false ↦ gs ++ (f ∷ []) ]) e

further_new : (gs : List Formula) (f : Formula) → occurs gs f ≡ false → further gs (f ∷ []) ≡ gs ++ (f ∷ [])
unfolding further
further_new gs f e = ap (λ (b : Bool). elim b [ true ↦ gs | false ↦ gs ++ (f ∷ []) ]) e

-- one list behind the other
further-append : (gs fs hs : List Formula) → further gs (fs ++ hs) ≡ further (further gs fs) hs
unfolding further
further-append gs [] hs = refl
further-append gs (f ∷ fs) hs = go (occurs gs f) (further-append gs fs hs) (further-append (gs ++ (f ∷ [])) fs hs)
  where
    go : (b : Bool) → further gs (fs ++ hs) ≡ further (further gs fs) hs → further (gs ++ (f ∷ [])) (fs ++ hs) ≡ further (further (gs ++ (f ∷ [])) fs) hs
        → elim b [ true ↦ further gs (fs ++ hs) | false ↦ further (gs ++ (f ∷ [])) (fs ++ hs) ]
        ≡ further (elim b [ true ↦ further gs fs | false ↦ further (gs ++ (f ∷ [])) fs ]) hs
    go true l r = l
    go false l r = r

-- a table of any formulas
abbrev Any : Formula → Type 0
Any g = Unit {0}

-- one node more, of the formula g
module _ (t : List ℕ) (w : ℕ) (g : Formula) (m : Sound Any t) (n : Sound Any (having t w)) (s : SignalsBelow field_limit g) (f : Found (having t w) g (position t w)) where
  tree_new : tree_at (having t w) (position t w) ≡ g
  tree_new = found-tree field_limit (having t w) n.fit n.few g (position t w) s f

  -- a formula that stood has its number
  number_old : (i : ℕ) → i < length t → tree_at t i ≡ g → i ≡ position t w
  number_old i h e =
      found-same (having t w) g i (position t w)
      (found-grows g i (having-grows t w) (subst (λ (x : Formula). Found t x i) e (sound-found Any t m i h))) f

  occurs_new : position t w ≡ length t → (b : Bool) → occurs (formulas [] t) g ≡ b → occurs (formulas [] t) g ≡ false
  unfolding tree_at
  occurs_new p true e =
      let l = formulas-length [] t in
      let r = occurs-at (formulas [] t) g e in
      let i = r.1 in
      absurd (let q = number_old r.0 (omega arith) r.2 in omega arith)
  occurs_new p false e = e

  formulas-having : formulas [] (having t w) ≡ further (formulas [] t) (g ∷ [])
  unfolding tree_at formulas
  formulas-having = go (placing t w)
    where
      fs : List Formula
      fs = formulas [] t

      l : length fs ≡ length t
      l = formulas-length [] t ∙ omega arith

      go : Placing t w → formulas [] (having t w) ≡ further (formulas [] t) (g ∷ [])
      go (stood h e) =
          let k : among fs (position t w) ≡ g = subst (λ (x : List ℕ). among (formulas [] x) (position t w) ≡ g) e tree_new in
          ap (formulas []) e ∙ sym (further_stood fs g (at-occurs fs g (position t w) (omega (arith, l)) k))
      go (added p e) =
          let all : formulas [] (having t w) ≡ fs ++ (formula_of fs w ∷ []) = ap (formulas []) e ∙ formulas-append [] t (w ∷ []) in
          let new : formula_of fs w ≡ g =
          sym (get_or_at fs (formula_of fs w) [] True (position t w) (l ∙ sym p)) ∙ ap (λ (x : List Formula). among x (position t w)) (sym all) ∙ tree_new in
          all ∙ ap (λ (x : Formula). fs ++ (x ∷ [])) new ∙ sym (further_new fs g (occurs_new p (occurs fs g) refl))

sound_any : (t : List ℕ) (f : Formula) → SignalsBelow field_limit f → length (write t f).table ≤ field_limit → Sound Any t → Sound Any (write t f).table
sound_any t f s h m = sound-write Any t f (everywhere_all Any (λ g. tt) f) s h m

-- what is written adds the trees of the postorder that have not come before
formulas-write : (t : List ℕ) (f : Formula) → Sound Any t → SignalsBelow field_limit f → length (write t f).table ≤ field_limit
    → formulas [] (write t f).table ≡ further (formulas [] t) (postorder f)
unfolding write postorder SignalsBelow
formulas-write t True m s h = formulas-having t (pack true_kind 0 0) True m (sound_any t True s h m) s (found-written t True)
formulas-write t False m s h = formulas-having t (pack false_kind 0 0) False m (sound_any t False s h m) s (found-written t False)
formulas-write t (Signal k) m s h = formulas-having t (pack signal_kind k 0) (Signal k) m (sound_any t (Signal k) s h m) s (found-written t (Signal k))
formulas-write t (One o a) m s h =
    let x = write t a in
    let w : ℕ = pack (unary_kind o) x.number 0 in
    let l = grows-length (having-grows x.table w) in
    let fs : List Formula = formulas [] t in
    formulas-having x.table w (One o a) (sound_any t a s (omega arith) m) (sound_any t (One o a) s h m) s (found-written t (One o a))
    ∙ ap (λ (gs : List Formula). further gs (One o a ∷ [])) (formulas-write t a m s (omega arith))
    ∙ sym (further-append fs (postorder a) (One o a ∷ []))
formulas-write t (Two o a b) m s h =
    let x = write t a in
    let y = write x.table b in
    let w : ℕ = pack (binary_kind o) x.number y.number in
    let l = grows-length (having-grows y.table w) in
    let k = grows-length (write-grows x.table b) in
    let fs : List Formula = formulas [] t in
    let p = sound_any t a s.0 (omega arith) m in
    formulas-having y.table w (Two o a b) (sound_any x.table b s.1 (omega arith) p) (sound_any t (Two o a b) s h m) s (found-written t (Two o a b))
    ∙ ap (λ (gs : List Formula). further gs (Two o a b ∷ [])) (formulas-write x.table b p s.1 (omega arith))
    ∙ sym (further-append (formulas [] x.table) (postorder b) (Two o a b ∷ []))
    ∙ ap (λ (gs : List Formula). further gs (postorder b ++ (Two o a b ∷ []))) (formulas-write t a m s.0 (omega arith))
    ∙ sym (further-append fs (postorder a) (postorder b ++ (Two o a b ∷ [])))

-- 'each distinct subformula once, at its first place in postorder'
pub first-places : (f : Formula) → SignalsBelow field_limit f → distinct_count f ≤ field_limit → formulas [] (distinct_nodes f) ≡ once (postorder f)
unfolding distinct_nodes distinct_count formulas
first-places f s h = formulas-write [] f (sound_none Any) s h

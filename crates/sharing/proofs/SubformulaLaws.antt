-- Laws of a formula's subformulas: what holds of each, how large they are, their signals, and that they are the members of the postorder.
use Rattle.std.specs.Prelude.{ℕ, ◌≤◌, ◌⊎◌}
use Rattle.std.proofs.Common.{sym, subst, inl, inr, arith}
use mathlib.Core.List.Memᴰ
use mathlib.Core.List.{List, [], ◌∷◌, ◌++◌, Memᴰ}
use Rattle.node.specs.Ltl.{Formula, True, False, Signal, One, Two}
use Rattle.node.specs.Postorder.{size, SignalsBelow}
use Rattle.sharing.specs.Subformulas.{postorder, Everywhere}

module _ (P Q : Formula → Type 0) where
  pub everywhere_map : ((g : Formula) → P g → Q g) → (f : Formula) → Everywhere P f → Everywhere Q f
  unfolding Everywhere
  everywhere_map m True h = m True h
  everywhere_map m False h = m False h
  everywhere_map m (Signal k) h = m (Signal k) h
  everywhere_map m (One o a) h = (everywhere_map m a h.0, m (One o a) h.1)
  everywhere_map m (Two o a b) h = (everywhere_map m a h.0, everywhere_map m b h.1, m (Two o a b) h.2)

  pub everywhere_both : (f : Formula) → Everywhere P f → Everywhere Q f → Everywhere (λ g. P g × Q g) f
  unfolding Everywhere
  everywhere_both True h k = (h, k)
  everywhere_both False h k = (h, k)
  everywhere_both (Signal n) h k = (h, k)
  everywhere_both (One o a) h k = (everywhere_both a h.0 k.0, (h.1, k.1))
  everywhere_both (Two o a b) h k = (everywhere_both a h.0 k.0, everywhere_both b h.1 k.1, (h.2, k.2))

pub everywhere_all : (P : Formula → Type 0) → ((g : Formula) → P g) → (f : Formula) → Everywhere P f
unfolding Everywhere
everywhere_all P h True = h True
everywhere_all P h False = h False
everywhere_all P h (Signal k) = h (Signal k)
everywhere_all P h (One o a) = (everywhere_all P h a, h (One o a))
everywhere_all P h (Two o a b) = (everywhere_all P h a, everywhere_all P h b, h (Two o a b))

-- a subformula's subformulas are the formula's
pub everywhere_inner : (P : Formula → Type 0) (f : Formula) → Everywhere P f → Everywhere (Everywhere P) f
unfolding Everywhere
everywhere_inner P True h = h
everywhere_inner P False h = h
everywhere_inner P (Signal k) h = h
everywhere_inner P (One o a) h = (everywhere_inner P a h.0, h)
everywhere_inner P (Two o a b) h = (everywhere_inner P a h.0, everywhere_inner P b h.1, h)

-- no subformula is larger
pub everywhere_size : (n : ℕ) (f : Formula) → size f ≤ n → Everywhere (λ g. size g ≤ n) f
unfolding Everywhere size
everywhere_size n True h = h
everywhere_size n False h = h
everywhere_size n (Signal k) h = h
everywhere_size n (One o a) h = (everywhere_size n a (omega arith), h)
everywhere_size n (Two o a b) h = (everywhere_size n a (omega arith), everywhere_size n b (omega arith), h)

-- none has a larger signal number
pub everywhere_signals : (limit : ℕ) (f : Formula) → SignalsBelow limit f → Everywhere (SignalsBelow limit) f
unfolding Everywhere SignalsBelow
everywhere_signals limit True s = s
everywhere_signals limit False s = s
everywhere_signals limit (Signal k) s = s
everywhere_signals limit (One o a) s = (everywhere_signals limit a s, s)
everywhere_signals limit (Two o a b) s = (everywhere_signals limit a s.0, everywhere_signals limit b s.1, s)

-- the formula is one of them
pub everywhere_self : (P : Formula → Type 0) (f : Formula) → Everywhere P f → P f
unfolding Everywhere
everywhere_self P True h = h
everywhere_self P False h = h
everywhere_self P (Signal k) h = h
everywhere_self P (One o a) h = h.1
everywhere_self P (Two o a b) h = h.2

-- the members of the postorder are the subformulas
module _ (P : Formula → Type 0) (g : Formula) where
  alone : (f : Formula) → P f → Memᴰ g (f ∷ []) → P g
  alone f h m = subst P (sym (Memᴰ.eq_of_singleton m)) h

  either : (s t : List Formula) → (Memᴰ g s → P g) → (Memᴰ g t → P g) → Memᴰ g (s ++ t) → P g
  either s t l r m = go (Memᴰ.append_cases s m)
    where
      go : Memᴰ g s ⊎ Memᴰ g t → P g
      go (inl h) = l h
      go (inr h) = r h

  pub everywhere_member : (f : Formula) → Everywhere P f → Memᴰ g (postorder f) → P g
  unfolding Everywhere postorder
  everywhere_member True h m = alone True h m
  everywhere_member False h m = alone False h m
  everywhere_member (Signal k) h m = alone (Signal k) h m
  everywhere_member (One o a) h m = either (postorder a) (One o a ∷ []) (everywhere_member a h.0) (alone (One o a) h.1) m
  everywhere_member (Two o a b) h m =
      either (postorder a) (postorder b ++ (Two o a b ∷ [])) (everywhere_member a h.0)
      (either (postorder b) (Two o a b ∷ []) (everywhere_member b h.1) (alone (Two o a b) h.2)) m

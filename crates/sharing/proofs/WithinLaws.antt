-- Which formulas are subformulas of another: itself, those of its operands, and theirs.
use mathlib.Core.List.Memᴰ
use mathlib.Core.List.{[], ◌∷◌, ◌++◌, Memᴰ}
use Rattle.std.specs.Prelude.{refl}
use Rattle.node.specs.Ltl.{Unary, Binary, Formula, True, False, Signal, One, Two}
use Rattle.sharing.specs.Subformulas.{postorder, Everywhere}
use Rattle.sharing.proofs.SubformulaLaws.{everywhere_map, everywhere_inner, everywhere_member}

-- g is a subformula of f
abbrev pub Within : Formula → Formula → Type 0
Within f g = Memᴰ g (postorder f)

pub within_self : (f : Formula) → Within f f
unfolding postorder
within_self True = Memᴰ.head refl
within_self False = Memᴰ.head refl
within_self (Signal k) = Memᴰ.head refl
within_self (One o a) = Memᴰ.append_right (postorder a) (Memᴰ.head refl)
within_self (Two o a b) = Memᴰ.append_right (postorder a) (Memᴰ.append_right (postorder b) (Memᴰ.head refl))

pub within-one : (o : Unary) (a : Formula) {g : Formula} → Within a g → Within (One o a) g
unfolding postorder
within-one o a h = Memᴰ.append_left (One o a ∷ []) h

pub within-left : (o : Binary) (a b : Formula) {g : Formula} → Within a g → Within (Two o a b) g
unfolding postorder
within-left o a b h = Memᴰ.append_left (postorder b ++ (Two o a b ∷ [])) h

pub within-right : (o : Binary) (a b : Formula) {g : Formula} → Within b g → Within (Two o a b) g
unfolding postorder
within-right o a b h = Memᴰ.append_right (postorder a) (Memᴰ.append_left (Two o a b ∷ []) h)

own : (f : Formula) → Everywhere (Within f) f
unfolding Everywhere
own True = within_self True
own False = within_self False
own (Signal k) = within_self (Signal k)
own (One o a) = (everywhere_map (Within a) (Within (One o a)) (λ g h. within-one o a h) a (own a), within_self (One o a))
own (Two o a b) = (
  everywhere_map (Within a) (Within (Two o a b)) (λ g h. within-left o a b h) a (own a),
  everywhere_map (Within b) (Within (Two o a b)) (λ g h. within-right o a b h) b (own b),
  within_self (Two o a b),
)

-- a subformula's subformulas are the formula's
pub within_all : (f : Formula) {g : Formula} → Within f g → Everywhere (Within f) g
within_all f {g} h = everywhere_member (Everywhere (Within f)) g f (everywhere_inner (Within f) f (own f)) h

pub within_then : (f : Formula) {g h : Formula} → Within f g → Within g h → Within f h
within_then f {g} {h} m n = everywhere_member (Within f) h g (within_all f m) n

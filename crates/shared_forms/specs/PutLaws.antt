-- A word that is put into an array where it writes a formula: afterwards the formula stands, or the array has no room for the formula's distinct subformulas.
use Rattle.std.specs.Prelude.{ℕ, ◌+◌, ◌-◌, ◌≤◌, ◌<◌, ◌≡◌, length}
use Rattle.std.proofs.Common.{ap, ◌∙◌, sym, subst, length-append, arith}
use mathlib.Core.List.{List, [], ◌∷◌, Memᴰ}
use Rattle.node.specs.Limits.{max_nodes, field_limit}
use Rattle.node.specs.Ltl.{Formula}
use Rattle.node.specs.Postorder.{SignalsBelow}
use Rattle.sharing.specs.Sharing.{Placed, position, having, place, write, distinct_count}
use Rattle.sharing.proofs.PlaceLaws.{having_new, having-most}
use Rattle.sharing.proofs.WriteLaws.{Grows, write-grows}
use Rattle.sharing.proofs.StandsLaws.{Found, found-written}
use Rattle.sharing.specs.Subformulas.{postorder, Everywhere}
use Rattle.sharing.proofs.SubformulaLaws.{everywhere_signals, everywhere_self, everywhere_member}
use Rattle.sharing.proofs.SoundLaws.{Sound, sound-write}
use Rattle.sharing.proofs.CountLaws.{most-named}
use Rattle.shared_table.specs.Shared.{capacity, Shares, Puts}
use Rattle.shared_table.specs.SharedLaws.{shares_few}

-- a table of subformulas of f has no more nodes than f has distinct ones
pub sound-most : (f : Formula) {t : List ℕ} → SignalsBelow field_limit f → Sound (λ h. Memᴰ h (postorder f)) t → length t ≤ distinct_count f
sound-most f {t} s m = most-named f t s (λ i k. let n = m.named i k in record { formula = n.formula; such = n.such.0; found = n.found }) m.few

-- the array holds a longer table, in which the formula stands with number r - 1
pub record Written (f g : Formula) (t out' : List ℕ) (r : ℕ) : Type 0 where
  pub table : List ℕ
  pub grows : Grows t table
  pub shares : Shares out' table
  pub sound : Sound (λ h. Memᴰ h (postorder f)) table
  pub some : 1 ≤ r
  pub found : Found table g (r - 1)

module _ (f g : Formula) {out out' t : List ℕ} {w r : ℕ} (puts : Puts out out' w r) (shares : Shares out t) (sound : Sound (λ h. Memᴰ h (postorder f)) t)
    (writes : write t g ≡ place t w) (each : Everywhere (λ h. Memᴰ h (postorder f)) g) (signals : SignalsBelow field_limit f) where
  table_is : (write t g).table ≡ having t w
  table_is = ap (λ (x : Placed). x.table) writes

  number_is : (write t g).number ≡ position t w
  number_is = ap (λ (x : Placed). x.number) writes

  few : length (write t g).table ≤ field_limit
  few = rw table_is (let h = having-most t w in let l = shares_few shares in omega arith)

  part-signals : SignalsBelow field_limit g
  part-signals =
      everywhere_member (SignalsBelow field_limit) g f (everywhere_signals field_limit f signals) (everywhere_self (λ h. Memᴰ h (postorder f)) g each)

  written-sound : Sound (λ h. Memᴰ h (postorder f)) (write t g).table
  written-sound = sound-write (λ h. Memᴰ h (postorder f)) t g each part-signals few sound

  pub put-done : r ≤ max_nodes → Written f g t out' r
  put-done h =
      let d = puts.done h t shares in
      let n = d.number in
      let e = number_is in
      let v : (write t g).number ≡ r - 1 = omega arith in
      record {
        table = (write t g).table;
        grows = write-grows t g;
        shares = subst (Shares out') (sym table_is) d.shares;
        sound = written-sound;
        some = omega arith;
        found = subst (λ (i : ℕ). Found (write t g).table g i) v (found-written t g);
      }

  pub put_refused : max_nodes < r → capacity (length out) < distinct_count f
  put_refused h =
      let d = puts.refused h t shares in
      let a = d.absent in
      let c = d.full in
      let l : length (write t g).table ≡ length t + 1 = ap length (table_is ∙ having_new t w (omega arith)) ∙ length-append t (w ∷ []) in
      let m = sound-most f signals written-sound in
      omega arith

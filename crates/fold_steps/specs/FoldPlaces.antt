-- Where a folded set stands: a kept one, or behind the elements that are left; and where it goes next.
use Rattle.std.specs.Prelude.{ℕ, ◌+◌, ◌≤◌, ◌<◌, ◌^◌, List, ◌≡◌, length, get_or}
use Rattle.std.proofs.Common.{◌∙◌, arith, get_or-drop}
use Rattle.memory_sets.specs.Places.{Copied}
use Rattle.machine.specs.Fields.{base_field, at_field, count_field}
use Rattle.machine.specs.Memory.{first_kept, set_words, Lies, nowhere, kept_set, value as placed, Sits, in_kept, on_top}
use Rattle.machine.specs.MemoryLaws.{word_of}
use Rattle.machine.specs.declared.Machine.{Machine}
use Rattle.fold_steps.specs.Turning.{Continuing}
use Rattle.fold_steps.specs.FoldingSets.{Behind, Foldable}

-- what the frame holds lies there too where the values end elsewhere
pub lies_to : {free free' base top top' at n : ℕ} → free ≤ free' → at + n ≤ top' → Lies free base top at n → Lies free' base top' at n
lies_to f h (nowhere e) = nowhere e
lies_to f h (kept_set p q) = kept_set p (omega arith)
lies_to f h (placed p q) = placed p h

pub record Room (base top rest count low : ℕ) : Type 0 where
  pub above-base : base ≤ low
  pub above-rest : rest + count ≤ low
  pub below_top : low ≤ top
  pub near : rest + count ≤ base + set_words → low ≤ base + set_words

pub room-behind : {free base top rest count low : ℕ} → Behind base rest count low → free ≤ base → base ≤ top → 0 < count → Lies free base top rest count → Room base top rest count low
room-behind b f t n (nowhere e) = absurd (omega arith)
room-behind b f t n (kept_set p q) = let e = b.kept (omega arith) in record { above-base = omega arith; above-rest = omega arith; below_top = omega arith; near = λ u. omega arith }
room-behind b f t n (placed p q) = let e = b.among p in record { above-base = omega arith; above-rest = omega arith; below_top = omega arith; near = λ u. omega arith }

-- a folded set of n elements stands at `from`: a kept one, or above the frame's values
pub data Rests (free top frames from n : ℕ) : Type 0 where
  kept : first_kept ≤ from → from + n ≤ free → Rests free top frames from n
  high : top ≤ from → from + n ≤ frames → Rests free top frames from n

pub sits_rests : {free top frames from n c : ℕ} → c ≡ n → top + n ≤ frames → Sits free top from n → Rests free top frames from c
sits_rests e f (in_kept p q) = kept p (omega arith)
sits_rests e f (on_top p) = high (omega arith) (omega arith)

-- what the functions that it calls ask for
module _ {mem : List ℕ} {m : Machine} {from n : ℕ} (f : Foldable mem m from n) (some : 0 < get_or mem (m.frames + count_field) 0) where
  pub foldable-continuing : Continuing mem m from
  foldable-continuing =
      let i = f.inside in
      let s = f.small in
      let l = f.fits in
      record { inside = i; small = s; some = some; from = f.rest some; bound = f.bound; slot = f.slot; entry = f.entry; numbered = omega arith }

  module _ {low : ℕ} (b : Behind (get_or mem (m.frames + base_field) 0) (get_or mem (m.frames + at_field) 0) (get_or mem (m.frames + count_field) 0) low) (u : get_or mem (m.frames + base_field) 0 ≤ from) where
    pub record Lowers : Type 0 where
      pub down : low ≤ from
      pub inside : from + n ≤ length mem
      pub fits : low + n ≤ m.frames
      pub small : m.frames < 2 ^ 32

    pub foldable-lowers : Lowers
    foldable-lowers =
        let i = f.inside in
        let s = f.small in
        let l = f.fits in
        let d = f.down some low b u in
        record { down = d; inside = omega arith; fits = omega arith; small = omega arith }

    pub foldable-lowered : {mem₁ : List ℕ} → Copied mem from mem mem₁ low n → Continuing mem₁ m low
    foldable-lowered {mem₁} c =
        let z = foldable-lowers.fits in
        let y = foldable-lowers.small in
        let len = c.kept.len in
        let word : (j : ℕ) → get_or mem₁ (m.frames + j) 0 ≡ get_or mem (m.frames + j) 0 = λ j. word_of mem₁ m.frames j (c.kept.above m.frames z) ∙ get_or-drop m.frames mem j 0 in
        let e1 = word 1 in
        let e3 = word 3 in
        let e4 = word 4 in
        let i = f.inside in
        let s = f.small in
        let r = f.rest some in
        let t = f.slot in
        let k = f.entry in
        record { inside = omega arith; small = omega arith; some = omega arith; from = omega arith; bound = f.bound; slot = omega arith; entry = omega arith; numbered = omega arith }

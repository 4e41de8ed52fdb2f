-- The numbers of braces: one more is put behind the others.
use Rattle.std.specs.Prelude.{ℕ, zero, suc, ◌+◌, ◌≤◌, ◌<◌, List, [], ◌∷◌, ◌++◌, ◌≡◌, refl, length, get_or, take, drop, set as store}
use Rattle.std.proofs.Common.{sym, ap, ◌∙◌, subst, arith, length-append, length-set, get_or-set_same, get_or-set_other, drop-set-lt}
use Rattle.node.specs.Result.{Result}
use Rattle.language.specs.Limits.{max_number}
use Rattle.language.specs.Tree.{Expr}
use Rattle.language.specs.Expansion.{Context}
use Rattle.language.specs.Sets.{insert}
use Rattle.language.proofs.Laws.Basics.Lists.{All, all_append}
use Rattle.operands.specs.Working.{Source}
use Rattle.memory_sets.specs.Places.{Outside}
use Rattle.memory_sets.specs.PlacedLaws.{elements_of}
use Rattle.memory_sets.specs.Sorting.{set_of, Numbers}
use Rattle.machine.specs.Came.{Came}
use Rattle.machine.specs.Frames.{Elements, inserts}
use Rattle.machine.specs.Realm.{Realm}
use Rattle.machine.specs.Memory.{first_kept, frame_words, set_words, free_of, Held}
use Rattle.machine.specs.MemoryLaws.{held_kept, held_one, held_append}
use Rattle.machine.specs.SetLaws.{held_word}
use Rattle.machine.specs.Table.{Began}
use Rattle.machine.specs.States.{TopOf}
use Rattle.machine.specs.TakeLaws.{words, room-under}
use Rattle.machine.specs.declared.Machine.{Machine}

-- numbers of braces, and one more
pub inserts-more : (ns : List ℕ) (n : ℕ) (l : List ℕ) → inserts ns (insert n l) ≡ inserts (ns ++ (n ∷ [])) l
inserts-more [] n l = refl
inserts-more (x ∷ ns) n l = ap (insert x) (inserts-more ns n l)

pub inserts-all : (ns : List ℕ) → inserts ns [] ≡ set_of ns
inserts-all [] = refl
inserts-all (x ∷ ns) = ap (insert x) (inserts-all ns)

all-at : (l : List ℕ) → All (λ n. n ≤ max_number) l → (i : ℕ) → i < length l → get_or l i 0 ≤ max_number
all-at [] h i l = absurd (omega arith)
all-at (x ∷ s) h zero l = h.0
all-at (x ∷ s) h (suc i) l = all-at s h.1 i (omega arith)

-- the number is put behind the others
module _ {s : Source} {R : Realm s} {mem out : List ℕ} {m : Machine} {x : Result Came} {o : Began} {p : ℕ} {c : Context} {es : Expr} {ns : List ℕ} (h : TopOf R mem out m x o (Elements p c es ns))
    {base count : ℕ} (eb : base ≡ (words h).base) (ec : count ≡ length ns) (small : m.value ≤ max_number) where
  abbrev pub put : List ℕ
  put = store mem (base + count) m.value

  pub record Spaced : Type 0 where
    pub room : base + count + set_words < m.frames
    pub inside : m.frames + frame_words ≤ length mem
    pub start : first_kept ≤ base
    pub first-kept : free_of mem ≤ base
    pub deep : h.footing.depth ≤ base

  pub spaced : Spaced
  spaced =
      let u1 = (room-under h).values in
      let u2 = (room-under h).slots in
      let n0 = h.noted.first in
      let n1 = h.noted.within in
      let n2 = h.noted.ascending in
      let ro = h.at.room in
      let g = h.at.holds.room in
      let so = h.at.some in
      let en = h.at.entry in
      record { room = omega arith; inside = h.at.inside; start = omega arith; first-kept = omega arith; deep = omega arith }

  pub all_small : All (λ n. n ≤ max_number) (ns ++ (m.value ∷ []))
  all_small = all_append (λ n. n ≤ max_number) ns (m.value ∷ []) h.at.holds.small (small, tt)

  pub one_more : length (ns ++ (m.value ∷ [])) ≡ count + 1
  one_more = length-append ns (m.value ∷ []) ∙ ap (λ (i : ℕ). i + 1) (sym ec)

  pub put-below : (i : ℕ) → i < base + count → get_or put i 0 ≡ get_or mem i 0
  put-below i l = get_or-set_other mem (base + count) i m.value 0 (λ q. omega arith)

  pub put_held : Held put base (ns ++ (m.value ∷ []))
  put_held =
      let z = spaced in
      let z1 = z.room in
      let z2 = z.inside in
      let at : (words h).at ≡ base = h.at.holds.at_base ∙ sym eb in
      held_append put base ns (m.value ∷ []) (held_kept mem put base ns (λ i a b. put-below i (omega arith)) (subst (λ (i : ℕ). Held mem i ns) at h.at.held))
      (held_one put (base + length ns) m.value (ap (λ (i : ℕ). get_or put (base + i) 0) (sym ec) ∙ get_or-set_same mem (base + count) m.value 0 (omega arith)))

  pub put-outside : Outside mem put base (count + 1)
  put-outside = record { len = length-set mem (base + count) m.value; below = λ i l. put-below i (omega arith); above = λ i l. drop-set-lt i mem (base + count) m.value (omega arith) }

  pub put-numbers : Numbers put base (count + 1)
  put-numbers =
      let z1 = spaced.room in
      let z2 = spaced.inside in
      let l = length-set mem (base + count) m.value in
      record {
        room = record { room = omega arith };
        small = λ i u. let y = one_more in let q = all-at (ns ++ (m.value ∷ [])) all_small i (omega arith) in
            let e = held_word put base (ns ++ (m.value ∷ [])) put_held i (omega arith) in omega arith;
      }

  pub put-elements : take (count + 1) (drop base put) ≡ ns ++ (m.value ∷ [])
  put-elements =
      let z1 = spaced.room in
      let z2 = spaced.inside in
      let l = length-set mem (base + count) m.value in
      let y = one_more in
      ap (λ (i : ℕ). take i (drop base put)) (sym one_more) ∙ elements_of put base (ns ++ (m.value ∷ [])) (omega arith) (held_word put base (ns ++ (m.value ∷ [])) put_held)

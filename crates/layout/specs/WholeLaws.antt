-- The whole text: its size, whether it fits, and that it is the definition's.
use Rattle.std.specs.Prelude.{ℕ, ◌+◌, ◌-◌, ◌<◌, ◌≤◌, ◌≡◌, refl, Bool, true, false, ◌&&◌, List, ◌++◌, leb, length, drop, Ok, Err}
use Rattle.std.proofs.Common.{ap, ap₂, ◌∙◌, length-append, arith, le-leb}
use Rattle.std.proofs.lemmas.List.Edits.{sets, sets-eq}
use Rattle.std.proofs.lemmas.Bool.{lt-leb}
use Rattle.node.specs.Ltl.{Formula, True, False, Signal, One, Two}
use Rattle.node.specs.Result.{Result, Done, Refused, ◌>>=◌}
use Rattle.node.proofs.ResultLaws.{guard-pass, guard-stop}
use Rattle.node.specs.Postorder.{SignalsBelow}
use Rattle.node.proofs.PostorderLaws.{tree-signals}
use Rattle.node.specs.Returned.{refusal}
use Rattle.node.specs.Table.{root}
use Rattle.language.specs.Tree.{Model, Mealy, Moore}
use Rattle.basics.specs.Told.{max_told}
use Rattle.signal_names.specs.Runs.{puts_after, puts_length}
use Rattle.signal_names.specs.Promise.{slot, Held, Puts}
use Rattle.layout.specs.Layout.{layout, weight, nth}
use Rattle.layout.specs.Stack.{Scene}
use Rattle.layout.specs.Text.{head_text, outputs_text, guarantee_text, end_text, lines_from, lines_size, text_of, fixed_size, Sizes, Delivers, handed}
use Rattle.layout.specs.TextLaws.{lines-sized, listed-length, held_listed}

-- a formula's size
layout-length : (name : ℕ → List ℕ) (size : ℕ → ℕ) (limit : ℕ) → ((k : ℕ) → k < limit → length (name k) ≡ size k) → (f : Formula) → SignalsBelow limit f → length (layout name f) ≡ weight size f
unfolding layout weight SignalsBelow
layout-length name size limit h True s = refl
layout-length name size limit h False s = refl
layout-length name size limit h (Signal k) s = simp length-append (omega (arith, h k s))
layout-length name size limit h (One o a) s = simp length-append (omega (arith, layout-length name size limit h a s))
layout-length name size limit h (Two o a b) s = simp length-append (omega (arith, layout-length name size limit h a s.0, layout-length name size limit h b s.1))

-- the lengths of the whole
module _ (m : Model) (name : ℕ → List ℕ) (list : List ℕ) (f : Formula) where
  head-length : length (head_text m) ≡ length (head_text Mealy)
  head-length = go m
    where
      go : (x : Model) → length (head_text x) ≡ length (head_text Mealy)
      go Mealy = refl
      go Moore = refl

  pub text-length : length (text_of m name list f) ≡ fixed_size + length (lines_from name 0 0 list) + length (lines_from name 1 0 list) + length (layout name f)
  text-length =
      let formula = layout name f ++ end_text in
      let outputs = lines_from name 1 0 list ++ (guarantee_text ++ formula) in
      let inputs = lines_from name 0 0 list ++ (outputs_text ++ outputs) in
      let a = length-append (head_text m) inputs in
      let b = length-append (lines_from name 0 0 list) (outputs_text ++ outputs) in
      let c = length-append outputs_text outputs in
      let d = length-append (lines_from name 1 0 list) (guarantee_text ++ formula) in
      let e = length-append guarantee_text formula in
      let g = length-append (layout name f) end_text in
      omega (arith, head-length)

-- the parts, one after the other, each with room for those after it
module _ (m : Model) (name : ℕ → List ℕ) (list : List ℕ) (f : Formula) (out : List ℕ) (fits : length (text_of m name list f) ≤ length out) where
  whole : length (text_of m name list f) ≡ fixed_size + length (lines_from name 0 0 list) + length (lines_from name 1 0 list) + length (layout name f)
  whole = text-length m name list f

  pub room_1 : length (head_text m) ≤ length out
  room_1 = omega (arith, whole, head-length m name list f)

  module _ {o1 : List ℕ} {a1 : ℕ} (p1 : Puts (head_text m) out o1 0 a1) where
    pub room-2 : a1 + length (lines_from name 0 0 list) ≤ length o1
    room-2 = omega (arith, whole, head-length m name list f, p1.next, puts_length p1)

    module _ {o2 : List ℕ} {a2 : ℕ} (p2 : Puts (lines_from name 0 0 list) o1 o2 a1 a2) where
      pub room-3 : a2 + length (outputs_text) ≤ length o2
      room-3 = omega (arith, whole, head-length m name list f, p1.next, p2.next, puts_length p1, puts_length p2)

      module _ {o3 : List ℕ} {a3 : ℕ} (p3 : Puts (outputs_text) o2 o3 a2 a3) where
        pub room-4 : a3 + length (lines_from name 1 0 list) ≤ length o3
        room-4 = omega (arith, whole, head-length m name list f, p1.next, p2.next, p3.next, puts_length p1, puts_length p2, puts_length p3)

        module _ {o4 : List ℕ} {a4 : ℕ} (p4 : Puts (lines_from name 1 0 list) o3 o4 a3 a4) where
          pub room-5 : a4 + length (guarantee_text) ≤ length o4
          room-5 = omega (arith, whole, head-length m name list f, p1.next, p2.next, p3.next, p4.next, puts_length p1, puts_length p2, puts_length p3, puts_length p4)

          module _ {o5 : List ℕ} {a5 : ℕ} (p5 : Puts (guarantee_text) o4 o5 a4 a5) where
            pub room-6 : a5 + length (layout name f) ≤ length o5
            room-6 = omega (arith, whole, head-length m name list f, p1.next, p2.next, p3.next, p4.next, p5.next, puts_length p1, puts_length p2, puts_length p3, puts_length p4, puts_length p5)

            module _ {o6 : List ℕ} {a6 : ℕ} (p6 : Puts (layout name f) o5 o6 a5 a6) where
              pub room-7 : a6 + length (end_text) ≤ length o6
              room-7 = omega (
                arith,
                whole,
                head-length m name list f,
                p1.next,
                p2.next,
                p3.next,
                p4.next,
                p5.next,
                p6.next,
                puts_length p1,
                puts_length p2,
                puts_length p3,
                puts_length p4,
                puts_length p5,
                puts_length p6,
              )

              pub text-put : {o7 : List ℕ} {r : ℕ} → Puts end_text o6 o7 a6 r → Puts (text_of m name list f) out o7 0 r
              text-put p7 = puts_after p1 (puts_after p2 (puts_after p3 (puts_after p4 (puts_after p5 (puts_after p6 p7)))))

-- an answer of what the definition gives
pub delivers_refused : {r : Result (List ℕ)} {n p : ℕ} (out : List ℕ) → r ≡ Refused n p → Delivers r out out (Err (refusal n p))
unfolding ◌>>=◌
delivers_refused out e = record { answer = rw e; text_left = rw e }

sets-front : (s out : List ℕ) → length s ≤ length out → sets out 0 s ≡ s ++ drop (length s) out
sets-front s out h = let z : 0 + length s ≡ length s = omega arith in sets-eq s out 0 (omega arith) ∙ ap (λ (n : ℕ). s ++ drop n out) z

pub delivers_done : {r : Result (List ℕ)} {s : List ℕ} {out out' : List ℕ} {n : ℕ} → r ≡ Done s → n ≡ length s → length s ≤ length out → out' ≡ sets out 0 s → Delivers r out out' (Ok n)
unfolding ◌>>=◌
delivers_done {s = s} {out} e k h q = record { answer = rw (e, k); text_left = rw e (q ∙ sets-front s out h) }

-- 18, from the size that is told
module _ {nodes names sizes : List ℕ} (scene : Scene nodes names sizes) (m : Model) (list : List ℕ) (held : Held names sizes (length list)) {size : ℕ} (told : Sizes sizes list (root nodes) size) where
  abbrev s : List ℕ
  s = text_of m (slot names sizes) list (root nodes)

  real : length s ≡ fixed_size + lines_size (nth sizes) 0 0 list + lines_size (nth sizes) 1 0 list + weight (nth sizes) (root nodes)
  real =
      let some = scene.formed.some in
      let below = tree-signals scene.formed (length nodes - 1) (omega arith) in
      let formula = layout-length (slot names sizes) (nth sizes) scene.limit (λ k l. listed-length (held_listed k scene.held l)) (root nodes) below in
      omega (arith, text-length m (slot names sizes) list (root nodes), lines-sized names sizes 0 list held, lines-sized names sizes 1 list held, formula)

  pub size_real : size ≤ max_told → size ≡ length s
  size_real h = omega (arith, told.is, real)

  least : size ≤ length s
  least = omega (arith, told.is, real)

  pub text_short : (room : ℕ) → room < size → handed room s ≡ Refused 18 0
  text_short room h = guard-stop 18 0 (Done s) (ap (λ (b : Bool). b && leb (length s) max_told) (lt-leb (length s) room (omega (arith, least))))

  pub text_long : (room : ℕ) → max_told < size → handed room s ≡ Refused 18 0
  text_long room h = guard-stop 18 0 (Done s) (go (leb (length s) room) (lt-leb (length s) max_told (omega (arith, least))))
    where
      go : (b : Bool) → leb (length s) max_told ≡ false → (b && leb (length s) max_told) ≡ false
      go true e = e
      go false e = refl

  pub text-fits : (room : ℕ) → size ≤ room → size ≤ max_told → handed room s ≡ Done s
  text-fits room h l =
      let e = size_real l in
      guard-pass 18 0 (Done s) (ap₂ ◌&&◌ (le-leb (length s) room (omega arith)) (le-leb (length s) max_told (omega arith)))

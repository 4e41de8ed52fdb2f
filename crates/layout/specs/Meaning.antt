-- The text that is written is the definition's: its tokens, parted by one blank.
use Prim.Native.Nat.{ℕ, suc, ◌+◌, ◌*◌, ◌-◌, ◌<◌, ◌≤◌}
use Rattle.std.specs.Prelude.{◌≡◌, Bool, true, false, eqb, length, get_or}
use Rattle.std.proofs.Math.Path.{refl, ap, sym}
use Rattle.std.proofs.Common.{ap₂, ◌∙◌}
use mathlib.Core.List.{List, [], ◌∷◌, ◌++◌, append_assoc}
use Rattle.std.proofs.Math.ListN.{length-append}
use native.Mathlib.Omega.{arith}
use Rattle.node.specs.Ltl.{Formula, True, False, Signal, One, Two}
use Rattle.node.specs.Result.{Refused, ◌>>=◌}
use Rattle.node.specs.Postorder.{SignalsBelow}
use Rattle.node.proofs.PostorderLaws.{tree-signals}
use Rattle.node.specs.Table.{root}
use Rattle.node.specs.Formed.{Formed}
use Rattle.language.specs.Bytes.{ascii, if◌then◌otherwise◌}
use Rattle.language.specs.Limits.{max_name}
use Rattle.language.specs.Places.{refuse_at}
use Rattle.language.specs.Tree.{Model, Mealy, Moore}
use Rattle.language.specs.Numbered.{flag_of}
use Rattle.basic.specs.Spelling.{spelled, names_of, side_of}
use Rattle.basic.specs.Basic.{unary_sign, binary_sign, formula_tokens, info_tokens, line_tokens, basic_tokens, parted}
use Rattle.signal_names.specs.Promise.{slot_bytes, slot, Held, Spelt, Spells}
use Rattle.signal_names.specs.Turns.{names-length, name-is}
use Rattle.layout.specs.Layout.{layout}
use Rattle.layout.specs.Text.{head_text, outputs_text, guarantee_text, end_text, lines_from, text_of, handed, outcome}

-- each token with a blank after it
unfoldable spaced : List (List ℕ) → List ℕ
spaced [] = []
spaced (t ∷ ts) = t ++ (32 ∷ spaced ts)

spaced-append : (s t : List (List ℕ)) → spaced (s ++ t) ≡ spaced s ++ spaced t
unfolding spaced
spaced-append [] t = refl
spaced-append (x ∷ s) t = ap (λ (y : List ℕ). x ++ (32 ∷ y)) (spaced-append s t) ∙ sym (append_assoc x (32 ∷ spaced s) (spaced t))

-- tokens before others have each a blank after them
parted-append : (s t : List (List ℕ)) → 0 < length t → parted (s ++ t) ≡ spaced s ++ parted t
unfolding parted spaced
parted-append [] t h = refl
parted-append (x ∷ []) [] h = absurd (omega arith)
parted-append (x ∷ []) (y ∷ t) h = sym (append_assoc x (32 ∷ []) (parted (y ∷ t)))
parted-append (x ∷ y ∷ s) t h = ap (λ (z : List ℕ). x ++ (32 ∷ z)) (parted-append (y ∷ s) t h) ∙ sym (append_assoc x (32 ∷ spaced (y ∷ s)) (parted t))

-- a formula
module _ (name : ℕ → List ℕ) (ns : List (List ℕ)) (same : (k : ℕ) → k < length ns → name k ≡ get_or ns k []) where
  layout_is : (f : Formula) → SignalsBelow (length ns) f → layout name f ≡ spaced (formula_tokens ns f)
  unfolding layout formula_tokens spaced SignalsBelow
  layout_is True s = refl
  layout_is False s = refl
  layout_is (Signal k) s = ap (λ (x : List ℕ). ascii "( " ++ (x ++ ascii " ) ")) (same k s)
  layout_is (One o a) s =
      let sign = ascii (unary_sign o) in
      ap (λ (x : List ℕ). ascii "( " ++ x)
      (append_assoc sign (32 ∷ []) (layout name a ++ ascii ") ")
      ∙ ap (λ (x : List ℕ). sign ++ (32 ∷ x)) (ap (λ (x : List ℕ). x ++ ascii ") ") (layout_is a s) ∙ sym (spaced-append (formula_tokens ns a) (ascii ")" ∷ []))))
  layout_is (Two o a b) s =
      let sign = ascii (binary_sign o) in
      let right = ap (λ (x : List ℕ). x ++ ascii ") ") (layout_is b s.1) ∙ sym (spaced-append (formula_tokens ns b) (ascii ")" ∷ [])) in
      ap (λ (x : List ℕ). ascii "( " ++ x)
      (ap₂ ◌++◌ (layout_is a s.0) (append_assoc sign (32 ∷ []) (layout name b ++ ascii ") ") ∙ ap (λ (x : List ℕ). sign ++ (32 ∷ x)) right)
      ∙ sym (spaced-append (formula_tokens ns a) (sign ∷ (formula_tokens ns b ++ (ascii ")" ∷ [])))))

-- the lines of a direction
module _ (name : ℕ → List ℕ) (text : List ℕ) (output : Bool) where
  lines_are : (k : ℕ) (es : List ℕ) → ((j : ℕ) → j < length es → name (k + j) ≡ spelled text (get_or es j 0))
      → lines_from name (if output then 1 otherwise 0) k es ≡ spaced (line_tokens (side_of output text es))
  unfolding lines_from line_tokens spaced
  lines_are k [] h = refl
  lines_are k (e ∷ es) h =
      go (eqb (flag_of e) (if output then 1 otherwise 0)) (let z : k + 0 ≡ k = omega arith in rw z at (h 0 (omega arith)))
      (lines_are (suc k) es (λ j l. let z : k + suc j ≡ suc k + j = omega arith in rw z at (h (suc j) (omega arith))))
    where
      rest : List (List ℕ)
      rest = side_of output text es

      go : (b : Bool) → name k ≡ spelled text e → lines_from name (if output then 1 otherwise 0) (suc k) es ≡ spaced (line_tokens rest)
          → elim b [ true ↦ name k ++ ascii " ; " | false ↦ [] ] ++ lines_from name (if output then 1 otherwise 0) (suc k) es
          ≡ spaced (line_tokens (elim b [ true ↦ spelled text e ∷ rest | false ↦ rest ]))
      go true n i = append_assoc (name k) (ascii " ; ") _ ∙ ap₂ (λ (x y : List ℕ). x ++ (ascii " ; " ++ y)) n i
      go false n i = i

-- INFO
head-is : (m : Model) → head_text m ≡ spaced (info_tokens m ++ (ascii "MAIN" ∷ ascii "{" ∷ ascii "INPUTS" ∷ ascii "{" ∷ []))
unfolding info_tokens spaced
head-is Mealy = refl
head-is Moore = refl

-- the whole
module _ (m : Model) (inputs outputs : List (List ℕ)) (ns : List (List ℕ)) (f : Formula) where
  abbrev main : List (List ℕ)
  main = ascii "MAIN" ∷ ascii "{" ∷ ascii "INPUTS" ∷ ascii "{" ∷ []

  abbrev second : List (List ℕ)
  second = ascii "}" ∷ ascii "OUTPUTS" ∷ ascii "{" ∷ []

  abbrev third : List (List ℕ)
  third = ascii "}" ∷ ascii "GUARANTEE" ∷ ascii "{" ∷ []

  abbrev last : List (List ℕ)
  last = ascii ";" ∷ ascii "}" ∷ ascii "}" ∷ []

  tokens-parted : parted (basic_tokens m inputs outputs ns f)
      ≡ spaced (info_tokens m ++ main) ++ (spaced (line_tokens inputs) ++ (outputs_text ++ (spaced (line_tokens outputs) ++ (guarantee_text ++ (spaced (formula_tokens ns f) ++ end_text)))))
  unfolding basic_tokens parted spaced
  tokens-parted =
      let formula = formula_tokens ns f ++ last in
      let fourth = line_tokens outputs ++ (third ++ formula) in
      let fifth = line_tokens inputs ++ (second ++ fourth) in
      let a = parted-append (formula_tokens ns f) last (omega arith) in
      let b = parted-append third formula (omega (arith, length-append (formula_tokens ns f) last)) ∙ ap (λ (x : List ℕ). guarantee_text ++ x) a in
      let c = parted-append (line_tokens outputs) (third ++ formula) (omega arith) ∙ ap (λ (x : List ℕ). spaced (line_tokens outputs) ++ x) b in
      let d = parted-append second fourth (omega (arith, length-append (line_tokens outputs) (third ++ formula))) ∙ ap (λ (x : List ℕ). outputs_text ++ x) c in
      let e = parted-append (line_tokens inputs) (second ++ fourth) (omega arith) ∙ ap (λ (x : List ℕ). spaced (line_tokens inputs) ++ x) d in
      ap parted (sym (append_assoc (info_tokens m) main fifth))
      ∙ parted-append (info_tokens m ++ main) fifth (omega (arith, length-append (line_tokens inputs) (second ++ fourth))) ∙ ap (λ (x : List ℕ). spaced (info_tokens m ++ main) ++ x) e

module _ (text list : List ℕ) {names sizes : List ℕ} (nodes : List ℕ) (m : Model) (formed : Formed (length list) nodes) (s : Spelt names sizes (names_of text list)) where
  abbrev name : ℕ → List ℕ
  name = slot names sizes

  spelt_is : (k : ℕ) → k < length list → name k ≡ spelled text (get_or list k 0)
  spelt_is k h = s.each k (rw (names-length text list) h) ∙ name-is text list k h

  line_of : (output : Bool) → lines_from name (if output then 1 otherwise 0) 0 list ≡ spaced (line_tokens (side_of output text list))
  line_of output = lines_are name text output 0 list (λ j l. let z : 0 + j ≡ j = omega arith in rw z (spelt_is j l))

  signals : SignalsBelow (length (names_of text list)) (root nodes)
  signals = let some = formed.some in rw (names-length text list) (tree-signals formed (length nodes - 1) (omega arith))

  pub text-is : text_of m name list (root nodes) ≡ parted (basic_tokens m (side_of false text list) (side_of true text list) (names_of text list) (root nodes))
  text-is =
      sym (tokens-parted m (side_of false text list) (side_of true text list) (names_of text list) (root nodes)
      ∙ sym (ap₂ (λ (x y : List ℕ). x ++ y) (head-is m)
      (ap₂ (λ (x y : List ℕ). x ++ (outputs_text ++ y)) (line_of false)
      (ap₂ (λ (x y : List ℕ). x ++ (guarantee_text ++ (y ++ end_text))) (line_of true) (layout_is name (names_of text list) s.each (root nodes) signals)))))

-- 22, or what the names give
module _ {text list names sizes : List ℕ} {r : ℕ} (spells : Spells text list names sizes r) (nodes : List ℕ) (room : ℕ) (m : Model) where
  pub name-refused : r < length list → outcome room text m list nodes ≡ Refused 22 r
  unfolding refuse_at ◌>>=◌
  name-refused h = rw (spells.fault h)

  pub names-pass : r ≡ length list → Formed (length list) nodes → outcome room text m list nodes ≡ handed room (text_of m (slot names sizes) list (root nodes))
  unfolding refuse_at ◌>>=◌
  names-pass h formed = rw (spells.none h, text-is text list nodes m formed (spells.spelt h))

  pub names_held : r ≡ length list → slot_bytes * length list + (max_name + 4) ≤ length names → length list ≤ length sizes → Held names sizes (length list)
  names_held h a b = record { room = a; sized = b; small = λ j l. (spells.spelt h).small j (rw (names-length text list) l) }

-- What is late, a node's new operands, and the X behind it, as the functions decide and write them.
use Rattle.std.specs.Prelude.{ℕ, ◌<◌, ◌≤◌, Bool, true, false, not, ◌&&◌, List, [], ◌∷◌, ◌≡◌, length}
use Rattle.std.proofs.Math.Path.{ap, ap₂, sym, subst}
use Rattle.std.proofs.Common.{◌∙◌}
use Rattle.std.proofs.Math.Dec.{ltb}
use Rattle.std.proofs.Math.ListN.{get_or, get_or-eq_default}
use native.Mathlib.Omega.{arith}
use borrow.Author.Tests.{eq-eqb, ne_eqb, lt-ltb, le-ltb}
use Rattle.node.specs.Limits.{max_nodes, field_limit}
use Rattle.node.specs.BitFields.{above}
use Rattle.node.specs.Fields.{pack, kind_of, first_of, second_of}
use Rattle.node.specs.Ltl.{Not, X}
use Rattle.node.specs.Kinds.{signal_kind, unary_kind, has_two}
use Rattle.language.specs.Limits.{offset_bits, index_bits, width_bits}
use Rattle.language.specs.Bytes.{if◌then◌otherwise◌}
use Rattle.language.specs.Shifting.{is_output}
use Rattle.language.proofs.Laws.Basics.Tests.{pick, leave}
use Rattle.writing.specs.Writing.{Puts}
use Rattle.writing.specs.WritingLaws.{after}
use Rattle.shifting.specs.Passing.{late_by, renumbered, is_late, written, Numbers}

-- outputs and inputs
pub output_past : (list : List ℕ) (k : ℕ) → length list ≤ k → false ≡ is_output list k
output_past list k h = sym (ap (λ (e : ℕ). ltb 0 (above offset_bits (above index_bits (above width_bits e)))) (get_or-eq_default list 0 h))

pub late_other : (late : ℕ → Bool) (w : ℕ) {k : ℕ} → k ≡ kind_of w → (k ≡ signal_kind → ⊥) → false ≡ is_late late w
late_other late w e h = sym (ap (λ (b : Bool). b && late (first_of w)) (ne_eqb (kind_of w) signal_kind (λ z. h (e ∙ z))))

module _ (list : List ℕ) (w : ℕ) {k a : ℕ} {o : Bool} (kind : k ≡ kind_of w) (two : k ≡ signal_kind) (first : a ≡ first_of w) (told : o ≡ is_output list a) where
  signal : (late : ℕ → Bool) → late (first_of w) ≡ is_late late w
  signal late = sym (ap (λ (b : Bool). b && late (first_of w)) (eq-eqb (kind_of w) signal_kind (sym kind ∙ two)))

  pub late-outputs : {outputs : Bool} → outputs ≡ true → o ≡ is_late (late_by outputs list) w
  late-outputs e = told ∙ ap (is_output list) first ∙ signal (late_by true list) ∙ ap (λ (b : Bool). is_late (late_by b list) w) (sym e)

  pub late-inputs : {outputs : Bool} → outputs ≡ false → not o ≡ is_late (late_by outputs list) w
  late-inputs e = ap not (told ∙ ap (is_output list) first) ∙ signal (late_by false list) ∙ ap (λ (b : Bool). is_late (late_by b list) w) (sym e)

-- the new number of a node past the table
pub number_past : (ns : List ℕ) (k : ℕ) → length ns ≤ k → 0 ≡ get_or ns k 0
number_past ns k h = sym (get_or-eq_default ns 0 h)

pub number_fits : (ns : List ℕ) (k : ℕ) {x : ℕ} → Numbers ns → x ≡ get_or ns k 0 → x < field_limit
number_fits ns k h e = omega (arith, h.small k)

-- new operands: none, two, one
module _ (ns : List ℕ) (w : ℕ) {k : ℕ} (kind : k ≡ kind_of w) where
  pub renumbered_none : k < unary_kind Not → w ≡ renumbered ns w
  unfolding renumbered
  renumbered_none h = sym (pick (ltb (kind_of w) (unary_kind Not)) w _ (ap (λ (n : ℕ). ltb n (unary_kind Not)) (sym kind) ∙ lt-ltb k (unary_kind Not) h))

  module _ (h : unary_kind Not ≤ k) {a x : ℕ} (first : a ≡ first_of w) (new : x ≡ get_or ns a 0) where
    operands : (y : ℕ) → y ≡ (if has_two k then get_or ns (second_of w) 0 otherwise 0) → pack k x y ≡ renumbered ns w
    unfolding renumbered
    operands y e =
        ap₂ (λ (m n : ℕ). pack k m n) (new ∙ ap (λ (n : ℕ). get_or ns n 0) first) e
        ∙ ap (λ (n : ℕ). pack n (get_or ns (first_of w) 0) (if has_two n then get_or ns (second_of w) 0 otherwise 0)) kind
        ∙ sym (leave (ltb (kind_of w) (unary_kind Not)) w _ (ap (λ (n : ℕ). ltb n (unary_kind Not)) (sym kind) ∙ le-ltb k (unary_kind Not) h))

    pub renumbered-two : {b y : ℕ} → has_two k ≡ true → b ≡ second_of w → y ≡ get_or ns b 0 → pack k x y ≡ renumbered ns w
    renumbered-two {b} {y} t second again = operands y (again ∙ ap (λ (n : ℕ). get_or ns n 0) second ∙ sym (pick (has_two k) (get_or ns (second_of w) 0) 0 t))

    pub renumbered-one : has_two k ≡ false → pack k x 0 ≡ renumbered ns w
    renumbered-one t = operands 0 (sym (leave (has_two k) (get_or ns (second_of w) 0) 0 t))

pub renumbered-same : (ns ms : List ℕ) (w : ℕ) → ((j : ℕ) → get_or ns j 0 ≡ get_or ms j 0) → renumbered ns w ≡ renumbered ms w
unfolding renumbered
renumbered-same ns ms w e =
    ap₂ (λ (a b : ℕ). if ltb (kind_of w) (unary_kind Not) then w otherwise pack (kind_of w) a (if has_two (kind_of w) then b otherwise 0)) (e (first_of w)) (e (second_of w))

-- the X behind a node
module _ {late : Bool} (w : ℕ) {at : ℕ} {out out' : List ℕ} {r : ℕ} where
  pub write-plain : late ≡ false → Puts (w ∷ []) out out' at r → Puts (written late at w) out out' at r
  unfolding written
  write-plain e p = subst (λ (b : Bool). Puts (written b at w) out out' at r) (sym e) p

  pub write-past : late ≡ true → max_nodes ≤ at → max_nodes < r → Puts (written late at w) out out' at r
  unfolding written
  write-past e h g = subst (λ (b : Bool). Puts (written b at w) out out' at r) (sym e) (record { stored = λ l. absurd (omega arith); many = λ l. omega arith })

  pub write-next : {between : List ℕ} {n x : ℕ} → late ≡ true → Puts (w ∷ []) out between at n → x ≡ pack (unary_kind X) at 0 → Puts (x ∷ []) between out' n r → Puts (written late at w) out out' at r
  unfolding written
  write-next {between} {n} e p q s = subst (λ (b : Bool). Puts (written b at w) out out' at r) (sym e) (after p (subst (λ (y : ℕ). Puts (y ∷ []) between out' n r) q s))

-- something was written
pub write_some : (late : Bool) (w : ℕ) {at r : ℕ} {out out' : List ℕ} → Puts (written late at w) out out' at r → r ≤ max_nodes → 0 < r
unfolding written
write_some true w p h = omega (arith, (p.stored h).next)
write_some false w p h = omega (arith, (p.stored h).next)

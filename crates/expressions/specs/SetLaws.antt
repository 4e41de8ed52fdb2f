-- A set is closed after one element or more, or is not.
use Rattle.std.specs.Prelude.{ℕ, suc, ◌≤◌, ◌<◌, List, [], ◌∷◌, ◌++◌, false, ◌≡◌, refl, eqb, length, drop}
use Rattle.std.proofs.Common.{arith, append-nil, sym, ap, ◌∙◌, subst, lit<, ne_eqb}
use Rattle.std.proofs.Math.Option.{none, some}
use Rattle.language.specs.Tokens.{Token}
use Rattle.language.specs.Tree.{Expr, Listed, Empty, Element}
use Rattle.language.specs.Grammar.{Tokens, Read, next}
use Rattle.language.proofs.Laws.Basics.Tests.{leave}
use Rattle.language.proofs.Laws.Basics.Lists.{All as Every}
use Rattle.lexer.specs.Numbers.{fixed}
use Rattle.entries.specs.Kinds as Kind
use Rattle.entries.specs.Flat.{Entry, under, flat}
use Rattle.entries.specs.declared.Cursor.{Cursor}
use Rattle.entries.specs.Cursors.{number_at, next_of, emitted_of, refused_at}
use Rattle.entries.specs.TokenReads.{next_number_lem}
use Rattle.expressions.specs.declared.stack.Machine.{Machine}
use Rattle.expressions.specs.declared.stack.Turn.TheVariants.{Ended}
use Rattle.operators.specs.Readers.{climbs}
use Rattle.expressions.specs.Classes.{All, One, class_number}
use Rattle.expressions.specs.Frames.{Frame, turned, plug}
use Rattle.expressions.specs.Stack.{slot_class, top_slot, Stacked, Rooted}
use Rattle.expressions.specs.StackLaws.{stacked_less, stacked_next}
use Rattle.expressions.specs.States.{slot, slots_of, behind, base, Firm, credits, Turned}
use Rattle.expressions.specs.Complete.{Complete}
use Rattle.expressions.specs.CompleteLaws.{popping, builds, turn-built, sign-inside}
use Rattle.expressions.specs.Grown.{grown_in}
use Rattle.expressions.specs.GrownLaws.{grows, kept-grown, grown, turned-after}
use Rattle.expressions.specs.Closes.{expect-here, expect_other, refused-here}
use Rattle.expressions.specs.Sets.{Lists, listed_of, listed_in}

module _ {ts : Tokens} {s : Cursor} {x : Read Expr} {w : List ℕ} {m : Machine} where
  -- the set of the list l, whose entries stand behind those of all frames but the last
  set_of_lem : (cls lev : ℕ) (t : Token) (css : List (List Entry)) → Every Rooted css → (Gs : List Frame) → Every Firm Gs → (y : Expr) → Rooted (flat y) → (c : Cursor)
      → Stacked ts s w c m.depth (slot cls lev t [] ∷ slots_of Gs) (behind (base Gs) css ++ flat y) (suc (credits Gs))
      → (l : Expr) → flat l ≡ under Kind.element none (behind [] css ++ flat y) → m.c.at ≤ c.at → m.c.count ≡ s.count → m.c.out ≤ c.out → x ≡ plug Gs (climbs lev (Listed t l) (drop c.at ts))
      → Lists w m c (suc (length css)) × Turned ts s x w (listed_in w m c (suc (length css))) m (listed_of w m c (suc (length css)))
  set_of_lem cls lev t css firm-css Gs firm y rooted c st l made onward counted grew same =
      let e = grown (credits Gs) (base Gs) css (flat y) firm-css rooted st Kind.element 0 (lit< tt) (lit< tt) none tt in
      let e' : Stacked ts s (grown_in w c Kind.element 0 (suc (length css))) (emitted_of c) m.depth (slot cls lev t [] ∷ slots_of Gs) (base Gs ++ flat l) (credits Gs) = subst
      (λ es. Stacked ts s (grown_in w c Kind.element 0 (suc (length css))) (emitted_of c) m.depth (slot cls lev t [] ∷ slots_of Gs) (base Gs ++ es) (credits Gs)) (sym made) e in
      let root : Rooted (flat l) = (Kind.element, none, behind [] css ++ flat y, made) in (
        record {
          element = grows (credits Gs) (base Gs) css (flat y) firm-css rooted st Kind.element 0 (lit< tt) (lit< tt);
          set = builds x m cls lev t [] tt Gs firm l root (emitted_of c) (credits Gs) e'
              (Listed t l) Kind.listed (lit< tt) (some t) refl;
        },
        turned-after (kept-grown (credits Gs) (base Gs) css (flat y) firm-css rooted st Kind.element 0 (lit< tt) (lit< tt))
            (turn-built x m cls lev t [] tt Gs firm l root (emitted_of c) (credits Gs) e' (Listed t l) Kind.listed (lit< tt) (some t) refl (λ j k. k) (omega arith) onward counted (omega arith) same),
      )

  module _ (h : Complete ts s x w m) (deep : 0 < m.depth) where
    abbrev top : ℕ
    top = top_slot w m.depth

    other_sign : (k n : ℕ) → number_at w m.c ≡ k → eqb k n ≡ false → eqb (number_at w m.c) n ≡ false
    other_sign k n e f = ap (λ i. eqb i n) e ∙ f

    pub set-one : slot_class top ≡ class_number One → number_at w m.c ≡ fixed "}" → Lists w m (next_of m.c) 1 × Turned ts s x w (listed_in w m (next_of m.c) 1) m (listed_of w m (next_of m.c) 1)
    set-one e k =
        let q = popping h One deep e in
        let F = turned One q.0 in
        let p = q.2 in
        let l = Element p.tree Empty in
        set_of_lem (class_number One) F.level F.token [] tt q.1 p.firm p.tree p.rooted (next_of m.c)
        (stacked_less (stacked_next p.stacked (sign-inside h _ k (lit< tt))) (suc (credits q.1)) (omega arith)) l (ap (under Kind.element none) (append-nil (flat p.tree))) (omega arith)
        p.stacked.count (omega arith)
        (p.same ∙ ap (plug q.1) (leave (next "," (drop m.c.at ts)) _ _ (next_number_lem h.stacked.ready "," refl ∙ other_sign (fixed "}") (fixed ",") k refl) ∙ expect-here h.stacked.ready "}" refl _ k))

    pub set_all : slot_class top ≡ class_number All → number_at w m.c ≡ fixed "}" → Lists w m (next_of m.c) 2 × Turned ts s x w (listed_in w m (next_of m.c) 2) m (listed_of w m (next_of m.c) 2)
    set_all e k =
        let q = popping h All deep e in
        let F = turned All q.0 in
        let p = q.2 in
        let l = Element F.first p.tree in
        set_of_lem (class_number All) F.level F.token (flat F.first ∷ []) p.firm_top.0 q.1 p.firm p.tree p.rooted (next_of m.c)
        (stacked_less (stacked_next p.stacked (sign-inside h _ k (lit< tt))) (suc (credits q.1)) (omega arith)) l refl (omega arith) p.stacked.count (omega arith)
        (p.same ∙ ap (plug q.1) (expect-here h.stacked.ready "}" refl _ k))

    pub unclosed-one : slot_class top ≡ class_number One → (number_at w m.c ≡ fixed "," → ⊥) → (number_at w m.c ≡ fixed "}" → ⊥) → Turned ts s x w w m (Ended (refused_at w m.c))
    unclosed-one e f g =
        let q = popping h One deep e in
        refused-here q.1 m.c h.stacked.ready
        (q.2.same ∙ ap (plug q.1) (leave (next "," (drop m.c.at ts)) _ _ (next_number_lem h.stacked.ready "," refl ∙ ne_eqb (number_at w m.c) _ f) ∙ expect_other h.stacked.ready "}"
        refl _ g))

    pub unclosed-all : slot_class top ≡ class_number All → (number_at w m.c ≡ fixed "}" → ⊥) → Turned ts s x w w m (Ended (refused_at w m.c))
    unclosed-all e f = let q = popping h All deep e in refused-here q.1 m.c h.stacked.ready (q.2.same ∙ ap (plug q.1) (expect_other h.stacked.ready "}" refl _ f))

-- The loops over an identifier's words and over identifiers: one turn, and the ways out.
use Rattle.std.specs.Prelude.{Ok, Err}
use Prim.Native.Nat.{ℕ, ◌<◌}
use native.Mathlib.Omega.{arith}
use mathlib.Core.List.{List, ◌∷◌, ◌++◌}
use mathlib.Core.Path.{◌≡◌, refl, sym, ap, ◌∙◌, subst}
use lib.ListN.{drop}
use Prim.Native.String.{String}
use mathlib.Core.Bool.{true}
use Rattle.node.specs.Returned.{refusal}
use Rattle.language.specs.Bytes.{ascii, is_one_of}
use Rattle.lexer.specs.Numbers.{spellings, fixed, class_number}
use Rattle.node.specs.Result.{Done, ◌>>=◌}
use Rattle.node.proofs.ResultLaws.{bind_refused, bind_to}
use Rattle.language.specs.Tokens.{Token, Name, Marks, is_of}
use Rattle.language.specs.Grammar.{Tokens, Read, front, expect, expect_of}
use Rattle.language.specs.Sections.{words_of, identifiers_of}
use Rattle.language.proofs.Laws.Basics.Tests.{pick, leave}
use Rattle.entries.specs.Flat.{Entry, leaf, each, flat_identifier}
use Rattle.entries.specs.declared.Cursor.{Cursor}
use Rattle.entries.specs.Parse.{Parse}
use Rattle.entries.specs.Cursors.{number_at, next_of, expected}
use Rattle.entries.specs.CursorLaws.{before-end}
use Rattle.entries.specs.Reads.{Reads}
use Rattle.parser.specs.Parts.{flat_word, identifier_of}
use Rattle.parser.specs.PartLaws.{identifiers-parts}
use Rattle.parser.specs.Steps.{words-refused, words_last, words_more}
use Rattle.parser.proofs.Laws.Rows.{accepted, was-refused, took_next, reads-refused, reads-tail}
use Rattle.parser.proofs.Laws.Passing.{passed, stopped, expect-passed, took_passed, expect-not, here, elsewhere, class-here, class-elsewhere, rest-next}
use Rattle.parser.proofs.Laws.Loops.{Listing, left_some, listing-more, going-refused, going-last}

module _ {ts : Tokens} {x : Read _} {w v z : List ℕ} {s d : Cursor} (h : Listing flat_word 0 words_of x ts w v s d) {q : Parse} (r : Reads ts v z d flat_word (expect_of Marks (drop d.at ts)) q) where
  pub words-stop : {n p : ℕ} → q ≡ Err (refusal n p) → Reads ts w z s (each flat_word) x q
  words-stop m = going-refused h.going r.kept m (words-refused h.fuel (drop d.at ts) (was-refused m r))

  module _ {e : Cursor} (m : q ≡ Ok e) where
    pub words-end : (number_at z e ≡ fixed "," → ⊥) → Reads ts w z s (each flat_word) x (Ok e)
    words-end other =
        let a = accepted m r in
        going-last h.going r.kept a.value (words_last h.fuel (drop d.at ts) a.value (drop e.at ts) a.read (elsewhere a.took.ready "," refl other)) a.took

    pub words-again : {f : Cursor} → number_at z e ≡ fixed "," → f ≡ next_of e → Listing flat_word 0 words_of x ts w z s f
    words-again comma past =
        let a = accepted m r in
        let t = took_next a.took (before-end z e (omega arith)) in
        subst (Listing flat_word 0 words_of x ts w z s) (sym past)
        (listing-more h r.kept a.value
        (words_more h.fuel (drop d.at ts) a.value (drop e.at ts) a.read (here a.took.ready "," refl comma)
        ∙ ap (λ us. words_of h.fuel us >>= λ (xs, vs). Done (a.value ∷ xs, vs)) (rest-next a.took.ready))
        t (omega (arith, a.took.onward.further)) (left_some t.ready))

-- an identifier, and as long as a name follows
module _ {ts : Tokens} {x : Read _} {w v z : List ℕ} {s d : Cursor} (h : Listing flat_identifier 0 identifiers_of x ts w v s d) {q : Parse}
    (r : Reads ts v z d flat_identifier (identifier_of (drop d.at ts)) q) where
  pub identifiers-stop : {n p : ℕ} → q ≡ Err (refusal n p) → Reads ts w z s (each flat_identifier) x q
  identifiers-stop m = going-refused h.going r.kept m (identifiers-parts h.fuel (drop d.at ts) ∙ bind_refused _ _ _ _ (was-refused m r))

  module _ {e : Cursor} (m : q ≡ Ok e) where
    pub identifiers-end : (number_at z e ≡ class_number Name → ⊥) → Reads ts w z s (each flat_identifier) x (Ok e)
    identifiers-end other =
        let a = accepted m r in
        going-last h.going r.kept a.value
        (identifiers-parts h.fuel (drop d.at ts) ∙ bind_to _ _ _ a.read ∙ leave (is_of Name (front (drop e.at ts))) _ _ (class-elsewhere a.took.ready Name refl other)) a.took

    pub identifiers-again : number_at z e ≡ class_number Name → d.at < e.at → Listing flat_identifier 0 identifiers_of x ts w z s e
    identifiers-again name l =
        let a = accepted m r in
        listing-more h r.kept a.value
        (identifiers-parts h.fuel (drop d.at ts) ∙ bind_to _ _ _ a.read ∙ pick (is_of Name (front (drop e.at ts))) _ _ (class-here a.took.ready Name refl name))
        a.took l (left_some a.took.ready)

-- a name with an entry of its own, a sign, and what follows: an identifier and its words, an enumeration and its identifiers
module _ {B C : Type 0} {ts : Tokens} {w v : List ℕ} {c : Cursor} (kind : ℕ) (s : String) (known : is_one_of spellings (ascii s) ≡ true) (D : Tokens → Read B) (make : Token → B → C)
    (g : B → List Entry) (f : C → List Entry)
    (flats : (t : Token) (b : B) → f (make t b) ≡ leaf kind t ++ g b) {q : Parse} (r : Reads ts w v c (leaf kind) (expect_of Name (drop c.at ts)) q) where
  abbrev whole : Read C
  whole = expect_of Name (drop c.at ts) >>= λ (t, us). expect s us >>= λ (o, us). D us >>= λ (b, us). Done (make t b, us)

  pub name-refused : {n p : ℕ} → q ≡ Err (refusal n p) → Reads ts w v c f whole q
  name-refused m = reads-refused m (bind_refused _ _ _ _ (was-refused m r)) r.kept

  module _ {d : Cursor} (m : q ≡ Ok d) {q' : Parse} (sign : q' ≡ expected v d (fixed s)) where
    pub sign-refused : {n p : ℕ} → q' ≡ Err (refusal n p) → Reads ts w v c f whole q'
    sign-refused m' =
        let a = accepted m r in
        reads-refused m' (bind_to _ _ _ a.read ∙ bind_refused _ _ _ _ (expect-not a.took.ready s known (stopped v d (fixed s) sign m'))) r.kept

    pub rest_read : {e : Cursor} {z : List ℕ} {q'' : Parse} → q' ≡ Ok e → Reads ts v z e g (D (drop e.at ts)) q'' → Reads ts w z c f whole q''
    rest_read {e} m' last =
        let a = accepted m r in
        let h = passed v d (fixed s) sign m' in
        reads-tail (make a.value) (bind_to _ _ _ a.read ∙ bind_to _ _ _ (expect-passed a.took.ready s known h))
        (flats a.value) r.kept (took_passed a.took h (omega arith)) last

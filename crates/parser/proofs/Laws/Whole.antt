-- A whole text: its first token, its sections in a row, its end, and the answer.
use Rattle.std.specs.Prelude.{Ok, Err}
use Prim.Native.Nat.{ℕ, ◌<◌, ◌^◌}
use native.Mathlib.Omega.{arith}
use mathlib.Core.List.{List, [], ◌∷◌, append_assoc}
use mathlib.Core.Bool.{Bool, true, false}
use mathlib.Core.Path.{◌≡◌, refl, sym, ap, ap₂, ◌∙◌, subst}
use lib.Dec.{eqb, ltb}
use lib.ListN.{length, drop}
use borrow.Author.Tests.{ltb-true, ltb-false, eqb-true, eqb-false, eq-eqb, ne_eqb}
use Rattle.node.specs.declared.Refusal.{Refusal}
use Rattle.node.specs.Returned.{Returned, refusal}
use Rattle.node.specs.Result.{Done, Refused, ◌>>=◌}
use Rattle.node.proofs.ReturnedLaws.{same-refusal}
use Rattle.node.proofs.ResultLaws.{bind_refused, bind_to}
use Rattle.language.specs.Tokens.{Token, End, is_of}
use Rattle.language.specs.Tree.{Subsection}
use Rattle.language.specs.Grammar.{Tokens, Read, front, rest, next, expect, expect_of}
use Rattle.language.specs.Sections.{subsections_of, spec_of}
use Rattle.language.proofs.Laws.Basics.Tests.{pick, leave}
use Rattle.lexer.specs.Numbers.{number, fixed, class_number}
use Rattle.lexer.specs.NumberLaws.{is_number, class_number_lem}
use Rattle.lexer.specs.Stored.{offset_bits, number_in, offset_in}
use Rattle.lexer.specs.StoredLaws.{number_word, offset_word}
use Rattle.entries.specs.Flat.{each, flat_parameter, flat_definition, flat_subsection, outline}
use Rattle.entries.specs.Stored.{EntriesFrom}
use Rattle.entries.specs.declared.Cursor.{Cursor}
use Rattle.entries.specs.Parse.{Parse}
use Rattle.entries.specs.Cursors.{Fits, Tells, Ready, number_at, place_at, refused_at, expected}
use Rattle.entries.specs.CursorLaws.{number_stored, number-end, place_stored, place_end, before-end, ready-place}
use Rattle.entries.specs.Reads.{Kept, Reads}
use Rattle.entries.specs.ReadsLaws.{kept_fewer}
use Rattle.parser.specs.declared.Facts.{Facts}
use Rattle.parser.specs.declared.Outline.{Outline}
use Rattle.parser.specs.Parts.{Globals, globals_of, flat_globals}
use Rattle.parser.specs.Information.{information_of}
use Rattle.parser.specs.Outlines.{behind, Informs, sections_of, flat_sections, ended, start_of, Answer, Outlined}
use Rattle.parser.proofs.Laws.Rows.{Accepted, accepted, was-refused, reads-refused, reads-tail}
use Rattle.parser.proofs.Laws.Passing.{Passed, Stopped, stopped, passed-ready, expect-passed, expect-not, took_passed, class-here, class-elsewhere}
use Rattle.parser.proofs.Laws.SpecParts.{spec_with, spec_parts}

-- GLOBAL, then MAIN
module _ {ts : Tokens} {w v : List ℕ} {c : Cursor} {q : Parse} (r : Reads ts w v c flat_globals (globals_of (drop c.at ts)) q) where
  abbrev answer : Read (Globals × List Subsection)
  answer = sections_of (drop c.at ts)

  pub sections_global : {n p : ℕ} → q ≡ Err (refusal n p) → Reads ts w v c flat_sections answer q
  sections_global m = reads-refused m (bind_refused _ _ _ _ (was-refused m r)) r.kept

  module _ {d : Cursor} (m : q ≡ Ok d) where
    globals : Accepted ts v c d flat_globals (globals_of (drop c.at ts))
    globals = accepted m r

    pub main-ready : Ready ts v d
    main-ready = globals.took.ready

    pub sections-main : {y : Parse} {n p : ℕ} → y ≡ expected v d (fixed "MAIN") → y ≡ Err (refusal n p) → Reads ts w v c flat_sections answer y
    sections-main x o = reads-refused o (bind_to _ _ _ globals.read ∙ bind_refused _ _ _ _ (expect-not main-ready "MAIN" refl (stopped v d (fixed "MAIN") x o))) r.kept

    module _ {e : Cursor} (h : Passed v d e (fixed "MAIN")) where
      pub open-ready : Ready ts v e
      open-ready = passed-ready main-ready h (omega arith)

      pub sections-open : {y : Parse} {n p : ℕ} → y ≡ expected v e (fixed "{") → y ≡ Err (refusal n p) → Reads ts w v c flat_sections answer y
      sections-open x o =
          reads-refused o (bind_to _ _ _ globals.read ∙ bind_to _ _ _ (expect-passed main-ready "MAIN" refl h) ∙ bind_refused _ _ _ _ (expect-not open-ready "{" refl (stopped v e (fixed "{") x o)))
          r.kept

      module _ {f : Cursor} (g : Passed v e f (fixed "{")) where
        pub subsections-ready : Ready ts v f
        subsections-ready = passed-ready open-ready g (omega arith)

        pub sections-read : {z : List ℕ} {y : Parse} → Reads ts v z f (each flat_subsection) (subsections_of 9 [] (drop f.at ts)) y → Reads ts w z c flat_sections answer y
        sections-read last =
            reads-tail (λ m. (globals.value, m))
            (bind_to _ _ _ globals.read ∙ bind_to _ _ _ (expect-passed main-ready "MAIN" refl h) ∙ bind_to _ _ _ (expect-passed open-ready "{" refl g))
            (λ m. refl) r.kept (took_passed (took_passed globals.took h (omega arith)) g (omega arith)) last

-- the first token, before which nothing is read
module _ {ts : Tokens} {w : List ℕ} {count end : ℕ} (fits : Fits w (start_of count end)) (tells : Tells ts w count end) where
  near : (front ts).at < 2 ^ offset_bits
  near = omega (arith, tells.places 0, fits.short)

  first_stored : number_at w (start_of count end) ≡ number (front ts)
  first_stored = go (ltb 0 count) refl
    where
      go : (b : Bool) → ltb 0 count ≡ b → number_at w (start_of count end) ≡ number (front ts)
      go true e =
          let l = ltb-true 0 count e in
          number_stored w (start_of count end) l ∙ ap number_in (tells.stored.words 0 (omega (arith, tells.total))) ∙ number_word (front ts) near
      go false e =
          let l = ltb-false 0 count e in
          let none : 0 ≡ count = omega arith in
          number-end w (start_of count end) l ∙ sym (eqb-true (number (front ts)) 0 (sym (class_number_lem End (front ts) refl) ∙ ap (λ n. is_of End (front (drop n ts))) none ∙ tells.last))

  first-place : place_at w (start_of count end) ≡ (front ts).at
  first-place = go (ltb 0 count) refl
    where
      go : (b : Bool) → ltb 0 count ≡ b → place_at w (start_of count end) ≡ (front ts).at
      go true e =
          let l = ltb-true 0 count e in
          place_stored w (start_of count end) l ∙ ap offset_in (tells.stored.words 0 (omega (arith, tells.total))) ∙ offset_word (front ts) near
      go false e =
          let l = ltb-false 0 count e in
          let none : 0 ≡ count = omega arith in
          place_end w (start_of count end) l ∙ sym tells.last-place ∙ ap (λ n. (front (drop n ts)).at) (sym none)

  first_number_lem : next "INFO" ts ≡ eqb (number_at w (start_of count end)) (fixed "INFO")
  first_number_lem = is_number "INFO" (front ts) refl ∙ ap (λ n. eqb n (fixed "INFO")) (sym first_stored)

  pub first-refused : {n p : ℕ} → Stopped w (start_of count end) (fixed "INFO") n p → spec_of ts ≡ Refused n p
  first-refused h =
      spec_parts ts ∙ bind_refused _ _ _ _ (leave (next "INFO" ts) _ _ (first_number_lem ∙ ne_eqb _ _ h.token) ∙ same h.number (h.place ∙ first-place))
    where
      same : {n p q : ℕ} → n ≡ 4 → p ≡ q → ◌≡◌ {A = Read Token} (Refused 4 q) (Refused n p)
      same e f = cc

  module _ {c : Cursor} (h : Passed w (start_of count end) c (fixed "INFO")) where
    pub first-ready : Ready ts w c
    first-ready =
        let l : 0 < count = before-end w (start_of count end) (omega (arith, h.token)) in
        subst (Ready ts w) (sym h.next.cursor)
        (record { fits = record { room = fits.room; few = fits.few; short = fits.short; inside = omega arith }; tells = tells; less = omega arith })

    first_read : expect "INFO" ts ≡ Done (front ts, drop c.at ts)
    first_read =
        pick (next "INFO" ts) _ _ (first_number_lem ∙ eq-eqb _ _ h.token) ∙ ap (λ us. Done (front ts, us)) (sym (ap (λ n. drop n ts) h.next.at ∙ one ts))
      where
        one : (us : Tokens) → drop 1 us ≡ rest us
        one [] = refl
        one (u ∷ us) = refl

    module _ {s : Returned (Facts × Cursor)} (i : Informs ts w c (information_of (drop c.at ts)) s) where
      pub info-refused : {n p : ℕ} → s ≡ Err (refusal n p) → spec_of ts ≡ Refused n p
      info-refused m = spec_parts ts ∙ bind_to _ _ _ first_read ∙ bind_refused _ _ _ _ (was-refused (ap behind m) i.reads)

      module _ {f : Facts} {d : Cursor} (m : s ≡ Ok (f, d)) where
        info : Accepted ts w c d (λ x. []) (information_of (drop c.at ts))
        info = accepted (ap behind m) i.reads

        pub info-ready : Ready ts w d
        info-ready = info.took.ready

        out_none : d.out ≡ 0
        out_none = omega (arith, info.took.out, h.next.out)

        module _ {v : List ℕ} {q : Parse} (r : Reads ts w v d flat_sections (sections_of (drop d.at ts)) q) where
          pub all-kept : Kept w v 0
          all-kept = kept_fewer (omega arith) r.kept

          pub body_refused : {n p : ℕ} → q ≡ Err (refusal n p) → spec_of ts ≡ Refused n p
          body_refused o = spec_parts ts ∙ bind_to _ _ _ first_read ∙ bind_to _ _ _ info.read ∙ bind_refused _ _ _ _ (was-refused o r)

          module _ {e : Cursor} (o : q ≡ Ok e) where
            body : Accepted ts v d e flat_sections (sections_of (drop d.at ts))
            body = accepted o r

            pub end-ready : Ready ts v e
            end-ready = body.took.ready

            up-to-end : spec_of ts ≡ (expect_of End (drop e.at ts) >>= λ (t, us). Done (spec_with info.value body.value))
            up-to-end = spec_parts ts ∙ bind_to _ _ _ first_read ∙ bind_to _ _ _ info.read ∙ bind_to _ _ _ body.read

            pub not_end : (number_at v e ≡ class_number End → ⊥) → spec_of ts ≡ Refused 4 (place_at v e)
            not_end k =
                up-to-end ∙ bind_refused _ _ _ _ (leave (is_of End (front (drop e.at ts))) _ _ (class-elsewhere end-ready End refl k)) ∙ ap (Refused 4) (sym (ready-place end-ready))

            at-end : number_at v e ≡ class_number End → spec_of ts ≡ Done (spec_with info.value body.value)
            at-end k = up-to-end ∙ bind_to _ _ _ (pick (is_of End (front (drop e.at ts))) _ _ (class-here end-ready End refl k))

            written : outline (spec_with info.value body.value) ≡ flat_sections body.value
            written = sym (append_assoc (each flat_parameter body.value.0.0) (each flat_definition body.value.0.1) (each flat_subsection body.value.1))

            -- refused behind MAIN
            pub end_refused : {y : Parse} {n p : ℕ} → y ≡ ended v e → y ≡ Err (refusal n p) → spec_of ts ≡ Refused n p
            end_refused {y} {n} {p} x z = go (eqb (number_at v e) 0) refl
              where
                go : (b : Bool) → eqb (number_at v e) 0 ≡ b → spec_of ts ≡ Refused n p
                go true t =
                    let u : ◌≡◌ {A = Parse} (Err (refusal n p)) (Ok e) = sym z ∙ x ∙ pick (eqb (number_at v e) 0) _ _ t in
                    absurd (cc)
                go false t =
                    let u : ◌≡◌ {A = Parse} (Err (refusal n p)) (refused_at v e) = sym z ∙ x ∙ leave (eqb (number_at v e) 0) _ _ t in
                    not_end (eqb-false (number_at v e) 0 t) ∙ ap (λ (r : Refusal). Refused r.number r.place) (sym (same-refusal u))

            -- the text's end stands there
            pub end-met : {y : Parse} {g : Cursor} → y ≡ ended v e → y ≡ Ok g → (number_at v e ≡ class_number End) × (g ≡ e)
            end-met {y} {g} x z = go (eqb (number_at v e) 0) refl
              where
                go : (b : Bool) → eqb (number_at v e) 0 ≡ b → (number_at v e ≡ class_number End) × (g ≡ e)
                go true t =
                    let u : ◌≡◌ {A = Parse} (Ok g) (Ok e) = sym z ∙ x ∙ pick (eqb (number_at v e) 0) _ _ t in
                    (eqb-true (number_at v e) 0 t, cc)
                go false t =
                    let u : ◌≡◌ {A = Parse} (Ok g) (refused_at v e) = sym z ∙ x ∙ leave (eqb (number_at v e) 0) _ _ t in
                    absurd (cc)

            pub outlined : {g : Cursor} {a : Returned Outline} → (number_at v e ≡ class_number End) × (g ≡ e) → a ≡ Ok (record { entries = g.out; facts = f }) → Outlined ts w v a
            outlined {g} {a} k x =
                let size : e.out ≡ length (outline (spec_with info.value body.value)) = omega (arith, out_none, body.took.out, ap length written) in
                record {
                  kept = all-kept;
                  says =
                      subst (λ y. Answer ts v y a) (sym (at-end k.0))
                      (record {
                        accepted = x ∙ ap₂ made (ap (λ (d : Cursor). d.out) k.1 ∙ size) (i.facts f d info.value _ m info.read);
                        entries = subst (EntriesFrom v ts 0) (sym written) (subst (λ n. EntriesFrom v ts n (flat_sections body.value)) out_none body.took.entries);
                        few = omega (arith, size, end-ready.less, end-ready.fits.inside, end-ready.fits.few);
                      });
                }
              where
                made : ℕ → Facts → Returned Outline
                made n f = Ok (record { entries = n; facts = f })

-- a refusal
pub outlined_refused : {ts : Tokens} {w v : List ℕ} {a : Returned Outline} {n p : ℕ} → spec_of ts ≡ Refused n p → Kept w v 0 → a ≡ Err (refusal n p) → Outlined ts w v a
outlined_refused {ts} {v = v} {a} e k x = record { kept = k; says = subst (λ y. Answer ts v y a) (sym e) x }

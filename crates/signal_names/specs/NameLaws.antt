-- A name in the text, and the written name that is made of it.
use Rattle.std.specs.Prelude.{ℕ, suc, ◌+◌, ◌-◌, ◌<◌, ◌≤◌, ◌≡◌, refl, Bool, true, false, List, [], ◌∷◌, ◌++◌, eqb, length, drop, get_or}
use Rattle.std.proofs.Common.{ap, ◌∙◌, sym, length-append, length-drop, drop_of_length-le, drop-cons, add-one, arith, eq-eqb, ne_eqb}
use Rattle.std.proofs.lemmas.List.Edits.{sets}
use Rattle.language.specs.Limits.{max_name}
use Rattle.language.specs.Bytes.{is_name_byte}
use Rattle.language.specs.Tokens.{run}
use Rattle.language.specs.Meaning.{Atom}
use Rattle.language.specs.Numbered.{width_of, index_of, offset_of, name_at}
use Rattle.language.proofs.Laws.Basics.Tests.{split, pick, leave}
use Rattle.language.proofs.Laws.Grammar.PieceLaws.{run_fits}
use Rattle.basic.specs.Spelling.{digits_of, spelling, spelled}
use Rattle.signal_names.specs.Runs.{part_length, puts_after, puts_length}
use Rattle.signal_names.specs.Promise.{part, Puts}
use Rattle.signal_names.specs.Slots.{PutsName}

module _ (p : ℕ → Bool) (text : List ℕ) (i : ℕ) where
  pub run_on : i < length text → p (get_or text i 0) ≡ true → run p (drop i text) ≡ suc (run p (drop (i + 1) text))
  run_on h e = ap (run p) (drop-cons text i 0 h) ∙ pick (p (get_or text i 0)) _ _ e ∙ ap (λ (k : ℕ). suc (run p (drop k text))) (sym (add-one i))

  pub run-stop : i < length text → p (get_or text i 0) ≡ false → run p (drop i text) ≡ 0
  run-stop h e = ap (run p) (drop-cons text i 0 h) ∙ leave (p (get_or text i 0)) _ _ e

  pub run_end : length text ≤ i → run p (drop i text) ≡ 0
  run_end h = ap (run p) (drop_of_length-le text h)

-- the name of so many bytes at the offset o, at which an entry points
module _ (text : List ℕ) (e size o : ℕ) (at_offset : o ≡ offset_of e) (is : size ≡ run is_name_byte (drop o text)) where
  pub size-within : size ≤ length text - o
  size-within = omega (arith, run_fits is_name_byte (drop o text), length-drop o text)

  name-part : name_at text (offset_of e) ≡ part text o size
  name-part = ap (name_at text) (sym at_offset) ∙ ap (part text o) (sym is)

  name-size : length (name_at text (offset_of e)) ≡ size
  name-size = ap length name-part ∙ part_length text o size size-within

  single : width_of e ≡ 0 → spelled text e ≡ part text o size
  single h = ap spelling (pick (eqb (width_of e) 0) _ _ (eq-eqb (width_of e) 0 h)) ∙ name-part

  bit : (width_of e ≡ 0 → ⊥) → spelled text e ≡ part text o size ++ (64 ∷ digits_of (suc (index_of e)) (index_of e))
  bit h = ap spelling (leave (eqb (width_of e) 0) _ _ (ne_eqb (width_of e) 0 h)) ∙ ap (λ (x : List ℕ). x ++ (64 ∷ digits_of (suc (index_of e)) (index_of e))) name-part

  -- a name is written at least as long as it is
  long_name : size ≤ length (spelled text e)
  long_name = split (λ (a : Atom). size ≤ length (spelling a)) (eqb (width_of e) 0) (λ _. omega (arith, name-size)) (λ _. rw length-append (omega (arith, name-size)))

  module _ {names : List ℕ} {at : ℕ} where
    pub name-long : max_name < size → PutsName (spelled text e) names names at size
    name-long h = record { whole = λ l. absurd (omega arith); long = λ l. omega (arith, long_name); kept = refl }

    module _ {width : ℕ} (wide : width ≡ width_of e) {names1 : List ℕ} {m : ℕ} (p : Puts (part text o size) names names1 at m) where
      pub name-single : width ≡ 0 → size ≤ max_name → PutsName (spelled text e) names names1 at size
      name-single w h =
          let is = single (sym wide ∙ w) in
          record {
            whole = λ l. (sym (ap length is ∙ part_length text o size size-within), p.bytes ∙ ap (sets names at) (sym is));
            long = λ l. absurd (omega arith);
            kept = puts_length p;
          }

      pub name-bit : {names2 names3 : List ℕ} {n r index : ℕ} → (width ≡ 0 → ⊥) → index ≡ index_of e → Puts (64 ∷ []) names1 names2 m n
          → Puts (digits_of (suc index) index) names2 names3 n r → PutsName (spelled text e) names names3 at (r - at)
      name-bit {r = r} w i q d =
          let is = bit (λ z. w (wide ∙ z)) in
          let all = puts_after p (puts_after q (rw i at d)) in
          let same : r - at ≡ length (spelled text e) = omega (arith, all.next, ap length is) in
          record { whole = λ l. (same, all.bytes ∙ ap (sets names at) (sym is)); long = λ l. omega arith; kept = puts_length all }

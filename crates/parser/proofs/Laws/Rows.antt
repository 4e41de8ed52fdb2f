-- What was read and written from one cursor to another, put together: a part and the next, a token, an entry. An entry is written only after a token that has none.
use Rattle.std.specs.Prelude.{Ok, Err}
use Prim.Native.Nat.{ℕ, suc, ◌+◌, ◌-◌, ◌≤◌, ◌<◌}
use native.Mathlib.Omega.{arith}
use mathlib.Core.List.{List, [], ◌∷◌, ◌++◌}
use mathlib.Core.Option.{Option}
use mathlib.Core.Path.{◌≡◌, refl, sym, ap, ◌∙◌, subst}
use lib.ListN.{length, drop, length-append}
use Rattle.node.specs.declared.Refusal.{Refusal}
use Rattle.node.specs.Returned.{refusal}
use Rattle.node.proofs.ReturnedLaws.{same-refusal}
use Rattle.node.specs.Result.{Done, Refused, ◌>>=◌}
use Rattle.language.specs.Tokens.{Token}
use Rattle.language.specs.Grammar.{Tokens, Read}
use Rattle.language.specs.Limits.{max_tokens}
use Rattle.entries.specs.Kinds as Kind
use Rattle.entries.specs.Flat.{Entry, under}
use Rattle.entries.specs.Stored.{first_entry, entry_word, put_entry, Keeps, EntryAt, EntriesFrom}
use Rattle.entries.specs.StoredLaws.{entry-put, entries-kept, entries-append}
use Rattle.entries.specs.declared.Cursor.{Cursor}
use Rattle.entries.specs.Parse.{Parse}
use Rattle.entries.specs.Cursors.{Ready, Writes, next_of, emitted_of}
use Rattle.entries.specs.CursorLaws.{ready-next}
use Rattle.entries.specs.Reads.{Kept, Took, Outcome, Reads}
use Rattle.entries.specs.ReadsLaws.{kept_then, kept_put, ready-kept, ready_emitted, onward_then, onward-next}

-- what writing an entry asks for, and what it keeps
module _ {ts : Tokens} {w : List ℕ} {c : Cursor} (ready : Ready ts w c) where
  few_out : c.out < max_tokens
  few_out = omega (arith, ready.less, ready.fits.few, ready.fits.inside)

  pub writes : {k j n : ℕ} → k < Kind.limit → j < max_tokens → n < max_tokens → Writes w c k j n
  writes hk hj hn = record { room = ready.fits.room; few = few_out; kind_fits = hk; index-fits = hj; size_fits = hn }

  pub kept_emit : (out : ℕ) → out ≤ c.out → (k j n : ℕ) → Kept w (put_entry w c.out k j n) out
  kept_emit out l k j n = kept_put w out (first_entry + c.out) (entry_word k j n) (omega arith) (omega (arith, few_out))

module _ {ts : Tokens} where
  -- entries stay when others are written behind them
  took_kept : {v z : List ℕ} {s c : Cursor} {es : List Entry} → Took ts v s c es → Kept v z c.out → Took ts z s c es
  took_kept {v} {z} {s} {c} {es} t k =
      record {
        entries = entries-kept v z ts s.out es (λ j l r. k.words (first_entry + j) (omega (arith, t.out))) t.entries;
        out = t.out;
        ready = ready-kept k t.ready;
        onward = t.onward;
      }

  pub took_then : {v z : List ℕ} {s c d : Cursor} {es fs : List Entry} → Took ts v s c es → Kept v z c.out → Took ts z c d fs → Took ts z s d (es ++ fs)
  took_then {v} {z} {s} {c} {d} {es} {fs} t k u =
      let h = took_kept t k in
      record {
        entries = entries-append z ts s.out es fs h.entries (subst (λ i. EntriesFrom z ts i fs) t.out u.entries);
        out = omega (arith, t.out, u.out, length-append es fs);
        ready = u.ready;
        onward = onward_then t.onward u.onward;
      }

  -- a token that has no entry
  pub took_next : {w : List ℕ} {s c : Cursor} {es : List Entry} → Took ts w s c es → c.at < c.count → Took ts w s (next_of c) es
  took_next {c = c} t h = record { entries = t.entries; out = t.out; ready = ready-next t.ready h; onward = onward_then t.onward (onward-next c) }

  -- one entry more, for a token that has none yet
  module _ {w : List ℕ} {s c : Cursor} {es : List Entry} (k j n : ℕ) (t : Option Token) where
    pub took-emit : s.out < s.at → Took ts w s c es → c.out + 1 + s.at ≤ s.out + c.at → k < Kind.limit → j < max_tokens → n < max_tokens → Keeps ts j t →
        Took ts (put_entry w c.out k j n) s (emitted_of c) (es ++ (record { kind = k; token = t; size = n } ∷ []))
    took-emit l h room hk hj hn keeps =
        let ready = ready_emitted k j n h.ready (omega (arith, h.ready.less)) in
        let few : c.out < max_tokens = omega (arith, h.ready.less, h.ready.fits.few, h.ready.fits.inside) in
        let kept = kept_emit h.ready c.out (omega arith) k j n in
        let own : EntryAt (put_entry w c.out k j n) ts c.out (record { kind = k; token = t; size = n }) =
        entry-put w ts c.out k j n t h.ready.fits.room few hk hj hn keeps in
        record {
          entries = entries-append _ ts s.out es _ (took_kept h kept).entries (subst (λ i. EntryAt (put_entry w c.out k j n) ts i (record { kind = k; token = t; size = n })) h.out own, tt);
          out = omega (arith, h.out, length-append es (record { kind = k; token = t; size = n } ∷ []));
          ready = ready;
          onward = record { count = h.onward.count; end = h.onward.end; further = h.onward.further; slack = omega arith };
        }

  -- an entry behind those of its operands
  module _ {w : List ℕ} {s c : Cursor} {es : List Entry} (k j : ℕ) (less : s.out < s.at) (h : Took ts w s c es) (room : c.out + 1 + s.at ≤ s.out + c.at) (small : k < Kind.limit) (near : j < max_tokens) where
    pub under-writes : (s.out ≤ c.out) × Writes w c k j (c.out - s.out + 1)
    under-writes =
        (omega (arith, h.out), writes h.ready small near (omega (arith, h.out, h.ready.less, h.ready.fits.few, h.ready.fits.inside)))

    pub took-under : (t : Option Token) → Keeps ts j t → Took ts (put_entry w c.out k j (c.out - s.out + 1)) s (emitted_of c) (under k t es)
    took-under t keeps =
        let size : c.out - s.out + 1 ≡ suc (length es) = omega (arith, h.out) in
        subst (λ n. Took ts (put_entry w c.out k j (c.out - s.out + 1)) s (emitted_of c) (es ++ (record { kind = k; token = t; size = n } ∷ []))) size
        (took-emit k j (c.out - s.out + 1) t less h room small near under-writes.1.size_fits keeps)

  -- what has an entry has taken a token
  pub took_some : {w : List ℕ} {s c : Cursor} {e : Entry} {es : List Entry} → Took ts w s c (e ∷ es) → s.at < c.at
  took_some t = omega (arith, t.out, t.onward.slack)

  pub took_as : {w : List ℕ} {s c : Cursor} {es fs : List Entry} → es ≡ fs → Took ts w s c es → Took ts w s c fs
  took_as {w} {s} {c} e t = subst (Took ts w s c) e t

-- an accepted answer, and what it is of
pub record Accepted {A : Type 0} (ts : Tokens) (v : List ℕ) (s d : Cursor) (f : A → List Entry) (x : Read A) : Type 0 where
  pub value : A
  pub read : x ≡ Done (value, drop d.at ts)
  pub took : Took ts v s d (f value)

never : {d : Cursor} {n p : ℕ} → ◌≡◌ {A = Parse} (Ok d) (Err (refusal n p)) → ⊥
never e = let z : ◌≡◌ {A = ℕ} 0 1 = cc in omega arith

module _ {A : Type 0} {ts : Tokens} {w v : List ℕ} {s : Cursor} {f : A → List Entry} {x : Read A} where
  pub accepted : {q : Parse} {d : Cursor} → q ≡ Ok d → Reads ts w v s f x q → Accepted ts v s d f x
  accepted {q} {d} e g = go x refl g.says
    where
      go : (y : Read A) → x ≡ y → Outcome ts v s f y q → Accepted ts v s d f x
      go (Done (a, us)) m o =
          let same : o.cursor ≡ d = cc in
          let left : us ≡ drop d.at ts = o.left ∙ ap (λ (k : Cursor). drop k.at ts) same in
          record { value = a; read = m ∙ ap (λ vs. Done (a, vs)) left; took = subst (λ k. Took ts v s k (f a)) same o.took }
      go (Refused n p) m o = absurd (never (sym e ∙ o))

  pub was-refused : {q : Parse} {n p : ℕ} → q ≡ Err (refusal n p) → Reads ts w v s f x q → x ≡ Refused n p
  was-refused {q} {n} {p} e g = go x refl g.says
    where
      go : (y : Read A) → x ≡ y → Outcome ts v s f y q → x ≡ Refused n p
      go (Done (a, us)) m o = absurd (never (sym o.parsed ∙ e))
      go (Refused n' p') m o = m ∙ same (sym o ∙ e)
        where
          same : {i j k l : ℕ} → ◌≡◌ {A = Parse} (Err (refusal i j)) (Err (refusal k l)) → ◌≡◌ {A = Read A} (Refused i j) (Refused k l)
          same e = ap (λ (r : Refusal). Refused r.number r.place) (same-refusal e)

-- the answer of a function by what the grammar says
module _ {A : Type 0} {ts : Tokens} {w v : List ℕ} {s : Cursor} {f : A → List Entry} {x : Read A} where
  pub reads-done : {d : Cursor} (a : A) → x ≡ Done (a, drop d.at ts) → Kept w v s.out → Took ts v s d (f a) → Reads ts w v s f x (Ok d)
  reads-done {d} a e k t = subst (λ y. Reads ts w v s f y (Ok d)) (sym e) (record { kept = k; says = record { cursor = d; parsed = refl; left = refl; took = t } })

  pub reads-refused : {q : Parse} {n p : ℕ} → q ≡ Err (refusal n p) → x ≡ Refused n p → Kept w v s.out → Reads ts w v s f x q
  reads-refused {q} m e k = subst (λ y. Reads ts w v s f y q) (sym e) (record { kept = k; says = m })

  -- the last part's answer, refused or accepted
  pub reads-tail : {B : Type 0} {v' : List ℕ} {d : Cursor} {es : List Entry} {g : B → List Entry} {y : Read B} {q : Parse} (make : B → A) → x ≡ (y >>= λ (b, us). Done (make b, us)) →
      ((b : B) → f (make b) ≡ es ++ g b) → Kept w v' s.out → Took ts v' s d es → Reads ts v' v d g y q → Reads ts w v s f x q
  unfolding ◌>>=◌
  reads-tail {B} {v'} {d} {es} {g} {y} {q} make e flats k t h = subst (λ z. Reads ts w v s f z q) (sym e) (go y h.says)
    where
      kept : Kept w v s.out
      kept = kept_then (omega (arith, t.out)) k h.kept

      go : (y : Read B) → Outcome ts v d g y q → Reads ts w v s f (y >>= λ (b, us). Done (make b, us)) q
      go (Done (b, us)) o = record { kept = kept; says = record { cursor = o.cursor; parsed = o.parsed; left = o.left; took = took_as (sym (flats b)) (took_then t h.kept o.took) } }
      go (Refused n p) o = record { kept = kept; says = o }

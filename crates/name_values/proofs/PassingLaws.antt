-- A tree's entries passed from the first on: what is left is as told, and what was passed stands.
use Rattle.std.specs.Prelude.{ℕ, suc, ◌+◌, ◌-◌, false, List, [], ◌∷◌, ◌++◌, ◌≡◌, refl, length}
use Rattle.std.proofs.Common.{append_assoc, subst, arith, length-append}
use Rattle.std.proofs.Math.Option.{Option}
use Rattle.language.specs.Tokens.{Token, tokens}
use Rattle.language.specs.Tree.{Expr, Identifier, Spec}
use Rattle.language.proofs.Laws.Basics.Lists.{All, all_append}
use Rattle.entries.specs.Kinds as Kind
use Rattle.entries.specs.Flat.{Entry, under, leaf, flat, each, flat_identifier, outline}
use Rattle.entries.specs.Stored.{EntriesFrom, EndsAt}
use Rattle.entries.specs.StoredLaws.{entries-left, entries-right}
use Rattle.names.specs.Roles.{binds, ends}
use Rattle.names.specs.Resolved.{Stored, Resolved}
use Rattle.names.proofs.ResolvedLaws.{run-begins, resolved_expr, resolved_entry}
use Rattle.name_values.specs.Passing.{Left, Here, Plain}

ends_of : (w text : List ℕ) (start : ℕ) (es : List Entry) → EntriesFrom w (tokens text) start es → EndsAt w (tokens text) (start + length es - 1) es
ends_of w text start [] h = record { start = suc (start + 0 - 1); size = omega arith; entries = tt }
ends_of w text start (e ∷ es) h = record { start = start; size = omega arith; entries = h }

plain-words : (ws : List Token) → All Plain (each (leaf Kind.word) ws)
plain-words [] = tt
plain-words (v ∷ ws) = ((refl, refl), plain-words ws)

pub plain-identifiers : (is : List Identifier) → All Plain (each flat_identifier is)
plain-identifiers [] = tt
plain-identifiers (i ∷ is) = ((refl, refl), all_append Plain (each (leaf Kind.word) i.words) (each flat_identifier is) (plain-words i.words) (plain-identifiers is))

pub left-same : {x : Spec} {text w : List ℕ} {start : ℕ} {es fs : List Entry} → es ≡ fs → Left x text w start es → Left x text w start fs
left-same {x} {text} {w} {start} e h = subst (Left x text w start) e h

pub left_at : {x : Spec} {text w : List ℕ} {start at : ℕ} {es : List Entry} → start ≡ at → Left x text w start es → Left x text w at es
left_at {x} {text} {w} {es = es} e h = subst (λ m. Left x text w m es) e h

module _ {x : Spec} {text w refs found : List ℕ} {count entries n : ℕ} (s : Stored text w count entries x) (r : Resolved x refs found n) where
  pub left-all : Left x text w 0 (outline x)
  left-all = record { run = run-begins x; stored = s.stored }

  -- one entry, which neither opens nor ends a big operator
  pub pass-entry : (m : Entry) → binds m.kind ≡ false → ends m.kind ≡ false → (start : ℕ) (es : List Entry) → Left x text w start (m ∷ es) → Left x text w (suc start) es
  pass-entry m a b start es h = record { run = (resolved_entry r m a b start [] es h.run).0; stored = h.stored.1 }

  -- entries of that kind
  pub pass-plain : (ms : List Entry) → All Plain ms → (start : ℕ) (es : List Entry) → Left x text w start (ms ++ es) → Left x text w (start + length ms) es
  pass-plain [] a start es h = left_at (omega arith) h
  pass-plain (m ∷ ms) a start es h = left_at (omega arith) (pass-plain ms a.1 (suc start) es (pass-entry m a.0.0 a.0.1 start (ms ++ es) h))

  pass-expr : (e : Expr) (start : ℕ) (es : List Entry) → Left x text w start (flat e ++ es) → Here x text w refs (start + length (flat e) - 1) e × Left x text w (start + length (flat e)) es
  pass-expr e start es h =
      let g = resolved_expr r e start [] es (record { here = h.run.here; opened = h.run.opened }) in (
        record { at = ends_of w text start (flat e) (entries-left w (tokens text) start (flat e) es h.stored); refers = g.refers },
        record { run = g.after; stored = entries-right w (tokens text) start (flat e) es h.stored },
      )

  -- a line: its expression, then its own entry
  pub pass-line : (k : ℕ) (t : Option Token) (e : Expr) → binds k ≡ false → ends k ≡ false → (start : ℕ) (es : List Entry) → Left x text w start (under k t (flat e) ++ es)
      → Here x text w refs (start + length (flat e) - 1) e × Left x text w (start + length (under k t (flat e))) es
  pass-line k t e a b start es h =
      let own : Entry = record { kind = k; token = t; size = suc (length (flat e)) } in
      let p = pass-expr e start (own ∷ es) (left-same (append_assoc (flat e) (own ∷ []) es) h) in
      let l = length-append (flat e) (own ∷ []) in
      let i : suc (start + length (flat e)) ≡ start + length (under k t (flat e)) = omega arith in
      (p.0, left_at i (pass-entry own a b (start + length (flat e)) es p.1))

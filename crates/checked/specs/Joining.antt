-- From the outline and refusals 5 to 10 to the answer on the whole text.
use Rattle.std.specs.Prelude.{ℕ, ◌≤◌, List, ◌≡◌, Ok, Err, length}
use Rattle.std.proofs.Common.{sym, ap, ◌∙◌, subst}
use Rattle.node.specs.Result.{Done, Refused, ◌>>=◌}
use Rattle.node.specs.declared.Refusal.{Refusal}
use Rattle.node.specs.Returned.{Returned}
use Rattle.node.proofs.ResultLaws.{bind_again}
use Rattle.language.specs.Limits.{work_bytes}
use Rattle.language.specs.Tokens.{tokens}
use Rattle.language.specs.Tree.{Spec}
use Rattle.language.specs.Sections.{spec_of}
use Rattle.language.specs.Parsing.{well_formed, parsed}
use Rattle.lexer.specs.Lexing.{lexing}
use Rattle.lexer.specs.LexingLaws.{parsed-lexed}
use Rattle.parser.specs.declared.Facts.{Facts}
use Rattle.outline.specs.declared.TextOutline.{TextOutline}
use Rattle.outline.specs.Outlining.{Outlined, Says as Draws, Outlining}
use Rattle.names.specs.Resolved.{Stored, TreeStored}
use Rattle.checked.specs.declared.Checked.{Checked}
use Rattle.checked.specs.Checking.{Finds, Forms, Says, Checks}
use Rattle.checked.specs.StoredLaws.{outline_stored}

parsed-formed : (text : List ℕ) → parsed text ≡ (lexing text >>= spec_of) >>= well_formed
parsed-formed text = sym (bind_again (lexing text) spec_of well_formed ∙ parsed-lexed text)

not_outlined : (text : List ℕ) {n p : ℕ} → lexing text >>= spec_of ≡ Refused n p → parsed text ≡ Refused n p
unfolding ◌>>=◌
not_outlined text e = parsed-formed text ∙ ap (λ r. r >>= well_formed) e

outlined : (text : List ℕ) {x : Spec} → lexing text ≡ Done (tokens text) → spec_of (tokens text) ≡ Done x → parsed text ≡ well_formed x
unfolding ◌>>=◌
outlined text e d = parsed-formed text ∙ ap (λ r. (r >>= spec_of) >>= well_formed) e ∙ ap (λ r. r >>= well_formed) d

-- the answer on a text with n tokens and m entries
abbrev answer : ℕ → ℕ → Facts → Returned ℕ → Returned Checked
answer n m f (Ok k) = Ok (record { counts = record { tokens = n; entries = m; names = k }; facts = f })
answer n m f (Err d) = Err d

module _ {text w v : List ℕ} {t : Returned TextOutline} (o : Outlining text w v t) where
  -- a refusal of the outline, handed up
  pub handed_up : {d : Refusal} (refs found : List ℕ) → t ≡ Err d → Checks text w v refs found (Err d)
  handed_up refs found e = record { says = not_outlined text (subst (Draws text v) e o.says); size = o.size; beyond = o.beyond }

  module _ {d : TextOutline} (e : t ≡ Ok d) (room : work_bytes ≤ length w) where
    abbrev n : ℕ
    n = d.tokens

    abbrev m : ℕ
    m = d.entries

    abbrev f : Facts
    f = d.facts

    drawn : Outlined text v n m f
    drawn = subst (Draws text v) e o.says

    stored : Stored text v n m drawn.tree
    stored = outline_stored drawn (rw o.size room)

    pub tree : TreeStored text v n m
    tree = record { tree = drawn.tree; stored = stored }

    says : (refs found : List ℕ) (r : Returned ℕ) → Finds drawn.tree refs found r → Says text v refs found (answer n m f r)
    says refs found (Ok k) h = record { tree = drawn.tree; read = outlined text drawn.lexed.read drawn.read ∙ h.0; stored = stored; resolved = h.1; facts = drawn.facts }
    says refs found (Err d) h = outlined text drawn.lexed.read drawn.read ∙ h

    module _ {r : Returned ℕ} {refs found : List ℕ} (h : (x : Spec) → Stored text v n m x → Forms x refs found r) where
      answered : {a : Returned Checked} → a ≡ answer n m f r → Checks text w v refs found a
      answered d = record { says = subst (Says text v refs found) (sym d) (says refs found r (h drawn.tree stored).says); size = o.size; beyond = o.beyond }

      pub checks : {k : ℕ} → r ≡ Ok k → Checks text w v refs found (Ok (record { counts = record { tokens = n; entries = m; names = k }; facts = f }))
      checks g = answered (sym (ap (answer n m f) g))

      -- a refusal of the stages after the outline, handed up
      pub not-formed : {d : Refusal} → r ≡ Err d → Checks text w v refs found (Err d)
      not-formed g = answered (sym (ap (answer n m f) g))

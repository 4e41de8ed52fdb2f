-- GLOBAL: each way through its reader.
use Rattle.std.specs.Prelude.{Ok, Err}
use Prim.Native.Nat.{ℕ}
use native.Mathlib.Omega.{arith}
use mathlib.Core.List.{List, [], append-nil}
use mathlib.Core.Path.{◌≡◌, refl, sym, ap, ◌∙◌, subst}
use lib.ListN.{drop}
use Rattle.node.specs.Returned.{refusal}
use Rattle.node.specs.Result.{Done, ◌>>=◌}
use Rattle.node.proofs.ResultLaws.{bind_refused, bind_to}
use Rattle.language.specs.Grammar.{Tokens, Read, next, expect}
use Rattle.language.specs.Sections.{parameter_of, definition_of, optional}
use Rattle.language.proofs.Laws.Basics.Tests.{pick, leave}
use Rattle.lexer.specs.Numbers.{fixed}
use Rattle.entries.specs.Flat.{each, flat_parameter, flat_definition}
use Rattle.entries.specs.declared.Cursor.{Cursor}
use Rattle.entries.specs.Parse.{Parse}
use Rattle.entries.specs.Cursors.{Ready, number_at, expected}
use Rattle.entries.specs.Reads.{Kept, Took, Reads}
use Rattle.entries.specs.ReadsLaws.{kept_same, kept_then}
use Rattle.entries.specs.TokenReads.{took_none, expect-reads}
use Rattle.parser.specs.Parts.{Globals, globals_of, flat_globals}
use Rattle.parser.proofs.Laws.Rows.{Accepted, accepted, was-refused, took_then, reads-done, reads-refused, reads-tail}
use Rattle.parser.proofs.Laws.Passing.{Next, Passed, stopped, here, elsewhere, inside, past-ready, rest-past, took_past, took_passed, expect-passed, expect-not}

module _ {ts : Tokens} {w : List ℕ} {c : Cursor} (ready : Ready ts w c) where
  abbrev answer : Read Globals
  answer = globals_of (drop c.at ts)

  pub global_missing : (number_at w c ≡ fixed "GLOBAL" → ⊥) → Reads ts w w c flat_globals answer (Ok c)
  global_missing k = reads-done ([], []) (leave (next "GLOBAL" (drop c.at ts)) _ _ (elsewhere ready "GLOBAL" refl k)) (kept_same w c.out) (took_none ready)

  module _ (k : number_at w c ≡ fixed "GLOBAL") {b : Cursor} (n : Next c b) where
    pub global-ready : Ready ts w b
    global-ready = past-ready ready n (inside ready k (omega arith))

    -- what is read after GLOBAL
    after : Tokens → Read Globals
    after us = expect "{" us >>= λ (o, us). optional "PARAMETERS" parameter_of us >>= λ (ps, us). optional "DEFINITIONS" definition_of us >>= λ (ds, us). expect "}" us >>= λ (o, us). Done ((ps, ds), us)

    opened : answer ≡ after (drop b.at ts)
    unfolding after
    opened = pick (next "GLOBAL" (drop c.at ts)) _ _ (here ready "GLOBAL" refl k) ∙ ap after (rest-past ts n)

    pub global-open : {y : Parse} {i p : ℕ} → y ≡ expected w b (fixed "{") → y ≡ Err (refusal i p) → Reads ts w w c flat_globals answer y
    unfolding after
    global-open x m = reads-refused m (opened ∙ bind_refused _ _ _ _ (expect-not global-ready "{" refl (stopped w b (fixed "{") x m))) (kept_same w c.out)

    module _ {d : Cursor} (h : Passed w b d (fixed "{")) {v : List ℕ} {q : Parse} (r : Reads ts w v d (each flat_parameter) (optional "PARAMETERS" parameter_of (drop d.at ts)) q) where
      to-parameters : Took ts w c d []
      to-parameters = took_passed (took_past (took_none ready) n (inside ready k (omega arith))) h (omega arith)

      parameters-kept : Kept w v c.out
      parameters-kept = subst (Kept w v) (h.next.out ∙ n.out) r.kept

      pub global-parameters : {i p : ℕ} → q ≡ Err (refusal i p) → Reads ts w v c flat_globals answer q
      unfolding after
      global-parameters m = reads-refused m (opened ∙ bind_to _ _ _ (expect-passed global-ready "{" refl h) ∙ bind_refused _ _ _ _ (was-refused m r)) parameters-kept

      module _ {e : Cursor} (m : q ≡ Ok e) {z : List ℕ} {q' : Parse} (r' : Reads ts v z e (each flat_definition) (optional "DEFINITIONS" definition_of (drop e.at ts)) q') where
        parameters : Accepted ts v d e (each flat_parameter) (optional "PARAMETERS" parameter_of (drop d.at ts))
        parameters = accepted m r

        parameters-took : Took ts v c e (each flat_parameter parameters.value)
        parameters-took = took_then to-parameters r.kept parameters.took

        definitions-kept : Kept w z c.out
        definitions-kept = kept_then (omega (arith, parameters-took.out)) parameters-kept r'.kept

        pub global-definitions : {i p : ℕ} → q' ≡ Err (refusal i p) → Reads ts w z c flat_globals answer q'
        unfolding after
        global-definitions m' =
            reads-refused m' (opened ∙ bind_to _ _ _ (expect-passed global-ready "{" refl h) ∙ bind_to _ _ _ parameters.read ∙ bind_refused _ _ _ _ (was-refused m' r')) definitions-kept

        pub global-tail : {f : Cursor} {y : Parse} → q' ≡ Ok f → y ≡ expected z f (fixed "}") → Reads ts w z c flat_globals answer y
        unfolding after
        global-tail {f} m' x =
            let a = accepted m' r' in
            subst (Reads ts w z c flat_globals answer) (sym x)
            (reads-tail (λ t. (parameters.value, a.value))
            (opened ∙ bind_to _ _ _ (expect-passed global-ready "{" refl h) ∙ bind_to _ _ _ parameters.read ∙ bind_to _ _ _ a.read)
            (λ t. sym (append-nil _)) definitions-kept (took_then parameters-took r'.kept a.took) (expect-reads a.took.ready "}" refl))

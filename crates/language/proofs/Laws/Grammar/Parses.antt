-- What refusals 1 to 10 let pass: a text of the grammar whose tree none of 5 to 10 finds a place in.
use Rattle.std.specs.Prelude.{ℕ, ◌≤◌, ◌≡◌, List, leb, length}
use Rattle.std.proofs.Common.{ap, ◌∙◌, subst, leb-true}
use Rattle.std.proofs.Math.Option.{none}
use Rattle.node.specs.Result.{Done}
use Rattle.node.proofs.ResultLaws.{bind_done, guard-done}
use Rattle.language.specs.Limits.{max_bytes}
use Rattle.language.specs.Tokens.{tokens}
use Rattle.language.specs.Tree.{Spec}
use Rattle.language.specs.Sections.{spec_of}
use Rattle.language.specs.Places.{too_deep}
use Rattle.language.specs.Names.{not_visible, declared_again, too_many}
use Rattle.language.specs.Types.{wrong_type}
use Rattle.language.specs.Words.{wrong_words}
use Rattle.language.specs.Parsing.{no_token, too_many_tokens, well_formed, parsed}
use Rattle.language.specs.Braces.{ProperSpec}
use Rattle.language.proofs.Laws.Basics.NoPlace.{refuse_at-done}
use Rattle.language.proofs.Laws.Basics.Results.{value_of}
use Rattle.language.proofs.Laws.Grammar.BracesReads.{spec_proper}

-- a tree that refusals 5 to 10 let pass
pub record WellFormed (x : Spec) : Type 0 where
  pub shallow : too_deep x ≡ none
  pub visible : not_visible x ≡ none
  pub distinct : declared_again x ≡ none
  pub few : too_many x ≡ none
  pub typed : wrong_type x ≡ none
  pub words : wrong_words x ≡ none

pub well_formed_lem : (x : Spec) {y : Spec} → well_formed x ≡ Done y → (x ≡ y) × WellFormed x
well_formed_lem x e =
    let a = refuse_at-done 5 (too_deep x) _ e in
    let b = refuse_at-done 6 (not_visible x) _ a.1 in
    let c = refuse_at-done 7 (declared_again x) _ b.1 in
    let d = refuse_at-done 8 (too_many x) _ c.1 in
    let f = refuse_at-done 9 (wrong_type x) _ d.1 in
    let g = refuse_at-done 10 (wrong_words x) _ f.1 in
    (cc, record { shallow = a.0; visible = b.0; distinct = c.0; few = d.0; typed = f.0; words = g.0 })

-- a text that refusals 1 to 10 let pass
pub record Parses (text : List ℕ) (x : Spec) : Type 0 where
  pub short : length text ≤ max_bytes
  pub lexed : no_token (tokens text) ≡ none
  pub counted : too_many_tokens (tokens text) ≡ none
  pub read : spec_of (tokens text) ≡ Done x
  pub formed : WellFormed x

pub parses : {text : List ℕ} {x : Spec} → parsed text ≡ Done x → Parses text x
unfolding parsed
parses {text} {x} e =
    let a = guard-done (leb (length text) max_bytes) 1 max_bytes _ e in
    let b = refuse_at-done 2 (no_token (tokens text)) _ a.1 in
    let c = refuse_at-done 3 (too_many_tokens (tokens text)) _ b.1 in
    let d = bind_done (spec_of (tokens text)) well_formed c.1 in
    let f = well_formed_lem d.0 d.2 in
    record {
      short = leb-true (length text) max_bytes a.0;
      lexed = b.0;
      counted = c.0;
      read = d.1 ∙ ap Done f.0;
      formed = subst WellFormed f.0 f.1;
    }

-- its tree has the elements of sets in braces only
pub parsed-proper : (text : List ℕ) {x : Spec} → parsed text ≡ Done x → ProperSpec x
parsed-proper text e = value_of (parses e).read (spec_proper (tokens text))
